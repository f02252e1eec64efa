-- What the words of a row say, one after the other.
use Prim.Native.Nat.{ℕ, zero, suc, ◌+◌, ◌-◌, ◌*◌, ◌%◌, ◌^◌, ◌≤◌, ◌<◌}
use mathlib.Core.Path.{◌≡◌, refl, sym, ap, ◌∙◌}
use mathlib.Core.Logic.{◌≢◌, ◌⊎◌, ⊎_elim}
use mathlib.Core.Bool.{Bool, true, false, cond}
use mathlib.Core.List.{List, [], ◌∷◌, ◌++◌}
use native.Mathlib.Numerals.{add-one, sub-one}
use native.Mathlib.Nat.{mul_comm, mul-le-mul_left}
use native.Mathlib.Decide.{dec_lt}
use native.Mathlib.Omega.{arith}
use lib.ListN.{length, length-append, get_or, set, take, drop, length-set}
use lib.Seq.{drop-cons, drop-length}
use Rattle.std.specs.Prelude.{Result, Ok, Err}
use borrow.Author.Tests.{eqb-true, eq-eqb, ne_eqb}
use lib.Dec.{eqb}
use Rattle.laws.specs.Lists.{part, all_zero}
use Rattle.laws.specs.ListLaws.{drop_part, take_part, set_first, set_later}
use Rattle.path.specs.Geometry.{Granule, entries, size_at, physical}
use Rattle.path.specs.Areas.{Area}
use Rattle.path.specs.Laws.{level_some}
use Rattle.entry.specs.Words.{entry_at, attr_word, type_at, frame_word}
use Rattle.entry.proofs.Laws.{entry_zero, and-true}
use Rattle.entry.specs.declared.Entry.{Entry}
use Rattle.entry.specs.declared.Entry.TheVariants.{Empty, Table, Frame, Damaged}
use Rattle.model.specs.declared.Refusal.{Refusal}
use Rattle.model.specs.declared.Refusal.TheVariants.{Overlap, Damage}
use Rattle.model.specs.Walk.{slot}
use Rattle.model.specs.Ranges.{is_damaged, is_taken}
use Rattle.rangemaps.specs.Rows.{any_says, met_in, begun_at, filled}

module _ (G : Granule) (area : Area) (h : ℕ) where
  -- no word is in use
  says_none : (such : Entry → Bool) → such Empty ≡ false → (ws : List ℕ) → all_zero ws ≡ true → any_says such G area h ws ≡ false
  unfolding any_says all_zero
  says_none such f [] e = refl
  says_none such f (w ∷ ws) e =
      let (a, b) = and-true (eqb w 0) (all_zero ws) e in
      rw (eqb-true w 0 a, entry_zero G area h, f) (says_none such f ws b)

  pub met_none : (ws : List ℕ) → all_zero ws ≡ true → Ok 0 ≡ met_in G area h (Ok 0) ws
  unfolding met_in
  met_none ws e = sym (rw (says_none is_damaged refl ws e, says_none is_taken refl ws e))

  -- what was met, at the end,
  pub met_end : (met : Result ℕ Refusal) (ws : List ℕ) → met_in G area h met (drop (length ws) ws) ≡ met
  unfolding met_in any_says
  met_end met ws = rw (drop-length ws)

  -- and before it by the next word's entry
  abbrev by_next : Entry → Result ℕ Refusal → List ℕ → Result ℕ Refusal
  by_next Damaged met ws = Err Damage
  by_next Empty met ws = met_in G area h met ws
  by_next (Table c) met ws = met_in G area h (Err Overlap) ws
  by_next (Frame b k) met ws = met_in G area h (Err Overlap) ws

  met_cons : (met : Result ℕ Refusal) (w : ℕ) (ws : List ℕ) (e : Entry) → e ≡ entry_at G area h w → met_in G area h met (w ∷ ws) ≡ by_next e met ws
  unfolding met_in any_says
  met_cons met w ws e q = at e q
    where
      same : (x y : Bool) → ◌≡◌ {A = Result ℕ Refusal} (cond x (Err Damage) (cond y (Err Overlap) (Err Overlap))) (cond x (Err Damage) (Err Overlap))
      same true y = refl
      same false true = refl
      same false false = refl

      at : (e : Entry) → e ≡ entry_at G area h w → met_in G area h met (w ∷ ws) ≡ by_next e met ws
      at Damaged q = rw (sym q) refl
      at Empty q = rw (sym q) refl
      at (Table c) q = rw (sym q) (sym (same (any_says is_damaged G area h ws) (any_says is_taken G area h ws)))
      at (Frame b k) q = rw (sym q) (sym (same (any_says is_damaged G area h ws) (any_says is_taken G area h ws)))

  pub met_next : (met : Result ℕ Refusal) (ws : List ℕ) (i : ℕ) → i < length ws → {e : Entry} → e ≡ entry_at G area h (get_or ws i 0)
      → met_in G area h met (drop i ws) ≡ by_next e met (drop (i + 1) ws)
  met_next met ws i l {e} q =
      ap (met_in G area h met) (drop-cons ws i 0 l ∙ ap (λ (j : ℕ). get_or ws i 0 ∷ drop j ws) (sym (add-one i)))
      ∙ met_cons met (get_or ws i 0) (drop (i + 1) ws) e q

  pub met_used : (met : Result ℕ Refusal) (ws : List ℕ) (i : ℕ) → i < length ws → {e : Entry} → e ≡ entry_at G area h (get_or ws i 0)
      → ((c : ℕ) × (e ≡ Table c)) ⊎ ((b : ℕ) × (k : ℕ) × (e ≡ Frame b k)) → met_in G area h met (drop i ws) ≡ met_in G area h (Err Overlap) (drop (i + 1) ws)
  met_used met ws i l q u = ⊎_elim (λ t. let (c, z) = t in met_next met ws i l (sym z ∙ q)) (λ f. let (b, k, z) = f in met_next met ws i l (sym z ∙ q)) u

pub filled_length : (ws : List ℕ) (place first size n : ℕ) → length (filled ws place first size n) ≡ length ws
unfolding filled
filled_length ws place first size zero = refl
filled_length ws place first size (suc n) = length-set (filled ws place first size n) (place + n) (first + size * n) ∙ filled_length ws place first size n

pub filled_none : (ws : List ℕ) (place first size : ℕ) → filled ws place first size 0 ≡ ws
unfolding filled
filled_none ws place first size = refl

pub filled_more : (ws : List ℕ) (place first size n : ℕ) → set (filled ws place first size n) (place + n) (first + size * n) ≡ filled ws place first size (n + 1)
unfolding filled
filled_more ws place first size n = rw (add-one n)

-- what `fill_run` needs
pub ruleset fills = (filled_length, filled_none, filled_more, mul-le-mul_left)

begun_suc : (G : Granule) (a h n : ℕ) → begun_at G a h (suc n) ≡ cond (eqb (a % size_at G (h + suc n)) 0) (suc n) (begun_at G a h n)
unfolding begun_at
begun_suc G a h n = refl

pub begun_none : (G : Granule) (a h n : ℕ) → n ≡ 0 → begun_at G a h n ≡ 0
unfolding begun_at
begun_none G a h n e = rw e

-- the regions that begin at an address, from the largest down
module _ (G : Granule) (a h n : ℕ) (l : 0 < n) where
  pub begun_here : a % size_at G (h + n) ≡ 0 → begun_at G a h n ≡ n
  begun_here e = go n l e
    where
      go : (n : ℕ) → 0 < n → a % size_at G (h + n) ≡ 0 → begun_at G a h n ≡ n
      go zero l e = absurd (omega arith)
      go (suc n) l e = begun_suc G a h n ∙ rw (eq-eqb _ _ e)

  pub begun_below : a % size_at G (h + n) ≢ 0 → begun_at G a h n ≡ begun_at G a h (n - 1)
  begun_below e = go n l e
    where
      go : (n : ℕ) → 0 < n → a % size_at G (h + n) ≢ 0 → begun_at G a h n ≡ begun_at G a h (n - 1)
      go zero l e = absurd (omega arith)
      go (suc n) l e = begun_suc G a h n ∙ rw (ne_eqb _ _ e) (ap (begun_at G a h) (sym (sub-one (suc n))))

-- what `begun` needs
pub ruleset begun_laws = (begun_none, begun_here, begun_below, level_some)

-- words of one of two runs put together
pub filled_left : (a b : List ℕ) (place first size n : ℕ) → place + n ≤ length a → filled (a ++ b) place first size n ≡ filled a place first size n ++ b
unfolding filled
filled_left a b place first size zero l = refl
filled_left a b place first size (suc n) l =
    ap (λ (x : List ℕ). set x (place + n) (first + size * n)) (filled_left a b place first size n (omega arith))
    ∙ set_first (filled a place first size n) b (place + n) (first + size * n) (omega (arith, filled_length a place first size n))

pub filled_right : (a b : List ℕ) (place first size n : ℕ) → length a ≤ place → filled (a ++ b) place first size n ≡ a ++ filled b (place - length a) first size n
unfolding filled
filled_right a b place first size zero l = refl
filled_right a b place first size (suc n) l =
    let e : place + n - length a ≡ place - length a + n = omega arith in
    ap (λ (x : List ℕ). set x (place + n) (first + size * n)) (filled_right a b place first size n l)
    ∙ set_later a (filled b (place - length a) first size n) (place + n) (first + size * n) (omega arith)
    ∙ ap (λ (i : ℕ). a ++ set (filled b (place - length a) first size n) i (first + size * n)) e

-- what `fill` needs
pub ruleset two_runs = (filled_left, filled_right, length-append)

-- the words of a row, by the part of their table
pub row_part : (G : Granule) (ws : List ℕ) (t i n : ℕ) → i + n ≤ entries G → part ws (slot G t i) n ≡ take n (drop i (part ws (slot G t 0) (entries G)))
row_part G ws t i n l =
    let e : slot G t i ≡ slot G t 0 + i = omega arith in
    ap (λ (x : ℕ). part ws x n) e
    ∙ sym (ap (take n) (drop_part ws (slot G t 0) (entries G) i) ∙ take_part ws (slot G t 0 + i) (entries G - i) n (omega arith))

-- a place of n tables is in one of them
pub table_of : (K t i n : ℕ) → K * t + i < K * n → t < n
table_of K t i n l = go (dec_lt t n)
  where
    go : Dec (t < n) → t < n
    go (yes m) = m
    go (no m) = absurd (omega (arith, mul-le-mul_left {m = n} {n = t} K (omega arith)))

-- the words of a row fit in 64 bits
pub row_word_fits : (y h k n s : ℕ) {w r : ℕ} → y + n * s ≤ physical → w ≡ frame_word y h k → r ≡ s → w + r * n ≤ 2 ^ 63
unfolding frame_word type_at
row_word_fits y h k n s {w} {r} l e q = go (eqb h 0) e
  where
    product : r * n ≡ n * s
    product = ap (λ (t : ℕ). t * n) q ∙ mul_comm s n

    go : (b : Bool) → w ≡ y + cond b 3 1 + attr_word k → w + r * n ≤ 2 ^ 63
    go true e = omega (arith, product)
    go false e = omega (arith, product)
