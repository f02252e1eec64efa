-- Laws of the words in use: how many a table has, what an unmap does to that, and how many tables come free by these counts.
use Prim.Native.Nat.{ℕ, zero, suc, ◌+◌, ◌-◌, ◌*◌, ◌≤◌, ◌<◌}
use Rattle.std.specs.Prelude.{◌≡◌, ◌≢◌, Bool, ◌&&◌, ◌||◌, ltb, length}
use Rattle.std.proofs.Math.Path.{refl, ap, sym, subst}
use Rattle.std.proofs.Common.{◌∙◌, length-set, get_or-set_same, get_or-set_other, ext_get_or}
use Rattle.std.proofs.Math.Bool.{true, false, cond, not}
use mathlib.Core.List.{List, [], ◌∷◌}
use Rattle.std.proofs.Math.Numerals.{add-one, sub-one}
use native.Mathlib.Omega.{arith}
use Rattle.std.proofs.Math.Decide.{ℕ_discrete}
use Rattle.std.proofs.Math.Dec.{eqb}
use Rattle.std.proofs.Math.ListN.{get_or, set}
use borrow.Author.Tests.{lt-ltb, le-ltb, ltb-false, eq-eqb, ne_eqb}
use Rattle.laws.specs.Lists.{part, all_zero}
use Rattle.laws.specs.ListLaws.{get_d_part, length_part}
use Rattle.path.specs.Geometry.{Granule, entries}
use Rattle.path.specs.Laws.{table_ends}
use Rattle.model.specs.Walk.{slot, at_height}
use Rattle.model.specs.Writes.{only_entry, freed}
use Rattle.model.specs.Sound.{word_at}
use Rattle.sweeps.specs.Parts.{in_use, used_in, Lowered, lowered, lower_from}

-- ---- numbers in use

-- one that goes
pub use_less : (l : List ℕ) (i : ℕ) → i < length l → get_or l i 0 ≢ 0 → in_use l ≡ suc (in_use (set l i 0))
unfolding in_use
use_less [] i m n = absurd (omega arith)
use_less (x ∷ l) zero m n = rw (ne_eqb x 0 n) (omega arith)
use_less (x ∷ l) (suc i) m n = omega (arith, use_less l i (omega arith) n)

none_used : (l : List ℕ) → all_zero l ≡ eqb (in_use l) 0
unfolding in_use all_zero
none_used [] = refl
none_used (x ∷ l) = go (ℕ_discrete x 0) (none_used l)
  where
    go : Dec (x ≡ 0) → all_zero l ≡ eqb (in_use l) 0 → (eqb x 0 && all_zero l) ≡ eqb (cond (eqb x 0) 0 1 + in_use l) 0
    go (yes z) e = let s : 0 + in_use l ≡ in_use l = omega arith in rw (eq-eqb x 0 z, s) e
    go (no n) e = rw (ne_eqb x 0 n) (sym (ne_eqb (1 + in_use l) 0 (λ z. omega arith)))

-- ---- a table

module _ (G : Granule) (ws : List ℕ) (n : ℕ) (long : length ws ≡ entries G * n) where
  abbrev own : ℕ → List ℕ
  own t = part ws (slot G t 0) (entries G)

  own_long : (t : ℕ) → t < n → length (own t) ≡ entries G
  own_long t l = length_part ws (slot G t 0) (entries G) (omega (arith, table_ends (entries G) l))

  own_at : (t i : ℕ) → i < entries G → get_or (own t) i 0 ≡ word_at G ws t i
  own_at t i l = get_d_part ws (slot G t 0) (entries G) i l ∙ ap (λ (z : ℕ). get_or ws z 0) (omega arith)

  -- a table whose word i is in use has another one exactly where it has more than one
  pub only_used : (t i : ℕ) → t < n → i < entries G → word_at G ws t i ≢ 0 → only_entry G ws t i ≡ not (ltb 1 (used_in G ws t))
  unfolding only_entry
  only_used t i l m e =
      let s : used_in G ws t ≡ suc (in_use (set (own t) i 0)) = use_less (own t) i (omega (arith, own_long t l)) (λ z. e (sym (own_at t i m) ∙ z)) in
      none_used (set (own t) i 0) ∙ go (in_use (set (own t) i 0)) ∙ ap (λ (u : ℕ). not (ltb 1 u)) (sym s)
    where
      go : (u : ℕ) → eqb u 0 ≡ not (ltb 1 (suc u))
      go zero = eq-eqb 0 0 refl ∙ sym (ap not (le-ltb 1 (suc zero) (omega arith)))
      go (suc u) = ne_eqb (suc u) 0 (λ z. omega arith) ∙ sym (ap not (lt-ltb 1 (suc (suc u)) (omega arith)))

  pub some_used : (t i : ℕ) → t < n → i < entries G → word_at G ws t i ≢ 0 → 0 < used_in G ws t
  some_used t i l m e = omega (arith, use_less (own t) i (omega (arith, own_long t l)) (λ z. e (sym (own_at t i m) ∙ z)))

  -- the same words of a table, or all but one that goes
  module _ (new : List ℕ) (long' : length new ≡ entries G * n) where
    pub used_same : (t : ℕ) → t < n → ((i : ℕ) → i < entries G → word_at G new t i ≡ word_at G ws t i) → used_in G new t ≡ used_in G ws t
    used_same t l f =
        ap in_use (ext_get_or 0 (part new (slot G t 0) (entries G)) (own t) (len ∙ sym (own_long t l)) (λ i m.
        let k : i < entries G = omega (arith, len) in
        get_d_part new (slot G t 0) (entries G) i k ∙ ap (λ (z : ℕ). get_or new z 0) (omega arith) ∙ f i k ∙ sym (own_at t i k)))
      where
        len : length (part new (slot G t 0) (entries G)) ≡ entries G
        len = length_part new (slot G t 0) (entries G) (omega (arith, table_ends (entries G) l))

    pub used_less : (t i : ℕ) → t < n → i < entries G → word_at G ws t i ≢ 0 → word_at G new t i ≡ 0 → ((j : ℕ) → j < entries G → j ≢ i → word_at G new t j ≡ word_at G ws t j)
        → used_in G new t ≡ used_in G ws t - 1
    used_less t i l m e z f =
        ap in_use (ext_get_or 0 (part new (slot G t 0) (entries G)) (set (own t) i 0) (len ∙ sym (own_long t l) ∙ sym (length-set (own t) i 0)) (λ j q.
        let k : j < entries G = omega (arith, len) in
        get_d_part new (slot G t 0) (entries G) j k ∙ ap (λ (z : ℕ). get_or new z 0) (omega arith) ∙ at j k (ℕ_discrete j i)))
        ∙ omega (arith, use_less (own t) i (omega (arith, own_long t l)) (λ z. e (sym (own_at t i m) ∙ z)))
      where
        len : length (part new (slot G t 0) (entries G)) ≡ entries G
        len = length_part new (slot G t 0) (entries G) (omega (arith, table_ends (entries G) l))

        at : (j : ℕ) → j < entries G → Dec (j ≡ i) → word_at G new t j ≡ get_or (set (own t) i 0) j 0
        at j k (yes q) = ap (word_at G new t) q ∙ z ∙ sym (ap (λ (x : ℕ). get_or (set (own t) i 0) x 0) q ∙ get_or-set_same (own t) i 0 0 (omega (arith, own_long t l)))
        at j k (no q) = f j k q ∙ sym (own_at t j k) ∙ sym (get_or-set_other (own t) i j 0 0 q)

-- ---- the tables that come free, by counts

module _ (way : List ℕ) where
  abbrev at : ℕ → ℕ
  at j = at_height way j

  pub lower_stop : (C : List ℕ) (h d : ℕ) → 0 < d → 1 < get_or C (at h) 0 → lower_from C way h d ≡ lowered 0 (set C (at h) (get_or C (at h) 0 - 1))
  unfolding lower_from
  lower_stop C h zero l m = absurd (omega arith)
  lower_stop C h (suc d) l m = rw (lt-ltb 1 (get_or C (at h) 0) m)

  pub lower_more : (C : List ℕ) (h d : ℕ) → 0 < d → get_or C (at h) 0 ≤ 1
      → let r = lower_from (set C (at h) (get_or C (at h) 0 - 1)) way (h + 1) (d - 1) in lower_from C way h d ≡ lowered (suc r.freed) r.counts
  unfolding lower_from
  lower_more C h zero l m = absurd (omega arith)
  lower_more C h (suc d) l m = rw (le-ltb 1 (get_or C (at h) 0) m, add-one, sub-one (suc d))

  pub lower_end : (C : List ℕ) (h d : ℕ) → d ≡ 0 → lower_from C way h d ≡ lowered 0 C
  unfolding lower_from
  lower_end C h d e = rw e

  pub lower_most : (d h : ℕ) (C : List ℕ) → (lower_from C way h d).freed ≤ d
  unfolding lower_from
  lower_most zero h C = omega arith
  lower_most (suc d) h C = go (ltb 1 (get_or C (at h) 0)) (lower_most d (suc h) (set C (at h) (get_or C (at h) 0 - 1)))
    where
      go : (y : Bool) → (lower_from (set C (at h) (get_or C (at h) 0 - 1)) way (suc h) d).freed ≤ d
          → (cond y (lowered 0 (set C (at h) (get_or C (at h) 0 - 1))) (lowered (suc (lower_from (set C (at h) (get_or C (at h) 0 - 1)) way (suc h) d).freed) (lower_from (set C (at h) (get_or C (at h) 0 - 1)) way (suc h) d).counts)).freed ≤ suc d
      go true l = omega arith
      go false l = omega arith

  -- no count but those of the tables from where it starts up to the one that stays
  pub lower_miss : (d h : ℕ) (C : List ℕ) (t : ℕ) → ((j : ℕ) → h ≤ j → j ≤ h + (lower_from C way h d).freed → j < h + d → t ≢ at j) → get_or (lower_from C way h d).counts t 0 ≡ get_or C t 0
  unfolding lower_from
  lower_miss zero h C t f = refl
  lower_miss (suc d) h C t f = go (ltb 1 n) refl f (λ C t g. lower_miss d (suc h) C t g)
    where
      n : ℕ
      n = get_or C (at h) 0

      C' : List ℕ
      C' = set C (at h) (n - 1)

      pick : Bool → Lowered
      pick y = cond y (lowered 0 C') (lowered (suc (lower_from C' way (suc h) d).freed) (lower_from C' way (suc h) d).counts)

      go : (y : Bool) → ltb 1 n ≡ y → ((j : ℕ) → h ≤ j → j ≤ h + (pick y).freed → j < h + suc d → t ≢ at j)
          → ((C : List ℕ) (t : ℕ) → ((j : ℕ) → suc h ≤ j → j ≤ suc h + (lower_from C way (suc h) d).freed → j < suc h + d → t ≢ at j) → get_or (lower_from C way (suc h) d).counts t 0 ≡ get_or C t 0)
          → get_or (pick y).counts t 0 ≡ get_or C t 0
      go true e f ih = get_or-set_other C (at h) t (n - 1) 0 (f h (omega arith) (omega arith) (omega arith))
      go false e f ih =
          ih C' t (λ j a b c. f j (omega arith) (omega arith) (omega arith)) ∙ get_or-set_other C (at h) t (n - 1) 0 (f h (omega arith) (omega arith) (omega arith))

  -- those are one less
  pub lower_hit : (d h : ℕ) (C : List ℕ) → ((i j : ℕ) → h ≤ i → i < j → j < h + d → at i ≢ at j) → ((j : ℕ) → h ≤ j → j < h + d → at j < length C)
      → (j : ℕ) → h ≤ j → j ≤ h + (lower_from C way h d).freed → j < h + d → get_or (lower_from C way h d).counts (at j) 0 ≡ get_or C (at j) 0 - 1
  unfolding lower_from
  lower_hit zero h C apart m j a b c = absurd (omega arith)
  lower_hit (suc d) h C apart m j a b c =
      go (ltb 1 n) refl b (ℕ_discrete h j)
      (λ C' e b. lower_hit d (suc h) C' (λ i j u v w. apart i j (omega arith) v (omega arith)) (λ i u v. subst (λ (z : ℕ). at i < z) (sym e) (m i (omega arith) (omega arith))) j b)
    where
      n : ℕ
      n = get_or C (at h) 0

      C₁ : List ℕ
      C₁ = set C (at h) (n - 1)

      pick : Bool → Lowered
      pick y = cond y (lowered 0 C₁) (lowered (suc (lower_from C₁ way (suc h) d).freed) (lower_from C₁ way (suc h) d).counts)

      first : get_or C₁ (at h) 0 ≡ n - 1
      first = get_or-set_same C (at h) (n - 1) 0 (m h (omega arith) (omega arith))

      go : (y : Bool) → ltb 1 n ≡ y → j ≤ h + (pick y).freed → Dec (h ≡ j)
          → ((C' : List ℕ) → length C' ≡ length C → suc h ≤ j → j ≤ suc h + (lower_from C' way (suc h) d).freed → j < suc h + d → get_or (lower_from C' way (suc h) d).counts (at j) 0 ≡ get_or C' (at j) 0 - 1)
          → get_or (pick y).counts (at j) 0 ≡ get_or C (at j) 0 - 1
      go true e b (yes z) ih = ap (λ (x : ℕ). get_or C₁ (at x) 0) (sym z) ∙ first ∙ ap (λ (x : ℕ). get_or C (at x) 0 - 1) z
      go true e b (no z) ih = absurd (omega arith)
      go false e b (yes z) ih =
          ap (λ (x : ℕ). get_or (lower_from C₁ way (suc h) d).counts (at x) 0) (sym z)
          ∙ lower_miss d (suc h) C₁ (at h) (λ i u v w. apart h i (omega arith) (omega arith) (omega arith)) ∙ first ∙ ap (λ (x : ℕ). get_or C (at x) 0 - 1) z
      go false e b (no z) ih =
          ih C₁ (length-set C (at h) (n - 1)) (omega arith) (omega arith) (omega arith)
          ∙ ap (λ (x : ℕ). x - 1) (get_or-set_other C (at h) (at j) (n - 1) 0 (λ q. apart h j (omega arith) (omega arith) c (sym q)))

  -- and they are as many as come free by the words
  pub lower_freed : (G : Granule) (ws path : List ℕ) (n : ℕ) → length ws ≡ entries G * n → (d h : ℕ) (C : List ℕ) → ((i j : ℕ) → h ≤ i → i < j → j < h + d → at i ≢ at j)
      → ((j : ℕ) → h ≤ j → j < h + d → (at j < n) × (at_height path j < entries G) × (word_at G ws (at j) (at_height path j) ≢ 0) × (get_or C (at j) 0 ≡ used_in G ws (at j)))
      → (lower_from C way h d).freed ≡ freed G ws way path h d
  unfolding lower_from freed
  lower_freed G ws path n long zero h C apart f = refl
  lower_freed G ws path n long (suc d) h C apart f =
      let (a, b, c, e) = f h (omega arith) (omega arith) in
      let s : only_entry G ws (at h) (at_height path h) ≡ not (ltb 1 (get_or C (at h) 0)) = only_used G ws n long (at h) (at_height path h) a b c ∙ ap (λ (u : ℕ). not (ltb 1 u)) (sym e) in
      go (ltb 1 (get_or C (at h) 0))
      (lower_freed G ws path n long d (suc h) (set C (at h) (get_or C (at h) 0 - 1)) (λ i j u v w. apart i j (omega arith) v (omega arith)) (λ j u v. kept j (omega arith) (omega arith) (f j (omega arith) (omega arith))))
      ∙ ap (λ (y : Bool). cond y (suc (freed G ws way path (suc h) d)) 0) (sym s)
    where
      C₁ : List ℕ
      C₁ = set C (at h) (get_or C (at h) 0 - 1)

      kept : (j : ℕ) → h < j → j < h + suc d → (at j < n) × (at_height path j < entries G) × (word_at G ws (at j) (at_height path j) ≢ 0) × (get_or C (at j) 0 ≡ used_in G ws (at j))
          → (at j < n) × (at_height path j < entries G) × (word_at G ws (at j) (at_height path j) ≢ 0) × (get_or C₁ (at j) 0 ≡ used_in G ws (at j))
      kept j u v (a, b, c, e) = (a, b, c, get_or-set_other C (at h) (at j) (get_or C (at h) 0 - 1) 0 (λ q. apart h j (omega arith) u v (sym q)) ∙ e)

      go : (y : Bool) → (lower_from C₁ way (suc h) d).freed ≡ freed G ws way path (suc h) d
          → (cond y (lowered 0 C₁) (lowered (suc (lower_from C₁ way (suc h) d).freed) (lower_from C₁ way (suc h) d).counts)).freed ≡ cond (not y) (suc (freed G ws way path (suc h) d)) 0
      go true ih = refl
      go false ih = ap suc ih

  pub lower_long : (d h : ℕ) (C : List ℕ) → length (lower_from C way h d).counts ≡ length C
  unfolding lower_from
  lower_long zero h C = refl
  lower_long (suc d) h C = go (ltb 1 (get_or C (at h) 0)) (lower_long d (suc h) (set C (at h) (get_or C (at h) 0 - 1)))
    where
      C₁ : List ℕ
      C₁ = set C (at h) (get_or C (at h) 0 - 1)

      go : (y : Bool) → length (lower_from C₁ way (suc h) d).counts ≡ length C₁
          → length (cond y (lowered 0 C₁) (lowered (suc (lower_from C₁ way (suc h) d).freed) (lower_from C₁ way (suc h) d).counts)).counts ≡ length C
      go true e = length-set C (at h) (get_or C (at h) 0 - 1)
      go false e = e ∙ length-set C (at h) (get_or C (at h) 0 - 1)

-- ---- tables that are marked and have a word in use

-- how many numbers of the one list are not 0 where the other's are not either
unfoldable pub live : List ℕ → List ℕ → ℕ
live [] C = 0
live (m ∷ M) [] = 0
live (m ∷ M) (c ∷ C) = cond (eqb m 0 || eqb c 0) 0 1 + live M C

pub live_few : (M C : List ℕ) → live M C ≤ in_use M
unfolding live in_use
live_few [] C = omega arith
live_few (m ∷ M) [] = omega arith
live_few (m ∷ M) (c ∷ C) = go (eqb m 0) (eqb c 0) (live_few M C)
  where
    go : (y z : Bool) → live M C ≤ in_use M → cond (y || z) 0 1 + live M C ≤ cond y 0 1 + in_use M
    go true z l = omega arith
    go false true l = omega arith
    go false false l = omega arith

-- one that stays in use
live_kept : (M C : List ℕ) (t v : ℕ) → get_or C t 0 ≢ 0 → live M (set C t v) ≤ live M C
unfolding live
live_kept [] C t v n = omega arith
live_kept (m ∷ M) [] t v n = omega arith
live_kept (m ∷ M) (c ∷ C) zero v n = go (eqb m 0) (eqb v 0)
  where
    e : eqb c 0 ≡ false
    e = ne_eqb c 0 n

    go : (y z : Bool) → cond (y || z) 0 1 + live M C ≤ cond (y || eqb c 0) 0 1 + live M C
    go true z = omega arith
    go false true = rw e (omega arith)
    go false false = rw e (omega arith)
live_kept (m ∷ M) (c ∷ C) (suc t) v n = omega (arith, live_kept M C t v n)

-- one that was the last of its table
live_less : (M C : List ℕ) (t : ℕ) → get_or M t 0 ≢ 0 → get_or C t 0 ≢ 0 → suc (live M (set C t 0)) ≡ live M C
unfolding live
live_less [] C t m n = absurd (m refl)
live_less (m ∷ M) [] t k n = absurd (n refl)
live_less (m ∷ M) (c ∷ C) zero k n = let e : eqb m 0 ≡ false = ne_eqb m 0 k in let f : eqb c 0 ≡ false = ne_eqb c 0 n in rw (e, f) (omega arith)
live_less (m ∷ M) (c ∷ C) (suc t) k n = omega (arith, live_less M C t k n)

-- the tables that come free are no more live
pub lower_live : (M way : List ℕ) (d h : ℕ) (C : List ℕ) → ((i j : ℕ) → h ≤ i → i < j → j < h + d → at_height way i ≢ at_height way j)
    → ((j : ℕ) → h ≤ j → j < h + d → (get_or M (at_height way j) 0 ≢ 0) × (get_or C (at_height way j) 0 ≢ 0))
    → (lower_from C way h d).freed + live M (lower_from C way h d).counts ≤ live M C
unfolding lower_from
lower_live M way zero h C apart f = omega arith
lower_live M way (suc d) h C apart f =
    go (ltb 1 n) refl
    (lower_live M way d (suc h) C₁ (λ i j u v w. apart i j (omega arith) v (omega arith))
    (λ j u v. ((f j (omega arith) (omega arith)).0, λ z. (f j (omega arith) (omega arith)).1 (sym (get_or-set_other C t (at_height way j) (n - 1) 0 (λ q. apart h j (omega arith) (omega arith) (omega arith) (sym q))) ∙ z))))
  where
    t : ℕ
    t = at_height way h

    n : ℕ
    n = get_or C t 0

    C₁ : List ℕ
    C₁ = set C t (n - 1)

    r : Lowered
    r = lower_from C₁ way (suc h) d

    pick : Bool → Lowered
    pick y = cond y (lowered 0 C₁) (lowered (suc r.freed) r.counts)

    used : n ≢ 0
    used = (f h (omega arith) (omega arith)).1

    go : (y : Bool) → ltb 1 n ≡ y → r.freed + live M r.counts ≤ live M C₁ → (pick y).freed + live M (pick y).counts ≤ live M C
    go true e l = omega (arith, live_kept M C t (n - 1) used)
    go false e l =
        let z : n - 1 ≡ 0 = omega (arith, ltb-false 1 n e, used) in
        omega (arith, l, live_less M C t (f h (omega arith) (omega arith)).0 used, ap (λ (v : ℕ). live M (set C t v)) z)
