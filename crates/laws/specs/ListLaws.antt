-- Laws of parts, zeros and members of lists.
use Rattle.std.specs.Prelude.{ℕ, zero, suc, ◌+◌, ◌-◌, ◌≤◌, ◌<◌, ◌≡◌, Bool, true, false, ◌&&◌, ◌||◌, not, eqb, get_or, set}
use Rattle.std.proofs.Common.{zero-le, suc-le-suc, ap₂, ◌∙◌, subst, ⊎_elim, true≢false, not-suc-le-zero, le_of_suc-le-suc, add-one, eqb-true, eq-eqb, ne_eqb, le-leb, length-append, length-set, length-take, length-drop, drop_of_length-le, ext_get_or, get_or-set_same, get_or-set_other, length-take-le, take_all, drop_at, get_or-append-add, drop-set-lt}
use Rattle.std.proofs.Math.Path.{refl, sym, ap}
use Rattle.std.proofs.lemmas.Bool.{false≢true, eqb-false, lt-leb, not-true}
use Rattle.std.proofs.Math.Bool.{and-eq-true_iff, and-true, or-true, or-false, and_assoc, or_assoc, or_comm}
use mathlib.Core.List.Memᴰ
use mathlib.Core.List.Memᴰ.{head as here}
use mathlib.Core.List.Memᴰ.{tail as there}
use mathlib.Core.List.{List, [], ◌∷◌, ◌++◌, Memᴰ, append_assoc}
use Rattle.std.proofs.Math.Nat.{suc-sub-suc, sub-zero, zero-sub}
use Rattle.std.proofs.Math.Decide.{dec_le, dec_lt, ℕ_discrete}
use native.Mathlib.Omega.{arith}
use Rattle.std.proofs.Math.ListN.{length, take, drop, replicate, get_or-append, get_or-eq_default}
use Rattle.std.proofs.lemmas.List.{length-replicate, get_or-replicate, set-get_or, drop-append-le, set_split, drop-set-add}
use Rattle.std.proofs.Math.Seq.{take_at, take-nil, drop-cons, take-append-le, take-take, drop-drop, set_out, get_or-take, get_or-drop, take-set-lt, take-set-le}
use Rattle.laws.specs.Lists.{part, zeroed, all_zero, among, distinct, down}

-- ---- parts

pub drop_take : (n m : ℕ) (xs : List ℕ) → drop n (take m xs) ≡ take (m - n) (drop n xs)
drop_take zero m xs = rw sub-zero
drop_take (suc n) zero xs = rw zero-sub
drop_take (suc n) (suc m) [] = sym (take-nil (suc m - suc n))
drop_take (suc n) (suc m) (x ∷ xs) = rw suc-sub-suc (drop_take n m xs)

-- past a list's end stands 0
pub get_d_past : (xs : List ℕ) (i : ℕ) → length xs ≤ i → get_or xs i 0 ≡ 0
get_d_past xs i h = get_or-eq_default xs 0 h

module _ (xs : List ℕ) (at k : ℕ) where
  pub length_part : at + k ≤ length xs → length (part xs at k) ≡ k
  unfolding part
  length_part h = simp (length-take, length-drop) (omega arith)

  pub length_part_le : length (part xs at k) ≤ k
  unfolding part
  length_part_le = simp (length-take, length-drop) (omega arith)

  pub get_d_part : (i : ℕ) → i < k → get_or (part xs at k) i 0 ≡ get_or xs (at + i) 0
  unfolding part
  get_d_part i h = get_or-take k (drop at xs) i 0 h ∙ get_or-drop at xs i 0

  pub get_d_part_past : (i : ℕ) → k ≤ i → get_or (part xs at k) i 0 ≡ 0
  get_d_part_past i h = get_d_past (part xs at k) i (omega (arith, length_part_le))

  pub take_part : (i : ℕ) → i ≤ k → take i (part xs at k) ≡ part xs at i
  unfolding part
  take_part i h = take-take i k (drop at xs) h

  pub drop_part : (i : ℕ) → drop i (part xs at k) ≡ part xs (at + i) (k - i)
  unfolding part
  drop_part i = drop_take i k (drop at xs) ∙ ap (take (k - i)) (drop-drop i at xs)

  -- a number set inside a part, before it, after it
  pub part_set : (i v : ℕ) → i < k → part (set xs (at + i) v) at k ≡ set (part xs at k) i v
  unfolding part
  part_set i v h = ap (take k) (drop-set-add at xs i v) ∙ take-set-lt k (drop at xs) i v h

  pub part_set_before : (i v : ℕ) → i < at → part (set xs i v) at k ≡ part xs at k
  unfolding part
  part_set_before i v h = ap (take k) (drop-set-lt at xs i v h)

  pub part_set_after : (i v : ℕ) → at + k ≤ i → part (set xs i v) at k ≡ part xs at k
  unfolding part
  part_set_after i v h =
      let e : i ≡ at + (i - at) = omega arith in
      ap (λ (j : ℕ). part (set xs j v) at k) e ∙ ap (take k) (drop-set-add at xs (i - at) v) ∙ take-set-le k (drop at xs) (i - at) v (omega arith)

-- ---- zeros

abbrev zeros : ℕ → List ℕ
zeros k = replicate k 0

module _ (xs : List ℕ) (at k : ℕ) where
  abbrev filled : List ℕ
  filled = take at xs ++ (zeros k ++ drop k (drop at xs))

  pub zeroed_is : at + k ≤ length xs → zeroed xs at k ≡ take at xs ++ (replicate k 0 ++ drop k (drop at xs))
  unfolding zeroed
  zeroed_is h = rw (le-leb (at + k) (length xs) h)

  pub zeroed_none : length xs < at + k → zeroed xs at k ≡ xs
  unfolding zeroed
  zeroed_none h = rw (lt-leb (at + k) (length xs) h)

  -- what holds of both holds of it
  zeroed_cases : (P : List ℕ → Type 0) → (at + k ≤ length xs → P filled) → P xs → P (zeroed xs at k)
  zeroed_cases P f p = go (dec_le (at + k) (length xs))
    where
      go : Dec (at + k ≤ length xs) → P (zeroed xs at k)
      go (yes h) = subst P (sym (zeroed_is h)) (f h)
      go (no n) = subst P (sym (zeroed_none (omega arith))) p

  front : at + k ≤ length xs → length (take at xs) ≡ at
  front h = length-take-le at xs (omega arith)

  pub length_zeroed : length (zeroed xs at k) ≡ length xs
  length_zeroed =
      zeroed_cases (λ l. length l ≡ length xs) (λ h. simp (length-append, length-take, length-replicate, length-drop) (omega arith)) refl

  pub get_d_zeroed : at + k ≤ length xs → (i : ℕ) → at ≤ i → i < at + k → get_or (zeroed xs at k) i 0 ≡ 0
  get_d_zeroed h i l m =
      let e : i ≡ length (take at xs) + (i - at) = omega (arith, front h) in
      let n : i - at < length (zeros k) = omega (arith, length-replicate {A = ℕ} k 0) in
      ap (λ (l : List ℕ). get_or l i 0) (zeroed_is h)
      ∙ ap (λ (j : ℕ). get_or filled j 0) e
      ∙ get_or-append-add (take at xs) (replicate k 0 ++ drop k (drop at xs)) (i - at) 0
      ∙ get_or-append (replicate k 0) (drop k (drop at xs)) 0 (i - at) n
      ∙ get_or-replicate k (i - at) 0 0 (omega arith)

  pub get_d_zeroed_before : (i : ℕ) → i < at → get_or (zeroed xs at k) i 0 ≡ get_or xs i 0
  get_d_zeroed_before i l =
      zeroed_cases (λ l. get_or l i 0 ≡ get_or xs i 0)
      (λ h. get_or-append (take at xs) _ 0 i (omega (arith, front h)) ∙ get_or-take at xs i 0 l)
      refl

  pub get_d_zeroed_after : (i : ℕ) → at + k ≤ i → get_or (zeroed xs at k) i 0 ≡ get_or xs i 0
  get_d_zeroed_after i l = zeroed_cases (λ l. get_or l i 0 ≡ get_or xs i 0) past refl
    where
      past : at + k ≤ length xs → get_or filled i 0 ≡ get_or xs i 0
      past h =
          let d = i - (at + k) in
          let e : i ≡ length (take at xs) + (k + d) = omega (arith, front h) in
          let m : k + d ≡ length (zeros k) + d = omega (arith, length-replicate {A = ℕ} k 0) in
          let z : at + (k + d) ≡ i = omega arith in
          ap (λ (j : ℕ). get_or filled j 0) e
          ∙ get_or-append-add (take at xs) (replicate k 0 ++ drop k (drop at xs)) (k + d) 0
          ∙ ap (λ (j : ℕ). get_or (replicate k 0 ++ drop k (drop at xs)) j 0) m
          ∙ get_or-append-add (replicate k 0) (drop k (drop at xs)) d 0
          ∙ get_or-drop k (drop at xs) d 0
          ∙ get_or-drop at xs (k + d) 0
          ∙ ap (λ (j : ℕ). get_or xs j 0) z

  -- the zeroed part, and a part that ends before it or starts after it
  pub part_zeroed : at + k ≤ length xs → part (zeroed xs at k) at k ≡ replicate k 0
  unfolding part
  part_zeroed h =
      ap (λ (l : List ℕ). take k (drop at l)) (zeroed_is h)
      ∙ ap (take k) (drop_at (take at xs) (replicate k 0 ++ drop k (drop at xs)) at (front h))
      ∙ take_at (replicate k 0) (drop k (drop at xs)) k (length-replicate {A = ℕ} k 0)

  pub part_zeroed_before : (b n : ℕ) → b + n ≤ at → part (zeroed xs at k) b n ≡ part xs b n
  unfolding part
  part_zeroed_before b n l = zeroed_cases (λ l. part l b n ≡ part xs b n) below refl
    where
      below : at + k ≤ length xs → part filled b n ≡ part xs b n
      below h =
          let f = front h in
          let h₁ : b ≤ length (take at xs) = omega arith in
          let h₂ : n ≤ length (drop b (take at xs)) = simp (length-drop, f) (omega arith) in
          ap (take n) (drop-append-le b (take at xs) _ h₁)
          ∙ take-append-le n (drop b (take at xs)) _ h₂
          ∙ ap (take n) (drop_take b at xs)
          ∙ take-take n (at - b) (drop b xs) (omega arith)

  pub part_zeroed_after : (b n : ℕ) → at + k ≤ b → part (zeroed xs at k) b n ≡ part xs b n
  unfolding part
  part_zeroed_after b n l = zeroed_cases (λ l. part l b n ≡ part xs b n) past refl
    where
      past : at + k ≤ length xs → part filled b n ≡ part xs b n
      past h =
          let d = b - (at + k) in
          let e : b ≡ at + (k + d) = omega arith in
          let q = replicate k 0 ++ drop k (drop at xs) in
          let back : drop (k + d) q ≡ drop (k + d) (drop at xs) =
          sym (drop-drop d k q) ∙ ap (drop d) (drop_at (replicate k 0) (drop k (drop at xs)) k (length-replicate {A = ℕ} k 0)) ∙ drop-drop d k (drop at xs) in
          ap (λ (j : ℕ). part filled j n) e
          ∙ ap (take n) (sym (drop-drop (k + d) at filled) ∙ ap (drop (k + d)) (drop_at (take at xs) q at (front h)) ∙ back ∙ drop-drop (k + d) at xs)
          ∙ ap (λ (j : ℕ). part xs j n) (sym e)

-- ---- all zeros

-- test for the words from i on: one that is 0 leaves the rest, one that is not settles it, and past the last there is none
module _ (xs : List ℕ) (i : ℕ) where
  pub all_zero_next : i < length xs → get_or xs i 0 ≡ 0 → all_zero (drop i xs) ≡ all_zero (drop (i + 1) xs)
  unfolding all_zero
  all_zero_next h z = rw (add-one, drop-cons xs i 0 h) (simp (eq-eqb _ _ z))

  pub all_zero_stop : i < length xs → (get_or xs i 0 ≡ 0 → ⊥) → all_zero (drop i xs) ≡ false
  unfolding all_zero
  all_zero_stop h z = rw (drop-cons xs i 0 h) (simp (ne_eqb _ _ z))

  pub all_zero_end : length xs ≤ i → all_zero (drop i xs) ≡ true
  unfolding all_zero
  all_zero_end h = rw (drop_of_length-le xs h)

pub all_zero_replicate : (k : ℕ) → all_zero (replicate k 0) ≡ true
unfolding all_zero
all_zero_replicate zero = refl
all_zero_replicate (suc k) = all_zero_replicate k

pub all_zero_append : (xs ys : List ℕ) → all_zero (xs ++ ys) ≡ (all_zero xs && all_zero ys)
unfolding all_zero
all_zero_append [] ys = refl
all_zero_append (x ∷ xs) ys = ap (λ (b : Bool). eqb x 0 && b) (all_zero_append xs ys) ∙ sym (and_assoc (eqb x 0) (all_zero xs) (all_zero ys))

-- every number of a list that is all zeros is 0, and the other way round
pub all_zero_at : (xs : List ℕ) → all_zero xs ≡ true → (i : ℕ) → get_or xs i 0 ≡ 0
unfolding all_zero
all_zero_at [] e i = refl
all_zero_at (x ∷ xs) e zero = eqb-true x 0 ((and-eq-true_iff _ _).0 e).0
all_zero_at (x ∷ xs) e (suc i) = all_zero_at xs ((and-eq-true_iff (eqb x 0) _).0 e).1 i

pub all_zero_of : (xs : List ℕ) → ((i : ℕ) → i < length xs → get_or xs i 0 ≡ 0) → all_zero xs ≡ true
unfolding all_zero
all_zero_of [] f = refl
all_zero_of (x ∷ xs) f = (and-eq-true_iff _ _).1 (eq-eqb x 0 (f zero (suc-le-suc zero-le)), all_zero_of xs (λ i h. f (suc i) (suc-le-suc h)))

-- a number that is not 0 settles it, and where it is settled there is one
pub all_zero_not : (xs : List ℕ) (i : ℕ) → (get_or xs i 0 ≡ 0 → ⊥) → all_zero xs ≡ false
all_zero_not xs i n = go (all_zero xs) refl
  where
    go : (b : Bool) → all_zero xs ≡ b → b ≡ false
    go true e = absurd (n (all_zero_at xs e i))
    go false e = refl

pub all_zero_some : (xs : List ℕ) → all_zero xs ≡ false → (i : ℕ) × (i < length xs) × (get_or xs i 0 ≡ 0 → ⊥)
unfolding all_zero
all_zero_some [] e = absurd (true≢false e)
all_zero_some (x ∷ xs) e = go (eqb x 0) refl e (all_zero_some xs)
  where
    go : (b : Bool) → eqb x 0 ≡ b → (b && all_zero xs) ≡ false
        → (all_zero xs ≡ false → (i : ℕ) × (i < length xs) × (get_or xs i 0 ≡ 0 → ⊥))
        → (i : ℕ) × (i < suc (length xs)) × (get_or (x ∷ xs) i 0 ≡ 0 → ⊥)
    go true q e more = let (i, h, n) = more e in (suc i, suc-le-suc h, n)
    go false q e more = (zero, suc-le-suc zero-le, eqb-false x 0 q)

-- the same of a part
module _ (xs : List ℕ) (at k : ℕ) where
  pub all_zero_part_at : all_zero (part xs at k) ≡ true → (i : ℕ) → i < k → get_or xs (at + i) 0 ≡ 0
  all_zero_part_at e i h = sym (get_d_part xs at k i h) ∙ all_zero_at (part xs at k) e i

  pub all_zero_part_of : ((i : ℕ) → i < k → get_or xs (at + i) 0 ≡ 0) → all_zero (part xs at k) ≡ true
  all_zero_part_of f =
      all_zero_of (part xs at k) (λ i h. let l : i < k = omega (arith, length_part_le xs at k) in get_d_part xs at k i l ∙ f i l)

  pub all_zero_part_not : (i : ℕ) → i < k → (get_or xs (at + i) 0 ≡ 0 → ⊥) → all_zero (part xs at k) ≡ false
  all_zero_part_not i h n = all_zero_not (part xs at k) i (λ e. n (sym (get_d_part xs at k i h) ∙ e))

  pub all_zero_part_some : all_zero (part xs at k) ≡ false → (i : ℕ) × (i < k) × (get_or xs (at + i) 0 ≡ 0 → ⊥)
  all_zero_part_some e =
      let (i, h, n) = all_zero_some (part xs at k) e in
      let l : i < k = omega (arith, length_part_le xs at k) in
      (i, l, λ z. n (get_d_part xs at k i l ∙ z))

-- a list with one number made 0 is all zeros where what stands before and after it is
pub all_zero_set : (xs : List ℕ) (i : ℕ) → all_zero (set xs i 0) ≡ (all_zero (take i xs) && all_zero (drop (i + 1) xs))
unfolding all_zero
all_zero_set xs i = go (dec_lt i (length xs))
  where
    go : Dec (i < length xs) → all_zero (set xs i 0) ≡ (all_zero (take i xs) && all_zero (drop (i + 1) xs))
    go (yes h) = rw (add-one, set_split xs i 0 h) (all_zero_append (take i xs) (0 ∷ drop (suc i) xs))
    go (no n) =
        let h : length xs ≤ i = omega arith in
        rw (set_out xs i 0 h, take_all i xs h, all_zero_end xs (i + 1) (omega arith)) (sym (and-true (all_zero xs)))

-- ---- members

-- `among` is membership
pub among_mem : (x : ℕ) (xs : List ℕ) → among x xs ≡ true → Memᴰ x xs
unfolding among
among_mem x [] e = absurd (false≢true e)
among_mem x (y ∷ ys) e = go (eqb y x) refl e (among_mem x ys)
  where
    go : (b : Bool) → eqb y x ≡ b → (b || among x ys) ≡ true → (among x ys ≡ true → Memᴰ x ys) → Memᴰ x (y ∷ ys)
    go true q e more = here (sym (eqb-true y x q))
    go false q e more = there (more e)

pub mem_among : (x : ℕ) (xs : List ℕ) → Memᴰ x xs → among x xs ≡ true
unfolding among
mem_among x [] m = absurd (Memᴰ.not-nil m)
mem_among x (y ∷ ys) m =
    ⊎_elim
    (λ (e : x ≡ y). ap (λ (b : Bool). b || among x ys) (eq-eqb y x (sym e)))
    (λ (n : Memᴰ x ys). ap (λ (b : Bool). eqb y x || b) (mem_among x ys n) ∙ or-true (eqb y x))
    (Memᴰ.cases_cons m)

pub not_among : (x : ℕ) (xs : List ℕ) → among x xs ≡ false → Memᴰ x xs → ⊥
not_among x xs e m = true≢false (sym (mem_among x xs m) ∙ e)

pub among_none : (x : ℕ) (xs : List ℕ) → (Memᴰ x xs → ⊥) → among x xs ≡ false
among_none x xs n = go (among x xs) refl
  where
    go : (b : Bool) → among x xs ≡ b → b ≡ false
    go true e = absurd (n (among_mem x xs e))
    go false e = refl

-- a member stands at some place, and what stands at a place is a member
pub mem_at : {x : ℕ} (xs : List ℕ) → Memᴰ x xs → (i : ℕ) × (i < length xs) × (get_or xs i 0 ≡ x)
mem_at [] m = absurd (Memᴰ.not-nil m)
mem_at {x} (y ∷ ys) m = ⊎_elim (λ e. (zero, suc-le-suc zero-le, sym e)) (λ n. later (mem_at ys n)) (Memᴰ.cases_cons m)
  where
    later : (i : ℕ) × (i < length ys) × (get_or ys i 0 ≡ x) → (i : ℕ) × (i < suc (length ys)) × (get_or (y ∷ ys) i 0 ≡ x)
    later (i, h, e) = (suc i, suc-le-suc h, e)

pub at_mem : (xs : List ℕ) (i : ℕ) → i < length xs → Memᴰ (get_or xs i 0) xs
at_mem [] i h = absurd (not-suc-le-zero h)
at_mem (x ∷ xs) zero h = here refl
at_mem (x ∷ xs) (suc i) h = there (at_mem xs i (le_of_suc-le-suc h))

pub among_at : (x : ℕ) (xs : List ℕ) (i : ℕ) → i < length xs → get_or xs i 0 ≡ x → among x xs ≡ true
among_at x xs i h e = mem_among x xs (subst (λ (y : ℕ). Memᴰ y xs) e (at_mem xs i h))

-- the numbers from i on
module _ (x : ℕ) (xs : List ℕ) (i : ℕ) where
  pub among_next : i < length xs → (get_or xs i 0 ≡ x → ⊥) → among x (drop i xs) ≡ among x (drop (i + 1) xs)
  unfolding among
  among_next h n = rw (add-one, drop-cons xs i 0 h) (simp (ne_eqb _ _ n))

  pub among_end : length xs ≤ i → among x (drop i xs) ≡ false
  unfolding among
  among_end h = rw (drop_of_length-le xs h)

pub among_append : (x : ℕ) (xs ys : List ℕ) → among x (xs ++ ys) ≡ (among x xs || among x ys)
unfolding among
among_append x [] ys = refl
among_append x (y ∷ xs) ys = ap (λ (b : Bool). eqb y x || b) (among_append x xs ys) ∙ sym (or_assoc (eqb y x) (among x xs) (among x ys))

-- a 0 that becomes y: of the numbers above 0, y is the one more
pub among_set : (x : ℕ) (xs : List ℕ) (i y : ℕ) → 0 < x → i < length xs → get_or xs i 0 ≡ 0 → among x (set xs i y) ≡ (eqb y x || among x xs)
unfolding among
among_set x [] i y l h e = absurd (not-suc-le-zero h)
among_set x (z ∷ xs) zero y l h e = ap (λ (b : Bool). eqb y x || b) (sym (ap (λ (b : Bool). b || among x xs) (ne_eqb z x (λ q. omega arith))))
among_set x (z ∷ xs) (suc i) y l h e =
    ap (λ (b : Bool). eqb z x || b) (among_set x xs i y l (le_of_suc-le-suc h) e)
    ∙ sym (or_assoc (eqb z x) (eqb y x) (among x xs))
    ∙ ap (λ (b : Bool). b || among x xs) (or_comm (eqb z x) (eqb y x))
    ∙ or_assoc (eqb y x) (eqb z x) (among x xs)

-- of four numbers the first three of which are others
pub among_fourth : (x : ℕ) (xs : List ℕ) → length xs ≡ 4 → (get_or xs 0 0 ≡ x → ⊥) → (get_or xs 1 0 ≡ x → ⊥) → (get_or xs 2 0 ≡ x → ⊥)
    → among x xs ≡ eqb (get_or xs 3 0) x
unfolding among
among_fourth x (a ∷ b ∷ c ∷ d ∷ []) h p q r = rw (ne_eqb a x p, ne_eqb b x q, ne_eqb c x r) (or-false (eqb d x))
among_fourth x [] h p q r = absurd (let w : ⊥ = omega arith in w)
among_fourth x (a ∷ []) h p q r = absurd (let w : ⊥ = omega arith in w)
among_fourth x (a ∷ b ∷ []) h p q r = absurd (let w : ⊥ = omega arith in w)
among_fourth x (a ∷ b ∷ c ∷ []) h p q r = absurd (let w : ⊥ = omega arith in w)
among_fourth x (a ∷ b ∷ c ∷ d ∷ e ∷ xs) h p q r = absurd (let w : ⊥ = omega arith in w)

-- `distinct`: no number is a member of those after it
pub distinct_head : (x : ℕ) (xs : List ℕ) → distinct (x ∷ xs) ≡ true → Memᴰ x xs → ⊥
unfolding distinct
distinct_head x xs e = not_among x xs (not-true (among x xs) ((and-eq-true_iff (not (among x xs)) _).0 e).0)

pub distinct_tail : (x : ℕ) (xs : List ℕ) → distinct (x ∷ xs) ≡ true → distinct xs ≡ true
unfolding distinct
distinct_tail x xs e = ((and-eq-true_iff (not (among x xs)) _).0 e).1

pub distinct_cons : (x : ℕ) (xs : List ℕ) → (Memᴰ x xs → ⊥) → distinct xs ≡ true → distinct (x ∷ xs) ≡ true
unfolding distinct
distinct_cons x xs n e = (and-eq-true_iff _ _).1 (ap not (among_none x xs n), e)

pub distinct_append : (xs ys : List ℕ) → distinct xs ≡ true → distinct ys ≡ true → ((x : ℕ) → Memᴰ x xs → Memᴰ x ys → ⊥)
    → distinct (xs ++ ys) ≡ true
distinct_append [] ys d e f = e
distinct_append (x ∷ xs) ys d e f =
    distinct_cons x (xs ++ ys)
    (λ m. ⊎_elim (distinct_head x xs d) (f x (here refl)) (Memᴰ.append_cases xs m))
    (distinct_append xs ys (distinct_tail x xs d) e (λ y m. f y (there m)))

pub distinct_left : (xs ys : List ℕ) → distinct (xs ++ ys) ≡ true → distinct xs ≡ true
unfolding distinct
distinct_left [] ys e = refl
distinct_left (x ∷ xs) ys e =
    distinct_cons x xs (λ m. distinct_head x (xs ++ ys) e (Memᴰ.append_left ys m)) (distinct_left xs ys (distinct_tail x (xs ++ ys) e))

pub distinct_right : (xs ys : List ℕ) → distinct (xs ++ ys) ≡ true → distinct ys ≡ true
distinct_right [] ys e = e
distinct_right (x ∷ xs) ys e = distinct_right xs ys (distinct_tail x (xs ++ ys) e)

pub distinct_apart : (xs ys : List ℕ) → distinct (xs ++ ys) ≡ true → (x : ℕ) → Memᴰ x xs → Memᴰ x ys → ⊥
distinct_apart [] ys e x m n = Memᴰ.not-nil m
distinct_apart (y ∷ xs) ys e x m n =
    ⊎_elim
    (λ (q : x ≡ y). distinct_head y (xs ++ ys) e (subst (λ (z : ℕ). Memᴰ z (xs ++ ys)) q (Memᴰ.append_right xs n)))
    (λ (k : Memᴰ x xs). distinct_apart xs ys (distinct_tail y (xs ++ ys) e) x k n)
    (Memᴰ.cases_cons m)

-- the same by places
pub distinct_at : (xs : List ℕ) → distinct xs ≡ true → (i j : ℕ) → i < length xs → j < length xs → get_or xs i 0 ≡ get_or xs j 0 → i ≡ j
distinct_at [] d i j h k e = absurd (not-suc-le-zero h)
distinct_at (x ∷ xs) d zero zero h k e = refl
distinct_at (x ∷ xs) d zero (suc j) h k e =
    absurd (distinct_head x xs d (subst (λ (y : ℕ). Memᴰ y xs) (sym e) (at_mem xs j (le_of_suc-le-suc k))))
distinct_at (x ∷ xs) d (suc i) zero h k e =
    absurd (distinct_head x xs d (subst (λ (y : ℕ). Memᴰ y xs) e (at_mem xs i (le_of_suc-le-suc h))))
distinct_at (x ∷ xs) d (suc i) (suc j) h k e =
    ap suc (distinct_at xs (distinct_tail x xs d) i j (le_of_suc-le-suc h) (le_of_suc-le-suc k) e)

pub distinct_of : (xs : List ℕ) → ((i j : ℕ) → i < j → j < length xs → get_or xs i 0 ≡ get_or xs j 0 → ⊥) → distinct xs ≡ true
unfolding distinct
distinct_of [] f = refl
distinct_of (x ∷ xs) f =
    distinct_cons x xs
    (λ m. let (j, h, e) = mem_at xs m in f zero (suc j) (suc-le-suc zero-le) (suc-le-suc h) (sym e))
    (distinct_of xs (λ i j l h. f (suc i) (suc j) (suc-le-suc l) (suc-le-suc h)))

-- ---- counting down

pub down_suc : (n : ℕ) → down (suc n) ≡ n ∷ down n
unfolding down
down_suc n = refl

pub length_down : (n : ℕ) → length (down n) ≡ n
unfolding down
length_down zero = refl
length_down (suc n) = ap suc (length_down n)

pub get_d_down : (n i : ℕ) → i < n → get_or (down n) i 0 ≡ n - 1 - i
unfolding down
get_d_down zero i h = absurd (not-suc-le-zero h)
get_d_down (suc n) zero h = omega arith
get_d_down (suc n) (suc i) h = get_d_down n i (le_of_suc-le-suc h) ∙ omega arith

pub mem_down : (n x : ℕ) → x < n → Memᴰ x (down n)
unfolding down
mem_down zero x h = absurd (not-suc-le-zero h)
mem_down (suc n) x h = go (ℕ_discrete x n) (mem_down n x)
  where
    go : Dec (x ≡ n) → (x < n → Memᴰ x (down n)) → Memᴰ x (n ∷ down n)
    go (yes e) more = here e
    go (no d) more = there (more (omega arith))

pub down_below : (n x : ℕ) → Memᴰ x (down n) → x < n
unfolding down
down_below zero x m = absurd (Memᴰ.not-nil m)
down_below (suc n) x m = ⊎_elim (λ e. omega arith) (λ k. omega (arith, down_below n x k)) (Memᴰ.cases_cons m)

pub distinct_down : (n : ℕ) → distinct (down n) ≡ true
unfolding down distinct
distinct_down zero = refl
distinct_down (suc n) = distinct_cons n (down n) (λ m. omega (arith, down_below n n m)) (distinct_down n)

-- place i of a list that counts down as far as i, and is as it was from there on
copy : (xs ys : List ℕ) (i : ℕ) → i < length xs → i < length ys → set (take i xs ++ drop i ys) i (get_or xs i 0) ≡ take (suc i) xs ++ drop (suc i) ys
copy [] ys i h k = absurd (not-suc-le-zero h)
copy (x ∷ xs) [] i h k = absurd (not-suc-le-zero k)
copy (x ∷ xs) (y ∷ ys) zero h k = refl
copy (x ∷ xs) (y ∷ ys) (suc i) h k = ap (λ (l : List ℕ). x ∷ l) (copy xs ys i (le_of_suc-le-suc h) (le_of_suc-le-suc k))

pub down_more : (n i : ℕ) (ys : List ℕ) → i < n → i < length ys → set (take i (down n) ++ drop i ys) i (n - 1 - i) ≡ take (i + 1) (down n) ++ drop (i + 1) ys
down_more n i ys h k =
    let q : i < length (down n) = simp length_down h in
    rw (add-one, ← get_d_down n i h) (copy (down n) ys i q k)

-- two runs put together are told apart by the length of the first
pub append_one : (a b c d : List ℕ) → length a ≡ length c → a ++ b ≡ c ++ d → (a ≡ c) × (b ≡ d)
append_one [] b [] d l e = (refl, e)
append_one [] b (y ∷ c) d l e = absurd (omega arith)
append_one (x ∷ a) b [] d l e = absurd (omega arith)
append_one (x ∷ a) b (y ∷ c) d l e =
    let h : x ≡ y = cc in
    let t : a ++ b ≡ c ++ d = cc in
    let (p, q) = append_one a b c d (omega arith) t in
    (ap₂ ◌∷◌ h p, q)

-- the first run of two
pub take_first : (a b : List ℕ) (k : ℕ) → k ≡ length a → take k (a ++ b) ≡ a
take_first a b k e = rw e (take-append-le (length a) a b (omega arith) ∙ take_all (length a) a (omega arith))

-- a place of the first run, and of the second
pub get_d_first : (a b : List ℕ) (i : ℕ) → i < length a → get_or (a ++ b) i 0 ≡ get_or a i 0
get_d_first a b i l = sym (get_or-take (length a) (a ++ b) i 0 l) ∙ ap (λ (x : List ℕ). get_or x i 0) (take_first a b (length a) refl)

pub get_d_later : (a b : List ℕ) (i : ℕ) → length a ≤ i → get_or (a ++ b) i 0 ≡ get_or b (i - length a) 0
get_d_later a b i l = let e : length a + (i - length a) ≡ i = omega arith in rw e at (get_or-append-add a b (i - length a) 0)

-- a part of the first run, and of the second
pub part_first : (a b : List ℕ) (at k : ℕ) → at + k ≤ length a → part (a ++ b) at k ≡ part a at k
unfolding part
part_first a b at k l =
    ap (take k) (drop-append-le at a b (omega arith)) ∙ take-append-le k (drop at a) b (omega (arith, length-drop at a))

drop_later : (a b : List ℕ) (i : ℕ) → length a ≤ i → drop i (a ++ b) ≡ drop (i - length a) b
drop_later [] b i l = rw (sub-zero i)
drop_later (x ∷ a) b zero l = absurd (omega arith)
drop_later (x ∷ a) b (suc i) l = drop_later a b i (omega arith) ∙ ap (λ (j : ℕ). drop j b) (sym (suc-sub-suc i (length a)))

pub part_later : (a b : List ℕ) (at k : ℕ) → length a ≤ at → part (a ++ b) at k ≡ part b (at - length a) k
unfolding part
part_later a b at k l = ap (take k) (drop_later a b at l)

-- a number of the first run set, and one of the second
pub set_first : (a b : List ℕ) (i x : ℕ) → i < length a → set (a ++ b) i x ≡ set a i x ++ b
set_first [] b i x l = absurd (omega arith)
set_first (y ∷ a) b zero x l = refl
set_first (y ∷ a) b (suc i) x l = ap (λ (c : List ℕ). y ∷ c) (set_first a b i x (omega arith))

pub set_later : (a b : List ℕ) (i x : ℕ) → length a ≤ i → set (a ++ b) i x ≡ a ++ set b (i - length a) x
set_later [] b i x l = rw (sub-zero i)
set_later (y ∷ a) b zero x l = absurd (omega arith)
set_later (y ∷ a) b (suc i) x l =
    ap (λ (c : List ℕ). y ∷ c) (set_later a b i x (omega arith) ∙ ap (λ (j : ℕ). a ++ set b j x) (sym (suc-sub-suc i (length a))))

-- numbers of the first run set to 0, and numbers of the second
pub zeroed_first : (a b : List ℕ) (at k : ℕ) → at + k ≤ length a → zeroed (a ++ b) at k ≡ zeroed a at k ++ b
zeroed_first a b at k l =
    zeroed_is (a ++ b) at k (omega (arith, length-append a b))
    ∙ ap₂ (λ (x y : List ℕ). x ++ (replicate k 0 ++ y)) (take-append-le at a b (omega arith))
    (ap (drop k) (drop-append-le at a b (omega arith)) ∙ drop-append-le k (drop at a) b (omega (arith, length-drop at a)))
    ∙ ap (λ (x : List ℕ). take at a ++ x) (sym (append_assoc (replicate k 0) (drop k (drop at a)) b))
    ∙ sym (append_assoc (take at a) (replicate k 0 ++ drop k (drop at a)) b)
    ∙ ap (λ (x : List ℕ). x ++ b) (sym (zeroed_is a at k l))

zeroed_cons : (y : ℕ) (ys : List ℕ) (at k : ℕ) → zeroed (y ∷ ys) (suc at) k ≡ y ∷ zeroed ys at k
zeroed_cons y ys at k = go (dec_le (at + k) (length ys))
  where
    go : Dec (at + k ≤ length ys) → zeroed (y ∷ ys) (suc at) k ≡ y ∷ zeroed ys at k
    go (yes l) = zeroed_is (y ∷ ys) (suc at) k (omega arith) ∙ ap (λ (c : List ℕ). y ∷ c) (sym (zeroed_is ys at k l))
    go (no d) = zeroed_none (y ∷ ys) (suc at) k (omega arith) ∙ ap (λ (c : List ℕ). y ∷ c) (sym (zeroed_none ys at k (omega arith)))

pub zeroed_later : (a b : List ℕ) (at k : ℕ) → length a ≤ at → zeroed (a ++ b) at k ≡ a ++ zeroed b (at - length a) k
zeroed_later [] b at k l = rw (sub-zero at)
zeroed_later (y ∷ a) b zero k l = absurd (omega arith)
zeroed_later (y ∷ a) b (suc at) k l =
    zeroed_cons y (a ++ b) at k
    ∙ ap (λ (c : List ℕ). y ∷ c) (zeroed_later a b at k (omega arith) ∙ ap (λ (j : ℕ). a ++ zeroed b j k) (sym (suc-sub-suc at (length a))))

-- ---- zeros, one word after the other

-- one word after another to 0
pub zeroed_more : (ws : List ℕ) (i k : ℕ) → i + suc k ≤ length ws → zeroed (set ws i 0) (suc i) k ≡ zeroed ws i (suc k)
zeroed_more ws i k l = ext_get_or 0 _ _ long (λ j _. at j (dec_lt j i) (ℕ_discrete j i) (dec_lt j (i + suc k)))
  where
    long : length (zeroed (set ws i 0) (suc i) k) ≡ length (zeroed ws i (suc k))
    long = length_zeroed (set ws i 0) (suc i) k ∙ length-set ws i 0 ∙ sym (length_zeroed ws i (suc k))

    in_set : suc i + k ≤ length (set ws i 0)
    in_set = omega (arith, length-set ws i 0)

    at : (j : ℕ) → Dec (j < i) → Dec (j ≡ i) → Dec (j < i + suc k) → get_or (zeroed (set ws i 0) (suc i) k) j 0 ≡ get_or (zeroed ws i (suc k)) j 0
    at j (yes a) b c =
        get_d_zeroed_before (set ws i 0) (suc i) k j (omega arith)
        ∙ get_or-set_other ws i j 0 0 (λ e. omega arith)
        ∙ sym (get_d_zeroed_before ws i (suc k) j a)
    at j (no a) (yes b) c =
        get_d_zeroed_before (set ws i 0) (suc i) k j (omega arith)
        ∙ ap (λ (x : ℕ). get_or (set ws i 0) x 0) b
        ∙ get_or-set_same ws i 0 0 (omega arith)
        ∙ sym (get_d_zeroed ws i (suc k) l j (omega arith) (omega arith))
    at j (no a) (no b) (yes c) =
        get_d_zeroed (set ws i 0) (suc i) k in_set j (omega arith) (omega arith) ∙ sym (get_d_zeroed ws i (suc k) l j (omega arith) c)
    at j (no a) (no b) (no c) =
        get_d_zeroed_after (set ws i 0) (suc i) k j (omega arith)
        ∙ get_or-set_other ws i j 0 0 b
        ∙ sym (get_d_zeroed_after ws i (suc k) j (omega arith))

pub zeroed_zero : (ws : List ℕ) (i : ℕ) → zeroed ws i 0 ≡ ws
zeroed_zero ws i = ext_get_or 0 _ _ (length_zeroed ws i 0) (λ j _. at j (dec_lt j i))
  where
    at : (j : ℕ) → Dec (j < i) → get_or (zeroed ws i 0) j 0 ≡ get_or ws j 0
    at j (yes a) = get_d_zeroed_before ws i 0 j a
    at j (no a) = get_d_zeroed_after ws i 0 j (omega arith)

-- a word that is 0 need not be written
pub zeroed_kept : (ws : List ℕ) (i k : ℕ) → i + suc k ≤ length ws → get_or ws i 0 ≡ 0 → zeroed ws (suc i) k ≡ zeroed ws i (suc k)
zeroed_kept ws i k l e =
    let kept : set ws i 0 ≡ ws = ap (λ (x : ℕ). set ws i x) (sym e) ∙ set-get_or ws i 0 in
    ap (λ (x : List ℕ). zeroed x (suc i) k) (sym kept) ∙ zeroed_more ws i k l
