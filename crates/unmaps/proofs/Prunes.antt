-- The writes of an unmap, one by one in their order.
use Prim.Native.Nat.{ℕ, zero, suc, ◌+◌, ◌-◌, ◌*◌, ◌/◌, ◌%◌, ◌≤◌, ◌<◌}
use mathlib.Core.Path.{◌≡◌, refl, sym, ap, ◌∙◌}
use mathlib.Core.Logic.{◌⊎◌, ⊎_elim}
use mathlib.Core.List.{List, [], ◌∷◌}
use native.Mathlib.Nat.{add-zero, sub-zero}
use native.Mathlib.Numerals.{add-one, sub-one}
use native.Mathlib.Omega.{arith}
use lib.ListN.{length, get_or, take, drop}
use lib.Seq.{take_all}
use Rattle.path.specs.Geometry.{Granule}
use Rattle.model.specs.Walk.{slot, at_height}
use Rattle.model.specs.Writes.{store, give, prune_writes, unmap_writes}
use Rattle.plans.specs.Plan.{IsWrite}
use Rattle.plans.specs.Steps.{starts_with, goes_on}

module _ (G : Granule) (way path : List ℕ) where
  -- the parent's entry is cleared, then the table goes on the free list
  pub prune_more : (h f k : ℕ) → 0 < k
      → prune_writes G way path h f k
      ≡ store (slot G (at_height way (suc h)) (at_height path (suc h))) 0 ∷ give f (at_height way h) ∷ prune_writes G way path (suc h) (suc f) (k - 1)
  unfolding prune_writes
  prune_more h f zero l = absurd (omega arith)
  prune_more h f (suc k) l = rw (sub-one (suc k))

  pub prune_last : (h f k : ℕ) → k ≡ 0 → prune_writes G way path h f k ≡ []
  unfolding prune_writes
  prune_last h f k e = rw e

  prune_length : (h f n : ℕ) → length (prune_writes G way path h f n) ≡ 2 * n
  unfolding prune_writes
  prune_length h f zero = refl
  prune_length h f (suc n) = omega (arith, prune_length (suc h) (suc f) n)

  -- these are all
  pub unmap_all : (h f n : ℕ) → take (2 * n + 1) (unmap_writes G way path h f n) ≡ unmap_writes G way path h f n
  unmap_all h f n = take_all (2 * n + 1) (unmap_writes G way path h f n) (omega (arith, prune_length h f n))

  -- once k tables are gone, those of the tables that are left
  prune_from : (k h f n : ℕ) → k ≤ n → drop (2 * k) (prune_writes G way path h f n) ≡ prune_writes G way path (h + k) (f + k) (n - k)
  unfolding prune_writes
  prune_from zero h f n l = rw (add-zero h, add-zero f, sub-zero n)
  prune_from (suc k) h f zero l = absurd (omega arith)
  prune_from (suc k) h f (suc n) l =
      let two : 2 * suc k ≡ suc (suc (2 * k)) = omega arith in
      let up : suc h + k ≡ h + suc k = omega arith in
      let next : suc f + k ≡ f + suc k = omega arith in
      let more : n - k ≡ suc n - suc k = omega arith in
      rw two (prune_from k (suc h) (suc f) n (omega arith) ∙ (λ j. prune_writes G way path (up j) (next j) (more j)))

  module _ (h f n i : ℕ) where
    -- the writes of the next table
    from_next : (k : ℕ) → k < n
        → drop (2 * k + 1) (unmap_writes G way path h f n)
        ≡ store (slot G (at_height way (suc (h + k))) (at_height path (suc (h + k)))) 0 ∷ give (f + k) (at_height way (h + k)) ∷ prune_writes G way path (suc (h + k)) (suc (f + k)) (n - k - 1)
    from_next k l = rw add-one (prune_from k h f n (omega arith) ∙ prune_more (h + k) (f + k) (n - k) (omega arith))

    pub is_clear : {place : ℕ} → (i ≡ 0) ⊎ (i % 2 ≡ 1) → i ≤ 2 * n
        → place ≡ slot G (at_height way (h + (i + 1) / 2)) (at_height path (h + (i + 1) / 2)) → IsWrite (unmap_writes G way path h f n) i (store place 0)
    is_clear {place} b m p = ⊎_elim first later b
      where
        first : i ≡ 0 → IsWrite (unmap_writes G way path h f n) i (store place 0)
        first z =
            let own : h + (i + 1) / 2 ≡ h = omega arith in
            starts_with (unmap_writes G way path h f n) i
            (ap (λ (j : ℕ). drop j (unmap_writes G way path h f n)) z
            ∙ ap (λ (x : ℕ). store x 0 ∷ prune_writes G way path h f n) (sym (p ∙ ap (λ (g : ℕ). slot G (at_height way g) (at_height path g)) own)))

        later : i % 2 ≡ 1 → IsWrite (unmap_writes G way path h f n) i (store place 0)
        later o =
            let odd : i ≡ 2 * (i / 2) + 1 = omega arith in
            let up : h + (i + 1) / 2 ≡ suc (h + i / 2) = omega arith in
            starts_with (unmap_writes G way path h f n) i
            (ap (λ (j : ℕ). drop j (unmap_writes G way path h f n)) odd
            ∙ from_next (i / 2) (omega arith)
            ∙ ap (λ (x : ℕ). store x 0 ∷ give (f + i / 2) (at_height way (h + i / 2)) ∷ prune_writes G way path (suc (h + i / 2)) (suc (f + i / 2)) (n - i / 2 - 1))
            (sym (p ∙ ap (λ (g : ℕ). slot G (at_height way g) (at_height path g)) up)))

    pub is_give : {place table : ℕ} → 0 < i → i % 2 ≡ 0 → i ≤ 2 * n → place ≡ f + (h + (i + 1) / 2 - h - 1) → table ≡ get_or way (3 - (h + (i + 1) / 2 - 1)) 0
        → IsWrite (unmap_writes G way path h f n) i (give place table)
    is_give {place} {table} some even m p t =
        let k : ℕ = i / 2 - 1 in
        let twice : i ≡ 2 * (i / 2 - 1) + 1 + 1 = omega arith in
        let next : f + (h + (i + 1) / 2 - h - 1) ≡ f + (i / 2 - 1) = omega arith in
        let own : 3 - (h + (i + 1) / 2 - 1) ≡ 3 - (h + (i / 2 - 1)) = omega arith in
        starts_with (unmap_writes G way path h f n) i
        (ap (λ (j : ℕ). drop j (unmap_writes G way path h f n)) twice
        ∙ goes_on (unmap_writes G way path h f n) (2 * k + 1) (from_next k (omega arith))
        ∙ (λ j. give (sym (p ∙ next) j) (sym (t ∙ ap (λ (g : ℕ). get_or way g 0) own) j) ∷ prune_writes G way path (suc (h + k)) (suc (f + k)) (n - k - 1)))
