-- Counting the tables that come free.
use Prim.Native.Nat.{ℕ, zero, suc, ◌+◌, ◌-◌, ◌≤◌, ◌<◌}
use mathlib.Core.Path.{◌≡◌, refl}
use mathlib.Core.Bool.{Bool, true, false, cond}
use mathlib.Core.List.{List}
use native.Mathlib.Numerals.{add-one, sub-one}
use native.Mathlib.Omega.{arith}
use Rattle.path.specs.Geometry.{Granule}
use Rattle.model.specs.Walk.{at_height}
use Rattle.model.specs.Writes.{only_entry, freed}

module _ (G : Granule) (ws way path : List ℕ) where
  pub freed_most : (h d : ℕ) → freed G ws way path h d ≤ d
  unfolding freed
  freed_most h zero = omega arith
  freed_most h (suc d) = go (only_entry G ws (at_height way h) (at_height path h)) (freed_most (suc h) d)
    where
      go : (b : Bool) → freed G ws way path (suc h) d ≤ d → cond b (suc (freed G ws way path (suc h) d)) 0 ≤ suc d
      go true l = omega arith
      go false l = omega arith

  -- a table that stays ends the count
  pub freed_stop : (h d : ℕ) → 0 < d → only_entry G ws (at_height way h) (at_height path h) ≡ false → freed G ws way path h d ≡ 0
  unfolding freed
  freed_stop h zero l e = refl
  freed_stop h (suc d) l e = rw e

  pub freed_more : (h d : ℕ) → 0 < d → only_entry G ws (at_height way h) (at_height path h) ≡ true → freed G ws way path h d ≡ suc (freed G ws way path (h + 1) (d - 1))
  unfolding freed
  freed_more h zero l e = absurd (omega arith)
  freed_more h (suc d) l e = rw (e, add-one, sub-one (suc d))

  pub freed_end : (h d : ℕ) → d ≡ 0 → freed G ws way path h d ≡ 0
  unfolding freed
  freed_end h d e = rw e
