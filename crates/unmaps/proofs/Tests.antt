-- The tests of unmap's argument, one after the other.
use Prim.Native.Nat.{ℕ, ◌+◌, ◌%◌, ◌<◌}
use mathlib.Core.Path.{◌≡◌, sym, ◌∙◌}
use mathlib.Core.Logic.{◌≢◌}
use mathlib.Core.Bool.{Bool, true, false, not, ◌&&◌}
use native.Mathlib.Omega.{arith}
use borrow.Author.Tests.{not-true, not-false, le-leb, lt-leb, eq-eqb, ne_eqb}
use lib.Dec.{leb}
use Rattle.path.specs.Geometry.{Granule, page_size, good_levels, space_of}
use Rattle.path.specs.Laws.{in_space, past_space}
use Rattle.model.specs.Calls.{unmap_tests}

module _ (G : Granule) (levels a : ℕ) {inside : Bool} (s : inside ≡ (good_levels G levels && leb (a + 1) (space_of G levels))) where
  pub unmap_refuses_address : not inside ≡ true → 4 ≡ unmap_tests G levels a
  unfolding unmap_tests
  unmap_refuses_address n =
      let l = past_space G levels a 1 (sym s ∙ not-true _ n) (omega arith) in
      rw (le-leb (space_of G levels) a (omega arith))

  module _ (n : not inside ≡ false) where
    starts : a < space_of G levels
    starts = omega (arith, in_space G levels a 1 (sym s ∙ not-false _ n))

    pub unmap_refuses_unaligned : (a % page_size G ≢ 0) → 5 ≡ unmap_tests G levels a
    unfolding unmap_tests
    unmap_refuses_unaligned t = rw (lt-leb _ _ starts, ne_eqb _ _ t)

    pub unmap_refuses_nothing : a % page_size G ≡ 0 → 0 ≡ unmap_tests G levels a
    unfolding unmap_tests
    unmap_refuses_nothing t = rw (lt-leb _ _ starts, eq-eqb _ _ t)
