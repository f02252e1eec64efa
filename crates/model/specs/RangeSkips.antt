-- What the laws of proofs/RangeSkips.antt speak of.
use Rattle.std.specs.Prelude.{ℕ, ◌≡◌, false}
use mathlib.Core.List.{List}
use Rattle.path.specs.Geometry.{Granule}
use Rattle.model.specs.Answers.{tables_in, Pool}
use Rattle.model.specs.Calls.{unmap_w}
use Rattle.model.specs.Ranges.{answers_of, left_by, sum_of, accepted_in, any_refused}

-- unmaps that change nothing, and none of which answers 8
pub record Passed (G : Granule) (p : Pool) (xs : List ℕ) : Type 0 where
  pub after : left_by (unmap_w G) p xs ≡ p
  pub removed : sum_of accepted_in (answers_of (unmap_w G) p xs) ≡ 0
  pub given : sum_of tables_in (answers_of (unmap_w G) p xs) ≡ 0
  pub fine : any_refused 8 (answers_of (unmap_w G) p xs) ≡ false
