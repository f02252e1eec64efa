-- `rangeunmaps::past` meets its contract.
use Rattle.std.specs.Prelude.{◌+◌, ◌≤◌, min}
use mathlib.Core.Path.{◌≡◌, ◌∙◌}
use native.Mathlib.Omega.{arith}
use Rattle.path.specs.Geometry.{granule_of, size_at, physical}
use Rattle.path.specs.Paths.{base_at}
use Rattle.path.specs.Laws.{granule_sane, level_some, size_fits}
use Rattle.path.specs.RegionLaws.{base_le}
use Rattle.rangeunmaps.proofs.past.Goals as goal
use Rattle.rangeunmaps.proofs.past.Goals.{After-size_at-size}

base_is : (c : After-size_at-size) → let a = c.args in c.base_at-base.result ≡ base_at (granule_of a.granule) a.address a.height
base_is c = let a = c.args in c.base_at-base.ensures ∙ level_some (granule_of a.granule) c.requires.0 _

size_is : (c : After-size_at-size) → let a = c.args in c.size_at-size.result ≡ size_at (granule_of a.granule) a.height
size_is c = let a = c.args in c.size_at-size.ensures ∙ level_some (granule_of a.granule) c.requires.0 _

pub overflow_add-base : goal.overflow_add-base
overflow_add-base c =
    let a = c.args in
    let G = granule_of a.granule in
    let l : size_at G a.height ≤ physical = size_fits G (granule_sane a.granule) (omega (arith, c.requires.0)) in
    omega (arith, base_is (goal.at.overflow_add-base c).After-size_at-size, size_is (goal.at.overflow_add-base c).After-size_at-size, base_le G a.address a.height, c.requires.1)

pub returns : goal.returns
returns c = c.min.ensures ∙ (λ i. min (base_is (goal.at.returns c).After-size_at-size i + size_is (goal.at.returns c).After-size_at-size i) c.args.end)
