-- `indices::rest_at` meets its contract: 0 bits say that no level has the height.
use Prim.Native.Nat.{◌%◌}
use mathlib.Core.Path.{sym, ◌∙◌}
use native.Mathlib.Omega.{arith}
use Rattle.path.specs.Geometry.{granule_of, size_at}
use Rattle.path.specs.Paths.{base_at}
use Rattle.path.specs.Laws.{granule_sane, level_some, bits_none, bits_level}
use Rattle.path.specs.RegionLaws.{base_rest}
use Rattle.indices.proofs.rest_at.Goals as goal

pub returns-then-bits_at-eq0 : goal.returns-then-bits_at-eq0
returns-then-bits_at-eq0 c = let g = c.args.granule in sym (bits_none (granule_of g) (granule_sane g) _ c.bits_at.ensures c.if-bits_at-eq0.true _)

pub overflow_sub-result : goal.overflow_sub-result
overflow_sub-result c =
    let a = c.args in
    let G = granule_of a.granule in
    let l = bits_level G (granule_sane a.granule) _ c.bits_at.ensures c.if-bits_at-eq0.false in
    omega (arith, c.base_at.ensures ∙ level_some G l (base_at G a.address a.height), base_rest G a.address a.height)

pub returns : goal.returns
returns c =
    let a = c.args in
    let G = granule_of a.granule in
    let l = bits_level G (granule_sane a.granule) _ c.bits_at.ensures c.if-bits_at-eq0.false in
    rw (level_some G l (a.address % size_at G a.height))
    (omega (arith, c.base_at.ensures ∙ level_some G l (base_at G a.address a.height), base_rest G a.address a.height))
