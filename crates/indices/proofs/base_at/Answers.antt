-- `indices::base_at` meets its contract: 0 bits say that no level has the height, and any others are cleared.
use mathlib.Core.Path.{sym, ◌∙◌}
use native.Mathlib.Nat.{mod-eq_of_lt}
use native.Mathlib.Omega.{arith}
use Rattle.path.specs.Geometry.{granule_of}
use Rattle.path.specs.Paths.{base_at}
use Rattle.path.specs.Laws.{granule_sane, level_some, bits_none, bits_level, bits_fit, bits_size}
use Rattle.path.specs.RegionLaws.{base_is, base_le}
use Rattle.indices.proofs.base_at.Goals as goal

pub returns-then-low-eq0 : goal.returns-then-low-eq0
returns-then-low-eq0 c = let g = c.args.granule in sym (bits_none (granule_of g) (granule_sane g) _ c.bits_at-low.ensures c.if-low-eq0.true _)

pub overflow_shr-result : goal.overflow_shr-result
overflow_shr-result c = let g = c.args.granule in bits_fit (granule_of g) (granule_sane g) _ c.bits_at-low.ensures c.if-low-eq0.false

pub overflow_shl-result : goal.overflow_shl-result
overflow_shl-result c = let g = c.args.granule in bits_fit (granule_of g) (granule_sane g) _ c.bits_at-low.ensures c.if-low-eq0.false

pub returns : goal.returns
returns c =
    let a = c.args in
    let G = granule_of a.granule in
    let S = granule_sane a.granule in
    let l = bits_level G S _ c.bits_at-low.ensures c.if-low-eq0.false in
    rw (bits_size G S _ c.bits_at-low.ensures c.if-low-eq0.false, level_some G l (base_at G a.address a.height))
    (mod-eq_of_lt (omega (arith, base_is G a.address a.height, base_le G a.address a.height)) ∙ sym (base_is G a.address a.height))
