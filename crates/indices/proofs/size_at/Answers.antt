-- `indices::size_at` meets its contract: 0 bits say that no level has the height.
use mathlib.Core.Path.{sym}
use native.Mathlib.Omega.{arith}
use Rattle.path.specs.Geometry.{granule_of, size_at}
use Rattle.path.specs.Laws.{granule_sane, level_some, size_fits, bits_none, bits_level, bits_fit, bits_size}
use Rattle.indices.proofs.size_at.Goals as goal

pub returns-then-bits-eq0 : goal.returns-then-bits-eq0
returns-then-bits-eq0 c = let g = c.args.granule in sym (bits_none (granule_of g) (granule_sane g) _ c.bits_at-bits.ensures c.if-bits-eq0.true _)

pub overflow_shl-result : goal.overflow_shl-result
overflow_shl-result c = let g = c.args.granule in bits_fit (granule_of g) (granule_sane g) _ c.bits_at-bits.ensures c.if-bits-eq0.false

pub returns : goal.returns
returns c =
    let a = c.args in
    let G = granule_of a.granule in
    let S = granule_sane a.granule in
    let l = bits_level G S _ c.bits_at-bits.ensures c.if-bits-eq0.false in
    rw (bits_size G S _ c.bits_at-bits.ensures c.if-bits-eq0.false, level_some G l (size_at G a.height))
    (omega (arith, size_fits G S {h = a.height} (omega arith)))
