-- `indices::index_at` meets its contract: 0 bits say that no level has the height.
use mathlib.Core.Path.{sym}
use Rattle.path.specs.Geometry.{granule_of}
use Rattle.path.specs.Paths.{index_at}
use Rattle.path.specs.Laws.{granule_sane, level_some, bits_none, bits_level, bits_fit, bits_size}
use Rattle.indices.proofs.index_at.Goals as goal

pub returns-then-below-eq0 : goal.returns-then-below-eq0
returns-then-below-eq0 c = let g = c.args.granule in sym (bits_none (granule_of g) (granule_sane g) _ c.bits_at-below.ensures c.if-below-eq0.true _)

pub overflow_shr-address : goal.overflow_shr-address
overflow_shr-address c = let g = c.args.granule in bits_fit (granule_of g) (granule_sane g) _ c.bits_at-below.ensures c.if-below-eq0.false

pub returns : goal.returns
unfolding index_at
returns c =
    let a = c.args in
    let G = granule_of a.granule in
    let S = granule_sane a.granule in
    let l = bits_level G S _ c.bits_at-below.ensures c.if-below-eq0.false in
    rw (c.index_in.ensures, bits_size G S _ c.bits_at-below.ensures c.if-below-eq0.false, level_some G l (index_at G a.address a.height))
