-- `oakabut::oak_unmap_range` hands on what the call of `pagetable` answers. Assumes nothing.
use mathlib.Core.Path.{ap, ◌∙◌}
use mathlib.Core.List.{◌++◌}
use lib.ListN.{length}
use Rattle.path.specs.Geometry.{granule_of}
use Rattle.path.specs.declared.Setup.{Setup}
use Rattle.model.specs.Answers.{pool}
use Rattle.model.specs.Ranges.{unmap_range_w}
use Rattle.oakabut.specs.Surface.{remove_places}
use Rattle.oakabut.proofs.Hands.{leaves}
use Rattle.oakabut.proofs.oak_unmap_range.Goals as goal

pub returns : goal.returns
returns c =
    let a = c.args in
    let e = ap (λ (z : Setup). unmap_range_w (granule_of z.granule) (pool z (a.words.now ++ a.second.now) (length a.words.now) a.list.now) a.address a.len) c.setup_at-p.ensures in
    leaves remove_places (c.unmap_range-done.ensures.whole ∙ e) c.removed.ensures
