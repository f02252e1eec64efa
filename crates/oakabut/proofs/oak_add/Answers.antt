-- `oakabut::oak_add` hands on what the call of `pagetable` answers. Assumes nothing.
use mathlib.Core.Path.{ap, ◌∙◌}
use mathlib.Core.List.{◌++◌}
use lib.ListN.{length}
use Rattle.path.specs.Geometry.{granule_of}
use Rattle.path.specs.declared.Setup.{Setup}
use Rattle.model.specs.Answers.{pool}
use Rattle.model.specs.Adds.{add_w}
use Rattle.oakabut.specs.Surface.{setup_places}
use Rattle.oakabut.proofs.Hands.{leaves}
use Rattle.oakabut.proofs.oak_add.Goals as goal

pub returns : goal.returns
returns c =
    let a = c.args in
    let e = ap (λ (z : Setup). add_w (granule_of z.granule) (pool z (a.words.now ++ a.second.now) (length a.words.now) a.list.now) a.base2 a.tables2) c.setup_at-p.ensures in
    leaves setup_places (c.add-done.ensures.whole ∙ e) c.formatted.ensures
