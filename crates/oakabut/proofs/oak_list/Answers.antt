-- `oakabut::oak_list` hands on what the call of `pagetable` answers and writes. Assumes nothing.
use mathlib.Core.Path.{ap, ◌∙◌}
use Rattle.path.specs.Geometry.{granule_of}
use Rattle.path.specs.declared.Setup.{Setup}
use Rattle.model.specs.Answers.{pool}
use Rattle.model.specs.Listing.{list_w, leaves}
use Rattle.oakabut.proofs.Hands.{writes}
use mathlib.Core.List.{◌++◌}
use lib.ListN.{length}
use Rattle.oakabut.proofs.oak_list.Goals as goal

pub returns : goal.returns
returns c =
    let a = c.args in
    let e = ap (λ (z : Setup). leaves (list_w (granule_of z.granule) (pool z (a.words.now ++ a.second.now) (length a.words.now) a.list.now) a.start (length a.places.now) (length a.entries.now)) a.places.now a.entries.now) c.setup_at-p.ensures in
    writes (c.list-done.ensures.whole ∙ e) (c.listed.ensures _ _)
