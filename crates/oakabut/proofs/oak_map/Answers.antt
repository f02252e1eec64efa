-- `oakabut::oak_map` is the call by setup numbers, of 4 KiB with that number written out. Assumes nothing.
use mathlib.Core.Path.{ap}
use mathlib.Core.List.{◌++◌}
use lib.ListN.{length}
use Rattle.path.specs.Geometry.{granule_of}
use Rattle.path.specs.declared.Setup.{Setup}
use Rattle.model.specs.Answers.{pool}
use Rattle.model.specs.Calls.{map_w}
use Rattle.oakabut.proofs.Hands.{stays}
use Rattle.oakabut.proofs.oak_map.Goals as goal

pub returns-then-s-eq-KIB4 : goal.returns-then-s-eq-KIB4
returns-then-s-eq-KIB4 c =
    let a = c.args in
    stays
    (ap (λ (z : Setup). map_w (granule_of z.granule) (pool z (a.words.now ++ a.second.now) (length a.words.now) a.list.now) a.address a.frame a.size a.attributes) (c.setup_of_four.ensures c.if-s-eq-KIB4.true))
    c.map_by.ensures

pub returns : goal.returns
returns c =
    let a = c.args in
    stays
    (ap (λ (z : Setup). map_w (granule_of z.granule) (pool z (a.words.now ++ a.second.now) (length a.words.now) a.list.now) a.address a.frame a.size a.attributes) c.setup_at.ensures)
    c.map_by-2.ensures
