-- `oakabut::oak_query` is the call by setup numbers, of 4 KiB with that number written out. Assumes nothing.
use mathlib.Core.Path.{ap}
use mathlib.Core.List.{◌++◌}
use lib.ListN.{length}
use Rattle.path.specs.Geometry.{granule_of}
use Rattle.path.specs.declared.Setup.{Setup}
use Rattle.model.specs.Answers.{pool}
use Rattle.model.specs.Calls.{query_w}
use Rattle.oakabut.proofs.Hands.{hears}
use Rattle.oakabut.proofs.oak_query.Goals as goal

pub returns-then-s-eq-KIB4 : goal.returns-then-s-eq-KIB4
returns-then-s-eq-KIB4 c =
    let a = c.args in
    hears
    (ap (λ (z : Setup). query_w (granule_of z.granule) (pool z (a.words.now ++ a.second.now) (length a.words.now) a.list.now) a.address) (c.setup_of_four.ensures c.if-s-eq-KIB4.true))
    c.query_by.ensures

pub returns : goal.returns
returns c =
    let a = c.args in
    hears
    (ap (λ (z : Setup). query_w (granule_of z.granule) (pool z (a.words.now ++ a.second.now) (length a.words.now) a.list.now) a.address) c.setup_at.ensures)
    c.query_by-2.ensures
