-- `pagetable::audit` is `audit::audit`, whose promise gives the ledger's. Assumes nothing.
use mathlib.Core.List.{◌++◌}
use lib.ListN.{length}
use Rattle.path.specs.Geometry.{granule_of}
use Rattle.path.specs.Laws.{granule_sane}
use Rattle.model.specs.Answers.{pool}
use Rattle.demand.specs.Demand3 as question
use Rattle.demand.specs.ClauseLaws.{asked_by_ledger}
use Rattle.pagetable.proofs.audit.Goals as goal

pub returns : goal.returns
returns c =
    let e = c.audit.ensures in
    let a = c.args in
    let p = pool a.s (a.words.now ++ a.second.now) (length a.words.now) a.list.now in
    record {
      whole = e;
      ledger = asked_by_ledger (granule_of a.s.granule) (granule_sane a.s.granule) p question.audit _ e;
    }
