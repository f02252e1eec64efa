-- `pagetable::add` is `adds::add`, with the setup beside a refusal; its promise gives the ledger's. Assumes nothing.
use mathlib.Core.List.{◌++◌}
use lib.ListN.{length}
use Rattle.path.specs.Geometry.{granule_of}
use Rattle.path.specs.Laws.{granule_sane}
use Rattle.model.specs.Answers.{pool, says_add}
use Rattle.demand.specs.ClauseLaws.{add_by_ledger}
use Rattle.pagetable.proofs.Hands.{hands}
use Rattle.pagetable.proofs.add.Goals as goal

pub returns : goal.returns
returns c =
    let a = c.args in
    let e = hands says_add (λ t. t) a.s _ _ _ _ _ c.with_setup.ensures c.add-added.ensures in
    record {
      whole = e;
      ledger = add_by_ledger (granule_of a.s.granule) (granule_sane a.s.granule) (pool a.s (a.words.now ++ a.second.now) (length a.words.now) a.list.now) a.base2 a.tables2 _ e;
    }
