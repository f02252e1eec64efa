-- `pagetable::unmap` is `unmaps::unmap`, with the setup beside a refusal; its promise gives the ledger's. Assumes nothing.
use mathlib.Core.List.{◌++◌}
use lib.ListN.{length}
use Rattle.path.specs.Geometry.{granule_of}
use Rattle.path.specs.Laws.{granule_sane}
use Rattle.model.specs.Answers.{pool, says_unmap}
use Rattle.demand.specs.Demand3.{unmap_c}
use Rattle.demand.specs.ClauseLaws.{by_ledger}
use Rattle.pagetable.proofs.Hands.{hands}
use Rattle.pagetable.proofs.unmap.Goals as goal

pub returns : goal.returns
returns c =
    let a = c.args in
    let e = hands says_unmap (λ u. u.setup) a.s _ _ _ _ _ c.with_setup.ensures c.unmap-unmapped.ensures in
    record {
      whole = e;
      ledger = by_ledger (granule_of a.s.granule) (granule_sane a.s.granule) (pool a.s (a.words.now ++ a.second.now) (length a.words.now) a.list.now) (unmap_c a.address) _ e;
    }
