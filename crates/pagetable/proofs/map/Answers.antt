-- `pagetable::map` is `maps::map`, with the setup beside a refusal; its promise gives the ledger's. Assumes nothing.
use mathlib.Core.List.{◌++◌}
use lib.ListN.{length}
use Rattle.path.specs.Geometry.{granule_of}
use Rattle.path.specs.Laws.{granule_sane}
use Rattle.model.specs.Answers.{pool, says_map}
use Rattle.demand.specs.Demand3.{map_c}
use Rattle.demand.specs.ClauseLaws.{by_ledger}
use Rattle.pagetable.proofs.Hands.{hands}
use Rattle.pagetable.proofs.map.Goals as goal

pub returns : goal.returns
returns c =
    let a = c.args in
    let e = hands says_map (λ m. m.setup) a.s _ _ _ _ _ c.with_setup.ensures c.map-mapped.ensures in
    record {
      whole = e;
      ledger = by_ledger (granule_of a.s.granule) (granule_sane a.s.granule) (pool a.s (a.words.now ++ a.second.now) (length a.words.now) a.list.now) (map_c a.address a.frame a.size a.attributes) _ e;
    }
