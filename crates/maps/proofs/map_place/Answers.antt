-- `maps::map_place`: where the walk ended, or in the table that was taken last.
use native.Mathlib.Omega.{arith}
use Rattle.path.specs.Geometry.{granule_of}
use Rattle.path.specs.Laws.{granule_sane}
use Rattle.maps.proofs.Links.{place_first, place_later}
use Rattle.maps.proofs.map_place.Goals as goal

pub returns-then-k-eq0 : goal.returns-then-k-eq0
returns-then-k-eq0 c t e =
    let a = c.args in
    place_first (granule_of a.granule) a.list.now a.address a.height t a.free a.need a.k c.if-k-eq0.true e

pub overflow_add-need : goal.overflow_add-need
overflow_add-need c = omega (arith, granule_sane c.args.granule)

pub returns : goal.returns
returns c t e =
    let a = c.args in
    place_later (granule_of a.granule) a.list.now a.address a.height t a.free a.need a.k (granule_sane a.granule) (omega arith) (omega arith)
    c.place-t.ensures c.index_at-i.ensures c.entry_place.ensures
