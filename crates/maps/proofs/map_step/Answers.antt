-- `maps::map_step`: two writes for each table, and the frame's word.
use Prim.Native.Nat.{◌/◌}
use native.Mathlib.Omega.{arith}
use Rattle.path.specs.Geometry.{granule_of}
use Rattle.path.specs.Areas.{area_of}
use Rattle.path.specs.Paths.{path_of}
use Rattle.links.specs.TreeLaws.{word_in}
use Rattle.maps.proofs.Links.{is_fill, is_link, is_last, link_word}
use Rattle.maps.proofs.map_step.Goals as goal

pub returns-then-k-need : goal.returns-then-k-need
returns-then-k-need c t e =
    let a = c.args in
    is_last (granule_of a.s.granule) (area_of a.s) (path_of (granule_of a.s.granule) a.address) a.list.now a.height a.word t a.s.free a.need (a.i / 2) a.i
    (omega arith) c.if-k-need.true (c.map_place-place.ensures t e)

pub returns-then-i-eq0 : goal.returns-then-i-eq0
returns-then-i-eq0 c t e =
    let a = c.args in
    is_fill (granule_of a.s.granule) (area_of a.s) (path_of (granule_of a.s.granule) a.address) a.list.now a.height a.word t a.s.free a.need (a.i / 2) a.i
    (omega arith) (omega arith) c.place-c.ensures

pub returns : goal.returns
returns c t e =
    let a = c.args in
    is_link (granule_of a.s.granule) (area_of a.s) (path_of (granule_of a.s.granule) a.address) a.list.now a.height a.word t a.s.free a.need (a.i / 2) a.i
    (omega arith) (omega arith) c.place-c.ensures (c.map_place-place.ensures t e)
    (link_word (area_of a.s) _ c.requires.0.0 c.requires.0.1.0 (word_in a.s c.of.ensures (omega arith) _ c.table_word-value.ensures))
