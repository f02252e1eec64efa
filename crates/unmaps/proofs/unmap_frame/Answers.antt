-- `unmaps::unmap_frame`: the test for the mapping's start, then the frame's word, and its table where that does not stay.
use Prim.Native.Nat.{◌-◌}
use mathlib.Core.Path.{sym, ◌∙◌}
use mathlib.Core.List.{◌++◌}
use native.Mathlib.Omega.{arith}
use Rattle.path.specs.Geometry.{granule_of}
use Rattle.path.specs.Areas.{area_of, total}
use Rattle.path.specs.Laws.{granule_sane, good_setup_lem}
use Rattle.path.specs.Paths.{path_of}
use Rattle.unmaps.proofs.Unmaps.{size_known, rest_known, place_parts, place_table, stays_none, stays_not, there_inside, there_one}
use Rattle.unmaps.proofs.unmap_frame.Goals as goal

pub returns-then-rest_at-ne0 : goal.returns-then-rest_at-ne0
returns-then-rest_at-ne0 c =
    let a = c.args in
    let g = good_setup_lem c.requires.0 in
    there_inside _ _ _ _ _ _ _ _ _ _ (rest_known (granule_sane a.s.granule) g c.requires.1.0 a.address c.rest_at.ensures) c.if-rest_at-ne0.true

pub overflow_sub-top : goal.overflow_sub-top
overflow_sub-top c =
    let g = good_setup_lem c.requires.0 in
    omega (arith, granule_sane c.args.s.granule, g)

pub stays-requires : goal.stays-requires
stays-requires c =
    let a = c.args in
    let g = good_setup_lem c.requires.0 in
    omega (arith, g, place_table (granule_of a.s.granule) (total (area_of a.s)) g.numbers.words_are c.requires.1.1.0)

pub unmap_more-requires : goal.unmap_more-requires
unmap_more-requires c =
    let a = c.args in
    let g = good_setup_lem c.requires.0 in
    let w = place_parts (granule_of a.s.granule) a.way.now a.address a.end.height c.requires.1.1.1 in
    let x = stays_not (granule_of a.s.granule) (a.words.now ++ a.second.now) a.end.height (a.s.levels - 1) _ _ (c.stays.ensures a.s.tables g.numbers.cut_is) c.if-not-stays.true-raw in
    (c.requires.0, (x.0, (sym (rest_known (granule_sane a.s.granule) g c.requires.1.0 a.address c.rest_at.ensures) ∙ c.if-rest_at-ne0.false, rw (← w.0, ← w.1) x.1)))

pub returns-then-not-stays : goal.returns-then-not-stays
returns-then-not-stays c = c.unmap_more.ensures

pub returns : goal.returns
returns c =
    let a = c.args in
    let g = good_setup_lem c.requires.0 in
    let w = place_parts (granule_of a.s.granule) a.way.now a.address a.end.height c.requires.1.1.1 in
    there_one _ _ _ _ _ _ _ _ _ _ (sym (rest_known (granule_sane a.s.granule) g c.requires.1.0 a.address c.rest_at.ensures) ∙ c.if-rest_at-ne0.false) (size_known (granule_sane a.s.granule) g c.requires.1.0 c.size_at.ensures)
    (stays_none (granule_of a.s.granule) (a.words.now ++ a.second.now) a.way.now (path_of (granule_of a.s.granule) a.address) a.end.height (a.s.levels - 1) w.0 w.1 (c.stays.ensures a.s.tables g.numbers.cut_is) c.if-not-stays.false-raw)
    (omega (arith, g))
    c.requires.1.1.1
    c.put.ensures c.put.auto.words
