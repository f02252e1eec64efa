-- `unmaps::unmap_more`: the count of the tables that come free, then the writes.
use Prim.Native.Nat.{◌+◌, ◌-◌}
use mathlib.Core.Path.{refl}
use mathlib.Core.List.{◌++◌}
use native.Mathlib.Omega.{arith}
use Rattle.path.specs.Geometry.{granule_of}
use Rattle.path.specs.Paths.{path_of}
use Rattle.path.specs.Laws.{granule_sane, good_setup_lem}
use Rattle.unmaps.proofs.Frees.{freed_most}
use Rattle.unmaps.proofs.Unmaps.{size_known, there_full, there_done, freed_first}
use Rattle.unmaps.proofs.unmap_more.Goals as goal

pub overflow_sub-top : goal.overflow_sub-top
overflow_sub-top c =
    let a = c.args in
    let g = good_setup_lem c.requires.0 in
    omega (arith, granule_sane a.s.granule, g, c.requires.1.0)

pub overflow_add-left : goal.overflow_add-left
overflow_add-left c =
    let a = c.args in
    let g = good_setup_lem c.requires.0 in
    omega (arith, granule_sane a.s.granule, g, c.requires.1.0)

pub count_freed-given-requires : goal.count_freed-given-requires
count_freed-given-requires c =
    let a = c.args in
    let g = good_setup_lem c.requires.0 in
    omega (arith, granule_sane a.s.granule, g, c.requires.1.0)

pub overflow_add-given : goal.overflow_add-given
overflow_add-given c =
    let a = c.args in
    let g = good_setup_lem c.requires.0 in
    omega (arith, granule_sane a.s.granule, g, c.requires.1.0, c.count_freed-given.ensures a.s.tables g.numbers.cut_is, freed_most (granule_of a.s.granule) (a.words.now ++ a.second.now) a.way.now (path_of (granule_of a.s.granule) a.address) (a.left + 1) (a.s.levels - 1 - (a.left + 1)))

pub overflow_add-free : goal.overflow_add-free
overflow_add-free c =
    let a = c.args in
    let g = good_setup_lem c.requires.0 in
    omega (arith, granule_sane a.s.granule, g, c.requires.1.0, c.count_freed-given.ensures a.s.tables g.numbers.cut_is, freed_most (granule_of a.s.granule) (a.words.now ++ a.second.now) a.way.now (path_of (granule_of a.s.granule) a.address) (a.left + 1) (a.s.levels - 1 - (a.left + 1)))

pub overflow_add-most : goal.overflow_add-most
overflow_add-most c = omega (arith, good_setup_lem c.requires.0)

pub overflow_sub-most : goal.overflow_sub-most
overflow_sub-most c =
    let a = c.args in
    let g = good_setup_lem c.requires.0 in
    omega (arith, g, c.requires.1.0)

pub returns-then-free-most : goal.returns-then-free-most
returns-then-free-most c =
    let a = c.args in
    let g = good_setup_lem c.requires.0 in
    there_full _ _ _ _ _ _ _ _ _ _ c.requires.1.1.0
    (size_known (granule_sane a.s.granule) g (omega (arith, c.requires.1.0)) c.size_at-size.ensures)
    (freed_first (granule_of a.s.granule) (a.words.now ++ a.second.now) a.way.now a.address a.left (a.s.levels - 1) c.requires.1.0 c.requires.1.1.1 (c.count_freed-given.ensures a.s.tables g.numbers.cut_is))
    c.if-free-most.true

pub unmap_writes-requires : goal.unmap_writes-requires
unmap_writes-requires c =
    let a = c.args in
    let g = good_setup_lem c.requires.0 in
    omega (arith, granule_sane a.s.granule, g, c.requires.1.0, c.count_freed-given.ensures a.s.tables g.numbers.cut_is, freed_most (granule_of a.s.granule) (a.words.now ++ a.second.now) a.way.now (path_of (granule_of a.s.granule) a.address) (a.left + 1) (a.s.levels - 1 - (a.left + 1)))

pub returns : goal.returns
returns c =
    let a = c.args in
    let g = good_setup_lem c.requires.0 in
    let writes = c.unmap_writes in
    there_done _ _ _ _ _ _ _ _ _ _ c.requires.1.1.0
    (size_known (granule_sane a.s.granule) g (omega (arith, c.requires.1.0)) c.size_at-size.ensures)
    (freed_first (granule_of a.s.granule) (a.words.now ++ a.second.now) a.way.now a.address a.left (a.s.levels - 1) c.requires.1.0 c.requires.1.1.1 (c.count_freed-given.ensures a.s.tables g.numbers.cut_is))
    c.if-free-most.false
    (writes.ensures a.s.tables g.numbers.cut_is)
    writes.auto.words
    refl
