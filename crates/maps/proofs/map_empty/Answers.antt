-- `maps::map_empty`: the tests of the free list, then the writes.
use Prim.Native.Nat.{ℕ, ◌+◌, ◌-◌}
use mathlib.Core.Path.{◌≡◌, refl, ap, ◌∙◌}
use native.Mathlib.Omega.{arith}
use Rattle.path.specs.Geometry.{granule_of}
use Rattle.path.specs.Paths.{path_of}
use Rattle.path.specs.Laws.{granule_sane, good_setup_lem}
use Rattle.model.specs.Walk.{slot, at_height}
use Rattle.maps.proofs.Maps.{here_short, here_unfit, here_done}
use Rattle.maps.proofs.map_empty.Goals as goal

pub returns-then-free-need : goal.returns-then-free-need
returns-then-free-need c b k e =
    here_short _ _ _ _ _ _ _ _ _ _ _ c.if-free-need.true

pub overflow_add-s : goal.overflow_add-s
overflow_add-s c = omega (arith, good_setup_lem c.requires.0)

pub overflow_cast-s : goal.overflow_cast-s
overflow_cast-s c = omega (arith, good_setup_lem c.requires.0)

pub may_take-requires : goal.may_take-requires
may_take-requires c = omega (arith, granule_sane c.args.s.granule, good_setup_lem c.requires.0)

pub returns-then-not-may_take : goal.returns-then-not-may_take
returns-then-not-may_take c b k e =
    here_unfit _ _ _ _ _ _ _ _ _ _ _ c.if-free-need.false c.may_take.ensures c.if-not-may_take.true-raw

pub map_writes-requires : goal.map_writes-requires
map_writes-requires c = omega (arith, granule_sane c.args.s.granule, good_setup_lem c.requires.0)

pub returns : goal.returns
returns c b k e =
    let a = c.args in
    let pre = c.requires in
    let writes = c.map_writes in
    let all : a.end.height ≡ a.height + (a.end.height - a.height) = omega arith in
    here_done _ _ _ _ _ _ _ _ _ _ _
    c.if-free-need.false
    c.may_take.ensures
    c.if-not-may_take.false-raw
    e
    (writes.ensures (at_height a.way a.end.height) (pre.1.1.1 ∙ ap (λ (h : ℕ). slot (granule_of a.s.granule) (at_height a.way a.end.height) (at_height (path_of (granule_of a.s.granule) a.address) h)) all) a.s.tables (good_setup_lem pre.0).numbers.cut_is)
    writes.auto.words
    refl
