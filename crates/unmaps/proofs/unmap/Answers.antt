-- `unmaps::unmap` makes its tests in their order, then walks.
use mathlib.Core.Path.{◌≡◌, refl, ap, ◌∙◌}
use mathlib.Core.Bool.{true}
use mathlib.Core.List.{◌++◌}
use lib.ListN.{length}
use native.Mathlib.Omega.{arith}
use Rattle.std.specs.Prelude.{Ok}
use Rattle.std.proofs.lemmas.Result.{err_from_is_err_and}
use Rattle.path.specs.Geometry.{granule_of}
use Rattle.path.specs.Areas.{area_of}
use Rattle.entry.specs.Words.{entry_at}
use Rattle.links.specs.TreeLaws.{read_in}
use Rattle.path.specs.Laws.{granule_sane, good_setup_lem}
use Rattle.model.specs.Calls.{good_pool, unmap_tests, unmap_at}
use Rattle.model.specs.Answers.{Answer, pool, done}
use Rattle.model.proofs.Refusing.{passed, good_both, hole_known}
use Rattle.model.proofs.TestedLaws.{tested_none}
use Rattle.lookup.specs.Reaches.{Came, came_by, came_inside, came_place}
use Rattle.unmaps.proofs.Unmaps.{unmap_bad, unmap_refuses, came_lost, came_left, came_at, came_bad}
use Rattle.unmaps.proofs.unmap.Goals as goal
use Rattle.unmaps.proofs.unmap.Goals.{Else-not-good_setup, In_ok-unmap_tests, In-Ok, After-read_word}

-- past the first test the numbers are good
good : (c : Else-not-good_setup)
    → let a = c.args in
    good_pool (granule_of a.s.granule) (pool a.s (a.words.now ++ a.second.now) (length a.words.now) a.list.now) ≡ true
good c =
    passed (good_both _ _ _ _ _ c.good_setup.ensures) c.if-not-good_setup.false-raw

-- past the second no test refused
tests : (c : In_ok-unmap_tests) → let a = c.args in unmap_tests (granule_of a.s.granule) a.s.levels a.address ≡ 0
tests c = tested_none _ c.in_ok-unmap_tests.ensures

-- and the walk ended at an entry
came : (c : In-Ok)
    → let a = c.args in
    good_pool (granule_of a.s.granule) (pool a.s (a.words.now ++ a.second.now) (length a.words.now) a.list.now) ≡ true
    → Came (granule_of a.s.granule) (pool a.s (a.words.now ++ a.second.now) (length a.words.now) a.list.now) 0 a.address (Ok c.in-Ok.end) c.reach.new.way
came c fine =
    let a = c.args in
    came_by (good_setup_lem fine) (omega arith) (granule_sane a.s.granule) c.in-Ok.ensures.end c.in-Ok.ensures.place (length a.words.now) a.list.now

pub returns-then-not-good_setup : goal.returns-then-not-good_setup
returns-then-not-good_setup c =
    unmap_bad _ _ _ (good_both _ _ _ _ _ c.good_setup.ensures) c.if-not-good_setup.true-raw

pub returns-in_err-unmap_tests : goal.returns-in_err-unmap_tests
returns-in_err-unmap_tests c =
    let (y, is, same) = err_from_is_err_and c.from_residual.result c.from_residual.ensures.1 in
    rw (is, same) (unmap_refuses _ _ _ (good_both _ _ _ _ _ c.good_setup.ensures) c.if-not-good_setup.false-raw _ c.in_err-unmap_tests.ensures)

pub returns-in_default : goal.returns-in_default
returns-in_default c =
    let a = c.args in
    let fine = good (goal.at.returns-in_default c).Else-not-good_setup in
    came_lost {p = pool a.s (a.words.now ++ a.second.now) (length a.words.now) a.list.now} fine (tests (goal.at.returns-in_default c).In_ok-unmap_tests)
    (came_by (good_setup_lem fine) (omega arith) (granule_sane a.s.granule) c.in_default.ensures.end c.in_default.ensures.place (length a.words.now) a.list.now)

-- what its word says
read : (c : After-read_word) → let a = c.args in
    good_pool (granule_of a.s.granule) (pool a.s (a.words.now ++ a.second.now) (length a.words.now) a.list.now) ≡ true
    → c.read_word.result ≡ entry_at (granule_of a.s.granule) (area_of a.s) c.in-Ok.end.height c.word-w.result
read c fine =
    read_in c.args.s c.of.ensures (omega (arith, good_setup_lem fine)) (omega (arith, good_setup_lem fine)) c.in-Ok.end.height c.word-w.result c.read_word.ensures

pub unmap_frame-requires : goal.unmap_frame-requires
unmap_frame-requires c =
    let fine = good (goal.at.unmap_frame-requires c).Else-not-good_setup in
    let C = came (goal.at.unmap_frame-requires c).In-Ok fine in
    (fine, (came_left C, (came_inside C, came_place C)))

pub returns-in-Frame : goal.returns-in-Frame
returns-in-Frame c =
    let fine = good (goal.at.returns-in-Frame c).Else-not-good_setup in
    c.unmap_frame.ensures
    ∙ came_at fine (tests (goal.at.returns-in-Frame c).In_ok-unmap_tests) (came (goal.at.returns-in-Frame c).In-Ok fine) c.word-w.ensures (read (goal.at.returns-in-Frame c).After-read_word fine) c.in-Frame.is

pub returns-in-Empty : goal.returns-in-Empty
unfolding unmap_at
returns-in-Empty c =
    let a = c.args in
    let fine = good (goal.at.returns-in-Empty c).Else-not-good_setup in
    ap (λ (x : Answer). done x (pool a.s (a.words.now ++ a.second.now) (length a.words.now) a.list.now))
    (c.hole_at.ensures
    ∙ hole_known (granule_of a.s.granule) a.address c.in-Ok.end.height
    (omega (arith, granule_sane a.s.granule, good_setup_lem fine, came_left (came (goal.at.returns-in-Empty c).In-Ok fine)))
    refl refl)
    ∙ came_at fine (tests (goal.at.returns-in-Empty c).In_ok-unmap_tests) (came (goal.at.returns-in-Empty c).In-Ok fine) c.word-w.ensures (read (goal.at.returns-in-Empty c).After-read_word fine) c.in-Empty.is

pub returns-in-Table : goal.returns-in-Table
returns-in-Table c =
    let fine = good (goal.at.returns-in-Table c).Else-not-good_setup in
    came_bad fine (tests (goal.at.returns-in-Table c).In_ok-unmap_tests) (came (goal.at.returns-in-Table c).In-Ok fine) c.word-w.ensures (read (goal.at.returns-in-Table c).After-read_word fine) c.in-Table.is
