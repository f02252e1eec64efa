-- `rangeunmaps::unmap_range` makes its tests in their order, then removes.
use Rattle.std.specs.Prelude.{ℕ, ◌≡◌, true, not, ◌++◌, [], length}
use Rattle.std.proofs.Common.{refl, sym, ap, ◌∙◌}
use Rattle.std.proofs.lemmas.Bool.{not-true, not-false}
use Rattle.std.proofs.lemmas.List.{length-replicate}
use Rattle.std.proofs.lemmas.Result.{err_from_is_err_and}
use Rattle.path.specs.Geometry.{granule_of}
use Rattle.path.specs.Laws.{granule_sane}
use Rattle.model.specs.Answers.{Pool, pool, tested}
use Rattle.model.specs.Calls.{good_pool, unmap_w}
use Rattle.model.specs.Ranges.{unmap_range_tests, pages_of, answers_of, any_refused}
use Rattle.model.proofs.Refusing.{good_both}
use Rattle.model.proofs.TestedLaws.{tested_none}
use Rattle.sweeps.specs.Parts.{walks_say}
use Rattle.sweeps.specs.Checking.{says_like}
use Rattle.sweeps.specs.Rooms.{fine_rest}
use Rattle.rangeunmaps.proofs.Calls.{range_bad, range_tested, range_met, range_full, range_clears}
use Rattle.rangeunmaps.proofs.unmap_range.Goals as goal
use Rattle.rangeunmaps.proofs.unmap_range.Goals.{Start, Else-not-good_setup, In_ok-unmap_tests, In_ok-check_walks, After-fits}

-- the pool of these words and this free list
abbrev at : Start → Pool
at c = let a = c.args in pool a.s (a.words.now ++ a.second.now) (length a.words.now) a.list.now

-- past the first test the numbers are good
good : (c : Else-not-good_setup) → let a = c.args in good_pool (granule_of a.s.granule) (pool a.s (a.words.now ++ a.second.now) (length a.words.now) a.list.now) ≡ true
good c = let a = c.args in sym (good_both (granule_of a.s.granule) a.s a.words.now a.second.now a.list.now c.good_setup.ensures) ∙ c.if-not-good_setup.false

-- past the second no test refused
tests : (c : In_ok-unmap_tests) → let a = c.args in unmap_range_tests (granule_of a.s.granule) a.s.levels a.address a.bytes ≡ 0
tests c = tested_none _ c.in_ok-unmap_tests.ensures

-- past the third the walks say nothing
quiet : (c : In_ok-check_walks) → let a = c.args in walks_say (granule_of a.s.granule) (pool a.s (a.words.now ++ a.second.now) (length a.words.now) a.list.now) a.address a.bytes ≡ 0
quiet c =
    let a = c.args in
    says_like (granule_of a.s.granule) a.s (a.words.now ++ a.second.now) (length a.words.now) a.list.now [] a.address a.bytes ∙ tested_none _ c.in_ok-check_walks.ensures.by_pages

-- whether there is room
room : (c : After-fits) → let a = c.args in
    good_pool (granule_of a.s.granule) (pool a.s (a.words.now ++ a.second.now) (length a.words.now) a.list.now) ≡ true
    → c.fits.result ≡ not (any_refused 8 (answers_of (unmap_w (granule_of a.s.granule)) (pool a.s (a.words.now ++ a.second.now) (length a.words.now) a.list.now) (pages_of (granule_of a.s.granule) a.address a.bytes)))
room c g = c.fits.ensures c.args.list.now g

pub returns-then-not-good_setup : goal.returns-then-not-good_setup
returns-then-not-good_setup c = let a = c.args in
    range_bad (granule_of a.s.granule) (at (goal.at.returns-then-not-good_setup c).Start) a.address a.bytes
    (sym (good_both (granule_of a.s.granule) a.s a.words.now a.second.now a.list.now c.good_setup.ensures) ∙ c.if-not-good_setup.true)

pub returns-in_err-unmap_tests : goal.returns-in_err-unmap_tests
returns-in_err-unmap_tests c =
    let a = c.args in
    let (y, is, same) = err_from_is_err_and c.from_residual.result c.from_residual.ensures.1 in
    rw (is, same) (range_tested (granule_of a.s.granule) (at (goal.at.returns-in_err-unmap_tests c).Start) a.address a.bytes (good (goal.at.returns-in_err-unmap_tests c).Else-not-good_setup) _ c.in_err-unmap_tests.ensures)

pub check_walks-requires : goal.check_walks-requires
check_walks-requires c =
    let a = c.args in
    ((a.list.now, fine_rest (granule_of a.s.granule) (granule_sane a.s.granule) (at (goal.at.check_walks-requires c).Start) a.address a.bytes (good (goal.at.check_walks-requires c).Else-not-good_setup) (tests (goal.at.check_walks-requires c).In_ok-unmap_tests)), refl)

pub returns-in_err-check_walks : goal.returns-in_err-check_walks
returns-in_err-check_walks c =
    let a = c.args in
    let (y, is, same) = err_from_is_err_and c.from_residual-in_err-check_walks.result c.from_residual-in_err-check_walks.ensures.1 in
    rw (is, same) (range_met (granule_of a.s.granule) (at (goal.at.returns-in_err-check_walks c).Start) a.address a.bytes (good (goal.at.returns-in_err-check_walks c).Else-not-good_setup) (tests (goal.at.returns-in_err-check_walks c).In_ok-unmap_tests) _
    (c.in_err-check_walks.ensures.by_pages ∙ ap tested (says_like (granule_of a.s.granule) a.s (a.words.now ++ a.second.now) (length a.words.now) [] a.list.now a.address a.bytes)))

pub fits-requires : goal.fits-requires
fits-requires c = (
  (c.args.list.now, record { good = good (goal.at.fits-requires c).Else-not-good_setup; tests = tests (goal.at.fits-requires c).In_ok-unmap_tests; walks = quiet (goal.at.fits-requires c).In_ok-check_walks }),
  (c.check_walks.auto.stands ∙ length-replicate {A = ℕ} 512 0, c.in_ok-check_walks.ensures.notes),
)

pub returns-then-not-fits : goal.returns-then-not-fits
returns-then-not-fits c =
    let a = c.args in
    let g = good (goal.at.returns-then-not-fits c).Else-not-good_setup in
    range_full (granule_of a.s.granule) (at (goal.at.returns-then-not-fits c).Start) a.address a.bytes g (tests (goal.at.returns-then-not-fits c).In_ok-unmap_tests) (quiet (goal.at.returns-then-not-fits c).In_ok-check_walks)
    (not-false _ (sym (room (goal.at.returns-then-not-fits c).After-fits g) ∙ c.if-not-fits.true))

pub remove_all-gone-requires : goal.remove_all-gone-requires
remove_all-gone-requires c =
    let g = good (goal.at.remove_all-gone-requires c).Else-not-good_setup in (
      record { good = g; tests = tests (goal.at.remove_all-gone-requires c).In_ok-unmap_tests; walks = quiet (goal.at.remove_all-gone-requires c).In_ok-check_walks },
      not-true _ (sym (room (goal.at.remove_all-gone-requires c).After-fits g) ∙ c.if-not-fits.false),
    )

pub returns : goal.returns
returns c =
    let a = c.args in
    let g = good (goal.at.returns c).Else-not-good_setup in
    range_clears (granule_of a.s.granule) (at (goal.at.returns c).Start) a.address a.bytes g (tests (goal.at.returns c).In_ok-unmap_tests) (quiet (goal.at.returns c).In_ok-check_walks)
    (not-true _ (sym (room (goal.at.returns c).After-fits g) ∙ c.if-not-fits.false)) c.remove_all-gone.ensures.0 c.remove_all-gone.ensures.1
