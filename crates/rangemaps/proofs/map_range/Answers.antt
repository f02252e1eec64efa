-- `rangemaps::map_range` makes its tests in their order, then writes.
use Rattle.std.specs.Prelude.{ℕ, ◌≡◌, ◌≤◌, true, ◌++◌, length, get_or, Ok}
use Rattle.std.proofs.Common.{sym, ap, ◌∙◌, arith}
use Rattle.std.proofs.lemmas.Result.{err_from_is_err_and}
use lib.ListN.{replicate}
use Rattle.laws.specs.ListLaws.{all_zero_at, all_zero_replicate}
use Rattle.path.specs.Geometry.{granule_of}
use Rattle.path.specs.Areas.{area_of, total}
use Rattle.path.specs.Laws.{good_setup_lem}
use Rattle.model.specs.Answers.{took, pool, Done, done}
use Rattle.model.specs.Writes.{may_take}
use Rattle.model.specs.Calls.{good_pool}
use Rattle.model.specs.Ranges.{map_range_tests, pieces, piece_walks, ways, map_piece, left_by, map_range_w}
use Rattle.model.proofs.Refusing.{good_both}
use Rattle.model.proofs.TestedLaws.{tested_none}
use Rattle.rangemaps.specs.Surveys.{Surveyed}
use Rattle.rangemaps.proofs.Calls.{range_bad, range_refused, range_found, found_marks, range_short, range_unfit, range_accepted}
use Rattle.rangemaps.proofs.map_range.Goals as goal
use Rattle.rangemaps.proofs.map_range.Goals.{Else-not-good_setup, In_ok-map_tests, In_ok-need, After-may_take, Else-not-may_take}

-- past the first test the numbers are good
good : (c : Else-not-good_setup) → let a = c.args in good_pool (granule_of a.s.granule) (pool a.s (a.words.now ++ a.second.now) (length a.words.now) a.list.now) ≡ true
good c = let a = c.args in sym (good_both _ _ _ _ _ c.good_setup.ensures) ∙ c.if-not-good_setup.false

few : (c : Else-not-good_setup) → total (area_of c.args.s) ≤ 512
few c = let a = c.args in omega (arith, good_setup_lem (good c))

-- past the second no test refused
tests : (c : In_ok-map_tests) → let a = c.args in map_range_tests (granule_of a.s.granule) a.s.levels (area_of a.s) a.address a.frame a.len a.attributes ≡ 0
tests c = tested_none _ c.in_ok-map_tests.ensures

-- no table is noted at first
zeros : (t : ℕ) → get_or {A = ℕ} (replicate {A = ℕ} 512 0) t 0 ≡ 0
zeros = all_zero_at (replicate 512 0) (all_zero_replicate 512)

-- what the walks found
found : (c : In_ok-need) → let a = c.args in
    Surveyed (granule_of a.s.granule) (pool a.s (a.words.now ++ a.second.now) (length a.words.now) a.list.now) (pieces (granule_of a.s.granule) a.address a.frame a.len a.attributes) (Ok c.in_ok-need.need) c.survey.new.stands
found c = let a = c.args in
    c.in_ok-need.ensures a.list.now a.attributes (sym (good_both _ _ _ _ _ c.good_setup.ensures) ∙ c.if-not-good_setup.false) zeros (tested_none _ c.in_ok-map_tests.ensures)

-- whether the tables may be taken
may : (c : After-may_take) → let a = c.args in
    Surveyed (granule_of a.s.granule) (pool a.s (a.words.now ++ a.second.now) (length a.words.now) a.list.now) (pieces (granule_of a.s.granule) a.address a.frame a.len a.attributes) (Ok c.in_ok-need.need) c.survey.new.stands
    →
    c.may_take.result ≡ may_take a.list.now (total (area_of a.s)) (ways (piece_walks (granule_of a.s.granule) (pool a.s (a.words.now ++ a.second.now) (length a.words.now) a.list.now) (pieces (granule_of a.s.granule) a.address a.frame a.len a.attributes))) a.s.free c.in_ok-need.need
may c S = let a = c.args in
    c.may_take.ensures _
    (found_marks _ _ _ _ _ _
    (sym (good_both _ _ _ _ _ c.good_setup.ensures) ∙ c.if-not-good_setup.false) (tested_none _ c.in_ok-map_tests.ensures) S)

pub returns-then-not-good_setup : goal.returns-then-not-good_setup
returns-then-not-good_setup c = let a = c.args in
    range_bad _ _ _ _ _ _
    (sym (good_both _ _ _ _ _ c.good_setup.ensures) ∙ c.if-not-good_setup.true)

pub returns-in_err-map_tests : goal.returns-in_err-map_tests
returns-in_err-map_tests c =
    let a = c.args in
    let (y, is, same) = err_from_is_err_and c.from_residual.result c.from_residual.ensures.1 in
    rw (is, same) (range_refused _ _ _ _ _ _ (good (goal.at.returns-in_err-map_tests c).Else-not-good_setup) _ c.in_err-map_tests.ensures)

pub survey-requires : goal.survey-requires
survey-requires c =
    ((length c.args.list.now, good (goal.at.survey-requires c).Else-not-good_setup), (few (goal.at.survey-requires c).Else-not-good_setup, (c.args.attributes, tests (goal.at.survey-requires c).In_ok-map_tests)))

pub returns-in_err-need : goal.returns-in_err-need
returns-in_err-need c =
    let a = c.args in
    let g = good (goal.at.returns-in_err-need c).Else-not-good_setup in
    let t = tests (goal.at.returns-in_err-need c).In_ok-map_tests in
    let (y, is, same) = err_from_is_err_and c.from_residual-in_err-need.result c.from_residual-in_err-need.ensures.1 in
    rw (is, same) (range_found _ _ _ _ _ _ g t (c.in_err-need.ensures a.list.now a.attributes g zeros t))

pub returns-then-s-need : goal.returns-then-s-need
returns-then-s-need c =
    let a = c.args in
    range_short _ _ _ _ _ _ (good (goal.at.returns-then-s-need c).Else-not-good_setup) (tests (goal.at.returns-then-s-need c).In_ok-map_tests)
    (found (goal.at.returns-then-s-need c).In_ok-need) c.if-s-need.true

pub overflow_add-s : goal.overflow_add-s
overflow_add-s c = omega (arith, few (goal.at.overflow_add-s c).Else-not-good_setup)

pub overflow_cast-s : goal.overflow_cast-s
overflow_cast-s c = omega (arith, few (goal.at.overflow_cast-s c).Else-not-good_setup)

pub may_take-requires : goal.may_take-requires
may_take-requires c = (c.if-s-need.false, omega (arith, few (goal.at.may_take-requires c).Else-not-good_setup, c.survey.auto.stands))

pub returns-then-not-may_take : goal.returns-then-not-may_take
returns-then-not-may_take c =
    let a = c.args in
    let S = found (goal.at.returns-then-not-may_take c).In_ok-need in
    range_unfit _ _ _ _ _ _ (good (goal.at.returns-then-not-may_take c).Else-not-good_setup) (tests (goal.at.returns-then-not-may_take c).In_ok-map_tests)
    S c.if-s-need.false (sym c.if-not-may_take.true ∙ may (goal.at.returns-then-not-may_take c).After-may_take S)

-- past the last test the range is accepted
accepted : (c : Else-not-may_take) → let a = c.args in
    Surveyed (granule_of a.s.granule) (pool a.s (a.words.now ++ a.second.now) (length a.words.now) a.list.now) (pieces (granule_of a.s.granule) a.address a.frame a.len a.attributes) (Ok c.in_ok-need.need) c.survey.new.stands
    → c.may_take.result ≡ may_take a.list.now (total (area_of a.s)) (ways (piece_walks (granule_of a.s.granule) (pool a.s (a.words.now ++ a.second.now) (length a.words.now) a.list.now) (pieces (granule_of a.s.granule) a.address a.frame a.len a.attributes))) a.s.free c.in_ok-need.need
    → map_range_w (granule_of a.s.granule) (pool a.s (a.words.now ++ a.second.now) (length a.words.now) a.list.now) a.address a.frame a.len a.attributes
    ≡ done (took c.in_ok-need.need) (left_by (map_piece (granule_of a.s.granule)) (pool a.s (a.words.now ++ a.second.now) (length a.words.now) a.list.now) (pieces (granule_of a.s.granule) a.address a.frame a.len a.attributes))
accepted c S M = let a = c.args in
    range_accepted _ _ _ _ _ _
    (sym (good_both _ _ _ _ _ c.good_setup.ensures) ∙ c.if-not-good_setup.false) (tested_none _ c.in_ok-map_tests.ensures)
    S c.if-s-need.false (sym c.if-not-may_take.false ∙ M)

pub write_pieces-setup-requires : goal.write_pieces-setup-requires
write_pieces-setup-requires c =
    let S = found (goal.at.write_pieces-setup-requires c).In_ok-need in
    (c.in_ok-need.need, ap (λ (d : Done). d.answer) (accepted (goal.at.write_pieces-setup-requires c).Else-not-may_take S (may (goal.at.write_pieces-setup-requires c).After-may_take S)))

pub returns : goal.returns
returns c =
    let S = found (goal.at.returns c).In_ok-need in
    let e = accepted (goal.at.returns c).Else-not-may_take S (may (goal.at.returns c).After-may_take S) in
    (λ i. done (took c.in_ok-need.need) (c.write_pieces-setup.ensures i))
    ∙ ap (λ (d : Done). done (took c.in_ok-need.need) d.after) e
    ∙ sym e
