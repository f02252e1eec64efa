-- `maps::map` makes its tests in their order, then walks.
use mathlib.Core.Path.{◌≡◌, ◌∙◌}
use mathlib.Core.Bool.{true}
use mathlib.Core.List.{◌++◌}
use lib.ListN.{length}
use native.Mathlib.Omega.{arith}
use Rattle.std.proofs.lemmas.Result.{err_from_is_err_and}
use Rattle.path.specs.Geometry.{granule_of}
use Rattle.path.specs.Areas.{area_of}
use Rattle.model.specs.Answers.{pool}
use Rattle.model.specs.Calls.{good_pool, map_tests}
use Rattle.model.proofs.Refusing.{passed, good_both}
use Rattle.model.proofs.TestedLaws.{tested_none}
use Rattle.maps.proofs.Tests.{passed_size, passed_frame}
use Rattle.maps.proofs.Maps.{map_bad, map_refuses, map_from_lem, word_is}
use Rattle.maps.proofs.map.Goals as goal
use Rattle.maps.proofs.map.Goals.{Else-not-good_setup, In_ok-height}

-- past the first test the numbers are good
good : (c : Else-not-good_setup)
    → let a = c.args in
    good_pool (granule_of a.s.granule) (pool a.s (a.words.now ++ a.second.now) (length a.words.now) a.list.now) ≡ true
good c =
    passed (good_both _ _ _ _ _ c.good_setup.ensures) c.if-not-good_setup.false-raw

-- past the second no test refused
tests : (c : In_ok-height) → let a = c.args in map_tests (granule_of a.s.granule) a.s.levels (area_of a.s) a.address a.frame a.size a.attributes ≡ 0
tests c = tested_none _ c.in_ok-height.ensures.tests

pub returns-then-not-good_setup : goal.returns-then-not-good_setup
returns-then-not-good_setup c =
    map_bad _ _ _ _ _ _ (good_both _ _ _ _ _ c.good_setup.ensures) c.if-not-good_setup.true-raw

pub returns-in_err-height : goal.returns-in_err-height
returns-in_err-height c =
    let (y, is, same) = err_from_is_err_and c.from_residual.result c.from_residual.ensures.1 in
    rw (is, same) (map_refuses _ _ _ _ _ _ (good_both _ _ _ _ _ c.good_setup.ensures) c.if-not-good_setup.false-raw _ c.in_err-height.ensures.tests)

pub map_walk-requires : goal.map_walk-requires
map_walk-requires c =
    (good (goal.at.map_walk-requires c).Else-not-good_setup, omega (arith, c.in_ok-height.ensures.height, passed_size _ _ _ _ _ _ _ (tests (goal.at.map_walk-requires c).In_ok-height)))

pub returns : goal.returns
returns c =
    let a = c.args in
    let t = tests (goal.at.returns c).In_ok-height in
    c.map_walk.ensures a.frame a.attributes
    (word_is a.frame _ a.attributes (omega (arith, passed_frame _ _ _ _ _ _ _ t)) c.word_of-word.ensures)
    ∙ map_from_lem _ _ _ _ _ _ (good_both _ _ _ _ _ c.good_setup.ensures) (good (goal.at.returns c).Else-not-good_setup) t c.in_ok-height.ensures.height
