-- Query meets its contract.
use mathlib.Core.List.{◌++◌}
use mathlib.Core.Path.{◌∙◌}
use native.Mathlib.Omega.{arith}
use lib.ListN.{length}
use Rattle.path.specs.Geometry.{granule_of}
use Rattle.path.specs.Laws.{granule_sane}
use Rattle.model.specs.Answers.{pool}
use Rattle.model.proofs.Refusing.{good_both}
use Rattle.query.proofs.Queries.{good, query_bad, query_past, query_walks}
use Rattle.query.proofs.query.Goals as goal

pub returns-then-not-good_setup : goal.returns-then-not-good_setup
returns-then-not-good_setup c =
    let s = c.args in
    query_bad (granule_of s.s.granule) (pool s.s (s.words.now ++ s.second.now) (length s.words.now) s.list.now) s.address (good_both (granule_of s.s.granule) s.s s.words.now s.second.now s.list.now c.good_setup.ensures) c.if-not-good_setup.true

pub returns-then-not-in_space : goal.returns-then-not-in_space
returns-then-not-in_space c =
    let s = c.args in
    query_past (granule_of s.s.granule) (pool s.s (s.words.now ++ s.second.now) (length s.words.now) s.list.now) s.address
    (good_both (granule_of s.s.granule) s.s s.words.now s.second.now s.list.now c.good_setup.ensures)
    c.if-not-good_setup.false
    c.in_space.ensures
    c.if-not-in_space.true

pub ask-requires : goal.ask-requires
ask-requires c = omega (arith, granule_sane c.args.s.granule, good c.good_setup.ensures c.if-not-good_setup.false)

pub returns : goal.returns
returns c =
    let s = c.args in
    c.ask.ensures
    ∙ query_walks (granule_of s.s.granule) (pool s.s (s.words.now ++ s.second.now) (length s.words.now) s.list.now) s.address
    (good_both (granule_of s.s.granule) s.s s.words.now s.second.now s.list.now c.good_setup.ensures)
    c.if-not-good_setup.false
    c.in_space.ensures
    c.if-not-in_space.false
