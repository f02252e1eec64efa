-- `add_tests` makes the tests of an add in their order.
use Rattle.std.proofs.Common.{ap, arith}
use Rattle.path.specs.Geometry.{granule_of}
use Rattle.model.specs.Answers.{tested}
use Rattle.audit.proofs.Adds.{none_good, add_bad, add_rooted, new_good, new_few, add_unsound, add_inside, add_passes}
use Rattle.audit.proofs.add_tests.Goals as goal

pub returns-then-not-good_adding : goal.returns-then-not-good_adding
returns-then-not-good_adding c =
    let a = c.args in
    λ list p. ap tested (add_bad a.s a.words.now a.second.now a.base2 a.tables2 a.places c.good_adding.ensures c.if-not-good_adding.true list p)

pub tree_check-requires : goal.tree_check-requires
tree_check-requires c =
    let a = c.args in
    (add_rooted a.s a.words.now a.second.now a.base2 a.tables2 a.places c.good_adding.ensures c.if-not-good_adding.false, (none_good (granule_of a.s.granule), omega arith))

pub returns-then-not-tree_check : goal.returns-then-not-tree_check
returns-then-not-tree_check c =
    let a = c.args in
    λ list p. ap tested (add_unsound a.s a.words.now a.second.now a.base2 a.tables2 a.places c.good_adding.ensures c.if-not-good_adding.false
    c.tree_check.ensures c.if-not-tree_check.true list p)

pub tree_check-requires-2 : goal.tree_check-requires-2
tree_check-requires-2 c =
    let a = c.args in
    let g = c.good_adding.ensures in
    let n = c.if-not-good_adding.false in
    (add_rooted a.s a.words.now a.second.now a.base2 a.tables2 a.places g n, (new_good a.s a.words.now a.second.now a.base2 a.tables2 a.places g n, new_few a.s a.words.now a.second.now a.base2 a.tables2 a.places g n))

pub returns-then-not-tree_check-2 : goal.returns-then-not-tree_check-2
returns-then-not-tree_check-2 c =
    let a = c.args in
    λ list p. ap tested (add_inside a.s a.words.now a.second.now a.base2 a.tables2 a.places c.good_adding.ensures c.if-not-good_adding.false
    c.tree_check.ensures c.if-not-tree_check.false c.tree_check-2.ensures c.if-not-tree_check-2.true list p)

pub returns : goal.returns
returns c =
    let a = c.args in
    λ list p. ap tested (add_passes a.s a.words.now a.second.now a.base2 a.tables2 a.places c.good_adding.ensures c.if-not-good_adding.false
    c.tree_check.ensures c.if-not-tree_check.false c.tree_check-2.ensures c.if-not-tree_check-2.false list p)
