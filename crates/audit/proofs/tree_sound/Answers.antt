-- `tree_sound` tests the setup numbers, and then the tree.
use Rattle.std.proofs.Common.{arith}
use Rattle.audit.proofs.Adds.{none_good, sound_bad, sound_rooted, sound_told}
use Rattle.audit.proofs.tree_sound.Goals as goal

pub returns-then-not-good_setup : goal.returns-then-not-good_setup
returns-then-not-good_setup c =
    let a = c.args in
    sound_bad a.s a.words.now a.second.now a.places c.good_setup.ensures c.if-not-good_setup.true _

pub tree_check-requires : goal.tree_check-requires
tree_check-requires c =
    let a = c.args in
    (sound_rooted a.s a.words.now a.second.now a.places c.good_setup.ensures c.if-not-good_setup.false, (none_good _, omega arith))

pub returns : goal.returns
returns c =
    let a = c.args in
    sound_told a.s a.words.now a.second.now a.places c.good_setup.ensures c.if-not-good_setup.false c.tree_check.ensures
