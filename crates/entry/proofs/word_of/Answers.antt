-- `entry::word_of` meets its contract: the bits of the attributes add up to their word.
use native.Mathlib.Omega.{arith}
use borrow.Author.Tests.{le-leb, lt-leb}
use Rattle.path.specs.Geometry.{physical}
use Rattle.entry.proofs.Made.{type_known, sum_word}
use Rattle.entry.proofs.word_of.Goals as goal

pub returns-then-base-gt-PHYSICAL : goal.returns-then-base-gt-PHYSICAL
returns-then-base-gt-PHYSICAL c = rw (lt-leb _ physical c.if-base-gt-PHYSICAL.true)

pub overflow_add-result : goal.overflow_add-result
overflow_add-result c = omega (arith, type_known _ _ c.type_at.ensures)

pub overflow_add-result-2 : goal.overflow_add-result-2
overflow_add-result-2 c = omega (arith, type_known _ _ c.type_at.ensures)

pub returns : goal.returns
returns c =
    let a = c.args in
    rw (le-leb a.base physical c.if-base-gt-PHYSICAL.false)
    (sum_word a.base a.height a.attributes _ _ c.type_at.ensures (omega arith))
