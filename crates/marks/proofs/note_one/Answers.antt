-- `marks::note_one` meets its contract.
use mathlib.Core.Path.{sym}
use Rattle.marks.specs.MarkLaws.{one_past, one_new, one_old}
use Rattle.marks.proofs.note_one.Goals as goal

pub returns-then-i-stands : goal.returns-then-i-stands
returns-then-i-stands c = sym (one_past _ _ _ c.if-i-stands.true)

pub returns-then-before-eq0 : goal.returns-then-before-eq0
returns-then-before-eq0 c = sym (one_new _ _ _ c.if-before-eq0.true)

pub returns : goal.returns
returns c = sym (one_old _ _ _ c.if-before-eq0.false)
