-- `entry::type_at` meets its contract.
use borrow.Author.Tests.{eq-eqb, ne_eqb}
use Rattle.entry.specs.Words.{type_at}
use Rattle.entry.proofs.type_at.Goals as goal

pub returns-then-height-eq0 : goal.returns-then-height-eq0
unfolding type_at
returns-then-height-eq0 c = rw (eq-eqb _ _ c.if-height-eq0.true)

pub returns-else-height-eq0 : goal.returns-else-height-eq0
unfolding type_at
returns-else-height-eq0 c = rw (ne_eqb _ _ c.if-height-eq0.false)
