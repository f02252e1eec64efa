-- `is_fresh` meets its contract.
use Rattle.std.proofs.Common.{not, refl, ap, eq-eqb, ne_eqb}
use Rattle.audit.proofs.Tables.{or-true, or-false}
use Rattle.audit.proofs.is_fresh.Goals as goal

pub returns-then-bare : goal.returns-then-bare
returns-then-bare c = λ k e. rw (c.if-marks-t.false, c.if-bare.true, or-true) refl

pub returns-then-t-eq0 : goal.returns-then-t-eq0
returns-then-t-eq0 c = λ k e. rw (c.if-marks-t.false, eq-eqb _ 0 c.if-t-eq0.true) refl

pub returns : goal.returns
returns c = λ k e. rw (c.if-marks-t.false, ne_eqb _ 0 c.if-t-eq0.false, c.if-bare.false, or-false) (ap not (c.is_table_empty.ensures k e))
