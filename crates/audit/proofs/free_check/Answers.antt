-- `free_check` meets its contract.
use Rattle.std.proofs.Common.{sym, ◌∙◌, arith}
use Rattle.audit.proofs.Frees.{run_starts, run_ends, run_out, run_marked, run_full, run_more}
use Rattle.audit.proofs.free_check.Goals as goal

pub loop-t-init : goal.loop-t-init
loop-t-init c = run_starts _ _ _ _ _

pub returns-then-t-n : goal.returns-then-t-n
returns-then-t-n c = run_out c.loop-t.invariant c.loop-t-test.true (omega (arith, c.if-t-n.true))

pub returns-then-marks-place : goal.returns-then-marks-place
returns-then-marks-place c = run_marked c.loop-t.invariant c.loop-t-test.true (omega (arith, c.if-t-n.false)) c.if-marks-place.true

pub returns-then-not-is_table_empty : goal.returns-then-not-is_table_empty
returns-then-not-is_table_empty c =
    run_full c.loop-t.invariant c.loop-t-test.true (omega (arith, c.if-t-n.false)) c.if-marks-place.false
    (sym (c.is_table_empty.ensures c.requires.1.tables c.requires.1.whole) ∙ c.if-not-is_table_empty.true)

pub loop-t-preserved : goal.loop-t-preserved
loop-t-preserved c =
    run_more c.loop-t.invariant c.loop-t-test.true (omega (arith, c.if-t-n.false)) c.if-marks-place.false
    (sym (c.is_table_empty.ensures c.requires.1.tables c.requires.1.whole) ∙ c.if-not-is_table_empty.false)

pub returns : goal.returns
returns c = run_ends c.loop-t.invariant c.loop-t-test.false
