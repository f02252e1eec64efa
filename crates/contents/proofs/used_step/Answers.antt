-- `contents::used_step`: the steps passed have no word in use.
use native.Mathlib.Omega.{arith}
use Rattle.contents.proofs.Laws.{passed_step}
use Rattle.contents.proofs.used_step.Goals as goal

pub loop-at-init : goal.loop-at-init
loop-at-init c = ((omega arith, (omega arith, omega arith)), λ k l m. absurd (omega arith))

pub any_in_step-requires : goal.any_in_step-requires
any_in_step-requires c = omega arith

pub returns-then-any_in_step : goal.returns-then-any_in_step
returns-then-any_in_step c = c.loop-at.invariant

pub overflow_add-at : goal.overflow_add-at
overflow_add-at c = omega arith

pub loop-at-smaller : goal.loop-at-smaller
loop-at-smaller c = omega arith

pub loop-at-preserved : goal.loop-at-preserved
loop-at-preserved c =
    let a = c.args in
    let l = c.loop-at in
    ((omega arith, (omega arith, omega arith)), passed_step a.w.now l.invariant.1 (c.any_in_step.ensures c.if-any_in_step.false))

pub returns : goal.returns
returns c =
    let l = c.loop-at in
    ((omega arith, (omega arith, omega arith)), λ k h m. l.invariant.1 k h (omega arith))
