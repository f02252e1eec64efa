-- `contents::zeros_but`: the steps passed have no word in use, and the one between them at most the word that is left out.
use mathlib.Core.Path.{sym, ◌∙◌}
use native.Mathlib.Omega.{arith}
use lib.ListN.{set, length-set}
use Rattle.contents.proofs.Laws.{passed_both, between_passed, passed_too, step_stops, rest_decides}
use Rattle.contents.proofs.zeros_but.Goals as goal

pub overflow_sub-last : goal.overflow_sub-last
overflow_sub-last c = omega arith

pub used_step-at-requires : goal.used_step-at-requires
used_step-at-requires c = omega arith

pub zeros_between-requires : goal.zeros_between-requires
zeros_between-requires c = omega arith

pub returns-then-at-last : goal.returns-then-at-last
returns-then-at-last c =
    let a = c.args in
    c.zeros_between.ensures
    ∙ rest_decides (set a.w.now a.but 0) _ _ (sym (length-set a.w.now a.but 0)) (passed_too a.w.now a.but (omega arith) c.used_step-at.ensures.1)

pub overflow_add-past : goal.overflow_add-past
overflow_add-past c = omega arith

pub zeros_between-requires-2 : goal.zeros_between-requires-2
zeros_between-requires-2 c = omega arith

pub returns-then-not-zeros_between : goal.returns-then-not-zeros_between
returns-then-not-zeros_between c =
    let a = c.args in
    sym (step_stops (set a.w.now a.but 0) _ _ (sym c.zeros_between-2.ensures ∙ c.if-not-zeros_between.true))

pub used_step-next-requires : goal.used_step-next-requires
used_step-next-requires c = omega arith

pub zeros_between-requires-3 : goal.zeros_between-requires-3
zeros_between-requires-3 c = omega arith

pub returns : goal.returns
returns c =
    let a = c.args in
    let xs = set a.w.now a.but 0 in
    let first = passed_too a.w.now a.but (omega arith) c.used_step-at.ensures.1 in
    let but = between_passed xs (sym c.zeros_between-2.ensures ∙ c.if-not-zeros_between.false) in
    let next = passed_too a.w.now a.but (omega arith) c.used_step-next.ensures.1 in
    c.zeros_between-3.ensures
    ∙ rest_decides xs _ _ (sym (length-set a.w.now a.but 0)) (passed_both xs (passed_both xs first but) next)
