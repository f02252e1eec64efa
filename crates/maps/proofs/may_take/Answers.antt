-- `maps::may_take`: what is left to test answers for all.
use mathlib.Core.Path.{sym, ◌∙◌}
use native.Mathlib.Omega.{arith}
use Rattle.maps.proofs.Takes.{taking_start, taking_end, taking_none, taking_out, taking_way, taking_twice, taking_next}
use Rattle.maps.proofs.may_take.Goals as goal
use Rattle.maps.proofs.may_take.Goals.{
  then-c-eq0-via-then-c-eq0,
  then-c-eq0-via-else-c-eq0+then-c-tables,
  then-c-eq0-via-else-c-eq0+else-c-tables+then-among_four,
  then-c-eq0-via-else-c-eq0+else-c-tables+else-among_four+then-among_four-2,
}

pub loop-i-init : goal.loop-i-init
loop-i-init c = taking_start c.args.list.now c.args.tables c.args.way c.args.free c.args.need

pub returns-then-c-eq0 : goal.returns-then-c-eq0
returns-then-c-eq0 c =
    let l = c.args.list.now in
    let n = c.args.tables in
    let T = c.loop-i.invariant in
    let h = c.loop-i-test.true in
    let e = c.place-c.ensures in
    elim c.then-c-eq0.branch [
      | then-c-eq0-via-then-c-eq0 w ↦ taking_none l n T h e w.if-c-eq0.true
      | then-c-eq0-via-else-c-eq0+then-c-tables w ↦ taking_out l n T h e w.if-c-eq0.false w.if-c-tables.true
      | then-c-eq0-via-else-c-eq0+else-c-tables+then-among_four w ↦ taking_way l n T h e w.if-c-eq0.false w.if-c-tables.false (sym w.among_four.ensures ∙ w.if-among_four.true)
      | then-c-eq0-via-else-c-eq0+else-c-tables+else-among_four+then-among_four-2 w ↦
          taking_twice l n T h e w.if-c-eq0.false w.if-c-tables.false (sym w.among_four-else-among_four.ensures ∙ w.if-among_four-2.true)
    ]

pub loop-i-preserved : goal.loop-i-preserved
loop-i-preserved c =
    taking_next c.args.list.now c.args.tables c.loop-i.invariant c.loop-i-test.true c.place-c.ensures c.if-c-eq0.false c.if-c-tables.false (omega arith)
    (sym c.among_four.ensures ∙ c.if-among_four.false)
    (sym c.among_four-else-among_four.ensures ∙ c.if-among_four-2.false)

pub returns : goal.returns
returns c = taking_end c.args.list.now c.args.tables c.loop-i.invariant c.loop-i-test.false
