-- `rangemaps::may_take`: what is left to test answers for all.
use Rattle.std.proofs.Common.{arith}
use Rattle.rangemaps.proofs.Takes.{taking_start, taking_end, taking_refused, taking_marked, taking_next}
use Rattle.rangemaps.proofs.may_take.Goals as goal

pub loop-i-init : goal.loop-i-init
loop-i-init c = let a = c.args in λ seen m. taking_start _ _ seen _ _ _ m

pub returns-then-c-eq0 : goal.returns-then-c-eq0
returns-then-c-eq0 c = let a = c.args in
    let l = c.loop-i in
    λ seen m. taking_refused _ _ (l.invariant seen m) c.loop-i-test.true c.place-c.ensures c.then-c-eq0.either

pub returns-then-stands-at-ne0 : goal.returns-then-stands-at-ne0
returns-then-stands-at-ne0 c = let a = c.args in
    let l = c.loop-i in
    λ seen m. taking_marked _ _ (l.invariant seen m) c.loop-i-test.true c.place-c.ensures (omega arith) (omega arith) c.if-stands-at-ne0.true

pub loop-i-preserved : goal.loop-i-preserved
loop-i-preserved c = let a = c.args in
    let l = c.loop-i in
    λ seen m. taking_next _ _ (l.invariant seen m) c.loop-i-test.true c.place-c.ensures (omega arith) (omega arith) (omega arith) c.if-stands-at-ne0.false

pub returns : goal.returns
returns c = let a = c.args in
    let l = c.loop-i in
    λ seen m. taking_end _ _ (l.invariant seen m) c.loop-i-test.false
