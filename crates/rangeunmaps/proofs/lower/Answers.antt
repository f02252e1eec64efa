use Rattle.std.proofs.Common.{arith}
use Rattle.rangeunmaps.proofs.Looks.{lowering_stops, lowering_more, lowering_ends}
use Rattle.rangeunmaps.proofs.lower.Goals as goal

pub returns-then-n-gt1 : goal.returns-then-n-gt1
returns-then-n-gt1 c =
    let l = c.loop-h in
    let a = c.args in
    lowering_stops a.counts.now a.way l.counts a.left a.top l.h l.invariant (omega arith) (omega arith) c.place-n.ensures c.if-n-gt1.true c.saturating_sub.ensures c.give.ensures

pub loop-h-preserved : goal.loop-h-preserved
loop-h-preserved c =
    let l = c.loop-h in
    let a = c.args in
    lowering_more a.counts.now a.way l.counts a.left a.top l.h l.invariant (omega arith) (omega arith) c.place-n.ensures c.if-n-gt1.false c.saturating_sub.ensures c.give.ensures

pub returns : goal.returns
returns c = let l = c.loop-h in lowering_ends c.args.counts.now c.args.way l.counts c.args.left c.args.top l.h l.invariant (omega arith) (omega arith) (omega arith)
