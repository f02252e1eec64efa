use Rattle.rangeunmaps.proofs.Looks.{Lowering}
use Rattle.rangeunmaps.proofs.lower.Given as goal

abbrev pub invariant-loop-h : goal.invariant-loop-h
invariant-loop-h l = Lowering l.initial.counts l.way l.left l.top l.counts l.h
