-- `maps::may_take`: what is left to test answers for all.
use Rattle.maps.proofs.Takes.{Taking}
use Rattle.maps.proofs.may_take.Given as goal

abbrev pub invariant-loop-i : goal.invariant-loop-i
invariant-loop-i l = Taking l.list l.tables l.way l.free l.need l.taken l.i
