-- `rangemaps::may_take`: what is left to test answers for all.
use Rattle.std.specs.Prelude.{ℕ, List}
use Rattle.rangemaps.specs.Surveys.{MarksOf}
use Rattle.rangemaps.proofs.Takes.{Taking}
use Rattle.rangemaps.proofs.may_take.Given as goal

abbrev pub invariant-loop-i : goal.invariant-loop-i
invariant-loop-i l = (seen : List ℕ) → MarksOf seen l.initial.stands → Taking l.list l.tables seen l.free l.need l.stands l.i
