-- `contents::used_step`: the steps passed have no word in use.
use Prim.Native.Nat.{◌-◌, ◌%◌, ◌≤◌}
use mathlib.Core.Path.{◌≡◌}
use Rattle.contents.proofs.Laws.{Passed}
use Rattle.contents.proofs.used_step.Given as goal

abbrev pub invariant-loop-at : goal.invariant-loop-at
invariant-loop-at l = ((l.from ≤ l.at) × ((l.at ≤ l.to) × ((l.to - l.at) % 8 ≡ 0))) × Passed l.w l.from l.at

abbrev pub decreases-loop-at : goal.decreases-loop-at
decreases-loop-at l = l.to - l.at
