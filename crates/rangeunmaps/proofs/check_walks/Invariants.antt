-- `rangeunmaps::check_walks` checks walk after walk, and the pages of a row with the first.
use Prim.Native.Nat.{◌+◌, ◌-◌, ◌≤◌}
use mathlib.Core.List.{[], ◌++◌}
use lib.ListN.{length}
use Rattle.path.specs.Geometry.{granule_of}
use Rattle.model.specs.Answers.{pool}
use Rattle.sweeps.specs.Checking.{Checked}
use Rattle.rangeunmaps.proofs.check_walks.Given as goal

abbrev pub invariant-loop-x : goal.invariant-loop-x
invariant-loop-x l = (l.x ≤ l.address + l.bytes) × Checked (granule_of l.s.granule) (pool l.s (l.words ++ l.second) (length l.words) []) l.address l.bytes l.x l.stands l.cut

abbrev pub decreases-loop-x : goal.decreases-loop-x
decreases-loop-x l = l.address + l.bytes - l.x
