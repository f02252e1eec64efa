-- `rangeunmaps::has_room` sweeps the range by counts alone, its words read as they are.
use mathlib.Core.Path.{◌≡◌}
use mathlib.Core.Bool.{true}
use Prim.Native.Nat.{ℕ, ◌+◌, ◌-◌, ◌≤◌}
use mathlib.Core.List.{List, ◌++◌}
use lib.ListN.{length}
use Rattle.path.specs.Geometry.{granule_of}
use Rattle.model.specs.Answers.{pool}
use Rattle.model.specs.Calls.{good_pool}
use Rattle.sweeps.specs.Sweeping.{Swept}
use Rattle.rangeunmaps.proofs.has_room.Given as goal

abbrev pub invariant-loop-x : goal.invariant-loop-x
invariant-loop-x l = ((l.x ≤ l.address + l.bytes) × (length l.counts ≡ 512))
    × ((list : List ℕ) → good_pool (granule_of l.s.granule) (pool l.s (l.words ++ l.second) (length l.words) list) ≡ true
    → Swept (granule_of l.s.granule) (pool l.s (l.words ++ l.second) (length l.words) list) l.address l.bytes l.x l.counts l.free)

abbrev pub decreases-loop-x : goal.decreases-loop-x
decreases-loop-x l = l.address + l.bytes - l.x
