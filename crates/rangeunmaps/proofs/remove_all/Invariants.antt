use Rattle.std.specs.Prelude.{◌≡◌, ◌+◌, ◌-◌, ◌≤◌, ◌++◌, length}
use Rattle.path.specs.Geometry.{granule_of}
use Rattle.model.specs.Answers.{pool}
use Rattle.rangeunmaps.specs.Dones.{Did}
use Rattle.rangeunmaps.proofs.remove_all.Given as goal

abbrev pub invariant-loop-gone : goal.invariant-loop-gone
invariant-loop-gone l = Did (granule_of l.fn.s.granule) (pool l.fn.s (l.initial.words ++ l.initial.second) (length l.initial.words) l.initial.list) l.address l.gone l.words l.second l.list
    × (l.gone.next ≤ l.address + l.bytes) × (l.gone.setup.granule ≡ l.fn.s.granule)

abbrev pub decreases-loop-gone : goal.decreases-loop-gone
decreases-loop-gone l = l.address + l.bytes - l.gone.next
