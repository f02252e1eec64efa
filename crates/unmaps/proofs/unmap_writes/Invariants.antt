-- `unmaps::unmap_writes`: after i turns the memory is that of the first i writes.
use Prim.Native.Nat.{ℕ, ◌*◌}
use mathlib.Core.List.{◌++◌}
use mathlib.Core.Path.{◌≡◌}
use lib.ListN.{length, take}
use Rattle.path.specs.Geometry.{granule_of, entries}
use Rattle.path.specs.Paths.{path_of}
use Rattle.model.specs.Writes.{memory, perform_all, unmap_writes}
use Rattle.unmaps.proofs.unmap_writes.Given as goal

abbrev pub invariant-loop-i : goal.invariant-loop-i
invariant-loop-i l = (n : ℕ) → length l.initial.words ≡ entries (granule_of l.granule) * n
    → memory (l.words ++ l.second) l.list
    ≡ perform_all (granule_of l.granule) (take l.i (unmap_writes (granule_of l.granule) l.way (path_of (granule_of l.granule) l.address) l.left l.free l.given)) (memory (l.initial.words ++ l.initial.second) l.initial.list)
