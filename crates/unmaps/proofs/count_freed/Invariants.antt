-- `unmaps::count_freed`: the tables passed, and those that come free from there on.
use Prim.Native.Nat.{ℕ, ◌+◌, ◌-◌, ◌*◌}
use mathlib.Core.List.{◌++◌}
use lib.ListN.{length}
use mathlib.Core.Path.{◌≡◌}
use Rattle.path.specs.Geometry.{granule_of, entries}
use Rattle.path.specs.Paths.{path_of}
use Rattle.model.specs.Writes.{freed}
use Rattle.unmaps.proofs.count_freed.Given as goal

abbrev pub invariant-loop-h : goal.invariant-loop-h
invariant-loop-h l = (k : ℕ) → length l.words ≡ entries (granule_of l.granule) * k
    → freed (granule_of l.granule) (l.words ++ l.second) l.way (path_of (granule_of l.granule) l.address) l.left (l.top - l.left) ≡ l.h - l.left + freed (granule_of l.granule) (l.words ++ l.second) l.way (path_of (granule_of l.granule) l.address) l.h (l.top - l.h)
