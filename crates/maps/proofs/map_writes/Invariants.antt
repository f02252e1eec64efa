-- `maps::map_writes`: after i turns the words are those of the first i writes.
use Prim.Native.Nat.{ℕ, ◌+◌, ◌*◌}
use mathlib.Core.List.{List, ◌++◌}
use mathlib.Core.Path.{◌≡◌}
use lib.ListN.{length, take}
use Rattle.path.specs.Geometry.{granule_of, entries}
use Rattle.path.specs.Areas.{area_of}
use Rattle.path.specs.Paths.{path_of}
use Rattle.model.specs.Walk.{slot, at_height}
use Rattle.model.specs.Writes.{memory, perform_all, map_writes}
use Rattle.maps.proofs.map_writes.Given as goal

abbrev pub invariant-loop-i : goal.invariant-loop-i
invariant-loop-i l = (t : ℕ) → l.first ≡ slot (granule_of l.s.granule) t (at_height (path_of (granule_of l.s.granule) l.address) (l.height + l.need))
    → (n : ℕ) → length l.initial.words ≡ entries (granule_of l.s.granule) * n
    → (m : List ℕ) → l.words ++ l.second
    ≡ (perform_all (granule_of l.s.granule) (take l.i (map_writes (granule_of l.s.granule) (area_of l.s) (path_of (granule_of l.s.granule) l.address) l.list l.height l.word t l.s.free l.need)) (memory (l.initial.words ++ l.initial.second) m)).words
