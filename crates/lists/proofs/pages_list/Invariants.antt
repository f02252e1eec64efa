-- `pages_list` lists the words of a table of the last level one after the other.
use Rattle.std.proofs.Common.{ℕ, List}
use Rattle.path.specs.Geometry.{granule_of}
use Rattle.path.specs.Areas.{Area}
use Rattle.lists.specs.Feeds.{SoundPages}
use Rattle.lists.proofs.Rests.{Same}
use Rattle.lists.proofs.pages_list.Given as goal

abbrev pub invariant-loop-i : goal.invariant-loop-i
invariant-loop-i l =
    (ws : List ℕ) (area : Area) → SoundPages (granule_of l.granule) ws area l.part
    → Same (granule_of l.granule) ws area l.start 0 l.first l.part l.from l.initial.places l.initial.entries l.written l.places l.entries l.n l.i
