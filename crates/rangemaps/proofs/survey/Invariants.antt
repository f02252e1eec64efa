-- `rangemaps::survey`: after each row what the walks before its end find.
use Prim.Native.Nat.{ℕ}
use mathlib.Core.Path.{◌≡◌}
use mathlib.Core.Bool.{true}
use mathlib.Core.List.{List, ◌++◌}
use lib.ListN.{length, get_or}
use Rattle.path.specs.Geometry.{granule_of}
use Rattle.path.specs.Areas.{area_of}
use Rattle.path.specs.Numbers.{good_setup}
use Rattle.model.specs.Answers.{pool}
use Rattle.model.specs.Ranges.{map_range_tests}
use Rattle.rangemaps.proofs.Surveying.{Stands, Sofar}
use Rattle.rangemaps.proofs.survey.Given as goal

abbrev pub invariant-loop-left : goal.invariant-loop-left
invariant-loop-left l = Stands (granule_of l.s.granule) l.s l.address l.frame l.len l.x l.y l.left l.need l.stands
    × ((length l.stands ≡ length l.initial.stands)
    × ((list : List ℕ) (k : ℕ) → good_setup (granule_of l.s.granule) l.s (length l.words) (length (l.words ++ l.second)) (length list) ≡ true
    → ((t : ℕ) → get_or l.initial.stands t 0 ≡ 0) → map_range_tests (granule_of l.s.granule) l.s.levels (area_of l.s) l.address l.frame l.len k ≡ 0
    → Sofar (granule_of l.s.granule) (pool l.s (l.words ++ l.second) (length l.words) list) l.address l.frame l.len k l.x l.y l.left l.overlaps l.need l.stands))

abbrev pub decreases-loop-left : goal.decreases-loop-left
decreases-loop-left l = l.left
