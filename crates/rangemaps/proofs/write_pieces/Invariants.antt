-- `rangemaps::write_pieces`: what is left to write leaves what the range leaves.
use mathlib.Core.Path.{◌≡◌}
use mathlib.Core.List.{◌++◌}
use lib.ListN.{length}
use Rattle.path.specs.Geometry.{granule_of}
use Rattle.path.specs.Laws.{granule_sane}
use Rattle.model.specs.Answers.{pool}
use Rattle.rangemaps.proofs.Writing.{Written}
use Rattle.rangemaps.proofs.write_pieces.Given as goal

abbrev pub invariant-loop-left : goal.invariant-loop-left
invariant-loop-left l = Written (granule_of l.s.granule) (granule_sane l.s.granule) (pool l.s (l.initial.words ++ l.initial.second) (length l.initial.words) l.list) l.address l.frame l.len l.attributes l.now (l.words ++ l.second) (length l.words) l.x l.y l.left
    × ((length l.words ≡ length l.initial.words) × (length l.second ≡ length l.initial.second))

abbrev pub decreases-loop-left : goal.decreases-loop-left
decreases-loop-left l = l.left
