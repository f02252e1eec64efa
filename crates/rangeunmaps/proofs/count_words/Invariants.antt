use Rattle.std.specs.Prelude.{ℕ, ◌≡◌, ◌<◌, ◌++◌, get_or}
use Rattle.path.specs.Geometry.{granule_of}
use Rattle.sweeps.specs.Parts.{used_in}
use Rattle.rangeunmaps.proofs.count_words.Given as goal

abbrev pub invariant-loop-t : goal.invariant-loop-t
invariant-loop-t l = (u : ℕ) → u < l.t → get_or l.counts u 0 ≡ used_in (granule_of l.granule) (l.words ++ l.second) u
