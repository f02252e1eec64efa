-- `rangeunmaps::clear_used`: the words up to an index are 0.
use Rattle.std.specs.Prelude.{ℕ, ◌<◌, ◌≡◌, get_or}
use Rattle.rangeunmaps.proofs.clear_used.Given as goal

abbrev pub invariant-loop-w : goal.invariant-loop-w
invariant-loop-w l = (k : ℕ) → k < l.w-index → get_or l.w-items k 0 ≡ 0
