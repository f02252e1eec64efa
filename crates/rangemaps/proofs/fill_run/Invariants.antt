-- `rangemaps::fill_run`: after i turns i words are written.
use Rattle.std.specs.Prelude.{◌≡◌}
use Rattle.rangemaps.specs.Rows.{filled}
use Rattle.rangemaps.proofs.fill_run.Given as goal

abbrev pub invariant-loop-i : goal.invariant-loop-i
invariant-loop-i l = l.words ≡ filled l.initial.words l.start l.first l.size l.i
