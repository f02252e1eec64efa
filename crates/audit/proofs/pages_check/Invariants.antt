-- `pages_check` meets its contract, whatever the marks are.
use Rattle.std.proofs.Common.{◌≡◌, ℕ, Bool, List}
use Rattle.model.specs.Audit.{table_words}
use Rattle.audit.specs.Checks.{granule_in}
use Rattle.audit.proofs.Pages.{Pages}
use Rattle.audit.proofs.pages_check.Given as goal

-- whatever table these are the words of
abbrev pub invariant-loop-w : goal.invariant-loop-w
invariant-loop-w l = (ws : List ℕ) (t : ℕ) → l.part ≡ table_words (granule_in l.look) ws t → (M : List Bool) → Pages ws l.look t M l.empty l.pages l.w-index
