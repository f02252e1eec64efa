-- Whether an address is in a run meets its contract.
use mathlib.Core.Path.{sym}
use native.Mathlib.Omega.{arith}
use Rattle.armwalk.specs.Laws.{within_yes, within_not}
use Rattle.armwalk.proofs.is_within.Goals as goal

pub returns-then-at-base : goal.returns-then-at-base
returns-then-at-base c = sym (within_not c.args.base c.args.words c.args.at (λ l. absurd (omega arith)))

pub returns : goal.returns
returns c = within_yes c.args.base c.args.words c.args.at (omega arith)
