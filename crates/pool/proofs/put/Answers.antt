-- `pool::put` writes in the run that has the place, and leaves both as they were past the end.
use mathlib.Core.List.{◌++◌}
use mathlib.Core.Path.{sym, ap, ◌∙◌}
use native.Mathlib.Omega.{arith}
use lib.Seq.{set_out}
use Rattle.laws.specs.ListLaws.{set_first, set_later}
use Rattle.pool.proofs.put.Goals as goal

pub returns-then-i-n : goal.returns-then-i-n
returns-then-i-n c =
    let a = c.args in
    sym (set_first a.words.now a.second.now a.i a.v (omega arith))

pub returns-then-k-second : goal.returns-then-k-second
returns-then-k-second c =
    let a = c.args in
    sym (set_later a.words.now a.second.now a.i a.v (omega arith))

pub returns-else-k-second : goal.returns-else-k-second
returns-else-k-second c =
    let a = c.args in
    sym (set_later a.words.now a.second.now a.i a.v (omega arith) ∙ ap (λ l. a.words.now ++ l) (set_out a.second.now _ a.v (omega arith)))
