-- `pool::word` reads 0 past the end.
use mathlib.Core.Path.{sym, ◌∙◌}
use native.Mathlib.Omega.{arith}
use Rattle.laws.specs.ListLaws.{get_d_past, get_d_first, get_d_later}
use Rattle.pool.proofs.word.Goals as goal

pub returns-then-i-n : goal.returns-then-i-n
returns-then-i-n c =
    let a = c.args in
    sym (get_d_first a.words.now a.second.now a.i (omega arith))

pub returns-then-k-second : goal.returns-then-k-second
returns-then-k-second c =
    let a = c.args in
    sym (get_d_later a.words.now a.second.now a.i (omega arith))

pub returns-else-k-second : goal.returns-else-k-second
returns-else-k-second c =
    let a = c.args in
    sym (get_d_later a.words.now a.second.now a.i (omega arith) ∙ get_d_past a.second.now _ (omega arith))
