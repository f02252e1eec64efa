-- `pool::wipe_from` zeroes the part of the run, where there is such a part.
use mathlib.Core.Path.{sym}
use native.Mathlib.Omega.{arith}
use Rattle.laws.specs.ListLaws.{zeroed_none}
use Rattle.pool.proofs.Laws.{wiped}
use Rattle.pool.proofs.wipe_from.Goals as goal

pub returns-then-count-n : goal.returns-then-count-n
returns-then-count-n c =
    let a = c.args in
    wiped a.words.now _ a.start a.count (omega arith) c.clear.ensures

pub returns-else-start-n : goal.returns-else-start-n
returns-else-start-n c =
    let a = c.args in
    sym (zeroed_none a.words.now a.start a.count (omega arith))
