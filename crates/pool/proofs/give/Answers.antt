-- `pool::give` leaves the list as it was past the end.
use mathlib.Core.Path.{sym}
use lib.Seq.{set_out}
use Rattle.pool.proofs.give.Goals as goal

pub returns-else-i-list : goal.returns-else-i-list
returns-else-i-list c = sym (set_out _ _ _ c.if-i-list.false)
