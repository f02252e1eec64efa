-- `pool::place` reads 0 past the end.
use mathlib.Core.Path.{sym}
use Rattle.laws.specs.ListLaws.{get_d_past}
use Rattle.pool.proofs.place.Goals as goal

pub returns-else-i-list : goal.returns-else-i-list
returns-else-i-list c = sym (get_d_past c.args.list.now c.args.i c.if-i-list.false)
