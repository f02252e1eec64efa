-- `pool::among_four` is the library's search.
use mathlib.Core.Path.{◌∙◌}
use Rattle.pool.proofs.Laws.{among_any}
use Rattle.pool.proofs.among_four.Goals as goal

pub returns : goal.returns
returns c = c.contains.ensures.value ∙ among_any c.args.c c.args.tables
