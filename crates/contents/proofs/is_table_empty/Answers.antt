-- `contents::is_table_empty` tests the words of the table.
use mathlib.Core.Path.{◌∙◌}
use Rattle.contents.proofs.Laws.{none_out}
use Rattle.contents.proofs.is_table_empty.Goals as goal

pub returns : goal.returns
returns c = λ k e. c.zeros_but.ensures ∙ none_out _ _ _ _ c.entries_of-none.ensures (c.table_part.ensures k e)
