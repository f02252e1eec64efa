-- `contents::table_part`: the run that holds the table.
use mathlib.Core.Path.{◌∙◌}
use native.Mathlib.Omega.{arith}
use Rattle.contents.proofs.Laws.{table_first, table_later}
use Rattle.path.specs.Geometry.{granule_of, entries}
use Rattle.contents.proofs.table_part.Goals as goal

pub returns-then-start-n : goal.returns-then-start-n
returns-then-start-n c =
    let a = c.args in
    λ k e. c.words_from.ensures ∙ table_first (entries (granule_of a.granule)) a.words.now a.second.now a.t c.entry_place-start.ensures c.entries_of-count.ensures k e (omega arith)

pub returns : goal.returns
returns c =
    let a = c.args in
    λ k e. c.words_from-2.ensures ∙ table_later (entries (granule_of a.granule)) a.words.now a.second.now a.t c.entry_place-start.ensures c.entries_of-count.ensures (omega arith)
