-- `contents::only_entry` tests the words of the table but one, two of them before the others.
use mathlib.Core.Path.{sym, ◌∙◌}
use native.Mathlib.Omega.{arith}
use Rattle.path.specs.Geometry.{granule_of}
use Rattle.path.specs.Laws.{entries_pos}
use Rattle.model.specs.Writes.{only_entry}
use Rattle.contents.proofs.Laws.{entry_stays}
use Rattle.contents.proofs.only_entry.Goals as goal

pub returns-then-word-ne0 : goal.returns-then-word-ne0
unfolding only_entry
returns-then-word-ne0 c =
    let b = c.beside.ensures in
    λ k e. sym (entry_stays _ _ _ _ _ c.entry_place.ensures b.0 b.1 (λ z. c.if-word-ne0.true (c.word.ensures ∙ z)))

pub returns-then-word-ne0-2 : goal.returns-then-word-ne0-2
unfolding only_entry
returns-then-word-ne0-2 c =
    let a = c.args in
    λ k e. sym (entry_stays _ _ _ _ 0 c.entry_place-then-i-gt0.ensures (entries_pos (granule_of a.granule)) (omega arith) (λ z. c.if-word-ne0-2.true (c.word-then-i-gt0.ensures ∙ z)))

pub returns : goal.returns
unfolding only_entry
returns c = λ k e. c.zeros_but.ensures ∙ rw (c.table_part.ensures k e)
