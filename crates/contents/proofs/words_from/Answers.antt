-- `contents::words_from`: a table's worth of words, or what is there of it.
use mathlib.Core.Path.{refl}
use native.Mathlib.Omega.{arith}
use Rattle.contents.proofs.Laws.{part_whole, part_short, part_none}
use Rattle.contents.proofs.words_from.Goals as goal

pub returns-then-start-n : goal.returns-then-start-n
returns-then-start-n c =
    let a = c.args in
    part_none a.words.now _ a.count (omega arith)

pub returns-then-n-start : goal.returns-then-n-start
returns-then-n-start c =
    let a = c.args in
    part_short a.words.now a.start a.count refl (omega arith) (omega arith)

pub returns : goal.returns
returns c =
    let a = c.args in
    part_whole a.words.now a.start a.count refl
