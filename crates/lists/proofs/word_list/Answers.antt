-- `word_list` writes the mapping of one word.
use Rattle.path.specs.Laws.{granule_sane}
use Rattle.lists.proofs.Feeding.{word_empty, word_before, word_full, word_written}
use Rattle.lists.proofs.word_list.Goals as goal

pub returns-then-w-eq0 : goal.returns-then-w-eq0
returns-then-w-eq0 c =
    let a = c.args in
    λ g h e L o. word_empty (granule_sane g) h a.base a.w a.start a.places.now a.entries.now a.written c.if-w-eq0.true L o

pub returns-then-base-start : goal.returns-then-base-start
returns-then-base-start c =
    let a = c.args in
    λ g h e L o. word_before (granule_sane g) h a.base a.w a.start a.places.now a.entries.now a.written c.if-base-start.true L o

pub returns-then-written-places : goal.returns-then-written-places
returns-then-written-places c =
    let a = c.args in
    λ g h e. word_full (granule_sane g) h a.base a.w a.start a.places.now a.entries.now a.written c.if-w-eq0.false c.if-base-start.false c.if-written-places.true

pub returns : goal.returns
returns c =
    let a = c.args in
    λ g h e L o.
    word_written (granule_sane g) h a.base a.w a.start a.places.now a.entries.now a.written e c.if-w-eq0.false c.if-base-start.false c.if-written-places.false L o
