-- `formats::format` clears all words and counts the free list down, or refuses.
use native.Mathlib.Omega.{arith}
use Rattle.path.specs.Areas.{area_at}
use Rattle.formats.proofs.Formats.{good, format_unnamed, format_bad, format_done}
use Rattle.formats.proofs.format.Goals as goal

pub returns-then-not-good_granule : goal.returns-then-not-good_granule
returns-then-not-good_granule c =
    let a = c.args in
    format_unnamed a.granule a.levels (area_at a.base a.tables a.base2 a.tables2) a.words.now a.second.now a.list.now c.good_granule.ensures c.if-not-good_granule.true

pub returns-then-not-good_numbers : goal.returns-then-not-good_numbers
returns-then-not-good_numbers c =
    let a = c.args in
    format_bad a.granule a.levels (area_at a.base a.tables a.base2 a.tables2) a.words.now a.second.now a.list.now c.good_granule.ensures c.good_numbers.ensures c.if-not-good_granule.false c.if-not-good_numbers.true

pub count_down-requires : goal.count_down-requires
count_down-requires c = omega (arith, good c.good_numbers.ensures c.if-not-good_numbers.false)

pub overflow_add-free : goal.overflow_add-free
overflow_add-free c = omega (arith, good c.good_numbers.ensures c.if-not-good_numbers.false)

pub overflow_sub-free : goal.overflow_sub-free
overflow_sub-free c = omega (arith, good c.good_numbers.ensures c.if-not-good_numbers.false)

pub returns : goal.returns
returns c =
    let a = c.args in
    format_done a.granule a.levels (area_at a.base a.tables a.base2 a.tables2) a.words.now a.second.now a.list.now c.good_granule.ensures c.good_numbers.ensures c.if-not-good_granule.false c.if-not-good_numbers.false c.clear.ensures c.clear-2.ensures c.count_down.ensures
