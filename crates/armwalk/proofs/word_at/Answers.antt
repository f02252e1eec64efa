-- The word at an address meets its contract.
use mathlib.Core.Path.{sym, ◌∙◌}
use native.Mathlib.Omega.{arith}
use lib.ListN.{length}
use Rattle.armwalk.specs.Laws.{within_at, memory_first, memory_none, memory_second}
use Rattle.armwalk.proofs.word_at.Goals as goal

pub overflow_sub-at : goal.overflow_sub-at
overflow_sub-at c =
    (within_at c.args.base (length c.args.words.now) c.args.at (sym c.is_within.ensures ∙ c.if-is_within.true)).0

pub returns-then-is_within : goal.returns-then-is_within
returns-then-is_within c =
    c.word.ensures
    ∙ memory_first c.args.base c.args.words.now c.args.base2 c.args.second.now c.args.at (sym c.is_within.ensures ∙ c.if-is_within.true)

pub returns-then-at-base2 : goal.returns-then-at-base2
returns-then-at-base2 c =
    memory_none c.args.base c.args.words.now c.args.base2 c.args.second.now c.args.at (sym c.is_within.ensures ∙ c.if-is_within.false) (omega arith)

pub returns : goal.returns
returns c =
    c.word-2.ensures
    ∙ memory_second c.args.base c.args.words.now c.args.base2 c.args.second.now c.args.at (sym c.is_within.ensures ∙ c.if-is_within.false) (omega arith)
