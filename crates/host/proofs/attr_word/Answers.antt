-- `host::attr_word` meets its contract: the words of its table are those of the rule, which is computed for all sixteen at once.
use native.Mathlib.Omega.{arith}
use borrow.Author.Tests.{lt-ltb, le-ltb}
use Rattle.entry.specs.Words.{attr_word}
use Rattle.host.proofs.Table.{at}
use Rattle.host.proofs.attr_word.Goals as goal

pub returns-then-attributes-ge16 : goal.returns-then-attributes-ge16
returns-then-attributes-ge16 c = rw (le-ltb c.args.attributes 16 (omega arith))

pub returns : goal.returns
returns c =
    let a = c.args.attributes in
    rw (lt-ltb a 16 (omega arith)) (at attr_word 16 a (omega arith))
