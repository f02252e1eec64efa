-- A meaning's number is below 2^64, since the paper's is.
use Rattle.std.proofs.Math.Path.{sym}
use Rattle.std.proofs.Common.{ap, ◌∙◌, arith}
use Rattle.host.specs.Says.{says_meaning}
use Rattle.oakabut.proofs.Hands.{number_lt}
use Rattle.oakabut.proofs.oak_word_meaning.Goals as goal

pub overflow_add-result : goal.overflow_add-result
overflow_add-result c = omega (arith, number_lt _ _ _ (ap says_meaning (sym c.in-Ok.is) ∙ c.word_meaning.ensures.says))

pub overflow_add-result-in-Ok : goal.overflow_add-result-in-Ok
overflow_add-result-in-Ok c = omega (arith, number_lt _ _ _ (ap says_meaning (sym c.in-Ok.is) ∙ c.word_meaning.ensures.says))
