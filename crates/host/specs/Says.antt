-- What the host's two calls answer, as the paper's one number: a word, or base + 16 + attributes of a meaning; a refusal is its number.
use Rattle.std.specs.Prelude.{ℕ, ◌+◌, Result, Ok, Err}
use Rattle.model.specs.declared.Refusal.{Refusal}
use Rattle.model.specs.Answers.{number_of}
use Rattle.host.specs.declared.Meaning.{Meaning}

abbrev pub says_word : Result ℕ Refusal → ℕ
says_word (Ok w) = w
says_word (Err r) = number_of r

abbrev pub says_meaning : Result Meaning Refusal → ℕ
says_meaning (Ok m) = m.base + 16 + m.attributes
says_meaning (Err r) = number_of r
