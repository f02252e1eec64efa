-- What a query answers, as the walk that it makes has it.
use Rattle.std.specs.Prelude.{ℕ}
use Rattle.path.specs.Geometry.{Granule}
use Rattle.model.specs.declared.Walked.{Walked}
use Rattle.model.specs.Answers.{Answer}
use Rattle.model.specs.Calls.{found_at}

-- what a walk to the last level answers of an address, where it ended
abbrev pub ends_at : Granule → ℕ → Walked → Answer
ends_at G a o = found_at G a o.entry o.left
