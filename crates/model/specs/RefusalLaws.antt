-- What the laws of proofs/RefusalLaws.antt speak of.
use Prim.Native.Nat.{ℕ}
use Rattle.std.specs.Prelude.{◌≡◌}
use mathlib.Core.List.{List}
use Rattle.model.specs.Answers.{refusal, Pool, Done, done}
use Rattle.model.specs.Refusals.{Row, First, None}

-- a call keeps a table: it is refused by the first row that applies, with what goes with the number, or none applies and it is accepted
pub data Told (rows : List Row) (more : ℕ → List ℕ) (p : Pool) (Good : Done → Type 0) (d : Done) : Type 0 where
  refused_by : (n : ℕ) → First rows n → d ≡ done (refusal n (more n)) p → Told rows more p Good d
  accepted_by : None rows → Good d → Told rows more p Good d
