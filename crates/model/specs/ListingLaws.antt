-- What the laws of proofs/ListingLaws.antt speak of.
use Rattle.std.specs.Prelude.{ℕ}
use mathlib.Core.List.{List, [], ◌∷◌}
use Rattle.std.proofs.Math.Option.{Option, some, none}
use Rattle.model.specs.Answers.{Mapping}

-- the base of the first of some mappings
abbrev pub first_base : List Mapping → Option ℕ
first_base [] = none
first_base (m ∷ L) = some m.at
