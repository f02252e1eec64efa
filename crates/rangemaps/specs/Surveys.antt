-- What the walks of a range find in all.
use Rattle.std.specs.Prelude.{ℕ, ◌≡◌, ◌≢◌, true, false, not, List, [], ◌++◌, eqb, length, get_or, Result, Ok, Err}
use Rattle.laws.specs.Lists.{among}
use Rattle.path.specs.Geometry.{Granule}
use Rattle.path.specs.Numbers.{good_setup}
use Rattle.path.specs.declared.Setup.{Setup}
use Rattle.model.specs.declared.Refusal.{Refusal}
use Rattle.model.specs.declared.Refusal.TheVariants.{Overlap, Damage}
use Rattle.model.specs.Answers.{Mapping, Pool}
use Rattle.model.specs.Ranges.{piece_walks, any_ends, is_taken, spoiled, ways, lacked}

-- setup numbers and the lengths of the two runs are good, with a free list of some length
abbrev pub Good : Granule → Setup → List ℕ → List ℕ → Type 0
Good G s first second = (places : ℕ) × (good_setup G s (length first) (length (first ++ second)) places ≡ true)

-- marks are those of the tables in a list, the root left out
abbrev pub MarksOf : List ℕ → List ℕ → Type 0
MarksOf seen M = (t : ℕ) → t ≢ 0 → among t seen ≡ not (eqb (get_or M t 0) 0)

-- damage or an overlap; or the tables that the pieces need, and marks of all tables on their ways
pub data Surveyed (G : Granule) (p : Pool) (ms : List Mapping) : Result ℕ Refusal → List ℕ → Type 0 where
  is_spoiled : {M : List ℕ} → spoiled G p.numbers.levels (piece_walks G p ms) ≡ true → Surveyed G p ms (Err Damage) M
  is_taken_lem : {M : List ℕ}
      → spoiled G p.numbers.levels (piece_walks G p ms) ≡ false
      → any_ends is_taken (piece_walks G p ms) ≡ true
      → Surveyed G p ms (Err Overlap) M
  is_free : {need : ℕ} {M : List ℕ}
      → spoiled G p.numbers.levels (piece_walks G p ms) ≡ false
      → any_ends is_taken (piece_walks G p ms) ≡ false
      → need ≡ length (lacked G p ms [])
      → MarksOf (ways (piece_walks G p ms)) M
      → Surveyed G p ms (Ok need) M
