-- What the laws of proofs/LeftLaws.antt speak of.
use Rattle.std.specs.Prelude.{ℕ, ◌<◌, ◌≡◌, length}
use mathlib.Core.List.{List}
use Rattle.path.specs.Geometry.{Granule}
use Rattle.path.specs.Areas.{area_of, total}
use Rattle.model.specs.Answers.{Pool}
use Rattle.model.specs.Writes.{Write}
use Rattle.model.specs.Calls.{written}

-- the pool as it was, or after single writes and with a free count that stays below the table count
pub data Leaves (G : Granule) (p : Pool) : Pool → Type 0 where
  as_it_was : Leaves G p p
  after_writes : (ws : List Write) (f : ℕ) → (p.numbers.free < total (area_of p.numbers) → f < total (area_of p.numbers)) → Leaves G p (written G p ws f)

-- the setup numbers but the free count, the cut, and the lengths of the lent memory
pub record Kept (p q : Pool) : Type 0 where
  pub granule : q.numbers.granule ≡ p.numbers.granule
  pub levels : q.numbers.levels ≡ p.numbers.levels
  pub area : area_of q.numbers ≡ area_of p.numbers
  pub cut : q.cut ≡ p.cut
  pub words : length q.words ≡ length p.words
  pub places : length q.list ≡ length p.list
