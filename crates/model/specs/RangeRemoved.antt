-- What the laws of proofs/RangeRemoved.antt speak of.
use Prim.Native.Nat.{ℕ, ◌%◌}
use Rattle.std.specs.Prelude.{◌≡◌, Bool, true, false, cond, ◌&&◌, eqb, length}
use mathlib.Core.List.{List, [], ◌∷◌, Memᴰ}
use Rattle.path.specs.Geometry.{Granule, size_at}
use Rattle.entry.specs.declared.Entry.{Entry}
use Rattle.entry.specs.declared.Entry.TheVariants.{Empty, Table, Frame, Damaged}
use Rattle.model.specs.declared.Walked.{Walked}
use Rattle.model.specs.Answers.{Answer, gave, tables_in, Pool}
use Rattle.model.specs.Calls.{walk_to, unmap_w}
use Rattle.model.specs.Ranges.{pages_of, answers_of, left_by, sum_of, accepted_in, unmap_range_w}

abbrev pub is_frame : Entry → Bool
is_frame (Frame b k) = true
is_frame Empty = false
is_frame (Table c) = false
is_frame Damaged = false

-- the walk o for x found a frame whose mapping starts there
abbrev pub starts_at : Granule → ℕ → Walked → Bool
starts_at G x o = is_frame o.entry && eqb (x % size_at G o.left) 0

-- of these pages those at which a mapping starts
unfoldable pub starts_in : Granule → Pool → List ℕ → List ℕ
starts_in G p [] = []
starts_in G p (x ∷ xs) = cond (starts_at G x (walk_to G p 0 x)) (x ∷ starts_in G p xs) (starts_in G p xs)

-- unmapping at xs, and at ys alone, comes to the same: each of ys removes a mapping, and the others none
pub record Alone (G : Granule) (p : Pool) (xs ys : List ℕ) : Type 0 where
  pub each : (r : Answer) → Memᴰ r (answers_of (unmap_w G) p ys) → (b : ℕ) × (s : ℕ) × (c : ℕ) × (t : ℕ) × (r ≡ gave b s c t)
  pub removed : sum_of accepted_in (answers_of (unmap_w G) p xs) ≡ length ys
  pub given : sum_of tables_in (answers_of (unmap_w G) p xs) ≡ sum_of tables_in (answers_of (unmap_w G) p ys)
  pub after : left_by (unmap_w G) p xs ≡ left_by (unmap_w G) p ys

-- an accepted range to be unmapped equals unmapping, in rising order, the mappings that start at its pages at entry: each unmap removes one, so many there are,
-- and the tables that they give back are those that the range answers
pub record MappingByMapping (G : Granule) (p : Pool) (a len m t : ℕ) : Type 0 where
  pub each : (r : Answer) → Memᴰ r (answers_of (unmap_w G) p (starts_in G p (pages_of G a len)))
      → (b : ℕ) × (s : ℕ) × (c : ℕ) × (j : ℕ) × (r ≡ gave b s c j)
  pub removed : length (starts_in G p (pages_of G a len)) ≡ m
  pub given : sum_of tables_in (answers_of (unmap_w G) p (starts_in G p (pages_of G a len))) ≡ t
  pub after : (unmap_range_w G p a len).after ≡ left_by (unmap_w G) p (starts_in G p (pages_of G a len))
