-- What the laws of proofs/Node.antt speak of.
use Rattle.std.specs.Prelude.{◌≢◌, get_or}
use mathlib.Core.List.{Memᴰ}
use Prim.Native.Nat.{ℕ, ◌+◌, ◌≤◌, ◌<◌}
use Rattle.path.specs.Geometry.{Granule}
use Rattle.model.specs.Answers.{Pool}
use Rattle.model.specs.Sound.{Each, EmptyTable, reached_of}

-- `all_nonempty`: no table that is reached is empty
abbrev pub AllNonempty : Granule → Pool → Type 0
AllNonempty G p = Each (λ t. EmptyTable G p.words t → ⊥) (reached_of G p)

-- `all_nonempty() || empty()`: none but the root is
abbrev pub TreeNonempty : Granule → Pool → Type 0
TreeNonempty G p = Each (λ t. t ≢ 0 → EmptyTable G p.words t → ⊥) (reached_of G p)

-- the tables that a map takes which answers t, the last t of the free list, are none of the tree
abbrev pub TakesNew : Granule → Pool → ℕ → Type 0
TakesNew G p t = (i : ℕ) → i < p.numbers.free → p.numbers.free ≤ i + t → Memᴰ (get_or p.list i 0) (reached_of G p) → ⊥
