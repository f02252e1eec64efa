-- The hole around an address, in the customer's two sentences, in addresses and sizes alone: no live mapping touches it, and the next larger table
-- region, if there is one below the whole space, holds one. HoleLaws says that the ledger's hole is so, and that there is one such region.
use Rattle.std.specs.Prelude.{ℕ, suc, ◌+◌, ◌%◌, ◌≤◌, ◌<◌, ◌≡◌}
use mathlib.Core.List.{List, Memᴰ}
use Rattle.path.specs.Geometry.{Granule, size_at}
use Rattle.model.specs.Answers.{Mapping}
use Rattle.model.specs.Ledger.{Region, Ledger}

-- a mapping holds an address
abbrev pub Within : ℕ → Mapping → Type 0
Within a m = (m.at ≤ a) × (a < m.at + m.size)

-- a mapping shares a byte with the `size` bytes from `a` on
abbrev pub Shares : ℕ → ℕ → Mapping → Type 0
Shares a size m = (m.at < a + size) × (a < m.at + m.size)

-- some mapping touches a region: they share a byte
abbrev pub Touched : List Mapping → Region → Type 0
Touched L r = (m : Mapping) × Memᴰ m L × Shares r.first r.size m

-- a region holds some mapping whole
abbrev pub HoldsOne : List Mapping → Region → Type 0
HoldsOne L r = (m : Mapping) × Memᴰ m L × (r.first ≤ m.at) × (m.at + m.size ≤ r.first + r.size)

-- r is the region of an entry of height h that holds an address, in a tree of so many levels; the root's entries have height levels - 1. From height 1 up
-- it is a table region: what a table below the root stands for
pub record Around (G : Granule) (levels a h : ℕ) (r : Region) : Type 0 where
  pub low : h < levels
  pub sized : r.size ≡ size_at G h
  pub aligned : r.first % size_at G h ≡ 0
  pub starts : r.first ≤ a
  pub ends : a < r.first + size_at G h

-- the hole
pub record IsHole (G : Granule) (A : Ledger) (a : ℕ) (r : Region) : Type 0 where
  -- one of the tree's sizes, and it holds the address
  pub height : ℕ
  pub around : Around G A.levels a height r
  -- no live mapping touches it
  pub untouched : Touched A.live r → ⊥
  -- the next larger table region, if there is one below the whole space, holds one
  pub next_holds : (q : Region) → Around G A.levels a (suc height) q → HoldsOne A.live q

-- a mapping of one of the sizes, at a multiple of it
pub record Shaped (G : Granule) (m : Mapping) : Type 0 where
  pub height : ℕ
  pub sized : m.size ≡ size_at G height
  pub aligned : m.at % size_at G height ≡ 0
