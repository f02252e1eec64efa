-- A sound pool: the audit's rules, each in the words of the paper; and what is said of the mappings that are found in it.
use Rattle.std.specs.Prelude.{ℕ, zero, suc, ◌+◌, ◌-◌, ◌%◌, ◌≤◌, ◌<◌, ◌≡◌, ◌≢◌, length, get_or}
use mathlib.Core.List.{List, [], ◌∷◌, Memᴰ}
use Rattle.laws.specs.Lists.{Distinct}
use Rattle.path.specs.Geometry.{Granule, entries, size_at}
use Rattle.path.specs.Areas.{Area, area_of, total, Shares}
use Rattle.entry.specs.Words.{entry_at, Framed}
use Rattle.entry.specs.declared.Entry.{Entry}
use Rattle.entry.specs.declared.Entry.TheVariants.{Empty, Table, Frame, Damaged}
use Rattle.model.specs.Answers.{Mapping, Pool}
use Rattle.model.specs.Walk.{slot}
use Rattle.model.specs.Audit.{of_pool, free_of}

-- each member of a list has P
abbrev pub Each : {A : Type 0} → (A → Type 0) → List A → Type 0
Each {A} P l = (a : A) → Memᴰ a l → P a

-- the word of entry i of table t
abbrev pub word_at : Granule → List ℕ → ℕ → ℕ → ℕ
word_at G ws t i = get_or ws (slot G t i) 0

-- an entry is sound when it is empty, a frame, or names a sound table one level down
abbrev pub SoundEntry : (ℕ → Type 0) → Entry → Type 0
SoundEntry below Empty = Unit {0}
SoundEntry below (Table c) = below c
SoundEntry below (Frame b k) = Unit {0}
SoundEntry below Damaged = ⊥

-- a table, whose entries have height h, is sound when each of its entries is; there is no table below the last level
unfoldable pub SoundTable : Granule → List ℕ → Area → ℕ → ℕ → Type 0
SoundTable G ws area zero t = (i : ℕ) → i < entries G → SoundEntry (λ _. ⊥) (entry_at G area zero (word_at G ws t i))
SoundTable G ws area (suc h) t =
    (i : ℕ) → i < entries G → SoundEntry (λ c. SoundTable G ws area h c) (entry_at G area (suc h) (word_at G ws t i))

-- all words of table t are 0
abbrev pub EmptyTable : Granule → List ℕ → ℕ → Type 0
EmptyTable G ws t = (i : ℕ) → i < entries G → word_at G ws t i ≡ 0

-- the tables reached from the root, in the order of the walk
abbrev pub reached_of : Granule → Pool → List ℕ
reached_of G p = (of_pool G p).reached

-- the mappings found in the tree
abbrev pub mappings_of : Granule → Pool → List Mapping
mappings_of G p = (of_pool G p).mappings

-- a mapping's frame shares no byte with the tables
abbrev pub OffTables : Granule → Area → Mapping → Type 0
OffTables G area m = ¬ Shares G area m.frame m.size

-- the tree is well-formed: every table and every entry that is reached is sound, and no table is reached twice. Tables may be empty, and of the free
-- list nothing is asked.
pub record WfTree (G : Granule) (p : Pool) : Type 0 where
  pub tree : SoundTable G p.words (area_of p.numbers) (p.numbers.levels - 1) 0
  pub once : Distinct (reached_of G p)

pub record SoundPool (G : Granule) (p : Pool) : Type 0 where
  -- every table and every entry that is reached is sound
  pub tree : SoundTable G p.words (area_of p.numbers) (p.numbers.levels - 1) 0
  -- no table is reached twice
  pub once : Distinct (reached_of G p)
  -- no table but the root is empty
  pub used : Each (λ t. t ≢ 0 → EmptyTable G p.words t → ⊥) (reached_of G p)
  -- no frame shares a byte with the tables
  pub outside : Each (OffTables G (area_of p.numbers)) (mappings_of G p)
  -- free numbers are distinct,
  pub free_once : Distinct (free_of p)
  -- in range
  pub free_range : Each (λ t. t < total (area_of p.numbers)) (free_of p)
  -- and not reached
  pub free_apart : Each (λ t. Memᴰ t (reached_of G p) → ⊥) (free_of p)
  -- free tables are all zero
  pub free_zero : Each (EmptyTable G p.words) (free_of p)
  -- free + reached = n
  pub total : p.numbers.free + length (reached_of G p) ≡ total (area_of p.numbers)

-- mappings from the address lo on, each past the end of the one before it, the last of them ending at hi or below
unfoldable pub Rising : ℕ → ℕ → List Mapping → Type 0
Rising lo hi [] = lo ≤ hi
Rising lo hi (m ∷ ms) = (lo ≤ m.at) × Rising (m.at + m.size) hi ms

-- a mapping of a frame that may stand at some height, at an address that is a multiple of its size
pub record WellFormed (G : Granule) (m : Mapping) : Type 0 where
  pub height : ℕ
  pub framed : Framed G height m.frame m.attributes
  pub sized : m.size ≡ size_at G height
  pub aligned : m.at % m.size ≡ 0
