-- What the host's boot code is told, in plain numbers: a word or its meaning, or a refusal, which is below 16.
use Rattle.std.specs.Prelude.{ℕ, ◌+◌, ◌%◌, ◌^◌, ◌≤◌, ◌≡◌, ◌⊎◌, cond, ltb, eqb}
use Rattle.path.specs.Geometry.{Granule, four, sixteen, physical, height_of}
use Rattle.entry.specs.Words.{frame_word, frame_at}
use Rattle.entry.specs.declared.Entry.{Entry}
use Rattle.entry.specs.declared.Entry.TheVariants.{Empty, Table, Frame, Damaged}

-- The granule whose frames have a size: 16 KiB and 32 MiB are of 16 KiB pages, and any other size is read with 4 KiB pages, where 4096, 2 MiB and 1 GiB are
-- the frames' sizes. No size is of both.
unfoldable pub sized_by : ℕ → Granule
sized_by size = cond (ltb sixteen.large (height_of sixteen size)) four sixteen

-- the five sizes, by both granules
abbrev pub FrameSize : ℕ → Type 0
FrameSize size = (size ≡ 2 ^ 12) ⊎ ((size ≡ 2 ^ 21) ⊎ ((size ≡ 2 ^ 30) ⊎ ((size ≡ 2 ^ 14) ⊎ (size ≡ 2 ^ 25))))

-- the entry word of a frame, checked in the order 2, 3, 4, 5
unfoldable pub host_word : Granule → ℕ → ℕ → ℕ → ℕ
host_word G base size attributes =
    cond (ltb G.large (height_of G size)) 2
    (cond (ltb 15 attributes) 3
    (cond (ltb physical (base + size)) 4
    (cond (eqb (base % size) 0) (frame_word base (height_of G size) attributes) 5)))

-- the frames that have a word: the size is one of the frames' sizes, the attributes are at most 15, the frame ends within the physical addresses, and
-- its base is a multiple of its size
pub record Accepted (G : Granule) (base size attributes : ℕ) : Type 0 where
  pub sized : height_of G size ≤ G.large
  pub few : attributes ≤ 15
  pub fits : base + size ≤ physical
  pub aligned : base % size ≡ 0

-- a frame is base + 16 + attributes; what is no frame is 8
abbrev pub meaning_of : Entry → ℕ
meaning_of (Frame b a) = b + 16 + a
meaning_of Empty = 8
meaning_of (Table c) = 8
meaning_of Damaged = 8

-- the meaning of a word at a size; 2 for a size that no frame has
unfoldable pub host_meaning : Granule → ℕ → ℕ → ℕ
host_meaning G w size = cond (ltb G.large (height_of G size)) 2 (meaning_of (frame_at G (height_of G size) w))
