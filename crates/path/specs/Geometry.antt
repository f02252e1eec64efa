-- The numbers of a granule, and the sizes that follow from them. An entry of the last level has height 0, one of the level above it height 1,
-- and so on: the height is the number of levels left below an entry.
use Rattle.std.specs.Prelude.{ℕ, zero, suc, ◌+◌, ◌*◌, ◌^◌, ◌≤◌, ◌<◌, ◌≡◌, Bool, cond, ◌&&◌, ◌||◌, ltb, leb, eqb, Option, Some, None}

pub record Granule : Type 0 where
  -- the bits of an address within a page: a page, and a table, has 2^page bytes
  pub page : ℕ
  -- the bits of an index: a table has 2^index entries
  pub index : ℕ
  -- the greatest height at which a frame may stand
  pub large : ℕ
  -- the fewest and the most levels of a tree
  pub fewest : ℕ
  pub most : ℕ

-- what is asked of a granule
pub record Sane (G : Granule) : Type 0 where
  -- a page has at least 4096 bytes
  pub page_least : 12 ≤ G.page
  -- a table takes a page: 8 bytes for an entry
  pub table_page : G.index + 3 ≡ G.page
  -- every tree has entries of the greatest frame's height
  pub large_below : G.large < G.fewest
  pub few_most : G.fewest ≤ G.most
  -- the architecture has blocks of height 2 with 4 KiB pages, and with larger pages of height 1 alone
  pub blocks_low : G.large ≤ 2
  pub blocks_large : (G.page ≡ 12 → ⊥) → G.large ≤ 1
  -- a path's four places are enough, and no space is larger than the physical one
  pub most_four : G.most ≤ 4
  pub space_fits : G.page + G.index * G.most ≤ 48

-- 4 KiB pages, tables of 512 entries, frames of 4096, 2 MiB and 1 GiB, three or four levels
abbrev pub four : Granule
four = record { page = 12; index = 9; large = 2; fewest = 3; most = 4 }

-- 16 KiB pages, tables of 2048 entries, frames of 16 KiB and 32 MiB, three levels
abbrev pub sixteen : Granule
sixteen = record { page = 14; index = 11; large = 1; fewest = 3; most = 3 }

-- the numbers that name a granule
abbrev pub good_granule : ℕ → Bool
good_granule number = eqb number 4096 || eqb number 16384

-- The granule of a pool whose setup has this number. No pool has any number but these two; where there is none, sizes are read as those of 4 KiB.
unfoldable pub granule_of : ℕ → Granule
granule_of number = cond (eqb number 16384) sixteen four

-- the bytes of a page, and of a table
abbrev pub page_size : Granule → ℕ
page_size G = 2 ^ G.page

-- the entries of a table
abbrev pub entries : Granule → ℕ
entries G = 2 ^ G.index

-- the bytes that an entry of height h stands for: 4096, 2 MiB, 1 GiB, 512 GiB; or 16 KiB, 32 MiB, 64 GiB
unfoldable pub size_at : Granule → ℕ → ℕ
size_at G h = 2 ^ (G.page + G.index * h)

-- no frame and no table ends past this address
abbrev pub physical : ℕ
physical = 2 ^ 48

-- x where some level's entries have height h, else 0
unfoldable pub at_level : Granule → ℕ → ℕ → ℕ
at_level G h x = cond (ltb h G.most) x 0

-- the levels that a tree may have
unfoldable pub good_levels : Granule → ℕ → Bool
good_levels G levels = leb G.fewest levels && leb levels G.most

-- addresses are below this: 2^39 for three levels, 2^48 for four, and with 16 KiB 2^47; 0 for any other number of levels
unfoldable pub space_of : Granule → ℕ → ℕ
space_of G levels = cond (good_levels G levels) (size_at G levels) 0

-- the same where a tree may have so many levels, and else nothing
unfoldable pub known_space : Granule → ℕ → Option ℕ
known_space G levels = cond (good_levels G levels) (Some (space_of G levels)) None

-- the first height from h on, of `tries` heights, whose size this is; else the height after them
unfoldable pub seek : Granule → ℕ → ℕ → ℕ → ℕ
seek G size h zero = h
seek G size h (suc tries) = cond (eqb size (size_at G h)) h (seek G size (suc h) tries)

-- the height of the frames of a size; `large + 1` where no frame has it
unfoldable pub height_of : Granule → ℕ → ℕ
height_of G size = seek G size 0 (suc G.large)

-- the same where a frame has the size, and else nothing
unfoldable pub frame_height : Granule → ℕ → Option ℕ
frame_height G size = cond (leb (height_of G size) G.large) (Some (height_of G size)) None
