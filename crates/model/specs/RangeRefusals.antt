-- The table of refusals of ranges, for any granule and any pool whatever: when each of the two calls gives each number, in the order of the tests.
use Rattle.std.specs.Prelude.{ℕ, suc, ◌+◌, ◌*◌, ◌/◌, ◌%◌, ◌^◌, ◌≤◌, ◌<◌, ◌≡◌, ◌≢◌, ◌⊎◌, ◌↔◌, length}
use mathlib.Core.List.{List, [], ◌∷◌, Memᴰ}
use Rattle.path.specs.Geometry.{Granule, page_size, size_at}
use Rattle.path.specs.Paths.{base_at}
use Rattle.entry.specs.declared.Entry.TheVariants.{Frame}
use Rattle.model.specs.Answers.{Mapping, took, cleared, tables_in, Pool}
use Rattle.model.specs.Walk.{at_height}
use Rattle.model.specs.Calls.{unmap_w}
use Rattle.model.specs.Ranges.{pieces, pages_from, pages_of, Probe, walk_for, piece_walks, page_walks, ways, lacked, left_by, answers_of, sum_of, accepted_in, map_range_w, unmap_range_w}
use Rattle.model.specs.Refusals.{Row, row, None, ByTable, bare, area_in, table_count, Breaks, NoAttributes, NotBelow, Above, Outside, Misplaced, InPool, OffPage, last_walk, Occupied, Damage, BadTaken, Starts, FullList}

-- ---- when a number applies

-- 2: the length is 0, no multiple of a page's bytes, or above 4 GiB
pub data NoLength (G : Granule) (len : ℕ) : Type 0 where
  nothing : len ≡ 0 → NoLength G len
  part_page : len % page_size G ≢ 0 → NoLength G len
  too_long : 2 ^ 32 < len → NoLength G len

-- 4, unmap: the address is not below the space, or address + length is above it
abbrev pub PastSpace : Granule → ℕ → ℕ → ℕ → Type 0
PastSpace G levels a len = NotBelow G levels a ⊎ Above G levels (a + len)

-- 8, the walks: one meets a damaged word or comes to the same table twice; or together they come to one table for two regions, where its entries have height i
-- on the one way and j on the other
pub data Spoils (G : Granule) (levels : ℕ) (ws : List Probe) : Type 0 where
  meets_damage : (w : Probe) → Memᴰ w ws → Damage w.end → Spoils G levels ws
  two_regions : (v w : Probe) → Memᴰ v ws → Memᴰ w ws
      → (i j : ℕ) → v.end.left ≤ i → i < levels → w.end.left ≤ j → j < levels
      → at_height v.end.tables i ≡ at_height w.end.tables j
      → (size_at G (suc i) ≢ size_at G (suc j)) ⊎ (base_at G v.at (suc i) ≢ base_at G w.at (suc j))
      → Spoils G levels ws

-- 6: the walk of a piece meets a frame, or its target entry is a table or a frame
abbrev pub SomeOccupied : Granule → Pool → List Mapping → Type 0
SomeOccupied G p ms = (m : Mapping) × Memᴰ m ms × Occupied (walk_for G p m)

-- the new tables that all pieces need: the regions that lack one, each counted once
abbrev pub tables_for : Granule → Pool → List Mapping → ℕ
tables_for G p ms = length (lacked G p ms [])

-- 8, the free list: of the tables to be taken one is outside 1 to n - 1, is taken twice, or stands on a piece's path
abbrev pub BadRange : Granule → Pool → List Mapping → Type 0
BadRange G p ms = BadTaken p.list (table_count p) p.numbers.free (tables_for G p ms) (ways (piece_walks G p ms))

-- 10: the walk of a page finds a frame whose mapping begins before the range or ends past it
abbrev pub Cuts : Granule → Pool → ℕ → ℕ → Type 0
Cuts G p a len =
    (x : ℕ)
    × Memᴰ x (pages_of G a len)
    × (let o = last_walk G p x in
    (b : ℕ) × (k : ℕ) × (o.entry ≡ Frame b k) × ((base_at G x o.left < a) ⊎ (a + len < base_at G x o.left + size_at G o.left)))

-- 8, the free list: at some page of the range, once the mappings before it are removed, a mapping starts, and giving back its tables would make the free count
-- exceed the table count less 1
abbrev pub FullRange : Granule → Pool → ℕ → ℕ → Type 0
FullRange G p a len =
    (j : ℕ)
    × (j < len / page_size G)
    × (let q = left_by (unmap_w G) p (pages_from G a j) in let x = a + j * page_size G in Starts G x (last_walk G q x) × FullList G q x)

-- ---- the tables, in the order of the tests

abbrev pub map_range_table : Granule → Pool → ℕ → ℕ → ℕ → ℕ → List Row
map_range_table G p a b len k =
    row 1 (Breaks G p)
    ∷ row 2 (NoLength G len)
    ∷ row 3 (NoAttributes k)
    ∷ row 4 (Outside G p.numbers.levels a b len)
    ∷ row 5 (Misplaced a b (page_size G))
    ∷ row 11 (InPool G (area_in p) b len)
    ∷ row 8 (Spoils G p.numbers.levels (piece_walks G p (pieces G a b len k)))
    ∷ row 6 (SomeOccupied G p (pieces G a b len k))
    ∷ row 7 (p.numbers.free < tables_for G p (pieces G a b len k))
    ∷ row 8 (BadRange G p (pieces G a b len k))
    ∷ []

abbrev pub unmap_range_table : Granule → Pool → ℕ → ℕ → List Row
unmap_range_table G p a len =
    row 1 (Breaks G p)
    ∷ row 2 (NoLength G len)
    ∷ row 4 (PastSpace G p.numbers.levels a len)
    ∷ row 5 (OffPage G a)
    ∷ row 8 (Spoils G p.numbers.levels (page_walks G p (pages_of G a len)))
    ∷ row 10 (Cuts G p a len)
    ∷ row 8 (FullRange G p a len)
    ∷ []

-- ---- what is promised

-- a range is refused exactly by the first row that applies, and then all stays as it was; and it is accepted exactly where none does
pub record MapRangeNumbers (G : Granule) (p : Pool) (a b len k : ℕ) : Type 0 where
  pub refuses : ByTable (map_range_table G p a b len k) bare p (map_range_w G p a b len k)
  pub accepted : (t : ℕ)
      → ((map_range_w G p a b len k).answer ≡ took t) ↔ (None (map_range_table G p a b len k) × (t ≡ tables_for G p (pieces G a b len k)))

pub record UnmapRangeNumbers (G : Granule) (p : Pool) (a len : ℕ) : Type 0 where
  pub refuses : ByTable (unmap_range_table G p a len) bare p (unmap_range_w G p a len)
  pub accepted : (m t : ℕ)
      → ((unmap_range_w G p a len).answer ≡ cleared m t)
      ↔ (None (unmap_range_table G p a len)
      × (m ≡ sum_of accepted_in (answers_of (unmap_w G) p (pages_of G a len)))
      × (t ≡ sum_of tables_in (answers_of (unmap_w G) p (pages_of G a len))))
