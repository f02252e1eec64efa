-- The ledger: the live mappings, in addresses and sizes alone, and what each call answers by it.
use Rattle.std.specs.Prelude.{ℕ, zero, suc, ◌+◌, ◌-◌, ◌*◌, Bool, false, cond, ◌&&◌, ◌||◌, List, [], ◌∷◌, ◌++◌, ltb, leb, eqb, length}
use Rattle.std.proofs.Math.Option.{Option, some, none}
use Rattle.path.specs.Geometry.{Granule, entries, size_at, space_of}
use Rattle.path.specs.Areas.{Area, one_region, with_second, total}
use Rattle.path.specs.Numbers.{good_numbers, good_adding}
use Rattle.path.specs.Paths.{base_at}
use Rattle.model.specs.Answers.{Mapping, mapping, Answer, formatted, added, took, gave, found, audited, refused, hole}
use Rattle.model.specs.Calls.{map_tests, unmap_tests}
use Rattle.model.specs.Audit.{none_inside}
use Rattle.model.specs.Listing.{from_on, listed_of}

-- the pool's numbers, and the live mappings
pub record Ledger : Type 0 where
  pub levels : ℕ
  pub area : Area
  pub live : List Mapping

abbrev pub ledger : ℕ → Area → List Mapping → Ledger
ledger l r L = record { levels = l; area = r; live = L }

-- the same numbers, other mappings
abbrev pub with_live : Ledger → List Mapping → Ledger
with_live A L = ledger A.levels A.area L

-- two ranges share a byte
abbrev pub overlaps : ℕ → ℕ → Mapping → Bool
overlaps a size m = ltb a (m.at + m.size) && ltb m.at (a + size)

unfoldable pub any_overlap : ℕ → ℕ → List Mapping → Bool
any_overlap a size [] = false
any_overlap a size (m ∷ L) = overlaps a size m || any_overlap a size L

-- the mapping that holds an address
abbrev pub holds_address : ℕ → Mapping → Bool
holds_address a m = leb m.at a && ltb a (m.at + m.size)

unfoldable pub cover_of : ℕ → List Mapping → Option Mapping
cover_of a [] = none
cover_of a (m ∷ L) = cond (holds_address a m) (some m) (cover_of a L)

-- the ledger without the mapping at an address
unfoldable pub drop_at : ℕ → List Mapping → List Mapping
drop_at a [] = []
drop_at a (m ∷ L) = cond (eqb m.at a) (drop_at a L) (m ∷ drop_at a L)

-- Tables needed. Below the root a table stands for one region; a region is its size and its first address.
pub record Region : Type 0 where
  pub size : ℕ
  pub first : ℕ

abbrev pub region : ℕ → ℕ → Region
region s a = record { size = s; first = a }

-- the regions of heights 1 to k that are larger than a mapping and hold it: it needs the table of each
unfoldable pub regions_of : Granule → Mapping → ℕ → List Region
regions_of G m zero = []
regions_of G m (suc k) =
    cond (ltb m.size (size_at G (suc k))) (region (size_at G (suc k)) (base_at G m.at (suc k)) ∷ regions_of G m k) (regions_of G m k)

unfoldable pub has_region : Region → List Region → Bool
has_region r [] = false
has_region r (q ∷ R) = (eqb q.size r.size && eqb q.first r.first) || has_region r R

-- the regions of the first list that the second does not have
unfoldable pub new_regions : List Region → List Region → List Region
new_regions [] R = []
new_regions (r ∷ Q) R = cond (has_region r R) (new_regions Q R) (r ∷ new_regions Q R)

-- the regions below a root of height k that live mappings need a table for, each once
unfoldable pub regions_needed : Granule → ℕ → List Mapping → List Region
regions_needed G k [] = []
regions_needed G k (m ∷ L) = new_regions (regions_of G m k) (regions_needed G k L) ++ regions_needed G k L

-- the tables that live mappings need, the root not counted
unfoldable pub tables_needed : Granule → ℕ → List Mapping → ℕ
tables_needed G levels L = length (regions_needed G (levels - 1) L)

-- the new tables that one more mapping needs
unfoldable pub tables_lacking : Granule → ℕ → List Mapping → Mapping → ℕ
tables_lacking G levels L m = length (new_regions (regions_of G m (levels - 1)) (regions_needed G (levels - 1) L))

-- the tables that are free
unfoldable pub free_tables : Granule → Ledger → ℕ
free_tables G A = total A.area - 1 - tables_needed G A.levels A.live

-- The hole around an address: the largest region of the tree's sizes that holds it and that no live mapping touches. Of the regions around it, each an
-- entry's at one level, from height k down, it is the first without an overlap; the page is the last that there is.
unfoldable pub hole_from : Granule → ℕ → List Mapping → ℕ → Region
hole_from G a L zero = region (size_at G zero) (base_at G a zero)
hole_from G a L (suc k) =
    cond (any_overlap (base_at G a (suc k)) (size_at G (suc k)) L) (hole_from G a L k) (region (size_at G (suc k)) (base_at G a (suc k)))

-- from the root's entries down
unfoldable pub hole_of : Granule → Ledger → ℕ → Region
hole_of G A a = hole_from G a A.live (A.levels - 1)

-- refusal 9 by the ledger
abbrev pub hole_at : Region → Answer
hole_at r = hole r.first r.size

-- a call's answer, and the ledger after it
pub record Entered : Type 0 where
  pub answer : Answer
  pub after : Ledger

abbrev pub entered : Answer → Ledger → Entered
entered a L = record { answer = a; after = L }

-- Format empties the ledger; the lent memory is that of the pool's tables. Refused, it leaves the ledger as it was.
unfoldable pub format_l : Granule → Ledger → ℕ → Area → Entered
format_l G A levels area =
    cond (good_numbers G levels area (entries G * A.area.tables) (entries G * total A.area) (total A.area))
    (entered formatted (ledger levels area []))
    (entered (refused 1) A)

-- Add: 11 exactly where the frame of a live mapping shares a byte with the new region. The first run is that of the pool's tables; the second run that is
-- lent has so many words, and the longer list so many places. The mappings stay.
unfoldable pub add_l : Granule → Ledger → ℕ → ℕ → ℕ → ℕ → Entered
add_l G A q m second places =
    cond (good_adding G A.levels A.area q m (entries G * A.area.tables) (entries G * A.area.tables + second) places)
    (cond (none_inside G (one_region q m) A.live) (entered added (ledger A.levels (with_second A.area q m) A.live)) (entered (refused 11) A))
    (entered (refused 1) A)

-- Map: 6 exactly where the range overlaps a live mapping, 7 exactly where more new tables are needed than are free
unfoldable pub map_l : Granule → Ledger → ℕ → ℕ → ℕ → ℕ → Entered
map_l G A a b size k =
    let no = map_tests G A.levels A.area a b size k in
    cond (eqb no 0)
    (cond (any_overlap a size A.live) (entered (refused 6) A)
    (let need = tables_lacking G A.levels A.live (mapping a b size k) in
    cond (ltb (free_tables G A) need) (entered (refused 7) A)
    (entered (took need) (with_live A (mapping a b size k ∷ A.live)))))
    (entered (refused no) A)

-- Unmap: 9 and the hole where no mapping holds the address, 10 where the one that does starts elsewhere
unfoldable pub unmap_of : Granule → Ledger → ℕ → Option Mapping → Entered
unmap_of G A a none = entered (hole_at (hole_of G A a)) A
unmap_of G A a (some m) =
    let B = with_live A (drop_at a A.live) in
    cond (eqb m.at a) (entered (gave m.frame m.size m.attributes (free_tables G B - free_tables G A)) B) (entered (refused 10) A)

unfoldable pub unmap_l : Granule → Ledger → ℕ → Entered
unmap_l G A a =
    let no = unmap_tests G A.levels a in
    cond (eqb no 0) (unmap_of G A a (cover_of a A.live)) (entered (refused no) A)

-- Query: the mapping that holds the address, or 9 and the hole
abbrev pub query_of : Granule → Ledger → ℕ → Option Mapping → Answer
query_of G A a none = hole_at (hole_of G A a)
query_of G A a (some m) = found m

unfoldable pub query_l : Granule → Ledger → ℕ → Answer
query_l G A a = cond (leb (space_of G A.levels) a) (refused 4) (query_of G A a (cover_of a A.live))

-- Audit: the root and the tables needed, and the live mappings
unfoldable pub audit_l : Granule → Ledger → Answer
audit_l G A = audited (suc (tables_needed G A.levels A.live)) (length A.live)

-- mappings in rising order of their bases
unfoldable pub insert : Mapping → List Mapping → List Mapping
insert m [] = m ∷ []
insert m (k ∷ L) = cond (leb m.at k.at) (m ∷ k ∷ L) (k ∷ insert m L)

unfoldable pub sorted : List Mapping → List Mapping
sorted [] = []
sorted (m ∷ L) = insert m (sorted L)

-- List: of the live mappings in rising order, from the start on, as many as fit
unfoldable pub list_l : Granule → Ledger → ℕ → ℕ → ℕ → Answer
list_l G A start places entries =
    cond (eqb places entries)
    (cond (leb (space_of G A.levels) start) (refused 4) (listed_of G places (from_on start (sorted A.live))))
    (refused 1)
