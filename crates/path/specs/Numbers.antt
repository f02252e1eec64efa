-- The setup numbers and their rules: refusal 1.
use Rattle.std.specs.Prelude.{ℕ, ◌+◌, ◌*◌, ◌%◌, ◌≤◌, ◌<◌, ◌≡◌, Bool, ◌&&◌, ◌||◌, ltb, leb, eqb, List, [], ◌∷◌, get_or}
use Rattle.path.specs.Geometry.{Granule, page_size, entries, physical, good_levels}
use Rattle.path.specs.Areas.{Area, area_of, with_second, total, GoodArea}
use Rattle.path.specs.declared.Setup.{Setup}

-- the numbers in the record's order
abbrev pub setup : ℕ → ℕ → ℕ → ℕ → ℕ → ℕ → ℕ → Setup
setup l b n f q m g = record { levels = l; base = b; tables = n; free = f; base2 = q; tables2 = m; granule = g }

-- the setup of a tree of so many levels in an area, with so many tables free; a granule's number is the size of its pages
abbrev pub setup_of : Granule → ℕ → Area → ℕ → Setup
setup_of G levels area free = setup levels area.base area.tables free area.base₂ area.tables₂ (page_size G)

-- no pool: every number is 0
abbrev pub no_setup : Setup
no_setup = setup 0 0 0 0 0 0 0

-- the setup numbers with another free count
abbrev pub with_free : Setup → ℕ → Setup
with_free s f = setup s.levels s.base s.tables f s.base2 s.tables2 s.granule

-- the most tables that a pool may have
abbrev pub most_tables : ℕ
most_tables = 512

-- where the tables stand is good: each region's base is a multiple of the tables' size and its end is at most 2^48; the regions do not overlap; without
-- a second one its base is 0
unfoldable pub good_area : Granule → Area → Bool
good_area G area =
    eqb (area.base % page_size G) 0
    && (leb (area.base + page_size G * area.tables) physical
    && (eqb (area.base₂ % page_size G) 0
    && (leb (area.base₂ + page_size G * area.tables₂) physical
    && ((leb (area.base + page_size G * area.tables) area.base₂ || leb (area.base₂ + page_size G * area.tables₂) area.base)
    && (ltb 0 area.tables₂ || eqb area.base₂ 0)))))

-- one region by itself, as code tests one after the other: it has no more tables than a pool may have, its base is a multiple of their size and its end is
-- at most 2^48, and its run of words is as long as they are
unfoldable pub good_region : Granule → ℕ → ℕ → ℕ → Bool
good_region G base n words =
    leb n most_tables
    && (eqb (base % page_size G) 0 && (leb (base + page_size G * n) physical && eqb words (entries G * n)))

-- Levels, bases and table counts are good; of the lent words, so many in all, the first `cut`, which are the first run, are as many as the tables of
-- the first region have, and all of them as many as all tables have; and there are as many free-list places as tables.
unfoldable pub good_numbers : Granule → ℕ → Area → ℕ → ℕ → ℕ → Bool
good_numbers G levels area cut words places =
    good_levels G levels
    && (leb 1 area.tables
    && (leb (total area) most_tables
    && (good_area G area
    && (eqb cut (entries G * area.tables)
    && (eqb words (entries G * total area)
    && eqb places (total area))))))

-- and the setup's granule is this one, and the free count is at most one less than the table count
unfoldable pub good_setup : Granule → Setup → ℕ → ℕ → ℕ → Bool
good_setup G s cut words places =
    eqb s.granule (page_size G)
    && (good_numbers G s.levels (area_of s) cut words places && ltb s.free (total (area_of s)))

-- A second region, of m tables from q on, may be added: there is none yet, it has a table, and with it all numbers and lengths are good.
unfoldable pub good_adding : Granule → ℕ → Area → ℕ → ℕ → ℕ → ℕ → ℕ → Bool
good_adding G levels area q m cut words places =
    (eqb area.base₂ 0 && eqb area.tables₂ 0) && (ltb 0 m && good_numbers G levels (with_second area q m) cut words places)

-- the same rules as facts
pub record GoodNumbers (G : Granule) (levels : ℕ) (area : Area) (cut words places : ℕ) : Type 0 where
  pub enough : G.fewest ≤ levels
  pub not_more : levels ≤ G.most
  pub some_table : 1 ≤ area.tables
  pub few : total area ≤ most_tables
  pub placed : GoodArea G area
  pub cut_is : cut ≡ entries G * area.tables
  pub words_are : words ≡ entries G * total area
  pub places_are : places ≡ total area

-- and the granule's and the free count's
pub record GoodSetup (G : Granule) (s : Setup) (cut words places : ℕ) : Type 0 where
  pub granule_is : s.granule ≡ page_size G
  pub numbers : GoodNumbers G s.levels (area_of s) cut words places
  pub room : s.free < total (area_of s)

-- and the new region's
pub record GoodAdding (G : Granule) (levels : ℕ) (area : Area) (q m cut words places : ℕ) : Type 0 where
  pub one_yet : (area.base₂ ≡ 0) × (area.tables₂ ≡ 0)
  pub some_new : 1 ≤ m
  pub numbers : GoodNumbers G levels (with_second area q m) cut words places

-- setup numbers in seven places, and back
abbrev pub setup_at : List ℕ → Setup
setup_at l = setup (get_or l 0 0) (get_or l 1 0) (get_or l 2 0) (get_or l 3 0) (get_or l 4 0) (get_or l 5 0) (get_or l 6 0)

abbrev pub places_of : Setup → List ℕ
places_of s = s.levels ∷ s.base ∷ s.tables ∷ s.free ∷ s.base2 ∷ s.tables2 ∷ s.granule ∷ []
