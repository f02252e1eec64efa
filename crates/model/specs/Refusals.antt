-- The paper's table of refusals, for any granule and any pool whatever: when each call gives each number, in the order of the tests. What it says for
-- 4 KiB and for 16 KiB in the papers' own numbers stands at the end.
use Rattle.std.specs.Prelude.{ℕ, ◌+◌, ◌-◌, ◌*◌, ◌%◌, ◌^◌, ◌≤◌, ◌<◌, ◌≡◌, ◌≢◌, ◌⊎◌, ◌↔◌, cond, eqb, length, get_or}
use mathlib.Core.List.{List, [], ◌∷◌, Memᴰ}
use Rattle.path.specs.Geometry.{Granule, four, sixteen, granule_of, page_size, entries, size_at, space_of, height_of}
use Rattle.path.specs.Areas.{Area, area_at, area_of}
use Rattle.path.specs.Paths.{path_of}
use Rattle.entry.specs.declared.Entry.TheVariants.{Empty, Table, Frame, Damaged}
use Rattle.model.specs.declared.Walked.{Walked}
use Rattle.model.specs.Answers.{Mapping, formatted, added, took, gave, found, audited, refusal, refused, hole, mapping, Pool, Done}
use Rattle.model.specs.Walk.{at_height}
use Rattle.model.specs.Calls.{walk_to, format_n, query_w, map_w, unmap_w}
use Rattle.model.specs.Audit.{audit_w}
use Rattle.model.specs.Adds.{add_w}
use Rattle.model.specs.Listing.{power_of, from_on, listed_of, list_w}
use Rattle.model.specs.Sound.{word_at, reached_of, mappings_of, WfTree, SoundPool}

-- ---- tables of rows

-- a row: a number, and when it applies
pub record Row : Type 1 where
  pub number : ℕ
  pub when : Type 0

abbrev pub row : ℕ → Type 0 → Row
row n P = record { number = n; when = P }

-- n is the number of the first row that applies
abbrev pub First : List Row → ℕ → Type 0
First [] n = ⊥
First (r ∷ rs) n = (r.when × (r.number ≡ n)) ⊎ ((¬ r.when) × First rs n)

-- no row applies
abbrev pub None : List Row → Type 0
None [] = Unit {0}
None (r ∷ rs) = (¬ r.when) × None rs

-- what goes with a number: nothing
abbrev pub bare : ℕ → List ℕ
bare n = []

-- a call gives exactly the number of the first row that applies, with what goes with that number and no more, and then leaves everything as it was
pub record ByTable (rows : List Row) (more : ℕ → List ℕ) (p : Pool) (d : Done) : Type 0 where
  pub gives : (n : ℕ) → (d.answer ≡ refusal n (more n)) ↔ First rows n
  pub carries : (n : ℕ) (v : List ℕ) → d.answer ≡ refusal n v → v ≡ more n
  pub kept : (n : ℕ) (v : List ℕ) → d.answer ≡ refusal n v → d.after ≡ p

-- ---- when a number applies, whatever the granule

-- the tables of a pool, in one region or two
abbrev pub area_in : Pool → Area
area_in p = area_of p.numbers

abbrev pub table_count : Pool → ℕ
table_count p = p.numbers.tables + p.numbers.tables2

-- 3: attributes above 15
abbrev pub NoAttributes : ℕ → Type 0
NoAttributes k = 15 < k

-- 5, map: the address or the frame base is not a multiple of the size
abbrev pub Misplaced : ℕ → ℕ → ℕ → Type 0
Misplaced a b size = (a % size ≢ 0) ⊎ (b % size ≢ 0)

-- Where a walk ends is in Descent, in the paper's words; DescentLaws says that `walk_to` ends there.
-- 6: the walk meets a frame, or the target entry is a table or a frame
abbrev pub Occupied : Walked → Type 0
Occupied o = ((b : ℕ) × (k : ℕ) × (o.entry ≡ Frame b k)) ⊎ ((c : ℕ) × (o.entry ≡ Table c))

-- 8, the walk: it meets a damaged word, or comes to the same table twice
abbrev pub Damage : Walked → Type 0
Damage o = o.entry ≡ Damaged

-- 9: the walk ends at an empty entry
abbrev pub Vacant : Walked → Type 0
Vacant o = o.entry ≡ Empty

-- of the tables to be taken, from the end of the free list, number j
abbrev pub taken : List ℕ → ℕ → ℕ → ℕ
taken list free j = get_or list (free - 1 - j) 0

-- 8, map's free list: of `need` tables to be taken, one is outside 1 to n - 1, is taken twice, or stands on the path
pub data BadTaken (list : List ℕ) (n free need : ℕ) (way : List ℕ) : Type 0 where
  root_taken : (j : ℕ) → j < need → taken list free j < 1 → BadTaken list n free need way
  beyond_taken : (j : ℕ) → j < need → n ≤ taken list free j → BadTaken list n free need way
  taken_twice : (i j : ℕ) → i < j → j < need → taken list free i ≡ taken list free j → BadTaken list n free need way
  taken_on_path : (j : ℕ) → j < need → Memᴰ (taken list free j) way → BadTaken list n free need way

-- ---- and where it reads the granule's own sizes

module _ (G : Granule) where
  -- the levels are not those of a tree of the granule
  abbrev pub NoLevels : ℕ → Type 0
  NoLevels levels = (levels < G.fewest) ⊎ (G.most < levels)

  -- 1: a setup number or a length breaks one of the rules: levels that the granule has; tables at least 1, of both regions at most 512; for each region a base
  -- that is a multiple of a table's bytes, and an end, base + those bytes × tables, at most 2^48; regions that do not overlap; a second base of 0 where there is
  -- no second region; a table's words × tables in each run, the first of `first` and both of `all`; and as many free-list places as tables
  pub data Broken (levels : ℕ) (r : Area) (first all places : ℕ) : Type 0 where
    bad_levels : NoLevels levels → Broken levels r first all places
    no_table : r.tables < 1 → Broken levels r first all places
    many_tables : 512 < r.tables + r.tables₂ → Broken levels r first all places
    base_unaligned : r.base % page_size G ≢ 0 → Broken levels r first all places
    base_high : 2 ^ 48 < r.base + page_size G * r.tables → Broken levels r first all places
    second_unaligned : r.base₂ % page_size G ≢ 0 → Broken levels r first all places
    second_high : 2 ^ 48 < r.base₂ + page_size G * r.tables₂ → Broken levels r first all places
    regions_overlap : r.base₂ < r.base + page_size G * r.tables → r.base < r.base₂ + page_size G * r.tables₂ → Broken levels r first all places
    second_nowhere : r.tables₂ ≡ 0 → r.base₂ ≢ 0 → Broken levels r first all places
    bad_words : first ≢ entries G * r.tables → Broken levels r first all places
    bad_second : all ≢ entries G * (r.tables + r.tables₂) → Broken levels r first all places
    bad_places : places ≢ r.tables + r.tables₂ → Broken levels r first all places

  -- or the setup's granule is another, or the free count is not at most the table count less 1
  abbrev pub Breaks : Pool → Type 0
  Breaks p =
      (p.numbers.granule ≢ page_size G)
      ⊎ Broken p.numbers.levels (area_in p) p.cut (length p.words) (length p.list)
      ⊎ (table_count p ≤ p.numbers.free)

  -- 2: the size is none of the granule's
  abbrev pub NoSize : ℕ → Type 0
  NoSize size = (h : ℕ) → h ≤ G.large → size ≢ size_at G h

  -- an address that is not below the space, and an end that is above it
  abbrev pub NotBelow : ℕ → ℕ → Type 0
  NotBelow levels a = space_of G levels ≤ a

  abbrev pub Above : ℕ → ℕ → Type 0
  Above levels e = space_of G levels < e

  -- 4, map: the address is not below the space, or address + size is above it, or frame base + size is above 2^48
  pub data Outside (levels a b size : ℕ) : Type 0 where
    starts_outside : NotBelow levels a → Outside levels a b size
    ends_outside : Above levels (a + size) → Outside levels a b size
    frame_outside : 2 ^ 48 < b + size → Outside levels a b size

  -- 11: the frame shares a byte with base to base + a table's bytes × tables, of one region
  pub record InRegion (base tables b size : ℕ) : Type 0 where
    pub byte : ℕ
    pub frame_starts : b ≤ byte
    pub frame_ends : byte < b + size
    pub pool_starts : base ≤ byte
    pub pool_ends : byte < base + page_size G * tables

  -- or of either
  abbrev pub InPool : Area → ℕ → ℕ → Type 0
  InPool r b size = InRegion r.base r.tables b size ⊎ InRegion r.base₂ r.tables₂ b size

  -- map's walk, to the height of the size
  abbrev pub map_walk : Pool → ℕ → ℕ → Walked
  map_walk p a size = walk_to G p (height_of G size) a

  -- the new tables that map needs: a table for each level below the walk's end down to the frame's
  abbrev pub needed : Pool → ℕ → ℕ → ℕ
  needed p a size = (map_walk p a size).left - height_of G size

  abbrev pub BadList : Pool → ℕ → ℕ → Type 0
  BadList p a size = BadTaken p.list (table_count p) p.numbers.free (needed p a size) (map_walk p a size).tables

  -- the walk of query and unmap, to the last level
  abbrev pub last_walk : Pool → ℕ → Walked
  last_walk p a = walk_to G p 0 a

  -- 5, unmap: the address is not a multiple of a page's bytes
  abbrev pub OffPage : ℕ → Type 0
  OffPage a = a % page_size G ≢ 0

  -- 10: the walk ends at a frame whose mapping does not start at the address
  abbrev pub OffStart : ℕ → Walked → Type 0
  OffStart a o = (b : ℕ) × (k : ℕ) × (o.entry ≡ Frame b k) × (a % size_at G o.left ≢ 0)

  -- or does
  abbrev pub Starts : ℕ → Walked → Type 0
  Starts a o = (b : ℕ) × (k : ℕ) × (o.entry ≡ Frame b k) × (a % size_at G o.left ≡ 0)

  -- in the table of the path whose entries have height h, every entry but the path's is 0
  abbrev pub Emptied : Pool → ℕ → Walked → ℕ → Type 0
  Emptied p a o h = (i : ℕ) → i < entries G → i ≢ at_height (path_of G a) h → word_at G p.words (at_height o.tables h) i ≡ 0

  -- unmap gives back so many tables: from the deepest of the path upward, the root excepted, each that is all 0 once the path's entry is; else stop
  pub record GivesBack (p : Pool) (a : ℕ) (o : Walked) (given : ℕ) : Type 0 where
    pub not_root : given ≤ p.numbers.levels - 1 - o.left
    pub emptied : (i : ℕ) → i < given → Emptied p a o (o.left + i)
    pub stops : given < p.numbers.levels - 1 - o.left → Emptied p a o (o.left + given) → ⊥

  -- 8, unmap's free list: giving back would make the free count exceed the table count less 1
  abbrev pub FullList : Pool → ℕ → Type 0
  FullList p a = (given : ℕ) × GivesBack p a (last_walk p a) given × (table_count p - 1 < p.numbers.free + given)

  -- ---- the tables, in the order of the tests

  abbrev pub map_table : Pool → ℕ → ℕ → ℕ → ℕ → List Row
  map_table p a b size k =
      row 1 (Breaks p)
      ∷ row 2 (NoSize size)
      ∷ row 3 (NoAttributes k)
      ∷ row 4 (Outside p.numbers.levels a b size)
      ∷ row 5 (Misplaced a b size)
      ∷ row 11 (InPool (area_in p) b size)
      ∷ row 6 (Occupied (map_walk p a size))
      ∷ row 8 (Damage (map_walk p a size))
      ∷ row 7 (p.numbers.free < needed p a size)
      ∷ row 8 (BadList p a size)
      ∷ []

  abbrev pub unmap_table : Pool → ℕ → List Row
  unmap_table p a =
      row 1 (Breaks p)
      ∷ row 4 (NotBelow p.numbers.levels a)
      ∷ row 5 (OffPage a)
      ∷ row 8 (Damage (last_walk p a))
      ∷ row 9 (Vacant (last_walk p a))
      ∷ row 10 (OffStart a (last_walk p a))
      ∷ row 8 (FullList p a)
      ∷ []

  abbrev pub query_table : Pool → ℕ → List Row
  query_table p a =
      row 1 (Breaks p)
      ∷ row 4 (NotBelow p.numbers.levels a)
      ∷ row 8 (Damage (last_walk p a))
      ∷ row 9 (Vacant (last_walk p a))
      ∷ []

  abbrev pub audit_table : Pool → List Row
  audit_table p = row 1 (Breaks p) ∷ row 8 (¬ SoundPool G p) ∷ []

  -- 1, add: the setup's granule is another, a region is there already, the new one has no table, a number or a length breaks a rule with it, or the free
  -- count is above the old limit
  pub data CannotAdd (p : Pool) (q m : ℕ) : Type 0 where
    other_granule : p.numbers.granule ≢ page_size G → CannotAdd p q m
    region_there : p.numbers.tables2 ≢ 0 → CannotAdd p q m
    second_base_there : p.numbers.base2 ≢ 0 → CannotAdd p q m
    no_new_table : m ≡ 0 → CannotAdd p q m
    broken_with_it : Broken p.numbers.levels (area_at p.numbers.base p.numbers.tables q m) p.cut (length p.words) (length p.list) → CannotAdd p q m
    free_high : p.numbers.tables ≤ p.numbers.free → CannotAdd p q m

  -- 11, add: the frame of a mapping that is found in the words shares a byte with the new region
  abbrev pub NewUnder : Pool → ℕ → ℕ → Type 0
  NewUnder p q m = (k : Mapping) × Memᴰ k (mappings_of G p) × InRegion q m k.frame k.size

  abbrev pub add_table : Pool → ℕ → ℕ → List Row
  add_table p q m = row 1 (CannotAdd p q m) ∷ row 8 (¬ WfTree G p) ∷ row 11 (NewUnder p q m) ∷ []

  -- 1, list: a setup number or a length breaks a rule, or its two runs are of unequal length
  abbrev pub CannotList : Pool → ℕ → ℕ → Type 0
  CannotList p places entries = Breaks p ⊎ (places ≢ entries)

  abbrev pub list_table : Pool → ℕ → ℕ → ℕ → List Row
  list_table p start places entries =
      row 1 (CannotList p places entries) ∷ row 4 (NotBelow p.numbers.levels start) ∷ row 8 (¬ WfTree G p) ∷ []

  -- ---- what is promised

  -- what goes with a number: with 9 alone the base and the size of the region of the entry where the walk ended
  abbrev pub with_hole : ℕ → Walked → ℕ → List ℕ
  with_hole a o n = cond (eqb n 9) ((a - a % size_at G o.left) ∷ size_at G o.left ∷ []) []

  -- Number by number.

  pub record AddNumbers (p : Pool) (q m : ℕ) : Type 0 where
    pub no_1 : ((add_w G p q m).answer ≡ refused 1) ↔ CannotAdd p q m
    pub no_8 : ((add_w G p q m).answer ≡ refused 8) ↔ ((¬ CannotAdd p q m) × (¬ WfTree G p))
    pub no_11 : ((add_w G p q m).answer ≡ refused 11) ↔ ((¬ CannotAdd p q m) × WfTree G p × NewUnder p q m)
    pub accepted : ((add_w G p q m).answer ≡ added) ↔ ((¬ CannotAdd p q m) × WfTree G p × (¬ NewUnder p q m))

  -- a map is well-formed when none of 1 to 5 and 11 applies
  abbrev pub WellFormedMap : Pool → ℕ → ℕ → ℕ → ℕ → Type 0
  WellFormedMap p a b size k =
      (¬ Breaks p)
      × (¬ NoSize size)
      × (¬ NoAttributes k)
      × (¬ Outside p.numbers.levels a b size)
      × (¬ Misplaced a b size)
      × (¬ InPool (area_in p) b size)

  pub record MapNumbers (p : Pool) (a b size k : ℕ) : Type 0 where
    pub no_1 : ((map_w G p a b size k).answer ≡ refused 1) ↔ Breaks p
    pub no_2 : ((map_w G p a b size k).answer ≡ refused 2) ↔ ((¬ Breaks p) × NoSize size)
    pub no_3 : ((map_w G p a b size k).answer ≡ refused 3) ↔ ((¬ Breaks p) × (¬ NoSize size) × NoAttributes k)
    pub no_4 :
        ((map_w G p a b size k).answer ≡ refused 4)
        ↔ ((¬ Breaks p) × (¬ NoSize size) × (¬ NoAttributes k) × Outside p.numbers.levels a b size)
    pub no_5 :
        ((map_w G p a b size k).answer ≡ refused 5)
        ↔ ((¬ Breaks p) × (¬ NoSize size) × (¬ NoAttributes k) × (¬ Outside p.numbers.levels a b size) × Misplaced a b size)
    pub no_11 :
        ((map_w G p a b size k).answer ≡ refused 11)
        ↔ ((¬ Breaks p)
        × (¬ NoSize size)
        × (¬ NoAttributes k)
        × (¬ Outside p.numbers.levels a b size)
        × (¬ Misplaced a b size)
        × InPool (area_in p) b size)
    -- then the walk
    pub no_6 : ((map_w G p a b size k).answer ≡ refused 6) ↔ (WellFormedMap p a b size k × Occupied (map_walk p a size))
    -- then the free count, at an empty entry
    pub no_7 :
        ((map_w G p a b size k).answer ≡ refused 7)
        ↔ (WellFormedMap p a b size k × Vacant (map_walk p a size) × (p.numbers.free < needed p a size))
    -- the walk, or at last the free list
    pub no_8 :
        ((map_w G p a b size k).answer ≡ refused 8)
        ↔ (WellFormedMap p a b size k
        × (Damage (map_walk p a size) ⊎ (Vacant (map_walk p a size) × (needed p a size ≤ p.numbers.free) × BadList p a size)))
    pub accepted : (t : ℕ)
        → ((map_w G p a b size k).answer ≡ took t)
        ↔ (WellFormedMap p a b size k
        × Vacant (map_walk p a size)
        × (needed p a size ≤ p.numbers.free)
        × (¬ BadList p a size)
        × (t ≡ needed p a size))

  pub record UnmapNumbers (p : Pool) (a : ℕ) : Type 0 where
    pub no_1 : ((unmap_w G p a).answer ≡ refused 1) ↔ Breaks p
    pub no_4 : ((unmap_w G p a).answer ≡ refused 4) ↔ ((¬ Breaks p) × NotBelow p.numbers.levels a)
    pub no_5 : ((unmap_w G p a).answer ≡ refused 5) ↔ ((¬ Breaks p) × (¬ NotBelow p.numbers.levels a) × OffPage a)
    -- then the walk
    pub no_9 : (base size : ℕ)
        → ((unmap_w G p a).answer ≡ hole base size)
        ↔ ((¬ Breaks p)
        × (¬ NotBelow p.numbers.levels a)
        × (¬ OffPage a)
        × Vacant (last_walk p a)
        × (size ≡ size_at G (last_walk p a).left)
        × (base ≡ a - a % size))
    pub no_10 :
        ((unmap_w G p a).answer ≡ refused 10)
        ↔ ((¬ Breaks p) × (¬ NotBelow p.numbers.levels a) × (¬ OffPage a) × OffStart a (last_walk p a))
    -- the walk, or at last the free list
    pub no_8 :
        ((unmap_w G p a).answer ≡ refused 8)
        ↔ ((¬ Breaks p)
        × (¬ NotBelow p.numbers.levels a)
        × (¬ OffPage a)
        × (Damage (last_walk p a) ⊎ (Starts a (last_walk p a) × FullList p a)))
    pub accepted : (b size k t : ℕ)
        → ((unmap_w G p a).answer ≡ gave b size k t)
        ↔ ((¬ Breaks p)
        × (¬ NotBelow p.numbers.levels a)
        × (¬ OffPage a)
        × (¬ OffStart a (last_walk p a))
        × ((last_walk p a).entry ≡ Frame b k)
        × (size ≡ size_at G (last_walk p a).left)
        × GivesBack p a (last_walk p a) t
        × (p.numbers.free + t ≤ table_count p - 1))

  pub record QueryNumbers (p : Pool) (a : ℕ) : Type 0 where
    pub no_1 : (query_w G p a ≡ refused 1) ↔ Breaks p
    pub no_4 : (query_w G p a ≡ refused 4) ↔ ((¬ Breaks p) × NotBelow p.numbers.levels a)
    -- then the walk
    pub no_8 : (query_w G p a ≡ refused 8) ↔ ((¬ Breaks p) × (¬ NotBelow p.numbers.levels a) × Damage (last_walk p a))
    pub no_9 : (base size : ℕ)
        → (query_w G p a ≡ hole base size)
        ↔ ((¬ Breaks p)
        × (¬ NotBelow p.numbers.levels a)
        × Vacant (last_walk p a)
        × (size ≡ size_at G (last_walk p a).left)
        × (base ≡ a - a % size))
    pub accepted : (at b size k : ℕ)
        → (query_w G p a ≡ found (mapping at b size k))
        ↔ ((¬ Breaks p)
        × (¬ NotBelow p.numbers.levels a)
        × ((last_walk p a).entry ≡ Frame b k)
        × (size ≡ size_at G (last_walk p a).left)
        × (at ≡ a - a % size))

  pub record AuditNumbers (p : Pool) : Type 0 where
    pub no_1 : (audit_w G p ≡ refused 1) ↔ Breaks p
    pub no_8 : (audit_w G p ≡ refused 8) ↔ ((¬ Breaks p) × (¬ SoundPool G p))
    pub accepted : (t m : ℕ)
        → (audit_w G p ≡ audited t m)
        ↔ ((¬ Breaks p) × SoundPool G p × (t ≡ length (reached_of G p)) × (m ≡ length (mappings_of G p)))

  pub record ListNumbers (p : Pool) (start places entries : ℕ) : Type 0 where
    pub no_1 : (list_w G p start places entries ≡ refused 1) ↔ CannotList p places entries
    pub no_4 : (list_w G p start places entries ≡ refused 4)
        ↔ ((¬ CannotList p places entries) × NotBelow p.numbers.levels start)
    pub no_8 : (list_w G p start places entries ≡ refused 8)
        ↔ ((¬ CannotList p places entries) × (¬ NotBelow p.numbers.levels start) × (¬ WfTree G p))
    pub accepted : (¬ CannotList p places entries)
        → (¬ NotBelow p.numbers.levels start)
        → WfTree G p
        → list_w G p start places entries ≡ listed_of G places (from_on start (mappings_of G p))

-- ---- format, whose granule is a number

-- it names no granule
abbrev pub NoGranule : ℕ → Type 0
NoGranule number = (number ≢ 4096) × (number ≢ 16384)

-- 1: the granule, or another number or a length
abbrev pub BreaksFormat : ℕ → ℕ → Area → List ℕ → ℕ → List ℕ → Type 0
BreaksFormat number levels r ws cut list = NoGranule number ⊎ Broken (granule_of number) levels r cut (length ws) (length list)

abbrev pub format_table : ℕ → ℕ → Area → List ℕ → ℕ → List ℕ → List Row
format_table number levels r ws cut list = row 1 (BreaksFormat number levels r ws cut list) ∷ []

pub record FormatNumbers (number levels : ℕ) (r : Area) (ws : List ℕ) (cut : ℕ) (list : List ℕ) : Type 0 where
  pub no_1 : ((format_n number levels r ws cut list).answer ≡ refused 1) ↔ BreaksFormat number levels r ws cut list
  pub accepted : ((format_n number levels r ws cut list).answer ≡ formatted) ↔ (¬ BreaksFormat number levels r ws cut list)

-- ---- the papers' own numbers

-- a setup with any number but 4096 and 16384 breaks the rules of the granule that it is read by
pub record GranuleNumbers (number : ℕ) : Type 0 where
  pub none : (number ≢ page_size (granule_of number)) ↔ NoGranule number
  pub small : number ≡ 4096 → granule_of number ≡ four
  pub larger : number ≡ 16384 → granule_of number ≡ sixteen

-- 4 KiB: three or four levels, spaces of 2^39 and 2^48, frames of 4096, 2 MiB and 1 GiB; holes of these sizes and of 512 GiB
pub record FourNumbers : Type 0 where
  pub page : page_size four ≡ 4096
  pub words : entries four ≡ 512
  pub levels : (l : ℕ) → NoLevels four l ↔ ((l ≢ 3) × (l ≢ 4))
  pub space_3 : space_of four 3 ≡ 2 ^ 39
  pub space_4 : space_of four 4 ≡ 2 ^ 48
  pub sizes : (size : ℕ) → NoSize four size ↔ ((size ≢ 4096) × (size ≢ 2 ^ 21) × (size ≢ 2 ^ 30))
  pub heights : (height_of four 4096 ≡ 0) × (height_of four (2 ^ 21) ≡ 1) × (height_of four (2 ^ 30) ≡ 2)
  pub regions : (size_at four 0 ≡ 4096) × (size_at four 1 ≡ 2 ^ 21) × (size_at four 2 ≡ 2 ^ 30) × (size_at four 3 ≡ 2 ^ 39)
  -- of the sizes in a list
  pub powers : (a b k : ℕ)
      → (power_of four (mapping a b 4096 k) ≡ 12) × (power_of four (mapping a b (2 ^ 21) k) ≡ 21) × (power_of four (mapping a b (2 ^ 30) k) ≡ 30)

-- 16 KiB: three levels, a space of 2^47, frames of 16384 and 32 MiB; holes of these sizes and of 64 GiB
pub record SixteenNumbers : Type 0 where
  pub page : page_size sixteen ≡ 16384
  pub words : entries sixteen ≡ 2048
  pub levels : (l : ℕ) → NoLevels sixteen l ↔ (l ≢ 3)
  pub space_3 : space_of sixteen 3 ≡ 2 ^ 47
  pub sizes : (size : ℕ) → NoSize sixteen size ↔ ((size ≢ 16384) × (size ≢ 2 ^ 25))
  pub heights : (height_of sixteen 16384 ≡ 0) × (height_of sixteen (2 ^ 25) ≡ 1)
  pub regions : (size_at sixteen 0 ≡ 16384) × (size_at sixteen 1 ≡ 2 ^ 25) × (size_at sixteen 2 ≡ 2 ^ 36)
  pub powers : (a b k : ℕ) → (power_of sixteen (mapping a b 16384 k) ≡ 14) × (power_of sixteen (mapping a b (2 ^ 25) k) ≡ 25)
