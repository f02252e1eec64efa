-- Document 01's eleven cases, as one statement over the definitions: the calls over a pool and over a ledger, each on what the last one left. The holes of
-- request 2 stand beside them, and the story of request 6; then the like of them with the 16 KiB granule of request 11.
use Rattle.std.specs.Prelude.{ℕ, ◌+◌, ◌-◌, ◌*◌, ◌≡◌, refl, true, [], ◌∷◌, get_or, set, replicate}
use Rattle.laws.specs.Lists.{down, part, zeroed, all_zero, among, distinct}
use Rattle.path.specs.Geometry.{Granule, four, sixteen, granule_of, page_size, entries, size_at, good_levels, space_of, seek, height_of}
use Rattle.path.specs.Areas.{one_region, table_at, meets_region, meets_area}
use Rattle.path.specs.Numbers.{good_area, good_numbers, good_setup, good_adding}
use Rattle.path.specs.Paths.{index_at, base_at, indices, path_of}
use Rattle.entry.specs.Words.{type_at, frame_word, table_word, named_in, child_at, frame_at, entry_at}
use Rattle.model.specs.Answers.{mapping, Answer, formatted, added, took, gave, found, refused, hole, pool, Done, done, refuse}
use Rattle.model.specs.Walk.{onward, walk_from}
use Rattle.model.specs.Writes.{perform_all, map_writes, may_take, only_entry, freed, prune_writes}
use Rattle.model.specs.Calls.{format_w, format_n, found_at, query_w, map_tests, map_here, map_at, map_w, unmap_tests, unmap_here, unmap_at, unmap_w}
use Rattle.model.specs.Audit.{of_entries, of_table, none_inside}
use Rattle.model.specs.Adds.{lent, appended, add_w}
use Rattle.model.specs.Ledger.{Entered, entered, ledger, any_overlap, cover_of, drop_at, regions_of, has_region, new_regions, regions_needed, tables_needed, tables_lacking, free_tables, hole_from, hole_of, format_l, add_l, map_l, unmap_of, unmap_l, query_l}

-- a call's answer and the pool after it, and the same by the ledger
pub record Both : Type 0 where
  pub pool : Done
  pub ledger : Entered

-- a format with a granule, P and n, of memory and of a ledger that hold anything
unfoldable pub format_at : Granule → ℕ → ℕ → ℕ → Both
unfolding granule_of good_levels good_area good_numbers down format_w format_n format_l
format_at G levels base n =
    record {
      pool = format_n (page_size G) levels (one_region base n) (replicate (entries G * n) 7) (entries G * n) (replicate n 9);
      ledger = format_l G (ledger 9 (one_region 9 n) (mapping 1 2 3 4 ∷ [])) levels (one_region base n);
    }

-- with 4 KiB, P = 0x40000000 and n = 4
abbrev pub format : ℕ → Both
format levels = format_at four levels 0x40000000 4

-- a map, and an unmap, of what a call left
unfoldable pub map_as : Granule → Both → ℕ → ℕ → ℕ → ℕ → Both
unfolding good_setup size_at space_of seek height_of meets_region meets_area map_tests index_at indices path_of type_at frame_word table_at table_word named_in child_at frame_at entry_at among onward walk_from zeroed perform_all map_writes may_take map_here map_at map_w base_at any_overlap regions_of has_region new_regions regions_needed tables_needed tables_lacking free_tables map_l
map_as G B a b size k = record { pool = map_w G B.pool.after a b size k; ledger = map_l G B.ledger.after a b size k }

unfoldable pub unmap_as : Granule → Both → ℕ → Both
unfolding unmap_tests part all_zero only_entry freed prune_writes unmap_here unmap_at unmap_w cover_of drop_at hole_from hole_of unmap_of unmap_l
unmap_as G B a = record { pool = unmap_w G B.pool.after a; ledger = unmap_l G B.ledger.after a }

-- an add, with a second run and a longer list that hold anything
unfoldable pub add_as : Granule → Both → ℕ → ℕ → Both
unfolding good_adding distinct none_inside of_entries of_table appended add_w add_l
add_as G B q m =
    record {
      pool = add_w G (lent B.pool.after (replicate (entries G * m) 5) (replicate (B.pool.after.numbers.tables + m - B.pool.after.numbers.free) 8)) q m;
      ledger = add_l G B.ledger.after q m (entries G * m) (B.ledger.after.area.tables + m);
    }

-- the same with 4 KiB
abbrev pub map : Both → ℕ → ℕ → ℕ → ℕ → Both
map = map_as four

abbrev pub unmap : Both → ℕ → Both
unmap = unmap_as four

abbrev pub add : Both → ℕ → ℕ → Both
add = add_as four

-- The calls, numbered as the cases are.
abbrev case1 : Both
case1 = format 3

abbrev case2 : Both
case2 = map case1 0 0x80000000 4096 3

abbrev case3 : Both
case3 = map case2 0x1000 0x80001000 4096 5

abbrev case4 : Both
case4 = map case3 0x200000 0x80200000 0x200000 3

abbrev case5 : Both
case5 = map case4 0x201000 0x80000000 4096 3

abbrev case5b : Both
case5b = map case5 0 0x80000000 0x200000 3

abbrev case6 : Both
case6 = map case5b 0x40000000 0x80000000 4096 3

abbrev case8 : Both
case8 = unmap case6 0x201000

abbrev case8b : Both
case8b = unmap case8 0x3000

abbrev case9 : Both
case9 = unmap case8b 0

abbrev case9b : Both
case9b = unmap case9 0x1000

abbrev case10 : Both
case10 = unmap case9b 0x200000

abbrev case11 : Both
case11 = map case10 0x7FFFFFF000 0x80000000 4096 3

abbrev case11b : Both
case11b = map case11 0x8000000000 0x80000000 4096 3

-- The customer's story of request 6: a pool of two tables is one short; a second region of two comes, and the map succeeds. n = 2 at 0x40000000, m = 2 at
-- 0x50000000.
abbrev short1 : Both
short1 = format_at four 3 0x40000000 2

abbrev short2 : Both
short2 = map short1 0 0x80000000 4096 3

abbrev more1 : Both
more1 = add short2 0x50000000 2

abbrev more2 : Both
more2 = map more1 0 0x80000000 4096 3

abbrev more3 : Both
more3 = unmap more2 0

-- a second add
abbrev again : Both
again = add more2 0x60000000 2

-- a pool whose root names a table of the region that is to come: its words are read under the setup from before
abbrev early : Done
early =
    let p = short1.pool.after in
    add_w four (lent (pool p.numbers (set p.words 0 0x50000003) p.cut p.list) (replicate 1024 5) (replicate 3 8)) 0x50000000 2

-- a frame of 1 GiB, which needs no table, under a region
abbrev big : Both
big = map short1 0 0x80000000 0x40000000 3

-- The like with 16 KiB, P = 0x40000000 and n = 3: a page at 0, 32 MiB beside its table, the two go; and the last page of the space.
abbrev large1 : Both
large1 = format_at sixteen 3 0x40000000 3

abbrev large2 : Both
large2 = map_as sixteen large1 0 0x80000000 0x4000 3

abbrev large3 : Both
large3 = map_as sixteen large2 0x2000000 0x82000000 0x2000000 3

abbrev large4 : Both
large4 = unmap_as sixteen large3 0

abbrev large5 : Both
large5 = unmap_as sixteen large4 0x2000000

abbrev large6 : Both
large6 = map_as sixteen large1 0x7FFFFFFFC000 0x80000000 0x4000 3

-- a second region of two tables, for a pool of one
abbrev wide1 : Both
wide1 = format_at sixteen 3 0x40000000 1

abbrev wide2 : Both
wide2 = add_as sixteen wide1 0x50000000 2

abbrev wide3 : Both
wide3 = map_as sixteen wide2 0 0x80000000 0x4000 3

-- what a map, and an unmap, of that pool is refused with for its arguments, or 0
abbrev map_fails : ℕ → ℕ → ℕ → ℕ
map_fails a b size = map_tests sixteen 3 (one_region 0x40000000 3) a b size 3

abbrev unmap_fails : ℕ → ℕ
unmap_fails a = unmap_tests sixteen 3 a

-- format with a granule's number, of words and list of one table
abbrev format_one : ℕ → ℕ → ℕ → ℕ → Answer
format_one number levels base words = (format_n number levels (one_region base 1) (replicate words 7) words (replicate 1 9)).answer

-- both answer so
abbrev Answers : Both → Answer → Type 0
Answers B x = (B.pool.answer ≡ x) × (B.ledger.answer ≡ x)

-- both refuse with this number, and leave all as the call before left it
abbrev Refuses : Both → Both → ℕ → Type 0
Refuses B C k = (C.pool ≡ refuse k B.pool.after) × (C.ledger ≡ entered (refused k) B.ledger.after)

-- both refuse with 9 and this hole, and leave all as the call before left it
abbrev Holes : Both → Both → ℕ → ℕ → Type 0
Holes B C b s = (C.pool ≡ done (hole b s) B.pool.after) × (C.ledger ≡ entered (hole b s) B.ledger.after)

-- so many tables are free, by the setup number and by the ledger
abbrev FreeAs : Granule → Both → ℕ → Type 0
FreeAs G B f = (B.pool.after.numbers.free ≡ f) × (free_tables G B.ledger.after ≡ f)

abbrev Free : Both → ℕ → Type 0
Free = FreeAs four

-- a query after a call
abbrev FindsAs : Granule → Both → ℕ → Answer → Type 0
FindsAs G B a x = (query_w G B.pool.after a ≡ x) × (query_l G B.ledger.after a ≡ x)

abbrev Finds : Both → ℕ → Answer → Type 0
Finds = FindsAs four

-- a word, and a place of the free list, after a call
abbrev word : Both → ℕ → ℕ
word B i = get_or B.pool.after.words i 0

abbrev place : Both → ℕ → ℕ
place B i = get_or B.pool.after.list i 0

pub record Cases : Type 0 where
  -- 1: format
  pub formats : Answers case1 formatted
  pub list_1 : case1.pool.after.list ≡ 3 ∷ 2 ∷ 1 ∷ 0 ∷ []
  pub free_1 : Free case1 3
  -- the hole of an empty pool: a root entry's region, 1 GiB with three levels, 512 GiB with four; at the end of the space too
  pub hole_1 : Finds case1 0 (hole 0 0x40000000)
  pub hole_last : Finds case1 0x7FFFFFFFFF (hole 0x7FC0000000 0x40000000)
  pub hole_four : Finds (format 4) 0 (hole 0 0x8000000000)
  pub hole_four_last : Finds (format 4) 0xFFFFFFFFF000 (hole 0xFF8000000000 0x8000000000)
  -- 2: a page that takes two tables
  pub takes_2 : Answers case2 (took 2)
  pub free_2 : Free case2 1
  pub word_0 : word case2 0 ≡ 0x40001003
  pub word_512 : word case2 512 ≡ 0x40002003
  pub word_1024 : word case2 1024 ≡ 0x00400000800007FF
  -- the holes beside it
  pub hole_2 : Finds case2 0x200000 (hole 0x200000 0x200000)
  pub hole_2_inside : Finds case2 0x3FFFFF (hole 0x200000 0x200000)
  pub hole_2_page : Finds case2 0x2000 (hole 0x2000 4096)
  pub hole_2_root : Finds case2 0x40000000 (hole 0x40000000 0x40000000)
  -- 3: a page beside it
  pub takes_3 : Answers case3 (took 0)
  pub word_1025 : word case3 1025 ≡ 0x8000177F
  -- 4: a frame of 2 MiB
  pub takes_4 : Answers case4 (took 0)
  pub word_513 : word case4 513 ≡ 0x00400000802007FD
  -- 5: a page inside it; 2 MiB over a table
  pub refuses_5 : Refuses case4 case5 6
  pub refuses_5b : Refuses case5 case5b 6
  -- 6: more tables needed than are free
  pub needs_6 : tables_lacking four 3 case5b.ledger.after.live (mapping 0x40000000 0x80000000 4096 3) ≡ 2
  pub free_6 : Free case5b 1
  pub refuses_6 : Refuses case5b case6 7
  -- 7: a query inside the frame of 2 MiB
  pub finds_7 : Finds case6 0x201234 (found (mapping 0x200000 0x80200000 0x200000 3))
  -- 8: an unmap inside it; an unmap of nothing
  pub refuses_8 : Refuses case6 case8 10
  pub refuses_8b : Holes case8 case8b 0x3000 4096
  -- 9: the two pages go, and with the second their table: the hole is the larger one again
  pub gives_9 : Answers case9 (gave 0x80000000 4096 3 0)
  pub gives_9b : Answers case9b (gave 0x80001000 4096 5 1)
  pub hole_9 : Finds case9 0 (hole 0 4096)
  pub hole_9b : Finds case9b 0 (hole 0 0x200000)
  pub place_9b : place case9b 1 ≡ 2
  pub free_9b : Free case9b 2
  -- 10: the frame of 2 MiB goes with its table, and the empty root stays
  pub gives_10 : Answers case10 (gave 0x80200000 0x200000 3 1)
  pub place_10 : place case10 2 ≡ 1
  pub free_10 : Free case10 3
  pub hole_10 : Finds case10 0 (hole 0 0x40000000)
  pub root_10 : all_zero (part case10.pool.after.words 0 512) ≡ true
  -- 11: the last page of the space; the first past it
  pub takes_11 : Answers case11 (took 2)
  pub free_11 : Free case11 1
  pub hole_11 : Finds case11 0x7FFFFFE000 (hole 0x7FFFFFE000 4096)
  pub refuses_11b : Refuses case11 case11b 4
  -- request 6: one table short, then the second region
  pub short_7 : Refuses short1 short2 7
  pub adds : Answers more1 added
  pub list_more : more1.pool.after.list ≡ 1 ∷ 3 ∷ 2 ∷ 8 ∷ []
  pub free_more : Free more1 3
  pub zeros_more : all_zero (part more1.pool.after.words 1024 1024) ≡ true
  pub takes_more : Answers more2 (took 2)
  pub word_more_0 : word more2 0 ≡ 0x50000003
  pub word_more_1024 : word more2 1024 ≡ 0x50001003
  pub word_more_1536 : word more2 1536 ≡ 0x00400000800007FF
  pub finds_more : Finds more2 0x123 (found (mapping 0 0x80000000 4096 3))
  pub gives_more : Answers more3 (gave 0x80000000 4096 3 2)
  pub list_given : more3.pool.after.list ≡ 1 ∷ 3 ∷ 2 ∷ 8 ∷ []
  pub free_given : Free more3 3
  -- no frame in either region
  pub first_11 : Refuses more1 (map more1 0 0x40001000 4096 3) 11
  pub second_11 : Refuses more1 (map more1 0 0x50001000 4096 3) 11
  pub past_second : Answers (map more1 0 0x50002000 4096 3) (took 2)
  -- a region is there already; none comes; it is not aligned; it overlaps, from below and from above
  pub again_1 : Answers again (refused 1)
  pub none_1 : Answers (add short2 0 0) (refused 1)
  pub unaligned_1 : Answers (add short2 0x50000800 2) (refused 1)
  pub below_1 : Answers (add short2 0x3FFFF000 2) (refused 1)
  pub above_1 : Answers (add short2 0x40001000 2) (refused 1)
  -- regions that touch, either way round
  pub touches_below : Answers (add short2 0x3FFFE000 2) added
  pub touches_above : Answers (add short2 0x40002000 2) added
  -- a damaged word
  pub early_8 : early.answer ≡ refused 8
  -- a live frame under the new region; a region right after it
  pub under_11 : Answers (add big 0xBFFFF000 2) (refused 11)
  pub after_frame : Answers (add big 0xC0000000 2) added
  -- 16 KiB: format, and the hole of an empty pool: a root entry's region, 64 GiB; at the end of the space too
  pub formats_16k : Answers large1 formatted
  pub list_16k : large1.pool.after.list ≡ 2 ∷ 1 ∷ 0 ∷ []
  pub hole_16k : FindsAs sixteen large1 0 (hole 0 0x1000000000)
  pub hole_16k_last : FindsAs sixteen large1 0x7FFFFFFFFFFF (hole 0x7FF000000000 0x1000000000)
  -- a page takes two tables, of 64 GiB and of 32 MiB; the holes beside it
  pub takes_16k : Answers large2 (took 2)
  pub word_16k_0 : word large2 0 ≡ 0x40004003
  pub word_16k_2048 : word large2 2048 ≡ 0x40008003
  pub word_16k_4096 : word large2 4096 ≡ 0x00400000800007FF
  pub hole_16k_page : FindsAs sixteen large2 0x7FFF (hole 0x4000 0x4000)
  pub hole_16k_block : FindsAs sixteen large2 0x2001234 (hole 0x2000000 0x2000000)
  pub hole_16k_root : FindsAs sixteen large2 0x1000000000 (hole 0x1000000000 0x1000000000)
  -- 32 MiB takes one table, of 64 GiB, and none where that stands
  pub takes_16k_one : Answers (map_as sixteen large1 0x2000000 0x82000000 0x2000000 3) (took 1)
  pub takes_16k_none : Answers large3 (took 0)
  pub word_16k_2049 : word large3 2049 ≡ 0x00400000820007FD
  pub finds_16k : FindsAs sixteen large3 0x2001234 (found (mapping 0x2000000 0x82000000 0x2000000 3))
  -- a page inside it; a page that needs two tables more
  pub taken_16k : Refuses large3 (map_as sixteen large3 0x2004000 0x84000000 0x4000 3) 6
  pub lacking_16k : Refuses large3 (map_as sixteen large3 0x1000000000 0x84000000 0x4000 3) 7
  -- an unmap inside it; the page goes with its table, then 32 MiB with the other
  pub inside_16k : Refuses large3 (unmap_as sixteen large3 0x2004000) 10
  pub gives_16k : Answers large4 (gave 0x80000000 0x4000 3 1)
  pub gives_16k_block : Answers large5 (gave 0x82000000 0x2000000 3 1)
  pub free_16k : FreeAs sixteen large5 2
  pub root_16k : all_zero (part large5.pool.after.words 0 2048) ≡ true
  -- the last page of the space, and the first past it
  pub takes_16k_last : Answers large6 (took 2)
  pub past_16k : map_fails 0x800000000000 0x80000000 0x4000 ≡ 4
  -- its own two sizes and no other: not 4 KiB, 2 MiB or 1 GiB, and none in the root; 4 KiB does not have them
  pub size_16k : map_fails 0x4000000 0x84000000 0x4000 ≡ 0
  pub size_16k_32m : map_fails 0x4000000 0x84000000 0x2000000 ≡ 0
  pub size_16k_4k : map_fails 0x4000000 0x84000000 0x1000 ≡ 2
  pub size_16k_2m : map_fails 0x4000000 0x84000000 0x200000 ≡ 2
  pub size_16k_1g : map_fails 0x40000000 0x80000000 0x40000000 ≡ 2
  pub size_16k_64g : map_fails 0x1000000000 0x1000000000 0x1000000000 ≡ 2
  pub size_4k_16k : map_tests four 3 (one_region 0x40000000 4) 0 0x80000000 0x4000 3 ≡ 2
  pub size_4k_32m : map_tests four 3 (one_region 0x40000000 4) 0 0x80000000 0x2000000 3 ≡ 2
  -- multiples of them
  pub address_16k : map_fails 0x1000 0x84000000 0x4000 ≡ 5
  pub frame_16k : map_fails 0x4000 0x84001000 0x4000 ≡ 5
  pub unmap_16k : unmap_fails 0x1000 ≡ 5
  -- no frame in the tables; right after them one is fine
  pub pool_16k : map_fails 0x4000 0x40008000 0x4000 ≡ 11
  pub after_16k : map_fails 0x4000 0x4000C000 0x4000 ≡ 0
  -- a second region, for a pool of one table
  pub adds_16k : Answers wide2 added
  pub adds_16k_low : Answers (add_as sixteen wide1 0x50001000 2) (refused 1)
  pub takes_16k_wide : Answers wide3 (took 2)
  pub word_16k_wide : word wide3 0 ≡ 0x50000003
  pub word_16k_wide_2048 : word wide3 2048 ≡ 0x50004003
  -- the granule's number, its levels, its alignment and its words
  pub number_4k : format_one 4096 3 0x40001000 512 ≡ formatted
  pub number_16k : format_one 16384 3 0x40004000 2048 ≡ formatted
  pub number_64k : format_one 65536 3 0x40000000 8192 ≡ refused 1
  pub number_0 : format_one 0 3 0x40000000 512 ≡ refused 1
  pub levels_16k : format_one 16384 4 0x40000000 2048 ≡ refused 1
  pub aligned_16k : format_one 16384 3 0x40001000 2048 ≡ refused 1
  pub words_16k : format_one 16384 3 0x40000000 512 ≡ refused 1
  pub words_4k : format_one 4096 3 0x40000000 2048 ≡ refused 1
  -- a setup with the other granule's number
  pub mixed_16k : query_w four large1.pool.after 0 ≡ refused 1
  pub mixed_4k : query_w sixteen case1.pool.after 0 ≡ refused 1

pub cases : Cases
unfolding format_at map_as unmap_as add_as found_at query_w query_l
cases =
    record {
      formats = (refl, refl);
      list_1 = refl;
      free_1 = (refl, refl);
      hole_1 = (refl, refl);
      hole_last = (refl, refl);
      hole_four = (refl, refl);
      hole_four_last = (refl, refl);
      takes_2 = (refl, refl);
      free_2 = (refl, refl);
      word_0 = refl;
      word_512 = refl;
      word_1024 = refl;
      hole_2 = (refl, refl);
      hole_2_inside = (refl, refl);
      hole_2_page = (refl, refl);
      hole_2_root = (refl, refl);
      takes_3 = (refl, refl);
      word_1025 = refl;
      takes_4 = (refl, refl);
      word_513 = refl;
      refuses_5 = (refl, refl);
      refuses_5b = (refl, refl);
      needs_6 = refl;
      free_6 = (refl, refl);
      refuses_6 = (refl, refl);
      finds_7 = (refl, refl);
      refuses_8 = (refl, refl);
      refuses_8b = (refl, refl);
      gives_9 = (refl, refl);
      gives_9b = (refl, refl);
      hole_9 = (refl, refl);
      hole_9b = (refl, refl);
      place_9b = refl;
      free_9b = (refl, refl);
      gives_10 = (refl, refl);
      place_10 = refl;
      free_10 = (refl, refl);
      hole_10 = (refl, refl);
      root_10 = refl;
      takes_11 = (refl, refl);
      free_11 = (refl, refl);
      hole_11 = (refl, refl);
      refuses_11b = (refl, refl);
      short_7 = (refl, refl);
      adds = (refl, refl);
      list_more = refl;
      free_more = (refl, refl);
      zeros_more = refl;
      takes_more = (refl, refl);
      word_more_0 = refl;
      word_more_1024 = refl;
      word_more_1536 = refl;
      finds_more = (refl, refl);
      gives_more = (refl, refl);
      list_given = refl;
      free_given = (refl, refl);
      first_11 = (refl, refl);
      second_11 = (refl, refl);
      past_second = (refl, refl);
      again_1 = (refl, refl);
      none_1 = (refl, refl);
      unaligned_1 = (refl, refl);
      below_1 = (refl, refl);
      above_1 = (refl, refl);
      touches_below = (refl, refl);
      touches_above = (refl, refl);
      early_8 = refl;
      under_11 = (refl, refl);
      after_frame = (refl, refl);
      formats_16k = (refl, refl);
      list_16k = refl;
      hole_16k = (refl, refl);
      hole_16k_last = (refl, refl);
      takes_16k = (refl, refl);
      word_16k_0 = refl;
      word_16k_2048 = refl;
      word_16k_4096 = refl;
      hole_16k_page = (refl, refl);
      hole_16k_block = (refl, refl);
      hole_16k_root = (refl, refl);
      takes_16k_one = (refl, refl);
      takes_16k_none = (refl, refl);
      word_16k_2049 = refl;
      finds_16k = (refl, refl);
      taken_16k = (refl, refl);
      lacking_16k = (refl, refl);
      inside_16k = (refl, refl);
      gives_16k = (refl, refl);
      gives_16k_block = (refl, refl);
      free_16k = (refl, refl);
      root_16k = refl;
      takes_16k_last = (refl, refl);
      past_16k = refl;
      size_16k = refl;
      size_16k_32m = refl;
      size_16k_4k = refl;
      size_16k_2m = refl;
      size_16k_1g = refl;
      size_16k_64g = refl;
      size_4k_16k = refl;
      size_4k_32m = refl;
      address_16k = refl;
      frame_16k = refl;
      unmap_16k = refl;
      pool_16k = refl;
      after_16k = refl;
      adds_16k = (refl, refl);
      adds_16k_low = (refl, refl);
      takes_16k_wide = (refl, refl);
      word_16k_wide = refl;
      word_16k_wide_2048 = refl;
      number_4k = refl;
      number_16k = refl;
      number_64k = refl;
      number_0 = refl;
      levels_16k = refl;
      aligned_16k = refl;
      words_16k = refl;
      words_4k = refl;
      mixed_16k = refl;
      mixed_4k = refl;
    }
