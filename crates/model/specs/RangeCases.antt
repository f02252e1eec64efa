-- Cases of ranges, as one statement over the definitions: three levels, P = 0x40000000, n = 4; then the like of them with 16 KiB, n = 3. Those of sound
-- pools are of the ledger too.
use Rattle.std.specs.Prelude.{ℕ, ◌≡◌, refl, List, [], ◌∷◌, ◌++◌, replicate}
use Rattle.path.specs.Geometry.{Granule, four, sixteen}
use Rattle.path.specs.Numbers.{with_free}
use Rattle.model.specs.Answers.{mapping, Answer, took, cleared, refused, Pool, pool, Done}
use Rattle.model.specs.Ledger.{free_tables}
use Rattle.model.specs.Cases.{Both, format_at, format, map_as, unmap_as}
use Rattle.model.specs.Ranges.{good_length, map_range_tests, unmap_range_tests, fits_at, piece_at, pieces_from, pieces, pages_from, any_ends, on_way, on_ways, agrees, one_region_each, ways, answers_of, left_by, sum_of, any_refused, lacked, map_range_here, map_range_at, map_range_w, any_cut_by, unmap_range_here, unmap_range_at, unmap_range_w, gain, gain_of, map_range_l, any_cut, drop_in, clear_of, unmap_range_l}

-- the two calls on a pool, and on what a call left
unfoldable pub on_pool_as : Granule → Pool → ℕ → ℕ → ℕ → ℕ → Done
unfolding format_at map_as good_length map_range_tests fits_at piece_at pieces_from pieces any_ends on_way on_ways agrees one_region_each ways answers_of left_by sum_of lacked map_range_here map_range_at map_range_w
on_pool_as G p a b len k = map_range_w G p a b len k

unfoldable pub off_pool_as : Granule → Pool → ℕ → ℕ → Done
unfolding unmap_as on_pool_as unmap_range_tests pages_from any_refused any_cut_by unmap_range_here unmap_range_at unmap_range_w
off_pool_as G p a len = unmap_range_w G p a len

unfoldable pub map_range_as : Granule → Both → ℕ → ℕ → ℕ → ℕ → Both
unfolding on_pool_as gain gain_of map_range_l
map_range_as G B a b len k = record { pool = on_pool_as G B.pool.after a b len k; ledger = map_range_l G B.ledger.after a b len k }

unfoldable pub unmap_range_as : Granule → Both → ℕ → ℕ → Both
unfolding off_pool_as any_cut drop_in clear_of unmap_range_l
unmap_range_as G B a len = record { pool = off_pool_as G B.pool.after a len; ledger = unmap_range_l G B.ledger.after a len }

-- the same with 4 KiB
abbrev pub on_pool : Pool → ℕ → ℕ → ℕ → ℕ → Done
on_pool = on_pool_as four

abbrev pub off_pool : Pool → ℕ → ℕ → Done
off_pool = off_pool_as four

abbrev pub map_range : Both → ℕ → ℕ → ℕ → ℕ → Both
map_range = map_range_as four

abbrev pub unmap_range : Both → ℕ → ℕ → Both
unmap_range = unmap_range_as four

-- both answer so
abbrev Answers : Both → Answer → Type 0
Answers B x = (B.pool.answer ≡ x) × (B.ledger.answer ≡ x)

-- a fresh pool
abbrev fresh : Both
fresh = format 3

-- 2 MiB and a page on either side
abbrev three : Both
three = map_range fresh 0x1FF000 0x801FF000 0x202000 3

-- four pages on either side of the same address, with frames that are not beside it: none of them is 2 MiB
abbrev pages : Both
pages = map_range fresh 0x1FE000 0x80000000 0x4000 3

-- a pool with the fresh one's numbers, so many tables free, these first words and these places
abbrev made : ℕ → List ℕ → ℕ → List ℕ → Pool
made free words more list = let p = fresh.pool.after in pool (with_free p.numbers free) (words ++ replicate more 0) p.cut list

-- damaged: root entries 0 and 1 both name table 1
abbrev pub shared : Pool
shared = made 2 (0x40001003 ∷ 0x40001003 ∷ []) 2046 (3 ∷ 2 ∷ 1 ∷ 0 ∷ [])

-- damaged: table 1 is in use and on the free list, where it is the next one
abbrev listed : Pool
listed = made 2 (0x40001003 ∷ []) 2047 (3 ∷ 1 ∷ 0 ∷ 0 ∷ [])

-- damaged: a page that has two tables below the root, with all three said to be free
abbrev full : Pool
full = let p = (on_pool shared 0x40000000 0x80000000 0x1000 3).after in pool (with_free p.numbers 3) p.words p.cut p.list

-- 16 KiB: 32 MiB and a page after it; two pages
abbrev fresh16 : Both
fresh16 = format_at sixteen 3 0x40000000 3

abbrev three16 : Both
three16 = map_range_as sixteen fresh16 0x2000000 0x82000000 0x2004000 3

abbrev pages16 : Both
pages16 = map_range_as sixteen fresh16 0x4000 0x80000000 0x8000 3

pub record RangeCases : Type 0 where
  -- the pieces: the largest at each point; what is left decides too; the frame's address decides as much as the other
  pub two_sizes :
      pieces four 0x1FF000 0x801FF000 0x202000 3
      ≡ mapping 0x1FF000 0x801FF000 0x1000 3 ∷ mapping 0x200000 0x80200000 0x200000 3 ∷ mapping 0x400000 0x80400000 0x1000 3 ∷ []
  pub all_three :
      pieces four 0x3FE00000 0x7FE00000 0x40201000 3
      ≡ mapping 0x3FE00000 0x7FE00000 0x200000 3 ∷ mapping 0x40000000 0x80000000 0x40000000 3 ∷ mapping 0x80000000 0xC0000000 0x1000 3 ∷ []
  pub by_both : pieces four 0x200000 0x80201000 0x2000 3 ≡ mapping 0x200000 0x80201000 0x1000 3 ∷ mapping 0x201000 0x80202000 0x1000 3 ∷ []
  -- three pieces, three tables; four pieces, three tables
  pub takes : Answers three (took 3)
  pub none_free : free_tables four three.ledger.after ≡ 0
  pub takes_pages : Answers pages (took 3)
  -- removed again: all of them, those of one table, one of each table, a page and holes before it; a hole
  pub clears : Answers (unmap_range pages 0x1FE000 0x4000) (cleared 4 3)
  pub clears_table : Answers (unmap_range pages 0x1FE000 0x2000) (cleared 2 1)
  pub clears_some : Answers (unmap_range pages 0x1FF000 0x2000) (cleared 2 0)
  pub clears_first : Answers (unmap_range pages 0x1FC000 0x3000) (cleared 1 0)
  pub clears_none : Answers (unmap_range pages 0x1FC000 0x2000) (cleared 0 0)
  pub clears_fresh : Answers (unmap_range fresh 0x1FF000 0x2000) (cleared 0 0)
  -- a range that ends, begins, or lies inside the frame of 2 MiB
  pub cut_end : Answers (unmap_range three 0x1FF000 0x2000) (refused 10)
  pub cut_start : Answers (unmap_range three 0x3FF000 0x2000) (refused 10)
  pub cut_inside : Answers (unmap_range three 0x300000 0x1000) (refused 10)
  -- a range that overlaps a mapping; one that needs more tables than are free, though each piece alone would not
  pub occupied : Answers (map_range three 0 0x80000000 0x200000 3) (refused 6)
  pub too_few : Answers (map_range fresh 0x3FFFF000 0x80000000 0x2000 3) (refused 7)
  -- a length of 0 past the space, one that is no multiple of a page, one above 4 GiB
  pub no_length : Answers (map_range fresh 0x8000000000 0 0 3) (refused 2)
  pub part_page : Answers (map_range fresh 0 0 0x1800 3) (refused 2)
  pub too_long : Answers (map_range fresh 0 0 0x100001000 3) (refused 2)
  pub attributes : Answers (map_range fresh 0 0x80000000 0x1000 16) (refused 3)
  -- a range that ends past the space, an end that would wrap
  pub past_end : Answers (map_range fresh 0x7FFFFFF000 0x80000000 0x2000 3) (refused 4)
  pub past_all : Answers (map_range fresh 0xFFFFFFFFFFFFF000 0 0x2000 3) (refused 4)
  pub unmap_past_all : Answers (unmap_range fresh 0xFFFFFFFFFFFFF000 0x2000) (refused 4)
  -- an address inside a page
  pub off_page : Answers (map_range fresh 0x800 0x80000000 0x1000 3) (refused 5)
  pub frame_off_page : Answers (map_range fresh 0 0x80000800 0x1000 3) (refused 5)
  pub unmap_off_page : Answers (unmap_range fresh 0x800 0x1000) (refused 5)
  -- a page of the frames is the pool's last; the frames end where the pool starts
  pub in_pool_lem : Answers (map_range fresh 0 0x40003000 0x2000 3) (refused 11)
  pub before_pool : Answers (map_range fresh 0 0x3FFFE000 0x2000 3) (took 2)
  -- one table for two regions: 2 MiB in one of them is accepted, a range that crosses is 8, two pieces of 1 GiB come to the root alone and are 6
  pub one_side : (on_pool shared 0x40000000 0x80000000 0x200000 3).answer ≡ took 0
  pub crossing : (on_pool shared 0x3FE00000 0x80000000 0x400000 3).answer ≡ refused 8
  pub two_large : (on_pool shared 0 0x80000000 0x80000000 3).answer ≡ refused 6
  pub unmap_crossing : (off_pool shared 0x3FFFF000 0x2000).answer ≡ refused 8
  pub unmap_one_side : (off_pool shared 0x40000000 0x2000).answer ≡ cleared 0 0
  -- a table on the path of a piece that needs none may not be taken for another
  pub on_path : (on_pool listed 0x3FE00000 0x80000000 0x400000 3).answer ≡ refused 8
  -- more tables would come back than the free list has room for
  pub no_room : (off_pool full 0x40000000 0x1000).answer ≡ refused 8

-- and those of 16 KiB
pub record RangeCases16 : Type 0 where
  -- the pieces are of two sizes; 32 MiB divides both addresses, or else there are pages
  pub sizes_16k :
      pieces sixteen 0x1FFC000 0x81FFC000 0x2008000 3
      ≡ mapping 0x1FFC000 0x81FFC000 0x4000 3 ∷ mapping 0x2000000 0x82000000 0x2000000 3 ∷ mapping 0x4000000 0x84000000 0x4000 3 ∷ []
  pub by_both_16k :
      pieces sixteen 0x2000000 0x82004000 0x8000 3 ≡ mapping 0x2000000 0x82004000 0x4000 3 ∷ mapping 0x2004000 0x82008000 0x4000 3 ∷ []
  -- two pieces take two tables; the page goes with one of them; a range that begins inside the frame of 32 MiB
  pub takes_16k : Answers three16 (took 2)
  pub clears_16k_last : Answers (unmap_range_as sixteen three16 0x4000000 0x8000) (cleared 1 1)
  pub cut_16k : Answers (unmap_range_as sixteen three16 0x3FFC000 0x8000) (refused 10)
  -- two pages take two tables, and go with both; holes beside them are passed over
  pub takes_16k_pages : Answers pages16 (took 2)
  pub clears_16k : Answers (unmap_range_as sixteen pages16 0 0x10000) (cleared 2 2)
  -- three tables where two are free: a page on either side of 32 MiB
  pub too_few_16k : Answers (map_range_as sixteen fresh16 0x1FFC000 0x81FFC000 0x2008000 3) (refused 7)
  -- a length and addresses that are multiples of 4 KiB alone; 4 GiB is the limit here too
  pub part_page_16k : Answers (map_range_as sixteen fresh16 0 0x80000000 0x5000 3) (refused 2)
  pub too_long_16k : Answers (map_range_as sixteen fresh16 0 0x80000000 0x100004000 3) (refused 2)
  pub off_page_16k : Answers (map_range_as sixteen fresh16 0x1000 0x80000000 0x4000 3) (refused 5)
  pub frame_off_page_16k : Answers (map_range_as sixteen fresh16 0 0x80001000 0x4000 3) (refused 5)
  pub unmap_part_page_16k : Answers (unmap_range_as sixteen fresh16 0 0x5000) (refused 2)
  pub unmap_off_page_16k : Answers (unmap_range_as sixteen fresh16 0x1000 0x4000) (refused 5)
  -- the space ends at 2^47
  pub past_end_16k : Answers (map_range_as sixteen fresh16 0x7FFFFFFFC000 0x80000000 0x8000 3) (refused 4)
  -- the pool's last page; the frames start where the pool ends
  pub in_pool_16k : Answers (map_range_as sixteen fresh16 0 0x40008000 0x8000 3) (refused 11)
  pub after_pool_16k : Answers (map_range_as sixteen fresh16 0 0x4000C000 0x8000 3) (took 2)

pub range_cases_16 : RangeCases16
unfolding map_range_as unmap_range_as
range_cases_16 =
    record {
      sizes_16k = refl;
      by_both_16k = refl;
      takes_16k = (refl, refl);
      clears_16k_last = (refl, refl);
      cut_16k = (refl, refl);
      takes_16k_pages = (refl, refl);
      clears_16k = (refl, refl);
      too_few_16k = (refl, refl);
      part_page_16k = (refl, refl);
      too_long_16k = (refl, refl);
      off_page_16k = (refl, refl);
      frame_off_page_16k = (refl, refl);
      unmap_part_page_16k = (refl, refl);
      unmap_off_page_16k = (refl, refl);
      past_end_16k = (refl, refl);
      in_pool_16k = (refl, refl);
      after_pool_16k = (refl, refl);
    }
