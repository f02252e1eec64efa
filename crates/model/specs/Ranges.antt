-- Map and unmap a range: its pieces, the two calls over a pool, and the two calls by the ledger.
use Rattle.std.specs.Prelude.{ℕ, zero, suc, ◌+◌, ◌-◌, ◌/◌, ◌%◌, ◌^◌, Bool, true, false, cond, ◌&&◌, ◌||◌, not, List, [], ◌∷◌, ◌++◌, map, ltb, leb, eqb, length}
use Rattle.path.specs.Geometry.{Granule, page_size, size_at, physical, space_of, height_of}
use Rattle.path.specs.Areas.{Area, area_of, total, meets_area}
use Rattle.path.specs.Paths.{base_at}
use Rattle.entry.specs.declared.Entry.{Entry}
use Rattle.entry.specs.declared.Entry.TheVariants.{Empty, Table, Frame, Damaged}
use Rattle.model.specs.declared.Walked.{Walked}
use Rattle.model.specs.Answers.{Mapping, mapping, Answer, answered, refusal, took, cleared, refused, accepts, tables_in, Pool, Done, done, refuse}
use Rattle.model.specs.Walk.{at_height}
use Rattle.model.specs.Writes.{may_take}
use Rattle.model.specs.Calls.{good_pool, walk_to, map_w, unmap_w}
use Rattle.model.specs.Ledger.{Ledger, with_live, overlaps, any_overlap, Region, region, regions_of, new_regions, tables_needed, free_tables, Entered, entered}

-- ---- the arguments

-- no range is longer than 4 GiB
abbrev pub longest : ℕ
longest = 2 ^ 32

-- a length is a nonzero multiple of the page size, at most 4 GiB: else refusal 2
unfoldable pub good_length : Granule → ℕ → Bool
good_length G len = ltb 0 len && (leb len longest && eqb (len % page_size G) 0)

-- of a range to be mapped the tests 2 to 5 and then 11, or 0: those of map, with the length in place of the size, and with addresses that are multiples of
-- the page size
unfoldable pub map_range_tests : Granule → ℕ → Area → ℕ → ℕ → ℕ → ℕ → ℕ
map_range_tests G levels area a b len k =
    cond (good_length G len)
    (cond (ltb 15 k) 3
    (cond (leb (space_of G levels) a) 4
    (cond (ltb (space_of G levels) (a + len)) 4
    (cond (ltb physical (b + len)) 4
    (cond (eqb (a % page_size G) 0) (cond (eqb (b % page_size G) 0) (cond (meets_area G area b len) 11 0) 5) 5)))))
    2

-- of a range to be unmapped the tests 2, 4 and 5, or 0
unfoldable pub unmap_range_tests : Granule → ℕ → ℕ → ℕ → ℕ
unmap_range_tests G levels a len =
    cond (good_length G len)
    (cond (leb (space_of G levels) a) 4
    (cond (ltb (space_of G levels) (a + len)) 4
    (cond (eqb (a % page_size G) 0) 0 5)))
    2

-- ---- the pieces

-- the size of height h fits what is left and divides both addresses
unfoldable pub fits_at : Granule → ℕ → ℕ → ℕ → ℕ → Bool
fits_at G a b left h = leb (size_at G h) left && (eqb (a % size_at G h) 0 && eqb (b % size_at G h) 0)

-- the greatest height up to h whose size does, else 0
unfoldable pub piece_at : Granule → ℕ → ℕ → ℕ → ℕ → ℕ
piece_at G a b left zero = 0
piece_at G a b left (suc h) = cond (fits_at G a b left (suc h)) (suc h) (piece_at G a b left h)

-- at each point the largest piece, until nothing is left; there are no more pieces than pages
unfoldable pub pieces_from : Granule → ℕ → ℕ → ℕ → ℕ → ℕ → List Mapping
pieces_from G k zero a b left = []
pieces_from G k (suc pages) a b left =
    cond (eqb left 0) []
    (let s = size_at G (piece_at G a b left G.large) in mapping a b s k ∷ pieces_from G k pages (a + s) (b + s) (left - s))

unfoldable pub pieces : Granule → ℕ → ℕ → ℕ → ℕ → List Mapping
pieces G a b len k = pieces_from G k (len / page_size G) a b len

-- ---- the pages

-- so many pages from an address on
unfoldable pub pages_from : Granule → ℕ → ℕ → List ℕ
pages_from G a zero = []
pages_from G a (suc k) = a ∷ pages_from G (a + page_size G) k

abbrev pub pages_of : Granule → ℕ → ℕ → List ℕ
pages_of G a len = pages_from G a (len / page_size G)

-- ---- the walks of a range, all of them of the memory at entry

-- a walk that is made: for which address, and where it ends
pub record Probe : Type 0 where
  pub at : ℕ
  pub end : Walked

abbrev pub probe : ℕ → Walked → Probe
probe a o = record { at = a; end = o }

-- a piece's walk is that of map, to the height of its size
abbrev pub walk_for : Granule → Pool → Mapping → Walked
walk_for G p m = walk_to G p (height_of G m.size) m.at

abbrev pub piece_walk : Granule → Pool → Mapping → Probe
piece_walk G p m = probe m.at (walk_for G p m)

abbrev pub piece_walks : Granule → Pool → List Mapping → List Probe
piece_walks G p ms = map (piece_walk G p) ms

-- a page's walk is that of unmap, to the last level
abbrev pub page_walk : Granule → Pool → ℕ → Probe
page_walk G p x = probe x (walk_to G p 0 x)

abbrev pub page_walks : Granule → Pool → List ℕ → List Probe
page_walks G p xs = map (page_walk G p) xs

-- some walk ends at such an entry
unfoldable pub any_ends : (Entry → Bool) → List Probe → Bool
any_ends such [] = false
any_ends such (w ∷ ws) = such w.end.entry || any_ends such ws

abbrev pub is_damaged : Entry → Bool
is_damaged Damaged = true
is_damaged Empty = false
is_damaged (Frame _ _) = false
is_damaged (Table _) = false

abbrev pub is_taken : Entry → Bool
is_taken (Frame _ _) = true
is_taken (Table _) = true
is_taken Empty = false
is_taken Damaged = false

-- a table that a walk comes to, and the region that it stands for there
pub record Standing : Type 0 where
  pub table : ℕ
  pub stands_for : Region

abbrev pub standing : ℕ → Region → Standing
standing t r = record { table = t; stands_for = r }

-- the tables on the way to address a, d of them, from the one with entries of height h upward
unfoldable pub on_way : Granule → ℕ → List ℕ → ℕ → ℕ → List Standing
on_way G a way h zero = []
on_way G a way h (suc d) = standing (at_height way h) (region (size_at G (suc h)) (base_at G a (suc h))) ∷ on_way G a way (suc h) d

-- the tables whose entries these walks read, from where each ended up to the root
unfoldable pub on_ways : Granule → ℕ → List Probe → List Standing
on_ways G levels [] = []
on_ways G levels (w ∷ ws) = on_way G w.at w.end.tables w.end.left (levels - w.end.left) ++ on_ways G levels ws

-- where two are one table, they stand for one region
abbrev pub agree : Standing → Standing → Bool
agree s q = not (eqb s.table q.table) || (eqb s.stands_for.size q.stands_for.size && eqb s.stands_for.first q.stands_for.first)

unfoldable pub agrees : Standing → List Standing → Bool
agrees s [] = true
agrees s (q ∷ l) = agree s q && agrees s l

-- no table stands for two regions
unfoldable pub one_region_each : List Standing → Bool
one_region_each [] = true
one_region_each (s ∷ l) = agrees s l && one_region_each l

-- refusal 8 of several walks: one of them finds damage, or together they come to one table for two regions
abbrev pub spoiled : Granule → ℕ → List Probe → Bool
spoiled G levels ws = any_ends is_damaged ws || not (one_region_each (on_ways G levels ws))

-- the tables on all the ways
unfoldable pub ways : List Probe → List ℕ
ways [] = []
ways (w ∷ ws) = w.end.tables ++ ways ws

-- ---- calls one after the other

-- each on what the last one left: what they answer, and the pool that is left
unfoldable pub answers_of : {A : Type 0} → (Pool → A → Done) → Pool → List A → List Answer
answers_of call p [] = []
answers_of call p (x ∷ xs) = (call p x).answer ∷ answers_of call (call p x).after xs

unfoldable pub left_by : {A : Type 0} → (Pool → A → Done) → Pool → List A → Pool
left_by call p [] = p
left_by call p (x ∷ xs) = left_by call (call p x).after xs

unfoldable pub sum_of : (Answer → ℕ) → List Answer → ℕ
sum_of f [] = 0
sum_of f (r ∷ l) = f r + sum_of f l

-- an answer that is no refusal counts 1
abbrev pub accepted_in : Answer → ℕ
accepted_in r = cond (accepts r) 1 0

-- some answer is the refusal with this number
abbrev pub refuses_with : ℕ → Answer → Bool
refuses_with n (answered values) = false
refuses_with n (refusal k values) = eqb k n

unfoldable pub any_refused : ℕ → List Answer → Bool
any_refused n [] = false
any_refused n (r ∷ l) = refuses_with n r || any_refused n l

-- ---- map a range, over a pool

abbrev pub map_piece : Granule → Pool → Mapping → Done
map_piece G p m = map_w G p m.at m.frame m.size m.attributes

-- the regions that lack a table, each once: those of R, and of each piece those larger than it, up to that of the entry where its walk ended
unfoldable pub lacked : Granule → Pool → List Mapping → List Region → List Region
lacked G p [] R = R
lacked G p (m ∷ ms) R = lacked G p ms (new_regions (regions_of G m (walk_for G p m).left) R ++ R)

-- All or nothing: 8 if any piece's walk finds it, then 6 if any does, then 7 if all pieces need more new tables than are free, then 8 for the free list,
-- where a taken table must stand on no piece's path. Else the pieces are mapped one by one.
unfoldable pub map_range_here : Granule → Pool → List Mapping → ℕ → Done
map_range_here G p ms need =
    cond (ltb p.numbers.free need) (refuse 7 p)
    (cond (may_take p.list (total (area_of p.numbers)) (ways (piece_walks G p ms)) p.numbers.free need)
    (done (took need) (left_by (map_piece G) p ms))
    (refuse 8 p))

unfoldable pub map_range_at : Granule → Pool → List Mapping → Done
map_range_at G p ms =
    cond (spoiled G p.numbers.levels (piece_walks G p ms)) (refuse 8 p)
    (cond (any_ends is_taken (piece_walks G p ms)) (refuse 6 p) (map_range_here G p ms (length (lacked G p ms []))))

unfoldable pub map_range_w : Granule → Pool → ℕ → ℕ → ℕ → ℕ → Done
map_range_w G p a b len k =
    cond (good_pool G p)
    (let no = map_range_tests G p.numbers.levels (area_of p.numbers) a b len k in
    cond (eqb no 0) (map_range_at G p (pieces G a b len k)) (refuse no p))
    (refuse 1 p)

-- ---- unmap a range, over a pool

-- a mapping of so many bytes at an address is wholly inside the range of len bytes from a on
abbrev pub inside : ℕ → ℕ → ℕ → ℕ → Bool
inside a len at size = leb a at && leb (at + size) (a + len)

-- a walk for address x that ended at height h found a frame, and the range cuts its mapping
abbrev pub cut_at : Granule → ℕ → ℕ → ℕ → ℕ → Entry → Bool
cut_at G a len x h (Frame _ _) = not (inside a len (base_at G x h) (size_at G h))
cut_at G a len x h Empty = false
cut_at G a len x h (Table _) = false
cut_at G a len x h Damaged = false

unfoldable pub any_cut_by : Granule → ℕ → ℕ → List Probe → Bool
any_cut_by G a len [] = false
any_cut_by G a len (w ∷ ws) = cut_at G a len w.at w.end.left w.end.entry || any_cut_by G a len ws

-- 8 for damage met in the range, then 10 if the range cuts a mapping, then 8 for the free list. Else unmap at each page in rising order, which removes every
-- mapping inside the range and passes over holes, and then over the further pages of what was removed; what is answered is how many it removed, and how
-- many tables came back.
unfoldable pub unmap_range_here : Granule → Pool → List ℕ → List Answer → Done
unmap_range_here G p xs l =
    cond (any_refused 8 l) (refuse 8 p) (done (cleared (sum_of accepted_in l) (sum_of tables_in l)) (left_by (unmap_w G) p xs))

unfoldable pub unmap_range_at : Granule → Pool → ℕ → ℕ → List ℕ → Done
unmap_range_at G p a len xs =
    cond (spoiled G p.numbers.levels (page_walks G p xs)) (refuse 8 p)
    (cond (any_cut_by G a len (page_walks G p xs)) (refuse 10 p) (unmap_range_here G p xs (answers_of (unmap_w G) p xs)))

unfoldable pub unmap_range_w : Granule → Pool → ℕ → ℕ → Done
unmap_range_w G p a len =
    cond (good_pool G p)
    (let no = unmap_range_tests G p.numbers.levels a len in
    cond (eqb no 0) (unmap_range_at G p a len (pages_of G a len)) (refuse no p))
    (refuse 1 p)

-- ---- map a range, by the ledger

-- the ledger gains mappings one after the other
unfoldable pub gain : List Mapping → List Mapping → List Mapping
gain [] L = L
gain (m ∷ ms) L = gain ms (m ∷ L)

-- 6 exactly where the range overlaps a live mapping, 7 exactly where all pieces need more new tables than are free. L is the ledger with the pieces.
unfoldable pub gain_of : Granule → Ledger → ℕ → ℕ → List Mapping → Entered
gain_of G A a len L =
    cond (any_overlap a len A.live) (entered (refused 6) A)
    (let need = tables_needed G A.levels L - tables_needed G A.levels A.live in
    cond (ltb (free_tables G A) need) (entered (refused 7) A) (entered (took need) (with_live A L)))

unfoldable pub map_range_l : Granule → Ledger → ℕ → ℕ → ℕ → ℕ → Entered
map_range_l G A a b len k =
    let no = map_range_tests G A.levels A.area a b len k in
    cond (eqb no 0) (gain_of G A a len (gain (pieces G a b len k) A.live)) (entered (refused no) A)

-- ---- unmap a range, by the ledger

-- a live mapping that the range touches is not wholly inside it
unfoldable pub any_cut : ℕ → ℕ → List Mapping → Bool
any_cut a len [] = false
any_cut a len (m ∷ L) = (overlaps a len m && not (inside a len m.at m.size)) || any_cut a len L

-- the ledger without the mappings inside the range
unfoldable pub drop_in : ℕ → ℕ → List Mapping → List Mapping
drop_in a len [] = []
drop_in a len (m ∷ L) = cond (inside a len m.at m.size) (drop_in a len L) (m ∷ drop_in a len L)

-- 10 exactly where the range cuts a live mapping; else those inside are removed
unfoldable pub clear_of : Granule → Ledger → ℕ → ℕ → Entered
clear_of G A a len =
    let L = drop_in a len A.live in
    cond (any_cut a len A.live) (entered (refused 10) A)
    (entered (cleared (length A.live - length L) (free_tables G (with_live A L) - free_tables G A)) (with_live A L))

unfoldable pub unmap_range_l : Granule → Ledger → ℕ → ℕ → Entered
unmap_range_l G A a len =
    let no = unmap_range_tests G A.levels a len in
    cond (eqb no 0) (clear_of G A a len) (entered (refused no) A)
