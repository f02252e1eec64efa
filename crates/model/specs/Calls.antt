-- The calls over a pool, as document 01's steps have them: what each answers, and the pool that it leaves.
use Rattle.std.specs.Prelude.{ℕ, ◌+◌, ◌-◌, ◌%◌, Bool, cond, List, ltb, leb, eqb, length, replicate}
use Rattle.laws.specs.Lists.{down}
use Rattle.path.specs.Geometry.{Granule, good_granule, granule_of, page_size, size_at, physical, space_of, height_of}
use Rattle.path.specs.Areas.{Area, area_of, total, meets_area}
use Rattle.path.specs.Numbers.{no_setup, setup_of, with_free, good_numbers, good_setup}
use Rattle.path.specs.Paths.{base_at, path_of}
use Rattle.entry.specs.Words.{frame_word}
use Rattle.entry.specs.declared.Entry.{Entry}
use Rattle.entry.specs.declared.Entry.TheVariants.{Empty, Table, Frame, Damaged}
use Rattle.model.specs.declared.Walked.{Walked}
use Rattle.model.specs.Answers.{Answer, formatted, took, gave, found, refused, hole, mapping, Pool, pool, Done, done, refuse}
use Rattle.model.specs.Walk.{no_way, at_height, walk_from}
use Rattle.model.specs.Writes.{memory, Write, perform_all, map_writes, may_take, freed, unmap_writes}

-- refusal 1
abbrev pub good_pool : Granule → Pool → Bool
good_pool G p = good_setup G p.numbers p.cut (length p.words) (length p.list)

-- the lent memory after these writes, and the new free count
abbrev pub written : Granule → Pool → List Write → ℕ → Pool
written G p ws f =
    let m = perform_all G ws (memory p.words p.list) in pool (with_free p.numbers f) m.words p.cut m.list

-- a walk to a height, for an address, from the root
abbrev pub walk_to : Granule → Pool → ℕ → ℕ → Walked
walk_to G p target a =
    walk_from G p.words (area_of p.numbers) target (path_of G a) (p.numbers.levels - 1) no_way 0

-- Format: all words of both runs 0, place i of the free list n + m - 1 - i, n + m - 1 tables free
unfoldable pub format_w : Granule → ℕ → Area → List ℕ → ℕ → List ℕ → Done
format_w G levels area ws cut list =
    cond (good_numbers G levels area cut (length ws) (length list))
    (done formatted (pool (setup_of G levels area (total area - 1)) (replicate (length ws) 0) cut (down (total area))))
    (refuse 1 (pool no_setup ws cut list))

-- the same where the granule is a number: 1 for one that names none
unfoldable pub format_n : ℕ → ℕ → Area → List ℕ → ℕ → List ℕ → Done
format_n number levels area ws cut list =
    cond (good_granule number) (format_w (granule_of number) levels area ws cut list) (refuse 1 (pool no_setup ws cut list))

-- Query: the entry where the walk to the last level ends; an empty one is a hole of its region
unfoldable pub found_at : Granule → ℕ → Entry → ℕ → Answer
found_at G a (Frame b k) h = found (mapping (base_at G a h) b (size_at G h) k)
found_at G a Empty h = hole (base_at G a h) (size_at G h)
found_at G a (Table c) h = refused 8
found_at G a Damaged h = refused 8

unfoldable pub query_w : Granule → Pool → ℕ → Answer
query_w G p a =
    cond (good_pool G p)
    (cond (leb (space_of G p.numbers.levels) a) (refused 4)
    (let o = walk_to G p 0 a in found_at G a o.entry o.left))
    (refused 1)

-- Map: the tests 2 to 5 of its arguments and then 11, or 0
unfoldable pub map_tests : Granule → ℕ → Area → ℕ → ℕ → ℕ → ℕ → ℕ
map_tests G levels area a b size k =
    cond (ltb G.large (height_of G size)) 2
    (cond (ltb 15 k) 3
    (cond (leb (space_of G levels) a) 4
    (cond (ltb (space_of G levels) (a + size)) 4
    (cond (ltb physical (b + size)) 4
    (cond (eqb (a % size) 0) (cond (eqb (b % size) 0) (cond (meets_area G area b size) 11 0) 5) 5)))))

-- the walk ended at an empty entry that lacks `need` tables down to the frame's height g
unfoldable pub map_here : Granule → Pool → ℕ → ℕ → ℕ → ℕ → Walked → ℕ → Done
map_here G p a b g k o need =
    cond (ltb p.numbers.free need) (refuse 7 p)
    (cond (may_take p.list (total (area_of p.numbers)) o.tables p.numbers.free need)
    (done (took need)
    (written G p
    (map_writes G (area_of p.numbers) (path_of G a) p.list g (frame_word b g k) (at_height o.tables o.left) p.numbers.free need)
    (p.numbers.free - need)))
    (refuse 8 p))

unfoldable pub map_at : Granule → Pool → ℕ → ℕ → ℕ → ℕ → Walked → Entry → Done
map_at G p a b g k o Empty = map_here G p a b g k o (o.left - g)
map_at G p a b g k o (Frame _ _) = refuse 6 p
map_at G p a b g k o (Table _) = refuse 6 p
map_at G p a b g k o Damaged = refuse 8 p

unfoldable pub map_w : Granule → Pool → ℕ → ℕ → ℕ → ℕ → Done
map_w G p a b size k =
    cond (good_pool G p)
    (let no = map_tests G p.numbers.levels (area_of p.numbers) a b size k in
    cond (eqb no 0) (let o = walk_to G p (height_of G size) a in map_at G p a b (height_of G size) k o o.entry) (refuse no p))
    (refuse 1 p)

-- Unmap: the tests 4 and 5 of its argument, or 0
unfoldable pub unmap_tests : Granule → ℕ → ℕ → ℕ
unmap_tests G levels a = cond (leb (space_of G levels) a) 4 (cond (eqb (a % page_size G) 0) 0 5)

-- the walk ended at the frame's entry, and so many tables come free
unfoldable pub unmap_here : Granule → Pool → ℕ → ℕ → ℕ → Walked → ℕ → Done
unmap_here G p a b k o given =
    cond (ltb (total (area_of p.numbers) - 1) (p.numbers.free + given)) (refuse 8 p)
    (done (gave b (size_at G o.left) k given)
    (written G p (unmap_writes G o.tables (path_of G a) o.left p.numbers.free given) (p.numbers.free + given)))

unfoldable pub unmap_at : Granule → Pool → ℕ → Walked → Entry → Done
unmap_at G p a o (Frame b k) =
    cond (eqb (a % size_at G o.left) 0)
    (unmap_here G p a b k o (freed G p.words o.tables (path_of G a) o.left (p.numbers.levels - 1 - o.left)))
    (refuse 10 p)
unmap_at G p a o Empty = done (hole (base_at G a o.left) (size_at G o.left)) p
unmap_at G p a o (Table _) = refuse 8 p
unmap_at G p a o Damaged = refuse 8 p

unfoldable pub unmap_w : Granule → Pool → ℕ → Done
unmap_w G p a =
    cond (good_pool G p)
    (let no = unmap_tests G p.numbers.levels a in cond (eqb no 0) (let o = walk_to G p 0 a in unmap_at G p a o o.entry) (refuse no p))
    (refuse 1 p)
