-- The adding call: a second region of tables for a pool that has one. It is lent the first run of words, the second run, whatever is in it, and a list
-- of n + m places, of which the first f count. The pool that it is handed has both runs and that list, and the setup numbers from before.
use Rattle.std.specs.Prelude.{ℕ, ◌+◌, ◌*◌, Bool, cond, ◌&&◌, List, ◌++◌, ltb, eqb, length, take, drop, replicate}
use Rattle.laws.specs.Lists.{down, distinct}
use Rattle.path.specs.Geometry.{Granule, page_size, entries}
use Rattle.path.specs.Areas.{area_of, one_region, with_second, total}
use Rattle.path.specs.Numbers.{setup_of, good_adding}
use Rattle.model.specs.Answers.{added, Pool, pool, Done, done, refuse}
use Rattle.model.specs.Audit.{Found, of_pool, free_of, none_inside}

-- the memory that an add is lent: the pool's first run and a second one, and a longer list, whose first f places hold the pool's free numbers
abbrev pub lent : Pool → List ℕ → List ℕ → Pool
lent p second rest = pool p.numbers (take p.cut p.words ++ second) p.cut (free_of p ++ rest)

-- refusal 1: a setup number or a length is not good with the new region, a region is there already or the new one has no table; the free count is
-- tested against the old limit
abbrev pub good_add : Granule → Pool → ℕ → ℕ → Bool
good_add G p q m =
    eqb p.numbers.granule (page_size G)
    && (good_adding G p.numbers.levels (area_of p.numbers) q m p.cut (length p.words) (length p.list)
    && ltb p.numbers.free (total (area_of p.numbers)))

-- every reachable word is sound, and no table is reached twice: else refusal 8. The words are read under the old setup.
abbrev pub sound_tree : Found → Bool
sound_tree o = o.ok && distinct o.reached

-- of a list, m places from place f on get n + m - 1 down to n
unfoldable pub appended : ℕ → ℕ → ℕ → List ℕ → List ℕ
appended n m f list = take f list ++ (take m (down (n + m)) ++ drop (f + m) list)

-- what an accepted add leaves: the new region in the setup, the second run all zeros, its tables at the end of the free list, highest number first
abbrev pub grown : Granule → Pool → ℕ → ℕ → Pool
grown G p q m =
    pool (setup_of G p.numbers.levels (with_second (area_of p.numbers) q m) (p.numbers.free + m))
    (take p.cut p.words ++ replicate (entries G * m) 0)
    p.cut
    (appended p.numbers.tables m p.numbers.free p.list)

-- an add's tests: the number of the refusal, or 0
unfoldable pub add_tests : Granule → Pool → ℕ → ℕ → ℕ
add_tests G p q m =
    cond (good_add G p q m)
    (cond (sound_tree (of_pool G p)) (cond (none_inside G (one_region q m) (of_pool G p).mappings) 0 11) 8)
    1

unfoldable pub add_w : Granule → Pool → ℕ → ℕ → Done
add_w G p q m =
    cond (good_add G p q m)
    (cond (sound_tree (of_pool G p))
    (cond (none_inside G (one_region q m) (of_pool G p).mappings) (done added (grown G p q m)) (refuse 11 p))
    (refuse 8 p))
    (refuse 1 p)
