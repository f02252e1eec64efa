-- The single writes of a call, in their order, and what carrying them out does to the lent memory.
use Rattle.std.specs.Prelude.{ℕ, zero, suc, ◌+◌, ◌-◌, Bool, true, cond, ◌&&◌, not, List, [], ◌∷◌, ltb, get_or, set}
use Rattle.laws.specs.Lists.{part, zeroed, all_zero, among}
use Rattle.path.specs.Geometry.{Granule, entries}
use Rattle.path.specs.Areas.{Area}
use Rattle.entry.specs.Words.{table_word}
use Rattle.model.specs.Walk.{slot, at_height}

pub data Write : Type 0 where
  -- a table's word: its place, its value
  store : ℕ → ℕ → Write
  -- all words of a table to 0
  wipe : ℕ → Write
  -- a free-list place: its number
  give : ℕ → ℕ → Write

-- the lent memory
pub record Memory : Type 0 where
  pub words : List ℕ
  pub list : List ℕ

abbrev pub memory : List ℕ → List ℕ → Memory
memory w l = record { words = w; list = l }

abbrev pub perform : Granule → Write → Memory → Memory
perform G (store i x) m = memory (set m.words i x) m.list
perform G (wipe t) m = memory (zeroed m.words (slot G t 0) (entries G)) m.list
perform G (give i t) m = memory m.words (set m.list i t)

unfoldable pub perform_all : Granule → List Write → Memory → Memory
perform_all G [] m = m
perform_all G (w ∷ ws) m = perform_all G ws (perform G w m)

-- Map: `need` tables are missing below the entry of height g + need of table t. They are taken from the end of the free list, top first, each
-- filled with zeros and then linked; the frame's word is written last.
unfoldable pub map_writes : Granule → Area → List ℕ → List ℕ → ℕ → ℕ → ℕ → ℕ → ℕ → List Write
map_writes G area path list g word t f zero = store (slot G t (at_height path g)) word ∷ []
map_writes G area path list g word t f (suc need) =
    let c = get_or list (f - 1) 0 in
    wipe c ∷ store (slot G t (at_height path (suc need + g))) (table_word G area c) ∷ map_writes G area path list g word c (f - 1) need

-- whether so many tables may be taken from the end of the free list: each from 1 to n - 1, none twice, none of those seen on the path
unfoldable pub may_take : List ℕ → ℕ → List ℕ → ℕ → ℕ → Bool
may_take list n seen f zero = true
may_take list n seen f (suc need) =
    let c = get_or list (f - 1) 0 in
    ltb 0 c && (ltb c n && (not (among c seen) && may_take list n (c ∷ seen) (f - 1) need))

-- whether table t has no entry but entry i
unfoldable pub only_entry : Granule → List ℕ → ℕ → ℕ → Bool
only_entry G ws t i = all_zero (set (part ws (slot G t 0) (entries G)) i 0)

-- Unmap: of the d tables of the path from the one with entries of height h upward, how many come free, one after the other, once the path's entry
-- in each is cleared
unfoldable pub freed : Granule → List ℕ → List ℕ → List ℕ → ℕ → ℕ → ℕ
freed G ws way path h zero = 0
freed G ws way path h (suc d) =
    cond (only_entry G ws (at_height way h) (at_height path h)) (suc (freed G ws way path (suc h) d)) 0

-- so many tables go, from the one with entries of height h upward: each time the parent's entry becomes 0, then the table goes on the free list
unfoldable pub prune_writes : Granule → List ℕ → List ℕ → ℕ → ℕ → ℕ → List Write
prune_writes G way path h f zero = []
prune_writes G way path h f (suc k) =
    store (slot G (at_height way (suc h)) (at_height path (suc h))) 0 ∷ give f (at_height way h) ∷ prune_writes G way path (suc h) (suc f) k

-- the frame's word becomes 0, then the emptied tables go
abbrev pub unmap_writes : Granule → List ℕ → List ℕ → ℕ → ℕ → ℕ → List Write
unmap_writes G way path h f given = store (slot G (at_height way h) (at_height path h)) 0 ∷ prune_writes G way path h f given
