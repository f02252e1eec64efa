-- The walk: down from the root until an entry is not a table or the target height is reached.
use Rattle.std.specs.Prelude.{ℕ, zero, suc, ◌+◌, ◌-◌, ◌*◌, cond, List, [], ◌∷◌, leb, get_or, set}
use Rattle.laws.specs.Lists.{among}
use Rattle.path.specs.Geometry.{Granule, entries}
use Rattle.path.specs.Areas.{Area}
use Rattle.entry.specs.Words.{entry_at}
use Rattle.entry.specs.declared.Entry.{Entry}
use Rattle.entry.specs.declared.Entry.TheVariants.{Empty, Table, Frame, Damaged}
use Rattle.model.specs.declared.Walked.{Walked}

-- the place of entry i of table t among the words
abbrev pub slot : Granule → ℕ → ℕ → ℕ
slot G t i = entries G * t + i

-- of a path's four places, or of the tables on the way, the one for height h
abbrev pub at_height : List ℕ → ℕ → ℕ
at_height p h = get_or p (3 - h) 0

-- no table on the way but the root
abbrev pub no_way : List ℕ
no_way = 0 ∷ 0 ∷ 0 ∷ 0 ∷ []

abbrev pub stop : Entry → ℕ → List ℕ → Walked
stop e h way = record { entry = e; left = h; tables = way }

-- at an entry of height h + 1: a table above the target is gone on to, unless it was come to before, which is damage; else the walk ends
unfoldable pub onward : Entry → ℕ → ℕ → List ℕ → (ℕ → Walked) → Walked
onward (Table c) target h way on =
    cond (leb (suc h) target) (stop (Table c) (suc h) way) (cond (among c way) (stop Damaged h way) (on c))
onward Empty target h way on = stop Empty (suc h) way
onward (Frame b a) target h way on = stop (Frame b a) (suc h) way
onward Damaged target h way on = stop Damaged (suc h) way

-- from table t, whose entries have height h; `way` holds the tables above it
unfoldable pub walk_from : Granule → List ℕ → Area → ℕ → List ℕ → ℕ → List ℕ → ℕ → Walked
walk_from G ws area target path zero way t =
    stop (entry_at G area zero (get_or ws (slot G t (at_height path zero)) 0)) zero (set way (3 - zero) t)
walk_from G ws area target path (suc h) way t =
    onward (entry_at G area (suc h) (get_or ws (slot G t (at_height path (suc h))) 0)) target h (set way (3 - suc h) t)
    (λ c. walk_from G ws area target path h (set way (3 - suc h) t) c)
