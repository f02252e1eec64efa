-- Parts of map, as its code is divided.
use Rattle.std.specs.Prelude.{ℕ, zero, suc, ◌-◌, List, [], get_or, Result, Ok, Err}
use Rattle.path.specs.Geometry.{Granule}
use Rattle.entry.specs.declared.Entry.{Entry}
use Rattle.entry.specs.declared.Entry.TheVariants.{Empty, Table, Frame, Damaged}
use Rattle.model.specs.declared.Refusal.{Refusal}
use Rattle.model.specs.Answers.{Answer, answered, says_refusal, Pool, Done}
use Rattle.model.specs.Calls.{walk_to, map_at}

-- what map's tests say: nothing where none refuses, whatever the height that they answer
abbrev pub says_height : Result ℕ Refusal → Answer
says_height (Ok h) = answered []
says_height (Err r) = says_refusal r

-- the refusal where the walk ended at an entry that is not empty
abbrev pub met_by : Entry → ℕ
met_by Damaged = 8
met_by Empty = 6
met_by (Table c) = 6
met_by (Frame b k) = 6

-- what map does where no test refused, for a frame of height h
abbrev pub map_from : Granule → Pool → ℕ → ℕ → ℕ → ℕ → Done
map_from G p a b h k = let o = walk_to G p h a in map_at G p a b h k o o.entry

-- the table whose entry is written once k of f free tables are taken: the last of these, or t while there is none
abbrev pub last_taken : List ℕ → ℕ → ℕ → ℕ → ℕ
last_taken list t f zero = t
last_taken list t f (suc k) = get_or list (f - suc k) 0
