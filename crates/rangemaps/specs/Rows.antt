-- Parts of map a range, as its code is divided: a row is pieces of one size in one table.
use Rattle.std.specs.Prelude.{ℕ, zero, suc, ◌+◌, ◌-◌, ◌*◌, ◌%◌, Bool, false, cond, ◌||◌, List, [], ◌∷◌, ltb, eqb, set, Result, Ok, Err}
use Rattle.laws.specs.Lists.{part}
use Rattle.path.specs.Geometry.{Granule, size_at}
use Rattle.path.specs.Areas.{Area, area_of}
use Rattle.path.specs.Paths.{index_at}
use Rattle.entry.specs.Words.{entry_at}
use Rattle.entry.specs.declared.Entry.{Entry}
use Rattle.entry.specs.declared.Entry.TheVariants.{Empty, Table, Frame, Damaged}
use Rattle.model.specs.declared.Refusal.{Refusal}
use Rattle.model.specs.declared.Refusal.TheVariants.{Overlap, Damage}
use Rattle.model.specs.Answers.{Pool}
use Rattle.model.specs.Walk.{slot, at_height}
use Rattle.model.specs.Calls.{walk_to}
use Rattle.model.specs.Ranges.{Probe, probe, is_damaged, is_taken}
use Rattle.marks.specs.Marks.{note_way}

-- the walks of a row: n pieces of height h from address a on
unfoldable pub row_walks : Granule → Pool → ℕ → ℕ → ℕ → List Probe
row_walks G p h a zero = []
row_walks G p h a (suc n) = probe a (walk_to G p h a) ∷ row_walks G p h (a + size_at G h) n

-- some word says such an entry at height h
unfoldable pub any_says : (Entry → Bool) → Granule → Area → ℕ → List ℕ → Bool
any_says such G area h [] = false
any_says such G area h (w ∷ ws) = such (entry_at G area h w) || any_says such G area h ws

-- damage where one of these words is damaged, else an overlap where one is a table or a frame, else what was met before
unfoldable pub met_in : Granule → Area → ℕ → Result ℕ Refusal → List ℕ → Result ℕ Refusal
met_in G area h met ws = cond (any_says is_damaged G area h ws) (Err Damage) (cond (any_says is_taken G area h ws) (Err Overlap) met)

-- where a walk ended above the height of its piece: the tables that the piece lacks, or an overlap or damage
abbrev pub met_at : Entry → ℕ → Result ℕ Refusal
met_at Damaged lack = Err Damage
met_at Empty lack = Ok lack
met_at (Table c) lack = Err Overlap
met_at (Frame b k) lack = Err Overlap

-- of the `lack` regions above height h around address a, how many begin at it
unfoldable pub begun_at : Granule → ℕ → ℕ → ℕ → ℕ
begun_at G a h zero = 0
begun_at G a h (suc lack) = cond (eqb (a % size_at G (h + suc lack)) 0) (suc lack) (begun_at G a h lack)

-- what the walks of a row find, where the tables on ways before it are marked: damage where the first ends in it or comes to a table that stands for another
-- region; else, where it ended above the row's height, what it found there, and where it ended in the row's table, what the row's words say
unfoldable pub row_found : Granule → Pool → List ℕ → ℕ → ℕ → ℕ → Result ℕ Refusal
row_found G p M h a n =
    let o = walk_to G p h a in
    cond (is_damaged o.entry) (Err Damage)
    (cond (note_way G M a o.tables o.left p.numbers.levels).fine
    (cond (ltb h o.left) (met_at o.entry (o.left - h))
    (met_in G (area_of p.numbers) h (Ok 0) (part p.words (slot G (at_height o.tables h) (index_at G a h)) n)))
    (Err Damage))

-- so many words from a place on: the first, and each the one before it and `size`
unfoldable pub filled : List ℕ → ℕ → ℕ → ℕ → ℕ → List ℕ
filled ws place first size zero = ws
filled ws place first size (suc n) = set (filled ws place first size n) (place + n) (first + size * n)
