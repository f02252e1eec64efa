-- Marks: a list of numbers, one for each table. 0 says that no walk came to it, any other number for which region it stands.
use Rattle.std.specs.Prelude.{ℕ, zero, suc, ◌+◌, ◌-◌, ◌*◌, ◌/◌, Bool, true, false, cond, ◌&&◌, List, ltb, leb, eqb, get_or, set}
use Rattle.path.specs.Geometry.{Granule, size_at, physical}
use Rattle.model.specs.Walk.{at_height}

-- the region of a table whose entries have height h, on the way to address a: its place among the regions of its height, and the height
abbrev pub region_number : Granule → ℕ → ℕ → ℕ
region_number G a h = a / size_at G (suc h) * 4 + h + 1

-- whether the tables that were noted stand for no other regions than before, and the marks then
pub record Noted : Type 0 where
  pub fine : Bool
  pub marks : List ℕ

abbrev pub noted : Bool → List ℕ → Noted
noted f M = record { fine = f; marks = M }

-- table t stands for the region of this number
unfoldable pub note_one : List ℕ → ℕ → ℕ → Noted
note_one M t number = cond (eqb (get_or M t 0) 0) (noted true (set M t number)) (noted (eqb (get_or M t 0) number) M)

-- the tables on the way to address a, d of them, from the one with entries of height h upward; the first that stands for another region ends it
unfoldable pub note_from : Granule → List ℕ → ℕ → List ℕ → ℕ → ℕ → Noted
note_from G M a way h zero = noted true M
note_from G M a way h (suc d) =
    let n = note_one M (at_height way h) (region_number G a h) in cond n.fine (note_from G n.marks a way (suc h) d) n

-- those of a walk that ended at height `left` in a tree of so many levels
unfoldable pub note_way : Granule → List ℕ → ℕ → List ℕ → ℕ → ℕ → Noted
note_way G M a way left levels = cond (leb levels 4 && ltb a physical) (note_from G M a way left (levels - left)) (noted false M)
