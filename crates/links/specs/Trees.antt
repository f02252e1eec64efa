-- Where the tables of a tree stand, as an area, and the tables that words name, where they name one.
use Rattle.std.specs.Prelude.{ℕ, ◌%◌, Option, Some, None, cond, ltb, eqb}
use Rattle.path.specs.Geometry.{Granule}
use Rattle.path.specs.Areas.{Area, area_at}
use Rattle.path.specs.declared.Setup.{Setup}
use Rattle.entry.specs.Words.{named_in, child_at}
use Rattle.links.specs.declared.Tree.{Tree}

-- of setup numbers; 16 bits count the tables of any pool
abbrev pub tree_of : Setup → Tree
tree_of s = record { granule = s.granule; base = s.base; tables = s.tables % 65536; base2 = s.base2; tables2 = s.tables2 % 65536 }

abbrev pub area_in : Tree → Area
area_in t = area_at t.base t.tables t.base2 t.tables2

-- the number of the table that a word names in a region of n tables
unfoldable pub table_named : Granule → ℕ → ℕ → ℕ → Option ℕ
table_named G b n w = cond (ltb (named_in G b n w) n) (Some (named_in G b n w)) None

-- the child that it names in an area
unfoldable pub some_child : Granule → Area → ℕ → Option ℕ
some_child G area w = cond (eqb (child_at G area w) 0) None (Some (child_at G area w))
