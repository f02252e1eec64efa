-- The walk from the root, whatever the height of its entries or the setup numbers.
use Rattle.std.specs.Prelude.{ℕ, ◌-◌, cond, List, ltb, leb}
use Rattle.path.specs.Geometry.{Granule}
use Rattle.path.specs.Areas.{Area, area_of, total}
use Rattle.path.specs.Numbers.{most_tables}
use Rattle.path.specs.Paths.{path_of}
use Rattle.path.specs.declared.Setup.{Setup}
use Rattle.entry.specs.declared.Entry.TheVariants.{Damaged}
use Rattle.model.specs.declared.Walked.{Walked}
use Rattle.model.specs.Walk.{no_way, stop, walk_from}

-- from the root, whose entries have the height `top`; a path has four places, so that no tree is higher than 3
unfoldable pub walk_of : Granule → List ℕ → Area → ℕ → List ℕ → ℕ → Walked
walk_of G ws area target path top =
    cond (leb top 3) (walk_from G ws area target path top no_way 0) (stop Damaged top no_way)

-- setup numbers that no pool has are damage at once
abbrev pub nowhere : Walked
nowhere = stop Damaged 0 no_way

-- for an address, by the setup numbers
unfoldable pub walk_by : Granule → Setup → List ℕ → ℕ → ℕ → Walked
walk_by G s ws target a =
    cond (ltb s.levels 1) nowhere
    (cond (ltb most_tables (total (area_of s))) nowhere
    (walk_of G ws (area_of s) target (path_of G a) (s.levels - 1)))
