-- Where a walk ends, as a place and a height, and the tables on the way.
use Rattle.std.specs.Prelude.{ℕ, ◌*◌, Bool, cond, ◌&&◌, List, [], ltb, leb, eqb, length, get_or, Result, Ok, Err}
use Rattle.path.specs.Geometry.{Granule, entries, good_levels, physical}
use Rattle.path.specs.Areas.{Area, area_of, total}
use Rattle.path.specs.Numbers.{most_tables}
use Rattle.path.specs.declared.Setup.{Setup}
use Rattle.entry.specs.Words.{entry_at}
use Rattle.entry.specs.declared.Entry.TheVariants.{Damaged}
use Rattle.model.specs.declared.Walked.{Walked}
use Rattle.model.specs.Answers.{pool}
use Rattle.model.specs.Walk.{stop}
use Rattle.model.specs.Calls.{walk_to}
use Rattle.lookup.specs.declared.Reached.{Reached}
use Rattle.lookup.specs.declared.Lost.{Lost}
use Rattle.lookup.specs.Walks.{nowhere}

-- the place of the last entry and the height of that entry; where a table was come to again, damage at the height of its entries
unfoldable pub end_of : Granule → List ℕ → Area → Result Reached Lost → List ℕ → Walked
end_of G ws area (Ok r) way = stop (entry_at G area r.height (get_or ws r.place 0)) r.height way
end_of G ws area (Err l) way = stop Damaged l.height way

-- a first base, levels and table counts that a pool may have, a target among the heights, and the words of all tables
unfoldable pub can_walk : Granule → Setup → ℕ → ℕ → Bool
can_walk G s words target =
    leb s.base physical
    && (good_levels G s.levels
    && (ltb target s.levels
    && (leb 1 (total (area_of s))
    && (leb (total (area_of s)) most_tables
    && eqb words (entries G * total (area_of s))))))

-- the walk by such numbers; others are damage at once
unfoldable pub walk_if : Granule → Setup → List ℕ → ℕ → ℕ → Walked
walk_if G s ws target a = cond (can_walk G s (length ws) target) (walk_to G (pool s ws (length ws) []) target a) nowhere
