-- What the laws of proofs/RangeMapped.antt speak of.
use Prim.Native.Nat.{ℕ, suc, ◌≤◌}
use Rattle.std.specs.Prelude.{◌≡◌, Bool, true, false, ◌&&◌, eqb}
use mathlib.Core.List.{List, [], Memᴰ}
use Rattle.std.proofs.Math.ListN.{length}
use Rattle.path.specs.Geometry.{Granule, size_at}
use Rattle.path.specs.Areas.{area_of, total}
use Rattle.path.specs.Paths.{base_at}
use Rattle.model.specs.Answers.{Answer, took, tables_in, Pool, Done, done, refuse}
use Rattle.model.specs.Walk.{at_height}
use Rattle.model.specs.Writes.{may_take}
use Rattle.model.specs.Calls.{good_pool}
use Rattle.model.specs.Ledger.{Region, region}
use Rattle.model.specs.Ranges.{map_range_tests, pieces, piece_walks, any_ends, is_damaged, is_taken, Standing, standing, on_ways, one_region_each, lacked, ways, map_piece, left_by, answers_of, sum_of, map_range_w}

-- the first region is the second
abbrev pub is : Region → Region → Bool
is q r = eqb q.size r.size && eqb q.first r.first

-- two tables that are one stand for one region
abbrev pub OneRegion : Standing → Standing → Type 0
OneRegion s q = s.table ≡ q.table → (s.stands_for.size ≡ q.stands_for.size) × (s.stands_for.first ≡ q.stands_for.first)

-- the table at height j on a way, with its region
abbrev pub standing_at : Granule → ℕ → List ℕ → ℕ → Standing
standing_at G a way j = standing (at_height way j) (region (size_at G (suc j)) (base_at G a (suc j)))

-- what it says that a range to be mapped is not refused
pub record Accepted (G : Granule) (p : Pool) (a b len k : ℕ) : Type 0 where
  pub good : good_pool G p ≡ true
  pub tests : map_range_tests G p.numbers.levels (area_of p.numbers) a b len k ≡ 0
  pub undamaged : any_ends is_damaged (piece_walks G p (pieces G a b len k)) ≡ false
  pub one_each : one_region_each (on_ways G p.numbers.levels (piece_walks G p (pieces G a b len k))) ≡ true
  pub untaken : any_ends is_taken (piece_walks G p (pieces G a b len k)) ≡ false
  pub room : length (lacked G p (pieces G a b len k) []) ≤ p.numbers.free
  pub may : may_take p.list (total (area_of p.numbers)) (ways (piece_walks G p (pieces G a b len k))) p.numbers.free (length (lacked G p (pieces G a b len k) [])) ≡ true

-- a range is mapped, or refused with some number
pub data MapRangeView (G : Granule) (p : Pool) (a b len k : ℕ) : Done → Type 0 where
  range_takes : Accepted G p a b len k
      → MapRangeView G p a b len k (done (took (length (lacked G p (pieces G a b len k) []))) (left_by (map_piece G) p (pieces G a b len k)))
  range_refuses : (j : ℕ) → MapRangeView G p a b len k (refuse j p)

-- the result equals mapping the pieces one by one, on any pool
pub record OneByOne (G : Granule) (p : Pool) (a b len k t : ℕ) : Type 0 where
  pub each : (x : Answer) → Memᴰ x (answers_of (map_piece G) p (pieces G a b len k)) → (j : ℕ) × (x ≡ took j)
  pub sum : sum_of tables_in (answers_of (map_piece G) p (pieces G a b len k)) ≡ t
  pub after : (map_range_w G p a b len k).after ≡ left_by (map_piece G) p (pieces G a b len k)
