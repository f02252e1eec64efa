-- What the laws of proofs/RangeUnmapLaws.antt speak of.
use Prim.Native.Nat.{ℕ, suc, ◌+◌, ◌*◌, ◌/◌, ◌%◌, ◌≤◌, ◌<◌}
use Rattle.std.specs.Prelude.{◌≡◌, ◌≢◌, true}
use Rattle.std.proofs.Math.Bool.{false}
use mathlib.Core.List.{List, Memᴰ}
use Rattle.path.specs.Geometry.{Granule, page_size, size_at, space_of}
use Rattle.path.specs.Paths.{base_at}
use Rattle.entry.specs.declared.Entry.TheVariants.{Frame, Damaged}
use Rattle.model.specs.Answers.{Answer, gave, cleared, hole, tables_in, Pool, Done, done, refuse}
use Rattle.model.specs.Walk.{at_height}
use Rattle.model.specs.Calls.{good_pool, walk_to, unmap_w}
use Rattle.model.specs.Ranges.{unmap_range_tests, pages_from, pages_of, page_walks, any_ends, is_damaged, on_ways, one_region_each, any_cut_by, answers_of, left_by, sum_of, accepted_in, any_refused, unmap_range_w}

-- what it says that a range to be unmapped is not refused
pub record Accepted (G : Granule) (p : Pool) (a len : ℕ) : Type 0 where
  pub good : good_pool G p ≡ true
  pub tests : unmap_range_tests G p.numbers.levels a len ≡ 0
  pub undamaged : any_ends is_damaged (page_walks G p (pages_of G a len)) ≡ false
  pub one_each : one_region_each (on_ways G p.numbers.levels (page_walks G p (pages_of G a len))) ≡ true
  pub uncut : any_cut_by G a len (page_walks G p (pages_of G a len)) ≡ false
  pub room : any_refused 8 (answers_of (unmap_w G) p (pages_of G a len)) ≡ false

-- a range is unmapped, or refused with some number
abbrev pub clearing : Granule → Pool → List ℕ → Done
clearing G p xs = let l = answers_of (unmap_w G) p xs in done (cleared (sum_of accepted_in l) (sum_of tables_in l)) (left_by (unmap_w G) p xs)

pub data UnmapRangeView (G : Granule) (p : Pool) (a len : ℕ) : Done → Type 0 where
  range_clears : Accepted G p a len → UnmapRangeView G p a len (clearing G p (pages_of G a len))
  range_stays : (j : ℕ) → UnmapRangeView G p a len (refuse j p)

-- pages that can still be unmapped: k of them from a on
pub record Ok (G : Granule) (p : Pool) (a k : ℕ) : Type 0 where
  pub good : good_pool G p ≡ true
  pub aligned : a % page_size G ≡ 0
  pub in_space : a + k * page_size G ≤ space_of G p.numbers.levels
  pub undamaged : (x : ℕ) → Memᴰ x (pages_from G a k) → (walk_to G p 0 x).entry ≢ Damaged
  pub one : (x y : ℕ) → Memᴰ x (pages_from G a k) → Memᴰ y (pages_from G a k)
      → (i j : ℕ) → (walk_to G p 0 x).left ≤ i → i < p.numbers.levels → (walk_to G p 0 y).left ≤ j → j < p.numbers.levels
      → at_height (walk_to G p 0 x).tables i ≡ at_height (walk_to G p 0 y).tables j → (i ≡ j) × (x / size_at G (suc i) ≡ y / size_at G (suc i))
  pub starts : (x : ℕ) → Memᴰ x (pages_from G a k) → (b c : ℕ) → (walk_to G p 0 x).entry ≡ Frame b c → a ≤ base_at G x (walk_to G p 0 x).left

-- an answer that removes, or passes over a hole
pub data Cleared : Answer → Type 0 where
  removed_one : (b s c t : ℕ) → Cleared (gave b s c t)
  passed_hole : (b s : ℕ) → Cleared (hole b s)

-- an accepted range equals unmapping at each of its pages in rising order: each removes a mapping or passes over a hole; so many remove one, and the tables
-- that they give back are those that the range answers
pub record PageByPage (G : Granule) (p : Pool) (a len m t : ℕ) : Type 0 where
  pub each : (r : Answer) → Memᴰ r (answers_of (unmap_w G) p (pages_of G a len)) → Cleared r
  pub removed : sum_of accepted_in (answers_of (unmap_w G) p (pages_of G a len)) ≡ m
  pub given : sum_of tables_in (answers_of (unmap_w G) p (pages_of G a len)) ≡ t
  pub after : (unmap_range_w G p a len).after ≡ left_by (unmap_w G) p (pages_of G a len)
