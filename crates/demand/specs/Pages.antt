-- Page by page: calls of list on an unchanged pool, from address 0 and then each from the base that the last one answered.
use Rattle.std.specs.Prelude.{◌↔◌, ℕ}
use mathlib.Core.List.{List, Memᴰ}
use Rattle.laws.specs.Lists.{Distinct}
use Rattle.path.specs.Geometry.{Granule}
use Rattle.model.specs.Answers.{Mapping, Pool}
use Rattle.model.specs.Listing.{list_w, Pages, Climbing}
use Rattle.model.specs.Ledger.{Ledger, sorted, list_l}

-- the promise, for a pool p, the ledger A that it holds, and pages of any lengths ks
pub record Paged (G : Granule) (p : Pool) (A : Ledger) (ks : List ℕ) : Type 0 where
  -- in the ledger's order every live mapping stands, and nothing else, each once, and the bases rise
  pub all : (m : Mapping) → Memᴰ m (sorted A.live) ↔ Memᴰ m A.live
  pub once : Distinct (sorted A.live)
  pub rise : Climbing 0 (sorted A.live)
  -- the pages list them in that order
  pub words : Pages G (λ a k. list_w G p a k k) (sorted A.live) ks
  pub ledger : Pages G (λ a k. list_l G A a k k) (sorted A.live) ks
