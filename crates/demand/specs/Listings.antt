-- List: on a pool that holds a ledger its answer is the ledger's, and pages list every live mapping once.
use Rattle.std.specs.Prelude.{◌≡◌, true, leb, eqb}
use Rattle.std.proofs.Math.Path.{ap}
use Rattle.std.proofs.Common.{sym, ◌∙◌, subst}
use Rattle.std.proofs.Math.Bool.{cond}
use mathlib.Core.List.{List}
use Prim.Native.Nat.{ℕ}
use Rattle.path.specs.Geometry.{Granule, Sane, space_of}
use Rattle.path.specs.Laws.{setup_good}
use Rattle.model.specs.Answers.{Mapping, Answer, refused, Pool}
use Rattle.model.specs.Calls.{good_pool}
use Rattle.model.specs.Audit.{of_pool}
use Rattle.model.specs.Adds.{sound_tree}
use Rattle.model.proofs.AddLaws.{wf_tree}
use Rattle.model.specs.Sound.{mappings_of}
use Rattle.model.specs.Ledger.{Ledger, sorted, list_l}
use Rattle.model.specs.Listing.{from_on, listed_of, list_w, Pages, Climbing}
use Rattle.model.proofs.ListingLaws.{climbing_distinct, sorted_all, sorted_is, pool_climbs, pool_pages}
use Rattle.demand.specs.Holds.{Holds}
use Rattle.demand.specs.Pages.{Paged}

module _ (G : Granule) (Z : Sane G) {p : Pool} {A : Ledger} (H : Holds G p A) where
  good : good_pool G p ≡ true
  good = setup_good H.good

  sound : sound_tree (of_pool G p) ≡ true
  sound = wf_tree G p (record { tree = H.sound.tree; once = H.sound.once })

  -- the ledger's order is that of the tree
  pub live_sorted : sorted A.live ≡ mappings_of G p
  live_sorted = sorted_is 0 A.live (mappings_of G p) H.once (pool_climbs Z p good) H.live H.listed

  pub list_alike : (start places entries : ℕ) → list_w G p start places entries ≡ list_l G A start places entries
  unfolding list_w list_l
  list_alike start places entries =
      rw (good, sound) (ap (λ (x : ℕ). told x (mappings_of G p)) H.levels_are ∙ ap (told A.levels) (sym live_sorted))
    where
      told : ℕ → List Mapping → Answer
      told levels L = cond (eqb places entries) (cond (leb (space_of G levels) start) (refused 4) (listed_of G places (from_on start L))) (refused 1)

  pub paged : (ks : List ℕ) → Paged G p A ks
  paged ks = record {
    all = sorted_all A.live;
    once = climbing_distinct 0 (sorted A.live) climbs;
    rise = climbs;
    words = words;
    ledger = subst (λ (f : ℕ → ℕ → Answer). Pages G f (sorted A.live) ks) (λ i a k. list_alike a k k i) words;
  }
    where
      climbs : Climbing 0 (sorted A.live)
      climbs = subst (Climbing 0) (sym live_sorted) (pool_climbs Z p good)

      words : Pages G (λ a k. list_w G p a k k) (sorted A.live) ks
      words = subst (λ (L : List Mapping). Pages G (λ a k. list_w G p a k k) L ks) (sym live_sorted) (pool_pages Z p good sound ks)
