-- Format and audit: a fresh pool holds the empty ledger, and the audit's answer on a pool that holds a ledger is the ledger's.
use Rattle.std.specs.Prelude.{◌≡◌, refl, get_or, replicate}
use Rattle.std.proofs.Math.Path.{ap, sym}
use Rattle.std.proofs.Common.{◌∙◌, subst, arith}
use mathlib.Core.List.Memᴰ
use mathlib.Core.List.{List, [], map}
use Prim.Native.Nat.{ℕ, suc, ◌-◌, ◌<◌}
use Rattle.std.proofs.Math.ListN.{length}
use Rattle.std.proofs.lemmas.List.{length-replicate, length-map}
use Rattle.laws.specs.Lists.{down}
use Rattle.laws.specs.ListLaws.{length_down, get_d_down, all_zero_at, all_zero_replicate}
use Rattle.path.specs.Geometry.{Granule, Sane}
use Rattle.path.specs.Areas.{Area, area_of, total}
use Rattle.path.specs.Numbers.{setup_of, GoodNumbers, GoodSetup}
use Rattle.path.specs.Laws.{good_setup_lem}
use Rattle.model.specs.Answers.{audited, Pool, pool}
use Rattle.model.specs.Audit.{audit_w}
use Rattle.model.specs.Sound.{SoundPool, reached_of, mappings_of}
use Rattle.model.proofs.AuditLaws.{audit_sound, audit_counts}
use Rattle.model.specs.Ledger.{Ledger, ledger, tables_needed, audit_l}
use Rattle.tree.specs.Inv.{Mapping}
use Rattle.tree.specs.Count.{Distinct, length_within, distinct_map}
use Rattle.tree.specs.Visit.{seen}
use Rattle.tree.specs.Reach.{maps, tabs_count, maps_distinct, maps_live, live_maps}
use Rattle.tree.specs.Audit.{accepted}
use Rattle.tree.specs.Fresh.{fresh}
use Rattle.demand.specs.Shown.{shown, needed_count}
use Rattle.demand.specs.Memories.{read_at, place_at}
use Rattle.demand.specs.Holds.{Holds}
use Rattle.demand.specs.Sims.{Sim, X, root_height, reached_is, mappings_are, sound_accepts, sim_holds, shown_injective}
use Rattle.demand.specs.Queries.{own, k₀, root_at, pool_good}

zero_at : (k i : ℕ) → get_or {A = ℕ} (replicate k 0) i 0 ≡ 0
zero_at k i = all_zero_at (replicate k 0) (all_zero_replicate k) i

module _ (G : Granule) (Z : Sane G) where
  -- what an accepted format leaves
  pub fresh_sim : (levels : ℕ) (area : Area) (ws : List ℕ) (cut : ℕ) (list : List ℕ) → GoodNumbers G levels area cut (length ws) (length list)
      → Sim G Z (pool (setup_of G levels area (total area - 1)) (replicate (length ws) 0) cut (down (total area))) (ledger levels area [])
  fresh_sim levels area ws cut list g = record {
    good = good;
    levels_are = refl;
    area_is = refl;
    L = [];
    live_is = refl;
    once = tt;
    T = λ _ _. 0;
    S = Rattle.tree.specs.Fresh.S₀ X₀ (levels - 1) (root_height G Z p good) some;
    outside = λ _ m i. absurd (Memᴰ.not-nil i);
    inv = fresh X₀ (levels - 1) (root_height G Z p good) some (read_at G p.words) (place_at p.list) (λ t i. zero_at (length ws) _) (λ i l. get_d_down (total area) i (omega arith));
  }
    where
      p : Pool
      p = pool (setup_of G levels area (total area - 1)) (replicate (length ws) 0) cut (down (total area))

      some : 0 < total area
      some = omega (arith, g.some_table)

      good : GoodSetup G p.numbers p.cut (length p.words) (length p.list)
      good = record {
        granule_is = refl;
        numbers = record { enough = g.enough; not_more = g.not_more; some_table = g.some_table; few = g.few; placed = g.placed; cut_is = g.cut_is; words_are = length-replicate (length ws) 0 ∙ g.words_are; places_are = length_down (total area) };
        room = omega (arith, g.some_table);
      }

      X₀ : Rattle.tree.specs.Tree.Geo
      X₀ = X G Z p good

  -- the audit's answer
  module _ {p : Pool} {A : Ledger} (I : Sim G Z p A) where
    abbrev k : ℕ
    k = k₀ G Z I

    mappings_count : length (mappings_of G p) ≡ length I.L
    mappings_count = ap length (mappings_are G Z p I.good) ∙ length-map (maps (seen (X G Z p I.good) (read_at G p.words) k)) (shown G Z) ∙ same
      where
        ms : List Mapping
        ms = maps (seen (X G Z p I.good) (read_at G p.words) k)

        same : length ms ≡ length I.L
        same = omega (arith, length_within ms I.L (maps_distinct I.inv k (root_at G Z I)) (maps_live I.inv k (root_at G Z I)), length_within I.L ms I.once (live_maps I.inv k (root_at G Z I)))

    pub audit_own : audit_w G p ≡ audit_l G (own G Z I)
    unfolding audit_l tables_needed
    audit_own = audit_sound G p (pool_good G Z I) (sim_holds G Z I).sound ∙ (λ i. audited (tables i) (mappings i))
      where
        tables : length (reached_of G p) ≡ suc (tables_needed G p.numbers.levels (map (shown G Z) I.L))
        tables = ap length (reached_is G Z p I.good) ∙ ap suc (tabs_count I.inv k (root_at G Z I) ∙ sym (needed_count G Z k I.L))

        mappings : length (mappings_of G p) ≡ length (map (shown G Z) I.L)
        mappings = mappings_count ∙ sym (length-map I.L (shown G Z))

  -- a pool that the audit accepts holds the ledger of its mappings
  pub accepted_holds : (p : Pool) (t m : ℕ) → audit_w G p ≡ audited t m → Holds G p (ledger p.numbers.levels (area_of p.numbers) (mappings_of G p))
  accepted_holds p t m e = let (g, s, _, _) = audit_counts G p t m e in from (good_setup_lem g) s
    where
      from : GoodSetup G p.numbers p.cut (length p.words) (length p.list) → SoundPool G p → Holds G p (ledger p.numbers.levels (area_of p.numbers) (mappings_of G p))
      from good s = record {
        good = good;
        levels_are = refl;
        area_is = refl;
        sound = s;
        live = λ m a. a;
        listed = λ m a. a;
        once = subst Distinct (sym (mappings_are G Z p good)) (distinct_map (shown G Z) (maps (seen (X G Z p good) (read_at G p.words) (p.numbers.levels - 1)))
            (maps_distinct (accepted (root_height G Z p good) (sound_accepts G Z p good s)) (p.numbers.levels - 1) (root_height G Z p good)) (λ a b _ _ q. shown_injective G Z a b q));
      }
