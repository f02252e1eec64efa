-- tree.rs, `PTTreeNode`: what is empty, and insert, of a tree of which no more is known than upstream's `wf` asks: its entries are sound and no table is
-- reached twice. Tables may be empty, and of the free list nothing is asked but that the tables which an insert takes are none of the tree.
use Rattle.std.specs.Prelude.{◌≡◌, ◌≢◌, ◌⊎◌, ◌↔◌, Bool, true, false, cond, ltb, length}
use Rattle.std.proofs.Math.Path.{refl}
use Rattle.std.proofs.Common.{ap, sym, ◌∙◌, subst, inl, inr, ⊎_elim, arith}
use mathlib.Core.List.Memᴰ
use mathlib.Core.List.Memᴰ.{head as here}
use mathlib.Core.List.Memᴰ.{tail as there}
use mathlib.Core.List.{List, ◌∷◌, map, Memᴰ}
use Prim.Native.Nat.{ℕ, zero, suc, ◌+◌, ◌-◌, ◌*◌, ◌%◌, ◌≤◌, ◌<◌}
use Rattle.std.proofs.Math.Decide.{ℕ_discrete}
use borrow.Author.Tests.{le-ltb}
use Rattle.path.specs.Geometry.{Granule, entries, size_at, height_of, Sane}
use Rattle.path.specs.Areas.{Area, area_of, total}
use Rattle.path.specs.Numbers.{GoodSetup}
use Rattle.path.specs.Laws.{size_rises, good_setup_lem}
use Rattle.path.specs.Paths.{path_of, index_at, base_at}
use Rattle.path.specs.PathLaws.{index_below, path_of_at}
use Rattle.entry.specs.Words.{entry_at, says_empty}
use Rattle.entry.proofs.Laws.{entry_zero}
use Rattle.entry.specs.declared.Entry.{Entry}
use Rattle.entry.specs.declared.Entry.TheVariants.{Empty, Table, Frame, Damaged}
use Rattle.model.specs.Answers as answers
use Rattle.model.specs.Answers.{took, gave, refused, hole, Pool, Done, done, refuse}
use Rattle.model.specs.declared.Walked.{Walked}
use Rattle.model.specs.Walk.{at_height}
use Rattle.model.specs.Descent.{StopsAt, at_root}
use Rattle.model.proofs.DescentLaws.{stops_empty}
use Rattle.model.specs.Writes.{may_take}
use Rattle.model.specs.Calls.{good_pool, walk_to, written, map_tests, map_here, map_at, map_w, unmap_at, unmap_w}
use Rattle.model.proofs.AuditLaws.{empty_root}
use Rattle.model.specs.Sound.{EmptyTable, SoundEntry, SoundTable, word_at, reached_of}
use Rattle.model.specs.Ledger.{with_live}
use Rattle.tree.specs.Region.{anc}
use Rattle.tree.specs.Tree.{empty}
use Rattle.tree.specs.Inv.{Mapping}
use Rattle.tree.specs.Prune as prunes
use Rattle.tree.specs.Reach.{tabs, reached, table_reached}
use Rattle.tree.specs.Visit.{seen}
use Rattle.tree.specs.Audit.{named}
use Rattle.tree.specs.Ledger.{frame_meets, table_inside, table_meets}
use Rattle.demand.specs.Shown.{shown, pg, base_first}
use Rattle.demand.specs.Arm.{read_entry}
use Rattle.demand.specs.Memories.{read_at, place_at}
use Rattle.demand.specs.Walks.{Ended, entry_table}
use Rattle.demand.specs.Carried.{Chosen, chosen}
use Rattle.demand.specs.Holds.{WfTree, ledger_of}
use Rattle.demand.specs.Sims.{SimIf, wf_sim, sim_wf, sim_used, sim_live, sim_listed, reached_is}
use Rattle.demand.specs.Queries.{area, n, k₀, al, X, R, own, few, root_at, walk_ended, entry_empty, entry_frame}
use Rattle.demand.specs.Maps.{Fine, tests_fine, met_any, Takes, low, map_after}
use Rattle.demand.specs.Rest.{table_stands}
use Rattle.demand.specs.Demand3.{StandsFor}
use Rattle.upstream.specs.State.{MapPre, UnmapPre}
use Rattle.model.proofs.LedgerLaws.{any_overlap_lem}
use Rattle.upstream.proofs.Calls.{took_not, map_does, map_took, took_passed, unmap_gave}
use Rattle.upstream.specs.Calls.{lacking, writes_of_map}
use Rattle.upstream.proofs.Trait.{map_pre, unmap_pre}
use Rattle.upstream.proofs.Tree.{overlap_nested, path_mappings_valid}
use Rattle.upstream.specs.Tree.{InTree, Inside}
use Rattle.upstream.specs.Node.{AllNonempty, TakesNew, TreeNonempty}

-- lemma_new_implies_wf: a table of zeros is sound at every height
pub new_implies_wf : (G : Granule) (ws : List ℕ) (area : Area) (h t : ℕ) → EmptyTable G ws t → SoundTable G ws area h t
unfolding SoundTable
new_implies_wf G ws area zero t z = λ i l. subst (λ (e : Entry). SoundEntry (λ _. ⊥) e) (sym (ap (entry_at G area zero) (z i l) ∙ entry_zero G area zero)) tt
new_implies_wf G ws area (suc h) t z = λ i l. subst (λ (e : Entry). SoundEntry (λ c. SoundTable G ws area h c) e) (sym (ap (entry_at G area (suc h)) (z i l) ∙ entry_zero G area (suc h))) tt

-- the two are what their names say
pub tree_nonempty_is : (G : Granule) (p : Pool) → TreeNonempty G p ↔ (AllNonempty G p ⊎ EmptyTable G p.words 0)
tree_nonempty_is G p = (from, to)
  where
    root_only : EmptyTable G p.words 0 → (t : ℕ) → Memᴰ t (reached_of G p) → t ≡ 0
    root_only z t m =
        ⊎_elim (λ e. e) (λ n. absurd (Memᴰ.not-nil n))
        (Memᴰ.cases_cons (subst (λ (l : List ℕ). Memᴰ t l) (ap (λ (o : Rattle.model.specs.Audit.Found). o.reached) (empty_root G p.words (area_of p.numbers) (p.numbers.levels - 1) 0 z)) m))

    zeros? : (k : ℕ) → Dec ((i : ℕ) → i < k → word_at G p.words 0 i ≡ 0)
    zeros? k = prunes.bare? (λ t i. word_at G p.words t i) 0 k

    from : TreeNonempty G p → AllNonempty G p ⊎ EmptyTable G p.words 0
    from u = go (zeros? (entries G))
      where
        go : Dec (EmptyTable G p.words 0) → AllNonempty G p ⊎ EmptyTable G p.words 0
        go (yes z) = inr z
        go (no d) = inl (λ t m e. at t m e (ℕ_discrete t 0))
          where
            at : (t : ℕ) → Memᴰ t (reached_of G p) → EmptyTable G p.words t → Dec (t ≡ 0) → ⊥
            at t m e (yes z) = d (subst (λ (c : ℕ). EmptyTable G p.words c) z e)
            at t m e (no z) = u t m z e

    to : AllNonempty G p ⊎ EmptyTable G p.words 0 → TreeNonempty G p
    to (inl u) t m ne e = u t m e
    to (inr z) t m ne e = ne (root_only z t m)

-- a root with no entry holds no mapping
pub empty_no_mapping : (G : Granule) (p : Pool) → EmptyTable G p.words 0 → (k : answers.Mapping) → InTree G p k → ⊥
empty_no_mapping G p z k i =
    Memᴰ.not-nil (subst (λ (l : List answers.Mapping). Memᴰ k l) (ap (λ (o : Rattle.model.specs.Audit.Found). o.mappings) (empty_root G p.words (area_of p.numbers) (p.numbers.levels - 1) 0 z)) i)

module _ (G : Granule) (Z : Sane G) where
  -- ---- mappings below a table

  -- lemma_all_nonempty_implies_path_mappings_nonempty: in the region that a table stands for there is a mapping, which is smaller
  pub all_nonempty_implies_path_mappings_nonempty : {p : Pool} → WfTree G p → good_pool G p ≡ true → TreeNonempty G p → (t : ℕ) → Memᴰ t (reached_of G p) → t ≢ 0
      → (h : ℕ) × (a : ℕ) × StandsFor G p h a t × ((m : answers.Mapping) × InTree G p m × (m.size < size_at G h) × (base_at G m.at h ≡ a))
  all_nonempty_implies_path_mappings_nonempty {p} w good u t i d =
      ⊎_elim (λ e. absurd (d e)) below (Memᴰ.cases_cons (subst (λ (l : List ℕ). Memᴰ t l) (reached_is G Z p I.good) i))
    where
      I : SimIf G Z (Unit {0}) ⊥ p (ledger_of G p)
      I = wf_sim G Z (good_setup_lem good) w (λ _. u)

      below : Memᴰ t (tabs (seen (X G Z I) (read_at G p.words) (k₀ G Z I)))
          → (h : ℕ) × (a : ℕ) × StandsFor G p h a t × ((m : answers.Mapping) × InTree G p m × (m.size < size_at G h) × (base_at G m.at h ≡ a))
      below j =
          let (c, l, s, e) = named I.inv (k₀ G Z I) (root_at G Z I) t j in
          let (m, b, (x, y)) = table_inside I.inv tt c.h c.r (omega (arith, root_at G Z I)) s in (
            c.h,
            c.r * size_at G c.h,
            subst (λ (v : ℕ). StandsFor G p c.h (c.r * size_at G c.h) v) e (table_stands G Z I c.h c.r l s),
            (
              shown G Z m,
              subst (λ (l : List answers.Mapping). Memᴰ (shown G Z m) l) (sym I.live_is) (Memᴰ.map (shown G Z) b),
              size_rises G Z x,
              base_first G Z m c.h ∙ ap (λ (q : ℕ). q * size_at G c.h) y,
            ),
          )

  -- ---- insert

  module _ {p : Pool} (w : WfTree G p) where
    module _ (m : answers.Mapping) where
      -- the call
      abbrev mapped : Done
      mapped = map_w G p m.at m.frame m.size m.attributes

      module _ (t : ℕ) (e : mapped.answer ≡ took t) (new : TakesNew G p t) where
        pub good : GoodSetup G p.numbers p.cut (length p.words) (length p.list)
        good = good_setup_lem (took_passed G p m.at m.frame m.size m.attributes t e).0

        pub F : Fine G p.numbers.levels (area_of p.numbers) m.at m.frame m.size m.attributes
        F = tests_fine G p.numbers.levels (area_of p.numbers) m.at m.frame m.size m.attributes (took_passed G p m.at m.frame m.size m.attributes t e).1

        abbrev pub went : Walked
        went = walk_to G p (height_of G m.size) m.at

        -- the tree after it, with entries in its tables where there were
        module _ {C : Type 0} (used : C → TreeNonempty G p) where
          abbrev pub I : SimIf G Z C ⊥ p (ledger_of G p)
          I = wf_sim G Z good w used

          pub vacant : I.S went.left (anc (entries G) went.left (pg G Z m.at)) ≡ empty
          vacant = entry_empty _ _ (ap read_entry (sym (map_took G p m.at m.frame m.size m.attributes t e).0)
              ∙ (walk_ended G Z I (height_of G m.size) m.at (low G Z I m.at m.frame m.size m.attributes F) F.start_in).ends.says_is)

          pub room : lacking G p m.at m.size ≤ p.numbers.free
          room = let (_, a, b, _) = map_took G p m.at m.frame m.size m.attributes t e in omega arith

          pub takes : Takes G Z I m.at m.frame m.size m.attributes F vacant room
          takes = record {
            each = λ i l j. (N.low i l j, λ h r s q. unreached i l j (Memᴰ.cast (sym q) (table_reached I.inv (k₀ G Z I) (root_at G Z I) h r s)));
            once = N.once;
          }
            where
              N : Chosen G Z (area_of p.numbers) p.numbers.levels good.numbers.placed p.list went.tables p.numbers.free (lacking G p m.at m.size)
              N = chosen G Z (area_of p.numbers) p.numbers.levels good.numbers.placed p.list (lacking G p m.at m.size) p.numbers.free went.tables room
                  (took_passed G p m.at m.frame m.size m.attributes t e).2

              unreached : (i : ℕ) → i < p.numbers.free → p.numbers.free ≤ i + lacking G p m.at m.size
                  → Memᴰ (place_at p.list i) (reached (X G Z I) (read_at G p.words) (k₀ G Z I)) → ⊥
              unreached i l j n = new i l (let (_, a, _, _) = map_took G p m.at m.frame m.size m.attributes t e in omega arith)
                  (subst (λ (x : List ℕ). Memᴰ (place_at p.list i) x) (sym (reached_is G Z p I.good)) n)

          inserted : SimIf G Z C ⊥ mapped.after (with_live (own G Z I) (m ∷ map (shown G Z) I.L))
          inserted = subst (λ (q : Pool). SimIf G Z C ⊥ q (with_live (own G Z I) (m ∷ map (shown G Z) I.L))) (sym after_is)
              (map_after G Z I m.at m.frame m.size m.attributes F vacant room takes)
            where
              after_is : mapped.after ≡ written G p (writes_of_map G p m.at m.frame m.size m.attributes) (p.numbers.free - lacking G p m.at m.size)
              after_is = let (_, a, _, b) = map_took G p m.at m.frame m.size m.attributes t e in
                  b ∙ ap (λ (c : ℕ). written G p (writes_of_map G p m.at m.frame m.size m.attributes) (p.numbers.free - c)) a

        abbrev I₀ : SimIf G Z ⊥ ⊥ p (ledger_of G p)
        I₀ = I {C = ⊥} (λ c. absurd c)

        abbrev after₀ : SimIf G Z ⊥ ⊥ mapped.after (with_live (own G Z I₀) (m ∷ map (shown G Z) I₀.L))
        after₀ = inserted {C = ⊥} (λ c. absurd c)

        -- lemma_insert_adds_path_mapping
        pub insert_adds_path_mapping : (k : answers.Mapping) → InTree G mapped.after k ↔ ((k ≡ m) ⊎ InTree G p k)
        insert_adds_path_mapping k = (
          λ i. ⊎_elim (λ q. inl q) (λ j. inr (subst (λ (l : List answers.Mapping). Memᴰ k l) (sym I₀.live_is) j)) (Memᴰ.cases_cons (sim_listed G Z after₀ k i)),
          ⊎_elim (λ q. sim_live G Z after₀ k (here q)) (λ i. sim_live G Z after₀ k (there (subst (λ (l : List answers.Mapping). Memᴰ k l) I₀.live_is i))),
        )

        -- lemma_path_mappings_after_insertion_contains_new_mapping
        pub path_mappings_after_insertion_contains_new_mapping : InTree G mapped.after m
        path_mappings_after_insertion_contains_new_mapping = (insert_adds_path_mapping m).1 (inl refl)

        -- lemma_insert_not_affect_other_mappings
        pub insert_not_affect_other_mappings : (k : answers.Mapping) → InTree G mapped.after k → (k ≡ m) ⊎ InTree G p k
        insert_not_affect_other_mappings k i = (insert_adds_path_mapping k).0 i

        insert_wf : WfTree G mapped.after
        insert_wf = sim_wf G Z after₀

        -- lemma_insert_preserves_all_nonempty: the root has an entry too, since there is a mapping
        pub insert_preserves_all_nonempty : TreeNonempty G p → AllNonempty G mapped.after
        insert_preserves_all_nonempty u =
            ⊎_elim (λ a. a) (λ z. absurd (empty_no_mapping G mapped.after z m path_mappings_after_insertion_contains_new_mapping))
            ((tree_nonempty_is G mapped.after).0 (sim_used G Z (inserted {C = Unit {0}} (λ _. u)) tt))

      -- lemma_insert_preserves_wf: whatever is answered
      pub insert_preserves_wf : ((t : ℕ) → mapped.answer ≡ took t → TakesNew G p t) → WfTree G mapped.after
      insert_preserves_wf new =
          ⊎_elim (λ (_, q). subst (λ (x : Pool). WfTree G x) (sym (ap (λ (d : Done). d.after) q)) w)
          (λ (_, _, q). let e = ap (λ (d : Done). d.answer) q in insert_wf (lacking G p m.at m.size) e (new (lacking G p m.at m.size) e))
          (map_does G p m.at m.frame m.size m.attributes)

      -- lemma_path_mappings_after_insertion_is_superset: whatever is answered
      pub path_mappings_after_insertion_is_superset : ((t : ℕ) → mapped.answer ≡ took t → TakesNew G p t) → (k : answers.Mapping) → InTree G p k → InTree G mapped.after k
      path_mappings_after_insertion_is_superset new k i =
          ⊎_elim (λ (_, q). subst (λ (x : Pool). InTree G x k) (sym (ap (λ (d : Done). d.after) q)) i)
          (λ (_, _, q). let e = ap (λ (d : Done). d.answer) q in (insert_adds_path_mapping (lacking G p m.at m.size) e (new (lacking G p m.at m.size) e) k).1 (inr i))
          (map_does G p m.at m.frame m.size m.attributes)

      module _ (good : good_pool G p ≡ true) (ok : MapPre G (ledger_of G p) m) where
        tests : map_tests G p.numbers.levels (area_of p.numbers) m.at m.frame m.size m.attributes ≡ 0
        tests = (map_pre G Z (ledger_of G p) (good_setup_lem good).numbers.enough (good_setup_lem good).numbers.not_more m).1 ok

        -- lemma_insert_fails_implies_prefix
        pub insert_fails_implies_prefix : TreeNonempty G p → mapped.answer ≡ refused 6
            → (k : answers.Mapping) × InTree G p k × (Inside k.at k.size m.at m.size ⊎ Inside m.at m.size k.at k.size)
        unfolding map_w map_at map_here
        insert_fails_implies_prefix u e = by o₁.entry refl (rw (good, tests) at e)
          where
            J : SimIf G Z (Unit {0}) ⊥ p (ledger_of G p)
            J = wf_sim G Z (good_setup_lem good) w (λ _. u)

            g : ℕ
            g = height_of G m.size

            o₁ : Walked
            o₁ = walk_to G p g m.at

            Found : Type 0
            Found = (k : answers.Mapping) × InTree G p k × (Inside k.at k.size m.at m.size ⊎ Inside m.at m.size k.at k.size)

            F₁ : Fine G p.numbers.levels (area_of p.numbers) m.at m.frame m.size m.attributes
            F₁ = tests_fine G p.numbers.levels (area_of p.numbers) m.at m.frame m.size m.attributes tests

            E : Ended G Z (area G Z J) p.numbers.levels (al G Z J) (few G Z J) p.words (R G Z J) m.at g (k₀ G Z J) o₁
            E = walk_ended G Z J g m.at (low G Z J m.at m.frame m.size m.attributes F₁) F₁.start_in

            met : (x : Mapping) × Memᴰ x J.L × Rattle.tree.specs.Ledger.Meets (entries G) g (pg G Z m.at) x → Found
            met x =
                let (k, i, v) = (any_overlap_lem m.at m.size (map (shown G Z) J.L)).0 (met_any G Z J m.at m.frame m.size m.attributes F₁ x) in
                let j = subst (λ (l : List answers.Mapping). Memᴰ k l) (sym J.live_is) i in
                (k, j, overlap_nested G Z (path_mappings_valid G Z p good k j) ok.mappable v)

            by : (n : Entry) → o₁.entry ≡ n → (map_at G p m.at m.frame g m.attributes o₁ n).answer ≡ refused 6 → Found
            by (Frame b x) q e = met (frame_meets (R G Z J) J.inv.holds E.ends (low G Z J m.at m.frame m.size m.attributes F₁) (b + x)
                (entry_frame _ _ (b + x) (ap read_entry (sym q) ∙ E.ends.says_is)))
            by (Table c) q e = met (table_meets J.inv tt E.ends (entry_table _ _ c (ap read_entry (sym q) ∙ E.ends.says_is)).0)
            by Damaged q e = let z : ◌≡◌ {A = ℕ} 6 8 = cc in absurd (omega arith)
            by Empty q e = at (ltb p.numbers.free (o₁.left - g)) (may_take p.list (total (area_of p.numbers)) o₁.tables p.numbers.free (o₁.left - g)) e
              where
                at : (x y : Bool) → (cond x (refuse 7 p) (cond y (done (took (o₁.left - g)) (written G p (writes_of_map G p m.at m.frame m.size m.attributes) (p.numbers.free - (o₁.left - g)))) (refuse 8 p))).answer ≡ refused 6 → Found
                at true y e = let z : ◌≡◌ {A = ℕ} 6 7 = cc in absurd (omega arith)
                at false true e = absurd (took_not e)
                at false false e = let z : ◌≡◌ {A = ℕ} 6 8 = cc in absurd (omega arith)

  -- ---- what a success tells, and insert and remove of an empty tree: whatever the words

  module _ (p : Pool) where
    -- lemma_insert_ok_implies_visit_reaches_empty
    pub insert_ok_implies_visit_reaches_empty : (a b size k t : ℕ) → (map_w G p a b size k).answer ≡ took t → (walk_to G p (height_of G size) a).entry ≡ Empty
    insert_ok_implies_visit_reaches_empty a b size k t e = (map_took G p a b size k t e).0

    -- lemma_remove_ok_implies_visit_reaches_frame
    pub remove_ok_implies_visit_reaches_frame : (a b s x t : ℕ) → (unmap_w G p a).answer ≡ gave b s x t
        → ((walk_to G p 0 a).entry ≡ Frame b x) × (s ≡ size_at G (walk_to G p 0 a).left) × (a % size_at G (walk_to G p 0 a).left ≡ 0)
    remove_ok_implies_visit_reaches_frame a b s x t e = let (u, v, w, _, _) = unmap_gave G p a b s x t e in (u, v, w)

  module _ (p : Pool) (good : good_pool G p ≡ true) where
    -- from a root with no entry a walk ends at once, at the root's level
    pub empty_visits_empty : EmptyTable G p.words 0 → (g a : ℕ) → StopsAt G p a g Empty (p.numbers.levels - 1)
    unfolding index_at
    empty_visits_empty z g a = stops_empty Z p good a g at_root (says_empty (z (at_height (path_of G a) top) (subst (λ (i : ℕ). i < entries G) (sym (path_of_at G a {h = top} low)) (index_below G a top))))
      where
        top : ℕ
        top = p.numbers.levels - 1

        low : top < 4
        low = omega (arith, (good_setup_lem good).numbers.enough, (good_setup_lem good).numbers.not_more, Z.most_four)

    module _ (m : answers.Mapping) (ok : MapPre G (ledger_of G p) m) where
      -- the tables that it would take may be taken: refusals 7, and 8 for the free list, are not given
      pub record Room : Type 0 where
        pub enough : lacking G p m.at m.size ≤ p.numbers.free
        pub may : may_take p.list (total (area_of p.numbers)) (walk_to G p (height_of G m.size) m.at).tables p.numbers.free (lacking G p m.at m.size) ≡ true

      -- lemma_empty_entry_implies_insert_ok
      pub empty_entry_implies_insert_ok : Room → (walk_to G p (height_of G m.size) m.at).entry ≡ Empty
          → (map_w G p m.at m.frame m.size m.attributes).answer ≡ took (lacking G p m.at m.size)
      unfolding map_w map_at map_here
      empty_entry_implies_insert_ok r e =
          rw (good, (map_pre G Z (ledger_of G p) (good_setup_lem good).numbers.enough (good_setup_lem good).numbers.not_more m).1 ok, e, le-ltb p.numbers.free (lacking G p m.at m.size) r.enough, r.may)

      -- lemma_empty_implies_insert_ok
      pub empty_implies_insert_ok : Room → EmptyTable G p.words 0 → (map_w G p m.at m.frame m.size m.attributes).answer ≡ took (lacking G p m.at m.size)
      empty_implies_insert_ok r z = empty_entry_implies_insert_ok r (empty_visits_empty z (height_of G m.size) m.at).0

    -- lemma_empty_implies_remove_fail: 9, with the region of the root's entry
    pub empty_implies_remove_fail : (a : ℕ) → UnmapPre G (ledger_of G p) a → EmptyTable G p.words 0
        → unmap_w G p a ≡ done (hole (base_at G a (p.numbers.levels - 1)) (size_at G (p.numbers.levels - 1))) p
    unfolding unmap_w unmap_at
    empty_implies_remove_fail a pre z =
        let (e, l) = empty_visits_empty z 0 a in
        rw (good, (unmap_pre G Z (ledger_of G p) a).1 pre, e) (ap (λ (h : ℕ). done (hole (base_at G a h) (size_at G h)) p) l)
