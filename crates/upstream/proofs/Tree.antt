-- tree.rs. The mappings in the words of any pool; and `PTTreeModel`, whose map, unmap and query are ours: when each succeeds, and what it does to the
-- mappings of a pool p that holds a ledger A.
use Rattle.std.proofs.Math.Path.{◌≡◌, refl, ap}
use Rattle.std.proofs.Common.{sym, ◌∙◌, subst, subst₂, inl, inr, arith, ltb-true, ltb-false, eqb-true}
use Rattle.std.specs.Prelude.{◌≢◌, ◌⊎◌, ◌↔◌, Bool, ℕ, ◌+◌, ◌-◌, ◌%◌, ◌≤◌, ◌<◌, ltb, leb, eqb, take}
use Rattle.std.proofs.Math.Bool.{true, false, cond}
use Rattle.std.proofs.lemmas.Bool.{false≢true, eqb-false}
use Rattle.std.proofs.Math.Option.{Option, some, none}
use Rattle.std.proofs.Math.Decide.{dec_le}
use Rattle.path.specs.Geometry.{Granule, size_at, space_of, Sane}
use Rattle.path.specs.Laws.{size_zero, space_some, good_setup_lem}
use Rattle.path.specs.Areas.{Area}
use Rattle.path.specs.Paths.{indices, base_at}
use Rattle.path.specs.PrefixLaws.{prefix_same}
use Rattle.path.specs.RegionLaws.{aligned_down, Placed, nested, lower, higher, nested_or_apart, region_base, aligned_base, base_le, base_end}
use Rattle.model.specs.Answers.{Mapping, mapping, took, gave, found, refused, Pool, Done}
use Rattle.model.specs.Calls.{good_pool, map_tests, map_w, unmap_tests, unmap_w, query_w}
use Rattle.model.proofs.Unique.{found_same}
use Rattle.model.specs.Ledger.{Ledger, any_overlap, cover_of, tables_lacking, free_tables, map_l, unmap_l, query_of, query_l}
use Rattle.demand.specs.Holds.{Holds}
use Rattle.demand.specs.Demand3.{map_c, unmap_c, query_c}
use Rattle.demand.specs.Theorem.{step_holds}
use Rattle.upstream.specs.State.{Has, StartsAt, Overlap, Within, OverlapsVmem, FrameSize, Mappable, MapPre, Wf, Maps, UnmapPre, Unmaps}
use Rattle.upstream.proofs.Calls.{took_not, gave_not, took_passed, gave_passed}
use Rattle.model.proofs.LedgerLaws.{any_overlap_lem, cover_some, cover_none}
use Rattle.upstream.proofs.Trait.{map_pre, unmap_pre, ends_in, some_size, one_for, first_within, words_wf, invariants_implies_wf, levels_low, levels_high, map_refinement, unmap_refinement, query_refinement}
use Rattle.upstream.specs.Tree.{InTree, Inside}

module _ (G : Granule) (Z : Sane G) where
  -- of two mappings that share a byte, one lies within the other
  pub overlap_nested : {levels : ℕ} {m k : Mapping} → Mappable G levels m → Mappable G levels k → Overlap m.at m.size k.at k.size
      → Inside m.at m.size k.at k.size ⊎ Inside k.at k.size m.at m.size
  overlap_nested {m = m} {k = k} x y (o, q) = go x.valid.sized y.valid.sized
    where
      within : {a b h j : ℕ} → h ≤ j → a % size_at G h ≡ 0 → b % size_at G j ≡ 0 → a < b + size_at G j → b < a + size_at G h → Inside a (size_at G h) b (size_at G j)
      within {a} {b} {h} {j} l d e u v = at (nested_or_apart G l a b d e)
        where
          at : Placed a (size_at G h) b (size_at G j) → Inside a (size_at G h) b (size_at G j)
          at (nested c d) = (c, d)
          at (lower c) = absurd (omega arith)
          at (higher c) = absurd (omega arith)

      go : FrameSize G m.size → FrameSize G k.size → Inside m.at m.size k.at k.size ⊎ Inside k.at k.size m.at m.size
      go (h, _, e) (j, _, f) = by (dec_le h j)
        where
          by : Dec (h ≤ j) → Inside m.at m.size k.at k.size ⊎ Inside k.at k.size m.at m.size
          by (yes l) = inl (rw (← e, ← f) (within l (rw e x.valid.aligned) (rw f y.valid.aligned) (rw f o) (rw e q)))
          by (no l) = inr (rw (← e, ← f) (within {h = j} {j = h} (omega arith) (rw f y.valid.aligned) (rw e x.valid.aligned) (rw e q) (rw f o)))

  -- ---- path_mappings, of any pool with good numbers

  module _ (p : Pool) (good : good_pool G p ≡ true) where
    -- lemma_path_mappings_valid
    pub path_mappings_valid : (m : Mapping) → InTree G p m → Mappable G p.numbers.levels m
    path_mappings_valid m i = (words_wf G Z p good).each m i

    -- lemma_path_mappings_nonoverlap_in_vmem
    pub path_mappings_nonoverlap_in_vmem : (m k : Mapping) → InTree G p m → InTree G p k → Overlap m.at m.size k.at k.size → m ≡ k
    path_mappings_nonoverlap_in_vmem m k i j = (words_wf G Z p good).apart m k i j

    -- lemma_path_mappings_has_at_most_one_path_for_vbase
    pub path_mappings_has_at_most_one_path_for_vbase : (m k : Mapping) → InTree G p m → InTree G p k → m.at ≡ k.at → m ≡ k
    path_mappings_has_at_most_one_path_for_vbase m k i j e =
        path_mappings_nonoverlap_in_vmem m k i j (omega (arith, some_size G Z (path_mappings_valid k j)), omega (arith, some_size G Z (path_mappings_valid m i)))

    -- lemma_path_mappings_nonprefix: k has a path of n indices; a mapping whose address has the same first n indices is k
    pub path_mappings_nonprefix : (m k : Mapping) → InTree G p m → InTree G p k → (n h : ℕ) → n + h ≡ p.numbers.levels → size_at G h ≡ k.size
        → take n (indices G m.at (n + h)) ≡ take n (indices G k.at (n + h)) → m ≡ k
    path_mappings_nonprefix m k i j n h l s e =
        path_mappings_nonoverlap_in_vmem m k i j
        (omega (arith, base, base_end G m.at h), omega (arith, base, base_le G m.at h, some_size G Z (path_mappings_valid m i)))
      where
        low : (x : Mapping) → InTree G p x → x.at < size_at G (n + h)
        low x i =
            let N = (good_setup_lem good).numbers in
            subst (λ (z : ℕ). x.at < z) (space_some G N.enough N.not_more ∙ ap (size_at G) (sym l)) (path_mappings_valid x i).valid.in_space

        base : base_at G m.at h ≡ k.at
        base = region_base G m.at k.at h ((prefix_same G m.at k.at n h (low m i) (low k j)).0 e) ∙ aligned_base G k.at h (rw s (path_mappings_valid k j).valid.aligned)

  -- ---- pools that hold a ledger

  module _ {p : Pool} {A : Ledger} (H : Holds G p A) where
    abbrev W : Wf G A
    W = invariants_implies_wf G Z H

    -- lemma_mappings_consistent_with_path_mappings
    pub mappings_consistent_with_path_mappings : (m : Mapping) → InTree G p m ↔ Has A m
    mappings_consistent_with_path_mappings m = (H.listed m, H.live m)

    -- ---- map

    module _ (m : Mapping) where
      -- the call, and the ledger after it
      abbrev mapped : Done
      mapped = map_w G p m.at m.frame m.size m.attributes

      abbrev next : Ledger
      next = (map_l G A m.at m.frame m.size m.attributes).after

      abbrev need : ℕ
      need = tables_lacking G A.levels A.live m

      -- map_preserves_wf: whatever is asked, and whatever is answered
      pub map_preserves_wf : Holds G mapped.after next
      map_preserves_wf = (step_holds G Z H (map_c m.at m.frame m.size m.attributes)).1

      -- what succeeds was well-formed
      pub map_ok_implies_map_pre : (t : ℕ) → mapped.answer ≡ took t → MapPre G A m
      map_ok_implies_map_pre t e = (map_pre G Z A (levels_low G Z H) (levels_high G Z H) m).0
          (subst₂ (λ (l : ℕ) (r : Area). map_tests G l r m.at m.frame m.size m.attributes ≡ 0) H.levels_are H.area_is (took_passed G p m.at m.frame m.size m.attributes t e).1)

      module _ (ok : MapPre G A m) where
        abbrev says : Maps G A next m mapped.answer
        says = map_refinement G Z H m ok map_preserves_wf

        -- lemma_nonoverlap_implies_map_ok, where refusal 7 is not given
        pub nonoverlap_implies_map_ok : (OverlapsVmem A m.at m.size → ⊥) → need ≤ free_tables G A → mapped.answer ≡ took need
        nonoverlap_implies_map_ok n l = (says.inserts n l).0

        -- refusal 7 is given exactly where nothing overlaps and tables lack
        pub map_lacks : (mapped.answer ≡ refused 7) ↔ ((OverlapsVmem A m.at m.size → ⊥) × (free_tables G A < need))
        map_lacks = (λ e. go (ltb (free_tables G A) need) refl e, λ (n, l). (says.lacks n l).0)
          where
            away : mapped.answer ≡ refused 7 → OverlapsVmem A m.at m.size → ⊥
            away e o = let q = (says.overlap o).0 in let z : ◌≡◌ {A = ℕ} 6 7 = cc in omega arith

            go : (y : Bool) → ltb (free_tables G A) need ≡ y → mapped.answer ≡ refused 7 → (OverlapsVmem A m.at m.size → ⊥) × (free_tables G A < need)
            go true q e = (away e, ltb-true _ _ q)
            go false q e = absurd (took_not (sym (says.inserts (away e) (ltb-false _ _ q)).0 ∙ e))

        -- refusal 6 exactly where something overlaps
        pub map_overlaps : (mapped.answer ≡ refused 6) ↔ OverlapsVmem A m.at m.size
        map_overlaps = (λ e. go (any_overlap m.at m.size A.live) refl (ltb (free_tables G A) need) refl e, λ o. (says.overlap o).0)
          where
            go : (x : Bool) → any_overlap m.at m.size A.live ≡ x → (y : Bool) → ltb (free_tables G A) need ≡ y → mapped.answer ≡ refused 6 → OverlapsVmem A m.at m.size
            go true q y r e = (any_overlap_lem m.at m.size A.live).0 q
            go false q y r e = absurd (more y r)
              where
                away : OverlapsVmem A m.at m.size → ⊥
                away o = false≢true (sym q ∙ (any_overlap_lem m.at m.size A.live).1 o)

                more : (y : Bool) → ltb (free_tables G A) need ≡ y → ⊥
                more true r = let s = (says.lacks away (ltb-true _ _ r)).0 in let z : ◌≡◌ {A = ℕ} 6 7 = cc in omega arith
                more false r = took_not (sym (says.inserts away (ltb-false _ _ r)).0 ∙ e)

      module _ (t : ℕ) (e : mapped.answer ≡ took t) where
        abbrev done_says : Maps G A next m mapped.answer
        done_says = says (map_ok_implies_map_pre t e)

        -- lemma_map_ok_implies_nonoverlap
        pub map_ok_implies_nonoverlap : OverlapsVmem A m.at m.size → ⊥
        map_ok_implies_nonoverlap o = took_not (sym e ∙ (done_says.overlap o).0)

        -- and there were tables enough: what it answers is what was lacking
        pub map_ok_implies_room : (need ≤ free_tables G A) × (t ≡ need)
        map_ok_implies_room = go (ltb (free_tables G A) need) refl
          where
            go : (y : Bool) → ltb (free_tables G A) need ≡ y → (need ≤ free_tables G A) × (t ≡ need)
            go true q = absurd (took_not (sym e ∙ (done_says.lacks map_ok_implies_nonoverlap (ltb-true _ _ q)).0))
            go false q = let r = (done_says.inserts map_ok_implies_nonoverlap (ltb-false _ _ q)).0 in (ltb-false _ _ q, cc)

        -- lemma_map_adds_mapping: of any ledger that the pool then holds
        pub map_adds_mapping : {B : Ledger} → Holds G mapped.after B → (k : Mapping) → Has B k ↔ ((k ≡ m) ⊎ Has A k)
        map_adds_mapping H' = ((map_refinement G Z H m (map_ok_implies_map_pre t e) H').inserts map_ok_implies_nonoverlap map_ok_implies_room.0).1

        -- lemma_map_ok_implies_vbase_nonexist
        pub map_ok_implies_vbase_nonexist : StartsAt A m.at → ⊥
        map_ok_implies_vbase_nonexist (k, i, q) =
            map_ok_implies_nonoverlap (k, i, (omega (arith, some_size G Z (map_ok_implies_map_pre t e).mappable), omega (arith, some_size G Z (W.each k i))))

    -- ---- unmap

    module _ (a : ℕ) where
      -- the call, and the ledger after it
      abbrev unmapped : Done
      unmapped = unmap_w G p a

      abbrev rest : Ledger
      rest = (unmap_l G A a).after

      -- unmap_preserves_wf: whatever is asked, and whatever is answered
      pub unmap_preserves_wf : Holds G unmapped.after rest
      unmap_preserves_wf = (step_holds G Z H (unmap_c a)).1

      -- the address of a mapping is in the space, and a multiple of the page
      starts_pre : (k : Mapping) → Has A k → k.at ≡ a → UnmapPre G A a
      starts_pre k i e =
          let ok = W.each k i in
          let (h, _, s) = ok.valid.sized in
          record {
            in_space = rw (← e) ok.valid.in_space;
            aligned = rw (← e, ← size_zero G) (aligned_down G {j = 0} {h = h} (omega arith) k.at (rw s ok.valid.aligned));
          }

      -- lemma_vbase_exist_implies_unmap_ok: it answers that mapping's frame, and the tables that the rest does not need
      pub vbase_exist_implies_unmap_ok : (k : Mapping) → Has A k → k.at ≡ a → unmapped.answer ≡ gave k.frame k.size k.attributes (free_tables G rest - free_tables G A)
      vbase_exist_implies_unmap_ok k i e = ((unmap_refinement G Z H a (starts_pre k i e) unmap_preserves_wf).removes k i e).0

      module _ (b s x t : ℕ) (e : unmapped.answer ≡ gave b s x t) where
        -- what succeeds was in the space and at a page
        pub unmap_ok_implies_unmap_pre : UnmapPre G A a
        unmap_ok_implies_unmap_pre = (unmap_pre G Z A a).0 (subst (λ (l : ℕ). unmap_tests G l a ≡ 0) H.levels_are (gave_passed G p a b s x t e).1)

        abbrev gave_says : Unmaps G A rest a unmapped.answer
        gave_says = unmap_refinement G Z H a unmap_ok_implies_unmap_pre unmap_preserves_wf

        -- lemma_unmap_ok_implies_vbase_exist: a mapping was there, and what is answered is its frame
        pub unmap_ok_implies_vbase_exist : Has A (mapping a b s x)
        unmap_ok_implies_vbase_exist = go (cover_of a A.live) refl
          where
            at : (k : Mapping) → Has A k → Within a k → (y : Bool) → eqb k.at a ≡ y → Has A (mapping a b s x)
            at k i h true q =
                let r = (gave_says.removes k i (eqb-true _ _ q)).0 in
                let z = eqb-true k.at a q in
                let u : k.frame ≡ b = cc in
                let v : k.size ≡ s = cc in
                let w : k.attributes ≡ x = cc in
                subst (λ (m : Mapping). Has A m) (λ j. mapping (z j) (u j) (v j) (w j)) i
            at k i h false q =
                let away : StartsAt A a → ⊥ = λ (l, j, z). eqb-false _ _ q (ap (λ (m : Mapping). m.at) (one_for G Z W a k l i j h (first_within G Z W a l j z)) ∙ z) in
                absurd (gave_not (sym e ∙ (gave_says.inside away (k, i, h)).0))

            go : (c : Option Mapping) → cover_of a A.live ≡ c → Has A (mapping a b s x)
            go none q = absurd (gave_not (sym e ∙ (gave_says.nothing (λ (k, i, h). cover_none a A.live q k i h)).0))
            go (some k) q = let (i, h) = cover_some a A.live k q in at k i h (eqb k.at a) refl

        -- lemma_unmap_removes_mapping: of any ledger that the pool then holds
        pub unmap_removes_mapping : {B : Ledger} → Holds G unmapped.after B → (k : Mapping) → Has B k ↔ (Has A k × (k.at ≢ a))
        unmap_removes_mapping H' = ((unmap_refinement G Z H a unmap_ok_implies_unmap_pre H').removes (mapping a b s x) unmap_ok_implies_vbase_exist refl).1

    -- ---- query

    -- lemma_mapping_exist_implies_query_ok
    pub mapping_exist_implies_query_ok : (a : ℕ) (k : Mapping) → Has A k → Within a k → query_w G p a ≡ found k
    mapping_exist_implies_query_ok a k i (l, h) = (query_refinement G Z H a (omega (arith, ends))).finds k i (l, h)
      where
        ends : k.at + k.size ≤ space_of G A.levels
        ends = ends_in G Z (levels_low G Z H) (levels_high G Z H) k (W.each k i)

    -- lemma_query_ok_implies_mapping_exist
    pub query_ok_implies_mapping_exist : (a : ℕ) (k : Mapping) → query_w G p a ≡ found k → Has A k × Within a k
    unfolding query_l
    query_ok_implies_mapping_exist a k e = go (leb (space_of G A.levels) a) (cover_of a A.live) refl (sym (step_holds G Z H (query_c a)).0 ∙ e)
      where
        go : (y : Bool) (c : Option Mapping) → cover_of a A.live ≡ c → cond y (refused 4) (query_of G A a c) ≡ found k → Has A k × Within a k
        go true c q e = let z : ◌≡◌ {A = ℕ} 0 1 = cc in absurd (omega arith)
        go false none q e = let z : ◌≡◌ {A = ℕ} 0 1 = cc in absurd (omega arith)
        go false (some m) q e = let z = found_same m k e in cover_some a A.live k (q ∙ ap some z)
