-- tree.rs, `PTTreeNode`: remove and prune, of a tree of which no more is known than upstream's `wf` asks. Unmap's first write clears the frame's entry:
-- that is remove. The writes after it unlink the tables that are left empty: that is prune, which changes no mapping.
use Rattle.std.specs.Prelude.{◌≡◌, refl, ◌≢◌, ◌⊎◌, ◌↔◌, true, length, get_or, set, take}
use Rattle.std.proofs.Common.{ap, sym, ◌∙◌, subst, inl, inr, mod-lt, mul-div_cancel, arith, length-set, get_or-set_same, get_or-set_other}
use mathlib.Core.List.Memᴰ
use mathlib.Core.List.{List, map, Memᴰ}
use Prim.Native.Nat.{ℕ, zero, suc, ◌+◌, ◌-◌, ◌*◌, ◌/◌, ◌%◌, ◌≤◌, ◌<◌}
use Rattle.std.proofs.Math.Nat.{mul-mod_left}
use Rattle.std.proofs.Math.Decide.{ℕ_discrete, dec_lt}
use Rattle.std.proofs.Math.Seq.{set_out}
use Rattle.std.proofs.lemmas.List.{set-get_or}
use Rattle.laws.specs.ListLaws.{get_d_past}
use Rattle.path.specs.Geometry.{Granule, entries, size_at, space_of, Sane}
use Rattle.path.specs.Areas.{Area, area_of, total}
use Rattle.path.specs.Numbers.{GoodSetup}
use Rattle.path.specs.Laws.{entries_pos, size_pos, size_rises, good_setup_lem}
use Rattle.path.specs.Paths.{path_of, base_at}
use Rattle.path.specs.RegionLaws.{base_is, aligned_base}
use Rattle.entry.specs.Words.{entry_at}
use Rattle.entry.proofs.Laws.{entry_zero, framed_paged}
use Rattle.entry.specs.declared.Entry.{Entry}
use Rattle.entry.specs.declared.Entry.TheVariants.{Empty, Table, Frame, Damaged}
use Rattle.model.specs.Answers as answers
use Rattle.model.specs.Answers.{gave, Pool, pool}
use Rattle.model.specs.declared.Walked.{Walked}
use Rattle.model.specs.Walk.{slot, at_height}
use Rattle.model.specs.Writes.{Memory, memory, perform_all, prune_writes, unmap_writes}
use Rattle.model.specs.Calls.{good_pool, walk_to, written, unmap_w}
use Rattle.model.specs.Sound.{SoundEntry, SoundTable, word_at}
use Rattle.model.specs.Ledger.{with_live, drop_at}
use Rattle.tree.specs.Region.{anc, Same, upd}
use Rattle.tree.specs.Tree.{Ent, empty, frame, empty≢frame, table≢frame}
use Rattle.tree.specs.Inv.{Mapping, mapping, InvIf, without, without_keeps, without_gives, clear, excuse, reword}
use Rattle.tree.specs.Prune.{LooseIf, PrunedIf, prune, prune_ok}
use Rattle.tree.specs.Prune as prunes
use Rattle.tree.specs.Ledger.{covers_from}
use Rattle.demand.specs.Shown.{shown, pg, anc_size, base_of, attrs_of}
use Rattle.demand.specs.Arm.{read_entry, payload_base, payload_attrs}
use Rattle.demand.specs.Memories.{read_at, place_at, rd_wr}
use Rattle.demand.specs.Walks.{Ended, spot, way_at, never_bad, entry_table}
use Rattle.demand.specs.Carried.{A, Cleared, clear_first, prune_carried}
use Rattle.demand.specs.Holds.{WfTree, ledger_of}
use Rattle.demand.specs.Sims.{SimIf, wf_sim, sim_wf, sim_used, sim_live, sim_listed, shown_injective}
use Rattle.demand.specs.Queries.{area, k₀, al, X, R, own, few, root_at, walk_ended, entry_empty, entry_frame}
use Rattle.demand.specs.Unmaps as unmaps
use Rattle.demand.specs.Unmaps.{distinct_without, unmap_after}
use Rattle.upstream.specs.State.{UnmapPre}
use Rattle.upstream.proofs.Facts.{drop_has}
use Rattle.upstream.proofs.Calls.{unmap_gave, gave_passed}
use Rattle.upstream.specs.Calls.{giving, writes_of_unmap}
use Rattle.upstream.proofs.Trait.{unmap_pre}
use Rattle.upstream.proofs.Tree.{path_mappings_has_at_most_one_path_for_vbase}
use Rattle.upstream.specs.Tree.{InTree}
use Rattle.upstream.specs.Node.{TreeNonempty}
use Rattle.upstream.specs.Remove.{pruned, pruned_by, removed}

-- it is what unmap's first write leaves
pub removed_first : (G : Granule) (p : Pool) (a given : ℕ)
    → perform_all G (take 1 (unmap_writes G (walk_to G p 0 a).tables (path_of G a) (walk_to G p 0 a).left p.numbers.free given)) (memory p.words p.list)
    ≡ memory (removed G p 0 a).words p.list
unfolding perform_all
removed_first G p a given = refl

-- a word that is cleared reads as 0
cleared : (ws : List ℕ) (i : ℕ) → get_or (set ws i 0) i 0 ≡ 0
cleared ws i = go (dec_lt i (length ws))
  where
    go : Dec (i < length ws) → get_or (set ws i 0) i 0 ≡ 0
    go (yes l) = get_or-set_same ws i 0 0 l
    go (no l) = ap (λ (xs : List ℕ). get_or xs i 0) (set_out ws i 0 (omega arith)) ∙ get_d_past ws i (omega arith)

-- ---- remove and prune keep the tables sound, whatever the pool and the table

module _ (G : Granule) (area : Area) where
  entry_clears : (e : Entry) (A B : ℕ → Type 0) → ((c : ℕ) → A c → B c) → SoundEntry A e → SoundEntry B e
  entry_clears Empty A B f s = tt
  entry_clears (Table c) A B f s = f c s
  entry_clears (Frame _ _) A B f s = tt
  entry_clears Damaged A B f s = s

  -- the word of a sound entry, where one word is cleared
  word_clears : (ws : List ℕ) (i h t j : ℕ) (A B : ℕ → Type 0) → ((c : ℕ) → A c → B c)
      → SoundEntry A (entry_at G area h (word_at G ws t j)) → SoundEntry B (entry_at G area h (word_at G (set ws i 0) t j))
  word_clears ws i h t j A B f s = go (ℕ_discrete (slot G t j) i)
    where
      go : Dec (slot G t j ≡ i) → SoundEntry B (entry_at G area h (word_at G (set ws i 0) t j))
      go (yes e) = subst (λ (o : Entry). SoundEntry B o) (sym (ap (entry_at G area h) (ap (λ (z : ℕ). get_or (set ws i 0) z 0) e ∙ cleared ws i) ∙ entry_zero G area h)) tt
      go (no d) = subst (λ (x : ℕ). SoundEntry B (entry_at G area h x)) (sym (get_or-set_other ws i (slot G t j) 0 0 d)) (entry_clears (entry_at G area h (word_at G ws t j)) A B f s)

  -- lemma_remove_preserves_wf: a sound table is sound where a word is cleared
  pub remove_preserves_wf : (ws : List ℕ) (i h t : ℕ) → SoundTable G ws area h t → SoundTable G (set ws i 0) area h t
  unfolding SoundTable
  remove_preserves_wf ws i zero t s = λ j l. word_clears ws i zero t j (λ _. ⊥) (λ _. ⊥) (λ c z. z) (s j l)
  remove_preserves_wf ws i (suc h) t s = λ j l. word_clears ws i (suc h) t j (λ c. SoundTable G ws area h c) (λ c. SoundTable G (set ws i 0) area h c) (λ c z. remove_preserves_wf ws i h c z) (s j l)

  -- lemma_prune_preserves_wf: after each of the writes of prune
  pub prune_preserves_wf : (way path : List ℕ) (j h f k : ℕ) (m : Memory) (top t : ℕ) → SoundTable G m.words area top t
      → SoundTable G (perform_all G (take j (prune_writes G way path h f k)) m).words area top t
  unfolding perform_all prune_writes
  prune_preserves_wf way path zero h f k m top t s = s
  prune_preserves_wf way path (suc j) h f zero m top t s = s
  prune_preserves_wf way path (suc zero) h f (suc k) m top t s = remove_preserves_wf m.words (slot G (at_height way (suc h)) (at_height path (suc h))) top t s
  prune_preserves_wf way path (suc (suc j)) h f (suc k) m top t s =
      let i = slot G (at_height way (suc h)) (at_height path (suc h)) in
      prune_preserves_wf way path j (suc h) (suc f) k (memory (set m.words i 0) (set m.list f (at_height way h))) top t (remove_preserves_wf m.words i top t s)

-- one frame has one payload
frame_same : {x y : ℕ} → frame x ≡ frame y → x ≡ y
frame_same e = cc

-- the smaller height has the smaller size
size_back : (G : Granule) → Sane G → (g h : ℕ) → size_at G g ≤ size_at G h → g ≤ h
size_back G Z g h l = go (dec_lt h g)
  where
    go : Dec (h < g) → g ≤ h
    go (yes d) = absurd (omega (arith, size_rises G Z d))
    go (no d) = omega arith

module _ (G : Granule) (Z : Sane G) where
  -- ---- remove

  module _ {p : Pool} (w : WfTree G p) (good : good_pool G p ≡ true) (g a : ℕ) (below : g ≤ p.numbers.levels - 1) (in_space : a < space_of G p.numbers.levels) where
    abbrev J : SimIf G Z ⊥ ⊥ p (ledger_of G p)
    J = wf_sim G Z (good_setup_lem good) w (λ c. absurd c)

    abbrev o : Walked
    o = walk_to G p g a

    abbrev h : ℕ
    h = o.left

    abbrev r : ℕ
    r = anc (entries G) h (pg G Z a)

    abbrev top : ℕ
    top = p.numbers.levels

    E : Ended G Z (area_of p.numbers) top J.good.numbers.placed (few G Z J) p.words (R G Z J) a g (k₀ G Z J) o
    E = walk_ended G Z J g a below in_space

    under : h < top
    under = omega (arith, E.ends.low, root_at G Z J)

    at_table : J.T (suc h) (r / entries G) ≡ at_height o.tables h
    at_table = sym (E.ends.path_is (suc h) (omega arith) under) ∙ ap (λ (j : ℕ). get_or o.tables j 0) (omega (arith, few G Z J, under))

    at_index : r % entries G ≡ at_height (path_of G a) h
    at_index = sym (spot G Z (area_of p.numbers) top J.good.numbers.placed (few G Z J) p.words (R G Z J) a h (omega (arith, few G Z J, under)))

    -- a mapping that holds the address, in the theory's terms
    in_live : (k : answers.Mapping) → InTree G p k → (m : Mapping) × Memᴰ m J.L × (shown G Z m ≡ k)
    in_live k i = Memᴰ.of_map (shown G Z) J.L (subst (λ (l : List answers.Mapping). Memᴰ k l) J.live_is i)

    live_in : (m : Mapping) → Memᴰ m J.L → InTree G p (shown G Z m)
    live_in m i = subst (λ (l : List answers.Mapping). Memᴰ (shown G Z m) l) (sym J.live_is) (Memᴰ.map (shown G Z) i)

    module _ (b x : ℕ) (ends : o.entry ≡ Frame b x) where
      -- the frame stands at the entry
      stands : J.S h r ≡ frame (b + x)
      stands = entry_frame _ _ (b + x) (ap read_entry (sym ends) ∙ E.ends.says_is)

      -- where its mapping starts
      start : r * size_at G h ≡ base_at G a h
      start = ap (λ (q : ℕ). q * size_at G h) (anc_size G Z a h) ∙ sym (base_is G a h)

      -- the tree without it
      cleared_tree : SimIf G Z ⊥ ⊥ (removed G p g a) (with_live (own G Z J) (map (shown G Z) (without h r J.L)))
      cleared_tree = record {
        good = record {
          granule_is = J.good.granule_is;
          numbers = record {
            enough = J.good.numbers.enough;
            not_more = J.good.numbers.not_more;
            some_table = J.good.numbers.some_table;
            few = J.good.numbers.few;
            cut_is = J.good.numbers.cut_is;
            placed = J.good.numbers.placed;
            words_are = length-set p.words (slot G (at_height o.tables h) (at_height (path_of G a) h)) 0 ∙ J.good.numbers.words_are;
            places_are = J.good.numbers.places_are;
          };
          room = J.good.room;
        };
        levels_are = refl;
        area_is = refl;
        L = without h r J.L;
        live_is = refl;
        once = distinct_without h r J.L J.once;
        T = upd J.T h r 0;
        S = upd J.S h r empty;
        outside = λ d. absurd d;
        inv = record { ren = after.ren; holds = after.holds; dense = λ c. absurd c; spare = λ d. absurd d };
      }
        where
          after : InvIf ⊥ ⊥ (X G Z J) (read_at G (removed G p g a).words) (place_at p.list) p.numbers.free (upd J.T h r 0) (upd J.S h r empty) (without h r J.L) (suc h) (r / entries G)
          after = reword (rw (at_table, at_index) at (clear h r (b + x) J.inv stands))
              (rd_wr G Z (area_of p.numbers) top J.good.numbers.placed p.words (at_height o.tables h) (at_height (path_of G a) h) 0 J.good.numbers.words_are
              (subst (λ (c : ℕ). c < total (area_of p.numbers)) at_table ((R G Z J).range (suc h) (r / entries G) E.ends.parent)) (subst (λ (i : ℕ). i < entries G) at_index (mod-lt r (entries_pos G)))) (λ d. absurd d)

      -- lemma_remove_preserves_wf
      pub remove_preserves_wf_tree : WfTree G (removed G p g a)
      remove_preserves_wf_tree = sim_wf G Z cleared_tree

      -- lemma_remove_removes_path_mapping: the mapping at the base of the frame that the walk ends at goes, and no other
      pub remove_removes_path_mapping : (k : answers.Mapping) → InTree G (removed G p g a) k ↔ (InTree G p k × (k.at ≢ base_at G a h))
      remove_removes_path_mapping k = (from, to)
        where
          -- what is left does not start there: the mapping that does is the one at the entry
          away : (m : Mapping) → Memᴰ m J.L → (Same h r m.h m.r → ⊥) → shown G Z m ≡ k → k.at ≢ base_at G a h
          away m u d q z =
              let mine = live_in (mapping h r (b + x)) (J.inv.holds.listed h r (b + x) stands) in
              let starts = ap (λ (y : answers.Mapping). y.at) q ∙ z ∙ sym start in
              let same = shown_injective G Z m (mapping h r (b + x)) (path_mappings_has_at_most_one_path_for_vbase G Z p good (shown G Z m) (shown G Z (mapping h r (b + x))) (live_in m u) mine starts) in
              d (ap (λ (y : Mapping). y.h) same, ap (λ (y : Mapping). y.r) same)

          from : InTree G (removed G p g a) k → InTree G p k × (k.at ≢ base_at G a h)
          from i =
              let (m, j, q) = Memᴰ.of_map (shown G Z) (without h r J.L) (sim_listed G Z cleared_tree k i) in
              let (u, d) = without_gives h r m J.L j in
              (subst (λ (y : answers.Mapping). InTree G p y) q (live_in m u), away m u d q)

          to : InTree G p k × (k.at ≢ base_at G a h) → InTree G (removed G p g a) k
          to (i, d) =
              let (m, j, q) = in_live k i in
              let other : Same h r m.h m.r → ⊥ = λ (u, v). d (ap (λ (y : answers.Mapping). y.at) (sym q) ∙ (λ i. v i * size_at G (u i)) ∙ start) in
              sim_live G Z cleared_tree k (Memᴰ.cast (sym q) (Memᴰ.map (shown G Z) (without_keeps h r m J.L j other)))

      -- lemma_path_mappings_after_removal_not_contain_mapping
      pub path_mappings_after_removal_not_contain_mapping : (k : answers.Mapping) → InTree G (removed G p g a) k → k.at ≢ base_at G a h
      path_mappings_after_removal_not_contain_mapping k i = ((remove_removes_path_mapping k).0 i).1

      -- lemma_path_mappings_after_removal_is_subset
      pub path_mappings_after_removal_is_subset : (k : answers.Mapping) → InTree G (removed G p g a) k → InTree G p k
      path_mappings_after_removal_is_subset k i = ((remove_removes_path_mapping k).0 i).0

      -- lemma_remove_not_affect_other_mappings
      pub remove_not_affect_other_mappings : (k : answers.Mapping) → InTree G p k → (k.at ≡ base_at G a h) ⊎ InTree G (removed G p g a) k
      remove_not_affect_other_mappings k i = go (ℕ_discrete k.at (base_at G a h))
        where
          go : Dec (k.at ≡ base_at G a h) → (k.at ≡ base_at G a h) ⊎ InTree G (removed G p g a) k
          go (yes q) = inl q
          go (no d) = inr ((remove_removes_path_mapping k).1 (i, d))

    -- lemma_remove_padded_prefix_ok: the walk for a mapping's address, to its height or below, ends at its frame
    pub remove_padded_prefix_ok : (k : answers.Mapping) → InTree G p k → k.at ≡ a → size_at G g ≤ k.size
        → (o.entry ≡ Frame k.frame k.attributes) × (size_at G h ≡ k.size) × (a % size_at G h ≡ 0)
    remove_padded_prefix_ok k i e l = go o.entry refl
      where
        m : Mapping
        m = (in_live k i).0

        held : Memᴰ m J.L
        held = (in_live k i).1

        is : shown G Z m ≡ k
        is = (in_live k i).2

        size_is : size_at G m.h ≡ k.size
        size_is = ap (λ (y : answers.Mapping). y.size) is

        covers : anc (entries G) m.h (pg G Z a) ≡ m.r
        covers = anc_size G Z a m.h ∙ ap (λ (c : ℕ). c / size_at G m.h) (sym (ap (λ (y : answers.Mapping). y.at) is ∙ e)) ∙ mul-div_cancel m.r (size_pos G m.h)

        height : m.h ≡ h
        height = covers_from (R G Z J) J.inv.holds E.ends m held covers (size_back G Z g m.h (subst (λ (s : ℕ). size_at G g ≤ s) (sym size_is) l))

        there : J.S h r ≡ frame m.x
        there = ap (λ (j : ℕ). J.S j (anc (entries G) j (pg G Z a))) (sym height) ∙ ap (J.S m.h) covers ∙ J.inv.holds.live m held

        aligned : a % size_at G h ≡ 0
        aligned = ap (λ (j : ℕ). a % size_at G j) (sym height) ∙ ap (λ (c : ℕ). c % size_at G m.h) (sym (ap (λ (y : answers.Mapping). y.at) is ∙ e)) ∙ mul-mod_left m.r (size_at G m.h)

        frame_is : (b x : ℕ) → o.entry ≡ Frame b x → (b ≡ k.frame) × (x ≡ k.attributes)
        frame_is b x q =
            let P = E.framed b x q in
            let y : b + x ≡ m.x = frame_same (sym (entry_frame (J.S h r) (J.T h r) (b + x) (ap read_entry (sym q) ∙ E.ends.says_is)) ∙ there) in (
              sym (payload_base G Z (area_of p.numbers) top J.good.numbers.placed b x (framed_paged Z P) P.few) ∙ ap base_of y ∙ ap (λ (c : answers.Mapping). c.frame) is,
              sym (payload_attrs G Z (area_of p.numbers) top J.good.numbers.placed b x (framed_paged Z P) P.few) ∙ ap attrs_of y ∙ ap (λ (c : answers.Mapping). c.attributes) is,
            )

        go : (n : Entry) → o.entry ≡ n → (o.entry ≡ Frame k.frame k.attributes) × (size_at G h ≡ k.size) × (a % size_at G h ≡ 0)
        go (Frame b x) q = let (u, v) = frame_is b x q in (q ∙ (λ i. Frame (u i) (v i)), ap (size_at G) (sym height) ∙ size_is, aligned)
        go Empty q = absurd (empty≢frame (entry_empty (J.S h r) (J.T h r) (ap read_entry (sym q) ∙ E.ends.says_is)) there)
        go (Table c) q = absurd (table≢frame (entry_table (J.S h r) (J.T h r) c (ap read_entry (sym q) ∙ E.ends.says_is)).0 there)
        go Damaged q = absurd (never_bad (J.S h r) (J.T h r) (ap read_entry (sym q) ∙ E.ends.says_is))

  -- ---- unmap: remove, then prune

  module _ {p : Pool} (w : WfTree G p) (a b s x t : ℕ) (e : (unmap_w G p a).answer ≡ gave b s x t) where
    pub good₁ : GoodSetup G p.numbers p.cut (length p.words) (length p.list)
    good₁ = good_setup_lem (gave_passed G p a b s x t e).0

    pub pre : UnmapPre G (ledger_of G p) a
    pre = (unmap_pre G Z (ledger_of G p) a).0 (gave_passed G p a b s x t e).1

    module _ {C : Type 0} (used : C → TreeNonempty G p) where
      abbrev pub J₁ : SimIf G Z C ⊥ p (ledger_of G p)
      J₁ = wf_sim G Z good₁ w used

      pub framed₁ : J₁.S (walk_to G p 0 a).left (anc (entries G) (walk_to G p 0 a).left (pg G Z a)) ≡ frame (b + x)
      framed₁ = entry_frame _ _ (b + x) (ap read_entry (sym (unmap_gave G p a b s x t e).0) ∙ (walk_ended G Z J₁ 0 a (omega arith) pre.in_space).ends.says_is)

      unmapped_tree : SimIf G Z C ⊥ (unmap_w G p a).after (with_live (own G Z J₁) (drop_at a (map (shown G Z) J₁.L)))
      unmapped_tree =
          let (_, _, starts, q, after_is) = unmap_gave G p a b s x t e in
          subst (λ (c : Pool). SimIf G Z C ⊥ c (with_live (own G Z J₁) (drop_at a (map (shown G Z) J₁.L))))
          (sym (after_is ∙ ap (λ (c : ℕ). written G p (writes_of_unmap G p a) (p.numbers.free + c)) q))
          (unmap_after G Z J₁ a pre.in_space b x framed₁ starts (omega (arith, (gave_passed G p a b s x t e).2, good₁.numbers.some_table)))

    abbrev left : SimIf G Z ⊥ ⊥ (unmap_w G p a).after (with_live (own G Z (J₁ {C = ⊥} (λ c. absurd c))) (drop_at a (map (shown G Z) (J₁ {C = ⊥} (λ c. absurd c)).L)))
    left = unmapped_tree {C = ⊥} (λ c. absurd c)

    -- the mappings after it are those of before without the one at the address
    pub unmap_removes_path_mapping : (k : answers.Mapping) → InTree G (unmap_w G p a).after k ↔ (InTree G p k × (k.at ≢ a))
    unmap_removes_path_mapping k = (
      λ i. let (j, d) = (drop_has a (map (shown G Z) (J₁ {C = ⊥} (λ c. absurd c)).L) k).0 (sim_listed G Z left k i) in
          (subst (λ (l : List answers.Mapping). Memᴰ k l) (sym (J₁ {C = ⊥} (λ c. absurd c)).live_is) j, d),
      λ (i, d). sim_live G Z left k ((drop_has a (map (shown G Z) (J₁ {C = ⊥} (λ c. absurd c)).L) k).1 (subst (λ (l : List answers.Mapping). Memᴰ k l) (J₁ {C = ⊥} (λ c. absurd c)).live_is i, d)),
    )

    -- its tree is well-formed
    pub unmap_preserves_wf_tree : WfTree G (unmap_w G p a).after
    unmap_preserves_wf_tree = sim_wf G Z left

    -- lemma_prune_after_remove_preserves_all_nonempty
    pub prune_after_remove_preserves_all_nonempty : TreeNonempty G p → TreeNonempty G (unmap_w G p a).after
    prune_after_remove_preserves_all_nonempty u = sim_used G Z (unmapped_tree {C = Unit {0}} (λ _. u)) tt

    -- prune after remove changes no mapping
    pub prune_after_remove_not_affect : (k : answers.Mapping) → InTree G (unmap_w G p a).after k ↔ InTree G (removed G p 0 a) k
    prune_after_remove_not_affect k =
        let (f, _, starts, _, _) = unmap_gave G p a b s x t e in
        let at : base_at G a (walk_to G p 0 a).left ≡ a = aligned_base G a (walk_to G p 0 a).left starts in
        let M = remove_removes_path_mapping w (gave_passed G p a b s x t e).0 0 a (omega arith) pre.in_space b x f k in (
          λ i. let (j, d) = (unmap_removes_path_mapping k).0 i in M.1 (j, λ z. d (z ∙ at)),
          λ i. let (j, d) = M.0 i in (unmap_removes_path_mapping k).1 (j, λ z. d (z ∙ sym at)),
        )

  -- ---- prune of any path

  module _ {p : Pool} (w : WfTree G p) (good : good_pool G p ≡ true) (a : ℕ) (in_space : a < space_of G p.numbers.levels) where
    abbrev K : SimIf G Z ⊥ ⊥ p (ledger_of G p)
    K = wf_sim G Z (good_setup_lem good) w (λ c. absurd c)

    abbrev u : Walked
    u = walk_to G p 0 a

    abbrev f : ℕ
    f = p.numbers.free

    module _ (ends : u.entry ≡ Empty) where
      pruned_tree : SimIf G Z ⊥ ⊥ (pruned_by G p a Empty) (own G Z K)
      pruned_tree = record {
        good = record {
          granule_is = K.good.granule_is;
          numbers = record {
            enough = K.good.numbers.enough;
            not_more = K.good.numbers.not_more;
            some_table = K.good.numbers.some_table;
            few = K.good.numbers.few;
            cut_is = K.good.numbers.cut_is;
            placed = K.good.numbers.placed;
            words_are = subst (λ (q : prunes.Pool Tables). length q.m ≡ entries G * total (area_of p.numbers)) (sym carried) cut.ok;
            places_are = K.good.numbers.places_are;
          };
          room = K.good.room;
        };
        levels_are = refl;
        area_is = refl;
        L = K.L;
        live_is = refl;
        once = K.once;
        T = cut.T;
        S = cut.S;
        outside = λ d. absurd d;
        inv = subst (λ (q : prunes.Pool Tables). InvIf ⊥ ⊥ (X G Z K) (read_at G q.m) (place_at p.list) f cut.T cut.S K.L p.numbers.levels 0) (sym carried)
            (record { ren = cut.inv.ren; holds = cut.inv.holds; dense = λ c. absurd c; spare = λ d. absurd d });
      }
        where
          v : ℕ
          v = pg G Z a

          j : ℕ
          j = u.left

          q : ℕ
          q = anc (entries G) j v

          Tables : Rattle.tree.specs.Inv.Store (X G Z K)
          Tables = A G Z (area G Z K) p.numbers.levels (al G Z K)

          E₁ : Ended G Z (area G Z K) p.numbers.levels (al G Z K) (few G Z K) p.words (R G Z K) a 0 (k₀ G Z K) u
          E₁ = walk_ended G Z K 0 a (omega arith) in_space

          under₁ : j < p.numbers.levels
          under₁ = omega (arith, E₁.ends.low, root_at G Z K)

          way : ℕ → ℕ
          way = way_at u.tables

          -- the entry's word is 0
          word_zero : get_or p.words (slot G (way (suc j)) (q % entries G)) 0 ≡ 0
          word_zero = ap (λ (c : ℕ). read_at G p.words c (q % entries G)) (E₁.ends.path_is (suc j) (omega arith) under₁)
              ∙ (R G Z K).words j q E₁.ends.parent
              ∙ ap (λ (n : Ent). (X G Z K).enc j n (K.T j q)) (entry_empty (K.S j q) (K.T j q) (ap read_entry (sym ends) ∙ E₁.ends.says_is))
              ∙ (X G Z K).enc_empty j (K.T j q)

          same : set p.words (slot G (way (suc j)) (q % entries G)) 0 ≡ p.words
          same = ap (set p.words (slot G (way (suc j)) (q % entries G))) (sym word_zero) ∙ set-get_or p.words (slot G (way (suc j)) (q % entries G)) 0

          sp : (i : ℕ) → i < 4 → at_height (path_of G a) i ≡ anc (entries G) i v % entries G
          sp = spot G Z (area G Z K) p.numbers.levels (al G Z K) (few G Z K) p.words (R G Z K) a

          tidied : prunes.Pool Tables
          tidied = prune (X G Z K) Tables v way (k₀ G Z K - j) (suc j) p.words p.list f

          loose : LooseIf (X G Z K) Tables v way ⊥ ⊥ K.L (k₀ G Z K - j) (suc j)
          loose = record {
            m = p.words;
            q = p.list;
            f = f;
            T = K.T;
            S = K.S;
            ok = K.good.numbers.words_are;
            okᶠ = K.good.numbers.places_are;
            inv = excuse K.inv;
            stands = E₁.ends.parent;
            path = λ i l m. E₁.ends.path_is i (omega arith) m;
            levels = omega (arith, E₁.ends.low, root_at G Z K);
          }

          cut : PrunedIf (X G Z K) Tables v way ⊥ ⊥ K.L tidied
          cut = prune_ok (X G Z K) Tables v way (k₀ G Z K - j) (suc j) loose

          memory₁ : Memory
          memory₁ = perform_all G (prune_writes G u.tables (path_of G a) j f (giving G p a)) (memory p.words p.list)

          carried : prunes.pool {A = Tables} memory₁.words memory₁.list (f + giving G p a) ≡ tidied
          carried = prune_carried G Z (area G Z K) p.numbers.levels (al G Z K) v (path_of G a) u.tables sp (few G Z K) j (unmaps.way_in G Z K a in_space) (unmaps.way_apart G Z K a in_space) p.words K.good.numbers.words_are (k₀ G Z K - j) j p.words p.list f
              (omega arith) (omega (arith, E₁.ends.low, root_at G Z K))
              (subst (λ (ws : List ℕ). Cleared G Z (area G Z K) p.numbers.levels (al G Z K) v (path_of G a) u.tables sp (few G Z K) j (unmaps.way_in G Z K a in_space) (unmaps.way_apart G Z K a in_space) p.words K.good.numbers.words_are j ws) same
              (clear_first G Z (area G Z K) p.numbers.levels (al G Z K) v (path_of G a) u.tables sp (few G Z K) j (unmaps.way_in G Z K a in_space) (unmaps.way_apart G Z K a in_space) p.words K.good.numbers.words_are j (omega arith) under₁))

      prunes_nothing_else : (k : answers.Mapping) → InTree G (pruned_by G p a Empty) k ↔ InTree G p k
      prunes_nothing_else k = (
        λ i. subst (λ (l : List answers.Mapping). Memᴰ k l) (sym K.live_is) (sim_listed G Z pruned_tree k i),
        λ i. sim_live G Z pruned_tree k (subst (λ (l : List answers.Mapping). Memᴰ k l) K.live_is i),
      )

    -- lemma_prune_not_affect_path_mappings; its two directions are lemma_prune_not_add_frame_path and lemma_prune_not_remove_frame_path
    pub prune_not_affect_path_mappings : (k : answers.Mapping) → InTree G (pruned G p a) k ↔ InTree G p k
    prune_not_affect_path_mappings k = go u.entry refl
      where
        go : (n : Entry) → u.entry ≡ n → InTree G (pruned_by G p a n) k ↔ InTree G p k
        go Empty q = prunes_nothing_else q k
        go (Frame _ _) q = (λ i. i, λ i. i)
        go (Table _) q = (λ i. i, λ i. i)
        go Damaged q = (λ i. i, λ i. i)

    -- lemma_prune_preserves_wf
    pub prune_preserves_wf_tree : WfTree G (pruned G p a)
    prune_preserves_wf_tree = go u.entry refl
      where
        go : (n : Entry) → u.entry ≡ n → WfTree G (pruned_by G p a n)
        go Empty q = sim_wf G Z (pruned_tree q)
        go (Frame _ _) q = w
        go (Table _) q = w
        go Damaged q = w
