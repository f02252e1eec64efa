-- The tree in a pool's words is well-formed where upstream's is, and a map does to it what upstream's insert does.
use Rattle.std.specs.Prelude.{◌≡◌, Bool, true, cond, List, ◌∷◌, ltb, take}
use Rattle.std.proofs.Math.Path.{refl, sym, subst}
use Rattle.std.proofs.Common.{ap, ◌∙◌, lt-ltb}
use mathlib.Core.Logic.{◌≢◌, ◌⊎◌, inl, inr}
use Prim.Native.Nat.{ℕ, zero, suc, ◌+◌, ◌-◌, ◌*◌, ◌%◌, ◌≤◌, ◌<◌}
use native.Mathlib.Omega.{arith}
use Rattle.std.proofs.Math.Decide.{ℕ_discrete, dec_lt}
use Rattle.std.proofs.Math.Arith.{digits_div, digits_mod}
use Rattle.path.specs.Geometry.{Granule, entries, size_at, height_of, Sane}
use Rattle.path.specs.Areas.{Area, area_of, GoodArea}
use Rattle.path.specs.Laws.{entries_pos, entries_more, size_suc', good_setup_lem}
use Rattle.path.specs.Paths.{index_at, indices}
use Rattle.entry.specs.Words.{entry_at}
use Rattle.entry.proofs.Laws.{frame_only, framed_paged}
use Rattle.entry.specs.declared.Entry.{Entry}
use Rattle.entry.specs.declared.Entry.TheVariants as said
use Rattle.model.specs.Answers as answers
use Rattle.model.specs.Answers.{took, Pool, Done}
use Rattle.model.specs.Sound.{SoundEntry, SoundTable, word_at}
use Rattle.model.specs.Calls.{good_pool, map_w}
use Rattle.model.specs.Writes.{Memory}
use Rattle.tree.specs.Region.{anc, upd, upd_at, upd_other}
use Rattle.tree.specs.Tree.{Ent, empty, frame, table, table≢empty, empty?, read_of, Geo, Rendered}
use Rattle.tree.specs.Walk.{read_is, chain}
use Rattle.tree.specs.Inv.{Mapping, Store}
use Rattle.tree.specs.Ops.{grow, ReadyIf, last, more}
use Rattle.demand.specs.Shown.{pg, anc_size, base_of, attrs_of}
use Rattle.demand.specs.Arm.{read_entry, geo, payload_base, payload_attrs}
use Rattle.demand.specs.Memories.{read_at, place_at}
use Rattle.demand.specs.Carried.{A}
use Rattle.demand.specs.Holds.{WfTree, ledger_of}
use Rattle.demand.specs.Sims.{SimIf}
use Rattle.demand.specs.Queries.{area, al, X, R, root_at, top_zero}
use Rattle.demand.specs.Maps.{ready, carried, new_shown, low}
use Rattle.upstream.proofs.Calls.{map_took}
use Rattle.upstream.specs.Node.{TakesNew}
use Rattle.upstream.proofs.Node as node
use Rattle.upstream.specs.Values.{ArchValid, SpecFrame, NodeEntry, Node, Frame, Empty, insert, EntryValid, Wf}
use Rattle.upstream.specs.ValueTrees.{arch_of, frame_of, path_to, entry_of, node_at, tree_of}
use Rattle.upstream.proofs.ValueCells.{pick, cell, kids, up_to_same, cell_table, down, Grown, grown_inserted}

module _ (G : Granule) (Z : Sane G) where
  -- the frame that a payload stands for
  abbrev pub φ : ℕ → ℕ → SpecFrame
  φ h x = record { base = base_of x; size = size_at G h; attributes = attrs_of x }

  -- ---- well-formedness

  -- the architecture of a granule is valid
  pub arch_valid : (n : ℕ) → 0 < n → ArchValid (arch_of G n)
  arch_valid n l = record {
    some_level = l;
    some_entries = λ _ _. entries_more G Z;
    nested = λ l m. let e : n - suc l ≡ suc (n - suc (suc l)) = omega arith in ap (size_at G) e ∙ size_suc' G (n - suc (suc l));
  }

  entry_wf : (ws : List ℕ) (area : Area) (n h w : ℕ) (e : Entry) → entry_at G area h w ≡ e → suc h ≤ n → (below : ℕ → NodeEntry) (Below : ℕ → Type 0)
      → ((c : ℕ) → Below c → EntryValid (arch_of G n) (n - suc h) (below c) × Wf (arch_of G n) (below c)) → SoundEntry Below e
      → EntryValid (arch_of G n) (n - suc h) (entry_of G h below e) × Wf (arch_of G n) (entry_of G h below e)
  entry_wf ws area n h w said.Empty q l below Below f s = (tt, tt)
  entry_wf ws area n h w (said.Table c) q l below Below f s = f c s
  entry_wf ws area n h w (said.Frame b k) q l below Below f s = ((ap (size_at G) (omega arith), (frame_only Z area h w q).0.aligned), tt)
  entry_wf ws area n h w said.Damaged q l below Below f s = absurd s

  node_wf : (ws : List ℕ) (area : Area) (n h t : ℕ) → suc h ≤ n → SoundTable G ws area h t → Wf (arch_of G n) (node_at G ws area n (suc h) t)
  unfolding SoundTable
  node_wf ws area n zero t l s = (omega arith, λ i b. subst (λ (c : Bool). EntryValid (arch_of G n) (n - 1) (cond c (at i) Empty) × Wf (arch_of G n) (cond c (at i) Empty)) (sym (in_it i b)) (entry_wf ws area n zero _ _ refl l (node_at G ws area n zero) (λ _. ⊥) (λ c z. absurd z) (s i b)))
    where
      at : ℕ → NodeEntry
      at i = entry_of G zero (node_at G ws area n zero) (entry_at G area zero (word_at G ws t i))

      in_it : (i : ℕ) → i < entries G → ltb i (entries G) ≡ true
      in_it i b = lt-ltb i (entries G) b
  node_wf ws area n (suc h) t l s = (omega arith, λ i b. subst (λ (c : Bool). EntryValid (arch_of G n) (n - suc (suc h)) (cond c (at i) Empty) × Wf (arch_of G n) (cond c (at i) Empty)) (sym (in_it i b)) (entry_wf ws area n (suc h) _ _ refl l (node_at G ws area n (suc h)) (SoundTable G ws area h) (λ c z. ((omega arith, omega arith), node_wf ws area n h c (omega arith) z)) (s i b)))
    where
      at : ℕ → NodeEntry
      at i = entry_of G (suc h) (node_at G ws area n (suc h)) (entry_at G area (suc h) (word_at G ws t i))

      in_it : (i : ℕ) → i < entries G → ltb i (entries G) ≡ true
      in_it i b = lt-ltb i (entries G) b

  -- a well-formed tree is one of upstream's
  pub tree_wf : (p : Pool) → good_pool G p ≡ true → WfTree G p → Wf (arch_of G p.numbers.levels) (tree_of G p)
  tree_wf p good w =
      let e : suc (p.numbers.levels - 1) ≡ p.numbers.levels = omega (arith, (good_setup_lem good).numbers.enough, Z.large_below) in
      subst (λ (h : ℕ). Wf (arch_of G p.numbers.levels) (node_at G p.words (area_of p.numbers) p.numbers.levels h 0)) e
      (node_wf p.words (area_of p.numbers) p.numbers.levels (p.numbers.levels - 1) 0 (omega arith) w.tree)

  -- ---- the words of a tree of the theory

  module _ (area : Area) (top : ℕ) (al : GoodArea G area) where
    abbrev K : ℕ
    K = entries G

    abbrev cells : (ℕ → ℕ → Ent) → ℕ → ℕ → NodeEntry
    cells S = cell K top (entries_pos G) φ S

    entry_pick : (h w : ℕ) (e : Entry) (s : Ent) (c : ℕ) (below : ℕ → NodeEntry) (n : NodeEntry) → entry_at G area h w ≡ e → read_entry e ≡ read_of s c → (s ≡ table → below c ≡ n)
        → entry_of G h below e ≡ pick K top (entries_pos G) φ s (φ h) n
    entry_pick h w said.Empty empty c below n q r f = refl
    entry_pick h w said.Empty (frame x) c below n q r f = cc
    entry_pick h w said.Empty table c below n q r f = cc
    entry_pick h w (said.Table d) empty c below n q r f = cc
    entry_pick h w (said.Table d) (frame x) c below n q r f = cc
    entry_pick h w (said.Table d) table c below n q r f = let z : d ≡ c = cc in ap below z ∙ f refl
    entry_pick h w (said.Frame b k) empty c below n q r f = cc
    entry_pick h w (said.Frame b k) (frame x) c below n q r f =
        let F = (frame_only Z area h w q).0 in
        let s : b + k ≡ x = cc in
        let u : b ≡ base_of x = sym (payload_base G Z area top al b k (framed_paged Z F) F.few) ∙ ap base_of s in
        let v : k ≡ attrs_of x = sym (payload_attrs G Z area top al b k (framed_paged Z F) F.few) ∙ ap attrs_of s in
        λ t. Frame (record { base = u t; size = size_at G h; attributes = v t })
    entry_pick h w (said.Frame b k) table c below n q r f = cc
    entry_pick h w said.Damaged empty c below n q r f = cc
    entry_pick h w said.Damaged (frame x) c below n q r f = cc
    entry_pick h w said.Damaged table c below n q r f = cc

    module _ (ws : List ℕ) {T : ℕ → ℕ → ℕ} {S : ℕ → ℕ → Ent} (R₀ : Rendered (geo G Z area top al) (read_at G ws) T S) where
      said_is : (h r i : ℕ) → i < K → S (suc h) r ≡ table → read_entry (entry_at G area h (word_at G ws (T (suc h) r) i)) ≡ read_of (S h (r * K + i)) (T h (r * K + i))
      said_is h r i l s =
          let d = digits_div r l in
          let m = digits_mod r l in
          sym (λ t. read_entry (entry_at G area h (word_at G ws (T (suc h) (d t)) (m t)))) ∙ read_is R₀ h (r * K + i) (ap (S (suc h)) d ∙ s)

      pub node_is : (h r : ℕ) → S (suc h) r ≡ table → node_at G ws area top (suc h) (T (suc h) r) ≡ Node (top - suc h) (kids K top (entries_pos G) φ S h r)
      node_is zero r s = ap (Node (top - 1)) (up_to_same K top (entries_pos G) φ
          (λ i. entry_of G zero (node_at G ws area top zero) (entry_at G area zero (word_at G ws (T 1 r) i))) (λ i. cells S zero (r * K + i))
          (λ i l. entry_pick zero _ _ (S zero (r * K + i)) (T zero (r * K + i)) (node_at G ws area top zero) Empty refl (said_is zero r i l s) (λ _. refl)))
      node_is (suc h) r s = ap (Node (top - suc (suc h))) (up_to_same K top (entries_pos G) φ
          (λ i. entry_of G (suc h) (node_at G ws area top (suc h)) (entry_at G area (suc h) (word_at G ws (T (suc (suc h)) r) i))) (λ i. cells S (suc h) (r * K + i))
          (λ i l. entry_pick (suc h) _ _ (S (suc h) (r * K + i)) (T (suc h) (r * K + i)) (node_at G ws area top (suc h)) _ refl (said_is (suc h) r i l s) (λ z. node_is h (r * K + i) z)))

      -- from the root
      pub root_is : (k : ℕ) → suc k ≡ top → node_at G ws area top top 0 ≡ cells S top 0
      root_is k e = subst (λ (h : ℕ). S h 0 ≡ table → T h 0 ≡ 0 → node_at G ws area top h 0 ≡ cells S h 0) e
          (λ s t. ap (node_at G ws area top (suc k)) (sym t) ∙ node_is k 0 s ∙ sym (cell_table K top (entries_pos G) φ S k 0 s)) R₀.root R₀.root_at

  -- the path of an address is the theory's
  pub path_is : (top : ℕ) (a n h : ℕ) → take n (indices G a h) ≡ down (entries G) top (entries_pos G) φ (pg G Z a) n h
  unfolding indices index_at
  path_is top a zero h = refl
  path_is top a (suc n) zero = refl
  path_is top a (suc n) (suc h) = let e = anc_size G Z a h in let r = path_is top a n h in λ t. (sym e t % entries G) ∷ r t

-- ---- what growing does to a tree of the theory

module _ (X : Geo) (M : Store X) (P : ℕ → ℕ) (g v x : ℕ) where
  -- from the entry of height h that holds v: tables down to height g, and the frame there
  pub record GrowsTo (h : ℕ) (S S' : ℕ → ℕ → Ent) : Type 0 where
    pub aside : (j r : ℕ) → r ≢ anc X.K j v → S' j r ≡ S j r
    pub there : S' g (anc X.K g v) ≡ frame x
    pub tables : (j : ℕ) → g < j → j ≤ h → S' j (anc X.K j v) ≡ table
    pub above : (j : ℕ) → h < j → S' j (anc X.K j v) ≡ S j (anc X.K j v)

  abbrev pub GrownTo : (C D : Type 0) (L : List Mapping) (h : ℕ) → ReadyIf X M P g v x C D L h → Type 0
  GrownTo C D L h o = (T' : ℕ → ℕ → ℕ) × (S' : ℕ → ℕ → Ent) × Rendered X (M.rd (grow X M P g v x h o.m o.t o.f).m) T' S' × GrowsTo h o.S S'

  framed_to : (h : ℕ) (S : ℕ → ℕ → Ent) → h ≡ g → GrowsTo h S (upd S h (anc X.K h v) (frame x))
  framed_to h S z = record {
    aside = λ j r n. upd_other S h (anc X.K h v) (frame x) j r (λ (a, b). n (b ∙ ap (λ (i : ℕ). anc X.K i v) (sym a)));
    there = upd_at S h (anc X.K h v) (frame x) g (anc X.K g v) (sym z, ap (λ (i : ℕ). anc X.K i v) (sym z));
    tables = λ j a b. absurd (omega arith);
    above = λ j c. upd_other S h (anc X.K h v) (frame x) j (anc X.K j v) (λ (a, _). omega arith);
  }

  linked_to : (h : ℕ) (S S' : ℕ → ℕ → Ent) → GrowsTo h (upd S (suc h) (anc X.K (suc h) v) table) S' → GrowsTo (suc h) S S'
  linked_to h S S' D = record {
    aside = λ j r n. D.aside j r n ∙ upd_other S (suc h) (anc X.K (suc h) v) table j r (λ (a, b). n (b ∙ ap (λ (i : ℕ). anc X.K i v) (sym a)));
    there = D.there;
    tables = λ j a b. on j a b (ℕ_discrete j (suc h));
    above = λ j c. D.above j (omega arith) ∙ upd_other S (suc h) (anc X.K (suc h) v) table j (anc X.K j v) (λ (a, _). omega arith);
  }
    where
      on : (j : ℕ) → g < j → j ≤ suc h → Dec (j ≡ suc h) → S' j (anc X.K j v) ≡ table
      on j a b (yes q) = D.above j (omega arith) ∙ upd_at S (suc h) (anc X.K (suc h) v) table j (anc X.K j v) (q, ap (λ (i : ℕ). anc X.K i v) q)
      on j a b (no q) = D.tables j a (omega arith)

  pub grow_to : {C D : Type 0} {L : List Mapping} (h : ℕ) (o : ReadyIf X M P g v x C D L h) → GrownTo C D L h o
  unfolding grow last more
  grow_to zero o = let z : 0 ≡ g = omega arith in (_, _, (last X M P g v x o z).inv.ren, framed_to zero o.S z)
  grow_to {C} {D} {L} (suc h) o = go (ℕ_discrete (suc h) g) (λ o. grow_to h o)
    where
      c : ℕ
      c = P (o.f - 1)

      go : (d : Dec (suc h ≡ g)) → ((o : ReadyIf X M P g v x C D L h) → GrownTo C D L h o)
          → (T' : ℕ → ℕ → ℕ) × (S' : ℕ → ℕ → Ent) × Rendered X (M.rd (mathlib.Core.Logic.ite d
          (Rattle.tree.specs.Ops.mem {A = M} (M.wr o.m o.t (anc X.K (suc h) v % X.K) (X.enc (suc h) (frame x) 0)) o.f)
          (grow X M P g v x h (M.wr (M.wipe o.m c) o.t (anc X.K (suc h) v % X.K) (X.enc (suc h) table c)) c (o.f - 1))).m) T' S' × GrowsTo (suc h) o.S S'
      go (yes z) ih = (_, _, (last X M P g v x o z).inv.ren, framed_to (suc h) o.S z)
      go (no z) ih =
          let (T', S', R', D') = ih (more X M P g v x o z (o.f - 1) (omega arith)) in
          (T', S', R', linked_to h o.S S' D')

module _ (G : Granule) (Z : Sane G) {p : Pool} (w : WfTree G p) (m : answers.Mapping) (t : ℕ) where
  -- the call, and what it puts where
  abbrev mapped : Done
  mapped = map_w G p m.at m.frame m.size m.attributes

  abbrev g : ℕ
  g = height_of G m.size

  abbrev top : ℕ
  top = p.numbers.levels

  module _ (e : mapped.answer ≡ took t) (new : TakesNew G p t) where
    abbrev I : SimIf G Z ⊥ ⊥ p (ledger_of G p)
    I = node.I G Z w m t e new {C = ⊥} (λ c. absurd c)

    abbrev F : Rattle.demand.specs.Maps.Fine G top (area_of p.numbers) m.at m.frame m.size m.attributes
    F = node.F G Z w m t e new

    abbrev o : ReadyIf (X G Z I) (A G Z (area G Z I) top (al G Z I)) (place_at p.list) g (pg G Z m.at) (m.frame + m.attributes) ⊥ ⊥ I.L (node.went G Z w m t e new).left
    o = ready G Z I m.at m.frame m.size m.attributes F (node.vacant G Z w m t e new {C = ⊥} (λ c. absurd c)) (node.room G Z w m t e new {C = ⊥} (λ c. absurd c)) (node.takes G Z w m t e new {C = ⊥} (λ c. absurd c))

    -- what the theory says of the call's writes
    grown_to : GrownTo (X G Z I) (A G Z (area G Z I) top (al G Z I)) (place_at p.list) g (pg G Z m.at) (m.frame + m.attributes) ⊥ ⊥ I.L (node.went G Z w m t e new).left o
    grown_to = grow_to (X G Z I) (A G Z (area G Z I) top (al G Z I)) (place_at p.list) g (pg G Z m.at) (m.frame + m.attributes) (node.went G Z w m t e new).left o

    grown : Grown (entries G) top (entries_pos G) (φ G Z) (pg G Z m.at) I.S grown_to.1 g (m.frame + m.attributes)
    unfolding ready
    grown = record {
      aside = D.aside;
      vacant = empty_below g (omega arith) o.above;
      there = D.there;
      above = λ h a b. by h a b (dec_lt s h);
    }
      where
        v : ℕ
        v = pg G Z m.at

        s : ℕ
        s = (node.went G Z w m t e new).left

        D : GrowsTo (X G Z I) (A G Z (area G Z I) top (al G Z I)) (place_at p.list) g v (m.frame + m.attributes) s I.S grown_to.1
        D = grown_to.3

        low_top : suc s ≤ top
        low_top = (R G Z I).bound (suc s) (anc (entries G) (suc s) v) (table≢empty o.stands)

        empty_below : (h : ℕ) → g ≤ h → h ≤ s → I.S h (anc (entries G) h v) ≡ empty
        empty_below h a b = go (empty? (I.S h (anc (entries G) h v))) (ℕ_discrete h s)
          where
            go : Dec (I.S h (anc (entries G) h v) ≡ empty) → Dec (h ≡ s) → I.S h (anc (entries G) h v) ≡ empty
            go (yes q) d = q
            go (no q) (yes d) = absurd (q (ap (λ (j : ℕ). I.S j (anc (entries G) j v)) d ∙ o.vacant))
            go (no q) (no d) = absurd (table≢empty (chain (R G Z I) v h q s (omega arith) (omega (arith, low_top))) o.vacant)

        over : (h : ℕ) → s < h → h ≤ top → Dec (suc s ≡ h) → I.S h (anc (entries G) h v) ≡ table
        over h a b (yes q) = subst (λ (j : ℕ). I.S j (anc (entries G) j v) ≡ table) q o.stands
        over h a b (no q) = chain (R G Z I) v (suc s) (table≢empty o.stands) h (omega arith) b

        by : (h : ℕ) → g < h → h ≤ top → Dec (s < h) → (grown_to.1 h (anc (entries G) h v) ≡ table) × ((I.S h (anc (entries G) h v) ≡ table) ⊎ (I.S h (anc (entries G) h v) ≡ empty))
        by h a b (yes l) = let q = over h l b (ℕ_discrete (suc s) h) in (D.above h l ∙ q, inl q)
        by h a b (no l) = (D.tables h a (omega arith), inr (empty_below h (omega arith) (omega arith)))

    -- a map that takes tables which are none of the tree does to the tree what upstream's insert does, and insert succeeds
    pub map_is_insert : (tree_of G mapped.after ≡ (insert 0 (path_to G top m.at g) (frame_of m) (tree_of G p)).after) × ((insert 0 (path_to G top m.at g) (frame_of m) (tree_of G p)).ok ≡ true)
    unfolding ready
    map_is_insert = (
      after ∙ sym inserted.0 ∙ (λ i. (insert 0 (path i) (frame_is i) (before i)).after),
      sym (λ i. (insert 0 (path i) (frame_is i) (before i)).ok) ∙ inserted.1,
    )
      where
        v : ℕ
        v = pg G Z m.at

        x : ℕ
        x = m.frame + m.attributes

        cells : (ℕ → ℕ → Ent) → NodeEntry
        cells S = cell (entries G) top (entries_pos G) (φ G Z) S top 0

        around : anc (entries G) top v ≡ 0
        around = ap (λ (j : ℕ). anc (entries G) j v) (sym (root_at G Z I)) ∙ top_zero G Z I m.at F.start_in

        before : cells I.S ≡ tree_of G p
        before = sym (root_is G Z (area G Z I) top (al G Z I) p.words (R G Z I) (top - 1) (root_at G Z I))

        path : down (entries G) top (entries_pos G) (φ G Z) v (top - g) top ≡ path_to G top m.at g
        path = sym (path_is G Z top m.at (top - g) top)

        frame_is : φ G Z g x ≡ frame_of m
        frame_is = ap frame_of (new_shown G Z I m.at m.frame m.size m.attributes F)

        inserted : ((insert 0 (down (entries G) top (entries_pos G) (φ G Z) v (top - g) top) (φ G Z g x) (cells I.S)).after ≡ cells grown_to.1)
            × ((insert 0 (down (entries G) top (entries_pos G) (φ G Z) v (top - g) top) (φ G Z g x) (cells I.S)).ok ≡ true)
        inserted = subst (λ (r : ℕ). ((insert 0 (down (entries G) top (entries_pos G) (φ G Z) v (top - g) top) (φ G Z g x) (cell (entries G) top (entries_pos G) (φ G Z) I.S top r)).after ≡ cell (entries G) top (entries_pos G) (φ G Z) grown_to.1 top r)
            × ((insert 0 (down (entries G) top (entries_pos G) (φ G Z) v (top - g) top) (φ G Z g x) (cell (entries G) top (entries_pos G) (φ G Z) I.S top r)).ok ≡ true)) around
            (grown_inserted (entries G) top (entries_pos G) (φ G Z) v I.S grown_to.1 g x (R G Z I).up grown (top - g) top 0
            (omega (arith, low G Z I m.at m.frame m.size m.attributes F, root_at G Z I)) (omega arith) (omega arith))

        words : mapped.after.words ≡ (grow (X G Z I) (A G Z (area G Z I) top (al G Z I)) (place_at p.list) g v x (node.went G Z w m t e new).left o.m o.t o.f).m
        words = let (_, a, _, b) = map_took G p m.at m.frame m.size m.attributes t e in
            ap (λ (q : Pool). q.words) b
            ∙ ap (λ (q : Memory). q.words) (carried G Z I m.at m.frame m.size m.attributes F (node.vacant G Z w m t e new {C = ⊥} (λ c. absurd c)) (node.room G Z w m t e new {C = ⊥} (λ c. absurd c)))

        numbers : (area_of mapped.after.numbers ≡ area_of p.numbers) × (mapped.after.numbers.levels ≡ top)
        numbers = let (_, a, _, b) = map_took G p m.at m.frame m.size m.attributes t e in (ap (λ (q : Pool). area_of q.numbers) b, ap (λ (q : Pool). q.numbers.levels) b)

        after : tree_of G mapped.after ≡ cells grown_to.1
        after = (λ i. node_at G (words i) (numbers.0 i) (numbers.1 i) (numbers.1 i) 0)
            ∙ root_is G Z (area G Z I) top (al G Z I) _ grown_to.2 (top - 1) (root_at G Z I)
