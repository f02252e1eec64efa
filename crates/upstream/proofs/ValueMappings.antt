-- What upstream's `path_mappings` has of the tree in a pool's words are the mappings that are found in the words, at the paths of their addresses.
use Rattle.std.specs.Prelude.{◌≡◌, refl, ◌≢◌, ◌↔◌, Bool, true, false, cond, ℕ, zero, suc, ◌+◌, ◌-◌, ◌*◌, ◌/◌, ◌%◌, ◌≤◌, ◌<◌, ltb, take}
use Rattle.std.proofs.Common.{ap, sym, ◌∙◌, subst, mod-lt, arith, ltb-true}
use mathlib.Core.List.Memᴰ
use mathlib.Core.List.{List, [], ◌∷◌, Memᴰ}
use Rattle.std.proofs.Math.Decide.{ℕ_discrete}
use Rattle.std.proofs.Math.Arith.{digits_div, digits_mod}
use Rattle.path.specs.Geometry.{Granule, entries, size_at, height_of, Sane}
use Rattle.path.specs.Laws.{entries_pos, size_height, good_setup_lem}
use Rattle.path.specs.Paths.{indices}
use Rattle.model.specs.Answers as answers
use Rattle.model.specs.Answers.{Pool}
use Rattle.model.specs.Calls.{good_pool}
use Rattle.tree.specs.Region.{anc, page, anc_page}
use Rattle.tree.specs.Tree.{Ent, empty, frame, table, table≢empty, table≢frame, empty≢frame}
use Rattle.tree.specs.Walk.{chain}
use Rattle.tree.specs.Inv.{Mapping, mapping}
use Rattle.demand.specs.Shown.{shown, pg, page_of}
use Rattle.demand.specs.Holds.{WfTree, ledger_of}
use Rattle.demand.specs.Sims.{SimIf, wf_sim, sim_live, sim_listed}
use Rattle.demand.specs.Queries.{area, al, R, root_at}
use Rattle.upstream.specs.Tree.{InTree}
use Rattle.upstream.specs.Values.{SpecFrame, NodeEntry, Node, Frame, Empty, Path, Steps, MapsTo}
use Rattle.upstream.proofs.ValueVisits.{empty_not_frame, node_not_frame, leads_none, maps_is}
use Rattle.upstream.specs.ValueVisits.{Leads}
use Rattle.upstream.specs.ValueTrees.{arch_of, frame_of, path_to, tree_of}
use Rattle.upstream.proofs.ValueCells.{pick, cell, kids, cell_empty, cell_frame, cell_table, kids_own, down}
use Rattle.upstream.proofs.ValueMaps.{φ, root_is, path_is}

-- ---- of the theory's tree

module _ (K top : ℕ) (pos : 0 < K) (ψ : ℕ → ℕ → SpecFrame) (S : ℕ → ℕ → Ent) where
  -- the path to a frame leads to it
  frame_leads : (v j x : ℕ) → S j (anc K j v) ≡ frame x → ((h : ℕ) → j < h → h ≤ top → S h (anc K h v) ≡ table) → (n h : ℕ) → h ≡ j + n → h ≤ top
      → Leads (down K top pos ψ v n h) (cell K top pos ψ S h (anc K h v)) (Frame (ψ j x))
  frame_leads v j x q t zero h e l = let z : h ≡ j = omega arith in
      subst (λ (i : ℕ). cell K top pos ψ S i (anc K i v) ≡ Frame (ψ j x)) (sym z) (cell_frame K top pos ψ S j (anc K j v) x q)
  frame_leads v j x q t (suc n) zero e l = absurd (omega arith)
  frame_leads v j x q t (suc n) (suc h) e l =
      subst (λ (y : NodeEntry). Leads ((anc K h v % K) ∷ down K top pos ψ v n h) y (Frame (ψ j x))) (sym (cell_table K top pos ψ S h (anc K (suc h) v) (t (suc h) (omega arith) l)))
      (subst (λ (y : NodeEntry). Leads (down K top pos ψ v n h) y (Frame (ψ j x))) (sym (kids_own K top pos ψ v S h)) (frame_leads v j x q t n h (omega arith) (omega arith)))

  -- what a path from region r of height h leads to
  pub record Found (q : Path) (h r : ℕ) (y : SpecFrame) : Type 0 where
    pub v : ℕ
    pub j : ℕ
    pub x : ℕ
    pub n : ℕ
    pub height : h ≡ j + n
    pub around : anc K h v ≡ r
    pub there : S j (anc K j v) ≡ frame x
    pub path : q ≡ down K top pos ψ v n h
    pub is : y ≡ ψ j x

  frame_same : {y z : SpecFrame} → Frame y ≡ Frame z → y ≡ z
  frame_same q = cc

  here : (h r : ℕ) (y : SpecFrame) → cell K top pos ψ S h r ≡ Frame y → Found [] h r y
  here h r y q = go (S h r) refl
    where
      tabled : (h : ℕ) → S h r ≡ table → cell K top pos ψ S h r ≡ Frame y → ⊥
      tabled zero s q = empty_not_frame (sym (ap (λ (e : Ent). pick K top pos ψ e (ψ zero) Empty) s) ∙ q)
      tabled (suc h) s q = node_not_frame (sym (cell_table K top pos ψ S h r s) ∙ q)

      go : (e : Ent) → S h r ≡ e → Found [] h r y
      go empty s = absurd (empty_not_frame (sym (cell_empty K top pos ψ S h r s) ∙ q))
      go (frame x) s = record {
        v = page K h r;
        j = h;
        x = x;
        n = 0;
        height = omega arith;
        around = anc_page K h r pos;
        there = ap (S h) (anc_page K h r pos) ∙ s;
        path = refl;
        is = frame_same (sym q ∙ cell_frame K top pos ψ S h r x s);
      }
      go table s = absurd (tabled h s q)

  below : (i : ℕ) (q : Path) (h r : ℕ) (y : SpecFrame) → i < K → Found q h (r * K + i) y → Found (i ∷ q) (suc h) r y
  below i q h r y l F = record {
    v = F.v;
    j = F.j;
    x = F.x;
    n = suc F.n;
    height = omega (arith, F.height);
    around = ap (λ (z : ℕ). z / K) F.around ∙ digits_div r l;
    there = F.there;
    path = let e = ap (λ (z : ℕ). z % K) F.around ∙ digits_mod r l in let p = F.path in λ t. sym e t ∷ p t;
    is = F.is;
  }

  leads_frame : (q : Path) (h r : ℕ) (y : SpecFrame) → Leads q (cell K top pos ψ S h r) (Frame y) → Found q h r y
  leads_frame [] h r y z = here h r y z
  leads_frame (i ∷ q) zero r y z = absurd (go (S zero r) z)
    where
      go : (e : Ent) → Leads (i ∷ q) (pick K top pos ψ e (ψ zero) Empty) (Frame y) → ⊥
      go empty z = z
      go (frame x) z = z
      go table z = z
  leads_frame (i ∷ q) (suc h) r y z = go (S (suc h) r) z (λ r z. leads_frame q h r y z)
    where
      Down : Type 0
      Down = (r : ℕ) → Leads q (cell K top pos ψ S h r) (Frame y) → Found q h r y

      in_it : (b : Bool) → ltb i K ≡ b → Leads q (cond b (cell K top pos ψ S h (r * K + i)) Empty) (Frame y) → Down → Found (i ∷ q) (suc h) r y
      in_it true l z f = below i q h r y (ltb-true i K l) (f (r * K + i) z)
      in_it false l z f = absurd (leads_none q y z)

      go : (e : Ent) → Leads (i ∷ q) (pick K top pos ψ e (ψ (suc h)) (Node (top - suc h) (kids K top pos ψ S h r))) (Frame y) → Down → Found (i ∷ q) (suc h) r y
      go empty z f = absurd z
      go (frame x) z f = absurd z
      go table z f = in_it (ltb i K) refl z f

  -- the indices are those of entries
  steps_down : (σ : ℕ → ℕ) (v n h k : ℕ) → k + h ≡ top → n ≤ h → Steps (record { levels = top; count = λ l. K; size_of = σ }) k (down K top pos ψ v n h)
  steps_down σ v zero h k e l = tt
  steps_down σ v (suc n) zero k e l = absurd (omega arith)
  steps_down σ v (suc n) (suc h) k e l = (omega arith, mod-lt (anc K h v) pos, steps_down σ v n h (suc k) (omega arith) (omega arith))

-- a path depends on the region where it ends alone
down_same : (K top : ℕ) (pos : 0 < K) (ψ : ℕ → ℕ → SpecFrame) (u v j n h : ℕ) → h ≡ j + n → anc K j u ≡ anc K j v → (down K top pos ψ u n h ≡ down K top pos ψ v n h) × (anc K h u ≡ anc K h v)
down_same K top pos ψ u v j zero h e q = let z : h ≡ j = omega arith in (refl, subst (λ (i : ℕ). anc K i u ≡ anc K i v) (sym z) q)
down_same K top pos ψ u v j (suc n) zero e q = absurd (omega arith)
down_same K top pos ψ u v j (suc n) (suc h) e q =
    let (a, b) = down_same K top pos ψ u v j n h (omega arith) q in
    ((λ t. (b t % K) ∷ a t), ap (λ (z : ℕ). z / K) b)

-- ---- of a pool's words

module _ (G : Granule) (Z : Sane G) {p : Pool} (w : WfTree G p) (good : good_pool G p ≡ true) where
  abbrev I : SimIf G Z ⊥ ⊥ p (ledger_of G p)
  I = wf_sim G Z (good_setup_lem good) w (λ c. absurd c)

  abbrev top : ℕ
  top = p.numbers.levels

  abbrev K : ℕ
  K = entries G

  abbrev tree : NodeEntry
  tree = cell K top (entries_pos G) (φ G Z) I.S top 0

  tree_is : tree_of G p ≡ tree
  tree_is = root_is G Z (area G Z I) top (al G Z I) p.words (R G Z I) (top - 1) (root_at G Z I)

  abbrev root_kids : ℕ → NodeEntry
  root_kids = kids K top (entries_pos G) (φ G Z) I.S (top - 1) 0

  tree_node : tree ≡ Node 0 root_kids
  tree_node =
      let e = root_at G Z I in
      let z : top - suc (top - 1) ≡ 0 = omega arith in
      ap (λ (h : ℕ). cell K top (entries_pos G) (φ G Z) I.S h 0) (sym e)
      ∙ cell_table K top (entries_pos G) (φ G Z) I.S (top - 1) 0 (ap (λ (h : ℕ). I.S h 0) e ∙ (R G Z I).root) ∙ ap (λ (n : ℕ). Node n root_kids) z

  maps_tree : (q : Path) (y : SpecFrame) → MapsTo (arch_of G top) (tree_of G p) q y ↔ (Steps (arch_of G top) 0 q × Leads q tree (Frame y))
  maps_tree q y = subst (λ (e : NodeEntry). MapsTo (arch_of G top) e q y ↔ (Steps (arch_of G top) 0 q × Leads q tree (Frame y))) (sym (tree_is ∙ tree_node))
      (subst (λ (e : NodeEntry). MapsTo (arch_of G top) (Node 0 root_kids) q y ↔ (Steps (arch_of G top) 0 q × Leads q e (Frame y))) (sym tree_node) (maps_is (arch_of G top) 0 root_kids q y))

  -- a frame stands below the root, at a height that frames have, and its path is its address's
  module _ (j v x : ℕ) (q : I.S j (anc K j v) ≡ frame x) where
    filled : I.S j (anc K j v) ≢ empty
    filled e = empty≢frame e q

    inside : j < top
    inside = go (ℕ_discrete j top)
      where
        go : Dec (j ≡ top) → j < top
        go (yes e) =
            let s : I.S top (anc K top v) ≡ frame x = subst (λ (i : ℕ). I.S i (anc K i v) ≡ frame x) e q in
            absurd (table≢frame (R G Z I).root (ap (I.S top) (sym ((R G Z I).only (anc K top v) (λ z. empty≢frame z s))) ∙ s))
        go (no n) = omega (arith, (R G Z I).bound j (anc K j v) filled)

    above : (h : ℕ) → j < h → h ≤ top → I.S h (anc K h v) ≡ table
    above h a b = chain (R G Z I) v j filled h a b

    around : anc K top v ≡ 0
    around = (R G Z I).only (anc K top v) (table≢empty (above top inside (omega arith)))

    abbrev it : Mapping
    it = mapping j (anc K j v) x

    height_is : height_of G (size_at G j) ≡ j
    height_is = size_height G Z ((R G Z I).good j (anc K j v) x q).level

    path_of_lem : path_to G top (shown G Z it).at (height_of G (shown G Z it).size) ≡ down K top (entries_pos G) (φ G Z) v (top - j) top
    path_of_lem =
        ap (λ (i : ℕ). take (top - i) (indices G (shown G Z it).at top)) height_is ∙ path_is G Z top (shown G Z it).at (top - j) top
        ∙ (down_same K top (entries_pos G) (φ G Z) (pg G Z (shown G Z it).at) v j (top - j) top (omega (arith, inside)) (ap (anc K j) (page_of G Z j (anc K j v)) ∙ anc_page K j (anc K j v) (entries_pos G))).0

    mapped : MapsTo (arch_of G top) (tree_of G p) (path_to G top (shown G Z it).at (height_of G (shown G Z it).size)) (frame_of (shown G Z it))
    mapped = subst (λ (o : Path). MapsTo (arch_of G top) (tree_of G p) o (φ G Z j x)) (sym path_of_lem) ((maps_tree (down K top (entries_pos G) (φ G Z) v (top - j) top) (φ G Z j x)).1 (
      steps_down K top (entries_pos G) (φ G Z) I.S (arch_of G top).size_of v (top - j) top 0 (omega arith) (omega arith),
      subst (λ (r : ℕ). Leads (down K top (entries_pos G) (φ G Z) v (top - j) top) (cell K top (entries_pos G) (φ G Z) I.S top r) (Frame (φ G Z j x))) around
          (frame_leads K top (entries_pos G) (φ G Z) I.S v j x q above (top - j) top (omega (arith, inside)) (omega arith)),
    ))

  -- a mapping in the words is one of upstream's: its frame, at the path of its address to the height of its size
  pub in_tree_maps : (m : answers.Mapping) → InTree G p m → MapsTo (arch_of G top) (tree_of G p) (path_to G top m.at (height_of G m.size)) (frame_of m)
  in_tree_maps m i =
      let (k, b, e) = Memᴰ.of_map (shown G Z) I.L (subst (λ (l : List answers.Mapping). Memᴰ m l) I.live_is (sim_listed G Z I m i)) in
      let s = I.inv.holds.live k b in
      let z = anc_page K k.h k.r (entries_pos G) in
      let u = mapped k.h (page K k.h k.r) k.x (ap (I.S k.h) z ∙ s) in
      subst (λ (a : answers.Mapping). MapsTo (arch_of G top) (tree_of G p) (path_to G top a.at (height_of G a.size)) (frame_of a)) (ap (λ (r : ℕ). shown G Z (mapping k.h r k.x)) z ∙ e) u

  -- and there are no others
  pub maps_in_tree : (q : Path) (y : SpecFrame) → MapsTo (arch_of G top) (tree_of G p) q y
      → (m : answers.Mapping) × InTree G p m × (q ≡ path_to G top m.at (height_of G m.size)) × (y ≡ frame_of m)
  maps_in_tree q y s =
      let F = leads_frame K top (entries_pos G) (φ G Z) I.S q top 0 y ((maps_tree q y).0 s).1 in
      let k = it F.j F.v F.x F.there in
      let n : F.n ≡ top - F.j = omega (arith, F.height) in (
        shown G Z k,
        sim_live G Z I (shown G Z k) (subst (λ (l : List answers.Mapping). Memᴰ (shown G Z k) l) (sym I.live_is) (Memᴰ.map (shown G Z) (I.inv.holds.listed F.j (anc K F.j F.v) F.x F.there))),
        F.path ∙ ap (λ (i : ℕ). down K top (entries_pos G) (φ G Z) F.v i top) n ∙ sym (path_of_lem F.j F.v F.x F.there),
        F.is,
      )
