-- Where a map or an unmap of a well-formed tree is refused for what it meets there, upstream's insert or remove of that tree fails.
use Rattle.std.specs.Prelude.{◌≡◌, ◌≢◌, ◌⊎◌, Bool, true, false, cond, List, [], ◌∷◌, ℕ, zero, suc, ◌+◌, ◌-◌, ◌%◌, ◌≤◌, ◌<◌, ltb, eqb, length, take, replicate}
use Rattle.std.proofs.Math.Path.{refl}
use Rattle.std.proofs.Common.{ap, sym, ◌∙◌, inl, inr, ⊎_elim, arith}
use Rattle.std.proofs.lemmas.Bool.{eqb-false}
use Rattle.laws.specs.Lists.{all_zero}
use Rattle.laws.specs.ListLaws.{all_zero_at, all_zero_of}
use Rattle.path.specs.Geometry.{Granule, page_size, entries, size_at, space_of, height_of, Sane}
use Rattle.path.specs.Areas.{area_of, total}
use Rattle.path.specs.Laws.{entries_pos, good_setup_lem}
use Rattle.path.specs.Paths.{indices}
use Rattle.path.specs.PathLaws.{indices_length}
use Rattle.path.specs.RegionLaws.{zeros_aligned}
use Rattle.entry.specs.declared.Entry.{Entry}
use Rattle.entry.specs.declared.Entry.TheVariants as said
use Rattle.model.specs.Answers as answers
use Rattle.model.specs.Answers.{took, gave, refused, Pool, done, refuse}
use Rattle.model.specs.declared.Walked.{Walked}
use Rattle.model.specs.Writes.{may_take, freed}
use Rattle.model.specs.Calls.{good_pool, walk_to, written, map_tests, map_here, map_at, map_w, unmap_here, unmap_at, unmap_w}
use Rattle.tree.specs.Region.{anc}
use Rattle.tree.specs.Tree.{Ent, empty, frame, table}
use Rattle.demand.specs.Shown.{pg}
use Rattle.demand.specs.Arm.{read_entry}
use Rattle.demand.specs.Walks.{Ended, entry_table}
use Rattle.demand.specs.Holds.{WfTree, ledger_of}
use Rattle.demand.specs.Sims.{SimIf, wf_sim}
use Rattle.demand.specs.Queries.{area, al, R, k₀, few, root_at, top_zero, walk_ended, tables_above, entry_empty, entry_frame}
use Rattle.demand.specs.Maps.{Fine, tests_fine, low}
use Rattle.upstream.specs.State.{MapPre, UnmapPre}
use Rattle.upstream.proofs.Trait.{map_pre, unmap_pre}
use Rattle.upstream.proofs.Calls.{took_not, gave_not}
use Rattle.upstream.specs.Calls.{writes_of_map, writes_of_unmap}
use Rattle.upstream.specs.Values.{SpecFrame, NodeEntry, Frame, Path, insert, remove}
use Rattle.upstream.proofs.ValueRemoves.{remove_frame, remove_empty}
use Rattle.upstream.specs.ValueTrees.{frame_of, path_to, tree_of}
use Rattle.upstream.proofs.ValueCells.{cell, cell_empty, cell_frame, cell_table, kids_own, down}
use Rattle.upstream.proofs.ValueMaps.{φ, root_is, path_is}
use Rattle.upstream.proofs.ValueUnmaps.{whole}

into_frame : (k : ℕ) (p : Path) (y z : SpecFrame) → (insert k p y (Frame z)).ok ≡ false
into_frame k [] y z = refl
into_frame k (i ∷ p) y z = refl

-- ---- of the theory's tree, with tables above height s

module _ (K top : ℕ) (pos : 0 < K) (ψ : ℕ → ℕ → SpecFrame) (v : ℕ) (S : ℕ → ℕ → Ent) (leaf : (r : ℕ) → S 0 r ≢ table) (s : ℕ) (over : (h : ℕ) → s < h → h ≤ top → S h (anc K h v) ≡ table) where
  abbrev at : ℕ → NodeEntry
  at h = cell K top pos ψ S h (anc K h v)

  -- a frame, or a table at the target, stops an insert
  insert_stops : (g : ℕ) (y : SpecFrame) → g ≤ s → ((x : ℕ) × (S s (anc K s v) ≡ frame x)) ⊎ ((s ≡ g) × (S s (anc K s v) ≡ table))
      → (m n h k : ℕ) → h ≡ s + m → h ≡ g + n → h ≤ top → (insert k (down K top pos ψ v n h) y (at h)).ok ≡ false
  insert_stops g y l (inl (x, q)) zero n h k e d b =
      let z : h ≡ s = omega arith in
      ap (λ (u : NodeEntry). (insert k (down K top pos ψ v n h) y u).ok) (ap at z ∙ cell_frame K top pos ψ S s (anc K s v) x q) ∙ into_frame k (down K top pos ψ v n h) y (ψ s x)
  insert_stops g y l (inr (c, q)) zero zero zero k e d b = absurd (leaf (anc K 0 v) (let z : 0 ≡ s = omega arith in ap (λ (i : ℕ). S i (anc K i v)) z ∙ q))
  insert_stops g y l (inr (c, q)) zero zero (suc h) k e d b =
      ap (λ (u : NodeEntry). (insert k [] y u).ok) (cell_table K top pos ψ S h (anc K (suc h) v) (let z : suc h ≡ s = omega arith in ap (λ (i : ℕ). S i (anc K i v)) z ∙ q))
  insert_stops g y l (inr (c, q)) zero (suc n) h k e d b = absurd (omega arith)
  insert_stops g y l a (suc m) zero h k e d b = absurd (omega arith)
  insert_stops g y l a (suc m) (suc n) zero k e d b = absurd (omega arith)
  insert_stops g y l a (suc m) (suc n) (suc h) k e d b =
      ap (λ (u : NodeEntry). (insert k ((anc K h v % K) ∷ down K top pos ψ v n h) y u).ok) (cell_table K top pos ψ S h (anc K (suc h) v) (over (suc h) (omega arith) b))
      ∙ ap (λ (u : NodeEntry). (insert (suc (top - suc h)) (down K top pos ψ v n h) y u).ok) (kids_own K top pos ψ v S h)
      ∙ insert_stops g y l a m n h (suc (top - suc h)) (omega arith) (omega arith) (omega arith)

  -- an empty entry, or a frame with more than zeros after it, stops a remove
  remove_stops : (S s (anc K s v) ≡ empty) ⊎ (((x : ℕ) × (S s (anc K s v) ≡ frame x)) × (all_zero (down K top pos ψ v s s) ≡ false))
      → (m h : ℕ) → h ≡ s + m → h ≤ top → (remove (down K top pos ψ v h h) (at h)).ok ≡ false
  remove_stops (inl q) zero h e b =
      let z : h ≡ s = omega arith in
      ap (λ (u : NodeEntry). (remove (down K top pos ψ v h h) u).ok) (ap at z ∙ cell_empty K top pos ψ S s (anc K s v) q) ∙ (remove_empty (down K top pos ψ v h h)).1
  remove_stops (inr ((x, q), n)) zero h e b =
      let z : h ≡ s = omega arith in
      ap (λ (i : ℕ). (remove (down K top pos ψ v i i) (at i)).ok) z
      ∙ ap (λ (u : NodeEntry). (remove (down K top pos ψ v s s) u).ok) (cell_frame K top pos ψ S s (anc K s v) x q) ∙ ((remove_frame (down K top pos ψ v s s) (ψ s x)).1 n).1
  remove_stops a (suc m) zero e b = absurd (omega arith)
  remove_stops a (suc m) (suc h) e b =
      ap (λ (u : NodeEntry). (remove ((anc K h v % K) ∷ down K top pos ψ v h h) u).ok) (cell_table K top pos ψ S h (anc K (suc h) v) (over (suc h) (omega arith) b))
      ∙ ap (λ (u : NodeEntry). (remove (down K top pos ψ v h h) u).ok) (kids_own K top pos ψ v S h)
      ∙ remove_stops a m h (omega arith) (omega arith)

-- ---- of a pool's words

module _ (G : Granule) (Z : Sane G) {p : Pool} (w : WfTree G p) (good : good_pool G p ≡ true) where
  abbrev pub I : SimIf G Z ⊥ ⊥ p (ledger_of G p)
  I = wf_sim G Z (good_setup_lem good) w (λ c. absurd c)

  abbrev top : ℕ
  top = p.numbers.levels

  module _ (a : ℕ) (in_space : a < space_of G top) where
    abbrev v : ℕ
    v = pg G Z a

    pub tree_is : tree_of G p ≡ cell (entries G) top (entries_pos G) (φ G Z) I.S top (anc (entries G) top v)
    tree_is = root_is G Z (area G Z I) top (al G Z I) p.words (R G Z I) (top - 1) (root_at G Z I)
        ∙ ap (cell (entries G) top (entries_pos G) (φ G Z) I.S top) (sym (ap (λ (j : ℕ). anc (entries G) j v) (sym (root_at G Z I)) ∙ top_zero G Z I a in_space))

    module _ (g : ℕ) (lower : g ≤ k₀ G Z I) where
      abbrev o : Walked
      o = walk_to G p g a

      abbrev E : Ended G Z (area G Z I) top (al G Z I) (few G Z I) p.words (R G Z I) a g (k₀ G Z I) o
      E = walk_ended G Z I g a lower in_space

      abbrev Stood : Type 0
      Stood = ((x : ℕ) × (I.S o.left (anc (entries G) o.left v) ≡ frame x)) ⊎ ((o.left ≡ g) × (I.S o.left (anc (entries G) o.left v) ≡ table))

      -- the walk ends at a frame or a table
      insert_fails : (y : SpecFrame) → Stood → (insert 0 (path_to G top a g) y (tree_of G p)).ok ≡ false
      insert_fails y q = (λ i. (insert 0 (path_is G Z top a (top - g) top i) y (tree_is i)).ok)
          ∙ insert_stops (entries G) top (entries_pos G) (φ G Z) v I.S (R G Z I).leaf o.left (tables_above G Z I g a o E) g y (E.ends.target lower) q
          (top - o.left) (top - g) top 0 (omega (arith, E.ends.low, root_at G Z I)) (omega (arith, root_at G Z I)) (omega arith)

    -- the walk to the last level ends at an empty entry, or at a frame that does not begin at the address
    remove_fails : (let s = (walk_to G p 0 a).left in (I.S s (anc (entries G) s v) ≡ empty) ⊎ (((x : ℕ) × (I.S s (anc (entries G) s v) ≡ frame x)) × ((a % page_size G ≡ 0) × (a % size_at G s ≢ 0))))
        → (remove (path_to G top a 0) (tree_of G p)).ok ≡ false
    remove_fails q = (λ i. (remove (path i) (tree_is i)).ok)
        ∙ remove_stops (entries G) top (entries_pos G) (φ G Z) v I.S (R G Z I).leaf s (tables_above G Z I 0 a (walk_to G p 0 a) E₀) (⊎_elim (λ z. inl z) (λ (f, (c, d)). inr (f, some c d)) q)
        (top - s) top (omega (arith, E₀.ends.low, root_at G Z I)) (omega arith)
      where
        s : ℕ
        s = (walk_to G p 0 a).left

        E₀ : Ended G Z (area G Z I) top (al G Z I) (few G Z I) p.words (R G Z I) a 0 (k₀ G Z I) (walk_to G p 0 a)
        E₀ = walk_ended G Z I 0 a (omega arith) in_space

        path : path_to G top a 0 ≡ down (entries G) top (entries_pos G) (φ G Z) v top top
        path = let z : top - 0 ≡ top = omega arith in ap (λ (n : ℕ). take n (indices G a top)) z ∙ path_is G Z top a top top

        zeros_list : (l : List ℕ) → all_zero l ≡ true → l ≡ replicate (length l) 0
        zeros_list [] e = refl
        zeros_list (i ∷ l) e = let h = all_zero_at (i ∷ l) e 0 in let r = zeros_list l (all_zero_of l (λ j _. all_zero_at (i ∷ l) e (suc j))) in λ t. h t ∷ r t

        some : a % page_size G ≡ 0 → a % size_at G s ≢ 0 → all_zero (down (entries G) top (entries_pos G) (φ G Z) v s s) ≡ false
        some c d = go (all_zero (down (entries G) top (entries_pos G) (φ G Z) v s s)) refl
          where
            go : (b : Bool) → all_zero (down (entries G) top (entries_pos G) (φ G Z) v s s) ≡ b → b ≡ false
            go false e = refl
            go true e =
                let is : indices G a s ≡ down (entries G) top (entries_pos G) (φ G Z) v s s = sym (whole s (indices G a s) (omega (arith, indices_length G a s))) ∙ path_is G Z top a s s in
                absurd (d (zeros_aligned G a s c (zeros_list (indices G a s) (ap all_zero is ∙ e) ∙ ap (λ (n : ℕ). replicate n 0) (indices_length G a s))))

  -- refusal 6: insert fails
  pub map_refused : (m : answers.Mapping) → MapPre G (ledger_of G p) m → (map_w G p m.at m.frame m.size m.attributes).answer ≡ refused 6
      → (insert 0 (path_to G top m.at (height_of G m.size)) (frame_of m) (tree_of G p)).ok ≡ false
  unfolding map_w map_at map_here
  map_refused m ok e = by o₁.entry refl (rw (good, tests) at e)
    where
      tests : map_tests G top (area_of p.numbers) m.at m.frame m.size m.attributes ≡ 0
      tests = (map_pre G Z (ledger_of G p) (good_setup_lem good).numbers.enough (good_setup_lem good).numbers.not_more m).1 ok

      F : Fine G top (area_of p.numbers) m.at m.frame m.size m.attributes
      F = tests_fine G top (area_of p.numbers) m.at m.frame m.size m.attributes tests

      g : ℕ
      g = height_of G m.size

      lower : g ≤ k₀ G Z I
      lower = low G Z I m.at m.frame m.size m.attributes F

      o₁ : Walked
      o₁ = walk_to G p g m.at

      E₁ : Ended G Z (area G Z I) top (al G Z I) (few G Z I) p.words (R G Z I) m.at g (k₀ G Z I) o₁
      E₁ = walk_ended G Z I g m.at lower F.start_in

      Fails : Type 0
      Fails = (insert 0 (path_to G top m.at g) (frame_of m) (tree_of G p)).ok ≡ false

      by : (n : Entry) → o₁.entry ≡ n → (map_at G p m.at m.frame g m.attributes o₁ n).answer ≡ refused 6 → Fails
      by (said.Frame b x) q e = insert_fails m.at F.start_in g lower (frame_of m) (inl (b + x, entry_frame _ _ (b + x) (ap read_entry (sym q) ∙ E₁.ends.says_is)))
      by (said.Table c) q e =
          let s = (entry_table _ _ c (ap read_entry (sym q) ∙ E₁.ends.says_is)).0 in
          insert_fails m.at F.start_in g lower (frame_of m) (inr (⊎_elim (λ n. absurd (n s)) (λ z. z) E₁.ends.done, s))
      by said.Damaged q e = let z : ◌≡◌ {A = ℕ} 6 8 = cc in absurd (omega arith)
      by said.Empty q e = at₁ (ltb p.numbers.free (o₁.left - g)) (may_take p.list (total (area_of p.numbers)) o₁.tables p.numbers.free (o₁.left - g)) e
        where
          at₁ : (x y : Bool) → (cond x (refuse 7 p) (cond y (done (took (o₁.left - g)) (written G p (writes_of_map G p m.at m.frame m.size m.attributes) (p.numbers.free - (o₁.left - g)))) (refuse 8 p))).answer ≡ refused 6 → Fails
          at₁ true y e = let z : ◌≡◌ {A = ℕ} 6 7 = cc in absurd (omega arith)
          at₁ false true e = absurd (took_not e)
          at₁ false false e = let z : ◌≡◌ {A = ℕ} 6 8 = cc in absurd (omega arith)

  -- refusals 9 and 10: remove fails
  pub unmap_refused : (a n : ℕ) (l : List ℕ) → UnmapPre G (ledger_of G p) a → (n ≡ 9) ⊎ (n ≡ 10) → (unmap_w G p a).answer ≡ answers.refusal n l → (remove (path_to G top a 0) (tree_of G p)).ok ≡ false
  unfolding unmap_w unmap_at unmap_here
  unmap_refused a n l pre c e = by o₁.entry refl (rw (good, (unmap_pre G Z (ledger_of G p) a).1 pre) at e)
    where
      o₁ : Walked
      o₁ = walk_to G p 0 a

      not_eight : n ≢ 8
      not_eight = ⊎_elim (λ z. omega arith) (λ z. omega arith) c

      E₁ : Ended G Z (area G Z I) top (al G Z I) (few G Z I) p.words (R G Z I) a 0 (k₀ G Z I) o₁
      E₁ = walk_ended G Z I 0 a (omega arith) pre.in_space

      Fails : Type 0
      Fails = (remove (path_to G top a 0) (tree_of G p)).ok ≡ false

      by : (w : Entry) → o₁.entry ≡ w → (unmap_at G p a o₁ w).answer ≡ answers.refusal n l → Fails
      by said.Empty q e = remove_fails a pre.in_space (inl (entry_empty _ _ (ap read_entry (sym q) ∙ E₁.ends.says_is)))
      by (said.Table d) q e = let z : ◌≡◌ {A = ℕ} 8 n = cc in absurd (not_eight (sym z))
      by said.Damaged q e = let z : ◌≡◌ {A = ℕ} 8 n = cc in absurd (not_eight (sym z))
      by (said.Frame b k) q e = at₁ (eqb (a % size_at G o₁.left) 0) refl e
        where
          given : ℕ
          given = freed G p.words o₁.tables (Rattle.path.specs.Paths.path_of G a) o₁.left (p.numbers.levels - 1 - o₁.left)

          full : (y : Bool) → (cond y (refuse 8 p) (done (gave b (size_at G o₁.left) k given) (written G p (writes_of_unmap G p a) (p.numbers.free + given)))).answer ≡ answers.refusal n l → ⊥
          full true e = let z : ◌≡◌ {A = ℕ} 8 n = cc in not_eight (sym z)
          full false e = gave_not e

          at₁ : (y : Bool) → eqb (a % size_at G o₁.left) 0 ≡ y → (cond y (unmap_here G p a b k o₁ given) (refuse 10 p)).answer ≡ answers.refusal n l → Fails
          at₁ true z e = absurd (full (ltb (total (area_of p.numbers) - 1) (p.numbers.free + given)) e)
          at₁ false z e = remove_fails a pre.in_space (inr ((b + k, entry_frame _ _ (b + k) (ap read_entry (sym q) ∙ E₁.ends.says_is)), (pre.aligned, eqb-false _ _ z)))
