-- A walk over a pool's words is upstream's visit of the tree that they hold: it goes as far, and ends at the same entry.
use Rattle.std.specs.Prelude.{◌≡◌, refl, ◌≢◌, ◌⊎◌, true, List, [], ◌∷◌, ℕ, zero, suc, ◌+◌, ◌-◌, ◌%◌, ◌≤◌, ◌<◌, length}
use Rattle.std.proofs.Common.{ap, sym, ◌∙◌, subst, ⊎_elim, arith}
use Rattle.path.specs.Geometry.{Granule, entries, size_at, space_of, Sane}
use Rattle.path.specs.Laws.{entries_pos}
use Rattle.entry.proofs.Laws.{framed_paged}
use Rattle.entry.specs.declared.Entry.TheVariants as said
use Rattle.model.specs.Answers.{Pool}
use Rattle.model.specs.declared.Walked.{Walked}
use Rattle.model.specs.Calls.{good_pool, walk_to}
use Rattle.tree.specs.Region.{anc}
use Rattle.tree.specs.Tree.{Ent, empty, frame, table}
use Rattle.demand.specs.Shown.{pg}
use Rattle.demand.specs.Arm.{read_entry, payload_base, payload_attrs}
use Rattle.demand.specs.Walks.{Ended}
use Rattle.demand.specs.Holds.{WfTree}
use Rattle.demand.specs.Queries.{area, al, R, k₀, few, root_at, walk_ended, tables_above, entry_empty, entry_frame}
use Rattle.upstream.specs.Values.{SpecFrame, NodeEntry, Frame, Empty, Path, visit, ending}
use Rattle.upstream.specs.ValueTrees.{path_to, tree_of}
use Rattle.upstream.proofs.ValueCells.{cell, kids, cell_empty, cell_frame, cell_table, kids_own, down}
use Rattle.upstream.proofs.ValueMaps.{φ, path_is}
use Rattle.upstream.proofs.ValueRefusals.{I, tree_is}

-- ---- of the theory's tree, with tables above height s, and at s no table or the target

module _ (K top : ℕ) (pos : 0 < K) (ψ : ℕ → ℕ → SpecFrame) (v : ℕ) (S : ℕ → ℕ → Ent) (s g : ℕ) (low : g ≤ s)
    (over : (h : ℕ) → s < h → h ≤ top → S h (anc K h v) ≡ table) (last : (S s (anc K s v) ≢ table) ⊎ (s ≡ g)) where
  abbrev at : ℕ → NodeEntry
  at h = cell K top pos ψ S h (anc K h v)

  abbrev Visits : ℕ → ℕ → ℕ → Type 0
  Visits m n h = (ending (down K top pos ψ v n h) (at h) ≡ at s) × (length (visit (down K top pos ψ v n h) (at h)) ≡ m)

  visits : (m n h : ℕ) → h ≡ s + m → h ≡ g + n → h ≤ top → Visits m n h
  visits zero zero h e d b = (let z : h ≡ s = omega arith in ap at z, refl)
  visits zero (suc n) h e d b = let z : h ≡ s = omega arith in go (S s (anc K s v)) refl z
    where
      stay : (p : Path) (u : NodeEntry) → (visit p u ≡ []) → (ending p u ≡ u) × (length (visit p u) ≡ 0)
      stay p u q = (ap (λ (l : List NodeEntry). Rattle.upstream.specs.Values.last_of u l) q, ap (λ (l : List NodeEntry). length l) q)

      none : (p : Path) → visit p Empty ≡ []
      none [] = refl
      none (i ∷ p) = refl

      framed : (p : Path) (y : SpecFrame) → visit p (Frame y) ≡ []
      framed [] y = refl
      framed (i ∷ p) y = refl

      is : (u : NodeEntry) → at s ≡ u → h ≡ s → ((ending (down K top pos ψ v (suc n) h) u ≡ u) × (length (visit (down K top pos ψ v (suc n) h) u) ≡ 0)) → Visits 0 (suc n) h
      is u q z f = subst (λ (y : NodeEntry). (ending (down K top pos ψ v (suc n) h) y ≡ at s) × (length (visit (down K top pos ψ v (suc n) h) y) ≡ 0)) (sym (ap at z ∙ q)) (f.0 ∙ sym q, f.1)

      go : (c : Ent) → S s (anc K s v) ≡ c → h ≡ s → Visits 0 (suc n) h
      go empty q z = is Empty (cell_empty K top pos ψ S s (anc K s v) q) z (stay (down K top pos ψ v (suc n) h) Empty (none (down K top pos ψ v (suc n) h)))
      go (frame x) q z = is (Frame (ψ s x)) (cell_frame K top pos ψ S s (anc K s v) x q) z (stay (down K top pos ψ v (suc n) h) (Frame (ψ s x)) (framed (down K top pos ψ v (suc n) h) (ψ s x)))
      go table q z = absurd (⊎_elim (λ f. f q) (λ f. omega arith) last)
  visits (suc m) zero h e d b = absurd (omega arith)
  visits (suc m) (suc n) zero e d b = absurd (omega arith)
  visits (suc m) (suc n) (suc h) e d b =
      let o : (ending (down K top pos ψ v n h) (kids K top pos ψ S h (anc K (suc h) v) (anc K h v % K)) ≡ at s) × (length (visit (down K top pos ψ v n h) (kids K top pos ψ S h (anc K (suc h) v) (anc K h v % K))) ≡ m)
      = subst (λ (u : NodeEntry). (ending (down K top pos ψ v n h) u ≡ at s) × (length (visit (down K top pos ψ v n h) u) ≡ m)) (sym (kids_own K top pos ψ v S h)) (visits m n h (omega arith) (omega arith) (omega arith))
      in
      subst (λ (u : NodeEntry). (ending ((anc K h v % K) ∷ down K top pos ψ v n h) u ≡ at s) × (length (visit ((anc K h v % K) ∷ down K top pos ψ v n h) u) ≡ suc m))
      (sym (cell_table K top pos ψ S h (anc K (suc h) v) (over (suc h) (omega arith) b))) (o.0, ap suc o.1)

-- ---- of a pool's words

module _ (G : Granule) (Z : Sane G) {p : Pool} (w : WfTree G p) (good : good_pool G p ≡ true) (a : ℕ) (in_space : a < space_of G p.numbers.levels) (g : ℕ) (low : g < p.numbers.levels) where
  abbrev top : ℕ
  top = p.numbers.levels

  abbrev o : Walked
  o = walk_to G p g a

  abbrev v : ℕ
  v = pg G Z a

  lower : g ≤ k₀ G Z (I G Z w good)
  lower = omega (arith, root_at G Z (I G Z w good))

  abbrev E : Ended G Z (area G Z (I G Z w good)) top (al G Z (I G Z w good)) (few G Z (I G Z w good)) p.words (R G Z (I G Z w good)) a g (k₀ G Z (I G Z w good)) o
  E = walk_ended G Z (I G Z w good) g a lower in_space

  went : (ending (path_to G top a g) (tree_of G p) ≡ cell (entries G) top (entries_pos G) (φ G Z) (I G Z w good).S o.left (anc (entries G) o.left v)) × (length (visit (path_to G top a g) (tree_of G p)) ≡ top - o.left)
  went =
      let (x, y) = visits (entries G) top (entries_pos G) (φ G Z) v (I G Z w good).S o.left g (E.ends.target lower) (tables_above G Z (I G Z w good) g a o E) E.ends.done
      (top - o.left) (top - g) top (omega (arith, E.ends.low, root_at G Z (I G Z w good))) (omega arith) (omega arith)
      in
      ((λ i. ending (path_is G Z top a (top - g) top i) (tree_is G Z w good a in_space i)) ∙ x, (λ i. length (visit (path_is G Z top a (top - g) top i) (tree_is G Z w good a in_space i))) ∙ y)

  -- it goes as far
  pub walk_visits : length (visit (path_to G top a g) (tree_of G p)) ≡ top - o.left
  walk_visits = went.1

  -- and ends at an empty entry, or at the frame, where the visit does
  pub walk_ends_empty : o.entry ≡ said.Empty → ending (path_to G top a g) (tree_of G p) ≡ Empty
  walk_ends_empty q = went.0 ∙ cell_empty (entries G) top (entries_pos G) (φ G Z) (I G Z w good).S o.left (anc (entries G) o.left v) (entry_empty _ _ (ap read_entry (sym q) ∙ E.ends.says_is))

  pub walk_ends_frame : (b k : ℕ) → o.entry ≡ said.Frame b k → ending (path_to G top a g) (tree_of G p) ≡ Frame (record { base = b; size = size_at G o.left; attributes = k })
  walk_ends_frame b k q =
      let F = E.framed b k q in
      let x = payload_base G Z (area G Z (I G Z w good)) top (al G Z (I G Z w good)) b k (framed_paged Z F) F.few in
      let y = payload_attrs G Z (area G Z (I G Z w good)) top (al G Z (I G Z w good)) b k (framed_paged Z F) F.few in
      went.0 ∙ cell_frame (entries G) top (entries_pos G) (φ G Z) (I G Z w good).S o.left (anc (entries G) o.left v) (b + k) (entry_frame _ _ (b + k) (ap read_entry (sym q) ∙ E.ends.says_is))
      ∙ (λ i. Frame (record { base = x i; size = size_at G o.left; attributes = y i }))
