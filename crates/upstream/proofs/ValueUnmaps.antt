-- An unmap does to the tree in a pool's words what upstream's remove and prune do.
use Rattle.std.specs.Prelude.{◌≡◌, refl, ◌≢◌, ◌⊎◌, true, List, [], ◌∷◌, length, take}
use Rattle.std.proofs.Math.Path.{ap, sym}
use Rattle.std.proofs.Common.{◌∙◌, subst, inl, inr, mod-lt, arith}
use Rattle.std.proofs.Math.Logic.{ite}
use Prim.Native.Nat.{ℕ, zero, suc, ◌+◌, ◌-◌, ◌*◌, ◌/◌, ◌%◌, ◌≤◌, ◌<◌}
use Rattle.std.proofs.Math.Decide.{ℕ_discrete}
use Rattle.std.proofs.Math.Arith.{digits_div, digits_mod}
use Rattle.laws.specs.Lists.{all_zero}
use Rattle.laws.specs.ListLaws.{all_zero_replicate}
use Rattle.path.specs.Geometry.{Granule, entries, size_at, space_of, Sane}
use Rattle.path.specs.Areas.{area_of}
use Rattle.path.specs.Laws.{entries_pos}
use Rattle.path.specs.Paths.{indices}
use Rattle.path.specs.PathLaws.{indices_length}
use Rattle.path.specs.RegionLaws.{aligned_zeros}
use Rattle.model.specs.Answers.{gave, Pool}
use Rattle.model.specs.Calls.{walk_to, unmap_w}
use Rattle.tree.specs.Region.{anc, upd, upd_at, upd_other}
use Rattle.tree.specs.Tree.{Ent, empty, frame, table, table≢empty, read_empty, Geo, Rendered}
use Rattle.tree.specs.Walk.{read_is, chain}
use Rattle.tree.specs.Inv.{Mapping, without, Store}
use Rattle.tree.specs.Prune as prunes
use Rattle.tree.specs.Prune.{Bare, bare?, some_word, LooseIf, off, kept, rested}
use Rattle.demand.specs.Shown.{pg}
use Rattle.demand.specs.Walks.{way_at}
use Rattle.demand.specs.Carried.{A}
use Rattle.demand.specs.Holds.{WfTree, ledger_of}
use Rattle.demand.specs.Sims.{SimIf}
use Rattle.demand.specs.Queries.{area, al, X, R, k₀, root_at, top_zero, walk_ended, tables_above}
use Rattle.demand.specs.Unmaps as unmaps
use Rattle.upstream.proofs.Calls.{unmap_gave}
use Rattle.upstream.proofs.Remove as gone
use Rattle.upstream.specs.Values.{NodeEntry, remove, prune}
use Rattle.upstream.specs.ValueTrees.{arch_of, path_to, node_at, tree_of}
use Rattle.upstream.proofs.ValueCells.{cell, down, Cut, cut_removed}
use Rattle.upstream.proofs.ValueMaps.{φ, root_is, path_is}

-- ---- what pruning does to a tree of the theory

module _ (X : Geo) (M : Store X) (v : ℕ) (tb : ℕ → ℕ) where
  -- from the table of height h that holds v up: each without an entry is gone, below the root, up to the first that has one
  pub record PrunesTo (h : ℕ) (S S' : ℕ → ℕ → Ent) : Type 0 where
    pub aside : (j r : ℕ) → r ≢ anc X.K j v → S' j r ≡ S j r
    pub below : (j : ℕ) → j < h → S' j (anc X.K j v) ≡ S j (anc X.K j v)
    pub each : (j : ℕ) → h ≤ suc j → suc j < X.top
        → ((S' (suc j) (anc X.K (suc j) v) ≡ empty) × ((r : ℕ) → r / X.K ≡ anc X.K (suc j) v → S' j r ≡ empty))
        ⊎ ((S' (suc j) (anc X.K (suc j) v) ≡ table) × ((r : ℕ) × (r / X.K ≡ anc X.K (suc j) v) × (S' j r ≢ empty)))

  module _ {C D : Type 0} {L : List Mapping} where
    abbrev pub PrunedTo : (d h : ℕ) → LooseIf X M v tb C D L d h → Type 0
    PrunedTo d h o = (T' : ℕ → ℕ → ℕ) × (S' : ℕ → ℕ → Ent) × Rendered X (M.rd (prunes.prune X M v tb d h o.m o.q o.f).m) T' S' × PrunesTo h o.S S'

    module _ (d h : ℕ) (o : LooseIf X M v tb C D L (suc d) (suc h)) where
      abbrev r₀ : ℕ
      r₀ = anc X.K (suc h) v

      at_h : o.T (suc h) r₀ ≡ tb (suc h)
      at_h = sym (o.path (suc h) (omega arith) (omega (arith, o.levels)))

      -- a table of zeros has no entry
      bare_kids : Bare (M.rd o.m) (tb (suc h)) X.K → (r : ℕ) → r / X.K ≡ r₀ → o.S h r ≡ empty
      bare_kids z r b =
          let p : o.S (suc h) (r / X.K) ≡ table = ap (o.S (suc h)) b ∙ o.stands in
          let t : o.T (suc h) (r / X.K) ≡ tb (suc h) = ap (o.T (suc h)) b ∙ at_h in
          let y : M.rd o.m (o.T (suc h) (r / X.K)) (r % X.K) ≡ 0 = ap (λ (c : ℕ). M.rd o.m c (r % X.K)) t ∙ z (r % X.K) (mod-lt r X.K-pos) in
          read_empty _ _ (sym (read_is o.inv.ren h r p) ∙ ap (X.dec h) y ∙ X.dec_empty h)

      -- another has one
      some_kid : (Bare (M.rd o.m) (tb (suc h)) X.K → ⊥) → (r : ℕ) × (r / X.K ≡ r₀) × (o.S h r ≢ empty)
      some_kid n =
          let (i, l, z) = some_word (M.rd o.m) (tb (suc h)) X.K n in
          (r₀ * X.K + i, digits_div r₀ l, λ q. z (word i l q))
        where
          word : (i : ℕ) → i < X.K → o.S h (r₀ * X.K + i) ≡ empty → M.rd o.m (tb (suc h)) i ≡ 0
          word i l q =
              let b = digits_div r₀ l in
              let m = digits_mod r₀ l in
              let p : o.S (suc h) ((r₀ * X.K + i) / X.K) ≡ table = ap (o.S (suc h)) b ∙ o.stands in
              let w = o.inv.ren.words h (r₀ * X.K + i) p in
              (λ s. M.rd o.m ((sym at_h ∙ ap (o.T (suc h)) (sym b)) s) (sym m s)) ∙ w ∙ ap (λ (c : Ent). X.enc h c (o.T h (r₀ * X.K + i))) q ∙ X.enc_empty h (o.T h (r₀ * X.K + i))

      off_to : Bare (M.rd o.m) (tb (suc h)) X.K → (S' : ℕ → ℕ → Ent) → PrunesTo (suc (suc h)) (upd o.S (suc h) r₀ empty) S' → PrunesTo (suc h) o.S S'
      off_to z S' D₁ = record {
        aside = λ j r n. D₁.aside j r n ∙ upd_other o.S (suc h) r₀ empty j r (λ (a, b). n (b ∙ ap (λ (i : ℕ). anc X.K i v) (sym a)));
        below = low;
        each = λ j a b. by j a b (ℕ_discrete j h);
      }
        where
          low : (j : ℕ) → j < suc h → S' j (anc X.K j v) ≡ o.S j (anc X.K j v)
          low j l = D₁.below j (omega arith) ∙ upd_other o.S (suc h) r₀ empty j (anc X.K j v) (λ (a, _). omega arith)

          kid : (r : ℕ) → r / X.K ≡ r₀ → Dec (r ≡ anc X.K h v) → S' h r ≡ empty
          kid r q (yes e) = ap (S' h) e ∙ low h (omega arith) ∙ ap (o.S h) (sym e) ∙ bare_kids z r q
          kid r q (no e) = D₁.aside h r e ∙ upd_other o.S (suc h) r₀ empty h r (λ (a, _). omega arith) ∙ bare_kids z r q

          Each : ℕ → Type 0
          Each j = ((S' (suc j) (anc X.K (suc j) v) ≡ empty) × ((r : ℕ) → r / X.K ≡ anc X.K (suc j) v → S' j r ≡ empty))
              ⊎ ((S' (suc j) (anc X.K (suc j) v) ≡ table) × ((r : ℕ) × (r / X.K ≡ anc X.K (suc j) v) × (S' j r ≢ empty)))

          by : (j : ℕ) → suc h ≤ suc j → suc j < X.top → Dec (j ≡ h) → Each j
          by j a b (yes e) = subst Each (sym e) (inl (D₁.below (suc h) (omega arith) ∙ upd_at o.S (suc h) r₀ empty (suc h) r₀ (refl, refl), λ r q. kid r q (ℕ_discrete r (anc X.K h v))))
          by j a b (no e) = D₁.each j (omega arith) b

      stay_to : (Bare (M.rd o.m) (tb (suc h)) X.K → ⊥) → PrunesTo (suc h) o.S o.S
      stay_to n = record { aside = λ j r _. refl; below = λ j _. refl; each = λ j a b. inr (tabled (suc j) a b (ℕ_discrete (suc j) (suc h)), kid j a b (ℕ_discrete j h)) }
        where
          tabled : (j : ℕ) → suc h ≤ j → j < X.top → Dec (j ≡ suc h) → o.S j (anc X.K j v) ≡ table
          tabled j a b (yes e) = subst (λ (i : ℕ). o.S i (anc X.K i v) ≡ table) (sym e) o.stands
          tabled j a b (no e) = chain o.inv.ren v (suc h) (table≢empty o.stands) j (omega arith) (omega arith)

          kid : (j : ℕ) → suc h ≤ suc j → suc j < X.top → Dec (j ≡ h) → (r : ℕ) × (r / X.K ≡ anc X.K (suc j) v) × (o.S j r ≢ empty)
          kid j a b (yes e) = subst (λ (i : ℕ). (r : ℕ) × (r / X.K ≡ anc X.K (suc i) v) × (o.S i r ≢ empty)) (sym e) (some_kid n)
          kid j a b (no e) = (anc X.K j v, refl, table≢empty (tabled j (omega arith) (omega arith) (ℕ_discrete j (suc h))))

    pub prune_to : (d h : ℕ) (o : LooseIf X M v tb C D L d (suc h)) → PrunedTo d (suc h) o
    unfolding prunes.prune off
    prune_to zero h o = (o.T, o.S, (rested X M v tb o).ren, record { aside = λ j r _. refl; below = λ j _. refl; each = λ j a b. absurd (omega (arith, o.levels)) })
    prune_to (suc d) h o = go (bare? (M.rd o.m) (tb (suc h)) X.K) (λ o. prune_to d (suc h) o)
      where
        go : (b : Dec (Bare (M.rd o.m) (tb (suc h)) X.K)) → ((o : LooseIf X M v tb C D L d (suc (suc h))) → PrunedTo d (suc (suc h)) o)
            → (T' : ℕ → ℕ → ℕ) × (S' : ℕ → ℕ → Ent) × Rendered X (M.rd (ite b
            (prunes.prune X M v tb d (suc (suc h)) (M.wr o.m (tb (suc (suc h))) (anc X.K (suc h) v % X.K) 0) (M.push o.q o.f (tb (suc h))) (suc o.f))
            (prunes.pool {A = M} o.m o.q o.f)).m) T' S' × PrunesTo (suc h) o.S S'
        go (yes a) ih = let (T', S', R', D') = ih (off X M v tb o a) in (T', S', R', off_to d h o a S' D')
        go (no n) ih = (o.T, o.S, (kept X M v tb o n).ren, stay_to d h o n)

-- n indices of n are all
pub whole : (n : ℕ) (l : List ℕ) → length l ≤ n → take n l ≡ l
whole zero [] b = refl
whole zero (i ∷ l) b = absurd (omega arith)
whole (suc n) [] b = refl
whole (suc n) (i ∷ l) b = ap {B = List ℕ} (λ (r : List ℕ). i ∷ r) (whole n l (omega arith))

module _ (G : Granule) (Z : Sane G) where
  -- the indices below a height are zero where the address is a multiple of its size
  zeros : (top a h : ℕ) → a % size_at G h ≡ 0 → all_zero (down (entries G) top (entries_pos G) (φ G Z) (pg G Z a) h h) ≡ true
  zeros top a h e = ap all_zero (sym (path_is G Z top a h h) ∙ whole h (indices G a h) (omega (arith, indices_length G a h)) ∙ aligned_zeros G a h e) ∙ all_zero_replicate h

  module _ {p : Pool} (w : WfTree G p) (a b s x t : ℕ) (e : (unmap_w G p a).answer ≡ gave b s x t) where
    abbrev top : ℕ
    top = p.numbers.levels

    abbrev v : ℕ
    v = pg G Z a

    abbrev h : ℕ
    h = (walk_to G p 0 a).left

    abbrev I : SimIf G Z ⊥ ⊥ p (ledger_of G p)
    I = gone.J₁ G Z w a b s x t e {C = ⊥} (λ c. absurd c)

    abbrev in_space : a < space_of G top
    in_space = (gone.pre G Z w a b s x t e).in_space

    abbrev framed : I.S h (anc (entries G) h v) ≡ frame (b + x)
    framed = gone.framed₁ G Z w a b s x t e {C = ⊥} (λ c. absurd c)

    abbrev starts : a % size_at G h ≡ 0
    starts = (unmap_gave G p a b s x t e).2

    abbrev way : ℕ → ℕ
    way = way_at (walk_to G p 0 a).tables

    abbrev o : LooseIf (X G Z I) (A G Z (area G Z I) top (al G Z I)) v way ⊥ ⊥ (without h (anc (entries G) h v) I.L) (k₀ G Z I - h) (suc h)
    o = unmaps.loose G Z I a in_space b x framed starts

    -- what the theory says of the call's writes
    pruned_to : PrunedTo (X G Z I) (A G Z (area G Z I) top (al G Z I)) v way (k₀ G Z I - h) (suc h) o
    pruned_to = prune_to (X G Z I) (A G Z (area G Z I) top (al G Z I)) v way (k₀ G Z I - h) h o

    around : anc (entries G) top v ≡ 0
    around = ap (λ (j : ℕ). anc (entries G) j v) (sym (root_at G Z I)) ∙ top_zero G Z I a in_space

    cut : Cut (entries G) top (entries_pos G) (φ G Z) v I.S pruned_to.1 h (b + x)
    unfolding unmaps.loose
    cut = record {
      aside = λ j r n. D.aside j r n ∙ upd_other I.S h (anc (entries G) h v) empty j r (λ (c, d). n (d ∙ ap (λ (i : ℕ). anc (entries G) i v) (sym c)));
      was = framed;
      gone = D.below h (omega arith) ∙ upd_at I.S h (anc (entries G) h v) empty h (anc (entries G) h v) (refl, refl);
      tables = λ j c d. tables_above G Z I 0 a (walk_to G p 0 a) (walk_ended G Z I 0 a (omega arith) in_space) j c d;
      root = ap (pruned_to.1 top) around ∙ pruned_to.2.root;
      leaf = pruned_to.2.leaf;
      each = λ j c d. D.each j (omega arith) d;
    }
      where
        D : PrunesTo (X G Z I) (A G Z (area G Z I) top (al G Z I)) v way (suc h) (upd I.S h (anc (entries G) h v) empty) pruned_to.1
        D = pruned_to.3

    -- an unmap that succeeds does to the tree what upstream's remove and prune do, to the last level, and remove succeeds
    pub unmap_is_remove_prune : (tree_of G (unmap_w G p a).after ≡ prune (arch_of G top) (path_to G top a 0) (remove (path_to G top a 0) (tree_of G p)).after) × ((remove (path_to G top a 0) (tree_of G p)).ok ≡ true)
    unfolding unmaps.loose
    unmap_is_remove_prune = (
      after ∙ sym removed.0 ∙ (λ i. prune (arch_of G top) (path i) (remove (path i) (before i)).after),
      sym (λ i. (remove (path i) (before i)).ok) ∙ removed.1,
    )
      where
        cells : (ℕ → ℕ → Ent) → ℕ → NodeEntry
        cells S r = cell (entries G) top (entries_pos G) (φ G Z) S top r

        way₁ : List ℕ
        way₁ = down (entries G) top (entries_pos G) (φ G Z) v top top

        before : cells I.S 0 ≡ tree_of G p
        before = sym (root_is G Z (area G Z I) top (al G Z I) p.words (R G Z I) (top - 1) (root_at G Z I))

        path : way₁ ≡ path_to G top a 0
        path = let z : top ≡ top - 0 = omega arith in sym (path_is G Z top a top top) ∙ ap (λ (n : ℕ). take n (indices G a top)) z

        removed : (prune (arch_of G top) way₁ (remove way₁ (cells I.S 0)).after ≡ cells pruned_to.1 0) × ((remove way₁ (cells I.S 0)).ok ≡ true)
        removed = subst (λ (r : ℕ). (prune (arch_of G top) way₁ (remove way₁ (cells I.S r)).after ≡ cells pruned_to.1 r) × ((remove way₁ (cells I.S r)).ok ≡ true)) around
            (cut_removed (entries G) top (entries_pos G) (φ G Z) v (arch_of G top).size_of I.S pruned_to.1 h (b + x) cut (zeros top a h starts) (top - 1) (root_at G Z I) (unmaps.low G Z I a in_space))

        words : (unmap_w G p a).after.words ≡ (prunes.prune (X G Z I) (A G Z (area G Z I) top (al G Z I)) v way (k₀ G Z I - h) (suc h) o.m o.q o.f).m
        words = ap (λ (q : Pool). q.words) (unmap_gave G p a b s x t e).4
            ∙ ap (λ (q : prunes.Pool (A G Z (area G Z I) top (al G Z I))). q.m) (unmaps.carried G Z I a in_space b x framed starts)

        numbers : (area_of (unmap_w G p a).after.numbers ≡ area_of p.numbers) × ((unmap_w G p a).after.numbers.levels ≡ top)
        numbers = let q = (unmap_gave G p a b s x t e).4 in (ap (λ (c : Pool). area_of c.numbers) q, ap (λ (c : Pool). c.numbers.levels) q)

        after : tree_of G (unmap_w G p a).after ≡ cells pruned_to.1 0
        after = (λ i. node_at G (words i) (numbers.0 i) (numbers.1 i) (numbers.1 i) 0)
            ∙ root_is G Z (area G Z I) top (al G Z I) _ pruned_to.2 (top - 1) (root_at G Z I)
