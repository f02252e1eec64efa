-- tree.rs, prune of any well-formed node, along any valid path from it, as upstream has it.
use Rattle.std.specs.Prelude.{◌≡◌, refl, ◌⊎◌, ◌↔◌, Bool, true, false, cond, [], ◌∷◌, ℕ, suc, ◌<◌}
use Rattle.std.proofs.Common.{ap, sym, ◌∙◌, subst, inl, inr, ⊎_elim, true≢false}
use Rattle.std.proofs.lemmas.Bool.{false≢true}
use Rattle.upstream.specs.Values.{Arch, SpecFrame, NodeEntry, Node, Frame, Empty, Path, put, is_empty, all_empty, remove, Steps, Valid, EntryValid, Wf, Filled, AllNonempty, NoEntry, MapsTo, trimmed, trim, prune}
use Rattle.upstream.proofs.ValueVisits.{node_not_frame, put_case, put_same, put_itself, put_rest, put_each, leads_none, maps_is, At, kid}
use Rattle.upstream.specs.ValueVisits.{Leads}
use Rattle.upstream.proofs.ValueRemoves.{frame_cases, all_empty_lem, not_all_empty, removed_well}

module _ (A : Arch) where
  -- ---- the definition, clause by clause in upstream's words

  trimmed_cases : (k : ℕ) (f : ℕ → NodeEntry) → ((all_empty (A.count k) f ≡ true) × (trimmed A k f ≡ Empty)) ⊎ ((all_empty (A.count k) f ≡ false) × (trimmed A k f ≡ Node k f))
  trimmed_cases k f = go (all_empty (A.count k) f) refl
    where
      go : (b : Bool) → all_empty (A.count k) f ≡ b → ((all_empty (A.count k) f ≡ true) × (trimmed A k f ≡ Empty)) ⊎ ((all_empty (A.count k) f ≡ false) × (trimmed A k f ≡ Node k f))
      go true q = inl (q, ap (λ (b : Bool). cond b Empty (Node k f)) q)
      go false q = inr (q, ap (λ (b : Bool). cond b Empty (Node k f)) q)

  -- at the last index nothing changes
  pub last_index : (k : ℕ) (f : ℕ → NodeEntry) (i : ℕ) → prune A (i ∷ []) (Node k f) ≡ Node k f
  last_index k f i = ap (Node k) (put_itself f i (f i) refl)

  -- above it an entry that is a node is pruned, and becomes empty where nothing is left of it
  pub above_node : (k : ℕ) (f : ℕ → NodeEntry) (i j : ℕ) (p : Path) (l : ℕ) (g h : ℕ → NodeEntry) → f i ≡ Node l g → prune A (j ∷ p) (Node l g) ≡ Node l h
      → ((NoEntry A (Node l h) → prune A (i ∷ (j ∷ p)) (Node k f) ≡ Node k (put f i Empty)) × ((NoEntry A (Node l h) → ⊥) → prune A (i ∷ (j ∷ p)) (Node k f) ≡ Node k (put f i (Node l h))))
  above_node k f i j p l g h q r = (
    λ n. ⊎_elim (λ (_, c). is c) (λ (b, _). absurd (let (m, x, e) = not_all_empty (A.count l) h (was ∙ b) in true≢false (sym (ap is_empty (n m x)) ∙ e))) (trimmed_cases l same),
    λ n. ⊎_elim (λ (b, _). absurd (n (λ m x. all_empty_lem (A.count l) h (was ∙ b) m x))) (λ (_, c). is (c ∙ r)) (trimmed_cases l same),
  )
    where
      same : ℕ → NodeEntry
      same = put g j (trim A p (g j))

      entries : NodeEntry → ℕ → NodeEntry
      entries (Node k f) = f
      entries (Frame x) = λ _. Empty
      entries Empty = λ _. Empty

      was : all_empty (A.count l) h ≡ all_empty (A.count l) same
      was = ap (λ (e : NodeEntry). all_empty (A.count l) (entries e)) (sym r)

      is : {e : NodeEntry} → trimmed A l same ≡ e → prune A (i ∷ (j ∷ p)) (Node k f) ≡ Node k (put f i e)
      is c = ap (λ (y : NodeEntry). Node k (put f i (trim A (j ∷ p) y))) q ∙ ap (λ (y : NodeEntry). Node k (put f i y)) c

  -- ---- mappings

  none_added : (p : Path) (e : NodeEntry) (q : Path) (y : SpecFrame) → Leads q (trim A p e) (Frame y) → Leads q e (Frame y)
  none_added [] e q y h = h
  none_added (i ∷ p) Empty q y h = h
  none_added (i ∷ p) (Frame x) q y h = h
  none_added (i ∷ p) (Node k f) [] y h = ⊎_elim (λ (_, r). absurd (leads_none [] y (sym r ∙ h))) (λ (_, r). absurd (node_not_frame (sym r ∙ h))) (trimmed_cases k (put f i (trim A p (f i))))
  none_added (i ∷ p) (Node k f) (j ∷ q) y h = ⊎_elim
      (λ (_, r). absurd (leads_none (j ∷ q) y (subst (λ (z : NodeEntry). Leads (j ∷ q) z (Frame y)) r h)))
      (λ (_, r). put_each (λ (n : ℕ) (z : NodeEntry). Leads q z (Frame y) → Leads q (f n) (Frame y)) f i (trim A p (f i)) (λ m. none_added p (f i) q y m) (λ _ m. m) j (subst (λ (z : NodeEntry). Leads (j ∷ q) z (Frame y)) r h))
      (trimmed_cases k (put f i (trim A p (f i))))

  none_lost : (l : ℕ) (p : Path) (e : NodeEntry) (q : Path) (y : SpecFrame) → At A l e → Wf A e → Steps A l q → Leads q e (Frame y) → Leads q (trim A p e) (Frame y)
  none_lost l [] e q y a w s h = h
  none_lost l (i ∷ p) Empty q y a w s h = h
  none_lost l (i ∷ p) (Frame x) q y a w s h = h
  none_lost l (i ∷ p) (Node k f) [] y a w s h = absurd (node_not_frame h)
  none_lost l (i ∷ p) (Node k f) (j ∷ q) y a w s h =
      let g = put f i (trim A p (f i)) in
      let m : Leads q (g j) (Frame y) = put_each (λ (n : ℕ) (z : NodeEntry). n < A.count l → Leads q (f n) (Frame y) → Leads q z (Frame y)) f i (trim A p (f i))
      (λ b m. let (v, c, u) = kid A f a w i b in none_lost (suc l) p (f i) q y c u s.2 m) (λ _ _ m. m) j s.1 h
      in
      ⊎_elim
      (λ (b, _). absurd (leads_none q y (subst (λ (z : NodeEntry). Leads q z (Frame y)) (all_empty_lem (A.count k) g b j (subst (λ (n : ℕ). j < A.count n) (sym a) s.1)) m)))
      (λ (_, r). subst (λ (z : NodeEntry). Leads (j ∷ q) z (Frame y)) (sym r) m)
      (trimmed_cases k g)

  module _ (k : ℕ) (f : ℕ → NodeEntry) where
    -- the node
    abbrev self : NodeEntry
    self = Node k f

    maps_next : (p q : Path) (y : SpecFrame) → MapsTo A (prune A p self) q y ↔ (Steps A k q × Leads q (prune A p self) (Frame y))
    maps_next [] q y = maps_is A k f q y
    maps_next (i ∷ p) q y = maps_is A k (put f i (trim A p (f i))) q y

    added : (p q : Path) (y : SpecFrame) → Leads q (prune A p self) (Frame y) → Leads q self (Frame y)
    added [] q y h = h
    added (i ∷ p) [] y h = absurd (node_not_frame h)
    added (i ∷ p) (j ∷ q) y h = put_each (λ (n : ℕ) (z : NodeEntry). Leads q z (Frame y) → Leads q (f n) (Frame y)) f i (trim A p (f i)) (λ m. none_added p (f i) q y m) (λ _ m. m) j h

    lost : (p q : Path) (y : SpecFrame) → Wf A self → Steps A k q → Leads q self (Frame y) → Leads q (prune A p self) (Frame y)
    lost [] q y w s h = h
    lost (i ∷ p) [] y w s h = absurd (node_not_frame h)
    lost (i ∷ p) (j ∷ q) y w s h =
        put_each (λ (n : ℕ) (z : NodeEntry). n < A.count k → Leads q (f n) (Frame y) → Leads q z (Frame y)) f i (trim A p (f i))
        (λ b m. let (v, c, u) = kid A {k = k} f refl w i b in none_lost (suc k) p (f i) q y c u s.2 m) (λ _ _ m. m) j s.1 h

    -- lemma_prune_not_add_frame_path: of any path; what the path ends at is the same frame
    pub prune_not_add_frame_path : (p q : Path) (y : SpecFrame) → MapsTo A (prune A p self) q y → MapsTo A self q y
    prune_not_add_frame_path p q y m = let (s, h) = (maps_next p q y).0 m in (maps_is A k f q y).1 (s, added p q y h)

    -- lemma_prune_not_remove_frame_path: of any path; what the path ends at is the same frame
    pub prune_not_remove_frame_path : (p q : Path) (y : SpecFrame) → Wf A self → MapsTo A self q y → MapsTo A (prune A p self) q y
    prune_not_remove_frame_path p q y w m = let (s, h) = (maps_is A k f q y).0 m in (maps_next p q y).1 (s, lost p q y w s h)

    -- lemma_prune_not_affect_path_mappings
    pub prune_not_affect_path_mappings : (p q : Path) (y : SpecFrame) → Wf A self → MapsTo A self q y ↔ MapsTo A (prune A p self) q y
    prune_not_affect_path_mappings p q y w = (prune_not_remove_frame_path p q y w, prune_not_add_frame_path p q y)

  -- ---- well-formedness

  trim_well : (k : ℕ) (p : Path) (e : NodeEntry) → EntryValid A k e → Wf A e → EntryValid A k (trim A p e) × Wf A (trim A p e)
  trim_well k [] e v w = (v, w)
  trim_well k (i ∷ p) Empty v w = (v, w)
  trim_well k (i ∷ p) (Frame x) v w = (v, w)
  trim_well k (i ∷ p) (Node l f) v w =
      let g = put f i (trim A p (f i)) in
      let u : Wf A (Node l g) = (w.0, put_each (λ (j : ℕ) (y : NodeEntry). j < A.count l → EntryValid A l y × Wf A y) f i (trim A p (f i)) (λ b. trim_well l p (f i) (w.1 i b).0 (w.1 i b).1) w.1) in
      ⊎_elim
      (λ (_, r). subst (λ (y : NodeEntry). EntryValid A k y × Wf A y) (sym r) (tt, tt))
      (λ (_, r). subst (λ (y : NodeEntry). EntryValid A k y × Wf A y) (sym r) (v, u))
      (trimmed_cases l g)

  -- lemma_prune_preserves_wf: of any path
  pub prune_preserves_wf : (k : ℕ) (f : ℕ → NodeEntry) (p : Path) → Wf A (Node k f) → Wf A (prune A p (Node k f))
  prune_preserves_wf k f [] w = w
  prune_preserves_wf k f (i ∷ p) w =
      (w.0, put_each (λ (j : ℕ) (y : NodeEntry). j < A.count k → EntryValid A k y × Wf A y) f i (trim A p (f i)) (λ b. trim_well k p (f i) (w.1 i b).0 (w.1 i b).1) w.1)

  -- ---- prune after remove

  filled_of : (k : ℕ) (e : NodeEntry) → EntryValid A k e → is_empty e ≡ false → Filled A k e
  filled_of k Empty v q = absurd (true≢false q)
  filled_of k (Frame x) v q = tt
  filled_of k (Node l f) v q = v.0

  module _ (k : ℕ) (f : ℕ → NodeEntry) (i : ℕ) (p : Path) where
    -- the entries with the frame removed, and pruned
    abbrev without : ℕ → NodeEntry
    without = put f i (remove p (f i)).after

    abbrev left : ℕ → NodeEntry
    left = put without i (trim A p (without i))

    left_full : Wf A (Node k f) → ((j : ℕ) → j < A.count k → EntryValid A k (f j) → AllNonempty A (f j)) → (i < A.count k → AllNonempty A (trim A p (remove p (f i)).after))
        → (j : ℕ) → j < A.count k → EntryValid A k (left j) → AllNonempty A (left j)
    left_full w a h = put_rest (λ (j : ℕ) (y : NodeEntry). j < A.count k → EntryValid A k y → AllNonempty A y) without i (trim A p (without i))
        (λ b _. subst (λ (y : NodeEntry). AllNonempty A (trim A p y)) (sym (put_same f i (remove p (f i)).after)) (h b))
        (λ j n b _. ⊎_elim (λ (e, _). absurd (n e)) (λ (_, r). subst (λ (y : NodeEntry). AllNonempty A y) (sym r) (a j b (w.1 j b).0)) (put_case f i (remove p (f i)).after j))

    left_filled : Wf A (Node k f) → all_empty (A.count k) left ≡ false → (j : ℕ) × (j < A.count k) × Filled A k (left j)
    left_filled w q =
        let (j, b, r) = not_all_empty (A.count k) left q in
        (j, b, filled_of k (left j) (valid j b) r)
      where
        valid : (j : ℕ) → j < A.count k → EntryValid A k (left j)
        valid = put_each (λ (j : ℕ) (y : NodeEntry). j < A.count k → EntryValid A k y) without i (trim A p (without i))
            (λ b. let (v, u) = gone b in subst (λ (y : NodeEntry). EntryValid A k (trim A p y)) (sym (put_same f i (remove p (f i)).after)) (trim_well k p (remove p (f i)).after v u).0)
            (put_each (λ (j : ℕ) (y : NodeEntry). j < A.count k → EntryValid A k y) f i (remove p (f i)).after (λ b. (gone b).0) (λ j b. (w.1 j b).0))
          where
            gone : i < A.count k → EntryValid A k (remove p (f i)).after × Wf A (remove p (f i)).after
            gone b = removed_well A k p (f i) (w.1 i b).0 (w.1 i b).1

  trimmed_full : (k : ℕ) (p : Path) (e : NodeEntry) → EntryValid A k e → Wf A e → AllNonempty A e → (remove p e).ok ≡ true → AllNonempty A (trim A p (remove p e).after)
  trimmed_full k [] Empty v w a o = absurd (false≢true o)
  trimmed_full k [] (Frame x) v w a o = tt
  trimmed_full k [] (Node l f) v w a o = absurd (false≢true o)
  trimmed_full k (i ∷ p) Empty v w a o = absurd (false≢true o)
  trimmed_full k (i ∷ p) (Frame x) v w a o = ⊎_elim
      (λ (_, r, _). subst (λ (y : NodeEntry). AllNonempty A (trim A (i ∷ p) y)) (sym r) tt)
      (λ (_, r). absurd (false≢true (sym r ∙ o))) (frame_cases (i ∷ p) x)
  trimmed_full k (i ∷ p) (Node l f) v w a o =
      let h : i < A.count l → AllNonempty A (trim A p (remove p (f i)).after) = λ b. trimmed_full l p (f i) (w.1 i b).0 (w.1 i b).1 (a.1 i b (w.1 i b).0) o in
      ⊎_elim
      (λ (_, r). subst (λ (y : NodeEntry). AllNonempty A y) (sym r) tt)
      (λ (q, r). subst (λ (y : NodeEntry). AllNonempty A y) (sym r) (left_filled l f i p w q, left_full l f i p w a.1 h))
      (trimmed_cases l (left l f i p))

  -- lemma_prune_after_remove_preserves_all_nonempty
  pub prune_after_remove_preserves_all_nonempty : (k : ℕ) (f : ℕ → NodeEntry) (p : Path) → Wf A (Node k f) → Valid A k p → (remove p (Node k f)).ok ≡ true → AllNonempty A (Node k f)
      → AllNonempty A (prune A p (remove p (Node k f)).after) ⊎ NoEntry A (prune A p (remove p (Node k f)).after)
  prune_after_remove_preserves_all_nonempty k f [] w v o a = absurd (v.0 refl)
  prune_after_remove_preserves_all_nonempty k f (i ∷ p) w v o a = go (all_empty (A.count k) (left k f i p)) refl
    where
      go : (b : Bool) → all_empty (A.count k) (left k f i p) ≡ b → AllNonempty A (Node k (left k f i p)) ⊎ NoEntry A (Node k (left k f i p))
      go true q = inr (all_empty_lem (A.count k) (left k f i p) q)
      go false q = inl (left_filled k f i p w q, left_full k f i p w a.1 (λ b. trimmed_full k p (f i) (w.1 i b).0 (w.1 i b).1 (a.1 i b (w.1 i b).0) o))
