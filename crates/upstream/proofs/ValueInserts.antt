-- tree.rs, insert into any well-formed node, at any valid path from it, as upstream has it.
use Rattle.std.specs.Prelude.{◌≡◌, refl, ◌≢◌, ◌⊎◌, ◌↔◌, true, false, [], ◌∷◌, ◌++◌, ℕ, suc, ◌+◌, ◌<◌, length}
use Rattle.std.proofs.Common.{ap, sym, ◌∙◌, subst, inl, inr, ⊎_elim, true≢false, arith}
use Rattle.std.proofs.lemmas.Bool.{false≢true}
use Rattle.upstream.specs.Values.{Arch, SpecFrame, NodeEntry, Node, Frame, Empty, Path, HasPrefix, put, bare, ending, insert, Steps, Valid, EntryValid, Wf, Filled, AllNonempty, NoEntry, MapsTo}
use Rattle.upstream.proofs.ValueVisits.{empty_not_frame, node_not_frame, put_case, put_same, put_itself, put_each, leads_none, cons_not_nil, maps_is, update_preserves_wf, new_implies_wf, some_frame}
use Rattle.upstream.specs.ValueVisits.{Leads}

-- ---- the definition, clause by clause in upstream's words

module _ (k : ℕ) (f : ℕ → NodeEntry) (i : ℕ) (x : SpecFrame) where
  -- at the last index an empty entry becomes the frame
  pub last_empty : f i ≡ Empty → ((insert k (i ∷ []) x (Node k f)).after ≡ Node k (put f i (Frame x))) × ((insert k (i ∷ []) x (Node k f)).ok ≡ true)
  last_empty q = (ap (λ (e : NodeEntry). Node k (put f i (insert (suc k) [] x e).after)) q, ap (λ (e : NodeEntry). (insert (suc k) [] x e).ok) q)

  -- above it an entry that is a node takes the frame further down
  pub above_node : (p : Path) (l : ℕ) (g : ℕ → NodeEntry) → f i ≡ Node l g
      → ((insert k (i ∷ p) x (Node k f)).after ≡ Node k (put f i (insert l p x (Node l g)).after)) × ((insert k (i ∷ p) x (Node k f)).ok ≡ (insert l p x (Node l g)).ok)
  above_node [] l g q = (ap (λ (e : NodeEntry). Node k (put f i (insert (suc k) [] x e).after)) q, ap (λ (e : NodeEntry). (insert (suc k) [] x e).ok) q)
  above_node (j ∷ p) l g q = (ap (λ (e : NodeEntry). Node k (put f i (insert (suc k) (j ∷ p) x e).after)) q, ap (λ (e : NodeEntry). (insert (suc k) (j ∷ p) x e).ok) q)

  -- and an empty entry takes a new node of the next level
  pub above_empty : (j : ℕ) (p : Path) → f i ≡ Empty
      → ((insert k (i ∷ (j ∷ p)) x (Node k f)).after ≡ Node k (put f i (insert (suc k) (j ∷ p) x (Node (suc k) bare)).after))
      × ((insert k (i ∷ (j ∷ p)) x (Node k f)).ok ≡ (insert (suc k) (j ∷ p) x (Node (suc k) bare)).ok)
  above_empty j p q = (ap (λ (e : NodeEntry). Node k (put f i (insert (suc k) (j ∷ p) x e).after)) q, ap (λ (e : NodeEntry). (insert (suc k) (j ∷ p) x e).ok) q)

-- an empty entry takes a frame wherever below it
pub into_empty : (k : ℕ) (p : Path) (x : SpecFrame) → (insert k p x Empty).ok ≡ true
into_empty k [] x = refl
into_empty k (i ∷ p) x = into_empty (suc k) p x

-- what fails leaves everything
pub insert_fails_same : (k : ℕ) (p : Path) (x : SpecFrame) (e : NodeEntry) → (insert k p x e).ok ≡ false → (insert k p x e).after ≡ e
insert_fails_same k [] x Empty o = absurd (true≢false o)
insert_fails_same k [] x (Frame y) o = refl
insert_fails_same k [] x (Node l f) o = refl
insert_fails_same k (i ∷ p) x Empty o = absurd (true≢false (sym (into_empty (suc k) p x) ∙ o))
insert_fails_same k (i ∷ p) x (Frame y) o = refl
insert_fails_same k (i ∷ p) x (Node l f) o = ap (Node l) (put_itself f i (insert (suc l) p x (f i)).after (insert_fails_same (suc l) p x (f i) o))

-- ---- success and failure

-- lemma_insert_ok_implies_visit_reaches_empty: of any path, into any entry
pub insert_ok_implies_visit_reaches_empty : (k : ℕ) (p : Path) (x : SpecFrame) (e : NodeEntry) → (insert k p x e).ok ≡ true → ending p e ≡ Empty
insert_ok_implies_visit_reaches_empty k [] x Empty o = refl
insert_ok_implies_visit_reaches_empty k [] x (Frame y) o = absurd (false≢true o)
insert_ok_implies_visit_reaches_empty k [] x (Node l f) o = absurd (false≢true o)
insert_ok_implies_visit_reaches_empty k (i ∷ p) x Empty o = refl
insert_ok_implies_visit_reaches_empty k (i ∷ p) x (Frame y) o = absurd (false≢true o)
insert_ok_implies_visit_reaches_empty k (i ∷ p) x (Node l f) o = insert_ok_implies_visit_reaches_empty (suc l) p x (f i) o

-- lemma_empty_entry_implies_insert_ok: of any path
pub empty_entry_implies_insert_ok : (k : ℕ) (f : ℕ → NodeEntry) (i : ℕ) (p : Path) (x : SpecFrame) → f i ≡ Empty → (insert k (i ∷ p) x (Node k f)).ok ≡ true
empty_entry_implies_insert_ok k f i p x q = ap (λ (e : NodeEntry). (insert (suc k) p x e).ok) q ∙ into_empty (suc k) p x

-- ---- mappings

-- the frame stands where it was put
inserted : (k : ℕ) (p : Path) (x : SpecFrame) (e : NodeEntry) → (insert k p x e).ok ≡ true → Leads p (insert k p x e).after (Frame x)
inserted k [] x Empty o = refl
inserted k [] x (Frame y) o = absurd (false≢true o)
inserted k [] x (Node l f) o = absurd (false≢true o)
inserted k (i ∷ p) x Empty o = subst (λ (y : NodeEntry). Leads p y (Frame x)) (sym (put_same bare i _)) (inserted (suc k) p x Empty o)
inserted k (i ∷ p) x (Frame y) o = absurd (false≢true o)
inserted k (i ∷ p) x (Node l f) o = subst (λ (y : NodeEntry). Leads p y (Frame x)) (sym (put_same f i _)) (inserted (suc l) p x (f i) o)

-- the other frames stay, whatever is answered
kept : (k : ℕ) (p : Path) (x : SpecFrame) (e : NodeEntry) (q : Path) (y : SpecFrame) → Leads q e (Frame y) → Leads q (insert k p x e).after (Frame y)
kept k [] x Empty q y h = absurd (leads_none q y h)
kept k [] x (Frame z) q y h = h
kept k [] x (Node l f) q y h = h
kept k (i ∷ p) x Empty q y h = absurd (leads_none q y h)
kept k (i ∷ p) x (Frame z) q y h = h
kept k (i ∷ p) x (Node l f) [] y h = absurd (node_not_frame h)
kept k (i ∷ p) x (Node l f) (j ∷ q) y h =
    put_each (λ (j : ℕ) (z : NodeEntry). Leads q (f j) (Frame y) → Leads q z (Frame y)) f i (insert (suc l) p x (f i)).after (λ h. kept (suc l) p x (f i) q y h) (λ _ h. h) j h

-- and there are no more
others : (k : ℕ) (p : Path) (x : SpecFrame) (e : NodeEntry) (q : Path) (y : SpecFrame) → (insert k p x e).ok ≡ true → Leads q (insert k p x e).after (Frame y)
    → ((q ≡ p) × (y ≡ x)) ⊎ Leads q e (Frame y)
others k [] x Empty [] y o h = inl (refl, frame_is h)
  where
    frame_is : {x y : SpecFrame} → Frame x ≡ Frame y → y ≡ x
    frame_is h = cc
others k [] x Empty (j ∷ q) y o h = absurd h
others k [] x (Frame z) q y o h = absurd (false≢true o)
others k [] x (Node l f) q y o h = absurd (false≢true o)
others k (i ∷ p) x Empty [] y o h = absurd (node_not_frame h)
others k (i ∷ p) x Empty (j ∷ q) y o h = ⊎_elim
    (λ (a, r). ⊎_elim (λ (b, c). inl ((λ t. a t ∷ b t), c)) (λ d. absurd (leads_none q y d)) (others (suc k) p x Empty q y o (subst (λ (z : NodeEntry). Leads q z (Frame y)) r h)))
    (λ (_, r). absurd (leads_none q y (subst (λ (z : NodeEntry). Leads q z (Frame y)) r h)))
    (put_case bare i (insert (suc k) p x Empty).after j)
others k (i ∷ p) x (Frame z) q y o h = absurd (false≢true o)
others k (i ∷ p) x (Node l f) [] y o h = absurd (node_not_frame h)
others k (i ∷ p) x (Node l f) (j ∷ q) y o h = ⊎_elim
    (λ (a, r). ⊎_elim (λ (b, c). inl ((λ t. a t ∷ b t), c)) (λ d. inr (subst (λ (n : ℕ). Leads q (f n) (Frame y)) (sym a) d)) (others (suc l) p x (f i) q y o (subst (λ (z : NodeEntry). Leads q z (Frame y)) r h)))
    (λ (_, r). inr (subst (λ (z : NodeEntry). Leads q z (Frame y)) r h))
    (put_case f i (insert (suc l) p x (f i)).after j)

-- where it succeeds no frame stood
vacant : (k : ℕ) (p : Path) (x : SpecFrame) (e : NodeEntry) (y : SpecFrame) → (insert k p x e).ok ≡ true → Leads p e (Frame y) → ⊥
vacant k [] x Empty y o h = empty_not_frame h
vacant k [] x (Frame z) y o h = false≢true o
vacant k [] x (Node l f) y o h = false≢true o
vacant k (i ∷ p) x Empty y o h = h
vacant k (i ∷ p) x (Frame z) y o h = h
vacant k (i ∷ p) x (Node l f) y o h = vacant (suc l) p x (f i) y o h

module _ (A : Arch) where
  module _ (k : ℕ) (f : ℕ → NodeEntry) (p : Path) (x : SpecFrame) where
    -- the node, and the node after
    abbrev self : NodeEntry
    self = Node k f

    abbrev next : NodeEntry
    next = (insert k p x self).after

    maps_next : (q : Path) (y : SpecFrame) → MapsTo A next q y ↔ (Steps A k q × Leads q next (Frame y))
    maps_next = go p
      where
        go : (p : Path) (q : Path) (y : SpecFrame) → MapsTo A (insert k p x self).after q y ↔ (Steps A k q × Leads q (insert k p x self).after (Frame y))
        go [] q y = maps_is A k f q y
        go (i ∷ p) q y = maps_is A k (put f i (insert (suc k) p x (f i)).after) q y

    -- lemma_path_mappings_after_insertion_is_superset: of any path
    pub path_mappings_after_insertion_is_superset : (q : Path) (y : SpecFrame) → MapsTo A self q y → MapsTo A next q y
    path_mappings_after_insertion_is_superset q y m = let (s, h) = (maps_is A k f q y).0 m in (maps_next q y).1 (s, kept k p x self q y h)

    module _ (ok : (insert k p x self).ok ≡ true) where
      -- lemma_path_mappings_after_insertion_contains_new_mapping
      pub path_mappings_after_insertion_contains_new_mapping : Valid A k p → MapsTo A next p x
      path_mappings_after_insertion_contains_new_mapping v = (maps_next p x).1 (v.1, inserted k p x self ok)

      -- lemma_insert_not_affect_other_mappings: the frame at the path is the new one
      pub insert_not_affect_other_mappings : (q : Path) (y : SpecFrame) → MapsTo A next q y → ((q ≡ p) × (y ≡ x)) ⊎ MapsTo A self q y
      insert_not_affect_other_mappings q y m =
          let (s, h) = (maps_next q y).0 m in
          ⊎_elim (λ a. inl a) (λ b. inr ((maps_is A k f q y).1 (s, b))) (others k p x self q y ok h)

      -- lemma_insert_adds_path_mapping
      pub insert_adds_path_mapping : Valid A k p → (q : Path) (y : SpecFrame) → MapsTo A next q y ↔ (((q ≡ p) × (y ≡ x)) ⊎ ((q ≢ p) × MapsTo A self q y))
      insert_adds_path_mapping v q y = (
        λ m. ⊎_elim (λ a. inl a) (λ b. inr ((λ e. vacant k p x self y ok (subst (λ (o : Path). Leads o self (Frame y)) e ((maps_is A k f q y).0 b).1)), b)) (insert_not_affect_other_mappings q y m),
        ⊎_elim
            (λ (a, b). subst (λ (z : SpecFrame). MapsTo A next q z) (sym b) (subst (λ (o : Path). MapsTo A next o x) (sym a) (path_mappings_after_insertion_contains_new_mapping v)))
            (λ (_, m). path_mappings_after_insertion_is_superset q y m),
      )

  -- lemma_empty_implies_insert_ok
  pub empty_implies_insert_ok : (k : ℕ) (f : ℕ → NodeEntry) (p : Path) (x : SpecFrame) → Valid A k p → NoEntry A (Node k f) → (insert k p x (Node k f)).ok ≡ true
  empty_implies_insert_ok k f [] x v n = absurd (v.0 refl)
  empty_implies_insert_ok k f (i ∷ p) x v n = empty_entry_implies_insert_ok k f i p x (n i v.1.1)

  -- ---- what was there where it fails

  met : (k : ℕ) (p : Path) (x : SpecFrame) (e : NodeEntry) → EntryValid A k e → Wf A e → AllNonempty A e → Steps A (suc k) p → (insert (suc k) p x e).ok ≡ false
      → (q : Path) × (y : SpecFrame) × Steps A (suc k) q × Leads q e (Frame y) × (((r : Path) × (q ≡ p ++ r)) ⊎ ((r : Path) × (p ≡ q ++ r)))
  met k [] x Empty v w a s o = absurd (true≢false o)
  met k [] x (Frame y) v w a s o = ([], y, tt, refl, inl ([], refl))
  met k [] x (Node l f) v w a s o = let (q, y, t, h) = some_frame A k (Node l f) v w a v.0 in (q, y, t, h, inl (q, refl))
  met k (i ∷ p) x Empty v w a s o = absurd (true≢false (sym (into_empty (suc (suc k)) p x) ∙ o))
  met k (i ∷ p) x (Frame y) v w a s o = ([], y, tt, refl, inr (i ∷ p, refl))
  met k (i ∷ p) x (Node l f) v w a s o =
      let b : i < A.count l = subst (λ (m : ℕ). i < A.count m) (sym v.1) s.1 in
      let (c, d) = w.1 i b in
      let (q, y, t, h, g) = met l p x (f i) c d (a.1 i b c) (subst (λ (m : ℕ). Steps A (suc m) p) (sym v.1) s.2) o in (
        i ∷ q,
        y,
        (s.0, s.1, subst (λ (m : ℕ). Steps A (suc m) q) v.1 t),
        h,
        ⊎_elim (λ (r, e). inl (r, λ z. i ∷ e z)) (λ (r, e). inr (r, λ z. i ∷ e z)) g,
      )

  -- lemma_insert_fails_implies_prefix
  pub insert_fails_implies_prefix : (k : ℕ) (f : ℕ → NodeEntry) (p : Path) (x : SpecFrame) → Wf A (Node k f) → Valid A k p → (insert k p x (Node k f)).ok ≡ false → AllNonempty A (Node k f)
      → (q : Path) × (y : SpecFrame) × MapsTo A (Node k f) q y × (HasPrefix q p ⊎ HasPrefix p q)
  insert_fails_implies_prefix k f [] x w v o a = absurd (v.0 refl)
  insert_fails_implies_prefix k f (i ∷ p) x w v o a =
      let (c, d) = w.1 i v.1.1 in
      let (q, y, t, h, g) = met k p x (f i) c d (a.1 i v.1.1 c) v.1.2 o in (
        i ∷ q,
        y,
        (maps_is A k f (i ∷ q) y).1 ((w.0, v.1.1, t), h),
        ⊎_elim (λ (r, e). inl (cons_not_nil, (r, λ z. i ∷ e z))) (λ (r, e). inr (cons_not_nil, (r, λ z. i ∷ e z))) g,
      )

  -- ---- well-formedness

  well : (k : ℕ) (p : Path) (x : SpecFrame) (e : NodeEntry) (g : ℕ) → g ≡ k + length p → EntryValid A g (Frame x) → Steps A (suc k) p → EntryValid A k e → Wf A e
      → EntryValid A k (insert (suc k) p x e).after × Wf A (insert (suc k) p x e).after
  well k [] x Empty g q z s v w = let r : g ≡ k = omega arith in (subst (λ (m : ℕ). EntryValid A m (Frame x)) r z, tt)
  well k [] x (Frame y) g q z s v w = (v, w)
  well k [] x (Node l f) g q z s v w = (v, w)
  well k (i ∷ p) x Empty g q z s v w =
      let (a, b) = well (suc k) p x Empty g (omega arith) z s.2 tt tt in
      ((s.0, refl), update_preserves_wf A (suc k) bare i (insert (suc (suc k)) p x Empty).after (new_implies_wf A (suc k) s.0) a b)
  well k (i ∷ p) x (Frame y) g q z s v w = (v, w)
  well k (i ∷ p) x (Node l f) g q z s v w =
      let b : i < A.count l = subst (λ (m : ℕ). i < A.count m) (sym v.1) s.1 in
      let (c, d) = w.1 i b in
      let (a, u) = well l p x (f i) g (omega (arith, v.1)) z (subst (λ (m : ℕ). Steps A (suc m) p) (sym v.1) s.2) c d in
      (v, update_preserves_wf A l f i (insert (suc l) p x (f i)).after w a u)

  -- lemma_insert_preserves_wf: whatever is answered. The frame is one of the level where the path ends
  pub insert_preserves_wf : (k : ℕ) (f : ℕ → NodeEntry) (p : Path) (x : SpecFrame) (g : ℕ) → suc g ≡ k + length p → EntryValid A g (Frame x) → Wf A (Node k f) → Valid A k p
      → Wf A (insert k p x (Node k f)).after
  insert_preserves_wf k f [] x g q z w v = w
  insert_preserves_wf k f (i ∷ p) x g q z w v =
      let (c, d) = w.1 i v.1.1 in
      let (a, u) = well k p x (f i) g (omega arith) z v.1.2 c d in
      update_preserves_wf A k f i (insert (suc k) p x (f i)).after w a u

  -- ---- no empty node

  filled : (k : ℕ) (p : Path) (x : SpecFrame) (e : NodeEntry) → Steps A (suc k) p → (insert (suc k) p x e).ok ≡ true → EntryValid A k e → Filled A k (insert (suc k) p x e).after
  filled k [] x Empty s o v = tt
  filled k [] x (Frame y) s o v = tt
  filled k [] x (Node l f) s o v = v.0
  filled k (i ∷ p) x Empty s o v = s.0
  filled k (i ∷ p) x (Frame y) s o v = tt
  filled k (i ∷ p) x (Node l f) s o v = v.0

  full : (k : ℕ) (p : Path) (x : SpecFrame) (e : NodeEntry) → Steps A (suc k) p → (insert (suc k) p x e).ok ≡ true → EntryValid A k e → Wf A e → AllNonempty A e
      → AllNonempty A (insert (suc k) p x e).after
  full k [] x Empty s o v w a = tt
  full k [] x (Frame y) s o v w a = tt
  full k [] x (Node l f) s o v w a = a
  full k (i ∷ p) x Empty s o v w a =
      let u = (insert (suc (suc k)) p x Empty).after in (
        (i, s.1, subst (λ (z : NodeEntry). Filled A (suc k) z) (sym (put_same bare i u)) (filled (suc k) p x Empty s.2 o tt)),
        put_each (λ (j : ℕ) (z : NodeEntry). j < A.count (suc k) → EntryValid A (suc k) z → AllNonempty A z) bare i u (λ _ _. full (suc k) p x Empty s.2 o tt tt tt) (λ _ _ _. tt),
      )
  full k (i ∷ p) x (Frame y) s o v w a = tt
  full k (i ∷ p) x (Node l f) s o v w a =
      let b : i < A.count l = subst (λ (m : ℕ). i < A.count m) (sym v.1) s.1 in
      let t : Steps A (suc l) p = subst (λ (m : ℕ). Steps A (suc m) p) (sym v.1) s.2 in
      let u = (insert (suc l) p x (f i)).after in
      let (c, d) = w.1 i b in (
        (i, b, subst (λ (z : NodeEntry). Filled A l z) (sym (put_same f i u)) (filled l p x (f i) t o c)),
        put_each (λ (j : ℕ) (z : NodeEntry). j < A.count l → EntryValid A l z → AllNonempty A z) f i u (λ _ _. full l p x (f i) t o c d (a.1 i b c)) a.1,
      )

  -- lemma_insert_preserves_all_nonempty
  pub insert_preserves_all_nonempty : (k : ℕ) (f : ℕ → NodeEntry) (p : Path) (x : SpecFrame) → Wf A (Node k f) → Valid A k p → (insert k p x (Node k f)).ok ≡ true
      → AllNonempty A (Node k f) ⊎ NoEntry A (Node k f) → AllNonempty A (insert k p x (Node k f)).after
  insert_preserves_all_nonempty k f [] x w v o a = absurd (v.0 refl)
  insert_preserves_all_nonempty k f (i ∷ p) x w v o a =
      let (c, d) = w.1 i v.1.1 in
      let u = (insert (suc k) p x (f i)).after in (
        (i, v.1.1, subst (λ (z : NodeEntry). Filled A k z) (sym (put_same f i u)) (filled k p x (f i) v.1.2 o c)),
        put_each (λ (j : ℕ) (z : NodeEntry). j < A.count k → EntryValid A k z → AllNonempty A z) f i u (λ _ _. full k p x (f i) v.1.2 o c d (each a i v.1.1 c)) (each a),
      )
    where
      each : AllNonempty A (Node k f) ⊎ NoEntry A (Node k f) → (j : ℕ) → j < A.count k → EntryValid A k (f j) → AllNonempty A (f j)
      each (inl a) = a.1
      each (inr n) = λ j l _. subst (λ (z : NodeEntry). AllNonempty A z) (sym (n j l)) tt
