-- tree.rs, remove and prune of any well-formed node, at any valid path from it, as upstream has them.
use Rattle.std.specs.Prelude.{◌≡◌, refl, ◌≢◌, ◌⊎◌, ◌↔◌, Bool, true, false, cond, [], ◌∷◌, ◌++◌, ℕ, zero, suc, ◌<◌, length, drop}
use Rattle.std.proofs.Common.{ap, sym, ◌∙◌, subst, inl, inr, ⊎_elim, true≢false, arith}
use Rattle.std.proofs.lemmas.Bool.{false≢true}
use Rattle.std.proofs.Math.Decide.{ℕ_discrete}
use Rattle.laws.specs.Lists.{all_zero}
use Rattle.upstream.specs.Values.{Arch, SpecFrame, NodeEntry, Node, Frame, Empty, Path, HasZeroTail, HasPaddedPrefix, put, is_empty, all_empty, visit, ending, real_path, outcome, remove, Steps, Valid, EntryValid, Wf, NoEntry, MapsTo}
use Rattle.upstream.proofs.ValueVisits.{empty_not_frame, node_not_frame, put_case, put_same, put_itself, put_each, leads_none, maps_is}
use Rattle.upstream.specs.ValueVisits.{Leads}

-- ---- the definitions, clause by clause in upstream's words

-- a frame goes where the rest of the path is zero, and stays where it is not
pub remove_frame : (p : Path) (x : SpecFrame) → (all_zero p ≡ true → ((remove p (Frame x)).after ≡ Empty) × ((remove p (Frame x)).ok ≡ true))
    × (all_zero p ≡ false → ((remove p (Frame x)).after ≡ Frame x) × ((remove p (Frame x)).ok ≡ false))
unfolding all_zero
remove_frame [] x = (λ _. (refl, refl), λ q. absurd (true≢false q))
remove_frame (i ∷ p) x = (
  λ q. (ap (λ (b : Bool). (cond b (outcome Empty true) (outcome (Frame x) false)).after) q, ap (λ (b : Bool). (cond b (outcome Empty true) (outcome (Frame x) false)).ok) q),
  λ q. (ap (λ (b : Bool). (cond b (outcome Empty true) (outcome (Frame x) false)).after) q, ap (λ (b : Bool). (cond b (outcome Empty true) (outcome (Frame x) false)).ok) q),
)

pub remove_empty : (p : Path) → ((remove p Empty).after ≡ Empty) × ((remove p Empty).ok ≡ false)
remove_empty [] = (refl, refl)
remove_empty (i ∷ p) = (refl, refl)

-- what was removed was a frame, with zeros after it
pub frame_cases : (p : Path) (x : SpecFrame) → ((all_zero p ≡ true) × ((remove p (Frame x)).after ≡ Empty) × ((remove p (Frame x)).ok ≡ true)) ⊎ (((remove p (Frame x)).after ≡ Frame x) × ((remove p (Frame x)).ok ≡ false))
frame_cases p x = go (all_zero p) refl
  where
    go : (b : Bool) → all_zero p ≡ b → ((all_zero p ≡ true) × ((remove p (Frame x)).after ≡ Empty) × ((remove p (Frame x)).ok ≡ true)) ⊎ (((remove p (Frame x)).after ≡ Frame x) × ((remove p (Frame x)).ok ≡ false))
    go true q = let (a, b) = (remove_frame p x).0 q in inl (q, a, b)
    go false q = let (a, b) = (remove_frame p x).1 q in inr (a, b)

-- what fails leaves everything
pub remove_fails_same : (p : Path) (e : NodeEntry) → (remove p e).ok ≡ false → (remove p e).after ≡ e
remove_fails_same [] Empty o = refl
remove_fails_same [] (Frame x) o = absurd (true≢false o)
remove_fails_same [] (Node k f) o = refl
remove_fails_same (i ∷ p) Empty o = refl
remove_fails_same (i ∷ p) (Frame x) o = ⊎_elim (λ (_, _, r). absurd (true≢false (sym r ∙ o))) (λ (r, _). r) (frame_cases (i ∷ p) x)
remove_fails_same (i ∷ p) (Node k f) o = ap (Node k) (put_itself f i (remove p (f i)).after (remove_fails_same p (f i) o))

-- ---- success and failure

-- lemma_remove_ok_implies_visit_reaches_frame: of any path, from any entry
pub remove_ok_implies_visit_reaches_frame : (p : Path) (e : NodeEntry) → (remove p e).ok ≡ true → ((x : SpecFrame) × (ending p e ≡ Frame x)) × HasZeroTail p (length (visit p e))
unfolding all_zero
remove_ok_implies_visit_reaches_frame [] Empty o = absurd (false≢true o)
remove_ok_implies_visit_reaches_frame [] (Frame x) o = ((x, refl), refl)
remove_ok_implies_visit_reaches_frame [] (Node k f) o = absurd (false≢true o)
remove_ok_implies_visit_reaches_frame (i ∷ p) Empty o = absurd (false≢true o)
remove_ok_implies_visit_reaches_frame (i ∷ p) (Frame x) o = ⊎_elim (λ (z, _, _). ((x, refl), z)) (λ (_, r). absurd (false≢true (sym r ∙ o))) (frame_cases (i ∷ p) x)
remove_ok_implies_visit_reaches_frame (i ∷ p) (Node k f) o = remove_ok_implies_visit_reaches_frame p (f i) o

padded : (q r : Path) (e : NodeEntry) (y : SpecFrame) → Leads q e (Frame y) → all_zero r ≡ true → (remove (q ++ r) e).ok ≡ true
padded [] r e y h z = subst (λ (s : NodeEntry). (remove r s).ok ≡ true) (sym h) ((remove_frame r y).0 z).1
padded (i ∷ q) r Empty y h z = absurd h
padded (i ∷ q) r (Frame x) y h z = absurd h
padded (i ∷ q) r (Node k f) y h z = padded q r (f i) y h z

drop_front : (q r : Path) → drop (length q) (q ++ r) ≡ r
drop_front [] r = refl
drop_front (i ∷ q) r = drop_front q r

-- ---- mappings

-- the frame is gone
gone : (p : Path) (e : NodeEntry) (y : SpecFrame) → (remove p e).ok ≡ true → Leads (real_path p e) (remove p e).after (Frame y) → ⊥
gone [] Empty y o h = false≢true o
gone [] (Frame x) y o h = empty_not_frame h
gone [] (Node k f) y o h = false≢true o
gone (i ∷ p) Empty y o h = false≢true o
gone (i ∷ p) (Frame x) y o h = ⊎_elim (λ (_, r, _). empty_not_frame (sym r ∙ h)) (λ (_, r). false≢true (sym r ∙ o)) (frame_cases (i ∷ p) x)
gone (i ∷ p) (Node k f) y o h = gone p (f i) y o (subst (λ (z : NodeEntry). Leads (real_path p (f i)) z (Frame y)) (put_same f i (remove p (f i)).after) h)

-- nothing comes, whatever is answered
fewer : (p : Path) (e : NodeEntry) (q : Path) (y : SpecFrame) → Leads q (remove p e).after (Frame y) → Leads q e (Frame y)
fewer [] Empty q y h = h
fewer [] (Frame x) q y h = absurd (leads_none q y h)
fewer [] (Node k f) q y h = h
fewer (i ∷ p) Empty q y h = h
fewer (i ∷ p) (Frame x) q y h = ⊎_elim
    (λ (_, r, _). absurd (leads_none q y (subst (λ (z : NodeEntry). Leads q z (Frame y)) r h)))
    (λ (r, _). subst (λ (z : NodeEntry). Leads q z (Frame y)) r h) (frame_cases (i ∷ p) x)
fewer (i ∷ p) (Node k f) [] y h = absurd (node_not_frame h)
fewer (i ∷ p) (Node k f) (j ∷ q) y h =
    put_each (λ (j : ℕ) (z : NodeEntry). Leads q z (Frame y) → Leads q (f j) (Frame y)) f i (remove p (f i)).after (λ h. fewer p (f i) q y h) (λ _ h. h) j h

-- and every other frame stays
stays : (p : Path) (e : NodeEntry) (q : Path) (y : SpecFrame) → (remove p e).ok ≡ true → Leads q e (Frame y) → (q ≡ real_path p e) ⊎ Leads q (remove p e).after (Frame y)
stays [] Empty q y o h = absurd (false≢true o)
stays [] (Frame x) [] y o h = inl refl
stays [] (Frame x) (j ∷ q) y o h = absurd h
stays [] (Node k f) q y o h = absurd (false≢true o)
stays (i ∷ p) Empty q y o h = absurd (false≢true o)
stays (i ∷ p) (Frame x) [] y o h = inl refl
stays (i ∷ p) (Frame x) (j ∷ q) y o h = absurd h
stays (i ∷ p) (Node k f) [] y o h = absurd (node_not_frame h)
stays (i ∷ p) (Node k f) (j ∷ q) y o h = ⊎_elim
    (λ (a, r). ⊎_elim (λ b. inl (λ t. a t ∷ b t)) (λ d. inr (subst (λ (z : NodeEntry). Leads q z (Frame y)) (sym r) d)) (stays p (f i) q y o (subst (λ (n : ℕ). Leads q (f n) (Frame y)) a h)))
    (λ (_, r). inr (subst (λ (z : NodeEntry). Leads q z (Frame y)) (sym r) h))
    (put_case f i (remove p (f i)).after j)

-- ---- empty nodes

-- the first n entries are empty, or one is not
pub all_empty_lem : (n : ℕ) (f : ℕ → NodeEntry) → all_empty n f ≡ true → (i : ℕ) → i < n → f i ≡ Empty
all_empty_lem zero f q i l = absurd (omega arith)
all_empty_lem (suc n) f q i l = go (f n) refl (λ r m. all_empty_lem n f r i m)
  where
    Below : Type 0
    Below = all_empty n f ≡ true → i < n → f i ≡ Empty

    more : f n ≡ Empty → Below → Dec (i ≡ n) → f i ≡ Empty
    more e h (yes d) = ap f d ∙ e
    more e h (no d) = h (sym (ap (λ (y : NodeEntry). cond (is_empty y) (all_empty n f) false) e) ∙ q) (omega arith)

    go : (e : NodeEntry) → f n ≡ e → Below → f i ≡ Empty
    go Empty e h = more e h (ℕ_discrete i n)
    go (Frame x) e h = absurd (false≢true (sym (ap (λ (y : NodeEntry). cond (is_empty y) (all_empty n f) false) e) ∙ q))
    go (Node k g) e h = absurd (false≢true (sym (ap (λ (y : NodeEntry). cond (is_empty y) (all_empty n f) false) e) ∙ q))

pub not_all_empty : (n : ℕ) (f : ℕ → NodeEntry) → all_empty n f ≡ false → (i : ℕ) × (i < n) × (is_empty (f i) ≡ false)
not_all_empty zero f q = absurd (true≢false q)
not_all_empty (suc n) f q = go (is_empty (f n)) refl (λ r. not_all_empty n f r)
  where
    go : (b : Bool) → is_empty (f n) ≡ b → (all_empty n f ≡ false → (i : ℕ) × (i < n) × (is_empty (f i) ≡ false)) → (i : ℕ) × (i < suc n) × (is_empty (f i) ≡ false)
    go true e h = let (i, l, r) = h (sym (ap (λ (b : Bool). cond b (all_empty n f) false) e) ∙ q) in (i, omega arith, r)
    go false e h = (n, omega arith, e)

module _ (A : Arch) where
  -- ---- remove

  -- lemma_empty_implies_remove_fail
  pub empty_implies_remove_fail : (k : ℕ) (f : ℕ → NodeEntry) (p : Path) → Valid A k p → NoEntry A (Node k f) → (remove p (Node k f)).ok ≡ false
  empty_implies_remove_fail k f [] v n = absurd (v.0 refl)
  empty_implies_remove_fail k f (i ∷ p) v n = ap (λ (e : NodeEntry). (remove p e).ok) (n i v.1.1) ∙ (remove_empty p).1

  module _ (k : ℕ) (f : ℕ → NodeEntry) (p : Path) where
    -- the node, and the node after
    abbrev self : NodeEntry
    self = Node k f

    abbrev next : NodeEntry
    next = (remove p self).after

    maps_next : (q : Path) (y : SpecFrame) → MapsTo A next q y ↔ (Steps A k q × Leads q next (Frame y))
    maps_next = go p
      where
        go : (p : Path) (q : Path) (y : SpecFrame) → MapsTo A (remove p self).after q y ↔ (Steps A k q × Leads q (remove p self).after (Frame y))
        go [] q y = maps_is A k f q y
        go (i ∷ p) q y = maps_is A k (put f i (remove p (f i)).after) q y

    -- lemma_path_mappings_after_removal_is_subset: of any path, whatever is answered
    pub path_mappings_after_removal_is_subset : (q : Path) (y : SpecFrame) → MapsTo A next q y → MapsTo A self q y
    path_mappings_after_removal_is_subset q y m = let (s, h) = (maps_next q y).0 m in (maps_is A k f q y).1 (s, fewer p self q y h)

    -- lemma_remove_padded_prefix_ok: of any path
    pub remove_padded_prefix_ok : (q : Path) (y : SpecFrame) → MapsTo A self q y → HasPaddedPrefix p q → (remove p self).ok ≡ true
    remove_padded_prefix_ok q y m ((_, (r, e)), z) =
        subst (λ (o : Path). (remove o self).ok ≡ true) (sym e)
        (padded q r self y ((maps_is A k f q y).0 m).1 (ap all_zero (sym (drop_front q r) ∙ ap (drop (length q)) (sym e)) ∙ z))

    module _ (ok : (remove p self).ok ≡ true) where
      -- lemma_path_mappings_after_removal_not_contain_mapping
      pub path_mappings_after_removal_not_contain_mapping : (y : SpecFrame) → MapsTo A next (real_path p self) y → ⊥
      path_mappings_after_removal_not_contain_mapping y m = gone p self y ok ((maps_next (real_path p self) y).0 m).1

      -- lemma_remove_not_affect_other_mappings
      pub remove_not_affect_other_mappings : (q : Path) (y : SpecFrame) → MapsTo A self q y → (q ≡ real_path p self) ⊎ MapsTo A next q y
      remove_not_affect_other_mappings q y m =
          let (s, h) = (maps_is A k f q y).0 m in
          ⊎_elim (λ a. inl a) (λ b. inr ((maps_next q y).1 (s, b))) (stays p self q y ok h)

      -- lemma_remove_removes_path_mapping
      pub remove_removes_path_mapping : (q : Path) (y : SpecFrame) → MapsTo A next q y ↔ ((q ≢ real_path p self) × MapsTo A self q y)
      remove_removes_path_mapping q y = (
        λ m. ((λ e. path_mappings_after_removal_not_contain_mapping y (subst (λ (o : Path). MapsTo A next o y) e m)), path_mappings_after_removal_is_subset q y m),
        λ (n, m). ⊎_elim (λ e. absurd (n e)) (λ b. b) (remove_not_affect_other_mappings q y m),
      )

  pub removed_well : (k : ℕ) (p : Path) (e : NodeEntry) → EntryValid A k e → Wf A e → EntryValid A k (remove p e).after × Wf A (remove p e).after
  removed_well k [] Empty v w = (tt, tt)
  removed_well k [] (Frame x) v w = (tt, tt)
  removed_well k [] (Node l f) v w = (v, w)
  removed_well k (i ∷ p) Empty v w = (tt, tt)
  removed_well k (i ∷ p) (Frame x) v w = ⊎_elim
      (λ (_, r, _). subst (λ (y : NodeEntry). EntryValid A k y × Wf A y) (sym r) (tt, tt))
      (λ (r, _). subst (λ (y : NodeEntry). EntryValid A k y × Wf A y) (sym r) (v, w)) (frame_cases (i ∷ p) x)
  removed_well k (i ∷ p) (Node l f) v w =
      (v, (w.0, put_each (λ (j : ℕ) (y : NodeEntry). j < A.count l → EntryValid A l y × Wf A y) f i (remove p (f i)).after (λ b. removed_well l p (f i) (w.1 i b).0 (w.1 i b).1) w.1))

  -- lemma_remove_preserves_wf: of any path, whatever is answered
  pub remove_preserves_wf : (k : ℕ) (f : ℕ → NodeEntry) (p : Path) → Wf A (Node k f) → Wf A (remove p (Node k f)).after
  remove_preserves_wf k f [] w = w
  remove_preserves_wf k f (i ∷ p) w =
      (w.0, put_each (λ (j : ℕ) (y : NodeEntry). j < A.count k → EntryValid A k y × Wf A y) f i (remove p (f i)).after (λ b. removed_well k p (f i) (w.1 i b).0 (w.1 i b).1) w.1)
