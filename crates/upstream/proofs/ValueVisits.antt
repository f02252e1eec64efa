-- tree.rs, visit, real_path and path_mappings of any well-formed node and any valid path from it, as upstream has them; and the laws below them: what an
-- entry is after a change, where a path leads.
use Rattle.std.specs.Prelude.{◌≡◌, refl, ◌≢◌, ◌⊎◌, ◌↔◌, Bool, true, false, cond, List, [], ◌∷◌, ◌++◌, ℕ, zero, suc, ◌+◌, ◌≤◌, ◌<◌, eqb, length, take, drop}
use Rattle.std.proofs.Common.{ap, sym, ◌∙◌, subst, inl, inr, ⊎_elim, append-nil, arith, add-zero, zero-add, length-append, take-append-drop, eqb-true, eq-eqb}
use Rattle.std.proofs.Math.Option.{some, none-ne-some, some-injective}
use Rattle.std.proofs.Math.ListN.{get_elem?}
use Rattle.std.proofs.lemmas.Bool.{eqb-false}
use Rattle.upstream.specs.Values.{Arch, SpecFrame, NodeEntry, Node, Frame, Empty, Path, HasPrefix, put, bare, visit, ending, real_path, Steps, Valid, EntryValid, Wf, Filled, AllNonempty, MapsTo}
use Rattle.upstream.specs.ValueVisits.{Leads}

-- ---- entries

IsFrame : NodeEntry → Type 0
IsFrame (Node k f) = ⊥
IsFrame (Frame x) = Unit {0}
IsFrame Empty = ⊥

pub empty_not_frame : {x : SpecFrame} → Empty ≡ Frame x → ⊥
unfolding IsFrame
empty_not_frame q = subst IsFrame (sym q) tt

pub node_not_frame : {k : ℕ} {f : ℕ → NodeEntry} {x : SpecFrame} → Node k f ≡ Frame x → ⊥
unfolding IsFrame
node_not_frame q = subst IsFrame (sym q) tt

-- an entry of a node with one entry changed is the changed one or the old
pub put_case : (f : ℕ → NodeEntry) (i : ℕ) (e : NodeEntry) (j : ℕ) → ((j ≡ i) × (put f i e j ≡ e)) ⊎ ((j ≢ i) × (put f i e j ≡ f j))
put_case f i e j = go (eqb j i) refl
  where
    go : (b : Bool) → eqb j i ≡ b → ((j ≡ i) × (put f i e j ≡ e)) ⊎ ((j ≢ i) × (put f i e j ≡ f j))
    go true q = inl (eqb-true j i q, ap (λ (b : Bool). cond b e (f j)) q)
    go false q = inr (eqb-false j i q, ap (λ (b : Bool). cond b e (f j)) q)

pub put_same : (f : ℕ → NodeEntry) (i : ℕ) (e : NodeEntry) → put f i e i ≡ e
put_same f i e = ap (λ (b : Bool). cond b e (f i)) (eq-eqb i i refl)

-- a change of an entry to itself is none
pub put_itself : (f : ℕ → NodeEntry) (i : ℕ) (e : NodeEntry) → e ≡ f i → put f i e ≡ f
put_itself f i e q = λ t j. same j t
  where
    same : (j : ℕ) → put f i e j ≡ f j
    same j = ⊎_elim (λ (a, r). r ∙ q ∙ ap f (sym a)) (λ (_, r). r) (put_case f i e j)

-- so each has what the changed one and the others have
pub put_rest : (P : ℕ → NodeEntry → Type 0) (f : ℕ → NodeEntry) (i : ℕ) (e : NodeEntry) → P i e → ((j : ℕ) → j ≢ i → P j (f j)) → (j : ℕ) → P j (put f i e j)
put_rest P f i e a b j =
    ⊎_elim (λ (q, r). subst (λ (y : NodeEntry). P j y) (sym r) (subst (λ (n : ℕ). P n e) (sym q) a)) (λ (n, r). subst (λ (y : NodeEntry). P j y) (sym r) (b j n)) (put_case f i e j)

pub put_each : (P : ℕ → NodeEntry → Type 0) (f : ℕ → NodeEntry) (i : ℕ) (e : NodeEntry) → P i e → ((j : ℕ) → P j (f j)) → (j : ℕ) → P j (put f i e j)
put_each P f i e a b = put_rest P f i e a (λ j _. b j)

pub leads_none : (p : Path) (x : SpecFrame) → Leads p Empty (Frame x) → ⊥
leads_none [] x q = empty_not_frame q
leads_none (i ∷ p) x q = q

-- a visit that used the whole path ends where the path leads
pub leads_of : (p : Path) (e y : NodeEntry) → ending p e ≡ y → length (visit p e) ≡ length p → Leads p e y
leads_of [] e y q l = q
leads_of (i ∷ p) Empty y q l = absurd (omega arith)
leads_of (i ∷ p) (Frame x) y q l = absurd (omega arith)
leads_of (i ∷ p) (Node k f) y q l = leads_of p (f i) y q (omega arith)

pub leads_is : (p : Path) (e y : NodeEntry) → Leads p e y → (ending p e ≡ y) × (length (visit p e) ≡ length p)
leads_is [] e y q = (q, refl)
leads_is (i ∷ p) Empty y q = absurd q
leads_is (i ∷ p) (Frame x) y q = absurd q
leads_is (i ∷ p) (Node k f) y q = let (a, b) = leads_is p (f i) y q in (a, ap suc b)

pub cons_not_nil : {i : ℕ} {p : Path} → (i ∷ p) ≡ [] → ⊥
cons_not_nil q = let z : ◌≡◌ {A = ℕ} 1 0 = ap (λ (l : Path). length (take 1 l)) q in omega arith

-- a path from a node to a frame has an index
pub leads_some : (p : Path) (k : ℕ) (f : ℕ → NodeEntry) (x : SpecFrame) → Leads p (Node k f) (Frame x) → p ≢ []
leads_some [] k f x q = absurd (node_not_frame q)
leads_some (i ∷ p) k f x q = cons_not_nil

module _ (A : Arch) where
  -- `contains_pair` by where the path leads
  pub maps_is : (k : ℕ) (f : ℕ → NodeEntry) (p : Path) (x : SpecFrame) → MapsTo A (Node k f) p x ↔ (Steps A k p × Leads p (Node k f) (Frame x))
  maps_is k f p x = (
    λ (v, q, l). (v.1, leads_of p (Node k f) (Frame x) q l),
    λ (s, q). let (a, b) = leads_is p (Node k f) (Frame x) q in ((leads_some p k f x q, s), a, b),
  )

  -- ---- the definitions in upstream's words

  -- `valid`: it has an index, its levels are there, and each index is below the entry count of its level
  pub record ValidPath (k : ℕ) (p : Path) : Type 0 where
    pub some_index : 0 < length p
    pub fits : length p + k ≤ A.levels
    pub each : (i z : ℕ) → get_elem? p i ≡ some z → z < A.count (i + k)

  steps_from : (k : ℕ) (p : Path) → length p + k ≤ A.levels → ((i z : ℕ) → get_elem? p i ≡ some z → z < A.count (i + k)) → Steps A k p
  steps_from k [] l f = tt
  steps_from k (i ∷ p) l f = (
    omega arith,
    subst (λ (m : ℕ). i < A.count m) (zero-add k) (f 0 i refl),
    steps_from (suc k) p (omega arith) (λ j z q. let e : suc j + k ≡ j + suc k = omega arith in subst (λ (m : ℕ). z < A.count m) e (f (suc j) z q)),
  )

  steps_to : (k : ℕ) (p : Path) → Steps A k p → 0 < length p → (length p + k ≤ A.levels) × ((i z : ℕ) → get_elem? p i ≡ some z → z < A.count (i + k))
  steps_to k [] s l = absurd (omega arith)
  steps_to k (i ∷ []) s l = (omega (arith, s.0), at)
    where
      at : (j z : ℕ) → get_elem? (i ∷ []) j ≡ some z → z < A.count (j + k)
      at zero z q = subst (λ (m : ℕ). z < A.count m) (sym (zero-add k)) (subst (λ (m : ℕ). m < A.count k) (some-injective i z q) s.1)
      at (suc j) z q = absurd (none-ne-some z q)
  steps_to k (i ∷ (h ∷ p)) s l = let (a, b) = steps_to (suc k) (h ∷ p) s.2 (omega arith) in (omega (arith, a), at b)
    where
      at : ((j z : ℕ) → get_elem? (h ∷ p) j ≡ some z → z < A.count (j + suc k)) → (j z : ℕ) → get_elem? (i ∷ (h ∷ p)) j ≡ some z → z < A.count (j + k)
      at b zero z q = subst (λ (m : ℕ). z < A.count m) (sym (zero-add k)) (subst (λ (m : ℕ). m < A.count k) (some-injective i z q) s.1)
      at b (suc j) z q = let e : j + suc k ≡ suc j + k = omega arith in subst (λ (m : ℕ). z < A.count m) e (b j z q)

  pub valid_is : (k : ℕ) (p : Path) → Valid A k p ↔ ValidPath k p
  valid_is k p = (
    λ (n, s). let l = longer p n in let (a, b) = steps_to k p s l in record { some_index = l; fits = a; each = b },
    λ v. (λ e. let z = ap (λ (q : Path). length q) e in omega (arith, v.some_index), steps_from k p v.fits v.each),
  )
    where
      longer : (p : Path) → p ≢ [] → 0 < length p
      longer [] n = absurd (n refl)
      longer (i ∷ p) n = omega arith

  -- `visit`: it stops at the last index, goes on below a node, and stops at a frame or an empty entry
  pub visit_last : (k : ℕ) (f : ℕ → NodeEntry) (i : ℕ) → visit (i ∷ []) (Node k f) ≡ f i ∷ []
  visit_last k f i = refl

  pub visit_node : (k : ℕ) (f : ℕ → NodeEntry) (i : ℕ) (p : Path) (l : ℕ) (g : ℕ → NodeEntry) → f i ≡ Node l g → visit (i ∷ p) (Node k f) ≡ f i ∷ visit p (Node l g)
  visit_node k f i p l g q = ap {B = List NodeEntry} (λ (e : NodeEntry). f i ∷ visit p e) q

  pub visit_frame : (k : ℕ) (f : ℕ → NodeEntry) (i : ℕ) (p : Path) (x : SpecFrame) → f i ≡ Frame x → visit (i ∷ p) (Node k f) ≡ f i ∷ []
  visit_frame k f i [] x q = refl
  visit_frame k f i (j ∷ p) x q = ap {B = List NodeEntry} (λ (e : NodeEntry). f i ∷ visit (j ∷ p) e) q

  pub visit_empty : (k : ℕ) (f : ℕ → NodeEntry) (i : ℕ) (p : Path) → f i ≡ Empty → visit (i ∷ p) (Node k f) ≡ f i ∷ []
  visit_empty k f i [] q = refl
  visit_empty k f i (j ∷ p) q = ap {B = List NodeEntry} (λ (e : NodeEntry). f i ∷ visit (j ∷ p) e) q

  -- ---- new and update

  -- lemma_new_implies_wf
  pub new_implies_wf : (k : ℕ) → k < A.levels → Wf A (Node k bare)
  new_implies_wf k l = (l, λ i _. (tt, tt))

  -- lemma_update_preserves_wf
  pub update_preserves_wf : (k : ℕ) (f : ℕ → NodeEntry) (i : ℕ) (e : NodeEntry) → Wf A (Node k f) → EntryValid A k e → Wf A e → Wf A (Node k (put f i e))
  update_preserves_wf k f i e w v u = (w.0, put_each (λ (j : ℕ) (y : NodeEntry). j < A.count k → EntryValid A k y × Wf A y) f i e (λ _. (v, u)) w.1)

  -- ---- levels

  -- the entry is no node, or one of level k
  abbrev pub At : ℕ → NodeEntry → Type 0
  At k (Node l f) = l ≡ k
  At k (Frame x) = Unit {0}
  At k Empty = Unit {0}

  pub at_below : (k : ℕ) (e : NodeEntry) → EntryValid A k e → At (suc k) e
  at_below k (Node l f) v = v.1
  at_below k (Frame x) v = tt
  at_below k Empty v = tt

  -- what is known of an entry of a well-formed node
  pub kid : {k l : ℕ} (f : ℕ → NodeEntry) → l ≡ k → Wf A (Node l f) → (i : ℕ) → i < A.count k → EntryValid A k (f i) × At (suc k) (f i) × Wf A (f i)
  kid {k} {l} f q w i b =
      let (v, u) = w.1 i (subst (λ (m : ℕ). i < A.count m) (sym q) b) in
      let v' = subst (λ (m : ℕ). EntryValid A m (f i)) q v in
      (v', at_below k (f i) v', u)

  -- ---- visit

  visit_short : (p : Path) (e : NodeEntry) → length (visit p e) ≤ length p
  visit_short [] e = omega arith
  visit_short (i ∷ p) Empty = omega arith
  visit_short (i ∷ p) (Frame x) = omega arith
  visit_short (i ∷ p) (Node k f) = omega (arith, visit_short p (f i))

  -- lemma_visit_length_bounds
  pub visit_length_bounds : (k : ℕ) (f : ℕ → NodeEntry) (p : Path) → Valid A k p → (1 ≤ length (visit p (Node k f))) × (length (visit p (Node k f)) ≤ length p)
  visit_length_bounds k f [] v = absurd (v.0 refl)
  visit_length_bounds k f (i ∷ p) v = (omega arith, visit_short (i ∷ p) (Node k f))

  visited : (k : ℕ) (p : Path) (e : NodeEntry) → At k e → Wf A e → Steps A k p → (i : ℕ) (y : NodeEntry) → get_elem? (visit p e) i ≡ some y → EntryValid A (k + i) y
  visited k [] e a w s i y q = absurd (none-ne-some y q)
  visited k (j ∷ p) Empty a w s i y q = absurd (none-ne-some y q)
  visited k (j ∷ p) (Frame x) a w s i y q = absurd (none-ne-some y q)
  visited k (j ∷ p) (Node l f) a w s zero y q =
      subst (λ (m : ℕ). EntryValid A m y) (sym (add-zero k)) (subst (λ (z : NodeEntry). EntryValid A k z) (some-injective (f j) y q) (kid f a w j s.1).0)
  visited k (j ∷ p) (Node l f) a w s (suc i) y q =
      let (v, b, u) = kid f a w j s.1 in
      let r = visited (suc k) p (f j) b u s.2 i y q in
      let z : suc k + i ≡ k + suc i = omega arith in
      subst (λ (m : ℕ). EntryValid A m y) z r

  -- lemma_visited_entries_satisfy_wf
  pub visited_entries_satisfy_wf : (k : ℕ) (f : ℕ → NodeEntry) (p : Path) → Wf A (Node k f) → Valid A k p
      → (i : ℕ) (y : NodeEntry) → get_elem? (visit p (Node k f)) i ≡ some y → EntryValid A (k + i) y
  visited_entries_satisfy_wf k f p w v = visited k p (Node k f) refl w v.1

  abbrev pub IsNode : NodeEntry → Type 0
  IsNode (Node k f) = Unit {0}
  IsNode (Frame x) = ⊥
  IsNode Empty = ⊥

  -- lemma_visited_entry_is_node_except_final: of any path, from any entry
  pub visited_entry_is_node_except_final : (p : Path) (e : NodeEntry) (i : ℕ) (y : NodeEntry) → suc i < length (visit p e) → get_elem? (visit p e) i ≡ some y → IsNode y
  visited_entry_is_node_except_final [] e i y l q = absurd (omega arith)
  visited_entry_is_node_except_final (j ∷ p) Empty i y l q = absurd (omega arith)
  visited_entry_is_node_except_final (j ∷ p) (Frame x) i y l q = absurd (omega arith)
  visited_entry_is_node_except_final (j ∷ p) (Node k f) zero y l q = subst IsNode (some-injective (f j) y q) (more p (f j) (omega arith))
    where
      more : (p : Path) (e : NodeEntry) → 0 < length (visit p e) → IsNode e
      more [] e l = absurd (omega arith)
      more (i ∷ p) Empty l = absurd (omega arith)
      more (i ∷ p) (Frame x) l = absurd (omega arith)
      more (i ∷ p) (Node k f) l = tt
  visited_entry_is_node_except_final (j ∷ p) (Node k f) (suc i) y l q = visited_entry_is_node_except_final p (f j) i y (omega arith) q

  -- the entries along a path begin with those along a prefix of it
  visit_more : (p r : Path) (e : NodeEntry) → (s : List NodeEntry) × (visit (p ++ r) e ≡ visit p e ++ s)
  visit_more [] r e = (visit r e, refl)
  visit_more (i ∷ p) r Empty = ([], refl)
  visit_more (i ∷ p) r (Frame x) = ([], refl)
  visit_more (i ∷ p) r (Node k f) = let (s, q) = visit_more p r (f i) in (s, ap {B = List NodeEntry} (λ (l : List NodeEntry). f i ∷ l) q)

  -- lemma_visit_preserves_prefix: of any path, from any entry
  pub visit_preserves_prefix : (p q : Path) (e : NodeEntry) → HasPrefix p q
      → (length (visit q e) ≤ length (visit p e)) × ((i : ℕ) → i < length (visit q e) → get_elem? (visit q e) i ≡ get_elem? (visit p e) i)
  visit_preserves_prefix p q e (_, (r, h)) =
      let (s, g) = visit_more q r e in
      let z : visit p e ≡ visit q e ++ s = ap (λ (x : Path). visit x e) h ∙ g in (
        subst (λ (l : List NodeEntry). length (visit q e) ≤ length l) (sym z) (omega (arith, length-append (visit q e) s)),
        λ i l. subst (λ (m : List NodeEntry). get_elem? (visit q e) i ≡ get_elem? m i) (sym z) (first (visit q e) s i l),
      )
    where
      first : (a b : List NodeEntry) (i : ℕ) → i < length a → get_elem? a i ≡ get_elem? (a ++ b) i
      first [] b i l = absurd (omega arith)
      first (x ∷ a) b zero l = refl
      first (x ∷ a) b (suc i) l = first a b i (omega arith)

  -- ---- real_path

  steps_take : (n k : ℕ) (p : Path) → Steps A k p → Steps A k (take n p)
  steps_take zero k p s = tt
  steps_take (suc n) k [] s = tt
  steps_take (suc n) k (i ∷ p) s = (s.0, s.1, steps_take n (suc k) p s.2)

  real_path_some : (k : ℕ) (f : ℕ → NodeEntry) (p : Path) → p ≢ [] → real_path p (Node k f) ≢ []
  real_path_some k f [] n = absurd (n refl)
  real_path_some k f (i ∷ p) n = cons_not_nil

  -- lemma_real_path_valid
  pub real_path_valid : (k : ℕ) (f : ℕ → NodeEntry) (p : Path) → Valid A k p → Valid A k (real_path p (Node k f))
  real_path_valid k f p v = (real_path_some k f p v.0, steps_take (length (visit p (Node k f))) k p v.1)

  -- lemma_real_path_is_prefix
  pub real_path_is_prefix : (k : ℕ) (f : ℕ → NodeEntry) (p : Path) → Valid A k p → HasPrefix p (real_path p (Node k f))
  real_path_is_prefix k f p v =
      let n = length (visit p (Node k f)) in
      (real_path_some k f p v.0, (drop n p, sym (take-append-drop n p)))

  -- lemma_real_path_step: of any path, from any node
  pub real_path_step : (k : ℕ) (f : ℕ → NodeEntry) (i : ℕ) (p : Path) → real_path (i ∷ p) (Node k f) ≡ i ∷ real_path p (f i)
  real_path_step k f i p = refl

  -- lemma_real_path_visits_same_entry: of any path, from any entry
  pub real_path_visits_same_entry : (p : Path) (e : NodeEntry) → visit (real_path p e) e ≡ visit p e
  real_path_visits_same_entry [] e = refl
  real_path_visits_same_entry (i ∷ p) Empty = refl
  real_path_visits_same_entry (i ∷ p) (Frame x) = refl
  real_path_visits_same_entry (i ∷ p) (Node k f) = ap {B = List NodeEntry} (λ (l : List NodeEntry). f i ∷ l) (real_path_visits_same_entry p (f i))

  -- ---- path_mappings

  nonprefix : (q r : Path) (e : NodeEntry) (x y : SpecFrame) → Leads (q ++ r) e (Frame x) → Leads q e (Frame y) → r ≡ []
  nonprefix [] [] e x y a b = refl
  nonprefix [] (i ∷ r) e x y a b = absurd (subst (λ (z : NodeEntry). Leads (i ∷ r) z (Frame x)) b a)
  nonprefix (i ∷ q) r Empty x y a b = absurd a
  nonprefix (i ∷ q) r (Frame z) x y a b = absurd a
  nonprefix (i ∷ q) r (Node k f) x y a b = nonprefix q r (f i) x y a b

  -- lemma_path_mappings_nonprefix
  pub path_mappings_nonprefix : (k : ℕ) (f : ℕ → NodeEntry) (p q : Path) (x y : SpecFrame) → MapsTo A (Node k f) p x → MapsTo A (Node k f) q y → HasPrefix p q → p ≡ q
  path_mappings_nonprefix k f p q x y a b (_, (r, h)) =
      let z = nonprefix q r (Node k f) x y (subst (λ (o : Path). Leads o (Node k f) (Frame x)) h ((maps_is k f p x).0 a).1) ((maps_is k f q y).0 b).1 in
      h ∙ ap {B = Path} (λ (o : Path). q ++ o) z ∙ append-nil q

  -- below an entry of a node of level k that is not empty, where no node is empty, some path leads to a frame
  pub some_frame : (k : ℕ) (e : NodeEntry) → EntryValid A k e → Wf A e → AllNonempty A e → Filled A k e
      → (p : Path) × (x : SpecFrame) × Steps A (suc k) p × Leads p e (Frame x)
  some_frame k Empty v w a u = absurd u
  some_frame k (Frame x) v w a u = ([], x, tt, refl)
  some_frame k (Node l f) v w a u =
      let (i, b, c) = a.0 in
      let (p, x, s, q) = some_frame l (f i) (w.1 i b).0 (w.1 i b).1 (a.1 i b (w.1 i b).0) c in
      (i ∷ p, x, subst (λ (m : ℕ). Steps A m (i ∷ p)) v.1 (w.0, b, s), q)

  -- lemma_all_nonempty_implies_path_mappings_nonempty: at any level
  pub all_nonempty_implies_path_mappings_nonempty : (k : ℕ) (f : ℕ → NodeEntry) → Wf A (Node k f) → AllNonempty A (Node k f) → (p : Path) × ((x : SpecFrame) × MapsTo A (Node k f) p x)
  all_nonempty_implies_path_mappings_nonempty k f w a =
      let (i, b, c) = a.0 in
      let (p, x, s, q) = some_frame k (f i) (w.1 i b).0 (w.1 i b).1 (a.1 i b (w.1 i b).0) c in
      (i ∷ p, (x, (maps_is k f (i ∷ p) x).1 ((w.0, b, s), q)))
