-- The tree of the theory of crate `tree`, two functions of height and region, as one of upstream's nodes: what an insert, and a remove with its prune, do
-- to the one is what they do to the other.
use Rattle.std.specs.Prelude.{◌≡◌, refl, ◌≢◌, ◌⊎◌, Bool, true, false, cond, [], ◌∷◌, ℕ, zero, suc, ◌+◌, ◌-◌, ◌*◌, ◌/◌, ◌%◌, ◌≤◌, ◌<◌, ltb}
use Rattle.std.proofs.Common.{ap, sym, ◌∙◌, subst, ⊎_elim, true≢false, mod-lt, div-add-mod', arith, ltb-true, lt-ltb}
use Rattle.std.proofs.Math.Arith.{digits_div, digits_mod}
use Rattle.laws.specs.Lists.{all_zero}
use Rattle.tree.specs.Region.{anc}
use Rattle.tree.specs.Tree.{Ent, empty, frame, table, table≢empty, empty?}
use Rattle.upstream.specs.Values.{Arch, SpecFrame, NodeEntry, Node, Frame, Empty, Path, put, bare, is_empty, all_empty, insert, remove, trimmed, trim, prune}
use Rattle.upstream.proofs.ValueVisits.{put_case, put_same}
use Rattle.upstream.proofs.ValueRemoves.{remove_frame, all_empty_lem}

-- K entries of a table, a root of height top, and the frame that a payload stands for at a height
module _ (K top : ℕ) (pos : 0 < K) (φ : ℕ → ℕ → SpecFrame) where
  abbrev pub pick : Ent → (ℕ → SpecFrame) → NodeEntry → NodeEntry
  pick empty f n = Empty
  pick (frame x) f n = Frame (f x)
  pick table f n = n

  -- the first K entries
  abbrev pub up_to : (ℕ → NodeEntry) → ℕ → NodeEntry
  up_to f i = cond (ltb i K) (f i) Empty

  -- what stands at region r of height h
  abbrev pub cell : (ℕ → ℕ → Ent) → ℕ → ℕ → NodeEntry
  cell S zero r = pick (S zero r) (φ zero) Empty
  cell S (suc h) r = pick (S (suc h) r) (φ (suc h)) (Node (top - suc h) (up_to (λ i. cell S h (r * K + i))))

  -- the entries of a table at region r of height h + 1
  abbrev pub kids : (ℕ → ℕ → Ent) → ℕ → ℕ → ℕ → NodeEntry
  kids S h r = up_to (λ i. cell S h (r * K + i))

  up_to_in : (f : ℕ → NodeEntry) (i : ℕ) → i < K → up_to f i ≡ f i
  up_to_in f i l = ap (λ (b : Bool). cond b (f i) Empty) (lt-ltb i K l)

  -- two nodes with the same first K entries have the same entries
  pub up_to_same : (f g : ℕ → NodeEntry) → ((i : ℕ) → i < K → f i ≡ g i) → up_to f ≡ up_to g
  up_to_same f g h = λ t i. at i (ltb i K) refl t
    where
      at : (i : ℕ) (b : Bool) → ltb i K ≡ b → cond b (f i) Empty ≡ cond b (g i) Empty
      at i true q = h i (ltb-true i K q)
      at i false q = refl

  pub cell_empty : (S : ℕ → ℕ → Ent) (h r : ℕ) → S h r ≡ empty → cell S h r ≡ Empty
  cell_empty S zero r q = ap (λ (e : Ent). pick e (φ zero) Empty) q
  cell_empty S (suc h) r q = ap (λ (e : Ent). pick e (φ (suc h)) (Node (top - suc h) (kids S h r))) q

  pub cell_frame : (S : ℕ → ℕ → Ent) (h r x : ℕ) → S h r ≡ frame x → cell S h r ≡ Frame (φ h x)
  cell_frame S zero r x q = ap (λ (e : Ent). pick e (φ zero) Empty) q
  cell_frame S (suc h) r x q = ap (λ (e : Ent). pick e (φ (suc h)) (Node (top - suc h) (kids S h r))) q

  pub cell_table : (S : ℕ → ℕ → Ent) (h r : ℕ) → S (suc h) r ≡ table → cell S (suc h) r ≡ Node (top - suc h) (kids S h r)
  cell_table S h r q = ap (λ (e : Ent). pick e (φ (suc h)) (Node (top - suc h) (kids S h r))) q

  -- the indices of page v, from the entries of height h - 1 on, n of them
  module _ (v : ℕ) where
    abbrev pub down : ℕ → ℕ → Path
    down zero h = []
    down (suc n) zero = []
    down (suc n) (suc h) = (anc K h v % K) ∷ down n h

    -- two trees that differ at most at the regions that hold v
    abbrev pub Aside : (S S' : ℕ → ℕ → Ent) → Type 0
    Aside S S' = (h r : ℕ) → r ≢ anc K h v → S' h r ≡ S h r

    module _ (S S' : ℕ → ℕ → Ent) (aside : Aside S S') where
      cell_aside : (h r : ℕ) → r ≢ anc K h v → cell S' h r ≡ cell S h r
      cell_aside zero r n = ap (λ (e : Ent). pick e (φ zero) Empty) (aside zero r n)
      cell_aside (suc h) r n =
          let q : kids S' h r ≡ kids S h r = up_to_same (λ i. cell S' h (r * K + i)) (λ i. cell S h (r * K + i)) (λ i l. cell_aside h (r * K + i) (λ e. n (sym (digits_div r l) ∙ ap (λ (x : ℕ). x / K) e))) in
          λ t. pick (aside (suc h) r n t) (φ (suc h)) (Node (top - suc h) (q t))

      -- the entries around v, with what is then at v's own
      pub kids_put : (h : ℕ) (e : NodeEntry) → e ≡ cell S' h (anc K h v) → put (kids S h (anc K (suc h) v)) (anc K h v % K) e ≡ kids S' h (anc K (suc h) v)
      kids_put h e q = λ t j. at j t
        where
          r : ℕ
          r = anc K (suc h) v

          i : ℕ
          i = anc K h v % K

          at : (j : ℕ) → put (kids S h r) i e j ≡ kids S' h r j
          at j = ⊎_elim here there (put_case (kids S h r) i e j)
            where
              here : (j ≡ i) × (put (kids S h r) i e j ≡ e) → put (kids S h r) i e j ≡ kids S' h r j
              here (a, b) = b ∙ q ∙ ap (cell S' h) (sym (div-add-mod' (anc K h v) K)) ∙ sym (up_to_in (λ m. cell S' h (r * K + m)) i (mod-lt (anc K h v) pos)) ∙ ap (kids S' h r) (sym a)

              there : (j ≢ i) × (put (kids S h r) i e j ≡ kids S h r j) → put (kids S h r) i e j ≡ kids S' h r j
              there (a, b) = b ∙ by (ltb j K) refl
                where
                  by : (c : Bool) → ltb j K ≡ c → cond c (cell S h (r * K + j)) Empty ≡ cond c (cell S' h (r * K + j)) Empty
                  by true l = sym (cell_aside h (r * K + j) (λ z. a (sym (digits_mod r (ltb-true j K l)) ∙ ap (λ (x : ℕ). x % K) z)))
                  by false l = refl

    -- v's own entry
    pub kids_own : (S : ℕ → ℕ → Ent) (h : ℕ) → kids S h (anc K (suc h) v) (anc K h v % K) ≡ cell S h (anc K h v)
    kids_own S h = up_to_in (λ m. cell S h (anc K (suc h) v * K + m)) (anc K h v % K) (mod-lt (anc K h v) pos) ∙ ap (cell S h) (div-add-mod' (anc K h v) K)

    -- ---- insert

    -- a frame with payload x at the region of height g that holds v, and tables above it where there was nothing
    pub record Grown (S S' : ℕ → ℕ → Ent) (g x : ℕ) : Type 0 where
      pub aside : Aside S S'
      pub vacant : S g (anc K g v) ≡ empty
      pub there : S' g (anc K g v) ≡ frame x
      pub above : (h : ℕ) → g < h → h ≤ top → (S' h (anc K h v) ≡ table) × ((S h (anc K h v) ≡ table) ⊎ (S h (anc K h v) ≡ empty))

    -- what is not empty stands in a table
    abbrev pub Upward : (ℕ → ℕ → Ent) → Type 0
    Upward S = (h r : ℕ) → h < top → S h r ≢ empty → S (suc h) (r / K) ≡ table

    nothing_in : (S : ℕ → ℕ → Ent) → Upward S → (h r : ℕ) → h < top → S (suc h) (r / K) ≡ empty → S h r ≡ empty
    nothing_in S up h r l q = go (empty? (S h r))
      where
        go : Dec (S h r ≡ empty) → S h r ≡ empty
        go (yes e) = e
        go (no n) = absurd (table≢empty (up h r l n) q)

    bare_kids : (S : ℕ → ℕ → Ent) → Upward S → (h : ℕ) → h < top → S (suc h) (anc K (suc h) v) ≡ empty → bare ≡ kids S h (anc K (suc h) v)
    bare_kids S up h l q = λ t i. at i (ltb i K) refl t
      where
        at : (i : ℕ) (b : Bool) → ltb i K ≡ b → Empty ≡ cond b (cell S h (anc K (suc h) v * K + i)) Empty
        at i true c = sym (cell_empty S h (anc K (suc h) v * K + i) (nothing_in S up h (anc K (suc h) v * K + i) l (ap (S (suc h)) (digits_div (anc K (suc h) v) (ltb-true i K c)) ∙ q)))
        at i false c = refl

    abbrev Inserted : ℕ → Path → SpecFrame → NodeEntry → NodeEntry → Type 0
    Inserted k p y e e' = ((insert k p y e).after ≡ e') × ((insert k p y e).ok ≡ true)

    pub grown_inserted : (S S' : ℕ → ℕ → Ent) (g x : ℕ) → Upward S → Grown S S' g x → (n h k : ℕ) → h ≡ g + n → h ≤ top → k ≡ top - h
        → Inserted k (down n h) (φ g x) (cell S h (anc K h v)) (cell S' h (anc K h v))
    grown_inserted S S' g x up D zero h k e l q =
        let z : h ≡ g = omega arith in
        let a = cell_empty S h (anc K h v) (ap (λ (j : ℕ). S j (anc K j v)) z ∙ D.vacant) in
        let b = cell_frame S' h (anc K h v) x (ap (λ (j : ℕ). S' j (anc K j v)) z ∙ D.there) in (
          ap (λ (y : NodeEntry). (insert k [] (φ g x) y).after) a ∙ ap (λ (j : ℕ). Frame (φ j x)) (sym z) ∙ sym b,
          ap (λ (y : NodeEntry). (insert k [] (φ g x) y).ok) a,
        )
    grown_inserted S S' g x up D (suc n) zero k e l q = absurd (omega arith)
    grown_inserted S S' g x up D (suc n) (suc h) k e l q =
        let (t, c) = D.above (suc h) (omega arith) l in
        let (a, b) = grown_inserted S S' g x up D n h (suc k) (omega arith) (omega arith) (omega arith) in
        ⊎_elim (λ s. on t s a b) (λ s. new t s a b) c
      where
        i : ℕ
        i = anc K h v % K

        r : ℕ
        r = anc K (suc h) v

        y : SpecFrame
        y = φ g x

        Goal : Type 0
        Goal = Inserted k (i ∷ down n h) y (cell S (suc h) r) (cell S' (suc h) r)

        on : S' (suc h) r ≡ table → S (suc h) r ≡ table → (insert (suc k) (down n h) y (cell S h (anc K h v))).after ≡ cell S' h (anc K h v) → (insert (suc k) (down n h) y (cell S h (anc K h v))).ok ≡ true → Goal
        on t s a b =
            let own = kids_own S h in
            let o : ((insert (suc k) (down n h) y (kids S h r i)).after ≡ cell S' h (anc K h v)) × ((insert (suc k) (down n h) y (kids S h r i)).ok ≡ true)
            = subst (λ (w : NodeEntry). ((insert (suc k) (down n h) y w).after ≡ cell S' h (anc K h v)) × ((insert (suc k) (down n h) y w).ok ≡ true)) (sym own) (a, b)
            in
            let z : Inserted k (i ∷ down n h) y (Node k (kids S h r)) (Node k (kids S' h r)) = (ap (Node k) (kids_put S S' D.aside h _ o.0), o.1) in
            let u = cell_table S h r s ∙ ap (λ (m : ℕ). Node m (kids S h r)) (sym q) in
            let w = cell_table S' h r t ∙ ap (λ (m : ℕ). Node m (kids S' h r)) (sym q) in
            subst (λ (m : NodeEntry). Inserted k (i ∷ down n h) y (cell S (suc h) r) m) (sym w) (subst (λ (m : NodeEntry). Inserted k (i ∷ down n h) y m (Node k (kids S' h r))) (sym u) z)

        new : S' (suc h) r ≡ table → S (suc h) r ≡ empty → (insert (suc k) (down n h) y (cell S h (anc K h v))).after ≡ cell S' h (anc K h v) → (insert (suc k) (down n h) y (cell S h (anc K h v))).ok ≡ true → Goal
        new t s a b =
            let own = cell_empty S h (anc K h v) (nothing_in S up h (anc K h v) l s) in
            let o : ((insert (suc k) (down n h) y Empty).after ≡ cell S' h (anc K h v)) × ((insert (suc k) (down n h) y Empty).ok ≡ true)
            = subst (λ (w : NodeEntry). ((insert (suc k) (down n h) y w).after ≡ cell S' h (anc K h v)) × ((insert (suc k) (down n h) y w).ok ≡ true)) own (a, b)
            in
            let z : Inserted k (i ∷ down n h) y Empty (Node k (kids S' h r))
            = (ap (λ (f : ℕ → NodeEntry). Node k (put f i (insert (suc k) (down n h) y Empty).after)) (bare_kids S up h l s) ∙ ap (Node k) (kids_put S S' D.aside h _ o.0), o.1)
            in
            let w = cell_table S' h r t ∙ ap (λ (m : ℕ). Node m (kids S' h r)) (sym q) in
            subst (λ (m : NodeEntry). Inserted k (i ∷ down n h) y (cell S (suc h) r) m) (sym w) (subst (λ (m : NodeEntry). Inserted k (i ∷ down n h) y m (Node k (kids S' h r))) (sym (cell_empty S (suc h) r s)) z)

    -- ---- remove and prune

    -- the frame at the region of height g that holds v is gone, and so is each table above it, below the root, that has no entry then
    pub record Cut (S S' : ℕ → ℕ → Ent) (g x : ℕ) : Type 0 where
      pub aside : Aside S S'
      pub was : S g (anc K g v) ≡ frame x
      pub gone : S' g (anc K g v) ≡ empty
      pub tables : (h : ℕ) → g < h → h ≤ top → S h (anc K h v) ≡ table
      pub root : S' top (anc K top v) ≡ table
      pub leaf : (r : ℕ) → S' 0 r ≢ table
      pub each : (h : ℕ) → g ≤ h → suc h < top
          → ((S' (suc h) (anc K (suc h) v) ≡ empty) × ((r : ℕ) → r / K ≡ anc K (suc h) v → S' h r ≡ empty))
          ⊎ ((S' (suc h) (anc K (suc h) v) ≡ table) × ((r : ℕ) × (r / K ≡ anc K (suc h) v) × (S' h r ≢ empty)))

    all_empty_of : (n : ℕ) (f : ℕ → NodeEntry) → ((i : ℕ) → i < n → f i ≡ Empty) → all_empty n f ≡ true
    all_empty_of zero f h = refl
    all_empty_of (suc n) f h = ap (λ (e : NodeEntry). cond (is_empty e) (all_empty n f) false) (h n (omega arith)) ∙ all_empty_of n f (λ i l. h i (omega arith))

    put_twice : (f : ℕ → NodeEntry) (i : ℕ) (a b : NodeEntry) → put (put f i a) i b ≡ put f i b
    put_twice f i a b = λ t j. at j t
      where
        at : (j : ℕ) → put (put f i a) i b j ≡ put f i b j
        at j = ⊎_elim
            (λ (q, r). r ∙ sym (ap (put f i b) q ∙ put_same f i b))
            (λ (n, r). r ∙ ⊎_elim (λ (q, _). absurd (n q)) (λ (_, s). s) (put_case f i a j) ∙ sym (⊎_elim (λ (q, _). absurd (n q)) (λ (_, s). s) (put_case f i b j)))
            (put_case (put f i a) i b j)

    cell_some : (S : ℕ → ℕ → Ent) → ((r : ℕ) → S 0 r ≢ table) → (h r : ℕ) → S h r ≢ empty → is_empty (cell S h r) ≡ false
    cell_some S leaf zero r n = go (S zero r) refl
      where
        go : (e : Ent) → S zero r ≡ e → is_empty (pick e (φ zero) Empty) ≡ false
        go empty q = absurd (n q)
        go (frame x) q = refl
        go table q = absurd (leaf r q)
    cell_some S leaf (suc h) r n = go (S (suc h) r) refl
      where
        go : (e : Ent) → S (suc h) r ≡ e → is_empty (pick e (φ (suc h)) (Node (top - suc h) (kids S h r))) ≡ false
        go empty q = absurd (n q)
        go (frame x) q = refl
        go table q = refl

    -- the architecture: its frame sizes are not asked for
    module _ (σ : ℕ → ℕ) where
      abbrev arch : Arch
      arch = record { levels = top; count = λ l. K; size_of = σ }

      trim_empty : (p : Path) → trim arch p Empty ≡ Empty
      trim_empty [] = refl
      trim_empty (i ∷ p) = refl

      module _ (S S' : ℕ → ℕ → Ent) (g x : ℕ) (D : Cut S S' g x) (zeros : all_zero (down g g) ≡ true) where
        removed_ok : (n h : ℕ) → h ≡ g + n → h ≤ top → (remove (down h h) (cell S h (anc K h v))).ok ≡ true
        removed_ok zero h e l =
            let z : h ≡ g = omega arith in
            subst (λ (j : ℕ). (remove (down j j) (cell S j (anc K j v))).ok ≡ true) (sym z)
            (ap (λ (y : NodeEntry). (remove (down g g) y).ok) (cell_frame S g (anc K g v) x D.was) ∙ ((remove_frame (down g g) (φ g x)).0 zeros).1)
        removed_ok (suc n) zero e l = absurd (omega arith)
        removed_ok (suc n) (suc h) e l =
            ap (λ (y : NodeEntry). (remove (down (suc h) (suc h)) y).ok) (cell_table S h (anc K (suc h) v) (D.tables (suc h) (omega arith) l))
            ∙ ap (λ (y : NodeEntry). (remove (down h h) y).ok) (kids_own S h) ∙ removed_ok n h (omega arith) (omega arith)

        -- the entries of a node on the way, once its own entry is trimmed
        trimmed_kids : (h : ℕ) → trim arch (down h h) (remove (down h h) (cell S h (anc K h v))).after ≡ cell S' h (anc K h v)
            → put (put (kids S h (anc K (suc h) v)) (anc K h v % K) (remove (down h h) (kids S h (anc K (suc h) v) (anc K h v % K))).after) (anc K h v % K)
            (trim arch (down h h) (put (kids S h (anc K (suc h) v)) (anc K h v % K) (remove (down h h) (kids S h (anc K (suc h) v) (anc K h v % K))).after (anc K h v % K)))
            ≡ kids S' h (anc K (suc h) v)
        trimmed_kids h q =
            put_twice (kids S h (anc K (suc h) v)) (anc K h v % K) _ _
            ∙ kids_put S S' D.aside h _
            (ap (trim arch (down h h)) (put_same (kids S h (anc K (suc h) v)) (anc K h v % K) _ ∙ ap (λ (y : NodeEntry). (remove (down h h) y).after) (kids_own S h)) ∙ q)

        below_root : (n h : ℕ) → h ≡ g + n → h < top → trim arch (down h h) (remove (down h h) (cell S h (anc K h v))).after ≡ cell S' h (anc K h v)
        below_root zero h e l =
            let z : h ≡ g = omega arith in
            subst (λ (j : ℕ). trim arch (down j j) (remove (down j j) (cell S j (anc K j v))).after ≡ cell S' j (anc K j v)) (sym z)
            (ap (λ (y : NodeEntry). trim arch (down g g) (remove (down g g) y).after) (cell_frame S g (anc K g v) x D.was)
            ∙ ap (trim arch (down g g)) ((remove_frame (down g g) (φ g x)).0 zeros).0 ∙ trim_empty (down g g) ∙ sym (cell_empty S' g (anc K g v) D.gone))
        below_root (suc n) zero e l = absurd (omega arith)
        below_root (suc n) (suc h) e l =
            ap (λ (y : NodeEntry). trim arch (down (suc h) (suc h)) (remove (down (suc h) (suc h)) y).after) (cell_table S h (anc K (suc h) v) (D.tables (suc h) (omega arith) (omega arith)))
            ∙ ap (trimmed arch (top - suc h)) (trimmed_kids h (below_root n h (omega arith) (omega arith)))
            ∙ ⊎_elim none some (D.each h (omega arith) l)
          where
            r : ℕ
            r = anc K (suc h) v

            none : (S' (suc h) r ≡ empty) × ((c : ℕ) → c / K ≡ r → S' h c ≡ empty) → trimmed arch (top - suc h) (kids S' h r) ≡ cell S' (suc h) r
            none (a, b) = ap (λ (c : Bool). cond c Empty (Node (top - suc h) (kids S' h r)))
                (all_empty_of K (kids S' h r) (λ i m. up_to_in (λ c. cell S' h (r * K + c)) i m ∙ cell_empty S' h (r * K + i) (b (r * K + i) (digits_div r m)))) ∙ sym (cell_empty S' (suc h) r a)

            some : (S' (suc h) r ≡ table) × ((c : ℕ) × (c / K ≡ r) × (S' h c ≢ empty)) → trimmed arch (top - suc h) (kids S' h r) ≡ cell S' (suc h) r
            some (a, (c, q, n)) = by (all_empty K (kids S' h r)) refl
              where
                own : kids S' h r (c % K) ≡ cell S' h c
                own = up_to_in (λ i. cell S' h (r * K + i)) (c % K) (mod-lt c pos) ∙ ap (cell S' h) (ap (λ (y : ℕ). y * K + c % K) (sym q) ∙ div-add-mod' c K)

                by : (b : Bool) → all_empty K (kids S' h r) ≡ b → trimmed arch (top - suc h) (kids S' h r) ≡ cell S' (suc h) r
                by true z = absurd (true≢false (sym (ap is_empty (sym own ∙ all_empty_lem K (kids S' h r) z (c % K) (mod-lt c pos))) ∙ cell_some S' D.leaf h c n))
                by false z = ap (λ (b : Bool). cond b Empty (Node (top - suc h) (kids S' h r))) z ∙ sym (cell_table S' h r a)

        -- at the root
        pub cut_removed : (k : ℕ) → suc k ≡ top → g < top
            → (prune arch (down top top) (remove (down top top) (cell S top (anc K top v))).after ≡ cell S' top (anc K top v)) × ((remove (down top top) (cell S top (anc K top v))).ok ≡ true)
        cut_removed k e l = (subst (λ (j : ℕ). prune arch (down j j) (remove (down j j) (cell S j (anc K j v))).after ≡ cell S' j (anc K j v)) e at, removed_ok (top - g) top (omega arith) (omega arith))
          where
            at : prune arch (down (suc k) (suc k)) (remove (down (suc k) (suc k)) (cell S (suc k) (anc K (suc k) v))).after ≡ cell S' (suc k) (anc K (suc k) v)
            at =
                ap (λ (y : NodeEntry). prune arch (down (suc k) (suc k)) (remove (down (suc k) (suc k)) y).after) (cell_table S k (anc K (suc k) v) (D.tables (suc k) (omega arith) (omega arith)))
                ∙ ap (Node (top - suc k)) (trimmed_kids k (below_root (k - g) k (omega arith) (omega arith)))
                ∙ sym (cell_table S' k (anc K (suc k) v) (ap (λ (j : ℕ). S' j (anc K j v)) e ∙ D.root))
