-- What the ledger says of a page, of a new mapping and of a region, and that a walk over the tree finds the same.
-- The first half is definitions over a list of mappings alone: `lookup` is the mapping that holds a page, `Meets` says that a
-- new mapping shares a page with one, `Needs` that a region needs a table, `lack` counts the tables that a new mapping needs
-- and the ledger does not. The second half reads them off where a walk ends. What follows from the frames alone asks only
-- for `Rendered` and `Holds`, so it holds between any two writes of a call too; what counts tables asks for `Inv` at rest.
use Rattle.std.specs.Prelude.{◌≡◌, refl, ◌≢◌, ◌⊎◌, ℕ, zero, suc, ◌-◌, ◌/◌, ◌≤◌, ◌<◌, min, max}
use Rattle.std.proofs.Common.{ap, sym, ◌∙◌, subst, inl, inr, ⊎_elim, arith}
use Rattle.std.proofs.Math.Logic.{ite, if_neg}
use mathlib.Core.List.Memᴰ
use mathlib.Core.List.Memᴰ.{head as here}
use mathlib.Core.List.Memᴰ.{tail as there}
use mathlib.Core.List.{List, [], ◌∷◌, Memᴰ}
use Rattle.std.proofs.Math.Option.{Option, some, none}
use Rattle.std.proofs.Math.Decide.{ℕ_discrete, dec_lt, dec_le}
use Rattle.tree.specs.Region.{anc, page, anc_page}
use Rattle.tree.specs.Tree.{Ent, empty, frame, table, table≢empty, table≢frame, empty≢frame, Geo, Rendered}
use Rattle.tree.specs.Walk.{chain, Stop, Ends}
use Rattle.tree.specs.Inv.{Mapping, mapping, Holds, InvIf, frame_low}
use Rattle.tree.specs.Count.{any?}

module _ {A : Type 0} {Q : A → Type 0} (q? : (a : A) → Dec (Q a)) where
  -- the first of a list that a test takes
  abbrev pub first : List A → Option A
  first [] = none
  first (a ∷ l) = ite (q? a) (some a) (first l)

  -- there is none where the test takes no member
  pub first_none : (l : List A) → ((a : A) → Memᴰ a l → Q a → ⊥) → first l ≡ none
  first_none [] f = refl
  first_none (a ∷ l) f = if_neg (q? a) (f a (here refl)) (some a) (first l) ∙ first_none l (λ b m. f b (there m))

  -- it is a where the test takes a and no other member
  pub first_some : (l : List A) (a : A) → Memᴰ a l → Q a → ((b : A) → Memᴰ b l → Q b → b ≡ a) → first l ≡ some a
  first_some [] a m q u = absurd (Memᴰ.not-nil m)
  first_some (b ∷ l) a m q u = go (q? b) (Memᴰ.cases_cons m) (λ n. first_some l a n q (λ c k. u c (there k)))
    where
      go : (d : Dec (Q b)) → (a ≡ b) ⊎ Memᴰ a l → (Memᴰ a l → first l ≡ some a) → ite d (some b) (first l) ≡ some a
      go (yes p) e ih = ap some (u b (here refl) p)
      go (no p) (inl e) ih = absurd (p (subst Q e q))
      go (no p) (inr n) ih = ih n

-- page v lies in the mapping m
abbrev pub Covers : ℕ → ℕ → Mapping → Type 0
Covers K v m = anc K m.h v ≡ m.r

-- the mapping of the ledger in which page v lies
abbrev pub lookup : ℕ → ℕ → List Mapping → Option Mapping
lookup K v = first (λ (m : Mapping). ℕ_discrete (anc K m.h v) m.r)

-- the region of height g around page v shares a page with m: the larger of the two holds both
abbrev pub Meets : ℕ → ℕ → ℕ → Mapping → Type 0
Meets K g v m = anc K (max g m.h) v ≡ anc K (max g m.h) (page K m.h m.r)

-- m lies in region (k, r) and is smaller
abbrev pub Inside : ℕ → ℕ → ℕ → Mapping → Type 0
Inside K k r m = (m.h < k) × (anc K k (page K m.h m.r) ≡ r)

-- region (k, r) needs a table: a smaller mapping lies in it
abbrev pub Needs : ℕ → List Mapping → ℕ → ℕ → Type 0
Needs K L k r = (m : Mapping) × Memᴰ m L × Inside K k r m

-- it does or it does not
unfoldable pub needs? : (K : ℕ) (L : List Mapping) (k r : ℕ) → Dec (Needs K L k r)
needs? K L k r = any? (λ (m : Mapping). both m (dec_lt m.h k) (ℕ_discrete (anc K k (page K m.h m.r)) r)) L
  where
    both : (m : Mapping) → Dec (m.h < k) → Dec (anc K k (page K m.h m.r) ≡ r) → Dec (Inside K k r m)
    both m (yes p) (yes q) = yes (p, q)
    both m (yes p) (no q) = no (λ w. q w.1)
    both m (no p) d = no (λ w. p w.0)

-- how many regions around page v, of heights above g and up to k, do not need a table yet
abbrev pub lack : ℕ → List Mapping → ℕ → ℕ → ℕ → ℕ
lack K L g v zero = 0
lack K L g v (suc k) = ite (dec_lt g (suc k))
    (ite (needs? K L (suc k) (anc K (suc k) v)) (lack K L g v k) (suc (lack K L g v k))) 0

module _ {G : Geo} {W T : ℕ → ℕ → ℕ} {S : ℕ → ℕ → Ent} (R : Rendered G W T S) where
  -- around a page, a table has only tables above it
  above_table : (v s k : ℕ) → S s (anc G.K s v) ≡ table → s ≤ k → k ≤ G.top → S k (anc G.K k v) ≡ table
  above_table v s k p a b = go (ℕ_discrete s k)
    where
      go : Dec (s ≡ k) → S k (anc G.K k v) ≡ table
      go (yes e) = subst (λ (j : ℕ). S j (anc G.K j v) ≡ table) e p
      go (no e) = chain R v s (table≢empty p) k (omega arith) b

  -- around a page, a frame stands nowhere but at the entry below the last table
  frame_at : (v s h x : ℕ) → S (suc s) (anc G.K (suc s) v) ≡ table → S s (anc G.K s v) ≢ table
      → S h (anc G.K h v) ≡ frame x → h ≡ s
  frame_at v s h x p q r = go (dec_lt h s) (dec_lt s h)
    where
      low : s < G.top
      low = R.bound (suc s) (anc G.K (suc s) v) (table≢empty p)

      go : Dec (h < s) → Dec (s < h) → h ≡ s
      go (yes a) d = absurd (q (chain R v h (λ z. empty≢frame z r) s a (omega (arith, low))))
      go (no a) (yes b) = absurd (table≢frame (above_table v (suc s) h p b (omega (arith, frame_low R h (anc G.K h v) x r))) r)
      go (no a) (no b) = omega arith

  -- a walk with target 0 ends at no table
  pub ended : {v h : ℕ} {o : Stop} → Ends G T S 0 v h o → S o.height (anc G.K o.height v) ≢ table
  ended {v} {o = o} E p = ⊎_elim (λ n. n p) (λ z. R.leaf r (subst (λ (j : ℕ). S j r ≡ table) z p)) E.done
    where
      r : ℕ
      r = anc G.K o.height v

  module _ {L : List Mapping} (H : Holds S L) where
    -- the frame of a mapping is found from its first page
    at_page : (m : Mapping) → Memᴰ m L → S m.h (anc G.K m.h (page G.K m.h m.r)) ≡ frame m.x
    at_page m a = ap (S m.h) (anc_page G.K m.h m.r G.K-pos) ∙ H.live m a

    -- a region that needs a table has one
    pub inside_table : (k r : ℕ) → k < G.top → Needs G.K L k r → S k r ≡ table
    inside_table k r l (m, a, (b, c)) = ap (S k) (sym c)
        ∙ chain R (page G.K m.h m.r) m.h (λ z. empty≢frame z (at_page m a)) k b (omega arith)

    -- where a map's walk ended
    module _ {g v h : ℕ} {o : Stop} (E : Ends G T S g v h o) (le : g ≤ h) where
      -- the height of the entry
      abbrev s : ℕ
      s = o.height

      -- at an empty entry: no live mapping meets the new one
      pub none_meets : S s (anc G.K s v) ≡ empty → (m : Mapping) → Memᴰ m L → Meets G.K g v m → ⊥
      none_meets e m a c = go (dec_le g m.h)
        where
          gs : g ≤ s
          gs = E.target le

          st : s < G.top
          st = R.bound (suc s) (anc G.K (suc s) v) (table≢empty E.parent)

          at : (k : ℕ) → max g m.h ≡ k → anc G.K k v ≡ anc G.K k (page G.K m.h m.r)
          at k e = subst (λ (j : ℕ). anc G.K j v ≡ anc G.K j (page G.K m.h m.r)) e c

          go : Dec (g ≤ m.h) → ⊥
          go (yes l) =
              let f : S m.h (anc G.K m.h v) ≡ frame m.x = ap (S m.h) (at m.h (omega arith)) ∙ at_page m a in
              let z = frame_at v s m.h m.x E.parent (λ t. table≢empty t e) f in
              empty≢frame (ap (λ (j : ℕ). S j (anc G.K j v)) z ∙ e) f
          go (no l) =
              let t = inside_table g (anc G.K g v) (omega (arith, gs, st)) (m, a, (omega arith, sym (at g (omega arith)))) in
              table≢empty (above_table v g s t gs (omega (arith, st))) e

      -- at a frame: that mapping meets it
      pub frame_meets : (x : ℕ) → S s (anc G.K s v) ≡ frame x → (m : Mapping) × Memᴰ m L × Meets G.K g v m
      frame_meets x p = (mapping s r x, H.listed s r x p, meets)
        where
          r : ℕ
          r = anc G.K s v

          k : s ≡ max g s
          k = omega (arith, E.target le)

          meets : Meets G.K g v (mapping s r x)
          meets = subst (λ (j : ℕ). anc G.K j v ≡ anc G.K j (page G.K s r)) k (sym (anc_page G.K s r G.K-pos))

    -- a walk to a mapping's height or below, for a page that the mapping holds, ends at its frame
    pub covers_from : {g v h : ℕ} {o : Stop} → Ends G T S g v h o → (m : Mapping) → Memᴰ m L → Covers G.K v m → g ≤ m.h → m.h ≡ o.height
    covers_from {g} {v} {o = o} E m a c l = frame_at v o.height m.h m.x E.parent no_table there
      where
        there : S m.h (anc G.K m.h v) ≡ frame m.x
        there = ap (S m.h) c ∙ H.live m a

        no_table : S o.height (anc G.K o.height v) ≢ table
        no_table t = ⊎_elim (λ n. n t) (λ z. go z (ℕ_discrete m.h o.height)) E.done
          where
            go : o.height ≡ g → Dec (m.h ≡ o.height) → ⊥
            go z (yes e) = table≢frame t (ap (λ (j : ℕ). S j (anc G.K j v)) (sym e) ∙ there)
            go z (no d) = table≢frame (chain R v o.height (table≢empty t) m.h (omega arith) (R.bound m.h (anc G.K m.h v) (λ q. empty≢frame q there))) there

    -- where a query's walk ended
    module _ {v h : ℕ} {o : Stop} (E : Ends G T S 0 v h o) where
      -- the height of the entry
      abbrev s₀ : ℕ
      s₀ = o.height

      -- a mapping that holds the page has the entry's height
      pub covers_at : (m : Mapping) → Memᴰ m L → Covers G.K v m → m.h ≡ s₀
      covers_at m a c = covers_from E m a c (omega arith)

      -- at an empty entry: the ledger has nothing at the page
      pub query_none : S s₀ (anc G.K s₀ v) ≡ empty → lookup G.K v L ≡ none
      query_none e = first_none (λ m. ℕ_discrete (anc G.K m.h v) m.r) L
          (λ m a c. empty≢frame (ap (λ (j : ℕ). S j (anc G.K j v)) (covers_at m a c) ∙ e) (ap (S m.h) c ∙ H.live m a))

      -- at a frame: the ledger has that mapping at the page
      pub query_some : (x : ℕ) → S s₀ (anc G.K s₀ v) ≡ frame x → lookup G.K v L ≡ some (mapping s₀ (anc G.K s₀ v) x)
      query_some x e = first_some (λ m. ℕ_discrete (anc G.K m.h v) m.r) L (mapping s₀ (anc G.K s₀ v) x)
          (H.listed s₀ (anc G.K s₀ v) x e) refl only
        where
          only : (m : Mapping) → Memᴰ m L → Covers G.K v m → m ≡ mapping s₀ (anc G.K s₀ v) x
          only m a c =
              let p = covers_at m a c in
              let q : m.r ≡ anc G.K s₀ v = sym c ∙ ap (λ (j : ℕ). anc G.K j v) p in
              let l = H.live m a in
              let y : m.x ≡ x = cc in
              λ i. mapping (p i) (q i) (y i)

module _ {C D : Type 0} {G : Geo} {W : ℕ → ℕ → ℕ} {P : ℕ → ℕ} {f : ℕ} {T : ℕ → ℕ → ℕ} {S : ℕ → ℕ → Ent} {L : List Mapping}
    (I : InvIf C D G W P f T S L G.top 0) (all : C) where
  -- a region below the root that has a table needs it
  pub table_inside : (k r : ℕ) → k < G.top → S k r ≡ table → Needs G.K L k r
  table_inside zero r l p = absurd (I.ren.leaf r p)
  table_inside (suc k) r l p =
      let (r', a, b) = I.dense all k r p l (λ s. omega (arith, s.0)) in
      go r' a b (S k r') refl (λ q. table_inside k r' (omega arith) q)
    where
      go : (r' : ℕ) → r' / G.K ≡ r → S k r' ≢ empty → (e : Ent) → S k r' ≡ e → (S k r' ≡ table → Needs G.K L k r')
          → Needs G.K L (suc k) r
      go r' a b empty q ih = absurd (b q)
      go r' a b (frame x) q ih = (
        mapping k r' x,
        I.holds.listed k r' x q,
        (omega arith, ap (λ (z : ℕ). z / G.K) (anc_page G.K k r' G.K-pos) ∙ a),
      )
      go r' a b table q ih = let (m, c, (d, e)) = ih q in (m, c, (omega arith, ap (λ (z : ℕ). z / G.K) e ∙ a))

  -- a map's walk ended at a table, so at the target: a live mapping inside meets the new one
  pub table_meets : {g v h : ℕ} {o : Stop} → Ends G T S g v h o → S o.height (anc G.K o.height v) ≡ table
      → (m : Mapping) × Memᴰ m L × Meets G.K g v m
  table_meets {g} {v} {o = o} E p = ⊎_elim (λ n. absurd (n p)) at_target E.done
    where
      low : o.height < G.top
      low = I.ren.bound (suc o.height) (anc G.K (suc o.height) v) (table≢empty E.parent)

      at_target : o.height ≡ g → (m : Mapping) × Memᴰ m L × Meets G.K g v m
      at_target z =
          let t = subst (λ (j : ℕ). S j (anc G.K j v) ≡ table) z p in
          let (m, a, (b, c)) = table_inside g (anc G.K g v) (omega (arith, low)) t in
          let k : g ≡ max g m.h = omega arith in
          (m, a, subst (λ (j : ℕ). anc G.K j v ≡ anc G.K j (page G.K m.h m.r)) k (sym c))

  -- what a map lacks is what lies between its target and the empty entry where its walk ended
  pub lack_is : (g v s : ℕ) → S (suc s) (anc G.K (suc s) v) ≡ table → S s (anc G.K s v) ≡ empty → g ≤ s
      → (k : ℕ) → k < G.top → lack G.K L g v k ≡ min k s - g
  lack_is g v s p e l zero b = omega arith
  lack_is g v s p e l (suc k) b = go (dec_lt g (suc k)) (needs? G.K L (suc k) w) (lack_is g v s p e l k (omega arith))
    where
      w : ℕ
      w = anc G.K (suc k) v

      st : s < G.top
      st = I.ren.bound (suc s) (anc G.K (suc s) v) (table≢empty p)

      -- up to the entry no region needs a table
      below : Dec (s < suc k) → Needs G.K L (suc k) w → s < suc k
      below (yes q) n = q
      below (no q) n =
          let t = inside_table I.ren I.holds (suc k) w b n in
          absurd (table≢empty (above_table I.ren v (suc k) s t (omega arith) (omega (arith, st))) e)

      -- above it every region does
      above : Dec (suc k ≤ s) → (Needs G.K L (suc k) w → ⊥) → suc k ≤ s
      above (yes q) n = q
      above (no q) n =
          absurd (n (table_inside (suc k) w b (above_table I.ren v (suc s) (suc k) p (omega arith) (omega arith))))

      go : (d : Dec (g < suc k)) (n : Dec (Needs G.K L (suc k) w)) → lack G.K L g v k ≡ min k s - g
          → ite d (ite n (lack G.K L g v k) (suc (lack G.K L g v k))) 0 ≡ min (suc k) s - g
      go (no d) n ih = omega arith
      go (yes d) (yes n) ih = omega (arith, below (dec_lt s (suc k)) n)
      go (yes d) (no n) ih = omega (arith, above (dec_le (suc k) s) n)
