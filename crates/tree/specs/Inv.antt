-- The invariant between words, free list and ledger, and the four steps that keep it.
-- A ledger is a list of mappings. `Inv G W P f T S L h₀ r₀` says: the words W are those of the tree S, T (`Rendered`); the
-- frames of the tree are the ledger L (`Holds`); every table has an entry, but for the root and the one at (h₀, r₀) (`Dense`);
-- the first f places of P are the unused tables (`Free`), and those are zero (`Zeros`). `InvIf C D` asks for entries only where
-- C holds, and for the free list only where D does. The steps are proved of it, so that they serve a pool that the audit
-- accepts, and words of which no more is known than that they are a tree. At rest the exception is the root itself, (top, 0), which needs
-- none; in the middle of a call it is the table just linked, or the one that just lost an entry. The steps: `link` a new
-- empty table, `put` a frame, `clear` one, `unlink` an empty table; `excuse` and `settle` go between a call and rest.
-- `Store` is the memory that a call runs on, of which only reading what was written is known; `reword` passes to it.
use Rattle.std.specs.Prelude.{◌≡◌, refl, ◌≢◌, ◌⊎◌, ℕ, zero, suc, ◌/◌, ◌%◌, ◌≤◌, ◌<◌}
use Rattle.std.proofs.Common.{ap, sym, ◌∙◌, subst, inl, inr, mod-lt, arith}
use mathlib.Core.List.Memᴰ
use mathlib.Core.List.Memᴰ.{head as here}
use mathlib.Core.List.Memᴰ.{tail as there}
use mathlib.Core.List.{List, [], ◌∷◌, Memᴰ}
use Rattle.std.proofs.Math.Decide.{ℕ_discrete}
use Rattle.tree.specs.Region.{Same, same?, upd, upd_at, upd_other, put1, put1_at, put1_other}
use Rattle.tree.specs.Tree.{Ent, empty, frame, table, table≢empty, table≢frame, empty≢frame, empty?, Geo, Unused, Rendered, Zeros, Edit, S⁺, T⁺, Tab, new, old, tab, change, zeros_change}

-- a mapping: a frame of height h at region r, with payload x (base and attributes as one number)
pub record Mapping : Type 0 where
  pub h : ℕ
  pub r : ℕ
  pub x : ℕ

-- a mapping from its parts
abbrev pub mapping : ℕ → ℕ → ℕ → Mapping
mapping h r x = record { h = h; r = r; x = x }

-- region r of height h + 1 has an entry that is not empty
abbrev HasEntry : Geo → (ℕ → ℕ → Ent) → ℕ → ℕ → Type 0
HasEntry G S h r = (r' : ℕ) × (r' / G.K ≡ r) × (S h r' ≢ empty)

-- every table but the root and the one at (h₀, r₀) has an entry that is not empty
abbrev pub Dense : Geo → (ℕ → ℕ → Ent) → ℕ → ℕ → Type 0
Dense G S h₀ r₀ = (h r : ℕ) → S (suc h) r ≡ table → suc h < G.top → (Same h₀ r₀ (suc h) r → ⊥) → HasEntry G S h r

-- the first f places of P hold the unused tables of the pool, each once
pub record Free (G : Geo) (T : ℕ → ℕ → ℕ) (S : ℕ → ℕ → Ent) (P : ℕ → ℕ) (f : ℕ) : Type 0 where
  pub each : (i : ℕ) → i < f → (P i < G.n) × Unused T S (P i)
  pub once : (i j : ℕ) → i < f → j < f → P i ≡ P j → i ≡ j
  pub all : (t : ℕ) → t < G.n → Unused T S t → (i : ℕ) × (i < f) × (P i ≡ t)

-- the frames of the tree are the mappings of the ledger
pub record Holds (S : ℕ → ℕ → Ent) (L : List Mapping) : Type 0 where
  pub listed : (h r x : ℕ) → S h r ≡ frame x → Memᴰ (mapping h r x) L
  pub live : (m : Mapping) → Memᴰ m L → S m.h m.r ≡ frame m.x

-- the free list: the first f places of P are the unused tables, and those are zero
pub record Spare (G : Geo) (W : ℕ → ℕ → ℕ) (P : ℕ → ℕ) (f : ℕ) (T : ℕ → ℕ → ℕ) (S : ℕ → ℕ → Ent) : Type 0 where
  pub free : Free G T S P f
  pub zeros : Zeros G W T S

-- words W, free list P with f tables, ledger L: all of the tree S, T, with an exception at (h₀, r₀); of entries and of the free
-- list no more than C and D ask
pub record InvIf (C D : Type 0) (G : Geo) (W : ℕ → ℕ → ℕ) (P : ℕ → ℕ) (f : ℕ)
    (T : ℕ → ℕ → ℕ) (S : ℕ → ℕ → Ent) (L : List Mapping) (h₀ r₀ : ℕ) : Type 0 where
  pub ren : Rendered G W T S
  pub holds : Holds S L
  pub dense : C → Dense G S h₀ r₀
  pub spare : D → Spare G W P f T S

-- all of it
abbrev pub Inv : (G : Geo) → (ℕ → ℕ → ℕ) → (ℕ → ℕ) → ℕ → (ℕ → ℕ → ℕ) → (ℕ → ℕ → Ent) → List Mapping → ℕ → ℕ → Type 0
Inv G W P f T S L h₀ r₀ = InvIf (Unit {0}) (Unit {0}) G W P f T S L h₀ r₀

-- where both hold, all of it
pub whole : {C D : Type 0} {G : Geo} {W : ℕ → ℕ → ℕ} {P : ℕ → ℕ} {f : ℕ} {T : ℕ → ℕ → ℕ} {S : ℕ → ℕ → Ent} {L : List Mapping} {h₀ r₀ : ℕ}
    → InvIf C D G W P f T S L h₀ r₀ → C → D → Inv G W P f T S L h₀ r₀
whole I c d = record { ren = I.ren; holds = I.holds; dense = λ _. I.dense c; spare = λ _. I.spare d }

-- the list with its head kept or not, by a test
abbrev pub drop_if : {A : Type 0} {B : Type 0} → Dec A → B → List B → List B
drop_if (yes p) m L = L
drop_if (no p) m L = m ∷ L

-- the ledger without the mappings at region (h, r)
abbrev pub without : ℕ → ℕ → List Mapping → List Mapping
without h r [] = []
without h r (m ∷ L) = drop_if (same? h r m.h m.r) m (without h r L)

-- it has the mappings at other regions
pub without_keeps : (h r : ℕ) (m : Mapping) (L : List Mapping) → Memᴰ m L → (Same h r m.h m.r → ⊥)
    → Memᴰ m (without h r L)
without_keeps h r m [] a d = absurd (Memᴰ.not-nil a)
without_keeps h r m (k ∷ L) a d = go (λ b. without_keeps h r m L b d) (same? h r k.h k.r) (Memᴰ.cases_cons a)
  where
    go : (Memᴰ m L → Memᴰ m (without h r L)) → (w : Dec (Same h r k.h k.r)) → (m ≡ k) ⊎ Memᴰ m L
        → Memᴰ m (drop_if w k (without h r L))
    go ih (yes s) (inl e) = absurd (d (subst (λ (z : Mapping). Same h r z.h z.r) (sym e) s))
    go ih (yes s) (inr b) = ih b
    go ih (no s) (inl e) = here e
    go ih (no s) (inr b) = there (ih b)

-- and no others
pub without_gives : (h r : ℕ) (m : Mapping) (L : List Mapping) → Memᴰ m (without h r L)
    → Memᴰ m L × (Same h r m.h m.r → ⊥)
without_gives h r m [] a = absurd (Memᴰ.not-nil a)
without_gives h r m (k ∷ L) a = go (λ b. without_gives h r m L b) (same? h r k.h k.r) a
  where
    go : (Memᴰ m (without h r L) → Memᴰ m L × (Same h r m.h m.r → ⊥)) → (w : Dec (Same h r k.h k.r))
        → Memᴰ m (drop_if w k (without h r L)) → Memᴰ m (k ∷ L) × (Same h r m.h m.r → ⊥)
    go ih (yes s) b = let (c, d) = ih b in (there c, d)
    go ih (no s) b = more (Memᴰ.cases_cons b)
      where
        more : (m ≡ k) ⊎ Memᴰ m (without h r L) → Memᴰ m (k ∷ L) × (Same h r m.h m.r → ⊥)
        more (inl e) = (here e, λ z. s (subst (λ (y : Mapping). Same h r y.h y.r) e z))
        more (inr c) = let (u, d) = ih c in (there u, d)

-- nothing stands below what is no table
pub no_kids : {G : Geo} {W T : ℕ → ℕ → ℕ} {S : ℕ → ℕ → Ent} → Rendered G W T S → (h r : ℕ) → h ≤ G.top → S h r ≢ table
    → (h' r' : ℕ) → suc h' ≡ h → r' / G.K ≡ r → S h' r' ≡ empty
no_kids {G} {S = S} R h r l p h' r' a b = go (empty? (S h' r'))
  where
    go : Dec (S h' r' ≡ empty) → S h' r' ≡ empty
    go (yes q) = q
    go (no q) = absurd (p (let z = R.up h' r' (omega arith) q in cc))

-- a frame stands below the root
pub frame_low : {G : Geo} {W T : ℕ → ℕ → ℕ} {S : ℕ → ℕ → Ent} → Rendered G W T S → (h r x : ℕ) → S h r ≡ frame x → h < G.top
frame_low {G} {S = S} R h r x p = omega (arith, R.bound h r (λ z. empty≢frame z p), not_top)
  where
    not_top : h ≢ G.top
    not_top z = table≢frame {x = x} R.root (let e = R.only r (λ y. empty≢frame {x = x} y (cc)) in cc)

-- `Dense` through a change
module _ {G : Geo} {W T : ℕ → ℕ → ℕ} {S : ℕ → ℕ → Ent} {h r c : ℕ} {e : Ent} (E : Edit G W T S h r c e) where
  -- an entry comes: the table that gets it is no more an exception, the new one is
  dense_more : e ≢ empty → Dense G S (suc h) (r / G.K) → Dense G (S⁺ E) h r
  dense_more ne D h' r' p l d = go (tab E (suc h') r' p) (same? (suc h) (r / G.K) (suc h') r')
    where
      stands : (h₁ r₁ : ℕ) → Same h r h₁ r₁ → S⁺ E h₁ r₁ ≢ empty
      stands h₁ r₁ s z = ne (sym (upd_at S h r e h₁ r₁ s) ∙ z)

      more : (h₁ r₁ : ℕ) → S h₁ r₁ ≢ empty → Dec (Same h r h₁ r₁) → S⁺ E h₁ r₁ ≢ empty
      more h₁ r₁ q (yes s) z = stands h₁ r₁ s z
      more h₁ r₁ q (no s) z = q (sym (upd_other S h r e h₁ r₁ s) ∙ z)

      go : Tab E (suc h') r' → Dec (Same (suc h) (r / G.K) (suc h') r') → HasEntry G (S⁺ E) h' r'
      go (new a b q t) w = absurd (d (a, b))
      go (old _ q t) (yes s) = (r, sym s.1, stands h' r (omega (arith, s.0), refl))
      go (old _ q t) (no s) = let (r'', a, b) = D h' r' q l s in (r'', a, more h' r'' b (same? h r h' r''))

  -- an entry goes: the table that loses it is an exception
  dense_less : e ≡ empty → Dense G S h r → Dense G (S⁺ E) (suc h) (r / G.K)
  dense_less em D h' r' p l d = go (tab E (suc h') r' p)
    where
      other : (r'' : ℕ) → r'' / G.K ≡ r' → Same h r h' r'' → ⊥
      other r'' a s = d (ap suc s.0, sym a ∙ ap (λ (k : ℕ). k / G.K) s.1)

      go : Tab E (suc h') r' → HasEntry G (S⁺ E) h' r'
      go (new a b q t) = absurd (table≢empty q em)
      go (old n q t) = let (r'', a, b) = D h' r' q l n in (r'', a, λ z. b (sym (upd_other S h r e h' r'' (other r'' a)) ∙ z))

-- `Holds` through a change
module _ {S : ℕ → ℕ → Ent} {L : List Mapping} (H : Holds S L) (h r : ℕ) where
  -- neither what goes nor what comes is a frame
  holds_keep : {e : Ent} → ((x : ℕ) → S h r ≢ frame x) → ((x : ℕ) → e ≢ frame x) → Holds (upd S h r e) L
  holds_keep {e} was is = record {
    listed = λ h' r' x p. listed h' r' x p (same? h r h' r');
    live = λ m a. live m a (same? h r m.h m.r);
  }
    where
      listed : (h' r' x : ℕ) → upd S h r e h' r' ≡ frame x → Dec (Same h r h' r') → Memᴰ (mapping h' r' x) L
      listed h' r' x p (yes s) = absurd (is x (sym (upd_at S h r e h' r' s) ∙ p))
      listed h' r' x p (no d) = H.listed h' r' x (sym (upd_other S h r e h' r' d) ∙ p)

      live : (m : Mapping) → Memᴰ m L → Dec (Same h r m.h m.r) → upd S h r e m.h m.r ≡ frame m.x
      live m a (yes s) = absurd (was m.x (let b = H.live m a in let s₀ = s.0 in let s₁ = s.1 in cc))
      live m a (no d) = upd_other S h r e m.h m.r d ∙ H.live m a

  -- a frame comes where nothing was
  holds_add : (x : ℕ) → S h r ≡ empty → Holds (upd S h r (frame x)) (mapping h r x ∷ L)
  holds_add x q = record {
    listed = λ h' r' y p. listed h' r' y p (same? h r h' r');
    live = λ m a. live m (Memᴰ.cases_cons a) (same? h r m.h m.r);
  }
    where
      listed : (h' r' y : ℕ) → upd S h r (frame x) h' r' ≡ frame y → Dec (Same h r h' r')
          → Memᴰ (mapping h' r' y) (mapping h r x ∷ L)
      listed h' r' y p (yes s) =
          let s₀ = s.0 in let s₁ = s.1 in let u = upd_at S h r (frame x) h' r' s in
          let y≡x : y ≡ x = cc in here (λ i. mapping (s₀ i) (s₁ i) (y≡x i))
      listed h' r' y p (no d) = there (H.listed h' r' y (sym (upd_other S h r (frame x) h' r' d) ∙ p))

      live : (m : Mapping) → (m ≡ mapping h r x) ⊎ Memᴰ m L → Dec (Same h r m.h m.r)
          → upd S h r (frame x) m.h m.r ≡ frame m.x
      live m (inl e) d = upd_at S h r (frame x) m.h m.r (ap (λ (z : Mapping). z.h) e, ap (λ (z : Mapping). z.r) e)
          ∙ ap (λ (z : Mapping). frame z.x) (sym e)
      live m (inr a) (yes s) = absurd (empty≢frame {x = m.x} q (let b = H.live m a in let s₀ = s.0 in let s₁ = s.1 in cc))
      live m (inr a) (no d) = upd_other S h r (frame x) m.h m.r d ∙ H.live m a

  -- whatever was there goes
  holds_drop : Holds (upd S h r empty) (without h r L)
  holds_drop = record {
    listed = λ h' r' x p. listed h' r' x p (same? h r h' r');
    live = λ m a. live m (without_gives h r m L a);
  }
    where
      listed : (h' r' x : ℕ) → upd S h r empty h' r' ≡ frame x → Dec (Same h r h' r')
          → Memᴰ (mapping h' r' x) (without h r L)
      listed h' r' x p (yes s) = absurd (empty≢frame (upd_at S h r empty h' r' s) p)
      listed h' r' x p (no d) =
          without_keeps h r (mapping h' r' x) L (H.listed h' r' x (sym (upd_other S h r empty h' r' d) ∙ p)) d

      live : (m : Mapping) → Memᴰ m L × (Same h r m.h m.r → ⊥) → upd S h r empty m.h m.r ≡ frame m.x
      live m (a, d) = upd_other S h r empty m.h m.r d ∙ H.live m a

-- a table unused before a change stays so, if it is not taken
pub still : {T : ℕ → ℕ → ℕ} {S : ℕ → ℕ → Ent} (h r c : ℕ) (e : Ent) (t : ℕ) → (e ≡ table → c ≢ t) → Unused T S t
    → Unused (upd T h r c) (upd S h r e) t
still {T} {S} h r c e t n u h' r' p q = go (same? h r h' r')
  where
    go : Dec (Same h r h' r') → ⊥
    go (yes s) = n (sym (upd_at S h r e h' r' s) ∙ p) (sym (upd_at T h r c h' r' s) ∙ q)
    go (no d) = u h' r' (sym (upd_other S h r e h' r' d) ∙ p) (sym (upd_other T h r c h' r' d) ∙ q)

-- `Free` through a change
module _ {G : Geo} {W T : ℕ → ℕ → ℕ} {S : ℕ → ℕ → Ent} {h r c : ℕ} {e : Ent} (E : Edit G W T S h r c e) where
  -- a table unused after was so before, if it is not given back
  before : (t : ℕ) → (S h r ≡ table → T h r ≢ t) → Unused (T⁺ E) (S⁺ E) t → Unused T S t
  before t n u h' r' p q = go (same? h r h' r')
    where
      go : Dec (Same h r h' r') → ⊥
      go (yes s) = let s₀ = s.0 in let s₁ = s.1 in n (cc) (cc)
      go (no d) = u h' r' (upd_other S h r e h' r' d ∙ p) (upd_other T h r c h' r' d ∙ q)

  -- no table comes or goes
  free_keep : {P : ℕ → ℕ} {f : ℕ} → S h r ≢ table → e ≢ table → Free G T S P f → Free G (T⁺ E) (S⁺ E) P f
  free_keep {P} was is F = record {
    each = λ i l. ((F.each i l).0, still h r c e (P i) (λ z. absurd (is z)) (F.each i l).1);
    once = F.once;
    all = λ t l u. F.all t l (before t (λ z. absurd (was z)) u);
  }

  -- the last free table is taken
  free_take : {P : ℕ → ℕ} {f : ℕ} → S h r ≢ table → e ≡ table → c ≡ P f → Free G T S P (suc f) → Free G (T⁺ E) (S⁺ E) P f
  free_take {P} {f} was is at F = record {
    each = λ i l. ((F.each i (omega arith)).0, still h r c e (P i) (λ _ z. not_last i l (sym z ∙ at)) (F.each i (omega arith)).1);
    once = λ i j a b. F.once i j (omega arith) (omega arith);
    all = λ t l u. let (i, a, b) = F.all t l (before t (λ z. absurd (was z)) u) in (i, omega (arith, not_f t u i b), b);
  }
    where
      not_last : (i : ℕ) → i < f → P i ≢ P f
      not_last i l z = omega (arith, F.once i f (omega arith) (omega arith) z)

      not_f : (t : ℕ) → Unused (T⁺ E) (S⁺ E) t → (i : ℕ) → P i ≡ t → i ≢ f
      not_f t u i b z = u h r (upd_at S h r e h r (refl, refl) ∙ is) (upd_at T h r c h r (refl, refl) ∙ (cc))

  -- the table at (h, r) is given back, at the end
  free_give : {P : ℕ → ℕ} {f : ℕ} → S h r ≡ table → e ≢ table → Free G T S P f
      → Free G (T⁺ E) (S⁺ E) (put1 P f (T h r)) (suc f)
  free_give {P} {f} was is F = record {
    each = λ i l. each i l (ℕ_discrete i f);
    once = λ i j a b. once i j a b (ℕ_discrete i f) (ℕ_discrete j f);
    all = λ t l u. all t l u (ℕ_discrete (T h r) t);
  }
    where
      P⁺ : ℕ → ℕ
      P⁺ = put1 P f (T h r)

      gone : (h' r' : ℕ) → T⁺ E h' r' ≡ T h r → Tab E h' r' → ⊥
      gone h' r' q (new a b w y) = is w
      gone h' r' q (old d w y) = d (E.R.inj h' r' h r w was (sym y ∙ q))

      -- the table given back was in no place
      twice : (i : ℕ) → i < f → P i ≢ T h r
      twice i l e = (F.each i l).1 h r was (sym e)

      each : (i : ℕ) → i < suc f → Dec (i ≡ f) → (P⁺ i < G.n) × Unused (T⁺ E) (S⁺ E) (P⁺ i)
      each i l (yes z) = rw (z, put1_at P f (T h r)) (E.R.range h r was, λ h' r' p q. gone h' r' q (tab E h' r' p))
      each i l (no z) = let k = F.each i (omega arith) in
          rw (put1_other P f (T h r) i z) (k.0, still h r c e (P i) (λ w. absurd (is w)) k.1)

      once : (i j : ℕ) → i < suc f → j < suc f → Dec (i ≡ f) → Dec (j ≡ f) → P⁺ i ≡ P⁺ j → i ≡ j
      once i j a b (yes y) (yes z) q = y ∙ sym z
      once i j a b (yes y) (no z) q = absurd (twice j (omega arith) (cc (put1_at P f (T h r), put1_other P f (T h r) j z)))
      once i j a b (no y) (yes z) q = absurd (twice i (omega arith) (cc (put1_at P f (T h r), put1_other P f (T h r) i y)))
      once i j a b (no y) (no z) q =
          F.once i j (omega arith) (omega arith) (cc (put1_other P f (T h r) i y, put1_other P f (T h r) j z))

      all : (t : ℕ) → t < G.n → Unused (T⁺ E) (S⁺ E) t → Dec (T h r ≡ t) → (i : ℕ) × (i < suc f) × (P⁺ i ≡ t)
      all t l u (yes z) = (f, omega arith, put1_at P f (T h r) ∙ z)
      all t l u (no z) = let (i, a, b) = F.all t l (before t (λ _. z) u) in
          (i, omega arith, put1_other P f (T h r) i (λ y. omega arith) ∙ b)

module _ {C D : Type 0} {G : Geo} {W : ℕ → ℕ → ℕ} {P : ℕ → ℕ} {f : ℕ} {T : ℕ → ℕ → ℕ} {S : ℕ → ℕ → Ent} {L : List Mapping} where
  -- at rest, any table may be the exception
  pub excuse : {h r : ℕ} → InvIf C D G W P f T S L G.top 0 → InvIf C D G W P f T S L h r
  excuse I = record {
    ren = I.ren;
    holds = I.holds;
    dense = λ c h r p l d. I.dense c h r p l (λ s. omega (arith, s.0));
    spare = I.spare;
  }

  -- the exception has an entry after all: rest
  pub settle : (h r r' : ℕ) → InvIf C D G W P f T S L (suc h) r → r' / G.K ≡ r → S h r' ≢ empty → InvIf C D G W P f T S L G.top 0
  settle h r r' I a b = record {
    ren = I.ren;
    holds = I.holds;
    dense = λ c h₁ r₁ p l d. go (I.dense c) h₁ r₁ p l (same? (suc h) r (suc h₁) r₁);
    spare = I.spare;
  }
    where
      go : Dense G S (suc h) r → (h₁ r₁ : ℕ) → S (suc h₁) r₁ ≡ table → suc h₁ < G.top → Dec (Same (suc h) r (suc h₁) r₁) → HasEntry G S h₁ r₁
      go K h₁ r₁ p l (yes s) = (r', a ∙ sym s.1, λ z. b (let y : h₁ ≡ h = omega (arith, s.0) in cc))
      go K h₁ r₁ p l (no d) = K h₁ r₁ p l d

  -- a new empty table at (h, r), from the end of the free list
  pub link : (h r : ℕ) → InvIf C D G W P (suc f) T S L (suc h) (r / G.K) → S (suc h) (r / G.K) ≡ table → S h r ≡ empty → zero < h
      → (P f < G.n) × Unused T S (P f) → ((i : ℕ) → i < G.K → W (P f) i ≡ 0)
      → InvIf C D G (upd W (T (suc h) (r / G.K)) (r % G.K) (G.enc h table (P f))) P f (upd T h r (P f)) (upd S h r table) L h r
  link h r I p q pos own clean = record {
    ren = change E;
    holds = holds_keep I.holds h r (λ x z. empty≢frame q z) (λ x z. table≢frame refl z);
    dense = λ c. dense_more E (table≢empty refl) (I.dense c);
    spare = λ d. let K = I.spare d in record {
      free = free_take E (λ z. table≢empty z q) refl refl K.free;
      zeros = zeros_change E K.zeros;
    };
  }
    where
      E : Edit G W T S h r (P f) table
      E = record {
        R = I.ren;
        parent = p;
        kids = no_kids I.ren h r (omega (arith, I.ren.bound (suc h) (r / G.K) (table≢empty p))) (λ z. table≢empty z q);
        fresh = λ _. (pos, own.0, own.1);
        clean = λ _. clean;
        ok = λ x z. absurd (table≢frame refl z);
      }

  -- a frame at (h, r), which was empty
  pub put : (h r x : ℕ) → InvIf C D G W P f T S L (suc h) (r / G.K) → S (suc h) (r / G.K) ≡ table → S h r ≡ empty → G.Good h x
      → InvIf C D G (upd W (T (suc h) (r / G.K)) (r % G.K) (G.enc h (frame x) 0)) P f (upd T h r 0) (upd S h r (frame x))
      (mapping h r x ∷ L) G.top 0
  put h r x I p q ok = record {
    ren = change E;
    holds = holds_add I.holds h r x q;
    dense = λ c h' r' t l d. dense_more E (λ z. empty≢frame z refl) (I.dense c) h' r' t l
        (λ s. table≢frame t (upd_at S h r (frame x) (suc h') r' s));
    spare = λ d. let K = I.spare d in record {
      free = free_keep E (λ z. table≢empty z q) (λ z. table≢frame z refl) K.free;
      zeros = zeros_change E K.zeros;
    };
  }
    where
      E : Edit G W T S h r 0 (frame x)
      E = record {
        R = I.ren;
        parent = p;
        kids = no_kids I.ren h r (omega (arith, I.ren.bound (suc h) (r / G.K) (table≢empty p))) (λ z. table≢empty z q);
        fresh = λ z. absurd (table≢frame z refl);
        clean = λ z. absurd (table≢frame z refl);
        ok = λ y z. let e : x ≡ y = cc in subst (λ (k : ℕ). G.Good h k) e ok;
      }

  -- no frame at (h, r) any more
  pub clear : (h r x : ℕ) → InvIf C D G W P f T S L G.top 0 → S h r ≡ frame x
      → InvIf C D G (upd W (T (suc h) (r / G.K)) (r % G.K) (G.enc h empty 0)) P f (upd T h r 0) (upd S h r empty)
      (without h r L) (suc h) (r / G.K)
  clear h r x I p = record {
    ren = change E;
    holds = holds_drop I.holds h r;
    dense = λ c. dense_less E refl ((excuse {h = h} {r = r} I).dense c);
    spare = λ d. let K = I.spare d in record {
      free = free_keep E (λ z. table≢frame z p) (λ z. table≢empty z refl) K.free;
      zeros = zeros_change E K.zeros;
    };
  }
    where
      l : h < G.top
      l = frame_low I.ren h r x p

      E : Edit G W T S h r 0 empty
      E = record {
        R = I.ren;
        parent = I.ren.up h r l (λ z. empty≢frame z p);
        kids = no_kids I.ren h r (omega (arith, l)) (λ z. table≢frame z p);
        fresh = λ z. absurd (table≢empty z refl);
        clean = λ z. absurd (table≢empty z refl);
        ok = λ y z. absurd (empty≢frame refl z);
      }

  -- no table at (h, r) any more, which was empty: it goes to the end of the free list
  pub unlink : (h r : ℕ) → InvIf C D G W P f T S L h r → S h r ≡ table → h < G.top
      → ((h' r' : ℕ) → suc h' ≡ h → r' / G.K ≡ r → S h' r' ≡ empty)
      → InvIf C D G (upd W (T (suc h) (r / G.K)) (r % G.K) (G.enc h empty 0)) (put1 P f (T h r)) (suc f) (upd T h r 0)
      (upd S h r empty) L (suc h) (r / G.K)
  unlink h r I p l kids = record {
    ren = change E;
    holds = holds_keep I.holds h r (λ x z. table≢frame p z) (λ x z. empty≢frame refl z);
    dense = λ c. dense_less E refl (I.dense c);
    spare = λ d. let K = I.spare d in record {
      free = free_give E p (λ z. table≢empty z refl) K.free;
      zeros = zeros_change E K.zeros;
    };
  }
    where
      E : Edit G W T S h r 0 empty
      E = record {
        R = I.ren;
        parent = I.ren.up h r l (table≢empty p);
        kids = kids;
        fresh = λ z. absurd (table≢empty z refl);
        clean = λ z. absurd (table≢empty z refl);
        ok = λ y z. absurd (empty≢frame refl z);
      }

-- words whose tables agree render the same tree
pub same_words : {G : Geo} {W W' T : ℕ → ℕ → ℕ} {S : ℕ → ℕ → Ent} → Rendered G W T S
    → ((h r i : ℕ) → S h r ≡ table → i < G.K → W' (T h r) i ≡ W (T h r) i) → Rendered G W' T S
same_words {G} R q = record {
  root = R.root;
  root_at = R.root_at;
  bound = R.bound;
  only = R.only;
  good = R.good;
  leaf = R.leaf;
  up = R.up;
  range = R.range;
  inj = R.inj;
  words = λ h r p. q (suc h) (r / G.K) (r % G.K) p (mod-lt r G.K-pos) ∙ R.words h r p;
}

module _ {C D : Type 0} {G : Geo} {W W' : ℕ → ℕ → ℕ} {P P' : ℕ → ℕ} {f : ℕ} {T : ℕ → ℕ → ℕ} {S : ℕ → ℕ → Ent} {L : List Mapping} {h r : ℕ} where
  -- words and free places that agree keep the invariant
  pub reword : InvIf C D G W P f T S L h r → ((t i : ℕ) → i < G.K → W' t i ≡ W t i) → (D → (i : ℕ) → i < f → P' i ≡ P i) → InvIf C D G W' P' f T S L h r
  reword I q z = record {
    ren = same_words I.ren (λ h r i _ l. q (T h r) i l);
    holds = I.holds;
    dense = I.dense;
    spare = λ c. let K = I.spare c in record {
      free = record {
        each = λ i l. rw (z c i l) (K.free.each i l);
        once = λ i j a b e. K.free.once i j a b (sym (z c i a) ∙ e ∙ z c j b);
        all = λ t l u. let (i, a, b) = K.free.all t l u in (i, a, z c i a ∙ b);
      };
      zeros = λ t i l m u. q t i m ∙ K.zeros t i l m u;
    };
  }

-- an unused table may be filled with zeros
pub scrub : {C D : Type 0} {G : Geo} {W W' : ℕ → ℕ → ℕ} {P : ℕ → ℕ} {f : ℕ} {T : ℕ → ℕ → ℕ} {S : ℕ → ℕ → Ent} {L : List Mapping} {h r : ℕ}
    → InvIf C D G W P f T S L h r → (c : ℕ) → Unused T S c → ((t i : ℕ) → i < G.K → t ≢ c → W' t i ≡ W t i) → ((i : ℕ) → i < G.K → W' c i ≡ 0)
    → InvIf C D G W' P f T S L h r
scrub {G = G} {W} {W'} {T = T} {S} I c u q z = record {
  ren = same_words I.ren (λ h r i p l. q (T h r) i l (u h r p));
  holds = I.holds;
  dense = I.dense;
  spare = λ d. let K = I.spare d in record { free = K.free; zeros = λ t i l m v. go K.zeros t i l m v (ℕ_discrete t c) };
}
  where
    go : Zeros G W T S → (t i : ℕ) → t < G.n → i < G.K → Unused T S t → Dec (t ≡ c) → W' t i ≡ 0
    go K t i l m v (yes e) = rw e (z i m)
    go K t i l m v (no d) = q t i m d ∙ K t i l m v

-- memory: M holds the words, Q the free list; of a call's writes only what is read afterwards is known
pub record Store (G : Geo) : Type 1 where
  pub M : Type 0
  -- the words' memory is as long as it should be
  pub Ok : M → Type 0
  -- the word of a table at an index; one word written; a table filled with zeros
  pub rd : M → ℕ → ℕ → ℕ
  pub wr : M → ℕ → ℕ → ℕ → M
  pub wipe : M → ℕ → M
  pub wr_ok : (m : M) (t i x : ℕ) → Ok m → Ok (wr m t i x)
  pub wipe_ok : (m : M) (t : ℕ) → Ok m → Ok (wipe m t)
  pub rd_wr : (m : M) (t i x : ℕ) → Ok m → t < G.n → i < G.K
      → (t' i' : ℕ) → i' < G.K → rd (wr m t i x) t' i' ≡ upd (rd m) t i x t' i'
  pub rd_wiped : (m : M) (c : ℕ) → Ok m → c < G.n → (i : ℕ) → i < G.K → rd (wipe m c) c i ≡ 0
  pub rd_kept : (m : M) (c : ℕ) → Ok m → c < G.n → (t i : ℕ) → i < G.K → t ≢ c → rd (wipe m c) t i ≡ rd m t i
  pub Q : Type 0
  -- the free list's memory is as long as it should be
  pub Okᶠ : Q → Type 0
  -- a place of the free list; `push q f t` writes t at place f
  pub pl : Q → ℕ → ℕ
  pub push : Q → ℕ → ℕ → Q
  pub push_ok : (q : Q) (f t : ℕ) → Okᶠ q → Okᶠ (push q f t)
  pub pl_push : (q : Q) (f t : ℕ) → Okᶠ q → f < G.n → (i : ℕ) → pl (push q f t) i ≡ put1 (pl q) f t i
