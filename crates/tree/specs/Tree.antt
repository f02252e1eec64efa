-- The tree of tables, the words that render it, and what one change does to both.
-- A tree is two functions of height and region: S says what stands there (nothing, a frame, or a table), T which table's
-- number. The memory is a third, W: the word of a table at an index. `Geo` is all that is known of a geometry and of its
-- entry words; a geometry of real words is one record of this type. `Rendered G W T S` says that the words W are those of
-- the tree S, T. Its one law is `change`: where a table's entry has nothing below it, another entry may be written there.
-- To put a frame, clear one, link an empty table and unlink one are its four uses (module Inv).
use Rattle.std.specs.Prelude.{◌≡◌, refl, ◌≢◌, ◌⊎◌, ℕ, zero, suc, ◌+◌, ◌*◌, ◌/◌, ◌%◌, ◌≤◌, ◌<◌}
use Rattle.std.proofs.Common.{ap, sym, ◌∙◌, subst, inl, inr, ⊎_elim, mod-lt, arith}
use Rattle.std.proofs.Math.Decide.{ℕ_discrete}
use Rattle.std.proofs.Math.Arith.{digits_div, digits_mod}
use Rattle.tree.specs.Region.{Same, same?, upd, upd_at, upd_other, same_place}

-- what stands at a region; a frame has its payload, base and attributes, as one number
pub data Ent : Type 0 where
  empty : Ent
  frame : ℕ → Ent
  table : Ent

-- what a word says; a table is named by its number
pub data Read : Type 0 where
  r_empty : Read
  r_frame : ℕ → Read
  r_table : ℕ → Read
  r_bad : Read

-- what the word of an entry says, c the number of its table if it is one
abbrev pub read_of : Ent → ℕ → Read
read_of empty c = r_empty
read_of (frame x) c = r_frame x
read_of table c = r_table c

-- a table is not empty
pub table≢empty : {e : Ent} → e ≡ table → e ≢ empty
table≢empty p q = let z : ◌≡◌ {A = ℕ} 0 1 = cc in omega arith

-- a table is no frame
pub table≢frame : {e : Ent} {x : ℕ} → e ≡ table → e ≡ frame x → ⊥
table≢frame p q = let z : ◌≡◌ {A = ℕ} 0 1 = cc in omega arith

-- a frame is not empty
pub empty≢frame : {e : Ent} {x : ℕ} → e ≡ empty → e ≡ frame x → ⊥
empty≢frame p q = let z : ◌≡◌ {A = ℕ} 0 1 = cc in omega arith

-- an entry is a table or not
pub table? : (e : Ent) → Dec (e ≡ table)
table? empty = no (λ p. table≢empty p refl)
table? (frame x) = no (λ p. table≢frame p refl)
table? table = yes refl

-- an entry is empty or not
pub empty? : (e : Ent) → Dec (e ≡ empty)
empty? empty = yes refl
empty? (frame x) = no (λ p. empty≢frame p refl)
empty? table = no (λ p. table≢empty refl p)

-- only the empty entry reads as empty
pub read_empty : (e : Ent) (c : ℕ) → read_of e c ≡ r_empty → e ≡ empty
read_empty empty c p = refl
read_empty (frame x) c p = cc
read_empty table c p = cc

-- the numbers of a geometry, and its entry words with their laws
pub record Geo : Type 1 where
  -- entries of a table
  pub K : ℕ
  -- the height of the region that the root table stands for; its entries have height top - 1
  pub top : ℕ
  -- tables of the pool
  pub n : ℕ
  pub K-pos : zero < K
  -- the word of an entry at a height, with the number of its table if it is one
  pub enc : ℕ → Ent → ℕ → ℕ
  -- what a word says at a height
  pub dec : ℕ → ℕ → Read
  -- the payloads that a frame of a height can have
  pub Good : ℕ → ℕ → Type 0
  pub enc_empty : (h c : ℕ) → enc h empty c ≡ 0
  pub dec_empty : (h : ℕ) → dec h 0 ≡ r_empty
  pub dec_frame : (h x c : ℕ) → Good h x → dec h (enc h (frame x) c) ≡ r_frame x
  pub dec_table : (h c : ℕ) → zero < h → zero < c → c < n → dec h (enc h table c) ≡ r_table c
  -- a word that reads as an entry is that entry's word
  pub enc_dec : (h w c : ℕ) (e : Ent) → dec h w ≡ read_of e c → w ≡ enc h e c
  pub dec_good : (h w x : ℕ) → dec h w ≡ r_frame x → Good h x
  -- a word names a table above the last height only, and never the root
  pub dec_child : (h w c : ℕ) → dec h w ≡ r_table c → (zero < h) × (zero < c) × (c < n)

-- t is the number of no table of the tree
abbrev pub Unused : (ℕ → ℕ → ℕ) → (ℕ → ℕ → Ent) → ℕ → Type 0
Unused T S t = (h r : ℕ) → S h r ≡ table → T h r ≢ t

-- the words W are those of the tree S with the table numbers T
pub record Rendered (G : Geo) (W T : ℕ → ℕ → ℕ) (S : ℕ → ℕ → Ent) : Type 0 where
  -- the root is a table, with number 0, and all there is at the top
  pub root : S G.top 0 ≡ table
  pub root_at : T G.top 0 ≡ 0
  pub bound : (h r : ℕ) → S h r ≢ empty → h ≤ G.top
  pub only : (r : ℕ) → S G.top r ≢ empty → r ≡ 0
  -- frames have payloads of their height, and no table stands at height 0
  pub good : (h r x : ℕ) → S h r ≡ frame x → G.Good h x
  pub leaf : (r : ℕ) → S 0 r ≢ table
  -- what is not empty stands in a table
  pub up : (h r : ℕ) → h < G.top → S h r ≢ empty → S (suc h) (r / G.K) ≡ table
  -- tables have numbers of the pool, each its own
  pub range : (h r : ℕ) → S h r ≡ table → T h r < G.n
  pub inj : (h r h' r' : ℕ) → S h r ≡ table → S h' r' ≡ table → T h r ≡ T h' r' → Same h' r' h r
  -- each table has the words of its entries
  pub words : (h r : ℕ) → S (suc h) (r / G.K) ≡ table
      → W (T (suc h) (r / G.K)) (r % G.K) ≡ G.enc h (S h r) (T h r)

-- a table that is not used has only zeros
abbrev pub Zeros : (G : Geo) → (W T : ℕ → ℕ → ℕ) → (ℕ → ℕ → Ent) → Type 0
Zeros G W T S = (t i : ℕ) → t < G.n → i < G.K → Unused T S t → W t i ≡ 0

-- what `change` asks for: at region (h, r) the entry e is to stand, with table number c if it is a table.
-- The region's own table stands, nothing is below (h, r), a new table's number is unused and its words are zero, a new frame's
-- payload is good.
pub record Edit (G : Geo) (W T : ℕ → ℕ → ℕ) (S : ℕ → ℕ → Ent) (h r c : ℕ) (e : Ent) : Type 0 where
  pub R : Rendered G W T S
  pub parent : S (suc h) (r / G.K) ≡ table
  pub kids : (h' r' : ℕ) → suc h' ≡ h → r' / G.K ≡ r → S h' r' ≡ empty
  pub fresh : e ≡ table → (zero < h) × (c < G.n) × Unused T S c
  pub clean : e ≡ table → (i : ℕ) → i < G.K → W c i ≡ 0
  pub ok : (x : ℕ) → e ≡ frame x → G.Good h x

module _ {G : Geo} {W T : ℕ → ℕ → ℕ} {S : ℕ → ℕ → Ent} {h r c : ℕ} {e : Ent} (E : Edit G W T S h r c e) where
  open E use {R, parent, kids, fresh, clean, ok}

  -- the tree after the change
  abbrev pub S⁺ : ℕ → ℕ → Ent
  S⁺ = upd S h r e

  -- its table numbers
  abbrev pub T⁺ : ℕ → ℕ → ℕ
  T⁺ = upd T h r c

  -- the table that holds the entry
  abbrev at : ℕ
  at = T (suc h) (r / G.K)

  -- the words after the change: one is written
  abbrev W⁺ : ℕ → ℕ → ℕ
  W⁺ = upd W at (r % G.K) (G.enc h e c)

  new_S : (h' r' : ℕ) → Same h r h' r' → S⁺ h' r' ≡ e
  new_S h' r' s = upd_at S h r e h' r' s

  keep_S : (h' r' : ℕ) → (Same h r h' r' → ⊥) → S⁺ h' r' ≡ S h' r'
  keep_S h' r' d = upd_other S h r e h' r' d

  keep_T : (h' r' : ℕ) → (Same h r h' r' → ⊥) → T⁺ h' r' ≡ T h' r'
  keep_T h' r' d = upd_other T h r c h' r' d

  low : h < G.top
  low = R.bound (suc h) (r / G.K) (table≢empty parent)

  above : {r' : ℕ} → Same h r (suc h) r' → ⊥
  above s = omega (arith, s.0)

  -- a table of the new tree is the new one, or an old one elsewhere
  pub data Tab (h' r' : ℕ) : Type 0 where
    new : h' ≡ h → r' ≡ r → e ≡ table → T⁺ h' r' ≡ c → Tab h' r'
    old : (Same h r h' r' → ⊥) → S h' r' ≡ table → T⁺ h' r' ≡ T h' r' → Tab h' r'

  -- which of the two it is
  pub tab : (h' r' : ℕ) → S⁺ h' r' ≡ table → Tab h' r'
  tab h' r' p = go (same? h r h' r')
    where
      go : Dec (Same h r h' r') → Tab h' r'
      go (yes s) = new s.0 s.1 (sym (new_S h' r' s) ∙ p) (upd_at T h r c h' r' s)
      go (no d) = old d (sym (keep_S h' r' d) ∙ p) (keep_T h' r' d)

  -- what is not empty in the new tree is the new entry, or an old one elsewhere
  abbrev Full : ℕ → ℕ → Type 0
  Full h' r' = Same h r h' r' ⊎ ((Same h r h' r' → ⊥) × (S h' r' ≢ empty))

  full : (h' r' : ℕ) → S⁺ h' r' ≢ empty → Full h' r'
  full h' r' p = go (same? h r h' r')
    where
      go : Dec (Same h r h' r') → Full h' r'
      go (yes s) = inl s
      go (no d) = inr (d, λ q. p (keep_S h' r' d ∙ q))

  good⁺ : (h' r' x : ℕ) → S⁺ h' r' ≡ frame x → Dec (Same h r h' r') → G.Good h' x
  good⁺ h' r' x p (yes s) = subst (λ (k : ℕ). G.Good k x) (sym s.0) (ok x (sym (new_S h' r' s) ∙ p))
  good⁺ h' r' x p (no d) = R.good h' r' x (sym (keep_S h' r' d) ∙ p)

  leaf⁺ : (r' : ℕ) → Tab 0 r' → ⊥
  leaf⁺ r' (new a b q t) = omega (arith, (fresh q).0)
  leaf⁺ r' (old d q t) = R.leaf r' q

  up⁺ : (h' r' : ℕ) → h' < G.top → S⁺ h' r' ≢ empty → S⁺ (suc h') (r' / G.K) ≡ table
  up⁺ h' r' l p = go (full h' r' p) (same? h r (suc h') (r' / G.K))
    where
      go : Full h' r' → Dec (Same h r (suc h') (r' / G.K)) → S⁺ (suc h') (r' / G.K) ≡ table
      go (inl s) d = let a = s.0 in let b = s.1 in cc (keep_S (suc h) (r / G.K) above)
      go (inr q) (yes s) = absurd (q.1 (kids h' r' s.0 s.1))
      go (inr q) (no d) = keep_S (suc h') (r' / G.K) d ∙ R.up h' r' l q.1

  range⁺ : (h' r' : ℕ) → Tab h' r' → T⁺ h' r' < G.n
  range⁺ h' r' (new a b q t) = omega (arith, (fresh q).1)
  range⁺ h' r' (old d q t) = omega (arith, R.range h' r' q)

  inj⁺ : (h₁ r₁ h₂ r₂ : ℕ) → Tab h₁ r₁ → Tab h₂ r₂ → T⁺ h₁ r₁ ≡ T⁺ h₂ r₂ → Same h₂ r₂ h₁ r₁
  inj⁺ h₁ r₁ h₂ r₂ (new a b s t) (new a₂ b₂ s₂ t₂) q = (cc, cc)
  inj⁺ h₁ r₁ h₂ r₂ (new a b s t) (old d s₂ t₂) q = absurd ((fresh s).2 h₂ r₂ s₂ (cc))
  inj⁺ h₁ r₁ h₂ r₂ (old d s t) (new a₂ b₂ s₂ t₂) q = absurd ((fresh s₂).2 h₁ r₁ s (cc))
  inj⁺ h₁ r₁ h₂ r₂ (old d s t) (old d₂ s₂ t₂) q = R.inj h₁ r₁ h₂ r₂ s s₂ (cc)

  -- the word at each entry: of the new table, at the place of the change, elsewhere
  words⁺ : (h' r' : ℕ) → S⁺ (suc h') (r' / G.K) ≡ table
      → W⁺ (T⁺ (suc h') (r' / G.K)) (r' % G.K) ≡ G.enc h' (S⁺ h' r') (T⁺ h' r')
  words⁺ h' r' p = go (tab (suc h') (r' / G.K) p) (same? h r h' r')
    where
      t' : ℕ
      t' = T (suc h') (r' / G.K)

      away : S (suc h') (r' / G.K) ≡ table → (Same h r h' r' → ⊥) → Same at (r % G.K) t' (r' % G.K) → ⊥
      away q d s = let u = R.inj (suc h') (r' / G.K) (suc h) (r / G.K) q parent s.0 in
          d (omega (arith, u.0), same_place G.K r r' u.1 s.1)

      go : Tab (suc h') (r' / G.K) → Dec (Same h r h' r')
          → W⁺ (T⁺ (suc h') (r' / G.K)) (r' % G.K) ≡ G.enc h' (S⁺ h' r') (T⁺ h' r')
      go (new a b q t) d =
          let f = fresh q in
          let not_at : Same at (r % G.K) c (r' % G.K) → ⊥ = (λ s. f.2 (suc h) (r / G.K) parent (sym s.0)) in
          let unchanged = upd_other W at (r % G.K) (G.enc h e c) c (r' % G.K) not_at in
          let zero_there = clean q (r' % G.K) (mod-lt r' G.K-pos) in
          let none = kids h' r' a b in
          let keeps = keep_S h' r' (λ s. omega (arith, s.0)) in
          cc (G.enc_empty h' (T⁺ h' r'))
      go (old d q t) (yes s) =
          let a = s.0 in let b = s.1 in
          let place : Same at (r % G.K) t' (r' % G.K) = (cc, cc) in
          let there = upd_at W at (r % G.K) (G.enc h e c) t' (r' % G.K) place in
          cc (new_S h' r' s, upd_at T h r c h' r' s)
      go (old d q t) (no d2) =
          let there = upd_other W at (r % G.K) (G.enc h e c) t' (r' % G.K) (away q d2) in
          cc (keep_S h' r' d2, keep_T h' r' d2, R.words h' r' q)

  -- the table that stood at (h, r) is all zero
  bare : (t i : ℕ) → i < G.K → S h r ≡ table → T h r ≡ t → (h' : ℕ) → h ≡ h' → W t i ≡ 0
  bare t i l p q zero z = absurd (R.leaf r (ap (λ (x : ℕ). S x r) (sym z) ∙ p))
  bare t i l p q (suc h') z =
      let k = r * G.K + i in
      let d = digits_div r l in
      let m = digits_mod r l in
      let none = kids h' k (sym z) d in
      let p' : S (suc h') (k / G.K) ≡ table = cc in
      let w = R.words h' k p' in
      cc (G.enc_empty h' (T h' k))

  -- a table that is not used after the change is zero: it was unused before, or it stood at (h, r)
  pub zeros_change : Zeros G W T S → Zeros G W⁺ T⁺ S⁺
  zeros_change blank t i b l u = upd_other W at (r % G.K) (G.enc h e c) t i not_at ∙ go (table? (S h r)) (ℕ_discrete (T h r) t)
    where
      not_at : Same at (r % G.K) t i → ⊥
      not_at s = u (suc h) (r / G.K) (keep_S (suc h) (r / G.K) above ∙ parent) (keep_T (suc h) (r / G.K) above ∙ sym s.0)

      rest : (S h r ≡ table → T h r ≡ t → ⊥) → W t i ≡ 0
      rest f = blank t i b l (λ h' r' p q. other h' r' p q (same? h r h' r'))
        where
          other : (h' r' : ℕ) → S h' r' ≡ table → T h' r' ≡ t → Dec (Same h r h' r') → ⊥
          other h' r' p q (yes s) = let a = s.0 in let b = s.1 in f (cc) (cc)
          other h' r' p q (no d) = u h' r' (keep_S h' r' d ∙ p) (keep_T h' r' d ∙ q)

      go : Dec (S h r ≡ table) → Dec (T h r ≡ t) → W t i ≡ 0
      go (yes p) (yes q) = bare t i l p q h refl
      go (yes p) (no q) = rest (λ _ q'. q q')
      go (no p) d = rest (λ p' _. p p')

  -- one word written renders the tree with one entry changed
  pub change : Rendered G W⁺ T⁺ S⁺
  change = record {
    root = keep_S G.top 0 (λ s. omega (arith, low, s.0)) ∙ R.root;
    root_at = keep_T G.top 0 (λ s. omega (arith, low, s.0)) ∙ R.root_at;
    bound = λ h' r' p. ⊎_elim (λ s. omega (arith, low, s.0)) (λ q. R.bound h' r' q.1) (full h' r' p);
    only = λ r' p. ⊎_elim (λ s. absurd (omega (arith, low, s.0))) (λ q. R.only r' q.1) (full G.top r' p);
    good = λ h' r' x p. good⁺ h' r' x p (same? h r h' r');
    leaf = λ r' p. leaf⁺ r' (tab 0 r' p);
    up = up⁺;
    range = λ h' r' p. range⁺ h' r' (tab h' r' p);
    inj = λ h₁ r₁ h₂ r₂ p₁ p₂. inj⁺ h₁ r₁ h₂ r₂ (tab h₁ r₁ p₁) (tab h₂ r₂ p₂);
    words = words⁺;
  }
