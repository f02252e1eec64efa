-- Map, from the entry where its walk stopped: new tables down to the target, then the frame.
-- `grow` is what the call does to a memory `Store`. `Ready` is what holds before each of its writes, `Mapped` what holds
-- after the last. The steps have names of their own, for what is said of every write and not of the whole call: `more` links
-- one table, `last` puts the frame. `grow_ok` goes from `Ready` to `Mapped`, and tells how many tables were taken. Of the free
-- list no more is asked than that the tables to be taken are unused and none stands twice; C and D are those of `InvIf`.
use Rattle.std.specs.Prelude.{◌≡◌, refl, ◌≢◌, List, ◌∷◌}
use Rattle.std.proofs.Common.{ap, sym, ◌∙◌, subst, mod-lt, arith}
use Rattle.std.proofs.Math.Logic.{ite}
use Prim.Native.Nat.{ℕ, zero, suc, ◌+◌, ◌-◌, ◌/◌, ◌%◌, ◌≤◌, ◌<◌}
use Rattle.std.proofs.Math.Decide.{ℕ_discrete}
use Rattle.tree.specs.Region.{anc, upd, upd_at, upd_other}
use Rattle.tree.specs.Tree.{Ent, empty, frame, table, table≢empty, Geo, Unused, Rendered}
use Rattle.tree.specs.Inv.{Mapping, mapping, InvIf, Free, still, no_kids, link, put, reword, scrub, Store}

-- the words' memory and how many tables are free
pub record Mem {G : Geo} (A : Store G) : Type 0 where
  pub m : A.M
  pub f : ℕ

-- a `Mem` from its parts
abbrev pub mem : {G : Geo} {A : Store G} → A.M → ℕ → Mem A
mem m f = record { m = m; f = f }

-- the last `need` of the first f places of P: unused tables of the pool, none twice
pub record Taken (G : Geo) (P : ℕ → ℕ) (T : ℕ → ℕ → ℕ) (S : ℕ → ℕ → Ent) (f need : ℕ) : Type 0 where
  pub each : (i : ℕ) → i < f → f ≤ i + need → (P i < G.n) × Unused T S (P i)
  pub once : (i j : ℕ) → i < f → f ≤ i + need → j < f → f ≤ j + need → P i ≡ P j → i ≡ j

-- of a free list all are such
pub free_taken : {G : Geo} {P : ℕ → ℕ} {T : ℕ → ℕ → ℕ} {S : ℕ → ℕ → Ent} {f need : ℕ} → Free G T S P f → Taken G P T S f need
free_taken F = record { each = λ i l _. F.each i l; once = λ i j a _ b _. F.once i j a b }

-- P the free list, g the target height, v the page, x the payload
module _ (G : Geo) (A : Store G) (P : ℕ → ℕ) (g v x : ℕ) where
  -- from table t, whose entries have height h: new tables, from the end of the free list, down to height g, then the frame
  unfoldable pub grow : ℕ → A.M → ℕ → ℕ → Mem A
  grow zero m t f = mem (A.wr m t (v % G.K) (G.enc 0 (frame x) 0)) f
  grow (suc h) m t f = ite (ℕ_discrete (suc h) g)
      (mem (A.wr m t (anc G.K (suc h) v % G.K) (G.enc (suc h) (frame x) 0)) f)
      (grow h (A.wr (A.wipe m (P (f - 1))) t (anc G.K (suc h) v % G.K) (G.enc (suc h) table (P (f - 1)))) (P (f - 1)) (f - 1))

  -- what a map comes to: the ledger has the mapping, and `need` of f free tables are taken
  pub record MappedIf (C D : Type 0) (L : List Mapping) (f need : ℕ) (o : Mem A) : Type 0 where
    pub T : ℕ → ℕ → ℕ
    pub S : ℕ → ℕ → Ent
    pub ok : A.Ok o.m
    pub inv : InvIf C D G (A.rd o.m) P o.f T S (mapping g (anc G.K g v) x ∷ L) G.top 0
    pub count : o.f + need ≡ f

  -- before a write: table t stands around v at height h + 1, its entry for v is empty and not below the target, and there is
  -- room for what is missing
  pub record ReadyIf (C D : Type 0) (L : List Mapping) (h : ℕ) : Type 0 where
    pub m : A.M
    pub t : ℕ
    pub f : ℕ
    pub T : ℕ → ℕ → ℕ
    pub S : ℕ → ℕ → Ent
    pub ok : A.Ok m
    pub inv : InvIf C D G (A.rd m) P f T S L (suc h) (anc G.K (suc h) v)
    pub stands : S (suc h) (anc G.K (suc h) v) ≡ table
    pub t_is : t ≡ T (suc h) (anc G.K (suc h) v)
    pub vacant : S h (anc G.K h v) ≡ empty
    pub above : g ≤ h
    pub room : h - g ≤ f
    pub good : G.Good g x
    pub taken : Taken G P T S f (h - g)

  -- with all of the invariant
  abbrev pub Mapped : List Mapping → ℕ → ℕ → Mem A → Type 0
  Mapped L f need o = MappedIf (Unit {0}) (Unit {0}) L f need o

  abbrev pub Ready : List Mapping → ℕ → Type 0
  Ready L h = ReadyIf (Unit {0}) (Unit {0}) L h

  module _ {C D : Type 0} {L : List Mapping} {h : ℕ} (o : ReadyIf C D L h) where
    -- the region of the entry
    abbrev r : ℕ
    r = anc G.K h v

    -- a word written at the entry, in a memory with the same words, is read as the tree's change
    pub wrote : (m : A.M) → A.Ok m → (w t i : ℕ) → i < G.K
        → A.rd (A.wr m o.t (r % G.K) w) t i ≡ upd (A.rd m) (o.T (suc h) (r / G.K)) (r % G.K) w t i
    wrote m k w t i l = A.rd_wr m o.t (r % G.K) w k low (mod-lt r G.K-pos) t i l
        ∙ ap (λ (c : ℕ). upd (A.rd m) c (r % G.K) w t i) o.t_is
      where
        low : o.t < G.n
        low = omega (arith, o.t_is, o.inv.ren.range (suc h) (r / G.K) o.stands)

  -- at the target: the frame is written, and the map is done
  unfoldable pub last : {C D : Type 0} {L : List Mapping} {h : ℕ} (o : ReadyIf C D L h) → h ≡ g
      → MappedIf C D L o.f (h - g) (mem (A.wr o.m o.t (anc G.K h v % G.K) (G.enc h (frame x) 0)) o.f)
  last {C} {D} {L} {h} o z = record {
    T = T₁;
    S = S₁;
    ok = A.wr_ok _ _ _ _ o.ok;
    inv = subst (λ (k : ℕ). InvIf C D G (A.rd m₁) P o.f T₁ S₁ (mapping k (anc G.K k v) x ∷ L) G.top 0) z
        (reword (put h (r o) x o.inv o.stands o.vacant (subst (λ (k : ℕ). G.Good k x) (sym z) o.good))
        (wrote o o.m o.ok (G.enc h (frame x) 0)) (λ _ i l. refl));
    count = omega arith;
  }
    where
      T₁ : ℕ → ℕ → ℕ
      T₁ = upd o.T h (r o) 0

      S₁ : ℕ → ℕ → Ent
      S₁ = upd o.S h (r o) (frame x)

      m₁ : A.M
      m₁ = A.wr o.m o.t (r o % G.K) (G.enc h (frame x) 0)

  -- above the target: the last free table is wiped and linked, and the map is ready one height below
  unfoldable pub more : {C D : Type 0} {L : List Mapping} {h : ℕ} (o : ReadyIf C D L (suc h)) → suc h ≢ g → (f : ℕ) → o.f ≡ suc f → ReadyIf C D L h
  more {C} {D} {L} {h} o z f e = record {
    m = A.wr (A.wipe o.m (P f)) o.t (r o % G.K) (G.enc (suc h) table (P f));
    t = P f;
    f = f;
    T = upd o.T (suc h) (r o) (P f);
    S = upd o.S (suc h) (r o) table;
    ok = A.wr_ok _ _ _ _ wiped_ok;
    inv = reword (link (suc h) (r o) I o.stands o.vacant (omega arith) own (A.rd_wiped o.m (P f) o.ok own.0))
        (wrote o (A.wipe o.m (P f)) wiped_ok (G.enc (suc h) table (P f))) (λ _ i l. refl);
    stands = upd_at o.S (suc h) (r o) table (suc h) (r o) (refl, refl);
    t_is = sym (upd_at o.T (suc h) (r o) (P f) (suc h) (r o) (refl, refl));
    vacant = upd_other o.S (suc h) (r o) table h (anc G.K h v) (λ s. omega (arith, s.0)) ∙ nothing_below;
    above = omega arith;
    room = omega arith;
    good = o.good;
    taken = record {
      each = λ i l m. let k = o.taken.each i (omega arith) (omega arith) in
          (k.0, still (suc h) (r o) (P f) table (P i) (λ _ q. omega (arith, o.taken.once f i (omega arith) (omega arith) (omega arith) (omega arith) q)) k.1);
      once = λ i j a b c d. o.taken.once i j (omega arith) (omega arith) (omega arith) (omega arith);
    };
  }
    where
      own : (P f < G.n) × Unused o.T o.S (P f)
      own = o.taken.each f (omega arith) (omega arith)

      R : Rendered G (A.rd o.m) o.T o.S
      R = o.inv.ren

      wiped_ok : A.Ok (A.wipe o.m (P f))
      wiped_ok = A.wipe_ok _ _ o.ok

      I : InvIf C D G (A.rd (A.wipe o.m (P f))) P (suc f) o.T o.S L (suc (suc h)) (r o / G.K)
      I = scrub (subst (λ (k : ℕ). InvIf C D G (A.rd o.m) P k o.T o.S L (suc (suc h)) (r o / G.K)) e o.inv) (P f) own.1
          (λ t i l d. A.rd_kept o.m (P f) o.ok own.0 t i l d) (A.rd_wiped o.m (P f) o.ok own.0)

      nothing_below : o.S h (anc G.K h v) ≡ empty
      nothing_below = no_kids R (suc h) (r o) (omega (arith, R.bound (suc (suc h)) (r o / G.K) (table≢empty o.stands)))
          (λ w. table≢empty w o.vacant) h (anc G.K h v) refl refl

  -- what `grow` does from where it is ready
  abbrev Grown : Type 0 → Type 0 → List Mapping → ℕ → Type 0
  Grown C D L h = (o : ReadyIf C D L h) → MappedIf C D L o.f (h - g) (grow h o.m o.t o.f)

  -- a map from where it is ready takes as many tables as lie between the entry and the target, and keeps the invariant
  pub grow_ok : {C D : Type 0} {L : List Mapping} (h : ℕ) (o : ReadyIf C D L h) → MappedIf C D L o.f (h - g) (grow h o.m o.t o.f)
  unfolding grow more
  grow_ok zero o = last o (omega arith)
  grow_ok {C} {D} {L} (suc h) o = go (ℕ_discrete (suc h) g) (λ o. grow_ok h o)
    where
      c : ℕ
      c = P (o.f - 1)

      go : (d : Dec (suc h ≡ g)) → Grown C D L h
          → MappedIf C D L o.f (suc h - g) (ite d (mem (A.wr o.m o.t (r o % G.K) (G.enc (suc h) (frame x) 0)) o.f)
          (grow h (A.wr (A.wipe o.m c) o.t (r o % G.K) (G.enc (suc h) table c)) c (o.f - 1)))
      go (yes z) ih = last o z
      go (no z) ih =
          let M = ih (more o z (o.f - 1) (omega arith)) in
          record { T = M.T; S = M.S; ok = M.ok; inv = M.inv; count = omega (arith, M.count) }
