-- Unmap, after its frame is cleared: from the deepest table of the path upward, tables without an entry go back.
-- `prune` is what the call does to a memory `Store`. `Loose` is what holds before it looks at a table of the path: that table
-- may be without an entry. `off` is the step that gives such a table back; `kept` is rest again, where it has one. `prune_ok`
-- goes from `Loose` to `Pruned`, the invariant at rest; C and D are those of `InvIf`. How many tables come back is what `Needed.pool_count` tells.
use Rattle.std.specs.Prelude.{◌≡◌, refl, ◌≢◌, List}
use Rattle.std.proofs.Common.{ap, sym, ◌∙◌, subst, subst₂, mod-lt, arith}
use Rattle.std.proofs.Math.Logic.{ite}
use Prim.Native.Nat.{ℕ, zero, suc, ◌+◌, ◌*◌, ◌/◌, ◌%◌, ◌≤◌, ◌<◌}
use Rattle.std.proofs.Math.Decide.{ℕ_discrete}
use Rattle.std.proofs.Math.Arith.{digits_div, digits_mod}
use Rattle.tree.specs.Region.{anc, upd, upd_other}
use Rattle.tree.specs.Tree.{Ent, empty, table, table≢empty, read_empty, Geo, Rendered}
use Rattle.tree.specs.Walk.{read_is}
use Rattle.tree.specs.Inv.{Mapping, InvIf, settle, unlink, reword, Store}
use Rattle.tree.specs.Count.{free_room}

-- the first k words of table t are zero
abbrev pub Bare : (ℕ → ℕ → ℕ) → ℕ → ℕ → Type 0
Bare W t k = (i : ℕ) → i < k → W t i ≡ 0

-- they are, or one is not
data Scan (W : ℕ → ℕ → ℕ) (t k : ℕ) : Type 0 where
  clean : Bare W t k → Scan W t k
  used : (i : ℕ) → i < k → W t i ≢ 0 → Scan W t k

scan : (W : ℕ → ℕ → ℕ) (t k : ℕ) → Scan W t k
scan W t zero = clean (λ i l. absurd (omega arith))
scan W t (suc k) = go (scan W t k) (ℕ_discrete (W t k) 0)
  where
    go : Scan W t k → Dec (W t k ≡ 0) → Scan W t (suc k)
    go (used i l n) d = used i (omega arith) n
    go (clean a) (no n) = used k (omega arith) n
    go (clean a) (yes z) = clean (λ i l. one i l (ℕ_discrete i k))
      where
        one : (i : ℕ) → i < suc k → Dec (i ≡ k) → W t i ≡ 0
        one i l (yes e) = cc
        one i l (no e) = a i (omega arith)

-- the test that pruning makes of a table
pub bare? : (W : ℕ → ℕ → ℕ) (t k : ℕ) → Dec (Bare W t k)
bare? W t k = go (scan W t k)
  where
    go : Scan W t k → Dec (Bare W t k)
    go (clean a) = yes a
    go (used i l n) = no (λ a. n (a i l))

-- a table that is not all zero has a word that is not
pub some_word : (W : ℕ → ℕ → ℕ) (t k : ℕ) → (Bare W t k → ⊥) → (i : ℕ) × (i < k) × (W t i ≢ 0)
some_word W t k n = go (scan W t k)
  where
    go : Scan W t k → (i : ℕ) × (i < k) × (W t i ≢ 0)
    go (clean a) = absurd (n a)
    go (used i l z) = (i, l, z)

-- the words' memory, the free list's, and how many tables are free
pub record Pool {G : Geo} (A : Store G) : Type 0 where
  pub m : A.M
  pub q : A.Q
  pub f : ℕ

-- a `Pool` from its parts
abbrev pub pool : {G : Geo} {A : Store G} → A.M → A.Q → ℕ → Pool A
pool m q f = record { m = m; q = q; f = f }

-- v the page, tb the tables of its path by height
module _ (G : Geo) (A : Store G) (v : ℕ) (tb : ℕ → ℕ) where
  -- from the path's table at height h, with d heights up to the root's: a table that is all zero is unlinked and given back
  unfoldable pub prune : ℕ → ℕ → A.M → A.Q → ℕ → Pool A
  prune zero h m q f = pool m q f
  prune (suc d) h m q f = ite (bare? (A.rd m) (tb h) G.K)
      (prune d (suc h) (A.wr m (tb (suc h)) (anc G.K h v % G.K) 0) (A.push q f (tb h)) (suc f))
      (pool m q f)

  -- what pruning comes to: the invariant at rest
  pub record PrunedIf (C D : Type 0) (L : List Mapping) (o : Pool A) : Type 0 where
    pub T : ℕ → ℕ → ℕ
    pub S : ℕ → ℕ → Ent
    pub ok : A.Ok o.m
    pub okᶠ : A.Okᶠ o.q
    pub inv : InvIf C D G (A.rd o.m) (A.pl o.q) o.f T S L G.top 0

  -- before a table is looked at: the one around v at height h may be without an entry, and tb names the tables from there up
  pub record LooseIf (C D : Type 0) (L : List Mapping) (d h : ℕ) : Type 0 where
    pub m : A.M
    pub q : A.Q
    pub f : ℕ
    pub T : ℕ → ℕ → ℕ
    pub S : ℕ → ℕ → Ent
    pub ok : A.Ok m
    pub okᶠ : A.Okᶠ q
    pub inv : InvIf C D G (A.rd m) (A.pl q) f T S L h (anc G.K h v)
    pub stands : S h (anc G.K h v) ≡ table
    pub path : (k : ℕ) → h ≤ k → k ≤ G.top → tb k ≡ T k (anc G.K k v)
    pub levels : h + d ≡ G.top

  -- with all of the invariant
  abbrev pub Pruned : List Mapping → Pool A → Type 0
  Pruned L o = PrunedIf (Unit {0}) (Unit {0}) L o

  abbrev pub Loose : List Mapping → ℕ → ℕ → Type 0
  Loose L d h = LooseIf (Unit {0}) (Unit {0}) L d h

  -- the table is all zero: it is unlinked and given back, and the table above it may be without an entry
  unfoldable pub off : {C D : Type 0} {L : List Mapping} {d h : ℕ} (o : LooseIf C D L (suc d) h) → Bare (A.rd o.m) (tb h) G.K → LooseIf C D L d (suc h)
  off {C} {D} {L} {d} {h} o z = record {
    m = A.wr o.m (tb (suc h)) (r % G.K) 0;
    q = A.push o.q o.f (tb h);
    f = suc o.f;
    T = upd o.T h r 0;
    S = upd o.S h r empty;
    ok = A.wr_ok _ _ _ _ o.ok;
    okᶠ = A.push_ok _ _ _ o.okᶠ;
    inv = reword (rw (at_h, at_up, G.enc_empty h 0) at (unlink h r o.inv o.stands low kids))
        (A.rd_wr o.m (tb (suc h)) (r % G.K) 0 o.ok (rw at_up at (R.range (suc h) (r / G.K) parent)) (mod-lt r G.K-pos))
        (λ c i _. A.pl_push o.q o.f (tb h) o.okᶠ (free_room o.inv c) i);
    stands = upd_other o.S h r empty (suc h) (r / G.K) (λ s. omega (arith, s.0)) ∙ parent;
    path = λ k a b. o.path k (omega arith) b ∙ sym (upd_other o.T h r 0 k (anc G.K k v) (λ s. omega (arith, s.0)));
    levels = omega arith;
  }
    where
      r : ℕ
      r = anc G.K h v

      R : Rendered G (A.rd o.m) o.T o.S
      R = o.inv.ren

      low : h < G.top
      low = omega arith

      parent : o.S (suc h) (r / G.K) ≡ table
      parent = R.up h r low (table≢empty o.stands)

      at_h : o.T h r ≡ tb h
      at_h = sym (o.path h (omega arith) (omega (arith, low)))

      at_up : o.T (suc h) (r / G.K) ≡ tb (suc h)
      at_up = sym (o.path (suc h) (omega arith) low)

      kids : (h' r' : ℕ) → suc h' ≡ h → r' / G.K ≡ r → o.S h' r' ≡ empty
      kids h' r' a b =
          let p : o.S (suc h') (r' / G.K) ≡ table = (let w = o.stands in cc) in
          let t : o.T (suc h') (r' / G.K) ≡ tb h = (let w = at_h in cc) in
          let y : A.rd o.m (o.T (suc h') (r' / G.K)) (r' % G.K) ≡ 0 = rw t (z (r' % G.K) (mod-lt r' G.K-pos)) in
          read_empty _ _ (sym (read_is R h' r' p) ∙ ap (G.dec h') y ∙ G.dec_empty h')

  -- the table is not all zero: it has an entry, and that is rest
  pub kept : {C D : Type 0} {L : List Mapping} {d h : ℕ} (o : LooseIf C D L (suc d) h) → (Bare (A.rd o.m) (tb h) G.K → ⊥)
      → InvIf C D G (A.rd o.m) (A.pl o.q) o.f o.T o.S L G.top 0
  kept {C} {D} {L} {d} {h} o n = let (i, l, z) = some_word (A.rd o.m) (tb h) G.K n in go i l z h refl
    where
      r : ℕ
      r = anc G.K h v

      full : (i : ℕ) → i < G.K → A.rd o.m (tb h) i ≢ 0 → (h' : ℕ) → h ≡ suc h' → o.S h' (r * G.K + i) ≢ empty
      full i l z h' e q = z (
          let d = digits_div r l in
          let m = digits_mod r l in
          let st = o.stands in
          let t = o.path h (omega arith) (omega arith) in
          let p : o.S (suc h') ((r * G.K + i) / G.K) ≡ table = cc in
          let w = o.inv.ren.words h' (r * G.K + i) p in
          cc (G.enc_empty h' (o.T h' (r * G.K + i))))

      I : (h' : ℕ) → h ≡ h' → InvIf C D G (A.rd o.m) (A.pl o.q) o.f o.T o.S L h' r
      I h' e = subst (λ (j : ℕ). InvIf C D G (A.rd o.m) (A.pl o.q) o.f o.T o.S L j r) e o.inv

      go : (i : ℕ) → i < G.K → A.rd o.m (tb h) i ≢ 0 → (h' : ℕ) → h ≡ h'
          → InvIf C D G (A.rd o.m) (A.pl o.q) o.f o.T o.S L G.top 0
      go i l z zero e = absurd (o.inv.ren.leaf r (ap (λ (k : ℕ). o.S k r) (sym e) ∙ o.stands))
      go i l z (suc h') e = settle h' r (r * G.K + i) (I (suc h') e) (digits_div r l) (full i l z h' e)

  -- at the root's height nothing is left to look at, and that is rest
  pub rested : {C D : Type 0} {L : List Mapping} {h : ℕ} (o : LooseIf C D L zero h)
      → InvIf C D G (A.rd o.m) (A.pl o.q) o.f o.T o.S L G.top 0
  rested {C} {D} {L} {h} o = subst₂ (λ (a b : ℕ). InvIf C D G (A.rd o.m) (A.pl o.q) o.f o.T o.S L a b) e z o.inv
    where
      e : h ≡ G.top
      e = omega arith

      z : anc G.K h v ≡ 0
      z = o.inv.ren.only (anc G.K h v) (λ q. table≢empty o.stands (ap (λ (k : ℕ). o.S k (anc G.K h v)) e ∙ q))

  -- what `prune` does from where it is loose
  abbrev Prunes : Type 0 → Type 0 → List Mapping → ℕ → ℕ → Type 0
  Prunes C D L d h = (o : LooseIf C D L d h) → PrunedIf C D L (prune d h o.m o.q o.f)

  -- pruning keeps the ledger and comes to rest
  pub prune_ok : {C D : Type 0} {L : List Mapping} (d h : ℕ) (o : LooseIf C D L d h) → PrunedIf C D L (prune d h o.m o.q o.f)
  unfolding prune off
  prune_ok zero h o = record { T = o.T; S = o.S; ok = o.ok; okᶠ = o.okᶠ; inv = rested o }
  prune_ok {C} {D} {L} (suc d) h o = go (bare? (A.rd o.m) (tb h) G.K) (λ o. prune_ok d (suc h) o)
    where
      go : (b : Dec (Bare (A.rd o.m) (tb h) G.K)) → Prunes C D L d (suc h)
          → PrunedIf C D L (ite b
          (prune d (suc h) (A.wr o.m (tb (suc h)) (anc G.K h v % G.K) 0) (A.push o.q o.f (tb h)) (suc o.f))
          (pool o.m o.q o.f))
      go (yes a) ih = ih (off o a)
      go (no n) ih = record { T = o.T; S = o.S; ok = o.ok; okᶠ = o.okᶠ; inv = kept o n }
