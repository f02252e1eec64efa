-- The trees before and after a call: all that stands in the one stands in the other. Map's tree after it is the larger one, unmap's the smaller.
use Rattle.std.specs.Prelude.{◌≡◌, refl, ◌≢◌, List}
use Rattle.std.proofs.Common.{ap, sym, ◌∙◌, subst, arith}
use Rattle.std.proofs.Math.Logic.{ite}
use Prim.Native.Nat.{ℕ, zero, suc, ◌+◌, ◌-◌, ◌/◌, ◌%◌}
use Rattle.std.proofs.Math.Decide.{ℕ_discrete}
use Rattle.tree.specs.Region.{anc, Same, upd, upd_at, upd_other}
use Rattle.tree.specs.Tree.{Ent, empty, frame, table, table≢empty, read_of, Geo, Rendered, Unused, Zeros}
use Rattle.tree.specs.Walk.{read_is}
use Rattle.tree.specs.Inv.{Mapping, Store}
use Rattle.tree.specs.Ops.{Mem, mem, grow, Ready, Mapped, last, more}
use Rattle.tree.specs.Prune.{Bare, bare?, Pool, pool, prune, Loose, Pruned, off, kept, rested}
use Rattle.hardware.specs.Trees.{NewZero, Within}

pub within_same : {T : ℕ → ℕ → ℕ} {S : ℕ → ℕ → Ent} → Within T S T S
within_same = record { stays = λ h r p. refl; number = λ h r p. refl }

pub within_both : {T T' T'' : ℕ → ℕ → ℕ} {S S' S'' : ℕ → ℕ → Ent} → Within T S T' S' → Within T' S' T'' S'' → Within T S T'' S''
within_both A B = record {
  stays = λ h r p. B.stays h r (λ z. p (sym (A.stays h r p) ∙ z)) ∙ A.stays h r p;
  number = λ h r p. B.number h r (A.stays h r (table≢empty p) ∙ p) ∙ A.number h r p;
}

-- an entry comes where nothing was
pub within_more : {T : ℕ → ℕ → ℕ} {S : ℕ → ℕ → Ent} (h r c : ℕ) (e : Ent) → S h r ≡ empty → Within T S (upd T h r c) (upd S h r e)
within_more {T} {S} h r c e v = record {
  stays = λ h' r' p. upd_other S h r e h' r' (away h' r' p);
  number = λ h' r' p. upd_other T h r c h' r' (away h' r' (table≢empty p));
}
  where
    away : (h' r' : ℕ) → S h' r' ≢ empty → Same h r h' r' → ⊥
    away h' r' p s = let a = s.0 in let b = s.1 in p (cc)

-- an entry goes
pub within_less : {T : ℕ → ℕ → ℕ} {S : ℕ → ℕ → Ent} (h r c : ℕ) → Within (upd T h r c) (upd S h r empty) T S
within_less {T} {S} h r c = record {
  stays = λ h' r' p. sym (upd_other S h r empty h' r' (away h' r' p));
  number = λ h' r' p. sym (upd_other T h r c h' r' (away h' r' (table≢empty p)));
}
  where
    away : (h' r' : ℕ) → upd S h r empty h' r' ≢ empty → Same h r h' r' → ⊥
    away h' r' p s = p (upd_at S h r empty h' r' s)

-- words have one tree: what one that they render has stands in any other
module _ {G : Geo} {W T T' : ℕ → ℕ → ℕ} {S S' : ℕ → ℕ → Ent} (R : Rendered G W T S) (R' : Rendered G W T' S') where
  abbrev Agrees : ℕ → ℕ → Type 0
  Agrees h r = S h r ≢ empty → (S' h r ≡ S h r) × (S h r ≡ table → T' h r ≡ T h r)

  agrees_top : (r : ℕ) → Agrees G.top r
  agrees_top r p =
      let z = R.only r p in (
        ap (S' G.top) z ∙ R'.root ∙ sym (ap (S G.top) z ∙ R.root),
        λ _. ap (T' G.top) z ∙ R'.root_at ∙ sym (ap (T G.top) z ∙ R.root_at),
      )

  -- two entries that read alike
  read_alike : (e e' : Ent) (c c' : ℕ) → read_of e c ≡ read_of e' c' → e ≢ empty → (e' ≡ e) × (e ≡ table → c' ≡ c)
  read_alike empty e' c c' q n = absurd (n refl)
  read_alike (frame x) empty c c' q n = (cc, λ z. cc)
  read_alike (frame x) (frame y) c c' q n = (cc, λ z. cc)
  read_alike (frame x) table c c' q n = (cc, λ z. cc)
  read_alike table empty c c' q n = (cc, λ z. cc)
  read_alike table (frame y) c c' q n = (cc, λ z. cc)
  read_alike table table c c' q n = (refl, λ z. cc)

  agrees : (d h : ℕ) → h + d ≡ G.top → (r : ℕ) → Agrees h r
  agrees zero h e r p = subst (λ (x : ℕ). Agrees x r) (omega arith) (agrees_top r) p
  agrees (suc d) h e r p =
      let u = R.up h r (omega arith) p in
      let (v, w) = agrees d (suc h) (omega arith) (r / G.K) (table≢empty u) in
      read_alike (S h r) (S' h r) (T h r) (T' h r)
      (sym (read_is R h r u) ∙ ap (λ (t : ℕ). G.dec h (W t (r % G.K))) (sym (w u)) ∙ read_is R' h r (v ∙ u)) p

  agrees_at : (h r : ℕ) → Agrees h r
  agrees_at h r p = agrees (G.top - h) h (omega (arith, R.bound h r p)) r p

  pub within_words : Within T S T' S'
  within_words = record { stays = λ h r p. (agrees_at h r p).0; number = λ h r p. (agrees_at h r (table≢empty p)).1 p }

pub new_zero : {G : Geo} {W W' T T' : ℕ → ℕ → ℕ} {S S' : ℕ → ℕ → Ent} → Zeros G W T S → Rendered G W' T' S' → Within T S T' S' → NewZero G W T S T' S'
new_zero {G} {T = T} {T'} {S} blank R' Q h r p d i l = blank (T' h r) i (R'.range h r p) l unused
  where
    unused : Unused T S (T' h r)
    unused h₁ r₁ s e =
        let u = R'.inj h₁ r₁ h r (Q.stays h₁ r₁ (table≢empty s) ∙ s) p (Q.number h₁ r₁ s ∙ e) in
        let a = u.0 in let b = u.1 in d (cc)

-- map
module _ (G : Geo) (A : Store G) (P : ℕ → ℕ) (g v x : ℕ) where
  pub record Grown {L : List Mapping} {h : ℕ} (o : Ready G A P g v x L h) (out : Mem A) : Type 0 where
    pub mapped : Mapped G A P g v x L o.f (h - g) out
    pub within : Within o.T o.S mapped.T mapped.S

  grown_last : {L : List Mapping} {h : ℕ} (o : Ready G A P g v x L h) → h ≡ g
      → Grown o (mem (A.wr o.m o.t (anc G.K h v % G.K) (G.enc h (frame x) 0)) o.f)
  unfolding last
  grown_last {h = h} o z = record { mapped = last G A P g v x o z; within = within_more h (anc G.K h v) 0 (frame x) o.vacant }

  abbrev Grows : List Mapping → ℕ → Type 0
  Grows L h = (o : Ready G A P g v x L h) → Grown o (grow G A P g v x h o.m o.t o.f)

  pub grown : {L : List Mapping} (h : ℕ) → Grows L h
  unfolding grow more
  grown zero o = grown_last o (omega arith)
  grown {L} (suc h) o = go (ℕ_discrete (suc h) g) (λ o. grown h o)
    where
      r : ℕ
      r = anc G.K (suc h) v

      c : ℕ
      c = P (o.f - 1)

      go : (d : Dec (suc h ≡ g)) → Grows L h
          → Grown o (ite d (mem (A.wr o.m o.t (r % G.K) (G.enc (suc h) (frame x) 0)) o.f)
          (grow G A P g v x h (A.wr (A.wipe o.m c) o.t (r % G.K) (G.enc (suc h) table c)) c (o.f - 1)))
      go (yes z) ih = grown_last o z
      go (no z) ih =
          let N = ih (more G A P g v x o z (o.f - 1) (omega arith)) in
          let M = N.mapped in
          record {
            mapped = record { T = M.T; S = M.S; ok = M.ok; inv = M.inv; count = omega (arith, M.count) };
            within = within_both {T'' = M.T} {S'' = M.S} (within_more (suc h) r c table o.vacant) N.within;
          }

-- unmap
module _ (G : Geo) (A : Store G) (v : ℕ) (tb : ℕ → ℕ) where
  pub record Cut {L : List Mapping} {d h : ℕ} (o : Loose G A v tb L d h) (out : Pool A) : Type 0 where
    pub pruned : Pruned G A v tb L out
    pub within : Within pruned.T pruned.S o.T o.S

  abbrev Cuts : List Mapping → ℕ → ℕ → Type 0
  Cuts L d h = (o : Loose G A v tb L d h) → Cut o (prune G A v tb d h o.m o.q o.f)

  pub cut : {L : List Mapping} (d h : ℕ) → Cuts L d h
  unfolding prune off
  cut zero h o = record { pruned = record { T = o.T; S = o.S; ok = o.ok; okᶠ = o.okᶠ; inv = rested G A v tb o }; within = within_same }
  cut {L} (suc d) h o = go (bare? (A.rd o.m) (tb h) G.K) (λ o. cut d (suc h) o)
    where
      go : (b : Dec (Bare (A.rd o.m) (tb h) G.K)) → Cuts L d (suc h)
          → Cut o (ite b
          (prune G A v tb d (suc h) (A.wr o.m (tb (suc h)) (anc G.K h v % G.K) 0) (A.push o.q o.f (tb h)) (suc o.f))
          (pool o.m o.q o.f))
      go (yes a) ih =
          let N = ih (off G A v tb o a) in
          record { pruned = N.pruned; within = within_both N.within (within_less h (anc G.K h v) 0) }
      go (no n) ih = record { pruned = record { T = o.T; S = o.S; ok = o.ok; okᶠ = o.okᶠ; inv = kept G A v tb o n }; within = within_same }
