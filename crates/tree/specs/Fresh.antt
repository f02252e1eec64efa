-- A fresh pool: all words zero, every table but the root free. It is a pool at rest with an empty ledger.
use Rattle.std.specs.Prelude.{◌≡◌, refl, ◌≢◌, [], ℕ, zero, suc, ◌-◌, ◌/◌, ◌%◌, ◌<◌}
use Rattle.std.proofs.Common.{ap, sym, ◌∙◌, arith}
use mathlib.Core.List.Memᴰ
use Rattle.std.proofs.Math.Decide.{ℕ_discrete}
use Rattle.tree.specs.Region.{Same, same?, upd, upd_at, upd_other}
use Rattle.tree.specs.Tree.{Ent, empty, frame, table, table≢empty, table≢frame, empty≢frame, Geo, Unused}
use Rattle.tree.specs.Inv.{Inv}

module _ (G : Geo) (k : ℕ) (top : suc k ≡ G.top) (some : zero < G.n) where
  -- the tree with the root alone, in table 0
  abbrev pub S₀ : ℕ → ℕ → Ent
  S₀ = upd (λ _ _. empty) G.top 0 table

  abbrev pub T₀ : ℕ → ℕ → ℕ
  T₀ = λ _ _. 0

  root_there : S₀ G.top 0 ≡ table
  root_there = upd_at (λ _ _. empty) G.top 0 table G.top 0 (refl, refl)

  only_root : (h r : ℕ) → S₀ h r ≢ empty → Same G.top 0 h r
  only_root h r p = go (same? G.top 0 h r)
    where
      go : Dec (Same G.top 0 h r) → Same G.top 0 h r
      go (yes s) = s
      go (no d) = absurd (p (upd_other (λ _ _. empty) G.top 0 table h r d))

  no_frame : (h r x : ℕ) → S₀ h r ≡ frame x → ⊥
  no_frame h r x p =
      let u = only_root h r (λ e. empty≢frame e p) in table≢frame (upd_at (λ _ _. empty) G.top 0 table h r u) p

  -- below the root all is empty
  bare : (h r : ℕ) → S₀ (suc h) (r / G.K) ≡ table → S₀ h r ≡ empty
  bare h r p = upd_other (λ _ _. empty) G.top 0 table h r
      (λ s. omega (arith, s.0, (only_root (suc h) (r / G.K) (table≢empty p)).0))

  not_zero : (t : ℕ) → t < G.n → Unused T₀ S₀ t → G.n - 1 - t < G.n - 1
  not_zero t c u = go (ℕ_discrete t 0)
    where
      go : Dec (t ≡ 0) → G.n - 1 - t < G.n - 1
      go (yes e) = absurd (u G.top 0 root_there (sym e))
      go (no e) = omega arith

  -- W all zero, place i of P is n - 1 - i
  pub fresh : (W : ℕ → ℕ → ℕ) (P : ℕ → ℕ) → ((t i : ℕ) → W t i ≡ 0) → ((i : ℕ) → i < G.n - 1 → P i ≡ G.n - 1 - i)
      → Inv G W P (G.n - 1) T₀ S₀ [] G.top 0
  fresh W P z l = record {
    ren = record {
      root = root_there;
      root_at = refl;
      bound = λ h r p. omega (arith, (only_root h r p).0);
      only = λ r p. (only_root G.top r p).1;
      good = λ h r x p. absurd (no_frame h r x p);
      leaf = λ r p. omega (arith, (only_root 0 r (table≢empty p)).0);
      up = λ h r a p. absurd (omega (arith, (only_root h r p).0));
      range = λ h r p. some;
      inj = λ h r h' r' p p' e.
          let u = only_root h r (table≢empty p) in
          let u' = only_root h' r' (table≢empty p') in (u.0 ∙ sym u'.0, u.1 ∙ sym u'.1);
      words = λ h r p. z 0 (r % G.K) ∙ sym (ap (λ (e : Ent). G.enc h e 0) (bare h r p) ∙ G.enc_empty h 0);
    };
    holds = record { listed = λ h r x p. absurd (no_frame h r x p); live = λ m c. absurd (Memᴰ.not-nil c) };
    dense = λ _ h r p c d. absurd (omega (arith, (only_root (suc h) r (table≢empty p)).0));
    spare = λ _. record {
      free = record {
        each = λ i c. (omega (arith, l i c), λ h r p e. omega (arith, l i c));
        once = λ i j c d e. omega (arith, l i c, l j d);
        all = λ t c u.
            (G.n - 1 - t, not_zero t c u, l (G.n - 1 - t) (not_zero t c u) ∙ omega (arith, not_zero t c u));
      };
      zeros = λ t i _ _ _. z t i;
    };
  }
