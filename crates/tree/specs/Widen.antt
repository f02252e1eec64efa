-- More tables for the same tree: m numbers come after those of the pool, their words are zero, and they stand at the end of the free list, highest first.
-- The pool then holds the same tree and the same ledger.
use Rattle.std.specs.Prelude.{◌≡◌, List, ℕ, suc, ◌+◌, ◌-◌, ◌/◌, ◌%◌, ◌≤◌, ◌<◌}
use Rattle.std.proofs.Common.{sym, ◌∙◌, mod-lt, arith}
use Rattle.std.proofs.Math.Decide.{dec_lt}
use Rattle.tree.specs.Tree.{Ent, table, Geo, Unused, Rendered}
use Rattle.tree.specs.Inv.{Mapping, Free, InvIf}

-- a geometry with m tables more: the same numbers but that of the tables, and the same words for what was there
pub record Wider (G G' : Geo) (m : ℕ) : Type 0 where
  pub K-is : G'.K ≡ G.K
  pub top_is : G'.top ≡ G.top
  pub n_is : G'.n ≡ G.n + m
  pub good : (h x : ℕ) → G.Good h x → G'.Good h x
  pub enc_is : (h c : ℕ) (e : Ent) → (e ≡ table → c < G.n) → G'.enc h e c ≡ G.enc h e c

-- the new tables' words are zero, and the free list goes on with them
pub record Appended (G : Geo) (W' : ℕ → ℕ → ℕ) (P P' : ℕ → ℕ) (f f' m : ℕ) : Type 0 where
  pub count : f' ≡ f + m
  pub kept : (i : ℕ) → i < f → P' i ≡ P i
  pub new : (i : ℕ) → i < m → P' (f + i) ≡ G.n + m - 1 - i
  pub zeros : (t i : ℕ) → G.n ≤ t → t < G.n + m → i < G.K → W' t i ≡ 0

module _ {G G' : Geo} {m : ℕ} (X : Wider G G' m) where
  -- the words of the old tables render the same tree
  rendered : {W W' T : ℕ → ℕ → ℕ} {S : ℕ → ℕ → Ent} → ((t i : ℕ) → t < G.n → i < G.K → W' t i ≡ W t i) → Rendered G W T S → Rendered G' W' T S
  rendered {T = T} {S} same R = record {
    root = rw X.top_is R.root;
    root_at = rw X.top_is R.root_at;
    bound = λ h r p. omega (arith, X.top_is, R.bound h r p);
    only = rw X.top_is R.only;
    good = λ h r x p. X.good h x (R.good h r x p);
    leaf = R.leaf;
    up = rw (X.K-is, X.top_is) R.up;
    range = λ h r p. omega (arith, X.n_is, R.range h r p);
    inj = R.inj;
    words = λ h r. rw X.K-is (λ p. same (T (suc h) (r / G.K)) (r % G.K) (R.range (suc h) (r / G.K) p) (mod-lt r G.K-pos) ∙ R.words h r p
        ∙ sym (X.enc_is h (T h r) (S h r) (λ e. R.range h r e)));
  }

  -- no new number is that of a table of the tree
  unused : {W T : ℕ → ℕ → ℕ} {S : ℕ → ℕ → Ent} → Rendered G W T S → (t : ℕ) → G.n ≤ t → Unused T S t
  unused R t l h r p e = omega (arith, R.range h r p)

  free : {W W' T : ℕ → ℕ → ℕ} {S : ℕ → ℕ → Ent} {P P' : ℕ → ℕ} {f f' : ℕ} → Rendered G W T S → Free G T S P f → Appended G W' P P' f f' m
      → Free G' T S P' f'
  free {T = T} {S} {P} {P'} {f} {f'} R F A = record { each = λ i l. each i l (dec_lt i f); once = λ i j a b e. once i j a b e (dec_lt i f) (dec_lt j f); all = λ t l u. all t l u (dec_lt t G.n) }
    where
      -- a later place has a new number
      late : (i : ℕ) → i < f' → f ≤ i → P' i ≡ G.n + m - 1 - (i - f)
      late i l b = let e : f + (i - f) ≡ i = omega arith in rw e at (A.new (i - f) (omega (arith, A.count)))

      each : (i : ℕ) → i < f' → Dec (i < f) → (P' i < G'.n) × Unused T S (P' i)
      each i l (yes a) = let (b, u) = F.each i a in (omega (arith, A.kept i a, X.n_is), rw (A.kept i a) u)
      each i l (no a) = (omega (arith, A.count, late i l (omega arith), X.n_is), unused R (P' i) (omega (arith, A.count, late i l (omega arith))))

      once : (i j : ℕ) → i < f' → j < f' → P' i ≡ P' j → Dec (i < f) → Dec (j < f) → i ≡ j
      once i j a b e (yes x) (yes y) = F.once i j x y (sym (A.kept i x) ∙ e ∙ A.kept j y)
      once i j a b e (yes x) (no y) = absurd (omega (arith, A.count, A.kept i x, (F.each i x).0, late j b (omega arith)))
      once i j a b e (no x) (yes y) = absurd (omega (arith, A.count, A.kept j y, (F.each j y).0, late i a (omega arith)))
      once i j a b e (no x) (no y) = omega (arith, A.count, late i a (omega arith), late j b (omega arith))

      all : (t : ℕ) → t < G'.n → Unused T S t → Dec (t < G.n) → (i : ℕ) × (i < f') × (P' i ≡ t)
      all t l u (yes a) = let (i, b, e) = F.all t a u in (i, omega (arith, A.count), A.kept i b ∙ e)
      all t l u (no a) =
          let k = G.n + m - 1 - t in
          let n = X.n_is in
          (f + k, omega (arith, A.count), A.new k (omega arith) ∙ omega arith)

  pub widen : {C D : Type 0} {W W' T : ℕ → ℕ → ℕ} {S : ℕ → ℕ → Ent} {P P' : ℕ → ℕ} {f f' : ℕ} {L : List Mapping}
      → InvIf C D G W P f T S L G.top 0 → ((t i : ℕ) → t < G.n → i < G.K → W' t i ≡ W t i) → (D → Appended G W' P P' f f' m)
      → InvIf C D G' W' P' f' T S L G'.top 0
  widen {D = D} {W} {W'} {T} {S} I same A = record {
    ren = rendered same I.ren;
    holds = I.holds;
    dense = rw (X.K-is, X.top_is) I.dense;
    spare = λ d. record { free = free I.ren (I.spare d).free (A d); zeros = λ t i l b u. zeros d t i (omega (arith, X.n_is)) (omega (arith, X.K-is)) u (dec_lt t G.n) };
  }
    where
      zeros : D → (t i : ℕ) → t < G.n + m → i < G.K → Unused T S t → Dec (t < G.n) → W' t i ≡ 0
      zeros d t i l b u (yes a) = same t i a b ∙ (I.spare d).zeros t i a b u
      zeros d t i l b u (no a) = (A d).zeros t i (omega arith) l b
