-- The ledger's tests, as facts about its mappings.
use Rattle.std.specs.Prelude.{◌≡◌, refl, ◌⊎◌, ◌↔◌, Bool, true, false, cond, ◌&&◌, ◌||◌, ℕ}
use Rattle.std.proofs.Common.{ap, sym, ◌∙◌, inl, inr, ⊎_elim, arith, ltb-true, leb-true, lt-ltb, le-leb}
use Rattle.std.proofs.lemmas.Bool.{false≢true}
use mathlib.Core.List.Memᴰ
use mathlib.Core.List.Memᴰ.{head as here}
use mathlib.Core.List.Memᴰ.{tail as there}
use mathlib.Core.List.{List, [], ◌∷◌, Memᴰ}
use Rattle.std.proofs.Math.Option.{some, none}
use Rattle.model.specs.Answers.{Mapping}
use Rattle.model.specs.Ledger.{overlaps, any_overlap, holds_address, cover_of}
use Rattle.model.specs.Holes.{Within, Shares}

pub and-true : (a b : Bool) → (a && b) ≡ true → (a ≡ true) × (b ≡ true)
and-true true b e = (refl, e)
and-true false b e = absurd (false≢true e)

pub true_and : {a b : Bool} → a ≡ true → b ≡ true → (a && b) ≡ true
true_and {a} {b} p q = rw (p, q) refl

pub or-true : (a b : Bool) → (a || b) ≡ true → (a ≡ true) ⊎ (b ≡ true)
or-true true b e = inl refl
or-true false b e = inr e

pub true_or : (a b : Bool) → (a ≡ true) ⊎ (b ≡ true) → (a || b) ≡ true
true_or true b e = refl
true_or false b (inl e) = absurd (false≢true e)
true_or false b (inr e) = e

-- some mapping shares a byte with the range exactly where the test says so
pub any_overlap_lem : (a size : ℕ) (L : List Mapping) → (any_overlap a size L ≡ true) ↔ ((m : Mapping) × Memᴰ m L × Shares a size m)
unfolding any_overlap
any_overlap_lem a size L = (from L, to L)
  where
    from : (L : List Mapping) → any_overlap a size L ≡ true → (m : Mapping) × Memᴰ m L × Shares a size m
    from [] e = absurd (false≢true e)
    from (k ∷ L) e = ⊎_elim (λ d. let (p, q) = and-true _ _ d in (k, here refl, (ltb-true _ _ q, ltb-true _ _ p))) (λ d. let (m, i, o) = from L d in (m, there i, o)) (or-true _ _ e)

    to : (L : List Mapping) → (m : Mapping) × Memᴰ m L × Shares a size m → any_overlap a size L ≡ true
    to [] (m, i, o) = absurd (Memᴰ.not-nil i)
    to (k ∷ L) (m, i, (p, q)) = true_or (overlaps a size k) (any_overlap a size L)
        (⊎_elim (λ e. inl (ap (overlaps a size) (sym e) ∙ true_and (lt-ltb _ _ q) (lt-ltb _ _ p))) (λ j. inr (to L (m, j, (p, q)))) (Memᴰ.cases_cons i))

-- the mapping that the search for an address finds is one that holds it
pub cover_some : (a : ℕ) (L : List Mapping) (m : Mapping) → cover_of a L ≡ some m → Memᴰ m L × Within a m
unfolding cover_of
cover_some a [] m e = let z : ◌≡◌ {A = ℕ} 0 1 = cc in absurd (omega arith)
cover_some a (k ∷ L) m e = go (holds_address a k) refl e (cover_some a L m)
  where
    go : (b : Bool) → holds_address a k ≡ b → cond b (some k) (cover_of a L) ≡ some m → (cover_of a L ≡ some m → Memᴰ m L × Within a m) → Memᴰ m (k ∷ L) × Within a m
    go true q e ih = let z : k ≡ m = cc in let (x, y) = and-true _ _ q in let w : Within a k = (leb-true _ _ x, ltb-true _ _ y) in (here (sym z), rw z at w)
    go false q e ih = let (x, y) = ih e in (there x, y)

-- where it finds none, no mapping holds the address
pub cover_none : (a : ℕ) (L : List Mapping) → cover_of a L ≡ none → (m : Mapping) → Memᴰ m L → Within a m → ⊥
unfolding cover_of
cover_none a [] e m i w = Memᴰ.not-nil i
cover_none a (k ∷ L) e m i w = go (holds_address a k) refl e (cover_none a L)
  where
    go : (b : Bool) → holds_address a k ≡ b → cond b (some k) (cover_of a L) ≡ none → (cover_of a L ≡ none → (m : Mapping) → Memᴰ m L → Within a m → ⊥) → ⊥
    go true q e ih = let z : ◌≡◌ {A = ℕ} 0 1 = cc in omega arith
    go false q e ih = ⊎_elim (λ z. false≢true (sym q ∙ rw (← z) (true_and (le-leb _ _ w.0) (lt-ltb _ _ w.1)))) (λ j. ih e m j w) (Memᴰ.cases_cons i)
