-- One computed test for all numbers below a limit: what it finds true holds at each of them.
use Rattle.std.specs.Prelude.{ℕ, zero, suc, ◌<◌, ◌≡◌, Bool, T}
use Rattle.std.proofs.Common.{subst, arith}
use Rattle.std.proofs.Math.Decide.{ℕ_discrete}
use store.Enc.{and_l, and_r}
use Rattle.entry.specs.Below.{all_below}

pub below : (f : ℕ → Bool) (n : ℕ) → T (all_below f n) → (k : ℕ) → k < n → T (f k)
below f zero t k h = absurd (omega arith)
below f (suc n) t k h = go (ℕ_discrete n k) (below f n (and_r (f n) (all_below f n) t) k)
  where
    go : Dec (n ≡ k) → (k < n → T (f k)) → T (f k)
    go (yes e) rest = subst (λ (m : ℕ). T (f m)) e (and_l (f n) (all_below f n) t)
    go (no d) rest = rest (omega arith)
