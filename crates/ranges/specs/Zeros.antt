-- The trailing zeros of a number, and the powers of two that divide it.
use Rattle.std.specs.Prelude.{◌≡◌, refl, ℕ, zero, suc, ◌+◌, ◌*◌, ◌/◌, ◌%◌, ◌^◌, ◌≤◌}
use Rattle.std.proofs.Common.{sym, ap, ◌∙◌, zero-le, suc-le-suc, not-suc-le-zero, le_of_suc-le-suc, add-one, arith}
use Rattle.std.proofs.Math.Nat.{mod-one}
use Rattle.std.proofs.lemmas.Nat.{mod-pow-add}
use Rattle.std.proofs.lemmas.Bool.Decides.{nat_tests}
use Rattle.std.specs.Int.Count.{count_trailing_zeros, under}

halve : (n k : ℕ) → n % 2 ^ suc k ≡ (n / 2 % 2 ^ k) * 2 + n % 2
halve n k = ap (λ (j : ℕ). n % 2 ^ j) (sym (add-one k)) ∙ mod-pow-add n k 1

by_digit : (n k d r : ℕ) → n % 2 ≡ d → (k ≤ r → n / 2 % 2 ^ k ≡ 0) → suc k ≤ under d r → n % 2 ^ suc k ≡ 0
by_digit n k zero r e half h = let i : n / 2 % 2 ^ k ≡ 0 = half (le_of_suc-le-suc h) in omega (arith, halve n k)
by_digit n k (suc d) r e half h = absurd (not-suc-le-zero h)

-- 2 ^ k divides a number with at least k trailing zeros
pub zeros_divide : (w n k : ℕ) → k ≤ count_trailing_zeros w n → n % 2 ^ k ≡ 0
unfolding count_trailing_zeros
zeros_divide w n zero h = mod-one n
zeros_divide zero n (suc k) h = absurd (not-suc-le-zero h)
zeros_divide (suc w) n (suc k) h = by_digit n k (n % 2) (count_trailing_zeros w (n / 2)) refl (zeros_divide w (n / 2) k) h

-- and no larger power of the width does
pub divide_zeros : (w n k : ℕ) → k ≤ w → n % 2 ^ k ≡ 0 → k ≤ count_trailing_zeros w n
unfolding count_trailing_zeros
divide_zeros w n zero h e = zero-le
divide_zeros zero n (suc k) h e = absurd (not-suc-le-zero h)
divide_zeros (suc w) n (suc k) h e =
    let odd : n % 2 ≡ 0 = omega (arith, halve n k) in
    let half : n / 2 % 2 ^ k ≡ 0 = omega (arith, halve n k) in
    rw odd (suc-le-suc (divide_zeros w (n / 2) k (le_of_suc-le-suc h) half))

-- what `fits` needs
pub ruleset zero_tests = (nat_tests, zeros_divide, divide_zeros)
