-- The rule of the attribute words bit by bit, and that it fixes each of them.
use Rattle.std.specs.Prelude.{ℕ, zero, suc, ◌+◌, ◌/◌, ◌%◌, ◌^◌, ◌≤◌, ◌<◌, ◌≡◌, Bool, eqb}
use Rattle.std.proofs.Common.{sym, ap, ◌∙◌, arith, eqb→eq, pow_mono, shr-shr, ne_eqb, le-leb}
use Rattle.std.proofs.Math.Decide.{dec_lt}
use Rattle.std.proofs.Math.Nat.{div-eq_of_lt}
use Rattle.std.proofs.lemmas.Bool.{lt-leb}
use Rattle.entry.specs.Words.{attr_word}
use Rattle.entry.proofs.Below.{below}
use Rattle.entry.specs.Below.{all_below}
use Rattle.entry.proofs.Parts.{attr_word_le}
use Rattle.entry.specs.Bits.{bit, rule_bit}

right : ℕ → ℕ → Bool
right a k = eqb (bit k (attr_word a)) (rule_bit k a)

pub attr_bit : (k a : ℕ) → a < 16 → bit k (attr_word a) ≡ rule_bit k a
unfolding right rule_bit
attr_bit k a few = go (dec_lt k 55)
  where
    low : k < 55 → bit k (attr_word a) ≡ rule_bit k a
    low l = eqb→eq (bit k (attr_word a)) (rule_bit k a) (below (right a) 55 (below (λ b. all_below (right b) 55) 16 tt a few) k l)

    high : 55 ≤ k → bit k (attr_word a) ≡ rule_bit k a
    high l =
        let big : attr_word a < 2 ^ k = omega (arith, attr_word_le a, pow_mono l) in
        rw (
          div-eq_of_lt big,
          ne_eqb k 10 (λ e. omega arith),
          ne_eqb k 6 (λ e. omega arith),
          ne_eqb k 7 (λ e. omega arith),
          ne_eqb k 54 (λ e. omega arith),
          le-leb 2 k (omega arith),
          lt-leb k 5 (omega arith),
          le-leb 8 k (omega arith),
          lt-leb k 9 (omega arith),
        )

    go : Dec (k < 55) → bit k (attr_word a) ≡ rule_bit k a
    go (yes l) = low l
    go (no n) = high (omega arith)

-- numbers with the same bits are the same
pub same_bits : (j w v : ℕ) → w < 2 ^ j → v < 2 ^ j → ((k : ℕ) → k < j → bit k w ≡ bit k v) → w ≡ v
same_bits zero w v hw hv f = omega arith
same_bits (suc j) w v hw hv f =
    let last : w % 2 ≡ v % 2 = omega (arith, f 0 (omega arith)) in
    let rest = same_bits j (w / 2) (v / 2) (omega arith) (omega arith) (λ k l. sym (up k w) ∙ (f (suc k) (omega arith) ∙ up k v)) in
    omega arith
  where
    up : (k x : ℕ) → bit (suc k) x ≡ bit k (x / 2)
    up k x = let e : 1 + k ≡ suc k = omega arith in ap (λ (y : ℕ). y % 2) (sym (rw e at (shr-shr x 1 k)))

-- so the rule fixes the word
pub attr_word_is : (w a : ℕ) → a < 16 → w < 2 ^ 64 → ((k : ℕ) → k < 64 → bit k w ≡ rule_bit k a) → w ≡ attr_word a
attr_word_is w a few l f = same_bits 64 w (attr_word a) l (omega (arith, attr_word_le a)) (λ k m. f k m ∙ sym (attr_bit k a few))
