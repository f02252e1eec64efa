-- What the laws of proofs/Bits.antt speak of.
use Rattle.std.specs.Prelude.{ℕ, ◌-◌, ◌/◌, ◌%◌, ◌^◌, cond, ◌&&◌, leb, eqb}

-- bit k of a number
abbrev pub bit : ℕ → ℕ → ℕ
bit k w = w / 2 ^ k % 2

-- bit k of the attribute word of a: bit 10 always; bit 6 for read; bit 7 for write; bit 54 when not execute; bits 5:2 are 1111 for normal memory and
-- 0000 for device memory; bits 9:8 are 11 for normal memory and 00 for device memory; every other bit is 0
unfoldable pub rule_bit : ℕ → ℕ → ℕ
rule_bit k a =
    cond (eqb k 10) 1
    (cond (eqb k 6) (bit 0 a)
    (cond (eqb k 7) (bit 1 a)
    (cond (eqb k 54) (1 - bit 2 a)
    (cond (leb 2 k && leb k 5) (bit (k - 2) (cond (eqb (bit 3 a) 0) 15 0))
    (cond (leb 8 k && leb k 9) (bit (k - 8) (cond (eqb (bit 3 a) 0) 3 0)) 0)))))
