-- What the laws of proofs/Parts.antt speak of.
use Rattle.std.specs.Prelude.{ℕ}

-- the bits of device memory, bit 10 among them, and what those of normal memory are more
abbrev pub device_bits : ℕ
device_bits = 1024

abbrev pub normal_more : ℕ
normal_more = 828
