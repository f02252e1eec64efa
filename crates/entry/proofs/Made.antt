-- What the code adds up is the word of the definitions.
use Prim.Native.Nat.{ℕ, ◌+◌, ◌-◌, ◌*◌, ◌/◌, ◌%◌, ◌^◌, ◌≤◌, ◌<◌}
use mathlib.Core.Path.{◌≡◌, refl, sym, ◌∙◌}
use native.Mathlib.Omega.{arith}
use Rattle.entry.specs.Words.{attr_word, base_in, attrs_in, type_at, frame_word}
use Rattle.entry.proofs.Parts.{attr_of_bits}
use Rattle.entry.specs.Parts.{device_bits, normal_more}
use Rattle.entry.proofs.Laws.{type_le}

-- a frame's word from its three parts
pub sum_word : (b h a k m : ℕ) → k ≡ type_at h → m ≡ attr_word a → b + k + m ≡ frame_word b h a
unfolding frame_word
sum_word b h a k m p q = rw (p, q)

-- the type that the code has
pub type_known : (h k : ℕ) → k ≡ type_at h → k ≤ 3
type_known h k e = omega (arith, type_le h)

-- ---- a word without its base, bits 7:6 and bit 54

abbrev pub rest_of : ℕ → ℕ
rest_of w = w - base_in w - w / 64 % 4 * 64 - w / 2 ^ 54 % 2 * 2 ^ 54

pub base_fits : (w : ℕ) → base_in w + w % 4096 + w / 2 ^ 48 * 2 ^ 48 ≡ w
base_fits w = omega arith

pub rest_fits : (w : ℕ) → (w / 64 % 4 * 64 ≤ w - base_in w) × (w / 2 ^ 54 % 2 * 2 ^ 54 ≤ w - base_in w - w / 64 % 4 * 64)
rest_fits w = fit (base_in w) (w % 4096) (w / 2 ^ 48 * 2 ^ 48) (w / 64 % 4 * 64) (w / 2 ^ 54 % 2 * 2 ^ 54) (base_fits w) (omega arith) (omega arith)
  where
    fit : (b low high x y : ℕ) → b + low + high ≡ w → x ≤ low → y ≤ high → (x ≤ w - b) × (y ≤ w - b - x)
    fit b low high x y e l m = (omega arith, omega arith)

-- the word is their sum
parts_sum : (w : ℕ) → w ≡ base_in w + w / 64 % 4 * 64 + w / 2 ^ 54 % 2 * 2 ^ 54 + rest_of w
parts_sum w = sum (base_in w) (w / 64 % 4 * 64) (w / 2 ^ 54 % 2 * 2 ^ 54) (base_fits w) (rest_fits w)
  where
    sum : (b x y : ℕ) → b + w % 4096 + w / 2 ^ 48 * 2 ^ 48 ≡ w → (x ≤ w - b) × (y ≤ w - b - x) → w ≡ b + x + y + (w - b - x - y)
    sum b x y e f = omega arith

-- bit 5 is left in the rest
rest_bit : (w : ℕ) → w / 32 % 2 ≡ rest_of w / 32 % 2
rest_bit w = bit (base_in w) (w % 2 ^ 48 / 4096) (w / 64 % 4) (w / 2 ^ 54 % 2) (rest_of w) (omega arith) (parts_sum w)
  where
    bit : (b q x y r : ℕ) → b ≡ 4096 * q → w ≡ b + x * 64 + y * 2 ^ 54 + r → w / 32 % 2 ≡ r / 32 % 2
    bit b q x y r e s = omega arith

-- the word of its own base and attributes, by the rest: the type, and the bits of device or of normal memory
own_word : (w h : ℕ) → frame_word (base_in w) h (attrs_in w) ≡ base_in w + type_at h + (device_bits + w / 64 % 4 * 64 + w / 32 % 2 * normal_more + w / 2 ^ 54 % 2 * 2 ^ 54)
own_word w h =
    sym (sum_word (base_in w) h (attrs_in w) _ _ refl (attr_of_bits (w / 64 % 4) (w / 2 ^ 54 % 2) (w / 32 % 2) (omega arith) (omega arith) (omega arith)))

pub frame_rest : (w h : ℕ) → rest_of w ≡ type_at h + device_bits + w / 32 % 2 * normal_more → w ≡ frame_word (base_in w) h (attrs_in w)
frame_rest w h e = join (base_in w) (w / 64 % 4 * 64) (w / 2 ^ 54 % 2 * 2 ^ 54) (w / 32 % 2 * normal_more) (type_at h) (rest_of w) (parts_sum w) e ∙ sym (own_word w h)
  where
    join : (b x y z t r : ℕ) → w ≡ b + x + y + r → r ≡ t + device_bits + z → w ≡ b + t + (device_bits + x + z + y)
    join b x y z t r s e = omega arith

pub rest_frame : (w h : ℕ) → w ≡ frame_word (base_in w) h (attrs_in w) → rest_of w ≡ type_at h + device_bits + w / 32 % 2 * normal_more
rest_frame w h e = part (base_in w) (w / 64 % 4 * 64) (w / 2 ^ 54 % 2 * 2 ^ 54) (w / 32 % 2 * normal_more) (type_at h) (rest_of w) (parts_sum w) (e ∙ own_word w h)
  where
    part : (b x y z t r : ℕ) → w ≡ b + x + y + r → w ≡ b + t + (device_bits + x + z + y) → r ≡ t + device_bits + z
    part b x y z t r s e = omega arith

module _ (w h : ℕ) {k : ℕ} (e : k ≡ type_at h) where
  pub normal_frame : rest_of w ≡ device_bits + normal_more + k → w ≡ frame_word (base_in w) h (attrs_in w)
  normal_frame r = frame_rest w h (of (rest_of w) (w / 32 % 2) (rest_bit w) r)
    where
      of : (x z : ℕ) → z ≡ x / 32 % 2 → x ≡ device_bits + normal_more + k → x ≡ type_at h + device_bits + z * normal_more
      of x z b r = omega (arith, type_le h)

  pub device_frame : rest_of w ≡ device_bits + k → w ≡ frame_word (base_in w) h (attrs_in w)
  device_frame r = frame_rest w h (of (rest_of w) (w / 32 % 2) (rest_bit w) r)
    where
      of : (x z : ℕ) → z ≡ x / 32 % 2 → x ≡ device_bits + k → x ≡ type_at h + device_bits + z * normal_more
      of x z b r = omega (arith, type_le h)

  pub device_else : (rest_of w ≡ device_bits + normal_more + k → ⊥) → w ≡ frame_word (base_in w) h (attrs_in w) → rest_of w ≡ device_bits + k
  device_else n f = of (rest_of w) (w / 32 % 2) (omega arith) n (rest_frame w h f)
    where
      of : (x z : ℕ) → z < 2 → (x ≡ device_bits + normal_more + k → ⊥) → x ≡ type_at h + device_bits + z * normal_more → x ≡ device_bits + k
      of x z l n r = omega arith
