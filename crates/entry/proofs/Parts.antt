-- The numbers inside an entry word: its bounds, and a frame's base and attributes found again in its bits.
use Rattle.std.specs.Prelude.{ℕ, ◌+◌, ◌-◌, ◌*◌, ◌/◌, ◌%◌, ◌^◌, ◌≤◌, ◌<◌, ◌≡◌, Bool, true, false, cond, eqb}
use Rattle.std.proofs.Common.{◌∙◌, arith}
use Rattle.path.specs.Geometry.{Granule, physical}
use Rattle.path.specs.Areas.{Area, total, GoodArea}
use Rattle.path.specs.Laws.{table_fits}
use Rattle.entry.specs.Words.{attr_word, type_at, frame_word, table_word, base_in, attrs_in}
use Rattle.entry.specs.Parts.{device_bits, normal_more}

-- ---- bounds

pub type_le : (h : ℕ) → type_at h ≤ 3
unfolding type_at
type_le h = go (eqb h 0)
  where
    go : (t : Bool) → cond t 3 1 ≤ 3
    go true = omega arith
    go false = omega arith

pub attr_word_le : (a : ℕ) → attr_word a ≤ 2 ^ 54 + 2044
attr_word_le a = omega arith

pub attr_word_ge : (a : ℕ) → 1024 ≤ attr_word a
attr_word_ge a = omega arith

pub frame_word_ge : (b h a : ℕ) → 1024 ≤ frame_word b h a
unfolding frame_word
frame_word_ge b h a = omega arith

pub frame_word_lt : (b h a : ℕ) → b < physical → frame_word b h a < 2 ^ 64
unfolding frame_word
frame_word_lt b h a l = omega (arith, type_le h)

pub table_word_ge : (G : Granule) (area : Area) (c : ℕ) → 3 ≤ table_word G area c
unfolding table_word
table_word_ge G area c = omega arith

pub table_word_lt : (G : Granule) (area : Area) (c : ℕ) → GoodArea G area → c < total area → table_word G area c < 2 ^ 64
unfolding table_word
table_word_lt G area c placed l = omega (arith, table_fits G area placed c l)

pub attrs_lt : (w : ℕ) → attrs_in w < 16
attrs_lt w = omega arith

pub attr_of_bits : (x y z : ℕ) → x < 4 → y < 2 → z < 2 → device_bits + x * 64 + z * normal_more + y * 2 ^ 54 ≡ attr_word (x + (1 - y) * 4 + (1 - z) * 8)
attr_of_bits x y z hx hy hz =
    let a = x + (1 - y) * 4 + (1 - z) * 8 in
    let p : a / 8 % 2 ≡ 1 - z = omega arith in
    let q : a / 4 % 2 ≡ 1 - y = omega arith in
    let r : 64 * (a % 2) + 128 * (a / 2 % 2) ≡ 64 * x = omega arith in
    let s : 1 - (1 - y) ≡ y = omega arith in
    rw (p, q, s) (omega arith)

-- ---- a word taken apart

-- the page number q, bits 7:6 x, the other low bits 64 * u + v, and bit 54 e
record Parts (w q x u v e : ℕ) : Type 0 where
  sum : w ≡ 4096 * q + 64 * x + 64 * u + v + e * 2 ^ 54
  q_lt : q < 2 ^ 36
  x_lt : x < 4
  u_four : u % 4 ≡ 0
  u_lt : u < 48
  v_lt : v < 64
  e_lt : e < 2

module _ {w q x u v e : ℕ} (p : Parts w q x u v e) where
  low : w % 4096 ≡ 64 * x + 64 * u + v
  low = omega arith

  wide : w % 2 ^ 48 ≡ 4096 * q + 64 * x + 64 * u + v
  wide = omega arith

  bits76 : w / 2 ^ 6 % 4 ≡ x
  bits76 = omega arith

  bit5 : w / 2 ^ 5 % 2 ≡ v / 32
  bit5 = omega arith

  bit54 : w / 2 ^ 54 % 2 ≡ e
  bit54 = omega arith

  base_parts : base_in w ≡ 4096 * q
  base_parts = rw (wide, low) (omega arith)

  attrs_parts : attrs_in w ≡ x + (1 - e) * 4 + (1 - v / 32) * 8
  attrs_parts = rw (bits76, bit54, bit5)

-- a frame's word: a base, a multiple of 4096 below 2^48, and attributes
module _ (b h a : ℕ) (below : b < physical) (paged : b % 4096 ≡ 0) (few : a < 16) where
  abbrev normal : ℕ
  normal = 1 - a / 8 % 2

  abbrev inert : ℕ
  inert = 1 - a / 4 % 2

  parts : Parts (frame_word b h a) (b / 4096) (a % 4) (16 + 12 * normal) (type_at h + 60 * normal) inert
  unfolding frame_word
  parts = omega (arith, type_le h)

  -- the low twelve bits are not 3, which those of a table's word are
  pub low_of : frame_word b h a % 4096 ≡ 3 → ⊥
  low_of e = omega (arith, low parts)

  pub base_of_lem : base_in (frame_word b h a) ≡ b
  base_of_lem = base_parts parts ∙ omega arith

  pub attrs_of_lem : attrs_in (frame_word b h a) ≡ a
  attrs_of_lem =
      let five : (type_at h + 60 * normal) / 32 ≡ normal = omega (arith, type_le h) in
      let execute : 1 - inert ≡ a / 4 % 2 = omega arith in
      let device : 1 - normal ≡ a / 8 % 2 = omega arith in
      attrs_parts parts ∙ rw (five, execute, device) (omega arith)
