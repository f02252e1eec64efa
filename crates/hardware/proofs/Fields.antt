-- What the hardware makes of our entry words, at any height of any sane granule: 0 faults, a frame's word gives what the mapping says, a table's
-- word goes on to the table.
use Rattle.std.specs.Prelude.{ℕ, zero, suc, ◌+◌, ◌-◌, ◌*◌, ◌/◌, ◌%◌, ◌^◌, ◌≤◌, ◌<◌, ◌≡◌, Bool, true, false, cond, eqb}
use Rattle.std.proofs.Math.Path.{refl}
use Rattle.std.proofs.Common.{ap, sym, ◌∙◌, div-add-mod', mul_assoc, add-mul, lt_of_mul-lt-mul_right, arith, pow-add, pow_mono, eq-eqb, ne_eqb, le-leb}
use Rattle.std.proofs.Math.Nat.{mul-le-mul_left}
use Rattle.std.proofs.Math.Arith.{digits_div, digits_mod}
use Rattle.std.proofs.lemmas.Bool.{eqb-false}
use Rattle.path.specs.Geometry.{Granule, Sane, page_size, size_at, physical}
use Rattle.path.specs.Areas.{Area, total, table_at, GoodArea}
use Rattle.path.specs.Laws.{page_pos, table_aligned, table_fits}
use Rattle.entry.specs.Words.{type_at, frame_word, table_word, Framed}
use Rattle.entry.proofs.Laws.{type_le, framed_paged, framed_below, table_low}
use Rattle.model.specs.Answers.{mapping}
use Rattle.hardware.specs.Machine.{valid_bit, table_bit, mem_low, mem_high, read_bit, write_bit, share_bits, access_flag, never_low, never_high}
use Rattle.hardware.specs.Machine.{address_from, shift, output_of, kind_of, shared_of, outer_shareable, inner_shareable, device_kind, normal_kind}
use Rattle.hardware.specs.Machine.{Translation, Step, fault, hit, next, leaf, largest_block, valid, step_by, says_of}

-- ---- addresses in words

-- a number written as hi, a field f below N, and lo below I
field : (I N hi lo : ℕ) {w f : ℕ} → w ≡ (hi * N + f) * I + lo → lo < I → f < N → w / I % N ≡ f
field I N hi lo {f = f} e a b =
    ap (λ (x : ℕ). x / I % N) e ∙ ap (λ (x : ℕ). x % N) (digits_div (hi * N + f) a) ∙ digits_mod hi b

-- bits 47 down to bit s of hi * 2^48 + b + lo, b a multiple of 2^s
output : (s hi b lo : ℕ) {w : ℕ} → s ≤ 48 → b % 2 ^ s ≡ 0 → b < physical → lo < 2 ^ s → w ≡ hi * physical + b + lo → address_from s w ≡ b
output s hi b lo {w} l al lt low e = ap (λ (x : ℕ). x * 2 ^ s) (field (2 ^ s) N hi lo whole low few) ∙ back
  where
    N : ℕ
    N = 2 ^ (48 - s)

    f : ℕ
    f = b / 2 ^ s

    back : f * 2 ^ s ≡ b
    back = omega (arith, div-add-mod' b (2 ^ s))

    all : N * 2 ^ s ≡ physical
    all = sym (pow-add 2 (48 - s) s) ∙ ap (λ (x : ℕ). 2 ^ x) (let e : 48 - s + s ≡ 48 = omega arith in e)

    few : f < N
    few = lt_of_mul-lt-mul_right (2 ^ s) (omega (arith, back, all))

    whole : w ≡ (hi * N + f) * 2 ^ s + lo
    whole =
        let u : hi * N * 2 ^ s ≡ hi * physical = mul_assoc hi N (2 ^ s) ∙ ap (λ (x : ℕ). hi * x) all in
        omega (arith, e, add-mul (hi * N) f (2 ^ s), u, back)

-- ---- the fields of a frame's word

-- its low twelve bits, with the type y, MemAttr m₁ and m₀, S2AP s and r, and SH q; its page number b; its bit 54 n
record Parts (w low b n y m₀ m₁ r s q : ℕ) : Type 0 where
  sum : w ≡ low + 4096 * b + 2 ^ 54 * n
  low_is : low ≡ y + 4 * m₀ + 16 * m₁ + 64 * r + 128 * s + 256 * q + 1024
  y_le : y ≤ 3
  m₀_le : m₀ ≤ 3
  m₁_le : m₁ ≤ 3
  r_le : r ≤ 1
  s_le : s ≤ 1
  q_le : q ≤ 3
  b_lt : b < 2 ^ 36
  n_le : n ≤ 1

module _ {w low b n y m₀ m₁ r s q : ℕ} (p : Parts w low b n y m₀ m₁ r s q) where
  valid_is : valid_bit w ≡ y % 2
  valid_is = omega arith

  table_is : table_bit w ≡ y / 2
  table_is = omega arith

  mem_low_is : mem_low w ≡ m₀
  mem_low_is = omega arith

  mem_high_is : mem_high w ≡ m₁
  mem_high_is = omega arith

  read_is : read_bit w ≡ r
  read_is = omega arith

  write_is : write_bit w ≡ s
  write_is = omega arith

  share_is : share_bits w ≡ q
  share_is = omega arith

  flag_is : access_flag w ≡ 1
  flag_is = omega arith

  never_low_is : never_low w ≡ 0
  never_low_is = omega arith

  never_high_is : never_high w ≡ n
  never_high_is = omega arith

-- ---- what they say

bit_le : (x : ℕ) → x % 2 ≤ 1
bit_le x = omega arith

executes : (e : ℕ) → e ≤ 1 → eqb (1 - e) 0 ≡ eqb e 1
executes zero l = refl
executes (suc zero) l = refl
executes (suc (suc e)) l = absurd (omega arith)

-- the architecture has a block for each height of frames
has_blocks : (G : Granule) → Sane G → (h : ℕ) → h ≤ G.large → h ≤ largest_block G
has_blocks G Z h l = go (eqb G.page 12) refl
  where
    go : (b : Bool) → eqb G.page 12 ≡ b → h ≤ cond b 2 1
    go true e = omega (arith, Z.blocks_low)
    go false e = omega (arith, Z.blocks_large (eqb-false G.page 12 e))

-- MemAttr of our words, d telling whether device is asked for: 1111 or 0000
abbrev high₂ : ℕ → ℕ
high₂ d = 3 - 3 * d

abbrev low₂ : ℕ → ℕ
low₂ d = 3 - 3 * d

kinds : (d : ℕ) → d ≤ 1 → kind_of (high₂ d) (low₂ d) ≡ cond (eqb d 1) device_kind normal_kind
kinds zero l = refl
kinds (suc zero) l = refl
kinds (suc (suc d)) l = absurd (omega arith)

-- and SH: 11 or 00
shares : (d : ℕ) → d ≤ 1 → shared_of (kind_of (high₂ d) (low₂ d)) (3 - 3 * d) ≡ cond (eqb d 1) outer_shareable inner_shareable
shares zero l = refl
shares (suc zero) l = refl
shares (suc (suc d)) l = absurd (omega arith)

-- where an address stands in its region
rest_of : (s a : ℕ) → a - a / s * s ≡ a % s
rest_of s a = omega (arith, div-add-mod' a s)

module _ {G : Granule} (Z : Sane G) {h b k : ℕ} (F : Framed G h b k) (a : ℕ) where
  abbrev w : ℕ
  w = frame_word b h k

  abbrev d : ℕ
  d = k / 8 % 2

  abbrev lo : ℕ
  lo = type_at h + 4 * low₂ d + 16 * high₂ d + 64 * (k % 2) + 128 * (k / 2 % 2) + 256 * (3 - 3 * d) + 1024

  parts : Parts w lo (b / 4096) (1 - k / 4 % 2) (type_at h) (low₂ d) (high₂ d) (k % 2) (k / 2 % 2) (3 - 3 * d)
  unfolding frame_word
  parts = omega (arith, type_le h, framed_paged Z F, framed_below Z F, bit_le (k / 8))

  base_is : address_from (shift G h) w ≡ b
  unfolding frame_word size_at
  base_is = output (shift G h) (64 * (1 - k / 4 % 2)) b lo tall F.aligned (framed_below Z F) low (omega arith)
    where
      tall : shift G h ≤ 48
      tall =
          let l : h ≤ G.most = omega (arith, F.level, Z.large_below, Z.few_most) in
          omega (arith, Z.space_fits, mul-le-mul_left G.index l)

      low : lo < 2 ^ shift G h
      low = omega (arith, type_le h, pow_mono {i = 12} {j = shift G h} (omega (arith, Z.page_least)))

  -- what the mapping of the word's region says
  abbrev said : Translation
  said = says_of a (mapping (a / size_at G h * size_at G h) b (size_at G h) k)

  leaf_frame : leaf G a h w ≡ hit said
  unfolding size_at
  leaf_frame = rw (eq-eqb (access_flag w) 1 (flag_is parts)) (ap {B = Step} (λ (t : Translation). hit t) same)
    where
      there : output_of G a h w ≡ said.address
      there = omega (arith, base_is, rest_of (2 ^ shift G h) a)

      runs : eqb (never_high w) (never_low w) ≡ eqb (k / 4 % 2) 1
      runs = rw (never_high_is parts, never_low_is parts) (executes (k / 4 % 2) (bit_le (k / 4)))

      runs₀ : eqb (never_high w) 0 ≡ eqb (k / 4 % 2) 1
      runs₀ = rw (never_high_is parts) (executes (k / 4 % 2) (bit_le (k / 4)))

      kind : kind_of (mem_high w) (mem_low w) ≡ cond (eqb d 1) device_kind normal_kind
      kind = rw (mem_high_is parts, mem_low_is parts) (kinds d (bit_le (k / 8)))

      shared : shared_of (kind_of (mem_high w) (mem_low w)) (share_bits w) ≡ cond (eqb d 1) outer_shareable inner_shareable
      shared = rw (mem_high_is parts, mem_low_is parts, share_is parts) (shares d (bit_le (k / 8)))

      same : ◌≡◌ {A = Translation} (record {
        address = output_of G a h w;
        readable = eqb (read_bit w) 1;
        writable = eqb (write_bit w) 1;
        runs_at_el1 = eqb (never_high w) (never_low w);
        runs_at_el0 = eqb (never_high w) 0;
        kind = kind_of (mem_high w) (mem_low w);
        shared = shared_of (kind_of (mem_high w) (mem_low w)) (share_bits w);
      }) said
      same = let r = read_is parts in let s = write_is parts in λ i. record {
        address = there i;
        readable = eqb (r i) 1;
        writable = eqb (s i) 1;
        runs_at_el1 = runs i;
        runs_at_el0 = runs₀ i;
        kind = kind i;
        shared = shared i;
      }

  -- a frame's word gives that
  pub step_frame : step_by G a h w ≡ hit said
  unfolding type_at
  step_frame = at h refl F.level leaf_frame
    where
      is_valid : type_at h % 2 ≡ 1 → (j : ℕ) → h ≡ j → valid G a j w ≡ hit said → step_by G a h w ≡ hit said
      is_valid y j e q = rw (eq-eqb (valid_bit w) 1 (valid_is parts ∙ y)) (ap (λ (j : ℕ). valid G a j w) e ∙ q)

      at : (j : ℕ) → h ≡ j → j ≤ G.large → leaf G a j w ≡ hit said → step_by G a h w ≡ hit said
      at zero e l q =
          let y : type_at h ≡ 3 = ap type_at e in
          is_valid (ap (λ (x : ℕ). x % 2) y) zero e (rw (eq-eqb (table_bit w) 1 (table_is parts ∙ ap (λ (x : ℕ). x / 2) y)) q)
      at (suc j) e l q =
          let y : type_at h ≡ 1 = ap type_at e ∙ rw (ne_eqb (suc j) 0 (λ z. omega arith)) in
          let u : table_bit w ≡ 0 = table_is parts ∙ ap (λ (x : ℕ). x / 2) y in
          is_valid (ap (λ (x : ℕ). x % 2) y) (suc j) e (rw (ne_eqb (table_bit w) 1 (λ z. omega (arith, u, z)), le-leb (suc j) (largest_block G) (has_blocks G Z (suc j) l)) q)

-- ---- the other words

pub step_zero : (G : Granule) (a h : ℕ) → step_by G a h 0 ≡ fault
step_zero G a h = refl

-- a table's word goes on to the table
pub step_table : {G : Granule} → Sane G → (area : Area) (a h c : ℕ) → GoodArea G area → 1 ≤ h → c < total area
    → step_by G a h (table_word G area c) ≡ next (table_at G area c)
unfolding table_word
step_table {G} Z area a zero c al high l = absurd (omega arith)
step_table {G} Z area a (suc h) c al high l =
    let low = table_low Z area c al l in
    rw (eq-eqb (valid_bit w) 1 (omega arith), eq-eqb (table_bit w) 1 (omega arith))
    (ap {B = Step} (λ (x : ℕ). next x) (output G.page 0 (table_at G area c) 3 tall paged below few (omega arith)))
  where
    w : ℕ
    w = table_word G area c

    tall : G.page ≤ 48
    tall = omega (arith, Z.space_fits)

    paged : (table_at G area c) % page_size G ≡ 0
    paged = table_aligned G area al c l

    below : table_at G area c < physical
    below = omega (arith, table_fits G area al c l, page_pos G)

    few : 3 < page_size G
    few = omega (arith, pow_mono {i = 12} {j = G.page} Z.page_least)
