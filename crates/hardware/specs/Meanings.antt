-- What the walker makes of each value of a field, as the tables of the Arm manual have it (VMSAv8-64 stage 2, MemAttr without HCR_EL2.FWB, XN with
-- FEAT_XNX). Most of these values stand in no word of ours: nothing else would tell a wrong reading of them.
use Rattle.std.specs.Prelude.{ℕ, ◌+◌, ◌-◌, ◌*◌, ◌^◌, ◌≡◌, refl, Bool, true, false}
use Rattle.std.proofs.Math.Option.{Option, some, none}
use Rattle.path.specs.Geometry.{four, sixteen}
use Rattle.hardware.specs.Machine.{Kind, device, normal, Shared, non_shareable, unpredictable, outer_shareable, inner_shareable}
use Rattle.hardware.specs.Machine.{n_gn_rn_e, n_gn_re, n_gre, GRE, reserved, non_cacheable, write_through, write_back}
use Rattle.hardware.specs.Machine.{kind_of, shared_of, mem_high, mem_low, share_bits, Step, fault, hit, next, step_by}
use Rattle.hardware.specs.Machine.{bits, shift, index_bits, address_from, input_end}

-- what a word's fields say, where the word is a page's or a block's
abbrev kind_in : ℕ → Kind
kind_in w = kind_of (mem_high w) (mem_low w)

abbrev shared_in : ℕ → Shared
shared_in w = shared_of (kind_in w) (share_bits w)

-- two permissions
record Allowed : Type 0 where
  pub first : Bool
  pub second : Bool

abbrev allows : Bool → Bool → Allowed
allows a b = record { first = a; second = b }

-- of a page with this word's bits, the access flag and the type: to read and write it, and to run it at EL1 and EL0
abbrev access_of : Step → Allowed
access_of (hit t) = allows t.readable t.writable
access_of fault = allows false false
access_of (next b) = allows false false

abbrev runs_of : Step → Allowed
runs_of (hit t) = allows t.runs_at_el1 t.runs_at_el0
runs_of fault = allows false false
runs_of (next b) = allows false false

abbrev access_in : ℕ → Allowed
access_in w = access_of (step_by four 0 0 (w + 0x403))

abbrev runs_in : ℕ → Allowed
runs_in w = runs_of (step_by four 0 0 (w + 0x403))

-- the address that a page or a block gives
abbrev moved : Step → Option ℕ
moved (hit t) = some t.address
moved fault = none
moved (next b) = none

pub record Meanings : Type 0 where
  -- MemAttr, bits 5:2: Device memory, or how the outer and the inner caches keep Normal memory
  pub memory_0000 : kind_in 0x00 ≡ device n_gn_rn_e
  pub memory_0001 : kind_in 0x04 ≡ device n_gn_re
  pub memory_0010 : kind_in 0x08 ≡ device n_gre
  pub memory_0011 : kind_in 0x0C ≡ device GRE
  pub memory_0100 : kind_in 0x10 ≡ normal non_cacheable reserved
  pub memory_0101 : kind_in 0x14 ≡ normal non_cacheable non_cacheable
  pub memory_0110 : kind_in 0x18 ≡ normal non_cacheable write_through
  pub memory_0111 : kind_in 0x1C ≡ normal non_cacheable write_back
  pub memory_1000 : kind_in 0x20 ≡ normal write_through reserved
  pub memory_1001 : kind_in 0x24 ≡ normal write_through non_cacheable
  pub memory_1010 : kind_in 0x28 ≡ normal write_through write_through
  pub memory_1011 : kind_in 0x2C ≡ normal write_through write_back
  pub memory_1100 : kind_in 0x30 ≡ normal write_back reserved
  pub memory_1101 : kind_in 0x34 ≡ normal write_back non_cacheable
  pub memory_1110 : kind_in 0x38 ≡ normal write_back write_through
  pub memory_1111 : kind_in 0x3C ≡ normal write_back write_back
  -- SH, bits 9:8, of Normal memory that caches keep
  pub share_00 : shared_in 0x03C ≡ non_shareable
  pub share_01 : shared_in 0x13C ≡ unpredictable
  pub share_10 : shared_in 0x23C ≡ outer_shareable
  pub share_11 : shared_in 0x33C ≡ inner_shareable
  -- of Normal memory that no cache keeps, and of Device memory: outer shareable, whatever SH says
  pub uncached_00 : shared_in 0x014 ≡ outer_shareable
  pub uncached_01 : shared_in 0x114 ≡ outer_shareable
  pub uncached_10 : shared_in 0x214 ≡ outer_shareable
  pub uncached_11 : shared_in 0x314 ≡ outer_shareable
  pub device_00 : shared_in 0x000 ≡ outer_shareable
  pub device_01 : shared_in 0x100 ≡ outer_shareable
  pub device_10 : shared_in 0x200 ≡ outer_shareable
  pub device_11 : shared_in 0x300 ≡ outer_shareable
  -- S2AP, bits 7:6: none, read, write, both
  pub access_00 : access_in 0x00 ≡ allows false false
  pub access_01 : access_in 0x40 ≡ allows true false
  pub access_10 : access_in 0x80 ≡ allows false true
  pub access_11 : access_in 0xC0 ≡ allows true true
  -- XN, bits 54:53: what may run at EL1, and at EL0
  pub never_00 : runs_in 0x0000000000000000 ≡ allows true true
  pub never_01 : runs_in 0x0020000000000000 ≡ allows false true
  pub never_10 : runs_in 0x0040000000000000 ≡ allows false false
  pub never_11 : runs_in 0x0060000000000000 ≡ allows true false
  -- bit 10, the access flag: without it a page faults
  pub flag_0 : step_by four 0x1234 0 0x80000003 ≡ fault
  pub flag_1 : moved (step_by four 0x1234 0 0x80000403) ≡ some 0x80000234
  -- bit 0: an invalid word faults; bit 1: at the last level a page, above it a table and not a block
  pub invalid : step_by four 0x1234 0 0x80000402 ≡ fault
  pub no_page : step_by four 0x1234 0 0x80000401 ≡ fault
  pub table : step_by four 0x1234 1 0x80001003 ≡ next 0x80001000
  -- the same with 16 KiB, where bits 13:12 of a word are no address bits
  pub page_16k : moved (step_by sixteen 0x7ABC 0 0x80004403) ≡ some 0x80007ABC
  pub page_16k_low : moved (step_by sixteen 0x7ABC 0 0x80007403) ≡ some 0x80007ABC
  pub no_page_16k : step_by sixteen 0x1234 0 0x80004401 ≡ fault
  pub table_16k : step_by sixteen 0x1234 1 0x80004003 ≡ next 0x80004000
  pub table_16k_low : step_by sixteen 0x1234 2 0x80007003 ≡ next 0x80004000
  -- blocks: of 2 MiB and of 1 GiB, none of 512 GiB; of 32 MiB with 16 KiB pages, none above
  pub block_1 : moved (step_by four 0x201234 1 0x80200401) ≡ some 0x80201234
  pub block_2 : moved (step_by four 0x40001234 2 0x80000401) ≡ some 0x80001234
  pub block_3 : step_by four 0x1234 3 0x401 ≡ fault
  pub block_16k : moved (step_by sixteen 0x2001234 1 0x82000401) ≡ some 0x82001234
  pub no_block_16k : step_by sixteen 0x1234 2 0x401 ≡ fault
  -- the indices of an address: bits 47:39, 38:30, 29:21 and 20:12; with 16 KiB bits 46:36, 35:25 and 24:14
  pub index_4k : (a : ℕ) → (index_bits four a 3 ≡ bits 39 9 a) × (index_bits four a 2 ≡ bits 30 9 a) × (index_bits four a 1 ≡ bits 21 9 a) × (index_bits four a 0 ≡ bits 12 9 a)
  pub index_16k : (a : ℕ) → (index_bits sixteen a 2 ≡ bits 36 11 a) × (index_bits sixteen a 1 ≡ bits 25 11 a) × (index_bits sixteen a 0 ≡ bits 14 11 a)
  -- the address in a word: of a table or a page bits 47:12, of a block bits 47:21 or 47:30; with 16 KiB bits 47:14, and 47:25
  pub address_4k : (w : ℕ) → (address_from four.page w ≡ bits 12 36 w * 2 ^ 12) × (address_from (shift four 1) w ≡ bits 21 27 w * 2 ^ 21) × (address_from (shift four 2) w ≡ bits 30 18 w * 2 ^ 30)
  pub address_16k : (w : ℕ) → (address_from sixteen.page w ≡ bits 14 34 w * 2 ^ 14) × (address_from (shift sixteen 1) w ≡ bits 25 23 w * 2 ^ 25)
  -- where input addresses end, by T0SZ: 25 for three levels, 16 for four; with 16 KiB 17 for three
  pub end_4k : (input_end four 3 ≡ 2 ^ (64 - 25)) × (input_end four 4 ≡ 2 ^ (64 - 16))
  pub end_16k : input_end sixteen 3 ≡ 2 ^ (64 - 17)

pub meanings : Meanings
meanings = record {
  memory_0000 = refl;
  memory_0001 = refl;
  memory_0010 = refl;
  memory_0011 = refl;
  memory_0100 = refl;
  memory_0101 = refl;
  memory_0110 = refl;
  memory_0111 = refl;
  memory_1000 = refl;
  memory_1001 = refl;
  memory_1010 = refl;
  memory_1011 = refl;
  memory_1100 = refl;
  memory_1101 = refl;
  memory_1110 = refl;
  memory_1111 = refl;
  share_00 = refl;
  share_01 = refl;
  share_10 = refl;
  share_11 = refl;
  uncached_00 = refl;
  uncached_01 = refl;
  uncached_10 = refl;
  uncached_11 = refl;
  device_00 = refl;
  device_01 = refl;
  device_10 = refl;
  device_11 = refl;
  access_00 = refl;
  access_01 = refl;
  access_10 = refl;
  access_11 = refl;
  never_00 = refl;
  never_01 = refl;
  never_10 = refl;
  never_11 = refl;
  flag_0 = refl;
  flag_1 = refl;
  invalid = refl;
  no_page = refl;
  table = refl;
  page_16k = refl;
  page_16k_low = refl;
  no_page_16k = refl;
  table_16k = refl;
  table_16k_low = refl;
  block_1 = refl;
  block_2 = refl;
  block_3 = refl;
  block_16k = refl;
  no_block_16k = refl;
  index_4k = λ a. (refl, refl, refl, refl);
  index_16k = λ a. (refl, refl, refl);
  address_4k = λ w. (refl, refl, refl);
  address_16k = λ w. (refl, refl);
  end_4k = (refl, refl);
  end_16k = refl;
}
