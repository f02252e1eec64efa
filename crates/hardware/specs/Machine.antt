-- The machine beside us: what the Arm stage 2 hardware makes of a pool's words, what a ledger says of an address, and the promise that the two
-- agree, at rest and after every single write of every call.
--
-- The hardware's walk is written from the bit fields of the Arm Architecture Reference Manual (VMSAv8-64, stage 2) and uses nothing of our own
-- reading of a word. It is that of a granule (VTCR_EL2.TG0: 4 KiB or 16 KiB) with 48-bit output addresses, the access flag and dirty state not managed by
-- hardware (VTCR_EL2.HA and HD are 0), MemAttr as without HCR_EL2.FWB, XN as with FEAT_XNX (without it bit 53, which our words never set, is not read). What stage 1 makes of an
-- address before, and what it adds to the attributes, is not said.
--
-- Not said either: a contract fixes the lent memory at a call's end, and not in which order the compiled stores are made (the promise holds for any
-- order); a 64-bit store is taken to be seen whole or not at all, and of two stores to one word the later one to stay; and what was read before
-- may be kept by a TLB, or by a walk that is still under way while a later call uses a table again, until the host has it dropped.
use Rattle.std.specs.Prelude.{ℕ, zero, suc, ◌+◌, ◌-◌, ◌*◌, ◌/◌, ◌%◌, ◌^◌, ◌≤◌, ◌<◌, ◌≡◌, ◌⊎◌, Bool, true, false, cond, ◌&&◌, List, [], ◌∷◌, ◌++◌, ltb, leb, eqb, length, get_or, take}
use Rattle.std.proofs.Math.Option.{Option, some, none, map}
use Rattle.path.specs.Geometry.{Granule, entries, height_of}
use Rattle.path.specs.Areas.{Area, area_of, total, table_at}
use Rattle.path.specs.Paths.{path_of}
use Rattle.path.specs.declared.Setup.{Setup}
use Rattle.entry.specs.Words.{frame_word}
use Rattle.model.specs.Answers.{Mapping, mapping, Answer, accepts, tables_in, Pool, Done}
use Rattle.model.specs.Walk.{slot, at_height}
use Rattle.model.specs.Writes.{Write, store, wipe, give, memory, perform_all, map_writes, unmap_writes}
use Rattle.model.specs.Calls.{walk_to, unmap_w}
use Rattle.model.specs.Ranges.{pieces, pages_of, map_piece}
use Rattle.model.specs.Ledger.{Ledger, holds_address, cover_of}
use Rattle.demand.specs.Holds.{Holds}
use Rattle.model.specs.Adds.{lent}
use Rattle.demand.specs.Demand3.{Call, format_c, add_c, map_c, unmap_c, map_range_c, unmap_range_c, ask_c, parts, step_w, step_l, pool_after, ledger_after}

-- ---- the hardware

-- n bits of a word or of an address, from bit i upward
abbrev pub bits : ℕ → ℕ → ℕ → ℕ
bits i n w = w / 2 ^ i % 2 ^ n

-- Device memory: whether accesses are gathered, whether they are reordered, whether writes are acknowledged early
pub data Device : Type 0 where
  n_gn_rn_e : Device
  n_gn_re : Device
  n_gre : Device
  GRE : Device

-- how the caches treat Normal memory
pub data Cached : Type 0 where
  reserved : Cached
  non_cacheable : Cached
  write_through : Cached
  write_back : Cached

pub data Kind : Type 0 where
  device : Device → Kind
  -- in the outer caches, in the inner ones
  normal : Cached → Cached → Kind

pub data Shared : Type 0 where
  non_shareable : Shared
  unpredictable : Shared
  outer_shareable : Shared
  inner_shareable : Shared

-- what an address is translated to
pub record Translation : Type 0 where
  pub address : ℕ
  pub readable : Bool
  pub writable : Bool
  pub runs_at_el1 : Bool
  pub runs_at_el0 : Bool
  pub kind : Kind
  pub shared : Shared

-- MemAttr[1:0] of Device memory
abbrev pub device_of : ℕ → Device
device_of zero = n_gn_rn_e
device_of (suc zero) = n_gn_re
device_of (suc (suc zero)) = n_gre
device_of (suc (suc (suc n))) = GRE

-- MemAttr[3:2] and MemAttr[1:0] of Normal memory
abbrev pub cached_of : ℕ → Cached
cached_of zero = reserved
cached_of (suc zero) = non_cacheable
cached_of (suc (suc zero)) = write_through
cached_of (suc (suc (suc n))) = write_back

-- MemAttr[3:2] and MemAttr[1:0]: it is Device memory where the first is 00
abbrev pub kind_of : ℕ → ℕ → Kind
kind_of zero low = device (device_of low)
kind_of (suc high) low = normal (cached_of (suc high)) (cached_of low)

-- SH
abbrev pub share_of : ℕ → Shared
share_of zero = non_shareable
share_of (suc zero) = unpredictable
share_of (suc (suc zero)) = outer_shareable
share_of (suc (suc (suc n))) = inner_shareable

-- whether caches do not keep it
abbrev pub uncached : Cached → Bool
uncached reserved = false
uncached non_cacheable = true
uncached write_through = false
uncached write_back = false

-- Device memory is outer shareable whatever SH says, and so is Normal memory that neither the outer nor the inner caches keep
abbrev pub shared_of : Kind → ℕ → Shared
shared_of (device d) sh = outer_shareable
shared_of (normal o i) sh = cond (uncached o && uncached i) outer_shareable (share_of sh)

-- what a word makes of a walk: a fault, a translation, or the address of the table to go on to
pub data Step : Type 0 where
  fault : Step
  hit : Translation → Step
  next : ℕ → Step

-- The bit fields of a word w.
-- bit 0: the word is valid
abbrev pub valid_bit : ℕ → ℕ
valid_bit w = bits 0 1 w

-- bit 1: at the last level a page, above it a table and not a block
abbrev pub table_bit : ℕ → ℕ
table_bit w = bits 1 1 w

-- bits 5:2, MemAttr, in two halves
abbrev pub mem_low : ℕ → ℕ
mem_low w = bits 2 2 w

abbrev pub mem_high : ℕ → ℕ
mem_high w = bits 4 2 w

-- bits 7:6, S2AP: it may be read, it may be written
abbrev pub read_bit : ℕ → ℕ
read_bit w = bits 6 1 w

abbrev pub write_bit : ℕ → ℕ
write_bit w = bits 7 1 w

-- bits 9:8, SH
abbrev pub share_bits : ℕ → ℕ
share_bits w = bits 8 2 w

-- bit 10: the access flag
abbrev pub access_flag : ℕ → ℕ
access_flag w = bits 10 1 w

-- bits 54:53, XN: 00 lets both run, 01 EL0 alone, 10 none, 11 EL1 alone
abbrev pub never_low : ℕ → ℕ
never_low w = bits 53 1 w

abbrev pub never_high : ℕ → ℕ
never_high w = bits 54 1 w

-- bits 47 down to bit s: an output address, or a table's
abbrev pub address_from : ℕ → ℕ → ℕ
address_from s w = bits s (48 - s) w * 2 ^ s

-- A word of height h stands for an address's bits from this one upward: with 4 KiB 12, 21, 30 and 39, with 16 KiB 14, 25 and 36. (An entry of the last
-- level, 3, has height 0.)
abbrev pub shift : Granule → ℕ → ℕ
shift G h = G.page + G.index * h

-- the index of address a among the words of height h
abbrev pub index_bits : Granule → ℕ → ℕ → ℕ
index_bits G a h = bits (shift G h) G.index a

-- the translation of address a by a page or block: the frame's address, and a's bits below the height's own
abbrev pub output_of : Granule → ℕ → ℕ → ℕ → ℕ
output_of G a h w = address_from (shift G h) w + a % 2 ^ shift G h

-- a page or a block; without the access flag it faults
abbrev pub leaf : Granule → ℕ → ℕ → ℕ → Step
leaf G a h w =
    cond (eqb (access_flag w) 1)
    (hit (record {
      address = output_of G a h w;
      readable = eqb (read_bit w) 1;
      writable = eqb (write_bit w) 1;
      runs_at_el1 = eqb (never_high w) (never_low w);
      runs_at_el0 = eqb (never_high w) 0;
      kind = kind_of (mem_high w) (mem_low w);
      shared = shared_of (kind_of (mem_high w) (mem_low w)) (share_bits w);
    }))
    fault

-- the greatest height of a block: with pages of 4 KiB that of level 1, 1 GiB; with larger ones that of level 2, 32 MiB for 16 KiB
abbrev pub largest_block : Granule → ℕ
largest_block G = cond (eqb G.page 12) 2 1

-- A valid word. At the last level it is a page or nothing; above it a table, or a block where the architecture has blocks.
abbrev pub valid : Granule → ℕ → ℕ → ℕ → Step
valid G a zero w = cond (eqb (table_bit w) 1) (leaf G a zero w) fault
valid G a (suc h) w =
    cond (eqb (table_bit w) 1) (next (address_from G.page w)) (cond (leb (suc h) (largest_block G)) (leaf G a (suc h) w) fault)

abbrev pub step_by : Granule → ℕ → ℕ → ℕ → Step
step_by G a h w = cond (eqb (valid_bit w) 1) (valid G a h w) fault

abbrev pub on_step : Step → (ℕ → Option Translation) → Option Translation
on_step fault go = none
on_step (hit t) go = some t
on_step (next b) go = go b

-- The walk for address a from the table at address b, whose words have height h; `none` is a fault. `mem h` is the memory, in 64-bit words by
-- their addresses, as it is when the word of height h is read.
unfoldable pub walk : Granule → (ℕ → ℕ → ℕ) → ℕ → ℕ → ℕ → Option Translation
walk G mem a zero b = on_step (step_by G a zero (mem zero (b + 8 * index_bits G a zero))) (λ _. none)
walk G mem a (suc h) b = on_step (step_by G a (suc h) (mem (suc h) (b + 8 * index_bits G a (suc h)))) (λ c. walk G mem a h c)

-- the addresses that so many levels translate are below this: with 4 KiB 2^39 or 2^48 (T0SZ is 25 or 16), with 16 KiB 2^47 (T0SZ is 17)
abbrev pub input_end : Granule → ℕ → ℕ
input_end G levels = 2 ^ shift G levels

-- The translation of address a by a tree of so many levels, its root at address b. Four levels start at level 0, three at level 1. An address past
-- the end faults.
abbrev pub stage2 : Granule → ℕ → ℕ → (ℕ → ℕ → ℕ) → ℕ → Option Translation
stage2 G levels b mem a = cond (ltb a (input_end G levels)) (walk G mem a (levels - 1) b) none

-- in this memory the tables' words stand in their area, eight bytes each; elsewhere anything stands
abbrev pub Stands : Granule → Area → List ℕ → (ℕ → ℕ) → Type 0
Stands G area ws mem = (t i : ℕ) → t < total area → i < entries G → mem (table_at G area t + 8 * i) ≡ get_or ws (slot G t i) 0

-- ---- the ledger

-- the memory that the attribute 8, device, asks for: Device-nGnRnE
abbrev pub device_kind : Kind
device_kind = device n_gn_rn_e

-- and that of other mappings: Normal, write-back
abbrev pub normal_kind : Kind
normal_kind = normal write_back write_back

-- what a mapping says of an address in it: attribute 1 is read, 2 write, 4 execute, 8 device
abbrev pub says_of : ℕ → Mapping → Translation
says_of a m = record {
  address = m.frame + (a - m.at);
  readable = eqb (m.attributes % 2) 1;
  writable = eqb (m.attributes / 2 % 2) 1;
  runs_at_el1 = eqb (m.attributes / 4 % 2) 1;
  runs_at_el0 = eqb (m.attributes / 4 % 2) 1;
  kind = cond (eqb (m.attributes / 8 % 2) 1) device_kind normal_kind;
  shared = cond (eqb (m.attributes / 8 % 2) 1) outer_shareable inner_shareable;
}

-- what live mappings say of an address: what the one that holds it says, and a fault where none does
abbrev pub told : List Mapping → ℕ → Option Translation
told L a = map (says_of a) (cover_of a L)

-- the hardware, set up with a pool's granule, levels and base, translates every address as these mappings say
abbrev pub Reads : Granule → Setup → (ℕ → ℕ → ℕ) → List Mapping → Type 0
Reads G s mem L = (a : ℕ) → stage2 G s.levels s.base mem a ≡ told L a

-- ---- a call's single writes

-- k words from place i on to 0, one after the other
unfoldable pub zeros_from : ℕ → ℕ → List Write
zeros_from i zero = []
zeros_from i (suc k) = store i 0 ∷ zeros_from (suc i) k

-- k free-list places from place i on: k - 1 down to 0
unfoldable pub places_from : ℕ → ℕ → List Write
places_from i zero = []
places_from i (suc k) = give i k ∷ places_from (suc i) k

-- k free-list places from place i on: n + k - 1 down to n
unfoldable pub places_above : ℕ → ℕ → ℕ → List Write
places_above n i zero = []
places_above n i (suc k) = give i (n + k) ∷ places_above n (suc i) k

-- a planned write as single writes: a table is filled with zeros word by word
abbrev pub single : Granule → Write → List Write
single G (store i x) = store i x ∷ []
single G (wipe t) = zeros_from (slot G t 0) (entries G)
single G (give i t) = give i t ∷ []

unfoldable pub singles : Granule → List Write → List Write
singles G [] = []
singles G (w ∷ ws) = single G w ++ singles G ws

-- the single writes of a map that takes t tables, and of an unmap that gives back t
abbrev pub map_plan : Granule → Pool → Mapping → ℕ → List Write
map_plan G p m t =
    let g = height_of G m.size in
    let o = walk_to G p g m.at in
    singles G
    (map_writes G (area_of p.numbers) (path_of G m.at) p.list g (frame_word m.frame g m.attributes) (at_height o.tables o.left) p.numbers.free t)

abbrev pub unmap_plan : Granule → Pool → ℕ → ℕ → List Write
unmap_plan G p a t = let o = walk_to G p 0 a in singles G (unmap_writes G o.tables (path_of G a) o.left p.numbers.free t)

-- those of calls made one after the other, each on what the last one left; one that is refused has none
unfoldable pub plan_each : {A : Type 0} → (Pool → A → Done) → (Pool → A → ℕ → List Write) → Pool → List A → List Write
plan_each call plan p [] = []
plan_each call plan p (x ∷ xs) =
    (let answer = (call p x).answer in cond (accepts answer) (plan p x (tables_in answer)) []) ++ plan_each call plan (call p x).after xs

-- the single writes of an accepted call that takes or gives back t tables; a range's are those of its pieces, or of its pages
abbrev pub plan : Granule → Pool → Call → ℕ → List Write
plan G p (format_c levels area) t = zeros_from 0 (length p.words) ++ places_from 0 (total area)
plan G p (add_c q m second rest) t = zeros_from p.cut (entries G * m) ++ places_above p.numbers.tables p.numbers.free m
plan G p (map_c a b size k) t = map_plan G p (mapping a b size k) t
plan G p (unmap_c a) t = unmap_plan G p a t
plan G p (map_range_c a b len k) t = plan_each (map_piece G) (map_plan G) p (pieces G a b len k)
plan G p (unmap_range_c a len) t = plan_each (unmap_w G) (unmap_plan G) p (pages_of G a len)
plan G p (ask_c q) t = []

-- a refused call writes nothing
abbrev pub writes_of : Granule → Pool → Call → List Write
writes_of G p c = let answer = (step_w G p c).answer in cond (accepts answer) (plan G p c (tables_in answer)) []

-- the memory that a call with this answer writes to: the pool's, and for an add that is accepted also the second run and the longer list that it is lent
abbrev pub written_to : Pool → Call → Answer → Pool
written_to p (format_c levels area) r = p
written_to p (add_c q m second rest) r = cond (accepts r) (lent p second rest) p
written_to p (map_c a b size k) r = p
written_to p (unmap_c a) r = p
written_to p (map_range_c a b len k) r = p
written_to p (unmap_range_c a len) r = p
written_to p (ask_c q) r = p

abbrev pub memory_of : Granule → Pool → Call → Pool
memory_of G p c = written_to p c (step_w G p c).answer

-- the single writes of a sequence of calls
abbrev pub writes_through : Granule → Pool → List Call → List Write
writes_through G p [] = []
writes_through G p (c ∷ cs) = writes_of G p c ++ writes_through G (step_w G p c).after cs

-- the pool's words after these writes
abbrev pub words_after : Granule → Pool → List Write → List ℕ
words_after G p ws = (perform_all G ws (memory p.words p.list)).words

-- the part of a list of writes that has become visible, told write by write; past the end of what is told nothing has
abbrev pub visible : List Bool → List Write → List Write
visible [] ws = []
visible (b ∷ bs) [] = []
visible (true ∷ bs) (w ∷ ws) = w ∷ visible bs ws
visible (false ∷ bs) (w ∷ ws) = visible bs ws

-- ---- the promise

-- single writes ws to the pool p that take its live mappings from L to L'
module _ (G : Granule) (p : Pool) (L L' : List Mapping) (ws : List Write) where
  -- this memory holds the pool's words as they are after some of the writes
  abbrev Shows : List Write → (ℕ → ℕ) → Type 0
  Shows xs mem = Stands G (area_of p.numbers) (words_after G p xs) mem

  -- after each write: up to one of them every address reads as before the call, and from that one on every address reads as after it
  pub record Switch : Type 0 where
    pub at : ℕ
    pub old : (j : ℕ) → j ≤ at → (mem : ℕ → ℕ) → Shows (take j ws) mem → Reads G p.numbers (λ _. mem) L
    pub new : (j : ℕ) → at < j → (mem : ℕ → ℕ) → Shows (take j ws) mem → Reads G p.numbers (λ _. mem) L'

  -- in any order: where any part of the writes has become visible, every address reads as before the call, or every address as after it
  abbrev pub AnyOrder : Type 0
  AnyOrder =
      (seen : List Bool) (mem : ℕ → ℕ) → Shows (visible seen ws) mem → Reads G p.numbers (λ _. mem) L ⊎ Reads G p.numbers (λ _. mem) L'

  -- overtaken: a walk that reads the word of each height at a time of its own, when some part of the writes has become visible (the first j of them
  -- are such a part), gives what its address read before the call, or what it reads after it
  abbrev pub Overtaken : Type 0
  Overtaken =
      (seen : ℕ → List Bool) (mem : ℕ → ℕ → ℕ) → ((h : ℕ) → Shows (visible (seen h) ws) (mem h))
      → (a : ℕ) → let t = stage2 G p.numbers.levels p.numbers.base mem a in (t ≡ told L a) ⊎ (t ≡ told L' a)

-- single writes ws to the pool p, in parts: `live i` are the mappings after the first i of them
pub record InTurn (G : Granule) (p : Pool) (live : ℕ → List Mapping) (ws : List Write) : Type 0 where
  -- so many parts are done after the first j writes, and no part is undone
  pub done : ℕ → ℕ
  pub rises : (i j : ℕ) → i ≤ j → done i ≤ done j
  -- after each write every address reads by the parts that are done: each of them changes what is read at once
  pub reads : (j : ℕ) (mem : ℕ → ℕ) → Stands G (area_of p.numbers) (words_after G p (take j ws)) mem → Reads G p.numbers (λ _. mem) (live (done j))

-- a call whose writes change what is read at once: any but a range, whose parts do so in turn, and format, which clears the words one after the other, so
-- that its addresses fault in turn
abbrev pub AtOnce : Call → Type 0
AtOnce (format_c levels area) = ⊥
AtOnce (add_c q m second rest) = Unit {0}
AtOnce (map_c a b size k) = Unit {0}
AtOnce (unmap_c a) = Unit {0}
AtOnce (map_range_c a b len k) = ⊥
AtOnce (unmap_range_c a len) = ⊥
AtOnce (ask_c q) = Unit {0}

-- a range
abbrev pub Ranged : Call → Type 0
Ranged (format_c levels area) = ⊥
Ranged (add_c q m second rest) = ⊥
Ranged (map_c a b size k) = ⊥
Ranged (unmap_c a) = ⊥
Ranged (map_range_c a b len k) = Unit {0}
Ranged (unmap_range_c a len) = Unit {0}
Ranged (ask_c q) = ⊥

-- whether a mapping, if there is one, holds an address
abbrev pub held_by : ℕ → Option Mapping → Bool
held_by x none = false
held_by x (some m) = holds_address x m

-- whether a call may change what an address reads: map those of its mapping, unmap those of the mapping that holds its address, a range those of the range,
-- format all, add none
abbrev pub concerns : Ledger → Call → ℕ → Bool
concerns A (format_c levels area) x = true
concerns A (add_c q m second rest) x = false
concerns A (map_c a b size k) x = holds_address x (mapping a b size k)
concerns A (unmap_c a) x = held_by x (cover_of a A.live)
concerns A (map_range_c a b len k) x = leb a x && ltb x (a + len)
concerns A (unmap_range_c a len) x = leb a x && ltb x (a + len)
concerns A (ask_c q) x = false

-- the call c on a pool p that holds the ledger A is its parts, one after the other, each on what the last one left: so are its single writes, what it leaves of
-- the pool, and what it leaves of the ledger. Of each part what is promised of a call holds (`Promise`), since the parts before it are calls as well.
pub record OfParts (G : Granule) (p : Pool) (A : Ledger) (c : Call) : Type 0 where
  pub writes : writes_of G p c ≡ writes_through G p (parts G c)
  pub leaves : (step_w G p c).after ≡ pool_after G p (parts G c)
  pub enters : (step_l G A c).after ≡ ledger_after G A (parts G c)

-- the call c on a pool p that holds the ledger A
pub record Machine (G : Granule) (p : Pool) (A : Ledger) (c : Call) : Type 0 where
  -- at rest every address, past the space too, reads as the ledger says
  pub rest : (mem : ℕ → ℕ) → Stands G (area_of p.numbers) p.words mem → Reads G p.numbers (λ _. mem) A.live
  -- the call's single writes, one after the other, are what it does to the lent memory
  pub whole : perform_all G (writes_of G p c) (memory (memory_of G p c).words (memory_of G p c).list) ≡ memory (step_w G p c).after.words (step_w G p c).after.list
  -- after each of them, in whatever order they become visible, and while a walk is under way, the ledger is read, or the one after the call
  pub each_write : AtOnce c → Switch G (memory_of G p c) A.live (step_l G A c).after.live (writes_of G p c)
  pub any_order : AtOnce c → AnyOrder G (memory_of G p c) A.live (step_l G A c).after.live (writes_of G p c)
  pub overtaken : Overtaken G (memory_of G p c) A.live (step_l G A c).after.live (writes_of G p c)
  -- a range that is accepted is its pieces, or its pages; after each write what is read is the ledger after the first so many of them
  pub by_parts : Ranged c → accepts (step_w G p c).answer ≡ true → OfParts G p A c
  pub in_turn : Ranged c → InTurn G p (λ i. (ledger_after G A (take i (parts G c))).live) (writes_of G p c)
  -- and outside the mapping or the range concerned the two ledgers say the same
  pub outside : (x : ℕ) → concerns A c x ≡ false → told (step_l G A c).after.live x ≡ told A.live x

-- for a pool that holds a ledger, as that of a fresh format and every pool that the audit accepts do: after any calls, for any call next
abbrev pub Promise : Granule → Type 0
Promise G = (p : Pool) (A : Ledger) → Holds G p A → (cs : List Call) (c : Call) → Machine G (pool_after G p cs) (ledger_after G A cs) c
