-- Isolation: what a guest can reach through its tables, after any calls and in the middle of any of them. A guest reads and writes where its addresses
-- are translated to, by the hardware's walk of Machine, and nowhere else. So it can neither read nor change its own tables; and of two guests whose
-- frames the host keeps apart, neither reaches the tables or the frames of the other.
--
-- Its tables are those of both regions. While an add is under way, the new tables are not yet a part of the pool, and no guest reaches them either.
--
-- In the middle of a call: any part of its single writes has become visible, in whatever order, and a walk reads the word of each level at a time of its
-- own. At rest, and after the first so many writes, is the same with nothing visible, and with those. What Machine leaves unsaid is unsaid here too: what
-- a TLB kept, or a walk that is still under way while a later call uses a table again, is the host's to have dropped.
use Rattle.std.specs.Prelude.{ℕ, ◌+◌, ◌≤◌, ◌<◌, ◌≡◌, ◌⊎◌, Bool, take}
use mathlib.Core.List.{List, Memᴰ}
use Rattle.std.proofs.Math.Option.{some}
use Rattle.path.specs.Geometry.{Granule}
use Rattle.path.specs.Areas.{area_of, InArea}
use Rattle.path.specs.declared.Setup.{Setup}
use Rattle.model.specs.Answers.{Mapping, Pool}
use Rattle.model.specs.Sound.{OffTables}
use Rattle.model.specs.Ledger.{Ledger}
use Rattle.demand.specs.Holds.{Holds}
use Rattle.demand.specs.Demand3.{Call, format_c, add_c, map_c, unmap_c, map_range_c, unmap_range_c, ask_c, step_w, step_l, pool_after, ledger_after}
use Rattle.hardware.specs.Machine.{Translation, stage2, Stands, writes_of, memory_of, words_after, visible}

-- the guest of a pool reaches the byte x: some address is translated to it
pub record Reaches (G : Granule) (s : Setup) (mem : ℕ → ℕ → ℕ) (x : ℕ) : Type 0 where
  pub address : ℕ
  pub translation : Translation
  pub translates : stage2 G s.levels s.base mem address ≡ some translation
  pub to : translation.address ≡ x

-- the call c on the pool p is under way: when a walk reads the word of height h, the memory `mem h` holds the pool's words with some part of the call's
-- single writes made, and for an add those of the second run that it is lent. (A question writes nothing: while one is under way, the pool is at rest.)
pub record During (G : Granule) (p : Pool) (c : Call) (mem : ℕ → ℕ → ℕ) : Type 0 where
  pub seen : ℕ → List Bool
  pub shows : (h : ℕ) → Stands G (area_of p.numbers) (words_after G (memory_of G p c) (visible (seen h) (writes_of G p c))) (mem h)

-- ---- its own tables

-- none of the bytes that the guest of p reaches is one of its tables
abbrev pub OffOwn : Granule → Pool → (ℕ → ℕ → ℕ) → Type 0
OffOwn G p mem = (x : ℕ) → Reaches G p.numbers mem x → ¬ InArea G (area_of p.numbers) x

-- nor one of the tables that its pool has after the call c
abbrev pub OffLater : Granule → Pool → Call → (ℕ → ℕ → ℕ) → Type 0
OffLater G p c mem = (x : ℕ) → Reaches G p.numbers mem x → ¬ InArea G (area_of (step_w G p c).after.numbers) x

-- any call but format
abbrev pub KeepsTables : Call → Type 0
KeepsTables (format_c levels area) = ⊥
KeepsTables (add_c q m second rest) = Unit {0}
KeepsTables (map_c a b size k) = Unit {0}
KeepsTables (unmap_c a) = Unit {0}
KeepsTables (map_range_c a b len k) = Unit {0}
KeepsTables (unmap_range_c a len) = Unit {0}
KeepsTables (ask_c q) = Unit {0}

pub record Sealed (G : Granule) (p : Pool) (c : Call) : Type 0 where
  -- at rest
  pub rest : (mem : ℕ → ℕ) → Stands G (area_of p.numbers) p.words mem → OffOwn G p (λ _. mem)
  -- after each single write of the call
  pub each_write : (j : ℕ) (mem : ℕ → ℕ) → Stands G (area_of p.numbers) (words_after G (memory_of G p c) (take j (writes_of G p c))) mem → OffOwn G p (λ _. mem)
  -- in whatever order they become visible, and while a walk is under way
  pub during : (mem : ℕ → ℕ → ℕ) → During G p c mem → OffOwn G p mem
  -- and so of the tables after the call, an add's new ones among them. (A format is the host's to make where no mapping is in use: it may place tables on
  -- frames of the mappings that it drops.)
  pub later : KeepsTables c → (mem : ℕ → ℕ → ℕ) → During G p c mem → OffLater G p c mem

-- ---- two guests

-- a mapping that is live before the call c or after it
abbrev pub Held : Granule → Ledger → Call → Mapping → Type 0
Held G A c m = Memᴰ m A.live ⊎ Memᴰ m (step_l G A c).after.live

-- x is a byte of a mapping's frame
abbrev pub InFrame : Mapping → ℕ → Type 0
InFrame m x = (m.frame ≤ x) × (x < m.frame + m.size)

-- a mapping's frame shares no byte with the tables before the call d or after it
abbrev pub OffBoth : Granule → Ledger → Call → Mapping → Type 0
OffBoth G B d m = OffTables G B.area m × OffTables G (step_l G B d).after.area m

-- what the host sees to, where the call c is made on a pool of granule G with the ledger A while d is made on one of granule K with the ledger B. That a
-- frame shares no byte with its own pool's tables is not asked: refusal 11 sees to it.
pub record KeptApart (G : Granule) (A : Ledger) (c : Call) (K : Granule) (B : Ledger) (d : Call) : Type 0 where
  -- no frame of either shares a byte with the other's tables
  pub first_tables : (m : Mapping) → Held G A c m → OffBoth K B d m
  pub second_tables : (m : Mapping) → Held K B d m → OffBoth G A c m
  -- and none with a frame of the other
  pub frames : (m k : Mapping) → Held G A c m → Held K B d k → (x : ℕ) → InFrame m x → ¬ InFrame k x

-- none of the bytes that the guest of p reaches is one of the tables of q before d or after it, or of a frame that the guest of q has before or after it
pub record OffOther (G : Granule) (p : Pool) (K : Granule) (q : Pool) (B : Ledger) (d : Call) (mem : ℕ → ℕ → ℕ) : Type 0 where
  pub tables : (x : ℕ) → Reaches G p.numbers mem x → ¬ InArea K (area_of q.numbers) x
  pub later_tables : (x : ℕ) → Reaches G p.numbers mem x → ¬ InArea K (area_of (step_w K q d).after.numbers) x
  pub frames : (x : ℕ) → Reaches G p.numbers mem x → (k : Mapping) → Held K B d k → ¬ InFrame k x

-- calls under way on both
pub record Apart (G : Granule) (p : Pool) (A : Ledger) (c : Call) (K : Granule) (q : Pool) (B : Ledger) (d : Call) : Type 0 where
  pub first : (mem : ℕ → ℕ → ℕ) → During G p c mem → OffOther G p K q B d mem
  pub second : (mem : ℕ → ℕ → ℕ) → During K q d mem → OffOther K q G p A c mem

-- ---- the promise

-- for pools that hold ledgers, as that of a fresh format and every pool that the audit accepts do: after any calls, for any call next. Two guests may have
-- tables of the same granule, or of two.
pub record Isolation (G K : Granule) : Type 0 where
  pub own_tables : (p : Pool) (A : Ledger) → Holds G p A → (cs : List Call) (c : Call) → Sealed G (pool_after G p cs) c
  pub two_guests : (p q : Pool) (A B : Ledger) → Holds G p A → Holds K q B → (cs ds : List Call) (c d : Call)
      → KeptApart G (ledger_after G A cs) c K (ledger_after K B ds) d
      → Apart G (pool_after G p cs) (ledger_after G A cs) c K (pool_after K q ds) (ledger_after K B ds) d
