-- The hardware's walk, computed: over the pool of document 01's cases 1 to 4, and one device page more; and over a page and a block of 16 KiB's.
use Rattle.std.specs.Prelude.{ℕ, ◌-◌, ◌/◌, ◌≡◌, refl, true, false, cond, List, [], leb, length, get_or}
use Rattle.std.proofs.Math.Option.{Option, some, none}
use Rattle.path.specs.Geometry.{four, sixteen}
use Rattle.model.specs.Cases.{Both, format, map, format_at, map_as}
use Rattle.model.specs.Ledger.{cover_of}
use Rattle.demand.specs.Demand3.{map_c, unmap_c}
use Rattle.hardware.specs.Machine.{Translation, walk, stage2, zeros_from, singles, writes_of, concerns}
use Rattle.hardware.specs.Machine.{n_gn_rn_e, write_back, device, normal, outer_shareable, inner_shareable}

-- the cases, and a device page beside them
abbrev pages : Both
pages = map (map (map (format 3) 0 0x80000000 4096 3) 0x1000 0x80001000 4096 5) 0x200000 0x80200000 0x200000 3

abbrev all : Both
all = map pages 0x3000 0x9000000 4096 11

-- a memory with these words from 0x40000000 on, and zeros elsewhere
abbrev memory_of : List ℕ → ℕ → ℕ
memory_of ws p = cond (leb 0x40000000 p) (get_or ws ((p - 0x40000000) / 8) 0) 0

abbrev translated : ℕ → Option Translation
translated a = stage2 four 3 0x40000000 (λ _. memory_of all.pool.after.words) a

-- with 16 KiB a page, and 32 MiB beside it
abbrev large : Both
large = map_as sixteen (map_as sixteen (format_at sixteen 3 0x40000000 3) 0 0x80000000 0x4000 5) 0x2000000 0x82000000 0x2000000 11

abbrev translated16 : ℕ → Option Translation
translated16 a = stage2 sixteen 3 0x40000000 (λ _. memory_of large.pool.after.words) a

pub record Examples : Type 0 where
  -- in a page that may be read and run
  pub page : translated 0x1ABC ≡ some (record {
    address = 0x80001ABC;
    readable = true;
    writable = false;
    runs_at_el1 = true;
    runs_at_el0 = true;
    kind = normal write_back write_back;
    shared = inner_shareable;
  })
  -- in a block of 2 MiB that may be read and written
  pub block : translated 0x201234 ≡ some (record {
    address = 0x80201234;
    readable = true;
    writable = true;
    runs_at_el1 = false;
    runs_at_el0 = false;
    kind = normal write_back write_back;
    shared = inner_shareable;
  })
  -- in a device page
  pub radio : translated 0x3008 ≡ some (record {
    address = 0x9000008;
    readable = true;
    writable = true;
    runs_at_el1 = false;
    runs_at_el0 = false;
    kind = device n_gn_rn_e;
    shared = outer_shareable;
  })
  -- where nothing is mapped, and past the space
  pub hole : translated 0x2000 ≡ none
  pub past : translated 0x8000000000 ≡ none
  -- the single writes of case 2: two tables wiped and linked, and the frame's word
  pub writes : length (writes_of four (format 3).pool.after (map_c 0 0x80000000 4096 3)) ≡ 1027
  -- a refused call has none: case 5
  pub refused : writes_of four all.pool.after (map_c 0x201000 0x80000000 4096 3) ≡ []
  -- what an unmap may change: what its mapping's addresses read
  pub concerned : concerns all.ledger.after (unmap_c 0x200000) 0x201234 ≡ true
  pub unconcerned : concerns all.ledger.after (unmap_c 0x200000) 0x1234 ≡ false
  -- 16 KiB: in the page, in the block, where nothing is mapped, and past the space
  pub page_16k : translated16 0x3ABC ≡ some (record {
    address = 0x80003ABC;
    readable = true;
    writable = false;
    runs_at_el1 = true;
    runs_at_el0 = true;
    kind = normal write_back write_back;
    shared = inner_shareable;
  })
  pub block_16k : translated16 0x3FFFFFF ≡ some (record {
    address = 0x83FFFFFF;
    readable = true;
    writable = true;
    runs_at_el1 = false;
    runs_at_el0 = false;
    kind = device n_gn_rn_e;
    shared = outer_shareable;
  })
  pub hole_16k : translated16 0x4000 ≡ none
  pub root_16k : translated16 0x1000000000 ≡ none
  pub past_16k : translated16 0x800000000000 ≡ none

pub examples : Examples
unfolding format_at map_as walk zeros_from singles cover_of
examples = record {
  page = refl;
  block = refl;
  radio = refl;
  hole = refl;
  past = refl;
  writes = refl;
  refused = refl;
  concerned = refl;
  unconcerned = refl;
  page_16k = refl;
  block_16k = refl;
  hole_16k = refl;
  root_16k = refl;
  past_16k = refl;
}
