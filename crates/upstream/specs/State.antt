-- pt_trait.rs, definitions. The state is a ledger: its mappings, when it is well-formed, and what map, unmap and query may do to it.
use Rattle.std.specs.Prelude.{◌≡◌, ◌≢◌, ◌⊎◌, ◌↔◌, ℕ, ◌+◌, ◌-◌, ◌%◌, ◌≤◌, ◌<◌}
use mathlib.Core.List.{[], Memᴰ}
use Rattle.path.specs.Geometry.{Granule, page_size, size_at, space_of, physical}
use Rattle.model.specs.Answers.{Mapping, Answer, took, gave, found, refused}
use Rattle.model.specs.Sound.{OffTables}
use Rattle.model.specs.Ledger.{Ledger, tables_lacking, free_tables, hole_of, hole_at}

-- `contains_pair`: m is a mapping of the state
abbrev pub Has : Ledger → Mapping → Type 0
Has A m = Memᴰ m A.live

-- `contains_key`: a mapping starts at address a
abbrev pub StartsAt : Ledger → ℕ → Type 0
StartsAt A a = (m : Mapping) × Has A m × (m.at ≡ a)

-- `overlap`: the s bytes from a on and the t bytes from b on share one
abbrev pub Overlap : ℕ → ℕ → ℕ → ℕ → Type 0
Overlap a s b t = (a < b + t) × (b < a + s)

-- `within`: m holds the address a
abbrev pub Within : ℕ → Mapping → Type 0
Within a m = (m.at ≤ a) × (a < m.at + m.size)

-- `overlaps_vmem`: some mapping shares a byte with the range
abbrev pub OverlapsVmem : Ledger → ℕ → ℕ → Type 0
OverlapsVmem A a size = (m : Mapping) × Has A m × Overlap m.at m.size a size

-- `has_mapping_for`: some mapping holds the address
abbrev pub HasMappingFor : Ledger → ℕ → Type 0
HasMappingFor A a = (m : Mapping) × Has A m × Within a m

-- two states with the same mappings, in whatever order
abbrev pub SameMappings : Ledger → Ledger → Type 0
SameMappings A B = (k : Mapping) → Has B k ↔ Has A k

-- `is_valid_frame_size`: some frame has the size
abbrev pub FrameSize : Granule → ℕ → Type 0
FrameSize G size = (h : ℕ) × (h ≤ G.large) × (size_at G h ≡ size)

-- what `wf` asks of each mapping and `map_pre` of a new one
pub record Valid (G : Granule) (levels : ℕ) (m : Mapping) : Type 0 where
  pub sized : FrameSize G m.size
  pub in_space : m.at < space_of G levels
  pub aligned : m.at % m.size ≡ 0
  pub frame_aligned : m.frame % m.size ≡ 0

-- and what refusals 3 and 4 ask besides: attributes 0 to 15, a frame that ends at 2^48 or below
pub record Mappable (G : Granule) (levels : ℕ) (m : Mapping) : Type 0 where
  pub valid : Valid G levels m
  pub few : m.attributes < 16
  pub fits : m.frame + m.size ≤ physical

-- `map_pre`: what map asks of a new mapping, all of that and, by refusal 11, a frame that shares no byte with the tables
pub record MapPre (G : Granule) (A : Ledger) (m : Mapping) : Type 0 where
  pub mappable : Mappable G A.levels m
  pub outside : OffTables G A.area m

-- `wf`: each mapping is valid, and two that share a byte are one
pub record Wf (G : Granule) (A : Ledger) : Type 0 where
  pub each : (m : Mapping) → Has A m → Mappable G A.levels m
  pub apart : (m k : Mapping) → Has A m → Has A k → Overlap m.at m.size k.at k.size → m ≡ k

-- `init`: no mapping
abbrev pub Init : Ledger → Type 0
Init A = A.live ≡ []

-- the constants stay
abbrev pub SameConstants : Ledger → Ledger → Type 0
SameConstants A B = (B.levels ≡ A.levels) × (B.area ≡ A.area)

-- `map`: from A, the mapping m, to B, with answer r
pub record Maps (G : Granule) (A B : Ledger) (m : Mapping) (r : Answer) : Type 0 where
  pub constants : SameConstants A B
  -- an overlap: an error, and the mappings stay
  pub overlap : OverlapsVmem A m.at m.size → (r ≡ refused 6) × SameMappings A B
  -- more new tables needed than are free, which upstream's tree does not know: an error, and the mappings stay
  pub lacks : (OverlapsVmem A m.at m.size → ⊥) → free_tables G A < tables_lacking G A.levels A.live m → (r ≡ refused 7) × SameMappings A B
  -- else it succeeds, and the mapping is inserted
  pub inserts :
      (OverlapsVmem A m.at m.size → ⊥)
      → tables_lacking G A.levels A.live m ≤ free_tables G A
      → (r ≡ took (tables_lacking G A.levels A.live m)) × ((k : Mapping) → Has B k ↔ ((k ≡ m) ⊎ Has A k))

-- `unmap_pre`
pub record UnmapPre (G : Granule) (A : Ledger) (a : ℕ) : Type 0 where
  pub in_space : a < space_of G A.levels
  pub aligned : a % page_size G ≡ 0

-- `unmap`: from A, the address a, to B, with answer r
pub record Unmaps (G : Granule) (A B : Ledger) (a : ℕ) (r : Answer) : Type 0 where
  pub constants : SameConstants A B
  -- a mapping at the address: it succeeds, and the mapping is removed; the tables given back are those that the rest does not need
  pub removes :
      (m : Mapping)
      → Has A m
      → m.at ≡ a
      → (r ≡ gave m.frame m.size m.attributes (free_tables G B - free_tables G A)) × ((k : Mapping) → Has B k ↔ (Has A k × (k.at ≢ a)))
  -- none: an error, and the mappings stay; 10 where some mapping holds the address, else 9 and the hole
  pub inside : (StartsAt A a → ⊥) → HasMappingFor A a → (r ≡ refused 10) × SameMappings A B
  pub nothing : (HasMappingFor A a → ⊥) → (r ≡ hole_at (hole_of G A a)) × SameMappings A B

-- `query`: of A, the address a, with answer r
pub record Queries (G : Granule) (A : Ledger) (a : ℕ) (r : Answer) : Type 0 where
  pub finds : (m : Mapping) → Has A m → Within a m → r ≡ found m
  pub nothing : (HasMappingFor A a → ⊥) → r ≡ hole_at (hole_of G A a)
