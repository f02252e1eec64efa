-- Where a pool's tables stand.
use Rattle.std.specs.Prelude.{ℕ, ◌+◌, ◌-◌, ◌*◌, ◌%◌, ◌≤◌, ◌<◌, ◌≡◌, ◌⊎◌, Bool, cond, ◌&&◌, ◌||◌, ltb}
use Rattle.path.specs.Geometry.{Granule, page_size, physical}
use Rattle.path.specs.declared.Setup.{Setup}

-- so many tables, one after the other from an address on, and so many more from a second address on; where there is no second region both are 0
pub record Area : Type 0 where
  pub base : ℕ
  pub tables : ℕ
  pub base₂ : ℕ
  pub tables₂ : ℕ

abbrev pub area_at : ℕ → ℕ → ℕ → ℕ → Area
area_at b n q m = record { base = b; tables = n; base₂ = q; tables₂ = m }

-- one region alone
abbrev pub one_region : ℕ → ℕ → Area
one_region b n = area_at b n 0 0

-- an area's first region, with this for its second
abbrev pub with_second : Area → ℕ → ℕ → Area
with_second area q m = area_at area.base area.tables q m

-- the tables of a pool with these setup numbers
abbrev pub area_of : Setup → Area
area_of s = area_at s.base s.tables s.base2 s.tables2

-- how many tables there are: their numbers are those below it
abbrev pub total : Area → ℕ
total area = area.tables + area.tables₂

-- the address of table t: numbers below n are in the first region, the others in the second
unfoldable pub table_at : Granule → Area → ℕ → ℕ
table_at G area t =
    cond (ltb t area.tables) (area.base + page_size G * t) (area.base₂ + page_size G * (t - area.tables))

-- In each region tables stand at multiples of their size, and none ends past 2^48. The regions do not overlap: one ends where the other starts, or
-- before it. Where there is no second one, its address is 0.
pub record GoodArea (G : Granule) (area : Area) : Type 0 where
  pub aligned : area.base % page_size G ≡ 0
  pub fits : area.base + page_size G * area.tables ≤ physical
  pub aligned₂ : area.base₂ % page_size G ≡ 0
  pub fits₂ : area.base₂ + page_size G * area.tables₂ ≤ physical
  pub apart : (area.base + page_size G * area.tables ≤ area.base₂) ⊎ (area.base₂ + page_size G * area.tables₂ ≤ area.base)
  pub no_second : area.tables₂ ≡ 0 → area.base₂ ≡ 0

-- address x is that of a byte of the n tables from b on
abbrev pub InRegion : Granule → ℕ → ℕ → ℕ → Type 0
InRegion G b n x = (b ≤ x) × (x < b + page_size G * n)

-- address x is that of a byte of the tables
abbrev pub InArea : Granule → Area → ℕ → Type 0
InArea G area x = InRegion G area.base area.tables x ⊎ InRegion G area.base₂ area.tables₂ x

-- the size bytes from b on share a byte with the tables
pub record Shares (G : Granule) (area : Area) (b size : ℕ) : Type 0 where
  pub byte : ℕ
  pub starts : b ≤ byte
  pub ends : byte < b + size
  pub inside : InArea G area byte

-- The same, computed; Laws says that the two agree. For one region: neither is empty, and each starts before the other ends, where an end is the first
-- address past it.
unfoldable pub meets_region : Granule → ℕ → ℕ → ℕ → ℕ → Bool
meets_region G base n b size = (ltb 0 size && ltb 0 n) && (ltb b (base + page_size G * n) && ltb base (b + size))

-- and for both
unfoldable pub meets_area : Granule → Area → ℕ → ℕ → Bool
meets_area G area b size =
    meets_region G area.base area.tables b size || meets_region G area.base₂ area.tables₂ b size
