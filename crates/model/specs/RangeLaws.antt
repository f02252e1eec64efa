-- What the laws of proofs/RangeLaws.antt speak of.
use Prim.Native.Nat.{ℕ, ◌+◌, ◌-◌, ◌%◌, ◌≤◌, ◌<◌}
use Rattle.std.specs.Prelude.{◌≡◌}
use mathlib.Core.List.{List, [], ◌∷◌, Memᴰ}
use Rattle.path.specs.Geometry.{Granule, page_size, size_at, physical, space_of}
use Rattle.path.specs.Areas as areas
use Rattle.path.specs.Areas.{Area, meets_area}
use Rattle.model.specs.Answers.{Mapping, mapping}
use Rattle.model.specs.Ranges.{longest}

-- a length that refusal 2 lets pass
pub record FineLength (G : Granule) (len : ℕ) : Type 0 where
  pub some_bytes : 0 < len
  pub not_longer : len ≤ longest
  pub whole_pages : len % page_size G ≡ 0

-- a range to be mapped that no test refuses
pub record FineRange (G : Granule) (levels : ℕ) (area : Area) (a b len k : ℕ) : Type 0 where
  pub long : FineLength G len
  pub some_attributes : k < 16
  pub in_space : a + len ≤ space_of G levels
  pub in_physical : b + len ≤ physical
  pub address_aligned : a % page_size G ≡ 0
  pub frame_aligned : b % page_size G ≡ 0
  pub outside : ¬ areas.Shares G area b len

-- a range to be unmapped that no test refuses
pub record FineUnmap (G : Granule) (levels a len : ℕ) : Type 0 where
  pub long : FineLength G len
  pub in_space : a + len ≤ space_of G levels
  pub address_aligned : a % page_size G ≡ 0

-- the size of height h divides both addresses and fits what is left
pub record Fits (G : Granule) (a b left h : ℕ) : Type 0 where
  pub level : h ≤ G.large
  pub small : size_at G h ≤ left
  pub address : a % size_at G h ≡ 0
  pub frame : b % size_at G h ≡ 0

-- mappings that stand one after the other from a and b on over so many bytes, each as large as it can be
pub data Tiles (G : Granule) (k : ℕ) : ℕ → ℕ → ℕ → List Mapping → Type 0 where
  over : {a b : ℕ} → Tiles G k a b 0 []
  piece : {a b left h : ℕ} {ms : List Mapping}
      → Fits G a b left h
      → ((j : ℕ) → Fits G a b left j → j ≤ h)
      → Tiles G k (a + size_at G h) (b + size_at G h) (left - size_at G h) ms
      → Tiles G k a b left (mapping a b (size_at G h) k ∷ ms)

-- no mapping lies across x
abbrev pub Clear : ℕ → List Mapping → Type 0
Clear x L = (m : Mapping) → Memᴰ m L → m.at < x → m.at + m.size ≤ x
