-- Addresses and their indices.
use Rattle.std.specs.Prelude.{ℕ, zero, suc, ◌+◌, ◌-◌, ◌*◌, ◌/◌, ◌%◌, ◌<◌, ◌≡◌, List, [], ◌∷◌, ◌++◌, length, get_or, replicate}
use Rattle.path.specs.Geometry.{Granule, entries, size_at}

-- the index of an address among the entries of height h: with 4 KiB bits 20:12, 29:21, 38:30 and 47:39 for the heights 0 to 3
unfoldable pub index_at : Granule → ℕ → ℕ → ℕ
index_at G a h = a / size_at G h % entries G

-- the first address of the region of height h that holds an address
unfoldable pub base_at : Granule → ℕ → ℕ → ℕ
base_at G a h = a - a % size_at G h

-- the indices of an address for the heights below n, top first
unfoldable pub indices : Granule → ℕ → ℕ → List ℕ
indices G a zero = []
indices G a (suc h) = index_at G a h ∷ indices G a h

-- the path of an address: four places, the index for height h at place 3 - h
unfoldable pub path_of : Granule → ℕ → List ℕ
path_of G a = indices G a 4

-- the address whose indices a path holds
unfoldable pub address_of : Granule → List ℕ → ℕ
address_of G [] = 0
address_of G (i ∷ p) = i * size_at G (length p) + address_of G p

-- the first address of the region of height h whose path begins with the places p: the rest are zero
abbrev pub start_of : Granule → List ℕ → ℕ → ℕ
start_of G p h = address_of G (p ++ replicate h 0)

-- a path of n places, each the index of an entry
pub record IsPath (G : Granule) (n : ℕ) (p : List ℕ) : Type 0 where
  pub places : length p ≡ n
  pub below : (k : ℕ) → k < n → get_or p k 0 < entries G

-- one path stands before another where, at the first place at which they differ, it has the smaller index
pub data Before : List ℕ → List ℕ → Type 0 where
  here : {i j : ℕ} {p q : List ℕ} → i < j → Before (i ∷ p) (j ∷ q)
  there : {i : ℕ} {p q : List ℕ} → Before p q → Before (i ∷ p) (i ∷ q)
