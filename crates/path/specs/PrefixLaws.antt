-- Laws of prefixes, over any granule and any number of levels: a prefix is a region.
use Prim.Native.Nat.{ℕ, zero, suc, ◌+◌, ◌/◌, ◌%◌, ◌≤◌, ◌<◌}
use Rattle.std.specs.Prelude.{◌≡◌, ◌↔◌, take}
use Rattle.std.proofs.Math.Path.{refl, ap}
use Rattle.std.proofs.Common.{sym, ap₂, ◌∙◌, mod-eq_of_lt, zero-add, suc-add, arith, length-take-le, get_or-take}
use mathlib.Core.List.{List, ◌∷◌, ◌++◌}
use Rattle.std.proofs.Math.Nat.{div-eq_of_lt}
use Rattle.std.proofs.Math.Decide.{le_ind}
use Rattle.path.specs.Geometry.{Granule, page_size, entries, size_at}
use Rattle.path.specs.Paths.{index_at, base_at, indices, address_of, start_of, IsPath}
use Rattle.path.specs.Laws.{size_zero}
use Rattle.path.specs.PathLaws.{region_index, same_indices, indices_same, indices_length, indices_path, address_rest, address_append}
use Rattle.path.specs.RegionLaws.{base_rest, aligned_base, region_base, base_region, region_above}

module _ (G : Granule) where
  -- ---- a prefix by its indices

  -- two addresses have the same indices at the heights from h to n - 1
  abbrev pub Agree : ℕ → ℕ → ℕ → ℕ → Type 0
  Agree a b h n = (j : ℕ) → h ≤ j → j < n → index_at G a j ≡ index_at G b j

  pub region_indices : {h j : ℕ} → h ≤ j → (a b : ℕ) → a / size_at G h ≡ b / size_at G h → index_at G a j ≡ index_at G b j
  unfolding index_at
  region_indices l a b e = ap (λ (q : ℕ). q % entries G) (region_above G l a b e)

  pub indices_region : {h n : ℕ} → h ≤ n → (a b : ℕ) → a / size_at G n ≡ b / size_at G n → Agree a b h n → a / size_at G h ≡ b / size_at G h
  indices_region {h} {n} l a b = le_ind Goal (λ e f. e) step n l
    where
      Goal : ℕ → Type 0
      Goal m = a / size_at G m ≡ b / size_at G m → Agree a b h m → a / size_at G h ≡ b / size_at G h

      step : (m : ℕ) → h ≤ m → Goal m → Goal (suc m)
      step m l ih e f =
          ih (region_index G a m ∙ rw (e, f m l (omega arith)) (sym (region_index G b m))) (λ j k i. f j k (omega arith))

  -- two addresses of the space have the same indices from a height up exactly when one region of that height holds both
  pub prefix_region : (a b : ℕ) {h n : ℕ} → h ≤ n → a < size_at G n → b < size_at G n → Agree a b h n ↔ (a / size_at G h ≡ b / size_at G h)
  prefix_region a b l la lb = (
    λ f. indices_region l a b (div-eq_of_lt la ∙ sym (div-eq_of_lt lb)) f,
    λ e j k i. region_indices k a b e,
  )

  pub prefix_base : (a b : ℕ) {h n : ℕ} → h ≤ n → a < size_at G n → b < size_at G n → Agree a b h n ↔ (base_at G a h ≡ base_at G b h)
  prefix_base a b {h} l la lb = (
    λ f. region_base G a b h ((prefix_region a b l la lb).0 f),
    λ e. (prefix_region a b l la lb).1 (base_region G a b h e),
  )

  -- ---- a prefix by the first places of a path

  -- a path is its first places and the path of the smaller height
  pub indices_split : (a k h : ℕ) → indices G a (k + h) ≡ take k (indices G a (k + h)) ++ indices G a h
  unfolding indices
  indices_split a zero h = ap (λ (n : ℕ). indices G a n) (zero-add h)
  indices_split a (suc k) h = rw (suc-add k h) (ap (λ (p : List ℕ). index_at G a (k + h) ∷ p) (indices_split a k h))

  pub prefix_path : (a k h : ℕ) → IsPath G k (take k (indices G a (k + h)))
  prefix_path a k h = record {
    places = length-take-le k (indices G a (k + h)) (omega (arith, indices_length G a (k + h)));
    below = λ i l. rw (get_or-take k (indices G a (k + h)) i 0 l) ((indices_path G a (k + h)).below i (omega arith));
  }

  prefix_rest : (a k h : ℕ) → start_of G (take k (indices G a (k + h))) h + a % size_at G h ≡ a % size_at G (k + h)
  prefix_rest a k h = omega (arith, sum, address_rest G a (k + h), address_rest G a h)
    where
      top : List ℕ
      top = take k (indices G a (k + h))

      sum : address_of G (indices G a (k + h)) ≡ start_of G top h + address_of G (indices G a h)
      sum = ap (address_of G) (indices_split a k h) ∙ rw (indices_length G a h) at (address_append G top (indices G a h))

  -- with base-le and base-end: upstream lemma_vaddr_within_path_range and lemma_vaddr_within_prefix_range
  pub prefix_start : (a k h : ℕ) → a < size_at G (k + h) → start_of G (take k (indices G a (k + h))) h ≡ base_at G a h
  prefix_start a k h l = omega (arith, prefix_rest a k h, mod-eq_of_lt l, base_rest G a h)

  -- upstream lemma_to_vaddr_inverts_from_vaddr: the first k places of an address that is a multiple of the region's size lead back to it
  pub prefix_exact : (a k h : ℕ) → a < size_at G (k + h) → a % size_at G h ≡ 0 → start_of G (take k (indices G a (k + h))) h ≡ a
  prefix_exact a k h l e = prefix_start a k h l ∙ aligned_base G a h e

  first_same : (a b k h : ℕ) → a / size_at G h ≡ b / size_at G h → take k (indices G a (k + h)) ≡ take k (indices G b (k + h))
  unfolding indices
  first_same a b zero h e = refl
  first_same a b (suc k) h e = rw (suc-add k h) (ap₂ ◌∷◌ (region_indices (omega arith) a b e) (first_same a b k h e))

  -- two addresses of the space have the same first places exactly when one region holds both
  pub prefix_same : (a b k h : ℕ) → a < size_at G (k + h) → b < size_at G (k + h)
      → (take k (indices G a (k + h)) ≡ take k (indices G b (k + h))) ↔ (a / size_at G h ≡ b / size_at G h)
  prefix_same a b k h la lb = (
    λ e. base_region G a b h (sym (prefix_start a k h la) ∙ ap (λ (p : List ℕ). start_of G p h) e ∙ prefix_start b k h lb),
    first_same a b k h,
  )

  -- two addresses of the space have the same path exactly when one page holds both
  pub path_page : (a b n : ℕ) → a < size_at G n → b < size_at G n
      → (indices G a n ≡ indices G b n) ↔ (a / page_size G ≡ b / page_size G)
  path_page a b n la lb = (
    λ e. rw (size_zero G) at ((prefix_region a b {h = 0} {n = n} (omega arith) la lb).0 (λ j k l. same_indices G n a b e l)),
    λ e. indices_same G n a b (λ h l. region_indices {h = 0} (omega arith) a b (rw (size_zero G) e)),
  )
