-- Laws of alignment and regions, over any granule: a zero tail is alignment, and two regions are nested or apart.
use Prim.Native.Nat.{ℕ, zero, suc, ◌+◌, ◌*◌, ◌/◌, ◌%◌, ◌^◌, ◌≤◌, ◌<◌}
use Rattle.std.specs.Prelude.{◌≡◌, ◌≢◌, ◌⊎◌, ◌↔◌, replicate}
use Rattle.std.proofs.Math.Path.{refl, ap₂}
use Rattle.std.proofs.Common.{sym, ap, ◌∙◌, inl, inr, mul-le-mul_right, lt_of_mul-lt-mul_right, div-add-mod', mul-div_cancel, mod-lt, arith}
use mathlib.Core.List.{◌∷◌}
use Rattle.std.proofs.Math.Nat.{le_dest, zero-div, div-div-eq-div-mul, mod-le, zero-mod, mul-mod_left, add-mod_right}
use Rattle.std.proofs.Math.Decide.{dec_lt, le_ind}
use Rattle.path.specs.Geometry.{Granule, page_size, size_at}
use Rattle.path.specs.Paths.{index_at, base_at, indices}
use Rattle.path.specs.Laws.{size_pos, size_zero, size_add}
use Rattle.path.specs.PathLaws.{rest_rest, rest_index, index_rest, address_zeros, address_rest}

-- between two multiples of a number there is room for it
pub multiple_gap : (s : ℕ) {a b : ℕ} → a % s ≡ 0 → b % s ≡ 0 → a < b → a + s ≤ b
multiple_gap s {a} {b} e f l =
    let l' : a / s * s < b / s * s = omega (arith, div-add-mod' a s, div-add-mod' b s) in
    omega (arith, div-add-mod' a s, div-add-mod' b s, mul-le-mul_right s (lt_of_mul-lt-mul_right s l'))

-- how the s bytes from a stand to the t bytes from b: within them, before them, or after them
pub data Placed (a s b t : ℕ) : Type 0 where
  nested : b ≤ a → a + s ≤ b + t → Placed a s b t
  lower : a + s ≤ b → Placed a s b t
  higher : b + t ≤ a → Placed a s b t

module _ (G : Granule) where
  -- ---- alignment

  pub aligned_down : {j h : ℕ} → j ≤ h → (a : ℕ) → a % size_at G h ≡ 0 → a % size_at G j ≡ 0
  aligned_down {j} l a e = sym (rest_rest G l a) ∙ ap (λ (x : ℕ). x % size_at G j) e ∙ zero-mod (size_at G j)

  -- where a region starts at a multiple of a size, so does what follows it
  pub end_aligned : {j h : ℕ} → j ≤ h → (a : ℕ) → a % size_at G h ≡ 0 → (a + size_at G h) % size_at G j ≡ 0
  end_aligned {j} {h} l a e = aligned_down l (a + size_at G h) (add-mod_right a (size_at G h) ∙ e)

  -- upstream lemma_aligned_implies_remain_zero
  pub aligned_index : {j h : ℕ} → j < h → (a : ℕ) → a % size_at G h ≡ 0 → index_at G a j ≡ 0
  aligned_index {j} l a e = index_rest G a j ∙ ap (λ (x : ℕ). x / size_at G j) (aligned_down l a e) ∙ zero-div (size_at G j)

  -- upstream lemma_remain_zero_implies_aligned
  pub index_aligned : {j h : ℕ} → j ≤ h → (a : ℕ) → a % size_at G j ≡ 0 → ((i : ℕ) → j ≤ i → i < h → index_at G a i ≡ 0)
      → a % size_at G h ≡ 0
  index_aligned {j} {h} l a e = le_ind Goal (λ f. e) step h l
    where
      Goal : ℕ → Type 0
      Goal m = ((i : ℕ) → j ≤ i → i < m → index_at G a i ≡ 0) → a % size_at G m ≡ 0

      step : (m : ℕ) → j ≤ m → Goal m → Goal (suc m)
      step m l ih f = rw (rest_index G a m, f m l (omega arith), ih (λ i k n. f i k (omega arith))) (omega arith)

  -- an address is a multiple of a size exactly when it is one of the page size and its indices below that height are zero
  pub zero_tail : (a h : ℕ) → (a % size_at G h ≡ 0) ↔ ((a % page_size G ≡ 0) × ((j : ℕ) → j < h → index_at G a j ≡ 0))
  zero_tail a h = (
    λ e. (rw (size_zero G) at (aligned_down {j = 0} (omega arith) a e), λ j l. aligned_index l a e),
    λ f. index_aligned {j = 0} (omega arith) a (rw (size_zero G) f.0) (λ i k l. f.1 i l),
  )

  pub aligned_zeros : (a h : ℕ) → a % size_at G h ≡ 0 → indices G a h ≡ replicate h 0
  unfolding indices
  aligned_zeros a zero e = refl
  aligned_zeros a (suc h) e = ap₂ ◌∷◌ (aligned_index (omega arith) a e) (aligned_zeros a h (aligned_down (omega arith) a e))

  pub zeros_aligned : (a h : ℕ) → a % page_size G ≡ 0 → indices G a h ≡ replicate h 0 → a % size_at G h ≡ 0
  zeros_aligned a h e z = sym (address_rest G a h) ∙ rw (z, address_zeros G h, e) (omega arith)

  -- ---- the region of an address

  pub base_rest : (a h : ℕ) → base_at G a h + a % size_at G h ≡ a
  unfolding base_at
  base_rest a h = omega (arith, mod-le a (size_at G h))

  pub base_is : (a h : ℕ) → base_at G a h ≡ a / size_at G h * size_at G h
  base_is a h = omega (arith, base_rest a h, div-add-mod' a (size_at G h))

  -- upstream lemma_vbase_range_and_alignment
  pub base_le : (a h : ℕ) → base_at G a h ≤ a
  base_le a h = omega (arith, base_rest a h)

  pub base_end : (a h : ℕ) → a < base_at G a h + size_at G h
  base_end a h = omega (arith, base_rest a h, mod-lt a (size_pos G h))

  pub base_aligned : (a h : ℕ) → base_at G a h % size_at G h ≡ 0
  base_aligned a h = rw (base_is a h) (mul-mod_left (a / size_at G h) (size_at G h))

  pub aligned_base : (a h : ℕ) → a % size_at G h ≡ 0 → base_at G a h ≡ a
  aligned_base a h e = omega (arith, base_rest a h)

  -- an address lies in the region that starts at a multiple of its size
  pub base_inside : (b x h : ℕ) → b % size_at G h ≡ 0 → b ≤ x → x < b + size_at G h → base_at G x h ≡ b
  base_inside b x h e l m = go (dec_lt b (base_at G x h)) (dec_lt (base_at G x h) b)
    where
      go : Dec (b < base_at G x h) → Dec (base_at G x h < b) → base_at G x h ≡ b
      go (yes n) d = omega (arith, multiple_gap (size_at G h) e (base_aligned x h) n, base_le x h)
      go (no a) (yes n) = omega (arith, multiple_gap (size_at G h) (base_aligned x h) e n, base_end x h)
      go (no a) (no c) = omega arith

  pub region_base : (a b h : ℕ) → a / size_at G h ≡ b / size_at G h → base_at G a h ≡ base_at G b h
  region_base a b h e = base_is a h ∙ ap (λ (q : ℕ). q * size_at G h) e ∙ sym (base_is b h)

  pub base_region : (a b h : ℕ) → base_at G a h ≡ base_at G b h → a / size_at G h ≡ b / size_at G h
  base_region a b h e = sym (quotient a) ∙ ap (λ (x : ℕ). x / size_at G h) e ∙ quotient b
    where
      quotient : (x : ℕ) → base_at G x h / size_at G h ≡ x / size_at G h
      quotient x = rw (base_is x h) (mul-div_cancel (x / size_at G h) (size_pos G h))

  -- two addresses of one region are of one region of every larger height
  pub region_above : {j h : ℕ} → j ≤ h → (a b : ℕ) → a / size_at G j ≡ b / size_at G j → a / size_at G h ≡ b / size_at G h
  region_above {j} l a b e = let (k, z) = le_dest l in rw (← z, up a k, up b k, e)
    where
      up : (x k : ℕ) → x / size_at G (j + k) ≡ x / size_at G j / 2 ^ (G.index * k)
      up x k = rw (size_add G j k) (sym (div-div-eq-div-mul x (size_at G j) (2 ^ (G.index * k))))

  pub base_above : {j h : ℕ} → j ≤ h → (a b : ℕ) → base_at G a j ≡ base_at G b j → base_at G a h ≡ base_at G b h
  base_above {j} {h} l a b e = region_base a b h (region_above l a b (base_region a b j e))

  pub base_base : {j h : ℕ} → j ≤ h → (a : ℕ) → base_at G (base_at G a j) h ≡ base_at G a h
  base_base {j} l a = base_above l (base_at G a j) a (aligned_base (base_at G a j) j (base_aligned a j))

  -- the regions of one address are nested
  pub base_within : {j h : ℕ} → j ≤ h → (a : ℕ) → (base_at G a h ≤ base_at G a j) × (base_at G a j + size_at G j ≤ base_at G a h + size_at G h)
  base_within {j} {h} l a = (
    omega (arith, base_base l a, base_le (base_at G a j) h),
    multiple_gap (size_at G j) (base_aligned a j) (end_aligned l (base_at G a h) (base_aligned a h)) (omega (arith, base_le a j, base_end a h)),
  )

  -- ---- two regions

  -- two regions of one height share no address
  pub regions_apart : (a b h : ℕ) → a % size_at G h ≡ 0 → b % size_at G h ≡ 0 → a ≢ b → (a + size_at G h ≤ b) ⊎ (b + size_at G h ≤ a)
  regions_apart a b h e f n = go (dec_lt a b) (dec_lt b a)
    where
      go : Dec (a < b) → Dec (b < a) → (a + size_at G h ≤ b) ⊎ (b + size_at G h ≤ a)
      go (yes l) d = inl (multiple_gap (size_at G h) e f l)
      go (no m) (yes l) = inr (multiple_gap (size_at G h) f e l)
      go (no m) (no k) = absurd (n (omega arith))

  -- a region is within one that is as high or higher, or apart from it
  pub nested_or_apart : {j h : ℕ} → j ≤ h → (a b : ℕ) → a % size_at G j ≡ 0 → b % size_at G h ≡ 0 → Placed a (size_at G j) b (size_at G h)
  nested_or_apart {j} {h} l a b e f = go (dec_lt a b) (dec_lt a (b + size_at G h))
    where
      go : Dec (a < b) → Dec (a < b + size_at G h) → Placed a (size_at G j) b (size_at G h)
      go (yes m) d = lower (multiple_gap (size_at G j) e (aligned_down l b f) m)
      go (no m) (yes k) = nested (omega arith) (multiple_gap (size_at G j) e (end_aligned l b f) k)
      go (no m) (no k) = higher (omega arith)
