-- Laws of indices, paths and addresses, over any granule and any number of levels.
use Prim.Native.Nat.{ℕ, zero, suc, ◌+◌, ◌-◌, ◌*◌, ◌/◌, ◌%◌, ◌≤◌, ◌<◌}
use Rattle.std.specs.Prelude.{◌≡◌, replicate}
use Rattle.std.proofs.Math.Path.{refl, ap, ap₂}
use Rattle.std.proofs.Common.{sym, ◌∙◌, add-zero, le_refl, le_of_suc-le-suc, lt_of_lt_of_le, div-add-mod', mod-eq_of_lt, length-append}
use mathlib.Core.List.{List, [], ◌∷◌, ◌++◌, append-nil, append_assoc}
use Rattle.std.proofs.Math.Nat.{zero-add, suc-add, sub_self, suc-sub-suc, mul-le-mul_right, div-eq_of_lt, div-div-eq-div-mul, mod-lt, zero-mod, mod-mod, mul-add-mod_self_right, mod-mod_of_dvd, mod-eq-zero_of_dvd, dvd_of_mod-eq-zero, dvd-add, dvd-mul_left_of_dvd}
use Rattle.std.proofs.Math.Decide.{ℕ_discrete}
use native.Mathlib.Omega.{arith}
use Rattle.std.proofs.Math.Arith.{digits_div, mod-mul}
use Rattle.std.proofs.Math.ListN.{length, get_or}
use Rattle.std.proofs.lemmas.List.{length-replicate}
use Rattle.path.specs.Geometry.{Granule, page_size, entries, size_at}
use Rattle.path.specs.Paths.{index_at, indices, path_of, address_of, start_of, IsPath}
use Rattle.path.specs.Laws.{page_pos, entries_pos, size_pos, size_zero, size_suc, size_suc', size_le, size_divides}

module _ (G : Granule) where
  -- ---- one index

  pub index_below : (a h : ℕ) → index_at G a h < entries G
  unfolding index_at
  index_below a h = mod-lt (a / size_at G h) (entries_pos G)

  -- the region of one height more is the region's parent
  pub region_up : (a h : ℕ) → a / size_at G (suc h) ≡ a / size_at G h / entries G
  region_up a h = ap (λ (s : ℕ). a / s) (size_suc' G h) ∙ sym (div-div-eq-div-mul a (size_at G h) (entries G))

  -- a region is its parent and its index there
  pub region_index : (a h : ℕ) → a / size_at G h ≡ a / size_at G (suc h) * entries G + index_at G a h
  unfolding index_at
  region_index a h = rw (region_up a h) (sym (div-add-mod' (a / size_at G h) (entries G)))

  -- upstream lemma_mod_div_mod_mul_eq: a place within a region is an index and a place within the smaller region
  pub rest_index : (a h : ℕ) → a % size_at G (suc h) ≡ index_at G a h * size_at G h + a % size_at G h
  unfolding index_at
  rest_index a h = rw (size_suc G h) (mod-mul a (entries_pos G) (size_pos G h))

  -- so the index is read from the place within the larger region
  pub index_rest : (a h : ℕ) → index_at G a h ≡ a % size_at G (suc h) / size_at G h
  index_rest a h = rw (rest_index a h) (sym (digits_div (index_at G a h) (mod-lt a (size_pos G h))))

  pub rest_rest : {j h : ℕ} → j ≤ h → (a : ℕ) → a % size_at G h % size_at G j ≡ a % size_at G j
  rest_rest {j} {h} l a = mod-mod_of_dvd (size_at G j) a (dvd_of_mod-eq-zero (size_at G j) {n = size_at G h} (size_divides G l))

  pub rest_same : {j h : ℕ} → j ≤ h → (a b : ℕ) → a % size_at G h ≡ b % size_at G h → a % size_at G j ≡ b % size_at G j
  rest_same {j} l a b e = sym (rest_rest l a) ∙ ap (λ (x : ℕ). x % size_at G j) e ∙ rest_rest l b

  -- an index depends on the place within any region that is larger
  pub index_same : {h n : ℕ} → h < n → (a b : ℕ) → a % size_at G n ≡ b % size_at G n → index_at G a h ≡ index_at G b h
  index_same {h} l a b e = index_rest a h ∙ ap (λ (x : ℕ). x / size_at G h) (rest_same l a b e) ∙ sym (index_rest b h)

  -- above the space every index is zero
  pub index_above : {n h : ℕ} → n ≤ h → (a : ℕ) → a < size_at G n → index_at G a h ≡ 0
  unfolding index_at
  index_above {n} {h} l a m = rw (div-eq_of_lt (lt_of_lt_of_le m (size_le G l))) (zero-mod (entries G))

  -- ---- the list of indices

  -- upstream lemma_from_vaddr_step
  pub indices_suc : (a n : ℕ) → indices G a (suc n) ≡ index_at G a n ∷ indices G a n
  unfolding indices
  indices_suc a n = refl

  pub indices_length : (a n : ℕ) → length (indices G a n) ≡ n
  unfolding indices
  indices_length a zero = refl
  indices_length a (suc n) = ap suc (indices_length a n)

  indices_below : (a n k : ℕ) → k < n → get_or (indices G a n) k 0 < entries G
  unfolding indices
  indices_below a zero k l = omega arith
  indices_below a (suc n) zero l = index_below a n
  indices_below a (suc n) (suc k) l = indices_below a n k (le_of_suc-le-suc l)

  -- upstream lemma_from_vaddr_yields_valid_path
  pub indices_path : (a n : ℕ) → IsPath G n (indices G a n)
  indices_path a n = record { places = indices_length a n; below = indices_below a n }

  pub path_of_path : (a : ℕ) → IsPath G 4 (path_of G a)
  unfolding path_of
  path_of_path a = indices_path a 4

  -- the index for height h stands at place n - 1 - h
  pub indices_at : (a n : ℕ) {h : ℕ} → h < n → get_or (indices G a n) (n - suc h) 0 ≡ index_at G a h
  unfolding indices
  indices_at a zero l = omega arith
  indices_at a (suc n) {h} l = go (ℕ_discrete h n) (λ l. indices_at a n l)
    where
      go : Dec (h ≡ n) → (h < n → get_or (indices G a n) (n - suc h) 0 ≡ index_at G a h) → get_or (indices G a (suc n)) (suc n - suc h) 0 ≡ index_at G a h
      go (yes e) f = rw (e, sub_self (suc n))
      go (no m) f = let e : suc n - suc h ≡ suc (n - suc h) = omega arith in rw e (f (omega arith))

  pub path_of_at : (a : ℕ) {h : ℕ} → h < 4 → get_or (path_of G a) (3 - h) 0 ≡ index_at G a h
  unfolding path_of
  path_of_at a {h} l = rw (← suc-sub-suc 3 h) (indices_at a 4 l)

  pub indices_same : (n a b : ℕ) → ((h : ℕ) → h < n → index_at G a h ≡ index_at G b h) → indices G a n ≡ indices G b n
  unfolding indices
  indices_same zero a b f = refl
  indices_same (suc n) a b f = ap₂ ◌∷◌ (f n (omega arith)) (indices_same n a b (λ h l. f h (omega arith)))

  pub same_indices : (n a b : ℕ) → indices G a n ≡ indices G b n → {h : ℕ} → h < n → index_at G a h ≡ index_at G b h
  same_indices n a b e {h} l = sym (indices_at a n l) ∙ ap (λ (p : List ℕ). get_or p (n - suc h) 0) e ∙ indices_at b n l

  -- the indices of an address past the space are those of its low bits
  pub indices_rest : (a n : ℕ) → indices G (a % size_at G n) n ≡ indices G a n
  indices_rest a n = indices_same n (a % size_at G n) a (λ h l. index_same l (a % size_at G n) a (mod-mod a (size_at G n)))

  -- ---- from an address to its path, and back

  pub address_rest : (a n : ℕ) → address_of G (indices G a n) + a % page_size G ≡ a % size_at G n
  unfolding indices address_of
  address_rest a zero = rw (size_zero G) (zero-add (a % page_size G))
  address_rest a (suc n) = rw (indices_length a n, rest_index a n) (omega (arith, address_rest a n))

  -- upstream lemma_to_vaddr_inverts_from_vaddr_aux
  pub indices_back : (a n : ℕ) → a < size_at G n → address_of G (indices G a n) ≡ a - a % page_size G
  indices_back a n l = omega (arith, address_rest a n, mod-eq_of_lt l)

  -- upstream lemma_to_vaddr_inverts_from_vaddr
  pub indices_exact : (a n : ℕ) → a < size_at G n → a % page_size G ≡ 0 → address_of G (indices G a n) ≡ a
  indices_exact a n l e = omega (arith, address_rest a n, mod-eq_of_lt l)

  -- ---- the first address of a prefix

  pub address_zeros : (h : ℕ) → address_of G (replicate h 0) ≡ 0
  unfolding address_of
  address_zeros zero = refl
  address_zeros (suc h) = omega (arith, address_zeros h)

  pub padded_length : (p : List ℕ) (h : ℕ) → length (p ++ replicate h 0) ≡ length p + h
  padded_length p h = length-append p (replicate h 0) ∙ ap (λ (k : ℕ). length p + k) (length-replicate h 0)

  -- upstream lemma_to_vaddr_frame_alignment
  pub prefix_aligned : (p : List ℕ) (h : ℕ) → start_of G p h % size_at G h ≡ 0
  unfolding address_of
  prefix_aligned [] h = rw (address_zeros h) (zero-mod (size_at G h))
  prefix_aligned (i ∷ p) h =
      mod-eq-zero_of_dvd (size_at G h)
      (dvd-add (size_at G h)
      (dvd-mul_left_of_dvd (size_at G h) (dvd_of_mod-eq-zero (size_at G h) (size_divides G (omega (arith, padded_length p h)))) i)
      (dvd_of_mod-eq-zero (size_at G h) (prefix_aligned p h)))

  pub path_head : {n i : ℕ} {p : List ℕ} → IsPath G n (i ∷ p) → i < entries G
  path_head P = P.below 0 (omega (arith, P.places))

  pub path_tail : {n i : ℕ} {p : List ℕ} → IsPath G n (i ∷ p) → IsPath G (length p) p
  path_tail P = record { places = refl; below = λ k l. P.below (suc k) (omega (arith, P.places)) }

  room : {n : ℕ} (p : List ℕ) (h : ℕ) → IsPath G n p → start_of G p h + size_at G h ≤ size_at G (length p + h)
  unfolding address_of
  room [] h P = rw (address_zeros h, zero-add h, zero-add (size_at G h)) (le_refl (size_at G h))
  room (i ∷ p) h P =
      rw (padded_length p h, suc-add (length p) h, size_suc G (length p + h))
      (omega (arith, room p h (path_tail P), mul-le-mul_right (size_at G (length p + h)) (path_head P)))

  -- upstream lemma_to_vaddr_within_vspace_size: the region of a prefix ends within the space
  pub prefix_room : {n : ℕ} {p : List ℕ} → IsPath G n p → (h : ℕ) → start_of G p h + size_at G h ≤ size_at G (n + h)
  prefix_room {p = p} P h = rw (← P.places) (room p h P)

  -- what stands after a prefix adds its own address
  pub address_append : (p t : List ℕ) → address_of G (p ++ t) ≡ start_of G p (length t) + address_of G t
  unfolding address_of
  address_append [] t = rw (address_zeros (length t)) (sym (zero-add (address_of G t)))
  address_append (i ∷ p) t = rw (length-append p t, padded_length p (length t)) (omega (arith, address_append p t))

  -- upstream lemma_to_vaddr_lower_bound
  pub prefix_lower : (p t : List ℕ) → start_of G p (length t) ≤ address_of G (p ++ t)
  prefix_lower p t = omega (arith, address_append p t)

  -- upstream lemma_to_vaddr_upper_bound: the region of a longer prefix ends within that of a shorter one
  pub prefix_upper : (p : List ℕ) {n : ℕ} {t : List ℕ} → IsPath G n t → (h : ℕ)
      → start_of G (p ++ t) h + size_at G h ≤ start_of G p (n + h) + size_at G (n + h)
  prefix_upper p {n} {t} P h =
      let e : length (t ++ replicate h 0) ≡ n + h = padded_length t h ∙ ap (λ (m : ℕ). m + h) P.places in
      rw append_assoc (omega (arith, prefix_room P h, rw e at (address_append p (t ++ replicate h 0))))

  zero_at : (h k : ℕ) → get_or (replicate h 0) k 0 < entries G
  zero_at zero k = entries_pos G
  zero_at (suc h) zero = entries_pos G
  zero_at (suc h) (suc k) = zero_at h k

  padded_below : {n : ℕ} (p : List ℕ) (h : ℕ) → IsPath G n p → (k : ℕ) → get_or (p ++ replicate h 0) k 0 < entries G
  padded_below [] h P k = zero_at h k
  padded_below (i ∷ p) h P zero = path_head P
  padded_below (i ∷ p) h P (suc k) = padded_below p h (path_tail P) k

  pub padded_path : {n : ℕ} {p : List ℕ} → IsPath G n p → (h : ℕ) → IsPath G (n + h) (p ++ replicate h 0)
  padded_path {p = p} P h = record {
    places = padded_length p h ∙ ap (λ (m : ℕ). m + h) P.places;
    below = λ k l. padded_below p h P k;
  }

  -- ---- from a path to its address, and back

  pub address_page : (p : List ℕ) → address_of G p % page_size G ≡ 0
  address_page p = rw (append-nil p, size_zero G) at (prefix_aligned p 0)

  -- the page of a path ends within the space
  pub address_room : {n : ℕ} {p : List ℕ} → IsPath G n p → address_of G p + page_size G ≤ size_at G n
  address_room {n} {p} P = rw (append-nil p, size_zero G, add-zero n) at (prefix_room P 0)

  pub address_below : {n : ℕ} {p : List ℕ} → IsPath G n p → address_of G p < size_at G n
  address_below P = omega (arith, address_room P, page_pos G)

  back : {n : ℕ} (p : List ℕ) → IsPath G n p → indices G (address_of G p) (length p) ≡ p
  unfolding indices index_at address_of
  back [] P = refl
  back (i ∷ p) P = ap₂ ◌∷◌ head (tail ∙ back p (path_tail P))
    where
      n : ℕ
      n = length p

      a : ℕ
      a = i * size_at G n + address_of G p

      head : index_at G a n ≡ i
      head = rw (digits_div i (address_below (path_tail P))) (mod-eq_of_lt (path_head P))

      tail : indices G a n ≡ indices G (address_of G p) n
      tail = indices_same n a (address_of G p) (λ h l. index_same l a (address_of G p) (mul-add-mod_self_right i (size_at G n) (address_of G p)))

  pub address_back : {n : ℕ} {p : List ℕ} → IsPath G n p → indices G (address_of G p) n ≡ p
  address_back {p = p} P = rw (← P.places) (back p P)

  pub address_injective : {n : ℕ} {p q : List ℕ} → IsPath G n p → IsPath G n q → address_of G p ≡ address_of G q → p ≡ q
  address_injective {n} P Q e = sym (address_back P) ∙ ap (λ (a : ℕ). indices G a n) e ∙ address_back Q

  -- upstream lemma_vaddr_eq_implies_padded_prefix: prefixes of one address are one path but for zeros
  pub prefix_injective : {n m : ℕ} {p q : List ℕ} → IsPath G n p → IsPath G m q → (h k : ℕ) → n + h ≡ m + k
      → start_of G p h ≡ start_of G q k → p ++ replicate h 0 ≡ q ++ replicate k 0
  prefix_injective P Q h k e z = address_injective (padded_path P h) (rw e (padded_path Q k)) z

  -- ---- a path of four places

  pub path_of_back : (a : ℕ) → a < size_at G 4 → address_of G (path_of G a) ≡ a - a % page_size G
  unfolding path_of
  path_of_back a l = indices_back a 4 l

  pub path_of_exact : (a : ℕ) → a < size_at G 4 → a % page_size G ≡ 0 → address_of G (path_of G a) ≡ a
  unfolding path_of
  path_of_exact a l e = indices_exact a 4 l e

  pub address_of_back : {p : List ℕ} → IsPath G 4 p → path_of G (address_of G p) ≡ p
  unfolding path_of
  address_of_back P = address_back P

  pub address_places : (p : List ℕ) → length p ≡ 4
      → address_of G p ≡ get_or p 0 0 * size_at G 3 + get_or p 1 0 * size_at G 2 + get_or p 2 0 * size_at G 1 + get_or p 3 0 * size_at G 0
  unfolding address_of
  address_places (i ∷ j ∷ k ∷ l ∷ []) e = omega arith
  address_places [] e = omega arith
  address_places (i ∷ []) e = omega arith
  address_places (i ∷ j ∷ []) e = omega arith
  address_places (i ∷ j ∷ k ∷ []) e = omega arith
  address_places (i ∷ j ∷ k ∷ l ∷ m ∷ p) e = omega arith
