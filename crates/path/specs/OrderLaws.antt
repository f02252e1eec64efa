-- Laws of the order of paths, over any granule and any number of levels: paths are ordered as their pages are.
use Rattle.std.specs.Prelude.{ℕ, ◌+◌, ◌*◌, ◌/◌, ◌≤◌, ◌<◌, ◌≡◌, refl, ◌≢◌, ◌↔◌, List, [], ◌∷◌, ◌++◌}
use Rattle.std.proofs.Common.{sym, ap, ap₂, ◌∙◌, append-nil, mod-eq_of_lt, mul-lt-mul_of_pos_right, lt_of_mul-lt-mul_right, div-add-mod', length-append}
use Rattle.std.proofs.Math.Nat.{mul-le-mul_right}
use Rattle.std.proofs.Math.Decide.{dec_lt}
use native.Mathlib.Omega.{arith}
use Rattle.std.proofs.Math.ListN.{length}
use Rattle.path.specs.Geometry.{Granule, page_size, size_at}
use Rattle.path.specs.Paths.{indices, address_of, start_of, IsPath, Before, here, there}
use Rattle.path.specs.Laws.{page_pos, size_pos, size_zero}
use Rattle.path.specs.PathLaws.{indices_path, address_rest, padded_length, path_tail, prefix_room}

-- how two paths stand to each other: they differ at a place, or one goes on where the other ends
pub data Compared (p q : List ℕ) : Type 0 where
  before : Before p q → Compared p q
  after : Before q p → Compared p q
  shorter : (t : List ℕ) → p ++ t ≡ q → Compared p q
  longer : (t : List ℕ) → q ++ t ≡ p → Compared p q

-- upstream lemma_first_diff_idx_exists
pub compare_paths : (p q : List ℕ) → Compared p q
compare_paths [] q = shorter q refl
compare_paths (i ∷ p) [] = longer (i ∷ p) refl
compare_paths (i ∷ p) (j ∷ q) = go (dec_lt i j) (dec_lt j i) (compare_paths p q)
  where
    same : i ≡ j → Compared p q → Compared (i ∷ p) (j ∷ q)
    same e (before b) = before (rw e (there b))
    same e (after b) = after (rw e (there b))
    same e (shorter t z) = shorter t (ap₂ ◌∷◌ e z)
    same e (longer t z) = longer t (ap₂ ◌∷◌ (sym e) z)

    go : Dec (i < j) → Dec (j < i) → Compared p q → Compared (i ∷ p) (j ∷ q)
    go (yes l) d r = before (here l)
    go (no m) (yes l) r = after (here l)
    go (no m) (no k) r = same (omega arith) r

-- two of one length differ at a place, or are equal
pub data Ordered (p q : List ℕ) : Type 0 where
  less : Before p q → Ordered p q
  equal : p ≡ q → Ordered p q
  more : Before q p → Ordered p q

pub order_paths : (p q : List ℕ) → length p ≡ length q → Ordered p q
order_paths p q e = go (compare_paths p q)
  where
    whole : (r s t : List ℕ) → length r ≡ length s → r ++ t ≡ s → r ≡ s
    whole r s [] e z = sym (append-nil r) ∙ z
    whole r s (x ∷ t) e z = absurd (omega (arith, ap length z, length-append r (x ∷ t)))

    go : Compared p q → Ordered p q
    go (before b) = less b
    go (after b) = more b
    go (shorter t z) = equal (whole p q t e z)
    go (longer t z) = equal (sym (whole q p t (sym e) z))

module _ (G : Granule) where
  gap : {p q : List ℕ} {n : ℕ} → Before p q → (h k : ℕ) → IsPath G n p → length p + h ≡ length q + k
      → start_of G p h + size_at G h ≤ start_of G q k
  unfolding address_of
  gap (here {i} {j} {p} {q} l) h k P e =
      let z : length q + k ≡ length p + h = omega arith in
      rw (padded_length G p h, padded_length G q k, z)
      (omega (arith, prefix_room G (path_tail G P) h, mul-le-mul_right (size_at G (length p + h)) l))
  gap (there {i} {p} {q} b) h k P e =
      let z : length p + h ≡ length q + k = omega arith in
      rw (padded_length G p h, padded_length G q k, z) (omega (arith, gap b h k (path_tail G P) z))

  -- upstream lemma_path_order_implies_vaddr_order: regions are ordered as their prefixes are
  pub prefix_order : {n m : ℕ} {p q : List ℕ} → IsPath G n p → IsPath G m q → Before p q → (h k : ℕ) → n + h ≡ m + k
      → start_of G p h + size_at G h ≤ start_of G q k
  prefix_order P Q b h k e = gap b h k P (omega (arith, P.places, Q.places))

  -- upstream lemma_nonprefix_implies_vaddr_inequality: neither is a prefix of the other
  pub prefix_differ : {n m : ℕ} {p q : List ℕ} → IsPath G n p → IsPath G m q
      → ((t : List ℕ) → p ++ t ≡ q → ⊥) → ((t : List ℕ) → q ++ t ≡ p → ⊥) → (h k : ℕ) → n + h ≡ m + k → start_of G p h ≢ start_of G q k
  prefix_differ {p = p} {q = q} P Q no_longer no-shorter h k e z = go (compare_paths p q)
    where
      go : Compared p q → ⊥
      go (before b) = omega (arith, prefix_order P Q b h k e, size_pos G h)
      go (after b) = omega (arith, prefix_order Q P b k h (sym e), size_pos G k)
      go (shorter t y) = no_longer t y
      go (longer t y) = no-shorter t y

  -- pages are ordered as their paths are
  pub address_order : {n : ℕ} {p q : List ℕ} → IsPath G n p → IsPath G n q → Before p q → address_of G p + page_size G ≤ address_of G q
  address_order {p = p} {q = q} P Q b = rw (append-nil p, append-nil q, size_zero G) at (prefix_order P Q b 0 0 refl)

  pub path_order : {n : ℕ} {p q : List ℕ} → IsPath G n p → IsPath G n q → Before p q ↔ (address_of G p < address_of G q)
  path_order {p = p} {q = q} P Q = (forth, λ l. back l (order_paths p q (P.places ∙ sym Q.places)))
    where
      forth : Before p q → address_of G p < address_of G q
      forth b = omega (arith, page_pos G, address_order P Q b)

      back : address_of G p < address_of G q → Ordered p q → Before p q
      back l (less b) = b
      back l (equal e) = absurd (omega (arith, ap (address_of G) e))
      back l (more b) = absurd (omega (arith, address_order Q P b))

  -- the paths of two addresses of the space are ordered as their pages are
  pub indices_order : (a b n : ℕ) → a < size_at G n → b < size_at G n
      → Before (indices G a n) (indices G b n) ↔ (a / page_size G < b / page_size G)
  indices_order a b n la lb = (
    λ c. lt_of_mul-lt-mul_right (page_size G) (omega (arith, same.0 c, page a la, page b lb)),
    λ l. same.1 (omega (arith, page a la, page b lb, mul-lt-mul_of_pos_right l (page_pos G))),
  )
    where
      same : Before (indices G a n) (indices G b n) ↔ (address_of G (indices G a n) < address_of G (indices G b n))
      same = path_order (indices_path G a n) (indices_path G b n)

      page : (x : ℕ) → x < size_at G n → address_of G (indices G x n) ≡ x / page_size G * page_size G
      page x l = omega (arith, address_rest G x n, mod-eq_of_lt l, div-add-mod' x (page_size G))
