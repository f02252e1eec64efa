-- Laws of addresses that are multiples of a page, and of how many pages there are between two.
use Rattle.std.specs.Prelude.{ℕ, zero, suc, ◌+◌, ◌-◌, ◌*◌, ◌/◌, ◌%◌, ◌≤◌, ◌<◌, ◌≡◌, refl, min}
use Rattle.std.proofs.Common.{ap, sym, ◌∙◌, subst, add-mul, div-add-mod', le_of_mul-le-mul_right, arith}
use Rattle.std.proofs.Math.Decide.{dec_lt}
use Rattle.path.specs.Geometry.{Granule, page_size, size_at}
use Rattle.path.specs.Laws.{page_pos, size_zero}
use Rattle.path.specs.Paths.{base_at}
use Rattle.path.specs.RegionLaws.{base_aligned, base_end, end_aligned}
use Rattle.sweeps.specs.Parts.{until_end}

pub min_is : (P : ℕ → Type 0) (a b : ℕ) → (a ≤ b → P a) → (b ≤ a → P b) → P (min a b)
min_is P a b f g = go (dec_lt a b)
  where
    go : Dec (a < b) → P (min a b)
    go (yes l) = let e : min a b ≡ a = omega arith in subst P (sym e) (f (omega arith))
    go (no l) = let e : min a b ≡ b = omega arith in subst P (sym e) (g (omega arith))

module _ (G : Granule) where
  abbrev W : ℕ
  W = page_size G

  -- so many pages from one multiple to another
  pub pages_between : (a x : ℕ) → a % W ≡ 0 → x % W ≡ 0 → a ≤ x → (i : ℕ) × (x ≡ a + i * W)
  pages_between a x p q l =
      let u : a / W * W ≡ a = omega (arith, div-add-mod' a W) in
      let v : x / W * W ≡ x = omega (arith, div-add-mod' x W) in
      let le : a / W ≤ x / W = le_of_mul-le-mul_right (omega arith) (page_pos G) in
      let s : x / W ≡ a / W + (x / W - a / W) = omega arith in
      (x / W - a / W, sym v ∙ ap (λ (y : ℕ). y * W) s ∙ add-mul (a / W) (x / W - a / W) W ∙ omega arith)

  pub pages_some : {a x : ℕ} (i : ℕ) → x ≡ a + i * W → a < x → 0 < i
  pages_some zero e l = absurd (omega arith)
  pages_some (suc i) e l = omega arith

  -- where the region of an address ends, or the range: past the address, no further than the range, a multiple of a page
  pub record Ends (x h end next : ℕ) : Type 0 where
    pub further : x < next
    pub in_range : next ≤ end
    pub in_region : next ≤ base_at G x h + size_at G h
    pub whole : next % W ≡ 0
    pub else_full : next < end → next ≡ base_at G x h + size_at G h

  pub ends_at : (x h end : ℕ) → x < end → end % W ≡ 0 → Ends x h end (until_end G x h end)
  ends_at x h end l e =
      min_is (Ends x h end) (base_at G x h + size_at G h) end
      (λ m. record {
        further = base_end G x h;
        in_range = m;
        in_region = omega arith;
        whole = subst (λ (s : ℕ). (base_at G x h + size_at G h) % s ≡ 0) (size_zero G) (end_aligned G {j = 0} (omega arith) (base_at G x h) (base_aligned G x h));
        else_full = λ _. refl;
      })
      (λ m. record { further = l; in_range = omega arith; in_region = m; whole = e; else_full = λ n. absurd (omega arith) })
