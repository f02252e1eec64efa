-- The tests of the arguments of map, one after the other, and what follows where none refuses.
use Prim.Native.Nat.{ℕ, ◌+◌, ◌%◌, ◌≤◌, ◌<◌}
use mathlib.Core.Path.{◌≡◌, refl, sym, ap, ◌∙◌, subst}
use mathlib.Core.Logic.{◌≢◌}
use mathlib.Core.Bool.{Bool, true, false, cond, not, ◌&&◌}
use native.Mathlib.Decide.{dec_lt, ℕ_discrete}
use native.Mathlib.Omega.{arith}
use borrow.Author.Tests.{not-true, not-false, lt-ltb, le-ltb, ltb-false, le-leb, lt-leb, eq-eqb, ne_eqb}
use lib.Dec.{ltb, leb, eqb}
use Rattle.path.specs.Geometry.{Granule, Sane, size_at, physical, at_level, good_levels, space_of, height_of}
use Rattle.path.specs.Areas.{Area, meets_area}
use Rattle.path.specs.Laws.{size_pos, size_fits, level_some, height_size, in_space, past_space}
use Rattle.model.specs.Calls.{map_tests}

-- a size that a frame can have
module _ (G : Granule) (S : Sane G) (size : ℕ) {h : ℕ} (e : h ≡ height_of G size) (l : h ≤ G.large) where
  is_size : size_at G h ≡ size
  is_size = rw e (height_size G size (subst (λ (x : ℕ). x ≤ G.large) e l))

  pub size_some : 0 < size
  size_some = subst (λ (x : ℕ). 0 < x) is_size (size_pos G h)

  pub size_least : size ≤ physical
  size_least = subst (λ (x : ℕ). x ≤ physical) is_size (size_fits G S (omega (arith, S)))

  -- the rest of a number by its height is the rest by the size
  pub rest_is : (x : ℕ) {r : ℕ} → r ≡ at_level G h (x % size_at G h) → r ≡ x % size
  rest_is x d = d ∙ level_some G (omega (arith, S)) (x % size_at G h) ∙ ap (λ (y : ℕ). x % y) is_size

-- the tests, in their order
module _ (G : Granule) (levels : ℕ) (area : Area) (a b size k : ℕ) {h : ℕ} (e : h ≡ height_of G size) where
  pub refuses_size : G.large < h → 2 ≡ map_tests G levels area a b size k
  unfolding map_tests
  refuses_size l = rw (← e, lt-ltb _ _ l)

  module _ (l : h ≤ G.large) where
    pub refuses_attributes : 15 < k → 3 ≡ map_tests G levels area a b size k
    unfolding map_tests
    refuses_attributes m = rw (← e, le-ltb _ _ l, lt-ltb _ _ m)

    module _ (m : k ≤ 15) (some : 1 ≤ size) {inside : Bool} (s : inside ≡ (good_levels G levels && leb (a + size) (space_of G levels))) where
      pub refuses_space : not inside ≡ true → 4 ≡ map_tests G levels area a b size k
      unfolding map_tests
      refuses_space n = go (dec_lt a (space_of G levels))
        where
          past : space_of G levels < a + size
          past = past_space G levels a size (sym s ∙ not-true _ n) some

          go : Dec (a < space_of G levels) → 4 ≡ map_tests G levels area a b size k
          go (yes p) = rw (← e, le-ltb _ _ l, le-ltb _ _ m, lt-leb _ _ p, lt-ltb _ _ past)
          go (no p) = let q : space_of G levels ≤ a = omega arith in rw (← e, le-ltb _ _ l, le-ltb _ _ m, le-leb _ _ q)

      module _ (n : not inside ≡ false) where
        ends : a + size ≤ space_of G levels
        ends = in_space G levels a size (sym s ∙ not-false _ n)

        starts : a < space_of G levels
        starts = omega (arith, ends)

        pub refuses_frame : physical < b + size → 4 ≡ map_tests G levels area a b size k
        unfolding map_tests
        refuses_frame r = rw (← e, le-ltb _ _ l, le-ltb _ _ m, lt-leb _ _ starts, le-ltb _ _ ends, lt-ltb _ _ r)

        module _ (r : b + size ≤ physical) {x y : ℕ} (u : x ≡ a % size) (v : y ≡ b % size) where
          pub refuses_unaligned : (x + y ≢ 0) → 5 ≡ map_tests G levels area a b size k
          unfolding map_tests
          refuses_unaligned f = go (ℕ_discrete (a % size) 0)
            where
              go : Dec (a % size ≡ 0) → 5 ≡ map_tests G levels area a b size k
              go (yes z) =
                  let w : b % size ≢ 0 = λ t. f (omega arith) in
                  rw (← e, le-ltb _ _ l, le-ltb _ _ m, lt-leb _ _ starts, le-ltb _ _ ends, le-ltb _ _ r, eq-eqb _ _ z, ne_eqb _ _ w)
              go (no z) = rw (← e, le-ltb _ _ l, le-ltb _ _ m, lt-leb _ _ starts, le-ltb _ _ ends, le-ltb _ _ r, ne_eqb _ _ z)

          module _ (f : x + y ≡ 0) {met : Bool} (t : met ≡ meets_area G area b size) where
            -- no test but the last refuses
            last_left : map_tests G levels area a b size k ≡ cond met 11 0
            unfolding map_tests
            last_left =
                let z : a % size ≡ 0 = omega arith in
                let w : b % size ≡ 0 = omega arith in
                rw (← e, le-ltb _ _ l, le-ltb _ _ m, lt-leb _ _ starts, le-ltb _ _ ends, le-ltb _ _ r, eq-eqb _ _ z, eq-eqb _ _ w, ← t)

            pub refuses_pool : met ≡ true → 11 ≡ map_tests G levels area a b size k
            refuses_pool q = sym (last_left ∙ ap (λ (x : Bool). cond x 11 0) q)

            pub refuses_nothing : met ≡ false → 0 ≡ map_tests G levels area a b size k
            refuses_nothing q = sym (last_left ∙ ap (λ (x : Bool). cond x 11 0) q)

-- where no test refuses, the size has a height, and the frame ends within the physical addresses
pub passed_size : (G : Granule) (levels : ℕ) (area : Area) (a b size k : ℕ) → map_tests G levels area a b size k ≡ 0 → height_of G size ≤ G.large
unfolding map_tests
passed_size G levels area a b size k e = go (dec_lt G.large (height_of G size))
  where
    go : Dec (G.large < height_of G size) → height_of G size ≤ G.large
    go (yes l) = absurd (omega (arith, refuses_size G levels area a b size k refl l ∙ e))
    go (no n) = omega arith

pub passed_frame : (G : Granule) (levels : ℕ) (area : Area) (a b size k : ℕ) → map_tests G levels area a b size k ≡ 0 → b + size ≤ physical
unfolding map_tests
passed_frame G levels area a b size k e =
    go (ltb G.large (height_of G size)) (ltb 15 k) (leb (space_of G levels) a) (ltb (space_of G levels) (a + size)) (ltb physical (b + size)) refl e
  where
    rest : ℕ
    rest = cond (eqb (a % size) 0) (cond (eqb (b % size) 0) (cond (meets_area G area b size) 11 0) 5) 5

    go : (p q r s t : Bool) → ltb physical (b + size) ≡ t → ◌≡◌ {A = ℕ} (cond p 2 (cond q 3 (cond r 4 (cond s 4 (cond t 4 rest))))) 0 → b + size ≤ physical
    go false false false false false f e = ltb-false physical (b + size) f
    go true q r s t f e = absurd (omega arith)
    go false true r s t f e = absurd (omega arith)
    go false false true s t f e = absurd (omega arith)
    go false false false true t f e = absurd (omega arith)
    go false false false false true f e = absurd (omega arith)
