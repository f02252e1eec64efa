-- Map and unmap on a pool that holds a ledger, with any arguments.
use Prim.Native.Nat.{ℕ, ◌%◌, ◌<◌}
use Rattle.std.proofs.Math.Path.{◌≡◌, refl}
use Rattle.std.proofs.Common.{sym, subst, arith}
use Rattle.std.specs.Prelude.{Bool, cond, eqb}
use Rattle.std.proofs.Math.Bool.{true, false}
use Rattle.std.proofs.Math.Dec.{leb}
use borrow.Author.Tests.{leb-false, eqb-true}
use Rattle.path.specs.Geometry.{Granule, page_size, space_of, height_of, Sane}
use Rattle.path.specs.Areas.{area_of}
use Rattle.model.specs.Answers.{refused, Pool, refuse}
use Rattle.model.specs.Calls.{walk_to, map_tests, map_at, map_w, unmap_tests, unmap_at, unmap_w}
use Rattle.model.specs.Ledger.{Ledger, cover_of, entered, map_l, unmap_of, unmap_l}
use Rattle.demand.specs.Sims.{Sim}
use Rattle.demand.specs.Queries.{own, ledger_is, pool_good}
use Rattle.demand.specs.Maps.{Alike, ledger_map, own_sim, tests_fine, map_alike}
use Rattle.demand.specs.Unmaps.{unmap_alike}

module _ (G : Granule) (Z : Sane G) {p : Pool} {A : Ledger} (I : Sim G Z p A) where
  map_own : (a b size k : ℕ) → Alike G Z (map_w G p a b size k) (map_l G (own G Z I) a b size k)
  unfolding map_w map_l
  map_own a b size k = rw (pool_good G Z I) (go (eqb (map_tests G p.numbers.levels (area_of p.numbers) a b size k) 0) refl)
    where
      no : ℕ
      no = map_tests G p.numbers.levels (area_of p.numbers) a b size k

      go : (y : Bool) → eqb no 0 ≡ y
          → Alike G Z (cond y (map_at G p a b (height_of G size) k (walk_to G p (height_of G size) a) (walk_to G p (height_of G size) a).entry) (refuse no p))
          (cond y (ledger_map G (own G Z I) a b size k) (entered (refused no) (own G Z I)))
      go true e = map_alike G Z I a b size k (tests_fine G p.numbers.levels (area_of p.numbers) a b size k (eqb-true no 0 e)) tt tt (walk_to G p (height_of G size) a).entry refl
      go false e = record { answer = refl; sim = own_sim G Z I }

  -- unmap's tests say that the address is in the space
  pub in_space : (a : ℕ) → unmap_tests G p.numbers.levels a ≡ 0 → a < space_of G p.numbers.levels
  unfolding unmap_tests
  in_space a e = go (leb (space_of G p.numbers.levels) a) refl e
    where
      go : (y : Bool) → leb (space_of G p.numbers.levels) a ≡ y → ◌≡◌ {A = ℕ} (cond y 4 (cond (eqb (a % page_size G) 0) 0 5)) 0 → a < space_of G p.numbers.levels
      go true q e = absurd (omega arith)
      go false q e = leb-false (space_of G p.numbers.levels) a q

  unmap_own : (a : ℕ) → Alike G Z (unmap_w G p a) (unmap_l G (own G Z I) a)
  unfolding unmap_w unmap_l
  unmap_own a = rw (pool_good G Z I) (go (eqb (unmap_tests G p.numbers.levels a) 0) refl)
    where
      no : ℕ
      no = unmap_tests G p.numbers.levels a

      go : (y : Bool) → eqb no 0 ≡ y
          → Alike G Z (cond y (unmap_at G p a (walk_to G p 0 a) (walk_to G p 0 a).entry) (refuse no p))
          (cond y (unmap_of G (own G Z I) a (cover_of a (own G Z I).live)) (entered (refused no) (own G Z I)))
      go true e = unmap_alike G Z I a (in_space a (eqb-true no 0 e)) tt tt (walk_to G p 0 a).entry refl
      go false e = record { answer = refl; sim = own_sim G Z I }

  -- the same by the ledger that it holds
  pub map_step : (a b size k : ℕ) → Alike G Z (map_w G p a b size k) (map_l G A a b size k)
  map_step a b size k = subst (λ (B : Ledger). Alike G Z (map_w G p a b size k) (map_l G B a b size k)) (sym (ledger_is G Z I)) (map_own a b size k)

  pub unmap_step : (a : ℕ) → Alike G Z (unmap_w G p a) (unmap_l G A a)
  unmap_step a = subst (λ (B : Ledger). Alike G Z (unmap_w G p a) (unmap_l G B a)) (sym (ledger_is G Z I)) (unmap_own a)
