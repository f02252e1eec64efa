-- `path::good_levels` meets its contract, by the granule.
use Prim.Native.Nat.{ℕ}
use mathlib.Core.Path.{◌≡◌, refl, sym}
use mathlib.Core.Bool.{true, false, not}
use native.Mathlib.Decide.{ℕ_discrete}
use native.Mathlib.Omega.{arith}
use lib.Dec.{eqb}
use borrow.Author.Tests.{eq-eqb, ne_eqb}
use Rattle.path.specs.Geometry.{four, sixteen, granule_of, good_levels}
use Rattle.path.specs.Laws.{granule_either, granule_sixteen, granule_four, levels_none}
use Rattle.path.proofs.good_levels.Goals as goal

-- four levels
fourth : (number : ℕ) → not (eqb number 16384) ≡ good_levels (granule_of number) 4
unfolding good_levels
fourth number = go (ℕ_discrete number 16384)
  where
    go : Dec (number ≡ 16384) → not (eqb number 16384) ≡ good_levels (granule_of number) 4
    go (yes e) = rw (granule_sixteen e, eq-eqb number 16384 e)
    go (no n) = rw (granule_four n, ne_eqb number 16384 n)

pub returns-then-levels-eq3 : goal.returns-then-levels-eq3
unfolding good_levels
returns-then-levels-eq3 c = rw c.if-levels-eq3.true (granule_either (λ G. true ≡ good_levels G 3) refl refl c.args.granule)

pub returns-then-levels-ne4 : goal.returns-then-levels-ne4
returns-then-levels-ne4 c =
    let a = c.args in
    granule_either (λ G. false ≡ good_levels G a.levels)
    (sym (levels_none four a.levels (λ l m. omega arith)))
    (sym (levels_none sixteen a.levels (λ l m. omega arith)))
    a.granule

pub returns : goal.returns
returns c = let a = c.args in let e : a.levels ≡ 4 = omega arith in rw e (fourth a.granule)
