-- `setups::good_adding` meets its contract: each test refuses what breaks its rule, and the rest is that of the numbers with the new region.
use Prim.Native.Nat.{ℕ, ◌+◌, ◌≤◌, ◌<◌}
use mathlib.Core.Path.{◌≡◌, refl, sym, ◌∙◌}
use mathlib.Core.Bool.{Bool, true, false, ◌&&◌}
use native.Mathlib.Omega.{arith}
use lib.Dec.{ltb, eqb}
use borrow.Author.Tests.{lt-ltb, le-ltb, eqb-true, not-true, not-false}
use Rattle.path.specs.Geometry.{granule_of, page_size}
use Rattle.path.specs.Areas.{area_of, with_second, total}
use Rattle.path.specs.Numbers.{good_numbers, good_adding, GoodAdding}
use Rattle.path.specs.Laws.{granule_page, same_truth, both, good_numbers_lem, numbers_good, good_adding_lem, adding_good, adding_bad}
use Rattle.path.specs.declared.Setup.{Setup}
use Rattle.setups.proofs.good_adding.Goals as goal

-- where one of three tests does not hold, they do not hold together
second_not : (x y z : Bool) → y ≡ false → (x && (y && z)) ≡ false
second_not true y z e = rw e
second_not false y z e = refl

third_not : (x y z : Bool) → z ≡ false → (x && (y && z)) ≡ false
third_not true true z e = e
third_not true false z e = refl
third_not false y z e = refl

module _ (s : Setup) (q m cut words places : ℕ) where
  abbrev granule : Bool
  granule = eqb s.granule (page_size (granule_of s.granule))

  abbrev adding : Bool
  adding = good_adding (granule_of s.granule) s.levels (area_of s) q m cut words places

  abbrev room : Bool
  room = ltb s.free (total (area_of s))

  not_granule : granule ≡ false → (granule && (adding && room)) ≡ false
  not_granule e = rw e

  not_adding : (GoodAdding (granule_of s.granule) s.levels (area_of s) q m cut words places → ⊥) → (granule && (adding && room)) ≡ false
  not_adding f = second_not granule adding room (adding_bad f)

  no_room : total (area_of s) ≤ s.free → (granule && (adding && room)) ≡ false
  no_room l = third_not granule adding room (le-ltb _ _ l)

  -- where the tests before it passed, the numbers decide
  numbers_left : granule ≡ true → (s.base2 ≡ 0) × (s.tables2 ≡ 0) → 1 ≤ m → s.free < total (area_of s)
      → good_numbers (granule_of s.granule) s.levels (with_second (area_of s) q m) cut words places ≡ (granule && (adding && room))
  numbers_left e one new l =
      same_truth _ (granule && (adding && room))
      (λ t. let d : adding ≡ true = adding_good (record { one_yet = one; some_new = new; numbers = good_numbers_lem t }) in rw (e, d, lt-ltb s.free (total (area_of s)) l))
      (λ t. numbers_good (good_adding_lem (both adding room (both granule (adding && room) t).1).0).numbers)

pub returns-then-not-good_granule : goal.returns-then-not-good_granule
returns-then-not-good_granule c = sym (not_granule _ _ _ _ _ _ (sym (granule_page _) ∙ sym c.good_granule.ensures ∙ not-true _ c.if-not-good_granule.true-raw))

pub returns-then-s-ne0 : goal.returns-then-s-ne0
returns-then-s-ne0 c = sym (not_adding _ _ _ _ _ _ (λ A. omega (arith, A.one_yet.0)))

pub returns-then-s-ne0-2 : goal.returns-then-s-ne0-2
returns-then-s-ne0-2 c = sym (not_adding _ _ _ _ _ _ (λ A. omega (arith, A.one_yet.1)))

pub returns-then-tables2-eq0 : goal.returns-then-tables2-eq0
returns-then-tables2-eq0 c = sym (not_adding _ _ _ _ _ _ (λ A. omega (arith, A.some_new)))

pub returns-then-s : goal.returns-then-s
returns-then-s c = sym (no_room _ _ _ _ _ _ (omega arith))

pub numbers_by-requires : goal.numbers_by-requires
numbers_by-requires c = eqb-true _ _ (sym (granule_page _) ∙ sym c.good_granule.ensures ∙ not-false _ c.if-not-good_granule.false-raw)

pub returns : goal.returns
returns c =
    let a = c.args in
    c.numbers_by.ensures
    ∙ numbers_left a.s a.base2 a.tables2 a.words (a.words + a.second) a.places
    (sym (granule_page _) ∙ sym c.good_granule.ensures ∙ not-false _ c.if-not-good_granule.false-raw)
    (omega arith, omega arith)
    (omega arith)
    (omega arith)
