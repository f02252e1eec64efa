-- What the adding call does, by what its tests found.
use Prim.Native.Nat.{ℕ, ◌+◌, ◌*◌, ◌<◌}
use mathlib.Core.Path.{◌≡◌, refl, sym, ap, ◌∙◌}
use mathlib.Core.Bool.{true, and-eq-true_iff}
use mathlib.Core.List.{List, [], ◌++◌}
use native.Mathlib.Nat.{mul-add}
use native.Mathlib.Omega.{arith}
use borrow.Author.Tests.{eqb-true, eqb-false}
use lib.Dec.{eqb}
use lib.ListN.{length, replicate, take, length-append}
use Rattle.laws.specs.ListLaws.{take_first}
use Rattle.path.specs.Geometry.{Granule, granule_of, page_size, entries}
use Rattle.path.specs.Areas.{area_of}
use Rattle.path.specs.Numbers.{setup, GoodAdding}
use Rattle.path.specs.declared.Setup.{Setup}
use Rattle.model.specs.declared.Refusal.{Refusal}
use Rattle.model.specs.Answers.{Answer, answered, added, says_refusal, tested, Pool, pool, done}
use Rattle.model.specs.Adds.{good_add, appended, add_tests, add_w}
use Rattle.model.proofs.AddLaws.{tests_refuse, tests_pass, may_add}
use Rattle.model.proofs.TestedLaws.{tested_none, tested_err, tested_refused}

module _ (s : Setup) (ws us list : List ℕ) (q m : ℕ) where
  abbrev G : Granule
  G = granule_of s.granule

  abbrev at : Pool
  at = pool s (ws ++ us) (length ws) list

  abbrev number : ℕ
  number = add_tests G at q m

  pub add_refuses : (r : Refusal) → says_refusal r ≡ tested number → done (says_refusal r) at ≡ add_w (granule_of s.granule) at q m
  add_refuses r e =
      ap (λ (a : Answer). done a at) (tested_refused number r e)
      ∙ tests_refuse G at q m refl (eqb-false number 0 (tested_err number r e))

  module _ (e : answered [] ≡ tested number) where
    none : number ≡ 0
    none = tested_none number e

    good : good_add G at q m ≡ true
    good = (tests_pass G at q m refl none).0

    pub may : GoodAdding (granule_of s.granule) s.levels (area_of s) q m (length ws) (length (ws ++ us)) (length list)
    may = (may_add G at q m good).0

    pub room : s.free < s.tables
    room = omega (arith, (may_add G at q m good).1, may.one_yet.1)

    second_long : length us ≡ entries G * m
    second_long = omega (arith, may.numbers.cut_is, may.numbers.words_are, length-append ws us, mul-add (entries G) s.tables m)

    -- the number in the setup is that of its granule
    page : s.granule ≡ page_size G
    page = eqb-true _ _ ((and-eq-true_iff (eqb s.granule (page_size G)) _).0 good).0

    pub add_done : {u l : List ℕ} → u ≡ replicate (length us) 0 → l ≡ appended s.tables m s.free list
        → done added (pool (setup s.levels s.base s.tables (s.free + m) q m s.granule) (ws ++ u) (length ws) l) ≡ add_w (granule_of s.granule) at q m
    add_done {u} {l} a b =
        (λ j. done added (pool (setup s.levels s.base s.tables (s.free + m) q m (page j)) (both j) (length ws) (b j)))
        ∙ (tests_pass G at q m refl none).1
      where
        both : ws ++ u ≡ take (length ws) (ws ++ us) ++ replicate (entries G * m) 0
        both =
            ap (λ (z : List ℕ). z ++ u) (sym (take_first ws us (length ws) refl))
            ∙ ap (λ (z : List ℕ). take (length ws) (ws ++ us) ++ z) (a ∙ ap (λ (k : ℕ). replicate k 0) second_long)
