-- `contents::zeros_between`: the library's search over the places.
use mathlib.Core.Path.{refl, ◌∙◌}
use native.Mathlib.Omega.{arith}
use borrow.Author.Rules.{rules}
use borrow.Author.Tests.{tests}
use lib.Dec.{eqb}
use lib.ListN.{get_or, set, length-set}
use Prim.Native.Nat.{ℕ}
use Rattle.std.proofs.lemmas.Iterator.{YieldsList-from_range}
use Rattle.std.proofs.lemmas.Iterator.Search.{all_from_yields_List}
use Rattle.contents.proofs.Laws.{range_zero}
use Rattle.contents.proofs.zeros_between.Goals as goal

pub returns : goal.returns
returns c =
    let a = c.args in
    all_from_yields_List (λ (i : ℕ). eqb (get_or (set a.w.now a.but 0) i 0) 0) _ _ _ c.all.ensures.ran (YieldsList-from_range a.from a.to _ refl refl) (λ x b q k. search (rules, tests))
    ∙ range_zero (set a.w.now a.but 0) a.from _ (omega (arith, length-set a.w.now a.but 0))
