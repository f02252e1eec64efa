use mathlib.Core.Path.{sym, ap, ◌∙◌}
use native.Mathlib.Omega.{arith}
use Prim.Native.Nat.{ℕ}
use mathlib.Core.List.{List, ◌++◌}
use Rattle.laws.specs.ListLaws.{zeroed_first, zeroed_later}
use Rattle.rangeunmaps.proofs.clear_words.Goals as goal

pub returns-then-place-n : goal.returns-then-place-n
returns-then-place-n c =
    let a = c.args in
    ap (λ (l : List ℕ). l ++ a.second.now) c.clear_used.ensures ∙ sym (zeroed_first a.words.now a.second.now a.place a.count (c.requires (omega arith)))

pub returns-else-place-n : goal.returns-else-place-n
returns-else-place-n c =
    let a = c.args in
    ap (λ (l : List ℕ). a.words.now ++ l) c.clear_used-else-place-n.ensures ∙ sym (zeroed_later a.words.now a.second.now a.place a.count (omega arith))
