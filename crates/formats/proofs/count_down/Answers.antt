-- `formats::count_down`: after i turns the first i places count down.
use Rattle.std.proofs.Common.{ℕ, ◌-◌, List, ◌++◌, ap, ◌∙◌, length, arith}
use Rattle.std.proofs.Math.ListN.{set, drop_of_length-le}
use Rattle.std.proofs.lemmas.List.{take_all}
use mathlib.Core.Path.{ap₂}
use mathlib.Core.List.{append-nil}
use Rattle.laws.specs.ListLaws.{length_down, down_more}
use Rattle.laws.specs.Lists.{down}
use Rattle.formats.proofs.count_down.Goals as goal

pub loop-i-preserved : goal.loop-i-preserved
loop-i-preserved c =
    let i = c.loop-i.i in
    let s = c.args.list.now in
    ap (λ (x : List ℕ). set x i (length s - 1 - i)) c.loop-i.invariant ∙ down_more (length s) i s (omega arith) (omega arith)

pub returns : goal.returns
returns c =
    let i = c.loop-i.i in
    let s = c.args.list.now in
    c.loop-i.invariant
    ∙ ap₂ ◌++◌ (take_all i (down (length s)) (simp length_down (omega arith))) (drop_of_length-le s (omega arith))
    ∙ append-nil _
