-- `adds::append`: after i turns the first i places of the part count down from n + m - 1.
use Rattle.std.proofs.Common.{◌≡◌, ◌+◌, ◌++◌, take, drop}
use Rattle.laws.specs.Lists.{down}
use Rattle.adds.proofs.append.Given as goal

abbrev pub invariant-loop-i : goal.invariant-loop-i
invariant-loop-i l = l.number-items ≡ take l.i (down (l.n + l.m)) ++ drop l.i l.initial.number-items
