-- `formats::count_down`: after i turns the first i places count down.
use Rattle.std.proofs.Common.{◌≡◌, ◌++◌, take, drop}
use Rattle.laws.specs.Lists.{down}
use Rattle.formats.proofs.count_down.Given as goal

abbrev pub invariant-loop-i : goal.invariant-loop-i
invariant-loop-i l = l.list ≡ take l.i (down l.n) ++ drop l.i l.initial.list
