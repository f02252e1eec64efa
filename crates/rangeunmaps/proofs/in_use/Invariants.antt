use Rattle.std.specs.Prelude.{◌≡◌, not, take, count_by}
use Rattle.rangeunmaps.proofs.in_use.Given as goal

abbrev pub invariant-loop-x : goal.invariant-loop-x
invariant-loop-x g l = l.n ≡ count_by (λ x. not (g.T.PartialEq.eq x l.zero)) (take l.x-index l.part)
