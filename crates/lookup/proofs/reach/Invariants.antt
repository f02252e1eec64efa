-- The walk as a loop meets its contract: at each turn the walk that is left is the whole walk.
use mathlib.Core.List.{◌++◌}
use Rattle.path.specs.Geometry.{granule_of}
use Rattle.lookup.proofs.Turns.{Turn}
use Rattle.lookup.proofs.reach.Given as goal

abbrev pub invariant-loop-h : goal.invariant-loop-h
invariant-loop-h l = Turn (granule_of l.s.granule) l.s (l.words ++ l.second) l.target l.address l.h l.way l.t l.up
