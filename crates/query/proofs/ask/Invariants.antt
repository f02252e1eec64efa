-- What the walk to the last level answers meets its contract: at each turn the walk that is left is the whole walk.
use mathlib.Core.List.{◌++◌}
use Rattle.path.specs.Geometry.{granule_of}
use Rattle.query.proofs.Queries.{Turn}
use Rattle.query.proofs.ask.Given as goal

abbrev pub invariant-loop-h : goal.invariant-loop-h
invariant-loop-h l = Turn (granule_of l.s.granule) l.s (l.words ++ l.second) l.address l.h l.way l.t
