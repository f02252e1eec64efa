-- `free_check` meets its contract.
use Rattle.std.proofs.Common.{◌++◌}
use Rattle.path.specs.Geometry.{granule_of}
use Rattle.audit.proofs.Frees.{Run}
use Rattle.audit.proofs.free_check.Given as goal

abbrev pub invariant-loop-t : goal.invariant-loop-t
invariant-loop-t l = Run (granule_of l.granule) (l.words ++ l.second) l.n l.initial.marks l.free l.marks l.t-index
