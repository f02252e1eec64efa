-- `marks::note_way` meets its contract: the tables that are left to be noted give the whole answer.
use Prim.Native.Nat.{◌-◌}
use mathlib.Core.Path.{◌≡◌}
use Rattle.path.specs.Geometry.{granule_of}
use Rattle.marks.specs.Marks.{note_from, note_way}
use Rattle.marks.proofs.note_way.Given as goal

abbrev pub invariant-loop-h : goal.invariant-loop-h
invariant-loop-h l = note_way (granule_of l.granule) l.initial.stands l.address l.way l.left l.levels ≡ note_from (granule_of l.granule) l.stands l.address l.way l.h (l.levels - l.h)
