-- `indices::bits_at` meets its contract, by the granule: a level has the height, or none has it.
use native.Mathlib.Omega.{arith}
use mathlib.Core.Path.{sym}
use Rattle.path.specs.Geometry.{four, sixteen}
use Rattle.path.specs.Laws.{granule_sixteen, granule_four, level_some, level_none}
use Rattle.indices.proofs.bits_at.Goals as goal

pub returns-then-height-gt2 : goal.returns-then-height-gt2
returns-then-height-gt2 c = rw (granule_sixteen c.if-granule-eq-KIB16.true) (sym (level_none sixteen (omega arith) _))

pub returns-then-granule-eq-KIB16 : goal.returns-then-granule-eq-KIB16
returns-then-granule-eq-KIB16 c = rw (granule_sixteen c.if-granule-eq-KIB16.true) (sym (level_some sixteen (omega arith) _))

pub returns-then-height-gt3 : goal.returns-then-height-gt3
returns-then-height-gt3 c = rw (granule_four c.if-granule-eq-KIB16.false) (sym (level_none four (omega arith) _))

pub returns : goal.returns
returns c = rw (granule_four c.if-granule-eq-KIB16.false) (sym (level_some four (omega arith) _))
