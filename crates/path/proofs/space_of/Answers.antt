-- `path::space_of` meets its contract, by the granule and the levels.
use native.Mathlib.Omega.{arith}
use Rattle.std.proofs.Common.{sym}
use Rattle.path.specs.Geometry.{four, sixteen, size_at, good_levels, space_of, known_space}
use Rattle.path.specs.Laws.{granule_sixteen, granule_four, known_gone}
use Rattle.path.proofs.space_of.Goals as goal

pub returns-in-3 : goal.returns-in-3
unfolding known_space space_of good_levels size_at
returns-in-3 c = rw (granule_sixteen c.if-granule-eq-KIB16.true, c.in-3.is)

pub returns-in_default : goal.returns-in_default
returns-in_default c = rw (granule_sixteen c.if-granule-eq-KIB16.true) (sym (known_gone sixteen _ (λ l m. omega arith)))

pub returns-in-3-levels : goal.returns-in-3-levels
unfolding known_space space_of good_levels size_at
returns-in-3-levels c = rw (granule_four c.if-granule-eq-KIB16.false, c.in-3-levels.is)

pub returns-in-4 : goal.returns-in-4
unfolding known_space space_of good_levels size_at
returns-in-4 c = rw (granule_four c.if-granule-eq-KIB16.false, c.in-4.is)

pub returns-in_default-levels : goal.returns-in_default-levels
returns-in_default-levels c = rw (granule_four c.if-granule-eq-KIB16.false) (sym (known_gone four _ (λ l m. omega arith)))
