-- The size of a height meets its contract, by the granule.
use native.Mathlib.Omega.{arith}
use Rattle.path.specs.Laws.{granule_sixteen, granule_four}
use Rattle.armwalk.specs.Laws.{size_is}
use Rattle.armwalk.proofs.size_at.Goals as goal

pub returns-in-16384-eq0 : goal.returns-in-16384-eq0
returns-in-16384-eq0 c = size_is _ 0 (granule_sixteen c.in-16384-eq0.is-0) c.in-16384-eq0.is-1

pub returns-in-16384-eq1 : goal.returns-in-16384-eq1
returns-in-16384-eq1 c = size_is _ 1 (granule_sixteen c.in-16384-eq1.is-0) c.in-16384-eq1.is-1

pub returns-in-16384-eq2 : goal.returns-in-16384-eq2
returns-in-16384-eq2 c = size_is _ 2 (granule_sixteen c.in-16384-eq2.is-0) c.in-16384-eq2.is-1

pub returns-in-16384-default : goal.returns-in-16384-default
returns-in-16384-default c = let (((u, a), b), d) = c.in-16384-default.is-1 in size_is _ 3 (granule_sixteen c.in-16384-default.is-0) (omega arith)

pub returns-in_default-eq0 : goal.returns-in_default-eq0
returns-in_default-eq0 c = size_is _ 0 (granule_four c.in_default-eq0.is-0.1) c.in_default-eq0.is-1

pub returns-in_default-eq1 : goal.returns-in_default-eq1
returns-in_default-eq1 c = size_is _ 1 (granule_four c.in_default-eq1.is-0.1) c.in_default-eq1.is-1

pub returns-in_default-eq2 : goal.returns-in_default-eq2
returns-in_default-eq2 c = size_is _ 2 (granule_four c.in_default-eq2.is-0.1) c.in_default-eq2.is-1

pub returns-in_default : goal.returns-in_default
returns-in_default c = let (((u, a), b), d) = c.in_default.is-1 in size_is _ 3 (granule_four c.in_default.is-0.1) (omega arith)
