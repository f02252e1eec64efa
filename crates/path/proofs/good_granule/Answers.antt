-- `path::good_granule` meets its contract.
use borrow.Author.Tests.{ne_eqb}
use Rattle.path.proofs.good_granule.Goals as goal

pub returns-then-granule-eq-KIB4 : goal.returns-then-granule-eq-KIB4
returns-then-granule-eq-KIB4 c = rw c.if-granule-eq-KIB4.true

pub returns : goal.returns
returns c = rw (ne_eqb _ _ c.if-granule-eq-KIB4.false)
