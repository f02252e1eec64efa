-- The words of a table meet their contract, by the granule.
use Rattle.path.specs.Laws.{granule_sixteen, granule_four}
use Rattle.armwalk.proofs.words_in.Goals as goal

pub returns-then-granule-eq-KIB16 : goal.returns-then-granule-eq-KIB16
returns-then-granule-eq-KIB16 c = rw (granule_sixteen c.if-granule-eq-KIB16.true)

pub returns-else-granule-eq-KIB16 : goal.returns-else-granule-eq-KIB16
returns-else-granule-eq-KIB16 c = rw (granule_four c.if-granule-eq-KIB16.false)
