-- `indices::path_of` meets its contract, by the granule.
use Rattle.path.specs.Geometry.{size_at}
use Rattle.path.specs.Laws.{granule_sixteen, granule_four}
use Rattle.path.specs.Paths.{index_at, indices, path_of}
use Rattle.indices.proofs.path_of.Goals as goal

pub returns-then-granule-eq-KIB16 : goal.returns-then-granule-eq-KIB16
unfolding path_of indices index_at size_at
returns-then-granule-eq-KIB16 c = rw (granule_sixteen c.if-granule-eq-KIB16.true)

pub returns : goal.returns
unfolding path_of indices index_at size_at
returns c = rw (granule_four c.if-granule-eq-KIB16.false)
