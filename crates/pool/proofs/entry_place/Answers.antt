-- `pool::entry_place` meets its contract: no table's place is too great to be counted.
use native.Mathlib.Omega.{arith}
use Rattle.path.specs.Geometry.{granule_of}
use Rattle.path.specs.Laws.{granule_sane, words_fit}
use Rattle.pool.proofs.entry_place.Goals as goal

pub overflow_mul-result : goal.overflow_mul-result
overflow_mul-result c =
    let a = c.args in
    omega (arith, words_fit (granule_of a.granule) (granule_sane a.granule) {n = a.t} c.entries_of.ensures (omega arith))

pub overflow_add-result : goal.overflow_add-result
overflow_add-result c =
    let a = c.args in
    omega (arith, words_fit (granule_of a.granule) (granule_sane a.granule) {n = a.t} c.entries_of.ensures (omega arith))

pub returns : goal.returns
returns c = rw c.entries_of.ensures
