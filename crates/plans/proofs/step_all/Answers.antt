-- `plans::step_all`: words and free list, one after the other.
use mathlib.Core.List.{◌++◌}
use Rattle.path.specs.Geometry.{granule_of}
use Rattle.model.specs.Writes.{memory}
use Rattle.plans.proofs.step_all.Goals as goal

pub returns : goal.returns
returns c =
    let a = c.args in
    λ k e j. memory (c.step_words.ensures k e a.list.now j) (c.step_list.ensures (granule_of a.granule) (a.words.now ++ a.second.now) j)
