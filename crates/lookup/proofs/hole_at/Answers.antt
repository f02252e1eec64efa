-- `lookup::hole_at` answers the region of the entry.
use Rattle.std.proofs.Common.{ap₂}
use Rattle.model.specs.Answers.{hole}
use Rattle.lookup.proofs.hole_at.Goals as goal

pub returns : goal.returns
returns c = ap₂ hole c.base_at.ensures c.size_at.ensures
