-- Whether an address is past the root meets its contract, by the granule.
use mathlib.Core.Path.{refl}
use Rattle.path.specs.Geometry.{granule_of}
use Rattle.armwalk.specs.Laws.{past_is}
use Rattle.armwalk.proofs.is_past.Goals as goal

pub returns : goal.returns
returns c = past_is (granule_of c.args.granule) c.args.height c.size_at.result c.size_at.ensures refl c.words_in.ensures c.args.address
