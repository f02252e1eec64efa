-- The index of an address meets its contract, by the granule.
use mathlib.Core.Path.{refl}
use Rattle.path.specs.Geometry.{granule_of}
use Rattle.armwalk.specs.Laws.{index_is}
use Rattle.armwalk.proofs.index_at.Goals as goal

pub returns : goal.returns
returns c = index_is (granule_of c.args.granule) c.args.height c.size_at.result c.size_at.ensures refl c.words_in.ensures c.args.address
