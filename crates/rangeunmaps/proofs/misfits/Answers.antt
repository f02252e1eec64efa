use Rattle.std.proofs.Common.{arith}
use Rattle.std.proofs.lemmas.Grind.{common_steps}
use Rattle.path.specs.Geometry.{granule_of}
use Rattle.rangeunmaps.proofs.Faults.{misfits_counted}
use Rattle.rangeunmaps.proofs.misfits.Goals as goal

pub returns : goal.returns
returns c = grind (arith, common_steps, misfits_counted (granule_of c.args.granule) c.args.part.now)
