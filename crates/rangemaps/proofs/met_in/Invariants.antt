-- `rangemaps::met_in`: what is left to read answers for all.
use Rattle.std.specs.Prelude.{◌≡◌, drop, Ok}
use Rattle.path.specs.Geometry.{granule_of}
use Rattle.path.specs.Areas.{area_of}
use Rattle.rangemaps.specs.Rows.{met_in}
use Rattle.rangemaps.proofs.met_in.Given as goal

abbrev pub invariant-loop-w : goal.invariant-loop-w
invariant-loop-w l = met_in (granule_of l.s.granule) (area_of l.s) l.height (Ok 0) l.part ≡ met_in (granule_of l.s.granule) (area_of l.s) l.height l.met (drop l.w-index l.part)
