use Rattle.std.specs.Prelude.{◌≡◌, not, take, count_by}
use Rattle.path.specs.Geometry.{granule_of}
use Rattle.sweeps.specs.Parts.{is_fine}
use Rattle.rangeunmaps.proofs.misfits.Given as goal

abbrev pub invariant-loop-w : goal.invariant-loop-w
invariant-loop-w l = l.n ≡ count_by (λ w. not (is_fine (granule_of l.granule) w)) (take l.w-index l.part)
