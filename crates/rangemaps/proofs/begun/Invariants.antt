-- `rangemaps::begun`: the largest region that begins at the address, and all below it.
use Rattle.std.specs.Prelude.{◌≡◌, ◌+◌, ◌<◌}
use Rattle.path.specs.Geometry.{granule_of}
use Rattle.rangemaps.specs.Rows.{begun_at}
use Rattle.rangemaps.proofs.begun.Given as goal

abbrev pub invariant-loop-n : goal.invariant-loop-n
invariant-loop-n l = l.height + l.lack < (granule_of l.granule).most → begun_at (granule_of l.granule) l.address l.height l.lack ≡ begun_at (granule_of l.granule) l.address l.height l.n
