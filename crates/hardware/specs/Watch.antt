-- What the laws of proofs/Watch.antt speak of.
use Rattle.std.specs.Prelude.{List}
use Rattle.path.specs.Geometry.{Granule}
use Rattle.model.specs.Answers as answers
use Rattle.model.specs.Answers.{Pool}
use Rattle.model.specs.Writes.{Write}
use Rattle.hardware.specs.Machine.{Switch, AnyOrder, Overtaken}

-- what is promised of single writes ws that take the live mappings of the pool p from L to L'; `One` where all addresses change at once
pub record Seen (G : Granule) (p : Pool) (L L' : List answers.Mapping) (ws : List Write) (One : Type 0) : Type 0 where
  pub each_write : One → Switch G p L L' ws
  pub any_order : One → AnyOrder G p L L' ws
  pub overtaken : Overtaken G p L L' ws
