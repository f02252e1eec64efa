-- What the laws of proofs/Trait.antt speak of.
use Rattle.path.specs.Geometry.{Granule}
use Rattle.path.specs.Areas.{area_of}
use Rattle.model.specs.Answers.{Pool}
use Rattle.model.specs.Sound.{mappings_of}
use Rattle.model.specs.Ledger.{Ledger, ledger}

-- the trait's `view`: the pool's numbers, and the mappings in its words
abbrev pub view : Granule → Pool → Ledger
view G p = ledger p.numbers.levels (area_of p.numbers) (mappings_of G p)
