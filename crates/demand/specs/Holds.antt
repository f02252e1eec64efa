-- A pool that holds a ledger: the audit's rules are kept, the numbers are the ledger's, and the mappings found in the words are the ledger's, in whatever
-- order. A pool whose words are a tree is `WfTree`.
use Rattle.std.specs.Prelude.{◌≡◌, length}
use mathlib.Core.List.{Memᴰ}
use Rattle.path.specs.Geometry.{Granule}
use Rattle.path.specs.Areas.{area_of}
use Rattle.path.specs.Numbers.{GoodSetup}
use Rattle.model.specs.Answers.{Mapping, Pool}
use Rattle.model.specs.Sound.{SoundPool, mappings_of}
use Rattle.model.specs.Ledger.{Ledger, ledger}
use Rattle.laws.specs.Lists.{Distinct}
pub use Rattle.model.specs.Sound.{WfTree}

-- the pool's numbers and the mappings in its words, as a ledger
abbrev pub ledger_of : Granule → Pool → Ledger
ledger_of G p = ledger p.numbers.levels (area_of p.numbers) (mappings_of G p)

pub record Holds (G : Granule) (p : Pool) (A : Ledger) : Type 0 where
  -- the pool's numbers and lengths are good, and the ledger's
  pub good : GoodSetup G p.numbers p.cut (length p.words) (length p.list)
  pub levels_are : p.numbers.levels ≡ A.levels
  pub area_is : area_of p.numbers ≡ A.area
  -- the pool keeps the audit's rules
  pub sound : SoundPool G p
  -- the live mappings are those in the words, each once
  pub live : (m : Mapping) → Memᴰ m A.live → Memᴰ m (mappings_of G p)
  pub listed : (m : Mapping) → Memᴰ m (mappings_of G p) → Memᴰ m A.live
  pub once : Distinct A.live
