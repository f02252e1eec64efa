-- What the parts of unmapping a range ask and answer, over the lent memory.
use Rattle.std.specs.Prelude.{ℕ, ◌+◌, ◌*◌, ◌≤◌, ◌<◌, ◌≡◌, true, List, ◌++◌, length, Result, Ok, Err}
use Rattle.laws.specs.Lists.{zeroed}
use Rattle.path.specs.Geometry.{Granule, page_size}
use Rattle.path.specs.declared.Setup.{Setup}
use Rattle.entry.specs.declared.Entry.TheVariants.{Damaged}
use Rattle.model.specs.declared.Walked.{Walked}
use Rattle.model.specs.declared.Refusal.{Refusal}
use Rattle.model.specs.declared.Refusal.TheVariants as R
use Rattle.model.specs.Answers.{Pool, pool}
use Rattle.model.specs.Calls.{good_pool}
use Rattle.sweeps.specs.Parts.{Rest, Sure, Removes, Allowed, Meets}
use Rattle.rangeunmaps.specs.declared.Met.{Met}
use Rattle.rangeunmaps.specs.declared.Slots.{Slots}
use Rattle.rangeunmaps.specs.declared.Gone.{Gone}

-- what the code has of a walk: a hole or a frame, or damage
abbrev pub Looks : Walked → Result Met Refusal → List ℕ → Type 0
Looks o (Ok m) way = Meets o m.frame m.height way
Looks o (Err r) way = (o.entry ≡ Damaged) × (r ≡ R.Damage)

-- with some free list these numbers and words are a good pool
abbrev pub SomePool : Granule → Setup → List ℕ → ℕ → Type 0
SomePool G s ws cut = (list : List ℕ) × (good_pool G (pool s ws cut list) ≡ true)

-- and the range is one that is left of it
abbrev pub SomeRest : Granule → Setup → List ℕ → ℕ → ℕ → ℕ → Type 0
SomeRest G s ws cut a end = (list : List ℕ) × Rest G (pool s ws cut list) a end

-- and neither a test nor its walks say anything against it
abbrev pub SomeAllowed : Granule → Setup → List ℕ → ℕ → ℕ → ℕ → Type 0
SomeAllowed G s ws cut a len = (list : List ℕ) × Allowed G (pool s ws cut list) a len

-- and what is left of the range can be unmapped
abbrev pub SomeSure : Granule → Setup → List ℕ → ℕ → ℕ → ℕ → Type 0
SomeSure G s ws cut a end = (list : List ℕ) × Sure G (pool s ws cut list) a end

-- unmap at each of some pages from a on does nothing but clear their words, which one of the runs holds
pub record Clears (G : Granule) (s : Setup) (ws : List ℕ) (cut a end : ℕ) (r : Slots) : Type 0 where
  pub some : 0 < r.count
  pub within : a + r.count * page_size G ≤ end
  pub held : r.place < cut → r.place + r.count ≤ cut
  pub removes : (list : List ℕ) → good_pool G (pool s ws cut list) ≡ true
      → Removes G (pool s ws cut list) a (a + r.count * page_size G) r.used 0 (pool s (zeroed ws r.place r.count) cut list)

-- what a part of a range that is done comes to, with the memory then
abbrev pub Did : Granule → Pool → ℕ → Gone → List ℕ → List ℕ → List ℕ → Type 0
Did G p a g first second list = Removes G p a g.next g.removed g.given (pool g.setup (first ++ second) (length first) list)
