-- What the laws of proofs/Tree.antt speak of.
use Rattle.std.specs.Prelude.{ℕ, ◌+◌, ◌≤◌}
use mathlib.Core.List.{Memᴰ}
use Rattle.path.specs.Geometry.{Granule}
use Rattle.model.specs.Answers.{Mapping, Pool}
use Rattle.model.specs.Sound.{mappings_of}

-- `path_mappings`: a mapping that is found in the words
abbrev pub InTree : Granule → Pool → Mapping → Type 0
InTree G p m = Memᴰ m (mappings_of G p)

-- `has_prefix`: the s bytes from a on lie within the t bytes from b on
abbrev pub Inside : ℕ → ℕ → ℕ → ℕ → Type 0
Inside a s b t = (b ≤ a) × (a + s ≤ b + t)
