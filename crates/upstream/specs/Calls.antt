-- What the laws of proofs/Calls.antt speak of.
use Rattle.std.specs.Prelude.{List, ℕ, ◌-◌}
use Rattle.path.specs.Geometry.{Granule, height_of}
use Rattle.path.specs.Areas.{area_of}
use Rattle.path.specs.Paths.{path_of}
use Rattle.entry.specs.Words.{frame_word}
use Rattle.model.specs.Answers.{Pool}
use Rattle.model.specs.Walk.{at_height}
use Rattle.model.specs.Writes.{Write, map_writes, freed, unmap_writes}
use Rattle.model.specs.Calls.{walk_to}

-- the tables that a map lacks: from the entry where its walk ends down to the frame's height
abbrev pub lacking : Granule → Pool → ℕ → ℕ → ℕ
lacking G p a size = (walk_to G p (height_of G size) a).left - height_of G size

-- the writes of a map that succeeds
abbrev pub writes_of_map : Granule → Pool → ℕ → ℕ → ℕ → ℕ → List Write
writes_of_map G p a b size k =
    let o = walk_to G p (height_of G size) a in
    map_writes G (area_of p.numbers) (path_of G a) p.list (height_of G size) (frame_word b (height_of G size) k) (at_height o.tables o.left) p.numbers.free (lacking G p a size)

-- the tables that an unmap gives back
abbrev pub giving : Granule → Pool → ℕ → ℕ
giving G p a = let o = walk_to G p 0 a in freed G p.words o.tables (path_of G a) o.left (p.numbers.levels - 1 - o.left)

-- the writes of an unmap that succeeds
abbrev pub writes_of_unmap : Granule → Pool → ℕ → List Write
writes_of_unmap G p a = let o = walk_to G p 0 a in unmap_writes G o.tables (path_of G a) o.left p.numbers.free (giving G p a)
