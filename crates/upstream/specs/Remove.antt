-- What the laws of proofs/Remove.antt speak of.
use Rattle.std.specs.Prelude.{set}
use Prim.Native.Nat.{ℕ}
use Rattle.path.specs.Geometry.{Granule}
use Rattle.path.specs.Paths.{path_of}
use Rattle.entry.specs.declared.Entry.{Entry}
use Rattle.entry.specs.declared.Entry.TheVariants.{Empty, Table, Frame, Damaged}
use Rattle.model.specs.Answers.{Pool, pool}
use Rattle.model.specs.Walk.{slot, at_height}
use Rattle.model.specs.Writes.{memory, perform_all, prune_writes}
use Rattle.model.specs.Calls.{walk_to}
use Rattle.upstream.specs.Calls.{giving}

-- `remove` with no `prune`, along a path to height g: the entry where the walk ends is cleared, and nothing else
abbrev pub removed : Granule → Pool → ℕ → ℕ → Pool
removed G p g a =
    let o = walk_to G p g a in
    pool p.numbers (set p.words (slot G (at_height o.tables o.left) (at_height (path_of G a) o.left)) 0) p.cut p.list

-- `prune` with no `remove`: where the path ends at an empty entry, the tables on it that have no entry, from the last one upward, are unlinked; a path
-- that ends at a frame has none
abbrev pub pruned_by : Granule → Pool → ℕ → Entry → Pool
pruned_by G p a Empty =
    let o = walk_to G p 0 a in
    pool p.numbers (perform_all G (prune_writes G o.tables (path_of G a) o.left p.numbers.free (giving G p a)) (memory p.words p.list)).words p.cut p.list
pruned_by G p a (Table _) = p
pruned_by G p a (Frame _ _) = p
pruned_by G p a Damaged = p

abbrev pub pruned : Granule → Pool → ℕ → Pool
pruned G p a = pruned_by G p a (walk_to G p 0 a).entry
