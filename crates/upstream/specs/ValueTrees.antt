-- The tree that a pool's words hold, as one of upstream's nodes. What stands below the last level, and what a damaged word says, is no part of it: neither
-- is in a well-formed tree.
use Rattle.std.specs.Prelude.{ℕ, zero, suc, ◌-◌, cond, List, ltb, take}
use Rattle.path.specs.Geometry.{Granule, entries, size_at}
use Rattle.path.specs.Areas.{Area, area_of}
use Rattle.path.specs.Paths.{indices}
use Rattle.entry.specs.Words.{entry_at}
use Rattle.entry.specs.declared.Entry.{Entry}
use Rattle.entry.specs.declared.Entry.TheVariants as said
use Rattle.model.specs.Answers.{Mapping, Pool}
use Rattle.model.specs.Sound.{word_at}
use Rattle.upstream.specs.Values.{Arch, SpecFrame, NodeEntry, Node, Frame, Empty, Path}

-- the architecture of n levels
abbrev pub arch_of : Granule → ℕ → Arch
arch_of G n = record { levels = n; count = λ l. entries G; size_of = λ l. size_at G (n - suc l) }

-- the frame of a mapping
abbrev pub frame_of : Mapping → SpecFrame
frame_of m = record { base = m.frame; size = m.size; attributes = m.attributes }

-- the path of an address from the root of n levels to its entry of height g
abbrev pub path_to : Granule → ℕ → ℕ → ℕ → Path
path_to G n a g = take (n - g) (indices G a n)

-- an entry of height h; a table is the node that `below` says
abbrev pub entry_of : Granule → ℕ → (ℕ → NodeEntry) → Entry → NodeEntry
entry_of G h below said.Empty = Empty
entry_of G h below (said.Table c) = below c
entry_of G h below (said.Frame b k) = Frame (record { base = b; size = size_at G h; attributes = k })
entry_of G h below said.Damaged = Empty

-- the node of table t, whose entries have height h - 1, in a tree of n levels
abbrev pub node_at : Granule → List ℕ → Area → ℕ → ℕ → ℕ → NodeEntry
node_at G ws area n zero t = Empty
node_at G ws area n (suc h) t =
    Node (n - suc h) (λ i. cond (ltb i (entries G)) (entry_of G h (node_at G ws area n h) (entry_at G area h (word_at G ws t i))) Empty)

-- the tree of a pool, from its root
abbrev pub tree_of : Granule → Pool → NodeEntry
tree_of G p = node_at G p.words (area_of p.numbers) p.numbers.levels p.numbers.levels 0
