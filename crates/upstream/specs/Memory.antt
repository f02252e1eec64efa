-- What the laws of proofs/Memory.antt speak of.
use Rattle.std.specs.Prelude.{◌≡◌, ◌≢◌, ℕ, ◌+◌, ◌%◌, ◌≤◌, ◌<◌, length}
use mathlib.Core.List.{List}
use Rattle.path.specs.Geometry.{Granule, page_size, entries}
use Rattle.path.specs.Areas.{Area, total, table_at}
use Rattle.model.specs.Walk.{slot}
use Rattle.model.specs.Writes.{Write, store, wipe, give}
use Rattle.model.specs.Audit.{table_words}
use Rattle.upstream.specs.State.{Overlap}

-- `wf`: there is a root, each table is aligned to its size and has its words, and no two overlap
pub record MemoryWf (G : Granule) (area : Area) (ws : List ℕ) : Type 0 where
  pub root : 0 < total area
  pub aligned : (t : ℕ) → t < total area → table_at G area t % page_size G ≡ 0
  pub apart : (t u : ℕ) → t < total area → u < total area → t ≢ u → Overlap (table_at G area t) (page_size G) (table_at G area u) (page_size G) → ⊥
  pub words : (t : ℕ) → t < total area → length (table_words G ws t) ≡ entries G

-- the write changes word j
abbrev pub Names : Granule → Write → ℕ → Type 0
Names G (store i x) j = j ≡ i
Names G (wipe t) j = (slot G t 0 ≤ j) × (j < slot G t 0 + entries G)
Names G (give i t) j = ⊥
