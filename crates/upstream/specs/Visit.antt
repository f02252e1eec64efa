-- What the laws of proofs/Visit.antt speak of.
use Rattle.std.specs.Prelude.{take}
use mathlib.Core.List.{List}
use Prim.Native.Nat.{ℕ, ◌-◌, ◌≤◌, ◌<◌}
use Rattle.path.specs.Geometry.{Granule}
use Rattle.path.specs.Paths.{indices}
use Rattle.entry.specs.Words.{Framed}
use Rattle.entry.specs.declared.Entry.{Entry}
use Rattle.entry.specs.declared.Entry.TheVariants.{Empty, Table, Frame, Damaged}

-- `is_entry_valid`: what may stand at height h
abbrev pub EntryValid : Granule → ℕ → ℕ → Entry → Type 0
EntryValid G n h Empty = Unit {0}
EntryValid G n h (Table c) = (1 ≤ h) × (1 ≤ c) × (c < n)
EntryValid G n h (Frame b k) = Framed G h b k
EntryValid G n h Damaged = ⊥

-- `real_path`: of the path with n places those that the walk used, which ended at height h
abbrev pub real_path : Granule → ℕ → ℕ → ℕ → List ℕ
real_path G a n h = take (n - h) (indices G a n)
