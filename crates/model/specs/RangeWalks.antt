-- What the laws of proofs/RangeWalks.antt speak of.
use Prim.Native.Nat.{ℕ, suc, ◌-◌, ◌≤◌}
use Rattle.std.specs.Prelude.{◌≡◌, false, get_or}
use mathlib.Core.List.{List}
use Rattle.std.proofs.Math.ListN.{set}
use Rattle.laws.specs.Lists.{among}
use Rattle.path.specs.Geometry.{Granule}
use Rattle.path.specs.Areas.{Area}
use Rattle.entry.specs.Words.{entry_at}
use Rattle.entry.specs.declared.Entry.{Entry}
use Rattle.entry.specs.declared.Entry.TheVariants.{Table}
use Rattle.model.specs.declared.Walked.{Walked}
use Rattle.model.specs.Walk.{slot, at_height}

-- what a path's entry of height h says in table t
abbrev pub read_by : Granule → Area → List ℕ → List ℕ → ℕ → ℕ → Entry
read_by G area ws path h t = entry_at G area h (get_or ws (slot G t (at_height path h)) 0)

-- from table t, whose entries have height h, with `way` above it, a walk comes to table u, whose entries have height e, with `seen` above it
pub data Came (G : Granule) (area : Area) (ws : List ℕ) (target : ℕ) (path : List ℕ) : ℕ → List ℕ → ℕ → ℕ → List ℕ → ℕ → Type 0 where
  there : {h : ℕ} {way : List ℕ} {t : ℕ} → Came G area ws target path h way t h way t
  further : {h : ℕ} {way : List ℕ} {t c e : ℕ} {seen : List ℕ} {u : ℕ}
      → read_by G area ws path (suc h) t ≡ Table c
      → target ≤ h
      → among c (set way (3 - suc h) t) ≡ false
      → Came G area ws target path h (set way (3 - suc h) t) c e seen u
      → Came G area ws target path (suc h) way t e seen u

-- a way through height d: the part above it and the part below it
pub record Through (G : Granule) (area : Area) (ws : List ℕ) (target : ℕ) (path : List ℕ) (h : ℕ) (way : List ℕ) (t d e : ℕ) (seen : List ℕ) (u : ℕ) : Type 0 where
  pub mid : List ℕ
  pub table : ℕ
  pub above : Came G area ws target path h way t d mid table
  pub below : Came G area ws target path d mid table e seen u

-- a walk from its first table to the entry where it ends; so goes every walk but one that comes to a table twice
pub record Stopped (G : Granule) (area : Area) (ws : List ℕ) (target : ℕ) (path : List ℕ) (h : ℕ) (way : List ℕ) (t : ℕ) (o : Walked) : Type 0 where
  pub seen : List ℕ
  pub table : ℕ
  pub came : Came G area ws target path h way t o.left seen table
  pub tables_are : o.tables ≡ set seen (3 - o.left) table
  pub reads : read_by G area ws path o.left table ≡ o.entry
  pub last : (c : ℕ) → o.entry ≡ Table c → o.left ≤ target
