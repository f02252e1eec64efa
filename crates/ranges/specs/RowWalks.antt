-- Laws of the walks of a row: those of one table.
use Rattle.std.specs.Prelude.{ℕ, suc, ◌+◌, ◌-◌, ◌*◌, ◌/◌, ◌≤◌, ◌<◌, ◌≡◌, ◌≢◌, get_or}
use Rattle.std.proofs.Common.{ap, sym, ◌∙◌, arith}
use Rattle.std.proofs.Math.Decide.{ℕ_discrete}
use Rattle.path.specs.Geometry.{Granule, entries, size_at}
use Rattle.path.specs.Areas.{area_of}
use Rattle.path.specs.Paths.{index_at}
use Rattle.path.specs.PathLaws.{path_of_at}
use Rattle.path.specs.RegionLaws.{region_above}
use Rattle.entry.specs.Words.{entry_at}
use Rattle.entry.specs.declared.Entry.TheVariants.{Damaged}
use Rattle.model.specs.declared.Walked.{Walked}
use Rattle.model.specs.Answers.{Pool}
use Rattle.model.specs.Walk.{slot, at_height, stop}
use Rattle.model.specs.Calls.{walk_to}
use Rattle.model.proofs.RangeWalks.{came_target, walk_stopped, walk_region, walk_table}
use Rattle.ranges.specs.StretchLaws.{row_index, row_region}

module _ (G : Granule) (p : Pool) (few : p.numbers.levels ≤ 4) (h a n : ℕ) (top : h ≤ p.numbers.levels - 1) (some : 0 < p.numbers.levels)
    (room : index_at G a h + n ≤ entries G) (d : (walk_to G p h a).entry ≢ Damaged) where
  abbrev o : Walked
  o = walk_to G p h a

  abbrev next : ℕ → ℕ
  next j = a + j * size_at G h

  pub row_low : h ≤ o.left
  row_low = came_target (walk_stopped G p few h a d).came top

  pub same_table : (j : ℕ) → j < n → a / size_at G (suc h) ≡ next j / size_at G (suc h)
  same_table j l = row_region G a h j (omega arith)

  -- where the first ended above their height, they are all one walk
  pub row_above : h < o.left → (j : ℕ) → j < n → walk_to G p h (next j) ≡ o
  row_above m j l = walk_region G p few h a (next j) top d (region_above G {j = suc h} {h = o.left} m a (next j) (same_table j l))

  -- else each ends at a word of its table
  pub row_here : o.left ≡ h → (j : ℕ) → j < n
      → walk_to G p h (next j) ≡ stop (entry_at G (area_of p.numbers) h (get_or p.words (slot G (at_height o.tables h) (index_at G a h) + j) 0)) h o.tables
  row_here e j l =
      walk_table G p few h a (next j) d e (same_table j l)
      ∙ ap (λ (i : ℕ). stop (entry_at G (area_of p.numbers) h (get_or p.words i 0)) h o.tables)
      (ap (slot G (at_height o.tables h)) (path_of_at G (next j) {h = h} (omega arith) ∙ row_index G a h j (omega arith)) ∙ omega arith)

  -- they end at one height
  pub row_left : (j : ℕ) → j < n → (walk_to G p h (next j)).left ≡ o.left
  row_left j l = go (ℕ_discrete o.left h)
    where
      go : Dec (o.left ≡ h) → (walk_to G p h (next j)).left ≡ o.left
      go (yes e) = ap (λ (w : Walked). w.left) (row_here e j l) ∙ sym e
      go (no e) = ap (λ (w : Walked). w.left) (row_above (omega (arith, row_low)) j l)

  pub row_tables : (j : ℕ) → j < n → (walk_to G p h (next j)).tables ≡ o.tables
  row_tables j l = go (ℕ_discrete o.left h)
    where
      go : Dec (o.left ≡ h) → (walk_to G p h (next j)).tables ≡ o.tables
      go (yes e) = ap (λ (w : Walked). w.tables) (row_here e j l)
      go (no e) = ap (λ (w : Walked). w.tables) (row_above (omega (arith, row_low)) j l)
