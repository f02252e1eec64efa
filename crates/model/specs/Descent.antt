-- The walk in the paper's words, of any pool: descend from the root until an entry is not a table or the target level is reached; a table that is come
-- to twice is damage. DescentLaws says that each walk ends so, and in no other way.
use Rattle.std.specs.Prelude.{ℕ, suc, ◌-◌, ◌≤◌, ◌≡◌, ◌≢◌}
use mathlib.Core.List.{List, [], ◌∷◌, Memᴰ}
use Rattle.path.specs.Geometry.{Granule}
use Rattle.path.specs.Areas.{area_of}
use Rattle.path.specs.Paths.{path_of}
use Rattle.entry.specs.Words.{Says}
use Rattle.entry.specs.declared.Entry.{Entry}
use Rattle.entry.specs.declared.Entry.TheVariants.{Table, Damaged}
use Rattle.model.specs.Answers.{Pool}
use Rattle.model.specs.Walk.{at_height}
use Rattle.model.specs.Calls.{walk_to}
use Rattle.model.specs.Sound.{word_at}

-- what the path's entry says in table t, whose entries have height h
abbrev pub Reads : Granule → Pool → ℕ → ℕ → ℕ → Entry → Type 0
Reads G p a h t e = Says G (area_of p.numbers) h (word_at G p.words t (at_height (path_of G a) h)) e

-- for address a and target height g, from table t, whose entries have height h, after the tables `seen`: the walk ends with e, h levels left
pub data Descends (G : Granule) (p : Pool) (a g : ℕ) : ℕ → ℕ → List ℕ → Entry → ℕ → Type 0 where
  -- at an entry that is no table
  at_entry : {h t : ℕ} {seen : List ℕ} {e : Entry} → Reads G p a h t e → ((c : ℕ) → e ≢ Table c) → Descends G p a g h t seen e h
  -- at a table of the target height
  at_target : {h t : ℕ} {seen : List ℕ} {c : ℕ} → Reads G p a h t (Table c) → h ≤ g → Descends G p a g h t seen (Table c) h
  -- damaged, at a table that it has come to before
  come_again : {h t : ℕ} {seen : List ℕ} {c : ℕ} → Reads G p a (suc h) t (Table c) → g ≤ h → Memᴰ c (t ∷ seen) → Descends G p a g (suc h) t seen Damaged h
  -- or further down
  go_down : {h t : ℕ} {seen : List ℕ} {c : ℕ} {e : Entry} {l : ℕ}
      → Reads G p a (suc h) t (Table c)
      → g ≤ h
      → (Memᴰ c (t ∷ seen) → ⊥)
      → Descends G p a g h c (t ∷ seen) e l
      → Descends G p a g (suc h) t seen e l

-- from the root
abbrev pub WalkEnds : Granule → Pool → ℕ → ℕ → Entry → ℕ → Type 0
WalkEnds G p a g e l = Descends G p a g (p.numbers.levels - 1) 0 [] e l

-- on its way the walk comes to table t, whose entries have height h, after the tables `seen`
pub data Comes (G : Granule) (p : Pool) (a g : ℕ) : ℕ → ℕ → List ℕ → Type 0 where
  -- the root
  at_root : Comes G p a g (p.numbers.levels - 1) 0 []
  -- and a table that an entry above the target names, unless it has come to it before
  further : {h t : ℕ} {seen : List ℕ} {c : ℕ}
      → Comes G p a g (suc h) t seen
      → Reads G p a (suc h) t (Table c)
      → g ≤ h
      → (Memᴰ c (t ∷ seen) → ⊥)
      → Comes G p a g h c (t ∷ seen)

-- the walk stops with e, and the level where it stopped is that of the entries of height h
abbrev pub StopsAt : Granule → Pool → ℕ → ℕ → Entry → ℕ → Type 0
StopsAt G p a g e h = ((walk_to G p g a).entry ≡ e) × ((walk_to G p g a).left ≡ h)
