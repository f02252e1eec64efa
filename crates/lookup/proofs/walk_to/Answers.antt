-- `lookup::walk_to` tests the setup numbers, then walks from the root.
use Prim.Native.Nat.{ℕ, ◌≤◌, ◌<◌}
use mathlib.Core.List.{List, ◌++◌}
use mathlib.Core.Path.{◌≡◌, sym, ◌∙◌}
use native.Mathlib.Decide.{dec_lt}
use native.Mathlib.Omega.{arith}
use Rattle.path.specs.Areas.{area_of, total}
use Rattle.path.specs.Geometry.{Granule, granule_of}
use Rattle.path.specs.Numbers.{most_tables}
use Rattle.path.specs.declared.Setup.{Setup}
use Rattle.lookup.specs.Walks.{nowhere, walk_by}
use Rattle.lookup.specs.WalkLaws.{walk_no_level, walk_too_many, walk_by_lem}
use Rattle.lookup.proofs.walk_to.Goals as goal

-- numbers that no pool has
no_pool :
    (G : Granule) (s : Setup) (ws : List ℕ) (target a : ℕ) → (1 ≤ s.levels → most_tables < total (area_of s))
    → walk_by G s ws target a ≡ nowhere
no_pool G s ws target a f = go (dec_lt s.levels 1)
  where
    go : Dec (s.levels < 1) → walk_by G s ws target a ≡ nowhere
    go (yes h) = walk_no_level G s ws target a h
    go (no h) = let l : 1 ≤ s.levels = omega arith in walk_too_many G s ws target a l (f l)

pub returns-then-levels-lt1 : goal.returns-then-levels-lt1
returns-then-levels-lt1 c =
    let a = c.args in
    c.ended.ensures ∙ sym (no_pool (granule_of a.s.granule) a.s (a.words.now ++ a.second.now) a.target a.address (λ l. grind arith))

pub returns : goal.returns
returns c =
    let a = c.args in
    c.walk.ensures
    ∙ walk_by_lem (granule_of a.s.granule) a.s (a.words.now ++ a.second.now) a.target a.address c.if-levels-lt1.false (omega arith) c.path_of.ensures
