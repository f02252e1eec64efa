-- The walk as a loop meets its contract: at each turn the walk that is left is the whole walk.
use Prim.Native.Nat.{ℕ}
use mathlib.Core.Path.{◌≡◌, sym, ◌∙◌}
use Rattle.std.specs.Prelude.{Some, None}
use mathlib.Core.List.{◌++◌}
use native.Mathlib.Omega.{arith}
use Rattle.path.specs.Geometry.{granule_of}
use Rattle.path.specs.Areas.{area_of}
use Rattle.path.specs.Laws.{granule_sane}
use Rattle.entry.specs.Words.{child_at}
use Rattle.links.specs.TreeLaws.{child_some, child_none}
use Rattle.lookup.specs.Reaches.{can_walk_lem}
use Rattle.lookup.proofs.Turns.{tells_nowhere, turn_first, turn_past, tells_target, tells_none, tells_again, turn_down, can_both}
use Rattle.lookup.proofs.reach.Goals as goal
use Rattle.lookup.proofs.reach.Goals.{After-child_in}

pub returns-then-not-walkable : goal.returns-then-not-walkable
returns-then-not-walkable c =
    let a = c.args in
    let G = granule_of a.s.granule in
    let ws = a.words.now ++ a.second.now in
    let told = tells_nowhere G a.s ws a.target a.address (can_both G a.s a.words.now a.second.now a.target c.walkable.ensures c.if-not-walkable.true) in
    record { end = told.0; place = told.1 }

-- the word names no table, or this one
none : (c : After-child_in) → c.child_in.result ≡ None → child_at (granule_of c.args.s.granule) (area_of c.args.s) c.word-w.result ≡ 0
none c =
    let k = can_walk_lem (sym c.walkable.ensures ∙ c.if-not-walkable.false) in
    child_none c.args.s c.of-tree.ensures (omega (arith, k)) (omega (arith, k)) c.word-w.result c.child_in.ensures

some : (c : After-child_in) {t : ℕ} → c.child_in.result ≡ Some t → (t ≡ child_at (granule_of c.args.s.granule) (area_of c.args.s) c.word-w.result) × (t ≡ 0 → ⊥)
some c =
    let k = can_walk_lem (sym c.walkable.ensures ∙ c.if-not-walkable.false) in
    child_some c.args.s c.of-tree.ensures (omega (arith, k)) (omega (arith, k)) c.word-w.result c.child_in.ensures

pub loop-h-init : goal.loop-h-init
loop-h-init c =
    let a = c.args in
    let G = granule_of a.s.granule in
    let ws = a.words.now ++ a.second.now in
    turn_first G a.s ws a.target a.address (granule_sane a.s.granule) (can_both G a.s a.words.now a.second.now a.target c.walkable.ensures c.if-not-walkable.false)

pub returns-then-h-target : goal.returns-then-h-target
returns-then-h-target c =
    let told = tells_target c.loop-h.invariant (omega arith) c.index_at-i.ensures c.entry_place-place.ensures c.if-h-target.true in
    record { end = told.0; place = told.1 }

pub returns-in_default : goal.returns-in_default
returns-in_default c =
    let told = tells_none c.loop-h.invariant (omega arith) c.index_at-i.ensures c.entry_place-place.ensures c.word-w.ensures (none (goal.at.returns-in_default c).After-child_in c.in_default.is) in
    record { end = told.0; place = told.1 }

pub returns-then-child-t : goal.returns-then-child-t
returns-then-child-t c =
    let child = some (goal.at.returns-then-child-t c).After-child_in c.in-Some.is in
    let told = tells_again c.loop-h.invariant (omega arith) c.index_at-i.ensures c.entry_place-place.ensures c.word-w.ensures child.0 child.1 c.if-h-target.false c.then-child-t.either in
    record { end = told.0; place = told.1 }

pub loop-h-preserved-then-h-s : goal.loop-h-preserved-then-h-s
loop-h-preserved-then-h-s c =
    let child = some (goal.at.loop-h-preserved-then-h-s c).After-child_in c.in-Some.is in
    turn_down c.loop-h.invariant (omega arith) c.index_at-i.ensures c.entry_place-place.ensures c.word-w.ensures child.0 child.1 c.if-h-target.false c.if-child-t.false c.if-child-up.false

pub loop-h-preserved : goal.loop-h-preserved
loop-h-preserved c = turn_past c.loop-h.invariant (omega arith)

pub returns : goal.returns
returns c = let T = c.loop-h.invariant in absurd (omega arith)
