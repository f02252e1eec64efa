-- What the walk to the last level answers meets its contract: at each turn the walk that is left is the whole walk.
use mathlib.Core.List.{◌++◌}
use Prim.Native.Nat.{ℕ, ◌-◌}
use Rattle.std.specs.Prelude.{Some, None}
use mathlib.Core.Path.{◌≡◌, refl, sym, ◌∙◌}
use native.Mathlib.Omega.{arith}
use Rattle.path.specs.Geometry.{granule_of}
use Rattle.path.specs.Areas.{area_of}
use Rattle.path.specs.Laws.{granule_sane}
use Rattle.entry.specs.Words.{child_at}
use Rattle.links.specs.TreeLaws.{child_some, child_none}
use Rattle.model.proofs.Refusing.{hole_known}
use Rattle.query.proofs.Queries.{turn_first, turn_past, tells_empty, tells_frame, tells_again, turn_down}
use Rattle.query.proofs.ask.Goals as goal
use Rattle.query.proofs.ask.Goals.{After-child_in}

pub loop-h-init : goal.loop-h-init
loop-h-init c =
    let a = c.args in
    turn_first (granule_of a.s.granule) a.s (a.words.now ++ a.second.now) a.address (granule_sane a.s.granule) (omega arith) (omega arith)

pub returns-then-w-eq0 : goal.returns-then-w-eq0
returns-then-w-eq0 c =
    tells_empty c.loop-h.invariant (omega arith) c.path_of-path.ensures c.entry_place.ensures c.word-w.ensures c.if-w-eq0.true
    (c.hole_at.ensures ∙ hole_known (granule_of c.args.s.granule) c.args.address (c.loop-h.h - 1) (omega arith) refl refl)

pub returns-then-h-eq0 : goal.returns-then-h-eq0
returns-then-h-eq0 c =
    tells_frame c.loop-h.invariant (omega arith) c.path_of-path.ensures c.entry_place.ensures c.word-w.ensures c.if-w-eq0.false (λ high. absurd (omega arith)) c.frame_told.ensures

-- the word names no table, or this one
none : (c : After-child_in) → c.child_in.result ≡ None → child_at (granule_of c.args.s.granule) (area_of c.args.s) c.word-w.result ≡ 0
none c = child_none c.args.s c.of-tree.ensures (omega (arith, c.requires)) (omega (arith, c.requires)) c.word-w.result c.child_in.ensures

some : (c : After-child_in) {t : ℕ} → c.child_in.result ≡ Some t → (t ≡ child_at (granule_of c.args.s.granule) (area_of c.args.s) c.word-w.result) × (t ≡ 0 → ⊥)
some c = child_some c.args.s c.of-tree.ensures (omega (arith, c.requires)) (omega (arith, c.requires)) c.word-w.result c.child_in.ensures

pub returns-in_default : goal.returns-in_default
returns-in_default c =
    tells_frame c.loop-h.invariant (omega arith) c.path_of-path.ensures c.entry_place.ensures c.word-w.ensures c.if-w-eq0.false (λ high. none (goal.at.returns-in_default c).After-child_in c.in_default.is)
    c.frame_told-in_default.ensures

pub returns-then-among_four : goal.returns-then-among_four
returns-then-among_four c =
    let child = some (goal.at.returns-then-among_four c).After-child_in c.in-Some.is in
    tells_again c.loop-h.invariant (omega arith) c.path_of-path.ensures c.entry_place.ensures c.word-w.ensures child.0 child.1 c.if-h-eq0.false
    (sym c.among_four.ensures ∙ c.if-among_four.true)

pub loop-h-preserved-then-h-s : goal.loop-h-preserved-then-h-s
loop-h-preserved-then-h-s c =
    let child = some (goal.at.loop-h-preserved-then-h-s c).After-child_in c.in-Some.is in
    turn_down c.loop-h.invariant (omega arith) c.path_of-path.ensures c.entry_place.ensures c.word-w.ensures child.0 child.1 c.if-h-eq0.false
    (sym c.among_four.ensures ∙ c.if-among_four.false)

pub loop-h-preserved : goal.loop-h-preserved
loop-h-preserved c = turn_past c.loop-h.invariant (omega arith) (omega arith)
