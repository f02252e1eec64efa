-- `marks::note_way` meets its contract: the tables that are left to be noted give the whole answer.
use Prim.Native.Nat.{◌+◌}
use mathlib.Core.Path.{◌≡◌, sym, ap, ◌∙◌}
use mathlib.Core.Bool.{Bool, true, false}
use native.Mathlib.Omega.{arith}
use Rattle.path.specs.Geometry.{granule_of}
use Rattle.model.specs.Walk.{at_height}
use Rattle.marks.specs.Marks.{region_number, noted, note_one, note_from}
use Rattle.marks.specs.MarkLaws.{from_stop, from_more, from_end, way_in, way_high, way_far}
use Rattle.marks.proofs.note_way.Goals as goal
use Rattle.marks.proofs.note_way.Goals.{Else-not-note_one, Then-not-note_one}

-- what the table at height h was noted as
noting : (c : Then-not-note_one)
    → let a = c.args in
    let l = c.loop-h in
    noted false c.note_one.new.stands ≡ note_one l.stands (at_height a.way l.h) (region_number (granule_of a.granule) a.address l.h)
noting c =
    let N = c.note_one in
    ap (λ (f : Bool). noted f N.new.stands) (sym c.if-not-note_one.true) ∙ N.ensures
    ∙ ap (note_one _ _) c.region_number-number.ensures

noted_fine : (c : Else-not-note_one)
    → let a = c.args in
    let l = c.loop-h in
    noted true c.note_one.new.stands ≡ note_one l.stands (at_height a.way l.h) (region_number (granule_of a.granule) a.address l.h)
noted_fine c =
    let N = c.note_one in
    ap (λ (f : Bool). noted f N.new.stands) (sym c.if-not-note_one.false) ∙ N.ensures
    ∙ ap (note_one _ _) c.region_number-number.ensures

pub returns-then-levels-gt4 : goal.returns-then-levels-gt4
returns-then-levels-gt4 c = sym (way_high _ _ _ _ _ _ c.if-levels-gt4.true)

pub returns-then-address-ge-PHYSICAL : goal.returns-then-address-ge-PHYSICAL
returns-then-address-ge-PHYSICAL c = sym (way_far _ _ _ _ _ _ (omega arith) c.if-address-ge-PHYSICAL.true)

pub loop-h-init : goal.loop-h-init
loop-h-init c = way_in _ _ _ _ _ _ (omega arith) (omega arith)

pub returns-then-not-note_one : goal.returns-then-not-note_one
returns-then-not-note_one c =
    let l = c.loop-h in
    sym (l.invariant ∙ from_stop _ _ _ _ l.h _ (omega arith) (noting (goal.at.returns-then-not-note_one c).Then-not-note_one))

pub loop-h-preserved : goal.loop-h-preserved
loop-h-preserved c =
    let l = c.loop-h in
    let a = c.args in
    l.invariant ∙ from_more _ _ _ _ l.h _ (omega arith) (noted_fine (goal.at.loop-h-preserved c).Else-not-note_one)
    ∙ ap (note_from (granule_of a.granule) c.note_one.new.stands a.address a.way (l.h + 1)) (omega arith)

pub returns : goal.returns
returns c = let l = c.loop-h in sym (l.invariant ∙ from_end _ _ _ _ l.h _ (omega arith))
