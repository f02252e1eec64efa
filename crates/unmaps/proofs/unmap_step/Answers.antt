-- `unmaps::unmap_step`: the frame's word, and two writes for each table.
use Prim.Native.Nat.{◌+◌, ◌/◌}
use mathlib.Core.Path.{refl, ◌∙◌}
use mathlib.Core.Logic.{inl, inr}
use native.Mathlib.Omega.{arith}
use Rattle.path.specs.Geometry.{granule_of}
use Rattle.path.specs.Paths.{path_of}
use Rattle.path.specs.Laws.{granule_sane}
use Rattle.model.specs.Walk.{slot, at_height}
use Rattle.plans.specs.Steps.{index_known}
use Rattle.unmaps.proofs.Prunes.{is_clear, is_give}
use Rattle.unmaps.proofs.unmap_step.Goals as goal
use Rattle.unmaps.proofs.unmap_step.Goals.{else-i-gt0-via-then-i-gt0+else-i-eq0, else-i-gt0-via-else-i-gt0}

pub overflow_add-height : goal.overflow_add-height
overflow_add-height c = omega (arith, granule_sane c.args.granule)

pub overflow_add-height-2 : goal.overflow_add-height-2
overflow_add-height-2 c = omega (arith, granule_sane c.args.granule)

pub overflow_sub-at-then-i-eq0 : goal.overflow_sub-at-then-i-eq0
overflow_sub-at-then-i-eq0 c = omega (arith, granule_sane c.args.granule)

pub overflow_add-place : goal.overflow_add-place
overflow_add-place c = omega (arith, granule_sane c.args.granule)

pub returns-then-i-eq0 : goal.returns-then-i-eq0
returns-then-i-eq0 c =
    let a = c.args in
    is_give (granule_of a.granule) a.way.now (path_of (granule_of a.granule) a.address) a.left a.free a.given a.i (omega arith) (omega arith) (omega arith) refl refl

pub overflow_sub-at-2 : goal.overflow_sub-at-2
overflow_sub-at-2 c = omega (arith, granule_sane c.args.granule)

pub returns : goal.returns
returns c =
    let a = c.args in
    let h = a.left + (a.i + 1) / 2 in
    is_clear (granule_of a.granule) a.way.now (path_of (granule_of a.granule) a.address) a.left a.free a.given a.i
    (elim c.else-i-gt0.branch [ else-i-gt0-via-then-i-gt0+else-i-eq0 way ↦ inr (omega (arith, way.if-i-eq0.false)) | else-i-gt0-via-else-i-gt0 way ↦ inl (omega (arith, way.if-i-gt0.false)) ])
    (omega arith)
    (c.entry_place-place.ensures ∙ (λ j. slot (granule_of a.granule) (at_height a.way.now h) (index_known (granule_sane a.granule) a.address h (omega arith) c.index_at-index.ensures j)))
