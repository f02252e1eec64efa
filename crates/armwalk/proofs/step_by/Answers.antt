-- What a word makes of a walk meets its contract.
use mathlib.Core.Path.{◌∙◌}
use native.Mathlib.Omega.{arith}
use Rattle.path.specs.Geometry.{granule_of}
use Rattle.armwalk.specs.Laws.{shift_low, rest_le, step_invalid, step_nothing, step_page, step_next, step_high, step_block}
use Rattle.armwalk.proofs.step_by.Goals as goal

pub returns-then-w-ne1 : goal.returns-then-w-ne1
returns-then-w-ne1 c = step_invalid (granule_of c.args.granule) c.args.address c.args.height c.args.w c.if-w-ne1.true

pub returns-then-w-ne1-2 : goal.returns-then-w-ne1-2
returns-then-w-ne1-2 c =
    step_nothing (granule_of c.args.granule) c.args.address c.args.height c.args.w c.if-w-ne1.false c.if-height-eq0.true c.if-w-ne1-2.true

pub returns-then-height-eq0 : goal.returns-then-height-eq0
returns-then-height-eq0 c =
    c.leaf_step.ensures
    ∙ step_page (granule_of c.args.granule) c.args.address c.args.height c.args.w c.if-w-ne1.false c.if-height-eq0.true c.if-w-ne1-2.false

pub overflow_sub-result : goal.overflow_sub-result
overflow_sub-result c =
    omega (arith, rest_le (granule_of c.args.granule) 0 c.size_at.result c.size_at.ensures (shift_low c.args.granule 0 (omega arith)) c.args.w)

pub returns-then-w-eq1 : goal.returns-then-w-eq1
returns-then-w-eq1 c =
    step_next (granule_of c.args.granule) c.args.address c.args.height c.args.w c.if-w-ne1.false c.if-height-eq0.false c.if-w-eq1.true
    c.size_at.result c.size_at.ensures (shift_low c.args.granule 0 (omega arith))

pub returns-then-height-largest_block : goal.returns-then-height-largest_block
returns-then-height-largest_block c =
    step_high (granule_of c.args.granule) c.args.address c.args.height c.args.w c.if-w-ne1.false c.if-height-eq0.false
    c.if-w-eq1.false (omega (arith, c.largest_block.ensures))

pub returns : goal.returns
returns c =
    c.leaf_step-2.ensures
    ∙ step_block (granule_of c.args.granule) c.args.address c.args.height c.args.w c.if-w-ne1.false c.if-height-eq0.false
    c.if-w-eq1.false (omega (arith, c.largest_block.ensures))
