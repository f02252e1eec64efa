-- A page or block meets its contract.
use native.Mathlib.Omega.{arith}
use Rattle.path.specs.Geometry.{granule_of}
use Rattle.armwalk.specs.Laws.{shift_low, rest_le, rest_few, leaf_none, leaf_some}
use Rattle.armwalk.proofs.leaf_step.Goals as goal

pub returns-then-w-ne1 : goal.returns-then-w-ne1
returns-then-w-ne1 c = leaf_none (granule_of c.args.granule) c.args.address c.args.height c.args.w c.if-w-ne1.true

pub overflow_sub-frame : goal.overflow_sub-frame
overflow_sub-frame c =
    omega (arith, rest_le (granule_of c.args.granule) c.args.height c.size_at-size.result c.size_at-size.ensures (shift_low c.args.granule c.args.height c.requires) c.args.w)

pub overflow_add-result : goal.overflow_add-result
overflow_add-result c =
    omega (arith, rest_few (granule_of c.args.granule) c.args.height c.size_at-size.result c.size_at-size.ensures (shift_low c.args.granule c.args.height c.requires) c.args.address)

pub returns : goal.returns
returns c =
    leaf_some (granule_of c.args.granule) c.args.address c.args.height c.args.w c.size_at-size.result c.size_at-size.ensures
    (shift_low c.args.granule c.args.height c.requires) c.if-w-ne1.false
