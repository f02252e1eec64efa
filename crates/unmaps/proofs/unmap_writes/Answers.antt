-- `unmaps::unmap_writes`: after i turns the memory is that of the first i writes.
use Prim.Native.Nat.{◌+◌, ◌*◌}
use mathlib.Core.List.{List, ◌++◌}
use mathlib.Core.Path.{◌≡◌, refl, ap, ◌∙◌}
use native.Mathlib.Omega.{arith}
use Rattle.path.specs.Geometry.{granule_of}
use Rattle.path.specs.Paths.{path_of}
use Rattle.path.specs.Laws.{granule_sane}
use Rattle.model.specs.Writes.{Write, memory, perform_all}
use Rattle.plans.specs.Steps.{both_next}
use Rattle.unmaps.proofs.Prunes.{unmap_all}
use Rattle.unmaps.proofs.unmap_writes.Goals as goal

pub overflow_mul-i-end : goal.overflow_mul-i-end
overflow_mul-i-end c = omega (arith, granule_sane c.args.granule)

pub overflow_add-i-end : goal.overflow_add-i-end
overflow_add-i-end c = omega (arith, granule_sane c.args.granule)

pub loop-i-init : goal.loop-i-init
unfolding perform_all
loop-i-init c n q = refl

pub loop-i-preserved : goal.loop-i-preserved
loop-i-preserved c n q = both_next _ _ c.loop-i.i c.unmap_step-step.ensures _ (c.loop-i.invariant n q) (c.step_all.ensures n (c.loop-i.auto.words ∙ q))

pub returns : goal.returns
returns c n q =
    let a = c.args in
    let G = granule_of a.granule in
    let end : c.loop-i.i ≡ 2 * a.given + 1 = omega arith in
    (rw end at c.loop-i.invariant n q)
    ∙ ap (λ (x : List Write). perform_all G x (memory (a.words.now ++ a.second.now) a.list.now)) (unmap_all G a.way.now (path_of G a.address) a.left a.free a.given)
