-- `maps::map_writes`: after i turns the words are those of the first i writes.
use Prim.Native.Nat.{◌+◌, ◌*◌}
use mathlib.Core.Path.{◌≡◌, refl, ap, ◌∙◌}
use mathlib.Core.List.{List, ◌++◌}
use native.Mathlib.Omega.{arith}
use Rattle.path.specs.Geometry.{granule_of}
use Rattle.path.specs.Areas.{area_of}
use Rattle.path.specs.Paths.{path_of}
use Rattle.path.specs.Laws.{granule_sane}
use Rattle.model.specs.Writes.{Write, memory, perform_all}
use Rattle.plans.specs.Steps.{words_next}
use Rattle.maps.proofs.Links.{map_all}
use Rattle.maps.proofs.map_writes.Goals as goal

pub overflow_mul-i-end : goal.overflow_mul-i-end
overflow_mul-i-end c = omega (arith, granule_sane c.args.s.granule)

pub overflow_add-i-end : goal.overflow_add-i-end
overflow_add-i-end c = omega (arith, granule_sane c.args.s.granule)

pub loop-i-init : goal.loop-i-init
unfolding perform_all
loop-i-init c t e n q l = refl

pub loop-i-preserved : goal.loop-i-preserved
loop-i-preserved c t e n q = words_next _ _ c.loop-i.i (c.map_step-step.ensures t e) _ (c.loop-i.invariant t e n q) (c.step_words.ensures n (c.loop-i.auto.words ∙ q))

pub returns : goal.returns
returns c t e n q l =
    let a = c.args in
    let G = granule_of a.s.granule in
    let end : c.loop-i.i ≡ 2 * a.need + 1 = omega arith in
    (rw end at c.loop-i.invariant t e n q l)
    ∙ ap (λ (x : List Write). (perform_all G x (memory (a.words.now ++ a.second.now) l)).words) (map_all G (area_of a.s) (path_of G a.address) a.list.now a.height a.word t a.s.free a.need)
