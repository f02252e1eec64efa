-- `plans::step_words`: by cases of the step.
use mathlib.Core.Path.{sym, ap, ◌∙◌}
use mathlib.Core.List.{◌++◌}
use Rattle.path.specs.Geometry.{granule_of}
use Rattle.model.specs.Writes.{memory, perform}
use Rattle.plans.specs.declared.Step.{Step}
use Rattle.plans.specs.Plan.{write_of}
use Rattle.plans.proofs.step_words.Goals as goal

pub returns-in-Store : goal.returns-in-Store
returns-in-Store c =
    let a = c.args in
    λ k e l. c.put.ensures ∙ ap (λ (s : Step). (perform (granule_of a.granule) (write_of s) (memory (a.words.now ++ a.second.now) l)).words) (sym c.in-Store.is)

pub returns-in-Wipe : goal.returns-in-Wipe
returns-in-Wipe c =
    let a = c.args in
    λ k e l. c.wipe.ensures k e ∙ ap (λ (s : Step). (perform (granule_of a.granule) (write_of s) (memory (a.words.now ++ a.second.now) l)).words) (sym c.in-Wipe.is)

pub returns-in-Give : goal.returns-in-Give
returns-in-Give c =
    let a = c.args in
    λ k e l. ap (λ (s : Step). (perform (granule_of a.granule) (write_of s) (memory (a.words.now ++ a.second.now) l)).words) (sym c.in-Give.is)
