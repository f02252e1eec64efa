-- `contents::any_in_step`: words whose bits together are 0 are 0.
use Rattle.contents.proofs.Laws.{step_zero}
use Rattle.contents.proofs.any_in_step.Goals as goal

pub returns : goal.returns
returns c =
    let a = c.args in
    step_zero a.w.now a.i
