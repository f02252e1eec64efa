-- `oakabut::oak_audit` hands on what the call of `pagetable` answers. Assumes nothing.
use mathlib.Core.Path.{ap, ◌∙◌}
use Rattle.path.specs.Geometry.{granule_of}
use Rattle.path.specs.declared.Setup.{Setup}
use Rattle.model.specs.Answers.{pool}
use Rattle.model.specs.Audit.{audit_w}
use Rattle.oakabut.proofs.Hands.{hears}
use mathlib.Core.List.{◌++◌}
use lib.ListN.{length}
use Rattle.oakabut.proofs.oak_audit.Goals as goal

pub returns : goal.returns
returns c =
    let a = c.args in
    let e = ap (λ (z : Setup). audit_w (granule_of z.granule) (pool z (a.words.now ++ a.second.now) (length a.words.now) a.list.now)) c.setup_at.ensures in
    hears (c.audit-done.ensures.whole ∙ e) c.audited.ensures
