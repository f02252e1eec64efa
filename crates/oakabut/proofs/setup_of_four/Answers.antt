-- Where the last place has 4096, the setup with that number is the setup there.
use mathlib.Core.Path.{ap, sym, ◌∙◌}
use Rattle.path.specs.Numbers.{setup}
use Rattle.path.specs.declared.Setup.{Setup}
use Rattle.oakabut.proofs.setup_of_four.Goals as goal

pub returns : goal.returns
returns c e =
    ap (λ (z : Setup). setup z.levels z.base z.tables z.free z.base2 z.tables2 4096) c.setup_at.ensures ∙ ap (setup _ _ _ _ _ _) (sym e)
