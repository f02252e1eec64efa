-- The walk from the root meets its contract.
use mathlib.Core.Path.{sym, ◌∙◌}
use Rattle.lookup.specs.WalkLaws.{walk_root, walk_too_high}
use Rattle.lookup.proofs.walk.Goals as goal

pub returns-then-top-gt3 : goal.returns-then-top-gt3
returns-then-top-gt3 c = c.ended.ensures ∙ sym (walk_too_high _ _ _ _ _ c.if-top-gt3.true)

pub returns : goal.returns
returns c = c.descend.ensures ∙ sym (walk_root _ _ _ _ _ c.if-top-gt3.false)
