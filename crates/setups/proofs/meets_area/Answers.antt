-- `setups::meets_area` meets its contract: the first region, and then the second where there is one.
use mathlib.Core.Path.{sym, ◌∙◌}
use Rattle.path.specs.Laws.{no_tables, first_decides, second_decides}
use Rattle.setups.proofs.meets_area.Goals as goal

pub returns-then-meets_region : goal.returns-then-meets_region
returns-then-meets_region c = sym (first_decides _ _ _ _ (sym c.meets_region.ensures ∙ c.if-meets_region.true))

pub returns-then-tables2-eq0 : goal.returns-then-tables2-eq0
returns-then-tables2-eq0 c = sym (second_decides _ _ _ _ (sym c.meets_region.ensures ∙ c.if-meets_region.false) ∙ no_tables _ _ _ _ _ c.if-tables2-eq0.true)

pub returns : goal.returns
returns c = c.meets_region-2.ensures ∙ sym (second_decides _ _ _ _ (sym c.meets_region.ensures ∙ c.if-meets_region.false))
