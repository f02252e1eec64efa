-- The translation of an address meets its contract.
use mathlib.Core.Path.{sym, ◌∙◌}
use native.Mathlib.Omega.{arith}
use Rattle.path.specs.Geometry.{granule_of}
use Rattle.path.specs.Laws.{granule_sane}
use Rattle.armwalk.specs.Laws.{fewest_three, levels_few, levels_many, base_high, past_end, from_root}
use Rattle.armwalk.proofs.stage2.Goals as goal

pub returns-then-levels-lt3 : goal.returns-then-levels-lt3
returns-then-levels-lt3 c =
    levels_few (granule_of c.args.granule) c.args.base c.args.words.now c.args.base2 c.args.second.now c.args.address c.args.levels (omega (arith, fewest_three c.args.granule))

pub returns-then-levels-most_levels : goal.returns-then-levels-most_levels
returns-then-levels-most_levels c =
    levels_many (granule_of c.args.granule) c.args.base c.args.words.now c.args.base2 c.args.second.now c.args.address c.args.levels
    (omega (arith, fewest_three c.args.granule)) (omega (arith, c.most_levels.ensures))

pub returns-then-base-gt-PHYSICAL : goal.returns-then-base-gt-PHYSICAL
returns-then-base-gt-PHYSICAL c =
    base_high (granule_of c.args.granule) c.args.base c.args.words.now c.args.base2 c.args.second.now c.args.address c.args.levels
    (omega (arith, fewest_three c.args.granule)) (omega (arith, c.most_levels.ensures)) c.if-base-gt-PHYSICAL.true

pub is_past-requires : goal.is_past-requires
is_past-requires c = omega (arith, c.most_levels.ensures, (granule_sane c.args.granule).most_four)

pub returns-then-is_past : goal.returns-then-is_past
returns-then-is_past c =
    past_end (granule_of c.args.granule) c.args.base c.args.words.now c.args.base2 c.args.second.now c.args.address c.args.levels
    (omega (arith, fewest_three c.args.granule)) (omega (arith, c.most_levels.ensures)) (omega arith) c.if-base-gt-PHYSICAL.false (sym c.is_past.ensures ∙ c.if-is_past.true)

pub descend-requires : goal.descend-requires
descend-requires c = (omega (arith, c.most_levels.ensures, (granule_sane c.args.granule).most_four), omega arith)

pub returns : goal.returns
returns c =
    from_root (granule_of c.args.granule) c.args.base c.args.words.now c.args.base2 c.args.second.now c.args.address c.args.levels
    (omega (arith, fewest_three c.args.granule)) (omega (arith, c.most_levels.ensures)) (omega arith) c.if-base-gt-PHYSICAL.false
    (sym c.is_past.ensures ∙ c.if-is_past.false) _ c.descend.ensures
