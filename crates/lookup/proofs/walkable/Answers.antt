-- Whether the loop walks meets its contract: each test refuses what breaks its rule, and what is left keeps them all.
use Prim.Native.Nat.{◌+◌}
use mathlib.Core.Path.{sym, ◌∙◌}
use mathlib.Core.Bool.{false≢true}
use native.Mathlib.Omega.{arith}
use borrow.Author.Tests.{eqb-true, eq-eqb}
use Rattle.path.specs.Geometry.{granule_of}
use Rattle.path.specs.Laws.{granule_sane, words_fit, good_levels_lem, levels_some, same_truth}
use Rattle.lookup.specs.Reaches.{can_walk_lem, cannot_walk, walk_can}
use Rattle.lookup.proofs.walkable.Goals as goal

pub returns-then-s-gt-PHYSICAL : goal.returns-then-s-gt-PHYSICAL
returns-then-s-gt-PHYSICAL c = sym (cannot_walk (λ w. omega arith))

pub returns-then-not-good_levels : goal.returns-then-not-good_levels
returns-then-not-good_levels c =
    let s = c.args.s in
    sym (cannot_walk (λ w. false≢true (sym c.if-not-good_levels.true ∙ c.good_levels.ensures ∙ levels_some (granule_of s.granule) w.enough w.not_more)))

pub returns-then-target-s : goal.returns-then-target-s
returns-then-target-s c = sym (cannot_walk (λ w. omega arith))

pub returns-then-s-gt-MOST_TABLES : goal.returns-then-s-gt-MOST_TABLES
returns-then-s-gt-MOST_TABLES c = sym (cannot_walk (λ w. omega arith))

pub returns-then-s : goal.returns-then-s
returns-then-s c = sym (cannot_walk (λ w. omega arith))

pub returns-then-tables-lt1 : goal.returns-then-tables-lt1
returns-then-tables-lt1 c = sym (cannot_walk (λ w. omega arith))

pub overflow_mul-result : goal.overflow_mul-result
overflow_mul-result c =
    let s = c.args.s in
    omega (arith, words_fit (granule_of s.granule) (granule_sane s.granule) {n = s.tables + s.tables2} c.entries_of.ensures (omega arith))

pub returns : goal.returns
returns c =
    let levels = good_levels_lem _ _ (sym c.good_levels.ensures ∙ c.if-not-good_levels.false) in
    rw c.entries_of.ensures
    (same_truth _ _
    (λ e. walk_can (record {
      low = omega arith;
      enough = levels.0;
      not_more = levels.1;
      above = omega arith;
      some_table = omega arith;
      few = omega arith;
      whole = eqb-true _ _ e;
    }))
    (λ e. eq-eqb _ _ (can_walk_lem e).whole))
