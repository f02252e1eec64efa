-- `setups::good_setup` meets its contract: a granule, good numbers, and room in the free list.
use mathlib.Core.Path.{sym, ◌∙◌}
use mathlib.Core.Bool.{false≢true}
use native.Mathlib.Omega.{arith}
use borrow.Author.Tests.{lt-ltb, ltb-true, eqb-true, eq-eqb, not-true, not-false}
use Rattle.path.specs.Laws.{granule_page, good_numbers_lem, numbers_good, good_setup_lem, setup_good, setup_bad, same_truth}
use Rattle.setups.proofs.good_setup.Goals as goal

pub returns-then-not-good_granule : goal.returns-then-not-good_granule
returns-then-not-good_granule c = sym (setup_bad (λ S. false≢true (sym (not-true _ c.if-not-good_granule.true-raw) ∙ c.good_granule.ensures ∙ granule_page _ ∙ eq-eqb _ _ S.granule_is)))

pub numbers_by-requires : goal.numbers_by-requires
numbers_by-requires c = eqb-true _ _ (sym (granule_page _) ∙ sym c.good_granule.ensures ∙ not-false _ c.if-not-good_granule.false-raw)

pub overflow_add-result : goal.overflow_add-result
overflow_add-result c = let N = good_numbers_lem (sym c.numbers_by.ensures ∙ c.if-numbers_by.true) in omega (arith, N.few)

pub returns-then-numbers_by : goal.returns-then-numbers_by
returns-then-numbers_by c =
    same_truth _ _
    (λ e. setup_good (record {
      granule_is = eqb-true _ _ (sym (granule_page _) ∙ sym c.good_granule.ensures ∙ not-false _ c.if-not-good_granule.false-raw);
      numbers = good_numbers_lem (sym c.numbers_by.ensures ∙ c.if-numbers_by.true);
      room = ltb-true _ _ e;
    }))
    (λ e. lt-ltb _ _ (good_setup_lem e).room)

pub returns : goal.returns
returns c = sym (setup_bad (λ S. false≢true (sym c.if-numbers_by.false ∙ c.numbers_by.ensures ∙ numbers_good S.numbers)))
