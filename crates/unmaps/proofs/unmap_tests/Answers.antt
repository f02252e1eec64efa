-- `unmaps::unmap_tests` makes the tests in their order.
use mathlib.Core.Path.{sym, ap, ◌∙◌}
use Rattle.path.specs.Geometry.{granule_of}
use Rattle.path.specs.Laws.{granule_sane, level_page}
use Rattle.model.specs.Answers.{tested}
use Rattle.unmaps.proofs.Tests.{unmap_refuses_address, unmap_refuses_unaligned, unmap_refuses_nothing}
use Rattle.unmaps.proofs.unmap_tests.Goals as goal

pub returns-then-not-in_space : goal.returns-then-not-in_space
returns-then-not-in_space c =
    let a = c.args in
    ap tested (unmap_refuses_address (granule_of a.granule) a.levels a.address c.in_space.ensures c.if-not-in_space.true-raw)

pub returns-then-rest_at-ne0 : goal.returns-then-rest_at-ne0
returns-then-rest_at-ne0 c =
    let a = c.args in
    let G = granule_of a.granule in
    ap tested (unmap_refuses_unaligned G a.levels a.address c.in_space.ensures c.if-not-in_space.false-raw
    (λ z. c.if-rest_at-ne0.true (c.rest_at.ensures ∙ level_page G (granule_sane a.granule) a.address ∙ z)))

pub returns : goal.returns
returns c =
    let a = c.args in
    let G = granule_of a.granule in
    ap tested (unmap_refuses_nothing G a.levels a.address c.in_space.ensures c.if-not-in_space.false-raw
    (sym (c.rest_at.ensures ∙ level_page G (granule_sane a.granule) a.address) ∙ c.if-rest_at-ne0.false))
