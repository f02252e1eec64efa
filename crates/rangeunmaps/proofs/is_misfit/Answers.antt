-- `rangeunmaps::is_misfit` tells a word that is neither empty nor a page's.
use Rattle.std.proofs.Common.{◌≡◌, sym, ap, ◌∙◌, ℕ, ◌%◌, not, arith, ne_eqb}
use Rattle.path.specs.Geometry.{granule_of, size_at}
use Rattle.path.specs.Laws.{granule_sane, level_some}
use Rattle.entry.specs.Words.{base_in}
use Rattle.rangeunmaps.proofs.Faults.{fault_askew, fault_page}
use Rattle.rangeunmaps.proofs.is_misfit.Goals as goal
use Rattle.rangeunmaps.proofs.is_misfit.Goals.{After-rest_at-rest}

rest_is : (c : After-rest_at-rest) → c.rest_at-rest.result ≡ base_in c.args.w % size_at (granule_of c.args.granule) 0
rest_is c =
    let a = c.args in
    c.rest_at-rest.ensures ∙ level_some (granule_of a.granule) {h = 0} (omega (arith, granule_sane a.granule)) _ ∙ ap (λ (b : ℕ). b % size_at (granule_of a.granule) 0) c.base_in-base.ensures

pub returns-then-rest-ne0 : goal.returns-then-rest-ne0
returns-then-rest-ne0 c =
    ap not (ne_eqb c.rest_at-rest.result 0 c.if-rest-ne0.true)
    ∙ sym (ap not (fault_askew (granule_of c.args.granule) c.args.w c.if-w-ne0.true (rest_is (goal.at.returns-then-rest-ne0 c).After-rest_at-rest) c.if-rest-ne0.true))

pub returns-else-rest-ne0 : goal.returns-else-rest-ne0
returns-else-rest-ne0 c =
    ap not (c.is_frame-page.ensures ∙ sym (fault_page (granule_of c.args.granule) c.args.w c.if-w-ne0.true (rest_is (goal.at.returns-else-rest-ne0 c).After-rest_at-rest) c.if-rest-ne0.false))
