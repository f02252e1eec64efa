-- `rangemaps::met_in`: what is left to read answers for all.
use Rattle.std.specs.Prelude.{ℕ, ◌≡◌, ◌+◌, length, drop, Result}
use Rattle.std.proofs.Common.{sym, ap, ◌∙◌, arith}
use lib.Seq.{set_out}
use Rattle.laws.specs.Lists.{all_zero}
use Rattle.path.specs.Geometry.{granule_of}
use Rattle.path.specs.Areas.{area_of}
use Rattle.model.specs.declared.Refusal.{Refusal}
use Rattle.rangemaps.specs.Rows.{met_in}
use Rattle.rangemaps.proofs.Words.{met_none, met_end, met_next, met_used}
use Rattle.rangemaps.proofs.met_in.Goals as goal
use Rattle.rangemaps.proofs.met_in.Goals.{in-Empty, in-Table}

pub returns-then-zeros_but : goal.returns-then-zeros_but
returns-then-zeros_but c = let a = c.args in
    met_none _ _ _ _ (ap all_zero (sym (set_out a.part.now (length a.part.now) 0 (omega arith))) ∙ sym c.zeros_but.ensures ∙ c.if-zeros_but.true)

pub returns-in-Damaged : goal.returns-in-Damaged
returns-in-Damaged c = let a = c.args in
    let l = c.loop-w in
    sym (l.invariant ∙ met_next _ _ _ _ _ _ c.loop-w-test.true (sym c.in-Damaged.is ∙ c.entry_in.ensures))

pub loop-w-preserved : goal.loop-w-preserved
loop-w-preserved c = let a = c.args in
    let l = c.loop-w in
    elim c.match-entry_in.branch [
      | in-Empty way ↦ l.invariant
          ∙ met_next _ _ _ _ _ _ c.loop-w-test.true (sym way.in-Empty.is ∙ c.entry_in.ensures)
          ∙ ap (λ (m : Result ℕ Refusal). met_in (granule_of a.s.granule) (area_of a.s) a.height m (drop (l.w-index + 1) a.part.now)) (sym way.met-is)
      | in-Table way ↦ l.invariant
          ∙ met_used _ _ _ _ _ _ c.loop-w-test.true c.entry_in.ensures way.in-Table.is
          ∙ ap (λ (m : Result ℕ Refusal). met_in (granule_of a.s.granule) (area_of a.s) a.height m (drop (l.w-index + 1) a.part.now)) (sym way.met-is)
    ]

pub returns : goal.returns
returns c = let a = c.args in
    let l = c.loop-w in
    let e : l.w-index ≡ length a.part.now = omega arith in
    sym (l.invariant ∙ ap (λ (i : ℕ). met_in (granule_of a.s.granule) (area_of a.s) a.height l.met (drop i a.part.now)) e ∙ met_end _ _ _ _ a.part.now)
