-- `entry::frame_at` meets its contract: a word that equals the frame word of its own bits is that frame, any other is damaged.
use mathlib.Core.Path.{sym, ap₂, ◌∙◌}
use mathlib.Core.Bool.{false≢true}
use native.Mathlib.Omega.{arith}
use borrow.Author.Tests.{eqb-true, eq-eqb}
use Rattle.path.specs.Geometry.{granule_of}
use Rattle.path.specs.Laws.{granule_sane, level_some}
use Rattle.entry.proofs.Laws.{frame_at_own, frame_at_not}
use Rattle.entry.specs.declared.Entry.TheVariants.{Frame}
use Rattle.entry.proofs.frame_at.Goals as goal

pub returns-then-height-large_of : goal.returns-then-height-large_of
returns-then-height-large_of c = sym (frame_at_not _ _ _ (λ level aligned same. omega (arith, c.large_of.ensures)))

pub returns-then-rest_at-ne0 : goal.returns-then-rest_at-ne0
returns-then-rest_at-ne0 c =
    let a = c.args in
    let S = granule_sane a.granule in
    let e = c.rest_at.ensures ∙ level_some (granule_of a.granule) (omega (arith, c.large_of.ensures)) _ in
    sym (frame_at_not _ _ _ (λ level aligned same. c.if-rest_at-ne0.true (e ∙ rw c.base_in-base.ensures aligned)))

pub returns-then-is_frame : goal.returns-then-is_frame
returns-then-is_frame c =
    let a = c.args in
    let G = granule_of a.granule in
    let S = granule_sane a.granule in
    let b = c.base_in-base.ensures in
    let n = c.large_of.ensures in
    let e = c.rest_at.ensures ∙ level_some G (omega arith) _ in
    ap₂ Frame b c.attrs_in.ensures
    ∙ sym
    (frame_at_own G a.height a.w (omega arith)
    (rw b at (sym e ∙ c.if-rest_at-ne0.false))
    (eqb-true a.w _ (sym c.is_frame.ensures ∙ c.if-is_frame.true)))

pub returns : goal.returns
returns c =
    let a = c.args in
    sym
    (frame_at_not (granule_of a.granule) a.height a.w
    (λ level aligned same. false≢true (sym c.if-is_frame.false ∙ c.is_frame.ensures ∙ eq-eqb a.w _ same)))
