-- `host::frame_word` meets its contract: each test refuses as the definition does, and what passes all is an accepted frame.
use mathlib.Core.Path.{sym, ◌∙◌}
use native.Mathlib.Omega.{arith}
use Rattle.entry.specs.Host.{sized_by}
use Rattle.entry.proofs.Laws.{attr_word_le, attr_word_ge}
use Rattle.host.specs.HostLaws.{sized_sane, refused_size, refused_attributes, refused_end, refused_base}
use Rattle.entry.proofs.Made.{type_known}
use Rattle.std.proofs.lemmas.Result.{err_from_is_err_and}
use Rattle.model.specs.declared.Refusal.TheVariants.{Size}
use Rattle.host.proofs.Sums.{height_in, refusal_in, no_size, of_size, frame_size, frame_rest_of, attr_known, host_sum}
use Rattle.host.proofs.frame_word.Goals as goal

pub returns-in_err-height-clause-says : goal.returns-in_err-height-clause-says
returns-in_err-height-clause-says c =
    let (none, why) = refusal_in _ Size (sym c.in_err-height.was ∙ c.ok_or.ensures.value) in
    let (y, is, same) = err_from_is_err_and c.from_residual.result c.from_residual.ensures.1 in
    rw (is, same, why) (sym (refused_size (sized_by _) _ _ _ (no_size _ c.granule_by-granule.ensures c.height_of.ensures none)))

pub returns-then-attributes-gt15-clause-says : goal.returns-then-attributes-gt15-clause-says
returns-then-attributes-gt15-clause-says c =
    let (h, l) = of_size _ c.granule_by-granule.ensures c.height_of.ensures (height_in _ Size (sym c.in_ok-height.was ∙ c.ok_or.ensures.value)) in
    sym (refused_attributes (sized_by _) _ _ _ (omega arith) (omega arith))

pub returns-then-base-gt-PHYSICAL-clause-says : goal.returns-then-base-gt-PHYSICAL-clause-says
returns-then-base-gt-PHYSICAL-clause-says c =
    let (h, l) = of_size _ c.granule_by-granule.ensures c.height_of.ensures (height_in _ Size (sym c.in_ok-height.was ∙ c.ok_or.ensures.value)) in
    sym (refused_end (sized_by _) _ _ _ (omega arith) (omega arith) (omega arith))

pub overflow_add-base : goal.overflow_add-base
overflow_add-base c =
    let size = c.args.size in
    let (h, l) = of_size _ c.granule_by-granule.ensures c.height_of.ensures (height_in _ Size (sym c.in_ok-height.was ∙ c.ok_or.ensures.value)) in
    omega (arith, frame_size (sized_sane size) size h (omega arith))

pub returns-then-base-size-gt-PHYSICAL-clause-says : goal.returns-then-base-size-gt-PHYSICAL-clause-says
returns-then-base-size-gt-PHYSICAL-clause-says c =
    let (h, l) = of_size _ c.granule_by-granule.ensures c.height_of.ensures (height_in _ Size (sym c.in_ok-height.was ∙ c.ok_or.ensures.value)) in
    sym (refused_end (sized_by _) _ _ _ (omega arith) (omega arith) (omega arith))

pub returns-then-rest_at-ne0-clause-says : goal.returns-then-rest_at-ne0-clause-says
returns-then-rest_at-ne0-clause-says c =
    let a = c.args in
    let (h, l) = of_size _ c.granule_by-granule.ensures c.height_of.ensures (height_in _ Size (sym c.in_ok-height.was ∙ c.ok_or.ensures.value)) in
    let r = frame_rest_of (sized_sane a.size) a.size h (omega arith) a.base (rw c.granule_by-granule.ensures at c.rest_at.ensures) in
    sym (refused_base (sized_by _) _ _ _ (omega arith) (omega arith) (omega arith) (λ z. c.if-rest_at-ne0.true (r ∙ z)))

pub overflow_add-result : goal.overflow_add-result
overflow_add-result c = omega (arith, type_known _ _ c.type_at.ensures)

pub overflow_add-result-2 : goal.overflow_add-result-2
overflow_add-result-2 c =
    let a = c.args.attributes in
    let e = attr_known {a = a} (omega arith) c.attr_word.ensures in
    omega (arith, type_known _ _ c.type_at.ensures, attr_word_le a)

pub returns-clause-says : goal.returns-clause-says
returns-clause-says c =
    let a = c.args in
    let (h, l) = of_size _ c.granule_by-granule.ensures c.height_of.ensures (height_in _ Size (sym c.in_ok-height.was ∙ c.ok_or.ensures.value)) in
    let r = frame_rest_of (sized_sane a.size) a.size h (omega arith) a.base (rw c.granule_by-granule.ensures at c.rest_at.ensures) in
    host_sum
    h
    (record { sized = omega arith; few = omega arith; fits = omega arith; aligned = sym r ∙ c.if-rest_at-ne0.false })
    c.type_at.ensures
    c.attr_word.ensures

pub returns-clause-word : goal.returns-clause-word
returns-clause-word c = omega (arith, attr_known {a = c.args.attributes} (omega arith) c.attr_word.ensures, attr_word_ge c.args.attributes)
