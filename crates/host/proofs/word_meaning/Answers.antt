-- `host::word_meaning` meets its contract: a size of frames has a height, at which the word is read.
use mathlib.Core.Path.{sym, ap, ◌∙◌}
use native.Mathlib.Omega.{arith}
use Rattle.entry.specs.Host.{sized_by, meaning_of}
use Rattle.host.specs.HostLaws.{sized_sane, meaning_refused, meaning_read}
use Rattle.host.proofs.Sums.{of_size, no_size, framed}
use Rattle.host.proofs.word_meaning.Goals as goal

pub returns-in-Some-clause-says : goal.returns-in-Some-clause-says
returns-in-Some-clause-says c =
    let a = c.args in
    let (h, l) = of_size _ c.granule_by-granule.ensures c.height_of.ensures c.in-Some.is in
    c.meaning_of.ensures.says
    ∙ ap meaning_of c.frame_at.ensures
    ∙ rw (c.granule_by-granule.ensures, h) (sym (meaning_read (sized_by a.size) a.w a.size (omega arith)))

pub returns-in-None-clause-says : goal.returns-in-None-clause-says
returns-in-None-clause-says c = sym (meaning_refused (sized_by _) _ _ (no_size _ c.granule_by-granule.ensures c.height_of.ensures c.in-None.is))

pub returns-in-Some-clause-frame : goal.returns-in-Some-clause-frame
returns-in-Some-clause-frame c =
    let a = c.args in
    let (h, l) = of_size _ c.granule_by-granule.ensures c.height_of.ensures c.in-Some.is in
    framed (sized_sane a.size) a.size h l a.w c.meaning_of.result (rw c.granule_by-granule.ensures at c.frame_at.ensures) c.meaning_of.ensures.frame
