-- `pagetable::format` is `formats::format`, with the setup beside a refusal; its promise gives the ledger's. Assumes nothing.
use mathlib.Core.Path.{ap, ◌∙◌}
use mathlib.Core.List.{◌++◌}
use lib.ListN.{length}
use Rattle.path.specs.Areas.{area_at}
use Rattle.path.specs.declared.Setup.{Setup}
use Rattle.path.specs.Numbers.{no_setup}
use Rattle.model.specs.Answers.{says_format}
use Rattle.demand.specs.ClauseLaws.{format_by_ledger}
use Rattle.pagetable.specs.Hands.{beside}
use Rattle.pagetable.proofs.Hands.{hands}
use Rattle.pagetable.proofs.format.Goals as goal

pub returns : goal.returns
returns c =
    let a = c.args in
    let e = hands says_format (λ t. t) no_setup _ _ _ _ _ (c.with_setup.ensures ∙ ap (λ (s : Setup). beside s c.format-formatted.result) c.no_setup.ensures) c.format-formatted.ensures in
    record {
      whole = e;
      ledger = format_by_ledger a.granule (a.words.now ++ a.second.now) (length a.words.now) a.list.now a.levels (area_at a.base a.tables a.base2 a.tables2) _ e;
    }
