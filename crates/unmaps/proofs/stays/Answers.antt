-- `unmaps::stays`: the root, or a table with another entry.
use mathlib.Core.Path.{ap, ◌∙◌}
use mathlib.Core.Bool.{not}
use mathlib.Core.List.{◌++◌}
use borrow.Author.Tests.{le-leb, lt-leb}
use Rattle.path.specs.Geometry.{granule_of}
use Rattle.model.specs.Writes.{only_entry}
use Rattle.unmaps.proofs.stays.Goals as goal

pub returns-then-end-top : goal.returns-then-end-top
returns-then-end-top c = λ k e. rw (le-leb c.args.top c.args.end.height c.if-end-top.true)

pub returns : goal.returns
returns c =
    let a = c.args in
    λ k e.
    rw (lt-leb a.top a.end.height c.if-end-top.false)
    (ap not (c.only_entry.ensures k e ∙ (λ j. only_entry (granule_of a.granule) (a.words.now ++ a.second.now) (c.table_of-t.ensures j) (c.index_in-i.ensures j))))
