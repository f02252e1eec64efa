-- `first_entry` finds the first entry that is listed.
use Rattle.path.specs.Laws.{granule_sane}
use Rattle.lists.proofs.Rests.{first_inside, first_none}
use Rattle.lists.proofs.first_entry.Goals as goal

pub returns-then-first-start : goal.returns-then-first-start
returns-then-first-start c = first_inside (granule_sane c.args.granule) c.requires c.if-first-start.true c.index_at.ensures

pub returns : goal.returns
returns c = first_none (granule_sane c.args.granule) c.args.start c.args.height c.args.first c.if-first-start.false
