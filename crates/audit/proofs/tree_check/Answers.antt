-- `tree_check` meets its contract.
use Rattle.std.proofs.Common.{◌++◌, refl, ◌∙◌, arith}
use Rattle.path.specs.Laws.{granule_sane}
use Rattle.audit.proofs.Whole.{loosely, root_fit, tree_told}
use Rattle.audit.proofs.tree_check.Goals as goal

pub overflow_sub-s : goal.overflow_sub-s
overflow_sub-s c = omega (arith, c.requires.0.enough, granule_sane c.args.s.granule)

pub table_check-requires : goal.table_check-requires
table_check-requires c = rw c.strict.ensures (root_fit {look = loosely c.args.s c.args.kept c.args.many} c.requires.0 refl refl refl c.requires.1.0)

pub returns : goal.returns
returns c =
    c.is_some.ensures
    ∙ tree_told c.args.s (loosely c.args.s c.args.kept c.args.many) (c.args.words.now ++ c.args.second.now) c.requires.0.some_table c.requires.0.few refl _ refl
    c.table_check.result (rw c.strict.ensures at c.table_check.ensures)
