-- The public call: the tests in their order, and then the root.
use native.Mathlib.Omega.{arith}
use Rattle.std.specs.Prelude.{◌≡◌}
use Rattle.std.proofs.Common.{◌∙◌}
use Rattle.links.specs.declared.Tree.{Tree}
use Rattle.links.specs.TreeLaws.{tables_made}
use Rattle.path.specs.Laws.{granule_sane}
use Rattle.lists.proofs.Whole.{list_bad, few_tables, some_level, list_uneven, list_outside, runs_fit, list_unsound, root_fit, listed_all, listed_some}
use Rattle.lists.proofs.list.Goals as goal
use Rattle.lists.proofs.list.Goals.{After-of}

pub returns-then-not-good_setup : goal.returns-then-not-good_setup
returns-then-not-good_setup c =
    let a = c.args in
    list_bad (granule_sane a.s.granule) a.s a.words.now a.second.now a.list.now a.start a.places.now a.entries.now c.good_setup.ensures c.if-not-good_setup.true

pub returns-then-places-entries : goal.returns-then-places-entries
returns-then-places-entries c =
    let a = c.args in
    list_uneven (granule_sane a.s.granule) a.s a.words.now a.second.now a.list.now a.start a.places.now a.entries.now c.good_setup.ensures c.if-not-good_setup.false c.if-places-entries.true

pub returns-then-not-in_space : goal.returns-then-not-in_space
returns-then-not-in_space c =
    let a = c.args in
    list_outside (granule_sane a.s.granule) a.s a.words.now a.second.now a.list.now a.start a.places.now a.entries.now c.good_setup.ensures c.if-not-good_setup.false c.if-places-entries.false c.in_space.ensures c.if-not-in_space.true

pub returns-then-not-tree_sound : goal.returns-then-not-tree_sound
returns-then-not-tree_sound c =
    let a = c.args in
    list_unsound (granule_sane a.s.granule) a.s a.words.now a.second.now a.list.now a.start a.places.now a.entries.now c.good_setup.ensures c.if-not-good_setup.false c.if-places-entries.false c.in_space.ensures c.if-not-in_space.false c.tree_sound.ensures c.if-not-tree_sound.true

-- the tree that is listed is that of the setup
made : (c : After-of) → ◌≡◌ {A = Tree} c.of.result (record { granule = c.args.s.granule; base = c.args.s.base; tables = c.args.s.tables; base2 = c.args.s.base2; tables2 = c.args.s.tables2 })
made c =
    let a = c.args in
    let few = few_tables (granule_sane a.s.granule) a.s a.words.now a.second.now a.list.now a.start a.places.now a.entries.now c.good_setup.ensures c.if-not-good_setup.false in
    c.of.ensures ∙ tables_made a.s (omega (arith, few)) (omega (arith, few))

pub overflow_sub-s : goal.overflow_sub-s
overflow_sub-s c =
    let a = c.args in
    some_level (granule_sane a.s.granule) a.s a.words.now a.second.now a.list.now a.start a.places.now a.entries.now c.good_setup.ensures c.if-not-good_setup.false

pub table_list-listed-requires : goal.table_list-listed-requires
table_list-listed-requires c =
    let a = c.args in rw (made (goal.at.table_list-listed-requires c).After-of) (
      root_fit (granule_sane a.s.granule) a.s a.words.now a.second.now a.list.now a.start a.places.now a.entries.now c.good_setup.ensures c.if-not-good_setup.false c.if-places-entries.false c.in_space.ensures c.if-not-in_space.false c.tree_sound.ensures c.if-not-tree_sound.false,
      (runs_fit (granule_sane a.s.granule) a.s a.words.now a.second.now a.list.now a.start a.places.now a.entries.now c.good_setup.ensures c.if-not-good_setup.false c.if-places-entries.false c.in_space.ensures c.if-not-in_space.false, c.if-places-entries.false),
    )

pub returns-in-Err : goal.returns-in-Err
returns-in-Err c =
    let a = c.args in
    let r = c.table_list-listed in
    listed_some (granule_sane a.s.granule) a.s a.words.now a.second.now a.list.now a.start a.places.now a.entries.now c.good_setup.ensures c.if-not-good_setup.false c.if-places-entries.false c.in_space.ensures c.if-not-in_space.false c.tree_sound.ensures c.if-not-tree_sound.false
    r.new.places r.new.entries _ _ r.auto.places (rw (made (goal.at.returns-in-Err c).After-of) at c.in-Err.ensures)

pub returns-in-Ok : goal.returns-in-Ok
returns-in-Ok c =
    let a = c.args in
    let r = c.table_list-listed in
    listed_all (granule_sane a.s.granule) a.s a.words.now a.second.now a.list.now a.start a.places.now a.entries.now c.good_setup.ensures c.if-not-good_setup.false c.if-places-entries.false c.in_space.ensures c.if-not-in_space.false c.tree_sound.ensures c.if-not-tree_sound.false
    r.new.places r.new.entries _ (rw (made (goal.at.returns-in-Ok c).After-of) at c.in-Ok.ensures)
