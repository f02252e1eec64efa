-- `pages_check` meets its contract, whatever the marks are.
use Rattle.std.proofs.Common.{◌+◌, ◌≤◌, [], true, set, nat_eq, slice_index_or, arith}
use mir.Val.{bool_byte}
use Rattle.path.specs.Laws.{granule_sane, entries_most}
use Rattle.audit.specs.Checks.{granule_in}
use Rattle.audit.proofs.Tables.{table_fresh, part_own, part_word}
use Rattle.audit.proofs.Pages.{pages_start, pages_more, pages_good, pages_bad}
use Rattle.audit.proofs.pages_check.Goals as goal
use Rattle.audit.proofs.pages_check.Goals.{After-is_page-page}

-- the word is counted at most once
next : (c : After-is_page-page) → c.loop-w.empty + bool_byte (nat_eq (slice_index_or c.args.part.now c.loop-w.w-index 0) 0) + (c.loop-w.pages + bool_byte c.is_page-page.result) ≤ c.loop-w.w-index + 1
next c =
    let part = c.args.part.now in
    let look = c.args.look in
    let own = part_own (granule_in look) part c.requires.0 in
    (pages_more (c.loop-w.invariant part 0 own []) (omega (arith, c.requires.0)) _ (part_word (granule_in look) part part 0 own c.loop-w.w-index (omega (arith, c.requires.0))) _ c.is_page-page.ensures).few

pub loop-w-init : goal.loop-w-init
loop-w-init c = λ ws t e M. pages_start ws c.args.look t M

pub loop-w-preserved : goal.loop-w-preserved
loop-w-preserved c = λ ws t e M.
    pages_more (c.loop-w.invariant ws t e M) (omega (arith, c.requires.0)) _ (part_word (granule_in c.args.look) ws c.args.part.now t e c.loop-w.w-index (omega (arith, c.requires.0))) _ c.is_page-page.ensures

pub overflow_add-empty : goal.overflow_add-empty
overflow_add-empty c = record { fits = omega (arith, c.requires.0, entries_most (granule_in c.args.look) (granule_sane c.args.look.tree.granule), next (goal.at.overflow_add-empty c).After-is_page-page) }

pub overflow_add-pages : goal.overflow_add-pages
overflow_add-pages c = record { fits = omega (arith, c.requires.0, entries_most (granule_in c.args.look) (granule_sane c.args.look.tree.granule), next (goal.at.overflow_add-pages c).After-is_page-page) }

pub overflow_add-empty-2 : goal.overflow_add-empty-2
overflow_add-empty-2 c =
    let own = part_own (granule_in c.args.look) c.args.part.now c.requires.0 in
    record { fits = omega (arith, c.requires.0, entries_most (granule_in c.args.look) (granule_sane c.args.look.tree.granule), (c.loop-w.invariant c.args.part.now 0 own []).few) }

pub returns-then-empty-pages : goal.returns-then-empty-pages
returns-then-empty-pages c = λ ws t e M f. table_fresh ws c.args.look 0 t M f _ _ (pages_bad (c.loop-w.invariant ws t e (set M t true)) (omega (arith, c.requires.0)) (omega (arith, c.requires.0)))

pub returns : goal.returns
returns c = λ ws t e M f. table_fresh ws c.args.look 0 t M f _ _ (pages_good (c.loop-w.invariant ws t e (set M t true)) (omega (arith, c.requires.0)) (omega (arith, c.requires.0)))
