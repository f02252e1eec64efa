-- `audit` meets its contract.
use Rattle.std.proofs.Common.{◌≡◌, true, ◌++◌, length, sym, refl, ◌∙◌, arith, length-append}
use Rattle.std.proofs.Math.Seq.{length-take-le}
use Rattle.path.specs.Geometry.{granule_of}
use Rattle.path.specs.Numbers.{GoodSetup}
use Rattle.path.specs.Laws.{granule_sane, good_setup_lem}
use Rattle.model.specs.Answers.{Pool, pool}
use Rattle.model.specs.Calls.{good_pool}
use Rattle.model.proofs.AuditLaws.{audit_bad}
use Rattle.model.proofs.Refusing.{good_both}
use Rattle.audit.specs.Checks.{strictly}
use Rattle.audit.proofs.Whole.{rooted, root_fit, whole_clash, whole_miscount, whole_unfree, whole_sound}
use Rattle.audit.proofs.audit.Goals as goal
use Rattle.audit.proofs.audit.Goals.{Else-not-good_setup}

-- the pool that is audited, past the test of the setup numbers
abbrev at : Else-not-good_setup → Pool
at c = pool c.args.s (c.args.words.now ++ c.args.second.now) (length c.args.words.now) c.args.list.now

good : (c : Else-not-good_setup) → good_pool (granule_of (at c).numbers.granule) (at c) ≡ true
good c =
    let a = c.args in
    sym (good_both (granule_of a.s.granule) a.s a.words.now a.second.now a.list.now c.good_setup.ensures) ∙ c.if-not-good_setup.false

numbers : (c : Else-not-good_setup) → GoodSetup (granule_of (at c).numbers.granule) (at c).numbers (at c).cut (length (at c).words) (length (at c).list)
numbers c = good_setup_lem (good c)

pub returns-then-not-good_setup : goal.returns-then-not-good_setup
returns-then-not-good_setup c =
    let a = c.args in
    sym (audit_bad (granule_of a.s.granule) (pool a.s (a.words.now ++ a.second.now) (length a.words.now) a.list.now) (sym (good_both (granule_of a.s.granule) a.s a.words.now a.second.now a.list.now c.good_setup.ensures) ∙ c.if-not-good_setup.true))

pub overflow_add-all : goal.overflow_add-all
overflow_add-all c = omega (arith, (numbers (goal.at.overflow_add-all c).Else-not-good_setup).numbers.few)

pub strict-look-requires : goal.strict-look-requires
strict-look-requires c = (numbers (goal.at.strict-look-requires c).Else-not-good_setup).numbers.few

pub overflow_sub-s : goal.overflow_sub-s
overflow_sub-s c =
    omega (arith, (numbers (goal.at.overflow_sub-s c).Else-not-good_setup).numbers.enough, granule_sane (at (goal.at.overflow_sub-s c).Else-not-good_setup).numbers.granule)

pub table_check-requires : goal.table_check-requires
table_check-requires c =
    let a = c.args in
    rw c.strict-look.ensures
    (root_fit {look = strictly a.s} (rooted (at (goal.at.table_check-requires c).Else-not-good_setup) (good (goal.at.table_check-requires c).Else-not-good_setup) _ (length-append a.words.now a.second.now)) refl refl refl (numbers (goal.at.table_check-requires c).Else-not-good_setup).numbers.placed)

pub overflow_sub-all : goal.overflow_sub-all
overflow_sub-all c = omega (arith, (numbers (goal.at.overflow_sub-all c).Else-not-good_setup).room)

pub returns-then-counts-all : goal.returns-then-counts-all
returns-then-counts-all c =
    whole_miscount (at (goal.at.returns-then-counts-all c).Else-not-good_setup) (good (goal.at.returns-then-counts-all c).Else-not-good_setup) _ _ _ (rw (c.strict-look.ensures, c.in-Some.is) at c.table_check.ensures) (λ e. omega (arith, e, c.if-counts-all.true))

pub overflow_cast-all : goal.overflow_cast-all
overflow_cast-all c = omega (arith, (numbers (goal.at.overflow_cast-all c).Else-not-good_setup).numbers.few)

pub free_check-requires : goal.free_check-requires
free_check-requires c =
    let s = numbers (goal.at.free_check-requires c).Else-not-good_setup in
    (omega (arith, s.numbers.few, c.table_check.auto.marks), record { tables = c.args.s.tables; whole = s.numbers.cut_is })

pub slice_bounds-free_check-end-2 : goal.slice_bounds-free_check-end-2
slice_bounds-free_check-end-2 c =
    let s = numbers (goal.at.slice_bounds-free_check-end-2 c).Else-not-good_setup in
    omega (arith, length-take-le c.args.s.free c.args.list.now (omega (arith, s.room, s.numbers.places_are)))

pub returns-then-not-free_check : goal.returns-then-not-free_check
returns-then-not-free_check c =
    whole_unfree (at (goal.at.returns-then-not-free_check c).Else-not-good_setup) (good (goal.at.returns-then-not-free_check c).Else-not-good_setup) _ _ _ (rw (c.strict-look.ensures, c.in-Some.is) at c.table_check.ensures) (sym (c.if-not-free_check.true) ∙ c.free_check.ensures)

pub returns : goal.returns
returns c =
    whole_sound (at (goal.at.returns c).Else-not-good_setup) (good (goal.at.returns c).Else-not-good_setup) _ _ _ (rw (c.strict-look.ensures, c.in-Some.is) at c.table_check.ensures) c.if-counts-all.false (sym (c.if-not-free_check.false) ∙ c.free_check.ensures)

pub returns-in_default : goal.returns-in_default
returns-in_default c =
    whole_clash (at (goal.at.returns-in_default c).Else-not-good_setup) (good (goal.at.returns-in_default c).Else-not-good_setup) _ (rw (c.strict-look.ensures, c.in_default.is) at c.table_check.ensures)
