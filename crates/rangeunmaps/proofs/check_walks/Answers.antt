-- `rangeunmaps::check_walks` checks walk after walk, and the pages of a row with the first.
use Rattle.std.proofs.Common.{◌≡◌, sym, ap, ◌∙◌, arith, ℕ, ◌+◌, ◌<◌, ◌≤◌, Bool, cond, ◌||◌, [], ◌++◌, length}
use Rattle.std.proofs.lemmas.List.{length-replicate}
use Rattle.std.proofs.lemmas.Result.{err_from_is_err_and}
use Rattle.path.specs.Geometry.{granule_of, entries, size_at, physical}
use Rattle.path.specs.Laws.{granule_sane, level_some, size_fits, good_setup_lem, table_ends}
use Rattle.path.specs.RegionLaws.{base_le}
use Rattle.model.specs.Answers.{Pool, pool, tested, says_refusal}
use Rattle.sweeps.specs.Parts.{walks_say}
use Rattle.sweeps.specs.Checking.{Checked, checked_none, checked_like, says_like, checked_all, checked_noted, turn_damaged, turn_clash}
use Rattle.sweeps.specs.RowChecks.{row_in, turn_fault, turn_next}
use Rattle.rangeunmaps.proofs.Steps.{met_low}
use Rattle.rangeunmaps.proofs.check_walks.Goals as goal
use Rattle.rangeunmaps.proofs.check_walks.Goals.{At-loop-x, In_ok-met, In-Some}

-- the pool with the free list that makes it good
abbrev p : At-loop-x → Pool
p c = pool c.args.s (c.args.words.now ++ c.args.second.now) (length c.args.words.now) c.requires.0.0

-- what is checked so far
checked : (c : At-loop-x) → Checked (granule_of c.args.s.granule) (p c) c.args.address c.args.bytes c.loop-x.x c.loop-x.stands c.loop-x.cut
checked c = let a = c.args in checked_like (granule_of a.s.granule) a.s (a.words.now ++ a.second.now) (length a.words.now) [] c.requires.0.0 c.loop-x.invariant.1

-- what the walks say, whatever the free list is
says : (c : At-loop-x) {k : ℕ} → k ≡ walks_say (granule_of c.args.s.granule) (p c) c.args.address c.args.bytes
    → tested k ≡ tested (walks_say (granule_of c.args.s.granule) (pool c.args.s (c.args.words.now ++ c.args.second.now) (length c.args.words.now) []) c.args.address c.args.bytes)
says c e = let a = c.args in ap tested (e ∙ says_like (granule_of a.s.granule) a.s (a.words.now ++ a.second.now) (length a.words.now) c.requires.0.0 [] a.address a.bytes)

-- the height where a walk ended is one of the tree's
low : (c : In_ok-met) → c.in_ok-met.met.height < (granule_of c.args.s.granule).most
low c =
    let a = c.args in
    met_low (granule_of a.s.granule) (granule_sane a.s.granule) (pool a.s (a.words.now ++ a.second.now) (length a.words.now) c.requires.0.0) c.requires.0.1.good c.loop-x.x c.in_ok-met.ensures

on : (c : In-Some) → Checked (granule_of c.args.s.granule) (pool c.args.s (c.args.words.now ++ c.args.second.now) (length c.args.words.now) c.requires.0.0) c.args.address c.args.bytes c.loop-x.x c.loop-x.stands c.loop-x.cut
    → c.in_ok-met.met.height < (granule_of c.args.s.granule).most
    → let a = c.args in
    Checked (granule_of a.s.granule) (pool a.s (a.words.now ++ a.second.now) (length a.words.now) c.requires.0.0) a.address a.bytes c.in-Some.next c.note_way.new.stands (c.loop-x.cut || c.cuts-cut.result)
    × (c.loop-x.x < c.in-Some.next) × (c.in-Some.next ≤ a.address + a.bytes)
on c C m =
    let a = c.args in
    let G = granule_of a.s.granule in
    turn_next G (granule_sane a.s.granule) (pool a.s (a.words.now ++ a.second.now) (length a.words.now) c.requires.0.0) a.address a.bytes c.requires.0.1 C (omega arith) c.in_ok-met.ensures c.beyond.ensures c.in-Some.is
    c.note_way.auto.stands c.if-not-note_way.ensures (c.base_at-base.ensures ∙ level_some G m _) (c.size_at-size.ensures ∙ level_some G m _) (ap (λ (y : Bool). c.loop-x.cut || y) (sym c.cuts-cut.ensures))

pub loop-x-init : goal.loop-x-init
loop-x-init c = (omega arith, checked_none _ _ _ _ _ c.requires.1 (ap length c.requires.1 ∙ length-replicate {A = ℕ} 512 0) c.requires.0.1.starts)

pub returns-in_err-met-clause-by_pages : goal.returns-in_err-met-clause-by_pages
returns-in_err-met-clause-by_pages c =
    let a = c.args in
    let C = checked (goal.at.returns-in_err-met-clause-by_pages c).At-loop-x in
    let (y, is, same) = err_from_is_err_and c.from_residual.result c.from_residual.ensures.1 in
    rw is (ap says_refusal (same ∙ c.in_err-met.ensures.1)
    ∙ says (goal.at.returns-in_err-met-clause-by_pages c).At-loop-x (turn_damaged (granule_of a.s.granule) (granule_sane a.s.granule) (pool a.s (a.words.now ++ a.second.now) (length a.words.now) c.requires.0.0) a.address a.bytes c.requires.0.1 C (omega arith) c.in_err-met.ensures.0))

pub returns-then-not-note_way-clause-by_pages : goal.returns-then-not-note_way-clause-by_pages
returns-then-not-note_way-clause-by_pages c =
    let a = c.args in
    let C = checked (goal.at.returns-then-not-note_way-clause-by_pages c).At-loop-x in
    says (goal.at.returns-then-not-note_way-clause-by_pages c).At-loop-x
    (turn_clash (granule_of a.s.granule) (granule_sane a.s.granule) (pool a.s (a.words.now ++ a.second.now) (length a.words.now) c.requires.0.0) a.address a.bytes c.requires.0.1 C (omega arith) c.in_ok-met.ensures c.if-not-note_way.ensures)

pub cuts-cut-requires : goal.cuts-cut-requires
cuts-cut-requires c =
    let a = c.args in
    let G = granule_of a.s.granule in
    let m = low (goal.at.cuts-cut-requires c).In_ok-met in
    let h = c.in_ok-met.met.height in
    let f : size_at G h ≤ physical = size_fits G (granule_sane a.s.granule) (omega arith) in
    omega (arith, c.base_at-base.ensures ∙ level_some G m _, c.size_at-size.ensures ∙ level_some G m _, base_le G c.loop-x.x h, c.requires.0.1.in_space, c.loop-x-test.true)

pub beyond-requires : goal.beyond-requires
beyond-requires c =
    let a = c.args in
    let C = checked (goal.at.beyond-requires c).At-loop-x in
    let N = (good_setup_lem c.requires.0.1.good).numbers in (
      (low (goal.at.beyond-requires c).In_ok-met, (omega arith, c.requires.0.1.in_space)),
      λ z. (
        (a.s.tables, N.cut_is),
        omega (
          arith,
          N.words_are,
          table_ends (entries (granule_of a.s.granule))
              (row_in (granule_of a.s.granule) (granule_sane a.s.granule) (pool a.s (a.words.now ++ a.second.now) (length a.words.now) c.requires.0.0) a.address a.bytes c.requires.0.1 C (omega arith) c.in_ok-met.ensures z),
        ),
      ),
    )

pub returns-in_default-clause-by_pages : goal.returns-in_default-clause-by_pages
returns-in_default-clause-by_pages c =
    let a = c.args in
    let C = checked (goal.at.returns-in_default-clause-by_pages c).At-loop-x in
    says (goal.at.returns-in_default-clause-by_pages c).At-loop-x
    (turn_fault (granule_of a.s.granule) (granule_sane a.s.granule) (pool a.s (a.words.now ++ a.second.now) (length a.words.now) c.requires.0.0) a.address a.bytes c.requires.0.1 C (omega arith) c.in_ok-met.ensures c.beyond.ensures c.in_default.is)

pub loop-x-smaller : goal.loop-x-smaller
loop-x-smaller c = omega (arith, (on (goal.at.loop-x-smaller c).In-Some (checked (goal.at.loop-x-smaller c).At-loop-x) (low (goal.at.loop-x-smaller c).In_ok-met)).1)

pub loop-x-preserved : goal.loop-x-preserved
loop-x-preserved c =
    let a = c.args in
    let O = on (goal.at.loop-x-preserved c).In-Some (checked (goal.at.loop-x-preserved c).At-loop-x) (low (goal.at.loop-x-preserved c).In_ok-met) in
    (O.2, checked_like (granule_of a.s.granule) a.s (a.words.now ++ a.second.now) (length a.words.now) c.requires.0.0 [] O.0)

-- all are checked
pub returns-then-cut-clause-by_pages : goal.returns-then-cut-clause-by_pages
returns-then-cut-clause-by_pages c =
    let a = c.args in
    let C = checked (goal.at.returns-then-cut-clause-by_pages c).At-loop-x in
    says (goal.at.returns-then-cut-clause-by_pages c).At-loop-x
    (ap (λ (y : Bool). cond y 10 0) (sym c.if-cut.true) ∙ checked_all (granule_of a.s.granule) (granule_sane a.s.granule) (pool a.s (a.words.now ++ a.second.now) (length a.words.now) c.requires.0.0) a.address a.bytes c.requires.0.1 C (omega (arith, c.loop-x.invariant.0)))

pub returns-clause-by_pages : goal.returns-clause-by_pages
returns-clause-by_pages c =
    let a = c.args in
    let C = checked (goal.at.returns-clause-by_pages c).At-loop-x in
    says (goal.at.returns-clause-by_pages c).At-loop-x
    (ap (λ (y : Bool). cond y 10 0) (sym c.if-cut.false) ∙ checked_all (granule_of a.s.granule) (granule_sane a.s.granule) (pool a.s (a.words.now ++ a.second.now) (length a.words.now) c.requires.0.0) a.address a.bytes c.requires.0.1 C (omega (arith, c.loop-x.invariant.0)))

pub returns-clause-notes : goal.returns-clause-notes
returns-clause-notes c =
    let a = c.args in
    let C = checked (goal.at.returns-clause-notes c).At-loop-x in
    checked_noted (granule_of a.s.granule) (granule_sane a.s.granule) (pool a.s (a.words.now ++ a.second.now) (length a.words.now) c.requires.0.0) a.address a.bytes c.requires.0.1 C (omega (arith, c.loop-x.invariant.0))
