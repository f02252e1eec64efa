-- `rangemaps::survey`: after each row what the walks before its end find.
use Prim.Native.Nat.{◌+◌, ◌*◌, ◌≤◌}
use mathlib.Core.Path.{refl, sym, ap, ◌∙◌, subst₂}
use mathlib.Core.Logic.{◌≢◌}
use mathlib.Core.List.{[], ◌++◌}
use native.Mathlib.Omega.{arith}
use lib.ListN.{length}
use Rattle.std.specs.Prelude.{ℕ, ◌≡◌, Ok, Err}
use Rattle.path.specs.Geometry.{granule_of, physical}
use Rattle.path.specs.Areas.{area_of}
use Rattle.path.specs.Numbers.{GoodSetup}
use Rattle.path.specs.Laws.{granule_sane, good_setup_lem}
use Rattle.model.specs.Answers.{pool}
use Rattle.std.proofs.Common.{rules}
use Rattle.model.specs.declared.Refusal.TheVariants.{Overlap}
use Rattle.rangemaps.proofs.Probes.{found_few}
use Rattle.rangemaps.proofs.Surveying.{stands_first, here_row, tall_low, wide_is, row_is, bytes_is, bytes_fit, stands_turn, range_near, sofar_first, Went, went_taken, went_first, went_later, turn_stops, turn_next, sofar_ends}
use Rattle.rangemaps.proofs.survey.Goals as goal
use Rattle.rangemaps.proofs.survey.Goals.{in-Ok, in-Ok-2, in-Err-Overlap, After-probe, After-size_at, Joined-probe, Start}

good : (c : Start) → let a = c.args in GoodSetup (granule_of a.s.granule) a.s (length a.words.now) (length (a.words.now ++ a.second.now)) c.requires.0.0
good c = good_setup_lem c.requires.0.1

near : (c : Start) → let a = c.args in (a.address + a.len ≤ physical) × (a.frame + a.len ≤ physical)
near c = let a = c.args in range_near (granule_of a.s.granule) (granule_sane a.s.granule) a.s.levels (area_of a.s) a.address a.frame a.len c.requires.1.1.0 c.requires.1.1.1

-- a row that is not refused lacks few tables
few : (c : After-probe) (lack : ℕ) → c.probe.result ≡ Ok lack → c.piece_at-h.result + lack ≤ 3
few c lack e =
    let a = c.args in
    let l = c.loop-left in
    let low = tall_low (granule_sane a.s.granule) (here_row l.invariant.0 (λ q. omega (arith, c.loop-left-test.true))) c.piece_at-h.ensures c.stretch-n.ensures in
    found_few (granule_of a.s.granule) (pool a.s (a.words.now ++ a.second.now) (length a.words.now) []) (omega (arith, good_setup_lem c.requires.0.1, granule_sane a.s.granule)) c.piece_at-h.result l.x l.stands c.stretch-n.result
    (omega (arith, low, good_setup_lem c.requires.0.1, granule_sane a.s.granule)) (sym e ∙ c.probe.ensures.by_index [])

-- how the three ways go on
came : (c : Joined-probe) → ((lack : ℕ) → c.probe.result ≡ Ok lack → c.piece_at-h.result + lack ≤ 3) → let a = c.args in let l = c.loop-left in
    Went (granule_of a.s.granule) a.address l.x c.piece_at-h.result l.overlaps l.need c.probe.result c.match-probe.overlaps c.match-probe.need × (c.match-probe.need ≤ l.need + 3)
came c lacks =
    let a = c.args in
    let l = c.loop-left in
    let G = granule_of a.s.granule in
    let met = c.probe.result in
    let h = c.piece_at-h.result in
    elim c.match-probe.branch [
      | in-Ok way ↦ (subst₂ (Went G a.address l.x h l.overlaps l.need met) (sym way.overlaps-is) (sym way.need-is) (went_first way.in-Ok.is way.if-x-address.true), omega (arith, way.need-is, lacks _ way.in-Ok.is))
      | in-Ok-2 way ↦ (
        subst₂ (Went G a.address l.x h l.overlaps l.need met) (sym way.overlaps-is) (sym way.need-is) (went_later {new = way.begun.result} way.in-Ok.is way.if-x-address.false way.begun.ensures.0),
        omega (arith, way.need-is, way.begun.ensures.1, lacks _ way.in-Ok.is),
      )
      | in-Err-Overlap way ↦ (subst₂ (Went G a.address l.x h l.overlaps l.need met) (sym way.overlaps-is) (sym way.need-is) (went_taken (way.in-Err-Overlap.is ∙ ap Err way.in-Err-Overlap.field-0-is)), omega (arith, way.need-is))
    ]

-- the bytes of the row
bytes : (c : After-size_at) → let l = c.loop-left in
    (c.stretch-n.result * c.size_at.result ≤ l.left) × (4096 ≤ c.stretch-n.result * c.size_at.result)
bytes c =
    let a = c.args in
    let l = c.loop-left in
    bytes_fit (granule_sane a.s.granule) l.invariant.0 (λ q. omega (arith, c.loop-left-test.true)) c.piece_at-h.ensures c.stretch-n.ensures c.size_at.ensures

pub loop-left-init : goal.loop-left-init
loop-left-init c =
    let a = c.args in (
      stands_first _ _ _ _ _ c.requires.1.1.0 _ c.requires.1.1.1 c.requires.1.0,
      (refl, λ list k g z t. sofar_first _ _ _ _ _ k _ t z),
    )

pub probe-requires : goal.probe-requires
probe-requires c =
    let l = c.loop-left in
    let R = row_is (granule_sane c.args.s.granule) (here_row l.invariant.0 (λ z. omega (arith, c.loop-left-test.true))) c.piece_at-h.ensures c.stretch-n.ensures in
    (c.requires.0, (R.low, (l.invariant.0.long, (R.some, R.room))))

pub returns-in-Err : goal.returns-in-Err
returns-in-Err c =
    let a = c.args in
    let l = c.loop-left in
    let no : c.in-Err.refusal ≢ Overlap = (λ e. search rules) in
    λ list k g z t. turn_stops _ (granule_sane a.s.granule) _ g (l.invariant.1.1 list k g z t)
    (λ q. omega (arith, c.loop-left-test.true)) c.piece_at-h.ensures
    (wide_is (granule_sane a.s.granule) (here_row l.invariant.0 (λ q. omega (arith, c.loop-left-test.true))) c.piece_at-h.ensures c.stretch-n.ensures)
    l.invariant.0.long (omega (arith, l.invariant.0.sum, near (goal.at.returns-in-Err c).Start, c.loop-left-test.true)) (c.probe.ensures.by_index list) (λ f. c.probe.ensures.stands_after f list) c.in-Err.is no

pub begun-requires : goal.begun-requires
begun-requires c = few (goal.at.begun-requires c).After-probe _ c.in-Ok.is

pub overflow_add-need : goal.overflow_add-need
overflow_add-need c =
    let l = c.loop-left in
    omega (arith, c.begun.ensures.1, few (goal.at.overflow_add-need c).After-probe _ c.in-Ok.is, l.invariant.0.few, l.invariant.0.sum, near (goal.at.overflow_add-need c).Start)

pub overflow_mul-bytes : goal.overflow_mul-bytes
overflow_mul-bytes c = let l = c.loop-left in omega (arith, (bytes (goal.at.overflow_mul-bytes c).After-size_at).0, l.invariant.0.sum, near (goal.at.overflow_mul-bytes c).Start)

pub overflow_add-x : goal.overflow_add-x
overflow_add-x c = let l = c.loop-left in omega (arith, (bytes (goal.at.overflow_add-x c).After-size_at).0, l.invariant.0.sum, near (goal.at.overflow_add-x c).Start)

pub overflow_add-y : goal.overflow_add-y
overflow_add-y c = let l = c.loop-left in omega (arith, (bytes (goal.at.overflow_add-y c).After-size_at).0, l.invariant.0.sum_frame, near (goal.at.overflow_add-y c).Start)

pub overflow_sub-left : goal.overflow_sub-left
overflow_sub-left c = omega (arith, (bytes (goal.at.overflow_sub-left c).After-size_at).0)

pub loop-left-smaller : goal.loop-left-smaller
loop-left-smaller c = omega (arith, (bytes (goal.at.loop-left-smaller c).After-size_at).0, (bytes (goal.at.loop-left-smaller c).After-size_at).1)

pub loop-left-preserved : goal.loop-left-preserved
loop-left-preserved c =
    let a = c.args in
    let l = c.loop-left in
    let t = c.loop-left-test.true in
    let u = c.piece_at-h.ensures in
    let v = c.stretch-n.ensures in
    let Z = granule_sane a.s.granule in (
      stands_turn Z l.invariant.0 (λ q. omega (arith, t)) u v c.size_at.ensures (came (goal.at.loop-left-preserved c).Joined-probe (few (goal.at.loop-left-preserved c).After-probe)).1 (omega (arith, l.invariant.0.long, c.probe.auto.stands)),
      (
        c.probe.auto.stands ∙ l.invariant.1.0,
        λ list k g z e. turn_next _ Z _ g (l.invariant.1.1 list k g z e)
            (λ q. omega (arith, t)) u (wide_is Z (here_row l.invariant.0 (λ q. omega (arith, t))) u v) l.invariant.0.long (omega (arith, l.invariant.0.sum, near (goal.at.loop-left-preserved c).Start, t))
            (c.probe.ensures.by_index list) (λ f. c.probe.ensures.stands_after f list) (bytes_is Z l.invariant.0 (λ q. omega (arith, t)) u v c.size_at.ensures) (came (goal.at.loop-left-preserved c).Joined-probe (few (goal.at.loop-left-preserved c).After-probe)).0,
      ),
    )

pub returns-then-overlaps : goal.returns-then-overlaps
returns-then-overlaps c =
    let a = c.args in
    let l = c.loop-left in
    λ list k g z t. rw c.if-overlaps.true at
    (sofar_ends _ (granule_sane a.s.granule) _ g (l.invariant.1.1 list k g z t) (omega (arith, c.loop-left-test.false)))

pub returns : goal.returns
returns c =
    let a = c.args in
    let l = c.loop-left in
    λ list k g z t. rw c.if-overlaps.false at
    (sofar_ends _ (granule_sane a.s.granule) _ g (l.invariant.1.1 list k g z t) (omega (arith, c.loop-left-test.false)))
