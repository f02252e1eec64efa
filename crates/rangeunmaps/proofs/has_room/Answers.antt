-- `rangeunmaps::has_room` sweeps the range by counts alone, its words read as they are.
use Rattle.std.proofs.Common.{◌≡◌, sym, ap, ◌∙◌, subst, true, not, arith, ℕ, ◌+◌, ◌<◌, ◌≤◌, List, ◌++◌, length}
use Rattle.std.proofs.lemmas.List.{length-replicate}
use Rattle.path.specs.declared.Setup.{Setup}
use Rattle.path.specs.Geometry.{granule_of}
use Rattle.path.specs.Laws.{granule_sane, good_setup_lem}
use Rattle.model.specs.Answers.{Pool, pool}
use Rattle.model.specs.Calls.{good_pool}
use Rattle.model.proofs.RangeUnmapLaws.{few_levels}
use Rattle.sweeps.specs.Parts.{Rest, Allowed}
use Rattle.sweeps.specs.Checking.{says_like}
use Rattle.sweeps.specs.Sweeping.{Swept, swept_all}
use Rattle.sweeps.specs.Rooms.{fine_rest, sweep_none, sweep_sound, sweep_on, sweep_hole, sweep_full, sweep_frame, sweep_same, sweep_few, sweep_height, sweep_free}
use Rattle.rangeunmaps.proofs.Steps.{met_low}
use Rattle.rangeunmaps.proofs.has_room.Goals as goal
use Rattle.rangeunmaps.proofs.has_room.Goals.{then-met+else-free-most, else-met, After-past-x, Start}

-- the pool of these words and this free list
abbrev at : Setup → List ℕ → List ℕ → List ℕ → Pool
at s words second list = pool s (words ++ second) (length words) list

rest : (c : Start) (list : List ℕ) → good_pool (granule_of c.args.s.granule) (at c.args.s c.args.words.now c.args.second.now list) ≡ true
    → Rest (granule_of c.args.s.granule) (at c.args.s c.args.words.now c.args.second.now list) c.args.address (c.args.address + c.args.bytes)
rest c list g = let a = c.args in fine_rest (granule_of a.s.granule) (granule_sane a.s.granule) (at c.args.s c.args.words.now c.args.second.now list) a.address a.bytes g c.requires.1.tests

rest₀ : (c : Start) → Rest (granule_of c.args.s.granule) (at c.args.s c.args.words.now c.args.second.now c.requires.0) c.args.address (c.args.address + c.args.bytes)
rest₀ c = rest c c.requires.0 c.requires.1.good

allowed : (c : Start) (list : List ℕ) → good_pool (granule_of c.args.s.granule) (at c.args.s c.args.words.now c.args.second.now list) ≡ true
    → Allowed (granule_of c.args.s.granule) (at c.args.s c.args.words.now c.args.second.now list) c.args.address c.args.bytes
allowed c list g = let a = c.args in record {
  good = g;
  tests = c.requires.1.tests;
  walks = says_like (granule_of a.s.granule) a.s (a.words.now ++ a.second.now) (length a.words.now) list c.requires.0 a.address a.bytes ∙ c.requires.1.walks;
}

few : (c : Start) → c.args.s.levels ≤ 4
few c = few_levels (granule_of c.args.s.granule) (granule_sane c.args.s.granule) (at c.args.s c.args.words.now c.args.second.now c.requires.0) c.requires.1.good

on : (c : After-past-x) → Rest (granule_of c.args.s.granule) (at c.args.s c.args.words.now c.args.second.now c.requires.0) c.args.address (c.args.address + c.args.bytes)
    → (c.loop-x.x < c.past-x.result) × (c.past-x.result ≤ c.args.address + c.args.bytes)
on c R =
    let a = c.args in
    let l = c.loop-x in
    subst (λ (y : ℕ). (l.x < y) × (y ≤ a.address + a.bytes)) (sym c.past-x.ensures)
    (sweep_on (granule_of a.s.granule) (granule_sane a.s.granule) (at a.s a.words.now a.second.now c.requires.0) a.address a.bytes R (l.invariant.1 c.requires.0 c.requires.1.good) (omega arith) c.in-Ok.ensures)

pub overflow_add-end : goal.overflow_add-end
overflow_add-end c = omega (arith, (rest₀ (goal.at.overflow_add-end c).Start).in_space)

pub overflow_add-most : goal.overflow_add-most
overflow_add-most c = omega (arith, good_setup_lem c.requires.1.good)

pub overflow_sub-most : goal.overflow_sub-most
overflow_sub-most c = omega (arith, good_setup_lem c.requires.1.good)

pub overflow_sub-top : goal.overflow_sub-top
overflow_sub-top c = omega (arith, good_setup_lem c.requires.1.good, (granule_sane c.args.s.granule).large_below)

pub overflow_add-most-2 : goal.overflow_add-most-2
overflow_add-most-2 c = omega (arith, good_setup_lem c.requires.1.good)

pub count_words-requires : goal.count_words-requires
count_words-requires c =
    let N = (good_setup_lem c.requires.1.good).numbers in
    ((omega (arith, N, length-replicate {A = ℕ} 512 0), omega (arith, N)), (_, N.cut_is))

pub loop-x-init : goal.loop-x-init
loop-x-init c =
    let a = c.args in (
      (omega arith, c.count_words.ensures.0 ∙ length-replicate {A = ℕ} 512 0),
      λ list g. sweep_none (granule_of a.s.granule) (granule_sane a.s.granule) (allowed (goal.at.loop-x-init c).Start list g) (c.count_words.ensures.0 ∙ length-replicate {A = ℕ} 512 0)
          (λ t l. c.count_words.ensures.1 t (omega (arith, good_setup_lem c.requires.1.good))),
    )

-- no walk of these pages meets damage
pub returns-in_default : goal.returns-in_default
returns-in_default c =
    let a = c.args in
    absurd (sweep_sound (granule_of a.s.granule) (granule_sane a.s.granule) (at a.s a.words.now a.second.now c.requires.0) a.address a.bytes (rest₀ (goal.at.returns-in_default c).Start)
    (c.loop-x.invariant.1 c.requires.0 c.requires.1.good) (omega arith) c.in_default.ensures.0)

pub lower-requires : goal.lower-requires
lower-requires c =
    let a = c.args in
    let l = c.loop-x in
    (sweep_height (granule_of a.s.granule) (granule_sane a.s.granule) (at a.s a.words.now a.second.now c.requires.0) a.address a.bytes (rest₀ (goal.at.lower-requires c).Start) (l.invariant.1 c.requires.0 c.requires.1.good) (omega arith) c.in-Ok.ensures, omega (arith, few (goal.at.lower-requires c).Start))

pub overflow_add-free : goal.overflow_add-free
overflow_add-free c =
    let a = c.args in
    let l = c.loop-x in
    let G = granule_of a.s.granule in
    let Z = granule_sane a.s.granule in
    let p = at a.s a.words.now a.second.now c.requires.0 in
    let R = rest₀ (goal.at.overflow_add-free c).Start in
    let S = l.invariant.1 c.requires.0 c.requires.1.good in
    omega (arith, few (goal.at.overflow_add-free c).Start, sweep_free G Z p a.address a.bytes R S (omega arith), sweep_few G Z p a.address a.bytes R S (omega arith) c.in-Ok.ensures c.if-met.true c.lower.ensures)

pub returns-then-free-most : goal.returns-then-free-most
returns-then-free-most c =
    let a = c.args in
    let l = c.loop-x in
    λ list g. ap not (sym (sweep_full (granule_of a.s.granule) (granule_sane a.s.granule) (at a.s a.words.now a.second.now list) a.address a.bytes (rest (goal.at.returns-then-free-most c).Start list g) (l.invariant.1 list g) (omega arith) c.in-Ok.ensures c.if-met.true c.lower.ensures (omega (arith, c.if-free-most.true))))

pub past-x-requires : goal.past-x-requires
past-x-requires c =
    let a = c.args in
    (met_low (granule_of a.s.granule) (granule_sane a.s.granule) (at a.s a.words.now a.second.now c.requires.0) c.requires.1.good c.loop-x.x c.in-Ok.ensures, omega (arith, (rest₀ (goal.at.past-x-requires c).Start).in_space))

pub loop-x-smaller : goal.loop-x-smaller
loop-x-smaller c = omega (arith, on (goal.at.loop-x-smaller c).After-past-x (rest₀ (goal.at.loop-x-smaller c).Start))

pub loop-x-preserved : goal.loop-x-preserved
loop-x-preserved c =
    let a = c.args in
    let l = c.loop-x in
    let G = granule_of a.s.granule in
    let Z = granule_sane a.s.granule in
    let next : (list : List ℕ) → good_pool G (at a.s a.words.now a.second.now list) ≡ true → Swept G (at a.s a.words.now a.second.now list) a.address a.bytes c.past-x.result c.if-met.counts c.if-met.free =
    λ list g.
    let R = rest (goal.at.loop-x-preserved c).Start list g in
    subst (λ (y : ℕ). Swept G (at a.s a.words.now a.second.now list) a.address a.bytes y c.if-met.counts c.if-met.free) (sym c.past-x.ensures)
    (elim c.if-met.branch [
      | then-met+else-free-most w ↦ sweep_same G (sweep_frame G Z (at a.s a.words.now a.second.now list) a.address a.bytes R (l.invariant.1 list g) (omega arith) c.in-Ok.ensures w.if-met.true w.lower.ensures (omega (arith, w.if-free-most.false))) w.counts-is w.free-is
      | else-met w ↦ sweep_same G (sweep_hole G Z (at a.s a.words.now a.second.now list) a.address a.bytes R (l.invariant.1 list g) (omega arith) c.in-Ok.ensures w.if-met.false) w.counts-is w.free-is
    ]) in
    (((on (goal.at.loop-x-preserved c).After-past-x (rest₀ (goal.at.loop-x-preserved c).Start)).1, (next c.requires.0 c.requires.1.good).long), next)

pub returns : goal.returns
returns c =
    let a = c.args in
    let l = c.loop-x in
    λ list g. ap not (sym (swept_all (granule_of a.s.granule) (granule_sane a.s.granule) (at a.s a.words.now a.second.now list) a.address a.bytes (l.invariant.1 list g) (omega (arith, l.invariant.0.0))))
