-- `rangeunmaps::beyond`: past a region, or past a row that is tested.
use mathlib.Core.Path.{◌≡◌, refl, sym, ap, ◌∙◌, subst}
use Prim.Native.Nat.{ℕ, ◌+◌, ◌-◌, ◌*◌, ◌≤◌}
use Rattle.std.proofs.Common.{Some}
use mathlib.Core.List.{◌++◌}
use native.Mathlib.Omega.{arith}
use Rattle.laws.specs.Lists.{part}
use Rattle.path.specs.Geometry.{granule_of, page_size}
use Rattle.path.specs.Paths.{index_at}
use Rattle.path.specs.Laws.{granule_sane, level_some, size_zero}
use Rattle.model.specs.Walk.{slot}
use Rattle.ranges.specs.Stretches.{stretch_at}
use Rattle.sweeps.specs.Parts.{misfits_in, row_of}
use Rattle.sweeps.specs.Clearing.{stretch_room, stretch_fits}
use Rattle.rangeunmaps.proofs.beyond.Goals as goal
use Rattle.rangeunmaps.proofs.beyond.Goals.{After-misfits-bad, After-stretch-n}

many : (c : After-stretch-n) → let a = c.args in c.stretch-n.result ≡ stretch_at (granule_of a.granule) a.address (a.end - a.address) 0
many c = let a = c.args in c.stretch-n.ensures ∙ level_some (granule_of a.granule) {h = 0} (omega (arith, granule_sane a.granule)) _

bytes : (c : After-stretch-n) → let a = c.args in c.stretch-n.result * page_size (granule_of a.granule) ≤ a.end - a.address
bytes c =
    let a = c.args in
    let G = granule_of a.granule in
    subst (λ (n : ℕ). n * page_size G ≤ a.end - a.address) (sym (many c)) (subst (λ (s : ℕ). stretch_at G a.address (a.end - a.address) 0 * s ≤ a.end - a.address) (size_zero G) (stretch_fits G a.address (a.end - a.address) 0))

bad_is : (c : After-misfits-bad) → let a = c.args in c.misfits-bad.result ≡ misfits_in (granule_of a.granule) (row_of (granule_of a.granule) (a.words.now ++ a.second.now) a.t a.address a.end)
bad_is c =
    let a = c.args in
    let G = granule_of a.granule in
    c.misfits-bad.ensures ∙ ap (misfits_in G) (c.row.ensures ∙ ap (part (a.words.now ++ a.second.now) (slot G a.t (index_at G a.address 0))) (c.stretch-n.ensures ∙ level_some G {h = 0} (omega (arith, granule_sane a.granule)) _))

pub returns-then-left-gt0 : goal.returns-then-left-gt0
returns-then-left-gt0 c = record { past_region = λ m. ap Some c.past.ensures; faulty = λ z m. absurd (omega (arith, c.if-left-gt0.true)); past_row = λ z m. absurd (omega (arith, c.if-left-gt0.true)) }

pub row-requires : goal.row-requires
row-requires c =
    let a = c.args in
    let (k, b) = c.requires.1 (omega (arith, c.if-left-gt0.false)) in
    (k, (b, omega (arith, many (goal.at.row-requires c).After-stretch-n, stretch_room (granule_of a.granule) a.address (a.end - a.address) 0)))

pub returns-then-bad-gt0 : goal.returns-then-bad-gt0
returns-then-bad-gt0 c = record {
  past_region = λ m. absurd (omega (arith, c.if-left-gt0.false));
  faulty = λ z m. refl;
  past_row = λ z m. absurd (omega (arith, m, bad_is (goal.at.returns-then-bad-gt0 c).After-misfits-bad, c.if-bad-gt0.true));
}

pub overflow_mul-result : goal.overflow_mul-result
overflow_mul-result c = omega (arith, ap (λ (w : ℕ). c.stretch-n.result * w) c.page_of.ensures, bytes (goal.at.overflow_mul-result c).After-stretch-n, c.requires.0.1.1)

pub overflow_add-result : goal.overflow_add-result
overflow_add-result c = omega (arith, ap (λ (w : ℕ). c.stretch-n.result * w) c.page_of.ensures, bytes (goal.at.overflow_add-result c).After-stretch-n, c.requires.0.1.0, c.requires.0.1.1)

pub returns : goal.returns
returns c = record {
  past_region = λ m. absurd (omega (arith, c.if-left-gt0.false));
  faulty = λ z m. absurd (m (sym (bad_is (goal.at.returns c).After-misfits-bad) ∙ omega (arith, c.if-bad-gt0.false)));
  past_row = λ z m. (λ i. Some (c.args.address + many (goal.at.returns c).After-stretch-n i * c.page_of.ensures i));
}
