-- `setups::numbers_by` meets its contract: each test refuses what breaks its rule, and what is left keeps them all.
use Prim.Native.Nat.{ℕ, ◌+◌, ◌*◌, ◌≤◌}
use mathlib.Core.Path.{◌≡◌, sym, ap, ◌∙◌}
use mathlib.Core.Logic.{◌⊎◌, inl, inr, ⊎_elim}
use mathlib.Core.Bool.{true, false≢true}
use native.Mathlib.Nat.{mul-add, zero-mod}
use native.Mathlib.Omega.{arith}
use borrow.Author.Tests.{eqb-true, eq-eqb, not-true, not-false}
use Rattle.path.specs.Geometry.{Granule, granule_of, page_size, entries, good_levels}
use Rattle.path.specs.Areas.{area_at}
use Rattle.path.specs.Numbers.{most_tables, GoodNumbers}
use Rattle.path.specs.Laws.{good_levels_lem, levels_some, good_numbers_lem, numbers_good, numbers_bad, same_truth}
use Rattle.setups.proofs.OneRegion.{GoodRegion, good_region_lem, region_good}
use Rattle.setups.proofs.numbers_by.Goals as goal
use Rattle.setups.proofs.numbers_by.Goals.{then-base2-base+else-base-base2, else-base2-base}

module _ {G : Granule} {levels b n q m w places : ℕ} where
  -- the rules of the levels and of the first region, and what is left
  good : {v : ℕ} → good_levels G levels ≡ true
      → 1 ≤ n
      → GoodRegion G b n w
      → GoodRegion G q m v
      → n + m ≤ most_tables
      → (b + page_size G * n ≤ q) ⊎ (q + page_size G * m ≤ b)
      → (m ≡ 0 → q ≡ 0)
      → places ≡ n + m
      → GoodNumbers G levels (area_at b n q m) w (w + v) places
  good e s R Q f apart none p = record {
    enough = (good_levels_lem G levels e).0;
    not_more = (good_levels_lem G levels e).1;
    some_table = s;
    few = f;
    placed = record { aligned = R.aligned; fits = R.fits; aligned₂ = Q.aligned; fits₂ = Q.fits; apart = apart; no_second = none };
    cut_is = R.words_are;
    words_are = omega (arith, mul-add (entries G) n m, R.words_are, Q.words_are);
    places_are = p;
  }

  -- the numbers ask of each region what is asked of it by itself
  first : {words : ℕ} → GoodNumbers G levels (area_at b n q m) w words places → GoodRegion G b n w
  first N = record { few = omega (arith, N.few); aligned = N.placed.aligned; fits = N.placed.fits; words_are = N.cut_is }

  second : {v : ℕ} → GoodNumbers G levels (area_at b n q m) w (w + v) places → GoodRegion G q m v
  second N = record {
    few = omega (arith, N.few);
    aligned = N.placed.aligned₂;
    fits = N.placed.fits₂;
    words_are = omega (arith, mul-add (entries G) n m, N.cut_is, N.words_are);
  }

-- no region at all
none : (G : Granule) {q m v : ℕ} → q ≡ 0 → m ≡ 0 → v ≡ 0 → GoodRegion G q m v
none G e f g = record { few = omega arith; aligned = rw e (zero-mod (page_size G)); fits = rw (e, f) (omega arith); words_are = rw f (omega arith) }

pub returns-then-not-good_levels : goal.returns-then-not-good_levels
returns-then-not-good_levels c =
    let a = c.args in
    sym (numbers_bad (λ N. false≢true (sym (not-true _ c.if-not-good_levels.true-raw) ∙ c.good_levels.ensures ∙ levels_some (granule_of a.granule) N.enough N.not_more)))

pub returns-then-tables-lt1 : goal.returns-then-tables-lt1
returns-then-tables-lt1 c = sym (numbers_bad (λ N. omega (arith, N.some_table)))

pub returns-then-tables-gt-MOST_TABLES : goal.returns-then-tables-gt-MOST_TABLES
returns-then-tables-gt-MOST_TABLES c = sym (numbers_bad (λ N. omega (arith, N.few)))

pub good_region-requires : goal.good_region-requires
good_region-requires c = (c.requires, omega arith)

pub returns-then-not-good_region : goal.returns-then-not-good_region
returns-then-not-good_region c = sym (numbers_bad (λ N. false≢true (sym (not-true _ c.if-not-good_region.true-raw) ∙ c.good_region.ensures ∙ region_good (first N))))

pub returns-then-base2-ne0 : goal.returns-then-base2-ne0
returns-then-base2-ne0 c = sym (numbers_bad (λ N. omega (arith, N.placed.no_second (omega arith))))

pub returns-then-second-ne0 : goal.returns-then-second-ne0
returns-then-second-ne0 c =
    let a = c.args in
    sym (numbers_bad (λ N. omega (arith, (second N).words_are, ap (λ (m : ℕ). entries (granule_of a.granule) * m) c.if-tables2-eq0.true)))

pub returns-then-tables2-eq0 : goal.returns-then-tables2-eq0
returns-then-tables2-eq0 c =
    let a = c.args in
    let G = granule_of a.granule in
    let R = good_region_lem (sym c.good_region.ensures ∙ not-false _ c.if-not-good_region.false-raw) in
    same_truth _ _
    (λ e. numbers_good (good
    (sym c.good_levels.ensures ∙ not-false _ c.if-not-good_levels.false-raw)
    (omega arith)
    R
    (none G (omega arith) (omega arith) (omega arith))
    (omega (arith, R.few))
    (inr (omega (arith, ap (λ (m : ℕ). page_size G * m) c.if-tables2-eq0.true)))
    (λ z. omega arith)
    (omega (arith, eqb-true a.places a.tables e))))
    (λ e. eq-eqb a.places a.tables (omega (arith, (good_numbers_lem e).places_are)))

pub returns-then-tables2-tables : goal.returns-then-tables2-tables
returns-then-tables2-tables c = sym (numbers_bad (λ N. omega (arith, N.few)))

pub good_region-requires-2 : goal.good_region-requires-2
good_region-requires-2 c = (c.requires, omega arith)

pub returns-then-not-good_region-2 : goal.returns-then-not-good_region-2
returns-then-not-good_region-2 c = sym (numbers_bad (λ N. false≢true (sym (not-true _ c.if-not-good_region-2.true-raw) ∙ c.good_region-2.ensures ∙ region_good (second N))))

pub overflow_mul-granule : goal.overflow_mul-granule
overflow_mul-granule c =
    let R = good_region_lem (sym c.good_region.ensures ∙ not-false _ c.if-not-good_region.false-raw) in
    omega (arith, rw (← c.requires) at R.fits)

pub overflow_add-base : goal.overflow_add-base
overflow_add-base c =
    let R = good_region_lem (sym c.good_region.ensures ∙ not-false _ c.if-not-good_region.false-raw) in
    omega (arith, rw (← c.requires) at R.fits)

pub overflow_mul-granule-then-base2-base : goal.overflow_mul-granule-then-base2-base
overflow_mul-granule-then-base2-base c =
    let Q = good_region_lem (sym c.good_region-2.ensures ∙ not-false _ c.if-not-good_region-2.false-raw) in
    omega (arith, rw (← c.requires) at Q.fits)

pub overflow_add-base2 : goal.overflow_add-base2
overflow_add-base2 c =
    let Q = good_region_lem (sym c.good_region-2.ensures ∙ not-false _ c.if-not-good_region-2.false-raw) in
    omega (arith, rw (← c.requires) at Q.fits)

pub returns-then-base-base2 : goal.returns-then-base-base2
returns-then-base-base2 c =
    let e = c.requires in
    sym (numbers_bad (λ N. ⊎_elim (λ l. omega (arith, rw (← e) at l)) (λ l. omega (arith, rw (← e) at l)) N.placed.apart))

pub returns : goal.returns
returns c =
    let R = good_region_lem (sym c.good_region.ensures ∙ not-false _ c.if-not-good_region.false-raw) in
    let Q = good_region_lem (sym c.good_region-2.ensures ∙ not-false _ c.if-not-good_region-2.false-raw) in
    let e = c.requires in
    same_truth _ _
    (λ t. numbers_good (good
    (sym c.good_levels.ensures ∙ not-false _ c.if-not-good_levels.false-raw)
    (omega arith)
    R
    Q
    (omega arith)
    (elim c.if-base2-base.branch [ then-base2-base+else-base-base2 w ↦ inr (rw (← e) (omega arith)) | else-base2-base w ↦ inl (rw (← e) (omega arith)) ])
    (λ z. omega arith)
    (eqb-true _ _ t)))
    (λ t. eq-eqb _ _ (good_numbers_lem t).places_are)
