-- `setups::good_region` meets its contract: each test refuses what breaks its rule, and what is left keeps them all.
use Prim.Native.Nat.{ℕ, ◌-◌, ◌*◌, ◌/◌, ◌%◌, ◌^◌, ◌≤◌}
use mathlib.Core.Path.{◌≡◌, sym, ap, ◌∙◌}
use native.Mathlib.Nat.{mul-le-mul, mul_assoc}
use native.Mathlib.Omega.{arith}
use lib.Bits.{bit_and, and_mask}
use borrow.Author.Tests.{eqb-true, eq-eqb}
use Rattle.path.specs.Geometry.{Granule, Sane, granule_of, page_size, entries}
use Rattle.path.specs.Numbers.{most_tables}
use Rattle.path.specs.Laws.{granule_sane, page_least, page_most, page_entries, same_truth}
use Rattle.setups.proofs.OneRegion.{good_region_lem, region_good, region_bad}
use Rattle.setups.proofs.good_region.Goals as goal

module _ {G : Granule} (S : Sane G) {page : ℕ} (e : page ≡ page_size G) where
  -- how far an address is past the start of its page
  page_rest : (a : ℕ) → bit_and a (page - 1) ≡ a % page_size G
  page_rest a = rw e (and_mask a G.page)

  -- a pool's tables are so few that their bytes can be counted,
  few_bytes : {n : ℕ} → n ≤ most_tables → page * n ≤ 2 ^ 34
  few_bytes l = mul-le-mul {n₂ = 2 ^ 25} {m₂ = 512} (omega (arith, page_most G S)) l

  -- and an eighth of them are their words
  words_of : (n : ℕ) → page * n / 8 ≡ entries G * n
  words_of n =
      let x : page * n ≡ 8 * (entries G * n) = ap (λ (k : ℕ). k * n) (e ∙ page_entries G S) ∙ mul_assoc 8 (entries G) n in
      omega arith

pub overflow_sub-granule : goal.overflow_sub-granule
overflow_sub-granule c =
    let g = c.args.granule in
    omega (arith, page_least (granule_of g) (granule_sane g), c.requires.0)

pub returns-then-base-granule-ne0 : goal.returns-then-base-granule-ne0
returns-then-base-granule-ne0 c =
    let a = c.args in
    sym (region_bad (λ R. c.if-base-granule-ne0.true (page_rest (granule_sane a.granule) c.requires.0 a.base ∙ R.aligned)))

pub overflow_mul-bytes : goal.overflow_mul-bytes
overflow_mul-bytes c =
    let a = c.args in
    omega (arith, few_bytes (granule_sane a.granule) c.requires.0 {n = a.tables} c.requires.1)

pub overflow_sub-bytes : goal.overflow_sub-bytes
overflow_sub-bytes c =
    let a = c.args in
    omega (arith, few_bytes (granule_sane a.granule) c.requires.0 {n = a.tables} c.requires.1)

pub returns-then-base-bytes : goal.returns-then-base-bytes
returns-then-base-bytes c = sym (region_bad (λ R. omega (arith, rw (← c.requires.0) at R.fits)))

pub returns : goal.returns
returns c =
    let a = c.args in
    let S = granule_sane a.granule in
    let (p, few) = c.requires in
    rw (words_of S p a.tables)
    (same_truth _ _
    (λ e. region_good (record {
      few = few;
      aligned = sym (page_rest S p a.base) ∙ omega arith;
      fits = rw (← p) (omega (arith, few_bytes S p {n = a.tables} few));
      words_are = eqb-true _ _ e;
    }))
    (λ e. eq-eqb _ _ (good_region_lem e).words_are))
