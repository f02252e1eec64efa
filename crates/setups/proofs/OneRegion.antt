-- What the setup numbers ask of each region by itself. The code tests it of one region after the other.
use Prim.Native.Nat.{ℕ, ◌+◌, ◌*◌, ◌%◌, ◌≤◌}
use mathlib.Core.Path.{◌≡◌}
use mathlib.Core.Bool.{true, false}
use borrow.Author.Tests.{leb-true, eqb-true, le-leb, eq-eqb}
use lib.Dec.{leb, eqb}
use Rattle.path.specs.Geometry.{Granule, page_size, entries, physical}
use Rattle.path.specs.Numbers.{most_tables, good_region}
use Rattle.path.specs.Laws.{both, untrue}

-- the rules of one region, as facts
pub record GoodRegion (G : Granule) (base n words : ℕ) : Type 0 where
  pub few : n ≤ most_tables
  pub aligned : base % page_size G ≡ 0
  pub fits : base + page_size G * n ≤ physical
  pub words_are : words ≡ entries G * n

module _ {G : Granule} {base n words : ℕ} where
  pub good_region_lem : good_region G base n words ≡ true → GoodRegion G base n words
  unfolding good_region
  good_region_lem e =
      let (a, e₁) = both (leb n most_tables) _ e in
      let (b, e₂) = both (eqb (base % page_size G) 0) _ e₁ in
      let (c, d) = both (leb (base + page_size G * n) physical) _ e₂ in
      record { few = leb-true _ _ a; aligned = eqb-true _ _ b; fits = leb-true _ _ c; words_are = eqb-true _ _ d }

  pub region_good : GoodRegion G base n words → good_region G base n words ≡ true
  unfolding good_region
  region_good R = simp (le-leb _ _ R.few, eq-eqb _ _ R.aligned, le-leb _ _ R.fits, eq-eqb _ _ R.words_are)

  pub region_bad : (GoodRegion G base n words → ⊥) → good_region G base n words ≡ false
  region_bad f = untrue _ (λ e. f (good_region_lem e))
