-- `setups::good_numbers` meets its contract: any number stands for the size of its granule's pages.
use mathlib.Core.Path.{◌≡◌, sym, ap, ◌∙◌}
use Prim.Native.Nat.{ℕ, ◌+◌}
use Rattle.path.specs.Geometry.{Granule, granule_of, page_size}
use Rattle.path.specs.Areas.{area_at}
use Rattle.path.specs.Numbers.{good_numbers}
use Rattle.path.specs.Laws.{page_names}
use Rattle.setups.proofs.good_numbers.Goals as goal

-- the granule that the size of a granule's pages names
same : (number : ℕ) {page : ℕ} → page ≡ page_size (granule_of number) → granule_of page ≡ granule_of number
same number e = ap granule_of e ∙ page_names number

pub numbers_by-requires : goal.numbers_by-requires
numbers_by-requires c = c.page_of-page.ensures ∙ ap page_size (sym (same c.args.granule c.page_of-page.ensures))

pub returns : goal.returns
returns c =
    let a = c.args in
    c.numbers_by.ensures
    ∙ ap (λ (G : Granule). good_numbers G a.levels (area_at a.base a.tables a.base2 a.tables2) a.words (a.words + a.second) a.places)
    (same a.granule c.page_of-page.ensures)
