-- What format does, by what its test found.
use Prim.Native.Nat.{ℕ, ◌+◌, ◌-◌}
use mathlib.Core.Path.{◌≡◌, sym, ap, ap₂, ◌∙◌}
use mathlib.Core.Bool.{Bool, true, false}
use mathlib.Core.List.{List, ◌++◌}
use borrow.Author.Tests.{eqb-true}
use lib.ListN.{length, replicate, length-append, length-replicate, replicate-append-replicate}
use Rattle.laws.specs.Lists.{down}
use Rattle.path.specs.Geometry.{Granule, good_granule, granule_of, page_size}
use Rattle.path.specs.Areas.{Area, total}
use Rattle.path.specs.Numbers.{setup, no_setup, good_numbers, GoodNumbers}
use Rattle.path.specs.Laws.{good_numbers_lem, granule_page}
use Rattle.model.specs.Answers.{formatted, refused, pool, done}
use Rattle.model.specs.Calls.{format_w, format_n}

-- past the test the numbers are good
pub good : {G : Granule} {levels : ℕ} {area : Area} {cut words places : ℕ} {r : Bool} → r ≡ good_numbers G levels area cut words places → r ≡ true
    → GoodNumbers G levels area cut words places
good e n = good_numbers_lem (sym e ∙ n)

module _ (number levels : ℕ) (area : Area) (ws us list : List ℕ) {n : Bool} (g : n ≡ good_granule number) where
  -- a number that names no granule
  pub format_unnamed : n ≡ false → done (refused 1) (pool no_setup (ws ++ us) (length ws) list) ≡ format_n number levels area (ws ++ us) (length ws) list
  unfolding format_n
  format_unnamed k = rw (sym g ∙ k)

  module _ {r : Bool} (e : r ≡ good_numbers (granule_of number) levels area (length ws) (length ws + length us) (length list)) where
    -- the same test, of the runs put together
    whole : r ≡ good_numbers (granule_of number) levels area (length ws) (length (ws ++ us)) (length list)
    whole = rw (length-append ws us) e

    -- a number or a length that is not good
    pub format_bad : n ≡ true → r ≡ false
        → done (refused 1) (pool no_setup (ws ++ us) (length ws) list) ≡ format_n number levels area (ws ++ us) (length ws) list
    unfolding format_n format_w
    format_bad k h = rw (sym g ∙ k, sym whole ∙ h)

    -- past the tests; a number that names a granule is that granule's
    pub format_done : {w u l : List ℕ} → n ≡ true → r ≡ true → w ≡ replicate (length ws) 0 → u ≡ replicate (length us) 0 → l ≡ down (length list)
        → done formatted (pool (setup levels area.base area.tables (total area - 1) area.base₂ area.tables₂ number) (w ++ u) (length w) l)
        ≡ format_n number levels area (ws ++ us) (length ws) list
    unfolding format_n format_w
    format_done {w} {u} {l} k h p p₂ q =
        let o : GoodNumbers (granule_of number) levels area (length ws) (length ws + length us) (length list) = good e h in
        let both : w ++ u ≡ replicate (length (ws ++ us)) 0 =
        ap₂ ◌++◌ p p₂ ∙ replicate-append-replicate (length ws) (length us) 0 ∙ ap (λ (k : ℕ). replicate k 0) (sym (length-append ws us)) in
        let long : length w ≡ length ws = ap length p ∙ length-replicate {A = ℕ} (length ws) 0 in
        let all : l ≡ down (total area) = q ∙ ap down o.places_are in
        let page : number ≡ page_size (granule_of number) = eqb-true _ _ (sym (granule_page number) ∙ sym g ∙ k) in
        rw (sym g ∙ k, sym whole ∙ h)
        (λ i. done formatted (pool (setup levels area.base area.tables (total area - 1) area.base₂ area.tables₂ (page i)) (both i) (long i) (all i)))
