-- What unmap a range does, by what its tests found.
use Rattle.std.specs.Prelude.{ℕ, ◌+◌, ◌*◌, ◌/◌, ◌≡◌, Bool, true, false, cond, eqb, List}
use Rattle.std.proofs.Common.{refl, ap, sym, ◌∙◌, arith, true≢false}
use Rattle.std.proofs.Math.Nat.{mul-div_cancel}
use Rattle.path.specs.Geometry.{Granule, page_size}
use Rattle.path.specs.Laws.{page_pos}
use Rattle.model.specs.declared.Refusal.{Refusal}
use Rattle.model.specs.Answers.{Answer, cleared, tables_in, says_refusal, tested, Pool, Done, done, refuse}
use Rattle.model.specs.Calls.{good_pool, unmap_w}
use Rattle.model.specs.Ranges.{unmap_range_tests, pages_from, pages_of, Probe, page_walks, spoiled, any_cut_by, answers_of, left_by, sum_of, accepted_in, any_refused, unmap_range_here, unmap_range_at, unmap_range_w}
use Rattle.model.proofs.TestedLaws.{tested_err, tested_refused}
use Rattle.sweeps.specs.Parts.{Removes, walks_say}
use Rattle.sweeps.specs.Rooms.{says_fine}

module _ (G : Granule) (p : Pool) (a len : ℕ) where
  pub range_bad : good_pool G p ≡ false → refuse 1 p ≡ unmap_range_w G p a len
  unfolding unmap_range_w
  range_bad e = rw e refl

  module _ (good : good_pool G p ≡ true) where
    pub range_tested : (r : Refusal) → says_refusal r ≡ tested (unmap_range_tests G p.numbers.levels a len) → done (says_refusal r) p ≡ unmap_range_w G p a len
    unfolding unmap_range_w
    range_tested r e =
        let n = unmap_range_tests G p.numbers.levels a len in
        rw (good, tested_err n r e) (ap (λ (x : Answer). done x p) (tested_refused n r e))

    module _ (fine : unmap_range_tests G p.numbers.levels a len ≡ 0) where
      abbrev xs : List ℕ
      xs = pages_of G a len

      at : unmap_range_w G p a len ≡ unmap_range_at G p a len xs
      unfolding unmap_range_w
      at = rw (good, fine) refl

      pub range_met : (r : Refusal) → says_refusal r ≡ tested (walks_say G p a len) → done (says_refusal r) p ≡ unmap_range_w G p a len
      unfolding unmap_range_at walks_say
      range_met r e = ap (λ (x : Answer). done x p) (tested_refused (walks_say G p a len) r e) ∙ sym (at ∙ go (spoiled G p.numbers.levels ws) (any_cut_by G a len ws) (tested_err (walks_say G p a len) r e))
        where
          ws : List Probe
          ws = page_walks G p xs

          go : (y z : Bool) → eqb (cond y 8 (cond z 10 0)) 0 ≡ false → cond y (refuse 8 p) (cond z (refuse 10 p) (unmap_range_here G p xs (answers_of (unmap_w G) p xs))) ≡ refuse (cond y 8 (cond z 10 0)) p
          go true z q = refl
          go false true q = refl
          go false false q = absurd (true≢false q)

      module _ (quiet : walks_say G p a len ≡ 0) where
        here_at_lem : unmap_range_w G p a len ≡ unmap_range_here G p xs (answers_of (unmap_w G) p xs)
        unfolding unmap_range_at
        here_at_lem = let F = says_fine G p a len quiet in at ∙ rw (F.undamaged, F.one_each, F.uncut)

        pub range_full : any_refused 8 (answers_of (unmap_w G) p (pages_of G a len)) ≡ true → refuse 8 p ≡ unmap_range_w G p a len
        unfolding unmap_range_here
        range_full q = sym (here_at_lem ∙ rw q refl)

        pub range_clears : any_refused 8 (answers_of (unmap_w G) p (pages_of G a len)) ≡ false → {next removed given : ℕ} {q : Pool} → Removes G p a next removed given q → next ≡ a + len
            → done (cleared removed given) q ≡ unmap_range_w G p a len
        unfolding unmap_range_here
        range_clears u {next} {removed} {given} {q} R w =
            let s : len ≡ R.pages * page_size G = omega (arith, R.next_is) in
            let i : len / page_size G ≡ R.pages = ap (λ (z : ℕ). z / page_size G) s ∙ mul-div_cancel R.pages (page_pos G) in
            sym (here_at_lem ∙ rw u (ap clearing (ap (pages_from G a) i) ∙ (λ j. done (cleared (R.removed_is j) (R.given_is j)) (R.after j))))
          where
            clearing : List ℕ → Done
            clearing l = done (cleared (sum_of accepted_in (answers_of (unmap_w G) p l)) (sum_of tables_in (answers_of (unmap_w G) p l))) (left_by (unmap_w G) p l)
