-- What map a range does, by what its tests found.
use Rattle.std.specs.Prelude.{ℕ, ◌≡◌, ◌≤◌, ◌<◌, true, false, List, Ok, Err}
use Rattle.std.proofs.Common.{ap, sym, ◌∙◌}
use borrow.Author.Tests.{lt-ltb, le-ltb}
use Rattle.path.specs.Geometry.{Granule}
use Rattle.path.specs.Areas.{area_of, total}
use Rattle.model.specs.declared.Refusal.{Refusal}
use Rattle.model.specs.Answers.{Mapping, Answer, took, Pool, done, refuse, says_refusal, tested}
use Rattle.model.specs.Writes.{may_take}
use Rattle.model.specs.Calls.{good_pool}
use Rattle.model.specs.Ranges.{map_range_tests, pieces, piece_walks, ways, map_piece, left_by, map_range_here, map_range_at, map_range_w}
use Rattle.model.proofs.TestedLaws.{tested_err, tested_refused}
use Rattle.rangemaps.specs.Surveys.{MarksOf, Surveyed, is_spoiled, is_taken_lem, is_free}

module _ (G : Granule) (p : Pool) (a b len k : ℕ) where
  pub range_bad : good_pool G p ≡ false → refuse 1 p ≡ map_range_w G p a b len k
  unfolding map_range_w
  range_bad g = rw g

  module _ (g : good_pool G p ≡ true) where
    pub range_refused : (r : Refusal) → says_refusal r ≡ tested (map_range_tests G p.numbers.levels (area_of p.numbers) a b len k)
        → done (says_refusal r) p ≡ map_range_w G p a b len k
    unfolding map_range_w
    range_refused r e =
        ap (λ (x : Answer). done x p) (tested_refused (map_range_tests G p.numbers.levels (area_of p.numbers) a b len k) r e)
        ∙ sym (rw (g, tested_err (map_range_tests G p.numbers.levels (area_of p.numbers) a b len k) r e))

    module _ (t : map_range_tests G p.numbers.levels (area_of p.numbers) a b len k ≡ 0) where
      abbrev ms : List Mapping
      ms = pieces G a b len k

      at : map_range_w G p a b len k ≡ map_range_at G p ms
      unfolding map_range_w
      at = rw (g, t)

      pub range_found : {r : Refusal} {M : List ℕ} → Surveyed G p ms (Err r) M → done (says_refusal r) p ≡ map_range_w G p a b len k
      unfolding map_range_at
      range_found (is_spoiled q) = sym (at ∙ rw q)
      range_found (is_taken_lem q s) = sym (at ∙ rw (q, s))

      module _ {need : ℕ} {M : List ℕ} (S : Surveyed G p ms (Ok need) M) where
        pub found_marks : MarksOf (ways (piece_walks G p ms)) M
        found_marks = go S
          where
            go : Surveyed G p ms (Ok need) M → MarksOf (ways (piece_walks G p ms)) M
            go (is_free q s u v) = v

        here_at_lem : map_range_w G p a b len k ≡ map_range_here G p ms need
        unfolding map_range_at
        here_at_lem = at ∙ go S
          where
            go : Surveyed G p ms (Ok need) M → map_range_at G p ms ≡ map_range_here G p ms need
            go (is_free q s u v) = rw (q, s, ← u)

        pub range_short : p.numbers.free < need → refuse 7 p ≡ map_range_w G p a b len k
        unfolding map_range_here
        range_short l = sym (here_at_lem ∙ rw (lt-ltb _ _ l))

        module _ (l : need ≤ p.numbers.free) where
          pub range_unfit : false ≡ may_take p.list (total (area_of p.numbers)) (ways (piece_walks G p ms)) p.numbers.free need → refuse 8 p ≡ map_range_w G p a b len k
          unfolding map_range_here
          range_unfit m = sym (here_at_lem ∙ rw (le-ltb _ _ l, ← m))

          pub range_accepted : true ≡ may_take p.list (total (area_of p.numbers)) (ways (piece_walks G p ms)) p.numbers.free need
              → map_range_w G p a b len k ≡ done (took need) (left_by (map_piece G) p ms)
          unfolding map_range_here
          range_accepted m = here_at_lem ∙ rw (le-ltb _ _ l, ← m)
