-- The cases of ranges hold.
use Rattle.std.specs.Prelude.{ℕ, zero, suc, ◌≡◌, refl, [], ◌∷◌}
use Rattle.std.proofs.Common.{ap, ◌∙◌}
use Rattle.path.specs.Geometry.{Granule, four, size_at}
use Rattle.model.specs.Answers.{mapping, refused, Pool, Done}
use Rattle.model.specs.Cases.{format_at, map_as}
use Rattle.model.specs.Ranges.{good_length, map_range_tests, fits_at, piece_at, pieces_from, pieces, map_range_at, map_range_w}
use Rattle.model.specs.RangeCases.{on_pool_as, on_pool, map_range_as, unmap_range_as, shared, RangeCases}

-- two pieces of 1 GiB, by as many pages as there are: the pages are more than can be counted down here, and the pieces are found after two
two_pieces : (pages k : ℕ) → pieces_from four k (suc (suc pages)) 0 0x80000000 0x80000000
    ≡ mapping 0 0x80000000 0x40000000 k ∷ mapping 0x40000000 0xC0000000 0x40000000 k ∷ []
unfolding size_at pieces_from fits_at piece_at
two_pieces zero k = refl
two_pieces (suc pages) k = refl

large_pieces : pieces four 0 0x80000000 0x80000000 3 ≡ mapping 0 0x80000000 0x40000000 3 ∷ mapping 0x40000000 0xC0000000 0x40000000 3 ∷ []
unfolding pieces
large_pieces = two_pieces 524286 3

-- with those pieces the call comes to two tables
large_at : (map_range_at four shared (mapping 0 0x80000000 0x40000000 3 ∷ mapping 0x40000000 0xC0000000 0x40000000 3 ∷ [])).answer ≡ refused 6
unfolding on_pool_as
large_at = refl

large_w : map_range_w four shared 0 0x80000000 0x80000000 3 ≡ map_range_at four shared (pieces four 0 0x80000000 0x80000000 3)
unfolding format_at map_as good_length map_range_tests map_range_w
large_w = refl

by_w : (G : Granule) (p : Pool) (a b len k : ℕ) → on_pool_as G p a b len k ≡ map_range_w G p a b len k
unfolding on_pool_as
by_w G p a b len k = refl

large : (on_pool shared 0 0x80000000 0x80000000 3).answer ≡ refused 6
large =
    ap (λ (d : Done). d.answer) (by_w four shared 0 0x80000000 0x80000000 3 ∙ large_w ∙ ap (map_range_at four shared) large_pieces) ∙ large_at

pub range_cases : RangeCases
unfolding map_range_as unmap_range_as
range_cases =
    record {
      two_sizes = refl;
      all_three = refl;
      by_both = refl;
      takes = (refl, refl);
      none_free = refl;
      takes_pages = (refl, refl);
      clears = (refl, refl);
      clears_table = (refl, refl);
      clears_some = (refl, refl);
      clears_first = (refl, refl);
      clears_none = (refl, refl);
      clears_fresh = (refl, refl);
      cut_end = (refl, refl);
      cut_start = (refl, refl);
      cut_inside = (refl, refl);
      occupied = (refl, refl);
      too_few = (refl, refl);
      no_length = (refl, refl);
      part_page = (refl, refl);
      too_long = (refl, refl);
      attributes = (refl, refl);
      past_end = (refl, refl);
      past_all = (refl, refl);
      unmap_past_all = (refl, refl);
      off_page = (refl, refl);
      frame_off_page = (refl, refl);
      unmap_off_page = (refl, refl);
      in_pool_lem = (refl, refl);
      before_pool = (refl, refl);
      one_side = refl;
      crossing = refl;
      two_large = large;
      unmap_crossing = refl;
      unmap_one_side = refl;
      on_path = refl;
      no_room = refl;
    }
