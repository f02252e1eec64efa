-- What a range leaves, of any pool whatever: everything as it was, or the pool after single writes.
use Rattle.std.specs.Prelude.{ℕ, List, [], ◌∷◌}
use Rattle.path.specs.Geometry.{Granule}
use Rattle.model.specs.Answers.{Pool, Done}
use Rattle.model.specs.Calls.{unmap_w}
use Rattle.model.proofs.LeftLaws.{leaves_on, map_leaves, unmap_leaves}
use Rattle.model.specs.LeftLaws.{Leaves, as_it_was}
use Rattle.model.specs.Ranges.{map_piece, left_by, map_range_w, unmap_range_w}
use Rattle.model.proofs.RangeMapped.{map_range_view}
use Rattle.model.specs.RangeMapped.{MapRangeView, range_takes, range_refuses}
use Rattle.model.proofs.RangeUnmapLaws.{unmap_range_view}
use Rattle.model.specs.RangeUnmapped.{UnmapRangeView, range_clears, range_stays}

-- calls one after the other
pub left_leaves : (G : Granule) {A : Type 0} (call : Pool → A → Done) → ((p : Pool) (x : A) → Leaves G p (call p x).after) → (p : Pool) (xs : List A)
    → Leaves G p (left_by call p xs)
unfolding left_by
left_leaves G call f p [] = as_it_was
left_leaves G call f p (x ∷ xs) = leaves_on (f p x) (left_leaves G call f (call p x).after xs)

module _ (G : Granule) (p : Pool) where
  pub map_range_leaves : (a b len k : ℕ) → Leaves G p (map_range_w G p a b len k).after
  map_range_leaves a b len k = go (map_range_w G p a b len k) (map_range_view G p a b len k)
    where
      go : (d : Done) → MapRangeView G p a b len k d → Leaves G p d.after
      go d (range_takes B) = left_leaves G (map_piece G) (λ p m. map_leaves G p m.at m.frame m.size m.attributes) p _
      go d (range_refuses j) = as_it_was

  pub unmap_range_leaves : (a len : ℕ) → Leaves G p (unmap_range_w G p a len).after
  unmap_range_leaves a len = go (unmap_range_w G p a len) (unmap_range_view G p a len)
    where
      go : (d : Done) → UnmapRangeView G p a len d → Leaves G p d.after
      go d (range_clears B) = left_leaves G (unmap_w G) (λ p x. unmap_leaves G p x) p _
      go d (range_stays j) = as_it_was
