-- What the laws of proofs/AddLaws.antt speak of.
use Prim.Native.Nat.{ℕ}
use Rattle.std.specs.Prelude.{◌≡◌}
use Rattle.std.proofs.Math.Bool.{true}
use Rattle.path.specs.Geometry.{Granule}
use Rattle.path.specs.Areas.{one_region}
use Rattle.model.specs.Answers.{added, Pool, Done, done, refuse}
use Rattle.model.specs.Audit.{of_pool, none_inside}
use Rattle.model.specs.Adds.{good_add, sound_tree, grown}

-- what an add comes to: the pool with the new region, where it passes the three tests, or a refusal
pub data AddView (G : Granule) (p : Pool) (q m : ℕ) : Done → Type 0 where
  add_grows : good_add G p q m ≡ true → sound_tree (of_pool G p) ≡ true → none_inside G (one_region q m) (of_pool G p).mappings ≡ true
      → AddView G p q m (done added (grown G p q m))
  add_refuses : (k : ℕ) → AddView G p q m (refuse k p)
