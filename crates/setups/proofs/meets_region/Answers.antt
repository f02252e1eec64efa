-- `setups::meets_region` meets its contract: a frame that starts below the tables, and one that does not.
use Prim.Native.Nat.{ℕ, ◌-◌, ◌/◌, ◌≤◌, ◌<◌}
use mathlib.Core.Path.{◌≡◌, sym}
use native.Mathlib.Nat.{mul_comm, mul-lt-mul_of_pos_left, div-lt_iff_lt-mul}
use native.Mathlib.Omega.{arith}
use lib.Dec.{ltb}
use borrow.Author.Tests.{lt-ltb, ltb-true}
use Rattle.path.specs.Geometry.{Granule, page_size, granule_of}
use Rattle.path.specs.Areas.{meets_region}
use Rattle.path.specs.Laws.{page_pos, same_truth, meets_byte, byte_meets, no_byte, no_tables}
use Rattle.setups.proofs.meets_region.Goals as goal

module _ (G : Granule) (base tables frame size : ℕ) where
  -- a frame from below the tables on shares their first byte, or none
  from_below : frame < base → 0 < tables → ltb (base - frame) size ≡ meets_region G base tables frame size
  from_below l some =
      same_truth (ltb (base - frame) size) (meets_region G base tables frame size)
      (λ e. let m = ltb-true (base - frame) size e in byte_meets G base tables frame size base (omega arith) (omega arith) (omega arith, omega (arith, mul-lt-mul_of_pos_left {k = page_size G} some (page_pos G))))
      (λ e. let (x, s, t, i) = meets_byte G base tables frame size e in lt-ltb (base - frame) size (omega (arith, i.0)))

  -- any other shares its own first byte, or none
  from_base : base ≤ frame → 0 < size → ltb ((frame - base) / page_size G) tables ≡ meets_region G base tables frame size
  from_base l some =
      same_truth (ltb ((frame - base) / page_size G) tables) (meets_region G base tables frame size)
      (λ e. let m = (div-lt_iff_lt-mul (page_pos G)).0 (ltb-true ((frame - base) / page_size G) tables e) in byte_meets G base tables frame size frame (omega arith) (omega arith) (l, omega (arith, mul_comm tables (page_size G))))
      (λ e. let (x, s, t, i) = meets_byte G base tables frame size e in lt-ltb ((frame - base) / page_size G) tables ((div-lt_iff_lt-mul (page_pos G)).1 (omega (arith, i.1, mul_comm tables (page_size G)))))

pub returns-then-tables-eq0 : goal.returns-then-tables-eq0
returns-then-tables-eq0 c = sym (no_tables _ _ _ _ _ c.if-tables-eq0.true)

pub returns-then-frame-base : goal.returns-then-frame-base
returns-then-frame-base c =
    let a = c.args in
    from_below (granule_of a.granule) a.base a.tables a.frame a.size c.if-frame-base.true (omega arith)

pub returns-then-size-lt1 : goal.returns-then-size-lt1
returns-then-size-lt1 c = sym (no_byte _ _ _ _ _ (λ x s t i. omega arith))

pub returns : goal.returns
returns c =
    let a = c.args in
    rw c.pages_in.ensures (from_base (granule_of a.granule) a.base a.tables a.frame a.size (omega arith) (omega arith))
