-- `indices::address_of` meets its contract, by the granule. A place is below 2^16, so that no product and no sum wraps.
use Prim.Native.Nat.{ℕ}
use mathlib.Core.Path.{sym}
use native.Mathlib.Omega.{arith}
use lib.ListN.{get_or}
use mir.Syntax.{w16}
use mir.Val.{Fits}
use borrow.Author.Rules.{elem_Fits}
use Rattle.path.specs.Geometry.{four, sixteen, size_at}
use Rattle.path.specs.Laws.{granule_sixteen, granule_four}
use Rattle.path.specs.PathLaws.{address_places}
use Rattle.indices.proofs.address_of.Goals as goal
use Rattle.indices.proofs.address_of.Goals.{Start}

place : (c : Start) (i : ℕ) → Fits w16 (get_or c.args.path i 0)
place c i = elem_Fits w16 w16 c.args.path _ i c.well_formed.1.0.1.1 tt

places : (c : Start)
    → Fits w16 (get_or c.args.path 0 0)
    × Fits w16 (get_or c.args.path 1 0)
    × Fits w16 (get_or c.args.path 2 0)
    × Fits w16 (get_or c.args.path 3 0)
places c = (place c 0, place c 1, place c 2, place c 3)

pub overflow_mul-result : goal.overflow_mul-result
overflow_mul-result c = omega (arith, places (goal.at.overflow_mul-result c).Start)

pub overflow_mul-result-then-granule-eq-KIB16 : goal.overflow_mul-result-then-granule-eq-KIB16
overflow_mul-result-then-granule-eq-KIB16 c = omega (arith, places (goal.at.overflow_mul-result-then-granule-eq-KIB16 c).Start)

pub overflow_add-result : goal.overflow_add-result
overflow_add-result c = omega (arith, places (goal.at.overflow_add-result c).Start)

pub overflow_mul-result-then-granule-eq-KIB16-2 : goal.overflow_mul-result-then-granule-eq-KIB16-2
overflow_mul-result-then-granule-eq-KIB16-2 c = omega (arith, places (goal.at.overflow_mul-result-then-granule-eq-KIB16-2 c).Start)

pub overflow_add-result-then-granule-eq-KIB16 : goal.overflow_add-result-then-granule-eq-KIB16
overflow_add-result-then-granule-eq-KIB16 c = omega (arith, places (goal.at.overflow_add-result-then-granule-eq-KIB16 c).Start)

pub overflow_mul-result-then-granule-eq-KIB16-3 : goal.overflow_mul-result-then-granule-eq-KIB16-3
overflow_mul-result-then-granule-eq-KIB16-3 c = omega (arith, places (goal.at.overflow_mul-result-then-granule-eq-KIB16-3 c).Start)

pub overflow_add-result-then-granule-eq-KIB16-2 : goal.overflow_add-result-then-granule-eq-KIB16-2
overflow_add-result-then-granule-eq-KIB16-2 c = omega (arith, places (goal.at.overflow_add-result-then-granule-eq-KIB16-2 c).Start)

pub returns-then-granule-eq-KIB16 : goal.returns-then-granule-eq-KIB16
unfolding size_at
returns-then-granule-eq-KIB16 c = rw (granule_sixteen c.if-granule-eq-KIB16.true) (sym (address_places sixteen c.args.path c.well_formed.1.0.1.0.1))

pub overflow_mul-result-2 : goal.overflow_mul-result-2
overflow_mul-result-2 c = omega (arith, places (goal.at.overflow_mul-result-2 c).Start)

pub overflow_mul-result-3 : goal.overflow_mul-result-3
overflow_mul-result-3 c = omega (arith, places (goal.at.overflow_mul-result-3 c).Start)

pub overflow_add-result-2 : goal.overflow_add-result-2
overflow_add-result-2 c = omega (arith, places (goal.at.overflow_add-result-2 c).Start)

pub overflow_mul-result-4 : goal.overflow_mul-result-4
overflow_mul-result-4 c = omega (arith, places (goal.at.overflow_mul-result-4 c).Start)

pub overflow_add-result-3 : goal.overflow_add-result-3
overflow_add-result-3 c = omega (arith, places (goal.at.overflow_add-result-3 c).Start)

pub overflow_mul-result-5 : goal.overflow_mul-result-5
overflow_mul-result-5 c = omega (arith, places (goal.at.overflow_mul-result-5 c).Start)

pub overflow_add-result-4 : goal.overflow_add-result-4
overflow_add-result-4 c = omega (arith, places (goal.at.overflow_add-result-4 c).Start)

pub returns : goal.returns
unfolding size_at
returns c = rw (granule_four c.if-granule-eq-KIB16.false) (sym (address_places four c.args.path c.well_formed.1.0.1.0.1))
