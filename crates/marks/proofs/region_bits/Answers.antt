-- `marks::region_bits` meets its contract, by the granule.
use Prim.Native.Nat.{ℕ, suc, ◌+◌, ◌*◌, ◌^◌}
use mathlib.Core.Path.{◌≡◌, ap}
use native.Mathlib.Omega.{arith}
use Rattle.path.specs.Geometry.{size_at}
use Rattle.path.specs.Laws.{granule_sixteen, granule_four}
use Rattle.marks.proofs.region_bits.Goals as goal

pub returns-then-granule-eq-KIB16 : goal.returns-then-granule-eq-KIB16
unfolding size_at
returns-then-granule-eq-KIB16 c =
    let h = c.args.height in
    let e : 25 + 11 * h ≡ 14 + 11 * suc h = omega arith in
    rw (granule_sixteen c.if-granule-eq-KIB16.true) (ap (λ (x : ℕ). 2 ^ x) e, omega arith)

pub returns : goal.returns
unfolding size_at
returns c =
    let h = c.args.height in
    let e : 21 + 9 * h ≡ 12 + 9 * suc h = omega arith in
    rw (granule_four c.if-granule-eq-KIB16.false) (ap (λ (x : ℕ). 2 ^ x) e, omega arith)
