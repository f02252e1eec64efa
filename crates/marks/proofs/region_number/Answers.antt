-- `marks::region_number` meets its contract: no such number has more than 32 bits.
use Prim.Native.Nat.{◌/◌, ◌^◌, ◌<◌}
use native.Mathlib.Omega.{arith}
use Rattle.marks.specs.MarkLaws.{region_few}
use Rattle.marks.proofs.region_number.Goals as goal
use Rattle.marks.proofs.region_number.Goals.{After-region_bits-bits}

few : (c : After-region_bits-bits) → c.args.address / 2 ^ c.region_bits-bits.result < 2 ^ 27
few c = let a = c.args in rw c.region_bits-bits.ensures.0 (region_few a.granule a.address a.height c.requires.1)

pub overflow_mul-result : goal.overflow_mul-result
overflow_mul-result c = omega (arith, few (goal.at.overflow_mul-result c).After-region_bits-bits)

pub overflow_add-result : goal.overflow_add-result
overflow_add-result c = omega (arith, few (goal.at.overflow_add-result c).After-region_bits-bits)

pub overflow_add-result-2 : goal.overflow_add-result-2
overflow_add-result-2 c = omega (arith, few (goal.at.overflow_add-result-2 c).After-region_bits-bits)

pub overflow_cast-result : goal.overflow_cast-result
overflow_cast-result c = omega (arith, few (goal.at.overflow_cast-result c).After-region_bits-bits)

pub returns : goal.returns
returns c = rw c.region_bits-bits.ensures.0
