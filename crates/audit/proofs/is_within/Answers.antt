-- `is_within` meets its contract.
use Rattle.std.proofs.Common.{ℕ, ◌*◌, ap, arith}
use Rattle.audit.proofs.Pages.{page_apart}
use Rattle.audit.proofs.is_within.Goals as goal

pub overflow_mul-result : goal.overflow_mul-result
overflow_mul-result c =
    omega (arith, c.requires.fits, ap (λ (n : ℕ). n * c.args.tables) c.page_of.ensures)

pub returns : goal.returns
returns c = rw c.page_of.ensures (page_apart _ c.requires (omega arith) c.wrapping_sub_u64-off.ensures.value)
