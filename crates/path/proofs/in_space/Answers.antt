-- `path::in_space` meets its contract, with the space or with none.
use Prim.Native.Nat.{ℕ, ◌+◌, ◌-◌, ◌≤◌}
use Rattle.std.proofs.Common.{◌≡◌, sym, ◌∙◌}
use native.Mathlib.Omega.{arith}
use Rattle.std.specs.Prelude.{leb}
use borrow.Author.Tests.{lt-leb, le-leb, leb-true}
use Rattle.path.specs.Laws.{known_some, known_none, same_truth}
use Rattle.path.proofs.in_space.Goals as goal

-- so many addresses from a on end within a space
within : (a size space : ℕ) → size ≤ space → leb a (space - size) ≡ leb (a + size) space
within a size space l =
    same_truth (leb a (space - size)) (leb (a + size) space)
    (λ e. le-leb (a + size) space (omega (arith, leb-true a (space - size) e)))
    (λ e. le-leb a (space - size) (omega (arith, leb-true (a + size) space e)))

pub returns-in_default : goal.returns-in_default
returns-in_default c = rw (known_none _ _ (sym c.space_of.ensures ∙ c.in_default.is))

pub returns-then-size-space : goal.returns-then-size-space
returns-then-size-space c =
    let a = c.args in
    let k = known_some _ _ _ (sym c.space_of.ensures ∙ c.in-Some.is) in
    rw (k.0, ← k.1) (within a.address a.size c.in-Some.space (omega arith))

pub returns-else-size-space : goal.returns-else-size-space
returns-else-size-space c =
    let a = c.args in
    let k = known_some _ _ _ (sym c.space_of.ensures ∙ c.in-Some.is) in
    rw (k.0, ← k.1, lt-leb a.size c.in-Some.space (omega arith)) (sym (lt-leb (a.address + a.size) c.in-Some.space (omega arith)))
