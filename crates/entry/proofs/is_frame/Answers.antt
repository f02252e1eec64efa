-- `entry::is_frame` meets its contract: what is left of a word, its type apart, is normal or device memory.
use Prim.Native.Nat.{ℕ, ◌-◌, ◌*◌, ◌/◌, ◌%◌, ◌^◌}
use mathlib.Core.Path.{◌≡◌, sym, ap, ◌∙◌}
use native.Mathlib.Omega.{arith}
use borrow.Author.Tests.{eqb-true, eq-eqb}
use Rattle.path.specs.Laws.{same_truth}
use Rattle.entry.specs.Words.{base_in}
use Rattle.entry.proofs.Made.{type_known, rest_of, rest_fits, normal_frame, device_frame, device_else}
use Rattle.entry.proofs.is_frame.Goals as goal

-- what the code has left of the word
rest_is : (w : ℕ) {b : ℕ} → b ≡ base_in w → w - b - w / 64 % 4 * 64 - w / 2 ^ 54 % 2 * 2 ^ 54 ≡ rest_of w
rest_is w e = ap (λ (b : ℕ). w - b - w / 64 % 4 * 64 - w / 2 ^ 54 % 2 * 2 ^ 54) e

pub overflow_sub-rest-2 : goal.overflow_sub-rest-2
overflow_sub-rest-2 c = rw c.base_in.ensures (rest_fits c.args.w).0

pub overflow_sub-rest-3 : goal.overflow_sub-rest-3
overflow_sub-rest-3 c = rw c.base_in.ensures (rest_fits c.args.w).1

pub overflow_add-kind : goal.overflow_add-kind
overflow_add-kind c = omega (arith, type_known _ _ c.type_at-kind.ensures)

pub returns-then-rest-kind : goal.returns-then-rest-kind
returns-then-rest-kind c =
    let a = c.args in
    let r = rest_is a.w c.base_in.ensures in
    sym (eq-eqb a.w _ (normal_frame a.w a.height c.type_at-kind.ensures (sym r ∙ c.if-rest-kind.true)))

pub overflow_add-result : goal.overflow_add-result
overflow_add-result c = omega (arith, type_known _ _ c.type_at-kind.ensures)

pub returns : goal.returns
returns c =
    let a = c.args in
    let r = rest_is a.w c.base_in.ensures in
    let k = c.type_at-kind.ensures in
    same_truth _ _
    (λ e. eq-eqb a.w _ (device_frame a.w a.height k (sym r ∙ eqb-true _ _ e)))
    (λ e. eq-eqb _ _ (r ∙ device_else a.w a.height k (λ n. c.if-rest-kind.false (r ∙ n)) (eqb-true a.w _ e)))
