-- What tests of a call answer, and what follows for the call.
use Rattle.std.specs.Prelude.{ℕ, ◌≡◌, [], cond, eqb, true, false, Bool}
use Rattle.std.proofs.Math.Path.{refl, sym}
use Rattle.std.proofs.Common.{ap, ◌∙◌, subst}
use Rattle.std.proofs.Math.Bool.{true≢false}
use borrow.Author.Tests.{eqb-true, eqb-false}
use Rattle.model.specs.declared.Refusal.{Refusal}
use Rattle.model.specs.Answers.{Answer, answered, refused, accepts, says_refusal, tested}
use Rattle.model.proofs.Unique.{refuses, apart}

no_values : (k : ℕ) → (b : Bool) → accepts (cond b (answered []) (refused k)) ≡ b
no_values k true = refl
no_values k false = refl

-- none of them refuses,
pub tested_ok : (k : ℕ) → answered [] ≡ tested k → eqb k 0 ≡ true
tested_ok k e = sym (no_values k (eqb k 0)) ∙ sym (ap accepts e)

pub tested_none : (k : ℕ) → answered [] ≡ tested k → k ≡ 0
tested_none k e = eqb-true k 0 (tested_ok k e)

-- or one does, with this number
pub tested_err : (k : ℕ) (r : Refusal) → says_refusal r ≡ tested k → eqb k 0 ≡ false
tested_err k r e = sym (no_values k (eqb k 0)) ∙ (sym (ap accepts e) ∙ refuses r)

pub tested_refused : (k : ℕ) (r : Refusal) → says_refusal r ≡ tested k → says_refusal r ≡ refused k
tested_refused k r e = e ∙ ap (λ b. cond b (answered []) (refused k)) (tested_err k r e)
