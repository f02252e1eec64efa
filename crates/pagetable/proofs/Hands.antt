-- With the setup that a call was given beside its refusal, what is handed back is what the call did.
use Rattle.std.specs.Prelude.{ℕ, ◌≡◌, List, Result, Ok, Err}
use Rattle.std.proofs.Math.Path.{refl}
use Rattle.std.proofs.Common.{ap, ◌∙◌}
use Rattle.path.specs.declared.Setup.{Setup}
use Rattle.model.specs.declared.Refusal.{Refusal}
use Rattle.model.specs.Answers.{Answer, Done, left, setup_after}
use Rattle.pagetable.specs.declared.Refused.{Refused}
use Rattle.pagetable.specs.Hands.{answer_in, handed_back, beside}

-- of any such call
reads :
    {A : Type 0} (says : Result A Refusal → Answer) (f : A → Setup) (s : Setup) (r : Result A Refusal) (a b l : List ℕ)
    → left (says (answer_in (beside s r))) (handed_back f (beside s r)) a b l ≡ left (says r) (setup_after f s r) a b l
reads says f s (Ok x) a b l = refl
reads says f s (Err r) a b l = refl

module _ {A : Type 0} (says : Result A Refusal → Answer) (f : A → Setup) (s : Setup) (r : Result A Refusal) (q : Result A Refused) (a b l : List ℕ) {d : Done} where
  pub hands : q ≡ beside s r → left (says r) (setup_after f s r) a b l ≡ d → left (says (answer_in q)) (handed_back f q) a b l ≡ d
  hands e p = ap (λ (z : Result A Refused). left (says (answer_in z)) (handed_back f z) a b l) e ∙ (reads says f s r a b l ∙ p)
