-- What the calls that change the pool answer and hand back. The setup is the one that stands in what they hand back: that after the call, or beside a refusal.
use Rattle.std.specs.Prelude.{ℕ, List, Result, Ok, Err}
use Rattle.path.specs.declared.Setup.{Setup}
use Rattle.model.specs.declared.Refusal.{Refusal}
use Rattle.model.specs.declared.Mapped.{Mapped}
use Rattle.model.specs.declared.Unmapped.{Unmapped}
use Rattle.model.specs.declared.RangeUnmapped.{RangeUnmapped}
use Rattle.model.specs.Answers.{says_format, says_add, says_map, says_unmap, says_unmap_range, Done, left}
use Rattle.pagetable.specs.declared.Refused.{Refused}

-- the answer alone
abbrev pub answer_in : {A : Type 0} → Result A Refused → Result A Refusal
answer_in (Ok x) = Ok x
answer_in (Err r) = Err r.refusal

-- the setup that is handed back
abbrev pub handed_back : {A : Type 0} → (A → Setup) → Result A Refused → Setup
handed_back setup_in (Ok x) = setup_in x
handed_back setup_in (Err r) = r.setup

-- an answer with a setup beside its refusal
abbrev pub beside : {A : Type 0} → Setup → Result A Refusal → Result A Refused
beside s (Ok x) = Ok x
beside s (Err r) = Err (record { refusal = r; setup = s })

-- what format, the adding call, map and unmap, of a mapping or of a range, answered and handed back, and the lent memory at its end: the two runs, and the list
abbrev pub format_left : Result Setup Refused → List ℕ → List ℕ → List ℕ → Done
format_left r first second list = left (says_format (answer_in r)) (handed_back (λ s. s) r) first second list

abbrev pub add_left : Result Setup Refused → List ℕ → List ℕ → List ℕ → Done
add_left r first second list = left (says_add (answer_in r)) (handed_back (λ s. s) r) first second list

abbrev pub map_left : Result Mapped Refused → List ℕ → List ℕ → List ℕ → Done
map_left r first second list = left (says_map (answer_in r)) (handed_back (λ m. m.setup) r) first second list

abbrev pub unmap_left : Result Unmapped Refused → List ℕ → List ℕ → List ℕ → Done
unmap_left r first second list = left (says_unmap (answer_in r)) (handed_back (λ u. u.setup) r) first second list

abbrev pub unmap_range_left : Result RangeUnmapped Refused → List ℕ → List ℕ → List ℕ → Done
unmap_range_left r first second list = left (says_unmap_range (answer_in r)) (handed_back (λ u. u.setup) r) first second list
