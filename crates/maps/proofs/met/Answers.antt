-- The refusal at a word that is not 0, by cases of its entry.
use Prim.Native.Nat.{ℕ}
use mathlib.Core.Path.{◌≡◌, sym, ap, ◌∙◌}
use mathlib.Core.Logic.{◌⊎◌, inl, inr}
use Rattle.entry.specs.declared.Entry.{Entry}
use Rattle.entry.specs.declared.Entry.TheVariants.{Empty, Table, Frame}
use Rattle.model.specs.declared.Walked.{Walked}
use Rattle.model.specs.Answers.{refused}
use Rattle.maps.specs.Parts.{met_by}
use Rattle.maps.proofs.met.Goals as goal

overlaps : {e : Entry} → (e ≡ Empty) ⊎ (((t : ℕ) × (e ≡ Table t)) ⊎ ((b : ℕ) × (k : ℕ) × (e ≡ Frame b k))) → 6 ≡ met_by e
overlaps (inl is) = ap met_by (sym is)
overlaps (inr (inl (t, is))) = ap met_by (sym is)
overlaps (inr (inr (b, k, is))) = ap met_by (sym is)

pub returns-in-Damaged : goal.returns-in-Damaged
returns-in-Damaged c = ap refused (ap met_by (sym c.in-Damaged.is) ∙ ap (λ (o : Walked). met_by o.entry) c.walk_to.ensures)

pub returns-in-Empty : goal.returns-in-Empty
returns-in-Empty c = ap refused (overlaps c.in-Empty.is ∙ ap (λ (o : Walked). met_by o.entry) c.walk_to.ensures)
