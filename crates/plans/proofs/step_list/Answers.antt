-- `plans::step_list`: by cases of the step.
use Prim.Native.Nat.{ℕ}
use mathlib.Core.List.{List}
use mathlib.Core.Path.{◌≡◌, sym, ap, ◌∙◌}
use Rattle.std.proofs.Common.{◌⊎◌, inl, inr}
use Rattle.path.specs.Geometry.{Granule}
use Rattle.model.specs.Writes.{memory, perform}
use Rattle.plans.specs.declared.Step.{Step}
use Rattle.plans.specs.declared.Step.TheVariants.{Store, Wipe}
use Rattle.plans.specs.Plan.{write_of}
use Rattle.plans.proofs.step_list.Goals as goal

-- the free list after a step
abbrev after : Granule → List ℕ → List ℕ → Step → List ℕ
after G w l s = (perform G (write_of s) (memory w l)).list

pub returns-in-Give : goal.returns-in-Give
returns-in-Give c = λ G w. c.give.ensures ∙ ap (after G w c.args.list.now) (sym c.in-Give.is)

-- a write to the words leaves it as it was
kept : (G : Granule) (w l : List ℕ) {s : Step} → ((x : ℕ) × (y : ℕ) × (s ≡ Store x y)) ⊎ ((x : ℕ) × (s ≡ Wipe x)) → l ≡ after G w l s
kept G w l (inl (x, y, e)) = ap (after G w l) (sym e)
kept G w l (inr (x, e)) = ap (after G w l) (sym e)

pub returns-in-Store : goal.returns-in-Store
returns-in-Store c = λ G w. kept G w c.args.list.now c.in-Store.is
