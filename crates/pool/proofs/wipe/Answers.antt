-- `pool::wipe`: the table is zeroed in the run that holds it.
use Prim.Native.Nat.{ℕ}
use mathlib.Core.List.{List, ◌++◌}
use mathlib.Core.Path.{ap, ◌∙◌}
use native.Mathlib.Omega.{arith}
use Rattle.pool.proofs.Laws.{wipe_first, wipe_later}
use Rattle.path.specs.Geometry.{granule_of, entries}
use Rattle.pool.proofs.wipe.Goals as goal

pub returns-then-start-n : goal.returns-then-start-n
returns-then-start-n c =
    let a = c.args in
    λ k e. ap (λ (l : List ℕ). l ++ a.second.now) c.wipe_from.ensures ∙ wipe_first (entries (granule_of a.granule)) a.words.now a.second.now a.t c.entry_place-start.ensures c.entries_of-count.ensures k e (omega arith)

pub returns : goal.returns
returns c =
    let a = c.args in
    λ k e. ap (λ (l : List ℕ). a.words.now ++ l) c.wipe_from-2.ensures ∙ wipe_later (entries (granule_of a.granule)) a.words.now a.second.now a.t c.entry_place-start.ensures c.entries_of-count.ensures (omega arith)
