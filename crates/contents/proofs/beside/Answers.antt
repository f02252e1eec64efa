-- `contents::beside`: an entry of the table, and not the one that it stands beside.
use mathlib.Core.Path.{sym, ◌∙◌}
use native.Mathlib.Nat.{mod-lt}
use native.Mathlib.Omega.{arith}
use Rattle.path.specs.Geometry.{granule_of}
use Rattle.path.specs.Laws.{entries_pos}
use Rattle.contents.proofs.Laws.{beside_even, beside_odd}
use Rattle.contents.proofs.beside.Goals as goal

pub returns-then-k-eq0 : goal.returns-then-k-eq0
returns-then-k-eq0 c =
    let a = c.args in
    (rw c.index_in.ensures (mod-lt _ (entries_pos (granule_of a.granule))), λ e. beside_even a.granule a.i (omega arith) (sym c.index_in.ensures ∙ e))

pub returns : goal.returns
returns c =
    let a = c.args in
    (rw c.index_in-2.ensures (mod-lt _ (entries_pos (granule_of a.granule))), λ e. beside_odd a.granule a.i (omega arith) (sym c.index_in-2.ensures ∙ e))
