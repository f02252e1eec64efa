-- `Tree::read_word` meets its contract: empty, then a table's word above the last level, then a frame.
use Rattle.std.proofs.Common.{sym, ◌∙◌, arith}
use Rattle.path.specs.Geometry.{granule_of}
use Rattle.entry.proofs.Laws.{entry_zero, entry_frame, entry_table}
use Rattle.links.specs.Trees.{area_in}
use Rattle.links.specs.TreeLaws.{some_is, none_is}
use Rattle.links.proofs.Tree.read_word.Goals as goal
use Rattle.links.proofs.Tree.read_word.Goals.{then-height-gt0+in_default, else-height-gt0}

pub returns-then-w-eq0 : goal.returns-then-w-eq0
returns-then-w-eq0 c = rw c.if-w-eq0.true (sym (entry_zero _ _ _))

pub returns-in-Some : goal.returns-in-Some
returns-in-Some c =
    let a = c.args in
    let child = some_is (granule_of a.self.granule) (area_in a.self) a.w (sym c.child_in.ensures ∙ c.in-Some.is) in
    sym (entry_table (granule_of a.self.granule) (area_in a.self) a.height a.w (omega arith) child.0 child.1)

pub returns : goal.returns
returns c =
    let a = c.args in
    c.frame_at.ensures
    ∙ sym
    (entry_frame (granule_of a.self.granule) (area_in a.self) a.height a.w c.if-w-eq0.false
    (λ high. elim c.if-height-gt0.branch [ then-height-gt0+in_default w ↦ none_is (granule_of a.self.granule) (area_in a.self) a.w (sym w.child_in.ensures ∙ w.in_default.is) | else-height-gt0 w ↦ omega arith ]))
