-- `rangeunmaps::look` tells a hole, a frame and damage.
use Rattle.std.proofs.Common.{◌≡◌, sym, ap, ◌∙◌, refl, ⊎_elim, [], ◌++◌, Ok, Err, arith, length}
use Rattle.path.specs.Geometry.{granule_of}
use Rattle.path.specs.Laws.{granule_sane, good_setup_lem}
use Rattle.entry.specs.declared.Entry.{Entry}
use Rattle.model.specs.declared.Walked.{Walked}
use Rattle.model.specs.Answers.{pool}
use Rattle.model.specs.Calls.{walk_to}
use Rattle.model.specs.Walk.{stop}
use Rattle.model.proofs.RefusalLaws.{no_table_last}
use Rattle.links.specs.TreeLaws.{read_in}
use Rattle.lookup.specs.Reaches.{Came, came_by, came_again, came_word}
use Rattle.rangeunmaps.proofs.Looks.{meets_hole, meets_frame}
use Rattle.rangeunmaps.proofs.look.Goals as goal
use Rattle.rangeunmaps.proofs.look.Goals.{After-read_word}

-- where the walk ended at an entry, it is that of its word
came : (c : After-read_word) → let a = c.args in
    stop c.read_word.result c.in-Ok.end.height c.reach.new.way ≡ walk_to (granule_of a.s.granule) (pool a.s (a.words.now ++ a.second.now) (length a.words.now) []) 0 a.address
came c =
    let a = c.args in
    let k : Came (granule_of a.s.granule) (pool a.s (a.words.now ++ a.second.now) (length a.words.now) []) 0 a.address (Ok c.in-Ok.end) c.reach.new.way =
    came_by (good_setup_lem c.requires.1) (omega arith) (granule_sane a.s.granule) c.in-Ok.ensures.end c.in-Ok.ensures.place (length a.words.now) [] in
    ap (λ (x : Entry). stop x c.in-Ok.end.height c.reach.new.way)
    (read_in a.s c.of.ensures (omega (arith, good_setup_lem c.requires.1)) (omega (arith, good_setup_lem c.requires.1)) c.in-Ok.end.height c.word-w.result c.read_word.ensures)
    ∙ came_word k c.word-w.ensures

pub returns-in_default : goal.returns-in_default
returns-in_default c =
    let a = c.args in
    let k : Came (granule_of a.s.granule) (pool a.s (a.words.now ++ a.second.now) (length a.words.now) []) 0 a.address (Err c.in_default.field-0) c.reach.new.way =
    came_by (good_setup_lem c.requires.1) (omega arith) (granule_sane a.s.granule) c.in_default.ensures.end c.in_default.ensures.place (length a.words.now) [] in
    (sym (ap (λ (o : Walked). o.entry) (came_again k)), refl)

pub returns-in-Empty : goal.returns-in-Empty
returns-in-Empty c = meets_hole (ap (λ (x : Entry). stop x c.in-Ok.end.height c.reach.new.way) (sym c.in-Empty.is) ∙ came (goal.at.returns-in-Empty c).After-read_word)

pub returns-in-Frame : goal.returns-in-Frame
returns-in-Frame c = meets_frame (ap (λ (x : Entry). stop x c.in-Ok.end.height c.reach.new.way) (sym c.in-Frame.is) ∙ came (goal.at.returns-in-Frame c).After-read_word)

pub returns-in-Table : goal.returns-in-Table
returns-in-Table c =
    let a = c.args in
    let e = sym (ap (λ (o : Walked). o.entry) (came (goal.at.returns-in-Table c).After-read_word)) in
    ⊎_elim (λ (t, q). absurd (no_table_last (granule_of a.s.granule) (pool a.s (a.words.now ++ a.second.now) (length a.words.now) []) a.address t (e ∙ q))) (λ q. (e ∙ q, refl)) c.in-Table.is
