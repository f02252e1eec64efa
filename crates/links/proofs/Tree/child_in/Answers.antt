-- `Tree::child_in` meets its contract: a table of the first region that is not the root, else one of the second.
use Rattle.std.specs.Prelude.{Some}
use Rattle.std.proofs.Common.{ℕ, ◌+◌, ◌<◌, sym, ap, ◌∙◌, arith}
use Rattle.std.specs.Prelude.{◌≡◌}
use Rattle.path.specs.Geometry.{Granule, granule_of}
use Rattle.entry.specs.Words.{named_in, child_at}
use Rattle.entry.proofs.Laws.{child_first, child_second, child_neither}
use Rattle.links.specs.declared.Tree.{Tree}
use Rattle.links.specs.Trees.{area_in, table_named}
use Rattle.links.specs.TreeLaws.{some_named, none_named, child_there, child_gone}
use Rattle.links.proofs.Tree.child_in.Goals as goal
use Rattle.links.proofs.Tree.child_in.Goals.{in-Some+else-c-gt0, in_default}

-- the table of the second region that a word names, where it names none but the root of the first
second_child : (G : Granule) (t : Tree) (w : ℕ) {d : ℕ} → table_named G t.base2 t.tables2 w ≡ Some d
    → (0 < named_in G t.base t.tables w → named_in G t.base t.tables w < t.tables → ⊥) → child_at G (area_in t) w ≡ t.tables + d
second_child G t w e first =
    let d = some_named G t.base2 t.tables2 w e in
    child_second G (area_in t) w first (omega arith) ∙ ap (λ (x : ℕ). t.tables + x) (sym d.0)

pub returns-then-c-gt0 : goal.returns-then-c-gt0
returns-then-c-gt0 c =
    let t = c.args.self in
    let k = some_named (granule_of t.granule) t.base t.tables c.args.w (sym c.named_in.ensures ∙ c.in-Some.is) in
    sym
    (child_there (granule_of t.granule) (area_in t) c.args.w
    (child_first (granule_of t.granule) (area_in t) c.args.w (omega arith) (omega arith) ∙ sym k.0)
    (omega arith))

pub returns-then-self-eq0 : goal.returns-then-self-eq0
returns-then-self-eq0 c =
    let t = c.args.self in
    let G = granule_of t.granule in
    sym
    (child_gone G (area_in t) c.args.w
    (child_neither G (area_in t) c.args.w
    (elim c.match-named_in.branch [
      | in-Some+else-c-gt0 w ↦ λ x y. let k = some_named G t.base t.tables c.args.w (sym c.named_in.ensures ∙ w.in-Some.is) in omega arith
      | in_default w ↦ λ x y. let k = none_named G t.base t.tables c.args.w (sym c.named_in.ensures ∙ w.in_default.is) in omega arith
    ])
    (omega arith)))

pub returns-in_err-d : goal.returns-in_err-d
returns-in_err-d c =
    let t = c.args.self in
    let G = granule_of t.granule in
    let d = none_named G t.base2 t.tables2 c.args.w (sym c.named_in-2.ensures ∙ c.in_err-d.was) in
    c.from_residual.ensures
    ∙ sym
    (child_gone G (area_in t) c.args.w
    (child_neither G (area_in t) c.args.w
    (elim c.match-named_in.branch [
      | in-Some+else-c-gt0 w ↦ λ x y. let k = some_named G t.base t.tables c.args.w (sym c.named_in.ensures ∙ w.in-Some.is) in omega arith
      | in_default w ↦ λ x y. let k = none_named G t.base t.tables c.args.w (sym c.named_in.ensures ∙ w.in_default.is) in omega arith
    ])
    d))

pub overflow_add-c : goal.overflow_add-c
overflow_add-c c =
    let t = c.args.self in
    let d = some_named (granule_of t.granule) t.base2 t.tables2 c.args.w (sym c.named_in-2.ensures ∙ c.in_ok-d.was) in omega arith

pub returns-then-c-gt0-2 : goal.returns-then-c-gt0-2
returns-then-c-gt0-2 c =
    let t = c.args.self in
    let G = granule_of t.granule in
    sym
    (child_there G (area_in t) c.args.w
    (second_child G t c.args.w (sym c.named_in-2.ensures ∙ c.in_ok-d.was)
    (elim c.match-named_in.branch [
      | in-Some+else-c-gt0 w ↦ λ x y. let k = some_named G t.base t.tables c.args.w (sym c.named_in.ensures ∙ w.in-Some.is) in omega arith
      | in_default w ↦ λ x y. let k = none_named G t.base t.tables c.args.w (sym c.named_in.ensures ∙ w.in_default.is) in omega arith
    ]))
    c.if-c-gt0-2.true)

pub returns-else-c-gt0-2 : goal.returns-else-c-gt0-2
returns-else-c-gt0-2 c =
    let t = c.args.self in
    let G = granule_of t.granule in
    sym
    (child_gone G (area_in t) c.args.w
    (second_child G t c.args.w (sym c.named_in-2.ensures ∙ c.in_ok-d.was)
    (elim c.match-named_in.branch [
      | in-Some+else-c-gt0 w ↦ λ x y. let k = some_named G t.base t.tables c.args.w (sym c.named_in.ensures ∙ w.in-Some.is) in omega arith
      | in_default w ↦ λ x y. let k = none_named G t.base t.tables c.args.w (sym c.named_in.ensures ∙ w.in_default.is) in omega arith
    ])
    ∙ omega arith))
