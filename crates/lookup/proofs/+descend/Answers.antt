-- The walk from a table down meets its contract, by the levels left, which fall at each call.
use Prim.Native.Nat.{ℕ}
use mathlib.Core.Bool.{false}
use mathlib.Core.List.{◌++◌}
use lib.ListN.{get_or}
use mathlib.Core.Path.{◌≡◌, refl, sym, ap, ◌∙◌}
use Rattle.path.specs.Areas.{area_of}
use Rattle.path.specs.Geometry.{granule_of}
use Rattle.entry.specs.declared.Entry.{Entry}
use Rattle.entry.specs.declared.Entry.TheVariants.{Empty, Table, Frame, Damaged}
use native.Mathlib.Omega.{arith}
use Rattle.links.specs.TreeLaws.{read_in}
use Rattle.lookup.specs.WalkLaws.{is_table, entry_of, known_entry, walk_ends, walk_reaches, walk_again, walk_down}
use Rattle.lookup.proofs.+descend.Goals as goal
use Rattle.lookup.proofs.+descend.Goals.{After-read_word}

-- the entry that is read, at a place among the words
read : {t : ℕ} (c : After-read_word t)
    → let a = c.args in
    c.read_word.result ≡ entry_of (granule_of a.s.granule) (a.words.now ++ a.second.now) (area_of a.s) a.target a.path a.height a.t
read c =
    let a = c.args in
    known_entry (granule_of a.s.granule) (a.words.now ++ a.second.now) (area_of a.s) a.target a.path a.height a.t
    (read_in a.s c.of.ensures (omega (arith, c.requires)) (omega (arith, c.requires)) a.height c.word-w.result c.read_word.ensures)
    (c.word-w.ensures ∙ ap (λ (k : ℕ). get_or (a.words.now ++ a.second.now) k 0) c.entry_place.ensures)

-- an entry of another kind
other : (e : Entry) → ((c : ℕ) → e ≡ Table c → ⊥) → is_table e ≡ false
other Empty f = refl
other (Table c) f = absurd (f c refl)
other (Frame b k) f = refl
other Damaged f = refl

pub returns-then-height-target : goal.returns-then-height-target
returns-then-height-target t c =
    c.ended.ensures ∙ walk_reaches _ _ _ _ _ _ _ _ (sym c.in-Table.is ∙ read (goal.at.returns-then-height-target t c).After-read_word) c.if-height-target.true

pub returns-then-among_four : goal.returns-then-among_four
returns-then-among_four t c =
    c.ended-then-among_four.ensures
    ∙ walk_again _ _ _ _ _ _ _ _ (sym c.in-Table.is ∙ read (goal.at.returns-then-among_four t c).After-read_word) c.if-height-target.false (sym c.among_four.ensures ∙ c.if-among_four.true)

pub returns-else-among_four : goal.returns-else-among_four
returns-else-among_four t c =
    c.descend.ensures
    ∙ walk_down _ _ _ _ _ _ _ _ (sym c.in-Table.is ∙ read (goal.at.returns-else-among_four t c).After-read_word) c.if-height-target.false (sym c.among_four.ensures ∙ c.if-among_four.false)

pub returns-in_default : goal.returns-in_default
returns-in_default t c =
    c.ended-in_default.ensures ∙ walk_ends _ _ _ _ _ _ _ _ (other _ c.in_default.not-Table) (read (goal.at.returns-in_default t c).After-read_word)
