-- `rangemaps::probe`: by where the first walk ended.
use Rattle.std.specs.Prelude.{ℕ, ◌*◌, ◌≤◌, ◌<◌, ◌≡◌, Bool, true, List, [], ◌++◌, length, get_or, Ok}
use Rattle.std.proofs.Common.{refl, sym, ap, ◌∙◌, subst, arith}
use Rattle.path.specs.Geometry.{granule_of, entries}
use Rattle.path.specs.Areas.{area_of, total}
use Rattle.path.specs.Numbers.{GoodSetup}
use Rattle.path.specs.Paths.{index_at, path_of}
use Rattle.path.specs.PathLaws.{path_of_at}
use Rattle.path.specs.Laws.{granule_sane, good_setup_lem}
use Rattle.entry.specs.Words.{entry_at}
use Rattle.model.specs.Answers.{Pool, pool}
use Rattle.model.specs.Walk.{slot, at_height}
use Rattle.model.specs.Ranges.{is_damaged}
use Rattle.lookup.specs.Reaches.{Came, came_by, came_again, came_word, came_place, came_inside}
use Rattle.marks.specs.Marks.{noted, note_way}
use Rattle.maps.proofs.Maps.{came_above}
use Rattle.rangemaps.proofs.Words.{table_of}
use Rattle.rangemaps.proofs.Probes.{found_damaged, found_clash, found_above, found_here, found_marks, first_damaged}
use Rattle.rangemaps.proofs.probe.Goals as goal
use Rattle.rangemaps.proofs.probe.Goals.{In-Ok, Else-not-note_way, Start}

abbrev at : (c : Start) → List ℕ → Pool
at c list = let a = c.args in pool a.s (a.words.now ++ a.second.now) (length a.words.now) list

good : (c : Start) → let a = c.args in GoodSetup (granule_of a.s.granule) a.s (length a.words.now) (length (a.words.now ++ a.second.now)) c.requires.0.0
good c = good_setup_lem c.requires.0.1

came : (c : In-Ok) (list : List ℕ) → let a = c.args in
    Came (granule_of a.s.granule) (pool a.s (a.words.now ++ a.second.now) (length a.words.now) list) a.height a.address (Ok c.in-Ok.end) c.reach.new.way
came c list = let a = c.args in
    came_by (good_setup_lem c.requires.0.1) c.requires.1.0 (granule_sane a.s.granule) c.in-Ok.ensures.end c.in-Ok.ensures.place (length a.words.now) list

-- it ended at a word of the address in the last table, where it ended no higher than the pieces,
here : (c : In-Ok) → let a = c.args in c.in-Ok.end.height ≤ a.height → c.in-Ok.end.height ≡ a.height
here c l = let a = c.args in
    omega (arith, l, came_above (came c []) 0 0 refl (omega (arith, c.requires.1.0, good_setup_lem c.requires.0.1, granule_sane a.s.granule)))

at_place : (c : In-Ok) → let a = c.args in c.in-Ok.end.height ≤ a.height
    → c.in-Ok.end.place ≡ slot (granule_of a.s.granule) (at_height c.reach.new.way a.height) (index_at (granule_of a.s.granule) a.address a.height)
at_place c l = let a = c.args in
    came_place (came c [])
    ∙ ap (λ (h : ℕ). slot (granule_of a.s.granule) (at_height c.reach.new.way h) (at_height (path_of (granule_of a.s.granule) a.address) h)) (here c l)
    ∙ ap (slot (granule_of a.s.granule) (at_height c.reach.new.way a.height)) (path_of_at (granule_of a.s.granule) a.address {h = a.height} (omega (arith, c.requires.1.0, granule_sane a.s.granule)))

-- which is one of the pool's
in_table : (c : In-Ok) → let a = c.args in c.in-Ok.end.height ≤ a.height → at_height c.reach.new.way a.height < total (area_of a.s)
in_table c l = let a = c.args in
    table_of (entries (granule_of a.s.granule)) (at_height c.reach.new.way a.height) (index_at (granule_of a.s.granule) a.address a.height) (total (area_of a.s))
    (subst (λ (i : ℕ). i < entries (granule_of a.s.granule) * total (area_of a.s)) (at_place c l) (omega (arith, came_inside (came c []), (good_setup_lem c.requires.0.1).numbers.words_are)))

-- the tables on its way are noted
noting : (c : Else-not-note_way) → let a = c.args in
    noted true c.note_way.new.stands ≡ note_way (granule_of a.s.granule) a.stands.now a.address c.reach.new.way c.in-Ok.end.height a.s.levels
noting c = ap (λ (b : Bool). noted b c.note_way.new.stands) (sym c.if-not-note_way.false) ∙ c.note_way.ensures

pub returns-in_default-clause-by_index : goal.returns-in_default-clause-by_index
returns-in_default-clause-by_index c = let a = c.args in
    λ list. found_damaged _ _ _ _ _ _
    (came_again (came_by (good_setup_lem c.requires.0.1) c.requires.1.0 (granule_sane a.s.granule) c.in_default.ensures.end c.in_default.ensures.place (length a.words.now) list)) refl

pub returns-then-not-note_way-clause-by_index : goal.returns-then-not-note_way-clause-by_index
returns-then-not-note_way-clause-by_index c = let a = c.args in
    λ list. found_clash _ _ _ _ _ _
    (came_word (came (goal.at.returns-then-not-note_way-clause-by_index c).In-Ok list) refl) (ap (λ (b : Bool). noted b c.note_way.new.stands) (sym c.if-not-note_way.true) ∙ c.note_way.ensures)

pub met_above-requires : goal.met_above-requires
met_above-requires c = (omega arith, omega (arith, good (goal.at.met_above-requires c).Start))

pub returns-then-end-height-clause-by_index : goal.returns-then-end-height-clause-by_index
returns-then-end-height-clause-by_index c = let a = c.args in
    λ list. found_above _ _ _ _ _ _
    (came_word (came (goal.at.returns-then-end-height-clause-by_index c).In-Ok list) c.word-w.ensures) (noting (goal.at.returns-then-end-height-clause-by_index c).Else-not-note_way) c.if-end-height.true c.met_above.ensures

pub returns-then-end-height-clause-stands_after : goal.returns-then-end-height-clause-stands_after
returns-then-end-height-clause-stands_after c = let a = c.args in
    λ f list. found_marks _ (at (goal.at.returns-then-end-height-clause-stands_after c).Start list) _ _ _ a.count
    (came_word (came (goal.at.returns-then-end-height-clause-stands_after c).In-Ok list) refl) (noting (goal.at.returns-then-end-height-clause-stands_after c).Else-not-note_way)

pub overflow_sub-at : goal.overflow_sub-at
overflow_sub-at c = let a = c.args in omega (arith, c.requires.1.0, granule_sane a.s.granule)

pub met_here-requires : goal.met_here-requires
met_here-requires c = (c.requires.0, (c.requires.1.0, (in_table (goal.at.met_here-requires c).In-Ok c.if-end-height.false, c.requires.1.1.1.1)))

pub returns-clause-by_index : goal.returns-clause-by_index
returns-clause-by_index c =
    let a = c.args in
    let d = (goal.at.returns-clause-by_index c).In-Ok in
    λ list. found_here _ _ _ _ _ _
    (came_word (came d list) refl) (noting (goal.at.returns-clause-by_index c).Else-not-note_way) c.if-end-height.false c.met_here.ensures
    (λ z. c.met_here.ensures ∙ first_damaged (granule_of a.s.granule) (area_of a.s) a.height (a.words.now ++ a.second.now) (slot (granule_of a.s.granule) (at_height c.reach.new.way a.height) (index_at (granule_of a.s.granule) a.address a.height)) a.count c.requires.1.1.1.0
    (subst (λ (i : ℕ). i < length (a.words.now ++ a.second.now)) (at_place d c.if-end-height.false) (came_inside (came d [])))
    ((λ i. is_damaged (entry_at (granule_of a.s.granule) (area_of a.s) (sym (here d c.if-end-height.false) i) (get_or (a.words.now ++ a.second.now) (sym (at_place d c.if-end-height.false) i) 0))) ∙ z))

pub returns-clause-stands_after : goal.returns-clause-stands_after
returns-clause-stands_after c = let a = c.args in
    λ f list. found_marks _ (at (goal.at.returns-clause-stands_after c).Start list) _ _ _ a.count
    (came_word (came (goal.at.returns-clause-stands_after c).In-Ok list) refl) (noting (goal.at.returns-clause-stands_after c).Else-not-note_way)
