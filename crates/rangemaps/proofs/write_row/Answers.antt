-- `rangemaps::write_row`: the place where the walk ended is that of the first word.
use Prim.Native.Nat.{ℕ, ◌+◌, ◌*◌, ◌≤◌, ◌<◌}
use mathlib.Core.Path.{◌≡◌, ◌∙◌, subst}
use mathlib.Core.List.{List, [], ◌++◌}
use native.Mathlib.Omega.{arith}
use lib.ListN.{length}
use Rattle.std.specs.Prelude.{Ok}
use Rattle.path.specs.Geometry.{granule_of, entries, size_at}
use Rattle.path.specs.Areas.{area_of, total}
use Rattle.path.specs.declared.Setup.{Setup}
use Rattle.path.specs.Paths.{index_at}
use Rattle.path.specs.Laws.{granule_sane, good_setup_lem, table_ends, level_some}
use Rattle.entry.specs.Words.{frame_word}
use Rattle.model.specs.Answers.{pool}
use Rattle.model.specs.Walk.{slot, at_height}
use Rattle.model.specs.Calls.{walk_to}
use Rattle.lookup.specs.Reaches.{Came, came_by, came_inside}
use Rattle.maps.proofs.Maps.{word_is}
use Rattle.rangemaps.specs.Rows.{filled}
use Rattle.rangemaps.proofs.Words.{table_of, row_word_fits}
use Rattle.rangemaps.proofs.Probes.{row_came, row_place}
use Rattle.rangemaps.proofs.write_row.Goals as goal
use Rattle.rangemaps.proofs.write_row.Goals.{In-Ok, After-size_at, After-word_of-first}

-- the table in which the walk for a row ends
abbrev table : Setup → List ℕ → List ℕ → ℕ → ℕ → ℕ
table s words second height address = at_height (walk_to (granule_of s.granule) (pool s (words ++ second) (length words) []) height address).tables height

came : (c : In-Ok) → let a = c.args in
    Came (granule_of a.s.granule) (pool a.s (a.words.now ++ a.second.now) (length a.words.now) []) a.height a.address (Ok c.in-Ok.end) c.reach.new.way
came c = let a = c.args in
    came_by (good_setup_lem c.requires.0.1) c.requires.1.0 (granule_sane a.s.granule) c.in-Ok.ensures.end c.in-Ok.ensures.place (length a.words.now) []

-- the walk ended at the row's first word
place : (c : In-Ok) → let a = c.args in
    c.in-Ok.end.place ≡ slot (granule_of a.s.granule) (table a.s a.words.now a.second.now a.height a.address) (index_at (granule_of a.s.granule) a.address a.height)
place c = let a = c.args in
    row_place (granule_of a.s.granule) (pool a.s (a.words.now ++ a.second.now) (length a.words.now) []) a.height a.address (came c) c.requires.1.1.1.1.1 (omega (arith, c.requires.1.0, granule_sane a.s.granule))

in_pool_lem : (c : In-Ok) → let a = c.args in table a.s a.words.now a.second.now a.height a.address < total (area_of a.s)
in_pool_lem c =
    let a = c.args in
    table_of (entries (granule_of a.s.granule)) (table a.s a.words.now a.second.now a.height a.address) (index_at (granule_of a.s.granule) a.address a.height) (total (area_of a.s))
    (subst (λ (i : ℕ). i < entries (granule_of a.s.granule) * total (area_of a.s)) (place c) (omega (arith, came_inside (came c), (good_setup_lem c.requires.0.1).numbers.words_are)))

-- so all of the row's are words of the run that has the first
in_run : (c : In-Ok) → let a = c.args in
    (c.in-Ok.end.place < length a.words.now → c.in-Ok.end.place + a.count ≤ length a.words.now) × (c.in-Ok.end.place + a.count ≤ length (a.words.now ++ a.second.now))
in_run c =
    let a = c.args in (
      λ l. omega (
        arith,
        place c,
        c.requires.1.1.1.0,
        (good_setup_lem c.requires.0.1).numbers.cut_is,
        table_ends (entries (granule_of a.s.granule))
            (table_of (entries (granule_of a.s.granule)) (table a.s a.words.now a.second.now a.height a.address) (index_at (granule_of a.s.granule) a.address a.height) a.s.tables
            (subst (λ (i : ℕ). i < entries (granule_of a.s.granule) * a.s.tables) (place c) (omega (arith, l, (good_setup_lem c.requires.0.1).numbers.cut_is)))),
      ),
      omega (arith, (place c), c.requires.1.1.1.0, (good_setup_lem c.requires.0.1).numbers.words_are, table_ends (entries (granule_of a.s.granule)) (in_pool_lem c)),
    )

word : (c : After-word_of-first) → let a = c.args in c.word_of-first.result ≡ frame_word a.frame a.height a.attributes
word c = let a = c.args in word_is a.frame a.height a.attributes (omega (arith, c.requires.1.1.0)) c.word_of-first.ensures

size : (c : After-size_at) → let a = c.args in c.size_at.result ≡ size_at (granule_of a.s.granule) a.height
size c =
    let a = c.args in
    c.size_at.ensures ∙ level_some (granule_of a.s.granule) {h = a.height} (omega (arith, c.requires.1.0, granule_sane a.s.granule)) _

pub returns-in_default : goal.returns-in_default
returns-in_default c = let a = c.args in
    absurd (row_came (granule_of a.s.granule) (pool a.s (a.words.now ++ a.second.now) (length a.words.now) []) a.height a.address
    (came_by (good_setup_lem c.requires.0.1) c.requires.1.0 (granule_sane a.s.granule) c.in_default.ensures.end c.in_default.ensures.place (length a.words.now) []) c.requires.1.1.1.1.0)

pub fill-requires : goal.fill-requires
fill-requires c =
    let a = c.args in
    ((in_run (goal.at.fill-requires c).In-Ok).0, ((in_run (goal.at.fill-requires c).In-Ok).1, row_word_fits a.frame a.height a.attributes a.count (size_at (granule_of a.s.granule) a.height) c.requires.1.1.0 (word (goal.at.fill-requires c).After-word_of-first) (size (goal.at.fill-requires c).After-size_at)))

pub returns : goal.returns
returns c =
    let a = c.args in
    c.fill.ensures ∙ (λ i. filled (a.words.now ++ a.second.now) ((place (goal.at.returns c).In-Ok) i) (word (goal.at.returns c).After-word_of-first i) (size (goal.at.returns c).After-size_at i) a.count)
