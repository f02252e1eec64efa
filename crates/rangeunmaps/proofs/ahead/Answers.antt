-- `rangeunmaps::ahead` finds a row that may be cleared by itself.
use mathlib.Core.Path.{◌≡◌, sym, ap, ◌∙◌, subst}
use native.Mathlib.Omega.{arith}
use Prim.Native.Nat.{ℕ, ◌+◌, ◌-◌, ◌*◌, ◌≤◌, ◌<◌}
use mathlib.Core.List.{List, ◌++◌}
use lib.ListN.{length, get_or}
use Rattle.laws.specs.Lists.{part, zeroed}
use Rattle.path.specs.declared.Setup.{Setup}
use Rattle.path.specs.Geometry.{granule_of, entries, page_size}
use Rattle.path.specs.Areas.{area_of, total}
use Rattle.path.specs.Paths.{index_at}
use Rattle.path.specs.Laws.{granule_sane, level_some, good_setup_lem, table_ends}
use Rattle.model.specs.Answers.{Pool, pool}
use Rattle.model.specs.Walk.{slot, at_height}
use Rattle.model.specs.Calls.{walk_to}
use Rattle.ranges.specs.Stretches.{stretch_at}
use Rattle.sweeps.specs.Parts.{Removes, Clearable, in_use}
use Rattle.sweeps.specs.Rows.{place_of}
use Rattle.sweeps.specs.Clearing.{sure_like, stretch_room, row_table, row_held, row_clears}
use Rattle.rangeunmaps.proofs.Looks.{use_counted}
use Rattle.rangeunmaps.proofs.ahead.Goals as goal
use Rattle.rangeunmaps.proofs.ahead.Goals.{After-clearable-count, After-entry_place-place, After-stretch-many, Else-met-gt0}

-- the pool of these words and this free list
abbrev at : Setup → List ℕ → List ℕ → List ℕ → Pool
at s words second list = pool s (words ++ second) (length words) list

-- past both tests the walk ended in a table of the last level, the last on its way
low : (c : Else-met-gt0) → (walk_to (granule_of c.args.s.granule) (at c.args.s c.args.words.now c.args.second.now c.requires.0.0) 0 c.args.address).left ≡ 0
low c = omega (arith, c.in-Ok.ensures.left_is, c.if-met-gt0.false)

table : (c : Else-met-gt0) → at_height (walk_to (granule_of c.args.s.granule) (at c.args.s c.args.words.now c.args.second.now c.requires.0.0) 0 c.args.address).tables 0 ≡ get_or c.look.new.way 3 0
table c = ap (λ (w : List ℕ). get_or w 3 0) c.in-Ok.ensures.tables_are

inside : (c : Else-met-gt0) → get_or c.look.new.way 3 0 < total (area_of c.args.s)
inside c =
    let a = c.args in
    subst (λ (t : ℕ). t < total (area_of a.s)) (table c) (row_table (granule_of a.s.granule) (granule_sane a.s.granule) (at c.args.s c.args.words.now c.args.second.now c.requires.0.0) a.address a.end c.requires.0.1 c.requires.1 (low c))

many : (c : After-stretch-many) → let a = c.args in c.stretch-many.result ≡ stretch_at (granule_of a.s.granule) a.address (a.end - a.address) 0
many c = let a = c.args in c.stretch-many.ensures ∙ level_some (granule_of a.s.granule) {h = 0} (omega (arith, granule_sane a.s.granule)) _

-- the row's words
own : (c : Else-met-gt0) → let a = c.args in
    slot (granule_of a.s.granule) (get_or c.look.new.way 3 0) (index_at (granule_of a.s.granule) a.address 0) ≡ place_of (granule_of a.s.granule) (at c.args.s c.args.words.now c.args.second.now c.requires.0.0) a.address
own c = let a = c.args in let G = granule_of a.s.granule in ap (λ (t : ℕ). slot G t (index_at G a.address 0)) (sym (table c))

place : (c : After-entry_place-place) → let a = c.args in c.entry_place-place.result ≡ place_of (granule_of a.s.granule) (at c.args.s c.args.words.now c.args.second.now c.requires.0.0) a.address
place c =
    let a = c.args in
    let G = granule_of a.s.granule in
    c.entry_place-place.ensures ∙ ap (slot G (get_or c.look.new.way 3 0)) (c.index_at-first.ensures ∙ level_some G {h = 0} (omega (arith, granule_sane a.s.granule)) _)
    ∙ ap (λ (w : List ℕ). slot G (get_or w 3 0) (index_at G a.address 0)) (sym c.in-Ok.ensures.tables_are)

found : (c : After-clearable-count)
    → slot (granule_of c.args.s.granule) (get_or c.look.new.way 3 0) (index_at (granule_of c.args.s.granule) c.args.address 0) ≡ place_of (granule_of c.args.s.granule) (at c.args.s c.args.words.now c.args.second.now c.requires.0.0) c.args.address
    → c.stretch-many.result ≡ stretch_at (granule_of c.args.s.granule) c.args.address (c.args.end - c.args.address) 0
    → let a = c.args in
    Clearable (part (a.words.now ++ a.second.now) (place_of (granule_of a.s.granule) (at c.args.s c.args.words.now c.args.second.now c.requires.0.0) a.address) (stretch_at (granule_of a.s.granule) a.address (a.end - a.address) 0)) c.clearable-count.result
found c own many =
    let a = c.args in
    subst (λ (l : List ℕ). Clearable l c.clearable-count.result) (c.row.ensures ∙ (λ i. part (a.words.now ++ a.second.now) (own i) (many i))) c.clearable-count.ensures

fits : (c : After-clearable-count)
    → (walk_to (granule_of c.args.s.granule) (at c.args.s c.args.words.now c.args.second.now c.requires.0.0) 0 c.args.address).left ≡ 0
    → Clearable (part (c.args.words.now ++ c.args.second.now) (place_of (granule_of c.args.s.granule) (at c.args.s c.args.words.now c.args.second.now c.requires.0.0) c.args.address) (stretch_at (granule_of c.args.s.granule) c.args.address (c.args.end - c.args.address) 0)) c.clearable-count.result
    → let a = c.args in index_at (granule_of a.s.granule) a.address 0 + c.clearable-count.result ≤ entries (granule_of a.s.granule)
fits c low found =
    let a = c.args in
    let G = granule_of a.s.granule in
    let (l, _, _) = row_clears G (granule_sane a.s.granule) (at c.args.s c.args.words.now c.args.second.now c.requires.0.0) a.address a.end c.requires.0.1 c.requires.1 low found in
    omega (arith, l, stretch_room G a.address (a.end - a.address) 0)

pub row-requires : goal.row-requires
row-requires c =
    let a = c.args in
    let G = granule_of a.s.granule in
    let N = (good_setup_lem c.requires.0.1.rest.good).numbers in
    ((a.s.tables, N.cut_is), (omega (arith, N.words_are, table_ends (entries G) (inside (goal.at.row-requires c).Else-met-gt0)), omega (arith, many (goal.at.row-requires c).After-stretch-many, stretch_room G a.address (a.end - a.address) 0)))

pub row-requires-2 : goal.row-requires-2
row-requires-2 c =
    let a = c.args in
    let G = granule_of a.s.granule in
    let N = (good_setup_lem c.requires.0.1.rest.good).numbers in
    ((a.s.tables, N.cut_is), (omega (arith, N.words_are, table_ends (entries G) (inside (goal.at.row-requires-2 c).Else-met-gt0)), fits (goal.at.row-requires-2 c).After-clearable-count (low (goal.at.row-requires-2 c).Else-met-gt0) (found (goal.at.row-requires-2 c).After-clearable-count (own (goal.at.row-requires-2 c).Else-met-gt0) (many (goal.at.row-requires-2 c).After-stretch-many))))

pub returns : goal.returns
returns c =
    let a = c.args in
    let G = granule_of a.s.granule in
    let Z = granule_sane a.s.granule in
    let ws = a.words.now ++ a.second.now in
    let n = c.clearable-count.result in
    let low = low (goal.at.returns c).Else-met-gt0 in
    let own = own (goal.at.returns c).Else-met-gt0 in
    let found = found (goal.at.returns c).After-clearable-count own (many (goal.at.returns c).After-stretch-many) in
    let z = place (goal.at.returns c).After-entry_place-place in
    let used_is : c.in_use-used.result ≡ in_use (part ws (place_of G (at c.args.s c.args.words.now c.args.second.now c.requires.0.0) a.address) n) =
    c.in_use-used.ensures ∙ sym (use_counted c.row-2.result.now) ∙ ap in_use (c.row-2.ensures ∙ (λ i. part ws (own i) n)) in
    record {
      some = omega (arith, c.if-count-eq0.false);
      within = (row_clears G Z (at c.args.s c.args.words.now c.args.second.now c.requires.0.0) a.address a.end c.requires.0.1 c.requires.1 low found).1;
      held = subst (λ (y : ℕ). y < length a.words.now → y + n ≤ length a.words.now) (sym z)
          (row_held G Z (at c.args.s c.args.words.now c.args.second.now c.requires.0.0) a.address a.end c.requires.0.1 c.requires.1 low found);
      removes = λ list g.
          subst (λ (y : ℕ). Removes G (at c.args.s c.args.words.now c.args.second.now list) a.address (a.address + n * page_size G) c.in_use-used.result 0 (pool a.s (zeroed ws y n) (length a.words.now) list)) (sym z)
          (subst (λ (u : ℕ). Removes G (at c.args.s c.args.words.now c.args.second.now list) a.address (a.address + n * page_size G) u 0 (pool a.s (zeroed ws (place_of G (at c.args.s c.args.words.now c.args.second.now list) a.address) n) (length a.words.now) list)) (sym used_is)
          ((row_clears G Z (at c.args.s c.args.words.now c.args.second.now list) a.address a.end (sure_like G a.s ws (length a.words.now) c.requires.0.0 list g c.requires.0.1) c.requires.1 low found).2 (omega (arith, c.if-count-eq0.false))));
    }
