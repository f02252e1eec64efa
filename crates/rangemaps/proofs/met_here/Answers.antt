-- `rangemaps::met_here`: the words of the row are a part of their table.
use Prim.Native.Nat.{◌+◌, ◌-◌}
use mathlib.Core.Path.{◌≡◌, sym, ap, ◌∙◌}
use mathlib.Core.List.{◌++◌}
use native.Mathlib.Omega.{arith}
use lib.ListN.{length, take, drop}
use Rattle.std.specs.Prelude.{Ok}
use Rattle.laws.specs.Lists.{part}
use Rattle.laws.specs.ListLaws.{length_part}
use Rattle.path.specs.Geometry.{granule_of, entries}
use Rattle.path.specs.Areas.{area_of}
use Rattle.path.specs.Numbers.{GoodSetup}
use Rattle.path.specs.Paths.{index_at}
use Rattle.path.specs.Laws.{granule_sane, level_some, good_setup_lem, entries_most, table_ends}
use Rattle.model.specs.Walk.{slot}
use Rattle.rangemaps.specs.Rows.{met_in}
use Rattle.rangemaps.proofs.Words.{row_part}
use Rattle.rangemaps.proofs.met_here.Goals as goal
use Rattle.rangemaps.proofs.met_here.Goals.{After-index_at-from, Start}

good : (c : Start) → let a = c.args in GoodSetup (granule_of a.s.granule) a.s (length a.words.now) (length (a.words.now ++ a.second.now)) c.requires.0.0
good c = good_setup_lem c.requires.0.1

index : (c : After-index_at-from) → let a = c.args in c.index_at-from.result ≡ index_at (granule_of a.s.granule) a.address a.height
index c =
    let a = c.args in
    c.index_at-from.ensures ∙ level_some (granule_of a.s.granule) {h = a.height} (omega (arith, c.requires.1.0, granule_sane a.s.granule)) _

table : (c : After-index_at-from) → let a = c.args in c.table_part-table.result.now ≡ part (a.words.now ++ a.second.now) (slot (granule_of a.s.granule) a.t 0) (entries (granule_of a.s.granule))
table c = c.table_part-table.ensures c.args.s.tables (good_setup_lem c.requires.0.1).numbers.cut_is

long : (c : After-index_at-from) → let a = c.args in length c.table_part-table.result.now ≡ entries (granule_of a.s.granule)
long c =
    let a = c.args in
    ap length (table c) ∙ length_part (a.words.now ++ a.second.now) (slot (granule_of a.s.granule) a.t 0) (entries (granule_of a.s.granule))
    (omega (arith, (good_setup_lem c.requires.0.1).numbers.words_are, table_ends (entries (granule_of a.s.granule)) c.requires.1.1.0))

row : (c : After-index_at-from) → let a = c.args in
    take (c.index_at-from.result + a.count - c.index_at-from.result) (drop c.index_at-from.result c.table_part-table.result.now)
    ≡ part (a.words.now ++ a.second.now) (slot (granule_of a.s.granule) a.t (index_at (granule_of a.s.granule) a.address a.height)) a.count
row c =
    let a = c.args in
    let many : c.index_at-from.result + a.count - c.index_at-from.result ≡ a.count = omega arith in
    (λ i. take (many i) (drop (index c i) (table c i))) ∙ sym (row_part (granule_of a.s.granule) (a.words.now ++ a.second.now) a.t (index_at (granule_of a.s.granule) a.address a.height) a.count c.requires.1.1.1)

pub overflow_add-from : goal.overflow_add-from
overflow_add-from c = let a = c.args in omega (arith, index (goal.at.overflow_add-from c).After-index_at-from, c.requires.1.1.1, entries_most (granule_of a.s.granule) (granule_sane a.s.granule))

pub slice_bounds-met_in-end : goal.slice_bounds-met_in-end
slice_bounds-met_in-end c = let a = c.args in omega (arith, index (goal.at.slice_bounds-met_in-end c).After-index_at-from, c.requires.1.1.1, long (goal.at.slice_bounds-met_in-end c).After-index_at-from)

pub met_in-requires : goal.met_in-requires
met_in-requires c = omega (arith, good (goal.at.met_in-requires c).Start)

pub returns : goal.returns
returns c = let a = c.args in
    c.met_in.ensures ∙ ap (met_in (granule_of a.s.granule) (area_of a.s) a.height (Ok 0)) (row (goal.at.returns c).After-index_at-from)
