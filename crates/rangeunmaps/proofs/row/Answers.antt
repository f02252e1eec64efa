use mathlib.Core.Path.{◌≡◌, ap, ◌∙◌}
use native.Mathlib.Omega.{arith}
use Prim.Native.Nat.{◌+◌, ◌-◌}
use mathlib.Core.List.{◌++◌}
use lib.ListN.{length, take, drop}
use Rattle.laws.specs.Lists.{part}
use Rattle.laws.specs.ListLaws.{length_part, drop_part, take_part}
use Rattle.path.specs.Geometry.{granule_of, entries}
use Rattle.path.specs.Paths.{index_at}
use Rattle.path.specs.Laws.{granule_sane, level_some}
use Rattle.model.specs.Walk.{slot}
use Rattle.rangeunmaps.proofs.row.Goals as goal
use Rattle.rangeunmaps.proofs.row.Goals.{After-index_at-from}

index : (c : After-index_at-from) → let a = c.args in c.index_at-from.result ≡ index_at (granule_of a.granule) a.address 0
index c = let a = c.args in c.index_at-from.ensures ∙ level_some (granule_of a.granule) {h = 0} (omega (arith, granule_sane a.granule)) _

table : (c : After-index_at-from) → let a = c.args in c.table_part-table.result.now ≡ part (a.words.now ++ a.second.now) (slot (granule_of a.granule) a.t 0) (entries (granule_of a.granule))
table c = c.table_part-table.ensures c.requires.0.0 c.requires.0.1

long : (c : After-index_at-from) → length c.table_part-table.result.now ≡ entries (granule_of c.args.granule)
long c =
    let a = c.args in
    ap length (table c) ∙ length_part (a.words.now ++ a.second.now) (slot (granule_of a.granule) a.t 0) (entries (granule_of a.granule)) c.requires.1.0

row_is : (c : After-index_at-from) → let a = c.args in
    take (c.index_at-from.result + a.count - c.index_at-from.result) (drop c.index_at-from.result c.table_part-table.result.now)
    ≡ part (a.words.now ++ a.second.now) (slot (granule_of a.granule) a.t (index_at (granule_of a.granule) a.address 0)) a.count
row_is c =
    let a = c.args in
    let G = granule_of a.granule in
    let ws = a.words.now ++ a.second.now in
    let i = index_at G a.address 0 in
    let many : c.index_at-from.result + a.count - c.index_at-from.result ≡ a.count = omega arith in
    let at : slot G a.t 0 + i ≡ slot G a.t i = omega arith in
    (λ j. take (many j) (drop (index c j) (table c j)))
    ∙ ap (take a.count) (drop_part ws (slot G a.t 0) (entries G) i) ∙ take_part ws (slot G a.t 0 + i) (entries G - i) a.count (omega (arith, c.requires.1.1))
    ∙ (λ j. part ws (at j) a.count)

pub slice_bounds-result-end : goal.slice_bounds-result-end
slice_bounds-result-end c = omega (arith, index (goal.at.slice_bounds-result-end c).After-index_at-from, c.requires.1.1, long (goal.at.slice_bounds-result-end c).After-index_at-from)

pub returns : goal.returns
returns c = row_is (goal.at.returns c).After-index_at-from
