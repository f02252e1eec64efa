-- `unmaps::count_freed`: the tables passed, and those that come free from there on.
use Prim.Native.Nat.{ℕ, ◌+◌, ◌-◌, ◌*◌}
use mathlib.Core.List.{◌++◌}
use lib.ListN.{length}
use mathlib.Core.Path.{◌≡◌, sym, ap, ◌∙◌}
use native.Mathlib.Omega.{arith}
use borrow.Author.Tests.{not-true, not-false}
use Rattle.path.specs.Geometry.{granule_of, entries}
use Rattle.path.specs.Paths.{path_of}
use Rattle.path.specs.Laws.{granule_sane}
use Rattle.model.specs.Walk.{at_height}
use Rattle.model.specs.Writes.{only_entry}
use Rattle.plans.specs.Steps.{index_known}
use Rattle.unmaps.proofs.Frees.{freed_stop, freed_more, freed_end}
use Rattle.unmaps.proofs.count_freed.Goals as goal
use Rattle.unmaps.proofs.count_freed.Goals.{After-only_entry}

-- whether the table has no entry but the path's
only : (c : After-only_entry)
    → let a = c.args in let l = c.loop-h in (k : ℕ) → length a.words.now ≡ entries (granule_of a.granule) * k
    → c.only_entry.result ≡ only_entry (granule_of a.granule) (a.words.now ++ a.second.now) (at_height a.way.now l.h) (at_height (path_of (granule_of a.granule) a.address) l.h)
only c k q =
    let a = c.args in
    let l = c.loop-h in
    c.only_entry.ensures k q
    ∙ ap (only_entry (granule_of a.granule) (a.words.now ++ a.second.now) (at_height a.way.now l.h)) (index_known (granule_sane a.granule) a.address l.h (omega arith) c.index_at-i.ensures)

pub overflow_sub-at : goal.overflow_sub-at
overflow_sub-at c = omega (arith, granule_sane c.args.granule)

pub returns-then-not-only_entry : goal.returns-then-not-only_entry
returns-then-not-only_entry c k q =
    let a = c.args in
    let l = c.loop-h in
    let stop = freed_stop (granule_of a.granule) (a.words.now ++ a.second.now) a.way.now (path_of (granule_of a.granule) a.address) l.h (a.top - l.h) (omega arith) (sym (only (goal.at.returns-then-not-only_entry c).After-only_entry k q) ∙ not-true _ c.if-not-only_entry.true-raw) in
    omega (arith, l.invariant k q, stop)

pub loop-h-preserved : goal.loop-h-preserved
loop-h-preserved c k q =
    let a = c.args in
    let l = c.loop-h in
    let more = freed_more (granule_of a.granule) (a.words.now ++ a.second.now) a.way.now (path_of (granule_of a.granule) a.address) l.h (a.top - l.h) (omega arith) (sym (only (goal.at.loop-h-preserved c).After-only_entry k q) ∙ not-false _ c.if-not-only_entry.false-raw) in
    let e : a.top - l.h - 1 ≡ a.top - (l.h + 1) = omega arith in
    omega (arith, l.invariant k q, rw e at more)

pub returns : goal.returns
returns c k q =
    let a = c.args in
    let l = c.loop-h in
    let end = freed_end (granule_of a.granule) (a.words.now ++ a.second.now) a.way.now (path_of (granule_of a.granule) a.address) l.h (a.top - l.h) (omega arith) in
    omega (arith, l.invariant k q, end)
