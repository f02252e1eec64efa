use Rattle.std.proofs.Common.{◌≡◌, ap, sym, ◌∙◌, ◌++◌, arith}
use Rattle.laws.specs.Lists.{part}
use Rattle.laws.specs.ListLaws.{length_part_le}
use Rattle.path.specs.Geometry.{granule_of, entries}
use Rattle.path.specs.Laws.{granule_sane, entries_most}
use Rattle.model.specs.Walk.{slot}
use Rattle.sweeps.specs.Parts.{in_use, used_in}
use Rattle.rangeunmaps.proofs.Looks.{use_counted, use_most}
use Rattle.rangeunmaps.proofs.Steps.{counts_more}
use Rattle.rangeunmaps.proofs.count_words.Goals as goal
use Rattle.rangeunmaps.proofs.count_words.Goals.{After-in_use}

used : (c : After-in_use) → let a = c.args in c.in_use.result ≡ used_in (granule_of a.granule) (a.words.now ++ a.second.now) c.loop-t.t
used c = c.in_use.ensures ∙ sym (use_counted c.table_part.result.now) ∙ ap in_use (c.table_part.ensures c.requires.1.0 c.requires.1.1)

pub overflow_cast-counts : goal.overflow_cast-counts
overflow_cast-counts c =
    let a = c.args in
    let G = granule_of a.granule in
    let t = c.loop-t.t in
    omega (
      arith,
      used (goal.at.overflow_cast-counts c).After-in_use,
      use_most (part (a.words.now ++ a.second.now) (slot G t 0) (entries G)),
      length_part_le (a.words.now ++ a.second.now) (slot G t 0) (entries G),
      entries_most G (granule_sane a.granule),
    )

pub loop-t-preserved : goal.loop-t-preserved
loop-t-preserved c =
    let a = c.args in
    let l = c.loop-t in
    counts_more (granule_of a.granule) (a.words.now ++ a.second.now) l.counts l.t c.in_use.result (omega (arith, c.requires.0.0)) (used (goal.at.loop-t-preserved c).After-in_use) l.invariant
