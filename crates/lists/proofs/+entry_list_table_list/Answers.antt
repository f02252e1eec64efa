-- `table_list` and `entry_list`, which call each other, meet their contracts.
use Rattle.std.proofs.Common.{◌≡◌, refl, ℕ, ◌*◌, List, ◌++◌, length, sym, ap, ◌∙◌, arith, length-append}
use Rattle.std.proofs.lemmas.Result.{err_from_is_err_and}
use Rattle.path.specs.Geometry.{entries}
use Rattle.path.specs.Laws.{granule_sane}
use Rattle.model.specs.Answers.{Mapping}
use Rattle.model.specs.Audit.{table_words}
use Rattle.lists.specs.Feeds.{granule_in, area_in, feed, RunsFit, TableFit}
use Rattle.links.specs.TreeLaws.{some_is, none_is}
use Rattle.lists.specs.declared.Span.{Span}
use Rattle.lists.proofs.Rests.{loop_end, loop_stop, loop_next, power_at, entry_ends, entry_fit, entry_told, table_long, table_told, pages_sound, pages_fit, pages_told, entry_none, entry_one, child_fit, child_told}
use Rattle.lists.proofs.+entry_list_table_list.Goals as goal

-- the words of table t, once they are read
module _ (span : Span) (words second : List ℕ) {part : List ℕ} {start t h first : ℕ} (T : TableFit (granule_in span) (words ++ second) (area_in span) start t h first)
    (R : RunsFit (granule_in span) (area_in span) (length words) (length second))
    (is : (k : ℕ) → length words ≡ entries (granule_in span) * k → part ≡ table_words (granule_in span) (words ++ second) t) where
  part_is : part ≡ table_words (granule_in span) (words ++ second) t
  part_is = is span.tree.tables R.cut_is

  part_long : length part ≡ entries (granule_in span)
  part_long = table_long (granule_sane span.tree.granule) (words ++ second) (area_in span) start h t first T part_is R (length-append words second)

-- ---- `entry_list`

pub entry_list-returns-then-w-eq0 : goal.entry_list-returns-then-w-eq0
entry_list-returns-then-w-eq0 t c =
    let a = c.args in
    let F = c.requires.0 in
    let S = granule_sane a.span.tree.granule in
    let ws = a.words.now ++ a.second.now in
    let area = area_in a.span in
    entry_none S ws area a.span.start a.w a.height a.first F c.if-w-eq0.true a.places.now a.entries.now a.written

pub entry_list-word_list-requires : goal.entry_list-word_list-requires
entry_list-word_list-requires t c =
    let p = c.requires in
    let S = granule_sane c.args.span.tree.granule in
    (p.1.1, ((power_at S p.0.low c.bits_at-power.ensures).0, omega (arith, p.0.region.fits)))

pub entry_list-returns-in_default : goal.entry_list-returns-in_default
entry_list-returns-in_default t c =
    let a = c.args in
    let F = c.requires.0 in
    let S = granule_sane a.span.tree.granule in
    let ws = a.words.now ++ a.second.now in
    let area = area_in a.span in
    c.word_list.ensures a.span.tree.granule a.height (power_at S F.low c.bits_at-power.ensures).1 _
    (entry_one S ws area a.span.start a.w a.height a.first F refl (none_is (granule_in a.span) area a.w (sym c.child_in.ensures ∙ c.in_default.is)))

pub entry_list-table_list-requires : goal.entry_list-table_list-requires
entry_list-table_list-requires t c =
    let a = c.args in
    let child = some_is (granule_in a.span) (area_in a.span) a.w (sym c.child_in.ensures ∙ c.in-Some.is) in
    let F = c.requires.0 in
    let S = granule_sane a.span.tree.granule in
    let ws = a.words.now ++ a.second.now in
    let area = area_in a.span in
    (omega (arith, F.above, c.decreases), (child_fit S ws area a.span.start a.w a.height a.first F (sym child.0) (λ z. omega arith), c.requires.1))

pub entry_list-returns : goal.entry_list-returns
entry_list-returns t c =
    let a = c.args in
    let child = some_is (granule_in a.span) (area_in a.span) a.w (sym c.child_in.ensures ∙ c.in-Some.is) in
    let F = c.requires.0 in
    let S = granule_sane a.span.tree.granule in
    let ws = a.words.now ++ a.second.now in
    let area = area_in a.span in
    let r = c.table_list in
    child_told S ws area a.span.start a.w a.height a.first F (sym child.0) (λ z. omega arith) a.places.now a.entries.now r.new.places r.new.entries a.written r.result r.ensures

-- ---- `table_list`

pub table_list-pages_list-requires : goal.table_list-pages_list-requires
table_list-pages_list-requires t c =
    let a = c.args in
    let T = c.requires.0 in
    let R = c.requires.1.0 in
    let S = granule_sane a.span.tree.granule in
    let ws = a.words.now ++ a.second.now in
    let area = area_in a.span in
    let us = c.table_part-part.result.now in
    let q = part_is a.span a.words.now a.second.now T R c.table_part-part.ensures in
    let long = part_long a.span a.words.now a.second.now T R c.table_part-part.ensures in
    (pages_fit S ws area a.span.start a.height a.t a.first T q c.if-height-eq0.true long, c.requires.1.1)

pub table_list-returns-then-height-eq0 : goal.table_list-returns-then-height-eq0
table_list-returns-then-height-eq0 t c =
    let a = c.args in
    let T = c.requires.0 in
    let R = c.requires.1.0 in
    let S = granule_sane a.span.tree.granule in
    let ws = a.words.now ++ a.second.now in
    let area = area_in a.span in
    let us = c.table_part-part.result.now in
    let q = part_is a.span a.words.now a.second.now T R c.table_part-part.ensures in
    let long = part_long a.span a.words.now a.second.now T R c.table_part-part.ensures in
    let F = c.first_entry-from.ensures in
    let from = c.first_entry-from.result in
    let r = c.pages_list in
    let z = c.if-height-eq0.true in
    pages_told S ws area a.span.start a.height a.t a.first T q z from a.places.now a.entries.now r.new.places r.new.entries a.written r.result long F
    (r.ensures ws area (pages_sound S ws area a.span.start a.height a.t a.first T q z))

pub table_list-overflow_mul-base : goal.table_list-overflow_mul-base
table_list-overflow_mul-base t c =
    let a = c.args in
    let long = part_long a.span a.words.now a.second.now c.requires.0 c.requires.1.0 c.table_part-part.ensures in
    omega (arith, entry_ends (granule_sane a.span.tree.granule) c.requires.0 c.size_at-size.ensures c.first_entry-from.ensures c.loop-k.auto.k (omega (arith, long)))

pub table_list-overflow_add-base : goal.table_list-overflow_add-base
table_list-overflow_add-base t c =
    let a = c.args in
    let long = part_long a.span a.words.now a.second.now c.requires.0 c.requires.1.0 c.table_part-part.ensures in
    omega (arith, entry_ends (granule_sane a.span.tree.granule) c.requires.0 c.size_at-size.ensures c.first_entry-from.ensures c.loop-k.auto.k (omega (arith, long)))

pub table_list-entry_list-requires : goal.table_list-entry_list-requires
table_list-entry_list-requires t c =
    let a = c.args in
    let T = c.requires.0 in
    let R = c.requires.1.0 in
    let q = part_is a.span a.words.now a.second.now T R c.table_part-part.ensures in
    let long = part_long a.span a.words.now a.second.now T R c.table_part-part.ensures in (
      omega (arith, c.decreases),
      (
        entry_fit (granule_sane a.span.tree.granule) T c.size_at-size.ensures c.first_entry-from.ensures c.loop-k.auto.k (omega (arith, long)) q (omega (arith, c.if-height-eq0.false)),
        (R, c.loop-k.auto.places ∙ c.requires.1.1 ∙ sym c.loop-k.auto.entries),
      ),
    )

pub table_list-returns-in_err-n : goal.table_list-returns-in_err-n
table_list-returns-in_err-n t c =
    let a = c.args in
    let T = c.requires.0 in
    let S = granule_sane a.span.tree.granule in
    let ws = a.words.now ++ a.second.now in
    let area = area_in a.span in
    let us = c.table_part-part.result.now in
    let q = part_is a.span a.words.now a.second.now T c.requires.1.0 c.table_part-part.ensures in
    let long = part_long a.span a.words.now a.second.now T c.requires.1.0 c.table_part-part.ensures in
    let F = c.first_entry-from.ensures in
    let from = c.first_entry-from.result in
    let k = c.loop-k in
    let r = c.entry_list in
    let p = err_from_is_err_and c.from_residual.result c.from_residual.ensures.1 in
    let told = entry_told S T c.size_at-size.ensures F k.auto.k (omega (arith, long)) us k.places k.entries r.new.places r.new.entries k.n _ c.in_err-n.ensures in
    rw (p.1, p.2) (loop_stop (granule_in a.span) ws area a.span.start a.height a.first us from a.places.now a.entries.now a.written k.places k.entries k.n k.k k.invariant c.loop-k-test.true r.new.places r.new.entries _ told
    ∙ ap (λ (x : List Mapping). feed (granule_in a.span) x a.places.now a.entries.now a.written) (table_told S ws area a.span.start a.height a.t a.first T q from long F))

pub table_list-loop-k-preserved : goal.table_list-loop-k-preserved
table_list-loop-k-preserved t c =
    let a = c.args in
    let T = c.requires.0 in
    let S = granule_sane a.span.tree.granule in
    let ws = a.words.now ++ a.second.now in
    let area = area_in a.span in
    let us = c.table_part-part.result.now in
    let q = part_is a.span a.words.now a.second.now T c.requires.1.0 c.table_part-part.ensures in
    let long = part_long a.span a.words.now a.second.now T c.requires.1.0 c.table_part-part.ensures in
    let F = c.first_entry-from.ensures in
    let from = c.first_entry-from.result in
    let k = c.loop-k in
    let r = c.entry_list in
    let told = entry_told S T c.size_at-size.ensures F k.auto.k (omega (arith, long)) us k.places k.entries r.new.places r.new.entries k.n _ c.in_ok-n.ensures in
    loop_next (granule_in a.span) ws area a.span.start a.height a.first us from a.places.now a.entries.now a.written k.places k.entries k.n k.k k.invariant c.loop-k-test.true r.new.places r.new.entries _ told

pub table_list-returns : goal.table_list-returns
table_list-returns t c =
    let a = c.args in
    let T = c.requires.0 in
    let S = granule_sane a.span.tree.granule in
    let ws = a.words.now ++ a.second.now in
    let area = area_in a.span in
    let us = c.table_part-part.result.now in
    let q = part_is a.span a.words.now a.second.now T c.requires.1.0 c.table_part-part.ensures in
    let long = part_long a.span a.words.now a.second.now T c.requires.1.0 c.table_part-part.ensures in
    let F = c.first_entry-from.ensures in
    let from = c.first_entry-from.result in
    let k = c.loop-k in
    loop_end (granule_in a.span) ws area a.span.start a.height a.first us from a.places.now a.entries.now a.written k.places k.entries k.n k.k k.invariant c.loop-k-test.false
    ∙ ap (λ (x : List Mapping). feed (granule_in a.span) x a.places.now a.entries.now a.written) (table_told S ws area a.span.start a.height a.t a.first T q from long F)
