-- `table_check` and `entry_check`, which call each other, meet their contracts.
use Rattle.std.proofs.Common.{◌≡◌, ℕ, ◌*◌, ◌<◌, Bool, true, List, ◌++◌, length, get_or, set, Option, sym, refl, ap, ◌∙◌, arith}
use Rattle.path.specs.Geometry.{entries}
use Rattle.model.specs.Audit.{table_words}
use Rattle.audit.specs.Checks.{granule_in, kept_in, Answers, at_word, at_entry, RunsFit, TableFit}
use Rattle.audit.specs.declared.Look.{Look}
use Rattle.model.specs.declared.Counts.{Counts}
use Rattle.audit.proofs.Tables.{loop_skip, loop_bad, loop_few, loop_more, loop_end, table_stale, table_fresh, table_starts, table_entry, part_long, part_word, at_word_lem, entry_empty, entry_frame, entry_inside, entry_damaged, entry_child, met_by_size, entry_fit}
use Rattle.audit.proofs.+entry_check_table_check.Goals as goal

-- once the words of table t are read
module _ (words second : List ℕ) {part : List ℕ} {M : List Bool} {look : Look} {t h : ℕ} (fit : TableFit M look t h × RunsFit look (length words) (length second))
    (is : (k : ℕ) → length words ≡ entries (granule_in look) * k → part ≡ table_words (granule_in look) (words ++ second) t) where
  part_is : part ≡ table_words (granule_in look) (words ++ second) t
  part_is = is look.tree.tables fit.1.cut_is

  part_full : length part ≡ entries (granule_in look)
  part_full = ap length part_is ∙ part_long words second fit.0 fit.1

  -- what a turn's word says, its entry says
  turn_word :
      (N : List Bool) (i : ℕ) → i < length part → (r : Option Counts) (K : List Bool) → Answers (at_word (granule_in look) (words ++ second) look h (get_or part i 0)) N r K
      → Answers (at_entry (granule_in look) (words ++ second) look h t i) N r K
  turn_word N i l r K g = at_word_lem (words ++ second) look h t i N r K (part_word (granule_in look) (words ++ second) part t part_is i (omega (arith, part_full))) g

-- ---- `entry_check`

pub entry_check-returns-then-met : goal.entry_check-returns-then-met
entry_check-returns-then-met t c =
    let a = c.args in
    entry_inside (a.words.now ++ a.second.now) a.marks.now a.look _ a.w _ a.marks.now _ _ (sym c.read_word.ensures ∙ c.in-Frame.is)
    (met_by_size (granule_in a.look) (kept_in a.look) _ c.requires.0.low c.size_at-size.ensures c.meets_area-met.ensures c.if-met.true) refl

pub entry_check-overflow_sub-height : goal.entry_check-overflow_sub-height
entry_check-overflow_sub-height t c = omega (arith, (entry_fit c.requires.0 _ _ (sym c.read_word.ensures ∙ c.in-Table.is)).0)

pub entry_check-table_check-requires : goal.entry_check-table_check-requires
entry_check-table_check-requires t c =
    let fit = entry_fit c.requires.0 _ _ (sym c.read_word.ensures ∙ c.in-Table.is) in
    (omega (arith, fit.0, c.decreases), (fit.1, c.requires.1))

pub entry_check-returns-in-Empty : goal.entry_check-returns-in-Empty
entry_check-returns-in-Empty t c =
    let a = c.args in
    entry_empty (a.words.now ++ a.second.now) a.marks.now a.look _ a.w _ a.marks.now (sym c.read_word.ensures ∙ c.in-Empty.is) refl refl

pub entry_check-returns-else-met : goal.entry_check-returns-else-met
entry_check-returns-else-met t c =
    let a = c.args in
    entry_frame (a.words.now ++ a.second.now) a.marks.now a.look _ a.w _ a.marks.now _ _ (sym c.read_word.ensures ∙ c.in-Frame.is)
    (met_by_size (granule_in a.look) (kept_in a.look) _ c.requires.0.low c.size_at-size.ensures c.meets_area-met.ensures c.if-met.false) refl refl

pub entry_check-returns-in-Table : goal.entry_check-returns-in-Table
entry_check-returns-in-Table t c =
    let a = c.args in
    entry_child (a.words.now ++ a.second.now) _ a.look _ a.w _ _ _ (sym c.read_word.ensures ∙ c.in-Table.is) c.table_check.ensures

pub entry_check-returns-in-Damaged : goal.entry_check-returns-in-Damaged
entry_check-returns-in-Damaged t c =
    let a = c.args in
    entry_damaged (a.words.now ++ a.second.now) a.marks.now a.look _ a.w _ a.marks.now (sym c.read_word.ensures ∙ c.in-Damaged.is) refl

-- ---- `table_check`

pub table_check-returns-then-not-is_fresh : goal.table_check-returns-then-not-is_fresh
table_check-returns-then-not-is_fresh t c =
    table_stale _ c.args.look _ _ _ (sym (c.is_fresh.ensures c.args.look.tree.tables c.requires.1.cut_is) ∙ c.if-not-is_fresh.true)

pub table_check-pages_check-requires : goal.table_check-pages_check-requires
table_check-pages_check-requires t c = (part_full c.args.words.now c.args.second.now c.requires c.table_part-part.ensures, c.requires.0.placed)

pub table_check-returns-then-height-eq0 : goal.table_check-returns-then-height-eq0
table_check-returns-then-height-eq0 t c =
    rw c.if-height-eq0.true
    (c.pages_check.ensures _ _ (part_is c.args.words.now c.args.second.now c.requires c.table_part-part.ensures) _
    (sym (c.is_fresh.ensures c.args.look.tree.tables c.requires.1.cut_is) ∙ c.if-not-is_fresh.false))

pub table_check-loop-w-init : goal.table_check-loop-w-init
table_check-loop-w-init t c = let a = c.args in table_starts (a.words.now ++ a.second.now) a.look a.height a.t (set a.marks.now a.t true) c.requires.0.low

pub table_check-loop-w-preserved-then-w-eq0 : goal.table_check-loop-w-preserved-then-w-eq0
table_check-loop-w-preserved-then-w-eq0 t c =
    let a = c.args in
    let is = part_is a.words.now a.second.now c.requires c.table_part-part.ensures in
    let n = part_full a.words.now a.second.now c.requires c.table_part-part.ensures in
    loop_skip c.loop-w.invariant (omega (arith, n)) (sym (part_word (granule_in a.look) (a.words.now ++ a.second.now) _ _ is c.loop-w.w-index (omega (arith, n))) ∙ c.if-w-eq0.true)

pub table_check-entry_check-requires : goal.table_check-entry_check-requires
table_check-entry_check-requires t c = (omega (arith, c.decreases), (table_entry c.requires.0 c.loop-w.invariant, c.requires.1))

pub table_check-returns-in_err-found : goal.table_check-returns-in_err-found
table_check-returns-in_err-found t c =
    let a = c.args in
    let n = part_full a.words.now a.second.now c.requires c.table_part-part.ensures in
    rw c.from_residual.ensures
    (table_fresh _ a.look _ _ _ (sym (c.is_fresh.ensures a.look.tree.tables c.requires.1.cut_is) ∙ c.if-not-is_fresh.false) _ _
    (loop_bad c.loop-w.invariant (omega (arith, n)) _ _ (turn_word a.words.now a.second.now c.requires c.table_part-part.ensures _ c.loop-w.w-index (omega arith) _ _ c.in_err-found.ensures)))

pub table_check-overflow_add-tables : goal.table_check-overflow_add-tables
table_check-overflow_add-tables t c =
    let a = c.args in
    let n = part_full a.words.now a.second.now c.requires c.table_part-part.ensures in
    record {
      fits = (loop_few c.loop-w.invariant (omega (arith, n)) _ _ _ (turn_word a.words.now a.second.now c.requires c.table_part-part.ensures _ c.loop-w.w-index (omega arith) _ _ c.in_ok-found.ensures)).0;
    }

pub table_check-overflow_add-mappings : goal.table_check-overflow_add-mappings
table_check-overflow_add-mappings t c =
    let a = c.args in
    let n = part_full a.words.now a.second.now c.requires c.table_part-part.ensures in
    record {
      fits = (loop_few c.loop-w.invariant (omega (arith, n)) _ _ _ (turn_word a.words.now a.second.now c.requires c.table_part-part.ensures _ c.loop-w.w-index (omega arith) _ _ c.in_ok-found.ensures)).1;
    }

pub table_check-loop-w-preserved : goal.table_check-loop-w-preserved
table_check-loop-w-preserved t c =
    let a = c.args in
    let n = part_full a.words.now a.second.now c.requires c.table_part-part.ensures in
    loop_more c.loop-w.invariant (omega (arith, n)) _ _ _ (turn_word a.words.now a.second.now c.requires c.table_part-part.ensures _ c.loop-w.w-index (omega arith) _ _ c.in_ok-found.ensures) c.entry_check.auto.marks

pub table_check-returns : goal.table_check-returns
table_check-returns t c =
    let n = part_full c.args.words.now c.args.second.now c.requires c.table_part-part.ensures in
    table_fresh _ c.args.look _ _ _ (sym (c.is_fresh.ensures c.args.look.tree.tables c.requires.1.cut_is) ∙ c.if-not-is_fresh.false) _ _
    (loop_end c.loop-w.invariant (omega (arith, n)))
