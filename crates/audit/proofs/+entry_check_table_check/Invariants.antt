-- `table_check` and `entry_check`, which call each other, end: two for each level left, and one more for a table.
use Rattle.std.proofs.Common.{◌+◌, ◌*◌, ◌++◌}
use Rattle.audit.proofs.Tables.{Loop}
use Rattle.audit.proofs.+entry_check_table_check.Given as goal

abbrev pub decreases-entry_check : goal.decreases-entry_check
decreases-entry_check l = l.height * 2 + 1

abbrev pub decreases-table_check : goal.decreases-table_check
decreases-table_check l = l.height * 2 + 2

abbrev pub invariant-table_check-loop-w : goal.invariant-table_check-loop-w
invariant-table_check-loop-w l =
    Loop (l.words ++ l.second) l.look l.height l.t l.initial.marks l.initial.tables l.initial.mappings l.marks l.tables l.mappings l.w-index
