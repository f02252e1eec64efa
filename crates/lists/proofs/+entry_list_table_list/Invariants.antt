-- `table_list` and `entry_list`, which call each other, end: two for each level left, and one more for a table.
use Rattle.std.proofs.Common.{◌+◌, ◌*◌, ◌++◌}
use Rattle.lists.specs.Feeds.{granule_in, area_in}
use Rattle.lists.proofs.Rests.{Same}
use Rattle.lists.proofs.+entry_list_table_list.Given as goal

abbrev pub decreases-entry_list : goal.decreases-entry_list
decreases-entry_list l = l.height * 2 + 1

abbrev pub decreases-table_list : goal.decreases-table_list
decreases-table_list l = l.height * 2 + 2

abbrev pub invariant-table_list-loop-k : goal.invariant-table_list-loop-k
invariant-table_list-loop-k l =
    Same (granule_in l.span) (l.words ++ l.second) (area_in l.span) l.span.start l.height l.first l.part l.from l.initial.places l.initial.entries l.initial.n l.places l.entries l.n l.k
