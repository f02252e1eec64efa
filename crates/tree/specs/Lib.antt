-- The theory of page tables over any geometry: trees of tables, the words that render them, ledgers of mappings, and why the
-- calls over words and the calls over ledgers agree. Everything is over a `Geo` (entries of a table, height of the root, tables,
-- entry words with their laws) and a `Store` (memory that can be read and written); to use it, give one of each.
--   Region  heights, regions and pages as numbers, and their addresses
--   Tree    the tree, the words that render it, and one change of both
--   Walk    reading rendered words; where a walk ends
--   Inv     the invariant of words, free list and ledger; its four steps; `Store`
--   Ops     map: link the missing tables, put the frame
--   Prune   unmap: give back the tables that lost their last entry
--   Count   lists without repetition; the free tables as a list
--   Ledger  what the ledger says of a page, a region, a new mapping; a walk finds the same
--   Needed  the regions that need a table; free + needed + 1 = n
--   Visit   one traversal of all words meets each entry once
--   Reach   what the traversal reaches is what the ledger needs
--   Audit   the audit's rules are the invariant
--   Fresh   a pool with the root alone
--   Widen   more tables for the same tree
pub mod Region
pub mod Tree
pub mod Walk
pub mod Inv
pub mod Ops
pub mod Prune
pub mod Count
pub mod Ledger
pub mod Needed
pub mod Visit
pub mod Reach
pub mod Audit
pub mod Fresh
pub mod Widen
