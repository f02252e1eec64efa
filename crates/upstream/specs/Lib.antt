-- Upstream's statements, for our pools and ledgers. A module or more for each upstream file; a law that gives an upstream lemma has its name, and each
-- says above it which clause it gives. They follow from crates `demand`, `tree` and `model` by short arguments.
--   State   pt_trait.rs: a state of mappings, when it is well-formed, and what map, unmap and query may do to it
--   Facts   the ledger's tests as facts about its mappings
--   Calls   pt.rs: what a call does to any pool, sound or not
--   Trait   pt_trait.rs: preconditions and refusals; the ledger of a pool is well-formed and stays so; the three refinements
--   Visit   tree.rs: visit and real_path, which are the walk
--   Tree    tree.rs: path_mappings, and the model's map, unmap and query
--   Node    tree.rs: insert, of a tree of which no more is known than that it is well-formed
--   Remove  tree.rs: remove and prune of such a tree
--   Memory  pt_mem.rs, table.rs: where tables stand, what a write changes, which tables are taken and given back
--   Values  pt_arch.rs, path.rs, tree.rs: upstream's tree as a value, with its own definitions; any architecture, any node
--   ValueVisits, ValueInserts, ValueRemoves, ValuePrunes   the lemmas on it, each as upstream has it
--   ValueTrees   the tree in a pool's words as such a node
--   ValueCells, ValueMaps, ValueUnmaps   a map does to it what insert does, an unmap what remove and prune do
--   ValueMappings, ValueRefusals, ValueWalks   its mappings are those found in the words; refusals 6, 9 and 10 are failures of insert and remove; a walk
--           is a visit
pub mod State
pub mod Values
pub mod ValueTrees
pub mod Calls
pub mod Memory
pub mod Node
pub mod Remove
pub mod Trait
pub mod Tree
pub mod ValueVisits
pub mod Visit
