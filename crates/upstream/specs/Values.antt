-- pt_arch.rs, path.rs, tree.rs: upstream's page table tree as a value, and what `PTTreeNode` does with it, for any architecture. The entries of a node are
-- a function of their index; of those past the level's entry count nothing is asked. A level is counted from the root down, as upstream counts it.
use Rattle.std.specs.Prelude.{ℕ, zero, suc, ◌*◌, ◌%◌, ◌<◌, ◌≡◌, ◌≢◌, Bool, true, false, cond, List, [], ◌∷◌, ◌++◌, eqb, length, take, drop}
use Rattle.laws.specs.Lists.{all_zero}

-- `SpecPTArch`: how many levels there are, and for each level how many entries a node has and the size of a frame
pub record Arch : Type 0 where
  pub levels : ℕ
  pub count : ℕ → ℕ
  pub size_of : ℕ → ℕ

-- its `valid`: it has a level, each level more than one entry, and a frame is what the entries of the next level make together
pub record ArchValid (A : Arch) : Type 0 where
  pub some_level : 0 < A.levels
  pub some_entries : (l : ℕ) → l < A.levels → 1 < A.count l
  pub nested : (l : ℕ) → suc l < A.levels → A.size_of l ≡ A.size_of (suc l) * A.count (suc l)

-- `SpecFrame`
pub record SpecFrame : Type 0 where
  pub base : ℕ
  pub size : ℕ
  pub attributes : ℕ

-- `NodeEntry`; a node is its level and its entries
pub data NodeEntry : Type 0 where
  Node : (level : ℕ) → (entries : ℕ → NodeEntry) → NodeEntry
  Frame : SpecFrame → NodeEntry
  Empty : NodeEntry

-- ---- path.rs

-- `PTTreePath`
abbrev pub Path : Type 0
Path = List ℕ

-- `has_prefix`
abbrev pub HasPrefix : Path → Path → Type 0
HasPrefix p q = (q ≢ []) × ((r : Path) × (p ≡ q ++ r))

-- `has_zero_tail`: from index n on
abbrev pub HasZeroTail : Path → ℕ → Type 0
HasZeroTail p n = all_zero (drop n p) ≡ true

-- `has_padded_prefix`
abbrev pub HasPaddedPrefix : Path → Path → Type 0
HasPaddedPrefix p q = HasPrefix p q × HasZeroTail p (length q)

-- ---- tree.rs

-- the entries with e at index i
abbrev pub put : (ℕ → NodeEntry) → ℕ → NodeEntry → ℕ → NodeEntry
put f i e j = cond (eqb j i) e (f j)

-- no entry
abbrev pub bare : ℕ → NodeEntry
bare i = Empty

abbrev pub level_of : NodeEntry → ℕ
level_of (Node k f) = k
level_of (Frame x) = 0
level_of Empty = 0

abbrev pub is_empty : NodeEntry → Bool
is_empty (Node k f) = false
is_empty (Frame x) = false
is_empty Empty = true

-- are the first n entries empty?
abbrev pub all_empty : ℕ → (ℕ → NodeEntry) → Bool
all_empty zero f = true
all_empty (suc n) f = cond (is_empty (f n)) (all_empty n f) false

-- the last of a list; e of none
abbrev pub last_of : NodeEntry → List NodeEntry → NodeEntry
last_of e [] = e
last_of e (x ∷ xs) = last_of x xs

-- `visit`: the entries along a path
abbrev pub visit : Path → NodeEntry → List NodeEntry
visit [] e = []
visit (i ∷ p) Empty = []
visit (i ∷ p) (Frame x) = []
visit (i ∷ p) (Node k f) = f i ∷ visit p (f i)

-- the entry where a visit ends
abbrev pub ending : Path → NodeEntry → NodeEntry
ending p e = last_of e (visit p e)

-- `real_path`
abbrev pub real_path : Path → NodeEntry → Path
real_path p e = take (length (visit p e)) p

-- the entry after a call, and whether the call succeeded
pub record Outcome : Type 0 where
  pub after : NodeEntry
  pub ok : Bool

abbrev pub outcome : NodeEntry → Bool → Outcome
outcome e b = record { after = e; ok = b }

-- what becomes of a node when its entry i does
abbrev pub within : ℕ → (ℕ → NodeEntry) → ℕ → Outcome → Outcome
within k f i o = outcome (Node k (put f i o.after)) o.ok

-- `insert`: of an entry that is a node of level k, or where one of level k is to stand
abbrev pub insert : ℕ → Path → SpecFrame → NodeEntry → Outcome
insert k [] x Empty = outcome (Frame x) true
insert k [] x (Frame y) = outcome (Frame y) false
insert k [] x (Node l f) = outcome (Node l f) false
insert k (i ∷ p) x Empty = within k bare i (insert (suc k) p x Empty)
insert k (i ∷ p) x (Frame y) = outcome (Frame y) false
insert k (i ∷ p) x (Node l f) = within l f i (insert (suc l) p x (f i))

-- `remove`: a frame goes where the rest of the path is zero
abbrev pub remove : Path → NodeEntry → Outcome
remove [] Empty = outcome Empty false
remove [] (Frame x) = outcome Empty true
remove [] (Node k f) = outcome (Node k f) false
remove (i ∷ p) Empty = outcome Empty false
remove (i ∷ p) (Frame x) = cond (all_zero (i ∷ p)) (outcome Empty true) (outcome (Frame x) false)
remove (i ∷ p) (Node k f) = within k f i (remove p (f i))

module _ (A : Arch) where
  -- `valid`: a path from a node of level k
  abbrev pub Steps : ℕ → Path → Type 0
  Steps k [] = Unit {0}
  Steps k (i ∷ p) = (k < A.levels) × (i < A.count k) × Steps (suc k) p

  abbrev pub Valid : ℕ → Path → Type 0
  Valid k p = (p ≢ []) × Steps k p

  -- `is_entry_valid`: what may stand in a node of level k
  abbrev pub EntryValid : ℕ → NodeEntry → Type 0
  EntryValid k (Node l f) = (suc k < A.levels) × (l ≡ suc k)
  EntryValid k (Frame x) = (x.size ≡ A.size_of k) × (x.base % x.size ≡ 0)
  EntryValid k Empty = Unit {0}

  -- `wf`, of a node; of another entry nothing
  abbrev pub Wf : NodeEntry → Type 0
  Wf (Node k f) = (k < A.levels) × ((i : ℕ) → i < A.count k → EntryValid k (f i) × Wf (f i))
  Wf (Frame x) = Unit {0}
  Wf Empty = Unit {0}

  -- an entry of a node of level k that is not empty: at the last level a frame, above it a node or a frame
  abbrev pub Filled : ℕ → NodeEntry → Type 0
  Filled k (Node l f) = suc k < A.levels
  Filled k (Frame x) = Unit {0}
  Filled k Empty = ⊥

  -- `all_nonempty`, of a node
  abbrev pub AllNonempty : NodeEntry → Type 0
  AllNonempty (Node k f) =
      ((i : ℕ) × (i < A.count k) × Filled k (f i))
      × ((i : ℕ) → i < A.count k → EntryValid k (f i) → AllNonempty (f i))
  AllNonempty (Frame x) = Unit {0}
  AllNonempty Empty = Unit {0}

  -- `empty`, of a node
  abbrev pub NoEntry : NodeEntry → Type 0
  NoEntry (Node k f) = (i : ℕ) → i < A.count k → f i ≡ Empty
  NoEntry (Frame x) = ⊥
  NoEntry Empty = ⊥

  -- `path_mappings` has the frame x at the path p
  abbrev pub MapsTo : NodeEntry → Path → SpecFrame → Type 0
  MapsTo e p x = Valid (level_of e) p × (ending p e ≡ Frame x) × (length (visit p e) ≡ length p)

  -- `prune` of an entry below the root: pruned, and empty where nothing is left
  abbrev pub trimmed : ℕ → (ℕ → NodeEntry) → NodeEntry
  trimmed k f = cond (all_empty (A.count k) f) Empty (Node k f)

  abbrev pub trim : Path → NodeEntry → NodeEntry
  trim [] e = e
  trim (i ∷ p) Empty = Empty
  trim (i ∷ p) (Frame x) = Frame x
  trim (i ∷ p) (Node k f) = trimmed k (put f i (trim p (f i)))

  -- `prune`: the node itself stays
  abbrev pub prune : Path → NodeEntry → NodeEntry
  prune [] e = e
  prune (i ∷ p) Empty = Empty
  prune (i ∷ p) (Frame x) = Frame x
  prune (i ∷ p) (Node k f) = Node k (put f i (trim p (f i)))
