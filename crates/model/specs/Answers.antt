-- Pools, answers, and the paper's number and values for each case of an answer.
use Rattle.std.specs.Prelude.{ℕ, Bool, true, false, cond, eqb, List, [], ◌∷◌, ◌++◌, length, take, Option, Some, None, Result, Ok, Err, ⊤}
use Rattle.path.specs.declared.Setup.{Setup}
use Rattle.path.specs.Numbers.{no_setup}
use Rattle.model.specs.declared.Refusal.{Refusal}
use Rattle.model.specs.declared.Refusal.TheVariants as R
use Rattle.model.specs.declared.Mapped.{Mapped}
use Rattle.model.specs.declared.Unmapped.{Unmapped}
use Rattle.model.specs.declared.RangeUnmapped.{RangeUnmapped}
use Rattle.model.specs.declared.Found.{Found}
use Rattle.model.specs.declared.Counts.{Counts}
use Rattle.model.specs.declared.Excerpt.{Excerpt}

-- a mapping: its address, the base of its frame, the size of both, its attributes
pub record Mapping : Type 0 where
  pub at : ℕ
  pub frame : ℕ
  pub size : ℕ
  pub attributes : ℕ

abbrev pub mapping : ℕ → ℕ → ℕ → ℕ → Mapping
mapping a b s k = record { at = a; frame = b; size = s; attributes = k }

-- what a call can answer: its values, or a refusal's number with what goes with it
pub data Answer : Type 0 where
  answered : List ℕ → Answer
  refusal : ℕ → List ℕ → Answer

abbrev pub formatted : Answer
formatted = answered []

-- the adding call
abbrev pub added : Answer
added = answered []

-- map, and map a range: the tables taken
abbrev pub took : ℕ → Answer
took t = answered (t ∷ [])

-- unmap: the frame removed (base, size, attributes) and the tables given back
abbrev pub gave : ℕ → ℕ → ℕ → ℕ → Answer
gave b s k t = answered (b ∷ s ∷ k ∷ t ∷ [])

-- unmap a range: the mappings removed and the tables given back
abbrev pub cleared : ℕ → ℕ → Answer
cleared m t = answered (m ∷ t ∷ [])

-- query: the mapping
abbrev pub found : Mapping → Answer
found m = answered (m.at ∷ m.frame ∷ m.size ∷ m.attributes ∷ [])

-- audit: the reached tables and the mappings
abbrev pub audited : ℕ → ℕ → Answer
audited t m = answered (t ∷ m ∷ [])

-- list: how many mappings were written; 1 and the base of the first that was left out, or 0 and 0 where none was; then what was written, the numbers of
-- the one run and those of the other
abbrev pub listed : ℕ → ℕ → ℕ → List ℕ → List ℕ → Answer
listed n more next places entries = answered (n ∷ more ∷ next ∷ (places ++ entries))

-- a refusal with its number and nothing more
abbrev pub refused : ℕ → Answer
refused k = refusal k []

-- refusal 9, with the hole around the address: the base and the size of the empty region
abbrev pub hole : ℕ → ℕ → Answer
hole b s = refusal 9 (b ∷ s ∷ [])

-- whether an answer is no refusal
abbrev pub accepts : Answer → Bool
accepts (answered values) = true
accepts (refusal k values) = false

-- the tables that map or unmap, of a mapping or of a range, says it took or gave back: the last of the values that it answers
abbrev pub last_of : List ℕ → ℕ
last_of [] = 0
last_of (x ∷ []) = x
last_of (x ∷ y ∷ l) = last_of (y ∷ l)

abbrev pub tables_in : Answer → ℕ
tables_in (answered values) = last_of values
tables_in (refusal k values) = 0

-- the documents' number of a refusal
abbrev pub number_of : Refusal → ℕ
number_of R.Setup = 1
number_of R.Size = 2
number_of R.Attributes = 3
number_of R.Address = 4
number_of R.Alignment = 5
number_of R.Overlap = 6
number_of R.Tables = 7
number_of R.Damage = 8
number_of (R.Hole b s) = 9
number_of R.Inside = 10
number_of R.Pool = 11

-- the paper's answer for a refusal: its number, and with 9 the hole
abbrev pub says_refusal : Refusal → Answer
says_refusal R.Setup = refused 1
says_refusal R.Size = refused 2
says_refusal R.Attributes = refused 3
says_refusal R.Address = refused 4
says_refusal R.Alignment = refused 5
says_refusal R.Overlap = refused 6
says_refusal R.Tables = refused 7
says_refusal R.Damage = refused 8
says_refusal (R.Hole b s) = hole b s
says_refusal R.Inside = refused 10
says_refusal R.Pool = refused 11

-- tests that a call makes answer a refusal's number, or 0 where none refuses: what that says, and what the code says of the same
abbrev pub tested : ℕ → Answer
tested k = cond (eqb k 0) (answered []) (refused k)

abbrev pub says_tested : Result ⊤ Refusal → Answer
says_tested (Ok u) = answered []
says_tested (Err r) = says_refusal r

-- the paper's answer for each case of the code's answers; what comes with a setup says it apart
abbrev pub says_format : Result Setup Refusal → Answer
says_format (Ok s) = formatted
says_format (Err r) = says_refusal r

abbrev pub says_add : Result Setup Refusal → Answer
says_add = says_format

abbrev pub says_map : Result Mapped Refusal → Answer
says_map (Ok m) = took m.tables
says_map (Err r) = says_refusal r

abbrev pub says_unmap : Result Unmapped Refusal → Answer
says_unmap (Ok u) = gave u.frame u.size u.attributes u.tables
says_unmap (Err r) = says_refusal r

abbrev pub says_unmap_range : Result RangeUnmapped Refusal → Answer
says_unmap_range (Ok u) = cleared u.mappings u.tables
says_unmap_range (Err r) = says_refusal r

abbrev pub says_query : Result Found Refusal → Answer
says_query (Ok f) = found (mapping f.base f.frame f.size f.attributes)
says_query (Err r) = says_refusal r

abbrev pub says_audit : Result Counts Refusal → Answer
says_audit (Ok c) = audited c.tables c.mappings
says_audit (Err r) = says_refusal r

-- list: what was written stands in the first places of the two runs at its end
abbrev pub says_next : ℕ → Option ℕ → List ℕ → List ℕ → Answer
says_next n None places entries = listed n 0 0 (take n places) (take n entries)
says_next n (Some b) places entries = listed n 1 b (take n places) (take n entries)

abbrev pub says_list : Result Excerpt Refusal → List ℕ → List ℕ → Answer
says_list (Ok e) places entries = says_next e.written e.next places entries
says_list (Err r) places entries = says_refusal r

-- Setup numbers, table words and free list. The words are the two lent runs put together, the first and then the second, so that table t's stand from
-- place entries × t on whichever region it is in; `cut` is how many of them are the first run's.
pub record Pool : Type 0 where
  pub numbers : Setup
  pub words : List ℕ
  pub cut : ℕ
  pub list : List ℕ

abbrev pub pool : Setup → List ℕ → ℕ → List ℕ → Pool
pool s w c l = record { numbers = s; words = w; cut = c; list = l }

-- what a call answers, and the pool that it leaves
pub record Done : Type 0 where
  pub answer : Answer
  pub after : Pool

abbrev pub done : Answer → Pool → Done
done a p = record { answer = a; after = p }

-- what format, the adding call, map and unmap, of a mapping or of a range, did, by what the code hands back and the lent memory at its end: the two runs,
-- and the list. A refused call leaves the setup that it was given, which for format is no pool's.
abbrev pub left : Answer → Setup → List ℕ → List ℕ → List ℕ → Done
left a s first second list = done a (pool s (first ++ second) (length first) list)

abbrev pub setup_after : {A : Type 0} → (A → Setup) → Setup → Result A Refusal → Setup
setup_after setup_in s (Ok x) = setup_in x
setup_after setup_in s (Err r) = s

abbrev pub format_did : Result Setup Refusal → List ℕ → List ℕ → List ℕ → Done
format_did r first second list = left (says_format r) (setup_after (λ t. t) no_setup r) first second list

abbrev pub add_did : Setup → Result Setup Refusal → List ℕ → List ℕ → List ℕ → Done
add_did s r first second list = left (says_add r) (setup_after (λ t. t) s r) first second list

abbrev pub map_did : Setup → Result Mapped Refusal → List ℕ → List ℕ → List ℕ → Done
map_did s r first second list = left (says_map r) (setup_after (λ m. m.setup) s r) first second list

abbrev pub unmap_did : Setup → Result Unmapped Refusal → List ℕ → List ℕ → List ℕ → Done
unmap_did s r first second list = left (says_unmap r) (setup_after (λ u. u.setup) s r) first second list

abbrev pub unmap_range_did : Setup → Result RangeUnmapped Refusal → List ℕ → List ℕ → List ℕ → Done
unmap_range_did s r first second list = left (says_unmap_range r) (setup_after (λ u. u.setup) s r) first second list

-- a refusal leaves everything as it was
abbrev pub refuse : ℕ → Pool → Done
refuse k p = done (refused k) p

-- what list answers, and the two runs that it leaves
pub record Listed : Type 0 where
  pub answer : Answer
  pub places : List ℕ
  pub entries : List ℕ

-- by the code's answer and the two runs at its end
abbrev pub list_did : Result Excerpt Refusal → List ℕ → List ℕ → Listed
list_did r places entries = record { answer = says_list r places entries; places = places; entries = entries }
