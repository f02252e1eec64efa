-- Demand 3, as it is promised. Make any sequence of calls, with any arguments, each on what the last one left, from a pool that holds a ledger:
-- a fresh format's, or one that the audit accepts. Every answer is the ledger's.
use Rattle.std.specs.Prelude.{◌≡◌, ◌≢◌, ◌⊎◌, ◌↔◌, ℕ, ◌+◌, ◌-◌, ◌<◌, length, take}
use mathlib.Core.List.{List, [], ◌∷◌, ◌++◌, map, Memᴰ}
use Rattle.path.specs.Geometry.{Granule, size_at}
use Rattle.path.specs.Areas.{Area, total}
use Rattle.entry.specs.declared.Entry.TheVariants.{Table}
use Rattle.model.specs.Answers.{Mapping, Answer, answered, refusal, refused, hole, Pool, pool, Done, done}
use Rattle.model.specs.Calls.{walk_to, format_w, query_w, map_w, unmap_w}
use Rattle.model.specs.Audit.{audit_w, free_of}
use Rattle.model.specs.Adds.{lent, add_w}
use Rattle.model.specs.Sound.{reached_of}
use Rattle.model.specs.Listing.{list_w}
use Rattle.model.specs.Ledger.{Ledger, region, regions_needed, free_tables, Entered, entered, format_l, add_l, query_l, map_l, unmap_l, audit_l, list_l}
use Rattle.model.specs.Ranges.{pieces, pages_of, map_range_w, unmap_range_w, map_range_l, unmap_range_l}
use Rattle.model.specs.Holes.{IsHole}
use Rattle.laws.specs.Lists.{Distinct}
use Rattle.demand.specs.Holds.{Holds}
use Rattle.demand.specs.Pages.{Paged}

-- a question about a pool, which changes nothing
pub data Ask : Type 0 where
  -- address
  query : ℕ → Ask
  audit : Ask
  -- start, and how many places each of the two runs has; what is written is part of the answer
  list_from : ℕ → ℕ → ℕ → Ask

-- a call and its arguments, whatever they are
pub data Call : Type 0 where
  -- levels, and the area of the tables: base and tables of each region; the granule stays the pool's
  format_c : ℕ → Area → Call
  -- base and tables of a second region; what stands in the second run that is lent with it, and in the longer list after the free numbers
  add_c : ℕ → ℕ → List ℕ → List ℕ → Call
  -- address, frame base, size, attributes
  map_c : ℕ → ℕ → ℕ → ℕ → Call
  -- address
  unmap_c : ℕ → Call
  -- address, frame base, length, attributes
  map_range_c : ℕ → ℕ → ℕ → ℕ → Call
  -- address, length
  unmap_range_c : ℕ → ℕ → Call
  ask_c : Ask → Call

abbrev pub query_c : ℕ → Call
query_c a = ask_c (query a)

abbrev pub audit_c : Call
audit_c = ask_c audit

-- the calls that a call is made of, one after the other: a range's are its pieces, or its pages, in rising order; any other is one by itself
abbrev pub map_of : Mapping → Call
map_of m = map_c m.at m.frame m.size m.attributes

abbrev pub parts : Granule → Call → List Call
parts G (format_c l r) = format_c l r ∷ []
parts G (add_c q m second rest) = add_c q m second rest ∷ []
parts G (map_c a b s k) = map_c a b s k ∷ []
parts G (unmap_c a) = unmap_c a ∷ []
parts G (map_range_c a b l k) = map map_of (pieces G a b l k)
parts G (unmap_range_c a l) = map unmap_c (pages_of G a l)
parts G (ask_c q) = ask_c q ∷ []

-- after a refused format the setup from before goes on
abbrev pub go_on : Pool → Done → Answer → Done
go_on p d (answered values) = d
go_on p d (refusal k values) = done (refusal k values) (pool p.numbers d.after.words d.after.cut d.after.list)

-- after a refused add the pool from before goes on
abbrev pub go_back : Pool → Done → Answer → Done
go_back p d (answered values) = d
go_back p d (refusal k values) = done (refusal k values) p

-- what a pool answers to a question, and what a ledger does
abbrev pub ask_w : Granule → Pool → Ask → Answer
ask_w G p (query a) = query_w G p a
ask_w G p audit = audit_w G p
ask_w G p (list_from a places entries) = list_w G p a places entries

abbrev pub ask_l : Granule → Ledger → Ask → Answer
ask_l G A (query a) = query_l G A a
ask_l G A audit = audit_l G A
ask_l G A (list_from a places entries) = list_l G A a places entries

-- one call on a pool
abbrev pub step_w : Granule → Pool → Call → Done
step_w G p (format_c l r) = let d = format_w G l r p.words p.cut p.list in go_on p d d.answer
step_w G p (add_c q m second rest) = let d = add_w G (lent p second rest) q m in go_back p d d.answer
step_w G p (map_c a b s k) = map_w G p a b s k
step_w G p (unmap_c a) = unmap_w G p a
step_w G p (map_range_c a b l k) = map_range_w G p a b l k
step_w G p (unmap_range_c a l) = unmap_range_w G p a l
step_w G p (ask_c q) = done (ask_w G p q) p

-- one call on a ledger
abbrev pub step_l : Granule → Ledger → Call → Entered
step_l G A (format_c l r) = format_l G A l r
step_l G A (add_c q m second rest) = add_l G A q m (length second) (free_tables G A + length rest)
step_l G A (map_c a b s k) = map_l G A a b s k
step_l G A (unmap_c a) = unmap_l G A a
step_l G A (map_range_c a b l k) = map_range_l G A a b l k
step_l G A (unmap_range_c a l) = unmap_range_l G A a l
step_l G A (ask_c q) = entered (ask_l G A q) A

-- a sequence of calls: the answers, and what is left
abbrev pub answers_w : Granule → Pool → List Call → List Answer
answers_w G p [] = []
answers_w G p (c ∷ cs) = (step_w G p c).answer ∷ answers_w G (step_w G p c).after cs

abbrev pub answers_l : Granule → Ledger → List Call → List Answer
answers_l G A [] = []
answers_l G A (c ∷ cs) = (step_l G A c).answer ∷ answers_l G (step_l G A c).after cs

abbrev pub pool_after : Granule → Pool → List Call → Pool
pool_after G p [] = p
pool_after G p (c ∷ cs) = pool_after G (step_w G p c).after cs

abbrev pub ledger_after : Granule → Ledger → List Call → Ledger
ledger_after G A [] = A
ledger_after G A (c ∷ cs) = ledger_after G (step_l G A c).after cs

-- table t stands for the region of height h that starts at address a: the walk there comes to it
abbrev pub StandsFor : Granule → Pool → ℕ → ℕ → ℕ → Type 0
StandsFor G p h a t = ((walk_to G p h a).entry ≡ Table t) × ((walk_to G p h a).left ≡ h)

-- the region of height h that starts at address a is one that a live mapping needs a table for
abbrev pub NeededBy : Granule → Ledger → ℕ → ℕ → Type 0
NeededBy G A h a = Memᴰ (region (size_at G h) a) (regions_needed G (A.levels - 1) A.live)

-- a pool after a call, and the ledger after it
pub record Rests (G : Granule) (p : Pool) (A : Ledger) : Type 0 where
  -- the numbers are the ledger's, the audit's rules are kept, the pool's own mappings are the ledger's, in whatever order
  pub holds : Holds G p A
  -- the free count is the ledger's: what its mappings do not need
  pub free_count : p.numbers.free ≡ free_tables G A
  -- the reachable tables and the free numbers are all the numbers below the table count, those of both regions, each once
  pub once : Distinct (reached_of G p ++ free_of p)
  pub all : (t : ℕ) → Memᴰ t (reached_of G p ++ free_of p) ↔ (t < total A.area)
  -- a table is reachable exactly when it is the root or stands for a region that a live mapping needs; one table a region
  pub reached_needed : (t : ℕ) → Memᴰ t (reached_of G p) → (t ≡ 0) ⊎ ((h : ℕ) × (a : ℕ) × NeededBy G A h a × StandsFor G p h a t)
  pub needed_reached : (h a : ℕ) → NeededBy G A h a → (t : ℕ) × Memᴰ t (reached_of G p) × (t ≢ 0) × StandsFor G p h a t
  pub one_region_lem : (h a h' a' t : ℕ) → NeededBy G A h a → NeededBy G A h' a' → StandsFor G p h a t → StandsFor G p h' a' t → (h ≡ h') × (a ≡ a')
  -- the audit accepts, with the ledger's counts
  pub audit : audit_w G p ≡ audit_l G A
  -- where query or unmap answers 9 with a base and a size, no live mapping touches that region, and the next larger one holds one
  pub query_hole : (a b s : ℕ) → query_w G p a ≡ hole b s → IsHole G A a (region s b)
  pub unmap_hole : (a b s : ℕ) → (unmap_w G p a).answer ≡ hole b s → IsHole G A a (region s b)
  -- pages of any lengths list every live mapping once, in rising order
  pub paged : (ks : List ℕ) → Paged G p A ks

-- the promise, for a pool p, the ledger A that it holds, and any calls cs
pub record Demand3 (G : Granule) (p : Pool) (A : Ledger) (cs : List Call) : Type 0 where
  -- every answer is the ledger's
  pub answers : answers_w G p cs ≡ answers_l G A cs
  -- 8 is never given
  pub sound : (a : Answer) → Memᴰ a (answers_w G p cs) → a ≢ refused 8
  -- and after each call the pool rests on the ledger
  pub after : (j : ℕ) → Rests G (pool_after G p (take j cs)) (ledger_after G A (take j cs))
