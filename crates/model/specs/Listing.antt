-- List the mappings: from a start address on, in rising order, as many as fit into two lent runs, a number of each run for a mapping.
use Rattle.std.specs.Prelude.{ℕ, suc, ◌+◌, ◌*◌, ◌≤◌, ◌≡◌, cond, ◌&&◌, List, [], ◌∷◌, ◌++◌, map, leb, eqb, length, get_or, take, drop}
use Rattle.std.proofs.Math.Option.{Option, some, none}
use Rattle.path.specs.Geometry.{Granule, space_of, height_of}
use Rattle.entry.specs.Words.{frame_word}
use Rattle.model.specs.Answers.{Mapping, Answer, answered, refusal, refused, listed, Pool, Listed}
use Rattle.model.specs.Calls.{good_pool}
use Rattle.model.specs.Audit.{of_pool}
use Rattle.model.specs.Adds.{sound_tree}
use Rattle.model.specs.Sound.{Each}

-- ---- one mapping

-- the power of two of its size: 12, 21 or 30; with 16 KiB pages 14 or 25
abbrev pub power_of : Granule → Mapping → ℕ
power_of G m = G.page + G.index * height_of G m.size

-- in the one run its address plus that power
abbrev pub place_of : Granule → Mapping → ℕ
place_of G m = m.at + power_of G m

-- in the other its entry word
abbrev pub entry_of : Granule → Mapping → ℕ
entry_of G m = frame_word m.frame (height_of G m.size) m.attributes

-- ---- the call

-- of mappings, those with base at or above the start
unfoldable pub from_on : ℕ → List Mapping → List Mapping
from_on start [] = []
from_on start (m ∷ L) = cond (leb start m.at) (m ∷ from_on start L) (from_on start L)

-- the answer where some mappings are written, and these are left out
abbrev pub listing : Granule → List Mapping → List Mapping → Answer
listing G W [] = listed (length W) 0 0 (map (place_of G) W) (map (entry_of G) W)
listing G W (m ∷ _) = listed (length W) 1 m.at (map (place_of G) W) (map (entry_of G) W)

-- of these mappings as many are written as there are places
unfoldable pub listed_of : Granule → ℕ → List Mapping → Answer
listed_of G places L = listing G (take places L) (drop places L)

-- List, from a start on, into runs of so many places each: 1 for setup numbers or lengths that are not good, runs of unequal length too; 4 where the start is
-- not below the space; 8 where a reachable word is damaged or a table is reached twice. Else the mappings of the tree, which it finds in rising order.
unfoldable pub list_w : Granule → Pool → ℕ → ℕ → ℕ → Answer
list_w G p start places entries =
    cond (good_pool G p && eqb places entries)
    (cond (leb (space_of G p.numbers.levels) start) (refused 4)
    (cond (sound_tree (of_pool G p)) (listed_of G places (from_on start (of_pool G p).mappings)) (refused 8)))
    (refused 1)

-- ---- the runs after it

-- what an answer says was written, to the one run and to the other
abbrev pub places_in : Answer → List ℕ
places_in (answered v) = take (get_or v 0 0) (drop 3 v)
places_in (refusal k v) = []

abbrev pub entries_in : Answer → List ℕ
entries_in (answered v) = drop (get_or v 0 0) (drop 3 v)
entries_in (refusal k v) = []

-- numbers in the first places of a run; the places past them stay as they were
abbrev pub over : List ℕ → List ℕ → List ℕ
over new run = new ++ drop (length new) run

-- what a call that answers so leaves of the two runs: refused, both are as they were
abbrev pub leaves : Answer → List ℕ → List ℕ → Listed
leaves a places entries =
    record { answer = a; places = over (places_in a) places; entries = over (entries_in a) entries }

-- ---- page by page

-- the base of the first mapping that an answer leaves out, if it leaves out any
abbrev pub next_in : Answer → Option ℕ
next_in (answered v) = cond (eqb (get_or v 1 0) 0) none (some (get_or v 2 0))
next_in (refusal k v) = none

-- Calls of so many places each, where `page a k` is the answer to a call from a on of k places: the first from this start, if there is one, and each other
-- from the base that the one before it answered. They end where none is left.
unfoldable pub pages_from : (ℕ → ℕ → Answer) → List ℕ → Option ℕ → List Answer
pages_from page [] start = []
pages_from page (k ∷ ks) none = []
pages_from page (k ∷ ks) (some a) = page a k ∷ pages_from page ks (next_in (page a k))

-- the start after them: none where none is left
unfoldable pub start_after : (ℕ → ℕ → Answer) → List ℕ → Option ℕ → Option ℕ
start_after page [] start = start
start_after page (k ∷ ks) none = none
start_after page (k ∷ ks) (some a) = start_after page ks (next_in (page a k))

-- what pages wrote, one after the other
unfoldable pub joined : (Answer → List ℕ) → List Answer → List ℕ
joined part [] = []
joined part (a ∷ rest) = part a ++ joined part rest

-- the places of pages together
unfoldable pub places_of : List ℕ → ℕ
places_of [] = 0
places_of (k ∷ ks) = k + places_of ks

-- What is promised of pages that list these mappings, from address 0 on, whatever the lengths of the pages.
pub record Pages (G : Granule) (page : ℕ → ℕ → Answer) (L : List Mapping) (ks : List ℕ) : Type 0 where
  -- where none is left after them, what they wrote is the two numbers of every mapping, in order, each once
  pub places : start_after page ks (some 0) ≡ none → joined places_in (pages_from page ks (some 0)) ≡ map (place_of G) L
  pub entries : start_after page ks (some 0) ≡ none → joined entries_in (pages_from page ks (some 0)) ≡ map (entry_of G) L
  -- and pages of at least one place come to that: as many as there are mappings are enough, and where there is none one page
  pub ends : Each (λ k. 1 ≤ k) ks → 1 ≤ length ks → length L ≤ length ks → start_after page ks (some 0) ≡ none

-- the bases of mappings rise, from lo on, each above the one before it
unfoldable pub Climbing : ℕ → List Mapping → Type 0
Climbing lo [] = Unit {0}
Climbing lo (m ∷ L) = (lo ≤ m.at) × Climbing (suc m.at) L
