-- Parts of unmapping a range, as its code is divided.
use Rattle.std.specs.Prelude.{ℕ, zero, suc, ◌+◌, ◌-◌, ◌*◌, ◌%◌, ◌≤◌, ◌<◌, ◌≡◌, ◌≢◌, ◌⊎◌, Bool, true, false, cond, ◌&&◌, ◌||◌, not, Option, Some, None, min, ltb, eqb, length, get_or, set}
use mathlib.Core.List.{List, [], ◌∷◌, Memᴰ}
use Rattle.laws.specs.Lists.{part}
use Rattle.path.specs.Geometry.{Granule, page_size, entries, size_at, physical, space_of}
use Rattle.path.specs.Paths.{index_at, base_at}
use Rattle.entry.specs.Words.{frame_at}
use Rattle.entry.specs.declared.Entry.TheVariants.{Empty, Frame, Damaged}
use Rattle.model.specs.declared.Walked.{Walked}
use Rattle.model.specs.Answers.{tables_in, Pool}
use Rattle.model.specs.Walk.{slot, at_height}
use Rattle.model.specs.Calls.{good_pool, walk_to, unmap_w}
use Rattle.model.specs.Ranges.{unmap_range_tests, pages_from, pages_of, page_walks, is_damaged, spoiled, any_cut_by, left_by, answers_of, sum_of, accepted_in}
use Rattle.ranges.specs.Stretches.{stretch_at}

-- the end of the region of height h that holds an address, or of the range
abbrev pub until_end : Granule → ℕ → ℕ → ℕ → ℕ
until_end G x h end = min (base_at G x h + size_at G h) end

-- a good pool and a part of a range that is left, of whole pages, in the space
pub record Rest (G : Granule) (p : Pool) (a end : ℕ) : Type 0 where
  pub good : good_pool G p ≡ true
  pub starts : a % page_size G ≡ 0
  pub ends : end % page_size G ≡ 0
  pub left : a ≤ end
  pub in_space : end ≤ physical

-- the same in the space of its levels, and no walk of its pages finds damage
pub record Sure (G : Granule) (p : Pool) (a end : ℕ) : Type 0 where
  pub rest : Rest G p a end
  pub in_space : end ≤ space_of G p.numbers.levels
  pub undamaged : (x : ℕ) → a ≤ x → x < end → x % page_size G ≡ 0 → (walk_to G p 0 x).entry ≢ Damaged

-- unmap at each page from a up to `next` leaves the pool q; so many of them remove a mapping, and so many tables come back
pub record Removes (G : Granule) (p : Pool) (a next removed given : ℕ) (q : Pool) : Type 0 where
  pub pages : ℕ
  pub next_is : next ≡ a + pages * page_size G
  pub after : left_by (unmap_w G) p (pages_from G a pages) ≡ q
  pub removed_is : sum_of accepted_in (answers_of (unmap_w G) p (pages_from G a pages)) ≡ removed
  pub given_is : sum_of tables_in (answers_of (unmap_w G) p (pages_from G a pages)) ≡ given

-- what the walks of a range's pages say: 8 for damage, or for one table that they come to for two regions; else 10 where the range cuts a mapping; else 0
unfoldable pub walks_say : Granule → Pool → ℕ → ℕ → ℕ
walks_say G p a len =
    let ws = page_walks G p (pages_of G a len) in cond (spoiled G p.numbers.levels ws) 8 (cond (any_cut_by G a len ws) 10 0)

-- a good pool and a range that no test refuses, whose walks say nothing against it
pub record Allowed (G : Granule) (p : Pool) (a len : ℕ) : Type 0 where
  pub good : good_pool G p ≡ true
  pub tests : unmap_range_tests G p.numbers.levels a len ≡ 0
  pub walks : walks_say G p a len ≡ 0

-- every table on the ways of a range's pages is marked
abbrev pub AllNoted : Granule → Pool → ℕ → ℕ → List ℕ → Type 0
AllNoted G p a len M =
    (x : ℕ) → Memᴰ x (pages_of G a len) → (j : ℕ) → (walk_to G p 0 x).left ≤ j → j < p.numbers.levels → get_or M (at_height (walk_to G p 0 x).tables j) 0 ≢ 0

-- a walk met no damage but a frame, or where `frame` is false a hole; the height where it ended, and the tables on the way
pub record Meets (o : Walked) (frame : Bool) (left : ℕ) (way : List ℕ) : Type 0 where
  pub framed : frame ≡ true → (b : ℕ) × (k : ℕ) × (o.entry ≡ Frame b k)
  pub empty : frame ≡ false → o.entry ≡ Empty
  pub left_is : o.left ≡ left
  pub tables_are : o.tables ≡ way

-- whether a walk met a frame and the range up to `end` cuts its mapping
abbrev pub cuts : Bool → ℕ → ℕ → ℕ → ℕ → Bool
cuts frame base size a end = frame && (ltb base a || ltb end (base + size))

-- how many numbers are not 0
unfoldable pub in_use : List ℕ → ℕ
in_use [] = 0
in_use (x ∷ xs) = cond (eqb x 0) 0 1 + in_use xs

-- the first n words may be cleared by themselves: none of all is in use and n is their number, or the one after them is
abbrev pub Clearable : List ℕ → ℕ → Type 0
Clearable l n = (((i : ℕ) → i < length l → get_or l i 0 ≡ 0) × (n ≡ length l)) ⊎ ((n < length l) × (get_or l n 0 ≢ 0))

-- a word of the last level is empty or that of a page
abbrev pub is_fine : Granule → ℕ → Bool
is_fine G w = eqb w 0 || not (is_damaged (frame_at G 0 w))

-- how many are not
unfoldable pub misfits_in : Granule → List ℕ → ℕ
misfits_in G [] = 0
misfits_in G (w ∷ ws) = cond (is_fine G w) 0 1 + misfits_in G ws

-- the words of table t from that of address x on, as many as the range up to `end` has in the table
abbrev pub row_of : Granule → List ℕ → ℕ → ℕ → ℕ → List ℕ
row_of G ws t x end = part ws (slot G t (index_at G x 0)) (stretch_at G x (end - x) 0)

-- where walks go on after one for x that ended at a height: past its region, or at the last level past its row, unless the row has a damaged word
pub record Beyond (G : Granule) (ws : List ℕ) (t x left end : ℕ) (next : Option ℕ) : Type 0 where
  pub past_region : 0 < left → next ≡ Some (until_end G x left end)
  pub faulty : left ≡ 0 → misfits_in G (row_of G ws t x end) ≢ 0 → next ≡ None
  pub past_row : left ≡ 0 → misfits_in G (row_of G ws t x end) ≡ 0 → next ≡ Some (x + stretch_at G x (end - x) 0 * page_size G)

-- how many words of table t are
abbrev pub used_in : Granule → List ℕ → ℕ → ℕ
used_in G ws t = in_use (part ws (slot G t 0) (entries G))

-- how many tables come free where a word goes, and the counts of words in use then
pub record Lowered : Type 0 where
  pub freed : ℕ
  pub counts : List ℕ

abbrev pub lowered : ℕ → List ℕ → Lowered
lowered f C = record { freed = f; counts = C }

-- by the counts of words in use: a word goes from the table with entries of height h, and where it was the last, the table goes, and a word of the one above it;
-- d tables may go
unfoldable pub lower_from : List ℕ → List ℕ → ℕ → ℕ → Lowered
lower_from C way h zero = lowered 0 C
lower_from C way h (suc d) =
    let t = at_height way h in
    let n = get_or C t 0 in
    let r = lower_from (set C t (n - 1)) way (suc h) d in
    cond (ltb 1 n) (lowered 0 (set C t (n - 1))) (lowered (suc r.freed) r.counts)
