-- What the audit's checks ask and answer. A check marks each table that it comes to, and stops at a table that is marked already.
use Rattle.std.specs.Prelude.{◌≡◌, ℕ, zero, suc, ◌+◌, ◌-◌, ◌*◌, ◌%◌, ◌^◌, ◌<◌, ◌≤◌, Bool, true, false, cond, not, ◌&&◌, ◌||◌, List, [], ◌∷◌, length, ◌==◌, nat_lt, slice_index_or, slice_set, Option, Some, None}
use Rattle.laws.specs.Lists.{all_zero}
use Rattle.path.specs.Geometry.{Granule, granule_of, page_size, entries}
use Rattle.path.specs.Areas.{Area, area_at, area_of, total, GoodArea, meets_area}
use Rattle.path.specs.Numbers.{most_tables}
use Rattle.path.specs.declared.Setup.{Setup}
use Rattle.entry.specs.Words.{base_in, attrs_in, frame_word, entry_at}
use Rattle.model.specs.Audit.{Found, nothing, table_words, of_entry, of_table, none_inside}
use Rattle.model.specs.Sound.{word_at}
use Rattle.links.specs.declared.Tree.{Tree}
use Rattle.links.specs.Trees as links
use Rattle.audit.specs.declared.Look.{Look}
use Rattle.model.specs.declared.Counts.{Counts}

-- the granule that a check goes by
abbrev pub granule_in : Look → Granule
granule_in look = granule_of look.tree.granule

-- the tables that a check is of, and those that no frame may share a byte with
abbrev pub area_in : Look → Area
area_in look = links.area_in look.tree

abbrev pub kept_in : Look → Area
kept_in look = links.area_in look.kept

-- the audit goes by the pool's own regions, and an empty table is damage
abbrev pub tables_of : Setup → Tree
tables_of s = record { granule = s.granule; base = s.base; tables = s.tables; base2 = s.base2; tables2 = s.tables2 }

abbrev pub strictly : Setup → Look
strictly s = record { tree = tables_of s; kept = tables_of s; bare = false }

-- of what is found in a part of the tree: whether no frame shares a byte with the kept regions and it is sound and has no empty table, or these are as good
-- as others; the tables reached; and how many mappings
pub record Seen : Type 0 where
  pub ok : Bool
  pub reached : List ℕ
  pub count : ℕ

abbrev pub seen : Granule → Look → Found → Seen
seen G look F = record {
  ok = none_inside G (kept_in look) F.mappings && (F.ok && (F.full || look.bare));
  reached = F.reached;
  count = length F.mappings;
}

-- the marks after tables were marked one after the other, or that one was marked before
pub data Marked : Type 0 where
  clash : Marked
  marks : List Bool → Marked

unfoldable pub mark : List Bool → List ℕ → Marked
mark M [] = marks M
mark M (t ∷ ts) = cond (not (slice_index_or M t false)) (mark (slice_set M t true) ts) clash

-- the same for the tables of a part of the tree, which also has to be sound
abbrev pub walked : Seen → List Bool → Marked
walked F M = cond F.ok (mark M F.reached) clash

-- an answer with these counts, and the marks after it; none for a clash
abbrev pub counted : ℕ → ℕ → Option Counts
counted a b = Some (record { tables = a; mappings = b })

abbrev pub Ends : Marked → ℕ → ℕ → Option Counts → List Bool → Type 0
Ends clash a b r N = r ≡ None
Ends (marks M) a b r N = (r ≡ counted a b) × (N ≡ M)

-- a check of a part of the tree, from the marks M on, answers r and leaves the marks N
unfoldable pub Answers : Seen → List Bool → Option Counts → List Bool → Type 0
Answers F M r N = Ends (walked F M) (length F.reached) F.count r N

-- what is found in a table one level below entries of height h
unfoldable pub below_of : Granule → List ℕ → Area → ℕ → ℕ → ℕ → Found
below_of G ws area zero c v = nothing false
below_of G ws area (suc h) c v = of_table G ws area h c v

-- table t, a word of an entry of height h, and entry i of table t. What is seen is the same from any address: they are taken to stand for the addresses from
-- 0 on
abbrev pub at_table : Granule → List ℕ → Look → ℕ → ℕ → Seen
at_table G ws look h t = seen G look (of_table G ws (area_in look) h t 0)

abbrev pub at_word : Granule → List ℕ → Look → ℕ → ℕ → Seen
at_word G ws look h w = seen G look (of_entry G h 0 (below_of G ws (area_in look) h) (entry_at G (area_in look) h w))

abbrev pub at_entry : Granule → List ℕ → Look → ℕ → ℕ → ℕ → Seen
at_entry G ws look h t i = at_word G ws look h (word_at G ws t i)

-- the tree of a pool with these setup numbers and words
abbrev pub tree_of : Setup → List ℕ → Found
tree_of s ws = of_table (granule_of s.granule) ws (area_of s) (s.levels - 1) 0 0

-- the word of a page that shares no byte with the tables
abbrev pub is_page : Granule → Area → ℕ → Bool
is_page G area w =
    (w == frame_word (base_in w) 0 (attrs_in w) && base_in w % page_size G == 0) && not (meets_area G area (base_in w) (page_size G))

-- table t was not marked before, and is the root or not empty, or may be empty
abbrev pub is_fresh : Granule → List ℕ → List Bool → Bool → ℕ → Bool
is_fresh G ws M bare t = not (slice_index_or M t false) && ((t == 0 || not (all_zero (table_words G ws t))) || bare)

-- each of these free numbers is in range and was not marked before, and its table is all zero
unfoldable pub free_pass : Granule → List ℕ → ℕ → List Bool → List ℕ → Bool
free_pass G ws n M [] = true
free_pass G ws n M (t ∷ ts) =
    nat_lt t n && (not (slice_index_or M t false) && (all_zero (table_words G ws t) && free_pass G ws n (slice_set M t true) ts))

-- a page and a region's tables, as the difference of their addresses tells
pub record PageFit (G : Granule) (page base n : ℕ) : Type 0 where
  pub paged : page % page_size G ≡ 0
  pub low : page < 2 ^ 48
  pub aligned : base % page_size G ≡ 0
  pub fits : base + page_size G * n ≤ 2 ^ 48

-- a run of so many words is of whole tables
pub record Cut (G : Granule) (first : ℕ) : Type 0 where
  pub tables : ℕ
  pub whole : first ≡ entries G * tables

-- what a check asks of the runs of words, by their lengths
pub record RunsFit (look : Look) (first second : ℕ) : Type 0 where
  pub cut_is : first ≡ entries (granule_in look) * look.tree.tables
  pub long : entries (granule_in look) * total (area_in look) ≤ first + second

-- what a check of table t asks: tables in their places, a mark for each table of the pool, one of those, and the height of some level
pub record TableFit (M : List Bool) (look : Look) (t h : ℕ) : Type 0 where
  pub placed : GoodArea (granule_in look) (kept_in look)
  pub marked : total (area_in look) ≤ length M
  pub inside : t < total (area_in look)
  pub low : h < (granule_in look).most

-- what a check of an entry asks: the same, of no table
pub record EntryFit (M : List Bool) (look : Look) (h : ℕ) : Type 0 where
  pub placed : GoodArea (granule_in look) (kept_in look)
  pub marked : total (area_in look) ≤ length M
  pub low : h < (granule_in look).most

-- what a check of the whole tree asks of the setup numbers and of the runs
pub record Rooted (s : Setup) (first second : ℕ) : Type 0 where
  pub enough : (granule_of s.granule).fewest ≤ s.levels
  pub not_more : s.levels ≤ (granule_of s.granule).most
  pub some_table : 1 ≤ s.tables
  pub few : total (area_of s) ≤ most_tables
  pub cut_is : first ≡ entries (granule_of s.granule) * s.tables
  pub long : entries (granule_of s.granule) * total (area_of s) ≤ first + second
