-- What the functions of list ask and answer. Mappings are written one after the other, from a place of the two runs on.
use Rattle.std.specs.Prelude.{ℕ, zero, suc, ◌+◌, ◌*◌, ◌%◌, ◌≤◌, ◌<◌, ◌≡◌, ◌⊎◌, false, cond, List, [], ◌∷◌, Result, Ok, Err, ltb, length, get_or, set, drop}
use Rattle.path.specs.Geometry.{Granule, granule_of, entries, size_at, physical}
use Rattle.path.specs.Areas.{Area, area_at, total}
use Rattle.entry.specs.Words.{frame_word, entry_at, Framed}
use Rattle.model.specs.Answers.{Mapping, mapping}
use Rattle.model.specs.Audit.{Found, nothing, of_entries, of_table}
use Rattle.model.specs.Sound.{SoundEntry, SoundTable}
use Rattle.model.specs.Listing.{place_of, entry_of}
use Rattle.links.specs.Trees as links
use Rattle.lists.specs.declared.Span.{Span}

-- the two runs, and how many of their places are written, or the base of a mapping that found no place
pub record Fed : Type 0 where
  pub places : List ℕ
  pub entries : List ℕ
  pub end : Result ℕ ℕ

-- by the code's answer and the two runs at its end
abbrev pub fed : Result ℕ ℕ → List ℕ → List ℕ → Fed
fed r places entries = record { places = places; entries = entries; end = r }

-- mappings written from place n on; the first that finds no place ends it
unfoldable pub feed : Granule → List Mapping → List ℕ → List ℕ → ℕ → Fed
feed G [] places entries n = fed (Ok n) places entries
feed G (m ∷ L) places entries n =
    cond (ltb n (length places))
    (feed G L (set places n (place_of G m)) (set entries n (entry_of G m)) (suc n))
    (fed (Err m.at) places entries)

-- what a word of an entry of height h gives that stands for the addresses from v on and names no table: nothing, or a mapping
pub data OneOf (G : Granule) (h v w : ℕ) : List Mapping → Type 0 where
  none_there : w ≡ 0 → OneOf G h v w []
  frame_there : (b k : ℕ) → Framed G h b k → w ≡ frame_word b h k → OneOf G h v w (mapping v b (size_at G h) k ∷ [])

-- the granule and the tables of a tree
abbrev pub granule_in : Span → Granule
granule_in span = granule_of span.tree.granule

abbrev pub area_in : Span → Area
area_in span = links.area_in span.tree

-- what is found in a table one level below entries of height h, and that such a table is sound
unfoldable pub below : Granule → List ℕ → Area → ℕ → ℕ → ℕ → Found
below G ws area zero c v = nothing false
below G ws area (suc h) c v = of_table G ws area h c v

unfoldable pub SoundBelow : Granule → List ℕ → Area → ℕ → ℕ → Type 0
SoundBelow G ws area zero c = ⊥
SoundBelow G ws area (suc h) c = SoundTable G ws area h c

-- the mappings of a table with these words from entry i on, where the first entry, of height h, stands for the addresses from v on
abbrev pub rest_of : Granule → List ℕ → Area → ℕ → ℕ → List ℕ → ℕ → List Mapping
rest_of G ws area h v us i = (of_entries G area h (v + size_at G h * i) (below G ws area h) (drop i us)).mappings

-- words that are sound as those of the last level
abbrev pub SoundPages : Granule → List ℕ → Area → List ℕ → Type 0
SoundPages G ws area us = (i : ℕ) → i < entries G → SoundEntry (SoundBelow G ws area 0) (entry_at G area 0 (get_or us i 0))

-- of the entries of a table, which have height h and of which the first stands for the addresses from v on, entry i is the first whose addresses are not all
-- before the start
pub record FirstFrom (G : Granule) (start h v i : ℕ) : Type 0 where
  pub inside : i < entries G
  pub passed : (v + size_at G h * i ≤ start) ⊎ (i ≡ 0)
  pub not_before : start < v + size_at G h * i + size_at G h

-- what is asked of the words of a table of the last level
pub record PagesFit (G : Granule) (us : List ℕ) (v : ℕ) : Type 0 where
  pub whole : length us ≡ entries G
  pub fits : v + size_at G 1 ≤ physical

-- what is asked of the runs that are written: they are of one length
abbrev pub Even : List ℕ → List ℕ → Type 0
Even places entries = length places ≡ length entries

-- what is asked of the runs of words, by their lengths
pub record RunsFit (G : Granule) (area : Area) (first second : ℕ) : Type 0 where
  pub cut_is : first ≡ entries G * area.tables
  pub long : entries G * total area ≤ first + second

-- what is asked of a region of height h from v on: a level has it, it stands at a multiple of its size, ends by 2^48, and not before the start
pub record RegionFit (G : Granule) (start h v : ℕ) : Type 0 where
  pub level : h ≤ G.most
  pub aligned : v % size_at G h ≡ 0
  pub fits : v + size_at G h ≤ physical
  pub not_before : start < v + size_at G h

-- of a table whose entries have height h, and of an entry
pub record TableFit (G : Granule) (ws : List ℕ) (area : Area) (start t h v : ℕ) : Type 0 where
  pub inside : t < total area
  pub region : RegionFit G start (suc h) v
  pub sound : SoundTable G ws area h t

pub record EntryFit (G : Granule) (ws : List ℕ) (area : Area) (start w h v : ℕ) : Type 0 where
  pub above : 1 ≤ h
  pub low : h < G.most
  pub region : RegionFit G start h v
  pub sound : SoundEntry (SoundBelow G ws area h) (entry_at G area h w)
