-- The entry words of the Arm stage 2 format, and what a word says, where h is the height of the entry.
use Rattle.std.specs.Prelude.{ℕ, ◌+◌, ◌-◌, ◌*◌, ◌/◌, ◌%◌, ◌^◌, ◌≤◌, ◌<◌, ◌≡◌, cond, ◌&&◌, ltb, leb, eqb}
use Rattle.path.specs.Geometry.{Granule, page_size, size_at, physical}
use Rattle.path.specs.Areas.{Area, total, table_at}
use Rattle.entry.specs.declared.Entry.{Entry}
use Rattle.entry.specs.declared.Entry.TheVariants.{Empty, Table, Frame, Damaged}

-- Attributes 0 to 15: 1 read, 2 write, 4 execute, 8 device. Their word: bit 10 always; bit 6 for read; bit 7 for write; bit 54 when not
-- execute; normal memory adds bits 5:2 = 1111 and bits 9:8 = 11; for device memory both are 0.
abbrev pub attr_word : ℕ → ℕ
attr_word a =
    2 ^ 10 + 2 ^ 6 * (a % 2) + 2 ^ 7 * (a / 2 % 2) + 2 ^ 54 * (1 - a / 4 % 2)
    + (1 - a / 8 % 2) * (15 * 2 ^ 2 + 3 * 2 ^ 8)

-- the type of a frame's word: 3 at the last level, 1 above it
unfoldable pub type_at : ℕ → ℕ
type_at h = cond (eqb h 0) 3 1

-- the word of a frame
unfoldable pub frame_word : ℕ → ℕ → ℕ → ℕ
frame_word base h attributes = base + type_at h + attr_word attributes

-- the word that names a table: its address + 3
unfoldable pub table_word : Granule → Area → ℕ → ℕ
table_word G area c = table_at G area c + 3

-- what may stand as a frame at height h: the level has frames, the attributes are 0 to 15, the base is a multiple of the size, and base + size is at
-- most 2^48
pub record Framed (G : Granule) (h base attributes : ℕ) : Type 0 where
  pub level : h ≤ G.large
  pub few : attributes < 16
  pub aligned : base % size_at G h ≡ 0
  pub fits : base + size_at G h ≤ physical

-- what a word says at height h, as the paper has it: empty is exactly 0; a table is the address + 3 of a child 1 to n - 1, at any level but the
-- last; a frame is the word of a base, a multiple of its size, and attributes; any other word is damaged
pub data Says (G : Granule) (area : Area) (h w : ℕ) : Entry → Type 0 where
  says_empty : w ≡ 0 → Says G area h w Empty
  says_table : (c : ℕ) → 1 ≤ h → 1 ≤ c → c < total area → w ≡ table_word G area c → Says G area h w (Table c)
  says_frame : (b a : ℕ) → Framed G h b a → w ≡ frame_word b h a → Says G area h w (Frame b a)
  says_damaged :
      (w ≡ 0 → ⊥)
      → ((c : ℕ) → 1 ≤ h → 1 ≤ c → c < total area → w ≡ table_word G area c → ⊥)
      → ((b a : ℕ) → Framed G h b a → w ≡ frame_word b h a → ⊥)
      → Says G area h w Damaged

-- The same, computed; Laws says that the two agree. Of the n tables from b on, the number of the one that a word names by its address + 3; n where it
-- names none of them:
unfoldable pub named_in : Granule → ℕ → ℕ → ℕ → ℕ
named_in G b n w = let i = (w - 3 - b) / page_size G in cond (ltb i n && eqb w (b + page_size G * i + 3)) i n

-- the child that a word names as a table, of the first region, but not the root, or else of the second; 0 where it names none
unfoldable pub child_at : Granule → Area → ℕ → ℕ
child_at G area w =
    let c = named_in G area.base area.tables w in
    let d = named_in G area.base₂ area.tables₂ w in
    cond (ltb 0 c && ltb c area.tables) c (cond (ltb d area.tables₂) (area.tables + d) 0)

-- the base that a frame's word has: bits 47:12
abbrev pub base_in : ℕ → ℕ
base_in w = w % 2 ^ 48 - w % 4096

-- the attributes that a frame's word has: bits 7:6 are write and read, no bit 54 is execute, no bit 5 is device
abbrev pub attrs_in : ℕ → ℕ
attrs_in w = w / 2 ^ 6 % 4 + (1 - w / 2 ^ 54 % 2) * 4 + (1 - w / 2 ^ 5 % 2) * 8

-- the frame that a word says at height h, where it is the word of its own base and attributes; else damaged
unfoldable pub frame_at : Granule → ℕ → ℕ → Entry
frame_at G h w =
    cond (leb h G.large && (eqb (base_in w % size_at G h) 0 && eqb w (frame_word (base_in w) h (attrs_in w))))
    (Frame (base_in w) (attrs_in w))
    Damaged

-- what a word says at height h
unfoldable pub entry_at : Granule → Area → ℕ → ℕ → Entry
entry_at G area h w =
    cond (eqb w 0) Empty (cond (ltb 0 h && ltb 0 (child_at G area w)) (Table (child_at G area w)) (frame_at G h w))
