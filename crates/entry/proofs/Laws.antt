-- Laws of reading: each word says one thing, and a frame's or a table's word says what it was made of. They hold at any height of any sane granule.
use Rattle.std.specs.Prelude.{ℕ, zero, suc, ◌+◌, ◌-◌, ◌*◌, ◌/◌, ◌%◌, ◌^◌, ◌≤◌, ◌<◌, ◌&&◌, ◌⊎◌, leb, eqb}
use Rattle.std.proofs.Math.Path.{◌≡◌, refl, sym, ap}
use Rattle.std.proofs.Common.{◌∙◌, inl, inr}
use Rattle.std.proofs.Math.Bool.{Bool, true, false, cond}
use Rattle.std.proofs.lemmas.Bool.{false≢true}
use native.Mathlib.Omega.{arith}
use Rattle.std.proofs.Math.Nat.{mul-div_right, zero-mod, mul-le-mul_left}
use Rattle.std.proofs.Math.Decide.{dec_lt}
use Rattle.std.proofs.Math.Dec.{ltb}
use Rattle.std.proofs.Math.Pow.{mod-mod-pow}
use borrow.Author.Tests.{lt-ltb, le-ltb, le-leb, eq-eqb, ne_eqb, ltb-true, leb-true, eqb-true, eqb-false}
use Rattle.path.specs.Geometry.{Granule, Sane, page_size, size_at, physical}
use Rattle.path.specs.Laws.{page_pos, size_pos, table_first, table_second, table_aligned, table_one, table_stays}
use Rattle.path.specs.RegionLaws.{multiple_gap}
use Rattle.path.specs.Areas.{Area, with_second, total, table_at, GoodArea}
use Rattle.entry.specs.Words.{frame_word, table_word, Framed, Says, named_in, child_at, base_in, attrs_in, frame_at, entry_at}
use Rattle.entry.specs.Words.Says.{says_empty, says_table, says_frame, says_damaged}
use Rattle.entry.proofs.Parts.{low_of}
pub use Rattle.entry.proofs.Parts.{type_le, attr_word_le, attr_word_ge, attrs_lt, base_of_lem, attrs_of_lem}
pub use Rattle.entry.proofs.Parts.{frame_word_ge, frame_word_lt, table_word_ge, table_word_lt}
use Rattle.entry.specs.declared.Entry.{Entry}
use Rattle.entry.specs.declared.Entry.TheVariants.{Empty, Table, Frame, Damaged}

-- ---- multiples and tests

-- a multiple of a power of two is one of each smaller power
pub power_down : (b : ℕ) {i j : ℕ} → i ≤ j → b % 2 ^ j ≡ 0 → b % 2 ^ i ≡ 0
power_down b {i} {j} l e =
    let s : (j - i) + i ≡ j = omega arith in
    sym (mod-mod-pow b (j - i) i) ∙ rw (s, e) (zero-mod (2 ^ i))

-- two tests that are true together are true
pub and-true : (x y : Bool) → (x && y) ≡ true → (x ≡ true) × (y ≡ true)
and-true true y e = (refl, e)
and-true false y e = absurd (false≢true e)

-- where not both hold, their tests are not both true
and-false : (k m n : ℕ) → (k < m → m < n → ⊥) → (ltb k m && ltb m n) ≡ false
and-false k m n f = go (ltb k m) (ltb m n) refl refl
  where
    go : (x y : Bool) → ltb k m ≡ x → ltb m n ≡ y → (x && y) ≡ false
    go true true p q = absurd (f (ltb-true k m p) (ltb-true m n q))
    go true false p q = refl
    go false y p q = refl

-- ---- frames

-- the test of `frame_at`
abbrev is_frame : Granule → ℕ → ℕ → Bool
is_frame G h w = leb h G.large && (eqb (base_in w % size_at G h) 0 && eqb w (frame_word (base_in w) h (attrs_in w)))

passes : (G : Granule) (h w : ℕ)
    → is_frame G h w ≡ true
    → (h ≤ G.large) × (base_in w % size_at G h ≡ 0) × (w ≡ frame_word (base_in w) h (attrs_in w))
passes G h w e =
    let (level, r) = and-true (leb h G.large) _ e in
    let (aligned, same) = and-true (eqb (base_in w % size_at G h) 0) _ r in
    (leb-true _ _ level, eqb-true _ _ aligned, eqb-true _ _ same)

-- without a pool, a word is a frame or damaged
pub frame_or_damaged : (G : Granule) (h w : ℕ) → (frame_at G h w ≡ Frame (base_in w) (attrs_in w)) ⊎ (frame_at G h w ≡ Damaged)
unfolding frame_at
frame_or_damaged G h w = go (is_frame G h w)
  where
    go : (t : Bool)
        → (cond t (Frame (base_in w) (attrs_in w)) Damaged ≡ Frame (base_in w) (attrs_in w))
        ⊎ (cond t (Frame (base_in w) (attrs_in w)) Damaged ≡ Damaged)
    go true = inl refl
    go false = inr refl

-- a word that passes the three tests is the frame that its own bits say, any other is damaged
pub frame_at_own : (G : Granule) (h w : ℕ)
    → h ≤ G.large
    → base_in w % size_at G h ≡ 0
    → w ≡ frame_word (base_in w) h (attrs_in w)
    → frame_at G h w ≡ Frame (base_in w) (attrs_in w)
unfolding frame_at
frame_at_own G h w level aligned same =
    simp (
      le-leb h G.large level,
      eq-eqb (base_in w % size_at G h) 0 aligned,
      eq-eqb w (frame_word (base_in w) h (attrs_in w)) same,
    )

pub frame_at_not : (G : Granule) (h w : ℕ)
    → (h ≤ G.large → base_in w % size_at G h ≡ 0 → w ≡ frame_word (base_in w) h (attrs_in w) → ⊥)
    → frame_at G h w ≡ Damaged
unfolding frame_at
frame_at_not G h w f = go (is_frame G h w) refl
  where
    go : (t : Bool) → is_frame G h w ≡ t → cond t (Frame (base_in w) (attrs_in w)) Damaged ≡ Damaged
    go true e = let (level, aligned, same) = passes G h w e in absurd (f level aligned same)
    go false e = refl

module _ {G : Granule} (S : Sane G) where
  pub framed_paged : {h b a : ℕ} → Framed G h b a → b % 4096 ≡ 0
  unfolding size_at
  framed_paged {h} {b} f = power_down b {i = 12} {j = G.page + G.index * h} (omega arith) f.aligned

  pub framed_below : {h b a : ℕ} → Framed G h b a → b < physical
  framed_below {h} f = omega (arith, size_pos G h)

  -- what the word of a frame says is that frame
  pub frame_at_back : {h b a : ℕ} → Framed G h b a → frame_at G h (frame_word b h a) ≡ Frame b a
  unfolding frame_at
  frame_at_back {h} {b} {a} f =
      rw (
        base_of_lem b h a (framed_below f) (framed_paged f) f.few,
        attrs_of_lem b h a (framed_below f) (framed_paged f) f.few,
        le-leb h G.large f.level,
        eq-eqb (b % size_at G h) 0 f.aligned,
        eq-eqb (frame_word b h a) (frame_word b h a) refl,
      )

  own_framed : (h w : ℕ) → h ≤ G.large → base_in w % size_at G h ≡ 0 → Framed G h (base_in w) (attrs_in w)
  unfolding size_at
  own_framed h w level aligned =
      let most : h ≤ G.most = omega arith in
      let small : G.page + G.index * h ≤ 48 = omega (arith, mul-le-mul_left G.index most) in
      record {
        level = level;
        few = attrs_lt w;
        aligned = aligned;
        fits = multiple_gap (size_at G h) aligned (power_down physical {j = 48} small refl) (omega arith);
      }

  own_frame : (h w : ℕ) → is_frame G h w ≡ true → Framed G h (base_in w) (attrs_in w) × (w ≡ frame_word (base_in w) h (attrs_in w))
  own_frame h w e = let (level, aligned, same) = passes G h w e in (own_framed h w level aligned, same)

  -- and no other word says it
  pub frame_at_only : (h w : ℕ) {b a : ℕ} → frame_at G h w ≡ Frame b a → Framed G h b a × (w ≡ frame_word b h a)
  unfolding frame_at
  frame_at_only h w {b} {a} e = go (is_frame G h w) refl e
    where
      go : (t : Bool)
          → is_frame G h w ≡ t
          → cond t (Frame (base_in w) (attrs_in w)) Damaged ≡ Frame b a
          → Framed G h b a × (w ≡ frame_word b h a)
      go true p e =
          let hb : base_in w ≡ b = cc in
          let ha : attrs_in w ≡ a = cc in
          rw (hb, ha) at (own_frame h w p)
      go false p e = absurd (let z : ◌≡◌ {A = ℕ} 0 1 = cc in omega arith)

  -- so the word of a frame is that of no other
  pub frame_word_one : {h b a c d : ℕ} → Framed G h b a → Framed G h c d → frame_word b h a ≡ frame_word c h d → (b ≡ c) × (a ≡ d)
  frame_word_one {h} {b} {a} {c} {d} f g e = same (sym (frame_at_back f) ∙ (ap (frame_at G h) e ∙ frame_at_back g))
    where
      same : Frame b a ≡ Frame c d → (b ≡ c) × (a ≡ d)
      same q = (cc, cc)

-- ---- tables

pub table_word_one : (G : Granule) (area : Area) → GoodArea G area → (c d : ℕ) → c < total area → d < total area
    → table_word G area c ≡ table_word G area d → c ≡ d
unfolding table_word
table_word_one G area placed c d l m e = table_one G area placed c d l m (omega arith)

-- the word of a table of the first region is the same whatever the second is
pub table_word_stays : (G : Granule) (area : Area) (q m c : ℕ) → c < area.tables → table_word G (with_second area q m) c ≡ table_word G area c
unfolding table_word
table_word_stays G area q m c l = ap (λ (x : ℕ). x + 3) (table_stays G area q m c l)

-- the word of a table of one region names it there,
pub named_back : (G : Granule) (b n i w : ℕ) → i < n → w ≡ b + page_size G * i + 3 → named_in G b n w ≡ i
unfolding named_in
named_back G b n i w l e =
    let m = page_size G * i in
    let off : b + m + 3 - 3 - b ≡ m = omega arith in
    rw (e, off, mul-div_right i (page_pos G), lt-ltb i n l, eq-eqb (b + m + 3) (b + m + 3) refl)

-- and no other word does
pub named_only : (G : Granule) (b n w : ℕ) {i : ℕ} → named_in G b n w ≡ i → i < n → w ≡ b + page_size G * i + 3
unfolding named_in
named_only G b n w {i} e l = go (ltb k n && eqb w (b + page_size G * k + 3)) refl e
  where
    k : ℕ
    k = (w - 3 - b) / page_size G

    go : (x : Bool) → (ltb k n && eqb w (b + page_size G * k + 3)) ≡ x → cond x k n ≡ i → w ≡ b + page_size G * i + 3
    go true p e = rw (← e) (eqb-true w (b + page_size G * k + 3) (and-true (ltb k n) _ p).1)
    go false p e = absurd (omega arith)

pub named_le : (G : Granule) (b n w : ℕ) → named_in G b n w ≤ n
unfolding named_in
named_le G b n w = go (ltb k n && eqb w (b + page_size G * k + 3)) refl
  where
    k : ℕ
    k = (w - 3 - b) / page_size G

    go : (x : Bool) → (ltb k n && eqb w (b + page_size G * k + 3)) ≡ x → cond x k n ≤ n
    go true p = let l = ltb-true k n (and-true (ltb k n) _ p).0 in omega arith
    go false p = omega arith

-- a word that is that of no table of the region
pub named_none : (G : Granule) (b n w : ℕ) → ((i : ℕ) → i < n → w ≡ b + page_size G * i + 3 → ⊥) → named_in G b n w ≡ n
named_none G b n w f = go (dec_lt (named_in G b n w) n)
  where
    go : Dec (named_in G b n w < n) → named_in G b n w ≡ n
    go (yes l) = absurd (f (named_in G b n w) l (named_only G b n w refl l))
    go (no d) = omega (arith, named_le G b n w)

module _ (G : Granule) (area : Area) (w : ℕ) where
  abbrev first : ℕ
  first = named_in G area.base area.tables w

  abbrev second : ℕ
  second = named_in G area.base₂ area.tables₂ w

  -- the child by the two tests
  child_by : (x y : Bool) → (ltb 0 first && ltb first area.tables) ≡ x → ltb second area.tables₂ ≡ y
      → child_at G area w ≡ cond x first (cond y (area.tables + second) 0)
  unfolding child_at
  child_by x y p q = rw (p, q)

  pub child_first : 0 < first → first < area.tables → child_at G area w ≡ first
  child_first some l = child_by true (ltb second area.tables₂) (simp (lt-ltb 0 first some, lt-ltb first area.tables l)) refl

  pub child_second : (0 < first → first < area.tables → ⊥) → second < area.tables₂ → child_at G area w ≡ area.tables + second
  child_second f l = child_by false true (and-false 0 first area.tables f) (lt-ltb second area.tables₂ l)

  pub child_neither : (0 < first → first < area.tables → ⊥) → area.tables₂ ≤ second → child_at G area w ≡ 0
  child_neither f l = child_by false false (and-false 0 first area.tables f) (le-ltb second area.tables₂ l)

  -- what a table's word names is a table with that word
  pub child_only : {c : ℕ} → child_at G area w ≡ c → 1 ≤ c → (c < total area) × (w ≡ table_word G area c)
  unfolding table_word
  child_only {c} e some = go (dec_lt 0 first) (dec_lt first area.tables) (dec_lt second area.tables₂)
    where
      from_second : (0 < first → first < area.tables → ⊥) → Dec (second < area.tables₂) → (c < total area) × (w ≡ table_at G area c + 3)
      from_second f (yes l) =
          let z : c ≡ area.tables + second = sym e ∙ child_second f l in
          let k : c - area.tables ≡ second = omega arith in
          (omega arith, rw (table_second G area c (omega arith), k) (named_only G area.base₂ area.tables₂ w refl l))
      from_second f (no l) = absurd (omega (arith, sym e ∙ child_neither f (omega arith)))

      go : Dec (0 < first) → Dec (first < area.tables) → Dec (second < area.tables₂) → (c < total area) × (w ≡ table_at G area c + 3)
      go (yes a) (yes l) d =
          let z : c ≡ first = sym e ∙ child_first a l in
          (omega arith, rw (table_first G area c (omega arith), z) (named_only G area.base area.tables w refl l))
      go (no a) b d = from_second (λ x y. a x) d
      go (yes a) (no b) d = from_second (λ x y. b y) d

  -- and each table's word names some table
  pub child_some : (c : ℕ) → 1 ≤ c → c < total area → w ≡ table_word G area c → 1 ≤ child_at G area w
  unfolding table_word
  child_some c some lt e = go (dec_lt c area.tables) (dec_lt 0 first) (dec_lt first area.tables)
    where
      by_second : area.tables ≤ c → (0 < first → first < area.tables → ⊥) → 1 ≤ child_at G area w
      by_second l f =
          let s = named_back G area.base₂ area.tables₂ (c - area.tables) w (omega arith) (e ∙ ap (λ (x : ℕ). x + 3) (table_second G area c l)) in
          omega (arith, child_second f (omega arith))

      go : Dec (c < area.tables) → Dec (0 < first) → Dec (first < area.tables) → 1 ≤ child_at G area w
      go (yes l) a b =
          let s = named_back G area.base area.tables c w l (e ∙ ap (λ (x : ℕ). x + 3) (table_first G area c l)) in
          omega (arith, child_first (omega arith) (omega arith))
      go (no l) (yes a) (yes b) = omega (arith, child_first a b)
      go (no l) (no a) b = by_second (omega arith) (λ x y. a x)
      go (no l) (yes a) (no b) = by_second (omega arith) (λ x y. b y)

-- the child that a table's word names is that table
pub child_back : (G : Granule) (area : Area) → GoodArea G area → (c : ℕ) → 1 ≤ c → c < total area → child_at G area (table_word G area c) ≡ c
child_back G area placed c some l =
    let (m, e) = child_only G area (table_word G area c) refl (child_some G area (table_word G area c) c some l refl) in
    table_word_one G area placed _ c m l (sym e)

-- a word that is no table's names none
pub child_none : (G : Granule) (area : Area) (w : ℕ) → ((c : ℕ) → 1 ≤ c → c < total area → w ≡ table_word G area c → ⊥) → child_at G area w ≡ 0
child_none G area w f = go (child_at G area w) refl
  where
    go : (c : ℕ) → child_at G area w ≡ c → c ≡ 0
    go zero e = refl
    go (suc c) e = let (lt, same) = child_only G area w e (omega arith) in absurd (f (suc c) (omega arith) lt same)

-- ---- entries

pub entry_zero : (G : Granule) (area : Area) (h : ℕ) → entry_at G area h 0 ≡ Empty
unfolding entry_at
entry_zero G area h = refl

-- a word that names a child says that table, at any level but the last
pub entry_table : (G : Granule) (area : Area) (h w : ℕ) {c : ℕ} → 1 ≤ h → child_at G area w ≡ c → 1 ≤ c → entry_at G area h w ≡ Table c
unfolding entry_at
entry_table G area h w {c} high e some =
    let (_, same) = child_only G area w e some in
    rw (
      ne_eqb w 0 (λ z. omega (arith, same, table_word_ge G area c)),
      e,
      lt-ltb 0 h high,
      lt-ltb 0 c some,
    )

-- what a table's word says is that table
pub table_back : (G : Granule) (area : Area) → GoodArea G area → (h c : ℕ) → 1 ≤ h → 1 ≤ c → c < total area
    → entry_at G area h (table_word G area c) ≡ Table c
table_back G area placed h c high some lt = entry_table G area h (table_word G area c) high (child_back G area placed c some lt) some

-- a word that is not 0 and names no table is read as a frame
pub entry_frame : (G : Granule) (area : Area) (h w : ℕ) → (w ≡ 0 → ⊥) → (1 ≤ h → child_at G area w ≡ 0) → entry_at G area h w ≡ frame_at G h w
unfolding entry_at
entry_frame G area h w some f = rw (ne_eqb w 0 some) (go (ltb 0 h && ltb 0 (child_at G area w)) refl)
  where
    go : (t : Bool) → (ltb 0 h && ltb 0 (child_at G area w)) ≡ t → cond t (Table (child_at G area w)) (frame_at G h w) ≡ frame_at G h w
    go true e =
        let (high, named) = and-true (ltb 0 h) (ltb 0 (child_at G area w)) e in
        absurd (omega (arith, f (ltb-true 0 h high), ltb-true 0 (child_at G area w) named))
    go false e = refl

module _ {G : Granule} (S : Sane G) where
  -- what is computed from a word is what the word says
  pub says_entry : (area : Area) (h w : ℕ) → Says G area h w (entry_at G area h w)
  unfolding entry_at frame_at
  says_entry area h w = go (eqb w 0) named (is_frame G h w) refl refl refl
    where
      named : Bool
      named = ltb 0 h && ltb 0 (child_at G area w)

      frame : is_frame G h w ≡ true → Says G area h w (Frame (base_in w) (attrs_in w))
      frame r = let f = own_frame S h w r in says_frame (base_in w) (attrs_in w) f.0 f.1

      table : named ≡ true → Says G area h w (Table (child_at G area w))
      table q =
          let (x, y) = and-true (ltb 0 h) (ltb 0 (child_at G area w)) q in
          let some = ltb-true 0 (child_at G area w) y in
          let f = child_only G area w refl some in
          says_table (child_at G area w) (ltb-true 0 h x) some f.0 f.1

      no_table : named ≡ false → (c : ℕ) → 1 ≤ h → 1 ≤ c → c < total area → w ≡ table_word G area c → ⊥
      no_table q c high some lt e =
          let k = child_some G area w c some lt e in
          false≢true (sym q ∙ simp (lt-ltb 0 h high, lt-ltb 0 (child_at G area w) k))

      no_frame : is_frame G h w ≡ false → (b a : ℕ) → Framed G h b a → w ≡ frame_word b h a → ⊥
      no_frame r b a f e =
          let t : frame_at G h w ≡ Frame b a = rw e (frame_at_back S f) in
          let u : frame_at G h w ≡ Damaged = rw r in
          let z : ◌≡◌ {A = ℕ} 0 1 = cc in
          omega arith

      go : (x y z : Bool)
          → eqb w 0 ≡ x
          → named ≡ y
          → is_frame G h w ≡ z
          → Says G area h w (cond x Empty (cond y (Table (child_at G area w)) (cond z (Frame (base_in w) (attrs_in w)) Damaged)))
      go true y z p q r = says_empty (eqb-true w 0 p)
      go false true z p q r = table q
      go false false true p q r = frame r
      go false false false p q r = says_damaged (eqb-false w 0 p) (no_table q) (no_frame r)

  -- so what is read was written
  pub empty_only : (area : Area) (h w : ℕ) → entry_at G area h w ≡ Empty → w ≡ 0
  empty_only area h w e = of (rw e at (says_entry area h w))
    where
      of : Says G area h w Empty → w ≡ 0
      of (says_empty z) = z

  pub table_only : (area : Area) (h w : ℕ) {c : ℕ} → entry_at G area h w ≡ Table c → (1 ≤ h) × (1 ≤ c) × (c < total area) × (w ≡ table_word G area c)
  table_only area h w {c} e = of (rw e at (says_entry area h w))
    where
      of : Says G area h w (Table c) → (1 ≤ h) × (1 ≤ c) × (c < total area) × (w ≡ table_word G area c)
      of (says_table c high some lt z) = (high, some, lt, z)

  pub frame_only : (area : Area) (h w : ℕ) {b a : ℕ} → entry_at G area h w ≡ Frame b a → Framed G h b a × (w ≡ frame_word b h a)
  frame_only area h w {b} {a} e = of (rw e at (says_entry area h w))
    where
      of : Says G area h w (Frame b a) → Framed G h b a × (w ≡ frame_word b h a)
      of (says_frame b a f z) = (f, z)

  -- no word is both a table's and a frame's, since a table's ends in 3
  pub table_low : (area : Area) (c : ℕ) → GoodArea G area → c < total area → table_word G area c % 4096 ≡ 3
  unfolding table_word
  table_low area c placed l =
      let p = power_down (table_at G area c) {i = 12} {j = G.page} S.page_least (table_aligned G area placed c l) in
      omega arith

  pub not_both : (area : Area) (c : ℕ) {h b a : ℕ} → GoodArea G area → c < total area → Framed G h b a → frame_word b h a ≡ table_word G area c → ⊥
  not_both area c {h} {b} {a} placed l f e =
      low_of b h a (framed_below S f) (framed_paged S f) f.few (ap (λ (x : ℕ). x % 4096) e ∙ table_low area c placed l)

  -- what a frame's word says is that frame
  pub frame_back : (area : Area) {h b a : ℕ} → GoodArea G area → Framed G h b a → entry_at G area h (frame_word b h a) ≡ Frame b a
  frame_back area {h} {b} {a} placed f =
      entry_frame G area h (frame_word b h a) (λ e. omega (arith, frame_word_ge b h a)) (λ high. no_child) ∙ frame_at_back S f
    where
      no_child : child_at G area (frame_word b h a) ≡ 0
      no_child = child_none G area (frame_word b h a) (λ c some lt e. not_both area c placed lt f e)

  -- a word says nothing but what is computed from it
  pub entry_says : {area : Area} {h w : ℕ} {e : Entry} → GoodArea G area → Says G area h w e → entry_at G area h w ≡ e
  entry_says {area} {h} placed (says_empty z) = rw z (entry_zero G area h)
  entry_says {area} {h} placed (says_table c high some lt z) = rw z (table_back G area placed h c high some lt)
  entry_says {area} placed (says_frame b a f z) = rw z (frame_back area placed f)
  entry_says {area} {h} {w} placed (says_damaged no-empty no_table no_frame) = of (says_entry area h w)
    where
      of : {e : Entry} → Says G area h w e → e ≡ Damaged
      of (says_empty z) = absurd (no-empty z)
      of (says_table c high some lt z) = absurd (no_table c high some lt z)
      of (says_frame b a f z) = absurd (no_frame b a f z)
      of (says_damaged x y z) = refl

  -- so it says one thing
  pub one_reading : {area : Area} {h w : ℕ} {e f : Entry} → GoodArea G area → Says G area h w e → Says G area h w f → e ≡ f
  one_reading placed x y = sym (entry_says placed x) ∙ entry_says placed y
