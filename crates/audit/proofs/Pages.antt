-- A table of the last level: each of its words is empty, a page or damaged, and is counted once or, where it is damaged, not at all.
use Rattle.std.proofs.Common.{◌≡◌, ℕ, ◌+◌, ◌*◌, ◌%◌, ◌^◌, ◌<◌, ◌≤◌, Bool, true, false, not, ◌&&◌, eqb, ltb, List, Option, None, sym, refl, ap, ◌∙◌, subst, arith, ltb-true, lt-ltb, eq-eqb, ne_eqb, eqb-true}
use mathlib.Core.Bool.{and-true, and-false, false≢true}
use native.Mathlib.Decide.{dec_lt}
use mir.Val.{bool_byte}
use borrow.Author.Tests.{eqb-false}
use Rattle.path.specs.Geometry.{Granule, page_size, entries, size_at, at_level}
use Rattle.path.specs.Areas.{Area, GoodArea, meets_region, meets_area}
use Rattle.path.specs.Laws.{granule_sane, size_zero, page_pos, level_page, same_truth, meets_byte, byte_meets}
use Rattle.path.specs.RegionLaws.{multiple_gap}
use Rattle.entry.specs.Words.{base_in, attrs_in, frame_word, entry_at}
use Rattle.entry.proofs.Laws.{frame_word_ge, frame_at_own, frame_at_not, entry_zero, entry_frame as frame-reads}
use Rattle.entry.specs.declared.Entry.TheVariants.{Frame, Damaged}
use Rattle.model.specs.Sound.{word_at}
use Rattle.audit.specs.Checks.{granule_in, area_in, kept_in, counted, Answers, at_word, at_entry, is_page, PageFit}
use Rattle.audit.specs.declared.Look.{Look}
use Rattle.model.specs.declared.Counts.{Counts}
use Rattle.audit.proofs.Parts.{Goes}
use Rattle.audit.proofs.Tables.{at_rest, Loop, loop_bad, loop_more, loop_end, table_starts, entry_empty, entry_frame, entry_inside, entry_damaged}

-- ---- a word

-- whether a word is that of its own base and attributes, as a page
abbrev own : ℕ → Bool
own w = eqb w (frame_word (base_in w) 0 (attrs_in w))

module _ (G : Granule) (area : Area) (w : ℕ) where
  page_reads : (w ≡ 0 → ⊥) → own w ≡ true → base_in w % page_size G ≡ 0 → entry_at G area 0 w ≡ Frame (base_in w) (attrs_in w)
  page_reads some e a =
      frame-reads G area 0 w some (λ l. absurd (omega arith))
      ∙ frame_at_own G 0 w (omega arith) (ap (λ (n : ℕ). base_in w % n) (size_zero G) ∙ a) (eqb-true w _ e)

  else_damaged : (w ≡ 0 → ⊥) → (own w ≡ true → base_in w % page_size G ≡ 0 → ⊥) → entry_at G area 0 w ≡ Damaged
  else_damaged some e =
      frame-reads G area 0 w some (λ l. absurd (omega arith))
      ∙ frame_at_not G 0 w (λ level aligned same. e (eq-eqb w _ same) (ap (λ (n : ℕ). base_in w % n) (sym (size_zero G)) ∙ aligned))

empty_no_page : (w : ℕ) → w ≡ 0 → own w ≡ true → ⊥
empty_no_page w z e = omega (arith, eqb-true w _ e, frame_word_ge (base_in w) 0 (attrs_in w))

-- how far a page is from a region's tables, modulo 2^64, tells whether it shares a byte with them
pub page_apart : (G : Granule) {base n b off : ℕ} → PageFit G b base n → off < 2 ^ 64 → (off + base) % 2 ^ 64 ≡ b
    → ltb off (page_size G * n) ≡ meets_region G base n b (page_size G)
page_apart G {base} {n} {b} {off} g wide e =
    same_truth (ltb off (page_size G * n)) (meets_region G base n b (page_size G))
    (λ q. let l = ltb-true off (page_size G * n) q in byte_meets G base n b (page_size G) b (omega arith) (omega (arith, page_pos G)) (omega (arith, g.fits, g.low), omega (arith, g.fits, g.low)))
    (λ q. let (x, y, z, i) = meets_byte G base n b (page_size G) q in
    lt-ltb off (page_size G * n) (near x y z i.0 i.1 (dec_lt b base)))
  where
    near : (x : ℕ) → b ≤ x → x < b + page_size G → base ≤ x → x < base + page_size G * n → Dec (b < base) → off < page_size G * n
    near x y z i j (yes l) = absurd (omega (arith, multiple_gap (page_size G) g.paged g.aligned l))
    near x y z i j (no l) = omega (arith, g.low, g.fits)

module _ (w : ℕ) (look : Look) (g : GoodArea (granule_in look) (kept_in look)) (a : base_in w % page_size (granule_in look) ≡ 0) where
  pub first_fit : PageFit (granule_in look) (base_in w) look.kept.base look.kept.tables
  first_fit = record { paged = a; low = omega arith; aligned = g.aligned; fits = g.fits }

  pub second_fit : PageFit (granule_in look) (base_in w) look.kept.base2 look.kept.tables2
  second_fit = record { paged = a; low = omega arith; aligned = g.aligned₂; fits = g.fits₂ }

-- a word whose base is no multiple of a page is none
module _ (w : ℕ) (look : Look) {b r : ℕ} (e : b ≡ base_in w) (p : r ≡ at_level (granule_in look) 0 (b % size_at (granule_in look) 0)) where
  rest_is : r ≡ base_in w % page_size (granule_in look)
  rest_is = p ∙ level_page (granule_in look) (granule_sane look.tree.granule) b ∙ ap (λ (x : ℕ). x % page_size (granule_in look)) e

  pub page_askew : (r ≡ 0 → ⊥) → false ≡ is_page (granule_in look) (kept_in look) w
  page_askew d = sym (rw (ne_eqb (base_in w % page_size (granule_in look)) 0 (λ a. d (rest_is ∙ a)), and-false (own w)))

  pub page_even : r ≡ 0 → base_in w % page_size (granule_in look) ≡ 0
  page_even z = sym rest_is ∙ z

-- a page in one region or the other counts for none, and any other word for what it is
module _ (w : ℕ) (look : Look) (a : base_in w % page_size (granule_in look) ≡ 0) {b : ℕ} (e : b ≡ base_in w)
    {x : Bool} (p : x ≡ meets_region (granule_in look) look.kept.base look.kept.tables b (page_size (granule_in look))) where
  abbrev plain : Bool
  plain = own w && eqb (base_in w % page_size (granule_in look)) 0

  first : x ≡ meets_region (granule_in look) look.kept.base look.kept.tables (base_in w) (page_size (granule_in look))
  first = p ∙ ap (λ (y : ℕ). meets_region (granule_in look) look.kept.base look.kept.tables y (page_size (granule_in look))) e

  pub page_first : x ≡ true → false ≡ is_page (granule_in look) (kept_in look) w
  unfolding meets_area
  page_first q = sym (rw (sym first ∙ q) (and-false plain))

  module _ (q : x ≡ false) {y : Bool} (u : y ≡ meets_region (granule_in look) look.kept.base2 look.kept.tables2 b (page_size (granule_in look))) where
    next : y ≡ meets_region (granule_in look) look.kept.base2 look.kept.tables2 (base_in w) (page_size (granule_in look))
    next = u ∙ ap (λ (y : ℕ). meets_region (granule_in look) look.kept.base2 look.kept.tables2 y (page_size (granule_in look))) e

    pub page_second : y ≡ true → false ≡ is_page (granule_in look) (kept_in look) w
    unfolding meets_area
    page_second v = sym (rw (sym first ∙ q, sym next ∙ v) (and-false plain))

    pub page_beside : y ≡ false → {page : Bool} → page ≡ own w → page ≡ is_page (granule_in look) (kept_in look) w
    unfolding meets_area
    page_beside v r =
        r ∙ sym (and-true (own w)) ∙ ap (λ (t : Bool). own w && t) (sym (eq-eqb (base_in w % page_size (granule_in look)) 0 a))
        ∙ sym (rw (sym first ∙ q, sym next ∙ v) (and-true plain))

-- ---- the loop over the words

-- before word i: as many were counted as were passed, and what is left answers for all; or fewer, and the table is damaged
pub record Pages (ws : List ℕ) (look : Look) (t : ℕ) (M : List Bool) (empty pages i : ℕ) : Type 0 where
  pub few : empty + pages ≤ i
  pub sound : empty + pages ≡ i → Loop ws look 0 t M 1 0 M 1 pages i
  pub unsound : empty + pages < i → Goes (at_rest (granule_in look) ws look 0 t 0) M 1 0 None M

pub pages_start : (ws : List ℕ) (look : Look) (t : ℕ) (M : List Bool) → Pages ws look t M 0 0 0
pages_start ws look t M =
    record {
      few = omega arith;
      sound = λ e. table_starts ws look 0 t M (omega (arith, granule_sane look.tree.granule));
      unsound = λ l. absurd (omega arith);
    }

module _ {ws : List ℕ} {look : Look} {t : ℕ} {M : List Bool} {empty pages i : ℕ} (k : Pages ws look t M empty pages i) where
  pub pages_good : i ≤ entries (granule_in look) → entries (granule_in look) ≤ empty + pages → Goes (at_rest (granule_in look) ws look 0 t 0) M 1 0 (counted 1 pages) M
  pages_good l m = loop_end (k.sound (omega (arith, k.few))) (omega (arith, k.few))

  pub pages_bad : entries (granule_in look) ≤ i → empty + pages < entries (granule_in look) → Goes (at_rest (granule_in look) ws look 0 t 0) M 1 0 None M
  pages_bad l m = k.unsound (omega arith)

  module _ (l : i < entries (granule_in look)) where
    -- a word that is counted
    once : (x y : ℕ) → x + y ≡ 1 → Answers (at_entry (granule_in look) ws look 0 t i) M (counted 0 y) M
        → Pages ws look t M (empty + x) (pages + y) (i + 1)
    once x y e g =
        record {
          few = omega (arith, k.few);
          sound = λ q. loop_more (k.sound (omega arith)) l 0 y M g refl;
          unsound = λ q. k.unsound (omega arith);
        }

    missed : Answers (at_entry (granule_in look) ws look 0 t i) M None M → Pages ws look t M (empty + 0) (pages + 0) (i + 1)
    missed g =
        record {
          few = omega (arith, k.few);
          sound = λ q. absurd (omega (arith, k.few));
          unsound = λ q. go (dec_lt (empty + pages) i);
        }
      where
        go : Dec (empty + pages < i) → Goes (at_rest (granule_in look) ws look 0 t 0) M 1 0 None M
        go (yes m) = k.unsound m
        go (no m) = loop_bad (k.sound (omega (arith, k.few))) l M M g

    pub pages_more : (w : ℕ) → w ≡ word_at (granule_in look) ws t i → (p : Bool) → p ≡ is_page (granule_in look) (kept_in look) w
        → Pages ws look t M (empty + bool_byte (eqb w 0)) (pages + bool_byte p) (i + 1)
    pages_more w at p e = rw e (go (eqb w 0) (own w) (eqb (base_in w % page_size (granule_in look)) 0) (meets_area (granule_in look) (kept_in look) (base_in w) (page_size (granule_in look))) refl refl refl refl)
      where
        here : (r : Option Counts) → Answers (at_word (granule_in look) ws look 0 w) M r M → Answers (at_entry (granule_in look) ws look 0 t i) M r M
        here r g = subst (λ (x : ℕ). Answers (at_word (granule_in look) ws look 0 x) M r M) at g

        -- a page's size, as the word's height has it
        sized : {m : Bool} → meets_area (granule_in look) (kept_in look) (base_in w) (page_size (granule_in look)) ≡ m → meets_area (granule_in look) (kept_in look) (base_in w) (size_at (granule_in look) 0) ≡ m
        sized q = ap (meets_area (granule_in look) (kept_in look) (base_in w)) (size_zero (granule_in look)) ∙ q

        go : (x o a m : Bool) → eqb w 0 ≡ x → own w ≡ o → eqb (base_in w % page_size (granule_in look)) 0 ≡ a → meets_area (granule_in look) (kept_in look) (base_in w) (page_size (granule_in look)) ≡ m
            → Pages ws look t M (empty + bool_byte x) (pages + bool_byte ((o && a) && not m)) (i + 1)
        go true true a m z y v q = absurd (empty_no_page w (eqb-true w 0 z) y)
        go true false a m z y v q =
            once 1 0 refl (here (counted 0 0) (entry_empty ws M look 0 w (counted 0 0) M (ap (entry_at (granule_in look) (area_in look) 0) (eqb-true w 0 z) ∙ entry_zero (granule_in look) (area_in look) 0) refl refl))
        go false true true false z y v q =
            once 0 1 refl (here (counted 0 1) (entry_frame ws M look 0 w (counted 0 1) M (base_in w) (attrs_in w) (page_reads (granule_in look) (area_in look) w (eqb-false w 0 z) y (eqb-true _ 0 v)) (sized q) refl refl))
        go false true true true z y v q =
            missed (here None (entry_inside ws M look 0 w None M (base_in w) (attrs_in w) (page_reads (granule_in look) (area_in look) w (eqb-false w 0 z) y (eqb-true _ 0 v)) (sized q) refl))
        go false true false m z y v q =
            missed (here None (entry_damaged ws M look 0 w None M (else_damaged (granule_in look) (area_in look) w (eqb-false w 0 z) (λ o a. eqb-false _ 0 v a)) refl))
        go false false a m z y v q =
            missed (here None (entry_damaged ws M look 0 w None M (else_damaged (granule_in look) (area_in look) w (eqb-false w 0 z) (λ o b. false≢true (sym y ∙ o))) refl))
