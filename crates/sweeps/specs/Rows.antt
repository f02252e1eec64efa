-- Laws of a row, words of one table of the last level side by side: pages that are unmapped there one after the other are these words cleared, and give no table
-- back, where none of them is in use or the word after them is.
use Rattle.std.specs.Prelude.{ℕ, zero, suc, ◌+◌, ◌-◌, ◌*◌, ◌/◌, ◌%◌, ◌≤◌, ◌<◌, ◌≡◌, refl, ◌≢◌, ◌⊎◌, true, false, cond, List, ◌∷◌, eqb, length, get_or, set}
use Rattle.std.proofs.Math.Path.{ap}
use Rattle.std.proofs.Common.{sym, ◌∙◌, subst, inl, inr, ⊎_elim, suc-mul, arith, length-set, get_or-set_same, get_or-set_other, ext_get_or, drop-cons, eq-eqb, ne_eqb}
use Rattle.std.proofs.Math.Nat.{add-mul-div_right}
use Rattle.std.proofs.Math.Decide.{ℕ_discrete, dec_lt}
use Rattle.std.proofs.Math.ListN.{take}
use Rattle.laws.specs.Lists.{part, zeroed}
use Rattle.laws.specs.ListLaws.{part_set_before, length_zeroed, get_d_zeroed, get_d_zeroed_before, get_d_zeroed_after}
use Rattle.path.specs.Geometry.{Granule, Sane, entries, page_size, size_at, space_of}
use Rattle.path.specs.Areas.{Area, area_of, total}
use Rattle.path.specs.Numbers.{with_free, good_setup}
use Rattle.path.specs.Paths.{index_at, path_of}
use Rattle.path.specs.PathLaws.{path_of_at}
use Rattle.path.specs.RegionLaws.{region_above}
use Rattle.path.specs.Laws.{good_setup_lem, untrue, page_pos, size_zero, table_ends}
use Rattle.entry.specs.Words.{entry_at}
use Rattle.entry.proofs.Laws.{entry_zero, empty_only}
use Rattle.entry.specs.declared.Entry.{Entry}
use Rattle.entry.specs.declared.Entry.TheVariants.{Empty, Table, Frame, Damaged}
use Rattle.model.specs.declared.Walked.{Walked}
use Rattle.model.specs.Answers.{Pool, pool, Done}
use Rattle.model.specs.Walk.{slot, at_height, no_way, stop}
use Rattle.model.specs.Writes.{perform_all, only_entry, freed, prune_writes, unmap_writes}
use Rattle.model.specs.Calls.{good_pool, walk_to, written, unmap_w}
use Rattle.model.proofs.DescentLaws.{clash}
use Rattle.model.proofs.RefusalLaws.{no_table_last}
use Rattle.model.proofs.RangeLaws.{page_next}
use Rattle.model.proofs.RangeWalks.{walk_stopped, stopped_apart, stopped_in}
use Rattle.model.specs.RangeWalks.{Stopped}
use Rattle.model.proofs.RangeUnmapLaws.{few_levels, goes, walk_kept}
use Rattle.model.proofs.RangeUnmapLaws.{given_at, removed_at, Goes, gives, passes, fills}
use Rattle.ranges.specs.StretchLaws.{row_index}
use Rattle.ranges.specs.RowWalks.{same_table, row_here}
use Rattle.sweeps.specs.Parts.{Removes, in_use}
use Rattle.sweeps.specs.Emptied.{only_zero}
use Rattle.sweeps.specs.Removing.{removes_more, one_removes}

-- ---- lists

part_cons : (xs : List ℕ) (i k : ℕ) → i < length xs → part xs i (suc k) ≡ get_or xs i 0 ∷ part xs (suc i) k
unfolding part take
part_cons xs i k l = rw (drop-cons xs i 0 l)

set_none : (xs : List ℕ) (i : ℕ) → get_or xs i 0 ≡ 0 → set xs i 0 ≡ xs
set_none xs i e = ext_get_or 0 (set xs i 0) xs (length-set xs i 0) (λ j l. at j (ℕ_discrete j i) (omega (arith, length-set xs i 0)))
  where
    at : (j : ℕ) → Dec (j ≡ i) → j < length xs → get_or (set xs i 0) j 0 ≡ get_or xs j 0
    at j (yes z) l = ap (λ (x : ℕ). get_or (set xs i 0) x 0) z ∙ get_or-set_same xs i 0 0 (subst (λ (x : ℕ). x < length xs) z l) ∙ sym (ap (λ (x : ℕ). get_or xs x 0) z ∙ e)
    at j (no n) l = get_or-set_other xs i j 0 0 n

-- the first word of those that are cleared
zeroed_more : (xs : List ℕ) (i k : ℕ) → i + suc k ≤ length xs → zeroed xs i (suc k) ≡ zeroed (set xs i 0) (suc i) k
zeroed_more xs i k l =
    ext_get_or 0 (zeroed xs i (suc k)) (zeroed (set xs i 0) (suc i) k) (length_zeroed xs i (suc k) ∙ sym (length_zeroed (set xs i 0) (suc i) k ∙ length-set xs i 0))
    (λ j m. at j (dec_lt j i) (ℕ_discrete j i) (dec_lt j (i + suc k)))
  where
    at : (j : ℕ) → Dec (j < i) → Dec (j ≡ i) → Dec (j < i + suc k) → get_or (zeroed xs i (suc k)) j 0 ≡ get_or (zeroed (set xs i 0) (suc i) k) j 0
    at j (yes a) b c = get_d_zeroed_before xs i (suc k) j a ∙ sym (get_d_zeroed_before (set xs i 0) (suc i) k j (omega arith) ∙ get_or-set_other xs i j 0 0 (λ z. omega arith))
    at j (no a) (yes b) c =
        get_d_zeroed xs i (suc k) l j (omega arith) (omega arith)
        ∙ sym (get_d_zeroed_before (set xs i 0) (suc i) k j (omega arith) ∙ ap (λ (x : ℕ). get_or (set xs i 0) x 0) b ∙ get_or-set_same xs i 0 0 (omega arith))
    at j (no a) (no b) (yes c) = get_d_zeroed xs i (suc k) l j (omega arith) c ∙ sym (get_d_zeroed (set xs i 0) (suc i) k (omega (arith, length-set xs i 0)) j (omega arith) (omega arith))
    at j (no a) (no b) (no c) =
        get_d_zeroed_after xs i (suc k) j (omega arith) ∙ sym (get_d_zeroed_after (set xs i 0) (suc i) k j (omega arith) ∙ get_or-set_other xs i j 0 0 (λ z. omega arith))

zeroed_nothing : (xs : List ℕ) (i : ℕ) → i ≤ length xs → zeroed xs i 0 ≡ xs
zeroed_nothing xs i l = ext_get_or 0 (zeroed xs i 0) xs (length_zeroed xs i 0) (λ j m. at j (dec_lt j i))
  where
    at : (j : ℕ) → Dec (j < i) → get_or (zeroed xs i 0) j 0 ≡ get_or xs j 0
    at j (yes a) = get_d_zeroed_before xs i 0 j a
    at j (no a) = get_d_zeroed_after xs i 0 j (omega arith)

use_first : (xs : List ℕ) (i k : ℕ) → i < length xs → in_use (part xs i (suc k)) ≡ cond (eqb (get_or xs i 0) 0) 0 1 + in_use (part (set xs i 0) (suc i) k)
unfolding in_use
use_first xs i k l = ap in_use (part_cons xs i k l) ∙ ap (λ (r : List ℕ). cond (eqb (get_or xs i 0) 0) 0 1 + in_use r) (sym (part_set_before xs (suc i) k i 0 (omega arith)))

use_nothing : (xs : List ℕ) (i : ℕ) → in_use (part xs i 0) ≡ 0
unfolding in_use part take
use_nothing xs i = refl

-- a table with another entry stays
freed_none : (G : Granule) (ws way path : List ℕ) (h d : ℕ) → only_entry G ws (at_height way h) (at_height path h) ≡ false → freed G ws way path h d ≡ 0
unfolding freed
freed_none G ws way path h zero e = refl
freed_none G ws way path h (suc d) e = rw e

-- ---- rows

-- a pool with other words
abbrev pub with_words : Pool → List ℕ → Pool
with_words p ws = pool p.numbers ws p.cut p.list

-- the place of a page's word, in the table where its walk ends
abbrev pub place_of : Granule → Pool → ℕ → ℕ
place_of G p x = slot G (at_height (walk_to G p 0 x).tables 0) (index_at G x 0)

-- n pages from x on, whose walks end in one table of the last level at words that are not damaged; none of the words is in use, or the one after them is
pub record Row (G : Granule) (p : Pool) (x n : ℕ) : Type 0 where
  pub good : good_pool G p ≡ true
  pub aligned : x % page_size G ≡ 0
  pub in_space : x + n * page_size G ≤ space_of G p.numbers.levels
  pub fits : index_at G x 0 + n ≤ entries G
  pub sound : (walk_to G p 0 x).entry ≢ Damaged
  pub last_level : (walk_to G p 0 x).left ≡ 0
  pub undamaged : (j : ℕ) → j < n → entry_at G (area_of p.numbers) 0 (get_or p.words (place_of G p x + j) 0) ≢ Damaged
  pub stays : ((j : ℕ) → j < n → get_or p.words (place_of G p x + j) 0 ≡ 0) ⊎ ((index_at G x 0 + n < entries G) × (get_or p.words (place_of G p x + n) 0 ≢ 0))

module _ (G : Granule) (Z : Sane G) (p : Pool) (x n : ℕ) (R : Row G p x (suc n)) where
  abbrev W : ℕ
  W = page_size G

  abbrev o : Walked
  o = walk_to G p 0 x

  abbrev t : ℕ
  t = at_height o.tables 0

  abbrev i : ℕ
  i = index_at G x 0

  abbrev place : ℕ
  place = place_of G p x

  abbrev w : ℕ
  w = get_or p.words place 0

  abbrev area : Area
  area = area_of p.numbers

  abbrev top : ℕ
  top = p.numbers.levels - 1

  abbrev q : Pool
  q = with_words p (set p.words place 0)

  few : p.numbers.levels ≤ 4
  few = few_levels G Z p R.good

  some : 0 < p.numbers.levels
  some = omega (arith, (good_setup_lem R.good).numbers.enough, Z.large_below)

  low : top < 4
  low = omega (arith, few, some)

  E : Stopped G area p.words 0 (path_of G x) top no_way 0 o
  E = walk_stopped G p few 0 x R.sound

  in_pool_lem : t < total area
  in_pool_lem = stopped_in E low refl Z (omega (arith, good_setup_lem R.good)) 0 (omega (arith, R.last_level)) (omega arith)

  inside : place + suc n ≤ length p.words
  inside = omega (arith, (good_setup_lem R.good).numbers.words_are, R.fits, table_ends (entries G) in_pool_lem)

  -- the walk of the page j further on
  row_at : (j : ℕ) → j < suc n → walk_to G p 0 (x + j * W) ≡ stop (entry_at G area 0 (get_or p.words (place + j) 0)) 0 o.tables
  row_at j l =
      subst (λ (s : ℕ). walk_to G p 0 (x + j * s) ≡ stop (entry_at G area 0 (get_or p.words (place + j) 0)) 0 o.tables) (size_zero G)
      (row_here G p few 0 x (suc n) (omega arith) some R.fits R.sound R.last_level j l)

  entry_is : o.entry ≡ entry_at G area 0 w
  entry_is =
      let e : x + 0 * W ≡ x = omega arith in
      let f : place + 0 ≡ place = omega arith in
      ap (λ (y : ℕ). (walk_to G p 0 y).entry) (sym e) ∙ ap (λ (v : Walked). v.entry) (row_at 0 (omega arith)) ∙ ap (λ (y : ℕ). entry_at G area 0 (get_or p.words y 0)) f

  index_is : at_height (path_of G x) 0 ≡ i
  index_is = path_of_at G x {h = 0} (omega arith)

  -- another word of the table is in use where this one is
  beside : w ≢ 0 → (j : ℕ) × (j < entries G) × (j ≢ i) × (get_or p.words (slot G t j) 0 ≢ 0)
  beside m = ⊎_elim (λ f. absurd (m (ap (λ (y : ℕ). get_or p.words y 0) here ∙ f 0 (omega arith))))
      (λ (l, f). (i + suc n, l, (λ z. omega arith), λ z. f (ap (λ (y : ℕ). get_or p.words y 0) (omega arith) ∙ z))) R.stays
    where
      here : place ≡ place + 0
      here = omega arith

  not_only : w ≢ 0 → only_entry G p.words t (at_height (path_of G x) 0) ≡ false
  not_only m =
      let (j, l, d, f) = beside m in
      untrue _ (λ e. f (only_zero G p.words t (at_height (path_of G x) 0) e j l (λ z. d (z ∙ index_is))))

  given_none : w ≢ 0 → given_at G p x ≡ 0
  given_none m =
      ap (λ (h : ℕ). freed G p.words o.tables (path_of G x) h (top - h)) R.last_level
      ∙ freed_none G p.words o.tables (path_of G x) 0 (top - 0) (not_only m)

  removed_is : w ≢ 0 → removed_at G p x ≡ q
  unfolding perform_all prune_writes
  removed_is m =
      ap (λ (d : ℕ). written G p (unmap_writes G o.tables (path_of G x) o.left p.numbers.free d) (p.numbers.free + d)) (given_none m)
      ∙ ap (λ (f : ℕ). pool (with_free p.numbers f) (set p.words (slot G (at_height o.tables o.left) (at_height (path_of G x) o.left)) 0) p.cut p.list) (omega arith)
      ∙ ap (λ (h : ℕ). with_words p (set p.words (slot G (at_height o.tables h) (at_height (path_of G x) h)) 0)) R.last_level
      ∙ ap (λ (j : ℕ). with_words p (set p.words (slot G t j) 0)) index_is

  same_pool : w ≡ 0 → q ≡ p
  same_pool z = ap (with_words p) (set_none p.words place z)

  -- the page is done with its word
  pub row_step : Removes G p x (x + W) (cond (eqb w 0) 0 1) 0 q
  row_step =
      go (unmap_w G p x) refl
      (goes G Z p x R.good (omega (arith, R.in_space, suc-mul n W, page_pos G)) R.aligned R.sound
      (λ b k e. subst (λ (h : ℕ). x % size_at G h ≡ 0) (sym R.last_level) (subst (λ (s : ℕ). x % s ≡ 0) (sym (size_zero G)) R.aligned)))
    where
      go : (d : Done) → unmap_w G p x ≡ d → Goes G p x d → Removes G p x (x + W) (cond (eqb w 0) 0 1) 0 q
      go d e (gives b k f s) = by (ℕ_discrete w 0)
        where
          by : Dec (w ≡ 0) → Removes G p x (x + W) (cond (eqb w 0) 0 1) 0 q
          by (yes z) = let y : o.entry ≡ Empty = entry_is ∙ ap (entry_at G area 0) z ∙ entry_zero G area 0 in clash (cc)
          by (no m) =
              rw (ne_eqb w 0 m)
              (subst (λ (r : Pool). Removes G p x (x + W) 1 0 r) (removed_is m) (subst (λ (y : ℕ). Removes G p x (x + W) 1 y (removed_at G p x)) (given_none m) (one_removes G e)))
      go d e (passes f) =
          let z : w ≡ 0 = empty_only Z area 0 w (sym entry_is ∙ f) in
          rw (eq-eqb w 0 z) (subst (λ (r : Pool). Removes G p x (x + W) 0 0 r) (sym (same_pool z)) (one_removes G e))
      go d e (fills F) = by (ℕ_discrete w 0)
        where
          by : Dec (w ≡ 0) → Removes G p x (x + W) (cond (eqb w 0) 0 1) 0 q
          by (yes z) = let (b, k, f) = F.frame in let y : o.entry ≡ Empty = entry_is ∙ ap (entry_at G area 0) z ∙ entry_zero G area 0 in clash (cc)
          by (no m) = absurd (omega (arith, F.over, given_none m, good_setup_lem R.good))

  -- ---- the next page

  framed : w ≢ 0 → (b : ℕ) × (k : ℕ) × (o.entry ≡ Frame b k)
  framed m = go o.entry refl
    where
      go : (e : Entry) → o.entry ≡ e → (b : ℕ) × (k : ℕ) × (o.entry ≡ Frame b k)
      go Empty e = absurd (m (empty_only Z area 0 w (sym entry_is ∙ e)))
      go (Table c) e = absurd (no_table_last G p x c e)
      go (Frame b k) e = (b, k, e)
      go Damaged e = absurd (R.sound e)

  module _ (l : 0 < n) where
    abbrev y : ℕ
    y = x + 1 * W

    one_is : x + W ≡ y
    one_is = omega (arith, suc-mul 0 W)

    other : walk_to G p 0 y ≡ stop (entry_at G area 0 (get_or p.words (place + 1) 0)) 0 o.tables
    other = row_at 1 (omega arith)

    near : x / size_at G 1 ≡ y / size_at G 1
    near = subst (λ (s : ℕ). x / size_at G 1 ≡ (x + 1 * s) / size_at G 1) (size_zero G) (same_table G p few 0 x (suc n) (omega arith) some R.fits R.sound 1 (omega arith))

    far : w ≢ 0 → x / size_at G (o.left + given_at G p x) ≢ y / size_at G (o.left + given_at G p x)
    far m e =
        let h : o.left + given_at G p x ≡ 0 = omega (arith, R.last_level, given_none m) in
        let f : x / W ≡ y / W = subst (λ (s : ℕ). x / s ≡ y / s) (ap (size_at G) h ∙ size_zero G) e in
        omega (arith, f, add-mul-div_right x 1 (page_pos G))

    walked : walk_to G q 0 y ≡ walk_to G p 0 y
    walked = go (ℕ_discrete w 0)
      where
        alike : (i j : ℕ) → i ≤ top → j ≤ top → at_height o.tables i ≡ at_height o.tables j → i ≡ j
        alike i j a c z = by (ℕ_discrete i j) (dec_lt i j)
          where
            by : Dec (i ≡ j) → Dec (i < j) → i ≡ j
            by (yes r) s = r
            by (no r) (yes s) = absurd (stopped_apart E low refl i j (omega (arith, R.last_level)) s c z)
            by (no r) (no s) = absurd (stopped_apart E low refl j i (omega (arith, R.last_level)) (omega arith) a (sym z))

        go : Dec (w ≡ 0) → walk_to G q 0 y ≡ walk_to G p 0 y
        go (yes z) = ap (λ (r : Pool). walk_to G r 0 y) (same_pool z)
        go (no m) =
            let (b, k, f) = framed m in
            ap (λ (r : Pool). walk_to G r 0 y) (sym (removed_is m))
            ∙ walk_kept G Z p R.good x b k f y (λ z. R.undamaged 1 (omega arith) (sym (ap (λ (v : Walked). v.entry) other) ∙ z))
            (λ i j u v s t z. (alike i j v t (ap (λ (r : Walked). at_height r.tables i) (sym other) ∙ z), sym (region_above G {j = 1} {h = suc i} (omega arith) x y near))) (far m)

    place_is : place_of G q y ≡ suc place
    place_is =
        ap (λ (v : Walked). slot G (at_height v.tables 0) (index_at G y 0)) (walked ∙ other)
        ∙ ap (slot G t) (subst (λ (s : ℕ). index_at G (x + 1 * s) 0 ≡ i + 1) (size_zero G) (row_index G x 0 1 (omega (arith, R.fits)))) ∙ omega arith

    word_is : (j : ℕ) → get_or q.words (place_of G q y + j) 0 ≡ get_or p.words (place + suc j) 0
    word_is j =
        ap (λ (z : ℕ). get_or q.words (z + j) 0) place_is ∙ get_or-set_other p.words place (suc place + j) 0 0 (λ z. omega arith) ∙ ap (λ (z : ℕ). get_or p.words z 0) (omega arith)

    index_next : index_at G y 0 ≡ i + 1
    index_next = subst (λ (s : ℕ). index_at G (x + 1 * s) 0 ≡ i + 1) (size_zero G) (row_index G x 0 1 (omega (arith, R.fits)))

    row_next : Row G q y n
    row_next = record {
      good = ap (λ (k : ℕ). good_setup G p.numbers p.cut k (length p.list)) (length-set p.words place 0) ∙ R.good;
      aligned = subst (λ (z : ℕ). z % W ≡ 0) one_is (page_next G x R.aligned);
      in_space = omega (arith, R.in_space, suc-mul n W, one_is);
      fits = omega (arith, R.fits, index_next);
      sound = λ z. R.undamaged 1 (omega arith) (sym (ap (λ (v : Walked). v.entry) (walked ∙ other)) ∙ z);
      last_level = ap (λ (v : Walked). v.left) (walked ∙ other);
      undamaged = λ j m z. R.undamaged (suc j) (omega arith) (ap (entry_at G area 0) (sym (word_is j)) ∙ z);
      stays = ⊎_elim (λ f. inl (λ j m. word_is j ∙ f (suc j) (omega arith))) (λ (a, f). inr (omega (arith, index_next), λ z. f (sym (word_is n) ∙ z))) R.stays;
    }

-- so are all of them
pub row_removes : (G : Granule) → Sane G → (n : ℕ) (p : Pool) (x : ℕ) → Row G p x (suc n)
    → Removes G p x (x + suc n * page_size G) (in_use (part p.words (place_of G p x) (suc n))) 0 (with_words p (zeroed p.words (place_of G p x) (suc n)))
row_removes G Z zero p x R =
    let l = inside G Z p x zero R in
    let e : x + page_size G ≡ x + 1 * page_size G = omega (arith, suc-mul 0 (page_size G)) in
    subst (λ (y : ℕ). Removes G p x y (in_use (part p.words (place_of G p x) 1)) 0 (with_words p (zeroed p.words (place_of G p x) 1))) e
    (subst (λ (m : ℕ). Removes G p x (x + page_size G) m 0 (with_words p (zeroed p.words (place_of G p x) 1)))
    (sym (use_first p.words (place_of G p x) 0 (omega arith) ∙ omega (arith, use_nothing (set p.words (place_of G p x) 0) (suc (place_of G p x)))))
    (subst (λ (ws : List ℕ). Removes G p x (x + page_size G) (cond (eqb (get_or p.words (place_of G p x) 0) 0) 0 1) 0 (with_words p ws))
    (sym (zeroed_more p.words (place_of G p x) 0 l ∙ zeroed_nothing (set p.words (place_of G p x) 0) (suc (place_of G p x)) (omega (arith, length-set p.words (place_of G p x) 0))))
    (row_step G Z p x zero R)))
row_removes G Z (suc n) p x R =
    let l = inside G Z p x (suc n) R in
    let W = page_size G in
    let place = place_of G p x in
    let ws = set p.words place 0 in
    let y = x + 1 * W in
    let a : Removes G p x y (cond (eqb (get_or p.words place 0) 0) 0 1) 0 (with_words p ws) =
    subst (λ (z : ℕ). Removes G p x z (cond (eqb (get_or p.words place 0) 0) 0 1) 0 (with_words p ws)) (one_is G Z p x (suc n) R (omega arith)) (row_step G Z p x (suc n) R) in
    let b = row_removes G Z n (with_words p ws) y (row_next G Z p x (suc n) R (omega arith)) in
    let b' : Removes G (with_words p ws) y (y + suc n * W) (in_use (part ws (suc place) (suc n))) 0 (with_words p (zeroed ws (suc place) (suc n))) =
    subst (λ (i : ℕ). Removes G (with_words p ws) y (y + suc n * W) (in_use (part ws i (suc n))) 0 (with_words p (zeroed ws i (suc n)))) (place_is G Z p x (suc n) R (omega arith)) b in
    let e : y + suc n * W ≡ x + suc (suc n) * W = omega (arith, suc-mul (suc n) W, suc-mul 0 W) in
    subst (λ (z : ℕ). Removes G p x z (in_use (part p.words place (suc (suc n)))) 0 (with_words p (zeroed p.words place (suc (suc n))))) e
    (subst (λ (m : ℕ). Removes G p x (y + suc n * W) m 0 (with_words p (zeroed p.words place (suc (suc n)))))
    (sym (use_first p.words place (suc n) (omega arith)))
    (subst (λ (vs : List ℕ). Removes G p x (y + suc n * W) (cond (eqb (get_or p.words place 0) 0) 0 1 + in_use (part ws (suc place) (suc n))) 0 (with_words p vs))
    (sym (zeroed_more p.words place (suc n) l)) (removes_more G a b')))
