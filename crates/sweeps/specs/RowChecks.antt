-- Laws of the check of a row: where none of its words is damaged, the walks of all its pages are checked with the first.
use Rattle.std.specs.Prelude.{ℕ, zero, suc, ◌+◌, ◌-◌, ◌*◌, ◌/◌, ◌%◌, ◌≤◌, ◌<◌, ◌≡◌, refl, ◌≢◌, Bool, true, false, cond, ◌||◌, not, Option, Some, None, ltb, eqb, length, get_or}
use Rattle.std.proofs.Common.{ap, sym, ◌∙◌, subst, true≢false, suc-mul, mul-le-mul_right, le-div_iff_mul-le, lt_of_mul-lt-mul_right, arith, le-leb}
use Rattle.std.proofs.lemmas.Bool.{false≢true}
use mathlib.Core.List.{List, [], ◌∷◌, ◌++◌, Memᴰ}
use Rattle.std.proofs.Math.Decide.{ℕ_discrete}
use Rattle.laws.specs.ListLaws.{get_d_part, length_part}
use Rattle.path.specs.Geometry.{Granule, Sane, entries, page_size, size_at}
use Rattle.path.specs.Areas.{Area, area_of, total}
use Rattle.path.specs.Paths.{index_at, base_at}
use Rattle.path.specs.PathLaws.{index_below}
use Rattle.path.specs.RegionLaws.{aligned_base}
use Rattle.path.specs.Laws.{good_setup_lem, page_pos, size_zero, table_ends}
use Rattle.entry.specs.Words.{frame_at, entry_at}
use Rattle.entry.specs.declared.Entry.{Entry}
use Rattle.entry.specs.declared.Entry.TheVariants.{Empty, Table, Frame, Damaged}
use Rattle.model.specs.declared.Walked.{Walked}
use Rattle.model.specs.Answers.{Pool}
use Rattle.model.specs.Walk.{slot, at_height, stop}
use Rattle.model.specs.Calls.{walk_to}
use Rattle.model.specs.Ranges.{pages_from, Probe, page_walk, page_walks, is_damaged, on_ways, cut_at, any_cut_by}
use Rattle.model.proofs.RangeLaws.{pages_from_lem}
use Rattle.model.proofs.RangeWalks.{walk_stopped, stopped_in}
use Rattle.model.proofs.RangeUnmapLaws.{few_levels}
use Rattle.marks.specs.Marks.{Noted, noted, note_way}
use Rattle.marks.specs.MarkLaws.{Marked, Noting, agreed, clashes}
use Rattle.model.proofs.DescentLaws.{clash}
use Rattle.ranges.specs.Stretches.{stretch_at}
use Rattle.ranges.specs.RowWalks.{same_table, row_here}
use Rattle.sweeps.specs.Parts.{Rest, walks_say, Meets, cuts, is_fine, misfits_in, row_of, Beyond}
use Rattle.sweeps.specs.Pages.{pages_between}
use Rattle.sweeps.specs.Removing.{pages_whole}
use Rattle.sweeps.specs.Checking.{Checked, Like, mem_map, cuts_alike, first_page, walk_spoils, checks_some, cuts_lem, met_sound, noting, turn_on}
use Rattle.sweeps.specs.Clearing.{stretch_room, stretch_fits}

-- ---- words

pub fine_entry : (G : Granule) (area : Area) (w : ℕ) → is_damaged (entry_at G area 0 w) ≡ not (is_fine G w)
unfolding entry_at
fine_entry G area w = go (eqb w 0) (frame_at G 0 w)
  where
    go : (y : Bool) (e : Entry) → is_damaged (cond y Empty e) ≡ not (y || not (is_damaged e))
    go true e = refl
    go false Empty = refl
    go false (Table c) = refl
    go false (Frame b k) = refl
    go false Damaged = refl

damaged_is : (e : Entry) → is_damaged e ≡ true → e ≡ Damaged
damaged_is Damaged z = refl
damaged_is Empty z = absurd (false≢true z)
damaged_is (Table c) z = absurd (false≢true z)
damaged_is (Frame b k) z = absurd (false≢true z)

misfits_none : (G : Granule) (l : List ℕ) → misfits_in G l ≡ 0 → (i : ℕ) → i < length l → is_fine G (get_or l i 0) ≡ true
unfolding misfits_in
misfits_none G [] e i m = absurd (omega arith)
misfits_none G (w ∷ l) e i m = go (is_fine G w) refl e i m (λ f j n. misfits_none G l f j n)
  where
    go : (y : Bool) → is_fine G w ≡ y → cond y 0 1 + misfits_in G l ≡ 0 → (i : ℕ) → i < suc (length l)
        → (misfits_in G l ≡ 0 → (j : ℕ) → j < length l → is_fine G (get_or l j 0) ≡ true) → is_fine G (get_or (w ∷ l) i 0) ≡ true
    go true z e zero m ih = z
    go true z e (suc i) m ih = ih (omega arith) i (omega arith)
    go false z e i m ih = absurd (omega arith)

misfits_some : (G : Granule) (l : List ℕ) → misfits_in G l ≢ 0 → (i : ℕ) × (i < length l) × (is_fine G (get_or l i 0) ≡ false)
unfolding misfits_in
misfits_some G [] n = absurd (n refl)
misfits_some G (w ∷ l) n = go (is_fine G w) refl n (λ f. misfits_some G l f)
  where
    go : (y : Bool) → is_fine G w ≡ y → cond y 0 1 + misfits_in G l ≢ 0 → (misfits_in G l ≢ 0 → (i : ℕ) × (i < length l) × (is_fine G (get_or l i 0) ≡ false))
        → (i : ℕ) × (i < suc (length l)) × (is_fine G (get_or (w ∷ l) i 0) ≡ false)
    go true z n ih = let (i, m, f) = ih (λ e. n (omega arith)) in (suc i, omega arith, f)
    go false z n ih = (0, omega arith, z)

stretch_some : (G : Granule) (x left : ℕ) → page_size G ≤ left → 0 < stretch_at G x left 0
unfolding stretch_at
stretch_some G x left l = go (ltb (left / size_at G 0) (entries G - index_at G x 0))
  where
    fit : 0 < left / size_at G 0
    fit = subst (λ (s : ℕ). 0 < left / s) (sym (size_zero G)) ((le-div_iff_mul-le {k = page_size G} {x = 1} {y = left} (page_pos G)).1 (omega (arith, suc-mul 0 (page_size G))))

    go : (y : Bool) → 0 < cond y (left / size_at G 0) (entries G - index_at G x 0)
    go true = fit
    go false = omega (arith, index_below G x 0)

-- ---- a row

module _ (G : Granule) (Z : Sane G) (p : Pool) (a len : ℕ) (R : Rest G p a (a + len)) {x : ℕ} {M : List ℕ} {was : Bool} (C : Checked G p a len x M was) (more : x < a + len)
    {frame : Bool} {left : ℕ} {way : List ℕ} (K : Meets (walk_to G p 0 x) frame left way) where
  abbrev W : ℕ
  W = page_size G

  abbrev end : ℕ
  end = a + len

  abbrev o : Walked
  o = walk_to G p 0 x

  abbrev n : ℕ
  n = stretch_at G x (end - x) 0

  abbrev t : ℕ
  t = at_height way 0

  sound : o.entry ≢ Damaged
  sound = met_sound K

  few : p.numbers.levels ≤ 4
  few = few_levels G Z p R.good

  some : 0 < p.numbers.levels
  some = omega (arith, (good_setup_lem R.good).numbers.enough, Z.large_below)

  pages : (i : ℕ) × (end ≡ x + i * W)
  pages = pages_between G x end C.whole R.ends (omega arith)

  page_left : W ≤ end - x
  page_left = go pages.0 pages.1
    where
      go : (i : ℕ) → end ≡ x + i * W → W ≤ end - x
      go zero e = absurd (omega arith)
      go (suc i) e = omega (arith, suc-mul i W)

  row_some : 0 < n
  row_some = stretch_some G x (end - x) page_left

  row_fits : x + n * W ≤ end
  row_fits = let e : n * W ≤ end - x = subst (λ (s : ℕ). n * s ≤ end - x) (size_zero G) (stretch_fits G x (end - x) 0) in omega arith

  row_further : x < x + n * W
  row_further = omega (arith, mul-le-mul_right {m = 1} {n = n} W row_some, suc-mul 0 W, page_pos G)

  module _ (z : left ≡ 0) where
    low : o.left ≡ 0
    low = K.left_is ∙ z

    abbrev place : ℕ
    place = slot G t (index_at G x 0)

    table_is : at_height o.tables 0 ≡ t
    table_is = ap (λ (w : List ℕ). at_height w 0) K.tables_are

    pub row_in : t < total (area_of p.numbers)
    row_in =
        subst (λ (u : ℕ). u < total (area_of p.numbers)) table_is
        (stopped_in (walk_stopped G p few 0 x sound) (omega (arith, few, some)) refl Z (omega (arith, good_setup_lem R.good)) 0 (omega (arith, low)) (omega arith))

    size : length (row_of G p.words t x end) ≡ n
    size = length_part p.words place n (omega (arith, (good_setup_lem R.good).numbers.words_are, stretch_room G x (end - x) 0, table_ends (entries G) row_in))

    at : (j : ℕ) → j < n → walk_to G p 0 (x + j * W) ≡ stop (entry_at G (area_of p.numbers) 0 (get_or (row_of G p.words t x end) j 0)) 0 o.tables
    at j m =
        subst (λ (s : ℕ). walk_to G p 0 (x + j * s) ≡ stop (entry_at G (area_of p.numbers) 0 (get_or (row_of G p.words t x end) j 0)) 0 o.tables) (size_zero G)
        (row_here G p few 0 x n (omega arith) some (stretch_room G x (end - x) 0) sound low j m
        ∙ ap (λ (u : ℕ). stop (entry_at G (area_of p.numbers) 0 (get_or p.words (slot G u (index_at G x 0) + j) 0)) 0 o.tables) table_is
        ∙ ap (λ (w : ℕ). stop (entry_at G (area_of p.numbers) 0 w) 0 o.tables) (sym (get_d_part p.words place n j m)))

    page_is : (y : ℕ) → Memᴰ y (pages_from G x n) → (j : ℕ) × (j < n) × (y ≡ x + j * W)
    page_is y i =
        let (u, v, w) = pages_from_lem G n x y C.whole i in
        let (j, e) = pages_between G x y C.whole w u in
        (j, lt_of_mul-lt-mul_right W {m = j} {n = n} (omega arith), e)

    -- a damaged word ends it
    fault_spoils : misfits_in G (row_of G p.words t x end) ≢ 0 → 8 ≡ walks_say G p a len
    fault_spoils f =
        let (j, m, e) = misfits_some G (row_of G p.words t x end) f in
        let m' : j < n = omega (arith, m, size) in
        walk_spoils G Z p a len R (x + j * W) (pages_whole G j x C.whole) (omega (arith, C.next_is)) (omega (arith, row_fits, mul-le-mul_right {m = suc j} {n = n} W m', suc-mul j W, page_pos G))
        (ap (λ (w : Walked). w.entry) (at j m') ∙ damaged_is _ (fine_entry G (area_of p.numbers) _ ∙ ap not e))

    -- a page is never cut
    uncut : (y : ℕ) → y % W ≡ 0 → a ≤ y → y + W ≤ end → (e : Entry) → cut_at G a len y 0 e ≡ false
    uncut y w u v (Frame b k) =
        let f : base_at G y 0 ≡ y = aligned_base G y 0 (subst (λ (s : ℕ). y % s ≡ 0) (sym (size_zero G)) w) in
        rw (f, size_zero G, le-leb a y u, le-leb (y + W) end v)
    uncut y w u v Empty = refl
    uncut y w u v (Table c) = refl
    uncut y w u v Damaged = refl

    pub row_on : misfits_in G (row_of G p.words t x end) ≡ 0 → {N : List ℕ} → length N ≡ length M → noted true N ≡ note_way G M x way left p.numbers.levels
        → {now : Bool} → (was || cut_at G a len x o.left o.entry) ≡ now → Checked G p a len (x + n * W) N now
    row_on f {N} long e {now} d = go (note_way G M x way left p.numbers.levels) (noting G Z p a len R C more K) e
      where
        like : (y : ℕ) → Memᴰ y (pages_from G x n) → Like G Z p a len R C more sound y
        like y i =
            let (j, m, q) = page_is y i in (
              ap (λ (v : ℕ). (walk_to G p 0 v).tables) q ∙ ap (λ (w : Walked). w.tables) (at j m),
              ap (λ (v : ℕ). (walk_to G p 0 v).left) q ∙ ap (λ (w : Walked). w.left) (at j m) ∙ sym low,
              subst (λ (h : ℕ). x / size_at G (suc h) ≡ y / size_at G (suc h)) (sym low) (subst (λ (v : ℕ). x / size_at G 1 ≡ v / size_at G 1) (sym q)
                  (subst (λ (s : ℕ). x / size_at G 1 ≡ (x + j * s) / size_at G 1) (size_zero G) (same_table G p few 0 x n (omega arith) some (stretch_room G x (end - x) 0) sound j m))),
              λ b. sound_at j m (ap (λ (v : ℕ). (walk_to G p 0 v).entry) (sym q) ∙ b),
            )
          where
            sound_at : (j : ℕ) → j < n → (walk_to G p 0 (x + j * W)).entry ≢ Damaged
            sound_at j m b =
                true≢false (sym (ap is_damaged (sym (ap (λ (w : Walked). w.entry) (at j m)) ∙ b))
                ∙ fine_entry G (area_of p.numbers) (get_or (row_of G p.words t x end) j 0) ∙ ap not (misfits_none G (row_of G p.words t x end) f j (omega (arith, size))))

        cut_none : (y : ℕ) → Memᴰ y (pages_from G x n) → cut_at G a len y (walk_to G p 0 y).left (walk_to G p 0 y).entry ≡ false
        cut_none y i =
            let (j, m, q) = page_is y i in
            ap (λ (h : ℕ). cut_at G a len y h (walk_to G p 0 y).entry) (ap (λ (v : ℕ). (walk_to G p 0 v).left) q ∙ ap (λ (w : Walked). w.left) (at j m))
            ∙ uncut y (subst (λ (v : ℕ). v % W ≡ 0) (sym q) (pages_whole G j x C.whole)) (omega (arith, C.next_is, q)) (omega (arith, q, row_fits, mul-le-mul_right {m = suc j} {n = n} W m, suc-mul j W)) (walk_to G p 0 y).entry

        cuts : any_cut_by G a len (page_walks G p (pages_from G x n)) ≡ cut_at G a len x o.left o.entry
        cuts =
            let (k, q) = first_page G x n row_some in
            ap (λ (s : List ℕ). any_cut_by G a len (page_walks G p s)) q
            ∙ cuts_alike G a len false (page_walk G p x) (page_walks G p k) (λ v i.
            let (y, m, z) = mem_map (page_walk G p) (x ∷ k) v i in
            ap (λ (s : Probe). cut_at G a len s.at s.end.left s.end.entry) z ∙ cut_none y (subst (Memᴰ y) (sym q) m))
            ∙ sym (cut_none x (subst (Memᴰ x) (sym q) (Memᴰ.head refl)))

        go : (m : Noted) → Noting G (on_ways G p.numbers.levels (page_walks G p (pages_from G a C.pages) ++ (page_walk G p x ∷ []))) m → noted true N ≡ m → Checked G p a len (x + n * W) N now
        go m (agreed Q) e =
            checks_some G Z p a len R C more sound n row_some like cuts (long ∙ C.long) (subst (λ (y : List ℕ). Marked G y (on_ways G p.numbers.levels (page_walks G p (pages_from G a C.pages) ++ (page_walk G p x ∷ [])))) (sym (ap (λ (y : Noted). y.marks) e)) Q) d
        go m (clashes Q) e = clash (cc (ap (λ (y : Noted). y.fine) e))

  -- ---- where the walks go on

  module _ {next : Option ℕ} (B : Beyond G p.words t x left end next) where
    pub turn_fault : next ≡ None → 8 ≡ walks_say G p a len
    turn_fault e = go (ℕ_discrete left 0)
      where
        go : Dec (left ≡ 0) → 8 ≡ walks_say G p a len
        go (yes z) = by (ℕ_discrete (misfits_in G (row_of G p.words t x end)) 0)
          where
            by : Dec (misfits_in G (row_of G p.words t x end) ≡ 0) → 8 ≡ walks_say G p a len
            by (yes f) = let q = B.past_row z f in clash (cc)
            by (no f) = fault_spoils z f
        go (no z) = let q = B.past_region (omega arith) in clash (cc)

    pub turn_next : {y : ℕ} → next ≡ Some y → {N : List ℕ} → length N ≡ length M → noted true N ≡ note_way G M x way left p.numbers.levels
        → {base size : ℕ} → base ≡ base_at G x left → size ≡ size_at G left → {now : Bool} → (was || cuts frame base size a end) ≡ now
        → Checked G p a len y N now × (x < y) × (y ≤ end)
    turn_next {y} m {N} long e {base} {size} b s {now} c = go (ℕ_discrete left 0)
      where
        Goal : ℕ → Type 0
        Goal y = Checked G p a len y N now × (x < y) × (y ≤ end)

        d : (was || cut_at G a len x o.left o.entry) ≡ now
        d =
            let h : o.left ≡ left = K.left_is in
            ap (λ (u : Bool). was || u) (cuts_lem G a len x K ∙ sym (λ i. cuts frame ((b ∙ ap (base_at G x) (sym h)) i) ((s ∙ ap (size_at G) (sym h)) i) a end)) ∙ c

        at : {z : ℕ} → next ≡ Some z → z ≡ y
        at q = cc

        go : Dec (left ≡ 0) → Goal y
        go (yes z) = by (ℕ_discrete (misfits_in G (row_of G p.words t x end)) 0)
          where
            by : Dec (misfits_in G (row_of G p.words t x end) ≡ 0) → Goal y
            by (yes f) = subst Goal (at (B.past_row z f)) (row_on z f long e d, row_further, row_fits)
            by (no f) = let q = B.faulty z f in clash (cc)
        go (no z) = subst Goal (at (B.past_region (omega arith))) (turn_on G Z p a len R C more K long e d)
