-- What the walks of a row come to, by what the code finds of them.
use Prim.Native.Nat.{ℕ, zero, suc, ◌+◌, ◌-◌, ◌≤◌, ◌<◌}
use mathlib.Core.Path.{◌≡◌, refl, ap, sym, ◌∙◌, subst}
use mathlib.Core.Logic.{◌≢◌, ⊎_elim}
use mathlib.Core.Bool.{Bool, true, false, cond, false≢true, true≢false}
use mathlib.Core.List.Memᴰ
use mathlib.Core.List.{List, [], ◌∷◌, ◌++◌, Memᴰ}
use native.Mathlib.Omega.{arith}
use lib.Dec.{ltb}
use lib.ListN.{length, get_or}
use lib.Seq.{drop-cons}
use borrow.Author.Tests.{ltb-true, ltb-false, lt-ltb, le-ltb}
use Rattle.laws.specs.Lists.{part}
use Rattle.path.specs.Geometry.{Granule, Sane, entries, size_at, physical}
use Rattle.path.specs.Areas.{Area, area_of, total}
use Rattle.path.specs.Laws.{good_setup_lem, table_ends}
use Rattle.path.specs.Numbers.{GoodSetup}
use Rattle.path.specs.Paths.{index_at, path_of}
use Rattle.path.specs.PathLaws.{path_of_at}
use Rattle.entry.specs.Words.{entry_at}
use Rattle.entry.specs.declared.Entry.{Entry}
use Rattle.entry.specs.declared.Entry.TheVariants.{Empty, Table, Frame, Damaged}
use Rattle.std.specs.Prelude.{Result, Ok, Err}
use Rattle.model.specs.declared.Walked.{Walked}
use Rattle.model.specs.declared.Refusal.{Refusal}
use Rattle.model.specs.declared.Refusal.TheVariants.{Overlap, Damage}
use Rattle.model.specs.Answers.{Pool}
use Rattle.model.specs.Walk.{slot, at_height, stop}
use Rattle.model.specs.Calls.{good_pool, walk_to}
use Rattle.model.proofs.DescentLaws.{clash}
use Rattle.model.specs.Ranges.{Probe, probe, any_ends, is_damaged, is_taken, Standing, on_way, on_ways}
use Rattle.model.proofs.RangeWalks.{walk_stopped, came_target, came_low, stopped_in}
use Rattle.lookup.specs.Reaches.{Came, came_again, came_word, came_place}
use Rattle.lookup.specs.declared.Reached.{Reached}
use Rattle.lookup.specs.declared.Lost.{Lost}
use Rattle.marks.specs.Marks.{Noted, noted, note_way}
use Rattle.marks.specs.MarkLaws.{Marked, Clash, clash_like, marked_like, Noting, agreed, clashes, Within, on_ways_append, note_walk}
use Rattle.rangemaps.specs.Rows.{row_walks, any_says, met_in, met_at, row_found}
use Rattle.ranges.specs.RowWalks.{row_above, row_here}
use Rattle.rangemaps.proofs.Rows.{row_ends, row_some, row_says, row_within}

-- the walks of a row, where those before it are noted, and what they come to: the tables that the first lacks or a refusal, and the marks then
pub data Probed (G : Granule) (p : Pool) (before : List Probe) (h a n : ℕ) : Result ℕ Refusal → List ℕ → Type 0 where
  finds_damage : {M : List ℕ} → any_ends is_damaged (row_walks G p h a n) ≡ true → Probed G p before h a n (Err Damage) M
  finds_clash : {M : List ℕ} → Clash (on_ways G p.numbers.levels (before ++ row_walks G p h a n)) → Probed G p before h a n (Err Damage) M
  finds_taken : {M : List ℕ}
      → any_ends is_damaged (row_walks G p h a n) ≡ false
      → any_ends is_taken (row_walks G p h a n) ≡ true
      → Marked G M (on_ways G p.numbers.levels (before ++ row_walks G p h a n))
      → Probed G p before h a n (Err Overlap) M
  finds_empty : {r : ℕ} {M : List ℕ}
      → r ≡ (walk_to G p h a).left - h
      → (walk_to G p h a).entry ≡ Empty
      → any_ends is_damaged (row_walks G p h a n) ≡ false
      → any_ends is_taken (row_walks G p h a n) ≡ false
      → Marked G M (on_ways G p.numbers.levels (before ++ row_walks G p h a n))
      → Probed G p before h a n (Ok r) M

undamaged : (e : Entry) → is_damaged e ≡ false → e ≢ Damaged
undamaged e q z = false≢true (sym q ∙ ap is_damaged z)

module _ (G : Granule) (Z : Sane G) (p : Pool) (good : good_pool G p ≡ true) (before : List Probe) (h a n : ℕ) (small : h ≤ G.large) (rows : 0 < n)
    (room : index_at G a h + n ≤ entries G) (near : a < physical) where
  abbrev levels : ℕ
  levels = p.numbers.levels

  abbrev area : Area
  area = area_of p.numbers

  abbrev o : Walked
  o = walk_to G p h a

  abbrev row : List Probe
  row = row_walks G p h a n

  S : GoodSetup G p.numbers p.cut (length p.words) (length p.list)
  S = good_setup_lem good

  few : levels ≤ 4
  few = omega (arith, S.numbers.not_more, Z.most_four)

  some : 0 < levels
  some = omega (arith, S.numbers.enough, Z.large_below)

  top : h ≤ levels - 1
  top = omega (arith, S.numbers.enough, Z.large_below)

  module _ (d : o.entry ≢ Damaged) where
    low : h ≤ o.left
    low = came_target (walk_stopped G p few h a d).came top

    left_top : o.left ≤ levels - 1
    left_top = came_low (walk_stopped G p few h a d).came

    table_in : (j : ℕ) → o.left ≤ j → j < levels → at_height o.tables j < total area
    table_in j u v = stopped_in (walk_stopped G p few h a d) (omega (arith, few)) refl Z (omega (arith, S.numbers.some_table)) j u (omega arith)

    -- the walks of the row after those before it come to the tables of the first after those before it
    within : Within (on_ways G levels (before ++ row)) (on_ways G levels (before ++ (probe a o ∷ [])))
    within q i =
        subst (Memᴰ q) (sym (on_ways_append G levels before (probe a o ∷ [])))
        (⊎_elim (λ j. Memᴰ.append_left (on_ways G levels (probe a o ∷ [])) j)
        (λ j. Memᴰ.append_right (on_ways G levels before) (row_within G p few h a n top some room d rows q j))
        (Memᴰ.append_cases (on_ways G levels before) (subst (Memᴰ q) (on_ways_append G levels before row) i)))

    first_in : Within (on_ways G levels (probe a o ∷ [])) (on_ways G levels row)
    unfolding row_walks on_ways
    first_in q i = go n rows
      where
        own : List Standing
        own = on_way G a o.tables o.left (levels - o.left)

        go : (n : ℕ) → 0 < n → Memᴰ q (on_ways G levels (row_walks G p h a n))
        go zero l = absurd (omega arith)
        go (suc n) l =
            ⊎_elim (λ j. Memᴰ.append_left (on_ways G levels (row_walks G p h (a + size_at G h) n)) j) (λ j. absurd (Memᴰ.not-nil j)) (Memᴰ.append_cases own i)

    within_back : Within (on_ways G levels (before ++ (probe a o ∷ []))) (on_ways G levels (before ++ row))
    within_back q i =
        subst (Memᴰ q) (sym (on_ways_append G levels before row))
        (⊎_elim (λ j. Memᴰ.append_left (on_ways G levels row) j) (λ j. Memᴰ.append_right (on_ways G levels before) (first_in q j))
        (Memᴰ.append_cases (on_ways G levels before) (subst (Memᴰ q) (on_ways_append G levels before (probe a o ∷ [])) i)))

    module _ {M : List ℕ} (K : Marked G M (on_ways G levels before)) (long : total area ≤ length M) where
      abbrev note : Noted
      note = note_way G M a o.tables o.left levels

      noting : Noting G (on_ways G levels (before ++ (probe a o ∷ []))) note
      noting = note_walk G Z levels few before (probe a o) K (omega (arith, left_top)) near (λ j u v. omega (arith, table_in j u v))

      no_note : note.fine ≡ false → Clash (on_ways G levels (before ++ row))
      no_note e = go note refl noting e
        where
          go : (x : Noted) → note ≡ x → Noting G (on_ways G levels (before ++ (probe a o ∷ []))) x → x.fine ≡ false → Clash (on_ways G levels (before ++ row))
          go x q (agreed L) e = absurd (true≢false e)
          go x q (clashes L) e = clash_like L within_back

      fine_note : note.fine ≡ true → Marked G note.marks (on_ways G levels (before ++ row))
      fine_note e = go note refl noting e
        where
          go : (x : Noted) → note ≡ x → Noting G (on_ways G levels (before ++ (probe a o ∷ []))) x → x.fine ≡ true → Marked G x.marks (on_ways G levels (before ++ row))
          go x q (agreed L) e = marked_like L within_back within
          go x q (clashes L) e = absurd (false≢true e)

      -- where the walk ended above the row
      above : h < o.left → note.fine ≡ true → Probed G p before h a n (met_at o.entry (o.left - h)) note.marks
      above l f = at o.entry refl
        where
          each : (such : Entry → Bool) → any_ends such row ≡ such o.entry
          each such = row_ends G p h such a n (such o.entry) rows (λ j m. ap (λ (w : Walked). such w.entry) (row_above G p few h a n top some room d l j m))

          at : (e : Entry) → o.entry ≡ e → Probed G p before h a n (met_at e (o.left - h)) note.marks
          at Damaged q = absurd (d q)
          at Empty q = finds_empty refl q (each is_damaged ∙ ap is_damaged q) (each is_taken ∙ ap is_taken q) (fine_note f)
          at (Table c) q = finds_taken (each is_damaged ∙ ap is_damaged q) (each is_taken ∙ ap is_taken q) (fine_note f)
          at (Frame b k) q = finds_taken (each is_damaged ∙ ap is_damaged q) (each is_taken ∙ ap is_taken q) (fine_note f)

      -- where it ended in the row's table
      abbrev words : List ℕ
      words = part p.words (slot G (at_height o.tables h) (index_at G a h)) n

      here : o.left ≡ h → note.fine ≡ true → Probed G p before h a n (met_in G area h (Ok 0) words) note.marks
      unfolding met_in
      here e f = at (any_says is_damaged G area h words) refl (any_says is_taken G area h words) refl
        where
          t : ℕ
          t = at_height o.tables h

          inside : slot G t (index_at G a h) + n ≤ length p.words
          inside = omega (arith, S.numbers.words_are, table_ends (entries G) (table_in h (omega arith) (omega (arith, top, some))))

          each : (such : Entry → Bool) → any_ends such row ≡ any_says such G area h words
          each such = row_says G p h such area p.words a n (slot G t (index_at G a h)) inside (λ j m. ap (λ (w : Walked). w.entry) (row_here G p few h a n top some room d e j m))

          untaken : any_ends is_taken row ≡ false → is_taken o.entry ≡ false
          untaken q = no (is_taken o.entry) refl
            where
              no : (y : Bool) → is_taken o.entry ≡ y → y ≡ false
              no true z = absurd (true≢false (sym (row_some G p h is_taken a n rows z) ∙ q))
              no false z = refl

          empty : (x : Entry) → x ≢ Damaged → is_taken x ≡ false → x ≡ Empty
          empty Empty u v = refl
          empty Damaged u v = absurd (u refl)
          empty (Table c) u v = absurd (true≢false v)
          empty (Frame b k) u v = absurd (true≢false v)

          at : (x : Bool) → any_says is_damaged G area h words ≡ x → (y : Bool) → any_says is_taken G area h words ≡ y
              → Probed G p before h a n (cond x (Err Damage) (cond y (Err Overlap) (Ok 0))) note.marks
          at true q y z = finds_damage (each is_damaged ∙ q)
          at false q true z = finds_taken (each is_damaged ∙ q) (each is_taken ∙ z) (fine_note f)
          at false q false z = let none : 0 ≡ o.left - h = omega arith in finds_empty none (empty o.entry d (untaken (each is_taken ∙ z))) (each is_damaged ∙ q) (each is_taken ∙ z) (fine_note f)

  -- what is found of a row says what its walks come to; where it is damage the marks do not matter
  pub row_probed : {M N : List ℕ} {r : Result ℕ Refusal} → Marked G M (on_ways G levels before) → total area ≤ length M → r ≡ row_found G p M h a n
      → (r ≢ Err Damage → N ≡ (note_way G M a o.tables o.left levels).marks) → Probed G p before h a n r N
  unfolding row_found
  row_probed {M} {N} {r} K long e marks = with_marks (subst (λ (x : Result ℕ Refusal). Probed G p before h a n x note.marks) (sym e) (go (is_damaged o.entry) refl)) marks
    where
      note : Noted
      note = note_way G M a o.tables o.left levels

      words : List ℕ
      words = part p.words (slot G (at_height o.tables h) (index_at G a h)) n

      found : Bool → Bool → Bool → Result ℕ Refusal
      found x y z = cond x (Err Damage) (cond y (cond z (met_at o.entry (o.left - h)) (met_in G area h (Ok 0) words)) (Err Damage))

      Goal : Result ℕ Refusal → Type 0
      Goal x = Probed G p before h a n x note.marks

      go : (x : Bool) → is_damaged o.entry ≡ x → Goal (found x note.fine (ltb h o.left))
      go true q = finds_damage (row_some G p h is_damaged a n rows q)
      go false q = on note.fine refl (ltb h o.left) refl
        where
          d : o.entry ≢ Damaged
          d = undamaged o.entry q

          on : (y : Bool) → note.fine ≡ y → (z : Bool) → ltb h o.left ≡ z → Goal (found false y z)
          on false f z l = finds_clash (no_note d K long f)
          on true f true l = above d K long (ltb-true h o.left l) f
          on true f false l = here d K long (omega (arith, low d, ltb-false h o.left l)) f

      with_marks : {x : Result ℕ Refusal} → Probed G p before h a n x note.marks → (x ≢ Err Damage → N ≡ note.marks) → Probed G p before h a n x N
      with_marks (finds_damage q) m = finds_damage q
      with_marks (finds_clash q) m = finds_clash q
      with_marks (finds_taken u v w) m = subst (Probed G p before h a n (Err Overlap)) (sym (m (λ z. cc))) (finds_taken u v w)
      with_marks (finds_empty {r} u v w x y) m = subst (Probed G p before h a n (Ok r)) (sym (m (λ z. cc))) (finds_empty u v w x y)

-- where a row is not refused, its height and the tables that it lacks are heights of a path
pub found_few : (G : Granule) (p : Pool) → p.numbers.levels ≤ 4 → (h a : ℕ) (M : List ℕ) (n : ℕ) {r : ℕ} → h ≤ p.numbers.levels - 1 → Ok r ≡ row_found G p M h a n → h + r ≤ 3
unfolding row_found met_in
found_few G p few h a M n {r} top e =
    go (is_damaged o.entry) refl (note_way G M a o.tables o.left p.numbers.levels).fine (ltb h o.left) (any_says is_damaged G (area_of p.numbers) h words) (any_says is_taken G (area_of p.numbers) h words) e
  where
    o : Walked
    o = walk_to G p h a

    words : List ℕ
    words = part p.words (slot G (at_height o.tables h) (index_at G a h)) n

    met : (x : Entry) → o.left ≤ p.numbers.levels - 1 → Ok r ≡ met_at x (o.left - h) → h + r ≤ 3
    met Damaged l e = clash (cc)
    met Empty l e = let z : r ≡ o.left - h = cc in omega arith
    met (Table c) l e = clash (cc)
    met (Frame b k) l e = clash (cc)

    go : (d : Bool) → is_damaged o.entry ≡ d → (y z u v : Bool) → Ok r ≡ cond d (Err Damage) (cond y (cond z (met_at o.entry (o.left - h)) (cond u (Err Damage) (cond v (Err Overlap) (Ok 0)))) (Err Damage)) → h + r ≤ 3
    go true q y z u v e = clash (cc)
    go false q false z u v e = clash (cc)
    go false q true true u v e = met o.entry (came_low (walk_stopped G p few h a (undamaged o.entry q)).came) e
    go false q true false true v e = clash (cc)
    go false q true false false true e = clash (cc)
    go false q true false false false e = let z : r ≡ 0 = cc in omega arith

-- ---- what the code finds of a row, by where the first walk ended

module _ (G : Granule) (p : Pool) (h a : ℕ) (M : List ℕ) (n : ℕ) {e : Entry} {left : ℕ} {way : List ℕ} (q : stop e left way ≡ walk_to G p h a) where
  abbrev says : Walked → Result ℕ Refusal
  says o =
      cond (is_damaged o.entry) (Err Damage)
      (cond (note_way G M a o.tables o.left p.numbers.levels).fine
      (cond (ltb h o.left) (met_at o.entry (o.left - h))
      (met_in G (area_of p.numbers) h (Ok 0) (part p.words (slot G (at_height o.tables h) (index_at G a h)) n)))
      (Err Damage))

  found_by : row_found G p M h a n ≡ says (stop e left way)
  unfolding row_found
  found_by = sym (ap says q)

  pub found_damaged : is_damaged e ≡ true → Err Damage ≡ row_found G p M h a n
  found_damaged d = sym (found_by ∙ rw d)

  module _ {N : List ℕ} where
    pub found_clash : noted false N ≡ note_way G M a way left p.numbers.levels → Err Damage ≡ row_found G p M h a n
    found_clash f = sym (found_by ∙ rw (← f) (go (is_damaged e)))
      where
        go : (y : Bool) → ◌≡◌ {A = Result ℕ Refusal} (cond y (Err Damage) (Err Damage)) (Err Damage)
        go true = refl
        go false = refl

    module _ (f : noted true N ≡ note_way G M a way left p.numbers.levels) where
      pub found_above : h < left → {r : Result ℕ Refusal} → r ≡ met_at e (left - h) → r ≡ row_found G p M h a n
      found_above l z = z ∙ sym (found_by ∙ rw (← f, lt-ltb h left l) (go e))
        where
          go : (x : Entry) → cond (is_damaged x) (Err Damage) (met_at x (left - h)) ≡ met_at x (left - h)
          go Damaged = refl
          go Empty = refl
          go (Table c) = refl
          go (Frame b k) = refl

      pub found_here : left ≤ h → {r : Result ℕ Refusal} → r ≡ met_in G (area_of p.numbers) h (Ok 0) (part p.words (slot G (at_height way h) (index_at G a h)) n) → (is_damaged e ≡ true → r ≡ Err Damage)
          → r ≡ row_found G p M h a n
      found_here l {r} z d = sym (found_by ∙ rw (← f, le-ltb h left l, ← z) (go (is_damaged e) d))
        where
          go : (y : Bool) → (y ≡ true → r ≡ Err Damage) → cond y (Err Damage) r ≡ r
          go true d = sym (d refl)
          go false d = refl

      pub found_marks : N ≡ (note_way G M a (walk_to G p h a).tables (walk_to G p h a).left p.numbers.levels).marks
      found_marks = ap (λ (x : Noted). x.marks) f ∙ ap (λ (o : Walked). (note_way G M a o.tables o.left p.numbers.levels).marks) q

-- the first word of a row is damaged
pub first_damaged : (G : Granule) (area : Area) (h : ℕ) (ws : List ℕ) (i n : ℕ) → 0 < n → i < length ws → is_damaged (entry_at G area h (get_or ws i 0)) ≡ true
    → met_in G area h (Ok 0) (part ws i n) ≡ Err Damage
unfolding met_in any_says part
first_damaged G area h ws i zero l m d = absurd (omega arith)
first_damaged G area h ws i (suc n) l m d = rw (drop-cons ws i 0 m, d)

-- ---- the place of a row in a table that is there

-- a walk that ends at an empty entry of its height does not come to a table again,
pub row_came : (G : Granule) (p : Pool) (h a : ℕ) {l : Lost} {way : List ℕ} → Came G p h a (Err l) way → (walk_to G p h a).entry ≡ Empty → ⊥
row_came G p h a C e = let z : Damaged ≡ Empty = ap (λ (o : Walked). o.entry) (came_again C) ∙ e in cc

-- and the place of that entry
pub row_place : (G : Granule) (p : Pool) (h a : ℕ) {r : Reached} {way : List ℕ} → Came G p h a (Ok r) way → (walk_to G p h a).left ≡ h → h < 4
    → r.place ≡ slot G (at_height (walk_to G p h a).tables h) (index_at G a h)
row_place G p h a {r} {way} C l low =
    let q = came_word C refl in
    let left_is : r.height ≡ h = ap (λ (o : Walked). o.left) q ∙ l in
    came_place C
    ∙ (λ i. slot G (at_height (ap (λ (o : Walked). o.tables) q i) (left_is i)) (at_height (path_of G a) (left_is i)))
    ∙ ap (slot G (at_height (walk_to G p h a).tables h)) (path_of_at G a {h = h} low)
