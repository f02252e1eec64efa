-- The walks of a row: those of one table.
use Prim.Native.Nat.{ℕ, zero, suc, ◌+◌, ◌-◌, ◌*◌, ◌≤◌, ◌<◌}
use mathlib.Core.Path.{◌≡◌, refl, ap, sym, ◌∙◌, subst}
use mathlib.Core.Logic.{◌≢◌, ⊎_elim}
use mathlib.Core.Bool.{Bool, true, false, ◌||◌}
use mathlib.Core.List.Memᴰ
use mathlib.Core.List.Memᴰ.{head as here}
use mathlib.Core.List.{List, [], ◌∷◌, Memᴰ}
use native.Mathlib.Nat.{suc-mul}
use native.Mathlib.Omega.{arith}
use lib.ListN.{length, get_or}
use lib.Seq.{get_or-set_other, drop-cons}
use Rattle.laws.specs.Lists.{part, all_zero}
use Rattle.laws.specs.ListLaws.{all_zero_at}
use Rattle.path.specs.Geometry.{Granule, Sane, entries, size_at}
use Rattle.path.specs.Areas.{Area, area_of}
use Rattle.path.specs.Laws.{size_height}
use Rattle.path.specs.Paths.{index_at, base_at, path_of}
use Rattle.path.specs.RegionLaws.{region_above, region_base}
use Rattle.entry.specs.Words.{entry_at}
use Rattle.entry.specs.declared.Entry.{Entry}
use Rattle.entry.specs.declared.Entry.TheVariants.{Damaged}
use Rattle.model.specs.declared.Walked.{Walked}
use Rattle.model.specs.Answers.{Pool}
use Rattle.model.specs.Walk.{at_height, no_way}
use Rattle.model.specs.Calls.{walk_to}
use Rattle.model.specs.Ledger.{region}
use Rattle.model.specs.Ranges.{Probe, probe, piece_walks, any_ends, Standing, standing, on_ways}
use Rattle.model.proofs.RangeWalks.{came_low, came_kept, stopped_long, walk_stopped}
use Rattle.model.specs.RangeWalks.{Came, Stopped}
use Rattle.model.specs.RangeWalks as walks
use Rattle.model.proofs.RangeMapped.{ways_has}
use Rattle.model.specs.RangeMapped.{standing_at}
use Rattle.marks.specs.MarkLaws.{Within, ways_from, Placed}
use Rattle.ranges.specs.Stretches.{in_row}
use Rattle.ranges.specs.RowWalks.{same_table, row_low, row_left, row_tables}
use Rattle.rangemaps.specs.Rows.{row_walks, any_says}

-- ---- the tables of a walk that is not damaged

module _ {G : Granule} {area : Area} {ws : List ℕ} {target : ℕ} {path : List ℕ} where
  -- the places below stay
  came_below : {h : ℕ} {way : List ℕ} {t e : ℕ} {seen : List ℕ} {u : ℕ} → Came G area ws target path h way t e seen u
      → h < 4 → (j : ℕ) → j < e → at_height seen j ≡ at_height way j
  came_below walks.there l j m = refl
  came_below {way = way} {t} (walks.further {h = h} r i n C) l j m =
      let low = came_low C in
      came_below C (omega arith) j m ∙ get_or-set_other way (3 - suc h) (3 - j) t 0 (λ z. omega arith)

none_at : (j : ℕ) → at_height no_way j ≡ 0
unfolding all_zero
none_at j = all_zero_at no_way refl (3 - j)

module _ (G : Granule) (p : Pool) (few : p.numbers.levels ≤ 4) where
  pub walk_placed : (target x : ℕ) → 0 < p.numbers.levels → (walk_to G p target x).entry ≢ Damaged → Placed p.numbers.levels (probe x (walk_to G p target x))
  walk_placed target x some d = record {
    places = stopped_long E (omega arith) refl;
    below = λ j l m. at j (λ z. omega arith) m ∙ came_below E.came (omega arith) j l ∙ none_at j;
    above = λ j l m. at j (λ z. omega (arith, came_low E.came)) m ∙ came_kept E.came j (omega arith) m ∙ none_at j;
  }
    where
      o : Walked
      o = walk_to G p target x

      E : Stopped G (area_of p.numbers) p.words target (path_of G x) (p.numbers.levels - 1) no_way 0 o
      E = walk_stopped G p few target x d

      at : (j : ℕ) → j ≢ o.left → j < 4 → at_height o.tables j ≡ at_height E.seen j
      at j n m =
          let low = came_low E.came in
          ap (λ (w : List ℕ). at_height w j) E.tables_are ∙ get_or-set_other E.seen (3 - o.left) (3 - j) E.table 0 (λ z. n (omega arith))

-- ---- rows of walks

-- the walks of the pieces of a row
pub row_pieces : (G : Granule) → Sane G → (p : Pool) (h k a b n : ℕ) → h ≤ G.large → piece_walks G p (in_row (size_at G h) k a b n) ≡ row_walks G p h a n
unfolding in_row row_walks
row_pieces G Z p h k a b zero l = refl
row_pieces G Z p h k a b (suc n) l =
    λ i. probe a (walk_to G p (size_height G Z l i) a) ∷ row_pieces G Z p h k (a + size_at G h) (b + size_at G h) n l i

module _ (G : Granule) (p : Pool) (h : ℕ) where
  abbrev s : ℕ
  s = size_at G h

  abbrev at : ℕ → ℕ → Probe
  at a j = probe (a + j * s) (walk_to G p h (a + j * s))

  at_next : (a j : ℕ) → at (a + s) j ≡ at a (suc j)
  at_next a j = ap (λ (x : ℕ). probe x (walk_to G p h x)) (omega (arith, suc-mul j s))

  at_first : (a : ℕ) → probe a (walk_to G p h a) ≡ at a 0
  at_first a = ap (λ (x : ℕ). probe x (walk_to G p h x)) (omega arith)

  pub in_row_lem : (a n : ℕ) (w : Probe) → Memᴰ w (row_walks G p h a n) → (j : ℕ) × (j < n) × (w ≡ at a j)
  unfolding row_walks
  in_row_lem a zero w i = absurd (Memᴰ.not-nil i)
  in_row_lem a (suc n) w i =
      ⊎_elim (λ e. (0, omega arith, e ∙ at_first a)) (λ m. let (j, l, e) = in_row_lem (a + s) n w m in (suc j, omega arith, e ∙ at_next a j)) (Memᴰ.cases_cons i)

  -- the first of a row
  pub row_first : (a n : ℕ) → 0 < n → Memᴰ (probe a (walk_to G p h a)) (row_walks G p h a n)
  unfolding row_walks
  row_first a zero l = absurd (omega arith)
  row_first a (suc n) l = here refl

  -- what the walks of a row find, from what each finds
  pub row_ends : (such : Entry → Bool) (a n : ℕ) (x : Bool) → 0 < n → ((j : ℕ) → j < n → such (walk_to G p h (a + j * s)).entry ≡ x)
      → any_ends such (row_walks G p h a n) ≡ x
  unfolding row_walks any_ends
  row_ends such a zero x l f = absurd (omega arith)
  row_ends such a (suc n) x l f = go n (λ m. row_ends such (a + s) n x m (λ j m. ap (λ (w : Probe). such w.end.entry) (at_next a j) ∙ f (suc j) (omega arith)))
    where
      first : such (walk_to G p h a).entry ≡ x
      first = ap (λ (w : Probe). such w.end.entry) (at_first a) ∙ f 0 (omega arith)

      or_same : (y : Bool) → (y || y) ≡ y
      or_same true = refl
      or_same false = refl

      or-false : (y : Bool) → (y || false) ≡ y
      or-false true = refl
      or-false false = refl

      go : (m : ℕ) → (0 < m → any_ends such (row_walks G p h (a + s) m) ≡ x) → (such (walk_to G p h a).entry || any_ends such (row_walks G p h (a + s) m)) ≡ x
      go zero ih = or-false (such (walk_to G p h a).entry) ∙ first
      go (suc m) ih = (λ i. first i || ih (omega arith) i) ∙ or_same x

  pub row_some : (such : Entry → Bool) (a n : ℕ) → 0 < n → such (walk_to G p h a).entry ≡ true → any_ends such (row_walks G p h a n) ≡ true
  unfolding row_walks any_ends
  row_some such a zero l e = absurd (omega arith)
  row_some such a (suc n) l e = rw e

  -- and from the words of their table
  part_cons : (xs : List ℕ) (i k : ℕ) → i < length xs → part xs i (suc k) ≡ get_or xs i 0 ∷ part xs (suc i) k
  unfolding part
  part_cons xs i k l = rw (drop-cons xs i 0 l)

  pub row_says : (such : Entry → Bool) (area : Area) (ws : List ℕ) (a n i : ℕ) → i + n ≤ length ws
      → ((j : ℕ) → j < n → (walk_to G p h (a + j * s)).entry ≡ entry_at G area h (get_or ws (i + j) 0))
      → any_ends such (row_walks G p h a n) ≡ any_says such G area h (part ws i n)
  unfolding row_walks any_ends any_says part
  row_says such area ws a zero i l f = refl
  row_says such area ws a (suc n) i l f =
      let later = row_says such area ws (a + s) n (suc i) (omega arith) (λ j m. ap (λ (w : Probe). w.end.entry) (at_next a j) ∙ f (suc j) (omega arith) ∙ shift j) in
      (λ k. such (first k) || later k) ∙ sym (ap (any_says such G area h) (part_cons ws i n (omega arith)))
    where
      shift : (j : ℕ) → entry_at G area h (get_or ws (i + suc j) 0) ≡ entry_at G area h (get_or ws (suc i + j) 0)
      shift j = let e : i + suc j ≡ suc i + j = omega arith in ap (λ (x : ℕ). entry_at G area h (get_or ws x 0)) e

      first : (walk_to G p h a).entry ≡ entry_at G area h (get_or ws i 0)
      first = let e : i + 0 ≡ i = omega arith in ap (λ (w : Probe). w.end.entry) (at_first a) ∙ f 0 (omega arith) ∙ ap (λ (x : ℕ). entry_at G area h (get_or ws x 0)) e

-- ---- the walks of one table

module _ (G : Granule) (p : Pool) (few : p.numbers.levels ≤ 4) (h a n : ℕ) (top : h ≤ p.numbers.levels - 1) (some : 0 < p.numbers.levels)
    (room : index_at G a h + n ≤ entries G) (d : (walk_to G p h a).entry ≢ Damaged) where
  abbrev o : Walked
  o = walk_to G p h a

  abbrev next : ℕ → ℕ
  next j = a + j * size_at G h

  -- so they come to no table but the first one's, for no other region
  pub row_within : 0 < n → Within (on_ways G p.numbers.levels (row_walks G p h a n)) (on_ways G p.numbers.levels (probe a o ∷ []))
  row_within l q i =
      let (w, x, j, u, v, e) = ways_from G p.numbers.levels (row_walks G p h a n) q i in
      let (m, y, z) = in_row_lem G p h a n w x in
      of w m y z j u v e
    where
      of : (w : Probe) (m : ℕ) → m < n → w ≡ at G p h a m → (j : ℕ) → w.end.left ≤ j → j < p.numbers.levels → q ≡ standing_at G w.at w.end.tables j
          → Memᴰ q (on_ways G p.numbers.levels (probe a o ∷ []))
      of w m y z j u v e =
          let left_is : w.end.left ≡ o.left = ap (λ (r : Probe). r.end.left) z ∙ row_left G p few h a n top some room d m y in
          let tables_are : w.end.tables ≡ o.tables = ap (λ (r : Probe). r.end.tables) z ∙ row_tables G p few h a n top some room d m y in
          let at_is : w.at ≡ next m = ap (λ (r : Probe). r.at) z in
          let base : base_at G w.at (suc j) ≡ base_at G a (suc j) =
          ap (λ (x : ℕ). base_at G x (suc j)) at_is ∙ sym (region_base G a (next m) (suc j) (region_above G {j = suc h} {h = suc j} (omega (arith, row_low G p few h a n top some room d)) a (next m) (same_table G p few h a n top some room d m y))) in
          subst (λ (r : Standing). Memᴰ r (on_ways G p.numbers.levels (probe a o ∷ [])))
          (sym (e ∙ (λ i. standing (at_height (tables_are i) j) (region (size_at G (suc j)) (base i)))))
          (ways_has G p.numbers.levels (probe a o ∷ []) (probe a o) (here refl) j (omega arith) v)
