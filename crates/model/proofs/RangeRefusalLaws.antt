-- The two calls for ranges keep their tables of refusals.
use Prim.Native.Nat.{ℕ, zero, suc, ◌+◌, ◌-◌, ◌*◌, ◌/◌, ◌%◌, ◌≤◌, ◌<◌}
use Rattle.std.specs.Prelude.{◌≡◌, ◌≢◌, ◌⊎◌, Bool, cond, ◌&&◌, ◌||◌, not}
use Rattle.std.proofs.Math.Path.{refl}
use Rattle.std.proofs.Common.{sym, ap, subst, ◌∙◌, inl, inr, true≢false, suc-mul, div-add-mod', arith}
use Rattle.std.proofs.Math.Logic.{⊎_elim}
use Rattle.std.proofs.Math.Bool.{true, false}
use Rattle.std.proofs.lemmas.Bool.{false≢true}
use mathlib.Core.List.Memᴰ.{head as here}
use mathlib.Core.List.Memᴰ.{tail as there}
use mathlib.Core.List.{List, [], ◌∷◌, Memᴰ}
use Rattle.std.proofs.Math.Dec.{ltb, leb, eqb}
use borrow.Author.Tests.{ltb-true, ltb-false, leb-true, leb-false, eqb-true, eqb-false, not-true, not-false, lt-ltb, eq-eqb}
use Rattle.path.specs.Geometry.{Granule, Sane, page_size, size_at, space_of, physical}
use Rattle.path.specs.Areas.{area_of, total, meets_area}
use Rattle.path.specs.Laws.{page_pos}
use Rattle.path.specs.Paths.{base_at}
use Rattle.entry.specs.declared.Entry.{Entry}
use Rattle.entry.specs.declared.Entry.TheVariants.{Empty, Table, Frame, Damaged}
use Rattle.model.specs.declared.Walked.{Walked}
use Rattle.model.specs.Answers.{Answer, took, cleared, tables_in, Mapping, Pool, Done, done, refuse}
use Rattle.model.specs.Writes.{may_take}
use Rattle.model.specs.Calls.{good_pool, walk_to, unmap_here, unmap_at, unmap_w}
use Rattle.model.proofs.LedgerLaws.{or-true, true_or}
use Rattle.model.proofs.DescentLaws.{clash}
use Rattle.model.proofs.LeftLaws.{leaves_kept, leaves_good, unmap_leaves}
use Rattle.model.specs.Refusals.{Row, row, bare, area_in, NoAttributes, Outside, Misplaced, InPool, OffPage, last_walk, Occupied, Starts, FullList}
use Rattle.model.specs.Refusals.Outside.{starts_outside, ends_outside, frame_outside}
use Rattle.model.proofs.RefusalLaws.{by_table, by_none, none_by, hit, miss, cannot_take, may_not_bad, bad_breaks, good_keeps, in_pool_lem, off_pool_lem, gives_back, gives_one}
use Rattle.model.specs.RefusalLaws.{Told, accepted_by}
use Rattle.model.specs.Ranges.{longest, good_length, map_range_tests, unmap_range_tests, pieces, pages_from, pages_of, Probe, walk_for, piece_walk, piece_walks, page_walks, any_ends, is_damaged, is_taken, Standing, on_way, on_ways, agree, agrees, one_region_each, spoiled, ways, map_piece, left_by, answers_of, sum_of, accepted_in, refuses_with, any_refused, map_range_here, map_range_at, map_range_w, inside, cut_at, any_cut_by, unmap_range_here, unmap_range_at, unmap_range_w}
use Rattle.model.proofs.RangeLaws.{length_fine, page_next, inside_is, or-false}
use Rattle.model.specs.RangeLaws.{FineUnmap}
use Rattle.model.proofs.RangeMapped.{each_so, ways_has, none_ends, some_ends}
use Rattle.model.specs.RangeMapped.{standing_at}
use Rattle.model.specs.RangeRefusals.{NoLength, nothing, part_page, too_long, PastSpace, Spoils, meets_damage, two_regions, SomeOccupied, tables_for, BadRange, Cuts, FullRange, map_range_table, unmap_range_table, MapRangeNumbers, UnmapRangeNumbers}
use Rattle.model.proofs.RangeUnmapLaws.{unmap_tests_lem, start, only_full}
use Rattle.model.proofs.RangeUnmapLaws.{given_at, Full}

-- ---- the arguments

module _ (G : Granule) where
  bad_length : (len : ℕ) → good_length G len ≡ false → NoLength G len
  unfolding good_length
  bad_length len e = go (ltb 0 len) refl (leb len longest) refl (eqb (len % page_size G) 0) refl e
    where
      go : (x : Bool) → ltb 0 len ≡ x → (y : Bool) → leb len longest ≡ y → (z : Bool) → eqb (len % page_size G) 0 ≡ z → (x && (y && z)) ≡ false → NoLength G len
      go false p y q z r e = let l = ltb-false 0 len p in nothing (omega arith)
      go true p false q z r e = too_long (leb-false len longest q)
      go true p true q false r e = part_page (eqb-false (len % page_size G) 0 r)
      go true p true q true r e = absurd (true≢false e)

  good_length_lem : (len : ℕ) → good_length G len ≡ true → NoLength G len → ⊥
  good_length_lem len e (nothing z) = omega (arith, (length_fine G len e).some_bytes)
  good_length_lem len e (part_page z) = z (length_fine G len e).whole_pages
  good_length_lem len e (too_long z) = omega (arith, (length_fine G len e).not_longer)

  not_past : (levels a len : ℕ) → leb (space_of G levels) a ≡ false → ltb (space_of G levels) (a + len) ≡ false → PastSpace G levels a len → ⊥
  not_past levels a len p q (inl z) = let l = leb-false (space_of G levels) a p in omega arith
  not_past levels a len p q (inr z) = let l = ltb-false (space_of G levels) (a + len) q in omega arith

-- ---- the walks

-- where not every two agree, two do not
agree_not : (s q : Standing) → agree s q ≡ false
    → (s.table ≡ q.table) × ((s.stands_for.size ≢ q.stands_for.size) ⊎ (s.stands_for.first ≢ q.stands_for.first))
agree_not s q e = go (eqb s.table q.table) refl (eqb s.stands_for.size q.stands_for.size) refl (eqb s.stands_for.first q.stands_for.first) refl e
  where
    go : (x : Bool) → eqb s.table q.table ≡ x → (y : Bool) → eqb s.stands_for.size q.stands_for.size ≡ y → (z : Bool) → eqb s.stands_for.first q.stands_for.first ≡ z
        → (not x || (y && z)) ≡ false → (s.table ≡ q.table) × ((s.stands_for.size ≢ q.stands_for.size) ⊎ (s.stands_for.first ≢ q.stands_for.first))
    go false a y b z c e = absurd (true≢false e)
    go true a false b z c e = (eqb-true _ _ a, inl (eqb-false _ _ b))
    go true a true b false c e = (eqb-true _ _ a, inr (eqb-false _ _ c))
    go true a true b true c e = absurd (true≢false e)

agrees_not : (s : Standing) (l : List Standing) → agrees s l ≡ false → (q : Standing) × Memᴰ q l × (agree s q ≡ false)
unfolding agrees
agrees_not s [] e = absurd (true≢false e)
agrees_not s (q ∷ l) e = go (agree s q) refl e (agrees_not s l)
  where
    go : (x : Bool) → agree s q ≡ x → (x && agrees s l) ≡ false → (agrees s l ≡ false → (r : Standing) × Memᴰ r l × (agree s r ≡ false)) → (r : Standing) × Memᴰ r (q ∷ l) × (agree s r ≡ false)
    go false a e ih = (q, here refl, a)
    go true a e ih = let (r, i, b) = ih e in (r, there i, b)

each_not : (l : List Standing) → one_region_each l ≡ false → (s : Standing) × (q : Standing) × Memᴰ s l × Memᴰ q l × (agree s q ≡ false)
unfolding one_region_each
each_not [] e = absurd (true≢false e)
each_not (x ∷ l) e = go (agrees x l) refl e (each_not l)
  where
    go : (y : Bool) → agrees x l ≡ y → (y && one_region_each l) ≡ false → (one_region_each l ≡ false → (s : Standing) × (q : Standing) × Memᴰ s l × Memᴰ q l × (agree s q ≡ false))
        → (s : Standing) × (q : Standing) × Memᴰ s (x ∷ l) × Memᴰ q (x ∷ l) × (agree s q ≡ false)
    go false a e ih = let (q, i, b) = agrees_not x l a in (x, q, here refl, there i, b)
    go true a e ih = let (s, q, i, j, b) = ih e in (s, q, there i, there j, b)

-- what stands on a way
way_from : (G : Granule) (a : ℕ) (way : List ℕ) (d h : ℕ) (s : Standing) → Memᴰ s (on_way G a way h d) → (j : ℕ) × (h ≤ j) × (j < h + d) × (s ≡ standing_at G a way j)
unfolding on_way
way_from G a way zero h s i = absurd (mathlib.Core.List.Memᴰ.not-nil i)
way_from G a way (suc d) h s i =
    ⊎_elim (λ e. (h, omega arith, omega arith, e)) (λ j. let (k, l, m, e) = way_from G a way d (suc h) s j in (k, omega arith, omega arith, e)) (mathlib.Core.List.Memᴰ.cases_cons i)

ways_from : (G : Granule) (levels : ℕ) (ws : List Probe) (s : Standing) → Memᴰ s (on_ways G levels ws)
    → (w : Probe) × Memᴰ w ws × (j : ℕ) × (w.end.left ≤ j) × (j < levels) × (s ≡ standing_at G w.at w.end.tables j)
unfolding on_ways
ways_from G levels [] s i = absurd (mathlib.Core.List.Memᴰ.not-nil i)
ways_from G levels (w ∷ ws) s i =
    ⊎_elim
    (λ k. let (j, l, m, e) = way_from G w.at w.end.tables (levels - w.end.left) w.end.left s k in (w, here refl, j, l, omega arith, e))
    (λ k. let (v, n, j, l, m, e) = ways_from G levels ws s k in (v, there n, j, l, m, e))
    (mathlib.Core.List.Memᴰ.append_cases (on_way G w.at w.end.tables w.end.left (levels - w.end.left)) i)

damaged_is : (e : Entry) → is_damaged e ≡ true → e ≡ Damaged
damaged_is Damaged q = refl
damaged_is Empty q = absurd (false≢true q)
damaged_is (Frame b k) q = absurd (false≢true q)
damaged_is (Table c) q = absurd (false≢true q)

module _ (G : Granule) (levels : ℕ) (ws : List Probe) where
  spoiled_so : spoiled G levels ws ≡ true → Spoils G levels ws
  spoiled_so e = ⊎_elim
      (λ q. let (w, i, d) = some_ends is_damaged ws q in meets_damage w i (damaged_is w.end.entry d))
      (λ q.
      let (s, t, i, j, d) = each_not (on_ways G levels ws) (not-true (one_region_each (on_ways G levels ws)) q) in
      let (v, vi, a, al, ah, ae) = ways_from G levels ws s i in
      let (w, wi, b, bl, bh, be) = ways_from G levels ws t j in
      let (z, n) = agree_not s t d in
      two_regions v w vi wi a b al ah bl bh
      (sym (ap (λ (x : Standing). x.table) ae) ∙ z ∙ ap (λ (x : Standing). x.table) be)
      (⊎_elim
      (λ y. inl (λ u. y (ap (λ (x : Standing). x.stands_for.size) ae ∙ u ∙ sym (ap (λ (x : Standing). x.stands_for.size) be))))
      (λ y. inr (λ u. y (ap (λ (x : Standing). x.stands_for.first) ae ∙ u ∙ sym (ap (λ (x : Standing). x.stands_for.first) be))))
      n))
      (or-true (any_ends is_damaged ws) (not (one_region_each (on_ways G levels ws))) e)

  unspoiled : spoiled G levels ws ≡ false → Spoils G levels ws → ⊥
  unspoiled e (meets_damage w i d) =
      true≢false (ap is_damaged (sym d) ∙ none_ends is_damaged ws (or-false (any_ends is_damaged ws) _ e).0 w i)
  unspoiled e (two_regions v w vi wi i j a b c d z n) =
      let one = not-false (one_region_each (on_ways G levels ws)) (or-false (any_ends is_damaged ws) _ e).1 in
      let (x, y) = each_so (on_ways G levels ws) one (standing_at G v.at v.end.tables i) (standing_at G w.at w.end.tables j)
      (ways_has G levels ws v vi i a b) (ways_has G levels ws w wi j c d) z in
      ⊎_elim (λ u. u x) (λ u. u y) n

taken_is : (o : Walked) → is_taken o.entry ≡ true → Occupied o
taken_is o e = go o.entry refl e
  where
    go : (x : Entry) → o.entry ≡ x → is_taken x ≡ true → Occupied o
    go (Frame b k) q e = inl (b, k, q)
    go (Table c) q e = inr (c, q)
    go Empty q e = absurd (false≢true e)
    go Damaged q e = absurd (false≢true e)

is_taken_lem : (o : Walked) → Occupied o → is_taken o.entry ≡ true
is_taken_lem o (inl (b, k, q)) = ap is_taken q
is_taken_lem o (inr (c, q)) = ap is_taken q

-- ---- map a range

module _ (G : Granule) (p : Pool) (a b len k : ℕ) where
  abbrev ms : List Mapping
  ms = pieces G a b len k

  abbrev need : ℕ
  need = tables_for G p ms

  abbrev Took : Done → Type 0
  Took d = d.answer ≡ took need

  abbrev Walks : List Row
  Walks =
      row 8 (Spoils G p.numbers.levels (piece_walks G p ms))
      ∷ row 6 (SomeOccupied G p ms)
      ∷ row 7 (p.numbers.free < need)
      ∷ row 8 (BadRange G p ms)
      ∷ []

  abbrev Places : List Row
  Places = row 5 (Misplaced a b (page_size G)) ∷ row 11 (InPool G (area_in p) b len) ∷ Walks

  abbrev Arguments : List Row
  Arguments = row 2 (NoLength G len) ∷ row 3 (NoAttributes k) ∷ row 4 (Outside G p.numbers.levels a b len) ∷ Places

  walks_told : Told Walks bare p Took (map_range_at G p ms)
  unfolding map_range_at map_range_here
  walks_told =
      go (spoiled G p.numbers.levels ws) refl (any_ends is_taken ws) refl (ltb p.numbers.free need) refl
      (may_take p.list (total (area_of p.numbers)) (ways ws) p.numbers.free need) refl
    where
      ws : List Probe
      ws = piece_walks G p ms

      free_of : any_ends is_taken ws ≡ false → SomeOccupied G p ms → ⊥
      free_of e (m, i, o) = true≢false (sym (is_taken_lem (walk_for G p m) o) ∙ none_ends is_taken ws e (piece_walk G p m) (mathlib.Core.List.Memᴰ.map (piece_walk G p) i))

      some_of : any_ends is_taken ws ≡ true → SomeOccupied G p ms
      some_of e =
          let (w, i, t) = some_ends is_taken ws e in
          let (m, j, z) = mathlib.Core.List.Memᴰ.of_map (piece_walk G p) ms i in
          (m, j, taken_is (walk_for G p m) (subst (λ (v : Probe). is_taken v.end.entry ≡ true) (sym z) t))

      go : (x : Bool) → spoiled G p.numbers.levels ws ≡ x → (y : Bool) → any_ends is_taken ws ≡ y → (z : Bool) → ltb p.numbers.free need ≡ z
          → (w : Bool) → may_take p.list (total (area_of p.numbers)) (ways ws) p.numbers.free need ≡ w
          → Told Walks bare p Took (cond x (refuse 8 p) (cond y (refuse 6 p) (cond z (refuse 7 p) (cond w (done (took need) (left_by (map_piece G) p ms)) (refuse 8 p)))))
      go true e y f z g w h = hit (spoiled_so G p.numbers.levels ws e)
      go false e true f z g w h = miss (unspoiled G p.numbers.levels ws e) (hit (some_of f))
      go false e false f true g w h = miss (unspoiled G p.numbers.levels ws e) (miss (free_of f) (hit (ltb-true p.numbers.free need g)))
      go false e false f false g false h =
          miss (unspoiled G p.numbers.levels ws e) (miss (free_of f) (miss (λ l. omega (arith, ltb-false p.numbers.free need g))
          (hit (cannot_take p.list (total (area_of p.numbers)) (ways ws) p.numbers.free need h))))
      go false e false f false g true h =
          miss (unspoiled G p.numbers.levels ws e) (miss (free_of f) (miss (λ l. omega (arith, ltb-false p.numbers.free need g))
          (miss (may_not_bad p.list (total (area_of p.numbers)) (ways ws) p.numbers.free need h) (accepted_by tt refl))))

  range_told : Told (map_range_table G p a b len k) bare p Took (map_range_w G p a b len k)
  unfolding map_range_w map_range_tests
  range_told = good (good_pool G p) refl
    where
      l : ℕ
      l = p.numbers.levels

      space : ℕ
      space = space_of G l

      -- what a test that gives this number comes to
      by : ℕ → Done
      by n = cond (eqb n 0) (map_range_at G p ms) (refuse n p)

      pooled : Bool
      pooled = meets_area G (area_of p.numbers) b len

      placed : (x₆ x₇ x₈ : Bool) → eqb (a % page_size G) 0 ≡ x₆ → eqb (b % page_size G) 0 ≡ x₇ → pooled ≡ x₈
          → Told Places bare p Took (by (cond x₆ (cond x₇ (cond x₈ 11 0) 5) 5))
      placed false x₇ x₈ e₆ e₇ e₈ = hit (inl (eqb-false _ 0 e₆))
      placed true false x₈ e₆ e₇ e₈ = hit (inr (eqb-false _ 0 e₇))
      placed true true true e₆ e₇ e₈ = miss (⊎_elim (λ z. z (eqb-true _ 0 e₆)) (λ z. z (eqb-true _ 0 e₇))) (hit (in_pool_lem G p a b len k e₈))
      placed true true false e₆ e₇ e₈ = miss (⊎_elim (λ z. z (eqb-true _ 0 e₆)) (λ z. z (eqb-true _ 0 e₇))) (miss (off_pool_lem G p a b len k e₈) walks_told)

      range : (x₃ x₄ x₅ : Bool) → leb space a ≡ x₃ → ltb space (a + len) ≡ x₄ → ltb physical (b + len) ≡ x₅
          → Told (row 4 (Outside G l a b len) ∷ Places) bare p Took
          (by (cond x₃ 4 (cond x₄ 4 (cond x₅ 4 (cond (eqb (a % page_size G) 0) (cond (eqb (b % page_size G) 0) (cond pooled 11 0) 5) 5)))))
      range true x₄ x₅ e₃ e₄ e₅ = hit (starts_outside (leb-true space a e₃))
      range false true x₅ e₃ e₄ e₅ = hit (ends_outside (ltb-true space (a + len) e₄))
      range false false true e₃ e₄ e₅ = hit (frame_outside (ltb-true physical (b + len) e₅))
      range false false false e₃ e₄ e₅ =
          miss within
          (placed (eqb (a % page_size G) 0) (eqb (b % page_size G) 0) pooled refl refl refl)
        where
          within : Outside G l a b len → ⊥
          within (starts_outside z) = not_past G l a len e₃ e₄ (inl z)
          within (ends_outside z) = not_past G l a len e₃ e₄ (inr z)
          within (frame_outside z) = let m = ltb-false physical (b + len) e₅ in omega arith

      tests : (x₁ x₂ : Bool) → good_length G len ≡ x₁ → ltb 15 k ≡ x₂
          → Told Arguments bare p Took
          (by (cond x₁
          (cond x₂ 3 (cond (leb space a) 4 (cond (ltb space (a + len)) 4 (cond (ltb physical (b + len)) 4
          (cond (eqb (a % page_size G) 0) (cond (eqb (b % page_size G) 0) (cond pooled 11 0) 5) 5)))))
          2))
      tests false x₂ e₁ e₂ = hit (bad_length G len e₁)
      tests true true e₁ e₂ = miss (good_length_lem G len e₁) (hit (ltb-true 15 k e₂))
      tests true false e₁ e₂ =
          miss (good_length_lem G len e₁) (miss (λ m. omega (arith, ltb-false 15 k e₂)) (range (leb space a) (ltb space (a + len)) (ltb physical (b + len)) refl refl refl))

      good : (x : Bool) → good_pool G p ≡ x
          → Told (map_range_table G p a b len k) bare p Took (cond x (by (map_range_tests G l (area_of p.numbers) a b len k)) (refuse 1 p))
      good true e = miss (good_keeps G p e) (tests (good_length G len) (ltb 15 k) refl refl)
      good false e = hit (bad_breaks G p e)

  pub map_range_numbers : MapRangeNumbers G p a b len k
  map_range_numbers = record {
    refuses = by_table range_told (λ n v e q. clash (cc));
    accepted = λ t. (
      λ q. let (z, e) = by_none range_told (took t) (λ n v w. clash (cc)) q in let y : took t ≡ took need = sym q ∙ e in (z, cc),
      λ (z, e). none_by range_told z ∙ ap took (sym e),
    );
  }

-- ---- unmap a range

-- the walks of pages find a cut exactly where one is
module _ (G : Granule) (p : Pool) (a len : ℕ) where
  cut_is : (x h : ℕ) (e : Entry) → cut_at G a len x h e ≡ true → (b : ℕ) × (k : ℕ) × (e ≡ Frame b k) × ((base_at G x h < a) ⊎ (a + len < base_at G x h + size_at G h))
  cut_is x h Empty q = absurd (false≢true q)
  cut_is x h (Table c) q = absurd (false≢true q)
  cut_is x h Damaged q = absurd (false≢true q)
  cut_is x h (Frame b k) q = (b, k, refl, go (leb a (base_at G x h)) refl (leb (base_at G x h + size_at G h) (a + len)) refl (not-true (inside a len (base_at G x h) (size_at G h)) q))
    where
      go : (y : Bool) → leb a (base_at G x h) ≡ y → (z : Bool) → leb (base_at G x h + size_at G h) (a + len) ≡ z → (y && z) ≡ false → (base_at G x h < a) ⊎ (a + len < base_at G x h + size_at G h)
      go false r z s e = inl (leb-false _ _ r)
      go true r false s e = inr (leb-false _ _ s)
      go true r true s e = absurd (true≢false e)

  any_cut_lem : (xs : List ℕ) → any_cut_by G a len (page_walks G p xs) ≡ true
      → (x : ℕ) × Memᴰ x xs × (let o = walk_to G p 0 x in (b : ℕ) × (k : ℕ) × (o.entry ≡ Frame b k) × ((base_at G x o.left < a) ⊎ (a + len < base_at G x o.left + size_at G o.left)))
  unfolding any_cut_by
  any_cut_lem [] e = absurd (false≢true e)
  any_cut_lem (x ∷ xs) e =
      ⊎_elim (λ q. (x, here refl, cut_is x (walk_to G p 0 x).left (walk_to G p 0 x).entry q)) (λ q. let (y, i, c) = any_cut_lem xs q in (y, there i, c)) (or-true _ _ e)

  no_cut : (xs : List ℕ) → any_cut_by G a len (page_walks G p xs) ≡ false → (x : ℕ) → Memᴰ x xs → (b k : ℕ) → (walk_to G p 0 x).entry ≡ Frame b k
      → (base_at G x (walk_to G p 0 x).left < a) ⊎ (a + len < base_at G x (walk_to G p 0 x).left + size_at G (walk_to G p 0 x).left) → ⊥
  unfolding any_cut_by
  no_cut [] e x i b k f c = mathlib.Core.List.Memᴰ.not-nil i
  no_cut (y ∷ ys) e x i b k f c =
      let (u, w) = or-false (cut_at G a len y (walk_to G p 0 y).left (walk_to G p 0 y).entry) _ e in
      ⊎_elim
      (λ z. here_cut (subst (λ (v : ℕ). cut_at G a len v (walk_to G p 0 v).left (walk_to G p 0 v).entry ≡ false) (sym z) u))
      (λ j. no_cut ys w x j b k f c)
      (mathlib.Core.List.Memᴰ.cases_cons i)
    where
      here_cut : cut_at G a len x (walk_to G p 0 x).left (walk_to G p 0 x).entry ≡ false → ⊥
      here_cut q =
          let h = (walk_to G p 0 x).left in
          let (l, r) = inside_is a len (base_at G x h) (size_at G h) (not-false (inside a len (base_at G x h) (size_at G h)) (ap (cut_at G a len x h) (sym f) ∙ q)) in
          ⊎_elim (λ z. omega arith) (λ z. omega arith) c

-- no room for the tables of a mapping that starts at x
full_so : (G : Granule) (p : Pool) (x : ℕ) → Full G p x → Starts G x (last_walk G p x) × FullList G p x
full_so G p x F = let (b, k, f) = F.frame in ((b, k, f, F.starts), (given_at G p x, gives_back G p x (last_walk G p x), F.over))

so_full : (G : Granule) (p : Pool) (x : ℕ) → Starts G x (last_walk G p x) × FullList G p x → Full G p x
so_full G p x ((b, k, f, s), (n, B, l)) =
    let e : n ≡ given_at G p x = gives_one G p x (last_walk G p x) B (gives_back G p x (last_walk G p x)) in
    record { frame = (b, k, f); starts = s; over = omega arith }

-- an unmap for whose tables there is no room answers 8
full_eight : (G : Granule) (p : Pool) (x : ℕ) → good_pool G p ≡ true → x < space_of G p.numbers.levels → x % page_size G ≡ 0 → Full G p x → unmap_w G p x ≡ refuse 8 p
unfolding unmap_w unmap_at unmap_here
full_eight G p x good l e F =
    let (b, k, f) = F.frame in
    rw (good, eq-eqb _ _ (unmap_tests_lem G p.numbers.levels x l e))
    (ap (unmap_at G p x (walk_to G p 0 x)) f ∙ rw (eq-eqb _ _ F.starts, lt-ltb _ _ F.over) refl)

-- and so one of the answers is 8
full_any : (G : Granule) (k : ℕ) (p : Pool) (a : ℕ) → good_pool G p ≡ true → a % page_size G ≡ 0 → a + k * page_size G ≤ space_of G p.numbers.levels
    → (j : ℕ) → j < k → Full G (left_by (unmap_w G) p (pages_from G a j)) (a + j * page_size G) → any_refused 8 (answers_of (unmap_w G) p (pages_from G a k)) ≡ true
unfolding pages_from left_by answers_of any_refused
full_any G zero p a good e l j b F = absurd (omega arith)
full_any G (suc k) p a good e l zero b F =
    true_or (refuses_with 8 (unmap_w G p a).answer) _
    (inl (ap (λ (d : Done). refuses_with 8 d.answer) (full_eight G p a good (omega (arith, suc-mul k (page_size G), page_pos G)) e (subst (Full G p) (omega arith) F))))
full_any G (suc k) p a good e l (suc j) b F =
    let q = (unmap_w G p a).after in
    let K = leaves_kept (unmap_leaves G p a) in
    true_or (refuses_with 8 (unmap_w G p a).answer) _
    (inr (full_any G k q (a + page_size G) (leaves_good (unmap_leaves G p a) good) (page_next G a e)
    (subst (λ (n : ℕ). a + page_size G + k * page_size G ≤ space_of G n) (sym K.levels) (omega (arith, suc-mul k (page_size G))))
    j (omega arith)
    (subst (Full G (left_by (unmap_w G) q (pages_from G (a + page_size G) j))) (omega (arith, suc-mul j (page_size G))) F)))

module _ (G : Granule) (Z : Sane G) (p : Pool) (a len : ℕ) where
  abbrev xs : List ℕ
  xs = pages_of G a len

  abbrev answers : List Answer
  answers = answers_of (unmap_w G) p xs

  abbrev Cleared : Done → Type 0
  Cleared d = d.answer ≡ cleared (sum_of accepted_in answers) (sum_of tables_in answers)

  abbrev Pages : List Row
  Pages = row 8 (Spoils G p.numbers.levels (page_walks G p xs)) ∷ row 10 (Cuts G p a len) ∷ row 8 (FullRange G p a len) ∷ []

  pages_told : good_pool G p ≡ true → FineUnmap G p.numbers.levels a len → Told Pages bare p Cleared (unmap_range_at G p a len xs)
  unfolding unmap_range_at unmap_range_here
  pages_told good F = go (spoiled G p.numbers.levels (page_walks G p xs)) refl (any_cut_by G a len (page_walks G p xs)) refl (any_refused 8 answers) refl
    where
      ws : List Probe
      ws = page_walks G p xs

      long : len / page_size G * page_size G ≡ len
      long = omega (arith, div-add-mod' len (page_size G), F.long.whole_pages)

      uncut : any_cut_by G a len ws ≡ false → Cuts G p a len → ⊥
      uncut e (x, i, (b, k, f, c)) = no_cut G p a len xs e x i b k f c

      roomy : any_refused 8 answers ≡ false → FullRange G p a len → ⊥
      roomy e (j, l, f) = true≢false (sym (full_any G (len / page_size G) p a good F.address_aligned (omega (arith, long, F.in_space)) j l (so_full G _ _ f)) ∙ e)

      filled : (j : ℕ) × (j < len / page_size G) × Full G (left_by (unmap_w G) p (pages_from G a j)) (a + j * page_size G) → FullRange G p a len
      filled (j, l, f) = (j, l, full_so G _ _ f)

      go : (x : Bool) → spoiled G p.numbers.levels ws ≡ x → (y : Bool) → any_cut_by G a len ws ≡ y → (z : Bool) → any_refused 8 answers ≡ z
          → Told Pages bare p Cleared
          (cond x (refuse 8 p) (cond y (refuse 10 p) (cond z (refuse 8 p) (done (cleared (sum_of accepted_in answers) (sum_of tables_in answers)) (left_by (unmap_w G) p xs)))))
      go true e y f z g = hit (spoiled_so G p.numbers.levels ws e)
      go false e true f z g = miss (unspoiled G p.numbers.levels ws e) (hit (any_cut_lem G p a len xs f))
      go false e false f true g =
          let (u, w) = or-false (any_ends is_damaged ws) _ e in
          miss (unspoiled G p.numbers.levels ws e) (miss (uncut f)
          (hit (filled (only_full G Z (len / page_size G) (start G Z p a len good F u (not-false (one_region_each (on_ways G p.numbers.levels ws)) w) f) g))))
      go false e false f false g = miss (unspoiled G p.numbers.levels ws e) (miss (uncut f) (miss (roomy g) (accepted_by tt refl)))

  clear_told : Told (unmap_range_table G p a len) bare p Cleared (unmap_range_w G p a len)
  unfolding unmap_range_w unmap_range_tests
  clear_told = first (good_pool G p) refl
    where
      l : ℕ
      l = p.numbers.levels

      space : ℕ
      space = space_of G l

      by : ℕ → Done
      by n = cond (eqb n 0) (unmap_range_at G p a len xs) (refuse n p)

      tests : good_pool G p ≡ true → (x₁ x₂ x₃ x₄ : Bool) → good_length G len ≡ x₁ → leb space a ≡ x₂ → ltb space (a + len) ≡ x₃ → eqb (a % page_size G) 0 ≡ x₄
          → Told (row 2 (NoLength G len) ∷ row 4 (PastSpace G l a len) ∷ row 5 (OffPage G a) ∷ Pages) bare p Cleared (by (cond x₁ (cond x₂ 4 (cond x₃ 4 (cond x₄ 0 5))) 2))
      tests good false x₂ x₃ x₄ e₁ e₂ e₃ e₄ = hit (bad_length G len e₁)
      tests good true true x₃ x₄ e₁ e₂ e₃ e₄ = miss (good_length_lem G len e₁) (hit (inl (leb-true space a e₂)))
      tests good true false true x₄ e₁ e₂ e₃ e₄ = miss (good_length_lem G len e₁) (hit (inr (ltb-true space (a + len) e₃)))
      tests good true false false false e₁ e₂ e₃ e₄ = miss (good_length_lem G len e₁) (miss (not_past G l a len e₂ e₃) (hit (eqb-false _ 0 e₄)))
      tests good true false false true e₁ e₂ e₃ e₄ =
          miss (good_length_lem G len e₁) (miss (not_past G l a len e₂ e₃) (miss (λ n. n (eqb-true _ 0 e₄))
          (pages_told good (record { long = length_fine G len e₁; in_space = ltb-false space (a + len) e₃; address_aligned = eqb-true _ 0 e₄ }))))

      first : (x : Bool) → good_pool G p ≡ x → Told (unmap_range_table G p a len) bare p Cleared (cond x (by (unmap_range_tests G l a len)) (refuse 1 p))
      first true e = miss (good_keeps G p e) (tests e (good_length G len) (leb space a) (ltb space (a + len)) (eqb (a % page_size G) 0) refl refl refl refl)
      first false e = hit (bad_breaks G p e)

  pub unmap_range_numbers : UnmapRangeNumbers G p a len
  unmap_range_numbers = record {
    refuses = by_table clear_told (λ n v e q. clash (cc));
    accepted = λ m t. (
      λ q. let (z, e) = by_none clear_told (cleared m t) (λ n v w. clash (cc)) q in let y : cleared m t ≡ cleared (sum_of accepted_in answers) (sum_of tables_in answers) = sym q ∙ e in (z, cc, cc),
      λ (z, e, f). none_by clear_told z ∙ (λ i. cleared (sym e i) (sym f i)),
    );
  }
