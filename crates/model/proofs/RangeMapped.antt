-- An accepted range, on any pool, damaged ones too: its pieces are accepted one by one, and take together the tables that the range answers. What is kept
-- from piece to piece is `Ok`: the walks of the pieces that are left end at empty entries, a table on their ways stands for one region, and the places of the
-- free list that are still to be taken hold tables that stand on none of them.
use Prim.Native.Nat.{ℕ, zero, suc, ◌+◌, ◌-◌, ◌*◌, ◌/◌, ◌%◌, ◌≤◌, ◌<◌}
use Rattle.std.specs.Prelude.{◌≡◌, ◌≢◌, ◌⊎◌, Bool, true, false, cond, ◌&&◌, ◌||◌, not, ltb, eqb, get_or, set}
use Rattle.std.proofs.Math.Path.{refl, ap, subst₂}
use Rattle.std.proofs.Common.{sym, ◌∙◌, subst, inl, inr, length-set, get_or-set_same, get_or-set_other}
use Rattle.std.proofs.Math.Logic.{⊎_elim}
use Rattle.std.proofs.lemmas.Bool.{false≢true}
use mathlib.Core.List.Memᴰ
use mathlib.Core.List.Memᴰ.{head as here}
use mathlib.Core.List.Memᴰ.{tail as there}
use mathlib.Core.List.{List, [], ◌∷◌, ◌++◌, Memᴰ}
use native.Mathlib.Omega.{arith}
use Rattle.std.proofs.Math.Decide.{ℕ_discrete, dec_lt, dec_le}
use Rattle.std.proofs.Math.ListN.{length, length-append}
use borrow.Author.Tests.{ltb-false, eqb-true, lt-ltb, le-ltb, eq-eqb, ne_eqb, not-false}
use Rattle.laws.specs.Lists.{zeroed}
use Rattle.laws.specs.ListLaws.{among_none, mem_at, at_mem, length_zeroed}
use Rattle.path.specs.Geometry.{Granule, entries, size_at, height_of, Sane}
use Rattle.path.specs.Areas.{Area, area_of, total}
use Rattle.path.specs.Numbers.{with_free, GoodSetup}
use Rattle.path.specs.Laws.{size_pos, size_le, size_rises, size_injective, size_height, good_setup_lem}
use Rattle.path.specs.Paths.{base_at, path_of}
use Rattle.path.specs.PathLaws.{path_of_at, index_below}
use Rattle.path.specs.PrefixLaws.{region_indices}
use Rattle.path.specs.RegionLaws.{aligned_down, aligned_base, region_base, base_region, base_le, base_end}
use Rattle.path.specs.declared.Setup.{Setup}
use Rattle.entry.specs.Words.{entry_at, frame_word, table_word}
use Rattle.entry.proofs.Laws.{entry_zero, table_back}
use Rattle.entry.specs.declared.Entry.{Entry}
use Rattle.entry.specs.declared.Entry.TheVariants.{Empty, Table, Frame, Damaged}
use Rattle.model.specs.declared.Walked.{Walked}
use Rattle.model.specs.Answers.{Mapping, mapping, Answer, took, tables_in, Pool, pool, Done, done, refuse}
use Rattle.model.specs.Walk.{slot, at_height, no_way, stop, walk_from}
use Rattle.model.specs.Writes.{Memory, memory, wipe, store, perform_all, map_writes, may_take}
use Rattle.model.specs.Calls.{good_pool, map_tests, map_here, map_at, map_w}
use Rattle.model.specs.Ledger.{Region, region, regions_of, has_region, new_regions}
use Rattle.model.proofs.LedgerLaws.{and-true, or-true}
use Rattle.model.specs.Sound.{word_at}
use Rattle.model.proofs.DescentLaws.{clash}
use Rattle.model.proofs.LeftLaws.{leaves_good}
use Rattle.model.specs.LeftLaws.{after_writes}
use Rattle.model.specs.Refusals.{taken, BadTaken}
use Rattle.model.specs.Refusals.BadTaken.{root_taken, beyond_taken, taken_twice, taken_on_path}
use Rattle.model.proofs.RefusalLaws.{further, cannot_take, may_not_bad}
use Rattle.model.proofs.WordLaws.{word_stored, word_other, word_wiped, word_kept}
use Rattle.model.specs.Ranges.{map_range_tests, pieces, Probe, walk_for, piece_walk, piece_walks, any_ends, is_damaged, is_taken, Standing, on_way, on_ways, agree, agrees, one_region_each, spoiled, lacked, ways, map_piece, left_by, answers_of, sum_of, map_range_here, map_range_at, map_range_w}
use Rattle.model.proofs.RangeLaws.{range_fine, tiles, tiles_tests, tiles_inside, or-false}
use Rattle.model.specs.RangeLaws.{Tiles, over, piece, Fits, FineRange}
use Rattle.model.proofs.RangeWalks.{left_low, stopped, stopped_walk, stopped_long, stopped_in, stopped_moved, stopped_beside, stopped_linked, came_target, index_region}
use Rattle.model.specs.RangeWalks.{Stopped}
use Rattle.model.specs.RangeMapped.{Accepted, MapRangeView, OneByOne, OneRegion, is, range_refuses, range_takes, standing_at}

-- what a list holds after one place is set
mem_set : (xs : List ℕ) (i y x : ℕ) → Memᴰ x (set xs i y) → (x ≡ y) ⊎ Memᴰ x xs
mem_set xs i y x m = let (j, l, e) = mem_at (set xs i y) m in go j (omega (arith, length-set xs i y)) e (ℕ_discrete j i)
  where
    go : (j : ℕ) → j < length xs → get_or (set xs i y) j 0 ≡ x → Dec (j ≡ i) → (x ≡ y) ⊎ Memᴰ x xs
    go j l e (yes z) = inl (sym e ∙ ap (λ (k : ℕ). get_or (set xs i y) k 0) z ∙ get_or-set_same xs i y 0 (omega arith))
    go j l e (no z) = inr (Memᴰ.cast (sym e ∙ get_or-set_other xs i j y 0 z) (at_mem xs j l))

abbrev Avoids : Region → List Region → Type 0
Avoids q Q = (r : Region) → Memᴰ r Q → is q r ≡ false

-- the first list has q beside what the second has
abbrev Beside : Region → List Region → List Region → Type 0
Beside q B A = (r : Region) → has_region r B ≡ (is q r || has_region r A)

new_avoid : (q : Region) (Q B A : List Region) → Avoids q Q → Beside q B A → new_regions Q B ≡ new_regions Q A
unfolding new_regions
new_avoid q [] B A a b = refl
new_avoid q (r ∷ Q) B A a b = rw (b r ∙ ap (λ (y : Bool). y || has_region r A) (a r (here refl)), new_avoid q Q B A (λ x i. a x (there i)) b) refl

or_swap : (a b c : Bool) → (a || (b || c)) ≡ (b || (a || c))
or_swap true true c = refl
or_swap true false c = refl
or_swap false b c = refl

pub or_assoc : (a b c : Bool) → ((a || b) || c) ≡ (a || (b || c))
or_assoc true b c = refl
or_assoc false b c = refl

pub has_append : (r : Region) (Q R : List Region) → has_region r (Q ++ R) ≡ (has_region r Q || has_region r R)
unfolding has_region
has_append r [] R = refl
has_append r (q ∷ Q) R = ap (λ (y : Bool). is q r || y) (has_append r Q R) ∙ sym (or_assoc (is q r) (has_region r Q) (has_region r R))

beside_more : (q : Region) (N B A : List Region) → Beside q B A → Beside q (N ++ B) (N ++ A)
beside_more q N B A b r =
    has_append r N B ∙ ap (λ (y : Bool). has_region r N || y) (b r) ∙ or_swap (has_region r N) (is q r) (has_region r A)
    ∙ ap (λ (y : Bool). is q r || y) (sym (has_append r N A))

-- the regions of a mapping
regions_of_lem : (G : Granule) (m : Mapping) (k : ℕ) (r : Region) → Memᴰ r (regions_of G m k)
    → (j : ℕ) × (0 < j) × (j ≤ k) × (r ≡ region (size_at G j) (base_at G m.at j))
unfolding regions_of
regions_of_lem G m zero r i = absurd (Memᴰ.not-nil i)
regions_of_lem G m (suc k) r i = go (ltb m.size (size_at G (suc k))) i (λ j. let (x, a, b, c) = regions_of_lem G m k r j in (x, a, omega arith, c))
  where
    go : (y : Bool) → Memᴰ r (cond y (region (size_at G (suc k)) (base_at G m.at (suc k)) ∷ regions_of G m k) (regions_of G m k))
        → (Memᴰ r (regions_of G m k) → (j : ℕ) × (0 < j) × (j ≤ suc k) × (r ≡ region (size_at G j) (base_at G m.at j)))
        → (j : ℕ) × (0 < j) × (j ≤ suc k) × (r ≡ region (size_at G j) (base_at G m.at j))
    go true i ih = ⊎_elim (λ e. (suc k, omega arith, omega arith, e)) ih (Memᴰ.cases_cons i)
    go false i ih = ih i

agree_so : (s q : Standing) → agree s q ≡ true → OneRegion s q
agree_so s q e t = go (eqb s.table q.table) (eq-eqb _ _ t) e
  where
    go : (x : Bool) → x ≡ true → (not x || (eqb s.stands_for.size q.stands_for.size && eqb s.stands_for.first q.stands_for.first)) ≡ true
        → (s.stands_for.size ≡ q.stands_for.size) × (s.stands_for.first ≡ q.stands_for.first)
    go false p e = absurd (false≢true p)
    go true p e = let (b, c) = and-true (eqb s.stands_for.size q.stands_for.size) _ e in (eqb-true _ _ b, eqb-true _ _ c)

agrees_so : (s q : Standing) (l : List Standing) → agrees s l ≡ true → Memᴰ q l → agree s q ≡ true
unfolding agrees
agrees_so s q [] e i = absurd (Memᴰ.not-nil i)
agrees_so s q (x ∷ l) e i =
    let (a, b) = and-true (agree s x) _ e in
    ⊎_elim (λ z. subst (λ (y : Standing). agree s y ≡ true) (sym z) a) (agrees_so s q l b) (Memᴰ.cases_cons i)

pub each_so : (l : List Standing) → one_region_each l ≡ true → (s q : Standing) → Memᴰ s l → Memᴰ q l → OneRegion s q
unfolding one_region_each
each_so [] e s q i j t = absurd (Memᴰ.not-nil i)
each_so (x ∷ l) e s q i j t =
    let (a, b) = and-true (agrees x l) _ e in
    go a (Memᴰ.cases_cons i) (Memᴰ.cases_cons j) (λ i j. each_so l b s q i j t)
  where
    Goal : Type 0
    Goal = (s.stands_for.size ≡ q.stands_for.size) × (s.stands_for.first ≡ q.stands_for.first)

    go : agrees x l ≡ true → (s ≡ x) ⊎ Memᴰ s l → (q ≡ x) ⊎ Memᴰ q l → (Memᴰ s l → Memᴰ q l → Goal) → Goal
    go a (inl u) (inl v) ih = let z = u ∙ sym v in (ap (λ (y : Standing). y.stands_for.size) z, ap (λ (y : Standing). y.stands_for.first) z)
    go a (inl u) (inr v) ih = agree_so s q (subst (λ (y : Standing). agree y q ≡ true) (sym u) (agrees_so x q l a v)) t
    go a (inr u) (inl v) ih = let (y, z) = agree_so q s (subst (λ (y : Standing). agree y s ≡ true) (sym v) (agrees_so x s l a u)) (sym t) in (sym y, sym z)
    go a (inr u) (inr v) ih = ih u v

way_has : (G : Granule) (a : ℕ) (way : List ℕ) (d h j : ℕ) → h ≤ j → j < h + d → Memᴰ (standing_at G a way j) (on_way G a way h d)
unfolding on_way
way_has G a way zero h j l r = absurd (omega arith)
way_has G a way (suc d) h j l r = go (ℕ_discrete j h) (λ m. way_has G a way d (suc h) j m (omega arith))
  where
    go : Dec (j ≡ h) → (suc h ≤ j → Memᴰ (standing_at G a way j) (on_way G a way (suc h) d))
        → Memᴰ (standing_at G a way j) (standing_at G a way h ∷ on_way G a way (suc h) d)
    go (yes z) ih = here (ap (standing_at G a way) z)
    go (no z) ih = there (ih (omega arith))

pub ways_has : (G : Granule) (levels : ℕ) (ws : List Probe) (w : Probe) → Memᴰ w ws → (j : ℕ) → w.end.left ≤ j → j < levels
    → Memᴰ (standing_at G w.at w.end.tables j) (on_ways G levels ws)
unfolding on_ways
ways_has G levels [] w i j a b = absurd (Memᴰ.not-nil i)
ways_has G levels (q ∷ ws) w i j a b =
    ⊎_elim
    (λ z. Memᴰ.append_left (on_ways G levels ws)
    (subst (λ (x : Probe). Memᴰ (standing_at G w.at w.end.tables j) (on_way G x.at x.end.tables x.end.left (levels - x.end.left))) z
    (way_has G w.at w.end.tables (levels - w.end.left) w.end.left j a (omega arith))))
    (λ k. Memᴰ.append_right (on_way G q.at q.end.tables q.end.left (levels - q.end.left)) (ways_has G levels ws w k j a b))
    (Memᴰ.cases_cons i)

pub tables_in_lem : (ws : List Probe) (w : Probe) → Memᴰ w ws → (x : ℕ) → Memᴰ x w.end.tables → Memᴰ x (ways ws)
unfolding ways
tables_in_lem [] w i x j = absurd (Memᴰ.not-nil i)
tables_in_lem (q ∷ ws) w i x j =
    ⊎_elim (λ z. Memᴰ.append_left (ways ws) (subst (λ (y : Probe). Memᴰ x y.end.tables) z j)) (λ k. Memᴰ.append_right q.end.tables (tables_in_lem ws w k x j))
    (Memᴰ.cases_cons i)

-- some walk ends at such an entry
pub some_ends : (such : Entry → Bool) (ws : List Probe) → any_ends such ws ≡ true → (w : Probe) × Memᴰ w ws × (such w.end.entry ≡ true)
unfolding any_ends
some_ends such [] e = absurd (false≢true e)
some_ends such (w ∷ ws) e = ⊎_elim (λ q. (w, here refl, q)) (λ q. let (x, i, t) = some_ends such ws q in (x, there i, t)) (or-true _ _ e)

-- no walk ends at such an entry
pub none_ends : (such : Entry → Bool) (ws : List Probe) → any_ends such ws ≡ false → (w : Probe) → Memᴰ w ws → such w.end.entry ≡ false
unfolding any_ends
none_ends such [] e w i = absurd (Memᴰ.not-nil i)
none_ends such (q ∷ ws) e w i =
    let (x, y) = or-false (such q.end.entry) _ e in
    ⊎_elim (λ z. subst (λ (w : Probe). such w.end.entry ≡ false) (sym z) x) (none_ends such ws y w) (Memᴰ.cases_cons i)

-- an entry that is neither damaged nor taken
pub neither : (e : Entry) → is_damaged e ≡ false → is_taken e ≡ false → e ≡ Empty
neither Empty p q = refl
neither (Frame b k) p q = absurd (false≢true (sym q))
neither (Table c) p q = absurd (false≢true (sym q))
neither Damaged p q = absurd (false≢true (sym p))

-- ---- the walks of the pieces

module _ (G : Granule) (Z : Sane G) (sp : Setup) (few : sp.levels - 1 < 4) (cut : ℕ) (list : List ℕ) where
  abbrev pub area : Area
  area = area_of sp

  abbrev pub n : ℕ
  n = total area

  abbrev pub k₀ : ℕ
  k₀ = sp.levels - 1

  abbrev pub K : ℕ
  K = entries G

  abbrev pub pl : List ℕ → ℕ → Pool
  pl ws f = pool (with_free sp f) ws cut list

  abbrev pub g : Mapping → ℕ
  g m = height_of G m.size

  abbrev pub walk : List ℕ → Mapping → Walked
  walk ws m = walk_from G ws area (g m) (path_of G m.at) k₀ no_way 0

  abbrev pub T : List ℕ → Mapping → ℕ → ℕ
  T ws m j = at_height (walk ws m).tables j

  abbrev pub idx : Mapping → ℕ → ℕ
  idx m j = at_height (path_of G m.at) j

  -- the region of height h that a piece lies in
  abbrev pub reg : Mapping → ℕ → ℕ
  reg m h = m.at / size_at G h

  pub idx_low : (m : Mapping) (j : ℕ) → j ≤ k₀ → idx m j < K
  idx_low m j l = let z : j < 4 = omega arith in subst (λ (x : ℕ). x < K) (sym (path_of_at G m.at {h = j} z)) (index_below G m.at j)

  pub idx_same : (m m' : Mapping) (h j : ℕ) → h ≤ j → j ≤ k₀ → reg m h ≡ reg m' h → idx m j ≡ idx m' j
  idx_same m m' h j a l e = let z : j < 4 = omega arith in path_of_at G m.at {h = j} z ∙ region_indices G a m.at m'.at e ∙ sym (path_of_at G m'.at {h = j} z)

  -- the same region above, and the same index
  reg_down : (m m' : Mapping) (h : ℕ) → h ≤ k₀ → reg m (suc h) ≡ reg m' (suc h) → idx m h ≡ idx m' h → reg m h ≡ reg m' h
  reg_down m m' h l e i = index_region G m.at m'.at h (omega arith) e i

  -- a piece
  pub record Piece (m : Mapping) : Type 0 where
    pub sized : size_at G (g m) ≡ m.size
    pub aligned : m.at % size_at G (g m) ≡ 0
    pub low : g m ≤ k₀

  -- pieces that can still be mapped, where f tables are free and N are lacked
  pub record Ok (ws : List ℕ) (f N : ℕ) (ms : List Mapping) : Type 0 where
    pub good : good_pool G (pl ws f) ≡ true
    pub empties : (m : Mapping) → Memᴰ m ms → (walk ws m).entry ≡ Empty
    pub one : (m m' : Mapping) → Memᴰ m ms → Memᴰ m' ms → (j j' : ℕ) → (walk ws m).left ≤ j → j ≤ k₀ → (walk ws m').left ≤ j' → j' ≤ k₀
        → T ws m j ≡ T ws m' j' → (j ≡ j') × (reg m (suc j) ≡ reg m' (suc j))
    pub fresh : (j : ℕ) → j < N
        → (0 < taken list f j) × (taken list f j < n) × ((m : Mapping) → Memᴰ m ms → Memᴰ (taken list f j) (walk ws m).tables → ⊥)
    pub once : (i j : ℕ) → i < j → j < N → taken list f i ≢ taken list f j
    pub enough : N ≤ f
    pub count : length (lacked G (pl ws f) ms []) ≡ N

  left_top : (ws : List ℕ) (m : Mapping) → (walk ws m).left ≤ k₀
  left_top ws m = left_low G area ws (g m) (path_of G m.at) k₀ no_way 0

  -- the walk of a piece, where it ends at an empty entry
  abbrev Way : List ℕ → Mapping → Type 0
  Way ws m = Stopped G area ws (g m) (path_of G m.at) k₀ no_way 0 (walk ws m)

  way : (ws : List ℕ) (m : Mapping) → (walk ws m).entry ≡ Empty → Way ws m
  way ws m e = stopped G area ws (g m) (path_of G m.at) k₀ no_way 0 (λ z. clash (cc))

  module _ {ws : List ℕ} {f N : ℕ} {ms : List Mapping} (O : Ok ws f N ms) where
    words_are : length ws ≡ K * n
    words_are = (good_setup_lem O.good).numbers.words_are

    some_table : 0 < n
    some_table = omega (arith, (good_setup_lem O.good).numbers.some_table)

    pub way_of : (m : Mapping) → Memᴰ m ms → Way ws m
    way_of m i = way ws m (O.empties m i)

    tables_long : (m : Mapping) → Memᴰ m ms → length (walk ws m).tables ≡ 4
    tables_long m i = stopped_long (way_of m i) few refl

    on_way_lem : (m : Mapping) → Memᴰ m ms → (j : ℕ) → Memᴰ (T ws m j) (walk ws m).tables
    on_way_lem m i j = at_mem (walk ws m).tables (3 - j) (omega (arith, tables_long m i))

    table_in : (m : Mapping) → Memᴰ m ms → (j : ℕ) → (walk ws m).left ≤ j → j ≤ k₀ → T ws m j < n
    table_in m i j a b = stopped_in (way_of m i) few refl Z some_table j a b

  -- the words that a walk reads stay: so does the walk
  walk_stays : (ws new : List ℕ) (m : Mapping) → (walk ws m).entry ≡ Empty → g m ≤ k₀
      → ((j : ℕ) → (walk ws m).left ≤ j → j ≤ k₀ → word_at G new (T ws m j) (idx m j) ≡ word_at G ws (T ws m j) (idx m j)) → walk new m ≡ walk ws m
  walk_stays ws new m e low f =
      let W = way ws m e in
      stopped_walk G area new (g m) (path_of G m.at)
      (stopped_moved W few refl new (g m) (path_of G m.at) (came_target W.came low) W.last (λ j a b. ap (entry_at G area j) (f j a b)))

  -- ---- a table is linked

  module _ {ws : List ℕ} {f N : ℕ} {m : Mapping} {rest : List Mapping} (O : Ok ws f N (m ∷ rest)) (are : (q : Mapping) → Memᴰ q (m ∷ rest) → Piece q)
      (rising : (q : Mapping) → Memᴰ q rest → m.at + m.size ≤ q.at) where
    abbrev ms : List Mapping
    ms = m ∷ rest

    -- a later piece that shares a region larger than the first with it is smaller than that region
    smaller : (s : ℕ) (q : Mapping) → Memᴰ q rest → reg q (suc s) ≡ reg m (suc s) → g q ≤ s
    smaller s q i e = go (dec_le (g q) s)
      where
        go : Dec (g q ≤ s) → g q ≤ s
        go (yes l) = l
        go (no l) =
            let Q = are q (there i) in
            let M = are m (here refl) in
            let a : q.at % size_at G (suc s) ≡ 0 = aligned_down G {j = suc s} {h = g q} (omega arith) q.at Q.aligned in
            let b = aligned_base G q.at (suc s) a in
            let c = region_base G q.at m.at (suc s) e in
            let d = base_le G m.at (suc s) in
            let r = rising q i in
            absurd (omega (arith, size_pos G (g m), M.sized))

    module _ (s : ℕ) (left_is : (walk ws m).left ≡ suc s) (deep : g m ≤ s) where
      abbrev t : ℕ
      t = T ws m (suc s)

      abbrev i₀ : ℕ
      i₀ = idx m (suc s)

      abbrev c : ℕ
      c = taken list f 0

      abbrev q₀ : Region
      q₀ = region (size_at G (suc s)) (base_at G m.at (suc s))

      high : suc s ≤ k₀
      high = omega (arith, left_top ws m)

      -- at least this table is lacked
      grows : (ps : List Mapping) (R : List Region) → length R ≤ length (lacked G (pl ws f) ps R)
      unfolding lacked
      grows [] R = omega arith
      grows (q ∷ ps) R =
          omega (arith, length-append (new_regions (regions_of G q (walk ws q).left) R) R, grows ps (new_regions (regions_of G q (walk ws q).left) R ++ R))

      -- the regions of a piece in this region, from this height down
      regions_here : (q : Mapping) → Piece q → g q ≤ s → reg q (suc s) ≡ reg m (suc s) → regions_of G q (suc s) ≡ q₀ ∷ regions_of G q s
      unfolding regions_of
      regions_here q Q l e =
          rw (
            lt-ltb q.size (size_at G (suc s)) (subst (λ (x : ℕ). x < size_at G (suc s)) Q.sized (size_rises G Z (omega arith))),
            region_base G q.at m.at (suc s) e,
          )
          refl

      some_lacked : 1 ≤ N
      unfolding lacked new_regions has_region
      some_lacked = omega (arith, O.count, first, grows rest (new_regions (regions_of G m (walk ws m).left) [] ++ []))
        where
          first : 1 ≤ length (new_regions (regions_of G m (walk ws m).left) [] ++ [])
          first = rw (left_is, regions_here m (are m (here refl)) deep refl) (omega arith)

      own : (0 < c) × (c < n) × ((q : Mapping) → Memᴰ q ms → Memᴰ c (walk ws q).tables → ⊥)
      own = O.fresh 0 (omega (arith, some_lacked))

      not_c : (q : Mapping) → Memᴰ q ms → (j : ℕ) → T ws q j ≢ c
      not_c q i j e = own.2 q i (Memᴰ.cast (sym e) (on_way_lem O q i j))

      abbrev wiped : List ℕ
      wiped = zeroed ws (slot G c 0) K

      abbrev new : List ℕ
      new = set wiped (slot G t i₀) (table_word G area c)

      wiped_long : length wiped ≡ K * n
      wiped_long = length_zeroed ws (slot G c 0) K ∙ words_are O

      read_link : word_at G new t i₀ ≡ table_word G area c
      read_link = word_stored G wiped n t i₀ (table_word G area c) wiped_long (table_in O m (here refl) (suc s) (omega (arith, left_is)) high) (idx_low m (suc s) high)

      read_other : (t' i' : ℕ) → i' < K → ((t' ≡ t) × (i' ≡ i₀) → ⊥) → t' ≢ c → word_at G new t' i' ≡ word_at G ws t' i'
      read_other t' i' l d e = word_other G wiped t i₀ (table_word G area c) t' i' (idx_low m (suc s) high) l d ∙ word_kept G ws c t' i' l e

      read_zero : (i' : ℕ) → i' < K → word_at G new c i' ≡ 0
      read_zero i' l =
          word_other G wiped t i₀ (table_word G area c) c i' (idx_low m (suc s) high) l (λ z. not_c m (here refl) (suc s) (sym z.0))
          ∙ word_wiped G ws n c i' (words_are O) own.1 l

      -- each piece's walk stays, or goes on by one
      abbrev Stays : Mapping → Type 0
      Stays q = (walk new q ≡ walk ws q) × (reg q (suc s) ≢ reg m (suc s))

      abbrev Goes : Mapping → Type 0
      Goes q = (walk ws q ≡ walk ws m) × (walk new q ≡ stop Empty s (set (walk ws m).tables (3 - s) c)) × (reg q (suc s) ≡ reg m (suc s)) × (g q ≤ s)

      moved : (q : Mapping) → Memᴰ q ms → Stays q ⊎ Goes q
      moved q i = go (ℕ_discrete (reg q (suc s)) (reg m (suc s)))
        where
          low : reg q (suc s) ≡ reg m (suc s) → g q ≤ s
          low e = ⊎_elim (λ z. subst (λ (x : Mapping). g x ≤ s) (sym z) deep) (λ j. smaller s q j e) (Memᴰ.cases_cons i)

          go : Dec (reg q (suc s) ≡ reg m (suc s)) → Stays q ⊎ Goes q
          go (no d) = inl (walk_stays ws new q (O.empties q i) (are q i).low reads, d)
            where
              reads : (j : ℕ) → (walk ws q).left ≤ j → j ≤ k₀ → word_at G new (T ws q j) (idx q j) ≡ word_at G ws (T ws q j) (idx q j)
              reads j a b = read_other (T ws q j) (idx q j) (idx_low q j b) apart (not_c q i j)
                where
                  apart : (T ws q j ≡ t) × (idx q j ≡ i₀) → ⊥
                  apart (x, y) =
                      let (u, w) = O.one q m i (here refl) j (suc s) a b (omega (arith, left_is)) high x in
                      d (reg_down q m (suc s) high (subst (λ (z : ℕ). reg q (suc z) ≡ reg m (suc z)) u w) (ap (idx q) (sym u) ∙ y))
          go (yes e) = inr (same, rw same at linked, e, low e)
            where
              W : Way ws m
              W = way_of O m (here refl)

              same : walk ws q ≡ walk ws m
              same = stopped_walk G area ws (g q) (path_of G q.at)
                  (stopped_moved W few refl ws (g q) (path_of G q.at) (omega (arith, low e, left_is)) (λ d z. clash (cc (O.empties m (here refl))))
                  (λ j a b. ap (λ (x : ℕ). entry_at G area j (word_at G ws (T ws m j) x)) (idx_same q m (suc s) j (omega (arith, left_is)) b e)))

              at_t : T ws q (suc s) ≡ t
              at_t = ap (λ (o : Walked). at_height o.tables (suc s)) same

              left_q : (walk ws q).left ≡ suc s
              left_q = ap (λ (o : Walked). o.left) same ∙ left_is

              linked : walk new q ≡ stop Empty s (set (walk ws q).tables (3 - s) c)
              linked = stopped_walk G area new (g q) (path_of G q.at)
                  (stopped_linked (way_of O q i) few refl new s c left_q (low e)
                  (λ j a b. ap (entry_at G area j) (read_other (T ws q j) (idx q j) (idx_low q j b)
                  (λ z. omega (arith, a, left_q, (O.one q m i (here refl) j (suc s) (omega arith) b (omega (arith, left_is)) high z.0).0)) (not_c q i j)))
                  (ap (entry_at G area (suc s)) (ap (λ (x : ℕ). word_at G new x (idx q (suc s))) at_t ∙ ap (word_at G new t) (idx_same q m (suc s) (suc s) (omega arith) high e) ∙ read_link)
                  ∙ table_back G area (good_setup_lem O.good).numbers.placed (suc s) c (omega arith) own.0 own.1)
                  (among_none c (walk ws q).tables (own.2 q i))
                  (ap (entry_at G area s) (read_zero (idx q s) (idx_low q s (omega (arith, high)))) ∙ entry_zero G area s))

      moved_left : (walk new m).left ≡ s
      moved_left = ⊎_elim (λ z. absurd (z.1 refl)) (λ z. ap (λ (o : Walked). o.left) z.1) (moved m (here refl))

      at_s : at_height (set (walk ws m).tables (3 - s) c) s ≡ c
      at_s = get_or-set_same (walk ws m).tables (3 - s) c 0 (omega (arith, tables_long O m (here refl)))

      moved_table : T new m s ≡ c
      moved_table = ⊎_elim (λ z. absurd (z.1 refl)) (λ z. ap (λ (o : Walked). at_height o.tables s) z.1 ∙ at_s) (moved m (here refl))

      -- where each table of a way comes from
      abbrev Was : Mapping → ℕ → Type 0
      Was q j = (((walk ws q).left ≤ j) × (T new q j ≡ T ws q j)) ⊎ ((j ≡ s) × (T new q j ≡ c) × (reg q (suc s) ≡ reg m (suc s)))

      was : (q : Mapping) → Memᴰ q ms → (j : ℕ) → (walk new q).left ≤ j → j ≤ k₀ → Was q j
      was q i j a b =
          ⊎_elim (λ z. inl (subst (λ (o : Walked). o.left ≤ j) z.0 a, ap (λ (o : Walked). at_height o.tables j) z.0)) goes (moved q i)
        where
          goes : Goes q → Was q j
          goes (e, w, r, l) = on (ℕ_discrete j s)
            where
              from : s ≤ j
              from = subst (λ (o : Walked). o.left ≤ j) w a

              on : Dec (j ≡ s) → Was q j
              on (yes z) = inr (z, ap (λ (o : Walked). at_height o.tables j) w ∙ ap (at_height (set (walk ws m).tables (3 - s) c)) z ∙ at_s, r)
              on (no z) = inl (
                omega (arith, from, left_is, ap (λ (o : Walked). o.left) e),
                ap (λ (o : Walked). at_height o.tables j) w ∙ get_or-set_other (walk ws m).tables (3 - s) (3 - j) c 0 (λ y. omega (arith, from))
                    ∙ ap (λ (o : Walked). at_height o.tables j) (sym e),
              )

      new_mem : (q : Mapping) → Memᴰ q ms → (x : ℕ) → Memᴰ x (walk new q).tables → (x ≡ c) ⊎ Memᴰ x (walk ws q).tables
      new_mem q i x j =
          ⊎_elim (λ z. inr (subst (λ (o : Walked). Memᴰ x o.tables) z.0 j))
          (λ (e, w, r, l). ⊎_elim (λ z. inl z) (λ z. inr (subst (λ (o : Walked). Memᴰ x o.tables) (sym e) z))
          (mem_set (walk ws m).tables (3 - s) c x (subst (λ (o : Walked). Memᴰ x o.tables) w j)))
          (moved q i)

      -- one region less is lacked
      avoid : (q : Mapping) (k : ℕ) → (suc s ≤ k → reg q (suc s) ≢ reg m (suc s)) → Avoids q₀ (regions_of G q k)
      avoid q k d r i = let (j, a, b, e) = regions_of_lem G q k r i in subst (λ (x : Region). is q₀ x ≡ false) (sym e) (on j b (ℕ_discrete (suc s) j))
        where
          on : (j : ℕ) → j ≤ k → Dec (suc s ≡ j) → is q₀ (region (size_at G j) (base_at G q.at j)) ≡ false
          on j b (no z) = rw (ne_eqb (size_at G (suc s)) (size_at G j) (λ y. z (size_injective G Z (suc s) j y))) refl
          on j b (yes z) =
              and_no (eqb (size_at G (suc s)) (size_at G j))
              (ne_eqb (base_at G m.at (suc s)) (base_at G q.at j) (λ y. d (omega arith) (base_region G q.at m.at (suc s) (ap (base_at G q.at) z ∙ sym y))))
            where
              and_no : (x : Bool) {y : Bool} → y ≡ false → (x && y) ≡ false
              and_no true e = e
              and_no false e = refl

      is_own : (x : Bool) → (is q₀ q₀ || x) ≡ true
      is_own x = rw (eq-eqb (size_at G (suc s)) (size_at G (suc s)) refl, eq-eqb (base_at G m.at (suc s)) (base_at G m.at (suc s)) refl) refl

      new_regions_lem : (q : Mapping) → Memᴰ q ms → (B A : List Region) → Beside q₀ B A
          → new_regions (regions_of G q (walk ws q).left) B ≡ new_regions (regions_of G q (walk new q).left) A
      unfolding new_regions
      new_regions_lem q i B A b = ⊎_elim stays goes (moved q i)
        where
          stays : Stays q → new_regions (regions_of G q (walk ws q).left) B ≡ new_regions (regions_of G q (walk new q).left) A
          stays (e, d) =
              new_avoid q₀ (regions_of G q (walk ws q).left) B A (avoid q (walk ws q).left (λ _. d)) b
              ∙ ap (λ (o : Walked). new_regions (regions_of G q o.left) A) (sym e)

          goes : Goes q → new_regions (regions_of G q (walk ws q).left) B ≡ new_regions (regions_of G q (walk new q).left) A
          goes (e, w, r, l) =
              ap (λ (x : ℕ). new_regions (regions_of G q x) B) (ap (λ (o : Walked). o.left) e ∙ left_is)
              ∙ ap (λ (x : List Region). new_regions x B) (regions_here q (are q i) l r)
              ∙ (rw (b q₀ ∙ is_own (has_region q₀ A)) (new_avoid q₀ (regions_of G q s) B A (avoid q s (λ y. absurd (omega arith))) b))
              ∙ ap (λ (o : Walked). new_regions (regions_of G q o.left) A) (sym w)

      one_less_rest : (ps : List Mapping) → ((q : Mapping) → Memᴰ q ps → Memᴰ q ms) → (B A : List Region) → Beside q₀ B A
          → length B ≡ suc (length A) → length (lacked G (pl ws f) ps B) ≡ suc (length (lacked G (pl new (f - 1)) ps A))
      unfolding lacked
      one_less_rest [] h B A b l = l
      one_less_rest (q ∷ ps) h B A b l =
          one_less_rest ps (λ x i. h x (there i)) (Q ++ B) (Q' ++ A) (subst (λ (x : List Region). Beside q₀ (Q ++ B) (x ++ A)) same (beside_more q₀ Q B A b))
          (length-append Q B ∙ omega (arith, l, length-append Q' A, ap length same))
        where
          Q : List Region
          Q = new_regions (regions_of G q (walk ws q).left) B

          Q' : List Region
          Q' = new_regions (regions_of G q (walk new q).left) A

          same : Q ≡ Q'
          same = new_regions_lem q (h q (here refl)) B A b

      one_less : length (lacked G (pl ws f) ms []) ≡ suc (length (lacked G (pl new (f - 1)) ms []))
      unfolding lacked new_regions has_region
      one_less =
          ap (λ (x : List Region). length (lacked G (pl ws f) rest (new_regions x [] ++ []))) (ap (regions_of G m) left_is ∙ regions_here m (are m (here refl)) deep refl)
          ∙ one_less_rest rest (λ q i. there i) (q₀ ∷ (new_regions (regions_of G m s) [] ++ [])) (new_regions (regions_of G m s) [] ++ []) (λ r. refl) refl
          ∙ ap (λ (x : ℕ). suc (length (lacked G (pl new (f - 1)) rest (new_regions (regions_of G m x) [] ++ [])))) (sym moved_left)

      linked_good : good_pool G (pl new (f - 1)) ≡ true
      unfolding perform_all
      linked_good = leaves_good {p = pl ws f} {q = pl new (f - 1)} (after_writes (wipe c ∷ store (slot G t i₀) (table_word G area c) ∷ []) (f - 1) (λ l. omega arith)) O.good

      linked_ok : Ok new (f - 1) (N - 1) ms
      linked_ok = record {
        good = linked_good;
        empties = λ q i. ⊎_elim (λ z. ap (λ (o : Walked). o.entry) z.0 ∙ O.empties q i) (λ z. ap (λ (o : Walked). o.entry) z.1) (moved q i);
        one = λ q q' i i' j j' a b a' b' e. each q q' i i' j j' b b' e (was q i j a b) (was q' i' j' a' b');
        fresh = λ j l.
            let F = O.fresh (suc j) (omega arith) in
            subst (λ (x : ℕ). (0 < x) × (x < n) × ((q : Mapping) → Memᴰ q ms → Memᴰ x (walk new q).tables → ⊥)) (sym (further list f j))
            (F.0, F.1, λ q i x. ⊎_elim (λ z. O.once 0 (suc j) (omega arith) (omega arith) (sym z)) (F.2 q i) (new_mem q i (taken list f (suc j)) x));
        once = λ i j a b e. O.once (suc i) (suc j) (omega arith) (omega arith) (sym (further list f i) ∙ e ∙ further list f j);
        enough = omega (arith, O.enough);
        count = omega (arith, O.count, one_less);
      }
        where
          each : (q q' : Mapping) → Memᴰ q ms → Memᴰ q' ms → (j j' : ℕ) → j ≤ k₀ → j' ≤ k₀ → T new q j ≡ T new q' j' → Was q j → Was q' j'
              → (j ≡ j') × (reg q (suc j) ≡ reg q' (suc j))
          each q q' i i' j j' b b' e (inl (x, y)) (inl (x', y')) = O.one q q' i i' j j' x b x' b' (sym y ∙ e ∙ y')
          each q q' i i' j j' b b' e (inl (x, y)) (inr (x', y', z')) = absurd (not_c q i j (sym y ∙ e ∙ y'))
          each q q' i i' j j' b b' e (inr (x, y, z)) (inl (x', y')) = absurd (not_c q' i' j' (sym y' ∙ sym e ∙ y))
          each q q' i i' j j' b b' e (inr (x, y, z)) (inr (x', y', z')) = (x ∙ sym x', subst (λ (k : ℕ). reg q (suc k) ≡ reg q' (suc k)) (sym x) (z ∙ sym z'))

    -- ---- the frame's word is stored

    module _ (left_is : (walk ws m).left ≡ g m) (w : ℕ) where
      abbrev put : List ℕ
      put = set ws (slot G (T ws m (g m)) (idx m (g m))) w

      M : Piece m
      M = are m (here refl)

      pub put_same : (q : Mapping) → Memᴰ q rest → walk put q ≡ walk ws q
      put_same q i = walk_stays ws put q (O.empties q (there i)) (are q (there i)).low
          (λ j a b. word_other G ws (T ws m (g m)) (idx m (g m)) w (T ws q j) (idx q j) (idx_low m (g m) M.low) (idx_low q j b) (apart j a b))
        where
          apart : (j : ℕ) → (walk ws q).left ≤ j → j ≤ k₀ → (T ws q j ≡ T ws m (g m)) × (idx q j ≡ idx m (g m)) → ⊥
          apart j a b (x, y) =
              let (u, v) = O.one q m (there i) (here refl) j (g m) a b (omega (arith, left_is)) M.low x in
              let e = reg_down q m (g m) M.low (subst (λ (z : ℕ). reg q (suc z) ≡ reg m (suc z)) u v) (ap (idx q) (sym u) ∙ y) in
              let d = region_base G q.at m.at (g m) e in
              let h = aligned_base G m.at (g m) M.aligned in
              let k = base_end G q.at (g m) in
              let r = rising q i in
              omega (arith, M.sized)

      regions_none : (k : ℕ) → k ≤ g m → regions_of G m k ≡ []
      unfolding regions_of
      regions_none zero l = refl
      regions_none (suc k) l =
          rw (le-ltb m.size (size_at G (suc k)) (subst (λ (x : ℕ). size_at G (suc k) ≤ x) M.sized (size_le G l)), regions_none k (omega arith)) refl

      lacked_same : (ps : List Mapping) → ((q : Mapping) → Memᴰ q ps → Memᴰ q rest) → (R : List Region) → lacked G (pl put f) ps R ≡ lacked G (pl ws f) ps R
      unfolding lacked
      lacked_same [] h R = refl
      lacked_same (q ∷ ps) h R =
          lacked_same ps (λ x i. h x (there i)) (new_regions (regions_of G q (walk put q).left) R ++ R)
          ∙ ap (λ (o : Walked). lacked G (pl ws f) ps (new_regions (regions_of G q o.left) R ++ R)) (put_same q (h q (here refl)))

      lacked_first : lacked G (pl ws f) ms [] ≡ lacked G (pl ws f) rest []
      unfolding lacked new_regions
      lacked_first = ap (λ (x : List Region). lacked G (pl ws f) rest (new_regions x [] ++ [])) (ap (regions_of G m) left_is ∙ regions_none (g m) (omega arith))

      put_good : good_pool G (pl put f) ≡ true
      unfolding perform_all
      put_good = leaves_good {p = pl ws f} {q = pl put f} (after_writes (store (slot G (T ws m (g m)) (idx m (g m))) w ∷ []) f (λ l. l)) O.good

      put_ok : Ok put f N rest
      put_ok = record {
        good = put_good;
        empties = λ q i. ap (λ (o : Walked). o.entry) (put_same q i) ∙ O.empties q (there i);
        one = λ q q' i i' j j' a b a' b' e. O.one q q' (there i) (there i') j j'
            (subst (λ (o : Walked). o.left ≤ j) (put_same q i) a) b (subst (λ (o : Walked). o.left ≤ j') (put_same q' i') a') b'
            (ap (λ (o : Walked). at_height o.tables j) (sym (put_same q i)) ∙ e ∙ ap (λ (o : Walked). at_height o.tables j') (put_same q' i'));
        fresh = λ j l. let F = O.fresh j l in (F.0, F.1, λ q i x. F.2 q (there i) (subst (λ (o : Walked). Memᴰ (taken list f j) o.tables) (put_same q i) x));
        once = O.once;
        enough = O.enough;
        count = ap length (lacked_same rest (λ q i. i) [] ∙ sym lacked_first) ∙ O.count;
      }

  -- ---- one piece

  -- what mapping the first piece writes, where so many tables lack for it
  pub record Put (ws : List ℕ) (f N d w : ℕ) (m : Mapping) (rest : List Mapping) : Type 0 where
    pub words : List ℕ
    pub carried : perform_all G (map_writes G area (path_of G m.at) list (g m) w (T ws m (walk ws m).left) f d) (memory ws list) ≡ memory words list
    pub within : d ≤ N
    pub ok : Ok words (f - d) (N - d) rest
    -- of a piece of its height in the same table the walk ends there now
    pub beside : (q : Mapping) → Memᴰ q rest → g q ≡ g m → reg m (suc (g m)) ≡ reg q (suc (g m)) → (walk words q).left ≡ g m

  first_place : (f : ℕ) → taken list f 0 ≡ get_or list (f - 1) 0
  first_place f = ap (λ (i : ℕ). get_or list i 0) (omega arith)

  pub chain : (d : ℕ) {ws : List ℕ} {f N : ℕ} (w : ℕ) {m : Mapping} {rest : List Mapping} (O : Ok ws f N (m ∷ rest)) → ((q : Mapping) → Memᴰ q (m ∷ rest) → Piece q)
      → ((q : Mapping) → Memᴰ q rest → m.at + m.size ≤ q.at) → (walk ws m).left ≡ d + g m → Put ws f N d w m rest
  unfolding perform_all map_writes
  chain zero {ws} {f} {N} w {m} {rest} O are rising e = record {
    words = put O are rising at_target w;
    carried = ap (λ (x : ℕ). memory (set ws (slot G (T ws m x) (idx m (g m))) w) list) at_target;
    within = omega arith;
    ok = subst₂ (λ (x y : ℕ). Ok (put O are rising at_target w) x y rest) (omega arith) (omega arith) (put_ok O are rising at_target w);
    beside = λ q i z r. ap (λ (o : Walked). o.left) (put_same O are rising at_target w q i) ∙ neighbour q z r;
  }
    where
      at_target : (walk ws m).left ≡ g m
      at_target = e ∙ omega arith

      neighbour : (q : Mapping) → g q ≡ g m → reg m (suc (g m)) ≡ reg q (suc (g m)) → (walk ws q).left ≡ g m
      neighbour q z r =
          ap (λ (t : ℕ). (walk_from G ws area t (path_of G q.at) k₀ no_way 0).left) z
          ∙ ap (λ (o : Walked). o.left)
          (stopped_walk G area ws (g m) (path_of G q.at)
          (stopped_beside (way_of O m (here refl)) few refl (path_of G q.at) at_target
          (λ j a b. idx_same q m (suc (g m)) j (omega (arith, at_target)) b (sym r))))
          ∙ at_target
  chain (suc d) {ws} {f} {N} w {m} {rest} O are rising e = go (chain d w (linked_ok O are rising s left_is deep) are rising (moved_left O are rising s left_is deep))
    where
      s : ℕ
      s = d + g m

      left_is : (walk ws m).left ≡ suc s
      left_is = e ∙ omega arith

      deep : g m ≤ s
      deep = omega arith

      ws₁ : List ℕ
      ws₁ = new O are rising s left_is deep

      lacks : 1 ≤ N
      lacks = some_lacked O are rising s left_is deep

      -- what is left to be carried out once table x is linked at height y of table z
      after : ℕ → ℕ → ℕ → Memory
      after x y z = perform_all G (map_writes G area (path_of G m.at) list (g m) w x (f - 1) d) (memory (set (zeroed ws (slot G x 0) K) (slot G z (idx m y)) (table_word G area x)) list)

      go : Put ws₁ (f - 1) (N - 1) d w m rest → Put ws f N (suc d) w m rest
      go C = record {
        words = C.words;
        carried =
            ap (λ (x : ℕ). after x (suc d + g m) (T ws m (walk ws m).left)) (sym (first_place f))
            ∙ ap (λ (y : ℕ). after (taken list f 0) y (T ws m (walk ws m).left)) (omega arith)
            ∙ ap (λ (z : ℕ). after (taken list f 0) (suc s) (T ws m z)) left_is
            ∙ ap (λ (x : ℕ). perform_all G (map_writes G area (path_of G m.at) list (g m) w x (f - 1) d) (memory ws₁ list))
            (sym (ap (T ws₁ m) (moved_left O are rising s left_is deep) ∙ moved_table O are rising s left_is deep))
            ∙ C.carried;
        within = omega (arith, C.within, lacks);
        ok = subst₂ (λ (x y : ℕ). Ok C.words x y rest) (omega arith) (omega arith) C.ok;
        beside = C.beside;
      }

  -- the tables that it takes may be taken
  may_take_lem : {ws : List ℕ} {f N : ℕ} {m : Mapping} {rest : List Mapping} (O : Ok ws f N (m ∷ rest)) (d : ℕ) → d ≤ N → may_take list n (walk ws m).tables f d ≡ true
  may_take_lem {ws} {f} {N} {m} O d l = go (may_take list n (walk ws m).tables f d) refl
    where
      bad : BadTaken list n f d (walk ws m).tables → ⊥
      bad (root_taken j a b) = omega (arith, (O.fresh j (omega arith)).0)
      bad (beyond_taken j a b) = omega (arith, (O.fresh j (omega arith)).1)
      bad (taken_twice i j a b e) = O.once i j a (omega arith) e
      bad (taken_on_path j a i) = (O.fresh j (omega arith)).2 m (here refl) i

      go : (y : Bool) → may_take list n (walk ws m).tables f d ≡ y → y ≡ true
      go true e = refl
      go false e = absurd (bad (cannot_take list n (walk ws m).tables f d e))

  -- so map accepts the piece
  pub map_piece_lem : {ws : List ℕ} {f N : ℕ} {m : Mapping} {rest : List Mapping} (O : Ok ws f N (m ∷ rest))
      → map_tests G sp.levels area m.at m.frame m.size m.attributes ≡ 0
      → (C : Put ws f N ((walk ws m).left - g m) (frame_word m.frame (g m) m.attributes) m rest)
      → map_piece G (pl ws f) m ≡ done (took ((walk ws m).left - g m)) (pl C.words (f - ((walk ws m).left - g m)))
  unfolding map_w map_at map_here
  map_piece_lem {ws} {f} {N} {m} O tests C =
      rw (O.good, eq-eqb _ _ tests)
      (ap (map_at G (pl ws f) m.at m.frame (g m) m.attributes (walk ws m)) (O.empties m (here refl))
      ∙ (rw (le-ltb f d (omega (arith, C.within, O.enough)), may_take_lem O d C.within)
      (ap (λ (x : Memory). done (took d) (pool (with_free sp (f - d)) x.words cut x.list)) C.carried)))
    where
      d : ℕ
      d = (walk ws m).left - g m

  -- ---- all pieces

  pub record Took (ws : List ℕ) (f N : ℕ) (ms : List Mapping) : Type 0 where
    pub accepted : (x : Answer) → Memᴰ x (answers_of (map_piece G) (pl ws f) ms) → (t : ℕ) × (x ≡ took t)
    pub sum : sum_of tables_in (answers_of (map_piece G) (pl ws f) ms) ≡ N

  -- a tile that map's tests let pass is a piece
  tile_piece : {k a b left h : ℕ} → G.fewest ≤ sp.levels → Fits G a b left h → Piece (mapping a b (size_at G h) k)
  tile_piece enough F =
      let e = size_height G Z F.level in
      record { sized = ap (size_at G) e; aligned = rw e F.address; low = omega (arith, e, F.level, Z.large_below) }

  pub tiles_piece : {k a b left : ℕ} {ms : List Mapping} → Tiles G k a b left ms → G.fewest ≤ sp.levels → (q : Mapping) → Memᴰ q ms → Piece q
  tiles_piece over enough q i = absurd (Memᴰ.not-nil i)
  tiles_piece (piece F most more) enough q i = ⊎_elim (λ e. subst Piece (sym e) (tile_piece enough F)) (λ j. tiles_piece more enough q j) (Memᴰ.cases_cons i)

  all_took : {k a b left : ℕ} {ms : List Mapping} → Tiles G k a b left ms → G.fewest ≤ sp.levels
      → ((q : Mapping) → Memᴰ q ms → map_tests G sp.levels area q.at q.frame q.size q.attributes ≡ 0)
      → {ws : List ℕ} {f N : ℕ} → Ok ws f N ms → Took ws f N ms
  unfolding answers_of sum_of lacked
  all_took over enough tests O = record { accepted = λ x i. absurd (Memᴰ.not-nil i); sum = O.count }
  all_took {k} {a} {b} (piece {h = h} {ms = rest} F most more) enough tests {ws} {f} {N} O = go (all_took more enough (λ q i. tests q (there i)) C.ok)
    where
      m : Mapping
      m = mapping a b (size_at G h) k

      are : (q : Mapping) → Memᴰ q (m ∷ rest) → Piece q
      are q i = tiles_piece (piece {h = h} F most more) enough q i

      d : ℕ
      d = (walk ws m).left - g m

      deep : g m ≤ (walk ws m).left
      deep = came_target (way_of O m (here refl)).came (are m (here refl)).low

      C : Put ws f N d (frame_word b (g m) k) m rest
      C = chain d (frame_word b (g m) k) O are (λ q i. (tiles_inside more q i).0) (omega (arith, deep))

      is_took : map_piece G (pl ws f) m ≡ done (took d) (pl C.words (f - d))
      is_took = map_piece_lem O (tests m (here refl)) C

      go : Took C.words (f - d) (N - d) rest → Took ws f N (m ∷ rest)
      go E = record {
        accepted = λ x i. ⊎_elim (λ z. (d, z ∙ ap (λ (y : Done). y.answer) is_took))
            (λ j. E.accepted x (subst (λ (y : Done). Memᴰ x (answers_of (map_piece G) y.after rest)) is_took j)) (Memᴰ.cases_cons i);
        sum = ap (λ (y : Done). tables_in y.answer + sum_of tables_in (answers_of (map_piece G) y.after rest)) is_took ∙ omega (arith, E.sum, C.within);
      }

  -- ---- at entry

  -- the tests of a range, over its walks at entry, say that its pieces can be mapped
  pub start : (ws : List ℕ) (f : ℕ) (ms : List Mapping) → good_pool G (pl ws f) ≡ true → ((m : Mapping) → Memᴰ m ms → (walk ws m).entry ≡ Empty)
      → one_region_each (on_ways G sp.levels (piece_walks G (pl ws f) ms)) ≡ true → length (lacked G (pl ws f) ms []) ≤ f
      → may_take list n (ways (piece_walks G (pl ws f) ms)) f (length (lacked G (pl ws f) ms [])) ≡ true → Ok ws f (length (lacked G (pl ws f) ms [])) ms
  start ws f ms good empties each room may = record {
    good = good;
    empties = empties;
    one = λ m m' i i' j j' a b a' b' e. same m m' j j' (each_so (on_ways G sp.levels probes) each (stands m j) (stands m' j') (standing_in m i j a b) (standing_in m' i' j' a' b') e);
    fresh = λ j l. (above_root j l (dec_lt 0 (taken list f j)), below_count j l (dec_lt (taken list f j) n), λ m i x. bad (taken_on_path j l (tables_in_lem probes (at m) (is_in m i) (taken list f j) x)));
    once = λ i j a b e. bad (taken_twice i j a b e);
    enough = room;
    count = refl;
  }
    where
      probes : List Probe
      probes = piece_walks G (pl ws f) ms

      at : Mapping → Probe
      at m = piece_walk G (pl ws f) m

      N : ℕ
      N = length (lacked G (pl ws f) ms [])

      bad : BadTaken list n f N (ways probes) → ⊥
      bad = may_not_bad list n (ways probes) f N may

      above_root : (j : ℕ) → j < N → Dec (0 < taken list f j) → 0 < taken list f j
      above_root j l (yes a) = a
      above_root j l (no a) = absurd (bad (root_taken j l (omega arith)))

      below_count : (j : ℕ) → j < N → Dec (taken list f j < n) → taken list f j < n
      below_count j l (yes a) = a
      below_count j l (no a) = absurd (bad (beyond_taken j l (omega arith)))

      is_in : (m : Mapping) → Memᴰ m ms → Memᴰ (at m) probes
      is_in m i = Memᴰ.map (piece_walk G (pl ws f)) i

      stands : Mapping → ℕ → Standing
      stands m j = standing_at G m.at (walk ws m).tables j

      levels_are : sp.levels ≡ suc k₀
      levels_are = omega (arith, (good_setup_lem good).numbers.enough, Z.large_below)

      standing_in : (m : Mapping) → Memᴰ m ms → (j : ℕ) → (walk ws m).left ≤ j → j ≤ k₀ → Memᴰ (stands m j) (on_ways G sp.levels probes)
      standing_in m i j a b = ways_has G sp.levels probes (at m) (is_in m i) j a (omega (arith, levels_are))

      same : (m m' : Mapping) (j j' : ℕ) → (size_at G (suc j) ≡ size_at G (suc j')) × (base_at G m.at (suc j) ≡ base_at G m'.at (suc j'))
          → (j ≡ j') × (reg m (suc j) ≡ reg m' (suc j))
      same m m' j j' (x, y) =
          let z : j ≡ j' = omega (arith, size_injective G Z (suc j) (suc j') x) in
          (z, base_region G m.at m'.at (suc j) (y ∙ ap (λ (k : ℕ). base_at G m'.at (suc k)) (sym z)))

-- a test chooses between two
pub chosen : (P : Done → Type 0) (y : Bool) (d e : Done) → (y ≡ true → P d) → (y ≡ false → P e) → P (cond y d e)
chosen P true d e f g = f refl
chosen P false d e f g = g refl

pub map_range_view : (G : Granule) (p : Pool) (a b len k : ℕ) → MapRangeView G p a b len k (map_range_w G p a b len k)
unfolding map_range_w map_range_at map_range_here
map_range_view G p a b len k =
    chosen Seen (good_pool G p) _ (refuse 1 p) (λ q₁.
    chosen Seen (eqb no 0) _ (refuse no p) (λ q₂.
    chosen Seen (spoiled G p.numbers.levels ws) (refuse 8 p) _ (λ _. range_refuses 8) (λ q₃.
    chosen Seen (any_ends is_taken ws) (refuse 6 p) _ (λ _. range_refuses 6) (λ q₄.
    chosen Seen (ltb p.numbers.free need) (refuse 7 p) _ (λ _. range_refuses 7) (λ q₅.
    chosen Seen (may_take p.list (total (area_of p.numbers)) (ways ws) p.numbers.free need) (done (took need) (left_by (map_piece G) p ms)) (refuse 8 p) (λ q₆.
    let (u, w) = or-false (any_ends is_damaged ws) (not (one_region_each (on_ways G p.numbers.levels ws))) q₃ in
    range_takes (record {
      good = q₁;
      tests = eqb-true no 0 q₂;
      undamaged = u;
      one_each = not-false (one_region_each (on_ways G p.numbers.levels ws)) w;
      untaken = q₄;
      room = ltb-false p.numbers.free need q₅;
      may = q₆;
    })) (λ _. range_refuses 8)))))
    (λ _. range_refuses no))
    (λ _. range_refuses 1)
  where
    ms : List Mapping
    ms = pieces G a b len k

    ws : List Probe
    ws = piece_walks G p ms

    need : ℕ
    need = length (lacked G p ms [])

    no : ℕ
    no = map_range_tests G p.numbers.levels (area_of p.numbers) a b len k

    Seen : Done → Type 0
    Seen d = MapRangeView G p a b len k d

-- its pieces are mapped one by one: each is accepted, and together they take the tables that are lacked
pub all_mapped : (G : Granule) → Sane G → (p : Pool) (a b len k : ℕ) → Accepted G p a b len k
    → ((x : Answer) → Memᴰ x (answers_of (map_piece G) p (pieces G a b len k)) → (j : ℕ) × (x ≡ took j))
    × (sum_of tables_in (answers_of (map_piece G) p (pieces G a b len k)) ≡ length (lacked G p (pieces G a b len k) []))
all_mapped G Z p a b len k B = (E.accepted, E.sum)
  where
    S : GoodSetup G p.numbers p.cut (length p.words) (length p.list)
    S = good_setup_lem B.good

    F : FineRange G p.numbers.levels (area_of p.numbers) a b len k
    F = range_fine G p.numbers.levels (area_of p.numbers) a b len k B.tests

    ms : List Mapping
    ms = pieces G a b len k

    tiled : Tiles G k a b len ms
    tiled = tiles G p.numbers.levels (area_of p.numbers) a b len k F

    empties : (m : Mapping) → Memᴰ m ms → (walk_for G p m).entry ≡ Empty
    empties m i =
        let j = Memᴰ.map (piece_walk G p) i in
        neither (walk_for G p m).entry (none_ends is_damaged (piece_walks G p ms) B.undamaged (piece_walk G p m) j) (none_ends is_taken (piece_walks G p ms) B.untaken (piece_walk G p m) j)

    few : p.numbers.levels - 1 < 4
    few = omega (arith, S.numbers.not_more, Z.most_four)

    E : Took G Z p.numbers few p.cut p.list p.words p.numbers.free (length (lacked G p ms [])) ms
    E = all_took G Z p.numbers few p.cut p.list tiled S.numbers.enough
        (tiles_tests Z tiled p.numbers.levels (area_of p.numbers) F.some_attributes F.in_space F.in_physical F.outside)
        (start G Z p.numbers few p.cut p.list p.words p.numbers.free ms B.good empties B.one_each B.room B.may)

pub one_by_one : (G : Granule) → Sane G → (p : Pool) (a b len k t : ℕ) → (map_range_w G p a b len k).answer ≡ took t → OneByOne G p a b len k t
one_by_one G Z p a b len k t e = go (map_range_w G p a b len k) refl (map_range_view G p a b len k) e
  where
    go : (d : Done) → map_range_w G p a b len k ≡ d → MapRangeView G p a b len k d → d.answer ≡ took t → OneByOne G p a b len k t
    go d q (range_takes B) e = record { each = (all_mapped G Z p a b len k B).0; sum = (all_mapped G Z p a b len k B).1 ∙ cc; after = ap (λ (x : Done). x.after) q }
    go d q (range_refuses j) e = clash (cc)
