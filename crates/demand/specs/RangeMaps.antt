-- A range mapped on a pool that holds a ledger: the answer is the ledger's, and the pool after it holds the ledger after it.
use Prim.Native.Nat.{ℕ, zero, suc, ◌+◌, ◌-◌, ◌≤◌, ◌<◌}
use Rattle.std.specs.Prelude.{◌≡◌, Bool, cond, ◌||◌, eqb, length}
use Rattle.std.proofs.Math.Path.{refl, ap}
use Rattle.std.proofs.Common.{sym, ◌∙◌, subst, ⊎_elim, add-zero, add-suc, arith, length-append}
use Rattle.std.proofs.Math.Bool.{true, false}
use Rattle.std.proofs.lemmas.Bool.{false≢true}
use mathlib.Core.List.Memᴰ
use mathlib.Core.List.Memᴰ.{head as here}
use mathlib.Core.List.Memᴰ.{tail as there}
use mathlib.Core.List.{List, [], ◌∷◌, ◌++◌, map, Memᴰ}
use Rattle.std.proofs.Math.Decide.{ℕ_discrete}
use Rattle.std.proofs.Math.Dec.{ltb}
use borrow.Author.Tests.{ltb-false, eqb-true, le-ltb, eq-eqb}
use Rattle.path.specs.Geometry.{Granule, entries, size_at, space_of, physical, height_of, Sane}
use Rattle.path.specs.Areas as areas
use Rattle.path.specs.Areas.{area_of, total}
use Rattle.path.specs.Laws.{size_pos}
use Rattle.path.specs.Paths.{base_at}
use Rattle.entry.specs.declared.Entry.{Entry}
use Rattle.entry.specs.declared.Entry.TheVariants.{Empty, Table, Frame, Damaged}
use Rattle.model.specs.Answers as answers
use Rattle.model.specs.Answers.{took, refused, Pool, Done, done, refuse}
use Rattle.model.specs.declared.Walked.{Walked}
use Rattle.model.specs.Writes.{may_take}
use Rattle.model.specs.Calls.{map_tests}
use Rattle.model.specs.Ledger.{Ledger, with_live, any_overlap, Region, region, regions_of, has_region, new_regions, regions_needed, tables_needed, tables_lacking, free_tables, Entered, entered, map_l}
use Rattle.model.specs.Holes.{Shares}
use Rattle.model.specs.Ranges.{map_range_tests, pieces, Probe, walk_for, piece_walk, piece_walks, is_taken, any_ends, lacked, ways, map_piece, left_by, map_range_here, map_range_at, map_range_w, gain, gain_of, map_range_l}
use Rattle.model.proofs.RangeLaws.{range_fine, tiles, fits_tests, tiles_tests, tiles_inside, tiles_overlap, overlap_less, overlaps_none, none_overlaps, part_outside}
use Rattle.model.specs.RangeLaws.{Tiles, over, piece, FineRange}
use Rattle.model.proofs.RangeMapped.{or_assoc, has_append, some_ends, none_ends, neither, map_range_view}
use Rattle.model.specs.RangeMapped.{MapRangeView, range_takes, range_refuses}
use Rattle.model.proofs.DescentLaws.{clash}
use Rattle.tree.specs.Region.{anc}
use Rattle.tree.specs.Tree.{empty, table, table≢empty}
use Rattle.tree.specs.Walk.{chain}
use Rattle.tree.specs.Ledger.{frame_meets, table_meets, inside_table, table_inside}
use Rattle.tree.specs.Needed.{Reg, reg, needed, needed_has, needed_from}
use Rattle.demand.specs.Shown.{shown, pg, shown_region, has_member, member_has, needed_shown}
use Rattle.demand.specs.Arm.{read_entry}
use Rattle.demand.specs.Walks.{Ended, never_bad, entry_table}
use Rattle.demand.specs.Sims.{Sim}
use Rattle.demand.specs.Queries.{area, n, k₀, al, R, own, ledger_is, pool_good, few, root_at, walk_ended, tables_above, entry_empty, entry_frame}
use Rattle.demand.specs.Maps.{Fine, Alike, own_sim, free_is, count_is, tests_fine, low, met_any, none_overlap}
use Rattle.demand.specs.Steps.{map_step}
use Rattle.demand.specs.Demand3.{map_of, pool_after, ledger_after}
use Rattle.demand.specs.RangeWays.{Made, not_damaged, around, never_spoiled, may_take_all}

-- ---- the ledger

-- tables needed with one more mapping
needed_more : (G : Granule) (levels : ℕ) (m : answers.Mapping) (L : List answers.Mapping) → tables_needed G levels (m ∷ L) ≡ tables_lacking G levels L m + tables_needed G levels L
unfolding tables_needed tables_lacking regions_needed
needed_more G levels m L = length-append (new_regions (regions_of G m (levels - 1)) (regions_needed G (levels - 1) L)) (regions_needed G (levels - 1) L)

needed_gain : (G : Granule) (levels : ℕ) (ms L : List answers.Mapping) → tables_needed G levels L ≤ tables_needed G levels (gain ms L)
unfolding gain
needed_gain G levels [] L = omega arith
needed_gain G levels (m ∷ ms) L = omega (arith, needed_gain G levels ms (m ∷ L), needed_more G levels m L)

-- a map that the tests let pass, that overlaps nothing and lacks no more than is free
map_enters : (G : Granule) (A : Ledger) (a b size k : ℕ) → map_tests G A.levels A.area a b size k ≡ 0 → any_overlap a size A.live ≡ false
    → tables_lacking G A.levels A.live (answers.mapping a b size k) ≤ free_tables G A
    → map_l G A a b size k ≡ entered (took (tables_lacking G A.levels A.live (answers.mapping a b size k))) (with_live A (answers.mapping a b size k ∷ A.live))
unfolding map_l
map_enters G A a b size k e f l = rw (e, f, le-ltb (free_tables G A) _ l) refl

-- ---- one piece

module _ (G : Granule) (Z : Sane G) {p : Pool} {A : Ledger} (I : Sim G Z p A) where
  abbrev live : List answers.Mapping
  live = map (shown G Z) I.L

  abbrev R₀ : List Region
  R₀ = regions_needed G (k₀ G Z I) live

  abbrev FineM : answers.Mapping → Type 0
  FineM m = Fine G p.numbers.levels (area G Z I) m.at m.frame m.size m.attributes

  piece_low : (m : answers.Mapping) → FineM m → height_of G m.size ≤ k₀ G Z I
  piece_low m F = low G Z I m.at m.frame m.size m.attributes F

  made : (m : answers.Mapping) → FineM m → Made G Z I (piece_walk G p m)
  made m F = record { target = height_of G m.size; low = piece_low m F; inside = F.start_in; is = refl }

  module _ (m : answers.Mapping) (F : FineM m) where
    abbrev o : Walked
    o = walk_for G p m

    abbrev g : ℕ
    g = height_of G m.size

    abbrev v : ℕ
    v = pg G Z m.at

    abbrev s : ℕ
    s = o.left

    abbrev E : Ended G Z (area G Z I) p.numbers.levels (al G Z I) (few G Z I) p.words (R G Z I) m.at g (k₀ G Z I) o
    E = walk_ended G Z I g m.at (piece_low m F) F.start_in

    is_vacant : o.entry ≡ Empty → I.S s (anc (entries G) s v) ≡ empty
    is_vacant e = entry_empty (I.S s (anc (entries G) s v)) (I.T s (anc (entries G) s v)) (ap read_entry (sym e) ∙ E.ends.says_is)

    -- its walk finds a frame or a table exactly where a live mapping overlaps it
    taken_overlaps : is_taken o.entry ≡ any_overlap m.at m.size live
    taken_overlaps = go o.entry refl (λ e. ap read_entry (sym e) ∙ E.ends.says_is)
      where
        go : (e : Entry) → o.entry ≡ e → ((q : o.entry ≡ e) → read_entry e ≡ Rattle.tree.specs.Tree.read_of (I.S s (anc (entries G) s v)) (I.T s (anc (entries G) s v)))
            → is_taken e ≡ any_overlap m.at m.size live
        go Empty q r = sym (none_overlap G Z I m.at m.frame m.size m.attributes F (is_vacant q))
        go (Frame b k) q r =
            sym (met_any G Z I m.at m.frame m.size m.attributes F
            (frame_meets (R G Z I) I.inv.holds E.ends (piece_low m F) (b + k) (entry_frame (I.S s (anc (entries G) s v)) (I.T s (anc (entries G) s v)) (b + k) (r q))))
        go (Table c) q r =
            sym (met_any G Z I m.at m.frame m.size m.attributes F
            (table_meets I.inv tt E.ends (entry_table (I.S s (anc (entries G) s v)) (I.T s (anc (entries G) s v)) c (r q)).0))
        go Damaged q r = absurd (never_bad (I.S s (anc (entries G) s v)) (I.T s (anc (entries G) s v)) (r q))

    here_region : (j : ℕ) → region (size_at G j) (base_at G m.at j) ≡ shown_region G Z (reg j (anc (entries G) j v))
    here_region j = around G Z I g m.at (piece_low m F) F.start_in j

    -- above the entry where the walk ended every region around it is needed by a live mapping
    has_above : (j : ℕ) → s < j → j ≤ k₀ G Z I → has_region (region (size_at G j) (base_at G m.at j)) R₀ ≡ true
    has_above j l b = rw (here_region j, needed_shown G Z (k₀ G Z I) I.L)
        (member_has G Z (reg j (anc (entries G) j v)) (needed (entries G) (k₀ G Z I) I.L)
        (needed_has (entries G) (k₀ G Z I) I.L (reg j (anc (entries G) j v)) b
        (table_inside I.inv tt j (anc (entries G) j v) (omega (arith, root_at G Z I)) (tables_above G Z I g m.at o E j l (omega (arith, root_at G Z I))))))

    -- where the entry is empty
    module _ (e : o.entry ≡ Empty) where
      -- up to it none is
      has_below : (j : ℕ) → j ≤ s → has_region (region (size_at G j) (base_at G m.at j)) R₀ ≡ false
      has_below j l = rw (here_region j, needed_shown G Z (k₀ G Z I) I.L) (go (has_region (shown_region G Z a) (map (shown_region G Z) (needed (entries G) (k₀ G Z I) I.L))) refl)
        where
          a : Reg
          a = reg j (anc (entries G) j v)

          table_here : I.S j (anc (entries G) j v) ≡ table → Dec (j ≡ s) → ⊥
          table_here t (yes z) = table≢empty (subst (λ (i : ℕ). I.S i (anc (entries G) i v) ≡ table) z t) (is_vacant e)
          table_here t (no z) = table≢empty (chain (R G Z I) v j (table≢empty t) s (omega arith) (omega (arith, E.ends.low, root_at G Z I))) (is_vacant e)

          go : (y : Bool) → has_region (shown_region G Z a) (map (shown_region G Z) (needed (entries G) (k₀ G Z I) I.L)) ≡ y → y ≡ false
          go false q = refl
          go true q = absurd (table_here
              (inside_table (R G Z I) I.inv.holds j (anc (entries G) j v) (omega (arith, E.ends.low, root_at G Z I))
              (needed_from (entries G) (k₀ G Z I) I.L a (has_member G Z a (needed (entries G) (k₀ G Z I) I.L) q)).1) (ℕ_discrete j s))

      -- so what it lacks beside the live mappings and other new ones is what it lacks from that entry down beside the other new ones
      module _ (N Q : List Region) (more : (r : Region) → has_region r Q ≡ (has_region r N || has_region r R₀)) where
        new_below : (j : ℕ) → j ≤ s → new_regions (regions_of G m j) Q ≡ new_regions (regions_of G m j) N
        unfolding regions_of new_regions
        new_below zero l = refl
        new_below (suc j) l = go (ltb m.size (size_at G (suc j))) (new_below j (omega arith))
          where
            a : Region
            a = region (size_at G (suc j)) (base_at G m.at (suc j))

            or_none : (b : Bool) → (b || false) ≡ b
            or_none true = refl
            or_none false = refl

            same : has_region a Q ≡ has_region a N
            same = more a ∙ ap (λ (y : Bool). has_region a N || y) (has_below (suc j) l) ∙ or_none (has_region a N)

            go : (y : Bool) → new_regions (regions_of G m j) Q ≡ new_regions (regions_of G m j) N
                → new_regions (cond y (a ∷ regions_of G m j) (regions_of G m j)) Q ≡ new_regions (cond y (a ∷ regions_of G m j) (regions_of G m j)) N
            go true ih = rw (same, ih) refl
            go false ih = ih

        new_above : (d : ℕ) → s + d ≤ k₀ G Z I → new_regions (regions_of G m (s + d)) Q ≡ new_regions (regions_of G m s) N
        unfolding regions_of new_regions
        new_above zero l = ap (λ (j : ℕ). new_regions (regions_of G m j) Q) (add-zero s) ∙ new_below s (omega arith)
        new_above (suc d) l = ap (λ (j : ℕ). new_regions (regions_of G m j) Q) (add-suc s d) ∙ go (ltb m.size (size_at G (suc (s + d)))) (new_above d (omega arith))
          where
            a : Region
            a = region (size_at G (suc (s + d))) (base_at G m.at (suc (s + d)))

            or_all : (b : Bool) → (b || true) ≡ true
            or_all true = refl
            or_all false = refl

            has : has_region a Q ≡ true
            has = more a ∙ ap (λ (y : Bool). has_region a N || y) (has_above (suc (s + d)) (omega arith) (omega arith)) ∙ or_all (has_region a N)

            go : (y : Bool) → new_regions (regions_of G m (s + d)) Q ≡ new_regions (regions_of G m s) N
                → new_regions (cond y (a ∷ regions_of G m (s + d)) (regions_of G m (s + d))) Q ≡ new_regions (regions_of G m s) N
            go true ih = rw has ih
            go false ih = ih

        new_same : new_regions (regions_of G m (k₀ G Z I)) Q ≡ new_regions (regions_of G m s) N
        new_same = ap (λ (j : ℕ). new_regions (regions_of G m j) Q) (omega (arith, E.ends.low)) ∙ new_above (k₀ G Z I - s) (omega (arith, E.ends.low))

-- ---- all pieces

module _ (G : Granule) (Z : Sane G) {p : Pool} {A : Ledger} (I : Sim G Z p A) where
  abbrev AllFine : List answers.Mapping → Type 0
  AllFine ms = (m : answers.Mapping) → Memᴰ m ms → FineM G Z I m

  all_made : (ms : List answers.Mapping) → AllFine ms → (w : Probe) → Memᴰ w (piece_walks G p ms) → Made G Z I w
  all_made ms f w i = let (m, j, e) = Memᴰ.of_map (piece_walk G p) ms i in subst (Made G Z I) e (made G Z I m (f m j))

  -- live mappings have bytes
  pub live_some : (m : answers.Mapping) → Memᴰ m (live G Z I) → 0 < m.size
  live_some m i = let (b, c, e) = Memᴰ.of_map (shown G Z) I.L i in subst (λ (x : answers.Mapping). 0 < x.size) e (size_pos G b.h)

  -- some walk finds a frame or a table exactly where a live mapping overlaps the range
  any_taken : {k a b left : ℕ} {ms : List answers.Mapping} → Tiles G k a b left ms → 0 < left → AllFine ms → any_ends is_taken (piece_walks G p ms) ≡ any_overlap a left (live G Z I)
  any_taken {a = a} {left = left} {ms} t l f = go (any_ends is_taken (piece_walks G p ms)) (any_overlap a left (live G Z I)) refl refl
    where
      apart : any_ends is_taken (piece_walks G p ms) ≡ false → (m : answers.Mapping) → Memᴰ m ms → any_overlap m.at m.size (live G Z I) ≡ false
      apart e m i = sym (taken_overlaps G Z I m (f m i)) ∙ none_ends is_taken (piece_walks G p ms) e (piece_walk G p m) (Memᴰ.map (piece_walk G p) i)

      go : (x y : Bool) → any_ends is_taken (piece_walks G p ms) ≡ x → any_overlap a left (live G Z I) ≡ y → x ≡ y
      go true true e q = refl
      go false false e q = refl
      go true false e q =
          let (w, i, t₁) = some_ends is_taken (piece_walks G p ms) e in
          let (m, j, z) = Memᴰ.of_map (piece_walk G p) ms i in
          let (u, x) = tiles_inside t m j in
          absurd (false≢true (sym (overlap_less a left m.at m.size (live G Z I) u x q) ∙ sym (taken_overlaps G Z I m (f m j)) ∙ subst (λ (w : Probe). is_taken w.end.entry ≡ true) (sym z) t₁))
      go false true e q = absurd (false≢true (sym (tiles_overlap t (live G Z I) live_some l (apart e)) ∙ q))

  -- as many tables are lacked as the ledger needs more
  lacked_count : (ms : List answers.Mapping) (f : AllFine ms) → ((m : answers.Mapping) → Memᴰ m ms → (walk_for G p m).entry ≡ Empty)
      → (N : List Region) (L : List answers.Mapping)
      → ((r : Region) → has_region r (regions_needed G (k₀ G Z I) L) ≡ (has_region r N || has_region r (R₀ G Z I)))
      → length (regions_needed G (k₀ G Z I) L) ≡ length N + length (R₀ G Z I)
      → length (regions_needed G (k₀ G Z I) (gain ms L)) ≡ length (lacked G p ms N) + length (R₀ G Z I)
  unfolding gain lacked regions_needed
  lacked_count [] f e N L more c = c
  lacked_count (m ∷ ms) f e N L more c = lacked_count ms (λ x i. f x (there i)) (λ x i. e x (there i)) (Q ++ N) (m ∷ L) more' count
    where
      Q : List Region
      Q = new_regions (regions_of G m (walk_for G p m).left) N

      B : List Region
      B = regions_needed G (k₀ G Z I) L

      same : new_regions (regions_of G m (k₀ G Z I)) B ≡ Q
      same = new_same G Z I m (f m (here refl)) (e m (here refl)) N B more

      more' : (r : Region) → has_region r (new_regions (regions_of G m (k₀ G Z I)) B ++ B) ≡ (has_region r (Q ++ N) || has_region r (R₀ G Z I))
      more' r =
          ap (λ (z : List Region). has_region r (z ++ B)) same ∙ has_append r Q B ∙ ap (λ (y : Bool). has_region r Q || y) (more r)
          ∙ sym (or_assoc (has_region r Q) (has_region r N) (has_region r (R₀ G Z I))) ∙ ap (λ (y : Bool). y || has_region r (R₀ G Z I)) (sym (has_append r Q N))

      count : length (new_regions (regions_of G m (k₀ G Z I)) B ++ B) ≡ length (Q ++ N) + length (R₀ G Z I)
      count = ap (λ (z : List Region). length (z ++ B)) same ∙ length-append Q B ∙ omega (arith, c, length-append Q N)

-- ---- one by one

-- what the pieces leave is what their calls leave
pub pieces_left : (G : Granule) (p : Pool) (ms : List answers.Mapping) → left_by (map_piece G) p ms ≡ pool_after G p (map map_of ms)
unfolding left_by
pieces_left G p [] = refl
pieces_left G p (m ∷ ms) = pieces_left G (map_piece G p m).after ms

module _ (G : Granule) (Z : Sane G) where
  -- the pool holds the ledger after each map
  pieces_sim : (ms : List answers.Mapping) {p : Pool} {A : Ledger} → Sim G Z p A → Sim G Z (left_by (map_piece G) p ms) (ledger_after G A (map map_of ms))
  unfolding left_by
  pieces_sim [] I = I
  pieces_sim (m ∷ ms) I = pieces_sim ms (map_step G Z I m.at m.frame m.size m.attributes).sim

  -- pieces that overlap nothing, and whose tables are there: the ledger gains them one after the other
  pieces_gain : {k : ℕ} (A : Ledger) {a b left : ℕ} {ms : List answers.Mapping} → Tiles G k a b left ms → k < 16 → a + left ≤ space_of G A.levels
      → b + left ≤ physical → (¬ areas.Shares G A.area b left) → any_overlap a left A.live ≡ false
      → tables_needed G A.levels (gain ms A.live) ≤ total A.area - 1
      → ledger_after G A (map map_of ms) ≡ with_live A (gain ms A.live)
  unfolding gain free_tables
  pieces_gain A over few l r out e c = refl
  pieces_gain {k} A {a} {b} {left} (piece {h = h} {ms = ms} F most t) few l r out e c =
      ap (λ (x : Entered). ledger_after G x.after (map map_of ms)) enters
      ∙ pieces_gain (with_live A (m ∷ A.live)) t few (omega (arith, F.small)) (omega (arith, F.small)) (part_outside out (omega arith) (omega (arith, F.small))) rest c
    where
      m : answers.Mapping
      m = answers.mapping a b (size_at G h) k

      enters : map_l G A a b (size_at G h) k ≡ entered (took (tables_lacking G A.levels A.live m)) (with_live A (m ∷ A.live))
      enters = map_enters G A a b (size_at G h) k (fits_tests G Z A.levels A.area a b left h k F few l r out)
          (overlap_less a left a (size_at G h) A.live (omega arith) (omega (arith, F.small)) e)
          (omega (arith, needed_gain G A.levels ms (m ∷ A.live), needed_more G A.levels m A.live, c))

      rest : any_overlap (a + size_at G h) (left - size_at G h) (m ∷ A.live) ≡ false
      rest = overlaps_none (a + size_at G h) (left - size_at G h) (m ∷ A.live) (λ q i. ⊎_elim
          (λ z o. before q z o)
          (λ j o. none_overlaps a left A.live e q j (omega (arith, o.0, F.small), omega (arith, o.1)))
          (Memᴰ.cases_cons i))
        where
          before : (q : answers.Mapping) → q ≡ m → Shares (a + size_at G h) (left - size_at G h) q → ⊥
          before q z o = omega (arith, o.1, ap (λ (x : answers.Mapping). x.at) z, ap (λ (x : answers.Mapping). x.size) z)

-- ---- the call

module _ (G : Granule) (Z : Sane G) {p : Pool} {A : Ledger} (I : Sim G Z p A) where
  module _ (a b len k : ℕ) (F : FineRange G p.numbers.levels (area_of p.numbers) a b len k) where
    abbrev ms : List answers.Mapping
    ms = pieces G a b len k

    tiled : Tiles G k a b len ms
    tiled = tiles G p.numbers.levels (area_of p.numbers) a b len k F

    fine : AllFine G Z I ms
    fine m i = tests_fine G p.numbers.levels (area_of p.numbers) m.at m.frame m.size m.attributes
        (tiles_tests Z tiled p.numbers.levels (area_of p.numbers) F.some_attributes F.in_space F.in_physical F.outside m i)

    abbrev need : ℕ
    need = length (lacked G p ms [])

    -- where no live mapping overlaps
    module _ (e : any_overlap a len (live G Z I) ≡ false) where
      all_empty_lem : (m : answers.Mapping) → Memᴰ m ms → (walk_for G p m).entry ≡ Empty
      all_empty_lem m i = neither (walk_for G p m).entry
          (not_damaged G Z I (height_of G m.size) m.at (piece_low G Z I m (fine m i)) (fine m i).start_in)
          (none_ends is_taken (piece_walks G p ms) (any_taken G Z I tiled F.long.some_bytes fine ∙ e) (piece_walk G p m) (Memᴰ.map (piece_walk G p) i))

      needs_more : tables_needed G p.numbers.levels (gain ms (live G Z I)) ≡ need + tables_needed G p.numbers.levels (live G Z I)
      unfolding tables_needed has_region
      needs_more = lacked_count G Z I ms fine all_empty_lem [] (live G Z I) (λ r. refl) (omega arith)

      need_is : tables_needed G p.numbers.levels (gain ms (live G Z I)) - tables_needed G p.numbers.levels (live G Z I) ≡ need
      need_is = omega (arith, needs_more)

      gains : need ≤ p.numbers.free → ledger_after G (own G Z I) (map map_of ms) ≡ with_live (own G Z I) (gain ms (live G Z I))
      gains l = pieces_gain G Z (own G Z I) tiled F.some_attributes F.in_space F.in_physical F.outside e (omega (arith, needs_more, count_is G Z I tt tt))

      after : need ≤ p.numbers.free → Sim G Z (left_by (map_piece G) p ms) (with_live (own G Z I) (gain ms (live G Z I)))
      after l = subst (λ (B : Ledger). Sim G Z (left_by (map_piece G) p ms) B) (gains l) (pieces_sim G Z ms (own_sim G Z I))

    range_at : Alike G Z (map_range_at G p ms) (gain_of G (own G Z I) a len (gain ms (live G Z I)))
    unfolding map_range_at map_range_here gain_of
    range_at = rw (never_spoiled G Z I (piece_walks G p ms) (all_made G Z I ms fine), any_taken G Z I tiled F.long.some_bytes fine) (go (any_overlap a len (live G Z I)) refl)
      where
        room : (e : any_overlap a len (live G Z I) ≡ false) (y : Bool) → ltb p.numbers.free need ≡ y
            → Alike G Z
            (cond y (refuse 7 p) (cond (may_take p.list (n G Z I) (ways (piece_walks G p ms)) p.numbers.free need) (done (took need) (left_by (map_piece G) p ms)) (refuse 8 p)))
            (cond y (entered (refused 7) (own G Z I)) (entered (took need) (with_live (own G Z I) (gain ms (live G Z I)))))
        room e true q = record { answer = refl; sim = own_sim G Z I }
        room e false q =
            let l = ltb-false p.numbers.free need q in
            rw (may_take_all G Z I (piece_walks G p ms) (all_made G Z I ms fine) need l) (record { answer = refl; sim = after e l })

        more : ℕ
        more = tables_needed G p.numbers.levels (gain ms (live G Z I)) - tables_needed G p.numbers.levels (live G Z I)

        go : (y : Bool) → any_overlap a len (live G Z I) ≡ y
            → Alike G Z
            (cond y (refuse 6 p)
            (cond (ltb p.numbers.free need) (refuse 7 p)
            (cond (may_take p.list (n G Z I) (ways (piece_walks G p ms)) p.numbers.free need) (done (took need) (left_by (map_piece G) p ms)) (refuse 8 p))))
            (cond y (entered (refused 6) (own G Z I))
            (cond (ltb (free_tables G (own G Z I)) more) (entered (refused 7) (own G Z I)) (entered (took more) (with_live (own G Z I) (gain ms (live G Z I))))))
        go true e = record { answer = refl; sim = own_sim G Z I }
        go false e = rw (need_is e, free_is G Z I tt tt) (room e (ltb p.numbers.free need) refl)

  range_own : (a b len k : ℕ) → Alike G Z (map_range_w G p a b len k) (map_range_l G (own G Z I) a b len k)
  unfolding map_range_w map_range_l
  range_own a b len k = rw (pool_good G Z I) (go (eqb no 0) refl)
    where
      no : ℕ
      no = map_range_tests G p.numbers.levels (area_of p.numbers) a b len k

      go : (y : Bool) → eqb no 0 ≡ y
          → Alike G Z (cond y (map_range_at G p (pieces G a b len k)) (refuse no p)) (cond y (gain_of G (own G Z I) a len (gain (pieces G a b len k) (live G Z I))) (entered (refused no) (own G Z I)))
      go true e = range_at a b len k (range_fine G p.numbers.levels (area_of p.numbers) a b len k (eqb-true no 0 e))
      go false e = record { answer = refl; sim = own_sim G Z I }

  pub map_range_step : (a b len k : ℕ) → Alike G Z (map_range_w G p a b len k) (map_range_l G A a b len k)
  map_range_step a b len k = subst (λ (B : Ledger). Alike G Z (map_range_w G p a b len k) (map_range_l G B a b len k)) (sym (ledger_is G Z I)) (range_own a b len k)

  -- an accepted range leaves the ledger that its pieces leave, one after the other
  parts_own : (a b len k t : ℕ) → (map_range_w G p a b len k).answer ≡ took t
      → (map_range_l G (own G Z I) a b len k).after ≡ ledger_after G (own G Z I) (map map_of (pieces G a b len k))
  unfolding map_range_l gain_of
  parts_own a b len k t e = at (map_range_w G p a b len k) (map_range_view G p a b len k) e
    where
      L : List answers.Mapping
      L = gain (pieces G a b len k) (live G Z I)

      at : (d : Done) → MapRangeView G p a b len k d → d.answer ≡ took t
          → (cond (eqb (map_range_tests G p.numbers.levels (area_of p.numbers) a b len k) 0) (gain_of G (own G Z I) a len L) (entered (refused (map_range_tests G p.numbers.levels (area_of p.numbers) a b len k)) (own G Z I))).after
          ≡ ledger_after G (own G Z I) (map map_of (pieces G a b len k))
      at d (range_refuses j) e = clash (cc)
      at d (range_takes B) e =
          rw (eq-eqb _ _ B.tests, apart, need_is a b len k F apart, free_is G Z I tt tt, le-ltb p.numbers.free (need a b len k F) B.room) (sym (gains a b len k F apart B.room))
        where
          F : FineRange G p.numbers.levels (area_of p.numbers) a b len k
          F = range_fine G p.numbers.levels (area_of p.numbers) a b len k B.tests

          apart : any_overlap a len (live G Z I) ≡ false
          apart = sym (any_taken G Z I (tiled a b len k F) F.long.some_bytes (fine a b len k F)) ∙ B.untaken

  pub map_range_parts : (a b len k t : ℕ) → (map_range_w G p a b len k).answer ≡ took t
      → (map_range_l G A a b len k).after ≡ ledger_after G A (map map_of (pieces G a b len k))
  map_range_parts a b len k t e =
      subst (λ (B : Ledger). (map_range_l G B a b len k).after ≡ ledger_after G B (map map_of (pieces G a b len k))) (sym (ledger_is G Z I)) (parts_own a b len k t e)
