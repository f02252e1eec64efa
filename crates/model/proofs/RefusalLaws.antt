-- Laws of the table of refusals: each call keeps its table, number by number.
use Prim.Native.Nat.{ℕ, zero, suc, ◌+◌, ◌-◌, ◌*◌, ◌%◌, ◌^◌, ◌≤◌, ◌<◌}
use Rattle.std.specs.Prelude.{◌≡◌, ◌≢◌, ◌⊎◌, ◌↔◌, Bool, ◌&&◌, ◌||◌, not, leb}
use Rattle.std.proofs.Math.Path.{refl, sym, subst}
use Rattle.std.proofs.Common.{ap, ◌∙◌, ⊎_elim, length-set, get_or-set_same}
use Rattle.std.proofs.Math.Logic.{inl, inr}
use mathlib.Core.Logic.Iff
use Rattle.std.proofs.Math.Bool.{true, false, cond, true≢false, and-eq-true_iff}
use Rattle.std.proofs.lemmas.Bool.{false≢true}
use mathlib.Core.List.Memᴰ
use mathlib.Core.List.Memᴰ.{head as here}
use mathlib.Core.List.Memᴰ.{tail as there}
use mathlib.Core.List.{List, [], ◌∷◌, Memᴰ}
use Rattle.std.proofs.Math.Decide.{dec_lt, ℕ_discrete}
use native.Mathlib.Omega.{arith}
use Rattle.std.proofs.Math.Dec.{ltb, eqb}
use Rattle.std.proofs.Math.ListN.{length, get_or, set}
use Rattle.std.proofs.Math.Seq.{get_or-set_other}
use borrow.Author.Tests.{ltb-true, ltb-false, leb-true, leb-false, eqb-true, eqb-false, lt-leb, not-true, not-false}
use Rattle.laws.specs.Lists.{part, among}
use Rattle.laws.specs.ListLaws.{length_part_le, get_d_part, all_zero_at, all_zero_of, among_mem, not_among}
use Rattle.path.specs.Geometry.{Granule, four, sixteen, good_granule, granule_of, page_size, entries, size_at, good_levels, space_of, seek, height_of, physical}
use Rattle.path.specs.Areas.{Area, area_of, one_region, Shares, meets_region, meets_area}
use Rattle.path.specs.Numbers.{no_setup, good_area, good_numbers, good_setup, good_adding, GoodNumbers}
use Rattle.path.specs.Paths.{base_at, path_of}
use Rattle.path.specs.Laws.{no_frame, height_most, height_size, good_numbers_lem, good_setup_lem, meets_shares, meets_apart, meets_byte, byte_meets, only_region}
use Rattle.entry.specs.Words.{frame_word, base_in, attrs_in, frame_at, entry_at}
use Rattle.entry.specs.declared.Entry.{Entry}
use Rattle.entry.specs.declared.Entry.TheVariants.{Empty, Table, Frame, Damaged}
use Rattle.model.specs.declared.Walked.{Walked}
use Rattle.model.specs.Answers.{Answer, formatted, added, took, gave, found, audited, refusal, refused, Mapping, mapping, Pool, pool, Done, done, refuse}
use Rattle.model.specs.Walk.{slot, at_height, stop, onward, walk_from, no_way}
use Rattle.model.specs.Writes.{may_take, only_entry, freed}
use Rattle.model.proofs.Unique.{found_same}
use Rattle.model.specs.Calls.{good_pool, format_w, format_n, found_at, query_w, map_tests, map_here, map_at, map_w, unmap_tests, unmap_here, unmap_at, unmap_w}
use Rattle.model.specs.Audit.{of_pool, none_inside, sound_pool, audit_w}
use Rattle.model.specs.Adds.{good_add, sound_tree, add_w}
use Rattle.model.specs.Listing.{from_on, listed_of, list_w}
use Rattle.model.proofs.ListingLaws.{lists_not}
use Rattle.model.proofs.AddLaws.{tree_wf, wf_tree, may_add}
use Rattle.model.proofs.AuditLaws.{inside_back, sound_only, sound_all, audit_counts}
use Rattle.model.specs.Sound.{word_at, reached_of, mappings_of, WfTree, SoundPool}
use Rattle.model.proofs.DescentLaws.{clash}
use Rattle.model.proofs.GranuleLaws.{is_four, is_sixteen, no_granule, some_granule, not_named}
use Rattle.model.specs.Refusals.{Broken, area_in, table_count, Breaks, NoSize, NoAttributes, NotBelow, Outside, Misplaced, InRegion, InPool, Occupied, Damage, Vacant}
use Rattle.model.specs.Refusals.{map_walk, needed, taken, BadTaken, BadList, last_walk, OffPage, OffStart, Starts, Emptied, GivesBack, FullList}
use Rattle.model.specs.Refusals.{Row, row, First, None, map_table, unmap_table, query_table, audit_table, format_table, add_table, list_table}
use Rattle.model.specs.Refusals.{bare, with_hole, ByTable, FormatNumbers, AddNumbers, WellFormedMap, MapNumbers, UnmapNumbers, QueryNumbers, AuditNumbers, ListNumbers}
use Rattle.model.specs.Refusals.Broken.{bad_levels, no_table, many_tables, base_unaligned, base_high, second_unaligned, second_high, regions_overlap, second_nowhere, bad_words, bad_second, bad_places}
use Rattle.model.specs.Refusals.{CannotAdd, NewUnder, CannotList, GranuleNumbers, FourNumbers, SixteenNumbers}
use Rattle.model.specs.Refusals.CannotAdd.{other_granule, region_there, second_base_there, no_new_table, broken_with_it, free_high}
use Rattle.model.specs.Refusals.Outside.{starts_outside, ends_outside, frame_outside}
use Rattle.model.specs.Refusals.BadTaken.{root_taken, beyond_taken, taken_twice, taken_on_path}
use Rattle.model.specs.RefusalLaws.{Told, accepted_by, refused_by}

-- ---- tables of rows

pub first_unique : (rows : List Row) {m n : ℕ} → First rows m → First rows n → m ≡ n
first_unique [] f g = absurd f
first_unique (r ∷ rows) (inl (x, e)) (inl (y, d)) = sym e ∙ d
first_unique (r ∷ rows) (inl (x, e)) (inr (y, g)) = absurd (y x)
first_unique (r ∷ rows) (inr (x, f)) (inl (y, d)) = absurd (x y)
first_unique (r ∷ rows) (inr (x, f)) (inr (y, g)) = first_unique rows f g

pub first_some : (rows : List Row) (n : ℕ) → First rows n → None rows → ⊥
first_some [] n f z = f
first_some (r ∷ rows) n (inl (x, e)) z = z.0 x
first_some (r ∷ rows) n (inr (x, f)) z = first_some rows n f z.1

same_number : {m n : ℕ} {u v : List ℕ} → refusal m u ≡ refusal n v → m ≡ n
same_number e = cc

same_values : {m n : ℕ} {u v : List ℕ} → refusal m u ≡ refusal n v → v ≡ u
same_values e = cc

module _ {rows : List Row} {more : ℕ → List ℕ} {p : Pool} {Good : Done → Type 0} {d : Done} where
  pub by_table : Told rows more p Good d → ((n : ℕ) (v : List ℕ) → Good d → d.answer ≡ refusal n v → ⊥) → ByTable rows more p d
  by_table (refused_by m f e) other = record {
    gives = λ n. (λ q. subst (First rows) (number n (more n) q) f, λ g. said ∙ ap (λ (k : ℕ). refusal k (more k)) (first_unique rows f g));
    carries = λ n v q. same_values (sym said ∙ q) ∙ ap more (number n v q);
    kept = λ n v q. ap (λ (c : Done). c.after) e;
  }
    where
      said : d.answer ≡ refusal m (more m)
      said = ap (λ (c : Done). c.answer) e

      number : (n : ℕ) (v : List ℕ) → d.answer ≡ refusal n v → m ≡ n
      number n v q = same_number (sym said ∙ q)
  by_table (accepted_by z g) other = record {
    gives = λ n. (λ q. absurd (other n (more n) g q), λ f. absurd (first_some rows n f z));
    carries = λ n v q. absurd (other n v g q);
    kept = λ n v q. absurd (other n v g q);
  }

  -- what is no refusal is answered exactly when no row applies
  pub by_none : Told rows more p Good d → (x : Answer) → ((n : ℕ) (v : List ℕ) → x ≢ refusal n v) → (d.answer ≡ x → None rows × Good d)
  by_none (refused_by m f e) x other q = absurd (other m (more m) (sym q ∙ ap (λ (c : Done). c.answer) e))
  by_none (accepted_by z g) x other q = (z, g)

  pub none_by : Told rows more p Good d → None rows → Good d
  none_by (refused_by m f e) z = absurd (first_some rows m f z)
  none_by (accepted_by z' g) z = g

module _ {rows : List Row} {more : ℕ → List ℕ} {p : Pool} {Good : Done → Type 0} where
  pub hit : {n : ℕ} {P : Type 0} → P → Told (row n P ∷ rows) more p Good (done (refusal n (more n)) p)
  hit {n} x = refused_by n (inl (x, refl)) refl

  pub miss : {n : ℕ} {P : Type 0} {d : Done} → (¬ P) → Told rows more p Good d → Told (row n P ∷ rows) more p Good d
  miss x (refused_by m f e) = refused_by m (inr (x, f)) e
  miss x (accepted_by z g) = accepted_by (x, z) g

-- row i applies, and none before it
abbrev At : List Row → ℕ → Type 0
At [] i = ⊥
At (r ∷ rows) zero = r.when
At (r ∷ rows) (suc i) = (¬ r.when) × At rows i

-- whether no row has a number; whether row i has it, and no other; whether rows i and j have it, and no other
abbrev absent : List Row → ℕ → Bool
absent [] n = true
absent (r ∷ rows) n = not (eqb r.number n) && absent rows n

abbrev alone : List Row → ℕ → ℕ → Bool
alone [] i n = false
alone (r ∷ rows) zero n = eqb r.number n && absent rows n
alone (r ∷ rows) (suc i) n = not (eqb r.number n) && alone rows i n

abbrev pair : List Row → ℕ → ℕ → ℕ → Bool
pair [] i j n = false
pair (r ∷ rows) zero zero n = false
pair (r ∷ rows) (suc i) zero n = false
pair (r ∷ rows) zero (suc j) n = eqb r.number n && alone rows j n
pair (r ∷ rows) (suc i) (suc j) n = not (eqb r.number n) && pair rows i j n

module _ (r : Row) (n : ℕ) (b : Bool) where
  this_number : (eqb r.number n && b) ≡ true → (r.number ≡ n) × (b ≡ true)
  this_number t = let (x, y) = (and-eq-true_iff (eqb r.number n) b).0 t in (eqb-true r.number n x, y)

  other_number : (not (eqb r.number n) && b) ≡ true → (r.number ≢ n) × (b ≡ true)
  other_number t = let (x, y) = (and-eq-true_iff (not (eqb r.number n)) b).0 t in (eqb-false r.number n (not-true (eqb r.number n) x), y)

first_absent : (rows : List Row) (n : ℕ) → absent rows n ≡ true → First rows n → ⊥
first_absent [] n t f = f
first_absent (r ∷ rows) n t (inl (x, e)) = (other_number r n (absent rows n) t).0 e
first_absent (r ∷ rows) n t (inr (x, f)) = first_absent rows n (other_number r n (absent rows n) t).1 f

-- a row of another number, before a row that is looked for
skip : (r : Row) (rows : List Row) (n : ℕ) {X : Type 0} → r.number ≢ n → First rows n ↔ X → First (r ∷ rows) n ↔ ((¬ r.when) × X)
skip r rows n {X} d same = (forth, λ (x, y). inr (x, same.1 y))
  where
    forth : First (r ∷ rows) n → (¬ r.when) × X
    forth (inl (x, e)) = absurd (d e)
    forth (inr (x, f)) = (x, same.0 f)

-- the only row of a number is the first to apply exactly when it applies, and none before it
line : (rows : List Row) (i n : ℕ) → alone rows i n ≡ true → First rows n ↔ At rows i
line [] i n t = absurd (false≢true t)
line (r ∷ rows) zero n t = (forth, λ x. inl (x, (this_number r n (absent rows n) t).0))
  where
    forth : First (r ∷ rows) n → r.when
    forth (inl (x, e)) = x
    forth (inr (x, f)) = absurd (first_absent rows n (this_number r n (absent rows n) t).1 f)
line (r ∷ rows) (suc i) n t = skip r rows n (other_number r n (alone rows i n) t).0 (line rows i n (other_number r n (alone rows i n) t).1)

-- and so one of two rows
lines : (rows : List Row) (i j n : ℕ) → pair rows i j n ≡ true → First rows n ↔ (At rows i ⊎ At rows j)
lines [] i j n t = absurd (false≢true t)
lines (r ∷ rows) zero zero n t = absurd (false≢true t)
lines (r ∷ rows) (suc i) zero n t = absurd (false≢true t)
lines (r ∷ rows) zero (suc j) n t = (forth, ⊎_elim (λ x. inl (x, (this_number r n (alone rows j n) t).0)) (λ (x, y). inr (x, rest.1 y)))
  where
    rest : First rows n ↔ At rows j
    rest = line rows j n (this_number r n (alone rows j n) t).1

    forth : First (r ∷ rows) n → r.when ⊎ ((¬ r.when) × At rows j)
    forth (inl (x, e)) = inl x
    forth (inr (x, f)) = inr (x, rest.0 f)
lines (r ∷ rows) (suc i) (suc j) n t =
    Iff.trans
    (skip r rows n (other_number r n (pair rows i j n) t).0 (lines rows i j n (other_number r n (pair rows i j n) t).1))
    (λ (x, y). ⊎_elim (λ z. inl (x, z)) (λ z. inr (x, z)) y, ⊎_elim (λ (x, z). (x, inl z)) (λ (x, z). (x, inr z)))

module _ {rows : List Row} {more : ℕ → List ℕ} {p : Pool} {d : Done} (T : ByTable rows more p d) where
  -- the number of row i; of rows i and j
  row_of : (i n : ℕ) → alone rows i n ≡ true → (d.answer ≡ refusal n (more n)) ↔ At rows i
  row_of i n t = Iff.trans (T.gives n) (line rows i n t)

  rows_of : (i j n : ℕ) → pair rows i j n ≡ true → (d.answer ≡ refusal n (more n)) ↔ (At rows i ⊎ At rows j)
  rows_of i j n t = Iff.trans (T.gives n) (lines rows i j n t)

  -- with what it carries
  row_with : (i n : ℕ) (v : List ℕ) → alone rows i n ≡ true → (d.answer ≡ refusal n v) ↔ (At rows i × (v ≡ more n))
  row_with i n v t = (
    λ e. let c = T.carries n v e in ((row_of i n t).0 (e ∙ ap (refusal n) c), c),
    λ (x, c). (row_of i n t).1 x ∙ ap (refusal n) (sym c),
  )

-- ---- tests

-- where two tests do not hold together, one of them does not
broke : {A : Type 0} {x y : Bool} → (x && y) ≡ false → (x ≡ false → A) → (y ≡ false → A) → A
broke {x = true} e f g = g e
broke {x = false} e f g = f refl

-- where neither of two tests holds
neither : (x y : Bool) → (x || y) ≡ false → (x ≡ false) × (y ≡ false)
neither true y e = absurd (true≢false e)
neither false y e = (refl, e)

-- ---- the free list

-- one place further from the end of the list
pub further : (list : List ℕ) (free j : ℕ) → taken list (free - 1) j ≡ taken list free (suc j)
further list free j = ap (λ (i : ℕ). get_or list i 0) (omega arith)

module _ (list : List ℕ) (n : ℕ) where
  -- a bad table among those after the first
  later_bad : (free need c : ℕ) (seen : List ℕ) → c ≡ taken list free 0 → BadTaken list n (free - 1) need (c ∷ seen) → BadTaken list n free (suc need) seen
  later_bad free need c seen q (root_taken j l b) = root_taken (suc j) (omega arith) (rw (← further list free j) b)
  later_bad free need c seen q (beyond_taken j l b) = beyond_taken (suc j) (omega arith) (rw (← further list free j) b)
  later_bad free need c seen q (taken_twice i j m l e) = taken_twice (suc i) (suc j) (omega arith) (omega arith) (sym (further list free i) ∙ e ∙ further list free j)
  later_bad free need c seen q (taken_on_path j l m) =
      ⊎_elim
      (λ e. taken_twice 0 (suc j) (omega arith) (omega arith) (sym q ∙ sym e ∙ further list free j))
      (λ k. taken_on_path (suc j) (omega arith) (subst (λ (t : ℕ). Memᴰ t seen) (further list free j) k))
      (Memᴰ.cases_cons m)

  first_taken : (free : ℕ) → get_or list (free - 1) 0 ≡ taken list free 0
  first_taken free = ap (λ (i : ℕ). get_or list i 0) (omega arith)

  pub cannot_take : (seen : List ℕ) (free need : ℕ) → may_take list n seen free need ≡ false → BadTaken list n free need seen
  unfolding may_take
  cannot_take seen free zero e = absurd (true≢false e)
  cannot_take seen free (suc need) e = go (get_or list (free - 1) 0) (first_taken free) (cannot_take (get_or list (free - 1) 0 ∷ seen) (free - 1) need) e
    where
      go : (c : ℕ) → c ≡ taken list free 0
          → (may_take list n (c ∷ seen) (free - 1) need ≡ false → BadTaken list n (free - 1) need (c ∷ seen))
          → (ltb 0 c && (ltb c n && (not (among c seen) && may_take list n (c ∷ seen) (free - 1) need))) ≡ false
          → BadTaken list n free (suc need) seen
      go c q f e =
          broke e (λ z. root_taken 0 (omega arith) (omega (arith, q, ltb-false 0 c z))) (λ e.
          broke e (λ z. beyond_taken 0 (omega arith) (omega (arith, q, ltb-false c n z))) (λ e.
          broke e (λ z. taken_on_path 0 (omega arith) (subst (λ (t : ℕ). Memᴰ t seen) q (among_mem c seen (not-false (among c seen) z))))
          (λ z. later_bad free need c seen q (f z))))

  -- what is asked of table j of those to be taken
  Fit : ℕ → List ℕ → ℕ → Type 0
  Fit free seen j =
      (0 < taken list free j)
      × (taken list free j < n)
      × (Memᴰ (taken list free j) seen → ⊥)
      × ((i : ℕ) → i < j → taken list free i ≢ taken list free j)

  can_take : (seen : List ℕ) (free need : ℕ) → may_take list n seen free need ≡ true → (j : ℕ) → j < need → Fit free seen j
  unfolding may_take Fit
  can_take seen free zero e = λ j l. absurd (omega arith)
  can_take seen free (suc need) e = go (get_or list (free - 1) 0) (first_taken free) (can_take (get_or list (free - 1) 0 ∷ seen) (free - 1) need) e
    where
      go : (c : ℕ) → c ≡ taken list free 0
          → (may_take list n (c ∷ seen) (free - 1) need ≡ true → (j : ℕ) → j < need → Fit (free - 1) (c ∷ seen) j)
          → (ltb 0 c && (ltb c n && (not (among c seen) && may_take list n (c ∷ seen) (free - 1) need))) ≡ true
          → (j : ℕ) → j < suc need → Fit free seen j
      go c q f e =
          let (some, e₁) = (and-eq-true_iff (ltb 0 c) _).0 e in
          let (low, e₂) = (and-eq-true_iff (ltb c n) _).0 e₁ in
          let (new, rest) = (and-eq-true_iff (not (among c seen)) _).0 e₂ in
          fit (ltb-true 0 c some) (ltb-true c n low) (not_among c seen (not-true (among c seen) new)) (f rest)
        where
          fit : 0 < c → c < n → (Memᴰ c seen → ⊥) → ((j : ℕ) → j < need → Fit (free - 1) (c ∷ seen) j) → (j : ℕ) → j < suc need → Fit free seen j
          fit some low new rest zero l = (
            omega (arith, q),
            omega (arith, q),
            λ m. new (subst (λ (t : ℕ). Memᴰ t seen) (sym q) m),
            λ i m. absurd (omega arith),
          )
          fit some low new rest (suc j) l = (
            subst (λ (t : ℕ). 0 < t) same r.0,
            subst (λ (t : ℕ). t < n) same r.1,
            λ m. r.2 (there (subst (λ (t : ℕ). Memᴰ t seen) (sym same) m)),
            before,
          )
            where
              same : taken list (free - 1) j ≡ taken list free (suc j)
              same = further list free j

              r : Fit (free - 1) (c ∷ seen) j
              r = rest j (omega arith)

              before : (i : ℕ) → i < suc j → taken list free i ≢ taken list free (suc j)
              before zero m z = r.2 (here (same ∙ sym z ∙ sym q))
              before (suc i) m z = r.3 i (omega arith) (further list free i ∙ z ∙ sym same)

  pub may_not_bad : (seen : List ℕ) (free need : ℕ) → may_take list n seen free need ≡ true → BadTaken list n free need seen → ⊥
  unfolding Fit
  may_not_bad seen free need e (root_taken j l b) = omega (arith, (can_take seen free need e j l).0)
  may_not_bad seen free need e (beyond_taken j l b) = omega (arith, (can_take seen free need e j l).1)
  may_not_bad seen free need e (taken_twice i j m l q) = (can_take seen free need e j l).3 i m q
  may_not_bad seen free need e (taken_on_path j l m) = (can_take seen free need e j l).2 m

module _ (G : Granule) where
  -- ---- the setup numbers

  module _ {levels : ℕ} {r : Area} {first all places : ℕ} where
    levels_broken : good_levels G levels ≡ false → Broken G levels r first all places
    unfolding good_levels
    levels_broken e =
        broke e (λ q. bad_levels (inl (leb-false G.fewest levels q))) (λ q. bad_levels (inr (leb-false levels G.most q)))

    area_broken : good_area G r ≡ false → Broken G levels r first all places
    unfolding good_area
    area_broken e =
        broke e (λ q. base_unaligned (eqb-false (r.base % page_size G) 0 q)) (λ e.
        broke e (λ q. base_high (leb-false (r.base + page_size G * r.tables) (2 ^ 48) q)) (λ e.
        broke e (λ q. second_unaligned (eqb-false (r.base₂ % page_size G) 0 q)) (λ e.
        broke e (λ q. second_high (leb-false (r.base₂ + page_size G * r.tables₂) (2 ^ 48) q)) (λ e.
        broke e
        (λ q. let (x, y) = neither (leb (r.base + page_size G * r.tables) r.base₂) (leb (r.base₂ + page_size G * r.tables₂) r.base) q in
        regions_overlap (leb-false (r.base + page_size G * r.tables) r.base₂ x) (leb-false (r.base₂ + page_size G * r.tables₂) r.base y))
        (λ q. let (x, y) = neither (ltb 0 r.tables₂) (eqb r.base₂ 0) q in
        let l = ltb-false 0 r.tables₂ x in
        second_nowhere (omega arith) (eqb-false r.base₂ 0 y))))))

    pub bad_broken : good_numbers G levels r first all places ≡ false → Broken G levels r first all places
    unfolding good_numbers
    bad_broken e =
        broke e levels_broken (λ e.
        broke e (λ q. no_table (leb-false 1 r.tables q)) (λ e.
        broke e (λ q. many_tables (leb-false (r.tables + r.tables₂) 512 q)) (λ e.
        broke e area_broken (λ e.
        broke e (λ q. bad_words (eqb-false first (entries G * r.tables) q)) (λ e.
        broke e (λ q. bad_second (eqb-false all (entries G * (r.tables + r.tables₂)) q)) (λ q. bad_places (eqb-false places (r.tables + r.tables₂) q)))))))

    pub good_unbroken : GoodNumbers G levels r first all places → Broken G levels r first all places → ⊥
    good_unbroken N (bad_levels x) = ⊎_elim (λ l. omega (arith, N.enough)) (λ l. omega (arith, N.not_more)) x
    good_unbroken N (no_table l) = omega (arith, N.some_table)
    good_unbroken N (many_tables l) = omega (arith, N.few)
    good_unbroken N (base_unaligned d) = d N.placed.aligned
    good_unbroken N (base_high l) = omega (arith, N.placed.fits)
    good_unbroken N (second_unaligned d) = d N.placed.aligned₂
    good_unbroken N (second_high l) = omega (arith, N.placed.fits₂)
    good_unbroken N (regions_overlap x y) = ⊎_elim (λ l. omega arith) (λ l. omega arith) N.placed.apart
    good_unbroken N (second_nowhere z d) = d (N.placed.no_second z)
    good_unbroken N (bad_words d) = d N.cut_is
    good_unbroken N (bad_second d) = d N.words_are
    good_unbroken N (bad_places d) = d N.places_are

  module _ (p : Pool) where
    pub bad_breaks : good_pool G p ≡ false → Breaks G p
    unfolding good_setup
    bad_breaks e =
        broke e (λ q. inl (eqb-false p.numbers.granule (page_size G) q)) (λ e.
        broke e (λ q. inr (inl (bad_broken q))) (λ q. inr (inr (ltb-false p.numbers.free (table_count p) q))))

    pub good_keeps : good_pool G p ≡ true → Breaks G p → ⊥
    good_keeps e (inl d) = d (good_setup_lem e).granule_is
    good_keeps e (inr (inl x)) = good_unbroken (good_setup_lem e).numbers x
    good_keeps e (inr (inr l)) = omega (arith, (good_setup_lem e).room)

    pub unbroken_good : (¬ Breaks G p) → good_pool G p ≡ true
    unbroken_good n = go (good_pool G p) refl
      where
        go : (x : Bool) → good_pool G p ≡ x → x ≡ true
        go true e = refl
        go false e = absurd (n (bad_breaks e))

  -- ---- sizes and the space

  module _ (size : ℕ) where
    pub no_size : ltb G.large (height_of G size) ≡ true → NoSize G size
    no_size e h l z = let m = ltb-true G.large (height_of G size) e in no_frame G size (omega (arith, height_most G size)) h l (sym z)

    pub some_size : ltb G.large (height_of G size) ≡ false → NoSize G size → ⊥
    some_size e f = let l = ltb-false G.large (height_of G size) e in f (height_of G size) l (sym (height_size G size l))

  -- ---- the tables given back

  module _ (ws : List ℕ) (t i : ℕ) where
    word_part : (j : ℕ) → j < entries G → get_or (part ws (slot G t 0) (entries G)) j 0 ≡ word_at G ws t j
    word_part j l = get_d_part ws (slot G t 0) (entries G) j l ∙ ap (λ (k : ℕ). get_or ws k 0) (omega arith)

    pub only_emptied : only_entry G ws t i ≡ true → (j : ℕ) → j < entries G → j ≢ i → word_at G ws t j ≡ 0
    unfolding only_entry
    only_emptied e j l d =
        sym (word_part j l) ∙ sym (get_or-set_other (part ws (slot G t 0) (entries G)) i j 0 0 d) ∙ all_zero_at (set (part ws (slot G t 0) (entries G)) i 0) e j

    pub emptied_only : ((j : ℕ) → j < entries G → j ≢ i → word_at G ws t j ≡ 0) → only_entry G ws t i ≡ true
    unfolding only_entry
    emptied_only f = all_zero_of (set (part ws (slot G t 0) (entries G)) i 0) (λ j l. go j (rw (length-set (part ws (slot G t 0) (entries G)) i 0) at l) (ℕ_discrete j i))
      where
        go : (j : ℕ) → j < length (part ws (slot G t 0) (entries G)) → Dec (j ≡ i) → get_or (set (part ws (slot G t 0) (entries G)) i 0) j 0 ≡ 0
        go j l (yes e) = rw e (get_or-set_same (part ws (slot G t 0) (entries G)) i 0 0 (omega arith))
        go j l (no d) =
            let k : j < entries G = omega (arith, length_part_le ws (slot G t 0) (entries G)) in
            get_or-set_other (part ws (slot G t 0) (entries G)) i j 0 0 d ∙ word_part j k ∙ f j k d

  module _ (p : Pool) (a : ℕ) (o : Walked) where
    -- from height h upward, d tables below the root
    Counted : ℕ → ℕ → ℕ → Type 0
    Counted h d given = (given ≤ d) × ((i : ℕ) → i < given → Emptied G p a o (h + i)) × (given < d → Emptied G p a o (h + given) → ⊥)

    counted : (h d : ℕ) → Counted h d (freed G p.words o.tables (path_of G a) h d)
    unfolding freed Counted
    counted h zero = (omega arith, λ i l. absurd (omega arith), λ l. absurd (omega arith))
    counted h (suc d) = go (only_entry G p.words (at_height o.tables h) (at_height (path_of G a) h)) refl (counted (suc h) d)
      where
        n : ℕ
        n = freed G p.words o.tables (path_of G a) (suc h) d

        go : (b : Bool) → only_entry G p.words (at_height o.tables h) (at_height (path_of G a) h) ≡ b → Counted (suc h) d n → Counted h (suc d) (cond b (suc n) 0)
        go true e (x, y, z) = (omega arith, each, λ l q. z (omega arith) (subst (Emptied G p a o) (omega arith) q))
          where
            each : (i : ℕ) → i < suc n → Emptied G p a o (h + i)
            each zero l = subst (Emptied G p a o) (omega arith) (only_emptied p.words (at_height o.tables h) (at_height (path_of G a) h) e)
            each (suc i) l = subst (Emptied G p a o) (omega arith) (y i (omega arith))
        go false e (x, y, z) = (omega arith, λ i l. absurd (omega arith), λ l q. true≢false (sym (emptied_only p.words (at_height o.tables h) (at_height (path_of G a) h) (subst (Emptied G p a o) (omega arith) q)) ∙ e))

    abbrev pub given : ℕ
    given = freed G p.words o.tables (path_of G a) o.left (p.numbers.levels - 1 - o.left)

    pub gives_back : GivesBack G p a o given
    unfolding Counted
    gives_back = let c = counted o.left (p.numbers.levels - 1 - o.left) in record { not_root = c.0; emptied = c.1; stops = c.2 }

    -- there is one such number
    pub gives_one : {m n : ℕ} → GivesBack G p a o m → GivesBack G p a o n → m ≡ n
    gives_one {m} {n} A B = go (dec_lt m n) (dec_lt n m)
      where
        go : Dec (m < n) → Dec (n < m) → m ≡ n
        go (yes l) d = absurd (A.stops (omega (arith, B.not_root)) (B.emptied m l))
        go (no x) (yes l) = absurd (B.stops (omega (arith, A.not_root)) (A.emptied n l))
        go (no x) (no y) = omega arith

  -- ---- a walk to the last level ends at no table

  none_last : (area : Area) (w c : ℕ) → entry_at G area 0 w ≢ Table c
  unfolding entry_at frame_at
  none_last area w c = go (eqb w 0) (leb 0 G.large && (eqb (base_in w % size_at G 0) 0 && eqb w (frame_word (base_in w) 0 (attrs_in w))))
    where
      go : (x y : Bool) → cond x Empty (cond y (Frame (base_in w) (attrs_in w)) Damaged) ≢ Table c
      go true y = λ e. clash (cc)
      go false true = λ e. clash (cc)
      go false false = λ e. clash (cc)

  module _ (ws : List ℕ) (area : Area) (path : List ℕ) where
    no_table_here : (h : ℕ) (way : List ℕ) (t c : ℕ) → (walk_from G ws area 0 path h way t).entry ≢ Table c
    unfolding walk_from onward
    no_table_here zero way t c = none_last area (get_or ws (slot G t (at_height path 0)) 0) c
    no_table_here (suc h) way t c = go (entry_at G area (suc h) (get_or ws (slot G t (at_height path (suc h))) 0)) (no_table_here h (set way (3 - suc h) t))
      where
        w : List ℕ
        w = set way (3 - suc h) t

        other : {e : Entry} → (e ≡ Table c → ◌≡◌ {A = ℕ} 0 1) → e ≢ Table c
        other f q = let z = f q in omega arith

        go : (e : Entry) → ((u c : ℕ) → (walk_from G ws area 0 path h w u).entry ≢ Table c)
            → (onward e 0 h w (λ u. walk_from G ws area 0 path h w u)).entry ≢ Table c
        go Empty f = other (λ q. cc)
        go (Frame b k) f = other (λ q. cc)
        go Damaged f = other (λ q. cc)
        go (Table u) f = rw (lt-leb (suc h) 0 (omega arith)) (met (among u w))
          where
            met : (b : Bool) → (cond b (stop Damaged h w) (walk_from G ws area 0 path h w u)).entry ≢ Table c
            met true = other (λ q. cc)
            met false = f u c

  pub no_table_last : (p : Pool) (a c : ℕ) → (last_walk G p a).entry ≢ Table c
  no_table_last p a c = no_table_here p.words (area_of p.numbers) (path_of G a) (p.numbers.levels - 1) no_way 0 c

  -- ---- add

  -- bytes shared with one region, or with either
  in_region : (base tables b size : ℕ) → meets_region G base tables b size ≡ true → InRegion G base tables b size
  in_region base tables b size e =
      let (x, s, t, i) = meets_byte G base tables b size e in
      record { byte = x; frame_starts = s; frame_ends = t; pool_starts = i.0; pool_ends = i.1 }

  region_in : (base tables b size : ℕ) → InRegion G base tables b size → meets_region G base tables b size ≡ true
  region_in base tables b size i = byte_meets G base tables b size i.byte i.frame_starts i.frame_ends (i.pool_starts, i.pool_ends)

  module _ (p : Pool) (q m : ℕ) where
    abbrev maps : List Mapping
    maps = mappings_of G p

    -- a frame under the new region is found by the test
    under : (L : List Mapping) → none_inside G (one_region q m) L ≡ false → (k : Mapping) × Memᴰ k L × InRegion G q m k.frame k.size
    unfolding none_inside
    under [] e = absurd (true≢false e)
    under (k ∷ L) e =
        broke e
        (λ x. (k, here refl, in_region q m k.frame k.size (one_meets k.frame k.size ∙ not-false (meets_area G (one_region q m) k.frame k.size) x)))
        (λ x. let (j, i, b) = under L x in (j, there i, b))
      where
        one_meets : (b size : ℕ) → meets_region G q m b size ≡ meets_area G (one_region q m) b size
        one_meets b size = sym (only_region G q m b size)

    clear : none_inside G (one_region q m) maps ≡ true → NewUnder G p q m → ⊥
    clear e (k, i, b) =
        inside_back G (one_region q m) maps e k i (meets_shares (only_region G q m k.frame k.size ∙ region_in q m k.frame k.size b))

    can_add : good_add G p q m ≡ true → CannotAdd G p q m → ⊥
    can_add e (other_granule d) = d (eqb-true p.numbers.granule (page_size G) ((and-eq-true_iff (eqb p.numbers.granule (page_size G)) _).0 e).0)
    can_add e (region_there d) = d (may_add G p q m e).0.one_yet.1
    can_add e (second_base_there d) = d (may_add G p q m e).0.one_yet.0
    can_add e (no_new_table z) = omega (arith, (may_add G p q m e).0.some_new)
    can_add e (broken_with_it x) = good_unbroken (may_add G p q m e).0.numbers x
    can_add e (free_high l) = omega (arith, (may_add G p q m e).1, (may_add G p q m e).0.one_yet.1)

    cannot_add : good_add G p q m ≡ false → CannotAdd G p q m
    unfolding good_adding
    cannot_add e = go (ℕ_discrete p.numbers.tables2 0)
      where
        go : Dec (p.numbers.tables2 ≡ 0) → CannotAdd G p q m
        go (no d) = region_there d
        go (yes z) =
            broke e (λ x. other_granule (eqb-false p.numbers.granule (page_size G) x)) (λ e.
            broke e
            (λ e. broke e
            (λ e. broke e (λ x. second_base_there (eqb-false p.numbers.base2 0 x)) (λ x. region_there (eqb-false p.numbers.tables2 0 x)))
            (λ e. broke e (λ x. let l = ltb-false 0 m x in no_new_table (omega arith)) (λ x. broken_with_it (bad_broken x))))
            (λ x. let l = ltb-false p.numbers.free (table_count p) x in free_high (omega arith)))

    add_told : Told (add_table G p q m) bare p (λ d. d.answer ≡ added) (add_w G p q m)
    unfolding add_w
    add_told = go (good_add G p q m) (sound_tree (of_pool G p)) (none_inside G (one_region q m) maps) refl refl refl (done added _) refl
      where
        go : (x y z : Bool) → good_add G p q m ≡ x → sound_tree (of_pool G p) ≡ y → none_inside G (one_region q m) maps ≡ z
            → (d : Done) → d.answer ≡ added
            → Told (add_table G p q m) bare p (λ d. d.answer ≡ added) (cond x (cond y (cond z d (refuse 11 p)) (refuse 8 p)) (refuse 1 p))
        go false y z a b c d e = hit (cannot_add a)
        go true false z a b c d e = miss (can_add a) (hit (λ w. true≢false (sym (wf_tree G p w) ∙ b)))
        go true true false a b c d e = miss (can_add a) (miss (λ f. f (tree_wf G p b)) (hit (under maps c)))
        go true true true a b c d e = miss (can_add a) (miss (λ f. f (tree_wf G p b)) (miss (clear c) (accepted_by tt e)))

  -- ---- map

  module _ (p : Pool) (a b size k : ℕ) where
    abbrev g : ℕ
    g = height_of G size

    abbrev o : Walked
    o = map_walk G p a size

    abbrev Took : Done → Type 0
    Took d = d.answer ≡ took (needed G p a size)

    abbrev Empties : List Row
    Empties = row 7 (p.numbers.free < needed G p a size) ∷ row 8 (BadList G p a size) ∷ []

    abbrev Walks : List Row
    Walks = row 6 (Occupied o) ∷ row 8 (Damage o) ∷ Empties

    here_told : Told Empties bare p Took (map_here G p a b g k o (needed G p a size))
    unfolding map_here
    here_told = go (ltb p.numbers.free (needed G p a size)) (may_take p.list (table_count p) o.tables p.numbers.free (needed G p a size)) refl refl (done (took (needed G p a size)) _) refl
      where
        go : (x y : Bool) → ltb p.numbers.free (needed G p a size) ≡ x
            → may_take p.list (table_count p) o.tables p.numbers.free (needed G p a size) ≡ y
            → (d : Done) → Took d → Told Empties bare p Took (cond x (refuse 7 p) (cond y d (refuse 8 p)))
        go true y e t d q = hit (ltb-true p.numbers.free (needed G p a size) e)
        go false y e t d q = miss (λ l. omega (arith, ltb-false p.numbers.free (needed G p a size) e)) (last y t)
          where
            last : (y : Bool) → may_take p.list (table_count p) o.tables p.numbers.free (needed G p a size) ≡ y
                → Told (row 8 (BadList G p a size) ∷ []) bare p Took (cond y d (refuse 8 p))
            last true t = miss (may_not_bad p.list (table_count p) o.tables p.numbers.free (needed G p a size) t) (accepted_by tt q)
            last false t = hit (cannot_take p.list (table_count p) o.tables p.numbers.free (needed G p a size) t)

    walk_told : (e : Entry) → o.entry ≡ e → Told Walks bare p Took (map_at G p a b g k o e)
    unfolding map_at
    walk_told (Frame c d) q = hit (inl (c, d, q))
    walk_told (Table c) q = hit (inr (c, q))
    walk_told Damaged q = miss (⊎_elim (λ (c, d, z). clash (cc)) (λ (c, z). clash (cc))) (hit q)
    walk_told Empty q = miss (⊎_elim (λ (c, d, z). clash (cc)) (λ (c, z). clash (cc))) (miss (λ z. clash (cc)) here_told)

    -- whether the frame shares a byte with the tables
    abbrev in_pool : Bool
    in_pool = meets_area G (area_of p.numbers) b size

    pub in_pool_lem : in_pool ≡ true → InPool G (area_in p) b size
    in_pool_lem e = go (meets_shares e)
      where
        go : Shares G (area_in p) b size → InPool G (area_in p) b size
        go S = ⊎_elim
            (λ i. inl (record { byte = S.byte; frame_starts = S.starts; frame_ends = S.ends; pool_starts = i.0; pool_ends = i.1 }))
            (λ i. inr (record { byte = S.byte; frame_starts = S.starts; frame_ends = S.ends; pool_starts = i.0; pool_ends = i.1 }))
            S.inside

    pub off_pool_lem : in_pool ≡ false → InPool G (area_in p) b size → ⊥
    off_pool_lem e (inl i) = meets_apart e (record { byte = i.byte; starts = i.frame_starts; ends = i.frame_ends; inside = inl (i.pool_starts, i.pool_ends) })
    off_pool_lem e (inr i) = meets_apart e (record { byte = i.byte; starts = i.frame_starts; ends = i.frame_ends; inside = inr (i.pool_starts, i.pool_ends) })

    -- the tests from 4 on
    abbrev number : Bool → Bool → Bool → Bool → Bool → Bool → ℕ
    number x₃ x₄ x₅ x₆ x₇ x₈ = cond x₃ 4 (cond x₄ 4 (cond x₅ 4 (cond x₆ (cond x₇ (cond x₈ 11 0) 5) 5)))

    abbrev Places : List Row
    Places = row 5 (Misplaced a b size) ∷ row 11 (InPool G (area_in p) b size) ∷ Walks

    abbrev Arguments : List Row
    Arguments = row 2 (NoSize G size) ∷ row 3 (NoAttributes k) ∷ row 4 (Outside G p.numbers.levels a b size) ∷ Places

    tests_told : (d : Done) → Told Walks bare p Took d
        → Told Arguments bare p Took
        (cond (eqb (map_tests G p.numbers.levels (area_of p.numbers) a b size k) 0) d (refuse (map_tests G p.numbers.levels (area_of p.numbers) a b size k) p))
    unfolding map_tests
    tests_told d T = go (ltb G.large g) (ltb 15 k) refl refl
      where
        l : ℕ
        l = p.numbers.levels

        space : ℕ
        space = space_of G p.numbers.levels

        -- what a test that gives this number comes to
        by : ℕ → Done
        by n = cond (eqb n 0) d (refuse n p)

        placed : (x₆ x₇ x₈ : Bool) → eqb (a % size) 0 ≡ x₆ → eqb (b % size) 0 ≡ x₇ → in_pool ≡ x₈
            → Told Places bare p Took (by (cond x₆ (cond x₇ (cond x₈ 11 0) 5) 5))
        placed false x₇ x₈ e₆ e₇ e₈ = hit (inl (eqb-false (a % size) 0 e₆))
        placed true false x₈ e₆ e₇ e₈ = hit (inr (eqb-false (b % size) 0 e₇))
        placed true true true e₆ e₇ e₈ =
            miss (⊎_elim (λ z. z (eqb-true (a % size) 0 e₆)) (λ z. z (eqb-true (b % size) 0 e₇))) (hit (in_pool_lem e₈))
        placed true true false e₆ e₇ e₈ =
            miss (⊎_elim (λ z. z (eqb-true (a % size) 0 e₆)) (λ z. z (eqb-true (b % size) 0 e₇))) (miss (off_pool_lem e₈) T)

        within : leb space a ≡ false → ltb space (a + size) ≡ false → ltb physical (b + size) ≡ false → Outside G l a b size → ⊥
        within e₃ e₄ e₅ (starts_outside z) = omega (arith, leb-false space a e₃)
        within e₃ e₄ e₅ (ends_outside z) = omega (arith, ltb-false space (a + size) e₄)
        within e₃ e₄ e₅ (frame_outside z) = let m = ltb-false (2 ^ 48) (b + size) e₅ in omega arith

        range : (x₃ x₄ x₅ : Bool) → leb space a ≡ x₃ → ltb space (a + size) ≡ x₄ → ltb physical (b + size) ≡ x₅
            → Told (row 4 (Outside G l a b size) ∷ Places) bare p Took (by (number x₃ x₄ x₅ (eqb (a % size) 0) (eqb (b % size) 0) in_pool))
        range true x₄ x₅ e₃ e₄ e₅ = hit (starts_outside (leb-true space a e₃))
        range false true x₅ e₃ e₄ e₅ = hit (ends_outside (ltb-true space (a + size) e₄))
        range false false true e₃ e₄ e₅ = hit (frame_outside (ltb-true (2 ^ 48) (b + size) e₅))
        range false false false e₃ e₄ e₅ = miss (within e₃ e₄ e₅) (placed (eqb (a % size) 0) (eqb (b % size) 0) in_pool refl refl refl)

        go : (x₁ x₂ : Bool) → ltb G.large g ≡ x₁ → ltb 15 k ≡ x₂
            → Told Arguments bare p Took
            (by (cond x₁ 2 (cond x₂ 3 (number (leb space a) (ltb space (a + size)) (ltb physical (b + size)) (eqb (a % size) 0) (eqb (b % size) 0) in_pool))))
        go true x₂ e₁ e₂ = hit (no_size size e₁)
        go false true e₁ e₂ = miss (some_size size e₁) (hit (ltb-true 15 k e₂))
        go false false e₁ e₂ =
            miss (some_size size e₁)
            (miss (λ m. omega (arith, ltb-false 15 k e₂)) (range (leb space a) (ltb space (a + size)) (ltb physical (b + size)) refl refl refl))

    map_told : Told (map_table G p a b size k) bare p Took (map_w G p a b size k)
    unfolding map_w
    map_told = go (good_pool G p) refl
      where
        no : ℕ
        no = map_tests G p.numbers.levels (area_of p.numbers) a b size k

        go : (x : Bool) → good_pool G p ≡ x → Told (map_table G p a b size k) bare p Took (cond x (cond (eqb no 0) (map_at G p a b g k o o.entry) (refuse no p)) (refuse 1 p))
        go true e = miss (good_keeps p e) (tests_told (map_at G p a b g k o o.entry) (walk_told o.entry refl))
        go false e = hit (bad_breaks p e)

  -- ---- query and unmap

  module _ (p : Pool) (a : ℕ) where
    abbrev w : Walked
    w = last_walk G p a

    -- the walk ends at a frame, and the call answers x for it
    abbrev AtFrame : (ℕ → ℕ → Answer) → Done → Type 0
    AtFrame x d = (b : ℕ) × (k : ℕ) × (w.entry ≡ Frame b k) × (d.answer ≡ x b k)

    abbrev finds : ℕ → ℕ → Answer
    finds b k = found (mapping (base_at G a w.left) b (size_at G w.left) k)

    abbrev gives_up : ℕ → ℕ → Answer
    gives_up b k = gave b (size_at G w.left) k (given p a w)

    found_told : (e : Entry) → w.entry ≡ e → Told (row 8 (Damage w) ∷ row 9 (Vacant w) ∷ []) (with_hole G a w) p (AtFrame finds) (done (found_at G a e w.left) p)
    unfolding found_at base_at
    found_told (Frame b k) q = miss (λ z. clash (cc)) (miss (λ z. clash (cc)) (accepted_by tt (b, k, q, refl)))
    found_told Empty q = miss (λ z. clash (cc)) (hit q)
    found_told (Table c) q = absurd (no_table_last p a c q)
    found_told Damaged q = hit q

    query_told : Told (query_table G p a) (with_hole G a w) p (AtFrame finds) (done (query_w G p a) p)
    unfolding query_w
    query_told = go (good_pool G p) refl
      where
        space : ℕ
        space = space_of G p.numbers.levels

        range : (y : Bool) → leb space a ≡ y
            → Told (row 4 (NotBelow G p.numbers.levels a) ∷ row 8 (Damage w) ∷ row 9 (Vacant w) ∷ []) (with_hole G a w) p (AtFrame finds)
            (done (cond y (refused 4) (found_at G a w.entry w.left)) p)
        range true e = hit (leb-true space a e)
        range false e = miss (λ z. omega (arith, leb-false space a e)) (found_told w.entry refl)

        go : (x : Bool) → good_pool G p ≡ x
            → Told (query_table G p a) (with_hole G a w) p (AtFrame finds) (done (cond x (cond (leb space a) (refused 4) (found_at G a w.entry w.left)) (refused 1)) p)
        go true e = miss (good_keeps p e) (range (leb space a) refl)
        go false e = hit (bad_breaks p e)

    abbrev Ends : List Row
    Ends = row 8 (Damage w) ∷ row 9 (Vacant w) ∷ row 10 (OffStart G a w) ∷ row 8 (FullList G p a) ∷ []

    give_told : (b k : ℕ) → w.entry ≡ Frame b k → Told (row 8 (FullList G p a) ∷ []) (with_hole G a w) p (AtFrame gives_up) (unmap_here G p a b k w (given p a w))
    unfolding unmap_here
    give_told b k q = go (ltb (table_count p - 1) (p.numbers.free + given p a w)) refl (done (gives_up b k) _) refl
      where
        go : (x : Bool) → ltb (table_count p - 1) (p.numbers.free + given p a w) ≡ x → (d : Done) → d.answer ≡ gives_up b k
            → Told (row 8 (FullList G p a) ∷ []) (with_hole G a w) p (AtFrame gives_up) (cond x (refuse 8 p) d)
        go true e d z = hit (given p a w, gives_back p a w, ltb-true (table_count p - 1) (p.numbers.free + given p a w) e)
        go false e d z = miss full (accepted_by tt (b, k, q, z))
          where
            full : FullList G p a → ⊥
            full (n, B, l) = omega (arith, gives_one p a w B (gives_back p a w), ltb-false (table_count p - 1) (p.numbers.free + given p a w) e)

    end_told : (e : Entry) → w.entry ≡ e → Told Ends (with_hole G a w) p (AtFrame gives_up) (unmap_at G p a w e)
    unfolding unmap_at base_at
    end_told Empty q = miss (λ z. clash (cc)) (hit q)
    end_told (Table c) q = absurd (no_table_last p a c q)
    end_told Damaged q = hit q
    end_told (Frame b k) q = miss (λ z. clash (cc)) (miss (λ z. clash (cc)) (go (eqb (a % size_at G w.left) 0) refl))
      where
        go : (x : Bool) → eqb (a % size_at G w.left) 0 ≡ x
            → Told (row 10 (OffStart G a w) ∷ row 8 (FullList G p a) ∷ []) (with_hole G a w) p (AtFrame gives_up) (cond x (unmap_here G p a b k w (given p a w)) (refuse 10 p))
        go true e = miss (λ (c, d, z, n). n (eqb-true (a % size_at G w.left) 0 e)) (give_told b k q)
        go false e = hit (b, k, q, eqb-false (a % size_at G w.left) 0 e)

    unmap_told : Told (unmap_table G p a) (with_hole G a w) p (AtFrame gives_up) (unmap_w G p a)
    unfolding unmap_w unmap_tests
    unmap_told = go (good_pool G p) refl
      where
        space : ℕ
        space = space_of G p.numbers.levels

        no : Bool → Bool → ℕ
        no x y = cond x 4 (cond y 0 5)

        tests : (x y : Bool) → leb space a ≡ x → eqb (a % page_size G) 0 ≡ y
            → Told (row 4 (NotBelow G p.numbers.levels a) ∷ row 5 (OffPage G a) ∷ Ends) (with_hole G a w) p (AtFrame gives_up)
            (cond (eqb (no x y) 0) (unmap_at G p a w w.entry) (refuse (no x y) p))
        tests true y e q = hit (leb-true space a e)
        tests false true e q = miss (λ z. omega (arith, leb-false space a e)) (miss (λ z. z (eqb-true (a % page_size G) 0 q)) (end_told w.entry refl))
        tests false false e q = miss (λ z. omega (arith, leb-false space a e)) (hit (eqb-false (a % page_size G) 0 q))

        go : (x : Bool) → good_pool G p ≡ x
            → Told (unmap_table G p a) (with_hole G a w) p (AtFrame gives_up)
            (cond x (cond (eqb (no (leb space a) (eqb (a % page_size G) 0)) 0) (unmap_at G p a w w.entry) (refuse (no (leb space a) (eqb (a % page_size G) 0)) p)) (refuse 1 p))
        go true e = miss (good_keeps p e) (tests (leb space a) (eqb (a % page_size G) 0) refl refl)
        go false e = hit (bad_breaks p e)

  -- ---- audit

  module _ (p : Pool) where
    abbrev Counts : Done → Type 0
    Counts d = d.answer ≡ audited (length (reached_of G p)) (length (mappings_of G p))

    audit_told : Told (audit_table G p) bare p Counts (done (audit_w G p) p)
    unfolding audit_w
    audit_told = go (good_pool G p) (sound_pool G p) refl refl
      where
        go : (x y : Bool) → good_pool G p ≡ x → sound_pool G p ≡ y
            → Told (audit_table G p) bare p Counts (done (cond x (cond y (audited (length (reached_of G p)) (length (mappings_of G p))) (refused 8)) (refused 1)) p)
        go true true e q = miss (good_keeps p e) (miss (λ f. f (sound_only G p q)) (accepted_by tt refl))
        go true false e q = miss (good_keeps p e) (hit (λ s. true≢false (sym (sound_all G p s) ∙ q)))
        go false y e q = hit (bad_breaks p e)

  -- ---- list

  module _ (p : Pool) (start places entries : ℕ) where
    abbrev all : Answer
    all = listed_of G places (from_on start (mappings_of G p))

    list_told : Told (list_table G p start places entries) bare p (λ d. d.answer ≡ all) (done (list_w G p start places entries) p)
    unfolding list_w
    list_told = go (good_pool G p) (eqb places entries) (leb space start) (sound_tree (of_pool G p)) refl refl refl refl
      where
        space : ℕ
        space = space_of G p.numbers.levels

        can : good_pool G p ≡ true → eqb places entries ≡ true → CannotList G p places entries → ⊥
        can g e = ⊎_elim (good_keeps p g) (λ n. n (eqb-true places entries e))

        go : (g e x y : Bool) → good_pool G p ≡ g → eqb places entries ≡ e → leb space start ≡ x → sound_tree (of_pool G p) ≡ y
            → Told (list_table G p start places entries) bare p (λ d. d.answer ≡ all) (done (cond (g && e) (cond x (refused 4) (cond y all (refused 8))) (refused 1)) p)
        go false e x y a b c d = hit (inl (bad_breaks p a))
        go true false x y a b c d = hit (inr (eqb-false places entries b))
        go true true true y a b c d = miss (can a b) (hit (leb-true space start c))
        go true true false false a b c d = miss (can a b) (miss (λ l. omega (arith, leb-false space start c)) (hit (λ w. true≢false (sym (wf_tree G p w) ∙ d))))
        go true true false true a b c d = miss (can a b) (miss (λ l. omega (arith, leb-false space start c)) (miss (λ f. f (tree_wf G p d)) (accepted_by tt refl)))

  -- ---- each call keeps its table

  pub add_table_lem : (p : Pool) (q m : ℕ) → ByTable (add_table G p q m) bare p (add_w G p q m)
  add_table_lem p q m = by_table (add_told p q m) (λ n v z e. clash (cc))

  pub map_table_lem : (p : Pool) (a b size k : ℕ) → ByTable (map_table G p a b size k) bare p (map_w G p a b size k)
  map_table_lem p a b size k = by_table (map_told p a b size k) (λ n v q e. clash (cc))

  pub unmap_table_lem : (p : Pool) (a : ℕ) → ByTable (unmap_table G p a) (with_hole G a (last_walk G p a)) p (unmap_w G p a)
  unmap_table_lem p a = by_table (unmap_told p a) (λ n v (b, k, f, q) e. clash (cc))

  pub query_table_lem : (p : Pool) (a : ℕ) → ByTable (query_table G p a) (with_hole G a (last_walk G p a)) p (done (query_w G p a) p)
  query_table_lem p a = by_table (query_told p a) (λ n v (b, k, f, q) e. clash (cc))

  pub audit_table_lem : (p : Pool) → ByTable (audit_table G p) bare p (done (audit_w G p) p)
  audit_table_lem p = by_table (audit_told p) (λ n v q e. clash (cc))

  pub list_table_lem : (p : Pool) (start places entries : ℕ) → ByTable (list_table G p start places entries) bare p (done (list_w G p start places entries) p)
  list_table_lem p start places entries = by_table (list_told p start places entries) (λ n v q e. lists_not G places (from_on start (mappings_of G p)) n v (sym q ∙ e))

  -- ---- number by number

  -- whether a tree is well-formed is tested, so what is not otherwise is so
  is_wf : (p : Pool) → (¬ ¬ WfTree G p) → WfTree G p
  is_wf p f = go (sound_tree (of_pool G p)) refl
    where
      go : (x : Bool) → sound_tree (of_pool G p) ≡ x → WfTree G p
      go true e = tree_wf G p e
      go false e = absurd (f (λ w. true≢false (sym (wf_tree G p w) ∙ e)))

  pub add_numbers : (p : Pool) (q m : ℕ) → AddNumbers G p q m
  add_numbers p q m = record {
    no_1 = row_of (add_table_lem p q m) 0 1 refl;
    no_8 = row_of (add_table_lem p q m) 1 8 refl;
    no_11 = Iff.trans (row_of (add_table_lem p q m) 2 11 refl) ((λ (x, (y, z)). (x, is_wf p y, z)), (λ (x, y, z). (x, ((λ f. f y), z))));
    accepted = (
      λ e. let n = (by_none told added (λ n v z. clash (cc)) e).0 in (n.0, is_wf p n.1.0, n.1.1.0),
      λ (x, y, z). none_by told (x, ((λ f. f y), (z, tt))),
    );
  }
    where
      told : Told (add_table G p q m) bare p (λ d. d.answer ≡ added) (add_w G p q m)
      told = add_told p q m

  pub list_numbers : (p : Pool) (start places entries : ℕ) → ListNumbers G p start places entries
  list_numbers p start places entries = record {
    no_1 = row_of T 0 1 refl;
    no_4 = row_of T 1 4 refl;
    no_8 = Iff.trans (row_of T 2 8 refl) (λ (x, (y, z)). (x, y, z), λ (x, y, z). (x, (y, z)));
    accepted = λ x y w. none_by (list_told p start places entries) (x, (y, ((λ f. f w), tt)));
  }
    where
      T : ByTable (list_table G p start places entries) bare p (done (list_w G p start places entries) p)
      T = list_table_lem p start places entries

  pub audit_numbers : (p : Pool) → AuditNumbers G p
  audit_numbers p = record {
    no_1 = row_of (audit_table_lem p) 0 1 refl;
    no_8 = row_of (audit_table_lem p) 1 8 refl;
    accepted = λ t m. (counted t m, λ (x, s, e, f). none_by (audit_told p) (x, ((λ z. z s), tt)) ∙ (λ i. audited (sym e i) (sym f i)));
  }
    where
      counted : (t m : ℕ) → audit_w G p ≡ audited t m → (¬ Breaks G p) × SoundPool G p × (t ≡ length (reached_of G p)) × (m ≡ length (mappings_of G p))
      counted t m e = let (g, s, x, y) = audit_counts G p t m e in (good_keeps p g, s, x, y)

  module _ (p : Pool) (a : ℕ) where
    -- a walk to the last level that is not damaged and does not end at an empty entry ends at a frame
    pub at_frame : (¬ Damage (last_walk G p a)) → (¬ Vacant (last_walk G p a)) → (b : ℕ) × (k : ℕ) × ((last_walk G p a).entry ≡ Frame b k)
    at_frame x y = go (last_walk G p a).entry refl
      where
        go : (e : Entry) → (last_walk G p a).entry ≡ e → (b : ℕ) × (k : ℕ) × ((last_walk G p a).entry ≡ Frame b k)
        go Empty q = absurd (y q)
        go (Table c) q = absurd (no_table_last p a c q)
        go (Frame b k) q = (b, k, q)
        go Damaged q = absurd (x q)

    vacant_sound : Vacant (last_walk G p a) → ¬ Damage (last_walk G p a)
    vacant_sound v d = clash (cc)

    frame_sound : {b k : ℕ} → (last_walk G p a).entry ≡ Frame b k → ¬ Damage (last_walk G p a)
    frame_sound f d = clash (cc)

    frame_there : {b k : ℕ} → (last_walk G p a).entry ≡ Frame b k → ¬ Vacant (last_walk G p a)
    frame_there f v = clash (cc)

    -- the two numbers of a hole
    hole_is : (base size : ℕ) → ((base ∷ size ∷ []) ≡ with_hole G a (last_walk G p a) 9)
        ↔ ((size ≡ size_at G (last_walk G p a).left) × (base ≡ a - a % size))
    hole_is base size = (λ e. let s : size ≡ size_at G (last_walk G p a).left = cc in (s, start e ∙ ap (λ (z : ℕ). a - a % z) (sym s)), λ (s, b). both (b ∙ ap (λ (z : ℕ). a - a % z) s) s)
      where
        start : {b s c t : ℕ} → (b ∷ s ∷ []) ≡ (c ∷ t ∷ []) → b ≡ c
        start e = cc

        both : {b s c t : ℕ} → b ≡ c → s ≡ t → (b ∷ s ∷ []) ≡ (c ∷ t ∷ [])
        both e f = λ i. e i ∷ f i ∷ []

    -- the walk ends at one frame
    frame_one : {b k c d : ℕ} → (last_walk G p a).entry ≡ Frame b k → (last_walk G p a).entry ≡ Frame c d → (b ≡ c) × (k ≡ d)
    frame_one f g = (cc, cc)

    pub query_numbers : QueryNumbers G p a
    unfolding base_at
    query_numbers = record {
      no_1 = row_of T 0 1 refl;
      no_4 = row_of T 1 4 refl;
      no_8 = Iff.trans (row_of T 2 8 refl) (λ (x, (y, z)). (x, y, z), λ (x, y, z). (x, (y, z)));
      no_9 = λ base size. Iff.trans (row_with T 3 9 (base ∷ size ∷ []) refl) (
        λ ((x, (y, (_, z))), c). let (s, b) = (hole_is base size).0 c in (x, y, z, s, b),
        λ (x, y, z, s, b). ((x, (y, (vacant_sound z, z))), (hole_is base size).1 (s, b)),
      );
      accepted = λ at b size k. (λ e. forth at b size k e (by_none (query_told p a) (found (mapping at b size k)) (λ n v z. clash (cc)) e), back at b size k);
    }
      where
        T : ByTable (query_table G p a) (with_hole G a (last_walk G p a)) p (done (query_w G p a) p)
        T = query_table_lem p a

        own : ℕ → ℕ → Mapping
        own b k = mapping (a - a % size_at G (last_walk G p a).left) b (size_at G (last_walk G p a).left) k

        forth : (at b size k : ℕ) → query_w G p a ≡ found (mapping at b size k)
            → None (query_table G p a) × AtFrame p a (finds p a) (done (query_w G p a) p)
            → (¬ Breaks G p) × (¬ NotBelow G p.numbers.levels a) × ((last_walk G p a).entry ≡ Frame b k) × (size ≡ size_at G (last_walk G p a).left) × (at ≡ a - a % size)
        forth at b size k e ((x, (y, _)), (c, d, f, q)) =
            let m : own c d ≡ mapping at b size k = found_same _ _ (sym q ∙ e) in (
              x,
              y,
              f ∙ (λ i. Frame (m i).frame (m i).attributes),
              (λ i. (sym m i).size),
              sym (λ i. (m i).at) ∙ (λ i. a - a % (m i).size),
            )

        back : (at b size k : ℕ)
            → (¬ Breaks G p) × (¬ NotBelow G p.numbers.levels a) × ((last_walk G p a).entry ≡ Frame b k) × (size ≡ size_at G (last_walk G p a).left) × (at ≡ a - a % size)
            → query_w G p a ≡ found (mapping at b size k)
        back at b size k (x, y, f, s, z) =
            let (c, d, g, q) = none_by (query_told p a) (x, (y, (frame_sound f, (frame_there f, tt)))) in
            let one = frame_one g f in
            let start = sym (z ∙ ap (λ (n : ℕ). a - a % n) s) in
            q ∙ (λ i. found (mapping (start i) (one.0 i) (sym s i) (one.1 i)))

    pub unmap_numbers : UnmapNumbers G p a
    unmap_numbers = record {
      no_1 = row_of T 0 1 refl;
      no_4 = row_of T 1 4 refl;
      no_5 = Iff.trans (row_of T 2 5 refl) (λ (x, (y, z)). (x, y, z), λ (x, y, z). (x, (y, z)));
      no_9 = λ base size. Iff.trans (row_with T 4 9 (base ∷ size ∷ []) refl) (
        λ ((x, (y, (z, (_, v)))), c). let (s, b) = (hole_is base size).0 c in (x, y, z, v, s, b),
        λ (x, y, z, v, s, b). ((x, (y, (z, (vacant_sound v, v)))), (hole_is base size).1 (s, b)),
      );
      no_10 = Iff.trans (row_of T 5 10 refl) (
        λ (x, (y, (z, (_, (_, v))))). (x, y, z, v),
        λ (x, y, z, v). (x, (y, (z, (frame_sound v.2, (frame_there v.2, v))))),
      );
      no_8 = Iff.trans (rows_of T 3 6 8 refl) (forth, back);
      accepted = λ b size k t. (λ e. given_forth b size k t e (by_none (unmap_told p a) (gave b size k t) (λ n v z. clash (cc)) e), given_back b size k t);
    }
      where
        T : ByTable (unmap_table G p a) (with_hole G a (last_walk G p a)) p (unmap_w G p a)
        T = unmap_table_lem p a

        W : Walked
        W = last_walk G p a

        Met : Type 0
        Met = Damage W ⊎ (Starts G a W × FullList G p a)

        started : (¬ Damage W) → (¬ Vacant W) → (¬ OffStart G a W) → Starts G a W
        started x y z = let (b, k, f) = at_frame x y in go b k f (ℕ_discrete (a % size_at G W.left) 0)
          where
            go : (b k : ℕ) → W.entry ≡ Frame b k → Dec (a % size_at G W.left ≡ 0) → Starts G a W
            go b k f (yes e) = (b, k, f, e)
            go b k f (no n) = absurd (z (b, k, f, n))

        forth : At (unmap_table G p a) 3 ⊎ At (unmap_table G p a) 6 → (¬ Breaks G p) × (¬ NotBelow G p.numbers.levels a) × (¬ OffPage G a) × Met
        forth (inl (x, (y, (z, d)))) = (x, y, z, inl d)
        forth (inr (x, (y, (z, (d, (v, (o, l))))))) = (x, y, z, inr (started d v o, l))

        back : (¬ Breaks G p) × (¬ NotBelow G p.numbers.levels a) × (¬ OffPage G a) × Met → At (unmap_table G p a) 3 ⊎ At (unmap_table G p a) 6
        back (x, y, z, m) = ⊎_elim (λ d. inl (x, (y, (z, d)))) (λ ((b, k, f, e), l). inr (x, (y, (z, (frame_sound f, (frame_there f, ((λ (c, d, g, n). n e), l))))))) m

        Gives : ℕ → ℕ → ℕ → ℕ → Type 0
        Gives b size k t =
            (¬ Breaks G p)
            × (¬ NotBelow G p.numbers.levels a)
            × (¬ OffPage G a)
            × (¬ OffStart G a W)
            × (W.entry ≡ Frame b k)
            × (size ≡ size_at G W.left)
            × GivesBack G p a W t
            × (p.numbers.free + t ≤ table_count p - 1)

        same : {b s k t b' s' k' t' : ℕ} → gave b s k t ≡ gave b' s' k' t' → (b ≡ b') × (s ≡ s') × (k ≡ k') × (t ≡ t')
        same e = (cc, cc, cc, cc)

        given_forth : (b size k t : ℕ) → (unmap_w G p a).answer ≡ gave b size k t → None (unmap_table G p a) × AtFrame p a (gives_up p a) (unmap_w G p a) → Gives b size k t
        given_forth b size k t e ((x, (y, (z, (_, (_, (o, (l, _))))))), (c, d, f, q)) =
            let (eb, es, ek, et) = same (sym q ∙ e) in
            let B = subst (GivesBack G p a W) et (gives_back p a W) in
            (x, y, z, o, f ∙ (λ i. Frame (eb i) (ek i)), sym es, B, room t B (λ m. l (t, B, m)))
          where
            room : (t : ℕ) → GivesBack G p a W t → ((table_count p - 1 < p.numbers.free + t) → ⊥) → p.numbers.free + t ≤ table_count p - 1
            room t B n = omega arith

        given_back : (b size k t : ℕ) → Gives b size k t → (unmap_w G p a).answer ≡ gave b size k t
        given_back b size k t (x, y, z, o, f, s, B, l) =
            let (c, d, g, q) = none_by (unmap_told p a) (x, (y, (z, (frame_sound f, (frame_there f, (o, (full, tt))))))) in
            let one = frame_one g f in
            let gone = gives_one p a W (gives_back p a W) B in
            q ∙ (λ i. gave (one.0 i) (sym s i) (one.1 i) (gone i))
          where
            full : FullList G p a → ⊥
            full (n, C, m) = omega (arith, gives_one p a W C B)

  pub map_numbers : (p : Pool) (a b size k : ℕ) → MapNumbers G p a b size k
  map_numbers p a b size k = record {
    no_1 = row_of T 0 1 refl;
    no_2 = row_of T 1 2 refl;
    no_3 = Iff.trans (row_of T 2 3 refl) (λ (x, (y, z)). (x, y, z), λ (x, y, z). (x, (y, z)));
    no_4 = Iff.trans (row_of T 3 4 refl) (λ (x, (y, (z, v))). (x, y, z, v), λ (x, y, z, v). (x, (y, (z, v))));
    no_5 = Iff.trans (row_of T 4 5 refl) (λ (x, (y, (z, (v, u)))). (x, y, z, v, u), λ (x, y, z, v, u). (x, (y, (z, (v, u)))));
    no_11 = Iff.trans (row_of T 5 11 refl) (λ (x, (y, (z, (v, (u, i))))). (x, y, z, v, u, i), λ (x, y, z, v, u, i). (x, (y, (z, (v, (u, i))))));
    no_6 = Iff.trans (row_of T 6 6 refl) (λ (x, (y, (z, (v, (u, (i, m)))))). ((x, y, z, v, u, i), m), λ ((x, y, z, v, u, i), m). (x, (y, (z, (v, (u, (i, m)))))));
    no_7 = Iff.trans (row_of T 8 7 refl) (
      λ (x, (y, (z, (v, (u, (i, (m, (d, l)))))))). ((x, y, z, v, u, i), vacant m d, l),
      λ ((x, y, z, v, u, i), m, l). (x, (y, (z, (v, (u, (i, (free m, (sound m, l)))))))),
    );
    no_8 = Iff.trans (rows_of T 7 9 8 refl) (forth, back);
    accepted = λ t. (λ e. taken_forth t e (by_none (map_told p a b size k) (took t) (λ n v z. clash (cc)) e), taken_back t);
  }
    where
      T : ByTable (map_table G p a b size k) bare p (map_w G p a b size k)
      T = map_table_lem p a b size k

      W : Walked
      W = map_walk G p a size

      free : Vacant W → ¬ Occupied W
      free v = ⊎_elim (λ (c, d, z). clash (cc)) (λ (c, z). clash (cc))

      sound : Vacant W → ¬ Damage W
      sound v d = clash (cc)

      unmet : Damage W → ¬ Occupied W
      unmet v = ⊎_elim (λ (c, d, z). clash (cc)) (λ (c, z). clash (cc))

      vacant : (¬ Occupied W) → (¬ Damage W) → Vacant W
      vacant x y = go W.entry refl
        where
          go : (e : Entry) → W.entry ≡ e → Vacant W
          go Empty q = q
          go (Table c) q = absurd (x (inr (c, q)))
          go (Frame c d) q = absurd (x (inl (c, d, q)))
          go Damaged q = absurd (y q)

      enough : (¬ (p.numbers.free < needed G p a size)) → needed G p a size ≤ p.numbers.free
      enough n = omega arith

      few : needed G p a size ≤ p.numbers.free → ¬ (p.numbers.free < needed G p a size)
      few l m = omega arith

      Eight : Type 0
      Eight = WellFormedMap G p a b size k × (Damage W ⊎ (Vacant W × (needed G p a size ≤ p.numbers.free) × BadList G p a size))

      forth : At (map_table G p a b size k) 7 ⊎ At (map_table G p a b size k) 9 → Eight
      forth (inl (x, (y, (z, (v, (u, (i, (m, d)))))))) = ((x, y, z, v, u, i), inl d)
      forth (inr (x, (y, (z, (v, (u, (i, (m, (d, (l, t)))))))))) = ((x, y, z, v, u, i), inr (vacant m d, enough l, t))

      back : Eight → At (map_table G p a b size k) 7 ⊎ At (map_table G p a b size k) 9
      back ((x, y, z, v, u, i), m) =
          ⊎_elim
          (λ d. inl (x, (y, (z, (v, (u, (i, (unmet d, d))))))))
          (λ (e, l, t). inr (x, (y, (z, (v, (u, (i, (free e, (sound e, (few l, t))))))))))
          m

      Takes : ℕ → Type 0
      Takes t = WellFormedMap G p a b size k × Vacant W × (needed G p a size ≤ p.numbers.free) × (¬ BadList G p a size) × (t ≡ needed G p a size)

      same : {s t : ℕ} → took s ≡ took t → s ≡ t
      same e = cc

      taken_forth : (t : ℕ) → (map_w G p a b size k).answer ≡ took t → None (map_table G p a b size k) × Took p a b size k (map_w G p a b size k) → Takes t
      taken_forth t e ((x, (y, (z, (v, (u, (i, (m, (d, (l, (r, _)))))))))), q) = ((x, y, z, v, u, i), vacant m d, enough l, r, same (sym e ∙ q))

      taken_back : (t : ℕ) → Takes t → (map_w G p a b size k).answer ≡ took t
      taken_back t ((x, y, z, v, u, i), m, l, r, e) =
          none_by (map_told p a b size k) (x, (y, (z, (v, (u, (i, (free m, (sound m, (few l, (r, tt)))))))))) ∙ ap took (sym e)

-- ---- format

module _ (number levels : ℕ) (r : Area) (ws : List ℕ) (cut : ℕ) (list : List ℕ) where
  abbrev lent : Pool
  lent = pool no_setup ws cut list

  format_told : Told (format_table number levels r ws cut list) bare lent (λ d. d.answer ≡ formatted) (format_n number levels r ws cut list)
  unfolding format_n format_w
  format_told = go (good_granule number) (good_numbers (granule_of number) levels r cut (length ws) (length list)) refl refl (done formatted _) refl
    where
      go : (x y : Bool) → good_granule number ≡ x → good_numbers (granule_of number) levels r cut (length ws) (length list) ≡ y → (d : Done) → d.answer ≡ formatted
          → Told (format_table number levels r ws cut list) bare lent (λ d. d.answer ≡ formatted) (cond x (cond y d (refuse 1 lent)) (refuse 1 lent))
      go false y e f d q = hit (inl (no_granule number e))
      go true false e f d q = hit (inr (bad_broken (granule_of number) f))
      go true true e f d q = miss (⊎_elim (some_granule number e) (good_unbroken (granule_of number) (good_numbers_lem f))) (accepted_by tt q)

  pub format_table_lem : ByTable (format_table number levels r ws cut list) bare lent (format_n number levels r ws cut list)
  format_table_lem = by_table format_told (λ n v q e. clash (cc))

  pub format_numbers : FormatNumbers number levels r ws cut list
  format_numbers = record {
    no_1 = row_of format_table_lem 0 1 refl;
    accepted = (λ e. (by_none format_told formatted (λ n v z. clash (cc)) e).0.0, λ x. none_by format_told (x, tt));
  }

-- ---- the papers' own numbers

pub granule_numbers : (number : ℕ) → GranuleNumbers number
granule_numbers number = record {
  none = (λ d. (λ z. d (z ∙ ap page_size (sym (is_four number z))), λ z. d (z ∙ ap page_size (sym (is_sixteen number z)))), not_named number);
  small = is_four number;
  larger = is_sixteen number;
}

pub four_numbers : FourNumbers
unfolding space_of good_levels height_of seek size_at
four_numbers = record {
  page = refl;
  words = refl;
  levels = λ l. (λ n. (λ z. ⊎_elim (λ k. omega arith) (λ k. omega arith) n, λ z. ⊎_elim (λ k. omega arith) (λ k. omega arith) n), λ (x, y). beyond l (dec_lt l 3) x y);
  space_3 = refl;
  space_4 = refl;
  sizes = λ size. (λ f. (f 0 (omega arith), f 1 (omega arith), f 2 (omega arith)), λ (x, y, z). none size x y z);
  heights = (refl, refl, refl);
  regions = (refl, refl, refl, refl);
  powers = λ a b k. (refl, refl, refl);
}
  where
    beyond : (l : ℕ) → Dec (l < 3) → l ≢ 3 → l ≢ 4 → (l < 3) ⊎ (4 < l)
    beyond l (yes k) x y = inl k
    beyond l (no n) x y = inr (omega arith)

    none : (size : ℕ) → size ≢ 4096 → size ≢ 2 ^ 21 → size ≢ 2 ^ 30 → (h : ℕ) → h ≤ 2 → size ≢ size_at four h
    none size x y z zero l = x
    none size x y z (suc zero) l = y
    none size x y z (suc (suc zero)) l = z
    none size x y z (suc (suc (suc h))) l = absurd (omega arith)

pub sixteen_numbers : SixteenNumbers
unfolding space_of good_levels height_of seek size_at
sixteen_numbers = record {
  page = refl;
  words = refl;
  levels = λ l. (λ n z. ⊎_elim (λ k. omega arith) (λ k. omega arith) n, λ x. beyond l (dec_lt l 3) x);
  space_3 = refl;
  sizes = λ size. (λ f. (f 0 (omega arith), f 1 (omega arith)), λ (x, y). none size x y);
  heights = (refl, refl);
  regions = (refl, refl, refl);
  powers = λ a b k. (refl, refl);
}
  where
    beyond : (l : ℕ) → Dec (l < 3) → l ≢ 3 → (l < 3) ⊎ (3 < l)
    beyond l (yes k) x = inl k
    beyond l (no n) x = inr (omega arith)

    none : (size : ℕ) → size ≢ 16384 → size ≢ 2 ^ 25 → (h : ℕ) → h ≤ 1 → size ≢ size_at sixteen h
    none size x y zero l = x
    none size x y (suc zero) l = y
    none size x y (suc (suc h)) l = absurd (omega arith)
