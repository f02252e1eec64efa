-- A range unmapped on a pool that holds a ledger: the answer is the ledger's, and the pool after it holds the ledger after it.
use Prim.Native.Nat.{ℕ, zero, suc, ◌+◌, ◌-◌, ◌*◌, ◌/◌, ◌%◌, ◌≤◌, ◌<◌}
use Rattle.std.specs.Prelude.{◌≡◌, ◌≢◌, ◌⊎◌, Bool, cond, not, ltb}
use Rattle.std.proofs.Math.Path.{refl, ap, sym, subst}
use Rattle.std.proofs.Common.{◌∙◌, ⊎_elim, suc-mul, div-add-mod', arith}
use Rattle.std.proofs.Math.Logic.{inl, inr}
use Rattle.std.proofs.Math.Bool.{true, false}
use mathlib.Core.List.Memᴰ
use mathlib.Core.List.Memᴰ.{head as here}
use mathlib.Core.List.Memᴰ.{tail as there}
use mathlib.Core.List.{List, [], ◌∷◌, map, Memᴰ}
use Rattle.std.proofs.Math.Option.{Option, some, none}
use Rattle.std.proofs.Math.Nat.{mul-mod_left}
use Rattle.std.proofs.Math.Decide.{dec_lt, dec_le}
use Rattle.std.proofs.Math.Dec.{eqb}
use Rattle.std.proofs.Math.ListN.{length}
use borrow.Author.Tests.{eqb-true, eqb-false, lt-leb, le-leb, lt-ltb, eq-eqb}
use Rattle.path.specs.Geometry.{Granule, page_size, entries, size_at, space_of, Sane}
use Rattle.path.specs.Areas.{area_of, total}
use Rattle.path.specs.RegionLaws.{multiple_gap}
use Rattle.path.specs.Laws.{page_pos, size_pos}
use Rattle.path.specs.Paths.{base_at, path_of}
use Rattle.entry.specs.declared.Entry.{Entry}
use Rattle.entry.specs.declared.Entry.TheVariants.{Empty, Table, Frame, Damaged}
use Rattle.model.specs.Answers as answers
use Rattle.model.specs.Answers.{Answer, gave, found, cleared, refused, tables_in, Pool, Done, done, refuse}
use Rattle.model.specs.declared.Walked.{Walked}
use Rattle.model.specs.Writes.{freed, unmap_writes}
use Rattle.model.specs.Calls.{good_pool, walk_to, written, found_at, query_w, unmap_tests, unmap_here, unmap_at, unmap_w}
use Rattle.model.specs.Ledger.{Ledger, with_live, holds_address, cover_of, drop_at, free_tables, entered, query_of, query_l, unmap_of, unmap_l}
use Rattle.model.proofs.LedgerLaws.{true_and, true_or, cover_some, cover_none}
use Rattle.model.specs.Holes.{Within, Shares}
use Rattle.model.proofs.DescentLaws.{clash}
use Rattle.model.proofs.Unique.{found_same}
use Rattle.model.specs.Ranges.{unmap_range_tests, pages_from, pages_of, Probe, page_walk, page_walks, inside, cut_at, any_cut_by, answers_of, left_by, sum_of, accepted_in, refuses_with, any_refused, unmap_range_here, unmap_range_at, unmap_range_w, any_cut, drop_in, clear_of, unmap_range_l}
use Rattle.model.proofs.RangeUnmapLaws.{unmap_tests_lem, unmap_range_view}
use Rattle.model.specs.RangeUnmapped.{UnmapRangeView, range_clears, range_stays}
use Rattle.model.proofs.RangeLaws.{page_next, pages_from_lem, pages_has, unmap_fine, inside_so, cut_clear, cut_some, dropped_from, drop_absent, drop_none, drop_step, false_or}
use Rattle.model.specs.RangeLaws.{FineUnmap, Clear}
use Rattle.tree.specs.Region.{anc, page}
use Rattle.tree.specs.Inv.{Mapping, mapping}
use Rattle.tree.specs.Ledger.{ended, covers_at}
use Rattle.laws.specs.Lists.{Distinct}
use Rattle.demand.specs.Shown.{shown, pg, first_address, holds_covers}
use Rattle.demand.specs.Arm.{read_entry}
use Rattle.demand.specs.Walks.{Ended, never_bad, entry_table}
use Rattle.demand.specs.Sims.{Sim}
use Rattle.demand.specs.Queries.{area, k₀, al, R, own, ledger_is, pool_good, few, walk_ended, query_own}
use Rattle.demand.specs.Maps.{Alike, own_sim, free_is}
use Rattle.demand.specs.Steps.{unmap_step}
use Rattle.demand.specs.Demand3.{unmap_c, pool_after, ledger_after}
use Rattle.demand.specs.RangeWays.{Made, never_spoiled}
use Rattle.demand.specs.RangeMaps.{live_some}

-- what the pages leave is what their calls leave
pub pages_left : (G : Granule) (p : Pool) (xs : List ℕ) → left_by (unmap_w G) p xs ≡ pool_after G p (map unmap_c xs)
unfolding left_by
pages_left G p [] = refl
pages_left G p (x ∷ xs) = pages_left G (unmap_w G p x).after xs

-- ---- unmap, on any pool

-- it gives back the tables that it answers
unmap_free : (G : Granule) (p : Pool) (x : ℕ) → p.numbers.free + tables_in (unmap_w G p x).answer ≡ (unmap_w G p x).after.numbers.free
unfolding unmap_w unmap_at unmap_here
unmap_free G p x = go (good_pool G p) (eqb (unmap_tests G p.numbers.levels x) 0) (walk_to G p 0 x).entry
  where
    o : Walked
    o = walk_to G p 0 x

    Frees : Done → Type 0
    Frees d = p.numbers.free + tables_in d.answer ≡ d.after.numbers.free

    removes : (b k given : ℕ) (y : Bool) → Frees (cond y (refuse 8 p)
        (done (gave b (size_at G o.left) k given) (written G p (unmap_writes G o.tables (path_of G x) o.left p.numbers.free given) (p.numbers.free + given))))
    removes b k given true = omega arith
    removes b k given false = refl

    at : (e : Entry) → Frees (unmap_at G p x o e)
    at Empty = omega arith
    at (Table c) = omega arith
    at Damaged = omega arith
    at (Frame b k) = on (eqb (x % size_at G o.left) 0)
      where
        given : ℕ
        given = freed G p.words o.tables (path_of G x) o.left (p.numbers.levels - 1 - o.left)

        on : (y : Bool) → Frees (cond y (unmap_here G p x b k o given) (refuse 10 p))
        on true = removes b k given (ltb (total (area_of p.numbers) - 1) (p.numbers.free + given))
        on false = omega arith

    go : (y z : Bool) (e : Entry) → Frees (cond y (cond z (unmap_at G p x o e) (refuse (unmap_tests G p.numbers.levels x) p)) (refuse 1 p))
    go true true e = at e
    go true false e = omega arith
    go false z e = omega arith

within_holds : (x : ℕ) (m : answers.Mapping) → Within x m → holds_address x m ≡ true
within_holds x m w = true_and (le-leb _ _ w.0) (lt-ltb _ _ w.1)

-- what a query's answer says of the mapping that holds the address
module _ (G : Granule) (A : Ledger) (x : ℕ) where
  found_some : (m : answers.Mapping) (c : Option answers.Mapping) → found m ≡ query_of G A x c → c ≡ some m
  found_some m none e = clash (cc)
  found_some m (some q) e = ap some (found_same q m (sym e))

  hole_none : (b s : ℕ) (c : Option answers.Mapping) → answers.hole b s ≡ query_of G A x c → c ≡ none
  hole_none b s none e = refl
  hole_none b s (some q) e = clash (cc)

module _ (G : Granule) (Z : Sane G) where
  -- exactly one goes
  one_dropped : (x : ℕ) (b : Mapping) (L : List Mapping) → Distinct L → Memᴰ b L → (shown G Z b).at ≡ x
      → ((c : Mapping) → Memᴰ c L → (shown G Z c).at ≡ x → c ≡ b)
      → suc (length (drop_at x (map (shown G Z) L))) ≡ length (map (shown G Z) L)
  unfolding drop_at
  one_dropped x b [] d i e f = absurd (Memᴰ.not-nil i)
  one_dropped x b (c ∷ L) d i e f = go (eqb (shown G Z c).at x) refl (Memᴰ.cases_cons i) (λ j. one_dropped x b L d.1 j e (λ q k. f q (there k)))
    where
      go : (y : Bool) → eqb (shown G Z c).at x ≡ y → (b ≡ c) ⊎ Memᴰ b L → (Memᴰ b L → suc (length (drop_at x (map (shown G Z) L))) ≡ length (map (shown G Z) L))
          → suc (length (cond y (drop_at x (map (shown G Z) L)) (shown G Z c ∷ drop_at x (map (shown G Z) L)))) ≡ suc (length (map (shown G Z) L))
      go true q w ih =
          let z : c ≡ b = f c (here refl) (eqb-true _ _ q) in
          ap suc (ap length (drop_absent x (map (shown G Z) L) (λ m k t.
          let (a, j, s) = Memᴰ.of_map (shown G Z) L k in
          d.0 (Memᴰ.cast (z ∙ sym (f a (there j) (ap (λ (u : answers.Mapping). u.at) s ∙ t))) j))))
      go false q (inl w) ih = absurd (eqb-false _ _ q (ap (λ (u : Mapping). (shown G Z u).at) (sym w) ∙ e))
      go false q (inr w) ih = ap suc (ih w)

  -- ---- one page

  module _ {p : Pool} {A : Ledger} (I : Sim G Z p A) where
    abbrev live : List answers.Mapping
    live = map (shown G Z) I.L

    live_page : (m : answers.Mapping) → Memᴰ m live → m.at % page_size G ≡ 0
    live_page m i =
        let (b, c, e) = Memᴰ.of_map (shown G Z) I.L i in
        subst (λ (x : answers.Mapping). x.at % page_size G ≡ 0) e
        (ap (λ (y : ℕ). y % page_size G) (sym (first_address G Z b.h b.r)) ∙ mul-mod_left (page (entries G) b.h b.r) (page_size G))

    module _ (x : ℕ) (l : x < space_of G p.numbers.levels) where
      abbrev o : Walked
      o = walk_to G p 0 x

      abbrev E : Ended G Z (area G Z I) p.numbers.levels (al G Z I) (few G Z I) p.words (R G Z I) x 0 (k₀ G Z I) o
      E = walk_ended G Z I 0 x (omega arith) l

      abbrev v : ℕ
      v = pg G Z x

      abbrev h : ℕ
      h = o.left

      -- what the walk finds is the mapping that holds the page
      says : found_at G x o.entry o.left ≡ query_of G (own G Z I) x (cover_of x live)
      unfolding query_w query_l
      says = rw (pool_good G Z I, lt-leb (space_of G p.numbers.levels) x l) at (query_own G Z I tt x)

      frame_cover : (b k : ℕ) → o.entry ≡ Frame b k → cover_of x live ≡ some (answers.mapping (base_at G x h) b (size_at G h) k)
      unfolding found_at
      frame_cover b k q = found_some G (own G Z I) x (answers.mapping (base_at G x h) b (size_at G h) k) (cover_of x live) (ap (λ (e : Entry). found_at G x e h) (sym q) ∙ says)

      empty_cover : o.entry ≡ Empty → cover_of x live ≡ none
      unfolding found_at
      empty_cover q = hole_none G (own G Z I) x (base_at G x h) (size_at G h) (cover_of x live) (ap (λ (e : Entry). found_at G x e h) (sym q) ∙ says)

      not_other : (e : Entry) → o.entry ≡ e → (e ≡ Empty) ⊎ ((b : ℕ) × (k : ℕ) × (e ≡ Frame b k))
      not_other Empty q = inl refl
      not_other (Frame b k) q = inr (b, k, refl)
      not_other (Table c) q =
          absurd (ended (R G Z I) E.ends (entry_table (I.S h (anc (entries G) h v)) (I.T h (anc (entries G) h v)) c (ap read_entry (sym q) ∙ E.ends.says_is)).0)
      not_other Damaged q = absurd (never_bad (I.S h (anc (entries G) h v)) (I.T h (anc (entries G) h v)) (ap read_entry (sym q) ∙ E.ends.says_is))

      -- one mapping holds the page
      one_holds : (b c : Mapping) → Memᴰ b I.L → Memᴰ c I.L → Within x (shown G Z b) → Within x (shown G Z c) → b ≡ c
      one_holds b c i j s t =
          let s' = holds_covers G Z x b (within_holds x (shown G Z b) s) in
          let t' = holds_covers G Z x c (within_holds x (shown G Z c) t) in
          let u = covers_at (R G Z I) I.inv.holds E.ends b i s' in
          let w = covers_at (R G Z I) I.inv.holds E.ends c j t' in
          let e : b.h ≡ c.h = u ∙ sym w in
          let f : b.r ≡ c.r = sym s' ∙ ap (λ (y : ℕ). anc (entries G) y v) e ∙ t' in
          let q = I.inv.holds.live b i in
          let r = I.inv.holds.live c j in
          let g : b.x ≡ c.x = cc in
          λ i. mapping (e i) (f i) (g i)

      cover_one : (m : answers.Mapping) → Memᴰ m live → Within x m → cover_of x live ≡ some m
      cover_one m i s = go (cover_of x live) refl
        where
          go : (c : Option answers.Mapping) → cover_of x live ≡ c → c ≡ some m
          go none q = absurd (cover_none x live q m i s)
          go (some q) e =
              let (j, t) = cover_some x live q e in
              let (b, b-in, b-is) = Memᴰ.of_map (shown G Z) I.L i in
              let (c, c-in, c-is) = Memᴰ.of_map (shown G Z) I.L j in
              ap some (sym c-is ∙ ap (shown G Z) (one_holds c b c-in b-in (subst (Within x) (sym c-is) t) (subst (Within x) (sym b-is) s)) ∙ b-is)

      -- unmap there, where no live mapping that starts earlier reaches so far: the mapping at the page goes, or none is there
      record Stepped : Type 0 where
        pub after : (unmap_l G (own G Z I) x).after ≡ with_live (own G Z I) (drop_at x live)
        pub count : accepted_in (unmap_l G (own G Z I) x).answer + length (drop_at x live) ≡ length live
        pub fine : refuses_with 8 (unmap_l G (own G Z I) x).answer ≡ false

      stepped : x % page_size G ≡ 0 → Clear x live → Stepped
      unfolding unmap_l unmap_of
      stepped e clear = go (cover_of x live) refl
        where
          tests : eqb (unmap_tests G p.numbers.levels x) 0 ≡ true
          tests = eq-eqb _ _ (unmap_tests_lem G p.numbers.levels x l e)

          starts : (m : answers.Mapping) → Within x m → (m.at < x → m.at + m.size ≤ x) → m.at ≡ x
          starts m w c = on (dec_lt m.at x)
            where
              on : Dec (m.at < x) → m.at ≡ x
              on (yes r) = absurd (omega (arith, c r, w.1))
              on (no r) = omega (arith, w.0)

          go : (c : Option answers.Mapping) → cover_of x live ≡ c → Stepped
          go none q =
              let away : drop_at x live ≡ live = drop_absent x live (λ m i z. cover_none x live q m i (omega arith, omega (arith, live_some G Z I m i))) in
              record { after = rw (tests, q, away) refl; count = rw (tests, q, away) (omega arith); fine = rw (tests, q) refl }
          go (some m) q =
              let (i, s) = cover_some x live m q in
              let at : m.at ≡ x = starts m s (clear m i) in
              let (b, b-in, b-is) = Memᴰ.of_map (shown G Z) I.L i in
              let one = one_dropped x b I.L I.once b-in (ap (λ (y : answers.Mapping). y.at) b-is ∙ at)
              (λ c j z. one_holds c b j b-in (omega arith, omega (arith, size_pos G c.h)) (subst (Within x) (sym b-is) s)) in
              record { after = rw (tests, q, eq-eqb _ _ at) refl; count = rw (tests, q, eq-eqb _ _ at) (omega (arith, one)); fine = rw (tests, q, eq-eqb _ _ at) refl }

  -- the free count is the ledger's
  free_so : {p : Pool} {A : Ledger} → Sim G Z p A → free_tables G A ≡ p.numbers.free
  free_so I = ap (free_tables G) (ledger_is G Z I) ∙ free_is G Z I tt tt

  -- ---- page by page

  abbrev answers_at : Pool → ℕ → ℕ → List Answer
  answers_at p x k = answers_of (unmap_w G) p (pages_from G x k)

  abbrev left_at : Pool → ℕ → ℕ → Pool
  left_at p x k = left_by (unmap_w G) p (pages_from G x k)

  -- what unmapping k pages from x on comes to
  pub record Out (p : Pool) (A : Ledger) (x k : ℕ) : Type 0 where
    pub sim : Sim G Z (left_at p x k) (with_live A (drop_in x (k * page_size G) A.live))
    pub free : p.numbers.free + sum_of tables_in (answers_at p x k) ≡ (left_at p x k).numbers.free
    pub count : sum_of accepted_in (answers_at p x k) + length (drop_in x (k * page_size G) A.live) ≡ length A.live
    pub fine : any_refused 8 (answers_at p x k) ≡ false

  -- one step, by the ledger that the pool holds
  pub record StepsTo (x : ℕ) (B : Ledger) : Type 0 where
    pub after : (unmap_l G B x).after ≡ with_live B (drop_at x B.live)
    pub count : accepted_in (unmap_l G B x).answer + length (drop_at x B.live) ≡ length B.live
    pub fine : refuses_with 8 (unmap_l G B x).answer ≡ false

  pub steps_to : {p : Pool} {A : Ledger} → Sim G Z p A → (x : ℕ) → x < space_of G A.levels → x % page_size G ≡ 0 → Clear x A.live → StepsTo x A
  steps_to {p} {A} I x l e c = subst (StepsTo x) (sym (ledger_is G Z I)) (record { after = S.after; count = S.count; fine = S.fine })
    where
      S : Stepped I x (subst (λ (y : ℕ). x < space_of G y) (sym I.levels_are) l)
      S = stepped I x (subst (λ (y : ℕ). x < space_of G y) (sym I.levels_are) l) e (subst (Clear x) I.live_is c)

  -- what is known of a ledger before k pages from x on go: they are in the space, and no mapping lies across either end
  pub record Before (A : Ledger) (x k : ℕ) : Type 0 where
    pub aligned : x % page_size G ≡ 0
    pub in_space : x + k * page_size G ≤ space_of G A.levels
    pub start : Clear x A.live
    pub end : Clear (x + k * page_size G) A.live

  module _ {p : Pool} {A : Ledger} (I : Sim G Z p A) (x k : ℕ) (B : Before A x (suc k)) where
    abbrev W : ℕ
    W = page_size G

    more : suc k * W ≡ W + k * W
    more = suc-mul k W ∙ omega arith

    aligned_at : (m : answers.Mapping) → Memᴰ m A.live → m.at % W ≡ 0
    aligned_at m i = live_page I m (subst (λ (L : List answers.Mapping). Memᴰ m L) I.live_is i)

    clear_end : Clear (x + (W + k * W)) A.live
    clear_end = subst (λ (y : ℕ). Clear (x + y) A.live) more B.end

    first_in : x < space_of G A.levels
    first_in = omega (arith, more, page_pos G, B.in_space)

    pub step_first : StepsTo x A
    step_first = steps_to I x first_in B.aligned B.start

    -- the mapping at the first page goes, and the rest after it
    pub drop_first : drop_in (x + W) (k * W) (drop_at x A.live) ≡ drop_in x (suc k * W) A.live
    drop_first = drop_step G x (k * W) A.live B.aligned aligned_at clear_end ∙ ap (λ (y : ℕ). drop_in x y A.live) (sym more)

    pub before_next : Before (with_live A (drop_at x A.live)) (x + W) k
    before_next = record {
      aligned = page_next G x B.aligned;
      in_space = omega (arith, more, B.in_space);
      start = λ m i b. let (j, ne) = dropped_from x A.live m i in on m j ne b (dec_lt m.at x) (dec_lt x m.at);
      end = λ m i b. let (j, ne) = dropped_from x A.live m i in let t = clear_end m j (omega arith) in omega arith;
    }
      where
        on : (m : answers.Mapping) → Memᴰ m A.live → m.at ≢ x → m.at < x + W → Dec (m.at < x) → Dec (x < m.at) → m.at + m.size ≤ x + W
        on m j ne b (yes r) s = let t = B.start m j r in omega arith
        on m j ne b (no r) (yes s) = absurd (omega (arith, multiple_gap W B.aligned (aligned_at m j) s))
        on m j ne b (no r) (no s) = absurd (ne (omega arith))

  page_out : (k : ℕ) {p : Pool} {A : Ledger} → Sim G Z p A → (x : ℕ) → Before A x k → Out p A x k
  unfolding pages_from answers_of left_by sum_of any_refused
  page_out zero {p} {A} I x B = record {
    sim = subst (λ (L : List answers.Mapping). Sim G Z p (with_live A L)) (sym none_inside) I;
    free = omega arith;
    count = ap (λ (L : List answers.Mapping). 0 + length L) none_inside ∙ omega arith;
    fine = refl;
  }
    where
      none_inside : drop_in x (0 * page_size G) A.live ≡ A.live
      none_inside = ap (λ (y : ℕ). drop_in x y A.live) (omega arith) ∙ drop_none x A.live (λ m i. live_some G Z I m (subst (λ (L : List answers.Mapping). Memᴰ m L) I.live_is i))
  page_out (suc k) {p} {A} I x B = go (page_out k J (x + page_size G) (before_next I x k B))
    where
      S : StepsTo x A
      S = step_first I x k B

      rest : drop_in (x + page_size G) (k * page_size G) (drop_at x A.live) ≡ drop_in x (suc k * page_size G) A.live
      rest = drop_first I x k B

      said : (unmap_w G p x).answer ≡ (unmap_l G A x).answer
      said = (unmap_step G Z I x).answer

      J : Sim G Z (unmap_w G p x).after (with_live A (drop_at x A.live))
      J = subst (λ (C : Ledger). Sim G Z (unmap_w G p x).after C) S.after (unmap_step G Z I x).sim

      go : Out (unmap_w G p x).after (with_live A (drop_at x A.live)) (x + page_size G) k → Out p A x (suc k)
      go O = record {
        sim = subst (λ (L : List answers.Mapping). Sim G Z (left_at (unmap_w G p x).after (x + page_size G) k) (with_live A L)) rest O.sim;
        free = omega (arith, unmap_free G p x, O.free);
        count = omega (arith, S.count, ap accepted_in said, O.count, ap length rest);
        fine = false_or (ap (refuses_with 8) said ∙ S.fine) O.fine;
      }

  -- the ledger loses what is inside, page after page
  pages_drop : (k : ℕ) {p : Pool} {A : Ledger} → Sim G Z p A → (x : ℕ) → Before A x k
      → ledger_after G A (map unmap_c (pages_from G x k)) ≡ with_live A (drop_in x (k * page_size G) A.live)
  unfolding pages_from
  pages_drop zero {p} {A} I x B =
      ap (with_live A) (sym (ap (λ (y : ℕ). drop_in x y A.live) (omega arith) ∙ drop_none x A.live (λ m i. live_some G Z I m (subst (λ (L : List answers.Mapping). Memᴰ m L) I.live_is i))))
  pages_drop (suc k) {p} {A} I x B =
      let S = step_first I x k B in
      let J = subst (λ (C : Ledger). Sim G Z (unmap_w G p x).after C) S.after (unmap_step G Z I x).sim in
      ap (λ (C : Ledger). ledger_after G C (map unmap_c (pages_from G (x + page_size G) k))) S.after
      ∙ pages_drop k J (x + page_size G) (before_next I x k B) ∙ ap (with_live A) (drop_first I x k B)

  -- ---- the call

  module _ {p : Pool} {A : Ledger} (I : Sim G Z p A) (a len : ℕ) (F : FineUnmap G p.numbers.levels a len) where
    abbrev xs : List ℕ
    xs = pages_of G a len

    abbrev k : ℕ
    k = len / page_size G

    pub pages_long : k * page_size G ≡ len
    pages_long = omega (arith, div-add-mod' len (page_size G), F.long.whole_pages)

    -- a page of the range
    in_range : (x : ℕ) → Memᴰ x xs → (a ≤ x) × (x < a + len)
    in_range x i = let (u, v, w) = pages_from_lem G k a x F.address_aligned i in (u, omega (arith, pages_long))

    page_in : (x : ℕ) → Memᴰ x xs → x < space_of G p.numbers.levels
    page_in x i = omega (arith, (in_range x i).1, F.in_space)

    all_made : (w : Probe) → Memᴰ w (page_walks G p xs) → Made G Z I w
    all_made w i =
        let (x, j, e) = Memᴰ.of_map (page_walk G p) xs i in
        subst (Made G Z I) e (record { target = 0; low = omega arith; inside = page_in x j; is = refl })

    -- the walks of the range find a frame that is cut exactly where a live mapping is
    uncut : any_cut a len (live I) ≡ false → (ys : List ℕ) → ((x : ℕ) → Memᴰ x ys → (a ≤ x) × (x < a + len)) → any_cut_by G a len (page_walks G p ys) ≡ false
    unfolding any_cut_by
    uncut e [] f = refl
    uncut e (x ∷ ys) f = false_or (go (walk_to G p 0 x).entry refl) (uncut e ys (λ y i. f y (there i)))
      where
        h : ℕ
        h = (walk_to G p 0 x).left

        l : x < space_of G p.numbers.levels
        l = omega (arith, (f x (here refl)).1, F.in_space)

        go : (e : Entry) → (walk_to G p 0 x).entry ≡ e → cut_at G a len x h e ≡ false
        go Empty q = refl
        go (Table c) q = refl
        go Damaged q = refl
        go (Frame b c) q =
            let m = answers.mapping (base_at G x h) b (size_at G h) c in
            let (i, s) = cover_some x (live I) m (frame_cover I x l b c q) in
            let (c₁, c₂) = cut_clear a len (live I) e F.long.some_bytes in
            ap not (inside_so a len (base_at G x h) (size_at G h) (low (c₁ m i) s.1) (c₂ m i (omega (arith, s.0, (f x (here refl)).1))))
          where
            low : (base_at G x h < a → base_at G x h + size_at G h ≤ a) → x < base_at G x h + size_at G h → a ≤ base_at G x h
            low c w = on (dec_lt (base_at G x h) a)
              where
                on : Dec (base_at G x h < a) → a ≤ base_at G x h
                on (yes r) = absurd (omega (arith, c r, (f x (here refl)).0))
                on (no r) = omega arith

    cut_found : (x : ℕ) (ys : List ℕ) → Memᴰ x ys → cut_at G a len x (walk_to G p 0 x).left (walk_to G p 0 x).entry ≡ true → any_cut_by G a len (page_walks G p ys) ≡ true
    unfolding any_cut_by
    cut_found x [] i e = absurd (Memᴰ.not-nil i)
    cut_found x (y ∷ ys) i e =
        true_or (cut_at G a len y (walk_to G p 0 y).left (walk_to G p 0 y).entry) (any_cut_by G a len (page_walks G p ys))
        (⊎_elim (λ z. inl (subst (λ (w : ℕ). cut_at G a len w (walk_to G p 0 w).left (walk_to G p 0 w).entry ≡ true) z e)) (λ j. inr (cut_found x ys j e)) (Memᴰ.cases_cons i))

    cut : any_cut a len (live I) ≡ true → any_cut_by G a len (page_walks G p xs) ≡ true
    cut e = let (m, i, s, t) = cut_some a len (live I) e in at m i t s (dec_le m.at a)
      where
        found_at_lem : (x : ℕ) (m : answers.Mapping) → Memᴰ m (live I) → inside a len m.at m.size ≡ false → Within x m → x % page_size G ≡ 0 → a ≤ x → x < a + len
            → any_cut_by G a len (page_walks G p xs) ≡ true
        found_at_lem x m i t s al l r = cut_found x xs (pages_has G k a x F.address_aligned al l (omega (arith, pages_long))) (go (walk_to G p 0 x).entry refl)
          where
            in_space : x < space_of G p.numbers.levels
            in_space = omega (arith, F.in_space)

            h : ℕ
            h = (walk_to G p 0 x).left

            covered : cover_of x (live I) ≡ some m
            covered = cover_one I x in_space m i s

            go : (e : Entry) → (walk_to G p 0 x).entry ≡ e → cut_at G a len x h e ≡ true
            go e q = ⊎_elim
                (λ z. let y = sym (empty_cover I x in_space (q ∙ z)) ∙ covered in clash (cc))
                (λ (b, c, z). framed b c z (sym covered ∙ frame_cover I x in_space b c (q ∙ z)))
                (not_other I x in_space e q)
              where
                framed : (b c : ℕ) → e ≡ Frame b c → some m ≡ some (answers.mapping (base_at G x h) b (size_at G h) c) → cut_at G a len x h e ≡ true
                framed b c z y =
                    let w : m ≡ answers.mapping (base_at G x h) b (size_at G h) c = cc in
                    ap (cut_at G a len x h) z ∙ ap not (ap (λ (w : answers.Mapping). inside a len w.at w.size) (sym w) ∙ t)

        at : (m : answers.Mapping) → Memᴰ m (live I) → inside a len m.at m.size ≡ false → Shares a len m → Dec (m.at ≤ a) → any_cut_by G a len (page_walks G p xs) ≡ true
        at m i t s (yes l) = found_at_lem a m i t (l, s.1) F.address_aligned (omega arith) (omega (arith, F.long.some_bytes))
        at m i t s (no l) = found_at_lem m.at m i t (omega arith, omega (arith, live_some G Z I m i)) (live_page I m i) (omega arith) s.0

    cut_same : any_cut_by G a len (page_walks G p xs) ≡ any_cut a len (live I)
    cut_same = go (any_cut a len (live I)) refl
      where
        go : (y : Bool) → any_cut a len (live I) ≡ y → any_cut_by G a len (page_walks G p xs) ≡ y
        go true e = cut e
        go false e = uncut e xs in_range

    -- where nothing is cut, the pages go one after the other
    pub before_range : any_cut a len (live I) ≡ false → Before (own G Z I) a k
    before_range e =
        let (c, d) = cut_clear a len (live I) e F.long.some_bytes in
        record { aligned = F.address_aligned; in_space = omega (arith, pages_long, F.in_space); start = c; end = subst (λ (y : ℕ). Clear (a + y) (live I)) (sym pages_long) d }

    clear_at : Alike G Z (unmap_range_at G p a len xs) (clear_of G (own G Z I) a len)
    unfolding unmap_range_at unmap_range_here clear_of
    clear_at = rw (never_spoiled G Z I (page_walks G p xs) all_made, cut_same) (go (any_cut a len (live I)) refl)
      where
        L : List answers.Mapping
        L = drop_in a len (live I)

        B : Ledger
        B = with_live (own G Z I) L

        l : List Answer
        l = answers_of (unmap_w G) p xs

        go : (y : Bool) → any_cut a len (live I) ≡ y
            → Alike G Z
            (cond y (refuse 10 p) (cond (any_refused 8 l) (refuse 8 p) (done (cleared (sum_of accepted_in l) (sum_of tables_in l)) (left_by (unmap_w G) p xs))))
            (cond y (entered (refused 10) (own G Z I)) (entered (cleared (length (live I) - length L) (free_tables G B - free_tables G (own G Z I))) B))
        go true e = record { answer = refl; sim = own_sim G Z I }
        go false e = rw O.fine (record { answer = λ i. cleared (count i) (given i); sim = S })
          where
            O : Out p (own G Z I) a k
            O = page_out k (own_sim G Z I) a (before_range e)

            S : Sim G Z (left_by (unmap_w G) p xs) B
            S = subst (λ (y : ℕ). Sim G Z (left_by (unmap_w G) p xs) (with_live (own G Z I) (drop_in a y (live I)))) pages_long O.sim

            count : sum_of accepted_in l ≡ length (live I) - length L
            count = omega (arith, O.count, ap (λ (y : ℕ). length (drop_in a y (live I))) pages_long)

            given : sum_of tables_in l ≡ free_tables G B - free_tables G (own G Z I)
            given = omega (arith, O.free, free_so S, free_so (own_sim G Z I))

  module _ {p : Pool} {A : Ledger} (I : Sim G Z p A) where
    clear_own : (a len : ℕ) → Alike G Z (unmap_range_w G p a len) (unmap_range_l G (own G Z I) a len)
    unfolding unmap_range_w unmap_range_l
    clear_own a len = rw (pool_good G Z I) (go (eqb no 0) refl)
      where
        no : ℕ
        no = unmap_range_tests G p.numbers.levels a len

        go : (y : Bool) → eqb no 0 ≡ y → Alike G Z (cond y (unmap_range_at G p a len (pages_of G a len)) (refuse no p)) (cond y (clear_of G (own G Z I) a len) (entered (refused no) (own G Z I)))
        go true e = clear_at I a len (unmap_fine G p.numbers.levels a len (eqb-true no 0 e))
        go false e = record { answer = refl; sim = own_sim G Z I }

    pub unmap_range_step : (a len : ℕ) → Alike G Z (unmap_range_w G p a len) (unmap_range_l G A a len)
    unmap_range_step a len = subst (λ (B : Ledger). Alike G Z (unmap_range_w G p a len) (unmap_range_l G B a len)) (sym (ledger_is G Z I)) (clear_own a len)

    -- an accepted range leaves the ledger that its pages leave, one after the other
    parts_own : (a len m t : ℕ) → (unmap_range_w G p a len).answer ≡ cleared m t
        → (unmap_range_l G (own G Z I) a len).after ≡ ledger_after G (own G Z I) (map unmap_c (pages_of G a len))
    unfolding unmap_range_l clear_of
    parts_own a len m t e = at (unmap_range_w G p a len) (unmap_range_view G p a len) e
      where
        no : ℕ
        no = unmap_range_tests G p.numbers.levels a len

        at : (d : Done) → UnmapRangeView G p a len d → d.answer ≡ cleared m t
            → (cond (eqb no 0) (clear_of G (own G Z I) a len) (entered (refused no) (own G Z I))).after ≡ ledger_after G (own G Z I) (map unmap_c (pages_of G a len))
        at d (range_stays j) e = clash (cc)
        at d (range_clears B) e =
            let F = unmap_fine G p.numbers.levels a len B.tests in
            let uncut : any_cut a len (live I) ≡ false = sym (cut_same I a len F) ∙ B.uncut in
            rw (eq-eqb _ _ B.tests, uncut)
            (ap (λ (y : ℕ). with_live (own G Z I) (drop_in a y (live I))) (sym (pages_long I a len F)) ∙ sym (pages_drop (len / page_size G) (own_sim G Z I) a (before_range I a len F uncut)))

    pub unmap_range_parts : (a len m t : ℕ) → (unmap_range_w G p a len).answer ≡ cleared m t
        → (unmap_range_l G A a len).after ≡ ledger_after G A (map unmap_c (pages_of G a len))
    unmap_range_parts a len m t e =
        subst (λ (B : Ledger). (unmap_range_l G B a len).after ≡ ledger_after G B (map unmap_c (pages_of G a len))) (sym (ledger_is G Z I)) (parts_own a len m t e)
