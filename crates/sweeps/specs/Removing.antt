-- Laws of unmapping from page to page: what an unmap finds, a mapping or a hole, is done with it.
use Prim.Native.Nat.{ℕ, zero, suc, ◌+◌, ◌-◌, ◌*◌, ◌%◌, ◌≤◌, ◌<◌}
use Rattle.std.specs.Prelude.{◌≡◌, true, min, ltb, eqb}
use Rattle.std.proofs.Math.Path.{refl, ap}
use Rattle.std.proofs.Common.{sym, ◌∙◌, subst, add-mul, le-mul_of_pos_right, eqb-true}
use mathlib.Core.List.{List, ◌++◌, Memᴰ}
use Rattle.std.proofs.Math.Nat.{suc-mul}
use native.Mathlib.Omega.{arith}
use Rattle.path.specs.Geometry.{Granule, Sane, page_size, size_at, physical}
use Rattle.path.specs.Areas.{area_of, total}
use Rattle.path.specs.Laws.{good_setup_lem, page_pos, size_zero}
use Rattle.path.specs.Paths.{base_at}
use Rattle.path.specs.RegionLaws.{base_region, base_inside, base_aligned, base_le, aligned_base}
use Rattle.entry.specs.declared.Entry.{Entry}
use Rattle.entry.specs.declared.Entry.TheVariants.{Empty, Table, Frame, Damaged}
use Rattle.model.specs.declared.Walked.{Walked}
use Rattle.model.specs.Answers.{Answer, answered, refusal, gave, hole, tables_in, Pool, Done, done, refuse}
use Rattle.model.specs.Calls.{good_pool, walk_to, unmap_tests, unmap_here, unmap_at, unmap_w}
use Rattle.model.proofs.LeftLaws.{unmap_leaves, leaves_good, leaves_kept}
use Rattle.model.specs.LeftLaws.{Kept}
use Rattle.model.specs.Ranges.{pages_from, answers_of, left_by, sum_of, accepted_in}
use Rattle.model.proofs.RangeLaws.{pages_from_lem, page_next}
use Rattle.model.proofs.RangeLeft.{left_leaves}
use Rattle.model.proofs.RangeMapped.{chosen}
use Rattle.model.proofs.RangeUnmapLaws.{few_levels}
use Rattle.model.proofs.RangeUnmapLaws.{given_at, removed_at}
use Rattle.model.proofs.RangeSkips.{left_append, answers_append, sum_append, pages_append, hole_skip, frame_skip}
use Rattle.model.specs.RangeSkips.{Passed}
use Rattle.sweeps.specs.Parts.{Rest, Removes, until_end}
use Rattle.sweeps.specs.Pages.{pages_between, pages_some, Ends, ends_at}

-- ---- what one unmap comes to, of any pool

pub data Unmaps (G : Granule) (p : Pool) (x : ℕ) : Done → Type 0 where
  removes_one : (b k : ℕ) → (walk_to G p 0 x).entry ≡ Frame b k → x % size_at G (walk_to G p 0 x).left ≡ 0
      → Unmaps G p x (done (gave b (size_at G (walk_to G p 0 x).left) k (given_at G p x)) (removed_at G p x))
  passes_hole : (walk_to G p 0 x).entry ≡ Empty → Unmaps G p x (done (hole (base_at G x (walk_to G p 0 x).left) (size_at G (walk_to G p 0 x).left)) p)
  refuses : (j : ℕ) → Unmaps G p x (refuse j p)

pub unmap_comes : (G : Granule) (p : Pool) (x : ℕ) → Unmaps G p x (unmap_w G p x)
unfolding unmap_w unmap_at unmap_here
unmap_comes G p x =
    chosen Seen (good_pool G p) _ (refuse 1 p) (λ _.
    chosen Seen (eqb (unmap_tests G p.numbers.levels x) 0) _ (refuse (unmap_tests G p.numbers.levels x) p) (λ _. at o.entry refl) (λ _. refuses _))
    (λ _. refuses 1)
  where
    o : Walked
    o = walk_to G p 0 x

    Seen : Done → Type 0
    Seen d = Unmaps G p x d

    at : (e : Entry) → o.entry ≡ e → Unmaps G p x (unmap_at G p x o e)
    at Empty q = passes_hole q
    at (Table c) q = refuses 8
    at Damaged q = refuses 8
    at (Frame b k) q =
        chosen Seen (eqb (x % size_at G o.left) 0) _ (refuse 10 p) (λ s.
        chosen Seen (ltb (total (area_of p.numbers) - 1) (p.numbers.free + given_at G p x)) (refuse 8 p) _ (λ _. refuses 8) (λ _. removes_one b k q (eqb-true _ 0 s)))
        (λ _. refuses 10)

-- ---- parts of a range, one after the other

module _ (G : Granule) where
  abbrev W : ℕ
  W = page_size G

  pub removes_none : (p : Pool) (a : ℕ) → Removes G p a a 0 0 p
  unfolding pages_from left_by answers_of sum_of
  removes_none p a = record { pages = 0; next_is = omega arith; after = refl; removed_is = refl; given_is = refl }

  pub removes_more : {p q r : Pool} {a x y m n t u : ℕ} → Removes G p a x m t q → Removes G q x y n u r → Removes G p a y (m + n) (t + u) r
  removes_more {p} {q} {r} {a} {x} {y} {m} {n} {t} {u} R S = record {
    pages = R.pages + S.pages;
    next_is = omega (arith, R.next_is, S.next_is, add-mul R.pages S.pages W);
    after = ap (left_by (unmap_w G) p) split ∙ left_append (unmap_w G) p (pages_from G a R.pages) rest ∙ ap (λ (z : Pool). left_by (unmap_w G) z rest) R.after ∙ then.0;
    removed_is = summed accepted_in ∙ omega (arith, R.removed_is, then.1);
    given_is = summed tables_in ∙ omega (arith, R.given_is, then.2);
  }
    where
      rest : List ℕ
      rest = pages_from G (a + R.pages * W) S.pages

      split : pages_from G a (R.pages + S.pages) ≡ pages_from G a R.pages ++ rest
      split = pages_append G R.pages S.pages a

      same : rest ≡ pages_from G x S.pages
      same = ap (λ (z : ℕ). pages_from G z S.pages) (sym R.next_is)

      then : (left_by (unmap_w G) q rest ≡ r) × (sum_of accepted_in (answers_of (unmap_w G) q rest) ≡ n) × (sum_of tables_in (answers_of (unmap_w G) q rest) ≡ u)
      then = rw same (S.after, S.removed_is, S.given_is)

      summed : (f : Answer → ℕ) → sum_of f (answers_of (unmap_w G) p (pages_from G a (R.pages + S.pages)))
          ≡ sum_of f (answers_of (unmap_w G) p (pages_from G a R.pages)) + sum_of f (answers_of (unmap_w G) q rest)
      summed f =
          ap (λ (l : List ℕ). sum_of f (answers_of (unmap_w G) p l)) split
          ∙ ap (sum_of f) (answers_append (unmap_w G) p (pages_from G a R.pages) rest)
          ∙ sum_append f (answers_of (unmap_w G) p (pages_from G a R.pages)) (answers_of (unmap_w G) (left_by (unmap_w G) p (pages_from G a R.pages)) rest)
          ∙ ap (λ (z : Pool). sum_of f (answers_of (unmap_w G) p (pages_from G a R.pages)) + sum_of f (answers_of (unmap_w G) z rest)) R.after

  -- pages that change nothing
  passed_removes : {p : Pool} {x y : ℕ} (i : ℕ) → y ≡ x + i * W → Passed G p (pages_from G x i) → Removes G p x y 0 0 p
  passed_removes i e P = record { pages = i; next_is = e; after = P.after; removed_is = P.removed; given_is = P.given }

  -- one page
  pub one_removes : {p : Pool} {x : ℕ} {d : Done} → unmap_w G p x ≡ d → Removes G p x (x + W) (accepted_in d.answer) (tables_in d.answer) d.after
  unfolding pages_from left_by answers_of sum_of
  one_removes {p} {x} {d} e = record {
    pages = 1;
    next_is = omega (arith, suc-mul 0 W);
    after = ap (λ (z : Done). z.after) e;
    removed_is = ap (λ (z : Done). accepted_in z.answer + 0) e ∙ omega arith;
    given_is = ap (λ (z : Done). tables_in z.answer + 0) e ∙ omega arith;
  }

  -- a page removes one mapping at most
  one_most : (r : Answer) → accepted_in r ≤ 1
  one_most (answered v) = omega arith
  one_most (refusal j v) = omega arith

  few_removed : (k : ℕ) (p : Pool) (a : ℕ) → sum_of accepted_in (answers_of (unmap_w G) p (pages_from G a k)) ≤ k
  unfolding pages_from answers_of sum_of
  few_removed zero p a = omega arith
  few_removed (suc k) p a = omega (arith, one_most (unmap_w G p a).answer, few_removed k (unmap_w G p a).after (a + W))

  pub removes_few : {p q : Pool} {a x m t : ℕ} → Removes G p a x m t q → m ≤ x
  removes_few {p} {q} {a} {x} R = omega (arith, R.next_is, R.removed_is, few_removed R.pages p a, le-mul_of_pos_right R.pages (page_pos G))

  -- the tables that come back are those by which the free count grows
  free_one : (p : Pool) (x : ℕ) → (unmap_w G p x).after.numbers.free ≡ p.numbers.free + tables_in (unmap_w G p x).answer
  free_one p x = go (unmap_w G p x) (unmap_comes G p x)
    where
      go : (d : Done) → Unmaps G p x d → d.after.numbers.free ≡ p.numbers.free + tables_in d.answer
      go d (removes_one b k e s) = refl
      go d (passes_hole e) = omega arith
      go d (refuses j) = omega arith

  free_all : (k : ℕ) (p : Pool) (a : ℕ) → (left_by (unmap_w G) p (pages_from G a k)).numbers.free ≡ p.numbers.free + sum_of tables_in (answers_of (unmap_w G) p (pages_from G a k))
  unfolding pages_from answers_of sum_of left_by
  free_all zero p a = omega arith
  free_all (suc k) p a = free_all k (unmap_w G p a).after (a + W) ∙ omega (arith, free_one p a)

  pub removes_free : {p q : Pool} {a x m t : ℕ} → Removes G p a x m t q → q.numbers.free ≡ p.numbers.free + t
  removes_free {p} {q} {a} {x} {m} {t} R =
      ap (λ (z : Pool). z.numbers.free) (sym R.after) ∙ free_all R.pages p a ∙ ap (λ (z : ℕ). p.numbers.free + z) R.given_is

  -- the pool that is left is as good
  pub removes_good : {p q : Pool} {a x m t : ℕ} → Removes G p a x m t q → good_pool G p ≡ true → (good_pool G q ≡ true) × Kept p q
  removes_good {p} {q} {a} R g =
      let L = left_leaves G (unmap_w G) (λ p x. unmap_leaves G p x) p (pages_from G a R.pages) in
      (subst (λ (z : Pool). good_pool G z ≡ true) R.after (leaves_good L g), subst (Kept p) R.after (leaves_kept L))

-- ---- a step

module _ (G : Granule) (Z : Sane G) (p : Pool) (x end : ℕ) (R : Rest G p x end) (l : x < end) where
  abbrev w₁ : ℕ
  w₁ = page_size G

  abbrev o : Walked
  o = walk_to G p 0 x

  few : p.numbers.levels ≤ 4
  few = few_levels G Z p R.good

  -- pages within so many bytes of x
  within : (y i : ℕ) → y ≡ x + i * w₁ → (z : ℕ) → Memᴰ z (pages_from G x i) → (x ≤ z) × (z < y)
  within y i e z m = let (a, b, _) = pages_from_lem G i x z R.starts m in (a, omega arith)

  -- a hole is passed over whole
  pub hole_step : o.entry ≡ Empty → {b s next : ℕ} → b ≡ base_at G x o.left → s ≡ size_at G o.left → next ≡ min (b + s) end
      → Removes G p x next 0 0 p × (x < next) × (next ≤ end)
  hole_step e {b} {s} {next} u v n =
      let h = o.left in
      let E : Ends G x h end next = subst (Ends G x h end) (sym (n ∙ (λ i. min (u i + v i) end))) (ends_at G x h end l R.ends) in
      let (i, q) = pages_between G x next R.starts E.whole (omega (arith, E.further)) in (
        passed_removes G i q (hole_skip G p few x e (pages_from G x i) (λ y m. let (a, c) = within next i q y m in
            base_region G x y h (sym (base_inside G (base_at G x h) y h (base_aligned G x h) (omega (arith, base_le G x h)) (omega (arith, E.in_region)))))),
        E.further,
        E.in_range,
      )

  -- so is a mapping that is removed
  pub frame_step : (f k : ℕ) → o.entry ≡ Frame f k → x % size_at G o.left ≡ 0 → {s t next : ℕ} → s ≡ size_at G o.left
      → unmap_w G p x ≡ done (gave f s k t) (removed_at G p x) → next ≡ min (x + s) end
      → Removes G p x next 1 t (removed_at G p x) × (x < next) × (next ≤ end)
  frame_step f k e a {s} {t} {next} v c n =
      let h = o.left in
      let b : base_at G x h ≡ x = aligned_base G x h a in
      let E : Ends G x h end next = subst (Ends G x h end) (sym (n ∙ (λ i. min (sym b i + v i) end))) (ends_at G x h end l R.ends) in
      let first = one_removes G c in
      let (i, q) = pages_between G (x + w₁) next (page_next G x R.starts) E.whole (start next E.further E.whole) in
      let rest : Passed G (removed_at G p x) (pages_from G (x + w₁) i) =
      frame_skip G Z p R.good x f k e a (pages_from G (x + w₁) i)
      (λ y m. let (u, w, _) = pages_from_lem G i (x + w₁) y (page_next G x R.starts) m in (omega arith, omega (arith, E.in_region))) in
      (subst (λ (z : ℕ). Removes G p x next 1 z (removed_at G p x)) (omega arith) (removes_more G first (passed_removes G i q rest)), E.further, E.in_range)
    where
      start : (next : ℕ) → x < next → next % w₁ ≡ 0 → x + w₁ ≤ next
      start next m w = let (i, q) = pages_between G x next R.starts w (omega arith) in at i (pages_some G i q m) q
        where
          at : (i : ℕ) → 0 < i → next ≡ x + i * w₁ → x + w₁ ≤ next
          at zero m q = absurd (omega arith)
          at (suc i) m q = omega (arith, suc-mul i w₁)

  -- and where unmap refuses, the page is done
  pub page_step : {j next : ℕ} → unmap_w G p x ≡ refuse j p → next ≡ until_end G x 0 end → Removes G p x next 0 0 p × (x < next) × (next ≤ end)
  page_step {j} {next} c n =
      let z = size_zero G in
      let b : base_at G x 0 ≡ x = aligned_base G x 0 (subst (λ (s : ℕ). x % s ≡ 0) (sym z) R.starts) in
      let E : Ends G x 0 end next = subst (Ends G x 0 end) (sym n) (ends_at G x 0 end l R.ends) in
      let le : next ≤ x + w₁ = omega (arith, E.in_region) in
      let (i, q) = pages_between G x next R.starts E.whole (omega (arith, E.further)) in
      let s : next ≡ x + w₁ = at next i (pages_some G i q E.further) q le in
      (subst (λ (y : ℕ). Removes G p x y 0 0 p) (sym s) (one_removes G c), E.further, E.in_range)
    where
      at : (next i : ℕ) → 0 < i → next ≡ x + i * w₁ → next ≤ x + w₁ → next ≡ x + w₁
      at next zero m q u = absurd (omega arith)
      at next (suc zero) m q u = omega (arith, suc-mul 0 w₁)
      at next (suc (suc i)) m q u = absurd (omega (arith, suc-mul (suc i) w₁, suc-mul i w₁, page_pos G))

-- ---- from step to step

pub record Stepped (G : Granule) (p : Pool) (a end y m t : ℕ) (r : Pool) : Type 0 where
  pub removes_so : Removes G p a y m t r
  pub rest : Rest G r y end
  pub few : m ≤ physical
  pub fewer : t ≤ 512
  pub kept : Kept p r

pub pages_whole : (G : Granule) (i a : ℕ) → a % page_size G ≡ 0 → (a + i * page_size G) % page_size G ≡ 0
pages_whole G zero a e = ap (λ (z : ℕ). z % page_size G) (omega arith) ∙ e
pages_whole G (suc i) a e = ap (λ (z : ℕ). z % page_size G) (omega (arith, suc-mul i (page_size G))) ∙ pages_whole G i (a + page_size G) (page_next G a e)

pub steps_on : (G : Granule) {p q r : Pool} {a end x y m t n u : ℕ} → Rest G p a end → Removes G p a x m t q → Removes G q x y n u r → y ≤ end → Stepped G p a end y (m + n) (t + u) r
steps_on G {p} {q} {r} {a} {end} {x} {y} {m} {t} {n} {u} B R S l = record {
  removes_so = T;
  rest = record {
    good = K.0;
    starts = subst (λ (z : ℕ). z % page_size G ≡ 0) (sym T.next_is) (pages_whole G T.pages a B.starts);
    ends = B.ends;
    left = l;
    in_space = B.in_space;
  };
  few = omega (arith, removes_few G T, B.in_space);
  fewer = omega (arith, removes_free G T, good_setup_lem K.0);
  kept = K.1;
}
  where
    T : Removes G p a y (m + n) (t + u) r
    T = removes_more G R S

    K : (good_pool G r ≡ true) × Kept p r
    K = removes_good G T B.good
