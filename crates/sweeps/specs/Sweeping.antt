-- Laws of a range that is unmapped by counts alone, its words read as they are: whether an unmap on the way would find no room in the free list.
use Prim.Native.Nat.{ℕ, zero, suc, ◌+◌, ◌-◌, ◌*◌, ◌/◌, ◌%◌, ◌≤◌, ◌<◌}
use Rattle.std.specs.Prelude.{◌≡◌, ◌≢◌, ◌⊎◌, true, false, cond, ◌||◌, ltb, length, get_or}
use Rattle.std.proofs.Math.Path.{refl, ap}
use Rattle.std.proofs.Common.{sym, ◌∙◌, subst, inr, ⊎_elim, zero-add, suc-add, suc-mul, add-mul, le_of_mul-le-mul_right, arith}
use Rattle.std.proofs.Math.Logic.{inl}
use mathlib.Core.List.Memᴰ
use mathlib.Core.List.Memᴰ.{head as here}
use mathlib.Core.List.Memᴰ.{tail as there}
use mathlib.Core.List.{List, ◌++◌, Memᴰ}
use Rattle.std.proofs.Math.Nat.{mul-div_cancel}
use borrow.Author.Tests.{lt-ltb, le-ltb, eq-eqb}
use Rattle.path.specs.Geometry.{Granule, Sane, size_at, page_size, space_of}
use Rattle.path.specs.Areas.{Area, area_of, total}
use Rattle.path.specs.Paths.{base_at}
use Rattle.path.specs.RegionLaws.{base_region, base_inside, base_aligned, base_le, base_end, aligned_base, region_base}
use Rattle.path.specs.Laws.{good_setup_lem, page_pos}
use Rattle.entry.specs.declared.Entry.TheVariants.{Empty, Frame}
use Rattle.model.specs.declared.Walked.{Walked}
use Rattle.model.specs.Answers.{gave, hole, Pool, Done, done, refuse}
use Rattle.model.specs.Walk.{at_height}
use Rattle.model.specs.Calls.{walk_to, unmap_here, unmap_at, unmap_w}
use Rattle.model.proofs.DescentLaws.{clash}
use Rattle.model.proofs.LeftLaws.{leaves_kept}
use Rattle.model.specs.LeftLaws.{Kept}
use Rattle.model.proofs.LedgerLaws.{true_or}
use Rattle.model.specs.Ranges.{pages_from, pages_of, answers_of, left_by, refuses_with, any_refused}
use Rattle.model.proofs.RangeLaws.{pages_from_lem, pages_has, page_next, false_or}
use Rattle.model.proofs.RangeWalks.{walk_region}
use Rattle.model.proofs.RangeUnmapLaws.{goes, unmap_tests_lem, next}
use Rattle.model.specs.RangeUnmapped.{Ok}
use Rattle.model.proofs.RangeUnmapLaws.{given_at, removed_at, Goes, gives, passes, fills, Next, removes, holes, full}
use Rattle.model.proofs.RangeSkips.{left_append, answers_append, any_append, pages_append, holes_pass}
use Rattle.model.specs.RangeSkips.{Passed}
use Rattle.model.proofs.RangeLeft.{left_leaves}
use Rattle.model.proofs.LeftLaws.{unmap_leaves}
use Rattle.sweeps.specs.Parts.{used_in, Lowered, lower_from}
use Rattle.sweeps.specs.Pages.{pages_between, pages_some, Ends}
use Rattle.sweeps.specs.Counting.{live}
use Rattle.sweeps.specs.Emptied.{frees, frees_live, counts_on, counts_long, own_empty, page_goes_on}

-- a page of the range is walked as at entry, or was a hole and is one
abbrev pub Along : Granule → Pool → Pool → ℕ → Type 0
Along G p q y = (walk_to G q 0 y ≡ walk_to G p 0 y) ⊎ (((walk_to G p 0 y).entry ≡ Empty) × ((walk_to G q 0 y).entry ≡ Empty))

along_empty : (G : Granule) (p q : Pool) (y : ℕ) → Along G p q y → (walk_to G p 0 y).entry ≡ Empty → (walk_to G q 0 y).entry ≡ Empty
along_empty G p q y (inl e) z = ap (λ (o : Walked). o.entry) e ∙ z
along_empty G p q y (inr e) z = e.1

along_on : (G : Granule) (p q r : Pool) (y : ℕ) → Along G p q y → Along G q r y → Along G p r y
along_on G p q r y (inl a) (inl b) = inl (b ∙ a)
along_on G p q r y (inr a) (inl b) = inr (a.0, ap (λ (o : Walked). o.entry) b ∙ a.1)
along_on G p q r y (inl a) (inr b) = inr (ap (λ (o : Walked). o.entry) (sym a) ∙ b.0, b.1)
along_on G p q r y (inr a) (inr b) = inr (a.0, b.1)

-- ---- one unmap

module _ (G : Granule) (Z : Sane G) {q : Pool} {x m : ℕ} (O : Ok G q x (suc m)) where
  in_space : x < space_of G q.numbers.levels
  in_space = omega (arith, O.in_space, suc-mul m (page_size G), page_pos G)

  hole_unmap : (walk_to G q 0 x).entry ≡ Empty → (b : ℕ) × (s : ℕ) × (unmap_w G q x ≡ done (hole b s) q)
  hole_unmap e = go (unmap_w G q x) refl (goes G Z q x O.good in_space O.aligned (λ z. clash (cc)) (λ b k z. clash (cc)))
    where
      go : (d : Done) → unmap_w G q x ≡ d → Goes G q x d → (b : ℕ) × (s : ℕ) × (unmap_w G q x ≡ done (hole b s) q)
      go d w (gives b k f s) = clash (cc)
      go d w (passes f) = (_, _, w)
      go d w (fills F) = let (b, k, f) = F.frame in clash (cc)

  hole_ok : (walk_to G q 0 x).entry ≡ Empty → Ok G q (x + page_size G) m
  hole_ok e = let (b, s, w) = hole_unmap e in go b s (unmap_w G q x) w (next G Z q x m O)
    where
      go : (b s : ℕ) (d : Done) → d ≡ done (hole b s) q → Next G q x m d → Ok G q (x + page_size G) m
      go b s d w (removes b' s' c t r P) = clash (cc (ap (λ (y : Done). y.answer) w))
      go b s d w (holes b' s' P) = P
      go b s d w (full F) = clash (cc (ap (λ (y : Done). y.answer) w))

  module _ (b k : ℕ) (framed : (walk_to G q 0 x).entry ≡ Frame b k) where
    first_in : Memᴰ x (pages_from G x (suc m))
    unfolding pages_from
    first_in = here refl

    pub frame_starts : x % size_at G (walk_to G q 0 x).left ≡ 0
    frame_starts =
        let h = (walk_to G q 0 x).left in
        let z : base_at G x h ≡ x = omega (arith, base_le G x h, O.starts x first_in b k framed) in
        subst (λ (y : ℕ). y % size_at G h ≡ 0) z (base_aligned G x h)

    frame_unmap : unmap_w G q x
        ≡ cond (ltb (total (area_of q.numbers) - 1) (q.numbers.free + given_at G q x)) (refuse 8 q) (done (gave b (size_at G (walk_to G q 0 x).left) k (given_at G q x)) (removed_at G q x))
    unfolding unmap_w unmap_at unmap_here
    frame_unmap = rw (O.good, eq-eqb _ _ (unmap_tests_lem G q.numbers.levels x in_space O.aligned), framed, eq-eqb _ _ frame_starts)

    frame_full : total (area_of q.numbers) - 1 < q.numbers.free + given_at G q x → unmap_w G q x ≡ refuse 8 q
    frame_full l = frame_unmap ∙ rw (lt-ltb _ _ l)

    frame_fits : q.numbers.free + given_at G q x ≤ total (area_of q.numbers) - 1
        → unmap_w G q x ≡ done (gave b (size_at G (walk_to G q 0 x).left) k (given_at G q x)) (removed_at G q x)
    frame_fits l = frame_unmap ∙ rw (le-ltb _ _ l)

    frame_ok : q.numbers.free + given_at G q x ≤ total (area_of q.numbers) - 1 → Ok G (removed_at G q x) (x + page_size G) m
    frame_ok l = go (unmap_w G q x) (frame_fits l) (next G Z q x m O)
      where
        go : (d : Done) → d ≡ done (gave b (size_at G (walk_to G q 0 x).left) k (given_at G q x)) (removed_at G q x) → Next G q x m d → Ok G (removed_at G q x) (x + page_size G) m
        go d w (removes b' s' c t r P) = let z : r ≡ removed_at G q x = ap (λ (y : Done). y.after) w in subst (λ (y : Pool). Ok G y (x + page_size G) m) z P
        go d w (holes b' s' P) = clash (cc (ap (λ (y : Done). y.answer) w))
        go d w (full F) = clash (cc (ap (λ (y : Done). y.answer) w))

-- pages that are holes are passed over
ok_skip : (G : Granule) → Sane G → (i k : ℕ) {q : Pool} {x : ℕ} → Ok G q x (i + k) → ((y : ℕ) → Memᴰ y (pages_from G x i) → (walk_to G q 0 y).entry ≡ Empty) → Ok G q (x + i * page_size G) k
unfolding pages_from
ok_skip G Z zero k {q} {x} O f = let e : x ≡ x + 0 * page_size G = omega arith in subst (λ (y : ℕ). Ok G q y k) e (subst (Ok G q x) (zero-add k) O)
ok_skip G Z (suc i) k {q} {x} O f =
    let P : Ok G q (x + page_size G) (i + k) = hole_ok G Z (subst (Ok G q x) (suc-add i k) O) (f x (here refl)) in
    subst (λ (y : ℕ). Ok G q y k) (omega (arith, suc-mul i (page_size G))) (ok_skip G Z i k P (λ y m. f y (there m)))

-- ---- so far

pub record Swept (G : Granule) (p : Pool) (a len x : ℕ) (C : List ℕ) (free : ℕ) : Type 0 where
  pub pages : ℕ
  pub rest : ℕ
  pub left : Pool
  pub next_is : x ≡ a + pages * page_size G
  pub all_pages : len ≡ (pages + rest) * page_size G
  pub after : left_by (unmap_w G) p (pages_from G a pages) ≡ left
  pub fine : any_refused 8 (answers_of (unmap_w G) p (pages_from G a pages)) ≡ false
  pub ok : Ok G left x rest
  pub along : (y : ℕ) → Memᴰ y (pages_from G x rest) → Along G p left y
  pub long : length C ≡ 512
  pub counted : (t : ℕ) → 0 < t → t < total (area_of p.numbers) → get_or C t 0 ≡ used_in G left.words t
  pub free_is : free ≡ left.numbers.free

module _ (G : Granule) (Z : Sane G) (p : Pool) (a len : ℕ) where
  abbrev W : ℕ
  W = page_size G

  pub swept_none : Ok G p a (len / W) → len ≡ len / W * W → {C : List ℕ} → length C ≡ 512
      → ((t : ℕ) → t < total (area_of p.numbers) → get_or C t 0 ≡ used_in G p.words t) → Swept G p a len a C p.numbers.free
  unfolding pages_from left_by answers_of any_refused
  swept_none O e l f = record {
    pages = 0;
    rest = len / W;
    left = p;
    next_is = omega arith;
    all_pages = e ∙ ap (λ (z : ℕ). z * W) (sym (zero-add (len / W)));
    after = refl;
    fine = refl;
    ok = O;
    along = λ y m. inl refl;
    long = l;
    counted = λ t s m. f t m;
    free_is = refl;
  }

  module _ {x : ℕ} {C : List ℕ} {free : ℕ} (S : Swept G p a len x C free) where
    abbrev q : Pool
    q = S.left

    kept : Kept p q
    kept = subst (Kept p) S.after (leaves_kept (left_leaves G (unmap_w G) (λ p x. unmap_leaves G p x) p (pages_from G a S.pages)))

    -- more pages are done
    go_on : (i k : ℕ) → S.rest ≡ i + k → {r : Pool} → left_by (unmap_w G) q (pages_from G x i) ≡ r → any_refused 8 (answers_of (unmap_w G) q (pages_from G x i)) ≡ false
        → {y : ℕ} → y ≡ x + i * W → Ok G r y k → ((z : ℕ) → Memᴰ z (pages_from G y k) → Along G p r z)
        → {D : List ℕ} {f : ℕ} → length D ≡ 512 → ((t : ℕ) → 0 < t → t < total (area_of p.numbers) → get_or D t 0 ≡ used_in G r.words t) → f ≡ r.numbers.free
        → Swept G p a len y D f
    go_on i k e {r} w g {y} n O al {D} {f} l c h = record {
      pages = S.pages + i;
      rest = k;
      left = r;
      next_is = omega (arith, S.next_is, add-mul S.pages i W);
      all_pages = S.all_pages ∙ ap (λ (z : ℕ). z * W) (omega arith);
      after = ap (left_by (unmap_w G) p) split ∙ left_append (unmap_w G) p (pages_from G a S.pages) (pages_from G x i) ∙ ap (λ (z : Pool). left_by (unmap_w G) z (pages_from G x i)) S.after ∙ w;
      fine = ap (λ (z : List ℕ). any_refused 8 (answers_of (unmap_w G) p z)) split ∙ ap (any_refused 8) (answers_append (unmap_w G) p (pages_from G a S.pages) (pages_from G x i))
          ∙ any_append 8 (answers_of (unmap_w G) p (pages_from G a S.pages)) (answers_of (unmap_w G) (left_by (unmap_w G) p (pages_from G a S.pages)) (pages_from G x i))
          ∙ false_or S.fine (ap (λ (z : Pool). any_refused 8 (answers_of (unmap_w G) z (pages_from G x i))) S.after ∙ g);
      ok = O;
      along = al;
      long = l;
      counted = c;
      free_is = h;
    }
      where
        split : pages_from G a (S.pages + i) ≡ pages_from G a S.pages ++ pages_from G x i
        split = pages_append G S.pages i a ∙ ap (λ (z : ℕ). pages_from G a S.pages ++ pages_from G z i) (sym S.next_is)

    module _ (few : p.numbers.levels ≤ 4) (more : x < a + len) {nxt : ℕ} (E : Ends G x (walk_to G p 0 x).left (a + len) nxt) where
      abbrev o : Walked
      o = walk_to G p 0 x

      abbrev i : ℕ
      i = (pages_between G x nxt S.ok.aligned E.whole (omega (arith, E.further))).0

      i_is : nxt ≡ x + i * W
      i_is = (pages_between G x nxt S.ok.aligned E.whole (omega (arith, E.further))).1

      i_some : 0 < i
      i_some = pages_some G i i_is E.further

      within : i ≤ S.rest
      within =
          le_of_mul-le-mul_right {m = i} {n = S.rest} {k = W}
          (omega (arith, E.in_range, i_is, S.next_is, S.all_pages, add-mul S.pages S.rest W)) (page_pos G)

      abbrev k : ℕ
      k = S.rest - i

      rest_is : S.rest ≡ i + k
      rest_is = omega (arith, within)

      split : pages_from G x S.rest ≡ pages_from G x i ++ pages_from G nxt k
      split = ap (pages_from G x) rest_is ∙ pages_append G i k x ∙ ap (λ (z : ℕ). pages_from G x i ++ pages_from G z k) (sym i_is)

      early : (y : ℕ) → Memᴰ y (pages_from G x i) → Memᴰ y (pages_from G x S.rest)
      early y m = subst (Memᴰ y) (sym split) (Memᴰ.append_left (pages_from G nxt k) m)

      late : (y : ℕ) → Memᴰ y (pages_from G nxt k) → Memᴰ y (pages_from G x S.rest)
      late y m = subst (Memᴰ y) (sym split) (Memᴰ.append_right (pages_from G x i) m)

      one_page : (j : ℕ) → 0 < j → (l : ℕ) × (j ≡ suc l)
      one_page zero m = absurd (omega arith)
      one_page (suc l) m = (l, refl)

      rest_some : 0 < S.rest
      rest_some = omega (arith, i_some, within)

      x_in : Memᴰ x (pages_from G x S.rest)
      x_in = pages_has G S.rest x x S.ok.aligned S.ok.aligned (omega arith) (let (l, e) = one_page S.rest rest_some in omega (arith, ap (λ (z : ℕ). z * W) e, suc-mul l W, page_pos G))

      -- a hole
      pub hole_swept : o.entry ≡ Empty → Swept G p a len nxt C free
      hole_swept e =
          go_on i k rest_is P.after P.fine i_is
          (subst (λ (y : ℕ). Ok G q y k) (sym i_is) (ok_skip G Z i k (subst (Ok G q x) rest_is S.ok) empties))
          (λ y m. S.along y (late y m)) S.long S.counted S.free_is
        where
          empties : (y : ℕ) → Memᴰ y (pages_from G x i) → (walk_to G q 0 y).entry ≡ Empty
          empties y m =
              let (u, v, _) = pages_from_lem G i x y S.ok.aligned m in
              let h = o.left in
              let r : x / size_at G h ≡ y / size_at G h = base_region G x y h (sym (base_inside G (base_at G x h) y h (base_aligned G x h) (omega (arith, base_le G x h)) (omega (arith, E.in_region, i_is)))) in
              along_empty G p q y (S.along y (early y m)) (ap (λ (w : Walked). w.entry) (walk_region G p few 0 x y (omega arith) (λ z. clash (cc)) r) ∙ e)

          P : Passed G q (pages_from G x i)
          P = holes_pass G q (pages_from G x i) empties

      -- a mapping
      module _ (b c : ℕ) (framed : o.entry ≡ Frame b c) where
        same : walk_to G q 0 x ≡ o
        same = ⊎_elim (λ z. z) (λ z. clash (cc z.0)) (S.along x x_in)

        framed' : (walk_to G q 0 x).entry ≡ Frame b c
        framed' = ap (λ (w : Walked). w.entry) same ∙ framed

        abbrev m' : ℕ
        m' = (one_page S.rest rest_some).0

        O : Ok G q x (suc m')
        O = subst (Ok G q x) (one_page S.rest rest_some).1 S.ok

        counted' : (t : ℕ) → 0 < t → t < total (area_of q.numbers) → get_or C t 0 ≡ used_in G q.words t
        counted' t s l = S.counted t s (subst (λ (z : Area). t < total z) kept.area l)

        abbrev L : Lowered
        L = lower_from C o.tables o.left (p.numbers.levels - 1 - o.left)

        same_lowered : lower_from C (walk_to G q 0 x).tables (walk_to G q 0 x).left (q.numbers.levels - 1 - (walk_to G q 0 x).left) ≡ L
        same_lowered = ap (λ (w : Walked). lower_from C w.tables w.left (q.numbers.levels - 1 - w.left)) same ∙ ap (λ (z : ℕ). lower_from C o.tables o.left (z - 1 - o.left)) kept.levels

        given_is : L.freed ≡ given_at G q x
        given_is = ap (λ (z : Lowered). z.freed) (sym same_lowered) ∙ frees G Z q S.ok.good x b c framed' C S.long counted'

        -- the tables that come back are live no more
        pub swept_live : (M : List ℕ) → ((j : ℕ) → o.left ≤ j → j < p.numbers.levels - 1 → get_or M (at_height o.tables j) 0 ≢ 0) → L.freed + live M L.counts ≤ live M C
        swept_live M f =
            subst (λ (z : Lowered). z.freed + live M z.counts ≤ live M C) same_lowered
            (frees_live G Z q S.ok.good x b c framed' C S.long counted' M
            (λ j u v. subst (λ (w : Walked). get_or M (at_height w.tables j) 0 ≢ 0) (sym same)
            (f j (subst (λ (w : Walked). w.left ≤ j) same u) (subst (λ (k : ℕ). j < k - 1) kept.levels v))))

        -- the free list has no room
        pub full_swept : total (area_of p.numbers) - 1 < free + L.freed → any_refused 8 (answers_of (unmap_w G) p (pages_of G a len)) ≡ true
        unfolding pages_from answers_of any_refused
        full_swept l =
            let s : len / W ≡ S.pages + S.rest = ap (λ (z : ℕ). z / W) S.all_pages ∙ mul-div_cancel (S.pages + S.rest) (page_pos G) in
            let w : unmap_w G q x ≡ refuse 8 q = frame_full G Z O b c framed' (subst (λ (z : Area). total z - 1 < q.numbers.free + given_at G q x) (sym kept.area) (omega (arith, S.free_is, given_is))) in
            let n : S.rest ≡ suc m' = (one_page S.rest rest_some).1 in
            ap (λ (z : ℕ). any_refused 8 (answers_of (unmap_w G) p (pages_from G a z))) s
            ∙ ap (λ (z : List ℕ). any_refused 8 (answers_of (unmap_w G) p z)) (pages_append G S.pages S.rest a ∙ ap (λ (z : ℕ). pages_from G a S.pages ++ pages_from G z S.rest) (sym S.next_is))
            ∙ ap (any_refused 8) (answers_append (unmap_w G) p (pages_from G a S.pages) (pages_from G x S.rest))
            ∙ any_append 8 (answers_of (unmap_w G) p (pages_from G a S.pages)) (answers_of (unmap_w G) (left_by (unmap_w G) p (pages_from G a S.pages)) (pages_from G x S.rest))
            ∙ true_or (any_refused 8 (answers_of (unmap_w G) p (pages_from G a S.pages))) _ (inr (
            ap (λ (z : Pool). any_refused 8 (answers_of (unmap_w G) z (pages_from G x S.rest))) S.after
            ∙ ap (λ (z : ℕ). any_refused 8 (answers_of (unmap_w G) q (pages_from G x z))) n
            ∙ ap (λ (d : Done). refuses_with 8 d.answer || any_refused 8 (answers_of (unmap_w G) d.after (pages_from G (x + W) m'))) w))

        -- it has
        module _ (room : free + L.freed ≤ total (area_of p.numbers) - 1) where
          room' : q.numbers.free + given_at G q x ≤ total (area_of q.numbers) - 1
          room' = subst (λ (z : Area). q.numbers.free + given_at G q x ≤ total z - 1) (sym kept.area) (omega (arith, S.free_is, given_is))

          abbrev r : Pool
          r = removed_at G q x

          starts : x % size_at G (walk_to G q 0 x).left ≡ 0
          starts = frame_starts G Z O b c framed'

          starts' : x % size_at G o.left ≡ 0
          starts' = subst (λ (w : Walked). x % size_at G w.left ≡ 0) same starts

          abbrev i' : ℕ
          i' = (one_page i i_some).0

          i_suc : i ≡ suc i'
          i_suc = (one_page i i_some).1

          base_here : base_at G x o.left ≡ x
          base_here = aligned_base G x o.left starts'

          -- the mapping's further pages
          empties : (y : ℕ) → Memᴰ y (pages_from G (x + W) i') → (walk_to G r 0 y).entry ≡ Empty
          empties y m =
              let (u, v, _) = pages_from_lem G i' (x + W) y (page_next G x S.ok.aligned) m in
              own_empty G Z q S.ok.good x b c framed' starts y (omega arith)
              (subst (λ (w : Walked). y < x + size_at G w.left) (sym same) (omega (arith, E.in_region, i_is, ap (λ (z : ℕ). z * W) i_suc, suc-mul i' W, base_here)))

          P : Passed G r (pages_from G (x + W) i')
          P = holes_pass G r (pages_from G (x + W) i') empties

          fits : unmap_w G q x ≡ done (gave b (size_at G (walk_to G q 0 x).left) c (given_at G q x)) r
          fits = frame_fits G Z O b c framed' room'

          ok' : Ok G r nxt k
          ok' =
              let n : m' ≡ i' + k = omega (arith, (one_page S.rest rest_some).1, rest_is, i_suc) in
              subst (λ (y : ℕ). Ok G r y k) (omega (arith, i_is, ap (λ (z : ℕ). z * W) i_suc, suc-mul i' W))
              (ok_skip G Z i' k (subst (Ok G r (x + W)) n (frame_ok G Z O b c framed' room')) empties)

          after' : left_by (unmap_w G) q (pages_from G x i) ≡ r
          unfolding pages_from left_by
          after' = ap (λ (z : ℕ). left_by (unmap_w G) q (pages_from G x z)) i_suc ∙ ap (λ (d : Done). left_by (unmap_w G) d.after (pages_from G (x + W) i')) fits ∙ P.after

          fine' : any_refused 8 (answers_of (unmap_w G) q (pages_from G x i)) ≡ false
          unfolding pages_from answers_of any_refused
          fine' = ap (λ (z : ℕ). any_refused 8 (answers_of (unmap_w G) q (pages_from G x z))) i_suc
              ∙ ap (λ (d : Done). refuses_with 8 d.answer || any_refused 8 (answers_of (unmap_w G) d.after (pages_from G (x + W) i'))) fits ∙ P.fine

          along' : (y : ℕ) → Memᴰ y (pages_from G nxt k) → Along G p r y
          along' y m =
              let (u, v, _) = pages_from_lem G k nxt y E.whole m in
              let y_in = late y m in
              let (_, w, _) = pages_from_lem G S.rest x y S.ok.aligned y_in in
              let full : nxt ≡ base_at G x o.left + size_at G o.left = E.else_full (omega (arith, S.next_is, S.all_pages, add-mul S.pages S.rest W)) in
              along_on G p q r y (S.along y y_in)
              (page_goes_on G Z q S.ok.good x b c framed' y (S.ok.undamaged y y_in)
              (λ i j s t s' t' z. S.ok.one y x y_in x_in i j s (omega (arith, levels_some)) s' (omega (arith, levels_some)) z)
              (λ z. not_in y (subst (λ (w : Walked). x / size_at G w.left ≡ y / size_at G w.left) same z) (omega arith)))
            where
              levels_some : 0 < q.numbers.levels
              levels_some = omega (arith, (good_setup_lem S.ok.good).numbers.enough, Z.large_below)

              not_in : (y : ℕ) → x / size_at G o.left ≡ y / size_at G o.left → base_at G x o.left + size_at G o.left ≤ y → ⊥
              not_in y z l = omega (arith, base_end G y o.left, region_base G x y o.left z)

          pub frame_swept : Swept G p a len nxt L.counts (free + L.freed)
          frame_swept =
              go_on i k rest_is after' fine' i_is ok' along'
              (ap (λ (z : Lowered). length z.counts) (sym same_lowered) ∙ counts_long G Z q S.ok.good x b c framed' C S.long counted')
              (λ t s l. ap (λ (z : Lowered). get_or z.counts t 0) (sym same_lowered) ∙ counts_on G Z q S.ok.good x b c framed' C S.long counted' t s (subst (λ (z : Area). t < total z) (sym kept.area) l))
              (omega (arith, S.free_is, given_is))

    -- all is swept
    pub swept_all : x ≡ a + len → any_refused 8 (answers_of (unmap_w G) p (pages_of G a len)) ≡ false
    swept_all e =
        let s : len ≡ S.pages * W = omega (arith, S.next_is) in
        let n : len / W ≡ S.pages = ap (λ (z : ℕ). z / W) s ∙ mul-div_cancel S.pages (page_pos G) in
        ap (λ (z : ℕ). any_refused 8 (answers_of (unmap_w G) p (pages_from G a z))) n ∙ S.fine
