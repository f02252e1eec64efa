-- Laws of the room in the free list, by what the code has of a sweep: what a look met, and what its lowering comes to.
use Rattle.std.specs.Prelude.{ℕ, zero, suc, ◌+◌, ◌-◌, ◌*◌, ◌/◌, ◌%◌, ◌≤◌, ◌<◌, ◌≡◌, refl, ◌≢◌, Bool, true, false, cond, not, length, get_or, set, drop}
use Rattle.std.proofs.Common.{ap, sym, ◌∙◌, subst, ⊎_elim, add-mul, div-add-mod', arith, get_or-set_other}
use mathlib.Core.List.{List, [], ◌∷◌, Memᴰ}
use Rattle.std.proofs.Math.Decide.{dec_lt}
use Rattle.std.proofs.lemmas.Bool.{not-false}
use Rattle.path.specs.Geometry.{Granule, Sane, page_size}
use Rattle.path.specs.Areas.{area_of, total}
use Rattle.path.specs.Laws.{good_setup_lem, space_physical}
use Rattle.path.specs.Paths.{path_of}
use Rattle.entry.specs.declared.Entry.{Entry}
use Rattle.entry.specs.declared.Entry.TheVariants.{Empty, Table, Frame, Damaged}
use Rattle.model.specs.declared.Walked.{Walked}
use Rattle.model.specs.Answers.{Pool}
use Rattle.model.specs.Walk.{at_height, no_way}
use Rattle.model.specs.Calls.{good_pool, walk_to, unmap_w}
use Rattle.model.proofs.DescentLaws.{clash}
use Rattle.model.specs.Ranges.{unmap_range_tests, pages_from, pages_of, Probe, page_walks, any_ends, is_damaged, on_ways, one_region_each, spoiled, any_cut_by, answers_of, any_refused}
use Rattle.model.proofs.RangeLaws.{unmap_fine, pages_has, or-false}
use Rattle.model.proofs.RangeWalks.{left_low}
use Rattle.model.proofs.RefusalLaws.{no_table_last}
use Rattle.model.proofs.RangeUnmapLaws.{few_levels, start}
use Rattle.model.specs.RangeUnmapped.{Ok}
use Rattle.sweeps.specs.Parts.{until_end, Rest, walks_say, Allowed, AllNoted, Meets, in_use, used_in, Lowered, lowered, lower_from}
use Rattle.sweeps.specs.Pages.{Ends, ends_at}
use Rattle.sweeps.specs.Removing.{pages_whole}
use Rattle.sweeps.specs.Counting.{lower_most, live, live_few}
use Rattle.sweeps.specs.Emptied.{above_root}
use Rattle.sweeps.specs.Sweeping.{Swept, swept_none, swept_all, hole_swept, full_swept, swept_live, frame_swept}

-- ---- before the first page

-- a range that no test refuses is of whole pages
pub whole_length : (G : Granule) (levels a len : ℕ) → unmap_range_tests G levels a len ≡ 0 → len ≡ len / page_size G * page_size G
whole_length G levels a len e = omega (arith, div-add-mod' len (page_size G), (unmap_fine G levels a len e).long.whole_pages)

pub fine_rest : (G : Granule) → Sane G → (p : Pool) (a len : ℕ) → good_pool G p ≡ true → unmap_range_tests G p.numbers.levels a len ≡ 0 → Rest G p a (a + len)
fine_rest G Z p a len good e =
    let F = unmap_fine G p.numbers.levels a len e in
    record {
      good = good;
      starts = F.address_aligned;
      ends = ap (λ (z : ℕ). (a + z) % page_size G) (whole_length G p.numbers.levels a len e) ∙ pages_whole G (len / page_size G) a F.address_aligned;
      left = omega arith;
      in_space = omega (arith, F.in_space, space_physical Z p.numbers.levels);
    }

-- walks that say nothing against a range
pub record Fine (G : Granule) (p : Pool) (a len : ℕ) : Type 0 where
  pub undamaged : any_ends is_damaged (page_walks G p (pages_of G a len)) ≡ false
  pub one_each : one_region_each (on_ways G p.numbers.levels (page_walks G p (pages_of G a len))) ≡ true
  pub uncut : any_cut_by G a len (page_walks G p (pages_of G a len)) ≡ false

pub says_fine : (G : Granule) (p : Pool) (a len : ℕ) → walks_say G p a len ≡ 0 → Fine G p a len
unfolding walks_say
says_fine G p a len e = go (spoiled G p.numbers.levels ws) refl (any_cut_by G a len ws) refl e
  where
    ws : List Probe
    ws = page_walks G p (pages_of G a len)

    go : (y : Bool) → spoiled G p.numbers.levels ws ≡ y → (z : Bool) → any_cut_by G a len ws ≡ z → ◌≡◌ {A = ℕ} (cond y 8 (cond z 10 0)) 0 → Fine G p a len
    go true u z v e = absurd (omega (arith, e))
    go false u true v e = absurd (omega (arith, e))
    go false u false v e =
        let (d, n) = or-false (any_ends is_damaged ws) (not (one_region_each (on_ways G p.numbers.levels ws))) u in
        record { undamaged = d; one_each = not-false (one_region_each (on_ways G p.numbers.levels ws)) n; uncut = v }

pub allowed_ok : (G : Granule) → Sane G → {p : Pool} {a len : ℕ} → Allowed G p a len → Ok G p a (len / page_size G)
allowed_ok G Z {p} {a} {len} A =
    let F = says_fine G p a len A.walks in
    start G Z p a len A.good (unmap_fine G p.numbers.levels a len A.tests) F.undamaged F.one_each F.uncut

pub sweep_none : (G : Granule) → Sane G → {p : Pool} {a len : ℕ} → Allowed G p a len → {C : List ℕ} → length C ≡ 512
    → ((t : ℕ) → t < total (area_of p.numbers) → get_or C t 0 ≡ used_in G p.words t) → Swept G p a len a C p.numbers.free
sweep_none G Z {p} {a} {len} A l f = swept_none G Z p a len (allowed_ok G Z A) (whole_length G p.numbers.levels a len A.tests) l f

-- ---- a turn of the sweep

module _ (G : Granule) (Z : Sane G) (p : Pool) (a len : ℕ) (R : Rest G p a (a + len)) {x : ℕ} {C : List ℕ} {free : ℕ} (S : Swept G p a len x C free) (more : x < a + len) where
  abbrev o : Walked
  o = walk_to G p 0 x

  few : p.numbers.levels ≤ 4
  few = few_levels G Z p R.good

  x_in : Memᴰ x (pages_from G x S.rest)
  x_in = pages_has G S.rest x x S.ok.aligned S.ok.aligned (omega arith) (omega (arith, S.next_is, S.all_pages, add-mul S.pages S.rest (page_size G)))

  -- it meets no damage
  pub sweep_sound : o.entry ≢ Damaged
  sweep_sound d = ⊎_elim (λ e. S.ok.undamaged x x_in (ap (λ (w : Walked). w.entry) e ∙ d)) (λ e. let z = e.0 in clash (cc)) (S.along x x_in)

  -- a free count is one of the pool's
  pub sweep_free : free < 512
  sweep_free = omega (arith, S.free_is, good_setup_lem S.ok.good)

  module _ {frame : Bool} {left : ℕ} {way : List ℕ} (K : Meets (walk_to G p 0 x) frame left way) where
    ends : Ends G x o.left (a + len) (until_end G x left (a + len))
    ends = subst (λ (h : ℕ). Ends G x o.left (a + len) (until_end G x h (a + len))) K.left_is (ends_at G x o.left (a + len) more R.ends)

    pub sweep_on : (x < until_end G x left (a + len)) × (until_end G x left (a + len) ≤ a + len)
    sweep_on = (ends.further, ends.in_range)

    pub sweep_hole : frame ≡ false → Swept G p a len (until_end G x left (a + len)) C free
    sweep_hole f = hole_swept G Z p a len S few more ends (K.empty f)

    module _ (l : frame ≡ true) {f : ℕ} {D : List ℕ} (e : lowered f D ≡ lower_from C way left (p.numbers.levels - 1 - left)) where
      same : lower_from C o.tables o.left (p.numbers.levels - 1 - o.left) ≡ lowered f D
      same = (λ i. lower_from C (K.tables_are i) (K.left_is i) (p.numbers.levels - 1 - K.left_is i)) ∙ sym e

      pub sweep_full : total (area_of p.numbers) - 1 < free + f → any_refused 8 (answers_of (unmap_w G) p (pages_of G a len)) ≡ true
      sweep_full m =
          let (b, c, z) = K.framed l in
          full_swept G Z p a len S few more ends b c z (subst (λ (w : Lowered). total (area_of p.numbers) - 1 < free + w.freed) (sym same) m)

      pub sweep_frame : free + f ≤ total (area_of p.numbers) - 1 → Swept G p a len (until_end G x left (a + len)) D (free + f)
      sweep_frame m =
          let (b, c, z) = K.framed l in
          subst (λ (w : Lowered). Swept G p a len (until_end G x left (a + len)) w.counts (free + w.freed)) same
          (frame_swept G Z p a len S few more ends b c z (subst (λ (w : Lowered). free + w.freed ≤ total (area_of p.numbers) - 1) (sym same) m))

      -- no more tables come back than there are heights
      pub sweep_few : f ≤ p.numbers.levels
      sweep_few = omega (arith, ap (λ (w : Lowered). w.freed) e, lower_most way (p.numbers.levels - 1 - left) left C)

    -- the height where a look ended is one of the tree's
    pub sweep_height : left ≤ p.numbers.levels - 1
    sweep_height = omega (arith, K.left_is, left_low G (area_of p.numbers) p.words 0 (path_of G x) (p.numbers.levels - 1) no_way 0)

pub sweep_same : (G : Granule) {p : Pool} {a len x : ℕ} {C D : List ℕ} {f g : ℕ} → Swept G p a len x C f → D ≡ C → g ≡ f → Swept G p a len x D g
sweep_same G {p} {a} {len} {x} {C} {D} {f} {g} S u v = subst (λ (n : ℕ). Swept G p a len x D n) (sym v) (subst (λ (z : List ℕ). Swept G p a len x z f) (sym u) S)

-- ---- marks that leave room

-- so many values of a function, from i on
unfoldable values : (ℕ → ℕ) → ℕ → ℕ → List ℕ
values f i zero = []
values f i (suc k) = f i ∷ values f (suc i) k

values_long : (f : ℕ → ℕ) (k i : ℕ) → length (values f i k) ≡ k
unfolding values
values_long f zero i = refl
values_long f (suc k) i = ap suc (values_long f k (suc i))

values_at : (f : ℕ → ℕ) (k i j : ℕ) → j < k → get_or (values f i k) j 0 ≡ f (i + j)
unfolding values
values_at f zero i j l = absurd (omega arith)
values_at f (suc k) i zero l = ap f (omega arith)
values_at f (suc k) i (suc j) l = values_at f k (suc i) j (omega arith) ∙ ap f (omega arith)

-- the marks but the root's
unmark : (M : List ℕ) → in_use (set M 0 0) ≡ in_use (drop 1 M)
unfolding in_use
unmark [] = refl
unmark (m ∷ M) = omega arith

-- The tables that a range gives back are among those on its ways, each once. So there is room for them where there is for all that are marked, the root
-- excepted.
module _ (G : Granule) (Z : Sane G) (p : Pool) (a len : ℕ) (A : Allowed G p a len) (M : List ℕ) (N : AllNoted G p a len M)
    (room : p.numbers.free + in_use (drop 1 M) ≤ total (area_of p.numbers) - 1) where
  abbrev W : ℕ
  W = page_size G

  abbrev M₁ : List ℕ
  M₁ = set M 0 0

  R : Rest G p a (a + len)
  R = fine_rest G Z p a len A.good A.tests

  still : p.numbers.levels ≤ 4
  still = few_levels G Z p A.good

  in_range : {x : ℕ} {C : List ℕ} {free : ℕ} → Swept G p a len x C free → x < a + len → Memᴰ x (pages_of G a len)
  in_range {x} S l = pages_has G (len / W) a x R.starts S.ok.aligned (omega (arith, S.next_is)) (omega (arith, whole_length G p.numbers.levels a len A.tests))

  first_in : {x : ℕ} {C : List ℕ} {free : ℕ} (S : Swept G p a len x C free) → x < a + len → Memᴰ x (pages_from G x S.rest)
  first_in {x} S l = pages_has G S.rest x x S.ok.aligned S.ok.aligned (omega arith) (omega (arith, S.next_is, S.all_pages, add-mul S.pages S.rest W))

  marked : {x : ℕ} {C : List ℕ} {free : ℕ} → Swept G p a len x C free → x < a + len → (b c : ℕ) → (walk_to G p 0 x).entry ≡ Frame b c
      → (j : ℕ) → (walk_to G p 0 x).left ≤ j → j < p.numbers.levels - 1 → get_or M₁ (at_height (walk_to G p 0 x).tables j) 0 ≢ 0
  marked {x} S l b c e j u v z =
      N x (in_range S l) j u (omega arith) (sym (get_or-set_other M 0 (at_height (walk_to G p 0 x).tables j) 0 0 (above_root G Z p A.good x b c e j u v)) ∙ z)

  sweeps_on : (fuel : ℕ) {x : ℕ} {C : List ℕ} {free : ℕ} → Swept G p a len x C free → x ≤ a + len → a + len - x ≤ fuel → free + live M₁ C ≤ total (area_of p.numbers) - 1
      → any_refused 8 (answers_of (unmap_w G) p (pages_of G a len)) ≡ false
  sweeps_on zero {x} S l f m = swept_all G Z p a len S (omega arith)
  sweeps_on (suc fuel) {x} {C} {free} S l f m =
      go (dec_lt x (a + len)) (walk_to G p 0 x).entry refl
      (λ next D g T u v w. sweeps_on fuel T u v w)
    where
      Goal : Type 0
      Goal = any_refused 8 (answers_of (unmap_w G) p (pages_of G a len)) ≡ false

      next : ℕ
      next = until_end G x (walk_to G p 0 x).left (a + len)

      go : Dec (x < a + len) → (e : Entry) → (walk_to G p 0 x).entry ≡ e
          → ((y : ℕ) (D : List ℕ) (g : ℕ) → Swept G p a len y D g → y ≤ a + len → a + len - y ≤ fuel → g + live M₁ D ≤ total (area_of p.numbers) - 1 → Goal) → Goal
      go (no n) e q ih = swept_all G Z p a len S (omega arith)
      go (yes n) Empty q ih =
          let E = ends_at G x (walk_to G p 0 x).left (a + len) n R.ends in
          ih next C free (hole_swept G Z p a len S still n E q) E.in_range (omega (arith, E.further)) m
      go (yes n) (Frame b c) q ih =
          let E = ends_at G x (walk_to G p 0 x).left (a + len) n R.ends in
          let L = lower_from C (walk_to G p 0 x).tables (walk_to G p 0 x).left (p.numbers.levels - 1 - (walk_to G p 0 x).left) in
          let k = swept_live G Z p a len S still n E b c q M₁ (marked S n b c q) in
          ih next L.counts (free + L.freed) (frame_swept G Z p a len S still n E b c q (omega (arith, k, m))) E.in_range (omega (arith, E.further)) (omega (arith, k, m))
      go (yes n) (Table c) q ih = absurd (no_table_last G p x c q)
      go (yes n) Damaged q ih =
          absurd (⊎_elim (λ e. S.ok.undamaged x (first_in S n) (ap (λ (w : Walked). w.entry) e ∙ q)) (λ e. let z = e.0 in clash (cc)) (S.along x (first_in S n)))

  pub roomy : any_refused 8 (answers_of (unmap_w G) p (pages_of G a len)) ≡ false
  roomy =
      let C = values (used_in G p.words) 0 512 in
      sweeps_on len (sweep_none G Z A {C = C} (values_long (used_in G p.words) 512 0)
      (λ t l. values_at (used_in G p.words) 512 0 t (omega (arith, l, good_setup_lem A.good)) ∙ ap (used_in G p.words) (omega arith)))
      (omega arith) (omega arith) (omega (arith, room, live_few M₁ C, unmark M))
