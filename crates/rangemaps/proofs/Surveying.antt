-- The walks of a range, row by row: what is known after some rows, and how it goes on.
use Prim.Native.Nat.{ℕ, suc, ◌+◌, ◌-◌, ◌*◌, ◌≤◌, ◌<◌}
use mathlib.Core.Path.{◌≡◌, refl, ap, sym, ◌∙◌, subst, subst₂}
use mathlib.Core.Logic.{◌≢◌, ⊎_elim}
use mathlib.Core.Bool.{Bool, true, false, cond, ◌||◌, not, false≢true, true≢false}
use mathlib.Core.List.Memᴰ
use mathlib.Core.List.{List, [], ◌∷◌, ◌++◌, append_assoc, append-nil, Memᴰ}
use native.Mathlib.Omega.{arith}
use native.Mathlib.Nat.{suc-mul}
use native.Mathlib.Decide.{ℕ_discrete}
use lib.Dec.{eqb}
use lib.ListN.{length, get_or}
use borrow.Author.Tests.{eq-eqb, ne_eqb}
use Rattle.laws.specs.Lists.{among}
use Rattle.path.specs.Geometry.{Granule, Sane, size_at, physical, at_level}
use Rattle.path.specs.Areas.{Area, area_of, total}
use Rattle.path.specs.Laws.{good_setup_lem, size_pos, size_zero, size_le, page_least, space_physical, level_some}
use Rattle.path.specs.Numbers.{GoodSetup}
use Rattle.path.specs.declared.Setup.{Setup}
use Rattle.entry.specs.declared.Entry.{Entry}
use Rattle.entry.specs.declared.Entry.TheVariants.{Damaged}
use Rattle.std.specs.Prelude.{Result, Ok, Err}
use Rattle.model.specs.declared.Refusal.{Refusal}
use Rattle.model.specs.declared.Refusal.TheVariants.{Overlap, Damage}
use Rattle.model.proofs.DescentLaws.{clash}
use Rattle.model.specs.Answers.{Mapping, Pool}
use Rattle.model.specs.Calls.{good_pool, walk_to}
use Rattle.model.specs.Ranges.{map_range_tests, piece_at, pieces, Probe, piece_walk, piece_walks, any_ends, is_damaged, is_taken, on_ways, spoiled, ways}
use Rattle.model.proofs.RangeLaws.{range_fine, tiles}
use Rattle.model.specs.RangeLaws.{Tiles, over, piece}
use Rattle.model.proofs.RangeMapped.{none_ends}
use Rattle.model.proofs.RangeWalks.{walk_stopped, came_target, came_low}
use Rattle.marks.specs.Marks.{note_way}
use Rattle.marks.specs.MarkLaws.{Marked, clash_more, marked_each, Placed, unmarked, marked_way}
use Rattle.ranges.specs.Stretches.{stretch_at, in_row}
use Rattle.ranges.specs.StretchLaws.{Stretched, stretched}
use Rattle.rangemaps.specs.Rows.{row_walks, row_found, begun_at}
use Rattle.rangemaps.specs.Surveys.{MarksOf, Surveyed, is_spoiled, is_taken_lem, is_free}
use Rattle.rangemaps.proofs.Rows.{walk_placed, row_pieces}
use Rattle.rangemaps.proofs.Counts.{Counted, counted_none, counted_first, counted_later}
use Rattle.rangemaps.proofs.Probes.{row_probed, Probed, finds_damage, finds_clash, finds_taken, finds_empty}

-- ---- walks in two parts

ends_append : (such : Entry → Bool) (xs ys : List Probe) → any_ends such (xs ++ ys) ≡ (any_ends such xs || any_ends such ys)
unfolding any_ends
ends_append such [] ys = refl
ends_append such (w ∷ xs) ys = ap (λ (y : Bool). such w.end.entry || y) (ends_append such xs ys) ∙ assoc (such w.end.entry) (any_ends such xs)
  where
    assoc : (a b : Bool) → (a || (b || any_ends such ys)) ≡ ((a || b) || any_ends such ys)
    assoc true b = refl
    assoc false b = refl

walks_append : (G : Granule) (p : Pool) (xs ys : List Mapping) → piece_walks G p (xs ++ ys) ≡ piece_walks G p xs ++ piece_walks G p ys
walks_append G p [] ys = refl
walks_append G p (m ∷ xs) ys = ap (λ (l : List Probe). piece_walk G p m ∷ l) (walks_append G p xs ys)

walks_in : (G : Granule) (p : Pool) (ms : List Mapping) (w : Probe) → Memᴰ w (piece_walks G p ms) → (q : Mapping) × (w ≡ piece_walk G p q)
walks_in G p [] w i = absurd (Memᴰ.not-nil i)
walks_in G p (m ∷ ms) w i = ⊎_elim (λ e. (m, e)) (walks_in G p ms w) (Memᴰ.cases_cons i)

or_right : (a b : Bool) → b ≡ true → (a || b) ≡ true
or_right true b e = refl
or_right false b e = e

or_left : (a b : Bool) → a ≡ true → (a || b) ≡ true
or_left a b e = rw e

or_nothing : (a b : Bool) → b ≡ false → (a || b) ≡ a
or_nothing true b e = refl
or_nothing false b e = e

-- ---- the numbers

-- where the loop stands: the addresses and what is left add up, and so far few tables are needed
pub record Stands (G : Granule) (s : Setup) (a b len x y left need : ℕ) (M : List ℕ) : Type 0 where
  pub sum : x + left ≡ a + len
  pub sum_frame : y + left ≡ b + len
  pub further : a ≤ x
  pub few : need ≤ x - a
  pub long : total (area_of s) ≤ length M
  pub attributes : ℕ
  pub rest : List Mapping
  pub tiled : Tiles G attributes x y left rest

pub stands_first : (G : Granule) (s : Setup) (a b len k : ℕ) (M : List ℕ) → map_range_tests G s.levels (area_of s) a b len k ≡ 0 → total (area_of s) ≤ length M
    → Stands G s a b len a b len 0 M
stands_first G s a b len k M e l = record {
  sum = refl;
  sum_frame = refl;
  further = omega arith;
  few = omega arith;
  long = l;
  attributes = k;
  rest = pieces G a b len k;
  tiled = tiles G s.levels (area_of s) a b len k (range_fine G s.levels (area_of s) a b len k e);
}

module _ {G : Granule} {s : Setup} {a b len x y left need : ℕ} {M : List ℕ} (B : Stands G s a b len x y left need M) (some : left ≢ 0) where
  abbrev height : ℕ
  height = piece_at G x y left G.large

  abbrev many : ℕ
  many = stretch_at G x left height

  -- the row here
  pub here_row : Stretched G B.attributes x y left height many B.rest
  here_row = stretched G B.tiled some

  -- it has at least a page
  pub row_least : Sane G → 4096 ≤ many * size_at G height
  row_least Z = omega (arith, ap (λ (t : ℕ). t * size_at G height) more, suc-mul (many - 1) (size_at G height), page_least G Z, size_zero G, size_le G {j = 0} {h = height} (omega arith))
    where
      more : suc (many - 1) ≡ many
      more = omega (arith, here_row.some)

  pub stands_next : Sane G → {bytes need' : ℕ} {N : List ℕ} → bytes ≡ many * size_at G height → need' ≤ need + 3 → total (area_of s) ≤ length N
      → Stands G s a b len (x + bytes) (y + bytes) (left - bytes) need' N
  stands_next Z {bytes} {need'} {N} e f l =
      subst (λ (t : ℕ). Stands G s a b len (x + t) (y + t) (left - t) need' N) (sym e)
      (record {
        sum = omega (arith, B.sum, here_row.fits);
        sum_frame = omega (arith, B.sum_frame, here_row.fits);
        further = omega (arith, B.further);
        few = omega (arith, B.few, B.further, row_least Z);
        long = l;
        attributes = B.attributes;
        rest = here_row.row.rest;
        tiled = here_row.row.tiled;
      })

-- the same in the code's numbers
module _ (G : Granule) (x y left : ℕ) {h n : ℕ} (u : h ≡ piece_at G x y left G.large) (v : n ≡ stretch_at G x left h) where
  many_is : n ≡ stretch_at G x left (piece_at G x y left G.large)
  many_is = v ∙ ap (stretch_at G x left) u

  pub to_row : (F : ℕ → ℕ → Type 0) → F (piece_at G x y left G.large) (stretch_at G x left (piece_at G x y left G.large)) → F h n
  to_row F z = subst₂ F (sym u) (sym many_is) z

  pub from_row : (F : ℕ → ℕ → Type 0) → F h n → F (piece_at G x y left G.large) (stretch_at G x left (piece_at G x y left G.large))
  from_row F z = subst₂ F u many_is z

-- a row in the code's numbers
module _ {G : Granule} (Z : Sane G) {k x y left : ℕ} {ms : List Mapping} (R : Stretched G k x y left (piece_at G x y left G.large) (stretch_at G x left (piece_at G x y left G.large)) ms)
    {tall wide : ℕ} (u : tall ≡ piece_at G x y left G.large) (v : wide ≡ at_level G tall (stretch_at G x left tall)) where
  pub tall_low : tall ≤ G.large
  tall_low = omega (arith, u, R.low)

  pub tall_level : (t : ℕ) → at_level G tall t ≡ t
  tall_level t = level_some G {h = tall} (omega (arith, tall_low, Z.large_below, Z.few_most)) t

  pub wide_is : wide ≡ stretch_at G x left tall
  wide_is = v ∙ tall_level (stretch_at G x left tall)

  pub row_is : Stretched G k x y left tall wide ms
  row_is = to_row G x y left u wide_is (λ i j. Stretched G k x y left i j ms) R

module _ {G : Granule} (Z : Sane G) {s : Setup} {a b len x y left need : ℕ} {M : List ℕ} (B : Stands G s a b len x y left need M) (some : left ≢ 0) {tall wide size : ℕ}
    (u : tall ≡ piece_at G x y left G.large) (v : wide ≡ at_level G tall (stretch_at G x left tall)) (e : size ≡ at_level G tall (size_at G tall)) where
  pub bytes_is : wide * size ≡ wide * size_at G tall
  bytes_is = ap (λ (t : ℕ). wide * t) (e ∙ tall_level Z (here_row B some) u v (size_at G tall))

  in_row_lem : wide * size ≡ many B some * size_at G (height B some)
  in_row_lem = from_row G x y left u (wide_is Z (here_row B some) u v) (λ i j. wide * size ≡ j * size_at G i) bytes_is

  -- they are what is left or less, and at least a page
  pub bytes_fit : (wide * size ≤ left) × (4096 ≤ wide * size)
  bytes_fit = (omega (arith, in_row_lem, (here_row B some).fits), omega (arith, in_row_lem, row_least B some Z))

  pub stands_turn : {need' : ℕ} {N : List ℕ} → need' ≤ need + 3 → total (area_of s) ≤ length N
      → Stands G s a b len (x + wide * size) (y + wide * size) (left - wide * size) need' N
  stands_turn f l = stands_next B some Z in_row_lem f l

pub range_near : (G : Granule) → Sane G → (levels : ℕ) (area : Area) (a b len k : ℕ) → map_range_tests G levels area a b len k ≡ 0 → (a + len ≤ physical) × (b + len ≤ physical)
range_near G Z levels area a b len k e =
    let F = range_fine G levels area a b len k e in
    (omega (arith, F.in_space, space_physical Z levels), F.in_physical)

-- ---- what is found

-- the walks of the pieces before address x are neither damaged nor clash, and what they found
pub record Sofar (G : Granule) (p : Pool) (a b len k x y left : ℕ) (overlaps : Bool) (need : ℕ) (M : List ℕ) : Type 0 where
  pub before : List Mapping
  pub rest : List Mapping
  pub is : pieces G a b len k ≡ before ++ rest
  pub tiled : Tiles G k x y left rest
  pub undamaged : any_ends is_damaged (piece_walks G p before) ≡ false
  pub marked : Marked G M (on_ways G p.numbers.levels (piece_walks G p before))
  pub taken : overlaps ≡ any_ends is_taken (piece_walks G p before)
  pub count : overlaps ≡ false → Counted G p a x before need

pub sofar_first : (G : Granule) (p : Pool) (a b len k : ℕ) (M : List ℕ) → map_range_tests G p.numbers.levels (area_of p.numbers) a b len k ≡ 0
    → ((t : ℕ) → get_or M t 0 ≡ 0) → Sofar G p a b len k a b len false 0 M
unfolding any_ends on_ways
sofar_first G p a b len k M e zeros = record {
  before = [];
  rest = pieces G a b len k;
  is = refl;
  tiled = tiles G p.numbers.levels (area_of p.numbers) a b len k (range_fine G p.numbers.levels (area_of p.numbers) a b len k e);
  undamaged = refl;
  marked = record { shown = λ s i. absurd (Memᴰ.not-nil i); only = λ t f. absurd (f (zeros t)) };
  taken = refl;
  count = λ z. counted_none G p a;
}

-- how the code goes on from what a row finds: an overlap is remembered; the tables that the first row lacks are counted all, those of another where they begin
pub data Went (G : Granule) (a x h : ℕ) (overlaps : Bool) (need : ℕ) (met : Result ℕ Refusal) : Bool → ℕ → Type 0 where
  went_taken : met ≡ Err Overlap → Went G a x h overlaps need met true need
  went_first : {lack : ℕ} → met ≡ Ok lack → x ≡ a → Went G a x h overlaps need met overlaps lack
  went_later : {lack new : ℕ} → met ≡ Ok lack → x ≢ a → (h + lack < G.most → new ≡ begun_at G x h lack) → Went G a x h overlaps need met overlaps (need + new)

module _ (G : Granule) (Z : Sane G) (p : Pool) (good : good_pool G p ≡ true) {a b len k x y left need : ℕ} {overlaps : Bool} {M : List ℕ} (F : Sofar G p a b len k x y left overlaps need M)
    (some : left ≢ 0) where
  abbrev h : ℕ
  h = piece_at G x y left G.large

  abbrev n : ℕ
  n = stretch_at G x left h

  abbrev s : ℕ
  s = size_at G h

  T : Stretched G k x y left h n F.rest
  T = stretched G F.tiled some

  S : GoodSetup G p.numbers p.cut (length p.words) (length p.list)
  S = good_setup_lem good

  abbrev levels : ℕ
  levels = p.numbers.levels

  few : levels ≤ 4
  few = omega (arith, S.numbers.not_more, Z.most_four)

  deep : G.large ≤ levels - 1
  deep = omega (arith, S.numbers.enough, Z.large_below)

  abbrev W : List Probe
  W = piece_walks G p F.before

  abbrev row : List Probe
  row = row_walks G p h x n

  -- the walks of the row come after those before it
  walked : piece_walks G p (F.before ++ in_row s k x y n) ≡ W ++ row
  walked = walks_append G p F.before (in_row s k x y n) ∙ ap (λ (l : List Probe). W ++ l) (row_pieces G Z p h k x y n T.low)

  all : pieces G a b len k ≡ (F.before ++ in_row s k x y n) ++ T.row.rest
  all = F.is ∙ ap (λ (l : List Mapping). F.before ++ l) T.row.is ∙ sym (append_assoc F.before (in_row s k x y n) T.row.rest)

  all_walked : piece_walks G p (pieces G a b len k) ≡ (W ++ row) ++ piece_walks G p T.row.rest
  all_walked = ap (piece_walks G p) all ∙ walks_append G p (F.before ++ in_row s k x y n) T.row.rest ∙ ap (λ (l : List Probe). l ++ piece_walks G p T.row.rest) walked

  -- what the code finds of the row
  pub sofar_found : {met : Result ℕ Refusal} {N : List ℕ} → total (area_of p.numbers) ≤ length M → x < physical → met ≡ row_found G p M h x n
      → (met ≢ Err Damage → N ≡ (note_way G M x (walk_to G p h x).tables (walk_to G p h x).left levels).marks) → Probed G p W h x n met N
  sofar_found long near e m = row_probed G Z p good W h x n T.low T.some T.room near F.marked long e m

  -- a row that is refused, but not by an overlap, spoils the range
  pub sofar_stops : {met : Result ℕ Refusal} {r : Refusal} {N : List ℕ} → Probed G p W h x n met N → met ≡ Err r → r ≢ Overlap → Surveyed G p (pieces G a b len k) (Err r) N
  sofar_stops {met} {r} {N} (finds_damage q) z f =
      subst (λ (e : Result ℕ Refusal). Surveyed G p (pieces G a b len k) e N) z (is_spoiled (ap (spoiled G levels) all_walked
      ∙ or_left (any_ends is_damaged ((W ++ row) ++ piece_walks G p T.row.rest)) _
      (ends_append is_damaged (W ++ row) (piece_walks G p T.row.rest) ∙ or_left (any_ends is_damaged (W ++ row)) _ (ends_append is_damaged W row ∙ or_right (any_ends is_damaged W) _ q))))
  sofar_stops {met} {r} {N} (finds_clash q) z f =
      subst (λ (e : Result ℕ Refusal). Surveyed G p (pieces G a b len k) e N) z (is_spoiled (ap (spoiled G levels) all_walked
      ∙ or_right (any_ends is_damaged ((W ++ row) ++ piece_walks G p T.row.rest)) _ (ap not (clash_more G levels (W ++ row) (piece_walks G p T.row.rest) q))))
  sofar_stops {met} {r} (finds_taken u v w) z f = let same : r ≡ Overlap = cc in absurd (f same)
  sofar_stops (finds_empty u v w r q) z f = clash (cc)

  next : {overlaps' : Bool} {need' bytes : ℕ} {N : List ℕ} → bytes ≡ n * s → any_ends is_damaged row ≡ false → Marked G N (on_ways G levels (W ++ row))
      → overlaps' ≡ (any_ends is_taken W || any_ends is_taken row) → (overlaps' ≡ false → Counted G p a (x + n * s) (F.before ++ in_row s k x y n) need')
      → Sofar G p a b len k (x + bytes) (y + bytes) (left - bytes) overlaps' need' N
  next {overlaps'} {need'} {bytes} {N} e d K t c =
      subst (λ (z : ℕ). Sofar G p a b len k (x + z) (y + z) (left - z) overlaps' need' N) (sym e)
      (record {
        before = F.before ++ in_row s k x y n;
        rest = T.row.rest;
        is = all;
        tiled = T.row.tiled;
        undamaged = ap (any_ends is_damaged) walked ∙ ends_append is_damaged W row ∙ or_nothing (any_ends is_damaged W) _ d ∙ F.undamaged;
        marked = subst (λ (l : List Probe). Marked G N (on_ways G levels l)) (sym walked) K;
        taken = t ∙ sym (ap (any_ends is_taken) walked ∙ ends_append is_taken W row);
        count = c;
      })

  -- else the loop goes on
  pub sofar_next : {met : Result ℕ Refusal} {overlaps' : Bool} {need' bytes : ℕ} {N : List ℕ} → bytes ≡ n * s → Probed G p W h x n met N → Went G a x h overlaps need met overlaps' need'
      → Sofar G p a b len k (x + bytes) (y + bytes) (left - bytes) overlaps' need' N
  sofar_next e (finds_damage q) (went_taken z) = clash (cc)
  sofar_next e (finds_damage q) (went_first z g) = clash (cc)
  sofar_next e (finds_damage q) (went_later z g w) = clash (cc)
  sofar_next e (finds_clash q) (went_taken z) = clash (cc)
  sofar_next e (finds_clash q) (went_first z g) = clash (cc)
  sofar_next e (finds_clash q) (went_later z g w) = clash (cc)
  sofar_next e (finds_taken u v K) (went_taken z) = next e u K (sym (or_right (any_ends is_taken W) _ v)) (λ z. absurd (true≢false z))
  sofar_next e (finds_taken u v K) (went_first z g) = clash (cc)
  sofar_next e (finds_taken u v K) (went_later z g w) = clash (cc)
  sofar_next {met} {overlaps'} {need'} {bytes} {N} e (finds_empty {r} i q u v K) w = on w
    where
      d : (walk_to G p h x).entry ≢ Damaged
      d z = false≢true (sym (ap is_damaged q) ∙ ap is_damaged z)

      low : (walk_to G p h x).left ≤ levels - 1
      low = came_low (walk_stopped G p few h x d).came

      least : h ≤ (walk_to G p h x).left
      least = came_target (walk_stopped G p few h x d).came (omega (arith, T.low, deep))

      same : overlaps ≡ (any_ends is_taken W || any_ends is_taken row)
      same = F.taken ∙ sym (or_nothing (any_ends is_taken W) _ v)

      on : {t : Bool} {j : ℕ} → Went G a x h overlaps need (Ok r) t j → Sofar G p a b len k (x + bytes) (y + bytes) (left - bytes) t j N
      on (went_taken z) = clash (cc)
      on (went_first {lack} z g) = next e u K same
          (λ o. let l : r ≡ lack = cc in subst (Counted G p a (x + n * s) (F.before ++ in_row s k x y n)) (sym i ∙ l)
          (counted_first G Z p few (omega (arith, S.numbers.enough, Z.large_below)) deep (F.count o) h k y n T.low T.some T.room T.address q g))
      on (went_later {lack} {new} z g w) = next e u K same
          (λ o. let l : r ≡ lack = cc in
          subst (Counted G p a (x + n * s) (F.before ++ in_row s k x y n)) (ap (λ (z : ℕ). need + z) (ap (begun_at G x h) (sym i ∙ l) ∙ sym (w (omega (arith, low, least, S.numbers.not_more, S.numbers.enough, Z.large_below)))))
          (counted_later G Z p few (omega (arith, S.numbers.enough, Z.large_below)) deep (F.count o) h k y n T.low T.some T.room T.address q g))

-- a turn of the loop, in the code's numbers
module _ (G : Granule) (Z : Sane G) (p : Pool) (good : good_pool G p ≡ true) {a b len k x y left need : ℕ} {overlaps : Bool} {M : List ℕ} (F : Sofar G p a b len k x y left overlaps need M)
    (some : left ≢ 0) {tall wide : ℕ} (u : tall ≡ piece_at G x y left G.large) (v : wide ≡ stretch_at G x left tall)
    (long : total (area_of p.numbers) ≤ length M) (near : x < physical) {met : Result ℕ Refusal} {N : List ℕ} (e : met ≡ row_found G p M tall x wide)
    (m : met ≢ Err Damage → N ≡ (note_way G M x (walk_to G p tall x).tables (walk_to G p tall x).left p.numbers.levels).marks) where
  probed : Probed G p (piece_walks G p F.before) (piece_at G x y left G.large) x (stretch_at G x left (piece_at G x y left G.large)) met N
  probed =
      sofar_found G Z p good F some long near (from_row G x y left u v (λ i j. met ≡ row_found G p M i x j) e)
      (from_row G x y left u v (λ i j. met ≢ Err Damage → N ≡ (note_way G M x (walk_to G p i x).tables (walk_to G p i x).left p.numbers.levels).marks) m)

  pub turn_stops : {r : Refusal} → met ≡ Err r → r ≢ Overlap → Surveyed G p (pieces G a b len k) (Err r) N
  turn_stops z f = sofar_stops G Z p good F some probed z f

  pub turn_next : {overlaps' : Bool} {need' bytes : ℕ} → bytes ≡ wide * size_at G tall → Went G a x tall overlaps need met overlaps' need'
      → Sofar G p a b len k (x + bytes) (y + bytes) (left - bytes) overlaps' need' N
  turn_next {overlaps'} {need'} {bytes} q w =
      sofar_next G Z p good F some (from_row G x y left u v (λ i j. bytes ≡ j * size_at G i) q) probed (from_row G x y left u v (λ i j. Went G a x i overlaps need met overlaps' need') w)

-- at the end
pub tiles_none : {G : Granule} {k x y left : ℕ} {ms : List Mapping} → Tiles G k x y left ms → left ≡ 0 → ms ≡ []
tiles_none over e = refl
tiles_none {G} (piece {h = h} F more T) e = absurd (omega (arith, F.small, size_pos G h))

pub sofar_ends : (G : Granule) → Sane G → (p : Pool) → good_pool G p ≡ true → {a b len k x y left need : ℕ} {overlaps : Bool} {M : List ℕ} → Sofar G p a b len k x y left overlaps need M → left ≡ 0
    → Surveyed G p (pieces G a b len k) (cond overlaps (Err Overlap) (Ok need)) M
sofar_ends G Z p good {a} {b} {len} {k} {x} {y} {left} {need} {overlaps} {M} F e =
    subst (λ (ms : List Mapping). Surveyed G p ms (cond overlaps (Err Overlap) (Ok need)) M) (sym whole) (go overlaps refl)
  where
    whole : pieces G a b len k ≡ F.before
    whole = F.is ∙ ap (λ (l : List Mapping). F.before ++ l) (tiles_none F.tiled e) ∙ append-nil F.before

    W : List Probe
    W = piece_walks G p F.before

    S : GoodSetup G p.numbers p.cut (length p.words) (length p.list)
    S = good_setup_lem good

    few : p.numbers.levels ≤ 4
    few = omega (arith, S.numbers.not_more, Z.most_four)

    unspoiled : spoiled G p.numbers.levels W ≡ false
    unspoiled = λ i. F.undamaged i || not (marked_each F.marked i)

    placed : (w : Probe) → Memᴰ w W → Placed p.numbers.levels w
    placed w i =
        let (q, z) = walks_in G p F.before w i in
        let d = none_ends is_damaged W F.undamaged w i in
        subst (Placed p.numbers.levels) (sym z)
        (walk_placed G p few _ _ (omega (arith, S.numbers.enough, Z.large_below)) (λ g. false≢true (sym d ∙ ap (λ (v : Probe). is_damaged v.end.entry) z ∙ ap is_damaged g)))

    marks : MarksOf (ways W) M
    marks t f = at (ℕ_discrete (get_or M t 0) 0)
      where
        at : Dec (get_or M t 0 ≡ 0) → among t (ways W) ≡ not (eqb (get_or M t 0) 0)
        at (yes z) = unmarked few W F.marked placed t f z ∙ rw (eq-eqb _ _ z)
        at (no z) = marked_way few W F.marked placed t z ∙ rw (ne_eqb _ _ z)

    go : (v : Bool) → overlaps ≡ v → Surveyed G p F.before (cond v (Err Overlap) (Ok need)) M
    go true q = is_taken_lem unspoiled (sym F.taken ∙ q)
    go false q = is_free unspoiled (sym F.taken ∙ q) (F.count q).is marks
