-- Laws of the marks: noting the ways of walks, one after the other, finds exactly where they come to one table for two regions.
use Prim.Native.Nat.{ℕ, zero, suc, ◌+◌, ◌-◌, ◌/◌, ◌^◌, ◌≤◌, ◌<◌}
use Rattle.std.specs.Prelude.{◌≡◌, ◌≢◌, ◌⊎◌, Bool, cond, leb, eqb, get_or, replicate}
use Rattle.std.proofs.Math.Path.{refl}
use Rattle.std.proofs.Common.{ap, sym, ◌∙◌, subst, inl, inr, ⊎_elim, div-lt_iff_lt-mul, arith, get_or-set_same, get_or-set_other}
use Rattle.std.proofs.Math.Bool.{true, false}
use mathlib.Core.List.Memᴰ
use mathlib.Core.List.Memᴰ.{head as here}
use mathlib.Core.List.Memᴰ.{tail as there}
use mathlib.Core.List.{List, [], ◌∷◌, ◌++◌, Memᴰ, append_assoc}
use Rattle.std.proofs.Math.Numerals.{add-one, sub-one}
use Rattle.std.proofs.Math.Decide.{ℕ_discrete, dec_lt}
use Rattle.std.proofs.Math.ListN.{length, set, length-set}
use Rattle.std.proofs.Math.Seq.{set_out}
use borrow.Author.Tests.{eq-eqb, ne_eqb, eqb-true, eqb-false, le-leb, lt-leb, lt-ltb, le-ltb}
use Rattle.laws.specs.Lists.{among, all_zero}
use Rattle.laws.specs.ListLaws.{get_d_past, all_zero_at, all_zero_replicate, among_none, mem_among, mem_at, at_mem}
use Rattle.path.specs.Geometry.{Granule, Sane, granule_of, size_at, physical}
use Rattle.path.specs.Laws.{untrue, granule_either, size_pos, size_le, size_injective}
use Rattle.path.specs.Areas.{Area, area_of}
use Rattle.path.specs.Paths.{base_at, path_of}
use Rattle.path.specs.RegionLaws.{region_base, base_region}
use Rattle.entry.specs.declared.Entry.{Entry}
use Rattle.entry.specs.declared.Entry.TheVariants.{Empty, Table, Frame, Damaged}
use Rattle.model.specs.declared.Walked.{Walked}
use Rattle.model.specs.Answers.{Pool}
use Rattle.model.specs.Walk.{at_height, no_way, stop, onward, walk_from}
use Rattle.model.specs.Calls.{walk_to}
use Rattle.model.specs.Ledger.{region}
use Rattle.model.specs.Ranges.{Probe, probe, Standing, standing, on_way, on_ways, agree, agrees, one_region_each, ways}
use Rattle.model.proofs.RangeWalks.{left_low}
use Rattle.model.specs.RangeWalks.{read_by}
use Rattle.model.proofs.RangeMapped.{each_so, ways_has, tables_in_lem}
use Rattle.model.specs.RangeMapped.{OneRegion, standing_at}
use Rattle.marks.specs.Marks.{region_number, Noted, noted, note_one, note_from, note_way}

-- ---- numbers of regions

size_least : (granule : ℕ) → 2 ^ 21 ≤ size_at (granule_of granule) 1
unfolding size_at
size_least granule = granule_either (λ (G : Granule). 2 ^ 21 ≤ size_at G 1) (omega arith) (omega arith) granule

pub region_few : (granule a h : ℕ) → a < physical → a / size_at (granule_of granule) (suc h) < 2 ^ 27
region_few granule a h l =
    let m : size_at (granule_of granule) 1 ≤ size_at (granule_of granule) (suc h) = size_le (granule_of granule) (omega arith) in
    (div-lt_iff_lt-mul (size_pos (granule_of granule) (suc h))).1 (omega (arith, size_least granule))

-- no two regions have one number
number_one : (G : Granule) (a b h k : ℕ) → h < 4 → k < 4 → region_number G a h ≡ region_number G b k
    → (size_at G (suc h) ≡ size_at G (suc k)) × (base_at G a (suc h) ≡ base_at G b (suc k))
number_one G a b h k l m e =
    let z : h ≡ k = omega arith in
    let r : a / size_at G (suc h) ≡ b / size_at G (suc k) = omega arith in (
      ap (λ (x : ℕ). size_at G (suc x)) z,
      region_base G a b (suc h) (r ∙ ap (λ (x : ℕ). b / size_at G (suc x)) (sym z)) ∙ ap (λ (x : ℕ). base_at G b (suc x)) z,
    )

one_number : (G : Granule) → Sane G → (a b h k : ℕ) → size_at G (suc h) ≡ size_at G (suc k) → base_at G a (suc h) ≡ base_at G b (suc k)
    → region_number G a h ≡ region_number G b k
one_number G Z a b h k e q =
    let z : h ≡ k = omega (arith, size_injective G Z (suc h) (suc k) e) in
    let r : a / size_at G (suc h) ≡ b / size_at G (suc h) = base_region G a b (suc h) (q ∙ ap (λ (x : ℕ). base_at G b (suc x)) (sym z)) in
    let f : b / size_at G (suc h) ≡ b / size_at G (suc k) = ap (λ (x : ℕ). b / size_at G (suc x)) z in
    omega arith

-- ---- one table

pub one_past : (M : List ℕ) (t number : ℕ) → length M ≤ t → note_one M t number ≡ noted true M
unfolding note_one
one_past M t number l = rw (eq-eqb (get_or M t 0) 0 (get_d_past M t l), set_out M t number l)

pub one_new : (M : List ℕ) (t number : ℕ) → get_or M t 0 ≡ 0 → note_one M t number ≡ noted true (set M t number)
unfolding note_one
one_new M t number e = rw (eq-eqb (get_or M t 0) 0 e)

pub one_old : (M : List ℕ) (t number : ℕ) → get_or M t 0 ≢ 0 → note_one M t number ≡ noted (eqb (get_or M t 0) number) M
unfolding note_one
one_old M t number n = rw (ne_eqb (get_or M t 0) 0 n)

-- ---- a way, table by table

module _ (G : Granule) (M : List ℕ) (a : ℕ) (way : List ℕ) where
  pub from_stop : (h d : ℕ) {N : List ℕ} → 0 < d → noted false N ≡ note_one M (at_height way h) (region_number G a h) → note_from G M a way h d ≡ noted false N
  unfolding note_from
  from_stop h zero l e = absurd (omega arith)
  from_stop h (suc d) l e = rw (← e)

  pub from_more : (h d : ℕ) {N : List ℕ} → 0 < d → noted true N ≡ note_one M (at_height way h) (region_number G a h)
      → note_from G M a way h d ≡ note_from G N a way (h + 1) (d - 1)
  unfolding note_from
  from_more h zero l e = absurd (omega arith)
  from_more h (suc d) l e = rw (← e, add-one, sub-one (suc d))

  pub from_end : (h d : ℕ) → d ≡ 0 → note_from G M a way h d ≡ noted true M
  unfolding note_from
  from_end h d e = rw e

  pub way_in : (left levels : ℕ) → levels ≤ 4 → a < physical → note_way G M a way left levels ≡ note_from G M a way left (levels - left)
  unfolding note_way
  way_in left levels l m = rw (le-leb levels 4 l, lt-ltb a physical m)

  pub way_high : (left levels : ℕ) → 4 < levels → note_way G M a way left levels ≡ noted false M
  unfolding note_way
  way_high left levels l = rw (lt-leb levels 4 l)

  pub way_far : (left levels : ℕ) → levels ≤ 4 → physical ≤ a → note_way G M a way left levels ≡ noted false M
  unfolding note_way
  way_far left levels l m = rw (le-leb levels 4 l, le-ltb a physical m)

-- ---- what the marks say

-- a standing, and the mark of its table, which is its region's number
pub record Shown (G : Granule) (M : List ℕ) (s : Standing) : Type 0 where
  pub around : ℕ
  pub height : ℕ
  pub low : height < 4
  pub size_is : s.stands_for.size ≡ size_at G (suc height)
  pub first_is : s.stands_for.first ≡ base_at G around (suc height)
  pub mark : get_or M s.table 0 ≡ region_number G around height

-- the marks of these standings: each is shown, and no other table is marked
pub record Marked (G : Granule) (M : List ℕ) (l : List Standing) : Type 0 where
  pub shown : (s : Standing) → Memᴰ s l → Shown G M s
  pub only : (t : ℕ) → get_or M t 0 ≢ 0 → (s : Standing) × Memᴰ s l × (s.table ≡ t)

-- two standings of one table for two regions
pub record Clash (l : List Standing) : Type 0 where
  pub one : Standing
  pub other : Standing
  pub one_in : Memᴰ one l
  pub other_in : Memᴰ other l
  pub apart : OneRegion one other → ⊥

-- what noting some tables comes to, where these are all the standings then
pub data Noting (G : Granule) (l : List Standing) : Noted → Type 0 where
  agreed : {M : List ℕ} → Marked G M l → Noting G l (noted true M)
  clashes : {M : List ℕ} → Clash l → Noting G l (noted false M)

abbrev pub Within : List Standing → List Standing → Type 0
Within k l = (s : Standing) → Memᴰ s k → Memᴰ s l

pub marked_none : (G : Granule) (k : ℕ) → Marked G (replicate k 0) []
marked_none G k = record { shown = λ s i. absurd (Memᴰ.not-nil i); only = λ t n. absurd (n (all_zero_at (replicate k 0) (all_zero_replicate k) t)) }

pub marked_like : {G : Granule} {M : List ℕ} {k l : List Standing} → Marked G M k → Within k l → Within l k → Marked G M l
marked_like K f g = record { shown = λ s i. K.shown s (g s i); only = λ t n. let (s, i, e) = K.only t n in (s, f s i, e) }

pub clash_like : {k l : List Standing} → Clash k → Within k l → Clash l
clash_like K f = record { one = K.one; other = K.other; one_in = f _ K.one_in; other_in = f _ K.other_in; apart = K.apart }

noting_like : {G : Granule} {k l : List Standing} {n : Noted} → Noting G k n → Within k l → Within l k → Noting G l n
noting_like (agreed K) f g = agreed (marked_like K f g)
noting_like (clashes K) f g = clashes (clash_like K f)

-- ---- and whether each table stands for one region

agree_is : (s q : Standing) → OneRegion s q → agree s q ≡ true
agree_is s q f = go (ℕ_discrete s.table q.table)
  where
    go : Dec (s.table ≡ q.table) → agree s q ≡ true
    go (yes z) = let (a, b) = f z in rw (eq-eqb _ _ z, eq-eqb _ _ a, eq-eqb _ _ b)
    go (no z) = rw (ne_eqb _ _ z)

agrees_is : (s : Standing) (l : List Standing) → ((q : Standing) → Memᴰ q l → OneRegion s q) → agrees s l ≡ true
unfolding agrees
agrees_is s [] f = refl
agrees_is s (q ∷ l) f = let e : agree s q ≡ true = agree_is s q (f q (here refl)) in rw e (agrees_is s l (λ x i. f x (there i)))

pub each_is : (l : List Standing) → ((s q : Standing) → Memᴰ s l → Memᴰ q l → OneRegion s q) → one_region_each l ≡ true
unfolding one_region_each
each_is [] f = refl
each_is (s ∷ l) f = let e : agrees s l ≡ true = agrees_is s l (λ q i. f s q (here refl) (there i)) in rw e (each_is l (λ x y i j. f x y (there i) (there j)))

pub marked_each : {G : Granule} {M : List ℕ} {l : List Standing} → Marked G M l → one_region_each l ≡ true
marked_each {G} {M} {l} K = each_is l (λ s q i j t. one s q t (K.shown s i) (K.shown q j))
  where
    one : (s q : Standing) → s.table ≡ q.table → Shown G M s → Shown G M q → (s.stands_for.size ≡ q.stands_for.size) × (s.stands_for.first ≡ q.stands_for.first)
    one s q t S Q =
        let (u, v) = number_one G S.around Q.around S.height Q.height S.low Q.low (sym S.mark ∙ ap (λ (x : ℕ). get_or M x 0) t ∙ Q.mark) in
        (S.size_is ∙ u ∙ sym Q.size_is, S.first_is ∙ v ∙ sym Q.first_is)

pub clash_each : {l : List Standing} → Clash l → one_region_each l ≡ false
clash_each {l} K = untrue (one_region_each l) (λ e. K.apart (each_so l e K.one K.other K.one_in K.other_in))

-- ---- noting more

module _ (G : Granule) (Z : Sane G) {M : List ℕ} {l : List Standing} (K : Marked G M l) where
  -- one table
  note_table : (a t h : ℕ) → h < 4 → t < length M → Noting G (standing t (region (size_at G (suc h)) (base_at G a (suc h))) ∷ l) (note_one M t (region_number G a h))
  unfolding note_one
  note_table a t h low m = go (ℕ_discrete (get_or M t 0) 0)
    where
      s : Standing
      s = standing t (region (size_at G (suc h)) (base_at G a (suc h)))

      c : ℕ
      c = region_number G a h

      own : (N : List ℕ) → get_or N t 0 ≡ c → Shown G N s
      own N e = record { around = a; height = h; low = low; size_is = refl; first_is = refl; mark = e }

      -- a table that is shown is marked
      other : (q : Standing) → get_or M t 0 ≡ 0 → Shown G M q → Shown G (set M t c) q
      other q z Q = record {
        around = Q.around;
        height = Q.height;
        low = Q.low;
        size_is = Q.size_is;
        first_is = Q.first_is;
        mark = get_or-set_other M t q.table c 0 (λ y. omega (arith, Q.mark, ap (λ (x : ℕ). get_or M x 0) y ∙ z)) ∙ Q.mark;
      }

      fresh : get_or M t 0 ≡ 0 → Marked G (set M t c) (s ∷ l)
      fresh z = record {
        shown = λ q i. ⊎_elim (λ e. subst (Shown G (set M t c)) (sym e) (own (set M t c) (get_or-set_same M t c 0 m))) (λ j. other q z (K.shown q j)) (Memᴰ.cases_cons i);
        only = λ u n. at u n (ℕ_discrete t u);
      }
        where
          at : (u : ℕ) → get_or (set M t c) u 0 ≢ 0 → Dec (t ≡ u) → (q : Standing) × Memᴰ q (s ∷ l) × (q.table ≡ u)
          at u n (yes e) = (s, here refl, e)
          at u n (no e) = let (q, i, y) = K.only u (λ w. n (get_or-set_other M t u c 0 (λ y. e (sym y)) ∙ w)) in (q, there i, y)

      met : get_or M t 0 ≢ 0 → (y : Bool) → eqb (get_or M t 0) c ≡ y → Noting G (s ∷ l) (noted y M)
      met n true e = agreed (record {
        shown = λ q i. ⊎_elim (λ z. subst (Shown G M) (sym z) (own M (eqb-true _ _ e))) (K.shown q) (Memᴰ.cases_cons i);
        only = λ u n. let (q, i, y) = K.only u n in (q, there i, y);
      })
      met n false e =
          let (q, i, z) = K.only t n in
          clashes (record {
            one = s;
            other = q;
            one_in = here refl;
            other_in = there i;
            apart = λ f. wrong q z (K.shown q i) (f (sym z));
          })
        where
          wrong : (q : Standing) → q.table ≡ t → Shown G M q → (size_at G (suc h) ≡ q.stands_for.size) × (base_at G a (suc h) ≡ q.stands_for.first) → ⊥
          wrong q z Q (u, v) =
              eqb-false _ _ e (ap (λ (x : ℕ). get_or M x 0) (sym z) ∙ Q.mark ∙ sym (one_number G Z a Q.around h Q.height (u ∙ Q.size_is) (v ∙ Q.first_is)))

      go : Dec (get_or M t 0 ≡ 0) → Noting G (s ∷ l) (cond (eqb (get_or M t 0) 0) (noted true (set M t c)) (noted (eqb (get_or M t 0) c) M))
      go (yes z) = rw (eq-eqb _ _ z) (agreed (fresh z))
      go (no n) = rw (ne_eqb _ _ n) (met n (eqb (get_or M t 0) c) refl)

  note_length : (t c : ℕ) → length (note_one M t c).marks ≡ length M
  unfolding note_one
  note_length t c = go (eqb (get_or M t 0) 0)
    where
      go : (y : Bool) → length (cond y (noted true (set M t c)) (noted (eqb (get_or M t 0) c) M)).marks ≡ length M
      go true = length-set M t c
      go false = refl

-- the tables of a way
note_tables : (G : Granule) → Sane G → (a : ℕ) (way : List ℕ) (d h : ℕ) {M : List ℕ} {l : List Standing} → Marked G M l → h + d ≤ 4
    → ((j : ℕ) → h ≤ j → j < h + d → at_height way j < length M) → Noting G (on_way G a way h d ++ l) (note_from G M a way h d)
unfolding note_from on_way
note_tables G Z a way zero h K low m = agreed K
note_tables G Z a way (suc d) h {M} {l} K low m =
    go (note_one M t c) (note_table G Z K a t h (omega arith) (m h (omega arith) (omega arith))) (note_length G Z K t c)
    (λ N K' e. note_tables G Z a way d (suc h) K' (omega arith) (λ j u v. subst (λ (x : ℕ). at_height way j < x) (sym e) (m j (omega arith) (omega arith))))
  where
    t : ℕ
    t = at_height way h

    c : ℕ
    c = region_number G a h

    s : Standing
    s = standing_at G a way h

    rest : List Standing
    rest = on_way G a way (suc h) d

    go : (n : Noted) → Noting G (s ∷ l) n → length n.marks ≡ length M
        → ((N : List ℕ) → Marked G N (s ∷ l) → length N ≡ length M → Noting G (rest ++ (s ∷ l)) (note_from G N a way (suc h) d))
        → Noting G (s ∷ (rest ++ l)) (cond n.fine (note_from G n.marks a way (suc h) d) n)
    go n (agreed K') e ih =
        noting_like (ih _ K' e)
        (λ q i. ⊎_elim (λ j. there (Memᴰ.append_left l j)) (λ j. ⊎_elim (λ z. here z) (λ k. there (Memᴰ.append_right rest k)) (Memᴰ.cases_cons j)) (Memᴰ.append_cases rest i))
        (λ q i. ⊎_elim (λ z. Memᴰ.append_right rest (here z)) (λ j. ⊎_elim (λ k. Memᴰ.append_left (s ∷ l) k) (λ k. Memᴰ.append_right rest (there k)) (Memᴰ.append_cases rest j)) (Memᴰ.cases_cons i))
    go n (clashes K') e ih =
        clashes (clash_like K' (λ q i. ⊎_elim (λ z. here z) (λ k. there (Memᴰ.append_right rest k)) (Memᴰ.cases_cons i)))

-- ---- the walks

pub on_ways_append : (G : Granule) (levels : ℕ) (ws vs : List Probe) → on_ways G levels (ws ++ vs) ≡ on_ways G levels ws ++ on_ways G levels vs
unfolding on_ways
on_ways_append G levels [] vs = refl
on_ways_append G levels (w ∷ ws) vs =
    ap (λ (l : List Standing). on_way G w.at w.end.tables w.end.left (levels - w.end.left) ++ l) (on_ways_append G levels ws vs)
    ∙ sym (append_assoc (on_way G w.at w.end.tables w.end.left (levels - w.end.left)) (on_ways G levels ws) (on_ways G levels vs))

-- one more walk is noted
pub note_walk : (G : Granule) → Sane G → (levels : ℕ) → levels ≤ 4 → (ws : List Probe) (w : Probe) {M : List ℕ} → Marked G M (on_ways G levels ws)
    → w.end.left ≤ levels → w.at < physical → ((j : ℕ) → w.end.left ≤ j → j < levels → at_height w.end.tables j < length M)
    → Noting G (on_ways G levels (ws ++ (w ∷ []))) (note_way G M w.at w.end.tables w.end.left levels)
unfolding on_ways
note_walk G Z levels few ws w {M} K low near m =
    subst (Noting G (on_ways G levels (ws ++ (w ∷ [])))) (sym (way_in G M w.at w.end.tables w.end.left levels few near))
    (noting_like (note_tables G Z w.at w.end.tables (levels - w.end.left) w.end.left K (omega arith) (λ j u v. m j u (omega arith)))
    (λ q i. subst (Memᴰ q) (sym (on_ways_append G levels ws (w ∷ []))) (⊎_elim (λ j. Memᴰ.append_right (on_ways G levels ws) (Memᴰ.append_left [] j)) (λ j. Memᴰ.append_left (own ++ []) j) (Memᴰ.append_cases own i)))
    (λ q i. ⊎_elim (λ j. Memᴰ.append_right own j) (λ j. ⊎_elim (λ k. Memᴰ.append_left (on_ways G levels ws) k) (λ k. absurd (Memᴰ.not-nil k)) (Memᴰ.append_cases own j)) (Memᴰ.append_cases (on_ways G levels ws) (subst (Memᴰ q) (on_ways_append G levels ws (w ∷ [])) i))))
  where
    own : List Standing
    own = on_way G w.at w.end.tables w.end.left (levels - w.end.left)

-- walks that come to no more tables are noted already
pub marked_more : {G : Granule} (levels : ℕ) {M : List ℕ} (ws vs : List Probe) → Marked G M (on_ways G levels ws) → Within (on_ways G levels vs) (on_ways G levels ws)
    → Marked G M (on_ways G levels (ws ++ vs))
marked_more {G} levels ws vs K f =
    subst (Marked G _) (sym (on_ways_append G levels ws vs))
    (marked_like K (λ q i. Memᴰ.append_left (on_ways G levels vs) i) (λ q i. ⊎_elim (λ j. j) (f q) (Memᴰ.append_cases (on_ways G levels ws) i)))

-- where walks clash, so do they with others after them
pub clash_more : (G : Granule) (levels : ℕ) (ws vs : List Probe) → Clash (on_ways G levels ws) → one_region_each (on_ways G levels (ws ++ vs)) ≡ false
clash_more G levels ws vs K =
    ap one_region_each (on_ways_append G levels ws vs) ∙ clash_each (clash_like K (λ q i. Memᴰ.append_left (on_ways G levels vs) i))

-- the standings of a walk are those of its heights
way_from : (G : Granule) (a : ℕ) (way : List ℕ) (d h : ℕ) (s : Standing) → Memᴰ s (on_way G a way h d) → (j : ℕ) × (h ≤ j) × (j < h + d) × (s ≡ standing_at G a way j)
unfolding on_way
way_from G a way zero h s i = absurd (Memᴰ.not-nil i)
way_from G a way (suc d) h s i =
    ⊎_elim (λ z. (h, omega arith, omega arith, z)) (λ k. let (j, u, v, e) = way_from G a way d (suc h) s k in (j, omega arith, omega arith, e)) (Memᴰ.cases_cons i)

pub ways_from : (G : Granule) (levels : ℕ) (ws : List Probe) (s : Standing) → Memᴰ s (on_ways G levels ws)
    → (w : Probe) × Memᴰ w ws × (j : ℕ) × (w.end.left ≤ j) × (j < levels) × (s ≡ standing_at G w.at w.end.tables j)
unfolding on_ways
ways_from G levels [] s i = absurd (Memᴰ.not-nil i)
ways_from G levels (w ∷ ws) s i =
    ⊎_elim
    (λ k. let (j, u, v, e) = way_from G w.at w.end.tables (levels - w.end.left) w.end.left s k in (w, here refl, j, u, omega arith, e))
    (λ k. let (x, y, j, u, v, e) = ways_from G levels ws s k in (x, there y, j, u, v, e))
    (Memᴰ.append_cases (on_way G w.at w.end.tables w.end.left (levels - w.end.left)) i)

-- ---- tables on no way

-- the places of a walk's tables: those that it came to, and 0
pub record Placed (levels : ℕ) (w : Probe) : Type 0 where
  pub places : length w.end.tables ≡ 4
  pub below : (j : ℕ) → j < w.end.left → j < 4 → at_height w.end.tables j ≡ 0
  pub above : (j : ℕ) → levels ≤ j → j < 4 → at_height w.end.tables j ≡ 0

ways_mem : (ws : List Probe) (t : ℕ) → Memᴰ t (ways ws) → (w : Probe) × Memᴰ w ws × Memᴰ t w.end.tables
unfolding ways
ways_mem [] t i = absurd (Memᴰ.not-nil i)
ways_mem (w ∷ ws) t i = ⊎_elim (λ j. (w, here refl, j)) (λ j. let (x, y, z) = ways_mem ws t j in (x, there y, z)) (Memᴰ.append_cases w.end.tables i)

module _ {G : Granule} {levels : ℕ} (few : levels ≤ 4) {M : List ℕ} (ws : List Probe) (K : Marked G M (on_ways G levels ws)) (P : (w : Probe) → Memᴰ w ws → Placed levels w) where
  -- a table that is not marked stands on no way
  pub unmarked : (t : ℕ) → t ≢ 0 → get_or M t 0 ≡ 0 → among t (ways ws) ≡ false
  unmarked t n e = among_none t (ways ws) (λ i. on (ways_mem ws t i))
    where
      on : (w : Probe) × Memᴰ w ws × Memᴰ t w.end.tables → ⊥
      on (w, i, j) =
          let (k, l, q) = mem_at w.end.tables j in
          at k (omega (arith, (P w i).places)) q (dec_lt (3 - k) w.end.left) (dec_lt (3 - k) levels)
        where
          at : (k : ℕ) → k < 4 → get_or w.end.tables k 0 ≡ t → Dec (3 - k < w.end.left) → Dec (3 - k < levels) → ⊥
          at k l q x y = by x y
            where
              same : at_height w.end.tables (3 - k) ≡ t
              same = ap (λ (z : ℕ). get_or w.end.tables z 0) (omega arith) ∙ q

              by : Dec (3 - k < w.end.left) → Dec (3 - k < levels) → ⊥
              by (yes u) v = n (sym same ∙ (P w i).below (3 - k) u (omega arith))
              by (no u) (no v) = n (sym same ∙ (P w i).above (3 - k) (omega arith) (omega arith))
              by (no u) (yes v) =
                  let S = K.shown (standing_at G w.at w.end.tables (3 - k)) (ways_has G levels ws w i (3 - k) (omega arith) v) in
                  omega (arith, S.mark, ap (λ (z : ℕ). get_or M z 0) same ∙ e)

  -- one that is marked does
  pub marked_way : (t : ℕ) → get_or M t 0 ≢ 0 → among t (ways ws) ≡ true
  marked_way t n = on (K.only t n)
    where
      on : (s : Standing) × Memᴰ s (on_ways G levels ws) × (s.table ≡ t) → among t (ways ws) ≡ true
      on (s, i, e) =
          let (w, x, j, u, v, q) = ways_from G levels ws s i in
          mem_among t (ways ws)
          (tables_in_lem ws w x t (subst (λ (z : ℕ). Memᴰ z w.end.tables) (sym (ap (λ (y : Standing). y.table) q) ∙ e) (at_mem w.end.tables (3 - j) (omega (arith, (P w x).places)))))

-- a walk from a table of height h writes the places from where it ended up to that height
module _ (G : Granule) (area : Area) (ws : List ℕ) (target : ℕ) (path : List ℕ) where
  abbrev from : ℕ → List ℕ → ℕ → Walked
  from h way t = walk_from G ws area target path h way t

  abbrev Kept : List ℕ → ℕ → Walked → Type 0
  Kept way h o = (length o.tables ≡ length way) × ((j : ℕ) → (j < o.left) ⊎ (h < j) → j < 4 → at_height o.tables j ≡ at_height way j)

  set_kept : (way : List ℕ) (h t j : ℕ) → h < 4 → (j < h) ⊎ (h < j) → j < 4 → at_height (set way (3 - h) t) j ≡ at_height way j
  set_kept way h t j l (inl a) m = get_or-set_other way (3 - h) (3 - j) t 0 (λ z. omega arith)
  set_kept way h t j l (inr a) m = get_or-set_other way (3 - h) (3 - j) t 0 (λ z. omega arith)

  own_kept : (way : List ℕ) (h t : ℕ) (e : Entry) → h < 4 → Kept way h (stop e h (set way (3 - h) t))
  own_kept way h t e l = (length-set way (3 - h) t, λ j a m. set_kept way h t j l a m)

  walk_kept : (h : ℕ) (way : List ℕ) (t : ℕ) → h < 4 → Kept way h (from h way t)
  unfolding walk_from onward
  walk_kept zero way t l = own_kept way zero t (read_by G area ws path zero t) l
  walk_kept (suc h) way t l = go (read_by G area ws path (suc h) t) (λ c. walk_kept h way' c (omega arith))
    where
      way' : List ℕ
      way' = set way (3 - suc h) t

      up : (o : Walked) → o.left ≤ h → Kept way' h o → Kept way (suc h) o
      up o low (e, f) = (e ∙ length-set way (3 - suc h) t, λ j a m. ⊎_elim (λ b. f j (inl b) m ∙ set_kept way (suc h) t j l (inl (omega arith)) m) (λ b. f j (inr (omega arith)) m ∙ set_kept way (suc h) t j l (inr b) m) a)

      again : Kept way (suc h) (stop Damaged h way')
      again = (length-set way (3 - suc h) t, λ j a m. set_kept way (suc h) t j l (⊎_elim (λ b. inl (omega arith)) inr a) m)

      go : (e : Entry) → ((c : ℕ) → Kept way' h (from h way' c)) → Kept way (suc h) (onward e target h way' (λ c. from h way' c))
      go Empty ih = own_kept way (suc h) t Empty l
      go (Frame b k) ih = own_kept way (suc h) t (Frame b k) l
      go Damaged ih = own_kept way (suc h) t Damaged l
      go (Table c) ih = on (leb (suc h) target) (among c way')
        where
          on : (x y : Bool) → Kept way (suc h) (cond x (stop (Table c) (suc h) way') (cond y (stop Damaged h way') (from h way' c)))
          on true y = own_kept way (suc h) t (Table c) l
          on false true = again
          on false false = up (from h way' c) (left_low G area ws target path h way' c) (ih c)

pub walk_placed : (G : Granule) (p : Pool) → 0 < p.numbers.levels → p.numbers.levels ≤ 4 → (target x : ℕ) → Placed p.numbers.levels (probe x (walk_to G p target x))
unfolding all_zero
walk_placed G p some few target x =
    let (e, f) = walk_kept G (area_of p.numbers) p.words target (path_of G x) (p.numbers.levels - 1) no_way 0 (omega arith) in
    record {
      places = e;
      below = λ j a m. f j (inl a) m ∙ all_zero_at no_way refl (3 - j);
      above = λ j a m. f j (inr (omega arith)) m ∙ all_zero_at no_way refl (3 - j);
    }
