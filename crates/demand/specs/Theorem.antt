-- Demand 3 is met, from any pool that holds a ledger, by any sequence of calls; and so from a fresh format, and from a pool that the audit accepts.
use Rattle.std.specs.Prelude.{◌≡◌, ℕ, ◌+◌, ◌-◌, ◌*◌, ◌%◌, ltb, leb, eqb, take, replicate}
use Rattle.std.proofs.Math.Path.{refl}
use Rattle.std.proofs.Common.{ap, sym, ◌∙◌, subst, ⊎_elim}
use Rattle.std.proofs.Math.Logic.{◌≢◌}
use Rattle.std.proofs.Math.Bool.{Bool, true, false, cond}
use mathlib.Core.List.Memᴰ
use mathlib.Core.List.{List, [], ◌∷◌, Memᴰ}
use Rattle.std.proofs.Math.Option.{Option, some, none}
use native.Mathlib.Omega.{arith}
use Rattle.std.proofs.Math.ListN.{length}
use Rattle.laws.specs.Lists.{down}
use Rattle.path.specs.Geometry.{Granule, granule_of, entries, page_size, space_of, physical, height_of, Sane}
use Rattle.path.specs.Laws.{granule_sane, good_numbers_lem}
use Rattle.path.specs.Areas.{Area, area_of, one_region, with_second, total, meets_area}
use Rattle.path.specs.Numbers.{no_setup, setup_of, good_numbers, good_adding}
use Rattle.model.specs.Answers.{Answer, formatted, added, took, gave, cleared, audited, refused, Mapping, mapping, Pool, pool, Done, done, refuse}
use Rattle.model.specs.Calls.{format_w, format_n, map_tests, unmap_tests}
use Rattle.model.specs.Audit.{audit_w, none_inside}
use Rattle.model.proofs.GranuleLaws.{format_accepted}
use Rattle.model.specs.Sound.{mappings_of}
use Rattle.model.specs.Ledger.{Ledger, ledger, with_live, any_overlap, cover_of, drop_at, tables_needed, free_tables, tables_lacking, Entered, entered, format_l, add_l, query_of, query_l, map_l, unmap_of, unmap_l, audit_l, sorted, list_l}
use Rattle.model.specs.Listing.{from_on, listed_of}
use Rattle.model.proofs.ListingLaws.{lists_not}
use Rattle.model.specs.Ranges.{good_length, map_range_tests, unmap_range_tests, pieces, gain, gain_of, map_range_l, any_cut, drop_in, clear_of, unmap_range_l}
use Rattle.demand.specs.Holds.{ledger_of, Holds}
use Rattle.demand.specs.Sims.{Sim, holds_sim, sim_holds}
use Rattle.demand.specs.Queries.{own, ledger_is, query_own}
use Rattle.demand.specs.Maps.{Alike, ledger_map, own_sim}
use Rattle.demand.specs.Steps.{map_step, unmap_step}
use Rattle.demand.specs.RangeMaps.{map_range_step}
use Rattle.demand.specs.RangeUnmaps.{unmap_range_step}
use Rattle.demand.specs.Others.{fresh_sim, audit_own, accepted_holds}
use Rattle.demand.specs.Adds.{add_step}
use Rattle.demand.specs.Rest.{rests_own}
use Rattle.demand.specs.Listings.{list_alike}
use Rattle.demand.specs.Demand3.{Ask, query, audit, list_from, Call, format_c, add_c, map_c, unmap_c, map_range_c, unmap_range_c, ask_c, ask_w, ask_l, go_on, step_w, step_l, answers_w, answers_l, pool_after, ledger_after, Rests, Demand3}

module _ (G : Granule) (Z : Sane G) where
  -- one call, by the pool's own ledger
  module _ {p : Pool} {A : Ledger} (I : Sim G Z p A) where
    format_step : (levels : ℕ) (area : Area) → Alike G Z (step_w G p (format_c levels area)) (format_l G (own G Z I) levels area)
    unfolding format_w format_l
    format_step levels area = go (good_numbers G levels area p.cut (length p.words) (length p.list)) refl
      where
        same : good_numbers G levels area p.cut (length p.words) (length p.list) ≡ good_numbers G levels area (entries G * (area_of p.numbers).tables) (entries G * total (area_of p.numbers)) (total (area_of p.numbers))
        same = (λ i. good_numbers G levels area (I.good.numbers.cut_is i) (I.good.numbers.words_are i) (I.good.numbers.places_are i))

        left : Bool → Done
        left y = cond y (done formatted (pool (setup_of G levels area (total area - 1)) (replicate (length p.words) 0) p.cut (down (total area)))) (refuse 1 (pool no_setup p.words p.cut p.list))

        right : Bool → Entered
        right y = cond y (entered formatted (ledger levels area [])) (entered (refused 1) (own G Z I))

        on : (y : Bool) → good_numbers G levels area p.cut (length p.words) (length p.list) ≡ y → Alike G Z (go_on p (left y) (left y).answer) (right y)
        on true e = record { answer = refl; sim = fresh_sim G Z levels area p.words p.cut p.list (good_numbers_lem e) }
        on false e = record { answer = refl; sim = own_sim G Z I }

        go : (y : Bool) → good_numbers G levels area p.cut (length p.words) (length p.list) ≡ y → Alike G Z (go_on p (left (good_numbers G levels area p.cut (length p.words) (length p.list))) (left (good_numbers G levels area p.cut (length p.words) (length p.list))).answer) (right (good_numbers G levels area (entries G * (area_of p.numbers).tables) (entries G * total (area_of p.numbers)) (total (area_of p.numbers))))
        go y e = rw (sym same) (on (good_numbers G levels area p.cut (length p.words) (length p.list)) refl)

    ask_own : (q : Ask) → ask_w G p q ≡ ask_l G (own G Z I) q
    ask_own (query a) = query_own G Z I tt a
    ask_own audit = audit_own G Z I
    ask_own (list_from a places entries) = list_alike G Z (sim_holds G Z (own_sim G Z I)) a places entries

    step_own : (c : Call) → Alike G Z (step_w G p c) (step_l G (own G Z I) c)
    step_own (format_c l r) = format_step l r
    step_own (add_c q m second rest) = add_step G Z I q m second rest
    step_own (map_c a b s k) = map_step G Z (own_sim G Z I) a b s k
    step_own (unmap_c a) = unmap_step G Z (own_sim G Z I) a
    step_own (map_range_c a b l k) = map_range_step G Z (own_sim G Z I) a b l k
    step_own (unmap_range_c a l) = unmap_range_step G Z (own_sim G Z I) a l
    step_own (ask_c q) = record { answer = ask_own q; sim = own_sim G Z I }

    pub step_alike : (c : Call) → Alike G Z (step_w G p c) (step_l G A c)
    step_alike c = subst (λ (B : Ledger). Alike G Z (step_w G p c) (step_l G B c)) (sym (ledger_is G Z I)) (step_own c)

    pub rests : Rests G p A
    rests = subst (λ (B : Ledger). Rests G p B) (sym (ledger_is G Z I)) (rests_own G Z I (λ a. (unmap_step G Z (own_sim G Z I) a).answer))

  -- any sequence
  pub after_sim : (cs : List Call) {p : Pool} {A : Ledger} → Sim G Z p A → Sim G Z (pool_after G p cs) (ledger_after G A cs)
  after_sim [] I = I
  after_sim (c ∷ cs) I = after_sim cs (step_alike I c).sim

  pub answers_alike : (cs : List Call) {p : Pool} {A : Ledger} → Sim G Z p A → answers_w G p cs ≡ answers_l G A cs
  answers_alike [] I = refl
  answers_alike (c ∷ cs) I = let S = step_alike I c in let a = S.answer in let b = answers_alike cs S.sim in λ i. a i ∷ b i

  -- a ledger never answers 8
  another : (x : ℕ) → x ≢ 8 → refused x ≢ refused 8
  another x l e = let z : x ≡ 8 = cc in l z

  -- the numbers of map's tests are 2 to 5 and 11, or 0
  pub map_other : (levels : ℕ) (area : Area) (a b size k : ℕ) (x : ℕ) → (x ≢ 0) × (x ≢ 2) × (x ≢ 3) × (x ≢ 4) × (x ≢ 5) × (x ≢ 11)
      → map_tests G levels area a b size k ≢ x
  unfolding map_tests
  map_other levels area a b size k x d = go (ltb G.large (height_of G size)) (ltb 15 k) (leb (space_of G levels) a) (ltb (space_of G levels) (a + size)) (ltb physical (b + size)) (eqb (a % size) 0) (eqb (b % size) 0) (meets_area G area b size)
    where
      go : (x₁ x₂ x₃ x₄ x₅ x₆ x₇ x₈ : Bool) → cond x₁ 2 (cond x₂ 3 (cond x₃ 4 (cond x₄ 4 (cond x₅ 4 (cond x₆ (cond x₇ (cond x₈ 11 0) 5) 5))))) ≢ x
      go true x₂ x₃ x₄ x₅ x₆ x₇ x₈ = λ e. d.1 (sym e)
      go false true x₃ x₄ x₅ x₆ x₇ x₈ = λ e. d.2 (sym e)
      go false false true x₄ x₅ x₆ x₇ x₈ = λ e. d.3 (sym e)
      go false false false true x₅ x₆ x₇ x₈ = λ e. d.3 (sym e)
      go false false false false true x₆ x₇ x₈ = λ e. d.3 (sym e)
      go false false false false false false x₇ x₈ = λ e. d.4 (sym e)
      go false false false false false true false x₈ = λ e. d.4 (sym e)
      go false false false false false true true true = λ e. d.5 (sym e)
      go false false false false false true true false = λ e. d.0 (sym e)

  unmap_other : (levels a : ℕ) → unmap_tests G levels a ≢ 8
  unfolding unmap_tests
  unmap_other levels a = go (leb (space_of G levels) a) (eqb (a % page_size G) 0)
    where
      go : (x y : Bool) → ◌≢◌ {A = ℕ} (cond x 4 (cond y 0 5)) 8
      go true y = λ e. omega arith
      go false true = λ e. omega arith
      go false false = λ e. omega arith

  -- those of a range 2 to 5 and 11, or 0
  range_other : (levels : ℕ) (area : Area) (a b len k : ℕ) → map_range_tests G levels area a b len k ≢ 8
  unfolding map_range_tests
  range_other levels area a b len k = go (good_length G len) (ltb 15 k) (leb (space_of G levels) a) (ltb (space_of G levels) (a + len)) (ltb physical (b + len)) (eqb (a % page_size G) 0) (eqb (b % page_size G) 0) (meets_area G area b len)
    where
      go : (x₁ x₂ x₃ x₄ x₅ x₆ x₇ x₈ : Bool) → ◌≢◌ {A = ℕ} (cond x₁ (cond x₂ 3 (cond x₃ 4 (cond x₄ 4 (cond x₅ 4 (cond x₆ (cond x₇ (cond x₈ 11 0) 5) 5))))) 2) 8
      go false x₂ x₃ x₄ x₅ x₆ x₇ x₈ = λ e. omega arith
      go true true x₃ x₄ x₅ x₆ x₇ x₈ = λ e. omega arith
      go true false true x₄ x₅ x₆ x₇ x₈ = λ e. omega arith
      go true false false true x₅ x₆ x₇ x₈ = λ e. omega arith
      go true false false false true x₆ x₇ x₈ = λ e. omega arith
      go true false false false false false x₇ x₈ = λ e. omega arith
      go true false false false false true false x₈ = λ e. omega arith
      go true false false false false true true true = λ e. omega arith
      go true false false false false true true false = λ e. omega arith

  clear_other : (levels a len : ℕ) → unmap_range_tests G levels a len ≢ 8
  unfolding unmap_range_tests
  clear_other levels a len = go (good_length G len) (leb (space_of G levels) a) (ltb (space_of G levels) (a + len)) (eqb (a % page_size G) 0)
    where
      go : (x₁ x₂ x₃ x₄ : Bool) → ◌≢◌ {A = ℕ} (cond x₁ (cond x₂ 4 (cond x₃ 4 (cond x₄ 0 5))) 2) 8
      go false x₂ x₃ x₄ = λ e. omega arith
      go true true x₃ x₄ = λ e. omega arith
      go true false true x₄ = λ e. omega arith
      go true false false true = λ e. omega arith
      go true false false false = λ e. omega arith

  -- what holds of both answers holds of the one that a test chooses
  either : (b : Bool) (x y : Entered) → x.answer ≢ refused 8 → y.answer ≢ refused 8 → (cond b x y).answer ≢ refused 8
  either true x y p q = p
  either false x y p q = q

  other : {a : Answer} → (a ≡ refused 8 → ◌≡◌ {A = ℕ} 0 1) → a ≢ refused 8
  other f e = let z = f e in omega arith

  ask_never_eight : (A : Ledger) (q : Ask) → ask_l G A q ≢ refused 8
  unfolding query_l audit_l list_l
  ask_never_eight A (query a) = go (leb (space_of G A.levels) a) (cover_of a A.live)
    where
      go : (y : Bool) (m : Option Mapping) → cond y (refused 4) (query_of G A a m) ≢ refused 8
      go true m = another 4 (λ e. omega arith)
      go false none = other (λ e. cc)
      go false (some m) = other (λ e. cc)
  ask_never_eight A audit = other (λ e. cc)
  ask_never_eight A (list_from a places entries) = go (eqb places entries) (leb (space_of G A.levels) a) (from_on a (sorted A.live))
    where
      go : (x y : Bool) (L : List Mapping) → cond x (cond y (refused 4) (listed_of G places L)) (refused 1) ≢ refused 8
      go true true L = another 4 (λ e. omega arith)
      go true false L = lists_not G places L 8 []
      go false y L = another 1 (λ e. omega arith)

  never_eight : (A : Ledger) (c : Call) → (step_l G A c).answer ≢ refused 8
  unfolding format_l add_l map_l unmap_l unmap_of map_range_l gain_of unmap_range_l clear_of
  never_eight A (format_c l r) = either (good_numbers G l r (entries G * A.area.tables) (entries G * total A.area) (total A.area)) (entered formatted (ledger l r [])) (entered (refused 1) A) (other (λ e. cc)) (another 1 (λ e. omega arith))
  never_eight A (add_c q m second rest) =
      either (good_adding G A.levels A.area q m (entries G * A.area.tables) (entries G * A.area.tables + length second) (free_tables G A + length rest))
      (cond (none_inside G (one_region q m) A.live) grew (entered (refused 11) A)) (entered (refused 1) A)
      (either (none_inside G (one_region q m) A.live) grew (entered (refused 11) A) (other (λ e. cc)) (other (λ e. cc)))
      (other (λ e. cc))
    where
      grew : Entered
      grew = entered added (ledger A.levels (with_second A.area q m) A.live)
  never_eight A (map_c a b s k) =
      let no = map_tests G A.levels A.area a b s k in
      let need = tables_lacking G A.levels A.live (mapping a b s k) in
      let taken = entered (took need) (with_live A (mapping a b s k ∷ A.live)) in
      either (eqb no 0) (ledger_map G A a b s k) (entered (refused no) A)
      (either (any_overlap a s A.live) (entered (refused 6) A) (cond (ltb (free_tables G A) need) (entered (refused 7) A) taken) (other (λ e. cc))
      (either (ltb (free_tables G A) need) (entered (refused 7) A) taken (other (λ e. cc)) (other (λ e. cc))))
      (another no (map_other A.levels A.area a b s k 8 (omega arith)))
  never_eight A (unmap_c a) = either (eqb (unmap_tests G A.levels a) 0) (unmap_of G A a (cover_of a A.live)) (entered (refused (unmap_tests G A.levels a)) A) (on (cover_of a A.live)) (another (unmap_tests G A.levels a) (unmap_other A.levels a))
    where
      on : (m : Option Mapping) → (unmap_of G A a m).answer ≢ refused 8
      on none = other (λ e. cc)
      on (some m) = either (eqb m.at a) (entered (gave m.frame m.size m.attributes (free_tables G (with_live A (drop_at a A.live)) - free_tables G A)) (with_live A (drop_at a A.live))) (entered (refused 10) A) (other (λ e. cc)) (other (λ e. cc))
  never_eight A (map_range_c a b l k) =
      let no = map_range_tests G A.levels A.area a b l k in
      let L = gain (pieces G a b l k) A.live in
      let need = tables_needed G A.levels L - tables_needed G A.levels A.live in
      let taken = entered (took need) (with_live A L) in
      either (eqb no 0) (gain_of G A a l L) (entered (refused no) A)
      (either (any_overlap a l A.live) (entered (refused 6) A) (cond (ltb (free_tables G A) need) (entered (refused 7) A) taken) (other (λ e. cc))
      (either (ltb (free_tables G A) need) (entered (refused 7) A) taken (other (λ e. cc)) (other (λ e. cc))))
      (another no (range_other A.levels A.area a b l k))
  never_eight A (unmap_range_c a l) =
      let no = unmap_range_tests G A.levels a l in
      let L = drop_in a l A.live in
      let gone = entered (cleared (length A.live - length L) (free_tables G (with_live A L) - free_tables G A)) (with_live A L) in
      either (eqb no 0) (clear_of G A a l) (entered (refused no) A)
      (either (any_cut a l A.live) (entered (refused 10) A) gone (other (λ e. cc)) (other (λ e. cc)))
      (another no (clear_other A.levels a l))
  never_eight A (ask_c q) = ask_never_eight A q

  never : (A : Ledger) (cs : List Call) (a : Answer) → Memᴰ a (answers_l G A cs) → a ≢ refused 8
  never A [] a m = absurd (Memᴰ.not-nil m)
  never A (c ∷ cs) a m = ⊎_elim (λ e q. never_eight A c (sym e ∙ q)) (never (step_l G A c).after cs a) (Memᴰ.cases_cons m)

  -- demand 3
  pub demand3 : {p : Pool} {A : Ledger} → Holds G p A → (cs : List Call) → Demand3 G p A cs
  demand3 {p} {A} H cs = record {
    answers = answers_alike cs I;
    sound = λ a m. never A cs a (subst (λ (l : List Answer). Memᴰ a l) (answers_alike cs I) m);
    after = λ j. rests (after_sim (take j cs) I);
  }
    where
      I : Sim G Z p A
      I = holds_sim G Z H

  -- from a fresh format of any memory
  pub from_format : (levels : ℕ) (area : Area) (ws : List ℕ) (cut : ℕ) (list : List ℕ) → (format_w G levels area ws cut list).answer ≡ formatted → (cs : List Call)
      → Demand3 G (format_w G levels area ws cut list).after (ledger levels area []) cs
  unfolding format_w
  from_format levels area ws cut list e cs = go (good_numbers G levels area cut (length ws) (length list)) refl e
    where
      left : Bool → Done
      left y = cond y (done formatted (pool (setup_of G levels area (total area - 1)) (replicate (length ws) 0) cut (down (total area)))) (refuse 1 (pool no_setup ws cut list))

      go : (y : Bool) → good_numbers G levels area cut (length ws) (length list) ≡ y → (left y).answer ≡ formatted → Demand3 G (left y).after (ledger levels area []) cs
      go true q e = demand3 (sim_holds G Z (fresh_sim G Z levels area ws cut list (good_numbers_lem q))) cs
      go false q e = let z : ◌≡◌ {A = ℕ} 0 1 = cc in absurd (omega arith)

  -- from a pool that the audit accepts: the ledger is that pool's mappings
  pub from_audit : (p : Pool) (t m : ℕ) → audit_w G p ≡ audited t m → (cs : List Call)
      → Demand3 G p (ledger p.numbers.levels (area_of p.numbers) (mappings_of G p)) cs
  from_audit p t m e cs = demand3 (accepted_holds G Z p t m e) cs

  -- one call, as the contracts say it
  pub step_holds : {p : Pool} {A : Ledger} → Holds G p A → (c : Call) → ((step_w G p c).answer ≡ (step_l G A c).answer) × Holds G (step_w G p c).after (step_l G A c).after
  step_holds H c = let S = step_alike (holds_sim G Z H) c in (S.answer, sim_holds G Z S.sim)

-- ---- both granules: the one that a number names

-- a format with that number, of any memory
pub format_demand : (number levels : ℕ) (area : Area) (ws : List ℕ) (cut : ℕ) (list : List ℕ) → (format_n number levels area ws cut list).answer ≡ formatted → (cs : List Call)
    → Demand3 (granule_of number) (format_n number levels area ws cut list).after (ledger levels area []) cs
format_demand number levels area ws cut list e cs =
    let same = format_accepted number levels area ws cut list e in
    subst (λ (d : Done). Demand3 (granule_of number) d.after (ledger levels area []) cs) (sym same)
    (from_format (granule_of number) (granule_sane number) levels area ws cut list (sym (ap (λ (d : Done). d.answer) same) ∙ e) cs)

-- a pool that the audit accepts, by the number in its setup
pub audit_demand : (p : Pool) (t m : ℕ) → audit_w (granule_of p.numbers.granule) p ≡ audited t m → (cs : List Call)
    → Demand3 (granule_of p.numbers.granule) p (ledger_of (granule_of p.numbers.granule) p) cs
audit_demand p = from_audit (granule_of p.numbers.granule) (granule_sane p.numbers.granule) p

-- a pool that holds a ledger
pub demand3_of : (number : ℕ) {p : Pool} {A : Ledger} → Holds (granule_of number) p A → (cs : List Call) → Demand3 (granule_of number) p A cs
demand3_of number H cs = demand3 (granule_of number) (granule_sane number) H cs
