-- The customer's story: a map that lacked tables is accepted after an add, if its frame is not in the new region and the tables now suffice.
use Rattle.std.specs.Prelude.{◌≡◌, Bool, true, false, cond, List, ◌∷◌, ltb, leb, eqb, length}
use Rattle.std.proofs.Math.Path.{refl, ap}
use Rattle.std.proofs.Common.{sym, ◌∙◌, subst, inl, ⊎_elim, arith}
use Prim.Native.Nat.{ℕ, suc, ◌+◌, ◌*◌, ◌%◌, ◌≤◌}
use borrow.Author.Tests.{eqb-true, le-ltb}
use Rattle.path.specs.Geometry.{Granule, Sane, entries, space_of, physical, height_of}
use Rattle.path.specs.Areas.{Area, one_region, with_second, total, Shares, meets_area}
use Rattle.path.specs.Numbers.{good_adding}
use Rattle.path.specs.Laws.{good_adding_lem, apart_meets}
use Rattle.model.specs.Answers.{added, took, refused, mapping, Pool}
use Rattle.model.specs.Calls.{map_tests, map_w}
use Rattle.model.specs.Audit.{none_inside}
use Rattle.model.specs.Ledger.{Ledger, ledger, with_live, any_overlap, tables_needed, tables_lacking, free_tables, Entered, entered, add_l, map_l}
use Rattle.demand.specs.Holds.{Holds}
use Rattle.demand.specs.Sims.{Sim, holds_sim}
use Rattle.demand.specs.Queries.{ledger_is}
use Rattle.demand.specs.Maps.{tests_fine, count_is}
use Rattle.demand.specs.Demand3.{add_c, map_c, step_w, step_l}
use Rattle.demand.specs.Theorem.{map_other, step_holds}

-- the tests of a map with another area, where its frame shares no byte with that either
tests_with : (G : Granule) (levels : ℕ) (r s : Area) (a b size k : ℕ) → map_tests G levels r a b size k ≡ 0 → (Shares G s b size → ⊥) → map_tests G levels s a b size k ≡ 0
unfolding map_tests
tests_with G levels r s a b size k e f =
    rw (apart_meets {area = s} f)
    (go (ltb G.large (height_of G size)) (ltb 15 k) (leb (space_of G levels) a) (ltb (space_of G levels) (a + size)) (ltb physical (b + size)) (eqb (a % size) 0) (eqb (b % size) 0) (meets_area G r b size) e)
  where
    go : (x₁ x₂ x₃ x₄ x₅ x₆ x₇ x₈ : Bool) → ◌≡◌ {A = ℕ} (cond x₁ 2 (cond x₂ 3 (cond x₃ 4 (cond x₄ 4 (cond x₅ 4 (cond x₆ (cond x₇ (cond x₈ 11 0) 5) 5)))))) 0
        → ◌≡◌ {A = ℕ} (cond x₁ 2 (cond x₂ 3 (cond x₃ 4 (cond x₄ 4 (cond x₅ 4 (cond x₆ (cond x₇ 0 5) 5)))))) 0
    go true x₂ x₃ x₄ x₅ x₆ x₇ x₈ e = absurd (omega arith)
    go false true x₃ x₄ x₅ x₆ x₇ x₈ e = absurd (omega arith)
    go false false true x₄ x₅ x₆ x₇ x₈ e = absurd (omega arith)
    go false false false true x₅ x₆ x₇ x₈ e = absurd (omega arith)
    go false false false false true x₆ x₇ x₈ e = absurd (omega arith)
    go false false false false false false x₇ x₈ e = absurd (omega arith)
    go false false false false false true false x₈ e = absurd (omega arith)
    go false false false false false true true x₈ e = refl

module _ (G : Granule) (Z : Sane G) where
  -- a ledger that answers 7 has passed the tests, and no live mapping overlaps
  seven : (A : Ledger) (a b size k : ℕ) → (map_l G A a b size k).answer ≡ refused 7 → (map_tests G A.levels A.area a b size k ≡ 0) × (any_overlap a size A.live ≡ false)
  unfolding map_l
  seven A a b size k = go (eqb no 0) (any_overlap a size A.live) refl refl
    where
      no : ℕ
      no = map_tests G A.levels A.area a b size k

      rest : Entered
      rest =
          let need = tables_lacking G A.levels A.live (mapping a b size k) in
          cond (ltb (free_tables G A) need) (entered (refused 7) A) (entered (took need) (with_live A (mapping a b size k ∷ A.live)))

      go : (x y : Bool) → eqb no 0 ≡ x → any_overlap a size A.live ≡ y → (cond x (cond y (entered (refused 6) A) rest) (entered (refused no) A)).answer ≡ refused 7
          → (no ≡ 0) × (any_overlap a size A.live ≡ false)
      go true false p q e = (eqb-true no 0 p, q)
      go true true p q e = let z : ◌≡◌ {A = ℕ} 6 7 = cc in absurd (omega arith)
      go false y p q e = absurd (map_other G Z A.levels A.area a b size k 7 (omega arith) (let z : no ≡ 7 = cc in z))

  -- a ledger that answers an add has the new region, and had none
  grew : (A : Ledger) (q m second places : ℕ) → (add_l G A q m second places).answer ≡ added
      → (A.area.tables₂ ≡ 0) × ((add_l G A q m second places).after ≡ ledger A.levels (with_second A.area q m) A.live)
  unfolding add_l
  grew A q m second places = go (good_adding G A.levels A.area q m (entries G * A.area.tables) (entries G * A.area.tables + second) places) (none_inside G (one_region q m) A.live) refl
    where
      new : Ledger
      new = ledger A.levels (with_second A.area q m) A.live

      came : Bool → Bool → Entered
      came x y = cond x (cond y (entered added new) (entered (refused 11) A)) (entered (refused 1) A)

      go : (x y : Bool) → good_adding G A.levels A.area q m (entries G * A.area.tables) (entries G * A.area.tables + second) places ≡ x
          → (came x y).answer ≡ added → (A.area.tables₂ ≡ 0) × ((came x y).after ≡ new)
      go true true p e = ((good_adding_lem p).one_yet.1, refl)
      go true false p e = let z : ◌≡◌ {A = ℕ} 0 1 = cc in absurd (omega arith)
      go false y p e = let z : ◌≡◌ {A = ℕ} 0 1 = cc in absurd (omega arith)

  -- a ledger where nothing stands in the way of a map
  takes : (A : Ledger) (a b size k : ℕ) → map_tests G A.levels A.area a b size k ≡ 0 → any_overlap a size A.live ≡ false
      → tables_lacking G A.levels A.live (mapping a b size k) ≤ free_tables G A
      → (map_l G A a b size k).answer ≡ took (tables_lacking G A.levels A.live (mapping a b size k))
  unfolding map_l
  takes A a b size k t o l = rw (t, o, le-ltb (free_tables G A) (tables_lacking G A.levels A.live (mapping a b size k)) l)

  pub story : {p : Pool} {A : Ledger} → Holds G p A → (a b size k q m : ℕ) (second rest : List ℕ)
      -- a map is refused for want of tables,
      → (map_w G p a b size k).answer ≡ refused 7
      -- an add is accepted,
      → (step_w G p (add_c q m second rest)).answer ≡ added
      -- the map's frame is not in the new region, and the tables now suffice:
      → (Shares G (one_region q m) b size → ⊥)
      → tables_lacking G A.levels A.live (mapping a b size k) ≤ p.numbers.free + m
      -- then the map takes them
      → (map_w G (step_w G p (add_c q m second rest)).after a b size k).answer ≡ took (tables_lacking G A.levels A.live (mapping a b size k))
  unfolding free_tables
  story {p} {A} H a b size k q m second rest lacked came off enough =
      (step_holds G Z (step_holds G Z H (add_c q m second rest)).1 (map_c a b size k)).0
      ∙ ap (λ (B : Ledger). (map_l G B a b size k).answer) new.1
      ∙ takes B a b size k tests before.1 (omega (arith, free))
    where
      before : (map_tests G A.levels A.area a b size k ≡ 0) × (any_overlap a size A.live ≡ false)
      before = seven A a b size k (sym (step_holds G Z H (map_c a b size k)).0 ∙ lacked)

      new : (A.area.tables₂ ≡ 0) × ((step_l G A (add_c q m second rest)).after ≡ ledger A.levels (with_second A.area q m) A.live)
      new = grew A q m (length second) (free_tables G A + length rest) (sym (step_holds G Z H (add_c q m second rest)).0 ∙ came)

      B : Ledger
      B = ledger A.levels (with_second A.area q m) A.live

      apart : Shares G (with_second A.area q m) b size → ⊥
      apart s = ⊎_elim
          (λ i. (tests_fine G A.levels A.area a b size k before.0).outside (record { byte = s.byte; starts = s.starts; ends = s.ends; inside = inl i }))
          (λ i. off (record { byte = s.byte; starts = s.starts; ends = s.ends; inside = inl i }))
          s.inside

      tests : map_tests G B.levels B.area a b size k ≡ 0
      tests = tests_with G A.levels A.area (with_second A.area q m) a b size k before.0 apart

      I : Sim G Z p A
      I = holds_sim G Z H

      all : suc (p.numbers.free + tables_needed G A.levels A.live) ≡ total A.area
      all = subst (λ (C : Ledger). suc (p.numbers.free + tables_needed G C.levels C.live) ≡ total C.area) (sym (ledger_is G Z I)) (count_is G Z I tt tt)

      free : free_tables G B ≡ p.numbers.free + m
      free = omega (arith, all, new.0)
