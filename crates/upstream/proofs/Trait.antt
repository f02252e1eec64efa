-- pt_trait.rs, laws. The ledger that a pool holds is well-formed, map and unmap keep it so, and what a call does to the pool is what the state may do.
use Rattle.std.proofs.Math.Path.{◌≡◌, refl, ap}
use Rattle.std.proofs.Common.{sym, ◌∙◌, subst, inl, inr, ⊎_elim, arith}
use Rattle.std.specs.Prelude.{◌⊎◌, ◌↔◌, Bool, cond, ltb}
use mathlib.Core.Logic.Iff
use Rattle.std.proofs.Math.Bool.{true, false}
use Rattle.std.proofs.lemmas.Bool.{false≢true}
use mathlib.Core.List.Memᴰ
use mathlib.Core.List.Memᴰ.{head as here}
use mathlib.Core.List.Memᴰ.{tail as there}
use mathlib.Core.List.{List, [], ◌∷◌, Memᴰ}
use Rattle.std.proofs.Math.Option.{Option, some, none}
use Prim.Native.Nat.{ℕ, ◌+◌, ◌-◌, ◌%◌, ◌≤◌, ◌<◌}
use Rattle.std.proofs.Math.Dec.{leb, eqb}
use borrow.Author.Tests.{ltb-true, ltb-false, leb-false, eqb-true, eqb-false, le-ltb, le-leb, lt-leb, eq-eqb}
use Rattle.path.specs.Geometry.{Granule, page_size, size_at, space_of, physical, height_of, Sane}
use Rattle.path.specs.Areas.{Area, area_of, Shares, meets_area}
use Rattle.path.specs.Laws.{size_pos, size_divides, height_size, size_height, space_some, setup_good, shares_meets, apart_meets}
use Rattle.path.specs.RegionLaws.{multiple_gap}
use Rattle.model.specs.Answers.{Mapping, Answer, formatted, took, gave, found, refused, Pool, Done, refuse}
use Rattle.model.specs.Calls.{good_pool, walk_to, format_w, map_tests, map_at, map_w, unmap_tests, unmap_at, unmap_w, query_w}
use Rattle.model.specs.Sound.{Rising, mappings_of}
use Rattle.model.proofs.MappingLaws.{rising_within, pool_rises, pool_within, pool_well}
use Rattle.model.specs.Ledger.{Ledger, ledger, with_live, any_overlap, cover_of, drop_at, tables_lacking, free_tables, Entered, entered, map_l, unmap_of, unmap_l, query_of, query_l, audit_l}
use Rattle.demand.specs.Holds.{Holds}
use Rattle.demand.specs.Sims.{holds_sim}
use Rattle.demand.specs.Maps.{tests_fine}
use Rattle.demand.specs.Others.{accepted_holds}
use Rattle.demand.specs.Demand3.{map_c, unmap_c, query_c}
use Rattle.demand.specs.Theorem.{rests, step_holds, from_format}
use Rattle.upstream.specs.State.{Has, StartsAt, Overlap, Within, OverlapsVmem, SameMappings, SameConstants, Mappable, MapPre, Wf, Maps, UnmapPre, Unmaps, Queries}
use Rattle.model.proofs.LedgerLaws.{any_overlap_lem, cover_some, cover_none}
use Rattle.upstream.proofs.Facts.{drop_has}
use Rattle.upstream.specs.Trait.{view}

-- of mappings that rise, two that share a byte are one
rising_one : (lo hi : ℕ) (l : List Mapping) → Rising lo hi l → (m k : Mapping) → Memᴰ m l → Memᴰ k l → Overlap m.at m.size k.at k.size → m ≡ k
unfolding Rising
rising_one lo hi [] r m k i j o = absurd (Memᴰ.not-nil i)
rising_one lo hi (x ∷ l) r m k i j o = go (Memᴰ.cases_cons i) (Memᴰ.cases_cons j) (rising_one (x.at + x.size) hi l r.1 m k)
  where
    end : {y : Mapping} → y ≡ x → y.at + y.size ≡ x.at + x.size
    end e = ap (λ (z : Mapping). z.at + z.size) e

    later : (y : Mapping) → Memᴰ y l → x.at + x.size ≤ y.at
    later y i = (rising_within (x.at + x.size) hi l r.1 y i).0

    go : (m ≡ x) ⊎ Memᴰ m l → (k ≡ x) ⊎ Memᴰ k l → (Memᴰ m l → Memᴰ k l → Overlap m.at m.size k.at k.size → m ≡ k) → m ≡ k
    go (inl e) (inl f) ih = e ∙ sym f
    go (inl e) (inr j) ih = absurd (omega (arith, later k j, o.1, end e))
    go (inr i) (inl f) ih = absurd (omega (arith, later m i, o.0, end f))
    go (inr i) (inr j) ih = ih i j o

-- a state with no other mappings is well-formed too
wf_less : {G : Granule} {A B : Ledger} → Wf G A → SameConstants A B → ((k : Mapping) → Has B k → Has A k) → Wf G B
wf_less {G} w c f = record {
  each = λ m i. rw c.0 (w.each m (f m i));
  apart = λ m k i j. w.apart m k (f m i) (f k j);
}

-- a number that map refuses its arguments with: 2 to 5, or 11
abbrev Argument : ℕ → Type 0
Argument n = ((2 ≤ n) × (n ≤ 5)) ⊎ (n ≡ 11)

-- the tests of map's arguments answer 0, or such a number
tests_range : (G : Granule) (levels : ℕ) (area : Area) (a b size k : ℕ)
    → (map_tests G levels area a b size k ≡ 0) ⊎ Argument (map_tests G levels area a b size k)
unfolding map_tests
tests_range G levels area a b size k =
    go (ltb G.large (height_of G size)) (ltb 15 k) (leb (space_of G levels) a) (ltb (space_of G levels) (a + size)) (ltb physical (b + size))
    (eqb (a % size) 0) (eqb (b % size) 0) (meets_area G area b size)
  where
    number : Bool → Bool → Bool → Bool → Bool → Bool → Bool → Bool → ℕ
    number x₁ x₂ x₃ x₄ x₅ x₆ x₇ x₈ = cond x₁ 2 (cond x₂ 3 (cond x₃ 4 (cond x₄ 4 (cond x₅ 4 (cond x₆ (cond x₇ (cond x₈ 11 0) 5) 5)))))

    go : (x₁ x₂ x₃ x₄ x₅ x₆ x₇ x₈ : Bool) → (number x₁ x₂ x₃ x₄ x₅ x₆ x₇ x₈ ≡ 0) ⊎ Argument (number x₁ x₂ x₃ x₄ x₅ x₆ x₇ x₈)
    go true x₂ x₃ x₄ x₅ x₆ x₇ x₈ = inr (inl (omega arith, omega arith))
    go false true x₃ x₄ x₅ x₆ x₇ x₈ = inr (inl (omega arith, omega arith))
    go false false true x₄ x₅ x₆ x₇ x₈ = inr (inl (omega arith, omega arith))
    go false false false true x₅ x₆ x₇ x₈ = inr (inl (omega arith, omega arith))
    go false false false false true x₆ x₇ x₈ = inr (inl (omega arith, omega arith))
    go false false false false false false x₇ x₈ = inr (inl (omega arith, omega arith))
    go false false false false false true false x₈ = inr (inl (omega arith, omega arith))
    go false false false false false true true true = inr (inr refl)
    go false false false false false true true false = inl refl

module _ (G : Granule) (Z : Sane G) where
  -- a frame has a size
  pub some_size : {levels : ℕ} {m : Mapping} → Mappable G levels m → 0 < m.size
  some_size ok = let (h, _, e) = ok.valid.sized in omega (arith, size_pos G h)

  -- it ends in the space
  pub ends_in : {levels : ℕ} → G.fewest ≤ levels → levels ≤ G.most → (m : Mapping) → Mappable G levels m → m.at + m.size ≤ space_of G levels
  ends_in {levels} low high m ok =
      let (h, l, e) = ok.valid.sized in
      let whole : space_of G levels % m.size ≡ 0 =
      ap (λ (x : ℕ). x % m.size) (space_some G low high) ∙ ap (λ (x : ℕ). size_at G levels % x) (sym e)
      ∙ size_divides G {j = h} {h = levels} (omega (arith, Z.large_below)) in
      multiple_gap m.size ok.valid.aligned whole ok.valid.in_space

  -- such a mapping passes the tests 2 to 5 of map's arguments, and 11 is left
  tests_left : (A : Ledger) → G.fewest ≤ A.levels → A.levels ≤ G.most → (m : Mapping) → Mappable G A.levels m
      → map_tests G A.levels A.area m.at m.frame m.size m.attributes ≡ cond (meets_area G A.area m.frame m.size) 11 0
  unfolding map_tests
  tests_left A low high m ok =
      let (h, l, e) = ok.valid.sized in
      let height : height_of G m.size ≡ h = ap (height_of G) (sym e) ∙ size_height G Z l in
      rw (
        le-ltb G.large (height_of G m.size) (omega arith),
        le-ltb 15 m.attributes (omega (arith, ok.few)),
        lt-leb (space_of G A.levels) m.at ok.valid.in_space,
        le-ltb (space_of G A.levels) (m.at + m.size) (ends_in low high m ok),
        le-ltb physical (m.frame + m.size) ok.fits,
        eq-eqb (m.at % m.size) 0 ok.valid.aligned,
        eq-eqb (m.frame % m.size) 0 ok.valid.frame_aligned,
      )

  -- `map_pre` is what the tests 2 to 5 and 11 of map's arguments say, with attributes 0 to 15 and a frame that ends at 2^48 or below
  pub map_pre : (A : Ledger) → G.fewest ≤ A.levels → A.levels ≤ G.most → (m : Mapping)
      → (map_tests G A.levels A.area m.at m.frame m.size m.attributes ≡ 0) ↔ MapPre G A m
  map_pre A low high m = (from, to)
    where
      from : map_tests G A.levels A.area m.at m.frame m.size m.attributes ≡ 0 → MapPre G A m
      from e = let F = tests_fine G A.levels A.area m.at m.frame m.size m.attributes e in record {
        mappable = record {
          valid = record {
            sized = (height_of G m.size, F.sized, height_size G m.size F.sized);
            in_space = F.start_in;
            aligned = F.address_aligned;
            frame_aligned = F.frame_aligned;
          };
          few = F.some_attributes;
          fits = F.in_physical;
        };
        outside = F.outside;
      }

      to : MapPre G A m → map_tests G A.levels A.area m.at m.frame m.size m.attributes ≡ 0
      to pre = tests_left A low high m pre.mappable ∙ rw (apart_meets pre.outside)

  -- `unmap_pre` is what the tests 4 and 5 of unmap's argument say
  pub unmap_pre : (A : Ledger) (a : ℕ) → (unmap_tests G A.levels a ≡ 0) ↔ UnmapPre G A a
  unfolding unmap_tests
  unmap_pre A a = (
    go (leb (space_of G A.levels) a) (eqb (a % page_size G) 0) refl refl,
    λ pre. rw (lt-leb (space_of G A.levels) a pre.in_space, eq-eqb (a % page_size G) 0 pre.aligned),
  )
    where
      go : (x y : Bool) → leb (space_of G A.levels) a ≡ x → eqb (a % page_size G) 0 ≡ y → ◌≡◌ {A = ℕ} (cond x 4 (cond y 0 5)) 0 → UnmapPre G A a
      go true y q r e = absurd (omega arith)
      go false false q r e = absurd (omega arith)
      go false true q r e = record { in_space = leb-false _ _ q; aligned = eqb-true _ _ r }

  -- ---- states

  -- two mappings that hold an address are one
  pub one_for : {A : Ledger} → Wf G A → (a : ℕ) (m k : Mapping) → Has A m → Has A k → Within a m → Within a k → m ≡ k
  one_for w a m k i j (p, q) (r, s) = w.apart m k i j (omega arith, omega arith)

  -- a mapping holds its first address
  pub first_within : {A : Ledger} → Wf G A → (a : ℕ) (m : Mapping) → Has A m → m.at ≡ a → Within a m
  first_within w a m i e = (omega arith, omega (arith, some_size (w.each m i)))

  -- lemma_map_preserves_wf
  pub map_preserves_wf : {A B : Ledger} {m : Mapping} {r : Answer} → Wf G A → Mappable G A.levels m → Maps G A B m r → Wf G B
  map_preserves_wf {A} {B} {m} {r} w ok s = go (any_overlap m.at m.size A.live) refl (ltb (free_tables G A) (tables_lacking G A.levels A.live m)) refl
    where
      apart : (OverlapsVmem A m.at m.size → ⊥) → (x y : Mapping) → (x ≡ m) ⊎ Has A x → (y ≡ m) ⊎ Has A y → Overlap x.at x.size y.at y.size → x ≡ y
      apart away x y (inl e) (inl f) o = e ∙ sym f
      apart away x y (inl e) (inr j) (o, q) = absurd (away (y, j, (rw e at q, rw e at o)))
      apart away x y (inr i) (inl f) (o, q) = absurd (away (x, i, (rw f at o, rw f at q)))
      apart away x y (inr i) (inr j) o = w.apart x y i j o

      go : (x : Bool) → any_overlap m.at m.size A.live ≡ x → (y : Bool) → ltb (free_tables G A) (tables_lacking G A.levels A.live m) ≡ y → Wf G B
      go true e y f = wf_less w s.constants (λ k i. ((s.overlap ((any_overlap_lem m.at m.size A.live).0 e)).1 k).0 i)
      go false e true f = wf_less w s.constants (λ k i. ((s.lacks (λ o. false≢true (sym e ∙ (any_overlap_lem m.at m.size A.live).1 o)) (ltb-true _ _ f)).1 k).0 i)
      go false e false f =
          let away : OverlapsVmem A m.at m.size → ⊥ = λ o. false≢true (sym e ∙ (any_overlap_lem m.at m.size A.live).1 o) in
          let (_, has) = s.inserts away (ltb-false _ _ f) in
          record {
            each = λ k i. ⊎_elim (λ q. subst (λ (x : Mapping). Mappable G B.levels x) (sym q) (rw s.constants.0 ok)) (λ j. rw s.constants.0 (w.each k j)) ((has k).0 i);
            apart = λ x y i j. apart away x y ((has x).0 i) ((has y).0 j);
          }

  -- lemma_unmap_preserves_wf
  pub unmap_preserves_wf : {A B : Ledger} {a : ℕ} {r : Answer} → Wf G A → Unmaps G A B a r → Wf G B
  unmap_preserves_wf {A} {B} {a} {r} w s = go (cover_of a A.live) refl
    where
      at : (m : Mapping) → cover_of a A.live ≡ some m → (y : Bool) → eqb m.at a ≡ y → Wf G B
      at m e true q = let (i, _) = cover_some a A.live m e in wf_less w s.constants (λ k j. (((s.removes m i (eqb-true _ _ q)).1 k).0 j).0)
      at m e false q =
          let (i, h) = cover_some a A.live m e in
          let not_there : StartsAt A a → ⊥ = λ (k, j, z). eqb-false _ _ q (ap (λ (x : Mapping). x.at) (one_for w a m k i j h (first_within w a k j z)) ∙ z) in
          wf_less w s.constants (λ k j. ((s.inside not_there (m, i, h)).1 k).0 j)

      go : (c : Option Mapping) → cover_of a A.live ≡ c → Wf G B
      go none e = wf_less w s.constants (λ k j. ((s.nothing (λ (m, i, h). cover_none a A.live e m i h)).1 k).0 j)
      go (some m) e = at m e (eqb m.at a) refl

  -- the ledger's map, unmap and query are those of the state
  pub ledger_maps : {A : Ledger} → G.fewest ≤ A.levels → A.levels ≤ G.most → (m : Mapping) → MapPre G A m
      → Maps G A (map_l G A m.at m.frame m.size m.attributes).after m (map_l G A m.at m.frame m.size m.attributes).answer
  unfolding map_l
  ledger_maps {A} low high m ok = rw ((map_pre A low high m).1 ok) (go (any_overlap m.at m.size A.live) refl (ltb (free_tables G A) need) refl)
    where
      need : ℕ
      need = tables_lacking G A.levels A.live m

      says : Bool → Bool → Entered
      says x y = cond x (entered (refused 6) A) (cond y (entered (refused 7) A) (entered (took need) (with_live A (m ∷ A.live))))

      go : (x : Bool) → any_overlap m.at m.size A.live ≡ x → (y : Bool) → ltb (free_tables G A) need ≡ y → Maps G A (says x y).after m (says x y).answer
      go true e y f = record {
        constants = (refl, refl);
        overlap = λ _. (refl, λ k. (λ i. i, λ i. i));
        lacks = λ n _. absurd (n ((any_overlap_lem m.at m.size A.live).0 e));
        inserts = λ n _. absurd (n ((any_overlap_lem m.at m.size A.live).0 e));
      }
      go false e true f = record {
        constants = (refl, refl);
        overlap = λ o. absurd (false≢true (sym e ∙ (any_overlap_lem m.at m.size A.live).1 o));
        lacks = λ _ _. (refl, λ k. (λ i. i, λ i. i));
        inserts = λ _ l. absurd (omega (arith, ltb-true (free_tables G A) need f));
      }
      go false e false f = record {
        constants = (refl, refl);
        overlap = λ o. absurd (false≢true (sym e ∙ (any_overlap_lem m.at m.size A.live).1 o));
        lacks = λ _ l. absurd (omega (arith, ltb-false (free_tables G A) need f));
        inserts = λ _ _. (refl, λ k. (λ i. Memᴰ.cases_cons i, λ i. ⊎_elim (λ q. here q) (λ j. there j) i));
      }

  pub ledger_unmaps : {A : Ledger} → Wf G A → (a : ℕ) → UnmapPre G A a → Unmaps G A (unmap_l G A a).after a (unmap_l G A a).answer
  unfolding unmap_l unmap_of unmap_tests
  ledger_unmaps {A} w a pre = rw (lt-leb (space_of G A.levels) a pre.in_space, eq-eqb (a % page_size G) 0 pre.aligned) (go (cover_of a A.live) refl)
    where
      B : Ledger
      B = with_live A (drop_at a A.live)

      says : Mapping → Bool → Entered
      says m y = cond y (entered (gave m.frame m.size m.attributes (free_tables G B - free_tables G A)) B) (entered (refused 10) A)

      at : (m : Mapping) → cover_of a A.live ≡ some m → (y : Bool) → eqb m.at a ≡ y → Unmaps G A (says m y).after a (says m y).answer
      at m e y q = by y q
        where
          i : Has A m
          i = (cover_some a A.live m e).0

          h : Within a m
          h = (cover_some a A.live m e).1

          by : (y : Bool) → eqb m.at a ≡ y → Unmaps G A (says m y).after a (says m y).answer
          by true q = record {
            constants = (refl, refl);
            removes = λ k j z. (
              ap (λ (x : Mapping). gave x.frame x.size x.attributes (free_tables G B - free_tables G A)) (one_for w a m k i j h (first_within w a k j z)),
              λ x. drop_has a A.live x,
            );
            inside = λ n _. absurd (n (m, i, eqb-true _ _ q));
            nothing = λ n. absurd (n (m, i, h));
          }
          by false q = record {
            constants = (refl, refl);
            removes = λ k j z. absurd (eqb-false _ _ q (ap (λ (x : Mapping). x.at) (one_for w a m k i j h (first_within w a k j z)) ∙ z));
            inside = λ _ _. (refl, λ k. (λ j. j, λ j. j));
            nothing = λ n. absurd (n (m, i, h));
          }

      go : (c : Option Mapping) → cover_of a A.live ≡ c → Unmaps G A (unmap_of G A a c).after a (unmap_of G A a c).answer
      go none e = record {
        constants = (refl, refl);
        removes = λ k j z. absurd (cover_none a A.live e k j (first_within w a k j z));
        inside = λ _ (m, i, h). absurd (cover_none a A.live e m i h);
        nothing = λ _. (refl, λ k. (λ j. j, λ j. j));
      }
      go (some m) e = at m e (eqb m.at a) refl

  pub ledger_queries : {A : Ledger} → Wf G A → (a : ℕ) → a < space_of G A.levels → Queries G A a (query_l G A a)
  unfolding query_l
  ledger_queries {A} w a l = rw (lt-leb (space_of G A.levels) a l) (go (cover_of a A.live) refl)
    where
      go : (c : Option Mapping) → cover_of a A.live ≡ c → Queries G A a (query_of G A a c)
      go none e = record { finds = λ m i h. absurd (cover_none a A.live e m i h); nothing = λ _. refl }
      go (some m) e = let (i, h) = cover_some a A.live m e in record { finds = λ k j z. ap found (one_for w a m k i j h z); nothing = λ n. absurd (n (m, i, h)) }

  -- ---- pools

  -- the mappings in the words of any pool with good numbers, sound or not, are well-formed
  pub words_wf : (p : Pool) → good_pool G p ≡ true → Wf G (view G p)
  words_wf p good = record {
    each = each;
    apart = rising_one 0 (space_of G p.numbers.levels) (mappings_of G p) (pool_rises Z p good);
  }
    where
      each : (m : Mapping) → Memᴰ m (mappings_of G p) → Mappable G p.numbers.levels m
      each m i =
          let w = pool_well Z p good m i in
          let b = pool_within Z p good m i in
          record {
            valid = record {
              sized = (w.height, w.framed.level, sym w.sized);
              in_space = omega (arith, size_pos G w.height, w.sized);
              aligned = w.aligned;
              frame_aligned = rw w.sized w.framed.aligned;
            };
            few = w.framed.few;
            fits = rw w.sized w.framed.fits;
          }

  module _ {p : Pool} {A : Ledger} (H : Holds G p A) where
    -- lemma_invariants_implies_wf
    pub invariants_implies_wf : Wf G A
    invariants_implies_wf = wf_less (words_wf p (setup_good H.good)) (sym H.levels_are, sym H.area_is) (λ k i. H.live k i)

    -- a pool that holds a ledger holds its view
    pub view_held : Holds G p (view G p)
    unfolding audit_l
    view_held = accepted_holds G Z p _ _ (rests G Z (holds_sim G Z H)).audit

    -- the ledger's levels are good
    pub levels_low : G.fewest ≤ A.levels
    levels_low = rw (← H.levels_are) H.good.numbers.enough

    pub levels_high : A.levels ≤ G.most
    levels_high = rw (← H.levels_are) H.good.numbers.not_more

    -- the free count is what the ledger says
    pub free_held : p.numbers.free ≡ free_tables G A
    free_held = (rests G Z (holds_sim G Z H)).free_count

    -- the ledgers that a pool holds have the same mappings
    pub same_held : {B : Ledger} → Holds G p B → SameMappings A B
    same_held H' k = (λ i. H.listed k (H'.live k i), λ i. H'.listed k (H.live k i))

    same_constants : {B : Ledger} → Holds G p B → SameConstants A B
    same_constants H' = (sym H'.levels_are ∙ H.levels_are, sym H'.area_is ∙ H.area_is)

  also_constants : (A B C : Ledger) → SameConstants A B → SameConstants B C → SameConstants A C
  also_constants A B C (a, b) (a', b') = (a' ∙ a, b' ∙ b)

  module _ {p : Pool} {A : Ledger} (H : Holds G p A) where
    -- map_refinement, and the ensures of the trait's map
    pub map_refinement : (m : Mapping) → MapPre G A m → {B : Ledger} → Holds G (map_w G p m.at m.frame m.size m.attributes).after B
        → Maps G A B m (map_w G p m.at m.frame m.size m.attributes).answer
    map_refinement m ok {B} H' = record {
      constants = also_constants A C B s.constants (same_constants K H');
      overlap = λ o. let (x, y) = s.overlap o in (r ∙ x, λ k. Iff.trans (same_held K H' k) (y k));
      lacks = λ n l. let (x, y) = s.lacks n l in (r ∙ x, λ k. Iff.trans (same_held K H' k) (y k));
      inserts = λ n l. let (x, y) = s.inserts n l in (r ∙ x, λ k. Iff.trans (same_held K H' k) (y k));
    }
      where
        C : Ledger
        C = (map_l G A m.at m.frame m.size m.attributes).after

        s : Maps G A C m (map_l G A m.at m.frame m.size m.attributes).answer
        s = ledger_maps (levels_low H) (levels_high H) m ok

        r : (map_w G p m.at m.frame m.size m.attributes).answer ≡ (map_l G A m.at m.frame m.size m.attributes).answer
        r = (step_holds G Z H (map_c m.at m.frame m.size m.attributes)).0

        K : Holds G (map_w G p m.at m.frame m.size m.attributes).after C
        K = (step_holds G Z H (map_c m.at m.frame m.size m.attributes)).1

    -- unmap_refinement, and the ensures of the trait's unmap
    pub unmap_refinement : (a : ℕ) → UnmapPre G A a → {B : Ledger} → Holds G (unmap_w G p a).after B → Unmaps G A B a (unmap_w G p a).answer
    unmap_refinement a pre {B} H' = record {
      constants = also_constants A C B s.constants (same_constants K H');
      removes = λ m i e. let (x, y) = s.removes m i e in
          (r ∙ x ∙ ap (λ (f : ℕ). gave m.frame m.size m.attributes (f - free_tables G A)) (sym (free_held K) ∙ free_held H'), λ k. Iff.trans (same_held K H' k) (y k));
      inside = λ n h. let (x, y) = s.inside n h in (r ∙ x, λ k. Iff.trans (same_held K H' k) (y k));
      nothing = λ n. let (x, y) = s.nothing n in (r ∙ x, λ k. Iff.trans (same_held K H' k) (y k));
    }
      where
        C : Ledger
        C = (unmap_l G A a).after

        s : Unmaps G A C a (unmap_l G A a).answer
        s = ledger_unmaps (invariants_implies_wf H) a pre

        r : (unmap_w G p a).answer ≡ (unmap_l G A a).answer
        r = (step_holds G Z H (unmap_c a)).0

        K : Holds G (unmap_w G p a).after C
        K = (step_holds G Z H (unmap_c a)).1

    -- query_refinement, and the ensures of the trait's query
    pub query_refinement : (a : ℕ) → a < space_of G A.levels → Queries G A a (query_w G p a)
    query_refinement a l = let s = ledger_queries (invariants_implies_wf H) a l in let r = (step_holds G Z H (query_c a)).0 in
        record { finds = λ m i h. r ∙ s.finds m i h; nothing = λ n. r ∙ s.nothing n }

    -- what is required is refused where it does not hold, and the pool stays: a map with 2, 3, 4, 5 or 11
    pub map_refuses : (m : Mapping) → (MapPre G A m → ⊥)
        → (n : ℕ) × Argument n × (map_w G p m.at m.frame m.size m.attributes ≡ refuse n p)
    unfolding map_w
    map_refuses m d = go (eqb no 0) refl (tests_range G p.numbers.levels (area_of p.numbers) m.at m.frame m.size m.attributes)
      where
        no : ℕ
        no = map_tests G p.numbers.levels (area_of p.numbers) m.at m.frame m.size m.attributes

        own : Ledger
        own = ledger p.numbers.levels (area_of p.numbers) A.live

        own_is : own ≡ A
        own_is = let u = H.levels_are in let v = H.area_is in λ i. ledger (u i) (v i) A.live

        o : Done
        o = map_at G p m.at m.frame (height_of G m.size) m.attributes (walk_to G p (height_of G m.size) m.at) (walk_to G p (height_of G m.size) m.at).entry

        go : (y : Bool) → eqb no 0 ≡ y → (no ≡ 0) ⊎ Argument no
            → (n : ℕ) × Argument n × (cond (good_pool G p) (cond (eqb no 0) o (refuse no p)) (refuse 1 p) ≡ refuse n p)
        go true q r = absurd (d (subst (λ (B : Ledger). MapPre G B m) own_is ((map_pre own H.good.numbers.enough H.good.numbers.not_more m).0 (eqb-true no 0 q))))
        go false q (inl e) = absurd (eqb-false no 0 q e)
        go false q (inr a) = (no, a, rw (setup_good H.good, q))

    -- and with 11 where upstream's map would give a guest bytes of its own tables
    pub map_in_pool : (m : Mapping) → Mappable G A.levels m → Shares G A.area m.frame m.size
        → map_w G p m.at m.frame m.size m.attributes ≡ refuse 11 p
    unfolding map_w
    map_in_pool m ok s = rw (setup_good H.good, H.levels_are, H.area_is, tests_left A (levels_low H) (levels_high H) m ok, shares_meets s)

    -- an unmap with 4 or 5
    pub unmap_refuses : (a : ℕ) → (UnmapPre G A a → ⊥) → ((unmap_w G p a ≡ refuse 4 p) ⊎ (unmap_w G p a ≡ refuse 5 p))
    unfolding unmap_w unmap_tests
    unmap_refuses a d = go (leb (space_of G p.numbers.levels) a) (eqb (a % page_size G) 0) refl refl
      where
        o : Done
        o = unmap_at G p a (walk_to G p 0 a) (walk_to G p 0 a).entry

        says : Bool → Bool → Done
        says x y = cond (good_pool G p) (let no = cond x 4 (cond y 0 5) in cond (eqb no 0) o (refuse no p)) (refuse 1 p)

        go : (x y : Bool) → leb (space_of G p.numbers.levels) a ≡ x → eqb (a % page_size G) 0 ≡ y → (says x y ≡ refuse 4 p) ⊎ (says x y ≡ refuse 5 p)
        go true y q r = inl (rw (setup_good H.good))
        go false false q r = inr (rw (setup_good H.good))
        go false true q r = absurd (d (record { in_space = rw (← H.levels_are) (leb-false _ _ q); aligned = eqb-true _ _ r }))

    -- a query with 4
    pub query_refuses : (a : ℕ) → space_of G A.levels ≤ a → query_w G p a ≡ refused 4
    unfolding query_w
    query_refuses a l = rw (setup_good H.good, H.levels_are, le-leb (space_of G A.levels) a l)

  -- the trait's new: a pool that format accepts holds the ledger with no mapping, and its numbers are the ones given
  pub new_init : (levels : ℕ) (area : Area) (ws : List ℕ) (cut : ℕ) (list : List ℕ) → (format_w G levels area ws cut list).answer ≡ formatted
      → Holds G (format_w G levels area ws cut list).after (ledger levels area [])
  new_init levels area ws cut list e = ((from_format G Z levels area ws cut list e []).after 0).holds
