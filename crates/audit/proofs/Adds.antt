-- The test of a tree, and the tests of an add, by what the checks of the tree found.
use Rattle.std.proofs.Common.{◌≡◌, ℕ, ◌+◌, ◌*◌, ◌≤◌, Bool, true, false, ◌&&◌, eqb, ltb, List, [], ◌∷◌, ◌++◌, length, replicate, sym, refl, ap, ◌∙◌, inr, ⊎_elim, arith, length-append}
use native.Mathlib.Nat.{zero-mod}
use lib.ListN.{length-replicate}
use Rattle.path.specs.Geometry.{Granule, granule_of, page_size, entries}
use Rattle.path.specs.Areas.{area_of, one_region, total, GoodArea}
use Rattle.path.specs.Numbers.{most_tables, good_setup, good_adding, GoodAdding}
use Rattle.path.specs.Laws.{apart_meets}
use Rattle.path.specs.declared.Setup.{Setup}
use Rattle.model.specs.Answers.{Mapping, pool}
use Rattle.model.specs.Audit.{Found, none_inside}
use Rattle.model.specs.Adds.{good_add, sound_tree, add_tests}
use Rattle.model.proofs.AddLaws.{may_add}
use Rattle.audit.specs.Checks.{Rooted, tree_of}
use Rattle.audit.proofs.Whole.{rooted}

-- no frame shares a byte with no table
pub none_in_none : (G : Granule) (L : List Mapping) → none_inside G (one_region 0 0) L ≡ true
unfolding none_inside
none_in_none G [] = refl
none_in_none G (x ∷ L) =
    rw (apart_meets {G = G} {area = one_region 0 0} {b = x.frame} {size = x.size} (λ S. ⊎_elim (λ i. omega (arith, i.0, i.1)) (λ i. omega (arith, i.0, i.1)) S.inside))
    (none_in_none G L)

pub none_good : (G : Granule) → GoodArea G (one_region 0 0)
none_good G = record { aligned = zero-mod (page_size G); fits = omega arith; aligned₂ = zero-mod (page_size G); fits₂ = omega arith; apart = inr (omega arith); no_second = λ e. refl }

-- a list of so many places
abbrev zeros : ℕ → List ℕ
zeros n = replicate n 0

-- a check for no region is one of the tree alone
pub tree_alone : (G : Granule) {x : Bool} (o : Found) → x ≡ (none_inside G (one_region 0 0) o.mappings && sound_tree o) → x ≡ sound_tree o
tree_alone G o d = d ∙ rw (none_in_none G o.mappings)

-- the test of the tree, for a free list of so many places
module _ (s : Setup) (ws us : List ℕ) (places : ℕ) {r : Bool} (e : r ≡ good_setup (granule_of s.granule) s (length ws) (length ws + length us) places) where
  pub sound_bad : r ≡ false → (b : Bool) → false ≡ (good_setup (granule_of s.granule) s (length ws) (length ws + length us) places && b)
  sound_bad n b = rw (sym e ∙ n)

  module _ (n : r ≡ true) where
    yes_good : good_setup (granule_of s.granule) s (length ws) (length ws + length us) places ≡ true
    yes_good = sym e ∙ n

    pub sound_rooted : Rooted s (length ws) (length us)
    sound_rooted =
        rooted (pool s (ws ++ us) (length ws) (zeros places)) (ap (λ (z : ℕ). good_setup (granule_of s.granule) s (length ws) z (length (zeros places))) (length-append ws us) ∙ ap (good_setup (granule_of s.granule) s (length ws) (length ws + length us)) (length-replicate {A = ℕ} places 0) ∙ yes_good)
        (length us) (length-append ws us)

    pub sound_told : {x : Bool} → x ≡ (none_inside (granule_of s.granule) (one_region 0 0) (tree_of s (ws ++ us)).mappings && sound_tree (tree_of s (ws ++ us)))
        → x ≡ (good_setup (granule_of s.granule) s (length ws) (length ws + length us) places && sound_tree (tree_of s (ws ++ us)))
    sound_told d = tree_alone (granule_of s.granule) (tree_of s (ws ++ us)) d ∙ rw yes_good

-- the first test, for a free list of so many places
module _ (s : Setup) (ws us : List ℕ) (q m places : ℕ) {r : Bool}
    (e : r ≡ (eqb s.granule (page_size (granule_of s.granule))
    && (good_adding (granule_of s.granule) s.levels (area_of s) q m (length ws) (length ws + length us) places && ltb s.free (total (area_of s))))) where
  tests : (list : List ℕ) → length list ≡ places → r ≡ good_add (granule_of s.granule) (pool s (ws ++ us) (length ws) list) q m
  tests list l = rw (length-append ws us, l) e

  pub add_bad : r ≡ false → (list : List ℕ) → length list ≡ places → 1 ≡ add_tests (granule_of s.granule) (pool s (ws ++ us) (length ws) list) q m
  unfolding add_tests
  add_bad n list l = rw (sym (tests list l) ∙ n)

  module _ (n : r ≡ true) where
    yes_add : (list : List ℕ) → length list ≡ places → good_add (granule_of s.granule) (pool s (ws ++ us) (length ws) list) q m ≡ true
    yes_add list l = sym (tests list l) ∙ n

    may : GoodAdding (granule_of s.granule) s.levels (area_of s) q m (length ws) (length (ws ++ us)) (length (zeros places))
    may = (may_add (granule_of s.granule) (pool s (ws ++ us) (length ws) (zeros places)) q m (yes_add (zeros places) (length-replicate {A = ℕ} places 0))).0

    pub add_rooted : Rooted s (length ws) (length us)
    add_rooted =
        let g = may.numbers in
        let o : s.tables2 ≡ 0 = may.one_yet.1 in
        record {
          enough = g.enough;
          not_more = g.not_more;
          some_table = g.some_table;
          few = omega (arith, g.few);
          cut_is = g.cut_is;
          long = let all : total (area_of s) ≡ s.tables = omega arith in omega (arith, g.cut_is, ap (λ (x : ℕ). entries (granule_of s.granule) * x) all);
        }

    pub new_good : GoodArea (granule_of s.granule) (one_region q m)
    new_good =
        let g = may.numbers.placed in
        record { aligned = g.aligned₂; fits = g.fits₂; aligned₂ = zero-mod (page_size (granule_of s.granule)); fits₂ = omega arith; apart = inr (omega arith); no_second = λ e. refl }

    pub new_few : m ≤ most_tables
    new_few = omega (arith, may.numbers.few)

    module _ {x : Bool} (d : x ≡ (none_inside (granule_of s.granule) (one_region 0 0) (tree_of s (ws ++ us)).mappings && sound_tree (tree_of s (ws ++ us)))) where
      tree : x ≡ sound_tree (tree_of s (ws ++ us))
      tree = tree_alone (granule_of s.granule) (tree_of s (ws ++ us)) d

      pub add_unsound : x ≡ false → (list : List ℕ) → length list ≡ places → 8 ≡ add_tests (granule_of s.granule) (pool s (ws ++ us) (length ws) list) q m
      unfolding add_tests
      add_unsound k list l = rw (yes_add list l, sym tree ∙ k)

      module _ (k : x ≡ true) {y : Bool} (f : y ≡ (none_inside (granule_of s.granule) (one_region q m) (tree_of s (ws ++ us)).mappings && sound_tree (tree_of s (ws ++ us)))) where
        sound : sound_tree (tree_of s (ws ++ us)) ≡ true
        sound = sym tree ∙ k

        apart : y ≡ none_inside (granule_of s.granule) (one_region q m) (tree_of s (ws ++ us)).mappings
        apart = f ∙ ap (λ (b : Bool). none_inside (granule_of s.granule) (one_region q m) (tree_of s (ws ++ us)).mappings && b) sound ∙ and_yes _
          where
            and_yes : (b : Bool) → (b && true) ≡ b
            and_yes true = refl
            and_yes false = refl

        pub add_inside : y ≡ false → (list : List ℕ) → length list ≡ places → 11 ≡ add_tests (granule_of s.granule) (pool s (ws ++ us) (length ws) list) q m
        unfolding add_tests
        add_inside i list l = rw (yes_add list l, sound, sym apart ∙ i)

        pub add_passes : y ≡ true → (list : List ℕ) → length list ≡ places → 0 ≡ add_tests (granule_of s.granule) (pool s (ws ++ us) (length ws) list) q m
        unfolding add_tests
        add_passes i list l = rw (yes_add list l, sound, sym apart ∙ i)
