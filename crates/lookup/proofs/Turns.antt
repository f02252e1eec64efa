-- The walk as a loop over the heights: what holds before each turn, and what the turns answer.
use Prim.Native.Nat.{ℕ, ◌+◌, ◌-◌, ◌≤◌, ◌<◌}
use mathlib.Core.Path.{◌≡◌, refl, sym, ap, ◌∙◌}
use mathlib.Core.Bool.{Bool, true, false, ◌||◌, or-true}
use mathlib.Core.List.{List, [], ◌++◌}
use Rattle.std.proofs.Common.{◌⊎◌, inl, inr, Result, Ok, Err, IfOk}
use native.Mathlib.Omega.{arith}
use lib.Dec.{eqb}
use lib.ListN.{length, get_or, set, length-set, length-append}
use lib.Seq.{get_or-set_same}
use borrow.Author.Tests.{eq-eqb, ne_eqb}
use Rattle.path.specs.Geometry.{Granule, Sane, entries, at_level}
use Rattle.path.specs.Areas.{area_of, total}
use Rattle.path.specs.Paths.{index_at, path_of}
use Rattle.path.specs.Laws.{level_some, in_table}
use Rattle.path.specs.PathLaws.{index_below, path_of_at}
use Rattle.path.specs.declared.Setup.{Setup}
use Rattle.entry.specs.Words.{child_at, entry_at}
use Rattle.entry.proofs.Laws.{child_only}
use Rattle.model.specs.Walk.{slot, at_height, no_way, stop}
use Rattle.lookup.specs.WalkLaws.{word_of, walk_at, walk_reaches}
use Rattle.lookup.specs.Steps.{Going, going_first, going_past, going_down, Above, above_first, above_past, above_down, on_way_lem, ends_none, comes_again, goes_down}
use Rattle.lookup.specs.Ends.{end_of, can_walk, walk_if}
use Rattle.lookup.specs.declared.Reached.{Reached}
use Rattle.lookup.specs.declared.Lost.{Lost}
use Rattle.lookup.specs.Reaches.{end_at, end_past, can_walk_lem, walk_if_lem, walk_not}

-- what is promised of an answer and the tables on the way
abbrev pub Told : Granule → Setup → List ℕ → ℕ → ℕ → Result Reached Lost → List ℕ → Type 0
Told G s ws target a r way =
    (end_of G ws (area_of s) r way ≡ walk_if G s ws target a)
    × IfOk r (λ x. (x.height ≤ 3) × (x.place < length ws) × (x.place ≡ slot G (at_height way x.height) (at_height (path_of G a) x.height)))

-- Before the turn at the height h - 1, which is at table t: `way` has the tables above it, and `up` is the nearest of them.
pub record Turn (G : Granule) (s : Setup) (ws : List ℕ) (target a h : ℕ) (way : List ℕ) (t up : ℕ) : Type 0 where
  pub above : target < h
  pub low : h ≤ 4
  pub inside : t < total (area_of s)
  pub places : length way ≡ 4
  pub can : can_walk G s (length ws) target ≡ true
  pub going : Going G ws (area_of s) target (path_of G a) (s.levels - 1) h way t
  pub passed : Above (h - 1) way t up

module _ (G : Granule) (s : Setup) (ws : List ℕ) (target a : ℕ) where
  -- numbers that no walk is made by
  pub tells_nowhere : can_walk G s (length ws) target ≡ false → Told G s ws target a (Err (record { height = 0 })) no_way
  tells_nowhere cannot = (end_past G ws (area_of s) no_way _ ∙ sym (walk_not G s ws target a cannot), tt)

  -- before the first turn
  pub turn_first : Sane G → can_walk G s (length ws) target ≡ true → Turn G s ws target a 4 no_way 0 0
  turn_first S can =
      let w = can_walk_lem can in
      record {
        above = omega arith;
        low = omega arith;
        inside = omega arith;
        places = refl;
        can = can;
        going = going_first G ws (area_of s) target (path_of G a) (omega arith);
        passed = above_first;
      }

module _ {G : Granule} {s : Setup} {ws : List ℕ} {target a h : ℕ} {way : List ℕ} {t up : ℕ} (T : Turn G s ws target a h way t up) where
  -- a turn above the tree
  pub turn_past : s.levels ≤ h - 1 → Turn G s ws target a (h - 1) way t up
  turn_past l =
      let w = can_walk_lem T.can in
      record {
        above = omega arith;
        low = omega arith;
        inside = T.inside;
        places = T.places;
        can = T.can;
        going = going_past G ws (area_of s) target (path_of G a) T.going (omega arith);
        passed = above_past (h - 1) (omega arith) T.passed;
      }

  -- ---- a turn in it, which comes to the path's entry of table t, at a place among the words

  module _ (l : h - 1 < s.levels) {i place : ℕ} (q : i ≡ at_level G (h - 1) (index_at G a (h - 1))) (p : place ≡ slot G t i) where
    abbrev now_way : List ℕ
    now_way = set way (3 - (h - 1)) t

    index : i ≡ index_at G a (h - 1)
    index = let w = can_walk_lem T.can in q ∙ level_some G (omega arith) (index_at G a (h - 1))

    place_at : place ≡ slot G t (at_height (path_of G a) (h - 1))
    place_at = p ∙ ap (slot G t) (index ∙ sym (path_of_at G a (omega arith)))

    pub place_lt : place < length ws
    place_lt =
        let w = can_walk_lem T.can in
        rw (p, index, w.whole) (in_table (entries G) T.inside (index_below G a (h - 1)))

    whole : walk_at G ws (area_of s) target (path_of G a) (h - 1) way t ≡ walk_if G s ws target a
    whole = T.going.goes (omega arith) ∙ sym (walk_if_lem G s ws target a T.can 0 [])

    word_is : get_or ws place 0 ≡ word_of G ws (area_of s) target (path_of G a) (h - 1) t
    word_is = ap (λ (k : ℕ). get_or ws k 0) place_at

    abbrev ended : Reached
    ended = record { place = place; height = h - 1 }

    at_place : {w : ℕ} → w ≡ get_or ws place 0 → end_of G ws (area_of s) (Ok ended) now_way ≡ stop (entry_at G (area_of s) (h - 1) w) (h - 1) now_way
    at_place e =
        end_at G ws (area_of s) now_way ended
        ∙ ap (λ (x : ℕ). stop (entry_at G (area_of s) (h - 1) x) (h - 1) now_way) (sym e)

    place_is : (h - 1 ≤ 3) × (place < length ws) × (place ≡ slot G (at_height now_way (h - 1)) (at_height (path_of G a) (h - 1)))
    place_is = (omega arith, place_lt, rw (get_or-set_same way (3 - (h - 1)) t 0 (omega arith)) place_at)

    -- it ends at the target height,
    pub tells_target : h - 1 ≡ target → Told G s ws target a (Ok ended) now_way
    tells_target e = (
      at_place refl
          ∙ walk_reaches G ws (area_of s) target (path_of G a) (h - 1) way t (ap (entry_at G (area_of s) (h - 1)) word_is) (omega arith)
          ∙ whole,
      place_is,
    )

    module _ {w : ℕ} (e : w ≡ get_or ws place 0) where
      -- and at a word that names no table;
      pub tells_none : child_at G (area_of s) w ≡ 0 → Told G s ws target a (Ok ended) now_way
      tells_none none = (at_place e ∙ ends_none G ws (area_of s) target (path_of G a) (h - 1) way t (e ∙ word_is) none ∙ whole, place_is)

      module _ {c : ℕ} (k : c ≡ child_at G (area_of s) w) (some : c ≡ 0 → ⊥) (high : h - 1 ≡ target → ⊥) where
        known : 1 ≤ c
        known = omega (arith, some)

        below : target < h - 1
        below = omega (arith, high)

        met : (c ≡ t) ⊎ ((c ≡ t → ⊥) × (c ≡ up)) → (eqb up c || eqb t c) ≡ true
        met (inl m) = rw (eq-eqb t c (sym m)) (or-true (eqb up c))
        met (inr (n, m)) = rw (eq-eqb up c (sym m))

        -- it ends at table t come to again, or at the one above it,
        pub tells_again : (c ≡ t) ⊎ ((c ≡ t → ⊥) × (c ≡ up)) → Told G s ws target a (Err (record { height = h - 1 - 1 })) now_way
        tells_again m = (
          end_past G ws (area_of s) now_way _
              ∙ comes_again G ws (area_of s) target (path_of G a) (h - 1) way t (e ∙ word_is) k known below (on_way_lem (h - 1) (omega arith) (omega arith) T.passed known ∙ met m)
              ∙ whole,
          tt,
        )

        -- and goes on to any other
        pub turn_down : (c ≡ t → ⊥) → (c ≡ up → ⊥) → Turn G s ws target a (h - 1) now_way c t
        turn_down n m =
            record {
              above = below;
              low = omega arith;
              inside = (child_only G (area_of s) w (sym k) known).0;
              places = length-set way (3 - (h - 1)) t ∙ T.places;
              can = T.can;
              going =
                  going_down G ws (area_of s) target (path_of G a) T.going (omega arith)
                  (goes_down G ws (area_of s) target (path_of G a) (h - 1) way t (e ∙ word_is) k known below
                  (on_way_lem (h - 1) (omega arith) (omega arith) T.passed known ∙ rw (ne_eqb up c (λ x. m (sym x)), ne_eqb t c (λ x. n (sym x)))));
              passed = above_down (h - 1) c (omega arith) T.passed;
            }

-- the test, of the two runs put together
pub can_both :
    (G : Granule) (s : Setup) (first second : List ℕ) (target : ℕ) {b x : Bool} → b ≡ can_walk G s (length first + length second) target → b ≡ x
    → can_walk G s (length (first ++ second)) target ≡ x
can_both G s first second target e q = ap (λ (n : ℕ). can_walk G s n target) (length-append first second) ∙ sym e ∙ q
