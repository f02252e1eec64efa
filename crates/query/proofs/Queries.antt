-- What a query answers, by what its tests and its walk found.
use Prim.Native.Nat.{ℕ, ◌+◌, ◌-◌, ◌≤◌, ◌<◌}
use mathlib.Core.Path.{◌≡◌, refl, sym, ap, ◌∙◌}
use mathlib.Core.Bool.{Bool, true, false, ◌&&◌}
use mathlib.Core.List.{List}
use Rattle.std.proofs.Common.{◌⊎◌, inl, inr}
use native.Mathlib.Omega.{arith}
use borrow.Author.Tests.{le-leb, lt-leb}
use lib.Dec.{leb}
use lib.ListN.{length, get_or, set, length-set}
use Rattle.laws.specs.Lists.{among}
use Rattle.path.specs.Areas.{area_of, total}
use Rattle.path.specs.Geometry.{Granule, Sane, size_at, at_level, good_levels, space_of}
use Rattle.path.specs.Numbers.{good_setup, GoodSetup}
use Rattle.path.specs.Paths.{base_at, path_of}
use Rattle.path.specs.Laws.{level_some, in_space, past_space, good_setup_lem}
use Rattle.path.specs.declared.Setup.{Setup}
use Rattle.entry.specs.declared.Entry.{Entry}
use Rattle.entry.specs.declared.Entry.TheVariants.{Table, Frame, Damaged}
use Rattle.entry.specs.Words.{child_at, frame_at}
use Rattle.entry.proofs.Laws.{child_only}
use Rattle.model.specs.declared.Walked.{Walked}
use Rattle.model.specs.Answers.{Answer, Pool, found, refused, hole, mapping}
use Rattle.model.specs.Walk.{slot, at_height, no_way, walk_from}
use Rattle.model.specs.Calls.{good_pool, walk_to, found_at, query_w}
use Rattle.lookup.specs.WalkLaws.{word_of, walk_at}
use Rattle.lookup.specs.Steps.{Going, going_first, going_past, going_down, ends_empty, ends_frame, comes_again, goes_down}
use Rattle.query.specs.Asks.{ends_at}

-- an entry that is known answers for the one that was passed
pub at_entry : (G : Granule) (a h : ℕ) {e x : Entry} → e ≡ x → found_at G a e h ≡ found_at G a x h
at_entry G a h q = ap (λ (y : Entry). found_at G a y h) q

pub at_frame :
    (G : Granule) (a h : ℕ) {e : Entry} {b s f k : ℕ} → h < G.most → e ≡ Frame f k
    → b ≡ at_level G h (base_at G a h) → s ≡ at_level G h (size_at G h)
    → found (mapping b f s k) ≡ found_at G a e h
unfolding found_at
at_frame G a h l q x y = rw (x ∙ level_some G l _, y ∙ level_some G l _) (at_entry G a h (sym q))

pub at_damage : (G : Granule) (a h : ℕ) {e x : Entry} → e ≡ x → ((t : ℕ) × (e ≡ Table t)) ⊎ (e ≡ Damaged) → refused 8 ≡ found_at G a x h
unfolding found_at
at_damage G a h q (inl (t, d)) = at_entry G a h (sym d ∙ q)
at_damage G a h q (inr d) = at_entry G a h (sym d ∙ q)

-- ---- the walk as a loop over the heights

-- what the whole walk answers
abbrev pub Told : Granule → Setup → List ℕ → ℕ → Answer → Type 0
Told G s ws a x = x ≡ ends_at G a (walk_from G ws (area_of s) 0 (path_of G a) (s.levels - 1) no_way 0)

-- before the turn at the height h - 1, which is at table t: `way` has the tables above it
pub record Turn (G : Granule) (s : Setup) (ws : List ℕ) (a h : ℕ) (way : List ℕ) (t : ℕ) : Type 0 where
  pub some : 1 ≤ h
  pub low : h ≤ 4
  pub inside : t < total (area_of s)
  pub places : length way ≡ 4
  pub going : Going G ws (area_of s) 0 (path_of G a) (s.levels - 1) h way t

pub turn_first : (G : Granule) (s : Setup) (ws : List ℕ) (a : ℕ) → Sane G → s.levels ≤ G.most → 1 ≤ s.tables → Turn G s ws a 4 no_way 0
turn_first G s ws a S l m =
    record {
      some = omega arith;
      low = omega arith;
      inside = omega arith;
      places = refl;
      going = going_first G ws (area_of s) 0 (path_of G a) (omega arith);
    }

module _ {G : Granule} {s : Setup} {ws : List ℕ} {a h : ℕ} {way : List ℕ} {t : ℕ} (T : Turn G s ws a h way t) where
  -- a turn above the tree
  pub turn_past : 1 ≤ s.levels → s.levels ≤ h - 1 → Turn G s ws a (h - 1) way t
  turn_past m l =
      record {
        some = omega arith;
        low = omega arith;
        inside = T.inside;
        places = T.places;
        going = going_past G ws (area_of s) 0 (path_of G a) T.going (omega arith);
      }

  -- ---- a turn in it, which reads the word of the path's entry of table t
  module _
      (l : h - 1 < s.levels) {path : List ℕ} {place w : ℕ} (p : path ≡ path_of G a) (q : place ≡ slot G t (at_height path (h - 1))) (e : w ≡ get_or ws place 0)
    where
      word_is : w ≡ word_of G ws (area_of s) 0 (path_of G a) (h - 1) t
      word_is = e ∙ ap (λ (k : ℕ). get_or ws k 0) (q ∙ ap (λ (x : List ℕ). slot G t (at_height x (h - 1))) p)

      ended : {o : Walked} → o ≡ walk_at G ws (area_of s) 0 (path_of G a) (h - 1) way t → Told G s ws a (ends_at G a o)
      ended d = ap (ends_at G a) (d ∙ T.going.goes (omega arith))

      -- it ends at a word of 0,
      pub tells_empty : w ≡ 0 → {x : Answer} → x ≡ hole (base_at G a (h - 1)) (size_at G (h - 1)) → Told G s ws a x
      unfolding found_at
      tells_empty z d = d ∙ ended (ends_empty G ws (area_of s) 0 (path_of G a) (h - 1) way t word_is z)

      -- at one that names no table,
      pub tells_frame :
          (w ≡ 0 → ⊥) → (1 ≤ h - 1 → child_at G (area_of s) w ≡ 0) → {x : Answer} → x ≡ found_at G a (frame_at G (h - 1) w) (h - 1) → Told G s ws a x
      tells_frame some none d = d ∙ ended (ends_frame G ws (area_of s) 0 (path_of G a) (h - 1) way t word_is some none)

      module _ {c : ℕ} (k : c ≡ child_at G (area_of s) w) (some : c ≡ 0 → ⊥) (high : h - 1 ≡ 0 → ⊥) where
        known : 1 ≤ c
        known = omega (arith, some)

        -- and at a table come to again,
        pub tells_again : among c (set way (3 - (h - 1)) t) ≡ true → Told G s ws a (refused 8)
        unfolding found_at
        tells_again m = ended (comes_again G ws (area_of s) 0 (path_of G a) (h - 1) way t word_is k known (omega (arith, high)) m)

        -- and goes on to any other
        pub turn_down : among c (set way (3 - (h - 1)) t) ≡ false → Turn G s ws a (h - 1) (set way (3 - (h - 1)) t) c
        turn_down m =
            record {
              some = omega (arith, high);
              low = omega arith;
              inside = (child_only G (area_of s) w (sym k) known).0;
              places = length-set way (3 - (h - 1)) t ∙ T.places;
              going =
                  going_down G ws (area_of s) 0 (path_of G a) T.going (omega arith)
                  (goes_down G ws (area_of s) 0 (path_of G a) (h - 1) way t word_is k known (omega (arith, high)) m);
            }

-- ---- the tests

-- past the first test the setup is good
pub good : {G : Granule} {s : Setup} {k w l : ℕ} {r : Bool} → r ≡ good_setup G s k w l → r ≡ true → GoodSetup G s k w l
good e n = good_setup_lem (sym e ∙ n)

module _ (G : Granule) (p : Pool) (a : ℕ) {r : Bool} (e : r ≡ good_pool G p) where
  pub query_bad : r ≡ false → refused 1 ≡ query_w G p a
  unfolding query_w
  query_bad n = rw (sym e ∙ n)

  module _ (n : r ≡ true) {inside : Bool} (q : inside ≡ (good_levels G p.numbers.levels && leb (a + 1) (space_of G p.numbers.levels))) where
    pub query_past : inside ≡ false → refused 4 ≡ query_w G p a
    unfolding query_w
    query_past m =
        let l = past_space G p.numbers.levels a 1 (sym q ∙ m) (omega arith) in
        rw (sym e ∙ n, le-leb (space_of G p.numbers.levels) a (omega arith))

    pub query_walks : inside ≡ true → ends_at G a (walk_to G p 0 a) ≡ query_w G p a
    unfolding query_w
    query_walks m =
        let l = in_space G p.numbers.levels a 1 (sym q ∙ m) in
        rw (sym e ∙ n, lt-leb (space_of G p.numbers.levels) a (omega arith))
