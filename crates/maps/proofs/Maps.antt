-- What map does, by what its tests and its walk found.
use Prim.Native.Nat.{ℕ, ◌-◌, ◌≤◌, ◌<◌}
use mathlib.Core.Path.{◌≡◌, refl, sym, ap, ◌∙◌}
use mathlib.Core.Logic.{◌≢◌}
use mathlib.Core.Bool.{Bool, true, false, cond, not}
use mathlib.Core.List.{List}
use native.Mathlib.Omega.{arith}
use Rattle.std.specs.Prelude.{Ok, Err}
use borrow.Author.Tests.{not-true, lt-ltb, le-ltb, le-leb}
use lib.Dec.{leb}
use lib.ListN.{get_or, set}
use Rattle.path.specs.Geometry.{Granule, Sane, physical, height_of}
use Rattle.path.specs.Areas.{area_of, total}
use Rattle.path.specs.Numbers.{with_free}
use Rattle.path.specs.Paths.{path_of}
use Rattle.path.specs.declared.Setup.{Setup}
use Rattle.entry.specs.Words.{frame_word, entry_at}
use Rattle.entry.proofs.Laws.{entry_zero, empty_only}
use Rattle.entry.specs.declared.Entry.{Entry}
use Rattle.entry.specs.declared.Entry.TheVariants.{Empty, Table, Frame, Damaged}
use Rattle.model.specs.declared.Walked.{Walked}
use Rattle.model.specs.declared.Refusal.{Refusal}
use Rattle.model.proofs.TestedLaws.{tested_err, tested_refused}
use Rattle.model.specs.Answers.{Answer, says_refusal, tested, took, Pool, pool, Done, done, refuse}
use Rattle.model.specs.Walk.{slot, at_height, no_way, stop}
use Rattle.model.specs.Writes.{Write, memory, perform_all, map_writes, may_take}
use Rattle.model.specs.Calls.{good_pool, walk_to, map_tests, map_here, map_at, map_w}
use Rattle.model.proofs.Refusing.{passed}
use Rattle.lookup.specs.WalkLaws.{walk_above, walk_within}
use Rattle.lookup.specs.declared.Reached.{Reached}
use Rattle.lookup.specs.declared.Lost.{Lost}
use Rattle.lookup.specs.Reaches.{Came, came_again, came_word, came_place}
use Rattle.maps.specs.Parts.{met_by, map_from}
use Rattle.maps.proofs.Links.{map_list}

module _ (G : Granule) (p : Pool) (a b size k : ℕ) {r : Bool} (e : r ≡ good_pool G p) where
  pub map_bad : not r ≡ true → refuse 1 p ≡ map_w G p a b size k
  unfolding map_w
  map_bad n = rw (sym e ∙ not-true _ n)

  pub map_refuses :
      not r ≡ false → (q : Refusal) → says_refusal q ≡ tested (map_tests G p.numbers.levels (area_of p.numbers) a b size k) → done (says_refusal q) p ≡ map_w G p a b size k
  unfolding map_w
  map_refuses n q t =
      let no = map_tests G p.numbers.levels (area_of p.numbers) a b size k in
      rw (passed e n, tested_err no q t) (ap (λ (x : Answer). done x p) (tested_refused no q t))

  -- no test refused
  pub map_from_lem : good_pool G p ≡ true → map_tests G p.numbers.levels (area_of p.numbers) a b size k ≡ 0 → {h : ℕ} → h ≡ height_of G size → map_from G p a b h k ≡ map_w G p a b size k
  unfolding map_w
  map_from_lem g t d = rw (g, t, ← d)

-- the word that the code has for a frame
pub word_is : (b h k : ℕ) {w : ℕ} → b ≤ physical → w ≡ cond (leb b physical) (frame_word b h k) 0 → w ≡ frame_word b h k
word_is b h k l e = rw (le-leb b physical l) at e

-- where no table is missing, the frame's word is the only write
one_here :
    (G : Granule) (p : Pool) (a b h k : ℕ) (way : List ℕ)
    → map_here G p a b h k (stop Empty h way) 0 ≡ done (took 0) (pool p.numbers (set p.words (slot G (at_height way h) (at_height (path_of G a) h)) (frame_word b h k)) p.cut p.list)
unfolding map_here may_take map_writes perform_all
one_here G p a b h k way =
    let same : p.numbers.free - 0 ≡ p.numbers.free = omega arith in
    rw (le-ltb p.numbers.free 0 (omega arith), same)

-- ---- the walk to height h is done

-- what map does at the end of a walk
abbrev done_at : Granule → Pool → ℕ → ℕ → ℕ → ℕ → Walked → Done
done_at G p a b h k o = map_at G p a b h k o o.entry

-- it came to a table again
pub came_lost : {G : Granule} {p : Pool} {a h : ℕ} {l : Lost} {way : List ℕ} (b k : ℕ) → Came G p h a (Err l) way → refuse 8 p ≡ map_from G p a b h k
unfolding map_at
came_lost {G} {p} {a} {h} b k C = ap (done_at G p a b h k) (came_again C)

-- or it ended at an entry
module _ {G : Granule} {p : Pool} {a h : ℕ} {r : Reached} {way : List ℕ} (C : Came G p h a (Ok r) way) (b k : ℕ) {w : ℕ} (e : w ≡ get_or p.words r.place 0) where
  pub came_met : Sane G → {no : ℕ} → w ≢ 0 → no ≡ met_by (walk_to G p h a).entry → refuse no p ≡ map_from G p a b h k
  unfolding map_at
  came_met S some d = rw d (met_at (walk_to G p h a).entry (λ z. some (empty_only S (area_of p.numbers) r.height w (ap (λ (o : Walked). o.entry) (came_word C e) ∙ z))))
    where
      met_at : (x : Entry) → (x ≡ Empty → ⊥) → refuse (met_by x) p ≡ map_at G p a b h k (walk_to G p h a) x
      met_at Empty f = absurd (f refl)
      met_at (Table c) f = refl
      met_at (Frame c d) f = refl
      met_at Damaged f = refl

  pub came_empty : w ≡ 0 → map_here G p a b h k (stop Empty r.height way) (r.height - h) ≡ map_from G p a b h k
  unfolding map_at
  came_empty z =
      ap (done_at G p a b h k)
      (ap (λ (x : Entry). stop x r.height way) (sym (ap (entry_at G (area_of p.numbers) r.height) z ∙ entry_zero G _ _))
      ∙ came_word C e)

  -- it ended no higher than the root
  pub came_left : r.height ≤ p.numbers.levels - 1
  came_left =
      rw (ap (λ (o : Walked). o.left) (came_word C e))
      (walk_within G p.words (area_of p.numbers) h (path_of G a) (p.numbers.levels - 1) no_way 0)

  -- it ended no lower than the frame's height
  pub came_above : h ≤ p.numbers.levels - 1 → h ≤ r.height
  came_above low =
      rw (ap (λ (o : Walked). o.left) (came_word C e))
      (walk_above G p.words (area_of p.numbers) h (path_of G a) (p.numbers.levels - 1) no_way 0 low)

  -- at an empty entry of that height the frame's word is the only write
  pub came_here : {word cut : ℕ} {ws : List ℕ} → w ≡ 0 → r.height ≡ h → word ≡ frame_word b h k → ws ≡ set p.words r.place word → cut ≡ p.cut
      → done (took 0) (pool p.numbers ws cut p.list) ≡ map_from G p a b h k
  came_here {word} z d f u v =
      (λ i. done (took 0) (pool p.numbers (u i) (v i) p.list))
      ∙ (λ i. done (took 0) (pool p.numbers (set p.words (put i) (f i)) p.cut p.list))
      ∙ sym (one_here G p a b h k way)
      ∙ (λ i. map_here G p a b h k (stop Empty (sym d i) way) (none i))
      ∙ came_empty z
    where
      put : r.place ≡ slot G (at_height way h) (at_height (path_of G a) h)
      put = rw (← d) (came_place C)

      none : 0 ≡ r.height - h
      none = omega arith

-- ---- at an empty entry

module _ (G : Granule) (s : Setup) (ws : List ℕ) (cut : ℕ) (list : List ℕ) (a b h k left : ℕ) (way : List ℕ) where
  abbrev here_at : Done
  here_at = map_here G (pool s ws cut list) a b h k (stop Empty left way) (left - h)

  abbrev all : List Write
  all = map_writes G (area_of s) (path_of G a) list h (frame_word b h k) (get_or way (3 - left) 0) s.free (left - h)

  pub here_short : s.free < left - h → refuse 7 (pool s ws cut list) ≡ here_at
  unfolding map_here
  here_short l = rw (lt-ltb _ _ l)

  module _ (l : left - h ≤ s.free) {r : Bool} (e : r ≡ may_take list (total (area_of s)) way s.free (left - h)) where
    pub here_unfit : not r ≡ true → refuse 8 (pool s ws cut list) ≡ here_at
    unfolding map_here
    here_unfit n = rw (le-ltb _ _ l, sym e ∙ not-true _ n)

    pub here_done :
        not r ≡ false → {word : ℕ} {w : List ℕ} {own : ℕ} {t : Setup} → word ≡ frame_word b h k
        → ((x : List ℕ) → w ≡ (perform_all G (map_writes G (area_of s) (path_of G a) list h word (get_or way (3 - left) 0) s.free (left - h)) (memory ws x)).words)
        → own ≡ cut → t ≡ with_free s (s.free - (left - h))
        → done (took (left - h)) (pool t w own list) ≡ here_at
    unfolding map_here
    here_done n {word} {w} {own} {t} m v u f =
        rw (le-ltb _ _ l, passed e n) (λ i. done (took (left - h)) (pool (f i) (new i) (u i) (same i)))
      where
        new : w ≡ (perform_all G all (memory ws list)).words
        new = v list ∙ (λ i. (perform_all G (map_writes G (area_of s) (path_of G a) list h (m i) (get_or way (3 - left) 0) s.free (left - h)) (memory ws list)).words)

        same : list ≡ (perform_all G all (memory ws list)).list
        same = sym (map_list G (area_of s) (path_of G a) list h (frame_word b h k) (get_or way (3 - left) 0) s.free (left - h) (memory ws list))
