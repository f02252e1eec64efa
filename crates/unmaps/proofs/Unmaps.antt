-- What unmap does, by what its tests and its walk found.
use Prim.Native.Nat.{ℕ, ◌+◌, ◌-◌, ◌*◌, ◌/◌, ◌%◌, ◌≤◌, ◌<◌}
use mathlib.Core.Path.{◌≡◌, refl, sym, ap, ◌∙◌}
use mathlib.Core.Logic.{◌≢◌, ◌⊎◌, inl, inr}
use mathlib.Core.Bool.{Bool, true, false, not, ◌||◌, false≢true}
use mathlib.Core.List.{List}
use native.Mathlib.Nat.{mul_comm, div-lt_iff_lt-mul}
use native.Mathlib.Omega.{arith}
use borrow.Author.Tests.{not-true, not-false, lt-ltb, le-ltb, leb-true, leb-false, eq-eqb, ne_eqb}
use lib.Arith.{digits_div, digits_mod}
use lib.Dec.{leb}
use lib.ListN.{get_or, set}
use Rattle.std.specs.Prelude.{Ok, Err}
use Rattle.path.specs.Geometry.{Granule, Sane, entries, size_at, at_level}
use Rattle.path.specs.Areas.{area_of, total}
use Rattle.path.specs.Numbers.{with_free, GoodSetup}
use Rattle.path.specs.Paths.{path_of}
use Rattle.path.specs.Laws.{entries_pos, level_some}
use Rattle.path.specs.PathLaws.{path_of_path}
use Rattle.path.specs.declared.Setup.{Setup}
use Rattle.entry.specs.Words.{entry_at}
use Rattle.entry.specs.declared.Entry.{Entry}
use Rattle.entry.specs.declared.Entry.TheVariants.{Table, Frame, Damaged}
use Rattle.model.specs.declared.Walked.{Walked}
use Rattle.model.specs.declared.Refusal.{Refusal}
use Rattle.model.proofs.TestedLaws.{tested_err, tested_refused}
use Rattle.model.specs.Answers.{Answer, says_refusal, tested, gave, Pool, pool, Done, done, refuse}
use Rattle.model.specs.Walk.{slot, at_height, no_way, stop}
use Rattle.model.specs.Writes.{memory, perform_all, only_entry, freed, prune_writes, unmap_writes}
use Rattle.model.specs.Calls.{good_pool, walk_to, unmap_tests, unmap_here, unmap_at, unmap_w}
use Rattle.model.proofs.Refusing.{passed}
use Rattle.lookup.specs.WalkLaws.{walk_within}
use Rattle.lookup.specs.declared.Reached.{Reached}
use Rattle.lookup.specs.declared.Lost.{Lost}
use Rattle.lookup.specs.Reaches.{Came, came_again, came_word}
use Rattle.unmaps.proofs.Frees.{freed_stop, freed_more, freed_end}

module _ (G : Granule) (p : Pool) (a : ℕ) {r : Bool} (e : r ≡ good_pool G p) where
  pub unmap_bad : not r ≡ true → refuse 1 p ≡ unmap_w G p a
  unfolding unmap_w
  unmap_bad n = rw (sym e ∙ not-true _ n)

  pub unmap_refuses :
      not r ≡ false → (q : Refusal) → says_refusal q ≡ tested (unmap_tests G p.numbers.levels a) → done (says_refusal q) p ≡ unmap_w G p a
  unfolding unmap_w
  unmap_refuses n q t =
      let k = unmap_tests G p.numbers.levels a in
      rw (passed e n, tested_err k q t) (ap (λ (x : Answer). done x p) (tested_refused k q t))

-- no test refused
unmap_from : (G : Granule) (p : Pool) (a : ℕ) → good_pool G p ≡ true → unmap_tests G p.numbers.levels a ≡ 0 → {o : Walked} → o ≡ walk_to G p 0 a → unmap_at G p a o o.entry ≡ unmap_w G p a
unfolding unmap_w
unmap_from G p a g t e = ap (λ (o : Walked). unmap_at G p a o o.entry) e ∙ rw (g, t)

-- and the walk is done
module _ {G : Granule} {p : Pool} {a : ℕ} {way : List ℕ} (g : good_pool G p ≡ true) (t : unmap_tests G p.numbers.levels a ≡ 0) where
  -- it came to a table again
  pub came_lost : {l : Lost} → Came G p 0 a (Err l) way → refuse 8 p ≡ unmap_w G p a
  unfolding unmap_at
  came_lost C = unmap_from G p a g t (came_again C)

  -- or it ended at the entry that was read
  module _ {r : Reached} (C : Came G p 0 a (Ok r) way) {w : ℕ} {e : Entry} (q : w ≡ get_or p.words r.place 0) (d : e ≡ entry_at G (area_of p.numbers) r.height w) where
    pub came_at : {x : Entry} → e ≡ x → unmap_at G p a (stop x r.height way) x ≡ unmap_w G p a
    came_at f = unmap_from G p a g t (ap (λ (x : Entry). stop x r.height way) (sym f ∙ d) ∙ came_word C q)

    pub came_bad : ((c : ℕ) × (e ≡ Table c)) ⊎ (e ≡ Damaged) → refuse 8 p ≡ unmap_w G p a
    unfolding unmap_at
    came_bad (inl (c, f)) = came_at f
    came_bad (inr f) = came_at f

pub came_left : {G : Granule} {p : Pool} {a : ℕ} {r : Reached} {way : List ℕ} → Came G p 0 a (Ok r) way → r.height ≤ p.numbers.levels - 1
came_left {G} {p} {a} C =
    rw (ap (λ (o : Walked). o.left) (came_word C refl))
    (walk_within G p.words (area_of p.numbers) 0 (path_of G a) (p.numbers.levels - 1) no_way 0)

-- what the code has by the height of the entry where a walk ended
module _ {G : Granule} {s : Setup} {cut w l left : ℕ} (S : Sane G) (g : GoodSetup G s cut w l) (m : left ≤ s.levels - 1) where
  pub size_known : {size : ℕ} → size ≡ at_level G left (size_at G left) → size ≡ size_at G left
  size_known e = e ∙ level_some G (omega (arith, g, S)) (size_at G left)

  pub rest_known : (a : ℕ) {x : ℕ} → x ≡ at_level G left (a % size_at G left) → x ≡ a % size_at G left
  rest_known a e = e ∙ level_some G (omega (arith, g, S)) (a % size_at G left)

-- the table and the index of an entry, by its place
pub place_parts :
    (G : Granule) (way : List ℕ) (a left : ℕ) {place : ℕ} → place ≡ slot G (at_height way left) (at_height (path_of G a) left)
    → (place / entries G ≡ at_height way left) × (place % entries G ≡ at_height (path_of G a) left)
place_parts G way a left e =
    let l = (path_of_path G a).below (3 - left) (omega arith) in
    let d = mul_comm (entries G) (at_height way left) in
    (rw (e, d) (digits_div (at_height way left) l), rw (e, d) (digits_mod (at_height way left) l))

-- a place among the words of n tables is in one of them
pub place_table : (G : Granule) (n : ℕ) {words place : ℕ} → words ≡ entries G * n → place < words → place / entries G < n
place_table G n e l = (div-lt_iff_lt-mul (entries_pos G)).1 (omega (arith, mul_comm n (entries G)))

-- a table that stays gives none back
pub stays_none :
    (G : Granule) (ws way path : List ℕ) (left top : ℕ) {r : Bool} {t i : ℕ} → t ≡ at_height way left → i ≡ at_height path left
    → r ≡ (leb top left || not (only_entry G ws t i)) → not r ≡ false → freed G ws way path left (top - left) ≡ 0
stays_none G ws way path left top {r} {t} {i} d e f n = go (leb top left) refl
  where
    go : (b : Bool) → leb top left ≡ b → freed G ws way path left (top - left) ≡ 0
    go true l = freed_end G ws way path left (top - left) (omega (arith, leb-true top left l))
    go false l =
        freed_stop G ws way path left (top - left) (omega (arith, leb-false top left l))
        (rw (← d, ← e) (not-true _ (sym (rw l at f) ∙ not-false _ n)))

-- one that goes has no entry but the path's
pub stays_not :
    (G : Granule) (ws : List ℕ) (left top : ℕ) {r : Bool} (t i : ℕ) → r ≡ (leb top left || not (only_entry G ws t i)) → not r ≡ true
    → (left < top) × (only_entry G ws t i ≡ true)
stays_not G ws left top {r} t i f n = go (leb top left) refl
  where
    go : (b : Bool) → leb top left ≡ b → (left < top) × (only_entry G ws t i ≡ true)
    go true l = absurd (false≢true (sym (not-true _ n) ∙ rw l at f))
    go false l = (leb-false top left l, not-false _ (sym (rw l at f) ∙ not-true _ n))

-- ---- at a frame

module _ (G : Granule) (s : Setup) (ws : List ℕ) (cut : ℕ) (list : List ℕ) (a b k left : ℕ) (way : List ℕ) where
  abbrev there : Done
  there = unmap_at G (pool s ws cut list) a (stop (Frame b k) left way) (Frame b k)

  pub there_inside : {x : ℕ} → x ≡ a % size_at G left → x ≢ 0 → refuse 10 (pool s ws cut list) ≡ there
  unfolding unmap_at
  there_inside e n = rw (ne_eqb (a % size_at G left) 0 (λ z. n (e ∙ z)))

  module _ (m : a % size_at G left ≡ 0) {size : ℕ} (z : size ≡ size_at G left) where
    -- no table comes free: a single write
    pub there_one :
        {place own : ℕ} {w : List ℕ} → freed G ws way (path_of G a) left (s.levels - 1 - left) ≡ 0 → s.free ≤ total (area_of s) - 1
        → place ≡ slot G (at_height way left) (at_height (path_of G a) left)
        → w ≡ set ws place 0 → own ≡ cut → done (gave b size k 0) (pool s w own list) ≡ there
    unfolding unmap_at unmap_here prune_writes perform_all
    there_one {place} {own} {w} f l e u v =
        let same : s.free + 0 ≡ s.free = omega arith in
        rw (eq-eqb _ _ m, f, le-ltb (total (area_of s) - 1) (s.free + 0) (omega arith), same)
        ((λ i. done (gave b size k 0) (pool s (u i) (v i) list)) ∙ (λ i. done (gave b (z i) k 0) (pool s (set ws (e i) 0) cut list)))

    module _ {given : ℕ} (f : given ≡ freed G ws way (path_of G a) left (s.levels - 1 - left)) where
      pub there_full : total (area_of s) - 1 < s.free + given → refuse 8 (pool s ws cut list) ≡ there
      unfolding unmap_at unmap_here
      there_full l = rw (eq-eqb _ _ m, ← f, lt-ltb _ _ l)

      pub there_done :
          s.free + given ≤ total (area_of s) - 1
          → {w x : List ℕ} {own : ℕ} {t : Setup}
          → memory w x ≡ perform_all G (unmap_writes G way (path_of G a) left s.free given) (memory ws list)
          → own ≡ cut → t ≡ with_free s (s.free + given)
          → done (gave b size k given) (pool t w own x) ≡ there
      unfolding unmap_at unmap_here
      there_done l new o u =
          rw (eq-eqb _ _ m, ← f, le-ltb _ _ l) (λ i. done (gave b (z i) k given) (pool (u i) (new i).words (o i) (new i).list))

-- the count of the tables that come free, where the first does
pub freed_first :
    (G : Granule) (ws way : List ℕ) (a left top : ℕ) {n : ℕ} → left < top
    → only_entry G ws (at_height way left) (at_height (path_of G a) left) ≡ true
    → n ≡ freed G ws way (path_of G a) (left + 1) (top - (left + 1)) → n + 1 ≡ freed G ws way (path_of G a) left (top - left)
freed_first G ws way a left top {n} l e f =
    let d : top - left - 1 ≡ top - (left + 1) = omega arith in
    let m = freed_more G ws way (path_of G a) left (top - left) (omega arith) e in
    omega (arith, f, rw d at m)
