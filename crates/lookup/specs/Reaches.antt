-- Laws of where a walk ends.
use Rattle.std.specs.Prelude.{ℕ, ◌*◌, ◌≤◌, ◌<◌, ◌≡◌, refl, Bool, true, false, List, ltb, leb, get_or, Result, Ok, Err, IfOk}
use Rattle.std.proofs.Math.Path.{ap}
use Rattle.std.proofs.Common.{◌∙◌}
use native.Mathlib.Omega.{arith}
use Rattle.std.proofs.Math.ListN.{length}
use borrow.Author.Tests.{lt-ltb, ltb-true, leb-true, eqb-true, le-leb, eq-eqb}
use Rattle.path.specs.Geometry.{Granule, Sane, entries, good_levels, physical}
use Rattle.path.specs.Areas.{Area, area_of, total}
use Rattle.path.specs.Numbers.{most_tables, GoodSetup}
use Rattle.path.specs.Paths.{path_of}
use Rattle.path.specs.Laws.{good_levels_lem, levels_some}
use Rattle.path.specs.declared.Setup.{Setup}
use Rattle.entry.specs.Words.{entry_at}
use Rattle.entry.proofs.Laws.{and-true}
use Rattle.entry.specs.declared.Entry.TheVariants.{Damaged}
use Rattle.model.specs.Walk.{slot, at_height, stop}
use Rattle.model.specs.Answers.{Pool, pool}
use Rattle.model.specs.Calls.{walk_to}
use Rattle.lookup.specs.declared.Reached.{Reached}
use Rattle.lookup.specs.declared.Lost.{Lost}
use Rattle.lookup.specs.Walks.{nowhere}
use Rattle.lookup.specs.Ends.{end_of, can_walk, walk_if}

module _ (G : Granule) (ws : List ℕ) (area : Area) (way : List ℕ) where
  pub end_at : (r : Reached) → end_of G ws area (Ok r) way ≡ stop (entry_at G area r.height (get_or ws r.place 0)) r.height way
  unfolding end_of
  end_at r = refl

  pub end_past : (l : Lost) → end_of G ws area (Err l) way ≡ stop Damaged l.height way
  unfolding end_of
  end_past l = refl

-- the numbers that a walk may be made by, as facts
pub record CanWalk (G : Granule) (s : Setup) (words target : ℕ) : Type 0 where
  pub low : s.base ≤ physical
  pub enough : G.fewest ≤ s.levels
  pub not_more : s.levels ≤ G.most
  pub above : target < s.levels
  pub some_table : 1 ≤ total (area_of s)
  pub few : total (area_of s) ≤ most_tables
  pub whole : words ≡ entries G * total (area_of s)

module _ {G : Granule} {s : Setup} {words target : ℕ} where
  pub can_walk_lem : can_walk G s words target ≡ true → CanWalk G s words target
  unfolding can_walk
  can_walk_lem e =
      let (a, e₁) = and-true (leb s.base physical) _ e in
      let (b, e₂) = and-true (good_levels G s.levels) _ e₁ in
      let (c, e₃) = and-true (ltb target s.levels) _ e₂ in
      let (d, e₄) = and-true (leb 1 (total (area_of s))) _ e₃ in
      let (f, g) = and-true (leb (total (area_of s)) most_tables) _ e₄ in
      record {
        low = leb-true s.base physical a;
        enough = (good_levels_lem G s.levels b).0;
        not_more = (good_levels_lem G s.levels b).1;
        above = ltb-true target s.levels c;
        some_table = leb-true 1 (total (area_of s)) d;
        few = leb-true (total (area_of s)) most_tables f;
        whole = eqb-true words (entries G * total (area_of s)) g;
      }

  pub walk_can : CanWalk G s words target → can_walk G s words target ≡ true
  unfolding can_walk
  walk_can c =
      rw (
        le-leb s.base physical c.low,
        levels_some G c.enough c.not_more,
        lt-ltb target s.levels c.above,
        le-leb 1 (total (area_of s)) c.some_table,
        le-leb (total (area_of s)) most_tables c.few,
        eq-eqb words (entries G * total (area_of s)) c.whole,
      )

  pub cannot_walk : (CanWalk G s words target → ⊥) → can_walk G s words target ≡ false
  cannot_walk f = go (can_walk G s words target) refl
    where
      go : (b : Bool) → can_walk G s words target ≡ b → b ≡ false
      go true e = absurd (f (can_walk_lem e))
      go false e = refl

module _ (G : Granule) (s : Setup) (ws : List ℕ) (target a : ℕ) where
  pub walk_if_lem : can_walk G s (length ws) target ≡ true → (cut : ℕ) (list : List ℕ) → walk_if G s ws target a ≡ walk_to G (pool s ws cut list) target a
  unfolding walk_if
  walk_if_lem e cut list = rw e

  pub walk_not : can_walk G s (length ws) target ≡ false → walk_if G s ws target a ≡ nowhere
  unfolding walk_if
  walk_not e = rw e

  -- where the numbers are good, it is the walk of the calls
  pub reach_good :
      {k places : ℕ} → Sane G → GoodSetup G s k (length ws) places → target ≤ G.large → (cut : ℕ) (list : List ℕ)
      → walk_if G s ws target a ≡ walk_to G (pool s ws cut list) target a
  reach_good S g l = walk_if_lem (walk_can (record {
    low = omega (arith, g);
    enough = omega (arith, g);
    not_more = omega (arith, g);
    above = omega (arith, S, g);
    some_table = omega (arith, g);
    few = omega (arith, g);
    whole = g.numbers.words_are;
  }))

-- ---- a walk of the calls that is done, and answered r

pub record Came (G : Granule) (p : Pool) (target a : ℕ) (r : Result Reached Lost) (way : List ℕ) : Type 0 where
  pub end : end_of G p.words (area_of p.numbers) r way ≡ walk_to G p target a
  pub place : IfOk r (λ x. (x.height ≤ 3) × (x.place < length p.words) × (x.place ≡ slot G (at_height way x.height) (at_height (path_of G a) x.height)))

-- by what the code promises of it
pub came_by :
    {G : Granule} {s : Setup} {ws : List ℕ} {target a k places : ℕ} {r : Result Reached Lost} {way : List ℕ}
    → GoodSetup G s k (length ws) places → target ≤ G.large → Sane G
    → end_of G ws (area_of s) r way ≡ walk_if G s ws target a
    → IfOk r (λ x. (x.height ≤ 3) × (x.place < length ws) × (x.place ≡ slot G (at_height way x.height) (at_height (path_of G a) x.height)))
    → (cut : ℕ) (list : List ℕ) → Came G (pool s ws cut list) target a r way
came_by {G} {s} {ws} {target} {a} g l S e placed cut list = record { end = e ∙ reach_good G s ws target a S g l cut list; place = placed }

module _ {G : Granule} {p : Pool} {target a : ℕ} {l : Lost} {way : List ℕ} (C : Came G p target a (Err l) way) where
  -- a table was come to again
  pub came_again : stop Damaged l.height way ≡ walk_to G p target a
  unfolding end_of
  came_again = C.end

module _ {G : Granule} {p : Pool} {target a : ℕ} {r : Reached} {way : List ℕ} (C : Came G p target a (Ok r) way) where
  -- it ended at the entry of a word
  pub came_height : r.height ≤ 3
  came_height = C.place.0

  pub came_inside : r.place < length p.words
  came_inside = C.place.1

  pub came_place : r.place ≡ slot G (at_height way r.height) (at_height (path_of G a) r.height)
  came_place = C.place.2

  pub came_word : {w : ℕ} → w ≡ get_or p.words r.place 0 → stop (entry_at G (area_of p.numbers) r.height w) r.height way ≡ walk_to G p target a
  unfolding end_of
  came_word e = ap (λ (w : ℕ). stop (entry_at G (area_of p.numbers) r.height w) r.height way) e ∙ C.end
