-- tree.rs, visit and real_path. A visit is the walk from the root to a target height: the height where it ends is how far it came, and the tables on
-- its way are those whose entries it read; its real path is the part of the path that it came. All but the last two laws are of any words, sound or
-- not.
use Rattle.std.specs.Prelude.{◌≡◌, ◌≢◌, ◌⊎◌, Bool, true, false, cond, leb, get_or, take}
use Rattle.std.proofs.Math.Path.{refl}
use Rattle.std.proofs.Common.{ap, sym, ◌∙◌, subst, inl, ⊎_elim}
use Rattle.std.proofs.Math.Logic.{inr}
use mathlib.Core.List.{List, ◌++◌}
use Prim.Native.Nat.{ℕ, zero, suc, ◌+◌, ◌-◌, ◌≤◌, ◌<◌}
use native.Mathlib.Omega.{arith}
use Rattle.std.proofs.Math.Decide.{ℕ_discrete}
use Rattle.std.proofs.Math.ListN.{set}
use Rattle.std.proofs.Math.Seq.{get_or-set_other}
use borrow.Author.Tests.{leb-true, leb-false, le-leb, lt-leb}
use Rattle.laws.specs.Lists.{among}
use Rattle.path.specs.Geometry.{Granule, entries, space_of, Sane}
use Rattle.path.specs.Areas.{Area, area_of, total}
use Rattle.path.specs.Laws.{good_setup_lem}
use Rattle.path.specs.Paths.{path_of, indices, IsPath}
use Rattle.path.specs.PrefixLaws.{indices_split, prefix_path}
use Rattle.entry.specs.Words.{entry_at}
use Rattle.entry.proofs.Laws.{table_only, frame_only}
use Rattle.entry.specs.declared.Entry.{Entry}
use Rattle.entry.specs.declared.Entry.TheVariants.{Empty, Table, Frame, Damaged}
use Rattle.model.specs.Answers.{Pool}
use Rattle.model.specs.declared.Walked.{Walked}
use Rattle.model.specs.Walk.{slot, at_height, no_way, stop, onward, walk_from}
use Rattle.model.specs.Calls.{good_pool, walk_to}
use Rattle.tree.specs.Region.{anc}
use Rattle.demand.specs.Holds.{WfTree, ledger_of}
use Rattle.demand.specs.Shown.{pg}
use Rattle.demand.specs.Sims.{SimIf, wf_sim}
use Rattle.demand.specs.Queries.{walk_ended}
use Rattle.demand.specs.Arm.{read_entry}
use Rattle.demand.specs.Walks.{never_bad}
use Rattle.upstream.specs.Visit.{EntryValid, real_path}

module _ (G : Granule) (ws : List ℕ) (area : Area) (path : List ℕ) where
  -- the walk to height g from table t, whose entries have height h
  abbrev walk : ℕ → ℕ → List ℕ → ℕ → Walked
  walk g h way t = walk_from G ws area g path h way t

  -- the entry of table t that the walk reads
  abbrev read : ℕ → ℕ → Entry
  read h t = entry_at G area h (get_or ws (slot G t (at_height path h)) 0)

  -- it ends at the height where it began or below
  walk_low : (g h : ℕ) (way : List ℕ) (t : ℕ) → (walk g h way t).left ≤ h
  unfolding walk_from onward
  walk_low g zero way t = omega arith
  walk_low g (suc h) way t = go (read (suc h) t) (λ c. walk_low g h (set way (3 - suc h) t) c)
    where
      way' : List ℕ
      way' = set way (3 - suc h) t

      go : (e : Entry) → ((c : ℕ) → (walk g h way' c).left ≤ h) → (onward e g h way' (λ c. walk g h way' c)).left ≤ suc h
      go Empty ih = omega arith
      go (Frame b k) ih = omega arith
      go Damaged ih = omega arith
      go (Table c) ih = at (leb (suc h) g) (among c way')
        where
          at : (x y : Bool) → (cond x (stop (Table c) (suc h) way') (cond y (stop Damaged h way') (walk g h way' c))).left ≤ suc h
          at true y = omega arith
          at false true = omega arith
          at false false = omega (arith, ih c)

  -- and at the target or above it
  walk_target : (g h : ℕ) (way : List ℕ) (t : ℕ) → g ≤ h → g ≤ (walk g h way t).left
  unfolding walk_from onward
  walk_target g zero way t l = l
  walk_target g (suc h) way t l = go (read (suc h) t) (λ c q. walk_target g h (set way (3 - suc h) t) c q)
    where
      way' : List ℕ
      way' = set way (3 - suc h) t

      go : (e : Entry) → ((c : ℕ) → g ≤ h → g ≤ (walk g h way' c).left) → g ≤ (onward e g h way' (λ c. walk g h way' c)).left
      go Empty ih = l
      go (Frame b k) ih = l
      go Damaged ih = l
      go (Table c) ih = at (leb (suc h) g) refl (among c way')
        where
          at : (x : Bool) → leb (suc h) g ≡ x → (y : Bool) → g ≤ (cond x (stop (Table c) (suc h) way') (cond y (stop Damaged h way') (walk g h way' c))).left
          at true e y = l
          at false e true = omega (arith, leb-false (suc h) g e)
          at false e false = ih c (omega (arith, leb-false (suc h) g e))

  -- lemma_visit_length_bounds
  pub visit_length_bounds : (g h : ℕ) (way : List ℕ) (t : ℕ) → g ≤ h → (g ≤ (walk_from G ws area g path h way t).left) × ((walk_from G ws area g path h way t).left ≤ h)
  visit_length_bounds g h way t l = (walk_target g h way t l, walk_low g h way t)

  -- lemma_real_path_step: at a table above the target that was not come to before, the walk goes on from that table
  pub real_path_step : (g h : ℕ) (way : List ℕ) (t c : ℕ) → g ≤ h → entry_at G area (suc h) (get_or ws (slot G t (at_height path (suc h))) 0) ≡ Table c → among c (set way (3 - suc h) t) ≡ false
      → walk_from G ws area g path (suc h) way t ≡ walk_from G ws area g path h (set way (3 - suc h) t) c
  unfolding walk_from onward
  real_path_step g h way t c l e q = rw (e, onward, lt-leb (suc h) g (omega arith), q)

  -- lemma_real_path_visits_same_entry: the walk to the height where a walk ended is that walk
  pub real_path_visits_same_entry : (g h : ℕ) (way : List ℕ) (t : ℕ) → walk_from G ws area (walk_from G ws area g path h way t).left path h way t ≡ walk_from G ws area g path h way t
  unfolding walk_from onward
  real_path_visits_same_entry g zero way t = refl
  real_path_visits_same_entry g (suc h) way t = go (read (suc h) t) (λ c. real_path_visits_same_entry g h (set way (3 - suc h) t) c)
    where
      way' : List ℕ
      way' = set way (3 - suc h) t

      next : Entry → ℕ → Walked
      next e g = onward e g h way' (λ c. walk g h way' c)

      go : (e : Entry) → ((c : ℕ) → walk (walk g h way' c).left h way' c ≡ walk g h way' c) → next e (next e g).left ≡ next e g
      go Empty ih = refl
      go (Frame b k) ih = refl
      go Damaged ih = refl
      go (Table c) ih = at (leb (suc h) g) refl (among c way') refl
        where
          stops : Bool → Bool → ℕ → Walked
          stops x y g = cond x (stop (Table c) (suc h) way') (cond y (stop Damaged h way') (walk g h way' c))

          at : (x : Bool) → leb (suc h) g ≡ x → (y : Bool) → among c way' ≡ y → stops (leb (suc h) (stops x y g).left) y (stops x y g).left ≡ stops x y g
          at true e y q = rw (le-leb (suc h) (suc h) (omega arith))
          at false e true q = rw (lt-leb (suc h) h (omega arith))
          at false e false q = rw (lt-leb (suc h) (walk g h way' c).left (omega (arith, walk_low g h way' c))) (ih c)

  -- lemma_visited_entry_is_node_except_final: at each height above the one where the walk ended, it came to a table
  pub visited_entry_is_node_except_final : (g h : ℕ) (way : List ℕ) (t j : ℕ) → (walk_from G ws area g path h way t).left < j → j ≤ h
      → (c : ℕ) × ((walk_from G ws area j path h way t).entry ≡ Table c) × ((walk_from G ws area j path h way t).left ≡ j)
  unfolding walk_from onward
  visited_entry_is_node_except_final g zero way t j a b = absurd (omega arith)
  visited_entry_is_node_except_final g (suc h) way t j a b = go (read (suc h) t) a (λ c. visited_entry_is_node_except_final g h (set way (3 - suc h) t) c j)
    where
      way' : List ℕ
      way' = set way (3 - suc h) t

      Node : Walked → Type 0
      Node o = (c : ℕ) × (o.entry ≡ Table c) × (o.left ≡ j)

      next : Entry → ℕ → Walked
      next e g = onward e g h way' (λ c. walk g h way' c)

      go : (e : Entry) → (next e g).left < j → ((c : ℕ) → (walk g h way' c).left < j → j ≤ h → Node (walk j h way' c)) → Node (next e j)
      go Empty a ih = absurd (omega arith)
      go (Frame _ _) a ih = absurd (omega arith)
      go Damaged a ih = absurd (omega arith)
      go (Table c) a ih = at (leb (suc h) g) (among c way') refl a (ℕ_discrete j (suc h))
        where
          stops : Bool → Bool → ℕ → Walked
          stops x y g = cond x (stop (Table c) (suc h) way') (cond y (stop Damaged h way') (walk g h way' c))

          at : (x y : Bool) → among c way' ≡ y → (stops x y g).left < j → Dec (j ≡ suc h) → Node (stops (leb (suc h) j) (among c way') j)
          at x y q a (yes e) = rw (le-leb (suc h) j (omega arith)) (c, refl, sym e)
          at true y q a (no e) = absurd (omega arith)
          at false true q a (no e) = absurd (omega arith)
          at false false q a (no e) = rw (lt-leb (suc h) j (omega arith), q) (ih c a (omega arith))

  -- the walk leaves the tables above it as they are
  way_kept : (g h : ℕ) (way : List ℕ) (t j : ℕ) → h < j → j < 4 → at_height (walk g h way t).tables j ≡ at_height way j
  unfolding walk_from onward
  way_kept g zero way t j a b = get_or-set_other way 3 (3 - j) t 0 (λ e. omega arith)
  way_kept g (suc h) way t j a b = go (read (suc h) t) (λ c. way_kept g h (set way (3 - suc h) t) c j (omega arith) b)
    where
      way' : List ℕ
      way' = set way (3 - suc h) t

      kept : at_height way' j ≡ at_height way j
      kept = get_or-set_other way (3 - suc h) (3 - j) t 0 (λ e. omega arith)

      go : (e : Entry) → ((c : ℕ) → at_height (walk g h way' c).tables j ≡ at_height way' j) → at_height (onward e g h way' (λ c. walk g h way' c)).tables j ≡ at_height way j
      go Empty ih = kept
      go (Frame _ _) ih = kept
      go Damaged ih = kept
      go (Table c) ih = at (leb (suc h) g) (among c way')
        where
          at : (x y : Bool) → at_height (cond x (stop (Table c) (suc h) way') (cond y (stop Damaged h way') (walk g h way' c))).tables j ≡ at_height way j
          at true y = kept
          at false true = kept
          at false false = ih c ∙ kept

  -- what a walk to a lower target has in common with one to a higher: it comes as far, by the same tables
  pub record Extends (o o' : Walked) : Type 0 where
    pub further : o.left ≤ o'.left
    pub tables : (j : ℕ) → o'.left ≤ j → j < 4 → at_height o.tables j ≡ at_height o'.tables j

  -- lemma_visit_preserves_prefix: g' is the height of the prefix, g that of the path
  pub visit_preserves_prefix : (g g' h : ℕ) (way : List ℕ) (t : ℕ) → g ≤ g' → h < 4 → Extends (walk_from G ws area g path h way t) (walk_from G ws area g' path h way t)
  unfolding walk_from onward
  visit_preserves_prefix g g' zero way t l b = record { further = omega arith; tables = λ j c d. refl }
  visit_preserves_prefix g g' (suc h) way t l b = go (read (suc h) t) (λ c. visit_preserves_prefix g g' h (set way (3 - suc h) t) c l (omega arith))
    where
      way' : List ℕ
      way' = set way (3 - suc h) t

      next : Entry → ℕ → Walked
      next e g = onward e g h way' (λ c. walk g h way' c)

      go : (e : Entry) → ((c : ℕ) → Extends (walk g h way' c) (walk g' h way' c)) → Extends (next e g) (next e g')
      go Empty ih = record { further = omega arith; tables = λ j c d. refl }
      go (Frame _ _) ih = record { further = omega arith; tables = λ j c d. refl }
      go Damaged ih = record { further = omega arith; tables = λ j c d. refl }
      go (Table c) ih = at (leb (suc h) g) (leb (suc h) g') refl refl (among c way')
        where
          stops : Bool → Bool → ℕ → Walked
          stops x y g = cond x (stop (Table c) (suc h) way') (cond y (stop Damaged h way') (walk g h way' c))

          at : (x x' : Bool) → leb (suc h) g ≡ x → leb (suc h) g' ≡ x' → (y : Bool) → Extends (stops x y g) (stops x' y g')
          at true true e e' y = record { further = omega arith; tables = λ j c d. refl }
          at true false e e' y = absurd (omega (arith, leb-true (suc h) g e, leb-false (suc h) g' e'))
          at false true e e' true = record { further = omega arith; tables = λ j c d. refl }
          at false true e e' false = record { further = omega (arith, walk_low g h way' c); tables = λ j a d. way_kept g h way' c j (omega arith) d }
          at false false e e' true = record { further = omega arith; tables = λ j c d. refl }
          at false false e e' false = ih c

  -- the entry where a walk ended is read from a word, but for a table come to again
  was_read : (g h : ℕ) (way : List ℕ) (t : ℕ) → ((walk g h way t).entry ≡ Damaged) ⊎ ((w : ℕ) × (entry_at G area (walk g h way t).left w ≡ (walk g h way t).entry))
  unfolding walk_from onward
  was_read g zero way t = inr (_, refl)
  was_read g (suc h) way t = go (read (suc h) t) refl (λ c. was_read g h (set way (3 - suc h) t) c)
    where
      way' : List ℕ
      way' = set way (3 - suc h) t

      Read : Walked → Type 0
      Read o = (o.entry ≡ Damaged) ⊎ ((w : ℕ) × (entry_at G area o.left w ≡ o.entry))

      go : (e : Entry) → read (suc h) t ≡ e → ((c : ℕ) → Read (walk g h way' c)) → Read (onward e g h way' (λ c. walk g h way' c))
      go Empty q ih = inr (_, q)
      go (Frame _ _) q ih = inr (_, q)
      go Damaged q ih = inl refl
      go (Table c) q ih = at (leb (suc h) g) (among c way')
        where
          at : (x y : Bool) → Read (cond x (stop (Table c) (suc h) way') (cond y (stop Damaged h way') (walk g h way' c)))
          at true y = inr (_, q)
          at false true = inl refl
          at false false = ih c

module _ (G : Granule) (p : Pool) (g a : ℕ) where
  abbrev came : ℕ
  came = (walk_to G p g a).left

  abbrev levels : ℕ
  levels = p.numbers.levels

  in_levels : levels - came + came ≡ levels
  in_levels = omega (arith, walk_low G p.words (area_of p.numbers) (path_of G a) g (levels - 1) no_way 0)

  -- lemma_real_path_valid
  pub real_path_valid : IsPath G (p.numbers.levels - (walk_to G p g a).left) (real_path G a p.numbers.levels (walk_to G p g a).left)
  real_path_valid = subst (λ (n : ℕ). IsPath G (levels - came) (take (levels - came) (indices G a n))) in_levels (prefix_path G a (levels - came) came)

  -- lemma_real_path_is_prefix
  pub real_path_is_prefix : real_path G a p.numbers.levels (walk_to G p g a).left ++ indices G a (walk_to G p g a).left ≡ indices G a p.numbers.levels
  real_path_is_prefix = subst (λ (n : ℕ). take (levels - came) (indices G a n) ++ indices G a came ≡ indices G a n) in_levels (sym (indices_split G a (levels - came) came))

-- what is read from a word, and not damaged, may stand there
pub read_valid : {G : Granule} → Sane G → (area : Area) (h w : ℕ) (e : Entry) → entry_at G area h w ≡ e → e ≢ Damaged → EntryValid G (total area) h e
read_valid Z area h w Empty q d = tt
read_valid Z area h w (Table c) q d = let (x, y, z, _) = table_only Z area h w q in (x, y, z)
read_valid Z area h w (Frame b k) q d = (frame_only Z area h w q).0
read_valid Z area h w Damaged q d = d refl

module _ (G : Granule) (Z : Sane G) {p : Pool} (w : WfTree G p) (good : good_pool G p ≡ true) (g a : ℕ) (low : g ≤ p.numbers.levels - 1) (in_space : a < space_of G p.numbers.levels) where
  -- in a tree that is well-formed no walk meets damage
  pub never_damaged : (walk_to G p g a).entry ≢ Damaged
  never_damaged e = never_bad (I.S h r) (I.T h r) (ap read_entry (sym e) ∙ (walk_ended G Z I g a low in_space).ends.says_is)
    where
      I : SimIf G Z ⊥ ⊥ p (ledger_of G p)
      I = wf_sim G Z (good_setup_lem good) w (λ c. absurd c)

      h : ℕ
      h = (walk_to G p g a).left

      r : ℕ
      r = anc (entries G) h (pg G Z a)

  -- lemma_visited_entries_satisfy_wf: the entry where a walk ended may stand there; those above it are ends of walks to their own heights
  pub visited_entries_satisfy_wf : EntryValid G (total (area_of p.numbers)) (walk_to G p g a).left (walk_to G p g a).entry
  visited_entries_satisfy_wf = ⊎_elim (λ d. absurd (never_damaged d)) (λ (w, q). read_valid Z (area_of p.numbers) _ w _ q never_damaged)
      (was_read G p.words (area_of p.numbers) (path_of G a) g (p.numbers.levels - 1) no_way 0)
