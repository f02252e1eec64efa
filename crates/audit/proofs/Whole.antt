-- The audit's answer, from what its checks answer: marking without a clash is the same as distinctness.
use Rattle.std.proofs.Common.{◌≡◌, ℕ, ◌+◌, ◌-◌, ◌*◌, ◌<◌, ◌≤◌, Bool, true, false, cond, not, ◌&&◌, ◌||◌, eqb, ltb, zero, suc, List, [], ◌∷◌, ◌++◌, length, get_or, set, replicate, Option, Some, None, sym, refl, ap, ◌∙◌, ap₂, true≢false, arith, length-set, get_or-set_other, get_or-set_same, eq-eqb, ne_eqb}
use mathlib.Core.Bool.{false≢true, and-true, and-false, and_assoc}
use mathlib.Core.List.Memᴰ.{head as here}
use mathlib.Core.List.Memᴰ.{tail as there}
use native.Mathlib.Decide.{ℕ_discrete}
use lib.ListN.{length-replicate}
use Rattle.laws.specs.Lists.{all_zero, among, distinct}
use Rattle.laws.specs.ListLaws.{distinct_left}
use Rattle.path.specs.Geometry.{Granule, granule_of, entries}
use Rattle.path.specs.Areas.{Area, area_of, total, GoodArea}
use Rattle.path.specs.Numbers.{most_tables, GoodSetup}
use Rattle.path.specs.Laws.{granule_sane, good_setup_lem}
use Rattle.path.specs.declared.Setup.{Setup}
use Rattle.model.specs.Answers.{Pool, audited, refused}
use Rattle.model.specs.Calls.{good_pool}
use Rattle.model.specs.Audit.{Found, table_words, of_table, of_pool, free_of, free_sound, none_inside, sound_pool, audit_w}
use Rattle.model.specs.Adds.{sound_tree}
use Rattle.model.specs.Sound.{Each, reached_of, mappings_of}
use Rattle.model.proofs.AuditLaws.{each_append, reached_low, free_back}
use Rattle.audit.specs.Checks.{granule_in, area_in, kept_in, tables_of, strictly, Seen, seen, Marked, clash, marks, mark, walked, counted, Answers, at_table, tree_of, free_pass, RunsFit, TableFit, Rooted}
use Rattle.audit.specs.declared.Look.{Look}
use Rattle.model.specs.declared.Counts.{Counts}
use Rattle.std.specs.Prelude.{is_some}
use Rattle.audit.proofs.Parts.{mark_append, ended, clashed}
use Rattle.audit.proofs.Tables.{or-false}

-- ---- marks and distinct lists

abbrev pub passed : Marked → Bool
passed clash = false
passed (marks M) = true

-- none of these is marked
unfoldable unmarked : List Bool → List ℕ → Bool
unmarked M [] = true
unmarked M (t ∷ ts) = not (get_or M t false) && unmarked M ts

-- once t is marked
unmarked_set : (M : List Bool) (t : ℕ) → t < length M → (ts : List ℕ) → unmarked (set M t true) ts ≡ (not (among t ts) && unmarked M ts)
unfolding unmarked among
unmarked_set M t l [] = refl
unmarked_set M t l (u ∷ ts) = go (ℕ_discrete u t) (unmarked_set M t l ts)
  where
    swap : (a b c : Bool) → (a && (b && c)) ≡ (b && (a && c))
    swap true b c = refl
    swap false true c = refl
    swap false false c = refl

    go : Dec (u ≡ t) → unmarked (set M t true) ts ≡ (not (among t ts) && unmarked M ts)
        → (not (get_or (set M t true) u false) && unmarked (set M t true) ts) ≡ (not (eqb u t || among t ts) && (not (get_or M u false) && unmarked M ts))
    go (yes e) ih = rw (e, get_or-set_same M t true false l, eq-eqb t t refl)
    go (no d) ih = rw (get_or-set_other M t u true false d, ne_eqb u t d, ih) (swap (not (get_or M u false)) (not (among t ts)) (unmarked M ts))

-- marking without a clash is distinctness, and none marked before
mark_distinct : (M : List Bool) (ts : List ℕ) → Each (λ t. t < length M) ts → passed (mark M ts) ≡ (distinct ts && unmarked M ts)
unfolding mark distinct unmarked
mark_distinct M [] r = refl
mark_distinct M (t ∷ ts) r =
    go (not (get_or M t false))
    (mark_distinct (set M t true) ts (λ u m. rw (length-set M t true) (r u (there m)))
    ∙ ap (λ (b : Bool). distinct ts && b) (unmarked_set M t (r t (here refl)) ts))
  where
    turn : (a d u : Bool) → (d && (a && u)) ≡ ((a && d) && u)
    turn true true u = refl
    turn true false u = refl
    turn false true u = refl
    turn false false u = refl

    go : (q : Bool) → passed (mark (set M t true) ts) ≡ (distinct ts && (not (among t ts) && unmarked M ts))
        → passed (cond q (mark (set M t true) ts) clash) ≡ ((not (among t ts) && distinct ts) && (q && unmarked M ts))
    go true h = h ∙ turn (not (among t ts)) (distinct ts) (unmarked M ts)
    go false h = sym (and-false (not (among t ts) && distinct ts))

-- no mark at all
abbrev blank : ℕ → List Bool
blank k = replicate k false

none_marked : (k t : ℕ) → get_or (blank k) t false ≡ false
none_marked zero t = refl
none_marked (suc k) zero = refl
none_marked (suc k) (suc t) = none_marked k t

unmarked_blank : (k : ℕ) (ts : List ℕ) → unmarked (blank k) ts ≡ true
unfolding unmarked
unmarked_blank k [] = refl
unmarked_blank k (t ∷ ts) = rw (none_marked k t) (unmarked_blank k ts)

pub blank_distinct : (k : ℕ) (ts : List ℕ) → Each (λ t. t < k) ts → passed (mark (blank k) ts) ≡ distinct ts
blank_distinct k ts r =
    mark_distinct (blank k) ts (λ t m. rw (length-replicate {A = Bool} k false) (r t m))
    ∙ ap (λ (b : Bool). distinct ts && b) (unmarked_blank k ts)
    ∙ and-true (distinct ts)

-- what stands twice in a list stands twice in a longer one
left_not : (xs ys : List ℕ) → distinct xs ≡ false → distinct (xs ++ ys) ≡ false
left_not xs ys e = go (distinct (xs ++ ys)) refl
  where
    go : (b : Bool) → distinct (xs ++ ys) ≡ b → b ≡ false
    go true q = absurd (true≢false (sym (distinct_left xs ys q) ∙ e))
    go false q = refl

-- ---- the free list

-- the free numbers' rule, and marking them without a clash
free_parts : (G : Granule) (ws : List ℕ) (n : ℕ) (M : List Bool) (ts : List ℕ) → free_pass G ws n M ts ≡ (free_sound G ws n ts && passed (mark M ts))
unfolding free_pass free_sound mark
free_parts G ws n M [] = refl
free_parts G ws n M (t ∷ ts) = go (ltb t n) (not (get_or M t false)) (all_zero (table_words G ws t)) (free_parts G ws n (set M t true) ts)
  where
    go : (r e z : Bool) → free_pass G ws n (set M t true) ts ≡ (free_sound G ws n ts && passed (mark (set M t true) ts))
        → (r && (e && (z && free_pass G ws n (set M t true) ts))) ≡ ((r && (z && free_sound G ws n ts)) && passed (cond e (mark (set M t true) ts) clash))
    go true true true h = h
    go true true false h = refl
    go true false true h = sym (and-false (free_sound G ws n ts))
    go true false false h = refl
    go false e z h = refl

-- ---- the root

-- the adding call keeps one region free, and looks at no empty table
abbrev pub loosely : Setup → ℕ → ℕ → Look
loosely s base tables = record {
  tree = tables_of s;
  kept = record { granule = s.granule; base = base; tables = tables; base2 = 0; tables2 = 0 };
  bare = true;
}

pub root_fit : {s : Setup} {look : Look} {first second : ℕ} → Rooted s first second → (look.tree.granule ≡ s.granule) → (look.tree.tables ≡ s.tables) → (look.tree.tables2 ≡ s.tables2)
    → GoodArea (granule_in look) (kept_in look) → TableFit (blank most_tables) look 0 (s.levels - 1) × RunsFit look first second
root_fit {s} {look} R o e f g =
    let most : (granule_in look).most ≡ (granule_of s.granule).most = ap (λ (x : ℕ). (granule_of x).most) o in
    let all : entries (granule_in look) * total (area_in look) ≡ entries (granule_of s.granule) * total (area_of s) =
    ap₂ (λ (x y : ℕ). entries (granule_of x) * y) o (ap₂ ◌+◌ e f) in (
      record {
        placed = g;
        marked = rw (length-replicate {A = Bool} most_tables false) (omega (arith, R.few));
        inside = omega (arith, R.some_table);
        low = omega (arith, R.not_more, R.enough, (granule_sane s.granule).large_below);
      },
      record { cut_is = R.cut_is ∙ sym (ap₂ (λ (x y : ℕ). entries (granule_of x) * y) o e); long = omega (arith, R.long) },
    )

module _ (s : Setup) (look : Look) (ws : List ℕ) (some_table : 1 ≤ s.tables) (few : total (area_of s) ≤ most_tables) (same : area_in look ≡ area_of s) where
  -- the tree, and the test that a check makes of it beside distinctness
  abbrev tree : Found
  tree = tree_of s ws

  abbrev sound : Bool
  sound = none_inside (granule_of s.granule) (kept_in look) tree.mappings && (tree.ok && (tree.full || look.bare))

  abbrev all : Seen
  all = at_table (granule_of s.granule) ws look (s.levels - 1) 0

  all_is : all ≡ record { ok = sound; reached = tree.reached; count = length tree.mappings }
  all_is = ap (λ (x : Area). seen (granule_of s.granule) look (of_table (granule_of s.granule) ws x (s.levels - 1) 0 0)) same

  pub reached_small : Each (λ t. t < most_tables) tree.reached
  reached_small t m = omega (arith, few, reached_low (granule_sane s.granule) ws (area_of s) (s.levels - 1) 0 0 (omega arith) t m)

  root_clash : (K : List Bool) → Answers all (blank most_tables) None K → (sound && distinct tree.reached) ≡ false
  root_clash K h = go sound refl (ap (λ (x : Seen). walked x (blank most_tables)) (sym all_is) ∙ clashed all (blank most_tables) K h)
    where
      go : (o : Bool) → sound ≡ o → cond o (mark (blank most_tables) tree.reached) clash ≡ clash → (o && distinct tree.reached) ≡ false
      go true o e = sym (blank_distinct most_tables tree.reached reached_small) ∙ ap passed e
      go false o e = refl

  root_sound : (a b : ℕ) (K : List Bool) → Answers all (blank most_tables) (counted a b) K
      → (sound ≡ true) × ((mark (blank most_tables) tree.reached ≡ marks K) × ((a ≡ length tree.reached) × (b ≡ length tree.mappings)))
  root_sound a b K h =
      let (x, y, z) = ended all (blank most_tables) K a b h in
      let (o, m) = go sound refl (ap (λ (x : Seen). walked x (blank most_tables)) (sym all_is) ∙ x) in
      (o, (m, (y ∙ ap (λ (x : Seen). length x.reached) all_is, z ∙ ap (λ (x : Seen). x.count) all_is)))
    where
      go : (o : Bool) → sound ≡ o → cond o (mark (blank most_tables) tree.reached) clash ≡ marks K → (sound ≡ true) × (mark (blank most_tables) tree.reached ≡ marks K)
      go true q e = (q, e)
      go false q e = absurd (let z : ◌≡◌ {A = ℕ} 0 1 = cc in omega arith)

  -- where empty tables are as good as others
  tree_clash : (K : List Bool) → look.bare ≡ true → Answers all (blank most_tables) None K → false ≡ (none_inside (granule_of s.granule) (kept_in look) tree.mappings && sound_tree tree)
  tree_clash K bare h = go (none_inside (granule_of s.granule) (kept_in look) tree.mappings) tree.ok tree.full (distinct tree.reached) (rw bare at (root_clash K h))
    where
      go : (n o f d : Bool) → ((n && (o && (f || true))) && d) ≡ false → false ≡ (n && (o && d))
      go true true true d e = sym e
      go true true false d e = sym e
      go true false f d e = refl
      go false o f d e = refl

  tree_sound : (a b : ℕ) (K : List Bool) → look.bare ≡ true → Answers all (blank most_tables) (counted a b) K
      → true ≡ (none_inside (granule_of s.granule) (kept_in look) tree.mappings && sound_tree tree)
  tree_sound a b K bare h =
      let r = root_sound a b K h in
      go (none_inside (granule_of s.granule) (kept_in look) tree.mappings) tree.ok tree.full (rw bare at r.0) (sym (blank_distinct most_tables tree.reached reached_small) ∙ ap passed r.1.0)
    where
      go : (n o f : Bool) → (n && (o && (f || true))) ≡ true → distinct tree.reached ≡ true → true ≡ (n && (o && distinct tree.reached))
      go true true f e d = sym d
      go true false f e d = absurd (false≢true e)
      go false o f e d = absurd (false≢true e)

  -- what such a check tells
  pub tree_told : (K : List Bool) → look.bare ≡ true → (r : Option Counts) → Answers all (blank most_tables) r K
      → is_some r ≡ (none_inside (granule_of s.granule) (kept_in look) tree.mappings && sound_tree tree)
  tree_told K bare None h = tree_clash K bare h
  tree_told K bare (Some c) h = tree_sound c.tables c.mappings K bare h

-- ---- the whole

pub rooted : (p : Pool) → good_pool (granule_of p.numbers.granule) p ≡ true → (second : ℕ) → length p.words ≡ p.cut + second → Rooted p.numbers p.cut second
rooted p g second e =
    let N : GoodSetup (granule_of p.numbers.granule) p.numbers p.cut (length p.words) (length p.list) = good_setup_lem g in
    record {
      enough = N.numbers.enough;
      not_more = N.numbers.not_more;
      some_table = N.numbers.some_table;
      few = N.numbers.few;
      cut_is = N.numbers.cut_is;
      long = omega (arith, N.numbers.words_are);
    }

module _ (p : Pool) (g : good_pool (granule_of p.numbers.granule) p ≡ true) where
  abbrev look : Look
  look = strictly p.numbers

  N : GoodSetup (granule_of p.numbers.granule) p.numbers p.cut (length p.words) (length p.list)
  N = good_setup_lem g

  abbrev n : ℕ
  n = total (area_of p.numbers)

  -- whether no frame shares a byte with the tables, and the tree is sound and has no empty table
  abbrev good : Bool
  good = none_inside (granule_of p.numbers.granule) (area_of p.numbers) (mappings_of (granule_of p.numbers.granule) p) && ((of_pool (granule_of p.numbers.granule) p).ok && (of_pool (granule_of p.numbers.granule) p).full)

  abbrev seen_all : Seen
  seen_all = at_table (granule_of p.numbers.granule) p.words look (p.numbers.levels - 1) 0

  abbrev tested : Bool
  tested = none_inside (granule_of p.numbers.granule) (kept_in look) (mappings_of (granule_of p.numbers.granule) p) && ((of_pool (granule_of p.numbers.granule) p).ok && ((of_pool (granule_of p.numbers.granule) p).full || look.bare))

  good_is : tested ≡ good
  good_is = rw (or-false (of_pool (granule_of p.numbers.granule) p).full)

  damaged : sound_pool (granule_of p.numbers.granule) p ≡ false → refused 8 ≡ audit_w (granule_of p.numbers.granule) p
  unfolding audit_w
  damaged e = sym (rw (g, e))

  pub whole_clash : (K : List Bool) → Answers seen_all (blank most_tables) None K → refused 8 ≡ audit_w (granule_of p.numbers.granule) p
  unfolding sound_pool
  whole_clash K h = damaged (go good (distinct (reached_of (granule_of p.numbers.granule) p)) refl (rw good_is at (root_clash p.numbers look p.words N.numbers.some_table N.numbers.few refl K h)))
    where
      go : (o d : Bool) → distinct (reached_of (granule_of p.numbers.granule) p) ≡ d → (o && d) ≡ false
          → (o && (distinct (reached_of (granule_of p.numbers.granule) p ++ free_of p) && (free_sound (granule_of p.numbers.granule) p.words n (free_of p) && eqb (length (reached_of (granule_of p.numbers.granule) p) + p.numbers.free) n))) ≡ false
      go true d q e = rw (left_not (reached_of (granule_of p.numbers.granule) p) (free_of p) (q ∙ e))
      go false d q e = refl

  module _ (a b : ℕ) (K : List Bool) (h : Answers seen_all (blank most_tables) (counted a b) K) where
    found : (good ≡ true) × ((mark (blank most_tables) (reached_of (granule_of p.numbers.granule) p) ≡ marks K) × ((a ≡ length (reached_of (granule_of p.numbers.granule) p)) × (b ≡ length (mappings_of (granule_of p.numbers.granule) p))))
    found = rw good_is at (root_sound p.numbers look p.words N.numbers.some_table N.numbers.few refl a b K h)

    -- the free list's check, after the tree's
    frees : free_pass (granule_of p.numbers.granule) p.words n K (free_of p) ≡ (distinct (reached_of (granule_of p.numbers.granule) p ++ free_of p) && free_sound (granule_of p.numbers.granule) p.words n (free_of p))
    frees = free_parts (granule_of p.numbers.granule) p.words n K (free_of p) ∙ go (free_sound (granule_of p.numbers.granule) p.words n (free_of p)) refl
      where
        small : free_sound (granule_of p.numbers.granule) p.words n (free_of p) ≡ true → Each (λ t. t < most_tables) (reached_of (granule_of p.numbers.granule) p ++ free_of p)
        small e =
            each_append (λ t. t < most_tables) (reached_of (granule_of p.numbers.granule) p) (free_of p) (reached_small p.numbers look p.words N.numbers.some_table N.numbers.few refl)
            (λ t m. omega (arith, N.numbers.few, (free_back (granule_of p.numbers.granule) p.words n (free_of p) e t m).0))

        joined : mark (blank most_tables) (reached_of (granule_of p.numbers.granule) p ++ free_of p) ≡ mark K (free_of p)
        joined = mark_append (blank most_tables) (reached_of (granule_of p.numbers.granule) p) (free_of p) ∙ rw found.1.0

        go : (o : Bool) → free_sound (granule_of p.numbers.granule) p.words n (free_of p) ≡ o → (o && passed (mark K (free_of p))) ≡ (distinct (reached_of (granule_of p.numbers.granule) p ++ free_of p) && o)
        go true e =
            ap passed (sym joined)
            ∙ blank_distinct most_tables (reached_of (granule_of p.numbers.granule) p ++ free_of p) (small e)
            ∙ sym (and-true (distinct (reached_of (granule_of p.numbers.granule) p ++ free_of p)))
        go false e = sym (and-false (distinct (reached_of (granule_of p.numbers.granule) p ++ free_of p)))

    -- the whole test
    test : sound_pool (granule_of p.numbers.granule) p ≡ (free_pass (granule_of p.numbers.granule) p.words n K (free_of p) && eqb (length (reached_of (granule_of p.numbers.granule) p) + p.numbers.free) n)
    unfolding sound_pool
    test =
        rw (found.0, frees)
        (sym (and_assoc (distinct (reached_of (granule_of p.numbers.granule) p ++ free_of p)) (free_sound (granule_of p.numbers.granule) p.words n (free_of p)) (eqb (length (reached_of (granule_of p.numbers.granule) p) + p.numbers.free) n)))

    pub whole_miscount : (a ≡ n - p.numbers.free → ⊥) → refused 8 ≡ audit_w (granule_of p.numbers.granule) p
    whole_miscount m =
        damaged (test ∙ rw (ne_eqb (length (reached_of (granule_of p.numbers.granule) p) + p.numbers.free) n (λ e. m (omega (arith, found.1.1.0))))
        (and-false (free_pass (granule_of p.numbers.granule) p.words n K (free_of p))))

    pub whole_unfree : false ≡ free_pass (granule_of p.numbers.granule) p.words n K (free_of p) → refused 8 ≡ audit_w (granule_of p.numbers.granule) p
    whole_unfree e = damaged (test ∙ rw (← e))

    pub whole_sound : a ≡ n - p.numbers.free → true ≡ free_pass (granule_of p.numbers.granule) p.words n K (free_of p) → audited a b ≡ audit_w (granule_of p.numbers.granule) p
    unfolding audit_w
    whole_sound c e =
        let whole : length (reached_of (granule_of p.numbers.granule) p) + p.numbers.free ≡ n = omega (arith, found.1.1.0, N.room) in
        let s : sound_pool (granule_of p.numbers.granule) p ≡ true = test ∙ rw (← e, eq-eqb _ _ whole) in
        ap₂ audited found.1.1.0 found.1.1.1 ∙ sym (rw (g, s))
