-- Laws of the walk.
use Prim.Native.Nat.{ℕ, zero, suc, ◌-◌, ◌≤◌, ◌<◌}
use Rattle.std.specs.Prelude.{◌≡◌, refl, Bool, true, false, cond, List, leb, get_or, set}
use Rattle.std.proofs.Common.{sym, ◌∙◌, true≢false, sub-one}
use Rattle.std.proofs.Math.Path.{ap}
use native.Mathlib.Omega.{arith}
use borrow.Author.Tests.{lt-ltb, le-ltb, le-leb, lt-leb, leb-false}
use Rattle.laws.specs.Lists.{among}
use Rattle.path.specs.Geometry.{Granule, Sane}
use Rattle.path.specs.Areas.{Area, area_of, total}
use Rattle.path.specs.Numbers.{most_tables, GoodSetup}
use Rattle.path.specs.Paths.{path_of}
use Rattle.path.specs.declared.Setup.{Setup}
use Rattle.entry.specs.Words.{entry_at}
use Rattle.entry.specs.declared.Entry.{Entry}
use Rattle.entry.specs.declared.Entry.TheVariants.{Empty, Table, Frame, Damaged}
use Rattle.model.specs.declared.Walked.{Walked}
use Rattle.model.specs.Answers.{pool}
use Rattle.model.specs.Walk.{slot, at_height, no_way, stop, onward, walk_from}
use Rattle.model.specs.Calls.{walk_to}
use Rattle.lookup.specs.Walks.{walk_of, nowhere, walk_by}

-- whether an entry names a table
abbrev pub is_table : Entry → Bool
is_table (Table c) = true
is_table Empty = false
is_table (Frame b a) = false
is_table Damaged = false

-- what holds of the height here and, past the target, of those below, holds of the height where the walk ends
ends_where :
    (Q : ℕ → Type 0) (target h : ℕ) (way : List ℕ) (on : ℕ → Walked)
    → Q (suc h) → (target ≤ h → Q h) → (target ≤ h → (c : ℕ) → Q (on c).left)
    → (e : Entry) → Q (onward e target h way on).left
unfolding onward
ends_where Q target h way on here below further Empty = here
ends_where Q target h way on here below further (Frame b a) = here
ends_where Q target h way on here below further Damaged = here
ends_where Q target h way on here below further (Table c) = go (leb (suc h) target) refl (among c way)
  where
    go : (b : Bool) → leb (suc h) target ≡ b → (m : Bool) → Q (cond b (stop (Table c) (suc h) way) (cond m (stop Damaged h way) (on c))).left
    go true l m = here
    go false l true = below (omega (arith, leb-false (suc h) target l))
    go false l false = further (omega (arith, leb-false (suc h) target l)) c

module _ (G : Granule) (ws : List ℕ) (area : Area) (target : ℕ) (path : List ℕ) where
  -- the word, and the entry, that a walk reads in table t, whose entries have height h
  abbrev pub word_of : ℕ → ℕ → ℕ
  word_of h t = get_or ws (slot G t (at_height path h)) 0

  abbrev pub entry_of : ℕ → ℕ → Entry
  entry_of h t = entry_at G area h (word_of h t)

  pub known_entry : (h t : ℕ) {w : ℕ} {e : Entry} → e ≡ entry_at G area h w → w ≡ word_of h t → e ≡ entry_of h t
  known_entry h t q x = q ∙ ap (λ (y : ℕ). entry_at G area h y) x

  -- a walk from table t; `way` holds the tables above it
  abbrev pub walk_at : ℕ → List ℕ → ℕ → Walked
  walk_at h way t = walk_from G ws area target path h way t

  -- Where the entry is known, the walk is what is done at it:
  pub walk_on :
      {e : Entry} (h : ℕ) (way : List ℕ) (t : ℕ) → e ≡ entry_of (suc h) t
      → onward e target h (set way (3 - suc h) t) (walk_at h (set way (3 - suc h) t)) ≡ walk_at (suc h) way t
  unfolding walk_from
  walk_on h way t q =
      ap (λ (x : Entry). onward x target h (set way (3 - suc h) t) (walk_at h (set way (3 - suc h) t))) q

  pub walk_last : {e : Entry} (way : List ℕ) (t : ℕ) → e ≡ entry_of 0 t → stop e 0 (set way 3 t) ≡ walk_at 0 way t
  unfolding walk_from
  walk_last way t q = ap (λ (x : Entry). stop x 0 (set way 3 t)) q

  -- it ends at what is no table,
  pub walk_ends :
      {e : Entry} (h : ℕ) (way : List ℕ) (t : ℕ) → is_table e ≡ false → e ≡ entry_of h t
      → stop e h (set way (3 - h) t) ≡ walk_at h way t
  unfolding onward
  walk_ends zero way t f q = walk_last way t q
  walk_ends {e = Empty} (suc h) way t f q = walk_on h way t q
  walk_ends {e = Frame b a} (suc h) way t f q = walk_on h way t q
  walk_ends {e = Damaged} (suc h) way t f q = walk_on h way t q
  walk_ends {e = Table c} (suc h) way t f q = absurd (true≢false f)

  -- at the target height,
  pub walk_reaches :
      {e : Entry} (h : ℕ) (way : List ℕ) (t : ℕ) → e ≡ entry_of h t → h ≤ target
      → stop e h (set way (3 - h) t) ≡ walk_at h way t
  unfolding onward
  walk_reaches zero way t q l = walk_last way t q
  walk_reaches {e = Empty} (suc h) way t q l = walk_on h way t q
  walk_reaches {e = Frame b a} (suc h) way t q l = walk_on h way t q
  walk_reaches {e = Damaged} (suc h) way t q l = walk_on h way t q
  walk_reaches {e = Table c} (suc h) way t q l = rw (le-leb (suc h) target l) at (walk_on h way t q)

  -- and at a table come to again;
  pub walk_again :
      {c : ℕ} (h : ℕ) (way : List ℕ) (t : ℕ) → Table c ≡ entry_of h t → target < h → among c (set way (3 - h) t) ≡ true
      → stop Damaged (h - 1) (set way (3 - h) t) ≡ walk_at h way t
  unfolding onward
  walk_again zero way t q l m = absurd (omega arith)
  walk_again (suc h) way t q l m = rw (sub-one (suc h)) (rw (lt-leb (suc h) target l, m) at (walk_on h way t q))

  -- else it goes on.
  pub walk_down :
      {c : ℕ} (h : ℕ) (way : List ℕ) (t : ℕ) → Table c ≡ entry_of h t → target < h → among c (set way (3 - h) t) ≡ false
      → walk_at (h - 1) (set way (3 - h) t) c ≡ walk_at h way t
  unfolding onward
  walk_down zero way t q l m = absurd (omega arith)
  walk_down (suc h) way t q l m = rw (sub-one (suc h)) (rw (lt-leb (suc h) target l, m) at (walk_on h way t q))

  -- it ends no higher than it began, and not below the target height
  pub walk_within : (h : ℕ) (way : List ℕ) (t : ℕ) → (walk_at h way t).left ≤ h
  unfolding walk_from
  walk_within zero way t = omega arith
  walk_within (suc h) way t =
      ends_where (λ x. x ≤ suc h) target h (set way (3 - suc h) t) (walk_at h (set way (3 - suc h) t))
      (omega arith)
      (λ l. omega arith)
      (λ l c. omega (arith, walk_within h (set way (3 - suc h) t) c))
      (entry_of (suc h) t)

  pub walk_above : (h : ℕ) (way : List ℕ) (t : ℕ) → target ≤ h → target ≤ (walk_at h way t).left
  unfolding walk_from
  walk_above zero way t l = l
  walk_above (suc h) way t l =
      ends_where (λ x. target ≤ x) target h (set way (3 - suc h) t) (walk_at h (set way (3 - suc h) t))
      l
      (λ m. m)
      (λ m c. walk_above h (set way (3 - suc h) t) c m)
      (entry_of (suc h) t)

  -- from the root
  pub walk_root : {top : ℕ} → top ≤ 3 → walk_of G ws area target path top ≡ walk_at top no_way 0
  unfolding walk_of
  walk_root {top} l = rw (le-leb top 3 l)

  pub walk_too_high : {top : ℕ} → 3 < top → walk_of G ws area target path top ≡ stop Damaged top no_way
  unfolding walk_of
  walk_too_high {top} l = rw (lt-leb top 3 l)

-- by the setup numbers
module _ (G : Granule) (s : Setup) (ws : List ℕ) (target a : ℕ) where
  pub walk_no_level : s.levels < 1 → walk_by G s ws target a ≡ nowhere
  unfolding walk_by
  walk_no_level l = rw (lt-ltb _ _ l)

  module _ (l : 1 ≤ s.levels) where
    pub walk_too_many : most_tables < total (area_of s) → walk_by G s ws target a ≡ nowhere
    unfolding walk_by
    walk_too_many m = rw (le-ltb _ _ l, lt-ltb _ _ m)

    pub walk_by_lem : total (area_of s) ≤ most_tables → {path : List ℕ} → path ≡ path_of G a
        → walk_of G ws (area_of s) target path (s.levels - 1) ≡ walk_by G s ws target a
    unfolding walk_by
    walk_by_lem m q = rw (le-ltb _ _ l, le-ltb _ _ m, ← q)

  -- where they are good, it is the walk of the calls
  pub walk_good :
      {k w places : ℕ} → Sane G → GoodSetup G s k w places → (cut : ℕ) (list : List ℕ)
      → walk_by G s ws target a ≡ walk_to G (pool s ws cut list) target a
  walk_good S g cut list =
      sym (walk_by_lem (omega (arith, S, g)) (omega (arith, g)) refl) ∙ walk_root G ws (area_of s) target (path_of G a) (omega (arith, S, g))
