-- A step of the walk by the word that is read, and a loop over the heights that makes the walk.
use Prim.Native.Nat.{ℕ, zero, suc, ◌+◌, ◌-◌, ◌%◌, ◌≤◌, ◌<◌}
use Rattle.std.specs.Prelude.{◌≡◌, Bool, true, cond, ◌&&◌, ◌||◌, List, [], ◌∷◌, ltb, leb, eqb, set}
use Rattle.std.proofs.Math.Path.{refl}
use Rattle.std.proofs.Common.{sym, ap, ◌∙◌, arith}
use Rattle.std.proofs.Math.Bool.{false}
use borrow.Author.Tests.{ne_eqb}
use Rattle.laws.specs.Lists.{among}
use Rattle.path.specs.Geometry.{Granule, size_at}
use Rattle.path.specs.Areas.{Area}
use Rattle.entry.specs.Words.{base_in, attrs_in, frame_word, child_at, frame_at, entry_at}
use Rattle.entry.proofs.Laws.{entry_zero, entry_table, entry_frame}
use Rattle.entry.specs.declared.Entry.TheVariants.{Empty, Table, Frame, Damaged}
use Rattle.model.specs.Walk.{no_way, stop}
use Rattle.lookup.specs.WalkLaws.{is_table, word_of, entry_of, walk_at, walk_ends, walk_again, walk_down}

-- a word that is read as a frame names no table
frame_no_table : (G : Granule) (h w : ℕ) → is_table (frame_at G h w) ≡ false
unfolding frame_at
frame_no_table G h w = go (leb h G.large && (eqb (base_in w % size_at G h) 0 && eqb w (frame_word (base_in w) h (attrs_in w))))
  where
    go : (b : Bool) → is_table (cond b (Frame (base_in w) (attrs_in w)) Damaged) ≡ false
    go true = refl
    go false = refl

-- nor does one that is no table's, whatever it says
names_none : (G : Granule) (area : Area) (h w : ℕ) → child_at G area w ≡ 0 → is_table (entry_at G area h w) ≡ false
unfolding entry_at
names_none G area h w none = rw none (go (eqb w 0) (ltb 0 h))
  where
    go : (a b : Bool) → is_table (cond a Empty (cond (b && false) (Table 0) (frame_at G h w))) ≡ false
    go true b = refl
    go false true = frame_no_table G h w
    go false false = frame_no_table G h w

or_none : (a b : Bool) → (a || b) ≡ (a || (b || false))
or_none true b = refl
or_none false true = refl
or_none false false = refl

module _ (G : Granule) (ws : List ℕ) (area : Area) (target : ℕ) (path : List ℕ) where
  -- ---- at table t, whose entries have height h; `way` holds the tables above it, and w is the word of the path's entry

  module _ {w : ℕ} (h : ℕ) (way : List ℕ) (t : ℕ) (q : w ≡ word_of G ws area target path h t) where
    -- a word of 0 ends the walk,
    pub ends_empty : w ≡ 0 → stop Empty h (set way (3 - h) t) ≡ walk_at G ws area target path h way t
    ends_empty z =
        walk_ends G ws area target path h way t refl (sym (ap (entry_at G area h) (sym q ∙ z) ∙ entry_zero G area h))

    -- and so does one that names no table,
    pub ends_frame :
        (w ≡ 0 → ⊥) → (1 ≤ h → child_at G area w ≡ 0)
        → stop (frame_at G h w) h (set way (3 - h) t) ≡ walk_at G ws area target path h way t
    ends_frame some none =
        walk_ends G ws area target path h way t (frame_no_table G h w) (sym (entry_frame G area h w some none) ∙ ap (entry_at G area h) q)

    -- whatever such a word says;
    pub ends_none : child_at G area w ≡ 0 → stop (entry_at G area h w) h (set way (3 - h) t) ≡ walk_at G ws area target path h way t
    ends_none none = walk_ends G ws area target path h way t (names_none G area h w none) (ap (entry_at G area h) q)

    module _ {c : ℕ} (e : c ≡ child_at G area w) (some : 1 ≤ c) (above : target < h) where
      names : Table c ≡ entry_of G ws area target path h t
      names = sym (entry_table G area h w (omega arith) (sym e) some) ∙ ap (entry_at G area h) q

      -- above the target, a table that was come to before ends it,
      pub comes_again :
          among c (set way (3 - h) t) ≡ true
          → stop Damaged (h - 1) (set way (3 - h) t) ≡ walk_at G ws area target path h way t
      comes_again m = walk_again G ws area target path h way t names above m

      -- and to any other it goes on
      pub goes_down :
          among c (set way (3 - h) t) ≡ false
          → walk_at G ws area target path (h - 1) (set way (3 - h) t) c ≡ walk_at G ws area target path h way t
      goes_down m = walk_down G ws area target path h way t names above m

  -- ---- a loop over the heights below h, from 4 down, in a tree whose root has entries of the height `top`

  -- above the tree nothing is begun; in it, the walk that is left is the whole walk
  pub record Going (top h : ℕ) (way : List ℕ) (t : ℕ) : Type 0 where
    pub waits : top + 1 < h → (way ≡ no_way) × (t ≡ 0)
    pub goes : h ≤ top + 1 → walk_at G ws area target path (h - 1) way t ≡ walk_at G ws area target path top no_way 0

  module _ {top : ℕ} where
    pub going_first : top ≤ 3 → Going top 4 no_way 0
    going_first l =
        record {
          waits = λ m. (refl, refl);
          goes = λ m. let e : top ≡ 3 = omega arith in rw e;
        }

    -- a turn above the tree
    pub going_past : {h : ℕ} {way : List ℕ} {t : ℕ} → Going top h way t → top < h - 1 → Going top (h - 1) way t
    going_past {h} g l =
        record {
          waits = λ m. g.waits (omega arith);
          goes = λ m. let e : h - 1 - 1 ≡ top = omega arith in let (x, y) = g.waits (omega arith) in rw (e, x, y);
        }

    -- a turn in it, to the child c
    pub going_down :
        {h t c : ℕ} {way : List ℕ} → Going top h way t → h - 1 ≤ top
        → walk_at G ws area target path (h - 1 - 1) (set way (3 - (h - 1)) t) c ≡ walk_at G ws area target path (h - 1) way t
        → Going top (h - 1) (set way (3 - (h - 1)) t) c
    going_down {h} g l e = record { waits = λ m. absurd (omega arith); goes = λ m. e ∙ g.goes (omega arith) }

-- ---- the tables above table t, whose entries have height h

-- where h is 1 or more, none but the root and `up`
pub record Above (h : ℕ) (way : List ℕ) (t up : ℕ) : Type 0 where
  pub root : h ≡ 3 → t ≡ 0
  pub high : 2 ≤ h → (way ≡ no_way) × (up ≡ 0)
  pub low : h ≡ 1 → way ≡ 0 ∷ up ∷ 0 ∷ 0 ∷ []

pub above_first : Above 3 no_way 0 0
above_first = record { root = λ e. refl; high = λ l. (refl, refl); low = λ e. refl }

module _ {way : List ℕ} {t up : ℕ} where
  pub above_past : (h : ℕ) → h ≤ 3 → Above h way t up → Above (h - 1) way t up
  above_past h l a =
      record {
        root = λ e. absurd (omega arith);
        high = λ m. a.high (omega arith);
        low = λ e. let (x, y) = a.high (omega arith) in rw (x, y);
      }

  pub above_down : (h c : ℕ) → h ≤ 3 → Above h way t up → Above (h - 1) (set way (3 - h) t) c t
  above_down h c l a =
      record {
        root = λ e. absurd (omega arith);
        high = λ m. let e : h ≡ 3 = omega arith in let (x, y) = a.high (omega arith) in rw (e, x, a.root e) (refl, refl);
        low = λ m. let e : h ≡ 2 = omega arith in let (x, y) = a.high (omega arith) in rw (e, x);
      }

  -- a child is among them and t exactly where it is `up` or t
  pub on_way_lem : (h : ℕ) {c : ℕ} → 1 ≤ h → h ≤ 3 → Above h way t up → 1 ≤ c → among c (set way (3 - h) t) ≡ (eqb up c || eqb t c)
  unfolding among
  on_way_lem zero l m a some = absurd (omega arith)
  on_way_lem (suc zero) {c} l m a some = rw (a.low refl, ne_eqb 0 c (λ e. omega arith)) (sym (or_none (eqb up c) (eqb t c)))
  on_way_lem (suc (suc zero)) {c} l m a some =
      let (x, y) = a.high (omega arith) in
      rw (x, y, ne_eqb 0 c (λ e. omega arith)) (sym (or_none false (eqb t c)))
  on_way_lem (suc (suc (suc zero))) {c} l m a some =
      let (x, y) = a.high (omega arith) in
      rw (x, y, a.root refl, ne_eqb 0 c (λ e. omega arith))
  on_way_lem (suc (suc (suc (suc h)))) l m a some = absurd (omega arith)
