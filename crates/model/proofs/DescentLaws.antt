-- Laws of the descent: the computed walk ends as the paper says, and there is one such end.
use Prim.Native.Nat.{ℕ, zero, suc, ◌-◌, ◌≤◌, ◌<◌}
use Rattle.std.specs.Prelude.{◌≡◌, ◌↔◌, Bool, true, false, cond, ◌||◌, leb, eqb, length, get_or}
use Rattle.std.proofs.Math.Path.{refl}
use Rattle.std.proofs.Common.{sym, ap, subst, ◌∙◌, arith, length-set, get_or-set_other, leb-true, leb-false, ne_eqb}
use mathlib.Core.List.{List, [], ◌∷◌, Memᴰ}
use Rattle.std.proofs.Math.ListN.{set}
use Rattle.laws.specs.Lists.{all_zero, among}
use Rattle.laws.specs.ListLaws.{all_zero_at, among_mem, not_among, among_set}
use Rattle.path.specs.Geometry.{Granule, Sane}
use Rattle.path.specs.Areas.{area_of, GoodArea}
use Rattle.path.specs.Laws.{good_setup_lem}
use Rattle.path.specs.Paths.{path_of}
use Rattle.entry.specs.Words.{entry_at}
use Rattle.entry.proofs.Laws.{says_entry, table_only, one_reading}
use Rattle.entry.specs.declared.Entry.{Entry}
use Rattle.entry.specs.declared.Entry.TheVariants.{Empty, Table, Frame, Damaged}
use Rattle.model.specs.declared.Walked.{Walked}
use Rattle.model.specs.Answers.{Pool}
use Rattle.model.specs.Walk.{slot, at_height, no_way, stop, onward, walk_from}
use Rattle.model.specs.Calls.{good_pool, walk_to}
use Rattle.model.specs.Descent.{Reads, Descends, WalkEnds, Comes, StopsAt}
use Rattle.model.specs.Descent.Descends.{at_entry, at_target, come_again, go_down}
use Rattle.model.specs.Descent.Comes.{at_root, further}

-- the four places hold the tables seen, and 0 at height h and below
record Holds (h : ℕ) (way seen : List ℕ) : Type 0 where
  four_places : length way ≡ 4
  open_places : (j : ℕ) → j ≤ h → get_or way (3 - j) 0 ≡ 0
  same_tables : (x : ℕ) → 0 < x → among x way ≡ among x seen

-- one table more
more : {h : ℕ} {way seen : List ℕ} (t : ℕ) → suc h ≤ 3 → Holds (suc h) way seen → Holds h (set way (3 - suc h) t) (t ∷ seen)
unfolding among
more {h} {way} {seen} t l H = record {
  four_places = length-set way (3 - suc h) t ∙ H.four_places;
  open_places = λ j m. get_or-set_other way (3 - suc h) (3 - j) t 0 (λ e. omega arith) ∙ H.open_places j (omega arith);
  same_tables = λ x s. among_set x way (3 - suc h) t s (omega (arith, H.four_places)) (H.open_places (suc h) (omega arith)) ∙ ap (λ (b : Bool). eqb t x || b) (H.same_tables x s);
}

-- from 0 ≡ 1, which `cc` finds where two constructors meet, anything follows
pub clash : {A : Type 0} → ◌≡◌ {A = ℕ} 0 1 → A
clash z = absurd (omega arith)

child : {c d : ℕ} → Table c ≡ Table d → c ≡ d
child e = cc

module _ {G : Granule} (S : Sane G) (p : Pool) (a g : ℕ) where
  abbrev walk : ℕ → List ℕ → ℕ → Walked
  walk h way t = walk_from G p.words (area_of p.numbers) g (path_of G a) h way t

  abbrev word : ℕ → ℕ → ℕ
  word h t = get_or p.words (slot G t (at_height (path_of G a) h)) 0

  abbrev entry : ℕ → ℕ → Entry
  entry h t = entry_at G (area_of p.numbers) h (word h t)

  reads : (h t : ℕ) {e : Entry} → entry h t ≡ e → Reads G p a h t e
  reads h t q = subst (Reads G p a h t) q (says_entry S (area_of p.numbers) h (word h t))

  descends : (h t : ℕ) (way seen : List ℕ) → h ≤ 3 → Holds h way seen → Descends G p a g h t seen (walk h way t).entry (walk h way t).left
  unfolding walk_from onward
  descends zero t way seen l H = at_entry (reads zero t refl) (λ c q. omega (arith, (table_only S (area_of p.numbers) 0 (word 0 t) q).0))
  descends (suc h) t way seen l H = go (entry (suc h) t) refl (λ c. descends h c (set way (3 - suc h) t) (t ∷ seen) (omega arith) (more t l H))
    where
      w : List ℕ
      w = set way (3 - suc h) t

      Goal : Walked → Type 0
      Goal o = Descends G p a g (suc h) t seen o.entry o.left

      go : (e : Entry) → entry (suc h) t ≡ e
          → ((c : ℕ) → Descends G p a g h c (t ∷ seen) (walk h w c).entry (walk h w c).left)
          → Goal (onward e g h w (λ c. walk h w c))
      go Empty q f = at_entry (reads (suc h) t q) (λ c z. clash (cc))
      go (Frame b k) q f = at_entry (reads (suc h) t q) (λ c z. clash (cc))
      go Damaged q f = at_entry (reads (suc h) t q) (λ c z. clash (cc))
      go (Table c) q f = target (leb (suc h) g) refl
        where
          same : among c w ≡ among c (t ∷ seen)
          same = (more t l H).same_tables c (omega (arith, (table_only S (area_of p.numbers) (suc h) (word (suc h) t) q).1))

          met : g ≤ h → (y : Bool) → among c w ≡ y → Goal (cond y (stop Damaged h w) (walk h w c))
          met m true e = come_again (reads (suc h) t q) m (among_mem c (t ∷ seen) (sym same ∙ e))
          met m false e = go_down (reads (suc h) t q) m (not_among c (t ∷ seen) (sym same ∙ e)) (f c)

          target : (x : Bool) → leb (suc h) g ≡ x → Goal (cond x (stop (Table c) (suc h) w) (cond (among c w) (stop Damaged h w) (walk h w c)))
          target true e = at_target (reads (suc h) t q) (leb-true (suc h) g e)
          target false e = let m = leb-false (suc h) g e in met (omega arith) (among c w) refl

  -- where the base is a multiple of the page, a descent has one end
  module _ (placed : GoodArea G (area_of p.numbers)) where
    descends_one : {h t : ℕ} {seen : List ℕ} {e e' : Entry} {l l' : ℕ} → Descends G p a g h t seen e l → Descends G p a g h t seen e' l' → (e ≡ e') × (l ≡ l')
    descends_one (at_entry x n) (at_entry y m) = (one_reading S placed x y, refl)
    descends_one (at_entry x n) (at_target {c = c} y m) = absurd (n c (one_reading S placed x y))
    descends_one (at_entry x n) (come_again {c = c} y m k) = absurd (n c (one_reading S placed x y))
    descends_one (at_entry x n) (go_down {c = c} y m k d) = absurd (n c (one_reading S placed x y))
    descends_one (at_target {c = c} x n) (at_entry y m) = absurd (m c (one_reading S placed y x))
    descends_one (at_target x n) (at_target y m) = (one_reading S placed x y, refl)
    descends_one (at_target x n) (come_again y m k) = absurd (omega arith)
    descends_one (at_target x n) (go_down y m k d) = absurd (omega arith)
    descends_one (come_again {c = c} x n k) (at_entry y m) = absurd (m c (one_reading S placed y x))
    descends_one (come_again x n k) (at_target y m) = absurd (omega arith)
    descends_one (come_again x n k) (come_again y m j) = (refl, refl)
    descends_one {t = t} {seen = seen} (come_again x n k) (go_down y m j d) = absurd (j (subst (λ (u : ℕ). Memᴰ u (t ∷ seen)) (child (one_reading S placed x y)) k))
    descends_one (go_down {c = c} x n k d) (at_entry y m) = absurd (m c (one_reading S placed y x))
    descends_one (go_down x n k d) (at_target y m) = absurd (omega arith)
    descends_one {t = t} {seen = seen} (go_down x n k d) (come_again y m j) = absurd (k (subst (λ (u : ℕ). Memᴰ u (t ∷ seen)) (child (one_reading S placed y x)) j))
    descends_one {t = t} {seen = seen} {e' = e'} {l' = l'} (go_down {h = h} x n k d) (go_down y m j f) =
        descends_one d (subst (λ (u : ℕ). Descends G p a g h u (t ∷ seen) e' l') (child (one_reading S placed y x)) f)

-- at first no place holds a table
none_yet : (h : ℕ) → Holds h no_way []
unfolding all_zero among
none_yet h = record {
  four_places = refl;
  open_places = λ j l. all_zero_at no_way refl (3 - j);
  same_tables = λ x s. simp (ne_eqb 0 x (λ e. omega arith));
}

module _ {G : Granule} (S : Sane G) (p : Pool) (good : good_pool G p ≡ true) (a g : ℕ) where
  pub walk_ends : WalkEnds G p a g (walk_to G p g a).entry (walk_to G p g a).left
  walk_ends =
      descends S p a g (p.numbers.levels - 1) 0 no_way [] (omega (arith, (good_setup_lem good).numbers.not_more, S.most_four)) (none_yet (p.numbers.levels - 1))

  pub ends_walk : {e : Entry} {l : ℕ} → WalkEnds G p a g e l → ((walk_to G p g a).entry ≡ e) × ((walk_to G p g a).left ≡ l)
  ends_walk E = descends_one S p a g (good_setup_lem good).numbers.placed walk_ends E

  -- so the walk ends with an entry exactly when the descent does
  pub ends_exactly : (e : Entry) → ((walk_to G p g a).entry ≡ e) ↔ ((l : ℕ) × WalkEnds G p a g e l)
  ends_exactly e = (λ q. ((walk_to G p g a).left, subst (λ (x : Entry). WalkEnds G p a g x (walk_to G p g a).left) q walk_ends), λ (l, E). (ends_walk E).0)

-- ---- the level where a walk stops, for each ending

-- what ends from a table that the walk comes to ends the walk
comes_ends : {G : Granule} {p : Pool} {a g h t : ℕ} {seen : List ℕ} {e : Entry} {l : ℕ} → Comes G p a g h t seen → Descends G p a g h t seen e l → WalkEnds G p a g e l
comes_ends at_root D = D
comes_ends (further C r m n) D = comes_ends C (go_down r m n D)

module _ {G : Granule} (S : Sane G) (p : Pool) (good : good_pool G p ≡ true) (a g : ℕ) where
  stops : {h t : ℕ} {seen : List ℕ} {e : Entry} {l : ℕ} → Comes G p a g h t seen → Descends G p a g h t seen e l → StopsAt G p a g e l
  stops C D = ends_walk S p good a g (comes_ends C D)

  module _ {h t : ℕ} {seen : List ℕ} where
    -- at an empty entry: the level of the entry
    pub stops_empty : Comes G p a g h t seen → Reads G p a h t Empty → StopsAt G p a g Empty h
    stops_empty C r = stops C (at_entry r (λ c z. clash (cc)))

    -- at a frame: the level of its entry
    pub stops_frame : {b k : ℕ} → Comes G p a g h t seen → Reads G p a h t (Frame b k) → StopsAt G p a g (Frame b k) h
    stops_frame C r = stops C (at_entry r (λ c z. clash (cc)))

    -- at a table, at the target: the level of the entry that names it
    pub stops_target : {c : ℕ} → Comes G p a g h t seen → Reads G p a h t (Table c) → h ≤ g → StopsAt G p a g (Table c) h
    stops_target C r m = stops C (at_target r m)

    -- at a damaged word: the level of its entry
    pub stops_damaged : Comes G p a g h t seen → Reads G p a h t Damaged → StopsAt G p a g Damaged h
    stops_damaged C r = stops C (at_entry r (λ c z. clash (cc)))

    -- where a table is come to again: the level of that table, one below the entry that names it
    pub stops_again : {c : ℕ} → Comes G p a g (suc h) t seen → Reads G p a (suc h) t (Table c) → g ≤ h → Memᴰ c (t ∷ seen) → StopsAt G p a g Damaged h
    stops_again C r m n = stops C (come_again r m n)
