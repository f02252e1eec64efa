-- Laws of the adding call: its test of the tree is that the tree is well-formed; it leaves a good pool; and what is found in a tree hangs on the tables of
-- its area alone.
use Prim.Native.Nat.{ℕ, zero, suc, ◌+◌, ◌-◌, ◌*◌, ◌≤◌, ◌<◌}
use Rattle.std.specs.Prelude.{◌≡◌, Bool, eqb, length, set, take, replicate}
use Rattle.std.proofs.Math.Path.{refl, ap, ap₂}
use Rattle.std.proofs.Common.{sym, ◌∙◌, mul-add, arith, take-append-drop, length-take-le, drop-drop, ltb-true}
use Rattle.std.proofs.Math.Bool.{true, false, cond, and-eq-true_iff}
use mathlib.Core.List.{List, [], ◌∷◌, ◌++◌}
use Rattle.std.proofs.Math.ListN.{drop, length-append, length-drop}
use Rattle.std.proofs.lemmas.List.{length-replicate}
use Rattle.laws.specs.Lists.{down}
use Rattle.laws.specs.ListLaws.{length_down, set_later, down_more}
use Rattle.path.specs.Geometry.{Granule, Sane, page_size, entries, size_at}
use Rattle.path.specs.Areas.{Area, area_of, one_region, total}
use Rattle.path.specs.Numbers.{good_adding, GoodAdding, GoodSetup}
use Rattle.path.specs.Laws.{good_adding_lem}
use Rattle.entry.specs.Words.{entry_at}
use Rattle.entry.proofs.Laws.{table_only}
use Rattle.entry.specs.declared.Entry.{Entry}
use Rattle.entry.specs.declared.Entry.TheVariants.{Empty, Table, Frame, Damaged}
use Rattle.model.specs.Answers.{added, Pool, done, refuse}
use Rattle.model.specs.Audit.{Found, nothing, ◌⊕◌, table_words, of_entry, of_entries, of_visit, of_table, of_pool, none_inside}
use Rattle.model.proofs.AuditLaws.{table_back, table_some, distinct_back, distinct_some}
use Rattle.model.specs.Sound.{WfTree, reached_of}
use Rattle.model.specs.Adds.{good_add, sound_tree, appended, grown, add_tests, add_w}
use Rattle.model.specs.AddLaws.{AddView, add_grows, add_refuses}

module _ (G : Granule) (p : Pool) where
  pub tree_wf : sound_tree (of_pool G p) ≡ true → WfTree G p
  tree_wf e =
      let (o, d) = (and-eq-true_iff (of_pool G p).ok _).0 e in
      record { tree = table_back G p.words (area_of p.numbers) (p.numbers.levels - 1) 0 0 o; once = distinct_back (reached_of G p) d }

  pub wf_tree : WfTree G p → sound_tree (of_pool G p) ≡ true
  wf_tree w =
      simp (table_some G p.words (area_of p.numbers) (p.numbers.levels - 1) 0 0 w.tree, distinct_some (reached_of G p) w.once)

-- what an accepted add leaves is good
module _ (G : Granule) (p : Pool) (q m : ℕ)
    (g : GoodAdding G p.numbers.levels (area_of p.numbers) q m p.cut (length p.words) (length p.list))
    (room : p.numbers.free < total (area_of p.numbers)) where
  abbrev f : ℕ
  f = p.numbers.free

  abbrev new : List ℕ
  new = take m (down (p.numbers.tables + m))

  pub new_long : length new ≡ m
  new_long = length-take-le m (down (p.numbers.tables + m)) (omega (arith, length_down (p.numbers.tables + m)))

  pub front_long : length (take f p.list) ≡ f
  front_long = length-take-le f p.list (omega (arith, g.numbers.places_are, g.one_yet.1))

  grown_words : length (grown G p q m).words ≡ length p.words
  grown_words =
      length-append (take p.cut p.words) (replicate (entries G * m) 0)
      ∙ omega (
        arith,
        length-take-le p.cut p.words (omega (arith, g.numbers.cut_is, g.numbers.words_are, mul-add (entries G) p.numbers.tables m)),
        length-replicate {A = ℕ} (entries G * m) 0,
        g.numbers.cut_is,
        g.numbers.words_are,
        mul-add (entries G) p.numbers.tables m,
      )

  grown_places : length (grown G p q m).list ≡ length p.list
  unfolding appended
  grown_places =
      length-append (take f p.list) (new ++ drop (f + m) p.list)
      ∙ omega (arith, front_long, length-append new (drop (f + m) p.list), new_long, length-drop (f + m) p.list, g.numbers.places_are, g.one_yet.1)

  pub grown_good : GoodSetup G (grown G p q m).numbers (grown G p q m).cut (length (grown G p q m).words) (length (grown G p q m).list)
  grown_good = record { granule_is = refl; numbers = rw (grown_words, grown_places) g.numbers; room = omega (arith, g.one_yet.1) }

-- one place more: with i of the new numbers appended, the next makes it one more
pub append_more : (n m f i : ℕ) (l : List ℕ) → i < m → f + m ≤ length l
    → set (take f l ++ (take i (down (n + m)) ++ drop (f + i) l)) (f + i) (n + m - 1 - i)
    ≡ take f l ++ (take (i + 1) (down (n + m)) ++ drop (f + (i + 1)) l)
append_more n m f i l a b =
    let k : length (take f l) ≡ f = length-take-le f l (omega arith) in
    let e : f + i - length (take f l) ≡ i = omega arith in
    set_later (take f l) (take i (down (n + m)) ++ drop (f + i) l) (f + i) (n + m - 1 - i) (omega arith)
    ∙ ap (λ (j : ℕ). take f l ++ set (take i (down (n + m)) ++ drop (f + i) l) j (n + m - 1 - i)) e
    ∙ ap (λ (y : List ℕ). take f l ++ set (take i (down (n + m)) ++ y) i (n + m - 1 - i)) (sym (drop-drop i f l))
    ∙ ap (λ (y : List ℕ). take f l ++ y) (down_more (n + m) i (drop f l) (omega arith) (omega (arith, length-drop f l)))
    ∙ ap (λ (y : List ℕ). take f l ++ (take (i + 1) (down (n + m)) ++ y)) (drop-drop (i + 1) f l)

-- before the first the list is as it was, and after the last it is `appended`
pub append_none : (n m f : ℕ) (l : List ℕ) → take f l ++ (take 0 (down (n + m)) ++ drop (f + 0) l) ≡ l
append_none n m f l = let z : f + 0 ≡ f = omega arith in ap (λ (x : ℕ). take f l ++ drop x l) z ∙ take-append-drop f l

pub append_all : (n m f : ℕ) (l : List ℕ) → take f l ++ (take m (down (n + m)) ++ drop (f + m) l) ≡ appended n m f l
unfolding appended
append_all n m f l = refl

pub add_view : (G : Granule) (p : Pool) (q m : ℕ) → AddView G p q m (add_w G p q m)
unfolding add_w
add_view G p q m = go (good_add G p q m) (sound_tree (of_pool G p)) (none_inside G (one_region q m) (of_pool G p).mappings) refl refl refl
  where
    go : (x y z : Bool) → good_add G p q m ≡ x → sound_tree (of_pool G p) ≡ y → none_inside G (one_region q m) (of_pool G p).mappings ≡ z
        → AddView G p q m (cond x (cond y (cond z (done added (grown G p q m)) (refuse 11 p)) (refuse 8 p)) (refuse 1 p))
    go true true true a b c = add_grows a b c
    go true true false a b c = add_refuses 11
    go true false z a b c = add_refuses 8
    go false y z a b c = add_refuses 1

-- an add is refused with the number that its tests give, and accepted where they give none
module _ (G : Granule) (p : Pool) (q m : ℕ) {no : ℕ} (e : no ≡ add_tests G p q m) where
  pub tests_refuse : (no ≡ 0 → ⊥) → refuse no p ≡ add_w G p q m
  unfolding add_tests add_w
  tests_refuse n = go (good_add G p q m) (sound_tree (of_pool G p)) (none_inside G (one_region q m) (of_pool G p).mappings) e
    where
      go : (x y z : Bool) → no ≡ cond x (cond y (cond z 0 11) 8) 1
          → refuse no p ≡ cond x (cond y (cond z (done added (grown G p q m)) (refuse 11 p)) (refuse 8 p)) (refuse 1 p)
      go true true true f = absurd (n f)
      go true true false f = ap (λ (k : ℕ). refuse k p) f
      go true false z f = ap (λ (k : ℕ). refuse k p) f
      go false y z f = ap (λ (k : ℕ). refuse k p) f

  pub tests_pass : no ≡ 0 → (good_add G p q m ≡ true) × (done added (grown G p q m) ≡ add_w G p q m)
  unfolding add_tests add_w
  tests_pass n = go (good_add G p q m) (sound_tree (of_pool G p)) (none_inside G (one_region q m) (of_pool G p).mappings) refl e
    where
      go : (x y z : Bool) → good_add G p q m ≡ x → no ≡ cond x (cond y (cond z 0 11) 8) 1
          → (good_add G p q m ≡ true) × (done added (grown G p q m) ≡ cond x (cond y (cond z (done added (grown G p q m)) (refuse 11 p)) (refuse 8 p)) (refuse 1 p))
      go true true true a f = (a, refl)
      go true true false a f = absurd (omega (arith, n))
      go true false z a f = absurd (omega (arith, n))
      go false y z a f = absurd (omega (arith, n))

-- what the first test says
pub may_add : (G : Granule) (p : Pool) (q m : ℕ) → good_add G p q m ≡ true
    → GoodAdding G p.numbers.levels (area_of p.numbers) q m p.cut (length p.words) (length p.list) × (p.numbers.free < total (area_of p.numbers))
may_add G p q m e =
    let (_, b) = (and-eq-true_iff (eqb p.numbers.granule (page_size G)) _).0 e in
    let (g, r) = (and-eq-true_iff (good_adding G p.numbers.levels (area_of p.numbers) q m p.cut (length p.words) (length p.list)) _).0 b in
    (good_adding_lem g, ltb-true p.numbers.free (total (area_of p.numbers)) r)

-- words that agree on the tables of the area
module _ {G : Granule} (S : Sane G) (ws us : List ℕ) (area : Area) (same : (t : ℕ) → t < total area → table_words G ws t ≡ table_words G us t) where
  entries_same : (h v : ℕ) (f g : ℕ → ℕ → Found) → ((c u : ℕ) → c < total area → f c u ≡ g c u) → (l : List ℕ)
      → of_entries G area h v f l ≡ of_entries G area h v g l
  unfolding of_entries
  entries_same h v f g q [] = refl
  entries_same h v f g q (w ∷ l) = ap₂ ◌⊕◌ (go (entry_at G area h w) refl) (entries_same h (v + size_at G h) f g q l)
    where
      go : (e : Entry) → entry_at G area h w ≡ e → of_entry G h v f e ≡ of_entry G h v g e
      go Empty p = refl
      go (Table c) p = q c v (table_only S area h w p).2
      go (Frame b k) p = refl
      go Damaged p = refl

  -- have the same tree
  pub found_same : (h t v : ℕ) → t < total area → of_table G ws area h t v ≡ of_table G us area h t v
  unfolding of_table
  found_same zero t v l = ap (λ (x : List ℕ). of_visit x t ⊕ of_entries G area zero v (λ _ _. nothing false) x) (same t l)
  found_same (suc h) t v l =
      ap (λ (x : List ℕ). of_visit x t ⊕ of_entries G area (suc h) v (λ c u. of_table G ws area h c u) x) (same t l)
      ∙ ap (λ (o : Found). of_visit (table_words G us t) t ⊕ o)
      (entries_same (suc h) v (λ c u. of_table G ws area h c u) (λ c u. of_table G us area h c u) (λ c u k. found_same h c u k) (table_words G us t))
