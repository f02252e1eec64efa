-- pt.rs. What format, map, unmap and query do to any pool, sound or not: an error leaves it as it was, and a success carries out the listed writes.
use Rattle.std.specs.Prelude.{◌≡◌, ◌⊎◌, Bool, true, false, cond, List, [], ◌∷◌, ℕ, ◌+◌, ◌-◌, ◌%◌, ◌≤◌, ◌<◌, ltb, eqb, length, replicate}
use Rattle.std.proofs.Math.Path.{refl}
use Rattle.std.proofs.Common.{ap, sym, ◌∙◌, inl, inr, ⊎_elim, arith}
use borrow.Author.Tests.{ltb-false, lt-leb, eqb-true}
use Rattle.laws.specs.Lists.{down}
use Rattle.path.specs.Geometry.{Granule, size_at, space_of, height_of}
use Rattle.path.specs.Areas.{Area, area_of, total}
use Rattle.path.specs.Numbers.{no_setup, setup_of, good_numbers}
use Rattle.path.specs.Paths.{base_at}
use Rattle.entry.specs.declared.Entry.{Entry}
use Rattle.entry.specs.declared.Entry.TheVariants.{Empty, Table, Frame, Damaged}
use Rattle.model.specs.Answers.{formatted, took, gave, refusal, refused, Pool, pool, Done, done, refuse}
use Rattle.model.specs.declared.Walked.{Walked}
use Rattle.model.specs.Writes.{may_take}
use Rattle.model.specs.Calls.{good_pool, walk_to, written, format_w, map_tests, map_here, map_at, map_w, unmap_tests, unmap_here, unmap_at, unmap_w, found_at, query_w}
use Rattle.upstream.specs.Calls.{giving, lacking, writes_of_map, writes_of_unmap}

-- a number of tables taken is no refusal
pub took_not : {t k : ℕ} → took t ≡ refused k → ⊥
took_not e = let z : ◌≡◌ {A = ℕ} 0 1 = cc in omega arith

-- nor is a frame removed
pub gave_not : {b s x t k : ℕ} {v : List ℕ} → gave b s x t ≡ refusal k v → ⊥
gave_not e = let z : ◌≡◌ {A = ℕ} 0 1 = cc in omega arith

module _ (G : Granule) (p : Pool) where
  -- map refuses and leaves the pool, or takes what is lacking and carries out its writes
  pub map_does : (a b size k : ℕ) → ((n : ℕ) × (map_w G p a b size k ≡ refuse n p))
      ⊎ (((walk_to G p (height_of G size) a).entry ≡ Empty) × (lacking G p a size ≤ p.numbers.free)
      × (map_w G p a b size k ≡ done (took (lacking G p a size)) (written G p (writes_of_map G p a b size k) (p.numbers.free - lacking G p a size))))
  unfolding map_w map_at map_here
  map_does a b size k = go (good_pool G p) (eqb no 0) o.entry refl
    where
      o : Walked
      o = walk_to G p (height_of G size) a

      no : ℕ
      no = map_tests G p.numbers.levels (area_of p.numbers) a b size k

      need : ℕ
      need = lacking G p a size

      taken : Done
      taken = done (took need) (written G p (writes_of_map G p a b size k) (p.numbers.free - need))

      Does : Done → Type 0
      Does d = ((n : ℕ) × (d ≡ refuse n p)) ⊎ ((o.entry ≡ Empty) × (need ≤ p.numbers.free) × (d ≡ taken))

      at : o.entry ≡ Empty → (w : Bool) → ltb p.numbers.free need ≡ w → (v : Bool) → Does (cond w (refuse 7 p) (cond v taken (refuse 8 p)))
      at e true q v = inl (7, refl)
      at e false q true = inr (e, ltb-false _ _ q, refl)
      at e false q false = inl (8, refl)

      go : (x y : Bool) (e : Entry) → o.entry ≡ e → Does (cond x (cond y (map_at G p a b (height_of G size) k o e) (refuse no p)) (refuse 1 p))
      go false y e q = inl (1, refl)
      go true false e q = inl (no, refl)
      go true true Empty q = at q (ltb p.numbers.free need) refl (may_take p.list (total (area_of p.numbers)) o.tables p.numbers.free need)
      go true true (Frame _ _) q = inl (6, refl)
      go true true (Table _) q = inl (6, refl)
      go true true Damaged q = inl (8, refl)

  -- unmap refuses and leaves the pool, or removes the frame where its walk ended and carries out its writes
  pub unmap_does : (a : ℕ) → ((n : ℕ) × (v : List ℕ) × (unmap_w G p a ≡ done (refusal n v) p))
      ⊎ ((b : ℕ) × (x : ℕ) × ((walk_to G p 0 a).entry ≡ Frame b x) × (a % size_at G (walk_to G p 0 a).left ≡ 0)
      × (unmap_w G p a ≡ done (gave b (size_at G (walk_to G p 0 a).left) x (giving G p a)) (written G p (writes_of_unmap G p a) (p.numbers.free + giving G p a))))
  unfolding unmap_w unmap_at unmap_here
  unmap_does a = go (good_pool G p) (eqb no 0) o.entry refl
    where
      o : Walked
      o = walk_to G p 0 a

      no : ℕ
      no = unmap_tests G p.numbers.levels a

      gone : ℕ → ℕ → Done
      gone b x = done (gave b (size_at G o.left) x (giving G p a)) (written G p (writes_of_unmap G p a) (p.numbers.free + giving G p a))

      Does : Done → Type 0
      Does d = ((n : ℕ) × (v : List ℕ) × (d ≡ done (refusal n v) p)) ⊎ ((b : ℕ) × (x : ℕ) × (o.entry ≡ Frame b x) × (a % size_at G o.left ≡ 0) × (d ≡ gone b x))

      at : (b x : ℕ) → o.entry ≡ Frame b x → (y : Bool) → eqb (a % size_at G o.left) 0 ≡ y → (z : Bool) → Does (cond y (cond z (refuse 8 p) (gone b x)) (refuse 10 p))
      at b x q false r z = inl (10, [], refl)
      at b x q true r true = inl (8, [], refl)
      at b x q true r false = inr (b, x, q, eqb-true _ _ r, refl)

      go : (w y : Bool) (e : Entry) → o.entry ≡ e → Does (cond w (cond y (unmap_at G p a o e) (refuse no p)) (refuse 1 p))
      go false y e q = inl (1, [], refl)
      go true false e q = inl (no, [], refl)
      go true true Empty q = inl (9, base_at G a o.left ∷ size_at G o.left ∷ [], refl)
      go true true (Table _) q = inl (8, [], refl)
      go true true Damaged q = inl (8, [], refl)
      go true true (Frame b x) q = at b x q (eqb (a % size_at G o.left) 0) refl (ltb (total (area_of p.numbers) - 1) (p.numbers.free + giving G p a))

  -- a map that succeeds passed its tests: good numbers, 2 to 5 and 11, and the tables that it takes
  pub took_passed : (a b size k t : ℕ) → (map_w G p a b size k).answer ≡ took t
      → (good_pool G p ≡ true) × (map_tests G p.numbers.levels (area_of p.numbers) a b size k ≡ 0)
      × (may_take p.list (total (area_of p.numbers)) (walk_to G p (height_of G size) a).tables p.numbers.free (lacking G p a size) ≡ true)
  unfolding map_w map_at map_here
  took_passed a b size k t = go (good_pool G p) (eqb no 0) o.entry refl refl
    where
      o : Walked
      o = walk_to G p (height_of G size) a

      no : ℕ
      no = map_tests G p.numbers.levels (area_of p.numbers) a b size k

      need : ℕ
      need = lacking G p a size

      may : Bool
      may = may_take p.list (total (area_of p.numbers)) o.tables p.numbers.free need

      done₁ : Done
      done₁ = done (took need) (written G p (writes_of_map G p a b size k) (p.numbers.free - need))

      Passed : Type 0
      Passed = (good_pool G p ≡ true) × (no ≡ 0) × (may ≡ true)

      at : good_pool G p ≡ true → no ≡ 0 → (x y : Bool) → may ≡ y → (cond x (refuse 7 p) (cond y done₁ (refuse 8 p))).answer ≡ took t → Passed
      at q r true y s e = absurd (took_not (sym e))
      at q r false true s e = (q, r, s)
      at q r false false s e = absurd (took_not (sym e))

      go : (x y : Bool) (n : Entry) → good_pool G p ≡ x → eqb no 0 ≡ y → (cond x (cond y (map_at G p a b (height_of G size) k o n) (refuse no p)) (refuse 1 p)).answer ≡ took t → Passed
      go false y n q r e = absurd (took_not (sym e))
      go true false n q r e = absurd (took_not (sym e))
      go true true (Frame _ _) q r e = absurd (took_not (sym e))
      go true true (Table _) q r e = absurd (took_not (sym e))
      go true true Damaged q r e = absurd (took_not (sym e))
      go true true Empty q r e = at q (eqb-true no 0 r) (ltb p.numbers.free need) may refl e

  -- an unmap that succeeds passed its tests: good numbers, 4 and 5, and a place on the free list for each table that it gives back
  pub gave_passed : (a b s x t : ℕ) → (unmap_w G p a).answer ≡ gave b s x t
      → (good_pool G p ≡ true) × (unmap_tests G p.numbers.levels a ≡ 0) × (p.numbers.free + giving G p a ≤ total (area_of p.numbers) - 1)
  unfolding unmap_w unmap_at unmap_here
  gave_passed a b s x t = go (good_pool G p) (eqb no 0) o.entry refl refl
    where
      o : Walked
      o = walk_to G p 0 a

      no : ℕ
      no = unmap_tests G p.numbers.levels a

      Passed : Type 0
      Passed = (good_pool G p ≡ true) × (no ≡ 0) × (p.numbers.free + giving G p a ≤ total (area_of p.numbers) - 1)

      gone : ℕ → ℕ → Done
      gone c y = done (gave c (size_at G o.left) y (giving G p a)) (written G p (writes_of_unmap G p a) (p.numbers.free + giving G p a))

      at : good_pool G p ≡ true → no ≡ 0 → (c y : ℕ) (u v : Bool) → ltb (total (area_of p.numbers) - 1) (p.numbers.free + giving G p a) ≡ v
          → (cond u (cond v (refuse 8 p) (gone c y)) (refuse 10 p)).answer ≡ gave b s x t → Passed
      at q r c y false v w e = absurd (gave_not (sym e))
      at q r c y true true w e = absurd (gave_not (sym e))
      at q r c y true false w e = (q, r, ltb-false _ _ w)

      go : (u v : Bool) (n : Entry) → good_pool G p ≡ u → eqb no 0 ≡ v → (cond u (cond v (unmap_at G p a o n) (refuse no p)) (refuse 1 p)).answer ≡ gave b s x t → Passed
      go false v n q r e = absurd (gave_not (sym e))
      go true false n q r e = absurd (gave_not (sym e))
      go true true Empty q r e = absurd (gave_not (sym e))
      go true true (Table _) q r e = absurd (gave_not (sym e))
      go true true Damaged q r e = absurd (gave_not (sym e))
      go true true (Frame c y) q r e = at q (eqb-true no 0 r) c y (eqb (a % size_at G o.left) 0) (ltb (total (area_of p.numbers) - 1) (p.numbers.free + giving G p a)) refl e

  -- insert: `res is Err ⇒ old(self)@ == self@`, and all of map's refusals
  pub map_refused : (a b size k n : ℕ) → (map_w G p a b size k).answer ≡ refused n → (map_w G p a b size k).after ≡ p
  map_refused a b size k n e = ⊎_elim (λ (_, q). ap (λ (d : Done). d.after) q) (λ (_, _, q). absurd (took_not (ap (λ (d : Done). d.answer) (sym q) ∙ e))) (map_does a b size k)

  -- remove: `res is Err ⇒ old(self)@ == self@`, and all of unmap's refusals
  pub unmap_refused : (a n : ℕ) (v : List ℕ) → (unmap_w G p a).answer ≡ refusal n v → (unmap_w G p a).after ≡ p
  unmap_refused a n v e = ⊎_elim (λ (_, _, q). ap (λ (d : Done). d.after) q) (λ (b, x, _, _, q). absurd (gave_not (ap (λ (d : Done). d.answer) (sym q) ∙ e))) (unmap_does a)

  -- insert: a map that succeeds found an empty entry, has carried out its writes, and answers the tables that were lacking
  pub map_took : (a b size k t : ℕ) → (map_w G p a b size k).answer ≡ took t
      → ((walk_to G p (height_of G size) a).entry ≡ Empty) × (t ≡ lacking G p a size) × (t ≤ p.numbers.free)
      × ((map_w G p a b size k).after ≡ written G p (writes_of_map G p a b size k) (p.numbers.free - t))
  map_took a b size k t e = ⊎_elim (λ (_, q). absurd (took_not (sym e ∙ ap (λ (d : Done). d.answer) q))) by (map_does a b size k)
    where
      o : Walked
      o = walk_to G p (height_of G size) a

      by : (o.entry ≡ Empty) × (lacking G p a size ≤ p.numbers.free)
          × (map_w G p a b size k ≡ done (took (lacking G p a size)) (written G p (writes_of_map G p a b size k) (p.numbers.free - lacking G p a size)))
          → (o.entry ≡ Empty) × (t ≡ lacking G p a size) × (t ≤ p.numbers.free) × ((map_w G p a b size k).after ≡ written G p (writes_of_map G p a b size k) (p.numbers.free - t))
      by (f, l, q) =
          let r : took t ≡ took (lacking G p a size) = sym e ∙ ap (λ (d : Done). d.answer) q in
          let z : t ≡ lacking G p a size = cc in
          (f, z, omega arith, ap (λ (d : Done). d.after) q ∙ ap (λ (c : ℕ). written G p (writes_of_map G p a b size k) (p.numbers.free - c)) (sym z))

  -- remove and prune: an unmap that succeeds found the frame that it answers, at an address that is a multiple of its size, and has carried out its writes
  pub unmap_gave : (a b s x t : ℕ) → (unmap_w G p a).answer ≡ gave b s x t
      → ((walk_to G p 0 a).entry ≡ Frame b x) × (s ≡ size_at G (walk_to G p 0 a).left) × (a % size_at G (walk_to G p 0 a).left ≡ 0) × (t ≡ giving G p a)
      × ((unmap_w G p a).after ≡ written G p (writes_of_unmap G p a) (p.numbers.free + t))
  unmap_gave a b s x t e = ⊎_elim (λ (_, _, q). absurd (gave_not (sym e ∙ ap (λ (d : Done). d.answer) q))) by (unmap_does a)
    where
      o : Walked
      o = walk_to G p 0 a

      by : (c : ℕ) × (y : ℕ) × (o.entry ≡ Frame c y) × (a % size_at G o.left ≡ 0)
          × (unmap_w G p a ≡ done (gave c (size_at G o.left) y (giving G p a)) (written G p (writes_of_unmap G p a) (p.numbers.free + giving G p a)))
          → (o.entry ≡ Frame b x) × (s ≡ size_at G o.left) × (a % size_at G o.left ≡ 0) × (t ≡ giving G p a)
          × ((unmap_w G p a).after ≡ written G p (writes_of_unmap G p a) (p.numbers.free + t))
      by (c, y, f, m, q) =
          let r : gave b s x t ≡ gave c (size_at G o.left) y (giving G p a) = sym e ∙ ap (λ (d : Done). d.answer) q in
          let u : c ≡ b = cc in
          let v : y ≡ x = cc in
          let w : s ≡ size_at G o.left = cc in
          let z : t ≡ giving G p a = cc in
          (f ∙ (λ i. Frame (u i) (v i)), w, m, z, ap (λ (d : Done). d.after) q ∙ ap (λ (c : ℕ). written G p (writes_of_unmap G p a) (p.numbers.free + c)) (sym z))

  -- query: in the space, what the walk to the last level ends at
  pub query_walk : (a : ℕ) → good_pool G p ≡ true → a < space_of G p.numbers.levels → query_w G p a ≡ found_at G a (walk_to G p 0 a).entry (walk_to G p 0 a).left
  unfolding query_w
  query_walk a g l = rw (g, lt-leb (space_of G p.numbers.levels) a l)

-- new: a format that is accepted sets every word to 0; one that is refused leaves all lent memory
pub format_refused : (G : Granule) (levels : ℕ) (area : Area) (ws : List ℕ) (cut : ℕ) (list : List ℕ) (n : ℕ) → (format_w G levels area ws cut list).answer ≡ refused n
    → ((format_w G levels area ws cut list).after.words ≡ ws) × ((format_w G levels area ws cut list).after.list ≡ list)
unfolding format_w
format_refused G levels area ws cut list n = go (good_numbers G levels area cut (length ws) (length list))
  where
    left : Bool → Done
    left y = cond y (done formatted (pool (setup_of G levels area (total area - 1)) (replicate (length ws) 0) cut (down (total area)))) (refuse 1 (pool no_setup ws cut list))

    go : (y : Bool) → (left y).answer ≡ refused n → ((left y).after.words ≡ ws) × ((left y).after.list ≡ list)
    go true e = let z : ◌≡◌ {A = ℕ} 0 1 = cc in absurd (omega arith)
    go false e = (refl, refl)
