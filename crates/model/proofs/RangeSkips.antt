-- Ranges by stretches: what is done to a sequence is done to its first part and then to the rest; pages of a hole, and the further pages of a mapping that
-- was removed, change nothing and are passed over at once.
use Rattle.std.specs.Prelude.{ℕ, zero, suc, ◌+◌, ◌*◌, ◌/◌, ◌%◌, ◌≤◌, ◌<◌, ◌≡◌, ◌≢◌, Bool, true, false, cond, ◌||◌, leb, eqb}
use Rattle.std.proofs.Math.Path.{refl, ap}
use Rattle.std.proofs.Common.{sym, ◌∙◌, zero-add, suc-add, suc-mul, arith, ne_eqb}
use mathlib.Core.List.Memᴰ.{head as here}
use mathlib.Core.List.Memᴰ.{tail as there}
use mathlib.Core.List.{List, [], ◌∷◌, ◌++◌, Memᴰ}
use Rattle.path.specs.Geometry.{Granule, Sane, page_size, size_at, space_of}
use Rattle.path.specs.Paths.{base_at}
use Rattle.path.specs.RegionLaws.{region_above, base_inside, base_region, aligned_base}
use Rattle.entry.specs.declared.Entry.TheVariants.{Empty, Frame}
use Rattle.model.specs.declared.Walked.{Walked}
use Rattle.model.specs.Answers.{Answer, refusal, tables_in, Pool, Done, done, refuse}
use Rattle.model.specs.Calls.{good_pool, walk_to, unmap_tests, unmap_at, unmap_w}
use Rattle.model.proofs.DescentLaws.{clash}
use Rattle.model.specs.Ranges.{pages_from, answers_of, left_by, sum_of, accepted_in, refuses_with, any_refused}
use Rattle.model.proofs.RangeLaws.{false_or}
use Rattle.model.proofs.RangeWalks.{walk_region}
use Rattle.model.proofs.RangeMapped.{or_assoc}
use Rattle.model.proofs.RangeUnmapLaws.{hole_there, hole_region}
use Rattle.model.proofs.RangeUnmapLaws.{removed_at}
use Rattle.model.specs.RangeSkips.{Passed}

-- ---- in two parts

module _ {A : Type 0} (call : Pool → A → Done) where
  pub left_append : (p : Pool) (xs ys : List A) → left_by call p (xs ++ ys) ≡ left_by call (left_by call p xs) ys
  unfolding left_by
  left_append p [] ys = refl
  left_append p (x ∷ xs) ys = left_append (call p x).after xs ys

  pub answers_append : (p : Pool) (xs ys : List A) → answers_of call p (xs ++ ys) ≡ answers_of call p xs ++ answers_of call (left_by call p xs) ys
  unfolding answers_of left_by
  answers_append p [] ys = refl
  answers_append p (x ∷ xs) ys = ap (λ (l : List Answer). (call p x).answer ∷ l) (answers_append (call p x).after xs ys)

pub sum_append : (f : Answer → ℕ) (k l : List Answer) → sum_of f (k ++ l) ≡ sum_of f k + sum_of f l
unfolding sum_of
sum_append f [] l = omega arith
sum_append f (r ∷ k) l = omega (arith, sum_append f k l)

pub any_append : (n : ℕ) (k l : List Answer) → any_refused n (k ++ l) ≡ (any_refused n k || any_refused n l)
unfolding any_refused
any_append n [] l = refl
any_append n (r ∷ k) l = ap (λ (y : Bool). refuses_with n r || y) (any_append n k l) ∙ sym (or_assoc (refuses_with n r) (any_refused n k) (any_refused n l))

pub pages_append : (G : Granule) (j k a : ℕ) → pages_from G a (j + k) ≡ pages_from G a j ++ pages_from G (a + j * page_size G) k
unfolding pages_from
pages_append G zero k a = ap (pages_from G a) (zero-add k) ∙ ap (λ (x : ℕ). pages_from G x k) (omega arith)
pages_append G (suc j) k a =
    ap (pages_from G a) (suc-add j k)
    ∙ ap (λ (l : List ℕ). a ∷ l) (pages_append G j k (a + page_size G) ∙ ap (λ (x : ℕ). pages_from G (a + page_size G) j ++ pages_from G x k) (omega (arith, suc-mul j (page_size G))))

unmap_passes : (G : Granule) (p : Pool) (x : ℕ) → (walk_to G p 0 x).entry ≡ Empty → (k : ℕ) × (v : List ℕ) × (unmap_w G p x ≡ done (refusal k v) p) × (k ≢ 8)
unfolding unmap_w unmap_at unmap_tests
unmap_passes G p x e = go (good_pool G p) (leb (space_of G p.numbers.levels) x) (eqb (x % page_size G) 0) refl
  where
    o : Walked
    o = walk_to G p 0 x

    no : Bool → Bool → ℕ
    no y z = cond y 4 (cond z 0 5)

    go : (g y z : Bool) → unmap_w G p x ≡ cond g (cond (eqb (no y z) 0) (unmap_at G p x o o.entry) (refuse (no y z) p)) (refuse 1 p)
        → (k : ℕ) × (v : List ℕ) × (unmap_w G p x ≡ done (refusal k v) p) × (k ≢ 8)
    go false y z q = (1, [], q, λ w. omega arith)
    go true true z q = (4, [], q, λ w. omega arith)
    go true false false q = (5, [], q, λ w. omega arith)
    go true false true q = (9, base_at G x o.left ∷ size_at G o.left ∷ [], q ∙ ap (unmap_at G p x o) e, λ w. omega arith)

pub holes_pass : (G : Granule) (p : Pool) (xs : List ℕ) → ((x : ℕ) → Memᴰ x xs → (walk_to G p 0 x).entry ≡ Empty) → Passed G p xs
unfolding left_by answers_of sum_of any_refused
holes_pass G p [] f = record { after = refl; removed = refl; given = refl; fine = refl }
holes_pass G p (x ∷ xs) f = go (unmap_passes G p x (f x (here refl))) (holes_pass G p xs (λ y i. f y (there i)))
  where
    go : (k : ℕ) × (v : List ℕ) × (unmap_w G p x ≡ done (refusal k v) p) × (k ≢ 8) → Passed G p xs → Passed G p (x ∷ xs)
    go (k, v, e, n) ih = record {
      after = ap (λ (d : Done). left_by (unmap_w G) d.after xs) e ∙ ih.after;
      removed = ap (λ (d : Done). accepted_in d.answer + sum_of accepted_in (answers_of (unmap_w G) d.after xs)) e ∙ omega (arith, ih.removed);
      given = ap (λ (d : Done). tables_in d.answer + sum_of tables_in (answers_of (unmap_w G) d.after xs)) e ∙ omega (arith, ih.given);
      fine = ap (λ (d : Done). refuses_with 8 d.answer || any_refused 8 (answers_of (unmap_w G) d.after xs)) e ∙ false_or (ne_eqb k 8 n) ih.fine;
    }

-- a walk that ends at an empty entry passes over all pages of that entry's region
pub hole_skip : (G : Granule) (p : Pool) → p.numbers.levels ≤ 4 → (x : ℕ) → (walk_to G p 0 x).entry ≡ Empty → (xs : List ℕ)
    → ((y : ℕ) → Memᴰ y xs → x / size_at G (walk_to G p 0 x).left ≡ y / size_at G (walk_to G p 0 x).left) → Passed G p xs
hole_skip G p few x e xs f = holes_pass G p xs (λ y i. ap (λ (o : Walked). o.entry) (walk_region G p few 0 x y (omega arith) (λ z. clash (cc)) (f y i)) ∙ e)

-- once the mapping at x is removed its further pages are passed over
pub frame_skip : (G : Granule) → Sane G → (p : Pool) → good_pool G p ≡ true → (x b k : ℕ) → (walk_to G p 0 x).entry ≡ Frame b k
    → x % size_at G (walk_to G p 0 x).left ≡ 0 → (xs : List ℕ) → ((y : ℕ) → Memᴰ y xs → (x ≤ y) × (y < x + size_at G (walk_to G p 0 x).left))
    → Passed G (removed_at G p x) xs
frame_skip G Z p good x b k e s xs f =
    holes_pass G (removed_at G p x) xs (λ y i.
    let h = (walk_to G p 0 x).left in
    let same = base_region G x y h (aligned_base G x h s ∙ sym (base_inside G x y h s (f y i).0 (f y i).1)) in
    ap (λ (o : Walked). o.entry) (hole_region G Z p good x b k e y (region_above G {j = h} (omega arith) x y same)) ∙ (hole_there G Z p good x b k e).0)
