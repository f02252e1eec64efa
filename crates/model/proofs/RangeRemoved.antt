-- What a range to be unmapped removes, on any pool, damaged ones too: exactly the mappings that start at its pages by the memory at entry. So an accepted
-- range equals unmapping those, in rising order.
use Prim.Native.Nat.{ℕ, zero, suc, ◌+◌, ◌*◌, ◌/◌, ◌%◌, ◌≤◌, ◌<◌}
use Rattle.std.specs.Prelude.{◌≡◌, ◌⊎◌, Bool, true, false, cond, ◌&&◌, eqb}
use Rattle.std.proofs.Math.Path.{refl}
use Rattle.std.proofs.Common.{ap, sym, ◌∙◌, subst, inl, inr, ⊎_elim, div-add-mod', add-suc, arith, eqb-true, eq-eqb}
use mathlib.Core.List.Memᴰ
use mathlib.Core.List.Memᴰ.{head as here}
use mathlib.Core.List.Memᴰ.{tail as there}
use mathlib.Core.List.{List, [], ◌∷◌, Memᴰ}
use Rattle.std.proofs.Math.Decide.{ℕ_discrete}
use Rattle.path.specs.Geometry.{Granule, page_size, size_at, Sane}
use Rattle.path.specs.Laws.{page_pos}
use Rattle.path.specs.Paths.{path_of}
use Rattle.entry.specs.declared.Entry.{Entry}
use Rattle.entry.specs.declared.Entry.TheVariants.{Empty, Table, Frame, Damaged}
use Rattle.model.specs.declared.Walked.{Walked}
use Rattle.model.specs.Answers.{gave, cleared, hole, tables_in, Pool, Done, done}
use Rattle.model.specs.Walk.{at_height}
use Rattle.model.specs.Calls.{good_pool, walk_to, unmap_w}
use Rattle.model.proofs.DescentLaws.{clash}
use Rattle.model.proofs.LeftLaws.{unmap_leaves, leaves_good}
use Rattle.model.proofs.RefusalLaws.{gives_back}
use Rattle.model.specs.Ranges.{pages_from, answers_of, left_by, sum_of, accepted_in, refuses_with, any_refused, unmap_range_w}
use Rattle.model.proofs.RangeLaws.{unmap_fine, pages_from_lem, page_next, or-false}
use Rattle.model.proofs.RangeWalks.{walk_region, walk_parts, index_region}
use Rattle.model.proofs.RangeUnmapLaws.{few_levels, index_low, high, hole_there, Gone, Stays, moved, pass_ok, remove_ok, first_goes, unmap_range_view, start}
use Rattle.model.specs.RangeUnmapped.{Ok, UnmapRangeView, range_clears, range_stays}
use Rattle.model.proofs.RangeUnmapLaws.{given_at, removed_at, Goes, gives, passes, fills}
use Rattle.model.specs.RangeRemoved.{Alone, MappingByMapping, is_frame, starts_at, starts_in}

-- two pools that agree on that
starts_same : (G : Granule) (p q : Pool) (xs : List ℕ) → ((x : ℕ) → Memᴰ x xs → starts_at G x (walk_to G q 0 x) ≡ starts_at G x (walk_to G p 0 x))
    → starts_in G q xs ≡ starts_in G p xs
unfolding starts_in
starts_same G p q [] f = refl
starts_same G p q (x ∷ xs) f =
    let ih = starts_same G p q xs (λ y i. f y (there i)) in
    let e = f x (here refl) in
    λ i. cond (e i) (x ∷ ih i) (ih i)

-- ---- where a mapping was removed

module _ (G : Granule) (Z : Sane G) (p : Pool) (good : good_pool G p ≡ true) (x b k : ℕ) (framed : (walk_to G p 0 x).entry ≡ Frame b k) where
  abbrev o : Walked
  o = walk_to G p 0 x

  few : p.numbers.levels ≤ 4
  few = few_levels G Z p good

  -- a mapping that is found in the region of the last entry cleared is the one that was removed: the tables below that entry have no other
  same_frame : (n : ℕ) → n ≤ given_at G p x → (y c d : ℕ) → (walk_to G p 0 y).entry ≡ Frame c d → x / size_at G (o.left + n) ≡ y / size_at G (o.left + n)
      → x / size_at G o.left ≡ y / size_at G o.left
  same_frame zero l y c d f e = subst (λ (h : ℕ). x / size_at G h ≡ y / size_at G h) (omega arith) e
  same_frame (suc n) l y c d f e = same_frame n (omega arith) y c d f (go (ℕ_discrete (at_height (path_of G y) h) (at_height (path_of G x) h)))
    where
      h : ℕ
      h = o.left + n

      up : x / size_at G (suc h) ≡ y / size_at G (suc h)
      up = subst (λ (j : ℕ). x / size_at G j ≡ y / size_at G j) (add-suc o.left n) e

      low : h < 4
      low = omega (arith, high G Z p good x b k framed, few)

      go : Dec (at_height (path_of G y) h ≡ at_height (path_of G x) h) → x / size_at G h ≡ y / size_at G h
      go (yes z) = index_region G x y h low up (sym z)
      go (no z) =
          let w = (gives_back G p x o).emptied n (omega arith) (at_height (path_of G y) h) (index_low G y h low) z in
          let q = walk_parts G p few x y h (λ r. clash (cc)) (omega arith) (omega (arith, high G Z p good x b k framed)) up w in
          clash (cc)

  -- so no other one starts there
  none_starts : x % size_at G o.left ≡ 0 → (y : ℕ) → x < y → x / size_at G (o.left + given_at G p x) ≡ y / size_at G (o.left + given_at G p x)
      → starts_at G y (walk_to G p 0 y) ≡ false
  none_starts s y l e = go (walk_to G p 0 y).entry refl (eqb (y % size_at G (walk_to G p 0 y).left) 0) refl
    where
      other : (c d : ℕ) → (walk_to G p 0 y).entry ≡ Frame c d → y % size_at G (walk_to G p 0 y).left ≡ 0 → ⊥
      other c d f z =
          let r = same_frame (given_at G p x) (omega arith) y c d f e in
          let w = walk_region G p few 0 x y (omega arith) (λ q. clash (cc)) r in
          let t : y % size_at G o.left ≡ 0 = ap (λ (v : Walked). y % size_at G v.left) (sym w) ∙ z in
          let m : x / size_at G o.left * size_at G o.left ≡ y / size_at G o.left * size_at G o.left = ap (λ (v : ℕ). v * size_at G o.left) r in
          omega (arith, div-add-mod' x (size_at G o.left), div-add-mod' y (size_at G o.left))

      go : (v : Entry) → (walk_to G p 0 y).entry ≡ v → (z : Bool) → eqb (y % size_at G (walk_to G p 0 y).left) 0 ≡ z → (is_frame v && z) ≡ false
      go Empty f z q = refl
      go (Table c) f z q = refl
      go Damaged f z q = refl
      go (Frame c d) f false q = refl
      go (Frame c d) f true q = absurd (other c d f (eqb-true _ 0 q))

alone_none : (G : Granule) (p : Pool) → Alone G p [] []
unfolding answers_of left_by sum_of
alone_none G p = record { each = λ r i. absurd (Memᴰ.not-nil i); removed = refl; given = refl; after = refl }

alone_gives : (G : Granule) (p q : Pool) (x b s c t : ℕ) (xs ys : List ℕ) → unmap_w G p x ≡ done (gave b s c t) q → Alone G q xs ys → Alone G p (x ∷ xs) (x ∷ ys)
unfolding answers_of left_by sum_of
alone_gives G p q x b s c t xs ys z A = record {
  each = λ r i. ⊎_elim
      (λ e. (b, s, c, t, e ∙ ap (λ (d : Done). d.answer) z))
      (λ j. A.each r (subst (λ (d : Done). Memᴰ r (answers_of (unmap_w G) d.after ys)) z j))
      (Memᴰ.cases_cons i);
  removed = ap (λ (d : Done). accepted_in d.answer + sum_of accepted_in (answers_of (unmap_w G) d.after xs)) z ∙ omega (arith, A.removed);
  given =
      ap (λ (d : Done). tables_in d.answer + sum_of tables_in (answers_of (unmap_w G) d.after xs)) z ∙ ap (λ (n : ℕ). t + n) A.given
      ∙ sym (ap (λ (d : Done). tables_in d.answer + sum_of tables_in (answers_of (unmap_w G) d.after ys)) z);
  after = ap (λ (d : Done). left_by (unmap_w G) d.after xs) z ∙ A.after ∙ sym (ap (λ (d : Done). left_by (unmap_w G) d.after ys) z);
}

alone_passes : (G : Granule) (p : Pool) (x b s : ℕ) (xs ys : List ℕ) → unmap_w G p x ≡ done (hole b s) p → Alone G p xs ys → Alone G p (x ∷ xs) ys
unfolding answers_of left_by sum_of
alone_passes G p x b s xs ys z A = record {
  each = A.each;
  removed = ap (λ (d : Done). accepted_in d.answer + sum_of accepted_in (answers_of (unmap_w G) d.after xs)) z ∙ omega (arith, A.removed);
  given = ap (λ (d : Done). tables_in d.answer + sum_of tables_in (answers_of (unmap_w G) d.after xs)) z ∙ omega (arith, A.given);
  after = ap (λ (d : Done). left_by (unmap_w G) d.after xs) z ∙ A.after;
}

module _ (G : Granule) (Z : Sane G) where
  pub starts_alone : (k : ℕ) {p : Pool} {a : ℕ} → Ok G p a k → any_refused 8 (answers_of (unmap_w G) p (pages_from G a k)) ≡ false
      → Alone G p (pages_from G a k) (starts_in G p (pages_from G a k))
  unfolding pages_from answers_of any_refused starts_in
  starts_alone zero {p} O e = alone_none G p
  starts_alone (suc k) {p} {a} O e =
      let (u, w) = or-false (refuses_with 8 (unmap_w G p a).answer) _ e in
      go (unmap_w G p a) refl (first_goes G Z p a k O) u w (λ q O e. starts_alone k O e)
    where
      rest : List ℕ
      rest = pages_from G (a + page_size G) k

      further : (y : ℕ) → Memᴰ y rest → a < y
      further y i = omega (arith, page_pos G, (pages_from_lem G k (a + page_size G) y (page_next G a O.aligned) i).0)

      go : (d : Done) → unmap_w G p a ≡ d → Goes G p a d → refuses_with 8 d.answer ≡ false → any_refused 8 (answers_of (unmap_w G) d.after rest) ≡ false
          → ((q : Pool) → Ok G q (a + page_size G) k → any_refused 8 (answers_of (unmap_w G) q rest) ≡ false → Alone G q rest (starts_in G q rest))
          → Alone G p (a ∷ rest) (cond (starts_at G a (walk_to G p 0 a)) (a ∷ starts_in G p rest) (starts_in G p rest))
      go d z (passes f) u w ih =
          let no : starts_at G a (walk_to G p 0 a) ≡ false = ap (λ (v : Entry). is_frame v && eqb (a % size_at G (walk_to G p 0 a).left) 0) f in
          rw no (alone_passes G p a _ _ rest (starts_in G p rest) z (ih p (pass_ok G Z p a k O f) w))
      go d z (fills f) u w ih = clash (cc)
      go d z (gives b c f s) u w ih =
          let q = removed_at G p a in
          let good' : good_pool G q ≡ true = subst (λ (v : Done). good_pool G v.after ≡ true) z (leaves_good (unmap_leaves G p a) O.good) in
          let yes_so : starts_at G a (walk_to G p 0 a) ≡ true = ap (λ (v : Entry). is_frame v && eqb (a % size_at G (walk_to G p 0 a).left) 0) f ∙ eq-eqb _ 0 s in
          let same : starts_in G q rest ≡ starts_in G p rest = starts_same G p q rest (λ y i. kept b c f s good' y i (moved G Z p a k O b c f good' y i)) in
          rw yes_so
          (alone_gives G p q a _ _ _ _ rest (starts_in G p rest) z
          (subst (Alone G q rest) same (ih q (remove_ok G Z p a k O b c f good') w)))
        where
          kept : (b c : ℕ) (f : (walk_to G p 0 a).entry ≡ Frame b c) → a % size_at G (walk_to G p 0 a).left ≡ 0 → (good' : good_pool G (removed_at G p a) ≡ true)
              → (y : ℕ) → Memᴰ y rest → Gone G Z p a k O b c f good' y ⊎ Stays G Z p a k O b c f good' y
              → starts_at G y (walk_to G (removed_at G p a) 0 y) ≡ starts_at G y (walk_to G p 0 y)
          kept b c f s good' y i (inr (r, n)) = ap (starts_at G y) r
          kept b c f s good' y i (inl (r, n)) =
              ap (starts_at G y) r
              ∙ ap (λ (v : Entry). is_frame v && eqb (y % size_at G (walk_to G (removed_at G p a) 0 a).left) 0) (hole_there G Z p O.good a b c f).0
              ∙ sym (none_starts G Z p O.good a b c f s y (further y i) n)

pub mapping_by_mapping : (G : Granule) → Sane G → (p : Pool) (a len m t : ℕ) → (unmap_range_w G p a len).answer ≡ cleared m t → MappingByMapping G p a len m t
mapping_by_mapping G Z p a len m t e = go (unmap_range_w G p a len) refl (unmap_range_view G p a len) e
  where
    go : (d : Done) → unmap_range_w G p a len ≡ d → UnmapRangeView G p a len d → d.answer ≡ cleared m t → MappingByMapping G p a len m t
    go d q (range_stays j) e = clash (cc)
    go d q (range_clears B) e =
        let A = starts_alone G Z (len / page_size G)
        (start G Z p a len B.good (unmap_fine G p.numbers.levels a len B.tests) B.undamaged B.one_each B.uncut) B.room in
        record {
          each = A.each;
          removed = sym A.removed ∙ cc;
          given = sym A.given ∙ cc;
          after = ap (λ (x : Done). x.after) q ∙ A.after;
        }
