-- Laws of a range that is removed row by row: its pages stay such as can be unmapped, and what may be cleared by itself is a row.
use Rattle.std.specs.Prelude.{ℕ, zero, suc, ◌+◌, ◌-◌, ◌*◌, ◌/◌, ◌≤◌, ◌<◌, ◌≡◌, refl, ◌≢◌, Bool, true, false, cond, List, ◌++◌, ltb, length, get_or}
use Rattle.std.proofs.Common.{ap, sym, ◌∙◌, subst, inl, inr, ⊎_elim, true≢false, suc-mul, suc-add, zero-add, add-mul, div-mul-le_self, le_of_mul-le-mul_right, mul-le-mul_right, mul-le-mul_left, arith, ltb-true, ltb-false}
use Rattle.std.proofs.Math.Decide.{dec_lt}
use Rattle.laws.specs.Lists.{part, zeroed}
use Rattle.laws.specs.ListLaws.{get_d_part, length_part}
use Rattle.path.specs.Geometry.{Granule, Sane, entries, page_size, size_at}
use Rattle.path.specs.Areas.{area_of, total}
use Rattle.path.specs.Paths.{index_at}
use Rattle.path.specs.PathLaws.{index_below}
use Rattle.path.specs.Laws.{good_setup_lem, page_pos, size_zero, table_ends}
use Rattle.entry.specs.Words.{entry_at}
use Rattle.entry.specs.declared.Entry.TheVariants.{Damaged}
use Rattle.path.specs.declared.Setup.{Setup}
use Rattle.model.specs.declared.Walked.{Walked}
use Rattle.model.specs.Answers.{Pool, pool, Done}
use Rattle.model.specs.Walk.{at_height, stop}
use Rattle.model.specs.Calls.{good_pool, walk_to, unmap_w}
use Rattle.model.specs.Ranges.{pages_from, pages_of, answers_of, left_by, refuses_with, any_refused}
use Rattle.model.proofs.RangeLaws.{pages_has, or-false}
use Rattle.model.proofs.RangeWalks.{walk_stopped, stopped_in}
use Rattle.model.proofs.RangeUnmapLaws.{few_levels, next}
use Rattle.model.specs.RangeUnmapped.{Ok}
use Rattle.model.proofs.RangeUnmapLaws.{Next, removes, holes, full}
use Rattle.model.proofs.RangeSkips.{answers_append, any_append, pages_append}
use Rattle.ranges.specs.Stretches.{stretch_at}
use Rattle.ranges.specs.RowWalks.{row_here}
use Rattle.sweeps.specs.Parts.{Sure, Removes, Allowed, Clearable, in_use}
use Rattle.sweeps.specs.Removing.{pages_whole}
use Rattle.sweeps.specs.Rooms.{fine_rest, whole_length, allowed_ok}
use Rattle.sweeps.specs.Rows.{with_words, place_of, Row, row_removes}

-- ---- from page to page

-- pages that were unmapped, none refused, leave the others such as can be
pub ok_on : (G : Granule) → Sane G → (i k : ℕ) {p : Pool} {a : ℕ} → Ok G p a (i + k) → any_refused 8 (answers_of (unmap_w G) p (pages_from G a i)) ≡ false
    → Ok G (left_by (unmap_w G) p (pages_from G a i)) (a + i * page_size G) k
unfolding pages_from answers_of left_by any_refused
ok_on G Z zero k {p} {a} O f = let e : a ≡ a + 0 * page_size G = omega arith in subst (λ (y : ℕ). Ok G p y k) e (subst (Ok G p a) (zero-add k) O)
ok_on G Z (suc i) k {p} {a} O f =
    let (u, v) = or-false (refuses_with 8 (unmap_w G p a).answer) (any_refused 8 (answers_of (unmap_w G) (unmap_w G p a).after (pages_from G (a + page_size G) i))) f in
    go (unmap_w G p a) (next G Z p a (i + k) (subst (Ok G p a) (suc-add i k) O)) u v (λ q P v. ok_on G Z i k P v)
  where
    W : ℕ
    W = page_size G

    go : (d : Done) → Next G p a (i + k) d → refuses_with 8 d.answer ≡ false → any_refused 8 (answers_of (unmap_w G) d.after (pages_from G (a + W) i)) ≡ false
        → ((q : Pool) → Ok G q (a + W) (i + k) → any_refused 8 (answers_of (unmap_w G) q (pages_from G (a + W) i)) ≡ false
        → Ok G (left_by (unmap_w G) q (pages_from G (a + W) i)) (a + W + i * W) k)
        → Ok G (left_by (unmap_w G) d.after (pages_from G (a + W) i)) (a + suc i * W) k
    go d (removes b s c t q P) u v ih =
        subst (λ (y : ℕ). Ok G (left_by (unmap_w G) q (pages_from G (a + W) i)) y k) (omega (arith, suc-mul i W)) (ih q P v)
    go d (holes b s P) u v ih =
        subst (λ (y : ℕ). Ok G (left_by (unmap_w G) p (pages_from G (a + W) i)) y k) (omega (arith, suc-mul i W)) (ih p P v)
    go d (full F) u v ih = absurd (true≢false u)

-- ---- a part of an allowed range is done

module _ (G : Granule) (Z : Sane G) (p : Pool) (a len : ℕ) (A : Allowed G p a len) (room : any_refused 8 (answers_of (unmap_w G) p (pages_of G a len)) ≡ false) where
  abbrev W : ℕ
  W = page_size G

  pub sure_on : {x m t : ℕ} {q : Pool} → Removes G p a x m t q → x ≤ a + len → Sure G q x (a + len)
  sure_on {x} {m} {t} {q} R l = record {
    rest = record {
      good = O.good;
      starts = O.aligned;
      ends = (fine_rest G Z p a len A.good A.tests).ends;
      left = l;
      in_space = (fine_rest G Z p a len A.good A.tests).in_space;
    };
    in_space = omega (arith, O.in_space, end_is);
    undamaged = λ y u v e. O.undamaged y (pages_has G k x y O.aligned e u (omega (arith, end_is)));
  }
    where
      i : ℕ
      i = R.pages

      whole : len ≡ len / W * W
      whole = whole_length G p.numbers.levels a len A.tests

      few : i ≤ len / W
      few = le_of_mul-le-mul_right {m = i} {n = len / W} {k = W} (omega (arith, R.next_is, whole)) (page_pos G)

      k : ℕ
      k = len / W - i

      sum : len / W ≡ i + k
      sum = omega (arith, few)

      split : pages_of G a len ≡ pages_from G a i ++ pages_from G (a + i * W) k
      split = ap (pages_from G a) sum ∙ pages_append G i k a

      fine : any_refused 8 (answers_of (unmap_w G) p (pages_from G a i)) ≡ false
      fine =
          (or-false _ _ (sym (any_append 8 (answers_of (unmap_w G) p (pages_from G a i)) (answers_of (unmap_w G) (left_by (unmap_w G) p (pages_from G a i)) (pages_from G (a + i * W) k)))
          ∙ ap (any_refused 8) (sym (answers_append (unmap_w G) p (pages_from G a i) (pages_from G (a + i * W) k))) ∙ ap (λ (l : List ℕ). any_refused 8 (answers_of (unmap_w G) p l)) (sym split) ∙ room)).0

      O : Ok G q x k
      O =
          subst (λ (y : ℕ). Ok G q y k) (sym R.next_is)
          (subst (λ (r : Pool). Ok G r (a + i * W) k) R.after (ok_on G Z i k (subst (Ok G p a) sum (allowed_ok G Z A)) fine))

      end_is : a + len ≡ x + k * W
      end_is = omega (arith, whole, R.next_is, ap (λ (z : ℕ). z * W) sum, add-mul i k W)

-- ---- what may be cleared by itself

pub stretch_room : (G : Granule) (a left h : ℕ) → index_at G a h + stretch_at G a left h ≤ entries G
unfolding stretch_at
stretch_room G a left h = go (ltb (left / size_at G h) (entries G - index_at G a h)) refl
  where
    go : (y : Bool) → ltb (left / size_at G h) (entries G - index_at G a h) ≡ y → index_at G a h + cond y (left / size_at G h) (entries G - index_at G a h) ≤ entries G
    go true e = omega (arith, ltb-true (left / size_at G h) (entries G - index_at G a h) e, index_below G a h)
    go false e = omega (arith, index_below G a h)

pub stretch_fits : (G : Granule) (a left h : ℕ) → stretch_at G a left h * size_at G h ≤ left
unfolding stretch_at
stretch_fits G a left h = go (ltb (left / size_at G h) (entries G - index_at G a h)) refl
  where
    go : (y : Bool) → ltb (left / size_at G h) (entries G - index_at G a h) ≡ y → cond y (left / size_at G h) (entries G - index_at G a h) * size_at G h ≤ left
    go true e = div-mul-le_self left (size_at G h)
    go false e =
        omega (arith, div-mul-le_self left (size_at G h), mul-le-mul_right {m = entries G - index_at G a h} {n = left / size_at G h} (size_at G h) (ltb-false (left / size_at G h) (entries G - index_at G a h) e))

module _ (G : Granule) (Z : Sane G) (p : Pool) (x end : ℕ) (S : Sure G p x end) (l : x < end) (low : (walk_to G p 0 x).left ≡ 0) where
  abbrev W₁ : ℕ
  W₁ = page_size G

  abbrev o : Walked
  o = walk_to G p 0 x

  abbrev many : ℕ
  many = stretch_at G x (end - x) 0

  abbrev place : ℕ
  place = place_of G p x

  sound : o.entry ≢ Damaged
  sound = S.undamaged x (omega arith) l S.rest.starts

  few : p.numbers.levels ≤ 4
  few = few_levels G Z p S.rest.good

  some : 0 < p.numbers.levels
  some = omega (arith, (good_setup_lem S.rest.good).numbers.enough, Z.large_below)

  pub row_table : at_height o.tables 0 < total (area_of p.numbers)
  row_table = stopped_in (walk_stopped G p few 0 x sound) (omega (arith, few, some)) refl Z (omega (arith, good_setup_lem S.rest.good)) 0 (omega (arith, low)) (omega arith)

  pub row_inside : place + many ≤ length p.words
  row_inside = omega (arith, (good_setup_lem S.rest.good).numbers.words_are, stretch_room G x (end - x) 0, table_ends (entries G) row_table)

  bytes : many * W₁ ≤ end - x
  bytes = subst (λ (s : ℕ). many * s ≤ end - x) (size_zero G) (stretch_fits G x (end - x) 0)

  pub row_ahead : {n : ℕ} → Clearable (part p.words place many) n → Row G p x n × (n ≤ many) × (x + n * W₁ ≤ end)
  row_ahead {n} C = (
    record {
      good = S.rest.good;
      aligned = S.rest.starts;
      in_space = omega (arith, within, S.in_space);
      fits = omega (arith, small, stretch_room G x (end - x) 0);
      sound = sound;
      last_level = low;
      undamaged = λ j m e. S.undamaged (x + j * W₁) (omega arith) (omega (arith, within, further j m)) (pages_whole G j x S.rest.starts) (ap (λ (w : Walked). w.entry) (at j m) ∙ e);
      stays = ⊎_elim (λ (f, e). inl (λ j m. sym (own j (omega (arith, small))) ∙ f j (omega (arith, e))))
          (λ (m, f). inr (omega (arith, m, size, stretch_room G x (end - x) 0), λ z. f (own n (omega (arith, m, size)) ∙ z))) C;
    },
    small,
    within,
  )
    where
      size : length (part p.words place many) ≡ many
      size = length_part p.words place many row_inside

      small : n ≤ many
      small = ⊎_elim (λ (f, e). omega (arith, e, size)) (λ (m, f). omega (arith, m, size)) C

      within : x + n * W₁ ≤ end
      within = omega (arith, bytes, mul-le-mul_right {m = n} {n = many} W₁ small)

      further : (j : ℕ) → j < n → x + j * W₁ < x + n * W₁
      further j m = omega (arith, suc-mul j W₁, mul-le-mul_right {m = suc j} {n = n} W₁ m, page_pos G)

      own : (j : ℕ) → j < many → get_or (part p.words place many) j 0 ≡ get_or p.words (place + j) 0
      own j m = get_d_part p.words place many j m

      at : (j : ℕ) → j < n → walk_to G p 0 (x + j * W₁) ≡ stop (entry_at G (area_of p.numbers) 0 (get_or p.words (place + j) 0)) 0 o.tables
      at j m =
          subst (λ (s : ℕ). walk_to G p 0 (x + j * s) ≡ stop (entry_at G (area_of p.numbers) 0 (get_or p.words (place + j) 0)) 0 o.tables) (size_zero G)
          (row_here G p few 0 x many (omega arith) some (stretch_room G x (end - x) 0) sound low j (omega (arith, small)))

  -- so they are removed by clearing them
  pub row_clears : {n : ℕ} → Clearable (part p.words place many) n
      → (n ≤ many) × (x + n * W₁ ≤ end) × (0 < n → Removes G p x (x + n * W₁) (in_use (part p.words place n)) 0 (with_words p (zeroed p.words place n)))
  row_clears {n} C = let (R, u, v) = row_ahead C in (u, v, go n R)
    where
      go : (n : ℕ) → Row G p x n → 0 < n → Removes G p x (x + n * W₁) (in_use (part p.words place n)) 0 (with_words p (zeroed p.words place n))
      go zero R m = absurd (omega arith)
      go (suc n) R m = row_removes G Z n p x R

  -- one run holds them
  pub row_held : {n : ℕ} → Clearable (part p.words place many) n → place < p.cut → place + n ≤ p.cut
  row_held {n} C m = go (dec_lt t n₁)
    where
      t : ℕ
      t = at_height o.tables 0

      n₁ : ℕ
      n₁ = p.numbers.tables

      go : Dec (t < n₁) → place + n ≤ p.cut
      go (yes l) = omega (arith, (row_clears C).0, stretch_room G x (end - x) 0, table_ends (entries G) l, (good_setup_lem S.rest.good).numbers.cut_is)
      go (no l) = absurd (omega (arith, m, (good_setup_lem S.rest.good).numbers.cut_is, mul-le-mul_left {m = n₁} {n = t} (entries G) (omega arith)))

-- no free list is read
pub sure_like : (G : Granule) (s : Setup) (ws : List ℕ) (cut : ℕ) (k l : List ℕ) {a end : ℕ} → good_pool G (pool s ws cut l) ≡ true → Sure G (pool s ws cut k) a end → Sure G (pool s ws cut l) a end
sure_like G s ws cut k l g S = record {
  rest = record { good = g; starts = S.rest.starts; ends = S.rest.ends; left = S.rest.left; in_space = S.rest.in_space };
  in_space = S.in_space;
  undamaged = S.undamaged;
}
