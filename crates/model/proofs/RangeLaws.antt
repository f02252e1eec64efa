-- Laws of ranges: what their tests say; the pieces tile a range, each of them the largest that fits; each passes map's tests; what overlaps a range
-- overlaps a piece; and removing what a range holds is removing page by page.
use Prim.Native.Nat.{ℕ, zero, suc, ◌+◌, ◌-◌, ◌*◌, ◌/◌, ◌%◌, ◌≤◌, ◌<◌}
use Rattle.std.specs.Prelude.{◌≡◌, ◌≢◌, Bool, ◌&&◌, ◌||◌, not, ltb, leb, eqb, length}
use Rattle.std.proofs.Math.Path.{refl, ap, subst}
use Rattle.std.proofs.Common.{sym, ◌∙◌, inl, inr, mod-eq_of_lt, div-add-mod'}
use Rattle.std.proofs.Math.Logic.{⊎_elim}
use Rattle.std.proofs.Math.Bool.{true, false, cond}
use Rattle.std.proofs.lemmas.Bool.{false≢true}
use mathlib.Core.List.Memᴰ
use mathlib.Core.List.Memᴰ.{head as here}
use mathlib.Core.List.Memᴰ.{tail as there}
use mathlib.Core.List.{List, [], ◌∷◌, Memᴰ}
use Rattle.std.proofs.Math.Nat.{add-mod, add-mod_right, zero-mod, mod-mod, suc-mul}
use native.Mathlib.Omega.{arith}
use Rattle.std.proofs.Math.Decide.{ℕ_discrete, dec_lt, dec_le}
use borrow.Author.Tests.{ltb-true, ltb-false, leb-true, eqb-true, eqb-false, lt-ltb, le-ltb, le-leb, lt-leb, eq-eqb, ne_eqb, not-true}
use Rattle.path.specs.Geometry.{Granule, page_size, size_at, physical, space_of, Sane}
use Rattle.path.specs.Areas as areas
use Rattle.path.specs.Areas.{Area, meets_area}
use Rattle.path.specs.RegionLaws.{multiple_gap}
use Rattle.path.specs.Laws.{page_pos, size_pos, size_zero, size_le, size_divides, size_height, meets_apart, apart_meets}
use Rattle.model.specs.Answers.{Mapping, mapping}
use Rattle.model.specs.Calls.{map_tests}
use Rattle.model.specs.Ledger.{overlaps, any_overlap, drop_at}
use Rattle.model.specs.Holes.{Shares}
use Rattle.model.proofs.LedgerLaws.{and-true, true_and, or-true, true_or, any_overlap_lem}
use Rattle.model.specs.Ranges.{longest, good_length, map_range_tests, fits_at, piece_at, pieces_from, pieces, unmap_range_tests, pages_from, inside, any_cut, drop_in}
use Rattle.model.specs.RangeLaws.{Clear, FineLength, FineRange, FineUnmap, Fits, Tiles, over, piece}

-- ---- the tests

-- a test that refuses where it holds did not hold
past : (y : Bool) (n : ℕ) {r : ℕ} → 0 < n → cond y n r ≡ 0 → (y ≡ false) × (r ≡ 0)
past true n l e = absurd (omega arith)
past false n l e = (refl, e)

-- and one that refuses where it does not hold held
kept : (y : Bool) (n : ℕ) {r : ℕ} → 0 < n → cond y r n ≡ 0 → (y ≡ true) × (r ≡ 0)
kept true n l e = (refl, e)
kept false n l e = absurd (omega arith)

pub length_fine : (G : Granule) (len : ℕ) → good_length G len ≡ true → FineLength G len
unfolding good_length
length_fine G len e =
    let (a, r) = and-true (ltb 0 len) _ e in
    let (b, c) = and-true (leb len longest) _ r in
    record { some_bytes = ltb-true 0 len a; not_longer = leb-true len longest b; whole_pages = eqb-true _ 0 c }

pub range_fine : (G : Granule) (levels : ℕ) (area : Area) (a b len k : ℕ) → map_range_tests G levels area a b len k ≡ 0 → FineRange G levels area a b len k
unfolding map_range_tests
range_fine G levels area a b len k e =
    let (x₂, r₂) = kept (good_length G len) 2 (omega arith) e in
    let (x₃, r₃) = past (ltb 15 k) 3 (omega arith) r₂ in
    let (x₄, r₄) = past (leb (space_of G levels) a) 4 (omega arith) r₃ in
    let (y₄, s₄) = past (ltb (space_of G levels) (a + len)) 4 (omega arith) r₄ in
    let (z₄, t₄) = past (ltb physical (b + len)) 4 (omega arith) s₄ in
    let (x₅, r₅) = kept (eqb (a % page_size G) 0) 5 (omega arith) t₄ in
    let (y₅, s₅) = kept (eqb (b % page_size G) 0) 5 (omega arith) r₅ in
    record {
      long = length_fine G len x₂;
      some_attributes = let l = ltb-false 15 k x₃ in omega arith;
      in_space = ltb-false (space_of G levels) (a + len) y₄;
      in_physical = ltb-false physical (b + len) z₄;
      address_aligned = eqb-true (a % page_size G) 0 x₅;
      frame_aligned = eqb-true (b % page_size G) 0 y₅;
      outside = meets_apart (past (meets_area G area b len) 11 (omega arith) s₅).0;
    }

pub unmap_fine : (G : Granule) (levels a len : ℕ) → unmap_range_tests G levels a len ≡ 0 → FineUnmap G levels a len
unfolding unmap_range_tests
unmap_fine G levels a len e =
    let (x₂, r₂) = kept (good_length G len) 2 (omega arith) e in
    let (x₄, r₄) = past (leb (space_of G levels) a) 4 (omega arith) r₂ in
    let (y₄, s₄) = past (ltb (space_of G levels) (a + len)) 4 (omega arith) r₄ in
    record {
      long = length_fine G len x₂;
      in_space = ltb-false (space_of G levels) (a + len) y₄;
      address_aligned = eqb-true (a % page_size G) 0 (kept (eqb (a % page_size G) 0) 5 (omega arith) s₄).0;
    }

-- ---- multiples of a page

module _ (G : Granule) where
  page_of_size : (h : ℕ) → size_at G h % page_size G ≡ 0
  page_of_size h = subst (λ (s : ℕ). size_at G h % s ≡ 0) (size_zero G) (size_divides G (omega arith))

  page_plus : (a h : ℕ) → a % page_size G ≡ 0 → (a + size_at G h) % page_size G ≡ 0
  page_plus a h e = add-mod a (size_at G h) (page_size G) ∙ rw (e, page_of_size h) (zero-mod (page_size G))

  page_minus : (x h : ℕ) → x % page_size G ≡ 0 → size_at G h ≤ x → (x - size_at G h) % page_size G ≡ 0
  page_minus x h e l =
      let y = x - size_at G h in
      let s : (y + size_at G h) % page_size G ≡ (y % page_size G + 0) % page_size G = add-mod y (size_at G h) (page_size G) ∙ rw (page_of_size h) in
      sym (mod-mod y (page_size G)) ∙ ap (λ (z : ℕ). z % page_size G) (omega arith) ∙ sym s ∙ ap (λ (z : ℕ). z % page_size G) (omega arith) ∙ e

  pub page_next : (x : ℕ) → x % page_size G ≡ 0 → (x + page_size G) % page_size G ≡ 0
  page_next x e = add-mod_right x (page_size G) ∙ e

  -- one that is not 0 is at least a page
  pub page_some : (x : ℕ) → x % page_size G ≡ 0 → x ≢ 0 → page_size G ≤ x
  page_some x e n = go (dec_lt x (page_size G))
    where
      go : Dec (x < page_size G) → page_size G ≤ x
      go (no l) = omega arith
      go (yes l) = absurd (n (sym (mod-eq_of_lt l) ∙ e))

module _ (G : Granule) where
  fits_so : (a b left h : ℕ) → h ≤ G.large → fits_at G a b left h ≡ true → Fits G a b left h
  unfolding fits_at
  fits_so a b left h l e =
      let (p, q) = and-true (leb (size_at G h) left) _ e in
      let (r, s) = and-true (eqb (a % size_at G h) 0) _ q in
      record { level = l; small = leb-true (size_at G h) left p; address = eqb-true (a % size_at G h) 0 r; frame = eqb-true (b % size_at G h) 0 s }

  so_fits : (a b left h : ℕ) → Fits G a b left h → fits_at G a b left h ≡ true
  unfolding fits_at
  so_fits a b left h F = simp (le-leb _ _ F.small, eq-eqb _ _ F.address, eq-eqb _ _ F.frame)

  -- the piece's height fits,
  pub piece_fits : (a b left h : ℕ) → h ≤ G.large → Fits G a b left 0 → Fits G a b left (piece_at G a b left h)
  unfolding piece_at
  piece_fits a b left zero l F = F
  piece_fits a b left (suc h) l F = go (fits_at G a b left (suc h)) refl (piece_fits a b left h (omega arith) F)
    where
      go : (y : Bool) → fits_at G a b left (suc h) ≡ y → Fits G a b left (piece_at G a b left h) → Fits G a b left (cond y (suc h) (piece_at G a b left h))
      go true e ih = fits_so a b left (suc h) l e
      go false e ih = ih

  -- and no greater one does
  pub piece_most : (a b left h j : ℕ) → j ≤ h → Fits G a b left j → j ≤ piece_at G a b left h
  unfolding piece_at
  piece_most a b left zero j l F = l
  piece_most a b left (suc h) j l F = go (fits_at G a b left (suc h)) refl (λ m. piece_most a b left h j m F) (ℕ_discrete j (suc h))
    where
      go : (y : Bool) → fits_at G a b left (suc h) ≡ y → (j ≤ h → j ≤ piece_at G a b left h) → Dec (j ≡ suc h) → j ≤ cond y (suc h) (piece_at G a b left h)
      go true e ih d = l
      go false e ih (no n) = ih (omega arith)
      go false e ih (yes z) = absurd (false≢true (sym e ∙ so_fits a b left (suc h) (subst (Fits G a b left) z F)))

  -- a page fits where something is left
  pub page_fits : (a b left : ℕ) → a % page_size G ≡ 0 → b % page_size G ≡ 0 → left % page_size G ≡ 0 → left ≢ 0 → Fits G a b left 0
  page_fits a b left p q r n =
      let z = size_zero G in
      record { level = omega arith; small = rw z (page_some G left r n); address = rw z p; frame = rw z q }

  tiles_from : (k pages a b left : ℕ) → a % page_size G ≡ 0 → b % page_size G ≡ 0 → left % page_size G ≡ 0 → left ≤ pages * page_size G
      → Tiles G k a b left (pieces_from G k pages a b left)
  unfolding pieces_from
  tiles_from k zero a b left p q r l = subst (λ (x : ℕ). Tiles G k a b x []) (omega arith) over
  tiles_from k (suc pages) a b left p q r l = go (eqb left 0) refl (tiles_from k pages (a + s) (b + s) (left - s) (page_plus G a h p) (page_plus G b h q))
    where
      h : ℕ
      h = piece_at G a b left G.large

      s : ℕ
      s = size_at G h

      go : (y : Bool) → eqb left 0 ≡ y
          → ((left - s) % page_size G ≡ 0 → left - s ≤ pages * page_size G → Tiles G k (a + s) (b + s) (left - s) (pieces_from G k pages (a + s) (b + s) (left - s)))
          → Tiles G k a b left (cond y [] (mapping a b s k ∷ pieces_from G k pages (a + s) (b + s) (left - s)))
      go true e ih = subst (λ (x : ℕ). Tiles G k a b x []) (sym (eqb-true left 0 e)) over
      go false e ih =
          let F = piece_fits a b left G.large (omega arith) (page_fits a b left p q r (eqb-false left 0 e)) in
          let least : page_size G ≤ s = page_some G s (page_of_size G h) (λ y. omega (arith, size_pos G h)) in
          piece F (λ j E. piece_most a b left G.large j E.level E) (ih (page_minus G left h r F.small) (omega (arith, suc-mul pages (page_size G))))

-- the pieces of a range that passes its tests tile it
pub tiles : (G : Granule) (levels : ℕ) (area : Area) (a b len k : ℕ) → FineRange G levels area a b len k → Tiles G k a b len (pieces G a b len k)
unfolding pieces
tiles G levels area a b len k F =
    tiles_from G k (len / page_size G) a b len F.address_aligned F.frame_aligned F.long.whole_pages (omega (arith, div-add-mod' len (page_size G), F.long.whole_pages))

-- two tilings of a range are one
fits_same : {G : Granule} {a b left h a' b' left' : ℕ} → Fits G a b left h → a ≡ a' → b ≡ b' → left ≡ left' → Fits G a' b' left' h
fits_same {G} {h = h} F x y z = record {
  level = F.level;
  small = omega (arith, F.small);
  address = ap (λ (w : ℕ). w % size_at G h) (sym x) ∙ F.address;
  frame = ap (λ (w : ℕ). w % size_at G h) (sym y) ∙ F.frame;
}

tiles_same : {G : Granule} {k a b left : ℕ} {ms : List Mapping} {a' b' left' : ℕ} {ns : List Mapping}
    → Tiles G k a b left ms → Tiles G k a' b' left' ns → a ≡ a' → b ≡ b' → left ≡ left' → ms ≡ ns
tiles_same over over x y z = refl
tiles_same {G} over (piece {h = j} E more u) x y z = absurd (omega (arith, E.small, size_pos G j))
tiles_same {G} (piece {h = h} F most t) over x y z = absurd (omega (arith, F.small, size_pos G h))
tiles_same {G} {k} (piece {h = h} F most t) (piece {h = j} E more u) x y z =
    let e : h ≡ j = omega (arith, more h (fits_same F x y z), most j (fits_same E (sym x) (sym y) (sym z))) in
    let s : size_at G h ≡ size_at G j = ap (size_at G) e in
    let rest = tiles_same t u (omega arith) (omega arith) (omega arith) in
    λ i. mapping (x i) (y i) (s i) k ∷ rest i

pub tiles_one : {G : Granule} {k a b left : ℕ} {ms ns : List Mapping} → Tiles G k a b left ms → Tiles G k a b left ns → ms ≡ ns
tiles_one s t = tiles_same s t refl refl refl

-- there are no more pieces than pages
pub tiles_few : {G : Granule} {k a b left : ℕ} {ms : List Mapping} → Tiles G k a b left ms → length ms * page_size G ≤ left
tiles_few over = omega arith
tiles_few {G} (piece {h = h} {ms = ms} F most t) =
    omega (arith, suc-mul (length ms) (page_size G), tiles_few t, F.small, size_zero G, size_le G {j = 0} {h = h} (omega arith))

-- each piece stands in the range
pub tiles_inside : {G : Granule} {k a b left : ℕ} {ms : List Mapping} → Tiles G k a b left ms → (m : Mapping) → Memᴰ m ms
    → (a ≤ m.at) × (m.at + m.size ≤ a + left)
tiles_inside over m i = absurd (Memᴰ.not-nil i)
tiles_inside {a = a} (piece {h = h} F most t) m i =
    ⊎_elim (λ e. (rw e (omega arith), rw e (omega (arith, F.small)))) (λ n. let (x, y) = tiles_inside t m n in (omega (arith, F.small), omega (arith, F.small)))
    (Memᴰ.cases_cons i)

-- ---- each piece passes map's tests

-- a part of bytes that share none with the tables shares none
pub part_outside : {G : Granule} {area : Area} {b len c size : ℕ} → (¬ areas.Shares G area b len) → b ≤ c → c + size ≤ b + len → ¬ areas.Shares G area c size
part_outside f l r S = f (record { byte = S.byte; starts = omega (arith, S.starts); ends = omega (arith, S.ends); inside = S.inside })

pub fits_tests : (G : Granule) → Sane G → (levels : ℕ) (area : Area) (a b left h k : ℕ) → Fits G a b left h → k < 16 → a + left ≤ space_of G levels
    → b + left ≤ physical → (¬ areas.Shares G area b left) → map_tests G levels area a b (size_at G h) k ≡ 0
unfolding map_tests
fits_tests G Z levels area a b left h k F few l m out =
    let pos = size_pos G h in
    let small = F.small in
    let off : ¬ areas.Shares G area b (size_at G h) = part_outside out (omega arith) (omega arith) in
    rw (
      size_height G Z F.level,
      le-ltb G.large h F.level,
      le-ltb 15 k (omega arith),
      lt-leb (space_of G levels) a (omega arith),
      le-ltb (space_of G levels) (a + size_at G h) (omega arith),
      le-ltb physical (b + size_at G h) (omega arith),
      eq-eqb _ _ F.address,
      eq-eqb _ _ F.frame,
      apart_meets off,
    )
    refl

pub tiles_tests : {G : Granule} → Sane G → {k a b left : ℕ} {ms : List Mapping} → Tiles G k a b left ms → (levels : ℕ) (area : Area) → k < 16
    → a + left ≤ space_of G levels → b + left ≤ physical → (¬ areas.Shares G area b left)
    → (m : Mapping) → Memᴰ m ms → map_tests G levels area m.at m.frame m.size m.attributes ≡ 0
tiles_tests Z over levels area few l r out m i = absurd (Memᴰ.not-nil i)
tiles_tests {G} Z {k} {a} {b} {left} (piece {h = h} F most t) levels area few l r out m i =
    ⊎_elim (λ e. rw e (fits_tests G Z levels area a b left h k F few l r out))
    (λ n. tiles_tests Z t levels area few (omega (arith, F.small)) (omega (arith, F.small)) (part_outside out (omega arith) (omega (arith, F.small))) m n)
    (Memᴰ.cases_cons i)

-- ---- overlap

pub or-false : (a b : Bool) → (a || b) ≡ false → (a ≡ false) × (b ≡ false)
or-false true b e = absurd (false≢true (sym e))
or-false false b e = (refl, e)

pub false_or : {a b : Bool} → a ≡ false → b ≡ false → (a || b) ≡ false
false_or {a} {b} p q = rw (p, q) refl

-- no mapping shares a byte with the range exactly where the test does not hold
pub none_overlaps : (a size : ℕ) (L : List Mapping) → any_overlap a size L ≡ false → (m : Mapping) → Memᴰ m L → ¬ Shares a size m
none_overlaps a size L e m i s = false≢true (sym e ∙ (any_overlap_lem a size L).1 (m, i, s))

pub overlaps_none : (a size : ℕ) (L : List Mapping) → ((m : Mapping) → Memᴰ m L → ¬ Shares a size m) → any_overlap a size L ≡ false
overlaps_none a size L f = go (any_overlap a size L) refl
  where
    go : (y : Bool) → any_overlap a size L ≡ y → y ≡ false
    go false e = refl
    go true e = let (m, i, s) = (any_overlap_lem a size L).0 e in absurd (f m i s)

-- what nothing overlaps, nothing overlaps a part of
pub overlap_less : (a size b part : ℕ) (L : List Mapping) → a ≤ b → b + part ≤ a + size → any_overlap a size L ≡ false → any_overlap b part L ≡ false
overlap_less a size b part L l r e = overlaps_none b part L (λ m i s. none_overlaps a size L e m i (omega (arith, s.0), omega (arith, s.1)))

-- what overlaps no piece does not overlap the range
pub tiles_overlap : {G : Granule} {k a b left : ℕ} {ms : List Mapping} → Tiles G k a b left ms → (L : List Mapping)
    → ((m : Mapping) → Memᴰ m L → 0 < m.size) → 0 < left
    → ((m : Mapping) → Memᴰ m ms → any_overlap m.at m.size L ≡ false) → any_overlap a left L ≡ false
tiles_overlap over L some l f = absurd (omega arith)
tiles_overlap {G} {k} {a} {b} {left} (piece {h = h} F most t) L some l f = go (ℕ_discrete (left - size_at G h) 0) (λ r. tiles_overlap t L some r (λ m i. f m (there i)))
  where
    s : ℕ
    s = size_at G h

    first : any_overlap a s L ≡ false
    first = f (mapping a b s k) (here refl)

    go : Dec (left - s ≡ 0) → (0 < left - s → any_overlap (a + s) (left - s) L ≡ false) → any_overlap a left L ≡ false
    go (yes z) ih = subst (λ (x : ℕ). any_overlap a x L ≡ false) (omega (arith, F.small)) first
    go (no z) ih = overlaps_none a left L (λ m i o. joined m (some m i) o (none_overlaps a s L first m i) (none_overlaps (a + s) (left - s) L (ih (omega arith)) m i))
      where
        joined : (m : Mapping) → 0 < m.size → Shares a left m → (¬ Shares a s m) → (¬ Shares (a + s) (left - s) m) → ⊥
        joined m p o x y = on (dec_lt m.at (a + s)) (dec_lt (a + s) (m.at + m.size))
          where
            on : Dec (m.at < a + s) → Dec (a + s < m.at + m.size) → ⊥
            on (yes u) w = x (u, o.1)
            on (no u) (yes w) = y (omega (arith, o.0, F.small), w)
            on (no u) (no w) = omega arith

-- ---- pages

module _ (G : Granule) where
  pub pages_from_lem : (k a x : ℕ) → a % page_size G ≡ 0 → Memᴰ x (pages_from G a k) → (a ≤ x) × (x < a + k * page_size G) × (x % page_size G ≡ 0)
  unfolding pages_from
  pages_from_lem zero a x e i = absurd (Memᴰ.not-nil i)
  pages_from_lem (suc k) a x e i =
      ⊎_elim
      (λ z. (omega arith, omega (arith, suc-mul k (page_size G), page_pos G), ap (λ (y : ℕ). y % page_size G) z ∙ e))
      (λ j. let (u, v, w) = pages_from_lem k (a + page_size G) x (page_next G a e) j in (omega arith, omega (arith, suc-mul k (page_size G)), w))
      (Memᴰ.cases_cons i)

  pub pages_has : (k a x : ℕ) → a % page_size G ≡ 0 → x % page_size G ≡ 0 → a ≤ x → x < a + k * page_size G → Memᴰ x (pages_from G a k)
  unfolding pages_from
  pages_has zero a x e f l m = absurd (omega arith)
  pages_has (suc k) a x e f l m =
      go (ℕ_discrete x a) (λ b. pages_has k (a + page_size G) x (page_next G a e) f b (omega (arith, suc-mul k (page_size G))))
    where
      go : Dec (x ≡ a) → (a + page_size G ≤ x → Memᴰ x (pages_from G (a + page_size G) k)) → Memᴰ x (a ∷ pages_from G (a + page_size G) k)
      go (yes z) ih = here z
      go (no z) ih = there (ih (multiple_gap (page_size G) e f (omega arith)))

-- ---- cuts

pub inside_so : (a len at size : ℕ) → a ≤ at → at + size ≤ a + len → inside a len at size ≡ true
inside_so a len at size l m = true_and (le-leb a at l) (le-leb (at + size) (a + len) m)

pub inside_is : (a len at size : ℕ) → inside a len at size ≡ true → (a ≤ at) × (at + size ≤ a + len)
inside_is a len at size e = let (u, v) = and-true (leb a at) (leb (at + size) (a + len)) e in (leb-true a at u, leb-true (at + size) (a + len) v)

-- a range that cuts something: which
pub cut_some : (a len : ℕ) (L : List Mapping) → any_cut a len L ≡ true → (m : Mapping) × Memᴰ m L × Shares a len m × (inside a len m.at m.size ≡ false)
unfolding any_cut
cut_some a len [] e = absurd (false≢true e)
cut_some a len (q ∷ L) e = ⊎_elim (cut q) (λ d. let (m, i, u, v) = cut_some a len L d in (m, there i, u, v)) (or-true _ _ e)
  where
    cut : (q : Mapping) → (overlaps a len q && not (inside a len q.at q.size)) ≡ true
        → (m : Mapping) × Memᴰ m (q ∷ L) × Shares a len m × (inside a len m.at m.size ≡ false)
    cut q d =
        let (u, v) = and-true (overlaps a len q) (not (inside a len q.at q.size)) d in
        let (x, y) = and-true (ltb a (q.at + q.size)) (ltb q.at (a + len)) u in
        (q, here refl, (ltb-true q.at (a + len) y, ltb-true a (q.at + q.size) x), not-true _ v)

pub some_cut : (a len : ℕ) (L : List Mapping) (m : Mapping) → Memᴰ m L → Shares a len m → inside a len m.at m.size ≡ false → any_cut a len L ≡ true
unfolding any_cut
some_cut a len [] m i s e = absurd (Memᴰ.not-nil i)
some_cut a len (q ∷ L) m i s e =
    true_or (overlaps a len q && not (inside a len q.at q.size)) (any_cut a len L)
    (⊎_elim
    (λ z. inl (ap (λ (w : Mapping). overlaps a len w && not (inside a len w.at w.size)) (sym z) ∙ true_and (true_and (lt-ltb _ _ s.1) (lt-ltb _ _ s.0)) (ap not e)))
    (λ j. inr (some_cut a len L m j s e))
    (Memᴰ.cases_cons i))

-- where it cuts nothing, no mapping lies across either end
pub cut_clear : (a len : ℕ) (L : List Mapping) → any_cut a len L ≡ false → 0 < len → Clear a L × Clear (a + len) L
cut_clear a len L e l = (λ m i x. start m i x (dec_le (m.at + m.size) a), λ m i x. end m i x (dec_le (m.at + m.size) (a + len)))
  where
    whole : (m : Mapping) → Memᴰ m L → Shares a len m → (a ≤ m.at) × (m.at + m.size ≤ a + len)
    whole m i s = go (inside a len m.at m.size) refl
      where
        go : (y : Bool) → inside a len m.at m.size ≡ y → (a ≤ m.at) × (m.at + m.size ≤ a + len)
        go true q = inside_is a len m.at m.size q
        go false q = absurd (false≢true (sym e ∙ some_cut a len L m i s q))

    start : (m : Mapping) → Memᴰ m L → m.at < a → Dec (m.at + m.size ≤ a) → m.at + m.size ≤ a
    start m i x (yes r) = r
    start m i x (no r) = absurd (omega (arith, (whole m i (omega arith, omega arith)).0))

    end : (m : Mapping) → Memᴰ m L → m.at < a + len → Dec (m.at + m.size ≤ a + len) → m.at + m.size ≤ a + len
    end m i x (yes r) = r
    end m i x (no r) = (whole m i (x, omega arith)).1

-- ---- without some mappings

pub dropped_from : (x : ℕ) (L : List Mapping) (m : Mapping) → Memᴰ m (drop_at x L) → Memᴰ m L × (m.at ≢ x)
unfolding drop_at
dropped_from x [] m i = absurd (Memᴰ.not-nil i)
dropped_from x (q ∷ L) m i = go (eqb q.at x) refl i (λ j. dropped_from x L m j)
  where
    go : (y : Bool) → eqb q.at x ≡ y → Memᴰ m (cond y (drop_at x L) (q ∷ drop_at x L)) → (Memᴰ m (drop_at x L) → Memᴰ m L × (m.at ≢ x))
        → Memᴰ m (q ∷ L) × (m.at ≢ x)
    go true e i ih = let (j, n) = ih i in (there j, n)
    go false e i ih = ⊎_elim (λ z. (here z, λ w. eqb-false _ _ e (ap (λ (b : Mapping). b.at) (sym z) ∙ w))) (λ j. let (k, n) = ih j in (there k, n)) (Memᴰ.cases_cons i)

pub drop_absent : (x : ℕ) (L : List Mapping) → ((m : Mapping) → Memᴰ m L → m.at ≢ x) → drop_at x L ≡ L
unfolding drop_at
drop_absent x [] f = refl
drop_absent x (q ∷ L) f = rw (ne_eqb _ _ (f q (here refl)), drop_absent x L (λ m i. f m (there i))) refl

-- a range of no bytes has nothing inside
pub drop_none : (x : ℕ) (L : List Mapping) → ((m : Mapping) → Memᴰ m L → 0 < m.size) → drop_in x 0 L ≡ L
unfolding drop_in
drop_none x [] f = refl
drop_none x (q ∷ L) f = go (inside x 0 q.at q.size) refl (drop_none x L (λ m i. f m (there i)))
  where
    go : (y : Bool) → inside x 0 q.at q.size ≡ y → drop_in x 0 L ≡ L → cond y (drop_in x 0 L) (q ∷ drop_in x 0 L) ≡ q ∷ L
    go true e ih = absurd (omega (arith, (inside_is x 0 q.at q.size e).0, (inside_is x 0 q.at q.size e).1, f q (here refl)))
    go false e ih = ap (λ (l : List Mapping). q ∷ l) ih

-- first the mapping at x goes, then those inside the rest of the range
pub drop_step : (G : Granule) (x l : ℕ) (L : List Mapping) → x % page_size G ≡ 0 → ((m : Mapping) → Memᴰ m L → m.at % page_size G ≡ 0)
    → Clear (x + (page_size G + l)) L → drop_in (x + page_size G) l (drop_at x L) ≡ drop_in x (page_size G + l) L
unfolding drop_in drop_at
drop_step G x l [] e f c = refl
drop_step G x l (q ∷ L) e f c = go (eqb q.at x) refl (drop_step G x l L e (λ m i. f m (there i)) (λ m i. c m (there i)))
  where
    W : ℕ
    W = page_size G

    same : q.at ≢ x → inside (x + W) l q.at q.size ≡ inside x (W + l) q.at q.size
    same n = at (dec_le x q.at)
      where
        at : Dec (x ≤ q.at) → inside (x + W) l q.at q.size ≡ inside x (W + l) q.at q.size
        at (yes b) = rw (le-leb x q.at b, le-leb (x + W) q.at (multiple_gap W e (f q (here refl)) (omega arith))) (ap (leb (q.at + q.size)) (omega arith))
        at (no b) = rw (lt-leb x q.at (omega arith), lt-leb (x + W) q.at (omega arith)) refl

    go : (y : Bool) → eqb q.at x ≡ y → drop_in (x + W) l (drop_at x L) ≡ drop_in x (W + l) L
        → drop_in (x + W) l (cond y (drop_at x L) (q ∷ drop_at x L)) ≡ cond (inside x (W + l) q.at q.size) (drop_in x (W + l) L) (q ∷ drop_in x (W + l) L)
    go true d ih =
        let z : q.at ≡ x = eqb-true _ _ d in
        let s = page_pos G in
        rw (inside_so x (W + l) q.at q.size (omega arith) (c q (here refl) (omega arith))) ih
    go false d ih = rw (same (eqb-false _ _ d), ih) refl
