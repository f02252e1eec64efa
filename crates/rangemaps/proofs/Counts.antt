-- The tables that the pieces of a range lack, counted row by row. A region that lacks a table is met first by the piece that begins it, or by the first
-- piece of the range.
use Prim.Native.Nat.{ℕ, zero, suc, ◌+◌, ◌-◌, ◌*◌, ◌%◌, ◌≤◌, ◌<◌}
use mathlib.Core.Path.{◌≡◌, refl, ap, sym, ◌∙◌, subst}
use mathlib.Core.Logic.{◌≢◌, ◌⊎◌, inl, inr, ⊎_elim}
use mathlib.Core.Bool.{Bool, true, false, cond, ◌&&◌, ◌||◌, not}
use mathlib.Core.List.Memᴰ
use mathlib.Core.List.Memᴰ.{head as here}
use mathlib.Core.List.Memᴰ.{tail as there}
use mathlib.Core.List.{List, [], ◌∷◌, ◌++◌, Memᴰ}
use native.Mathlib.Nat.{suc-mul}
use native.Mathlib.Omega.{arith}
use native.Mathlib.Decide.{ℕ_discrete, dec_lt, dec_le}
use lib.Dec.{ltb, eqb}
use lib.ListN.{length, get_or, length-append}
use borrow.Author.Tests.{ltb-true, lt-ltb, le-ltb, eq-eqb, ne_eqb}
use Rattle.path.specs.Geometry.{Granule, Sane, entries, size_at, height_of}
use Rattle.path.specs.Areas.{area_of}
use Rattle.path.specs.Laws.{size_pos, size_le, size_rises, size_height}
use Rattle.path.specs.Paths.{index_at, base_at, path_of}
use Rattle.path.specs.RegionLaws.{multiple_gap, aligned_down, end_aligned, base_rest, base_le, base_end, base_aligned, aligned_base, base_inside, base_region, region_base, region_above}
use Rattle.entry.specs.Words.{entry_at}
use Rattle.entry.specs.declared.Entry.TheVariants.{Empty, Damaged}
use Rattle.model.specs.declared.Walked.{Walked}
use Rattle.model.specs.Answers.{Mapping, mapping, Pool}
use Rattle.model.specs.Walk.{slot, at_height}
use Rattle.model.specs.Calls.{walk_to}
use Rattle.model.proofs.DescentLaws.{clash}
use Rattle.model.specs.Ledger.{Region, region, regions_of, has_region, new_regions}
use Rattle.model.specs.Ranges.{walk_for, lacked}
use Rattle.model.proofs.RangeWalks.{came_target, stopped_walk, stopped_moved, walk_stopped, same_index}
use Rattle.model.proofs.RangeMapped.{has_append}
use Rattle.ranges.specs.Stretches.{in_row}
use Rattle.ranges.specs.StretchLaws.{row_has, row_only, row_region, row_aligned}
use Rattle.rangemaps.specs.Rows.{begun_at}
use Rattle.ranges.specs.RowWalks.{row_left}

-- ---- lists of regions

or_more : (a b : Bool) → b ≡ true → (a || b) ≡ true
or_more true b e = refl
or_more false b e = e

new_none : (Q R : List Region) → ((r : Region) → Memᴰ r Q → has_region r R ≡ true) → new_regions Q R ≡ []
unfolding new_regions
new_none [] R f = refl
new_none (q ∷ Q) R f = rw (f q (here refl)) (new_none Q R (λ r i. f r (there i)))

new_in : (Q R : List Region) (r : Region) → Memᴰ r (new_regions Q R) → Memᴰ r Q
unfolding new_regions
new_in [] R r i = i
new_in (q ∷ Q) R r i = go (has_region q R) i (new_in Q R r)
  where
    go : (y : Bool) → Memᴰ r (cond y (new_regions Q R) (q ∷ new_regions Q R)) → (Memᴰ r (new_regions Q R) → Memᴰ r Q) → Memᴰ r (q ∷ Q)
    go true i ih = there (ih i)
    go false i ih = ⊎_elim (λ e. here e) (λ j. there (ih j)) (Memᴰ.cases_cons i)

new_has : (Q R : List Region) (r : Region) → Memᴰ r Q → has_region r (new_regions Q R ++ R) ≡ true
unfolding new_regions has_region
new_has [] R r i = absurd (Memᴰ.not-nil i)
new_has (q ∷ Q) R r i = go (has_region q R) refl (Memᴰ.cases_cons i) (new_has Q R r)
  where
    go : (y : Bool) → has_region q R ≡ y → (r ≡ q) ⊎ Memᴰ r Q → (Memᴰ r Q → has_region r (new_regions Q R ++ R) ≡ true)
        → has_region r (cond y (new_regions Q R) (q ∷ new_regions Q R) ++ R) ≡ true
    go true e (inl z) ih = has_append r (new_regions Q R) R ∙ or_more (has_region r (new_regions Q R)) (has_region r R) (ap (λ (x : Region). has_region x R) z ∙ e)
    go true e (inr j) ih = ih j
    go false e (inl z) ih = rw (z, eq-eqb q.size q.size refl, eq-eqb q.first q.first refl)
    go false e (inr j) ih = or_more (eqb q.size r.size && eqb q.first r.first) (has_region r (new_regions Q R ++ R)) (ih j)

has_more : (Q R : List Region) (r : Region) → has_region r R ≡ true → has_region r (Q ++ R) ≡ true
has_more Q R r e = has_append r Q R ∙ or_more (has_region r Q) (has_region r R) e

has_not : (q : Region) (R : List Region) → ((r : Region) → Memᴰ r R → r.first ≢ q.first) → has_region q R ≡ false
unfolding has_region
has_not q [] f = refl
has_not q (r ∷ R) f = rw (ne_eqb r.first q.first (f r (here refl)), has_not q R (λ x i. f x (there i))) (or_none (eqb r.size q.size))
  where
    or_none : (y : Bool) → ((y && false) || false) ≡ false
    or_none true = refl
    or_none false = refl

new_all : (Q : List Region) → new_regions Q [] ≡ Q
unfolding new_regions has_region
new_all [] = refl
new_all (q ∷ Q) = ap (λ (l : List Region). q ∷ l) (new_all Q)

lacked_append : (G : Granule) (p : Pool) (xs ys : List Mapping) (R : List Region) → lacked G p (xs ++ ys) R ≡ lacked G p ys (lacked G p xs R)
unfolding lacked
lacked_append G p [] ys R = refl
lacked_append G p (m ∷ xs) ys R = lacked_append G p xs ys (new_regions (regions_of G m (walk_for G p m).left) R ++ R)

lacked_none : (G : Granule) (p : Pool) (ms : List Mapping) (R : List Region) → ((q : Mapping) → Memᴰ q ms → new_regions (regions_of G q (walk_for G p q).left) R ≡ [])
    → lacked G p ms R ≡ R
unfolding lacked
lacked_none G p [] R f = refl
lacked_none G p (m ∷ ms) R f = ap (λ (x : List Region). lacked G p ms (x ++ R)) (f m (here refl)) ∙ lacked_none G p ms R (λ q i. f q (there i))

-- ---- the regions of a piece

module _ (G : Granule) (Z : Sane G) where
  regions_none : (m : Mapping) (h k : ℕ) → m.size ≡ size_at G h → k ≤ h → regions_of G m k ≡ []
  unfolding regions_of
  regions_none m h zero e l = refl
  regions_none m h (suc k) e l = rw (le-ltb m.size (size_at G (suc k)) (omega (arith, size_le G l))) (regions_none m h k e (omega arith))

  regions_more : (m : Mapping) (h k : ℕ) → m.size ≡ size_at G h → h ≤ k → regions_of G m (suc k) ≡ region (size_at G (suc k)) (base_at G m.at (suc k)) ∷ regions_of G m k
  unfolding regions_of
  regions_more m h k e l = rw (lt-ltb m.size (size_at G (suc k)) (omega (arith, e, size_rises G Z {j = h} {h = suc k} (omega arith))))

  regions_has : (m : Mapping) (h k j : ℕ) → m.size ≡ size_at G h → h < j → j ≤ k → Memᴰ (region (size_at G j) (base_at G m.at j)) (regions_of G m k)
  regions_has m h zero j e a b = absurd (omega arith)
  regions_has m h (suc k) j e a b = subst (Memᴰ (region (size_at G j) (base_at G m.at j))) (sym (regions_more m h k e (omega arith))) (go (ℕ_discrete j (suc k)) (λ l. regions_has m h k j e a l))
    where
      go : Dec (j ≡ suc k) → (j ≤ k → Memᴰ (region (size_at G j) (base_at G m.at j)) (regions_of G m k))
          → Memᴰ (region (size_at G j) (base_at G m.at j)) (region (size_at G (suc k)) (base_at G m.at (suc k)) ∷ regions_of G m k)
      go (yes z) ih = here (ap (λ (x : ℕ). region (size_at G x) (base_at G m.at x)) z)
      go (no z) ih = there (ih (omega arith))

  regions_low : (m : Mapping) (k : ℕ) (r : Region) → Memᴰ r (regions_of G m k) → r.first ≤ m.at
  unfolding regions_of
  regions_low m zero r i = absurd (Memᴰ.not-nil i)
  regions_low m (suc k) r i = go (ltb m.size (size_at G (suc k))) i (regions_low m k r)
    where
      go : (y : Bool) → Memᴰ r (cond y (region (size_at G (suc k)) (base_at G m.at (suc k)) ∷ regions_of G m k) (regions_of G m k))
          → (Memᴰ r (regions_of G m k) → r.first ≤ m.at) → r.first ≤ m.at
      go true i ih = ⊎_elim (λ e. subst (λ (x : Region). x.first ≤ m.at) (sym e) (base_le G m.at (suc k))) ih (Memᴰ.cases_cons i)
      go false i ih = ih i

  -- two pieces of one size whose larger regions are the same
  regions_same : (s a b k a' b' k' e : ℕ) → ((j : ℕ) → s < size_at G j → base_at G a j ≡ base_at G a' j)
      → regions_of G (mapping a b s k) e ≡ regions_of G (mapping a' b' s k') e
  unfolding regions_of
  regions_same s a b k a' b' k' zero f = refl
  regions_same s a b k a' b' k' (suc e) f = go (ltb s (size_at G (suc e))) refl (regions_same s a b k a' b' k' e f)
    where
      go : (y : Bool) → ltb s (size_at G (suc e)) ≡ y → regions_of G (mapping a b s k) e ≡ regions_of G (mapping a' b' s k') e
          → cond y (region (size_at G (suc e)) (base_at G a (suc e)) ∷ regions_of G (mapping a b s k) e) (regions_of G (mapping a b s k) e)
          ≡ cond y (region (size_at G (suc e)) (base_at G a' (suc e)) ∷ regions_of G (mapping a' b' s k') e) (regions_of G (mapping a' b' s k') e)
      go true q ih = λ i. region (size_at G (suc e)) (f (suc e) (ltb-true s (size_at G (suc e)) q) i) ∷ ih i
      go false q ih = ih

  -- how many there are
  regions_length : (m : Mapping) (h d : ℕ) → m.size ≡ size_at G h → length (regions_of G m (h + d)) ≡ d
  regions_length m h zero e = ap length (regions_none m h (h + 0) e (omega arith))
  regions_length m h (suc d) e =
      ap (λ (k : ℕ). length (regions_of G m k)) (omega arith) ∙ ap length (regions_more m h (h + d) e (omega arith)) ∙ ap suc (regions_length m h d e)

  -- and how many of them are new, where a region is so exactly if it begins at the piece
  new_length : (m : Mapping) (h d : ℕ) (R : List Region) → m.size ≡ size_at G h
      → ((j : ℕ) → h < j → j ≤ h + d → has_region (region (size_at G j) (base_at G m.at j)) R ≡ not (eqb (m.at % size_at G j) 0))
      → length (new_regions (regions_of G m (h + d)) R) ≡ begun_at G m.at h d
  unfolding begun_at new_regions
  new_length m h zero R e f = ap (λ (Q : List Region). length (new_regions Q R)) (regions_none m h (h + 0) e (omega arith))
  new_length m h (suc d) R e f =
      ap (λ (k : ℕ). length (new_regions (regions_of G m k) R)) up ∙ ap (λ (Q : List Region). length (new_regions Q R)) (regions_more m h (h + d) e (omega arith))
      ∙ ap (λ (y : Bool). length (cond y (new_regions (regions_of G m (h + d)) R) (region (size_at G (suc (h + d))) (base_at G m.at (suc (h + d))) ∷ new_regions (regions_of G m (h + d)) R))) here_is
      ∙ go (ℕ_discrete (m.at % size_at G (h + suc d)) 0) (new_length m h d R e (λ j a b. f j a (omega arith)))
    where
      up : h + suc d ≡ suc (h + d)
      up = omega arith

      here_is : has_region (region (size_at G (suc (h + d))) (base_at G m.at (suc (h + d)))) R ≡ not (eqb (m.at % size_at G (h + suc d)) 0)
      here_is = f (suc (h + d)) (omega arith) (omega arith) ∙ ap (λ (k : ℕ). not (eqb (m.at % size_at G k) 0)) (sym up)

      begun_all : (x : ℕ) → m.at % size_at G (h + x) ≡ 0 → begun_at G m.at h x ≡ x
      begun_all zero z = refl
      begun_all (suc x) z = rw (eq-eqb _ _ z)

      go : Dec (m.at % size_at G (h + suc d) ≡ 0) → length (new_regions (regions_of G m (h + d)) R) ≡ begun_at G m.at h d
          → length (cond (not (eqb (m.at % size_at G (h + suc d)) 0)) (new_regions (regions_of G m (h + d)) R) (region (size_at G (suc (h + d))) (base_at G m.at (suc (h + d))) ∷ new_regions (regions_of G m (h + d)) R))
          ≡ cond (eqb (m.at % size_at G (h + suc d)) 0) (suc d) (begun_at G m.at h d)
      go (yes z) ih = rw (eq-eqb _ _ z) (ap suc (ih ∙ begun_all d (aligned_down G {j = h + d} {h = h + suc d} (omega arith) m.at z)))
      go (no z) ih = rw (ne_eqb _ _ z) ih

-- ---- row by row

-- the last piece before address x, of a range from a on
pub record Last (G : Granule) (a x : ℕ) (before : List Mapping) : Type 0 where
  pub piece : Mapping
  pub in_before : Memᴰ piece before
  pub height : ℕ
  pub small : height ≤ G.large
  pub sized : piece.size ≡ size_at G height
  pub aligned : piece.at % size_at G height ≡ 0
  pub ends : piece.at + piece.size ≡ x
  pub later : a < x

-- the pieces before address x need so many tables
pub record Counted (G : Granule) (p : Pool) (a x : ℕ) (before : List Mapping) (need : ℕ) : Type 0 where
  pub is : need ≡ length (lacked G p before [])
  pub low : (r : Region) → Memᴰ r (lacked G p before []) → r.first < x
  pub has : (q : Mapping) → Memᴰ q before → (r : Region) → Memᴰ r (regions_of G q (walk_for G p q).left) → has_region r (lacked G p before []) ≡ true
  pub last : ((x ≡ a) × (before ≡ [])) ⊎ Last G a x before

pub counted_none : (G : Granule) (p : Pool) (a : ℕ) → Counted G p a a [] 0
unfolding lacked
counted_none G p a = record { is = refl; low = λ r i. absurd (Memᴰ.not-nil i); has = λ q i. absurd (Memᴰ.not-nil i); last = inl (refl, refl) }

module _ (G : Granule) (Z : Sane G) (p : Pool) (few : p.numbers.levels ≤ 4) (some : 0 < p.numbers.levels) (deep : G.large ≤ p.numbers.levels - 1)
    {a x : ℕ} {before : List Mapping} {need : ℕ} (C : Counted G p a x before need)
    (h k b n : ℕ) (small : h ≤ G.large) (rows : 0 < n) (room : index_at G x h + n ≤ entries G) (aligned : x % size_at G h ≡ 0)
    (empty : (walk_to G p h x).entry ≡ Empty) where
  abbrev s : ℕ
  s = size_at G h

  abbrev row : List Mapping
  row = in_row s k x b n

  abbrev e : ℕ
  e = (walk_to G p h x).left

  abbrev m : Mapping
  m = mapping x b s k

  abbrev Q : List Region
  Q = regions_of G m e

  abbrev R : List Region
  R = lacked G p before []

  sound : (walk_to G p h x).entry ≢ Damaged
  sound z = clash (cc)

  -- the regions of each piece of the row are the first one's
  row_regions : (q : Mapping) → Memᴰ q row → regions_of G q (walk_for G p q).left ≡ Q
  row_regions q i = let (j, l, z) = row_only s k x b n q i in of q j l z
    where
      of : (q : Mapping) (j : ℕ) → j < n → q ≡ mapping (x + j * s) (b + j * s) s k → regions_of G q (walk_for G p q).left ≡ Q
      of q j l z =
          ap (λ (q : Mapping). regions_of G q (walk_for G p q).left) z
          ∙ ap (λ (t : ℕ). regions_of G (mapping (x + j * s) (b + j * s) s k) (walk_to G p t (x + j * s)).left) (size_height G Z small)
          ∙ ap (regions_of G (mapping (x + j * s) (b + j * s) s k)) (row_left G p few h x n (omega arith) some room sound j l)
          ∙ regions_same G Z s (x + j * s) (b + j * s) k x b k e (λ y m. sym (bases y m))
        where
          bases : (y : ℕ) → s < size_at G y → base_at G x y ≡ base_at G (x + j * s) y
          bases y m = region_base G x (x + j * s) y (region_above G {j = suc h} {h = y} (above (dec_le (suc h) y)) x (x + j * s) (row_region G x h j (omega arith)))
            where
              above : Dec (suc h ≤ y) → suc h ≤ y
              above (yes g) = g
              above (no g) = absurd (omega (arith, m, size_le G {j = y} {h = h} (omega arith)))

  row_lacked : lacked G p (before ++ row) [] ≡ new_regions Q R ++ R
  unfolding in_row lacked
  row_lacked = lacked_append G p before row [] ∙ of n rows row_regions
    where
      of : (n : ℕ) → 0 < n → ((q : Mapping) → Memᴰ q (in_row s k x b n) → regions_of G q (walk_for G p q).left ≡ Q) → lacked G p (in_row s k x b n) R ≡ new_regions Q R ++ R
      of zero l f = absurd (omega arith)
      of (suc n) l f =
          ap (λ (y : List Region). lacked G p (in_row s k (x + s) (b + s) n) (new_regions y R ++ R)) (f m (here refl))
          ∙ lacked_none G p (in_row s k (x + s) (b + s) n) (new_regions Q R ++ R)
          (λ q i. ap (λ (y : List Region). new_regions y (new_regions Q R ++ R)) (f q (there i)) ∙ new_none Q (new_regions Q R ++ R) (λ r j. new_has Q R r j))

  row_last : Last G a (x + n * s) (before ++ row)
  row_last = record {
    piece = mapping (x + (n - 1) * s) (b + (n - 1) * s) s k;
    in_before = Memᴰ.append_right before (row_has s k x b n (n - 1) (omega arith));
    height = h;
    small = small;
    sized = refl;
    aligned = row_aligned G x h (n - 1) aligned;
    ends = omega (arith, suc-mul (n - 1) s, ap (λ (y : ℕ). y * s) more);
    later = omega (arith, size_pos G h, suc-mul (n - 1) s, ap (λ (y : ℕ). y * s) more, from C.last);
  }
    where
      more : suc (n - 1) ≡ n
      more = omega arith

      from : ((x ≡ a) × (before ≡ [])) ⊎ Last G a x before → a ≤ x
      from (inl (z, _)) = omega arith
      from (inr L) = omega (arith, L.later)

  counted_with : {new : ℕ} → length (new_regions Q R) ≡ new → Counted G p a (x + n * s) (before ++ row) (need + new)
  counted_with {new} z = record {
    is = omega (arith, C.is, z, length-append (new_regions Q R) R, ap length row_lacked);
    low = λ r i. low r (subst (Memᴰ r) row_lacked i);
    has = λ q i r j. subst (λ (y : List Region). has_region r y ≡ true) (sym row_lacked) (⊎_elim (λ y. has_more (new_regions Q R) R r (C.has q y r j))
        (λ y. new_has Q R r (subst (Memᴰ r) (row_regions q y) j)) (Memᴰ.append_cases before i));
    last = inr row_last;
  }
    where
      past : x < x + n * s
      past = omega (arith, size_pos G h, suc-mul (n - 1) s, ap (λ (y : ℕ). y * s) (more))
        where
          more : suc (n - 1) ≡ n
          more = omega arith

      low : (r : Region) → Memᴰ r (new_regions Q R ++ R) → r.first < x + n * s
      low r i = ⊎_elim (λ j. let g = regions_low G Z m e r (new_in Q R r j) in omega (arith, past)) (λ j. omega (arith, C.low r j, past)) (Memᴰ.append_cases (new_regions Q R) i)

  least : h ≤ e
  least = came_target (walk_stopped G p few h x sound).came (omega arith)

  -- the first piece of the range meets all its regions first
  pub counted_first : x ≡ a → Counted G p a (x + n * s) (before ++ row) (e - h)
  unfolding lacked
  counted_first z = subst (Counted G p a (x + n * s) (before ++ row)) (omega (arith, C.is, ap (λ (l : List Mapping). length (lacked G p l [])) nothing)) (counted_with all)
    where
      nothing : before ≡ []
      nothing = ⊎_elim (λ y. y.1) (λ L. absurd (omega (arith, L.later))) C.last

      all : length (new_regions Q R) ≡ e - h
      all = ap (λ (l : List Mapping). length (new_regions Q (lacked G p l []))) nothing ∙ ap length (new_all Q)
          ∙ ap (λ (y : ℕ). length (regions_of G m y)) (omega (arith, least)) ∙ regions_length G Z m h (e - h) refl

  -- any other those that begin at it
  pub counted_later : x ≢ a → Counted G p a (x + n * s) (before ++ row) (need + begun_at G x h (e - h))
  counted_later z = counted_with (ap (λ (y : ℕ). length (new_regions (regions_of G m y) R)) up ∙ new_length G Z m h (e - h) R refl (λ j l r. met j l (omega arith) (ℕ_discrete (x % size_at G j) 0)))
    where
      up : e ≡ h + (e - h)
      up = omega (arith, least)

      L : Last G a x before
      L = ⊎_elim (λ y. absurd (z y.0)) (λ y. y) C.last

      q : Mapping
      q = L.piece

      met : (j : ℕ) → h < j → j ≤ e → Dec (x % size_at G j ≡ 0) → has_region (region (size_at G j) (base_at G x j)) R ≡ not (eqb (x % size_at G j) 0)
      met j l r (yes y) = has_not (region (size_at G j) (base_at G x j)) R (λ v i w. omega (arith, C.low v i, aligned_base G x j y)) ∙ rw (eq-eqb _ _ y)
      met j l r (no y) = C.has q L.in_before (region (size_at G j) (base_at G x j)) its ∙ rw (ne_eqb _ _ y)
        where
          g : ℕ
          g = L.height

          low : g < j
          low = at (dec_lt g j)
            where
              at : Dec (g < j) → g < j
              at (yes v) = v
              at (no v) = absurd (y (ap (λ (t : ℕ). t % size_at G j) (sym L.ends ∙ ap (λ (t : ℕ). q.at + t) L.sized) ∙ end_aligned G {j = j} {h = g} (omega arith) q.at L.aligned))

          c : ℕ
          c = base_at G x j

          x_aligned : x % size_at G g ≡ 0
          x_aligned = ap (λ (t : ℕ). t % size_at G g) (sym L.ends ∙ ap (λ (t : ℕ). q.at + t) L.sized) ∙ end_aligned G {j = g} {h = g} (omega arith) q.at L.aligned

          before_it : c + size_at G g ≤ x
          before_it = multiple_gap (size_at G g) (aligned_down G {j = g} {h = j} (omega (arith, low)) c (base_aligned G x j)) x_aligned (omega (arith, base_rest G x j, base_le G x j, y'))
            where
              y' : 0 < x % size_at G j
              y' = pos (x % size_at G j) y
                where
                  pos : (t : ℕ) → t ≢ 0 → 0 < t
                  pos t f = omega arith

          base_same : base_at G q.at j ≡ c
          base_same = base_inside G c q.at j (base_aligned G x j) (omega (arith, before_it, L.ends, L.sized)) (omega (arith, base_end G x j, L.ends, size_pos G g, L.sized))

          sized : size_at G (height_of G q.size) ≡ q.size
          sized = ap (λ (t : ℕ). size_at G (height_of G t)) L.sized ∙ ap (size_at G) (size_height G Z L.small) ∙ sym L.sized

          height_is : height_of G q.size ≡ g
          height_is = ap (height_of G) L.sized ∙ size_height G Z L.small

          -- its walk is this one's
          same : walk_to G p (height_of G q.size) q.at ≡ walk_to G p h x
          same = stopped_walk G (area_of p.numbers) p.words (height_of G q.size) (path_of G q.at)
              (stopped_moved (walk_stopped G p few h x sound) (omega arith) refl p.words (height_of G q.size) (path_of G q.at) (omega (arith, height_is, low)) (λ v w. clash (cc))
              (λ i u v. ap (λ (t : ℕ). entry_at G (area_of p.numbers) i (get_or p.words (slot G (at_height (walk_to G p h x).tables i) t) 0))
              (same_index G p few x q.at i u (omega arith) (region_above G {j = j} {h = e} r x q.at (base_region G x q.at j (sym base_same))))))

          its : Memᴰ (region (size_at G j) c) (regions_of G q (walk_for G p q).left)
          its = subst (λ (t : ℕ). Memᴰ (region (size_at G j) t) (regions_of G q (walk_for G p q).left)) base_same
              (regions_has G Z q g (walk_for G p q).left j L.sized low (omega (arith, ap (λ (o : Walked). o.left) same, r)))
