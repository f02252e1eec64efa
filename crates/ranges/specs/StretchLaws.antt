-- Laws of stretches: the pieces of a range are rows, one after the other, each in one table.
use Rattle.std.specs.Prelude.{ℕ, zero, suc, ◌+◌, ◌-◌, ◌*◌, ◌/◌, ◌%◌, ◌≤◌, ◌<◌, ◌≡◌, refl, ◌≢◌, Bool, true, false, cond, ltb}
use Rattle.std.proofs.Math.Path.{ap, sym}
use Rattle.std.proofs.Common.{◌∙◌, subst, ⊎_elim, suc-mul, mod-lt, mul-le-mul_right, div-mul-le_self, div-add-mod', arith, ltb-true, ltb-false}
use mathlib.Core.List.Memᴰ
use mathlib.Core.List.Memᴰ.{head as here}
use mathlib.Core.List.Memᴰ.{tail as there}
use mathlib.Core.List.{List, ◌∷◌, ◌++◌, Memᴰ}
use Rattle.std.proofs.Math.Nat.{add-mod_right, add-mul-div_right, add-mul-mod_self_right}
use Rattle.std.proofs.Math.Decide.{dec_le}
use Rattle.std.proofs.Math.Arith.{digits_div, digits_mod}
use Rattle.path.specs.Geometry.{Granule, entries, size_at}
use Rattle.path.specs.Paths.{index_at}
use Rattle.path.specs.Laws.{size_pos, size_le}
use Rattle.path.specs.PathLaws.{index_below, region_up}
use Rattle.path.specs.RegionLaws.{aligned_down, aligned_index}
use Rattle.model.specs.Answers.{Mapping, mapping}
use Rattle.model.specs.Ranges.{piece_at}
use Rattle.model.proofs.RangeLaws.{piece_fits, piece_most}
use Rattle.model.specs.RangeLaws.{Tiles, over, piece, Fits}
use Rattle.ranges.specs.Stretches.{stretch_at, in_row}

-- ---- addresses of one table

module _ (G : Granule) (a h j : ℕ) where
  place_next : (a + j * size_at G h) / size_at G h ≡ a / size_at G h + j
  place_next = add-mul-div_right a j (size_pos G h)

  split : a / size_at G h + j ≡ a / size_at G h / entries G * entries G + (a / size_at G h % entries G + j)
  split = omega (arith, div-add-mod' (a / size_at G h) (entries G))

  module _ (l : index_at G a h + j < entries G) where
    -- the index of the piece j further on,
    pub row_index : index_at G (a + j * size_at G h) h ≡ index_at G a h + j
    unfolding index_at
    row_index = ap (λ (x : ℕ). x % entries G) (place_next ∙ split) ∙ digits_mod (a / size_at G h / entries G) l

    -- which is in the same table
    pub row_region : a / size_at G (suc h) ≡ (a + j * size_at G h) / size_at G (suc h)
    unfolding index_at
    row_region =
        region_up G a h
        ∙ sym (region_up G (a + j * size_at G h) h ∙ ap (λ (x : ℕ). x / entries G) (place_next ∙ split) ∙ digits_div (a / size_at G h / entries G) l)

  pub row_aligned : a % size_at G h ≡ 0 → (a + j * size_at G h) % size_at G h ≡ 0
  row_aligned e = add-mul-mod_self_right a j (size_at G h) ∙ e

-- ---- rows

-- the piece j of a row
pub row_has : (s k a b n j : ℕ) → j < n → Memᴰ (mapping (a + j * s) (b + j * s) s k) (in_row s k a b n)
unfolding in_row
row_has s k a b zero j l = absurd (omega arith)
row_has s k a b (suc n) zero l = here (λ i. mapping (first a i) (first b i) s k)
  where
    first : (x : ℕ) → x + 0 * s ≡ x
    first x = omega arith
row_has s k a b (suc n) (suc j) l =
    there (subst (λ (m : Mapping). Memᴰ m (in_row s k (a + s) (b + s) n)) (λ i. mapping (next a i) (next b i) s k) (row_has s k (a + s) (b + s) n j (omega arith)))
  where
    next : (x : ℕ) → x + s + j * s ≡ x + suc j * s
    next x = omega (arith, suc-mul j s)

pub row_only : (s k a b n : ℕ) (q : Mapping) → Memᴰ q (in_row s k a b n) → (j : ℕ) × (j < n) × (q ≡ mapping (a + j * s) (b + j * s) s k)
unfolding in_row
row_only s k a b zero q i = absurd (Memᴰ.not-nil i)
row_only s k a b (suc n) q i =
    ⊎_elim (λ e. (0, omega arith, e ∙ (λ i. mapping (first a i) (first b i) s k)))
    (λ m. let (j, l, e) = row_only s k (a + s) (b + s) n q m in (suc j, omega arith, e ∙ (λ i. mapping (next j a i) (next j b i) s k)))
    (Memᴰ.cases_cons i)
  where
    first : (x : ℕ) → x ≡ x + 0 * s
    first x = omega arith

    next : (j x : ℕ) → x + s + j * s ≡ x + suc j * s
    next j x = omega (arith, suc-mul j s)

-- ---- a tiling begins with a row

pub record Begins (G : Granule) (k a b left h n : ℕ) (ms : List Mapping) : Type 0 where
  pub rest : List Mapping
  pub is : ms ≡ in_row (size_at G h) k a b n ++ rest
  pub tiled : Tiles G k (a + n * size_at G h) (b + n * size_at G h) (left - n * size_at G h) rest

tiles_at : {G : Granule} {k a b left a' b' left' : ℕ} {ms : List Mapping} → a ≡ a' → b ≡ b' → left ≡ left' → Tiles G k a b left ms → Tiles G k a' b' left' ms
tiles_at {G} {k} {a} {b} {left} {a'} {b'} {left'} {ms} x y z T =
    subst (λ (q : ℕ). Tiles G k q b' left' ms) x (subst (λ (q : ℕ). Tiles G k a q left' ms) y (subst (λ (q : ℕ). Tiles G k a b q ms) z T))

pub begins : (G : Granule) (k h n : ℕ) {a b left : ℕ} {ms : List Mapping} → Tiles G k a b left ms → n * size_at G h ≤ left → h ≤ G.large
    → a % size_at G h ≡ 0 → b % size_at G h ≡ 0 → ((j : ℕ) → 0 < n → Fits G a b left j → j ≤ h) → index_at G a h + n ≤ entries G → Begins G k a b left h n ms
unfolding in_row
begins G k h zero {a} {b} {left} {ms} T fit low x y most room =
    record { rest = ms; is = refl; tiled = tiles_at (omega arith) (omega arith) (omega arith) T }
begins G k h (suc n) over fit low x y most room = absurd (omega (arith, size_pos G h, suc-mul n (size_at G h)))
begins G k h (suc n) {a} {b} {left} (piece {h = e} {ms = ms} F more T) fit low x y most room = go (begins G k h n T' (omega (arith, grown)) low x' y' most' room')
  where
    s : ℕ
    s = size_at G h

    grown : suc n * s ≡ n * s + s
    grown = suc-mul n s

    same : e ≡ h
    same = omega (arith, more h (record { level = low; small = omega (arith, grown); address = x; frame = y }), most e (omega arith) F)

    T' : Tiles G k (a + s) (b + s) (left - s) ms
    T' = subst (λ (q : ℕ). Tiles G k (a + size_at G q) (b + size_at G q) (left - size_at G q) ms) same T

    x' : (a + s) % s ≡ 0
    x' = add-mod_right a s ∙ x

    y' : (b + s) % s ≡ 0
    y' = add-mod_right b s ∙ y

    one : a + 1 * s ≡ a + s
    one = omega arith

    index : 0 < n → index_at G (a + s) h ≡ index_at G a h + 1
    index l = ap (λ (q : ℕ). index_at G q h) (sym one) ∙ row_index G a h 1 (omega arith)

    most' : (j : ℕ) → 0 < n → Fits G (a + s) (b + s) (left - s) j → j ≤ h
    most' j l E = at (dec_le j h)
      where
        at : Dec (j ≤ h) → j ≤ h
        at (yes m) = m
        at (no m) = let z = aligned_index G {j = h} {h = j} (omega arith) (a + s) E.address in absurd (omega (arith, index l))

    room' : index_at G (a + s) h + n ≤ entries G
    room' = at n room refl
      where
        at : (m : ℕ) → index_at G a h + suc m ≤ entries G → m ≡ n → index_at G (a + s) h + n ≤ entries G
        at zero r e = omega (arith, index_below G (a + s) h)
        at (suc m) r e = omega (arith, index (omega arith))

    go : Begins G k (a + s) (b + s) (left - s) h n ms → Begins G k a b left h (suc n) (mapping a b (size_at G e) k ∷ ms)
    go B = record {
      rest = B.rest;
      is = λ i. mapping a b (size_at G (same i)) k ∷ B.is i;
      tiled = tiles_at (omega (arith, grown)) (omega (arith, grown)) (omega (arith, grown)) B.tiled;
    }

-- ---- the stretch of a point

-- what is left fills at least the piece, and the row of the stretch fits and stays in one table
pub record Stretched (G : Granule) (k a b left h n : ℕ) (ms : List Mapping) : Type 0 where
  pub low : h ≤ G.large
  pub some : 0 < n
  pub fits : n * size_at G h ≤ left
  pub room : index_at G a h + n ≤ entries G
  pub address : a % size_at G h ≡ 0
  pub frame : b % size_at G h ≡ 0
  pub row : Begins G k a b left h n ms

pub stretched : (G : Granule) {k a b left : ℕ} {ms : List Mapping} → Tiles G k a b left ms → left ≢ 0
    → let h = piece_at G a b left G.large in Stretched G k a b left h (stretch_at G a left h) ms
unfolding stretch_at
stretched G over some = absurd (some refl)
stretched G {k} {a} {b} {left} (piece {h = e} {ms = ms} F more T) some = go (ltb fit room) refl
  where
    h : ℕ
    h = piece_at G a b left G.large

    E : Fits G a b left h
    E = piece_fits G a b left G.large (omega arith) (record {
      level = omega arith;
      small = omega (arith, F.small, size_le G {j = 0} {h = e} (omega arith));
      address = aligned_down G {j = 0} {h = e} (omega arith) a F.address;
      frame = aligned_down G {j = 0} {h = e} (omega arith) b F.frame;
    })

    s : ℕ
    s = size_at G h

    fit : ℕ
    fit = left / s

    room : ℕ
    room = entries G - index_at G a h

    fit_some : 0 < fit
    fit_some = at fit refl
      where
        at : (x : ℕ) → x ≡ fit → 0 < fit
        at zero z = absurd (omega (arith, ap (λ (x : ℕ). x * s) z, div-add-mod' left s, mod-lt left (size_pos G h), E.small))
        at (suc x) z = omega arith

    make : (n : ℕ) → 0 < n → n * s ≤ left → index_at G a h + n ≤ entries G → Stretched G k a b left h n (mapping a b (size_at G e) k ∷ ms)
    make n p q r = record {
      low = E.level;
      some = p;
      fits = q;
      room = r;
      address = E.address;
      frame = E.frame;
      row = begins G k h n (piece {h = e} F more T) q E.level E.address E.frame (λ j l X. piece_most G a b left G.large j X.level X) r;
    }

    go : (y : Bool) → ltb fit room ≡ y → Stretched G k a b left h (cond y fit room) (mapping a b (size_at G e) k ∷ ms)
    go true q = let l = ltb-true fit room q in make fit fit_some (div-mul-le_self left s) (omega arith)
    go false q =
        let l = ltb-false fit room q in
        make room (omega (arith, index_below G a h)) (omega (arith, div-mul-le_self left s, mul-le-mul_right s l)) (omega (arith, index_below G a h))
