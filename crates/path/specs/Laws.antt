-- Laws of sizes, heights and setup numbers, over any granule.
use Prim.Native.Nat.{ℕ, zero, suc, ◌+◌, ◌-◌, ◌*◌, ◌%◌, ◌^◌, ◌≤◌, ◌<◌, zero-le}
use Rattle.std.specs.Prelude.{◌≡◌, ◌≢◌, ◌⊎◌, Bool, ◌&&◌, ◌||◌, Some, None}
use Rattle.std.proofs.Math.Path.{refl, sym, ap}
use Rattle.std.proofs.Common.{◌∙◌, subst, mul_comm, mul-suc, mul-le-mul}
use Rattle.std.proofs.Math.Logic.{inl, inr, ⊎_elim}
use Rattle.std.proofs.Math.Bool.{true, false, cond, or-false}
use Rattle.std.proofs.lemmas.Bool.{false≢true}
use Rattle.std.proofs.Math.Nat.{mul-le-mul_left, mul-lt-mul_of_pos_left, mul-mod_right, add-mul-mod_self_left, le_dest}
use Rattle.std.proofs.Math.Decide.{dec_lt, ℕ_discrete}
use native.Mathlib.Omega.{arith}
use Rattle.std.proofs.Math.Dec.{ltb, leb, eqb}
use Rattle.std.proofs.Math.Pow.{pow_pos, pow_mono, pow-lt, pow-add}
use borrow.Author.Tests.{ltb-true, leb-true, leb-false, eqb-true, eqb-false, lt-ltb, le-ltb, le-leb, eq-eqb, ne_eqb}
use Rattle.path.specs.Geometry.{Granule, Sane, four, sixteen, good_granule, granule_of, page_size, entries, size_at, physical, at_level, good_levels, space_of, known_space, seek, height_of, frame_height}
use Rattle.path.specs.Areas.{Area, area_of, one_region, with_second, total, table_at, GoodArea, InRegion, Shares, meets_region, meets_area}
use Rattle.path.specs.Numbers.{most_tables, good_area, good_numbers, good_setup, good_adding, GoodNumbers, GoodSetup, GoodAdding}
use Rattle.path.specs.declared.Setup.{Setup}

pub four_sane : Sane four
four_sane = omega arith

pub sixteen_sane : Sane sixteen
sixteen_sane = omega arith

-- what holds of both granules holds of the one that a number names
pub granule_either : (P : Granule → Type 0) → P four → P sixteen → (number : ℕ) → P (granule_of number)
unfolding granule_of
granule_either P a b number = go (eqb number 16384)
  where
    go : (t : Bool) → P (cond t sixteen four)
    go true = b
    go false = a

pub granule_sane : (number : ℕ) → Sane (granule_of number)
granule_sane = granule_either Sane four_sane sixteen_sane

pub granule_sixteen : {number : ℕ} → number ≡ 16384 → granule_of number ≡ sixteen
unfolding granule_of
granule_sixteen e = rw e

pub granule_four : {number : ℕ} → number ≢ 16384 → granule_of number ≡ four
unfolding granule_of
granule_four {number} n = rw (ne_eqb number 16384 n)

-- a number names a granule where it is the size of that granule's pages
pub granule_page : (number : ℕ) → good_granule number ≡ eqb number (page_size (granule_of number))
granule_page number = go (ℕ_discrete number 16384)
  where
    go : Dec (number ≡ 16384) → good_granule number ≡ eqb number (page_size (granule_of number))
    go (yes e) = rw (granule_sixteen e, e)
    go (no n) = rw (granule_four n, ne_eqb number 16384 n) (or-false (eqb number 4096))

-- the size of a granule's pages names it
pub page_names : (number : ℕ) → granule_of (page_size (granule_of number)) ≡ granule_of number
page_names = granule_either (λ G. granule_of (page_size G) ≡ G) (granule_four (λ e. omega arith)) (granule_sixteen refl)

-- ---- sizes

module _ (G : Granule) where
  pub page_pos : 0 < page_size G
  page_pos = pow_pos G.page

  pub entries_pos : 0 < entries G
  entries_pos = pow_pos G.index

  pub entries_more : Sane G → 1 < entries G
  entries_more S = pow-lt {i = 0} {j = G.index} (omega arith)

  pub page_least : Sane G → 4096 ≤ page_size G
  page_least S = pow_mono {i = 12} S.page_least

  -- a table takes a page, and an entry 8 bytes
  pub page_entries : Sane G → page_size G ≡ 8 * entries G
  page_entries S = ap (λ (k : ℕ). 2 ^ k) (sym S.table_page) ∙ pow-add 2 G.index 3 ∙ mul_comm (entries G) 8

  -- no page is so large that the tables of a pool could not stand below 2^48
  pub page_most : Sane G → page_size G ≤ 2 ^ 25
  page_most S = let l : 1 ≤ G.most = omega arith in pow_mono {j = 25} (omega (arith, mul-le-mul_left G.index l))

  pub entries_most : Sane G → entries G ≤ 2 ^ 22
  entries_most S = let l : 1 ≤ G.most = omega arith in pow_mono {j = 22} (omega (arith, mul-le-mul_left G.index l))

  -- the words of tables that 32 bits number can be counted; K is what code has for the entries of a table
  pub words_fit : Sane G → {K n : ℕ} → K ≡ entries G → n < 2 ^ 32 → K * n ≤ 2 ^ 54
  words_fit S e l = mul-le-mul {n₂ = 2 ^ 22} {m₂ = 2 ^ 32} (omega (arith, entries_most S)) (omega arith)

  pub size_pos : (h : ℕ) → 0 < size_at G h
  unfolding size_at
  size_pos h = pow_pos (G.page + G.index * h)

  pub size_zero : size_at G 0 ≡ page_size G
  unfolding size_at
  size_zero = ap (λ (k : ℕ). 2 ^ k) (omega arith)

  pub size_add : (j k : ℕ) → size_at G (j + k) ≡ size_at G j * 2 ^ (G.index * k)
  unfolding size_at
  size_add j k = ap (λ (x : ℕ). 2 ^ x) (omega arith) ∙ pow-add 2 (G.page + G.index * j) (G.index * k)

  pub size_suc : (h : ℕ) → size_at G (suc h) ≡ entries G * size_at G h
  unfolding size_at
  size_suc h = ap (λ (x : ℕ). 2 ^ x) (omega arith) ∙ pow-add 2 G.index (G.page + G.index * h)

  pub size_suc' : (h : ℕ) → size_at G (suc h) ≡ size_at G h * entries G
  size_suc' h = size_suc h ∙ mul_comm (entries G) (size_at G h)

  pub size_le : {j h : ℕ} → j ≤ h → size_at G j ≤ size_at G h
  unfolding size_at
  size_le {j} {h} l = pow_mono (omega (arith, mul-le-mul_left G.index l))

  -- upstream lemma_frame_size_monotonic
  pub size_rises : Sane G → {j h : ℕ} → j < h → size_at G j < size_at G h
  unfolding size_at
  size_rises S {j} {h} l = pow-lt (omega (arith, mul-lt-mul_of_pos_left {k = G.index} l (omega arith)))

  pub size_injective : Sane G → (j h : ℕ) → size_at G j ≡ size_at G h → j ≡ h
  size_injective S j h e = go (dec_lt j h) (dec_lt h j)
    where
      go : Dec (j < h) → Dec (h < j) → j ≡ h
      go (yes l) d = omega (arith, size_rises S l)
      go (no a) (yes l) = omega (arith, size_rises S l)
      go (no a) (no b) = omega arith

  -- upstream lemma_frame_size_aligned: a smaller size divides a larger one
  pub size_divides : {j h : ℕ} → j ≤ h → size_at G h % size_at G j ≡ 0
  size_divides {j} l = let (k, e) = le_dest l in rw (← e, size_add j k) (mul-mod_right (size_at G j) (2 ^ (G.index * k)))

  -- no region of a level is larger than the physical space
  pub size_fits : Sane G → {h : ℕ} → h ≤ G.most → size_at G h ≤ physical
  unfolding size_at
  size_fits S {h} l = pow_mono {j = 48} (omega (arith, mul-le-mul_left G.index l))

  -- ---- heights

  module _ (size : ℕ) where
    seek_most : (h tries : ℕ) → seek G size h tries ≤ h + tries
    unfolding seek
    seek_most h zero = omega arith
    seek_most h (suc tries) = go (eqb size (size_at G h)) (seek_most (suc h) tries)
      where
        go : (b : Bool) → seek G size (suc h) tries ≤ suc h + tries → cond b h (seek G size (suc h) tries) ≤ h + suc tries
        go true l = omega arith
        go false l = omega arith

    seek_size : (h tries : ℕ) → seek G size h tries < h + tries → size_at G (seek G size h tries) ≡ size
    unfolding seek
    seek_size h zero l = omega arith
    seek_size h (suc tries) l = go (eqb size (size_at G h)) refl l (seek_size (suc h) tries)
      where
        go : (b : Bool) → eqb size (size_at G h) ≡ b
            → cond b h (seek G size (suc h) tries) < h + suc tries
            → (seek G size (suc h) tries < suc h + tries → size_at G (seek G size (suc h) tries) ≡ size)
            → size_at G (cond b h (seek G size (suc h) tries)) ≡ size
        go true e l f = sym (eqb-true size (size_at G h) e)
        go false e l f = f (omega arith)

    seek_first : (j h tries : ℕ) → size_at G j ≡ size → h ≤ j → j < h + tries → seek G size h tries ≤ j
    unfolding seek
    seek_first j h zero e l m = omega arith
    seek_first j h (suc tries) e l m = go (eqb size (size_at G h)) refl (seek_first j (suc h) tries e)
      where
        go : (b : Bool) → eqb size (size_at G h) ≡ b
            → (suc h ≤ j → j < suc h + tries → seek G size (suc h) tries ≤ j)
            → cond b h (seek G size (suc h) tries) ≤ j
        go true q f = l
        go false q f = f (past (ℕ_discrete h j)) (omega arith)
          where
            past : Dec (h ≡ j) → suc h ≤ j
            past (yes z) = absurd (eqb-false size (size_at G h) q (sym e ∙ ap (size_at G) (sym z)))
            past (no n) = omega arith

    pub height_most : height_of G size ≤ suc G.large
    unfolding height_of
    height_most = omega (arith, seek_most 0 (suc G.large))

    -- a size that has a height is the size of that height
    pub height_size : height_of G size ≤ G.large → size_at G (height_of G size) ≡ size
    unfolding height_of
    height_size l = seek_size 0 (suc G.large) (omega arith)

    height_first : {h : ℕ} → h ≤ G.large → size_at G h ≡ size → height_of G size ≤ h
    unfolding height_of
    height_first {h} l e = seek_first h 0 (suc G.large) e zero-le (omega arith)

    -- the greatest answer says that no frame has the size
    pub no_frame : height_of G size ≡ suc G.large → (h : ℕ) → h ≤ G.large → size_at G h ≢ size
    no_frame e h l q = omega (arith, height_first l q)

    pub no_height : ((h : ℕ) → h ≤ G.large → size_at G h ≢ size) → height_of G size ≡ suc G.large
    no_height f = go (dec_lt G.large (height_of G size))
      where
        go : Dec (G.large < height_of G size) → height_of G size ≡ suc G.large
        go (yes l) = omega (arith, height_most)
        go (no n) = absurd (f (height_of G size) (omega arith) (height_size (omega arith)))

  -- upstream lemma_frame_size_inversion: the height of a size of a frame
  pub size_height : Sane G → {h : ℕ} → h ≤ G.large → height_of G (size_at G h) ≡ h
  size_height S {h} l =
      let low : height_of G (size_at G h) ≤ h = height_first (size_at G h) l refl in
      size_injective S (height_of G (size_at G h)) h (height_size (size_at G h) (omega arith))

  -- ---- levels

  pub level_some : {h : ℕ} → h < G.most → (x : ℕ) → at_level G h x ≡ x
  unfolding at_level
  level_some {h} l x = rw (lt-ltb h G.most l)

  pub level_none : {h : ℕ} → G.most ≤ h → (x : ℕ) → at_level G h x ≡ 0
  unfolding at_level
  level_none {h} l x = rw (le-ltb h G.most l)

  -- the bits of an address within a region of height h, in code; 0 says that no level has the height
  module _ (S : Sane G) (h : ℕ) {b : ℕ} (e : b ≡ at_level G h (G.page + G.index * h)) where
    pub bits_none : b ≡ 0 → (x : ℕ) → at_level G h x ≡ 0
    bits_none z x = go (dec_lt h G.most)
      where
        go : Dec (h < G.most) → at_level G h x ≡ 0
        go (yes l) = absurd (omega (arith, level_some l (G.page + G.index * h)))
        go (no n) = level_none (omega arith) x

    pub bits_level : b ≢ 0 → h < G.most
    bits_level n = go (dec_lt h G.most)
      where
        go : Dec (h < G.most) → h < G.most
        go (yes l) = l
        go (no m) = absurd (n (e ∙ level_none (omega arith) (G.page + G.index * h)))

    pub bits_fit : b ≢ 0 → b < 64
    bits_fit n =
        let l = bits_level n in
        omega (arith, level_some l (G.page + G.index * h), mul-lt-mul_of_pos_left {k = G.index} l (omega arith))

    pub bits_size : b ≢ 0 → 2 ^ b ≡ size_at G h
    unfolding size_at
    bits_size n = ap (λ (k : ℕ). 2 ^ k) (e ∙ level_some (bits_level n) (G.page + G.index * h))

  -- every tree has pages
  pub level_page : Sane G → (a : ℕ) → at_level G 0 (a % size_at G 0) ≡ a % page_size G
  level_page S a = level_some (omega arith) (a % size_at G 0) ∙ ap (λ (s : ℕ). a % s) size_zero

  pub space_some : {levels : ℕ} → G.fewest ≤ levels → levels ≤ G.most → space_of G levels ≡ size_at G levels
  unfolding space_of good_levels
  space_some {levels} l m = simp (le-leb G.fewest levels l, le-leb levels G.most m)

-- ---- setup numbers

pub both : (a b : Bool) → (a && b) ≡ true → (a ≡ true) × (b ≡ true)
both true b e = (refl, e)
both false b e = absurd (false≢true e)

pub untrue : (b : Bool) → (b ≡ true → ⊥) → b ≡ false
untrue true f = absurd (f refl)
untrue false f = refl

-- two tests that are true together are equal
pub same_truth : (a b : Bool) → (a ≡ true → b ≡ true) → (b ≡ true → a ≡ true) → a ≡ b
same_truth true b f g = sym (f refl)
same_truth false b f g = sym (untrue b (λ e. false≢true (g e)))

pub good_levels_lem : (G : Granule) (levels : ℕ) → good_levels G levels ≡ true → (G.fewest ≤ levels) × (levels ≤ G.most)
unfolding good_levels
good_levels_lem G levels e =
    let (a, b) = both (leb G.fewest levels) (leb levels G.most) e in
    (leb-true G.fewest levels a, leb-true levels G.most b)

pub levels_some : (G : Granule) {levels : ℕ} → G.fewest ≤ levels → levels ≤ G.most → good_levels G levels ≡ true
unfolding good_levels
levels_some G l m = rw (le-leb _ _ l, le-leb _ _ m)

pub levels_none : (G : Granule) (levels : ℕ) → (G.fewest ≤ levels → levels ≤ G.most → ⊥) → good_levels G levels ≡ false
levels_none G levels f = untrue (good_levels G levels) (λ e. f (good_levels_lem G levels e).0 (good_levels_lem G levels e).1)

pub space_none : (G : Granule) (levels : ℕ) → (G.fewest ≤ levels → levels ≤ G.most → ⊥) → space_of G levels ≡ 0
unfolding space_of
space_none G levels f = rw (levels_none G levels f)

-- no space is empty
pub known_gone : (G : Granule) (levels : ℕ) → (G.fewest ≤ levels → levels ≤ G.most → ⊥) → known_space G levels ≡ None
unfolding known_space
known_gone G levels f = rw (levels_none G levels f)

pub space_gone : (G : Granule) (levels : ℕ) → space_of G levels ≡ 0 → good_levels G levels ≡ false
unfolding space_of
space_gone G levels e = untrue (good_levels G levels) (λ t. omega (arith, rw t at e, size_pos G levels))

-- a space that is known, and a height that frames have
pub known_some : (G : Granule) (levels space : ℕ) → known_space G levels ≡ Some space → (good_levels G levels ≡ true) × (space ≡ space_of G levels)
unfolding known_space
known_some G levels space = go (good_levels G levels)
  where
    go : (b : Bool) → cond b (Some (space_of G levels)) None ≡ Some space → (b ≡ true) × (space ≡ space_of G levels)
    go true e = (refl, cc)
    go false e = cc

pub known_none : (G : Granule) (levels : ℕ) → known_space G levels ≡ None → good_levels G levels ≡ false
unfolding known_space
known_none G levels = go (good_levels G levels)
  where
    go : (b : Bool) → cond b (Some (space_of G levels)) None ≡ None → b ≡ false
    go true e = cc
    go false e = refl

pub height_some : (G : Granule) (size h : ℕ) → frame_height G size ≡ Some h → (h ≡ height_of G size) × (h ≤ G.large)
unfolding frame_height
height_some G size h e = go (leb (height_of G size) G.large) refl e
  where
    go : (b : Bool) → leb (height_of G size) G.large ≡ b → cond b (Some (height_of G size)) None ≡ Some h → (h ≡ height_of G size) × (h ≤ G.large)
    go true l e = let same : height_of G size ≡ h = cc in (sym same, subst (λ (n : ℕ). n ≤ G.large) same (leb-true (height_of G size) G.large l))
    go false l e = cc

pub height_none : (G : Granule) (size : ℕ) → frame_height G size ≡ None → G.large < height_of G size
unfolding frame_height
height_none G size e = go (leb (height_of G size) G.large) refl e
  where
    go : (b : Bool) → leb (height_of G size) G.large ≡ b → cond b (Some (height_of G size)) None ≡ None → G.large < height_of G size
    go true l e = cc
    go false l e = leb-false (height_of G size) G.large l

pub space_there : (G : Granule) (levels : ℕ) → space_of G levels ≢ 0 → good_levels G levels ≡ true
unfolding space_of
space_there G levels n = go (good_levels G levels) refl
  where
    go : (b : Bool) → good_levels G levels ≡ b → b ≡ true
    go true e = refl
    go false e = absurd (n (rw e))

-- so many addresses from a on, some at least, are all in the space, or end past it
module _ (G : Granule) (levels a size : ℕ) where
  pub in_space : (good_levels G levels && leb (a + size) (space_of G levels)) ≡ true → a + size ≤ space_of G levels
  in_space e = leb-true (a + size) (space_of G levels) (both (good_levels G levels) _ e).1

  pub past_space : (good_levels G levels && leb (a + size) (space_of G levels)) ≡ false → 1 ≤ size → space_of G levels < a + size
  unfolding space_of
  past_space e some = go (good_levels G levels) refl e
    where
      go : (b : Bool) → good_levels G levels ≡ b → (b && leb (a + size) (space_of G levels)) ≡ false → space_of G levels < a + size
      go true l f = leb-false (a + size) (space_of G levels) f
      go false l f = let z : space_of G levels ≡ 0 = rw l in omega arith

pub space_physical : {G : Granule} → Sane G → (levels : ℕ) → space_of G levels ≤ physical
unfolding space_of
space_physical {G} S levels = go (good_levels G levels) refl
  where
    go : (b : Bool) → good_levels G levels ≡ b → cond b (size_at G levels) 0 ≤ physical
    go true e = size_fits G S (good_levels_lem G levels e).1
    go false e = zero-le

-- one of two tests that is true
either : (a b : Bool) → (a || b) ≡ true → (a ≡ true) ⊎ (b ≡ true)
either true b e = inl refl
either false b e = inr e

left_true : (a b : Bool) → a ≡ true → (a || b) ≡ true
left_true true b e = refl
left_true false b e = absurd (false≢true e)

right_true : (a b : Bool) → b ≡ true → (a || b) ≡ true
right_true true b e = refl
right_true false b e = e

module _ {G : Granule} {area : Area} where
  pub good_area_lem : good_area G area ≡ true → GoodArea G area
  unfolding good_area
  good_area_lem e =
      let (a, e₁) = both (eqb (area.base % page_size G) 0) _ e in
      let (b, e₂) = both (leb (area.base + page_size G * area.tables) physical) _ e₁ in
      let (c, e₃) = both (eqb (area.base₂ % page_size G) 0) _ e₂ in
      let (d, e₄) = both (leb (area.base₂ + page_size G * area.tables₂) physical) _ e₃ in
      let (f, g) = both (leb (area.base + page_size G * area.tables) area.base₂ || leb (area.base₂ + page_size G * area.tables₂) area.base) _ e₄ in
      record {
        aligned = eqb-true _ _ a;
        fits = leb-true _ _ b;
        aligned₂ = eqb-true _ _ c;
        fits₂ = leb-true _ _ d;
        apart = ⊎_elim (λ l. inl (leb-true _ _ l)) (λ l. inr (leb-true _ _ l)) (either _ _ f);
        no_second = λ z. ⊎_elim (λ l. let k = ltb-true 0 area.tables₂ l in absurd (omega arith)) (λ q. eqb-true area.base₂ 0 q)
            (either (ltb 0 area.tables₂) (eqb area.base₂ 0) g);
      }

  pub area_good : GoodArea G area → good_area G area ≡ true
  unfolding good_area
  area_good g =
      simp (
        eq-eqb _ _ g.aligned,
        le-leb _ _ g.fits,
        eq-eqb _ _ g.aligned₂,
        le-leb _ _ g.fits₂,
        ⊎_elim (λ l. left_true _ (leb (area.base₂ + page_size G * area.tables₂) area.base) (le-leb _ _ l)) (λ l. right_true (leb (area.base + page_size G * area.tables) area.base₂) _ (le-leb _ _ l)) g.apart,
        second (ℕ_discrete area.tables₂ 0),
      )
    where
      second : Dec (area.tables₂ ≡ 0) → (ltb 0 area.tables₂ || eqb area.base₂ 0) ≡ true
      second (yes z) = right_true (ltb 0 area.tables₂) _ (eq-eqb area.base₂ 0 (g.no_second z))
      second (no d) = left_true _ (eqb area.base₂ 0) (lt-ltb 0 area.tables₂ (omega arith))

module _ {G : Granule} {levels : ℕ} {area : Area} {cut words places : ℕ} where
  pub good_numbers_lem : good_numbers G levels area cut words places ≡ true → GoodNumbers G levels area cut words places
  unfolding good_numbers
  good_numbers_lem e =
      let (a, e₁) = both (good_levels G levels) _ e in
      let (b, e₂) = both (leb 1 area.tables) _ e₁ in
      let (c, e₃) = both (leb (total area) most_tables) _ e₂ in
      let (d, e₄) = both (good_area G area) _ e₃ in
      let (f, e₅) = both (eqb cut (entries G * area.tables)) _ e₄ in
      let (g, k) = both (eqb words (entries G * total area)) _ e₅ in
      record {
        enough = (good_levels_lem G levels a).0;
        not_more = (good_levels_lem G levels a).1;
        some_table = leb-true 1 area.tables b;
        few = leb-true (total area) most_tables c;
        placed = good_area_lem d;
        cut_is = eqb-true cut (entries G * area.tables) f;
        words_are = eqb-true words (entries G * total area) g;
        places_are = eqb-true places (total area) k;
      }

  pub numbers_good : GoodNumbers G levels area cut words places → good_numbers G levels area cut words places ≡ true
  unfolding good_numbers good_levels
  numbers_good N =
      simp (
        le-leb _ _ N.enough,
        le-leb _ _ N.not_more,
        le-leb _ _ N.some_table,
        le-leb _ _ N.few,
        area_good N.placed,
        eq-eqb _ _ N.cut_is,
        eq-eqb _ _ N.words_are,
        eq-eqb _ _ N.places_are,
      )

  -- what breaks one of the rules is not good
  pub numbers_bad : (GoodNumbers G levels area cut words places → ⊥) → good_numbers G levels area cut words places ≡ false
  numbers_bad f = untrue _ (λ e. f (good_numbers_lem e))

module _ {G : Granule} {s : Setup} {cut words places : ℕ} where
  pub good_setup_lem : good_setup G s cut words places ≡ true → GoodSetup G s cut words places
  unfolding good_setup
  good_setup_lem e =
      let (g, f) = both (eqb s.granule (page_size G)) _ e in
      let (a, b) = both (good_numbers G s.levels (area_of s) cut words places) _ f in
      record { granule_is = eqb-true s.granule (page_size G) g; numbers = good_numbers_lem a; room = ltb-true s.free (total (area_of s)) b }

  pub setup_good : GoodSetup G s cut words places → good_setup G s cut words places ≡ true
  unfolding good_setup
  setup_good S = simp (eq-eqb _ _ S.granule_is, numbers_good S.numbers, lt-ltb _ _ S.room)

  pub setup_bad : (GoodSetup G s cut words places → ⊥) → good_setup G s cut words places ≡ false
  setup_bad f = untrue _ (λ e. f (good_setup_lem e))

module _ {G : Granule} {levels : ℕ} {area : Area} {q m cut words places : ℕ} where
  pub good_adding_lem : good_adding G levels area q m cut words places ≡ true → GoodAdding G levels area q m cut words places
  unfolding good_adding
  good_adding_lem e =
      let (a, b) = both (eqb area.base₂ 0 && eqb area.tables₂ 0) _ e in
      let (x, y) = both (eqb area.base₂ 0) (eqb area.tables₂ 0) a in
      let (c, d) = both (ltb 0 m) _ b in
      record { one_yet = (eqb-true _ _ x, eqb-true _ _ y); some_new = ltb-true 0 m c; numbers = good_numbers_lem d }

  pub adding_good : GoodAdding G levels area q m cut words places → good_adding G levels area q m cut words places ≡ true
  unfolding good_adding
  adding_good A = simp (eq-eqb _ _ A.one_yet.0, eq-eqb _ _ A.one_yet.1, lt-ltb 0 m A.some_new, numbers_good A.numbers)

  pub adding_bad : (GoodAdding G levels area q m cut words places → ⊥) → good_adding G levels area q m cut words places ≡ false
  adding_bad f = untrue _ (λ e. f (good_adding_lem e))

-- ---- the addresses of tables

-- the tables before another end where it starts, at the latest
pub table_ends : (K : ℕ) {t c : ℕ} → t < c → K * t + K ≤ K * c
table_ends K {t} l = rw (← mul-suc K t) (mul-le-mul_left K l)

pub in_table : (K : ℕ) {t n i : ℕ} → t < n → i < K → K * t + i < K * n
in_table K l b = omega (arith, table_ends K l)

module _ (G : Granule) (area : Area) where
  pub table_first : (t : ℕ) → t < area.tables → table_at G area t ≡ area.base + page_size G * t
  unfolding table_at
  table_first t l = rw (lt-ltb t area.tables l)

  pub table_second : (t : ℕ) → area.tables ≤ t → table_at G area t ≡ area.base₂ + page_size G * (t - area.tables)
  unfolding table_at
  table_second t l = rw (le-ltb t area.tables l)

  -- where a table stands: as number i of the first region, or of the second
  pub data Stood (t : ℕ) : Type 0 where
    in_first : t < area.tables → table_at G area t ≡ area.base + page_size G * t → Stood t
    in_second : (i : ℕ) → area.tables + i ≡ t → i < area.tables₂ → table_at G area t ≡ area.base₂ + page_size G * i → Stood t

  pub stood : (t : ℕ) → t < total area → Stood t
  stood t l = go (dec_lt t area.tables)
    where
      go : Dec (t < area.tables) → Stood t
      go (yes a) = in_first a (table_first t a)
      go (no a) = in_second (t - area.tables) (omega arith) (omega arith) (table_second t (omega arith))

  module _ (good : GoodArea G area) where
    pub table_aligned : (t : ℕ) → t < total area → table_at G area t % page_size G ≡ 0
    table_aligned t l = go (stood t l)
      where
        go : Stood t → table_at G area t % page_size G ≡ 0
        go (in_first a e) = rw (e, add-mul-mod_self_left area.base (page_size G) t) good.aligned
        go (in_second i s a e) = rw (e, add-mul-mod_self_left area.base₂ (page_size G) i) good.aligned₂

    pub table_fits : (t : ℕ) → t < total area → table_at G area t + page_size G ≤ physical
    table_fits t l = go (stood t l)
      where
        go : Stood t → table_at G area t + page_size G ≤ physical
        go (in_first a e) = omega (arith, e, good.fits, table_ends (page_size G) a)
        go (in_second i s a e) = omega (arith, e, good.fits₂, table_ends (page_size G) a)

    -- two tables share no byte
    pub tables_apart : (t u : ℕ) → t < total area → u < total area → t ≢ u
        → (table_at G area t + page_size G ≤ table_at G area u) ⊎ (table_at G area u + page_size G ≤ table_at G area t)
    tables_apart t u l m d = go (stood t l) (stood u m) (dec_lt t u)
      where
        go : Stood t → Stood u → Dec (t < u) → (table_at G area t + page_size G ≤ table_at G area u) ⊎ (table_at G area u + page_size G ≤ table_at G area t)
        go (in_first a e) (in_first b f) (yes k) = inl (omega (arith, e, f, table_ends (page_size G) k))
        go (in_first a e) (in_first b f) (no k) = inr (let z : u < t = omega arith in omega (arith, e, f, table_ends (page_size G) z))
        go (in_second i r a e) (in_second j s b f) (yes k) = inl (let z : i < j = omega arith in omega (arith, e, f, table_ends (page_size G) z))
        go (in_second i r a e) (in_second j s b f) (no k) = inr (let z : j < i = omega arith in omega (arith, e, f, table_ends (page_size G) z))
        go (in_first a e) (in_second j s b f) k = ⊎_elim (λ x. inl (omega (arith, e, f, x, table_ends (page_size G) a))) (λ x. inr (omega (arith, e, f, x, table_ends (page_size G) b))) good.apart
        go (in_second i r a e) (in_first b f) k = ⊎_elim (λ x. inr (omega (arith, e, f, x, table_ends (page_size G) b))) (λ x. inl (omega (arith, e, f, x, table_ends (page_size G) a))) good.apart

    -- so each has its own address
    pub table_one : (t u : ℕ) → t < total area → u < total area → table_at G area t ≡ table_at G area u → t ≡ u
    table_one t u l m e = go (ℕ_discrete t u)
      where
        go : Dec (t ≡ u) → t ≡ u
        go (yes q) = q
        go (no d) = absurd (⊎_elim (λ x. omega (arith, page_pos G)) (λ x. omega (arith, page_pos G)) (tables_apart t u l m d))

-- a table of the first region stands where it stood, whatever the second is
pub table_stays : (G : Granule) (area : Area) (q m t : ℕ) → t < area.tables → table_at G (with_second area q m) t ≡ table_at G area t
table_stays G area q m t l = table_first G (with_second area q m) t l ∙ sym (table_first G area t l)

-- ---- bytes of the tables

module _ (G : Granule) (base n b size : ℕ) where
  pub meets_byte : meets_region G base n b size ≡ true → (x : ℕ) × (b ≤ x) × (x < b + size) × InRegion G base n x
  unfolding meets_region
  meets_byte e =
      let (u, v) = both (ltb 0 size && ltb 0 n) _ e in
      let (x, y) = both (ltb 0 size) (ltb 0 n) u in
      let (l, m) = both (ltb b (base + page_size G * n)) _ v in
      at (ltb-true 0 size x) (ltb-true 0 n y) (ltb-true b _ l) (ltb-true base (b + size) m) (dec_lt b base)
    where
      at : 0 < size → 0 < n → b < base + page_size G * n → base < b + size → Dec (b < base) → (x : ℕ) × (b ≤ x) × (x < b + size) × InRegion G base n x
      at x y l m (yes q) = (base, omega arith, m, (omega arith, omega (arith, page_pos G, mul-lt-mul_of_pos_left {k = page_size G} y (page_pos G))))
      at x y l m (no q) = (b, omega arith, omega arith, (omega arith, l))

  pub byte_meets : (x : ℕ) → b ≤ x → x < b + size → InRegion G base n x → meets_region G base n b size ≡ true
  unfolding meets_region
  byte_meets x s e i =
      simp (
        lt-ltb 0 size (omega arith),
        lt-ltb 0 n (some_table (ℕ_discrete n 0)),
        lt-ltb b (base + page_size G * n) (omega (arith, i.1)),
        lt-ltb base (b + size) (omega (arith, i.0)),
      )
    where
      some_table : Dec (n ≡ 0) → 0 < n
      some_table (yes z) = absurd (omega (arith, i.0, i.1, ap (λ (t : ℕ). page_size G * t) z))
      some_table (no d) = omega arith

  pub no_byte : ((x : ℕ) → b ≤ x → x < b + size → InRegion G base n x → ⊥) → meets_region G base n b size ≡ false
  no_byte f = untrue _ (λ e. let (x, s, t, i) = meets_byte e in f x s t i)

  pub no_tables : n ≡ 0 → meets_region G base n b size ≡ false
  no_tables z = no_byte (λ x s t i. omega (arith, i.0, i.1, ap (λ (m : ℕ). page_size G * m) z))

module _ {G : Granule} {area : Area} {b size : ℕ} where
  -- the test is that a byte is shared
  pub meets_shares : meets_area G area b size ≡ true → Shares G area b size
  unfolding meets_area
  meets_shares e = ⊎_elim
      (λ f. let (x, s, t, i) = meets_byte G area.base area.tables b size f in record { byte = x; starts = s; ends = t; inside = inl i })
      (λ f. let (x, s, t, i) = meets_byte G area.base₂ area.tables₂ b size f in record { byte = x; starts = s; ends = t; inside = inr i })
      (either (meets_region G area.base area.tables b size) (meets_region G area.base₂ area.tables₂ b size) e)

  pub shares_meets : Shares G area b size → meets_area G area b size ≡ true
  unfolding meets_area
  shares_meets S = ⊎_elim
      (λ i. left_true _ (meets_region G area.base₂ area.tables₂ b size) (byte_meets G area.base area.tables b size S.byte S.starts S.ends i))
      (λ i. right_true (meets_region G area.base area.tables b size) _ (byte_meets G area.base₂ area.tables₂ b size S.byte S.starts S.ends i))
      S.inside

  -- and where it does not hold, none is
  pub meets_apart : meets_area G area b size ≡ false → Shares G area b size → ⊥
  meets_apart e S = false≢true (sym e ∙ shares_meets S)

  pub apart_meets : (Shares G area b size → ⊥) → meets_area G area b size ≡ false
  apart_meets f = untrue _ (λ e. f (meets_shares e))

-- the first region decides where it meets, and else the second
module _ (G : Granule) (area : Area) (b size : ℕ) where
  pub first_decides : meets_region G area.base area.tables b size ≡ true → meets_area G area b size ≡ true
  unfolding meets_area
  first_decides e = left_true _ _ e

  pub second_decides : meets_region G area.base area.tables b size ≡ false
      → meets_area G area b size ≡ meets_region G area.base₂ area.tables₂ b size
  unfolding meets_area
  second_decides e = rw e

-- where there is one region, it alone decides
pub only_region : (G : Granule) (base n b size : ℕ) → meets_area G (one_region base n) b size ≡ meets_region G base n b size
only_region G base n b size = go (meets_region G base n b size) refl
  where
    go : (x : Bool) → meets_region G base n b size ≡ x → meets_area G (one_region base n) b size ≡ meets_region G base n b size
    go true e = first_decides G (one_region base n) b size e ∙ sym e
    go false e = second_decides G (one_region base n) b size e ∙ no_byte G 0 0 b size (λ x s t i. omega (arith, i.1)) ∙ sym e
