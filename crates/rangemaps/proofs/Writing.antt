-- The pieces of a range are written row by row: the first piece of a row by map, the others by their words alone.
use Prim.Native.Nat.{ℕ, zero, suc, ◌+◌, ◌-◌, ◌*◌, ◌/◌, ◌≤◌, ◌<◌}
use mathlib.Core.Path.{◌≡◌, refl, ap, sym, ◌∙◌, subst}
use mathlib.Core.Logic.{◌≢◌}
use mathlib.Core.Bool.{true}
use mathlib.Core.List.Memᴰ
use mathlib.Core.List.Memᴰ.{head as here}
use mathlib.Core.List.Memᴰ.{tail as there}
use mathlib.Core.List.{List, [], ◌∷◌, ◌++◌, Memᴰ}
use native.Mathlib.Nat.{suc-mul, mul-suc}
use native.Mathlib.Omega.{arith}
use lib.ListN.{length, set}
use Rattle.path.specs.Geometry.{Granule, Sane, granule_of, entries, size_at, height_of, physical, at_level}
use Rattle.path.specs.Areas.{area_of}
use Rattle.path.specs.Numbers.{with_free, good_setup, GoodSetup}
use Rattle.path.specs.Laws.{size_pos, size_height, good_setup_lem, space_physical}
use Rattle.path.specs.Paths.{index_at, path_of}
use Rattle.path.specs.PathLaws.{path_of_at, index_below}
use Rattle.path.specs.declared.Setup.{Setup}
use Rattle.entry.specs.Words.{frame_word}
use Rattle.entry.specs.declared.Entry.TheVariants.{Empty}
use Rattle.model.specs.declared.Walked.{Walked}
use Rattle.model.specs.Answers.{Mapping, mapping, Answer, took, Pool, pool, Done, done}
use Rattle.model.specs.Walk.{slot, at_height}
use Rattle.model.specs.Writes.{Memory, memory, perform_all, map_writes}
use Rattle.model.specs.Calls.{walk_to, map_tests, map_w}
use Rattle.model.proofs.DescentLaws.{clash}
use Rattle.model.specs.Ranges.{piece_at, pieces, walk_for, piece_walk, piece_walks, is_damaged, is_taken, lacked, map_piece, left_by, map_range_w}
use Rattle.model.proofs.RangeLaws.{range_fine, tiles, tiles_tests, tiles_inside}
use Rattle.model.specs.RangeLaws.{Tiles, over, piece, FineRange}
use Rattle.model.proofs.RangeWalks.{came_target}
use Rattle.model.proofs.RangeMapped.{Ok, Piece, Put, chain, map_piece_lem, tiles_piece, way_of, put_same, start, neither, none_ends, map_range_view}
use Rattle.model.specs.RangeMapped.{Accepted, MapRangeView, range_takes, range_refuses}
use Rattle.ranges.specs.Stretches.{stretch_at, in_row}
use Rattle.ranges.specs.StretchLaws.{row_index, row_region, Stretched, stretched}
use Rattle.rangemaps.specs.Rows.{filled}
use Rattle.ranges.specs.RowWalks.{row_tables}
use Rattle.rangemaps.proofs.Surveying.{tiles_none, tall_level, wide_is}

-- ---- a row of words

pub filled_first : (ws : List ℕ) (place first size n : ℕ) → filled ws place first size (suc n) ≡ filled (set ws place first) (place + 1) (first + size) size n
unfolding filled
filled_first ws place first size zero = λ i. set ws (at i) (word i)
  where
    at : place + 0 ≡ place
    at = omega arith

    word : first + size * 0 ≡ first
    word = omega arith
filled_first ws place first size (suc n) = λ i. set (filled_first ws place first size n i) (at i) (word i)
  where
    at : place + suc n ≡ place + 1 + n
    at = omega arith

    word : first + size * suc n ≡ first + size + size * n
    word = omega (arith, mul-suc size n)

word_next : (y h k s : ℕ) → frame_word (y + s) h k ≡ frame_word y h k + s
unfolding frame_word
word_next y h k s = omega arith

-- ---- one piece

-- the first piece of a tiling
pub record Cut (G : Granule) (k x y left : ℕ) (m : Mapping) (ms : List Mapping) : Type 0 where
  pub at_is : m.at ≡ x
  pub frame_is : m.frame ≡ y
  pub tiled : Tiles G k (x + m.size) (y + m.size) (left - m.size) ms

tiles_cut : {G : Granule} {k x y left : ℕ} {ms : List Mapping} {m : Mapping} {rest : List Mapping} → Tiles G k x y left ms → ms ≡ m ∷ rest → Cut G k x y left m rest
tiles_cut over e = clash (cc)
tiles_cut {G} {k} {x} {y} {left} {m = m} {rest} (piece {h = h} {ms = ms} F more T) e =
    let u : mapping x y (size_at G h) k ≡ m = cc in
    let v : ms ≡ rest = cc in
    record {
      at_is = ap (λ (q : Mapping). q.at) (sym u);
      frame_is = ap (λ (q : Mapping). q.frame) (sym u);
      tiled = subst (λ (l : List Mapping). Tiles G k (x + m.size) (y + m.size) (left - m.size) l) v
          (subst (λ (q : Mapping). Tiles G k (x + q.size) (y + q.size) (left - q.size) ms) u T);
    }

module _ (G : Granule) (Z : Sane G) (sp : Setup) (few : sp.levels - 1 < 4) (cut : ℕ) (list : List ℕ) (enough : G.fewest ≤ sp.levels) (k : ℕ) where
  abbrev at : List ℕ → ℕ → Pool
  at ws f = pool (with_free sp f) ws cut list

  -- pieces that are still to be written: they can be, they tile what is left, and no test refuses them
  pub record Going (ws : List ℕ) (f N x y left : ℕ) (ms : List Mapping) : Type 0 where
    pub ok : Ok G Z sp few cut list ws f N ms
    pub tiled : Tiles G k x y left ms
    pub tests : (q : Mapping) → Memᴰ q ms → map_tests G sp.levels (area_of sp) q.at q.frame q.size q.attributes ≡ 0

  -- the first of them
  pub record Stepped (ws : List ℕ) (f N x y left : ℕ) (m : Mapping) (ms : List Mapping) : Type 0 where
    pub words : List ℕ
    pub lack : ℕ
    pub lack_is : lack ≡ (walk_to G (at ws f) (height_of G m.size) m.at).left - height_of G m.size
    pub maps_to : map_piece G (at ws f) m ≡ done (took lack) (at words (f - lack))
    pub going : Going words (f - lack) (N - lack) (x + m.size) (y + m.size) (left - m.size) ms
    pub beside : (q : Mapping) → Memᴰ q ms → height_of G q.size ≡ height_of G m.size
        → m.at / size_at G (suc (height_of G m.size)) ≡ q.at / size_at G (suc (height_of G m.size))
        → (walk_to G (at words (f - lack)) (height_of G q.size) q.at).left ≡ height_of G m.size
    pub only : (walk_to G (at ws f) (height_of G m.size) m.at).left ≡ height_of G m.size
        → words ≡ set ws (slot G (at_height (walk_to G (at ws f) (height_of G m.size) m.at).tables (height_of G m.size)) (at_height (path_of G m.at) (height_of G m.size)))
        (frame_word m.frame (height_of G m.size) m.attributes)
    pub stays : (walk_to G (at ws f) (height_of G m.size) m.at).left ≡ height_of G m.size → (q : Mapping) → Memᴰ q ms
        → walk_to G (at words (f - lack)) (height_of G q.size) q.at ≡ walk_to G (at ws f) (height_of G q.size) q.at

  pub going_first : {ws : List ℕ} {f N x y left : ℕ} {m : Mapping} {ms : List Mapping} → Going ws f N x y left (m ∷ ms) → Stepped ws f N x y left m ms
  unfolding perform_all map_writes
  going_first {ws} {f} {N} {x} {y} {left} {m} {ms} I = record {
    words = C.words;
    lack = d;
    lack_is = refl;
    maps_to = map_piece_lem G Z sp few cut list I.ok (I.tests m (here refl)) C;
    going = record { ok = C.ok; tiled = D.tiled; tests = λ q i. I.tests q (there i) };
    beside = C.beside;
    only = only;
    stays = λ e q i. subst (λ (w : List ℕ). walk_to G (at w (f - d)) (height_of G q.size) q.at ≡ walk_to G (at ws f) (height_of G q.size) q.at) (sym (only e))
        (put_same G Z sp few cut list I.ok are rising e (frame_word m.frame g m.attributes) q i);
  }
    where
      D : Cut G k x y left m ms
      D = tiles_cut I.tiled refl

      are : (q : Mapping) → Memᴰ q (m ∷ ms) → Piece G Z sp few cut list q
      are q i = tiles_piece G Z sp few cut list I.tiled enough q i

      rising : (q : Mapping) → Memᴰ q ms → m.at + m.size ≤ q.at
      rising q i = omega (arith, D.at_is, (tiles_inside D.tiled q i).0)

      g : ℕ
      g = height_of G m.size

      o : Walked
      o = walk_to G (at ws f) g m.at

      d : ℕ
      d = o.left - g

      deep : g ≤ o.left
      deep = came_target (way_of G Z sp few cut list I.ok m (here refl)).came (are m (here refl)).low

      C : Put G Z sp few cut list ws f N d (frame_word m.frame g m.attributes) m ms
      C = chain G Z sp few cut list d (frame_word m.frame g m.attributes) I.ok are rising (omega (arith, deep))

      only : o.left ≡ g → C.words ≡ set ws (slot G (at_height o.tables g) (at_height (path_of G m.at) g)) (frame_word m.frame g m.attributes)
      only e =
          let none : d ≡ 0 = omega arith in
          sym (ap (λ (c : Memory). c.words) C.carried)
          ∙ ap (λ (t : ℕ). (perform_all G (map_writes G (area_of sp) (path_of G m.at) list g (frame_word m.frame g m.attributes) (at_height o.tables o.left) f t) (memory ws list)).words) none
          ∙ ap (λ (t : ℕ). set ws (slot G (at_height o.tables t) (at_height (path_of G m.at) g)) (frame_word m.frame g m.attributes)) e

  -- ---- a row in a table that is there

  module _ (h : ℕ) (small : h ≤ G.large) where
    abbrev s : ℕ
    s = size_at G h

    height_is : height_of G s ≡ h
    height_is = size_height G Z small

    -- the walk of the piece of a row at x
    abbrev walk_at : List ℕ → ℕ → ℕ → Walked
    walk_at ws f x = walk_to G (at ws f) h x

    abbrev place : List ℕ → ℕ → ℕ → ℕ
    place ws f x = slot G (at_height (walk_at ws f x).tables h) (index_at G x h)

    pub record Rowed (ws : List ℕ) (f N x y left n : ℕ) (rest : List Mapping) : Type 0 where
      pub going : Going (filled ws (place ws f x) (frame_word y h k) s n) f N (x + n * s) (y + n * s) (left - n * s) rest
      pub leaves : left_by (map_piece G) (at ws f) (in_row s k x y n ++ rest) ≡ left_by (map_piece G) (at (filled ws (place ws f x) (frame_word y h k) s n) f) rest

    pub going_like : {ws : List ℕ} {f N x y left f' N' x' y' left' : ℕ} {ms : List Mapping} → Going ws f N x y left ms → f ≡ f' → N ≡ N' → x ≡ x' → y ≡ y' → left ≡ left'
        → Going ws f' N' x' y' left' ms
    going_like {ws} {f} {N} {x} {y} {left} {f'} {N'} {x'} {y'} {left'} {ms} I a b c d e = record {
      ok = subst (λ (t : ℕ). Ok G Z sp few cut list ws t N' ms) a (subst (λ (t : ℕ). Ok G Z sp few cut list ws f t ms) b I.ok);
      tiled = subst (λ (t : ℕ). Tiles G k t y' left' ms) c (subst (λ (t : ℕ). Tiles G k x t left' ms) d (subst (λ (t : ℕ). Tiles G k x y t ms) e I.tiled));
      tests = I.tests;
    }

    pub going_row : (n : ℕ) {ws : List ℕ} {f N x y left : ℕ} {rest : List Mapping} → Going ws f N x y left (in_row s k x y n ++ rest) → index_at G x h + n ≤ entries G
        → (0 < n → (walk_at ws f x).left ≡ h) → Rowed ws f N x y left n rest
    unfolding in_row filled left_by
    going_row zero {ws} {f} {N} {x} {y} {left} {rest} I room here_is = record { going = going_like I refl refl (omega arith) (omega arith) (omega arith); leaves = refl }
    going_row (suc n) {ws} {f} {N} {x} {y} {left} {rest} I room here_is =
        go (going_first I) (λ (w : List ℕ) (I' : Going w f N (x + s) (y + s) (left - s) (in_row s k (x + s) (y + s) n ++ rest)) r e. going_row n I' r e)
      where
        m : Mapping
        m = mapping x y s k

        tail : List Mapping
        tail = in_row s k (x + s) (y + s) n ++ rest

        at_h : (walk_to G (at ws f) (height_of G s) x).left ≡ height_of G s
        at_h = ap (λ (t : ℕ). (walk_to G (at ws f) t x).left) height_is ∙ here_is (omega arith) ∙ sym height_is

        low : h < 4
        low = omega (arith, few, enough, Z.large_below)

        go : Stepped ws f N x y left m tail
            → ((w : List ℕ) → Going w f N (x + s) (y + s) (left - s) tail → index_at G (x + s) h + n ≤ entries G → (0 < n → (walk_at w f (x + s)).left ≡ h)
            → Rowed w f N (x + s) (y + s) (left - s) n rest)
            → Rowed ws f N x y left (suc n) rest
        go S more = done_so (more S.words I' room' next_is)
          where
            lack : S.lack ≡ 0
            lack = S.lack_is ∙ omega (arith, at_h)

            I' : Going S.words f N (x + s) (y + s) (left - s) tail
            I' = going_like S.going (omega (arith, lack)) (omega (arith, lack)) refl refl refl

            one : x + 1 * s ≡ x + s
            one = omega arith

            index : 0 < n → index_at G (x + s) h ≡ index_at G x h + 1
            index l = ap (λ (t : ℕ). index_at G t h) (sym one) ∙ row_index G x h 1 (omega arith)

            room' : index_at G (x + s) h + n ≤ entries G
            room' = by n refl
              where
                by : (j : ℕ) → j ≡ n → index_at G (x + s) h + n ≤ entries G
                by zero e = omega (arith, index_below G (x + s) h)
                by (suc j) e = omega (arith, index (omega arith))

            -- the piece after it
            q : Mapping
            q = mapping (x + s) (y + s) s k

            in_tail : 0 < n → Memᴰ q tail
            in_tail l = by n l
              where
                by : (j : ℕ) → 0 < j → Memᴰ q (in_row s k (x + s) (y + s) j ++ rest)
                by zero l = absurd (omega arith)
                by (suc j) l = here refl

            region : 0 < n → x / size_at G (suc h) ≡ (x + s) / size_at G (suc h)
            region l = row_region G x h 1 (omega arith) ∙ ap (λ (t : ℕ). t / size_at G (suc h)) one

            next_is : 0 < n → (walk_at S.words f (x + s)).left ≡ h
            next_is l =
                ap (λ (t : ℕ). (walk_to G (at S.words f) t (x + s)).left) (sym height_is)
                ∙ S.beside q (in_tail l) refl (ap (λ (t : ℕ). x / size_at G (suc t)) height_is ∙ region l ∙ ap (λ (t : ℕ). (x + s) / size_at G (suc t)) (sym height_is))
                ∙ height_is

            empty : (walk_at ws f x).entry ≡ Empty
            empty = ap (λ (t : ℕ). (walk_to G (at ws f) t x).entry) (sym height_is) ∙ I.ok.empties m (here refl)

            -- in the same table
            tables : 0 < n → (walk_at S.words f (x + s)).tables ≡ (walk_at ws f x).tables
            tables l =
                ap (λ (t : ℕ). (walk_to G (at S.words f) t (x + s)).tables) (sym height_is)
                ∙ ap (λ (w : Walked). w.tables) (S.stays at_h q (in_tail l))
                ∙ ap (λ (t : ℕ). (walk_to G (at ws f) t (x + s)).tables) height_is
                ∙ ap (λ (t : ℕ). (walk_to G (at ws f) h t).tables) (sym one)
                ∙ row_tables G (at ws f) (omega arith) h x (suc n) (omega (arith, enough, Z.large_below)) (omega (arith, enough, Z.large_below)) room (λ z. clash (cc empty)) 1 (omega arith)

            word : ℕ
            word = frame_word y h k

            put : S.words ≡ set ws (place ws f x) word
            put =
                S.only at_h
                ∙ ap (λ (t : ℕ). set ws (slot G (at_height (walk_to G (at ws f) t x).tables t) (at_height (path_of G x) t)) (frame_word y t k)) height_is
                ∙ ap (λ (i : ℕ). set ws (slot G (at_height (walk_at ws f x).tables h) i) word) (path_of_at G x {h = h} low)

            same : filled S.words (place S.words f (x + s)) (frame_word (y + s) h k) s n ≡ filled ws (place ws f x) word s (suc n)
            same = by n refl ∙ sym (filled_first ws (place ws f x) word s n)
              where
                by : (j : ℕ) → j ≡ n → filled S.words (place S.words f (x + s)) (frame_word (y + s) h k) s n ≡ filled (set ws (place ws f x) word) (place ws f x + 1) (word + s) s n
                by zero e = ap (filled S.words (place S.words f (x + s)) (frame_word (y + s) h k) s) (sym e) ∙ put ∙ ap (filled (set ws (place ws f x) word) (place ws f x + 1) (word + s) s) e
                by (suc j) e =
                    let next : place S.words f (x + s) ≡ place ws f x + 1 =
                    (λ i. slot G (at_height (tables (omega arith) i) h) (index (omega arith) i)) ∙ omega arith in
                    λ i. filled (put i) (next i) (word_next y h k s i) s n

            done_so : Rowed S.words f N (x + s) (y + s) (left - s) n rest → Rowed ws f N x y left (suc n) rest
            done_so R = record {
              going = subst (λ (w : List ℕ). Going w f N (x + suc n * s) (y + suc n * s) (left - suc n * s) rest) same
                  (going_like R.going refl refl (omega (arith, suc-mul n s)) (omega (arith, suc-mul n s)) (omega (arith, suc-mul n s)));
              leaves =
                  ap (λ (z : Done). left_by (map_piece G) z.after tail) S.maps_to
                  ∙ ap (λ (t : ℕ). left_by (map_piece G) (at S.words t) tail) (omega (arith, lack))
                  ∙ R.leaves
                  ∙ ap (λ (w : List ℕ). left_by (map_piece G) (at w f) rest) same;
            }

-- ---- all rows

-- the range is accepted, and its pieces before address x are written: what is left of the loop leaves what the range leaves
pub record Written (G : Granule) (Z : Sane G) (p : Pool) (a b len k : ℕ) (now : Setup) (ws : List ℕ) (cut x y left : ℕ) : Type 0 where
  pub few : p.numbers.levels - 1 < 4
  pub enough : G.fewest ≤ p.numbers.levels
  pub free : ℕ
  pub lacks : ℕ
  pub rest : List Mapping
  pub now_is : now ≡ with_free p.numbers free
  pub cut_is : cut ≡ p.cut
  pub going : Going G Z p.numbers few p.cut p.list enough k ws free lacks x y left rest
  pub leaves : (map_range_w G p a b len k).after ≡ left_by (map_piece G) (pool (with_free p.numbers free) ws p.cut p.list) rest
  pub sum : x + left ≡ a + len
  pub sum_frame : y + left ≡ b + len
  pub near : a + len ≤ physical
  pub near_frame : b + len ≤ physical

-- an accepted range
accepted : (G : Granule) (p : Pool) (a b len k : ℕ) (t : ℕ) → (map_range_w G p a b len k).answer ≡ took t
    → Accepted G p a b len k × ((map_range_w G p a b len k).after ≡ left_by (map_piece G) p (pieces G a b len k))
accepted G p a b len k t e = go (map_range_w G p a b len k) refl (map_range_view G p a b len k) e
  where
    go : (d : Done) → map_range_w G p a b len k ≡ d → MapRangeView G p a b len k d → d.answer ≡ took t
        → Accepted G p a b len k × ((map_range_w G p a b len k).after ≡ left_by (map_piece G) p (pieces G a b len k))
    go d q (range_takes B) e = (B, ap (λ (x : Done). x.after) q)
    go d q (range_refuses j) e = clash (cc)

pub written_first : (G : Granule) (Z : Sane G) (p : Pool) (a b len k t : ℕ) → (map_range_w G p a b len k).answer ≡ took t
    → Written G Z p a b len k p.numbers p.words p.cut a b len
written_first G Z p a b len k t e = of (accepted G p a b len k t e)
  where
    of : Accepted G p a b len k × ((map_range_w G p a b len k).after ≡ left_by (map_piece G) p (pieces G a b len k))
        → Written G Z p a b len k p.numbers p.words p.cut a b len
    of (B, q) = record {
      few = few;
      enough = S.numbers.enough;
      free = p.numbers.free;
      lacks = length (lacked G p ms []);
      rest = ms;
      now_is = refl;
      cut_is = refl;
      going = record {
        ok = start G Z p.numbers few p.cut p.list p.words p.numbers.free ms B.good empties B.one_each B.room B.may;
        tiled = tiled;
        tests = tiles_tests Z tiled p.numbers.levels (area_of p.numbers) F.some_attributes F.in_space F.in_physical F.outside;
      };
      leaves = q;
      sum = refl;
      sum_frame = refl;
      near = omega (arith, F.in_space, space_physical Z p.numbers.levels);
      near_frame = F.in_physical;
    }
      where
        S : GoodSetup G p.numbers p.cut (length p.words) (length p.list)
        S = good_setup_lem B.good

        F : FineRange G p.numbers.levels (area_of p.numbers) a b len k
        F = range_fine G p.numbers.levels (area_of p.numbers) a b len k B.tests

        ms : List Mapping
        ms = pieces G a b len k

        tiled : Tiles G k a b len ms
        tiled = tiles G p.numbers.levels (area_of p.numbers) a b len k F

        few : p.numbers.levels - 1 < 4
        few = omega (arith, S.numbers.not_more, Z.most_four)

        empties : (m : Mapping) → Memᴰ m ms → (walk_for G p m).entry ≡ Empty
        empties m i =
            let j = Memᴰ.map (piece_walk G p) i in
            neither (walk_for G p m).entry (none_ends is_damaged (piece_walks G p ms) B.undamaged (piece_walk G p m) j) (none_ends is_taken (piece_walks G p ms) B.untaken (piece_walk G p m) j)

-- at the end
pub written_ends : {G : Granule} {Z : Sane G} {p : Pool} {a b len k : ℕ} {now : Setup} {ws : List ℕ} {cut x y left : ℕ} → Written G Z p a b len k now ws cut x y left → left ≡ 0
    → pool now ws cut p.list ≡ (map_range_w G p a b len k).after
unfolding left_by
written_ends {G} {Z} {p} {ws = ws} W e =
    (λ i. pool (W.now_is i) ws (W.cut_is i) p.list)
    ∙ sym (W.leaves ∙ ap (left_by (map_piece G) (pool (with_free p.numbers W.free) ws p.cut p.list)) (tiles_none W.going.tiled e))

module _ {G : Granule} {Z : Sane G} {p : Pool} {a b len k : ℕ} {now : Setup} {ws : List ℕ} {cut x y left : ℕ} (W : Written G Z p a b len k now ws cut x y left) (some : left ≢ 0) where
  abbrev height : ℕ
  height = piece_at G x y left G.large

  abbrev many : ℕ
  many = stretch_at G x left height

  abbrev size : ℕ
  size = size_at G height

  pub this_row : Stretched G k x y left height many W.rest
  this_row = stretched G W.going.tiled some

  abbrev others : List Mapping
  others = in_row size k (x + size) (y + size) (many - 1) ++ this_row.row.rest

  rest_is : W.rest ≡ mapping x y size k ∷ others
  unfolding in_row
  rest_is = this_row.row.is ∙ ap (λ (n : ℕ). in_row size k x y n ++ this_row.row.rest) (sym more)
    where
      more : suc (many - 1) ≡ many
      more = omega (arith, this_row.some)

  pub bytes_are : many * size ≡ size + (many - 1) * size
  bytes_are = ap (λ (n : ℕ). n * size) (sym more) ∙ suc-mul (many - 1) size ∙ omega arith
    where
      more : suc (many - 1) ≡ many
      more = omega (arith, this_row.some)

  -- the first piece of the row is mapped
  pub record Firsted (after : Setup) (ws' : List ℕ) (cut' : ℕ) : Type 0 where
    pub free : ℕ
    pub lacks : ℕ
    pub after_is : after ≡ with_free p.numbers free
    pub cut_is : cut' ≡ p.cut
    pub going : Going G Z p.numbers W.few p.cut p.list W.enough k ws' free lacks (x + size) (y + size) (left - size) others
    pub leaves : (map_range_w G p a b len k).after ≡ left_by (map_piece G) (pool (with_free p.numbers free) ws' p.cut p.list) others
    pub next_is : 0 < many - 1 → (walk_to G (pool (with_free p.numbers free) ws' p.cut p.list) height (x + size)).left ≡ height

  pub firsted : {r : Answer} {after : Setup} {ws' : List ℕ} {cut' : ℕ} → done r (pool after ws' cut' p.list) ≡ map_w G (pool now ws cut p.list) x y size k → Firsted after ws' cut'
  unfolding left_by in_row
  firsted {r} {after} {ws'} {cut'} e = of (going_first G Z p.numbers W.few p.cut p.list W.enough k (subst (Going G Z p.numbers W.few p.cut p.list W.enough k ws W.free W.lacks x y left) rest_is W.going))
    where
      m : Mapping
      m = mapping x y size k

      of : Stepped G Z p.numbers W.few p.cut p.list W.enough k ws W.free W.lacks x y left m others → Firsted after ws' cut'
      of S = record {
        free = W.free - S.lack;
        lacks = W.lacks - S.lack;
        after_is = ap (λ (q : Pool). q.numbers) is;
        cut_is = ap (λ (q : Pool). q.cut) is;
        going = subst (λ (w : List ℕ). Going G Z p.numbers W.few p.cut p.list W.enough k w (W.free - S.lack) (W.lacks - S.lack) (x + size) (y + size) (left - size) others) (sym words_are) S.going;
        leaves =
            W.leaves ∙ ap (left_by (map_piece G) (pool (with_free p.numbers W.free) ws p.cut p.list)) rest_is
            ∙ ap (λ (z : Done). left_by (map_piece G) z.after others) S.maps_to
            ∙ ap (λ (w : List ℕ). left_by (map_piece G) (pool (with_free p.numbers (W.free - S.lack)) w p.cut p.list) others) (sym words_are);
        next_is = λ l. subst (λ (w : List ℕ). (walk_to G (pool (with_free p.numbers (W.free - S.lack)) w p.cut p.list) height (x + size)).left ≡ height) (sym words_are) (next l);
      }
        where
          is : pool after ws' cut' p.list ≡ pool (with_free p.numbers (W.free - S.lack)) S.words p.cut p.list
          is = ap (λ (z : Done). z.after) (e ∙ (λ i. map_w G (pool (W.now_is i) ws (W.cut_is i) p.list) x y size k) ∙ S.maps_to)

          words_are : ws' ≡ S.words
          words_are = ap (λ (q : Pool). q.words) is

          height_is : height_of G size ≡ height
          height_is = size_height G Z this_row.low

          one : x + 1 * size ≡ x + size
          one = omega arith

          next : 0 < many - 1 → (walk_to G (pool (with_free p.numbers (W.free - S.lack)) S.words p.cut p.list) height (x + size)).left ≡ height
          next l =
              ap (λ (t : ℕ). (walk_to G (pool (with_free p.numbers (W.free - S.lack)) S.words p.cut p.list) t (x + size)).left) (sym height_is)
              ∙ S.beside (mapping (x + size) (y + size) size k) (in_others (many - 1) l) refl
              (ap (λ (t : ℕ). x / size_at G (suc t)) height_is
              ∙ row_region G x height 1 (omega (arith, this_row.room)) ∙ ap (λ (t : ℕ). t / size_at G (suc height)) one
              ∙ ap (λ (t : ℕ). (x + size) / size_at G (suc t)) (sym height_is))
              ∙ height_is
            where
              in_others : (n : ℕ) → 0 < n → Memᴰ (mapping (x + size) (y + size) size k) (in_row size k (x + size) (y + size) n ++ this_row.row.rest)
              in_others zero l = absurd (omega arith)
              in_others (suc n) l = here refl

  module _ {after : Setup} {ws' : List ℕ} {cut' : ℕ} (R : Firsted after ws' cut') where
    abbrev then : Pool
    then = pool (with_free p.numbers R.free) ws' p.cut p.list

    pub room_left : 0 < many - 1 → index_at G (x + size) height + (many - 1) ≤ entries G
    room_left l = omega (arith, this_row.room, ap (λ (t : ℕ). index_at G t height) (sym one) ∙ row_index G x height 1 (omega (arith, this_row.room)))
      where
        one : x + 1 * size ≡ x + size
        one = omega arith

    pub empty_next : 0 < many - 1 → (walk_to G then height (x + size)).entry ≡ Empty
    unfolding in_row
    empty_next l =
        ap (λ (t : ℕ). (walk_to G then t (x + size)).entry) (sym (size_height G Z this_row.low))
        ∙ R.going.ok.empties (mapping (x + size) (y + size) size k) (in_others (many - 1) l)
      where
        in_others : (n : ℕ) → 0 < n → Memᴰ (mapping (x + size) (y + size) size k) (in_row size k (x + size) (y + size) n ++ this_row.row.rest)
        in_others zero l = absurd (omega arith)
        in_others (suc n) l = here refl

    goes_on : {ws'' : List ℕ} {bytes : ℕ} → bytes ≡ many * size → (f N : ℕ)
        → Going G Z p.numbers W.few p.cut p.list W.enough k ws'' f N (x + size + (many - 1) * size) (y + size + (many - 1) * size) (left - size - (many - 1) * size) this_row.row.rest
        → (map_range_w G p a b len k).after ≡ left_by (map_piece G) (pool (with_free p.numbers f) ws'' p.cut p.list) this_row.row.rest
        → after ≡ with_free p.numbers f → Written G Z p a b len k after ws'' cut' (x + bytes) (y + bytes) (left - bytes)
    goes_on {ws''} {bytes} e f N I l q = record {
      few = W.few;
      enough = W.enough;
      free = f;
      lacks = N;
      rest = this_row.row.rest;
      now_is = q;
      cut_is = R.cut_is;
      going = going_like G Z p.numbers W.few p.cut p.list W.enough k height this_row.low I refl refl (omega (arith, bytes_are)) (omega (arith, bytes_are)) (omega (arith, bytes_are));
      leaves = l;
      sum = omega (arith, W.sum, this_row.fits);
      sum_frame = omega (arith, W.sum_frame, this_row.fits);
      near = W.near;
      near_frame = W.near_frame;
    }

    -- it was the only one
    pub written_one : {bytes : ℕ} → bytes ≡ many * size → many ≡ 1 → Written G Z p a b len k after ws' cut' (x + bytes) (y + bytes) (left - bytes)
    unfolding in_row
    written_one e o =
        goes_on e R.free R.lacks
        (subst (λ (n : ℕ). Going G Z p.numbers W.few p.cut p.list W.enough k ws' R.free R.lacks (x + size + n * size) (y + size + n * size) (left - size - n * size) this_row.row.rest) (sym none)
        (going_like G Z p.numbers W.few p.cut p.list W.enough k height this_row.low (subst (Going G Z p.numbers W.few p.cut p.list W.enough k ws' R.free R.lacks (x + size) (y + size) (left - size)) nothing R.going) refl refl (omega arith) (omega arith) (omega arith)))
        (R.leaves ∙ ap (left_by (map_piece G) then) nothing)
        R.after_is
      where
        none : many - 1 ≡ 0
        none = omega arith

        nothing : others ≡ this_row.row.rest
        nothing = ap (λ (n : ℕ). in_row size k (x + size) (y + size) n ++ this_row.row.rest) none

    -- the others are written
    pub written_row : {ws'' : List ℕ} {bytes : ℕ} → bytes ≡ many * size → 0 < many - 1
        → ws'' ≡ filled ws' (slot G (at_height (walk_to G then height (x + size)).tables height) (index_at G (x + size) height)) (frame_word (y + size) height k) size (many - 1)
        → Written G Z p a b len k after ws'' cut' (x + bytes) (y + bytes) (left - bytes)
    written_row {ws''} {bytes} e l q = of (going_row G Z p.numbers W.few p.cut p.list W.enough k height this_row.low (many - 1) R.going (room_left l) R.next_is)
      where
        of : Rowed G Z p.numbers W.few p.cut p.list W.enough k height this_row.low ws' R.free R.lacks (x + size) (y + size) (left - size) (many - 1) this_row.row.rest
            → Written G Z p a b len k after ws'' cut' (x + bytes) (y + bytes) (left - bytes)
        of D =
            goes_on e R.free R.lacks
            (subst (λ (w : List ℕ). Going G Z p.numbers W.few p.cut p.list W.enough k w R.free R.lacks (x + size + (many - 1) * size) (y + size + (many - 1) * size) (left - size - (many - 1) * size) this_row.row.rest) (sym q) D.going)
            (R.leaves ∙ D.leaves ∙ ap (λ (w : List ℕ). left_by (map_piece G) (pool (with_free p.numbers R.free) w p.cut p.list) this_row.row.rest) (sym q))
            R.after_is

-- ---- a turn of the loop, in the code's numbers

module _ {G : Granule} {Z : Sane G} {p : Pool} {a b len k : ℕ} {now : Setup} {ws : List ℕ} {cut x y left : ℕ} (W : Written G Z p a b len k now ws cut x y left) (some : left ≢ 0)
    (own : granule_of p.numbers.granule ≡ G) {tall wide bytes : ℕ} (u : tall ≡ piece_at G x y left G.large) (v : wide ≡ at_level G tall (stretch_at G x left tall))
    (e : bytes ≡ at_level G tall (size_at G tall)) where
  wide_many : wide ≡ many W some
  wide_many = wide_is Z (this_row W some) u v ∙ ap (stretch_at G x left) u

  size_is : bytes ≡ size W some
  size_is = e ∙ tall_level Z (this_row W some) u v (size_at G tall) ∙ ap (size_at G) u

  pub row_bytes : wide * bytes ≡ many W some * size W some
  row_bytes = λ i. wide_many i * size_is i

  -- the row is some of what is left, and ends where its addresses can
  pub row_fits : (wide * bytes ≤ left) × ((0 < wide) × ((0 < wide * bytes) × ((bytes ≤ left) × ((x + left ≤ physical) × (y + left ≤ physical)))))
  row_fits =
      let S = this_row W some in (
        omega (arith, row_bytes, S.fits),
        (
          omega (arith, wide_many, S.some),
          (
            omega (arith, row_bytes, bytes_are W some, size_pos G (height W some)),
            (omega (arith, size_is, bytes_are W some, S.fits), (omega (arith, W.sum, W.near), omega (arith, W.sum_frame, W.near_frame))),
          ),
        ),
      )

  pub row_firsted : {r : Answer} {after : Setup} {ws' : List ℕ} {cut' : ℕ} → done r (pool after ws' cut' p.list) ≡ map_w (granule_of now.granule) (pool now ws cut p.list) x y bytes k
      → Firsted W some after ws' cut'
  row_firsted q = firsted W some (q ∙ (λ i. map_w (same i) (pool now ws cut p.list) x y (size_is i) k))
    where
      same : granule_of now.granule ≡ G
      same = ap (λ (t : Setup). granule_of t.granule) W.now_is ∙ own

  module _ {after : Setup} {ws' : List ℕ} {cut' : ℕ} (R : Firsted W some after ws' cut') where
    same : granule_of after.granule ≡ G
    same = ap (λ (t : Setup). granule_of t.granule) R.after_is ∙ own

    -- one piece was all
    pub row_one : {ws'' : List ℕ} → ws'' ≡ ws' → wide ≤ 1 → Written G Z p a b len k after ws'' cut' (x + wide * bytes) (y + wide * bytes) (left - wide * bytes)
    row_one q l =
        subst (λ (w : List ℕ). Written G Z p a b len k after w cut' (x + wide * bytes) (y + wide * bytes) (left - wide * bytes)) (sym q)
        (written_one W some R row_bytes (omega (arith, wide_many, (this_row W some).some)))

    module _ (l : 1 < wide) where
      more : 0 < many W some - 1
      more = omega (arith, wide_many)

      -- what the others ask
      abbrev Asks : Granule → Setup → ℕ → ℕ → ℕ → ℕ → Type 0
      Asks H sp c t n z =
          ((places : ℕ) × (good_setup H sp c (length ws') places ≡ true))
          × ((t ≤ H.large)
          × ((y + z + n * size_at H t ≤ physical)
          × ((index_at H (x + z) t + n ≤ entries H)
          × (((walk_to H (pool sp ws' c []) t (x + z)).entry ≡ Empty) × ((walk_to H (pool sp ws' c []) t (x + z)).left ≡ t)))))

      pub row_asks : Asks (granule_of after.granule) after cut' tall (wide - 1) bytes
      row_asks = coe 1 0 (i. Asks (same i) (R.after_is i) (R.cut_is i) (u i) (wide_many i - 1) (size_is i)) (
        (length p.list, R.going.ok.good),
        (
          (this_row W some).low,
          (
            omega (arith, bytes_are W some, (this_row W some).fits, W.sum_frame, W.near_frame),
            (room_left W some R more, (empty_next W some R more, R.next_is more)),
          ),
        ),
      )

      pub row_rest : {ws'' : List ℕ}
          → ws''
          ≡ filled ws' (slot (granule_of after.granule) (at_height (walk_to (granule_of after.granule) (pool after ws' cut' []) tall (x + bytes)).tables tall) (index_at (granule_of after.granule) (x + bytes) tall)) (frame_word (y + bytes) tall k) (size_at (granule_of after.granule) tall) (wide - 1)
          → Written G Z p a b len k after ws'' cut' (x + wide * bytes) (y + wide * bytes) (left - wide * bytes)
      row_rest q =
          written_row W some R row_bytes more
          (q
          ∙ (λ i. filled ws' (slot (same i) (at_height (walk_to (same i) (pool (R.after_is i) ws' (R.cut_is i) []) (u i) (x + size_is i)).tables (u i)) (index_at (same i) (x + size_is i) (u i))) (frame_word (y + size_is i) (u i) k) (size_at (same i) (u i)) (wide_many i - 1)))
