-- A range unmapped on any pool, damaged ones too: page by page each unmap removes a mapping, or finds a hole, or would give back more tables than the free list
-- has room for. Holes, and the further pages of a mapping that was removed, are passed over; so a range may be unmapped mapping by mapping. What is kept
-- from page to page is `Ok`: the walks of the pages that are left find no damage, a table on their ways stands for one region, and no mapping that
-- they find starts before them.
use Prim.Native.Nat.{ℕ, zero, suc, ◌+◌, ◌-◌, ◌*◌, ◌/◌, ◌%◌, ◌≤◌, ◌<◌}
use Rattle.std.specs.Prelude.{◌≡◌, ◌≢◌, ◌⊎◌, Bool, true, cond, ◌||◌, not, ltb, eqb, length, get_or}
use Rattle.std.proofs.Math.Path.{refl, ap, sym, subst}
use Rattle.std.proofs.Common.{◌∙◌, inl, inr, ⊎_elim, true≢false, suc-add, suc-mul, add-zero, add-suc, div-add-mod', arith, length-set, get_or-set_same, ltb-true, eqb-true, eq-eqb}
use Rattle.std.proofs.Math.Bool.{false}
use Rattle.std.proofs.lemmas.Bool.{false≢true, lt-leb, not-false}
use mathlib.Core.List.Memᴰ
use mathlib.Core.List.Memᴰ.{head as here}
use mathlib.Core.List.Memᴰ.{tail as there}
use mathlib.Core.List.{List, [], ◌∷◌, Memᴰ}
use Rattle.std.proofs.Math.Decide.{ℕ_discrete, dec_lt}
use Rattle.std.proofs.Math.ListN.{set}
use Rattle.laws.specs.ListLaws.{get_d_past}
use Rattle.path.specs.Geometry.{Granule, page_size, entries, size_at, space_of, Sane}
use Rattle.path.specs.Areas.{area_of, total}
use Rattle.path.specs.Laws.{good_setup_lem, page_pos, size_zero, size_injective}
use Rattle.path.specs.Paths.{base_at, path_of}
use Rattle.path.specs.PathLaws.{path_of_at, index_below}
use Rattle.path.specs.RegionLaws.{multiple_gap, region_above, base_region, base_aligned, base_le, aligned_base, aligned_down}
use Rattle.entry.specs.Words.{entry_at}
use Rattle.entry.proofs.Laws.{entry_zero}
use Rattle.entry.specs.declared.Entry.{Entry}
use Rattle.entry.specs.declared.Entry.TheVariants.{Empty, Table, Frame, Damaged}
use Rattle.model.specs.declared.Walked.{Walked}
use Rattle.model.specs.Answers.{Answer, gave, cleared, hole, Pool, Done, done, refuse}
use Rattle.model.specs.Walk.{slot, at_height, no_way}
use Rattle.model.specs.Writes.{memory, perform_all, only_entry, freed, prune_writes, unmap_writes}
use Rattle.model.specs.Calls.{good_pool, walk_to, written, unmap_tests, unmap_here, unmap_at, unmap_w}
use Rattle.model.specs.Sound.{word_at}
use Rattle.model.proofs.DescentLaws.{clash}
use Rattle.model.proofs.LeftLaws.{unmap_leaves, leaves_good}
use Rattle.model.proofs.WordLaws.{word_other}
use Rattle.model.specs.Ranges.{unmap_range_tests, pages_from, pages_of, Probe, page_walk, page_walks, any_ends, is_damaged, on_ways, one_region_each, spoiled, cut_at, any_cut_by, answers_of, left_by, refuses_with, any_refused, unmap_range_here, unmap_range_at, unmap_range_w}
use Rattle.model.proofs.RefusalLaws.{given, no_table_last}
use Rattle.model.proofs.RangeLaws.{unmap_fine, page_next, pages_from_lem, inside_is, or-false}
use Rattle.model.specs.RangeLaws.{FineUnmap}
use Rattle.model.proofs.RangeWalks.{left_low, stopped_walk, stopped_apart, stopped_moved, Shorter, stopped_cut, walk_stopped, walk_region, index_region}
use Rattle.model.specs.RangeWalks.{Stopped}
use Rattle.model.proofs.RangeMapped.{chosen, each_so, ways_has, none_ends}
use Rattle.model.specs.RangeMapped.{standing_at}
use Rattle.model.specs.RangeUnmapped.{Cleared, Ok, PageByPage, UnmapRangeView, clearing, passed_hole, range_clears, range_stays, removed_one}

-- the tables that an unmap at x gives back
abbrev pub given_at : Granule → Pool → ℕ → ℕ
given_at G p x = given G p x (walk_to G p 0 x)

-- the walk for x found a frame whose mapping starts there, and giving back would make the free count exceed the table count less 1
pub record Full (G : Granule) (p : Pool) (x : ℕ) : Type 0 where
  pub frame : (b : ℕ) × (k : ℕ) × ((walk_to G p 0 x).entry ≡ Frame b k)
  pub starts : x % size_at G (walk_to G p 0 x).left ≡ 0
  pub over : total (area_of p.numbers) - 1 < p.numbers.free + given_at G p x

-- the pool that an unmap at x leaves
abbrev pub removed_at : Granule → Pool → ℕ → Pool
removed_at G p x =
    let o = walk_to G p 0 x in
    written G p (unmap_writes G o.tables (path_of G x) o.left p.numbers.free (given_at G p x)) (p.numbers.free + given_at G p x)

-- what an unmap comes to where its walk finds neither damage nor a mapping that starts elsewhere
pub data Goes (G : Granule) (p : Pool) (x : ℕ) : Done → Type 0 where
  gives : (b k : ℕ) → (walk_to G p 0 x).entry ≡ Frame b k → x % size_at G (walk_to G p 0 x).left ≡ 0
      → Goes G p x (done (gave b (size_at G (walk_to G p 0 x).left) k (given_at G p x)) (removed_at G p x))
  passes : (walk_to G p 0 x).entry ≡ Empty → Goes G p x (done (hole (base_at G x (walk_to G p 0 x).left) (size_at G (walk_to G p 0 x).left)) p)
  fills : Full G p x → Goes G p x (refuse 8 p)

-- what the first page comes to, and what is left then
pub data Next (G : Granule) (p : Pool) (a k : ℕ) : Done → Type 0 where
  removes : (b s c t : ℕ) (q : Pool) → Ok G q (a + page_size G) k → Next G p a k (done (gave b s c t) q)
  holes : (b s : ℕ) → Ok G p (a + page_size G) k → Next G p a k (done (hole b s) p)
  full : Full G p a → Next G p a k (refuse 8 p)

pub unmap_range_view : (G : Granule) (p : Pool) (a len : ℕ) → UnmapRangeView G p a len (unmap_range_w G p a len)
unfolding unmap_range_w unmap_range_at unmap_range_here
unmap_range_view G p a len =
    chosen Seen (good_pool G p) _ (refuse 1 p) (λ q₁.
    chosen Seen (eqb no 0) _ (refuse no p) (λ q₂.
    chosen Seen (spoiled G p.numbers.levels ws) (refuse 8 p) _ (λ _. range_stays 8) (λ q₃.
    chosen Seen (any_cut_by G a len ws) (refuse 10 p) _ (λ _. range_stays 10) (λ q₄.
    chosen Seen (any_refused 8 l) (refuse 8 p) (clearing G p xs) (λ _. range_stays 8) (λ q₅.
    let (u, w) = or-false (any_ends is_damaged ws) (not (one_region_each (on_ways G p.numbers.levels ws))) q₃ in
    range_clears (record {
      good = q₁;
      tests = eqb-true no 0 q₂;
      undamaged = u;
      one_each = not-false (one_region_each (on_ways G p.numbers.levels ws)) w;
      uncut = q₄;
      room = q₅;
    })))))
    (λ _. range_stays no))
    (λ _. range_stays 1)
  where
    xs : List ℕ
    xs = pages_of G a len

    ws : List Probe
    ws = page_walks G p xs

    l : List Answer
    l = answers_of (unmap_w G) p xs

    no : ℕ
    no = unmap_range_tests G p.numbers.levels a len

    Seen : Done → Type 0
    Seen d = UnmapRangeView G p a len d

pub few_levels : (G : Granule) → Sane G → (p : Pool) → good_pool G p ≡ true → p.numbers.levels ≤ 4
few_levels G Z p good = omega (arith, (good_setup_lem good).numbers.not_more, Z.most_four)

-- an address that passes unmap's tests
pub unmap_tests_lem : (G : Granule) (levels x : ℕ) → x < space_of G levels → x % page_size G ≡ 0 → unmap_tests G levels x ≡ 0
unfolding unmap_tests
unmap_tests_lem G levels x l e = rw (lt-leb (space_of G levels) x l, eq-eqb _ _ e) refl

pub goes : (G : Granule) → Sane G → (p : Pool) (x : ℕ) → good_pool G p ≡ true → x < space_of G p.numbers.levels → x % page_size G ≡ 0
    → (walk_to G p 0 x).entry ≢ Damaged → ((b k : ℕ) → (walk_to G p 0 x).entry ≡ Frame b k → x % size_at G (walk_to G p 0 x).left ≡ 0) → Goes G p x (unmap_w G p x)
unfolding unmap_w unmap_at unmap_here
goes G Z p x good l e d s = rw (good, eq-eqb _ _ (unmap_tests_lem G p.numbers.levels x l e)) (at o.entry refl)
  where
    o : Walked
    o = walk_to G p 0 x

    limit : (b k : ℕ) → o.entry ≡ Frame b k → (y : Bool) → ltb (total (area_of p.numbers) - 1) (p.numbers.free + given_at G p x) ≡ y
        → Goes G p x (cond y (refuse 8 p) (done (gave b (size_at G o.left) k (given_at G p x)) (removed_at G p x)))
    limit b k q true r = fills (record { frame = (b, k, q); starts = s b k q; over = ltb-true _ _ r })
    limit b k q false r = gives b k q (s b k q)

    at : (w : Entry) → o.entry ≡ w → Goes G p x (unmap_at G p x o w)
    at Empty q = passes q
    at (Table c) q = absurd (no_table_last G p x c q)
    at Damaged q = absurd (d q)
    at (Frame b k) q = rw (eq-eqb _ _ (s b k q)) (limit b k q (ltb (total (area_of p.numbers) - 1) (p.numbers.free + given_at G p x)) refl)

-- ---- the words after it

freed_few : (G : Granule) (ws way path : List ℕ) (d h : ℕ) → freed G ws way path h d ≤ d
unfolding freed
freed_few G ws way path zero h = omega arith
freed_few G ws way path (suc d) h = go (only_entry G ws (at_height way h) (at_height path h)) (freed_few G ws way path d (suc h))
  where
    go : (y : Bool) → freed G ws way path (suc h) d ≤ d → cond y (suc (freed G ws way path (suc h) d)) 0 ≤ suc d
    go true l = omega arith
    go false l = omega arith

set_zero : (ws : List ℕ) (i : ℕ) → get_or (set ws i 0) i 0 ≡ 0
set_zero ws i = go (dec_lt i (length ws))
  where
    go : Dec (i < length ws) → get_or (set ws i 0) i 0 ≡ 0
    go (yes l) = get_or-set_same ws i 0 0 l
    go (no l) = get_d_past (set ws i 0) i (omega (arith, length-set ws i 0))

pub index_low : (G : Granule) (x j : ℕ) → j < 4 → at_height (path_of G x) j < entries G
index_low G x j l = subst (λ (y : ℕ). y < entries G) (sym (path_of_at G x {h = j} l)) (index_below G x j)

module _ (G : Granule) (way : List ℕ) (x : ℕ) where
  abbrev at : ℕ → ℕ
  at j = at_height way j

  abbrev idx : ℕ → ℕ
  idx j = at_height (path_of G x) j

  -- a word that is none of those cleared stays
  prune_kept : (d h f : ℕ) (ws q : List ℕ) (t i : ℕ) → i < entries G → h + d < 4 → ((j : ℕ) → h < j → j ≤ h + d → (t ≡ at j) × (i ≡ idx j) → ⊥)
      → word_at G (perform_all G (prune_writes G way (path_of G x) h f d) (memory ws q)).words t i ≡ word_at G ws t i
  unfolding perform_all prune_writes
  prune_kept zero h f ws q t i l m n = refl
  prune_kept (suc d) h f ws q t i l m n =
      prune_kept d (suc h) (suc f) (set ws (slot G (at (suc h)) (idx (suc h))) 0) (set q f (at h)) t i l (omega arith) (λ j a b. n j (omega arith) (omega arith))
      ∙ word_other G ws (at (suc h)) (idx (suc h)) 0 t i (index_low G x (suc h) (omega arith)) l (n (suc h) (omega arith) (omega arith))

  -- the last one cleared is 0
  prune_last : (d h f : ℕ) (ws q : List ℕ) → word_at G ws (at h) (idx h) ≡ 0
      → word_at G (perform_all G (prune_writes G way (path_of G x) h f d) (memory ws q)).words (at (h + d)) (idx (h + d)) ≡ 0
  unfolding perform_all prune_writes
  prune_last zero h f ws q e = ap (λ (j : ℕ). word_at G ws (at j) (idx j)) (add-zero h) ∙ e
  prune_last (suc d) h f ws q e =
      ap (λ (j : ℕ). word_at G (perform_all G (prune_writes G way (path_of G x) (suc h) (suc f) d) (memory (set ws (slot G (at (suc h)) (idx (suc h))) 0) (set q f (at h)))).words (at j) (idx j))
      (add-suc h d ∙ sym (suc-add h d))
      ∙ prune_last d (suc h) (suc f) (set ws (slot G (at (suc h)) (idx (suc h))) 0) (set q f (at h)) (set_zero ws (slot G (at (suc h)) (idx (suc h))))

-- ---- where a mapping was removed

module _ (G : Granule) (Z : Sane G) (p : Pool) (good : good_pool G p ≡ true) (x b k : ℕ) (framed : (walk_to G p 0 x).entry ≡ Frame b k) where
  abbrev o : Walked
  o = walk_to G p 0 x

  abbrev k₀ : ℕ
  k₀ = p.numbers.levels - 1

  abbrev d : ℕ
  d = given_at G p x

  -- the height of the last entry that is cleared
  abbrev e : ℕ
  e = o.left + d

  abbrev q : Pool
  q = removed_at G p x

  few : p.numbers.levels ≤ 4
  few = few_levels G Z p good

  top : k₀ < 4
  top = omega (arith, few, (good_setup_lem good).numbers.enough, Z.large_below)

  E : Stopped G (area_of p.numbers) p.words 0 (path_of G x) k₀ no_way 0 o
  E = walk_stopped G p few 0 x (λ z. clash (cc))

  pub high : e ≤ k₀
  high =
      omega (arith, freed_few G p.words o.tables (path_of G x) (k₀ - o.left) o.left, left_low G (area_of p.numbers) p.words 0 (path_of G x) k₀ no_way 0)

  apart : (i j : ℕ) → o.left ≤ i → i < j → j ≤ k₀ → at_height o.tables i ≢ at_height o.tables j
  apart i j a c l = stopped_apart E top refl i j a c l

  -- a word that is none of those cleared stays
  pub word_stays : (t i : ℕ) → i < entries G → ((j : ℕ) → o.left ≤ j → j ≤ e → (t ≡ at_height o.tables j) × (i ≡ at_height (path_of G x) j) → ⊥)
      → word_at G q.words t i ≡ word_at G p.words t i
  unfolding perform_all
  word_stays t i l n =
      prune_kept G o.tables x d o.left p.numbers.free first p.list t i l (omega (arith, high, top)) (λ j a c. n j (omega arith) c)
      ∙ word_other G p.words (at_height o.tables o.left) (at_height (path_of G x) o.left) 0 t i (index_low G x o.left (omega (arith, high, top))) l (n o.left (omega arith) (omega arith))
    where
      first : List ℕ
      first = set p.words (slot G (at_height o.tables o.left) (at_height (path_of G x) o.left)) 0

  last_zero : word_at G q.words (at_height o.tables e) (at_height (path_of G x) e) ≡ 0
  unfolding perform_all
  last_zero =
      prune_last G o.tables x d o.left p.numbers.free (set p.words (slot G (at_height o.tables o.left) (at_height (path_of G x) o.left)) 0) p.list
      (set_zero p.words (slot G (at_height o.tables o.left) (at_height (path_of G x) o.left)))

  -- the page is a hole, whose region is that of the last entry cleared
  pub hole_there : ((walk_to G q 0 x).entry ≡ Empty) × ((walk_to G q 0 x).left ≡ e) × ((j : ℕ) → e ≤ j → j ≤ k₀ → at_height (walk_to G q 0 x).tables j ≡ at_height o.tables j)
  hole_there = (
    ap (λ (w : Walked). w.entry) walked ∙ C.empty,
    ap (λ (w : Walked). w.left) walked ∙ C.left_is,
    λ j a l. ap (λ (w : Walked). at_height w.tables j) walked ∙ C.same j a l,
  )
    where
      C : Shorter E top refl q.words e
      C = stopped_cut E top refl q.words e (omega arith) (omega arith) high
          (λ j a l. ap (entry_at G (area_of p.numbers) j) (word_stays (at_height o.tables j) (at_height (path_of G x) j) (index_low G x j (omega (arith, top)))
          (λ i u v z. apart i j u (omega arith) l (sym z.0))))
          (ap (entry_at G (area_of p.numbers) e) last_zero ∙ entry_zero G (area_of p.numbers) e)

      walked : walk_to G q 0 x ≡ C.end
      walked = stopped_walk G (area_of p.numbers) q.words 0 (path_of G x) C.stops_there

  -- and so is every page of that region, the mapping's own among them
  pub hole_region : (y : ℕ) → x / size_at G e ≡ y / size_at G e → walk_to G q 0 y ≡ walk_to G q 0 x
  hole_region y z =
      walk_region G q few 0 x y (omega arith) (λ w. clash (cc hole_there.0))
      (subst (λ (h : ℕ). x / size_at G h ≡ y / size_at G h) (sym hole_there.1) z)

  -- ---- another page

  module _ (y : ℕ) (sound : (walk_to G p 0 y).entry ≢ Damaged)
      (one : (i j : ℕ) → (walk_to G p 0 y).left ≤ i → i ≤ k₀ → o.left ≤ j → j ≤ k₀ → at_height (walk_to G p 0 y).tables i ≡ at_height o.tables j
      → (i ≡ j) × (y / size_at G (suc i) ≡ x / size_at G (suc i))) (away : x / size_at G e ≢ y / size_at G e) where
    -- one outside that region is walked as before
    pub walk_kept : walk_to G q 0 y ≡ walk_to G p 0 y
    walk_kept =
        let W = walk_stopped G p few 0 y sound in
        stopped_walk G (area_of p.numbers) q.words 0 (path_of G y)
        (stopped_moved W top refl q.words 0 (path_of G y) (omega arith) W.last
        (λ i a l. ap (entry_at G (area_of p.numbers) i) (word_stays (at_height (walk_to G p 0 y).tables i) (at_height (path_of G y) i) (index_low G y i (omega (arith, top)))
        (λ j u v z. clear i j a l u v z))))
      where
        clear : (i j : ℕ) → (walk_to G p 0 y).left ≤ i → i ≤ k₀ → o.left ≤ j → j ≤ e
            → (at_height (walk_to G p 0 y).tables i ≡ at_height o.tables j) × (at_height (path_of G y) i ≡ at_height (path_of G x) j) → ⊥
        clear i j a l u v (s, t) =
            let (w, r) = one i j a l u (omega (arith, high)) s in
            let c : y / size_at G i ≡ x / size_at G i = index_region G y x i (omega (arith, top)) r (t ∙ ap (at_height (path_of G x)) (sym w)) in
            away (sym (region_above G {j = i} {h = e} (omega arith) y x c))

module _ (G : Granule) (Z : Sane G) (p : Pool) (a k : ℕ) (O : Ok G p a (suc k)) where
  abbrev W : ℕ
  W = page_size G

  abbrev xs : List ℕ
  xs = pages_from G a (suc k)

  abbrev rest : List ℕ
  rest = pages_from G (a + W) k

  more : suc k * W ≡ W + k * W
  more = suc-mul k W ∙ omega arith

  first : Memᴰ a xs
  unfolding pages_from
  first = here refl

  later : (x : ℕ) → Memᴰ x rest → Memᴰ x xs
  unfolding pages_from
  later x i = there i

  after_first : (x : ℕ) → Memᴰ x rest → a + W ≤ x
  after_first x i = (pages_from_lem G k (a + W) x (page_next G a O.aligned) i).0

  levels_some : p.numbers.levels ≡ suc (p.numbers.levels - 1)
  levels_some = omega (arith, (good_setup_lem O.good).numbers.enough, Z.large_below)

  -- a mapping that is found at the first page starts there
  first_starts : (b c : ℕ) → (walk_to G p 0 a).entry ≡ Frame b c → a % size_at G (walk_to G p 0 a).left ≡ 0
  first_starts b c e =
      let h = (walk_to G p 0 a).left in
      let z : base_at G a h ≡ a = omega (arith, base_le G a h, O.starts a first b c e) in
      subst (λ (y : ℕ). y % size_at G h ≡ 0) z (base_aligned G a h)

  -- one that is found further on, in another region than the first page's, starts past it
  past_first : (y : ℕ) → Memᴰ y rest → (b c : ℕ) → (walk_to G p 0 y).entry ≡ Frame b c
      → (y / size_at G (walk_to G p 0 y).left ≢ a / size_at G (walk_to G p 0 y).left) → a + W ≤ base_at G y (walk_to G p 0 y).left
  past_first y i b c e n =
      let h = (walk_to G p 0 y).left in
      multiple_gap W O.aligned (subst (λ (s : ℕ). base_at G y h % s ≡ 0) (size_zero G) (aligned_down G {j = 0} {h = h} (omega arith) (base_at G y h) (base_aligned G y h)))
      (go (ℕ_discrete a (base_at G y h)) (O.starts y (later y i) b c e))
    where
      go : Dec (a ≡ base_at G y (walk_to G p 0 y).left) → a ≤ base_at G y (walk_to G p 0 y).left → a < base_at G y (walk_to G p 0 y).left
      go (yes z) l =
          let h = (walk_to G p 0 y).left in
          absurd (n (base_region G y a h (sym z ∙ sym (aligned_base G a h (subst (λ (w : ℕ). w % size_at G h ≡ 0) (sym z) (base_aligned G y h))))))
      go (no z) l = omega arith

  -- a page that shares its region with the first is walked like it
  same_walk : (y : ℕ) → Memᴰ y rest → y / size_at G (walk_to G p 0 y).left ≡ a / size_at G (walk_to G p 0 y).left → walk_to G p 0 a ≡ walk_to G p 0 y
  same_walk y i z = walk_region G p (few_levels G Z p O.good) 0 y a (omega arith) (O.undamaged y (later y i)) z

  -- where the first page is a hole
  pub pass_ok : (walk_to G p 0 a).entry ≡ Empty → Ok G p (a + W) k
  pass_ok e = record {
    good = O.good;
    aligned = page_next G a O.aligned;
    in_space = omega (arith, more, O.in_space);
    undamaged = λ x i. O.undamaged x (later x i);
    one = λ x y i j. O.one x y (later x i) (later y j);
    starts = λ y i b c q. past_first y i b c q (λ z. empty_frame b c (sym e ∙ ap (λ (w : Walked). w.entry) (same_walk y i z) ∙ q));
  }
    where
      empty_frame : (b c : ℕ) → Empty ≡ Frame b c → ⊥
      empty_frame b c z = clash (cc)

  -- where the mapping that starts there is removed
  module _ (b c : ℕ) (framed : (walk_to G p 0 a).entry ≡ Frame b c) (good' : good_pool G (removed_at G p a) ≡ true) where
    abbrev pub q₁ : Pool
    q₁ = removed_at G p a

    abbrev pub e₁ : ℕ
    e₁ = (walk_to G p 0 a).left + given_at G p a

    -- a page further on is now a hole like the first, or is walked as before
    abbrev pub Gone : ℕ → Type 0
    Gone y = (walk_to G q₁ 0 y ≡ walk_to G q₁ 0 a) × (a / size_at G e₁ ≡ y / size_at G e₁)

    abbrev pub Stays : ℕ → Type 0
    Stays y = (walk_to G q₁ 0 y ≡ walk_to G p 0 y) × (a / size_at G e₁ ≢ y / size_at G e₁)

    pub moved : (y : ℕ) → Memᴰ y rest → Gone y ⊎ Stays y
    moved y i = go (ℕ_discrete (a / size_at G e₁) (y / size_at G e₁))
      where
        go : Dec (a / size_at G e₁ ≡ y / size_at G e₁) → Gone y ⊎ Stays y
        go (yes z) = inl (hole_region G Z p O.good a b c framed y z, z)
        go (no z) = inr (
          walk_kept G Z p O.good a b c framed y (O.undamaged y (later y i))
              (λ i₁ j u v w t s. O.one y a (later y i) first i₁ j u (omega (arith, levels_some)) w (omega (arith, levels_some)) s) z,
          z,
        )

    there_hole : ((walk_to G q₁ 0 a).entry ≡ Empty) × ((walk_to G q₁ 0 a).left ≡ e₁) × ((j : ℕ) → e₁ ≤ j → j ≤ p.numbers.levels - 1 → at_height (walk_to G q₁ 0 a).tables j ≡ at_height (walk_to G p 0 a).tables j)
    there_hole = hole_there G Z p O.good a b c framed

    -- the table at height i of a page's way, as the way of some page had it before
    record Was (y i : ℕ) : Type 0 where
      page : ℕ
      page_in : Memᴰ page xs
      left_low : (walk_to G p 0 page).left ≤ i
      table_is : at_height (walk_to G q₁ 0 y).tables i ≡ at_height (walk_to G p 0 page).tables i
      region_is : y / size_at G (suc i) ≡ page / size_at G (suc i)

    was : (y : ℕ) → Memᴰ y rest → (i : ℕ) → (walk_to G q₁ 0 y).left ≤ i → i < p.numbers.levels → Was y i
    was y j i l m = ⊎_elim gone stays (moved y j)
      where
        stays : Stays y → Was y i
        stays (z, n) = record {
          page = y;
          page_in = later y j;
          left_low = subst (λ (w : Walked). w.left ≤ i) z l;
          table_is = ap (λ (w : Walked). at_height w.tables i) z;
          region_is = refl;
        }

        gone : Gone y → Was y i
        gone (z, n) =
            let low : e₁ ≤ i = subst (λ (w : ℕ). w ≤ i) (ap (λ (w : Walked). w.left) z ∙ there_hole.1) l in
            record {
              page = a;
              page_in = first;
              left_low = omega arith;
              table_is = ap (λ (w : Walked). at_height w.tables i) z ∙ there_hole.2 i low (omega (arith, levels_some));
              region_is = sym (region_above G {j = e₁} {h = suc i} (omega arith) a y n);
            }

    pub remove_ok : Ok G q₁ (a + W) k
    remove_ok = record {
      good = good';
      aligned = page_next G a O.aligned;
      in_space = omega (arith, more, O.in_space);
      undamaged = λ y i. ⊎_elim (λ z d. clash (cc (there_hole.0, z.0))) (λ z d. O.undamaged y (later y i) (sym (ap (λ (w : Walked). w.entry) z.0) ∙ d)) (moved y i);
      one = λ x y i j s t l m l' m' z. both x y s t m m' z (was x i s l m) (was y j t l' m');
      starts = λ y i b' c' r. ⊎_elim
          (λ z. clash (cc (there_hole.0, z.0)))
          (λ z. subst (λ (w : Walked). a + W ≤ base_at G y w.left) (sym z.0) (past_first y i b' c' (ap (λ (w : Walked). w.entry) (sym z.0) ∙ r) (λ w. z.1 (in_hole y i w))))
          (moved y i);
    }
      where
        both : (x y s t : ℕ) → s < p.numbers.levels → t < p.numbers.levels → at_height (walk_to G q₁ 0 x).tables s ≡ at_height (walk_to G q₁ 0 y).tables t → Was x s → Was y t
            → (s ≡ t) × (x / size_at G (suc s) ≡ y / size_at G (suc s))
        both x y s t m m' z X Y =
            let (u, w) = O.one X.page Y.page X.page_in Y.page_in s t X.left_low m Y.left_low m' (sym X.table_is ∙ z ∙ Y.table_is) in
            (u, X.region_is ∙ w ∙ subst (λ (h : ℕ). Y.page / size_at G (suc h) ≡ y / size_at G (suc h)) (sym u) (sym Y.region_is))

        -- a page that shares its region with the first is a page of the mapping that goes
        in_hole : (y : ℕ) → Memᴰ y rest → y / size_at G (walk_to G p 0 y).left ≡ a / size_at G (walk_to G p 0 y).left → a / size_at G e₁ ≡ y / size_at G e₁
        in_hole y i z =
            region_above G {j = (walk_to G p 0 a).left} {h = e₁} (omega arith) a y
            (subst (λ (w : Walked). a / size_at G w.left ≡ y / size_at G w.left) (sym (same_walk y i z)) (sym z))

  -- the first page, and what is left then
  pub first_goes : Goes G p a (unmap_w G p a)
  first_goes = goes G Z p a O.good (omega (arith, more, page_pos G, O.in_space)) O.aligned (O.undamaged a first) first_starts

  pub next : Next G p a k (unmap_w G p a)
  next = go (unmap_w G p a) refl first_goes
    where
      go : (d : Done) → unmap_w G p a ≡ d → Goes G p a d → Next G p a k d
      go d z (gives b c f s) =
          removes b (size_at G (walk_to G p 0 a).left) c (given_at G p a) (removed_at G p a)
          (remove_ok b c f (subst (λ (w : Done). good_pool G w.after ≡ true) z (leaves_good (unmap_leaves G p a) O.good)))
      go d z (passes f) = holes _ _ (pass_ok f)
      go d z (fills f) = full f

module _ (G : Granule) (Z : Sane G) where
  -- where no unmap answers 8, each removes a mapping or passes over a hole
  pub all_cleared : (k : ℕ) {p : Pool} {a : ℕ} → Ok G p a k → any_refused 8 (answers_of (unmap_w G) p (pages_from G a k)) ≡ false
      → (r : Answer) → Memᴰ r (answers_of (unmap_w G) p (pages_from G a k)) → Cleared r
  unfolding pages_from answers_of any_refused
  all_cleared zero O e r i = absurd (Memᴰ.not-nil i)
  all_cleared (suc k) {p} {a} O e r i =
      let (u, w) = or-false (refuses_with 8 (unmap_w G p a).answer) _ e in
      go (unmap_w G p a) (next G Z p a k O) u w (Memᴰ.cases_cons i) (λ p O e j. all_cleared k O e r j)
    where
      go : (d : Done) → Next G p a k d → refuses_with 8 d.answer ≡ false → any_refused 8 (answers_of (unmap_w G) d.after (pages_from G (a + page_size G) k)) ≡ false
          → (r ≡ d.answer) ⊎ Memᴰ r (answers_of (unmap_w G) d.after (pages_from G (a + page_size G) k))
          → ((p : Pool) → Ok G p (a + page_size G) k → any_refused 8 (answers_of (unmap_w G) p (pages_from G (a + page_size G) k)) ≡ false → Memᴰ r (answers_of (unmap_w G) p (pages_from G (a + page_size G) k)) → Cleared r)
          → Cleared r
      go d (removes b s c t q O) u w (inl z) ih = subst Cleared (sym z) (removed_one b s c t)
      go d (removes b s c t q O) u w (inr j) ih = ih q O w j
      go d (holes b s O) u w (inl z) ih = subst Cleared (sym z) (passed_hole b s)
      go d (holes b s O) u w (inr j) ih = ih p O w j
      go d (full f) u w j ih = absurd (true≢false u)

  -- where one answers 8, the free list has no room at that page
  pub only_full : (k : ℕ) {p : Pool} {a : ℕ} → Ok G p a k → any_refused 8 (answers_of (unmap_w G) p (pages_from G a k)) ≡ true
      → (j : ℕ) × (j < k) × Full G (left_by (unmap_w G) p (pages_from G a j)) (a + j * page_size G)
  unfolding pages_from answers_of any_refused left_by
  only_full zero O e = absurd (false≢true e)
  only_full (suc k) {p} {a} O e = go (unmap_w G p a) refl (next G Z p a k O) e (λ p O e. only_full k O e)
    where
      W : ℕ
      W = page_size G

      Goal : Type 0
      Goal = (j : ℕ) × (j < suc k) × Full G (left_by (unmap_w G) p (pages_from G a j)) (a + j * W)

      on : (q : Pool) → (unmap_w G p a).after ≡ q → (j : ℕ) × (j < k) × Full G (left_by (unmap_w G) q (pages_from G (a + W) j)) (a + W + j * W) → Goal
      on q z (j, l, f) = (
        suc j,
        omega arith,
        subst (λ (x : ℕ). Full G (left_by (unmap_w G) (unmap_w G p a).after (pages_from G (a + W) j)) x) (omega (arith, suc-mul j W))
            (subst (λ (r : Pool). Full G (left_by (unmap_w G) r (pages_from G (a + W) j)) (a + W + j * W)) (sym z) f),
      )

      go : (d : Done) → unmap_w G p a ≡ d → Next G p a k d → (refuses_with 8 d.answer || any_refused 8 (answers_of (unmap_w G) d.after (pages_from G (a + W) k))) ≡ true
          → ((q : Pool) → Ok G q (a + W) k → any_refused 8 (answers_of (unmap_w G) q (pages_from G (a + W) k)) ≡ true → (j : ℕ) × (j < k) × Full G (left_by (unmap_w G) q (pages_from G (a + W) j)) (a + W + j * W))
          → Goal
      go d z (removes b s c t q O) u ih = on q (ap (λ (w : Done). w.after) z) (ih q O u)
      go d z (holes b s O) u ih = on p (ap (λ (w : Done). w.after) z) (ih p O u)
      go d z (full f) u ih = (0, omega arith, subst (Full G p) (omega arith) f)

-- ---- at entry

-- no page's mapping is cut
cuts_none : (G : Granule) (a len : ℕ) (ws : List Probe) → any_cut_by G a len ws ≡ false → (w : Probe) → Memᴰ w ws → cut_at G a len w.at w.end.left w.end.entry ≡ false
unfolding any_cut_by
cuts_none G a len [] e w i = absurd (Memᴰ.not-nil i)
cuts_none G a len (v ∷ ws) e w i =
    let (x, y) = or-false (cut_at G a len v.at v.end.left v.end.entry) _ e in
    ⊎_elim (λ z. subst (λ (w : Probe). cut_at G a len w.at w.end.left w.end.entry ≡ false) (sym z) x) (cuts_none G a len ws y w) (Memᴰ.cases_cons i)

-- the tests of a range, over its walks at entry, say that its pages can be unmapped
pub start : (G : Granule) → Sane G → (p : Pool) (a len : ℕ) → good_pool G p ≡ true → FineUnmap G p.numbers.levels a len
    → any_ends is_damaged (page_walks G p (pages_of G a len)) ≡ false → one_region_each (on_ways G p.numbers.levels (page_walks G p (pages_of G a len))) ≡ true
    → any_cut_by G a len (page_walks G p (pages_of G a len)) ≡ false → Ok G p a (len / page_size G)
start G Z p a len good F undamaged each uncut = record {
  good = good;
  aligned = F.address_aligned;
  in_space = omega (arith, div-add-mod' len (page_size G), F.long.whole_pages, F.in_space);
  undamaged = λ x i d. true≢false (ap is_damaged (sym d) ∙ none_ends is_damaged ws undamaged (page_walk G p x) (Memᴰ.map (page_walk G p) i));
  one = λ x y i j s t a b c d e. same x y s t (each_so (on_ways G p.numbers.levels ws) each (standing_at G x (walk_to G p 0 x).tables s) (standing_at G y (walk_to G p 0 y).tables t)
      (ways_has G p.numbers.levels ws (page_walk G p x) (Memᴰ.map (page_walk G p) i) s a b) (ways_has G p.numbers.levels ws (page_walk G p y) (Memᴰ.map (page_walk G p) j) t c d) e);
  starts = λ x i b c e. (inside_is a len (base_at G x (walk_to G p 0 x).left) (size_at G (walk_to G p 0 x).left)
      (not-false _ (ap (cut_at G a len x (walk_to G p 0 x).left) (sym e) ∙ cuts_none G a len ws uncut (page_walk G p x) (Memᴰ.map (page_walk G p) i)))).0;
}
  where
    ws : List Probe
    ws = page_walks G p (pages_of G a len)

    same : (x y s t : ℕ) → (size_at G (suc s) ≡ size_at G (suc t)) × (base_at G x (suc s) ≡ base_at G y (suc t)) → (s ≡ t) × (x / size_at G (suc s) ≡ y / size_at G (suc s))
    same x y s t (u, v) =
        let z : s ≡ t = omega (arith, size_injective G Z (suc s) (suc t) u) in
        (z, base_region G x y (suc s) (v ∙ ap (λ (k : ℕ). base_at G y (suc k)) (sym z)))

pub page_by_page : (G : Granule) → Sane G → (p : Pool) (a len m t : ℕ) → (unmap_range_w G p a len).answer ≡ cleared m t → PageByPage G p a len m t
page_by_page G Z p a len m t e = go (unmap_range_w G p a len) refl (unmap_range_view G p a len) e
  where
    go : (d : Done) → unmap_range_w G p a len ≡ d → UnmapRangeView G p a len d → d.answer ≡ cleared m t → PageByPage G p a len m t
    go d q (range_clears B) e = record {
      each = all_cleared G Z (len / page_size G) (start G Z p a len B.good (unmap_fine G p.numbers.levels a len B.tests) B.undamaged B.one_each B.uncut) B.room;
      removed = cc;
      given = cc;
      after = ap (λ (x : Done). x.after) q;
    }
    go d q (range_stays j) e = clash (cc)
