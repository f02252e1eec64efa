-- Laws of what one unmap does: to the words in use of each table, to their counts, and to the walks of other pages.
use Rattle.std.specs.Prelude.{ℕ, zero, suc, ◌+◌, ◌-◌, ◌*◌, ◌/◌, ◌%◌, ◌≤◌, ◌<◌, ◌≡◌, refl, ◌≢◌, ◌⊎◌, Bool, true, false, cond, length, get_or, set}
use Rattle.std.proofs.Common.{ap, sym, ◌∙◌, subst, inl, inr, ⊎_elim, add-zero, add-suc, suc-add, arith, length-set, get_or-set_same, get_or-set_other}
use mathlib.Core.List.{List}
use Rattle.std.proofs.Math.Decide.{ℕ_discrete, dec_lt}
use Rattle.laws.specs.Lists.{part}
use Rattle.laws.specs.ListLaws.{get_d_past, get_d_part, all_zero_at}
use Rattle.path.specs.Geometry.{Granule, Sane, entries, size_at}
use Rattle.path.specs.Areas.{Area, area_of, total}
use Rattle.path.specs.Paths.{path_of}
use Rattle.path.specs.PathLaws.{path_of_at, index_below, region_index}
use Rattle.path.specs.RegionLaws.{region_above, base_region, base_inside, aligned_base}
use Rattle.path.specs.Laws.{good_setup_lem}
use Rattle.entry.specs.Words.{entry_at}
use Rattle.entry.proofs.Laws.{entry_zero}
use Rattle.entry.specs.declared.Entry.TheVariants.{Empty, Table, Frame, Damaged}
use Rattle.model.specs.declared.Walked.{Walked}
use Rattle.model.specs.Answers.{Pool}
use Rattle.model.specs.Walk.{slot, at_height, no_way, stop}
use Rattle.model.specs.Writes.{memory, perform_all, only_entry, freed, prune_writes, unmap_writes}
use Rattle.model.specs.Calls.{good_pool, walk_to}
use Rattle.model.specs.Sound.{word_at}
use Rattle.model.proofs.DescentLaws.{clash}
use Rattle.model.proofs.LeftLaws.{performed_length}
use Rattle.model.proofs.RangeWalks.{came_low, came_moved, left_low, same_index, walk_stopped, stopped_walk, stopped_apart, stopped_in, stopped_last, stopped_through, through_table}
use Rattle.model.specs.RangeWalks.{read_by, Came, there, further, Stopped}
use Rattle.model.proofs.RangeUnmapLaws.{few_levels, high, word_stays, hole_there, hole_region, walk_kept}
use Rattle.model.proofs.RangeUnmapLaws.{given_at, removed_at}
use Rattle.sweeps.specs.Parts.{used_in, Lowered, lower_from}
use Rattle.sweeps.specs.Counting.{some_used, live, lower_live, used_same, used_less, lower_freed, lower_hit, lower_miss, lower_long}

-- ---- zeros stay

set_zero : (ws : List ℕ) (i : ℕ) → get_or (set ws i 0) i 0 ≡ 0
set_zero ws i = go (dec_lt i (length ws))
  where
    go : Dec (i < length ws) → get_or (set ws i 0) i 0 ≡ 0
    go (yes l) = get_or-set_same ws i 0 0 l
    go (no l) = get_d_past (set ws i 0) i (omega (arith, length-set ws i 0))

zero_stays : (ws : List ℕ) (i j : ℕ) → get_or ws j 0 ≡ 0 → get_or (set ws i 0) j 0 ≡ 0
zero_stays ws i j e = go (ℕ_discrete j i)
  where
    go : Dec (j ≡ i) → get_or (set ws i 0) j 0 ≡ 0
    go (yes z) = ap (λ (x : ℕ). get_or (set ws i 0) x 0) z ∙ set_zero ws i
    go (no n) = get_or-set_other ws i j 0 0 n ∙ e

prune_zeros : (G : Granule) (way path : List ℕ) (d h f : ℕ) (ws q : List ℕ) (j : ℕ) → get_or ws j 0 ≡ 0
    → get_or (perform_all G (prune_writes G way path h f d) (memory ws q)).words j 0 ≡ 0
unfolding perform_all prune_writes
prune_zeros G way path zero h f ws q j e = e
prune_zeros G way path (suc d) h f ws q j e =
    prune_zeros G way path d (suc h) (suc f) (set ws (slot G (at_height way (suc h)) (at_height path (suc h))) 0) (set q f (at_height way h)) j (zero_stays ws _ j e)

-- each entry that is cleared is 0 then
prune_all : (G : Granule) (way path : List ℕ) (d h f : ℕ) (ws q : List ℕ) → word_at G ws (at_height way h) (at_height path h) ≡ 0 → (j : ℕ) → h ≤ j → j ≤ h + d
    → word_at G (perform_all G (prune_writes G way path h f d) (memory ws q)).words (at_height way j) (at_height path j) ≡ 0
unfolding perform_all prune_writes
prune_all G way path zero h f ws q e j a b = let z : h ≡ j = omega arith in subst (λ (x : ℕ). word_at G ws (at_height way x) (at_height path x) ≡ 0) z e
prune_all G way path (suc d) h f ws q e j a b =
    go (ℕ_discrete h j) (λ u. prune_all G way path d (suc h) (suc f) (set ws (slot G (at_height way (suc h)) (at_height path (suc h))) 0) (set q f (at_height way h)) (set_zero ws _) j u (omega arith))
  where
    ws' : List ℕ
    ws' = set ws (slot G (at_height way (suc h)) (at_height path (suc h))) 0

    Goal : ℕ → Type 0
    Goal x = word_at G (perform_all G (prune_writes G way path (suc h) (suc f) d) (memory ws' (set q f (at_height way h)))).words (at_height way x) (at_height path x) ≡ 0

    go : Dec (h ≡ j) → (suc h ≤ j → Goal j) → Goal j
    go (yes z) ih = subst Goal z (prune_zeros G way path d (suc h) (suc f) ws' (set q f (at_height way h)) (slot G (at_height way h) (at_height path h)) (zero_stays ws _ _ e))
    go (no n) ih = ih (omega arith)

-- ---- tables that come free have no other entry

freed_only : (G : Granule) (ws way path : List ℕ) (d h j : ℕ) → h ≤ j → j < h + freed G ws way path h d → only_entry G ws (at_height way j) (at_height path j) ≡ true
unfolding freed
freed_only G ws way path zero h j a b = absurd (omega arith)
freed_only G ws way path (suc d) h j a b = go (only_entry G ws (at_height way h) (at_height path h)) refl b (ℕ_discrete h j) (λ u v. freed_only G ws way path d (suc h) j u v)
  where
    go : (y : Bool) → only_entry G ws (at_height way h) (at_height path h) ≡ y → j < h + cond y (suc (freed G ws way path (suc h) d)) 0 → Dec (h ≡ j)
        → (suc h ≤ j → j < suc h + freed G ws way path (suc h) d → only_entry G ws (at_height way j) (at_height path j) ≡ true) → only_entry G ws (at_height way j) (at_height path j) ≡ true
    go true e b (yes z) ih = subst (λ (x : ℕ). only_entry G ws (at_height way x) (at_height path x) ≡ true) z e
    go true e b (no n) ih = ih (omega arith) (omega arith)
    go false e b z ih = absurd (omega arith)

pub only_zero : (G : Granule) (ws : List ℕ) (t i : ℕ) → only_entry G ws t i ≡ true → (k : ℕ) → k < entries G → k ≢ i → word_at G ws t k ≡ 0
unfolding only_entry
only_zero G ws t i e k l n =
    ap (λ (z : ℕ). get_or ws z 0) (omega arith) ∙ sym (get_d_part ws (slot G t 0) (entries G) k l) ∙ sym (get_or-set_other (part ws (slot G t 0) (entries G)) i k 0 0 n)
    ∙ all_zero_at (set (part ws (slot G t 0) (entries G)) i 0) e k

-- where two addresses part
find_part : (G : Granule) (x y : ℕ) (d h : ℕ) → x / size_at G h ≢ y / size_at G h → x / size_at G (h + d) ≡ y / size_at G (h + d)
    → (j : ℕ) × (h ≤ j) × (j < h + d) × (x / size_at G j ≢ y / size_at G j) × (x / size_at G (suc j) ≡ y / size_at G (suc j))
find_part G x y zero h n e = absurd (n (subst (λ (z : ℕ). x / size_at G z ≡ y / size_at G z) (add-zero h) e))
find_part G x y (suc d) h n e = go (ℕ_discrete (x / size_at G (suc h)) (y / size_at G (suc h)))
    (λ m. find_part G x y d (suc h) m (subst (λ (z : ℕ). x / size_at G z ≡ y / size_at G z) (add-suc h d ∙ sym (suc-add h d)) e))
  where
    go : Dec (x / size_at G (suc h) ≡ y / size_at G (suc h))
        → (x / size_at G (suc h) ≢ y / size_at G (suc h) → (j : ℕ) × (suc h ≤ j) × (j < suc h + d) × (x / size_at G j ≢ y / size_at G j) × (x / size_at G (suc j) ≡ y / size_at G (suc j)))
        → (j : ℕ) × (h ≤ j) × (j < h + suc d) × (x / size_at G j ≢ y / size_at G j) × (x / size_at G (suc j) ≡ y / size_at G (suc j))
    go (yes z) ih = (h, omega arith, omega arith, n, z)
    go (no m) ih = let (j, a, b, c, f) = ih m in (j, omega arith, omega arith, c, f)

-- a walk that comes further reads a table there
came_reads : {G : Granule} {area : Area} {ws : List ℕ} {target : ℕ} {path : List ℕ} {d : ℕ} {mid : List ℕ} {v e : ℕ} {seen : List ℕ} {u : ℕ}
    → Came G area ws target path d mid v e seen u → e < d → (c : ℕ) × (read_by G area ws path d v ≡ Table c)
came_reads there l = absurd (omega arith)
came_reads (further {c = c} r i n C) l = (c, r)

came_first : {G : Granule} {area : Area} {ws : List ℕ} {target : ℕ} {path : List ℕ} {d : ℕ} {mid : List ℕ} {v e : ℕ} {seen : List ℕ} {u : ℕ}
    → Came G area ws target path d mid v e seen u → d ≡ e → u ≡ v
came_first there l = refl
came_first (further r i n C) l = absurd (omega (arith, came_low C))

-- ---- one unmap

module _ (G : Granule) (Z : Sane G) (p : Pool) (good : good_pool G p ≡ true) (x b k : ℕ) (framed : (walk_to G p 0 x).entry ≡ Frame b k) where
  abbrev o : Walked
  o = walk_to G p 0 x

  abbrev top : ℕ
  top = p.numbers.levels - 1

  abbrev area : Area
  area = area_of p.numbers

  abbrev n : ℕ
  n = total area

  abbrev e : ℕ
  e = o.left + given_at G p x

  abbrev q : Pool
  q = removed_at G p x

  abbrev at : ℕ → ℕ
  at j = at_height o.tables j

  abbrev idx : ℕ → ℕ
  idx j = at_height (path_of G x) j

  few : p.numbers.levels ≤ 4
  few = few_levels G Z p good

  low : top < 4
  low = omega (arith, few, (good_setup_lem good).numbers.enough, Z.large_below)

  E : Stopped G area p.words 0 (path_of G x) top no_way 0 o
  E = walk_stopped G p few 0 x (λ z. clash (cc))

  long : length p.words ≡ entries G * n
  long = (good_setup_lem good).numbers.words_are

  long' : length q.words ≡ entries G * n
  long' = performed_length G (unmap_writes G o.tables (path_of G x) o.left p.numbers.free (given_at G p x)) (memory p.words p.list) ∙ long

  idx_low : (y j : ℕ) → j < 4 → at_height (path_of G y) j < entries G
  idx_low y j l = subst (λ (z : ℕ). z < entries G) (sym (path_of_at G y {h = j} l)) (index_below G y j)

  at_low : (j : ℕ) → o.left ≤ j → j ≤ top → at j < n
  at_low j a c = stopped_in E low refl Z (omega (arith, good_setup_lem good)) j a c

  apart : (i j : ℕ) → o.left ≤ i → i < j → j ≤ top → at i ≢ at j
  apart i j a c l = stopped_apart E low refl i j a c l

  -- the root is the last of them
  root : at top ≡ 0
  root =
      let a = left_low G area p.words 0 (path_of G x) top no_way 0 in
      let T = stopped_through E low refl top a (omega arith) in
      through_table E low refl top a (omega arith) ∙ came_first T.above refl

  pub above_root : (j : ℕ) → o.left ≤ j → j < top → at j ≢ 0
  above_root j a c z = apart j top a c (omega arith) (z ∙ sym root)

  -- each entry on the way is in use
  entry_used : (j : ℕ) → o.left ≤ j → j ≤ top → word_at G p.words (at j) (idx j) ≢ 0
  entry_used j a c z = go (ℕ_discrete o.left j)
    where
      empty : read_by G area p.words (path_of G x) j (at j) ≡ Empty
      empty = ap (entry_at G area j) z ∙ entry_zero G area j

      go : Dec (o.left ≡ j) → ⊥
      go (yes s) =
          let r : read_by G area p.words (path_of G x) o.left (at o.left) ≡ Frame b k = ap (read_by G area p.words (path_of G x) o.left) (stopped_last E low refl) ∙ E.reads ∙ framed in
          let r' : read_by G area p.words (path_of G x) o.left (at o.left) ≡ Empty = subst (λ (i : ℕ). read_by G area p.words (path_of G x) i (at i) ≡ Empty) (sym s) empty in
          clash (cc)
      go (no s) =
          let T = stopped_through E low refl j a c in
          let (t, r) = came_reads T.below (omega arith) in
          let r' : read_by G area p.words (path_of G x) j T.table ≡ Empty = ap (read_by G area p.words (path_of G x) j) (sym (through_table E low refl j a c)) ∙ empty in
          clash (cc)

  -- the entries that are cleared
  cleared : (j : ℕ) → o.left ≤ j → j ≤ e → word_at G q.words (at j) (idx j) ≡ 0
  unfolding perform_all
  cleared j a c =
      prune_all G o.tables (path_of G x) (given_at G p x) o.left p.numbers.free (set p.words (slot G (at o.left) (idx o.left)) 0) p.list
      (set_zero p.words (slot G (at o.left) (idx o.left))) j a c

  top_high : e ≤ top
  top_high = high G Z p good x b k framed

  -- a table that loses one has one less in use
  hit : (j : ℕ) → o.left ≤ j → j ≤ e → used_in G q.words (at j) ≡ used_in G p.words (at j) - 1
  hit j a c =
      let d : j ≤ top = omega (arith, top_high) in
      used_less G p.words n long q.words long' (at j) (idx j) (at_low j a d) (idx_low x j (omega (arith, low))) (entry_used j a d) (cleared j a c)
      (λ i l m. word_stays G Z p good x b k framed (at j) i l (λ i' u v w. m (w.1 ∙ ap idx (same i' j u (omega (arith, top_high)) a d (sym w.0)))))
    where
      same : (i j : ℕ) → o.left ≤ i → i ≤ top → o.left ≤ j → j ≤ top → at i ≡ at j → i ≡ j
      same i j a c u v z = go (ℕ_discrete i j) (dec_lt i j)
        where
          go : Dec (i ≡ j) → Dec (i < j) → i ≡ j
          go (yes r) s = r
          go (no r) (yes s) = absurd (apart i j a s v z)
          go (no r) (no s) = absurd (apart j i u (omega arith) c (sym z))

  -- any other has as many as before
  miss : (t : ℕ) → t < n → ((j : ℕ) → o.left ≤ j → j ≤ e → t ≢ at j) → used_in G q.words t ≡ used_in G p.words t
  miss t l f = used_same G p.words n long q.words long' t l (λ i m. word_stays G Z p good x b k framed t i m (λ j a c w. f j a c w.0))

  -- ---- by counts

  module _ (C : List ℕ) (size : length C ≡ 512) (counted : (t : ℕ) → 0 < t → t < n → get_or C t 0 ≡ used_in G p.words t) where
    abbrev L : Lowered
    L = lower_from C o.tables o.left (top - o.left)

    left_top : o.left ≤ top
    left_top = left_low G area p.words 0 (path_of G x) top no_way 0

    not_root : (j : ℕ) → o.left ≤ j → j < top → 0 < at j
    not_root j a c = go (ℕ_discrete (at j) 0)
      where
        go : Dec (at j ≡ 0) → 0 < at j
        go (yes z) = absurd (apart j top a c (omega arith) (z ∙ sym root))
        go (no m) = omega arith

    apart_below : (i j : ℕ) → o.left ≤ i → i < j → j < o.left + (top - o.left) → at i ≢ at j
    apart_below i j a c d = apart i j a c (omega (arith, left_top))

    pub frees : L.freed ≡ given_at G p x
    frees =
        lower_freed o.tables G p.words (path_of G x) n long (top - o.left) o.left C apart_below
        (λ j a c. let d : j < top = omega (arith, left_top) in
        (at_low j a (omega arith), idx_low x j (omega (arith, low)), entry_used j a (omega arith), counted (at j) (not_root j a d) (at_low j a (omega arith))))

    few_tables : n ≤ 512
    few_tables = omega (arith, good_setup_lem good)

    pub counts_on : (t : ℕ) → 0 < t → t < n → get_or L.counts t 0 ≡ used_in G q.words t
    counts_on t s l = go (seek (given_at G p x) o.left t)
      where
        seek : (d h t : ℕ) → ((j : ℕ) × (h ≤ j) × (j ≤ h + d) × (t ≡ at j)) ⊎ ((j : ℕ) → h ≤ j → j ≤ h + d → t ≢ at j)
        seek zero h t = by (ℕ_discrete t (at h))
          where
            by : Dec (t ≡ at h) → ((j : ℕ) × (h ≤ j) × (j ≤ h + 0) × (t ≡ at j)) ⊎ ((j : ℕ) → h ≤ j → j ≤ h + 0 → t ≢ at j)
            by (yes z) = inl (h, omega arith, omega arith, z)
            by (no m) = inr (λ j a c z. m (z ∙ ap at (omega arith)))
        seek (suc d) h t = by (ℕ_discrete t (at h)) (seek d (suc h) t)
          where
            by : Dec (t ≡ at h) → ((j : ℕ) × (suc h ≤ j) × (j ≤ suc h + d) × (t ≡ at j)) ⊎ ((j : ℕ) → suc h ≤ j → j ≤ suc h + d → t ≢ at j)
                → ((j : ℕ) × (h ≤ j) × (j ≤ h + suc d) × (t ≡ at j)) ⊎ ((j : ℕ) → h ≤ j → j ≤ h + suc d → t ≢ at j)
            by (yes z) r = inl (h, omega arith, omega arith, z)
            by (no m) (inl (j, a, c, z)) = inl (j, omega arith, omega arith, z)
            by (no m) (inr f) = inr (λ j a c z. ⊎_elim (λ w. m (z ∙ ap at w)) (λ w. f j w (omega arith) z) (which j a))
              where
                which : (j : ℕ) → h ≤ j → (j ≡ h) ⊎ (suc h ≤ j)
                which j a = pick (ℕ_discrete j h)
                  where
                    pick : Dec (j ≡ h) → (j ≡ h) ⊎ (suc h ≤ j)
                    pick (yes z) = inl z
                    pick (no z) = inr (omega arith)

        go : ((j : ℕ) × (o.left ≤ j) × (j ≤ e) × (t ≡ at j)) ⊎ ((j : ℕ) → o.left ≤ j → j ≤ e → t ≢ at j) → get_or L.counts t 0 ≡ used_in G q.words t
        go (inl (j, a, c, z)) =
            let d : j < top = below j c z in
            ap (λ (y : ℕ). get_or L.counts y 0) z
            ∙ lower_hit o.tables (top - o.left) o.left C apart_below (λ j a c. omega (arith, at_low j a (omega (arith, left_top)), few_tables)) j a (omega (arith, frees)) (omega (arith, left_top))
            ∙ ap (λ (y : ℕ). y - 1) (ap (λ (y : ℕ). get_or C y 0) (sym z) ∙ counted t s l ∙ ap (used_in G p.words) z) ∙ sym (hit j a c) ∙ ap (used_in G q.words) (sym z)
          where
            below : (j : ℕ) → j ≤ e → t ≡ at j → j < top
            below j c z = by (ℕ_discrete j top)
              where
                by : Dec (j ≡ top) → j < top
                by (yes w) = absurd (omega (arith, z ∙ ap at w ∙ root))
                by (no w) = omega (arith, top_high)
        go (inr f) =
            lower_miss o.tables (top - o.left) o.left C t (λ j a c d. f j a (omega (arith, frees))) ∙ counted t s l ∙ sym (miss t l f)

    pub frees_live : (M : List ℕ) → ((j : ℕ) → o.left ≤ j → j < top → get_or M (at j) 0 ≢ 0) → L.freed + live M L.counts ≤ live M C
    frees_live M f =
        lower_live M o.tables (top - o.left) o.left C apart_below
        (λ j a c. let d : j < top = omega (arith, left_top) in
        (f j a d, λ z. omega (arith, z, counted (at j) (not_root j a d) (at_low j a (omega arith)), some_used G p.words n long (at j) (idx j) (at_low j a (omega arith)) (idx_low x j (omega (arith, low))) (entry_used j a (omega arith)))))

    pub counts_long : length L.counts ≡ 512
    counts_long = lower_long o.tables (top - o.left) o.left C ∙ size

  -- ---- other pages

  -- the mapping's own pages are a hole then
  pub own_empty : x % size_at G o.left ≡ 0 → (y : ℕ) → x ≤ y → y < x + size_at G o.left → (walk_to G q 0 y).entry ≡ Empty
  own_empty s y a c =
      let h = o.left in
      let r : x / size_at G h ≡ y / size_at G h = base_region G x y h (aligned_base G x h s ∙ sym (base_inside G x y h s a c)) in
      ap (λ (w : Walked). w.entry) (hole_region G Z p good x b k framed y (region_above G {j = h} (omega arith) x y r)) ∙ (hole_there G Z p good x b k framed).0

  -- an address whose path parts from this one at a word that is 0
  beside_empty : (y j : ℕ) → o.left ≤ j → j ≤ top → x / size_at G (suc j) ≡ y / size_at G (suc j) → word_at G p.words (at j) (at_height (path_of G y) j) ≡ 0 → (walk_to G p 0 y).entry ≡ Empty
  beside_empty y j a c r z =
      let T = stopped_through E low refl j a c in
      ap (λ (w : Walked). w.entry)
      (stopped_walk G area p.words 0 (path_of G y) {h = top} {way = no_way} {t = 0} {o = stop Empty j (set T.mid (3 - j) T.table)} (record {
        seen = T.mid;
        table = T.table;
        came = came_moved T.above p.words 0 (path_of G y) low refl (omega arith)
            (λ i u v. ap (λ (m : ℕ). entry_at G area i (get_or p.words (slot G (at_height T.mid i) m) 0)) (same_index G p few x y i (omega arith) (omega (arith, low)) r));
        tables_are = refl;
        reads = ap (read_by G area p.words (path_of G y) j) (sym (through_table E low refl j a c)) ∙ ap (entry_at G area j) z ∙ entry_zero G area j;
        last = λ d w. clash (cc);
      }))

  -- a page of a region that comes free with the mapping, and none of the mapping's, was a hole before
  was_empty : (y : ℕ) → x / size_at G e ≡ y / size_at G e → x / size_at G o.left ≢ y / size_at G o.left → (walk_to G p 0 y).entry ≡ Empty
  was_empty y r m =
      let (j, a, c, u, v) = find_part G x y (given_at G p x) o.left m r in
      let w : j < 4 = omega (arith, top_high, low) in
      beside_empty y j a (omega (arith, top_high)) v
      (only_zero G p.words (at j) (idx j) (freed_only G p.words o.tables (path_of G x) (top - o.left) o.left j a c) (at_height (path_of G y) j) (idx_low y j w)
      (λ s. u (region_index G x j ∙ (λ i. v i * entries G + (sym (path_of_at G x {h = j} w) ∙ sym s ∙ path_of_at G y {h = j} w) i) ∙ sym (region_index G y j))))

  -- a page that is not the mapping's is walked as before, or was a hole and is one
  pub page_goes_on : (y : ℕ) → (walk_to G p 0 y).entry ≢ Damaged
      → ((i j : ℕ) → (walk_to G p 0 y).left ≤ i → i ≤ top → o.left ≤ j → j ≤ top → at_height (walk_to G p 0 y).tables i ≡ at_height o.tables j → (i ≡ j) × (y / size_at G (suc i) ≡ x / size_at G (suc i)))
      → x / size_at G o.left ≢ y / size_at G o.left
      → (walk_to G q 0 y ≡ walk_to G p 0 y) ⊎ (((walk_to G p 0 y).entry ≡ Empty) × ((walk_to G q 0 y).entry ≡ Empty))
  page_goes_on y sound one m = go (ℕ_discrete (x / size_at G e) (y / size_at G e))
    where
      go : Dec (x / size_at G e ≡ y / size_at G e) → (walk_to G q 0 y ≡ walk_to G p 0 y) ⊎ (((walk_to G p 0 y).entry ≡ Empty) × ((walk_to G q 0 y).entry ≡ Empty))
      go (yes r) = inr (was_empty y r m, ap (λ (w : Walked). w.entry) (hole_region G Z p good x b k framed y r) ∙ (hole_there G Z p good x b k framed).0)
      go (no r) = inl (walk_kept G Z p good x b k framed y sound one r)
