-- Carrying out the planned writes of map and of unmap is growing and pruning the tree as its theory has them.
use Rattle.std.specs.Prelude.{◌≡◌, ◌≢◌, Bool, true, false, cond, length}
use Rattle.std.proofs.Math.Path.{refl, ap, sym}
use Rattle.std.proofs.Common.{◌∙◌, subst, mod-lt, length-set, get_or-set_same, get_or-set_other}
use Rattle.std.proofs.Math.Logic.{⊎_elim, ite, if_pos, if_neg}
use Rattle.std.proofs.lemmas.Bool.{false≢true}
use mathlib.Core.List.Memᴰ
use mathlib.Core.List.Memᴰ.{head as here}
use mathlib.Core.List.Memᴰ.{tail as there}
use mathlib.Core.List.{List, ◌∷◌, Memᴰ}
use Prim.Native.Nat.{ℕ, zero, suc, ◌+◌, ◌-◌, ◌*◌, ◌%◌, ◌≤◌, ◌<◌}
use native.Mathlib.Omega.{arith}
use Rattle.std.proofs.Math.Decide.{ℕ_discrete}
use Rattle.std.proofs.Math.ListN.{get_or, set}
use borrow.Author.Tests.{ltb-true, lt-ltb, not-true}
use Rattle.laws.specs.Lists.{part, zeroed, among}
use Rattle.laws.specs.ListLaws.{not_among, among_none, length_part, get_d_part, all_zero_at, all_zero_of}
use Rattle.path.specs.Geometry.{Granule, entries, Sane}
use Rattle.path.specs.Laws.{entries_pos}
use Rattle.entry.specs.Words.{frame_word, table_word}
use Rattle.path.specs.Areas.{Area, total, GoodArea}
use Rattle.model.specs.Walk.{slot, at_height}
use Rattle.model.specs.Writes.{Memory, memory, perform_all, map_writes, may_take, only_entry, freed, prune_writes}
use Rattle.tree.specs.Region.{anc, upd, upd_at, upd_other}
use Rattle.tree.specs.Tree.{Ent, table, Geo, Rendered}
use Rattle.tree.specs.Inv.{Store}
use Rattle.tree.specs.Ops.{grow, mem, Mem}
use Rattle.tree.specs.Prune.{Bare, bare?, pool, prune}
use Rattle.model.proofs.LedgerLaws.{and-true}
use Rattle.demand.specs.Shown.{base_of, attrs_of}
use Rattle.demand.specs.Arm.{geo}
use Rattle.demand.specs.Memories as memories
use Rattle.demand.specs.Memories.{read_at, place_at, table_ends, in_table}
use Rattle.demand.specs.Walks.{way_at}

module _ (G : Granule) (Z : Sane G) (area : Area) (top : ℕ) (al : GoodArea G area) where
  abbrev pub X : Geo
  X = geo G Z area top al

  abbrev pub A : Store X
  A = memories.store G Z area top al

  -- ---- map

  -- path: the indices of page v
  module _ (v : ℕ) (path : List ℕ) (spot : (h : ℕ) → h < 4 → at_height path h ≡ anc (entries G) h v % entries G) (list : List ℕ) (g x : ℕ) where
    abbrev at : ℕ → ℕ
    at h = anc (entries G) h v % entries G

    grow_last : (h : ℕ) → h ≡ g → (ws : List ℕ) (t f : ℕ) → grow X A (place_at list) g v x h ws t f ≡ mem (set ws (slot G t (at h)) (frame_word (base_of x) h (attrs_of x))) f
    unfolding grow
    grow_last zero e ws t f = refl
    grow_last (suc h) e ws t f = if_pos (ℕ_discrete (suc h) g) e _ _

    grow_more : (h : ℕ) → suc h ≢ g → (ws : List ℕ) (t f : ℕ) → let c = get_or list (f - 1) 0 in
        grow X A (place_at list) g v x (suc h) ws t f ≡ grow X A (place_at list) g v x h (set (zeroed ws (slot G c 0) (entries G)) (slot G t (at (suc h))) (table_word G area c)) c (f - 1)
    unfolding grow
    grow_more h d ws t f = if_neg (ℕ_discrete (suc h) g) d _ _

    -- what the writes of map leave
    abbrev after : ℕ → List ℕ → List ℕ → ℕ → ℕ → Memory
    after need ws l t f = perform_all G (map_writes G area path list g (frame_word (base_of x) g (attrs_of x)) t f need) (memory ws l)

    pub map_carried : (need h : ℕ) → h ≡ need + g → h < 4 → (ws l : List ℕ) (t f : ℕ) → after need ws l t f ≡ memory (grow X A (place_at list) g v x h ws t f).m l
    unfolding perform_all map_writes
    map_carried zero h e b ws l t f =
        let z : h ≡ g = omega arith in
        ap (λ (i : ℕ). memory (set ws (slot G t i) (frame_word (base_of x) g (attrs_of x))) l) (spot g (omega arith) ∙ ap at (sym z))
        ∙ ap (λ (j : ℕ). memory (set ws (slot G t (at h)) (frame_word (base_of x) j (attrs_of x))) l) (sym z)
        ∙ ap (λ (o : Mem A). memory o.m l) (sym (grow_last h z ws t f))
    map_carried (suc need) zero e b ws l t f = absurd (omega arith)
    map_carried (suc need) (suc h) e b ws l t f =
        ap (λ (i : ℕ). after need (set (zeroed ws (slot G c 0) (entries G)) (slot G t i) (table_word G area c)) l c (f - 1)) (ap (at_height path) (sym e) ∙ spot (suc h) b)
        ∙ map_carried need h (omega arith) (omega arith) (set (zeroed ws (slot G c 0) (entries G)) (slot G t (at (suc h))) (table_word G area c)) l c (f - 1)
        ∙ ap (λ (o : Mem A). memory o.m l) (sym (grow_more h (λ z. omega arith) ws t f))
      where
        c : ℕ
        c = get_or list (f - 1) 0

  -- tables that may be taken from the end of a free list are of the pool, none is the root, none was seen, and none stands twice
  pub record Chosen (list seen : List ℕ) (f need : ℕ) : Type 0 where
    pub some : (i : ℕ) → i < f → f ≤ i + need → 0 < place_at list i
    pub low : (i : ℕ) → i < f → f ≤ i + need → place_at list i < total area
    pub unseen : (i : ℕ) → i < f → f ≤ i + need → Memᴰ (place_at list i) seen → ⊥
    pub once : (i j : ℕ) → i < f → f ≤ i + need → j < f → f ≤ j + need → place_at list i ≡ place_at list j → i ≡ j

  -- one more before the others
  chosen_more : (list : List ℕ) (need f : ℕ) (seen : List ℕ) → suc need ≤ f → 0 < place_at list (f - 1) → place_at list (f - 1) < total area
      → among (place_at list (f - 1)) seen ≡ false → Chosen list (place_at list (f - 1) ∷ seen) (f - 1) need → Chosen list seen f (suc need)
  chosen_more list need f seen l s₀ l₀ u₀ N = record {
    some = λ i a b. some i a b (ℕ_discrete i (f - 1));
    low = λ i a b. low i a b (ℕ_discrete i (f - 1));
    unseen = λ i a b m. unseen i a b m (ℕ_discrete i (f - 1));
    once = λ i j a b c d q. once i j a b c d q (ℕ_discrete i (f - 1)) (ℕ_discrete j (f - 1));
  }
    where
      c : ℕ
      c = place_at list (f - 1)

      some : (i : ℕ) → i < f → f ≤ i + suc need → Dec (i ≡ f - 1) → 0 < place_at list i
      some i a b (yes z) = rw z s₀
      some i a b (no d) = N.some i (omega arith) (omega arith)

      low : (i : ℕ) → i < f → f ≤ i + suc need → Dec (i ≡ f - 1) → place_at list i < total area
      low i a b (yes z) = rw z l₀
      low i a b (no d) = N.low i (omega arith) (omega arith)

      unseen : (i : ℕ) → i < f → f ≤ i + suc need → Memᴰ (place_at list i) seen → Dec (i ≡ f - 1) → ⊥
      unseen i a b m (yes z) = not_among c seen u₀ (subst (λ (x : ℕ). Memᴰ x seen) (ap (place_at list) z) m)
      unseen i a b m (no d) = N.unseen i (omega arith) (omega arith) (there m)

      once : (i j : ℕ) → i < f → f ≤ i + suc need → j < f → f ≤ j + suc need → place_at list i ≡ place_at list j → Dec (i ≡ f - 1) → Dec (j ≡ f - 1) → i ≡ j
      once i j a b k d q (yes y) (yes z) = y ∙ sym z
      once i j a b k d q (yes y) (no z) = absurd (N.unseen j (omega arith) (omega arith) (here (sym q ∙ ap (place_at list) y)))
      once i j a b k d q (no y) (yes z) = absurd (N.unseen i (omega arith) (omega arith) (here (q ∙ ap (place_at list) z)))
      once i j a b k d q (no y) (no z) = N.once i j (omega arith) (omega arith) (omega arith) (omega arith) q

  pub chosen : (list : List ℕ) (need f : ℕ) (seen : List ℕ) → need ≤ f → may_take list (total area) seen f need ≡ true → Chosen list seen f need
  unfolding may_take
  chosen list zero f seen l e = record {
    some = λ i a b. absurd (omega arith);
    low = λ i a b. absurd (omega arith);
    unseen = λ i a b m. omega arith;
    once = λ i j a b c d q. absurd (omega arith);
  }
  chosen list (suc need) f seen l e =
      let (x, e₁) = and-true _ _ e in
      let (y, e₂) = and-true _ _ e₁ in
      let (z, e₃) = and-true _ _ e₂ in
      chosen_more list need f seen l (ltb-true 0 (place_at list (f - 1)) x) (ltb-true (place_at list (f - 1)) (total area) y) (not-true _ z)
      (chosen list need (f - 1) (place_at list (f - 1) ∷ seen) (omega arith) e₃)

  -- tables may be taken from the end of a sound pool's free list
  module _ {T : ℕ → ℕ → ℕ} {S : ℕ → ℕ → Ent} {W : ℕ → ℕ → ℕ} (R : Rendered X W T S) (list : List ℕ) where
    -- the first f places hold unused tables, none twice, and none that was seen
    pub record Fresh (f : ℕ) (seen : List ℕ) : Type 0 where
      pub each : (i : ℕ) → i < f → (place_at list i < total area) × ((h r : ℕ) → S h r ≡ table → T h r ≢ place_at list i)
      pub once : (i j : ℕ) → i < f → j < f → place_at list i ≡ place_at list j → i ≡ j
      pub unseen : (i : ℕ) → i < f → Memᴰ (place_at list i) seen → ⊥

    pub may_take_lem : (need f : ℕ) (seen : List ℕ) → Fresh f seen → need ≤ f → may_take list (total area) seen f need ≡ true
    unfolding may_take
    may_take_lem zero f seen F l = refl
    may_take_lem (suc need) f seen F l =
        rw (lt-ltb 0 c some, lt-ltb c (total area) own.0, among_none c seen (F.unseen (f - 1) (omega arith)))
        (may_take_lem need (f - 1) (c ∷ seen) (record {
          each = λ i b. F.each i (omega arith);
          once = λ i j a b. F.once i j (omega arith) (omega arith);
          unseen = λ i b m. ⊎_elim (λ e. omega (arith, F.once i (f - 1) (omega arith) (omega arith) e)) (F.unseen i (omega arith)) (Memᴰ.cases_cons m);
        }) (omega arith))
      where
        c : ℕ
        c = get_or list (f - 1) 0

        own : (c < total area) × ((h r : ℕ) → S h r ≡ table → T h r ≢ c)
        own = F.each (f - 1) (omega arith)

        some : 0 < c
        some = go (ℕ_discrete c 0)
          where
            go : Dec (c ≡ 0) → 0 < c
            go (yes e) = absurd (own.1 top 0 R.root (R.root_at ∙ sym e))
            go (no e) = omega arith

  -- ---- unmap

  -- way: the tables on the path of page v above height low, none twice, in the pool; ws: the words before
  module _ (v : ℕ) (path way : List ℕ) (spot : (h : ℕ) → h < 4 → at_height path h ≡ anc (entries G) h v % entries G) (few : top ≤ 4) (low : ℕ)
      (tables : (k : ℕ) → low < k → k ≤ top → way_at way k < total area) (apart : (j k : ℕ) → low < j → j < k → k ≤ top → way_at way j ≢ way_at way k)
      (ws : List ℕ) (long : length ws ≡ entries G * total area) where
    abbrev K : ℕ
    K = entries G

    abbrev ix : ℕ → ℕ
    ix h = anc K h v % K

    ix_lt : (h : ℕ) → ix h < K
    ix_lt h = mod-lt (anc K h v) (entries_pos G)

    way_is : (h : ℕ) → h < 4 → at_height way h ≡ way_at way (suc h)
    way_is h l = ap (λ (j : ℕ). get_or way j 0) (omega arith)

    -- the memory m is ws but for tables below height k + 1 of the path, and the path's entry of height k, which is cleared
    pub record Cleared (k : ℕ) (m : List ℕ) : Type 0 where
      pub size : length m ≡ K * total area
      pub here : (i : ℕ) → i < K → read_at G m (way_at way (suc k)) i ≡ upd (read_at G ws) (way_at way (suc k)) (ix k) 0 (way_at way (suc k)) i
      pub above : (j i : ℕ) → suc k < j → j ≤ top → i < K → read_at G m (way_at way j) i ≡ read_at G ws (way_at way j) i

    -- the frame's entry is cleared
    pub clear_first : (k : ℕ) → low ≤ k → k < top → Cleared k (set ws (slot G (way_at way (suc k)) (ix k)) 0)
    clear_first k ll l = record {
      size = length-set ws (slot G (way_at way (suc k)) (ix k)) 0 ∙ long;
      here = λ i b. memories.rd_wr G Z area top al ws (way_at way (suc k)) (ix k) 0 long (tables (suc k) (omega arith) l) (ix_lt k) (way_at way (suc k)) i b;
      above = λ j i a b c. memories.rd_wr G Z area top al ws (way_at way (suc k)) (ix k) 0 long (tables (suc k) (omega arith) l) (ix_lt k) (way_at way j) i c
          ∙ upd_other (read_at G ws) (way_at way (suc k)) (ix k) 0 (way_at way j) i (λ s. apart (suc k) j (omega arith) a b (sym s.0));
    }

    -- one entry further up
    clear_next : (k : ℕ) (m : List ℕ) → low ≤ k → suc k < top → Cleared k m → Cleared (suc k) (set m (slot G (way_at way (suc (suc k))) (ix (suc k))) 0)
    clear_next k m ll l C = record {
      size = length-set m (slot G (way_at way (suc (suc k))) (ix (suc k))) 0 ∙ C.size;
      here = λ i b. written i b (ℕ_discrete i (ix (suc k)));
      above = λ j i a b c. wr (way_at way j) i c ∙ upd_other (read_at G m) t (ix (suc k)) 0 (way_at way j) i (λ s. apart (suc (suc k)) j (omega arith) a b (sym s.0)) ∙ C.above j i (omega arith) b c;
    }
      where
        t : ℕ
        t = way_at way (suc (suc k))

        wr : (t' i' : ℕ) → i' < K → read_at G (set m (slot G t (ix (suc k))) 0) t' i' ≡ upd (read_at G m) t (ix (suc k)) 0 t' i'
        wr t' i' b = memories.rd_wr G Z area top al m t (ix (suc k)) 0 C.size (tables (suc (suc k)) (omega arith) l) (ix_lt (suc k)) t' i' b

        written : (i : ℕ) → i < K → Dec (i ≡ ix (suc k)) → read_at G (set m (slot G t (ix (suc k))) 0) t i ≡ upd (read_at G ws) t (ix (suc k)) 0 t i
        written i b (yes e) = wr t i b ∙ upd_at (read_at G m) t (ix (suc k)) 0 t i (refl, e) ∙ sym (upd_at (read_at G ws) t (ix (suc k)) 0 t i (refl, e))
        written i b (no d) = wr t i b ∙ upd_other (read_at G m) t (ix (suc k)) 0 t i (λ s. d s.1) ∙ C.above (suc (suc k)) i (omega arith) l b ∙ sym (upd_other (read_at G ws) t (ix (suc k)) 0 t i (λ s. d s.1))

    -- the words of a table with one entry cleared
    set_part : (t i₀ i : ℕ) → t < total area → i < K → get_or (set (part ws (slot G t 0) K) i₀ 0) i 0 ≡ upd (read_at G ws) t i₀ 0 t i
    set_part t i₀ i l b = go (ℕ_discrete i i₀)
      where
        go : Dec (i ≡ i₀) → get_or (set (part ws (slot G t 0) K) i₀ 0) i 0 ≡ upd (read_at G ws) t i₀ 0 t i
        go (yes e) = ap (λ (j : ℕ). get_or (set (part ws (slot G t 0) K) i₀ 0) j 0) e
            ∙ get_or-set_same (part ws (slot G t 0) K) i₀ 0 0 (omega (arith, length_part ws (slot G t 0) K (omega (arith, table_ends K l))))
            ∙ sym (upd_at (read_at G ws) t i₀ 0 t i (refl, e))
        go (no d) = get_or-set_other (part ws (slot G t 0) K) i₀ i 0 0 d ∙ get_d_part ws (slot G t 0) K i b ∙ ap (λ (j : ℕ). get_or ws j 0) (omega arith) ∙ sym (upd_other (read_at G ws) t i₀ 0 t i (λ s. d s.1))

    -- a table with no entry but the path's is one that is all zero once that is cleared
    only_bare : (k : ℕ) (m : List ℕ) → low ≤ k → k < top → Cleared k m → only_entry G ws (way_at way (suc k)) (ix k) ≡ true → Bare (read_at G m) (way_at way (suc k)) K
    unfolding only_entry
    only_bare k m ll l C e i b = C.here i b ∙ sym (set_part (way_at way (suc k)) (ix k) i (tables (suc k) (omega arith) l) b) ∙ all_zero_at (set (part ws (slot G (way_at way (suc k)) 0) K) (ix k) 0) e i

    bare_only : (k : ℕ) (m : List ℕ) → low ≤ k → k < top → Cleared k m → Bare (read_at G m) (way_at way (suc k)) K → only_entry G ws (way_at way (suc k)) (ix k) ≡ true
    unfolding only_entry
    bare_only k m ll l C e = all_zero_of (set (part ws (slot G t 0) K) (ix k) 0) (λ i b. let c : i < K = omega (arith, size) in set_part t (ix k) i tn c ∙ sym (C.here i c) ∙ e i c)
      where
        t : ℕ
        t = way_at way (suc k)

        tn : t < total area
        tn = tables (suc k) (omega arith) l

        size : length (set (part ws (slot G t 0) K) (ix k) 0) ≡ K
        size = length-set (part ws (slot G t 0) K) (ix k) 0 ∙ length_part ws (slot G t 0) K (omega (arith, table_ends K tn))

    -- what the pruning's writes leave is what pruning leaves
    abbrev pub Carried : ℕ → ℕ → List ℕ → List ℕ → ℕ → Type 0
    Carried d k m l f = let c = freed G ws way path k d in let o = perform_all G (prune_writes G way path k f c) (memory m l) in
        pool {A = A} o.words o.list (f + c) ≡ prune X A v (way_at way) d (suc k) m l f

    pub prune_carried : (d k : ℕ) (m l : List ℕ) (f : ℕ) → low ≤ k → suc k + d ≡ top → Cleared k m → Carried d k m l f
    unfolding prune freed prune_writes perform_all
    prune_carried zero k m l f ll e C = ap (λ (j : ℕ). pool {A = A} m l j) (omega arith)
    prune_carried (suc d) k m l f ll e C =
        rw (way_is k (omega arith), spot k (omega arith))
        (go (only_entry G ws (way_at way (suc k)) (ix k)) (bare? (read_at G m) (way_at way (suc k)) K) (only_bare k m ll (omega arith) C) (bare_only k m ll (omega arith) C)
        (prune_carried d (suc k) m' (set l f (way_at way (suc k))) (suc f) (omega arith) (omega arith) (clear_next k m ll (omega arith) C)))
      where
        m' : List ℕ
        m' = set m (slot G (way_at way (suc (suc k))) (ix (suc k))) 0

        go : (b : Bool) (q : Dec (Bare (read_at G m) (way_at way (suc k)) K)) → (b ≡ true → Bare (read_at G m) (way_at way (suc k)) K) → (Bare (read_at G m) (way_at way (suc k)) K → b ≡ true)
            → Carried d (suc k) m' (set l f (way_at way (suc k))) (suc f)
            → let c = cond b (suc (freed G ws way path (suc k) d)) 0 in
            pool {A = A} (perform_all G (prune_writes G way path k f c) (memory m l)).words (perform_all G (prune_writes G way path k f c) (memory m l)).list (f + c)
            ≡ ite q (prune X A v (way_at way) d (suc (suc k)) m' (set l f (way_at way (suc k))) (suc f)) (pool m l f)
        go true (yes p) x y ih =
            rw (way_is (suc k) (omega arith), spot (suc k) (omega arith), way_is k (omega arith))
            (ap (λ (j : ℕ). pool {A = A} done.words done.list j) (omega arith) ∙ ih)
          where
            done : Memory
            done = perform_all G (prune_writes G way path (suc k) (suc f) (freed G ws way path (suc k) d)) (memory m' (set l f (way_at way (suc k))))
        go true (no p) x y ih = absurd (p (x refl))
        go false (yes p) x y ih = absurd (false≢true (y p))
        go false (no p) x y ih = ap (λ (j : ℕ). pool {A = A} m l j) (omega arith)
