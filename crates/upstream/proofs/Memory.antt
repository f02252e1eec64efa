-- pt_mem.rs and table.rs. Where tables stand, what one write changes, which tables map takes and which unmap gives back.
use Rattle.std.specs.Prelude.{◌≡◌, ◌≢◌, ◌⊎◌, ◌↔◌, true, ℕ, zero, suc, ◌+◌, ◌-◌, ◌*◌, ◌%◌, ◌≤◌, ◌<◌, min, length, get_or, set, replicate, drop}
use Rattle.std.proofs.Math.Path.{refl, sym, subst}
use Rattle.std.proofs.Common.{ap, ◌∙◌, inl, inr, ⊎_elim, arith, length-take, length-drop, get_or-set_other, get_or-take, length-take-le}
use mathlib.Core.List.Memᴰ
use mathlib.Core.List.Memᴰ.{head as here}
use mathlib.Core.List.Memᴰ.{tail as there}
use mathlib.Core.List.{List, [], ◌∷◌, Memᴰ}
use Rattle.std.proofs.Math.Decide.{dec_lt}
use Rattle.laws.specs.Lists.{part, zeroed, all_zero}
use Rattle.laws.specs.ListLaws.{length_part, part_set, part_set_before, part_set_after, part_zeroed, part_zeroed_before, part_zeroed_after, get_d_zeroed_before, get_d_zeroed_after, all_zero_part_at, all_zero_part_of, mem_at, at_mem}
use Rattle.path.specs.Geometry.{Granule, page_size, entries, physical, height_of, Sane}
use Rattle.path.specs.Areas.{Area, area_of, total, table_at, GoodArea}
use Rattle.path.specs.Numbers.{GoodNumbers}
use Rattle.path.specs.Laws as area_laws
use Rattle.path.specs.Laws.{good_setup_lem}
use Rattle.path.specs.Paths.{path_of}
use Rattle.entry.specs.Words.{entry_at, frame_word, table_word}
use Rattle.entry.proofs.Laws.{entry_zero, empty_only}
use Rattle.entry.specs.declared.Entry.TheVariants.{Empty}
use Rattle.model.specs.Answers.{Mapping, took, gave, Pool, Done}
use Rattle.model.specs.declared.Walked.{Walked}
use Rattle.model.specs.Walk.{slot, at_height}
use Rattle.model.specs.Writes.{Write, store, wipe, give, Memory, memory, perform, perform_all, map_writes, prune_writes}
use Rattle.model.specs.Calls.{good_pool, walk_to, written, map_w, unmap_w}
use Rattle.model.specs.Audit.{table_words, free_of}
use Rattle.model.specs.Sound.{EmptyTable, word_at, reached_of}
use Rattle.model.specs.Ledger.{Ledger, map_l, unmap_l}
use Rattle.demand.specs.Memories.{place_at, table_ends}
use Rattle.model.proofs.LeftLaws.{performed_length}
use Rattle.demand.specs.Holds.{Holds}
use Rattle.demand.specs.Sims.{holds_sim, reached_is}
use Rattle.demand.specs.Demand3.{map_c, unmap_c, Rests}
use Rattle.demand.specs.Theorem.{rests, step_holds}
use Rattle.upstream.specs.State.{Overlap}
use Rattle.upstream.proofs.Calls.{map_does, map_took, unmap_does, unmap_gave}
use Rattle.upstream.specs.Calls.{lacking, writes_of_map, giving, writes_of_unmap}
use Rattle.upstream.specs.Remove.{removed}
use Rattle.upstream.specs.Memory.{MemoryWf, Names}

module _ (G : Granule) (area : Area) where
  -- `wf`: each table is aligned to its size
  pub table_aligned : GoodArea G area → (t : ℕ) → t < total area → table_at G area t % page_size G ≡ 0
  table_aligned e t l = area_laws.table_aligned G area e t l

  -- `wf`: two tables do not overlap, in one region or in two
  pub tables_apart : GoodArea G area → (t u : ℕ) → t < total area → u < total area → t ≢ u
      → Overlap (table_at G area t) (page_size G) (table_at G area u) (page_size G) → ⊥
  tables_apart e t u l k d (a, b) = ⊎_elim (λ x. omega arith) (λ x. omega arith) (area_laws.tables_apart G area e t u l k d)

  -- `alloc_table_spec`: each table ends at 2^48 or below
  pub table_fits : GoodArea G area → (t : ℕ) → t < total area → table_at G area t + page_size G ≤ physical
  table_fits e t l = area_laws.table_fits G area e t l

-- good numbers make it so
pub memory_wf : (G : Granule) (p : Pool) → good_pool G p ≡ true → MemoryWf G (area_of p.numbers) p.words
memory_wf G p good = record {
  root = omega (arith, N.some_table);
  aligned = table_aligned G (area_of p.numbers) N.placed;
  apart = tables_apart G (area_of p.numbers) N.placed;
  words = λ t l. length_part p.words (slot G t 0) (entries G) (omega (arith, N.words_are, table_ends (entries G) l));
}
  where
    N : GoodNumbers G p.numbers.levels (area_of p.numbers) p.cut (length p.words) (length p.list)
    N = (good_setup_lem good).numbers

-- a table has as many words in memory of the same length
same_part : (G : Granule) (ws vs : List ℕ) (t : ℕ) → length vs ≡ length ws → length (table_words G vs t) ≡ length (table_words G ws t)
unfolding part
same_part G ws vs t e =
    length-take (entries G) (drop (slot G t 0) vs)
    ∙ ap (min (entries G)) (length-drop (slot G t 0) vs ∙ ap (λ (n : ℕ). n - slot G t 0) e ∙ sym (length-drop (slot G t 0) ws))
    ∙ sym (length-take (entries G) (drop (slot G t 0) ws))

-- lemma_alloc_table_preserves_wf, lemma_dealloc_table_preserves_wf, lemma_write_preserves_wf: whatever is written, in whatever pool
pub writes_preserve_wf : (G : Granule) (area : Area) (xs : List Write) (m : Memory) → MemoryWf G area m.words → MemoryWf G area (perform_all G xs m).words
writes_preserve_wf G area xs m w = record {
  root = w.root;
  aligned = w.aligned;
  apart = w.apart;
  words = λ t l. same_part G m.words (perform_all G xs m).words t (performed_length G xs m) ∙ w.words t l;
}

-- map and unmap keep it, whatever the pool, and whatever is answered
pub map_memory_wf : (G : Granule) (p : Pool) (a b size k : ℕ) → MemoryWf G (area_of p.numbers) p.words → MemoryWf G (area_of p.numbers) (map_w G p a b size k).after.words
map_memory_wf G p a b size k w =
    ⊎_elim (λ (_, q). subst (λ (d : Done). MemoryWf G (area_of p.numbers) d.after.words) (sym q) w)
    (λ (_, _, q). subst (λ (d : Done). MemoryWf G (area_of p.numbers) d.after.words) (sym q) (writes_preserve_wf G (area_of p.numbers) (writes_of_map G p a b size k) (memory p.words p.list) w))
    (map_does G p a b size k)

pub unmap_memory_wf : (G : Granule) (p : Pool) (a : ℕ) → MemoryWf G (area_of p.numbers) p.words → MemoryWf G (area_of p.numbers) (unmap_w G p a).after.words
unmap_memory_wf G p a w =
    ⊎_elim (λ (_, _, q). subst (λ (d : Done). MemoryWf G (area_of p.numbers) d.after.words) (sym q) w)
    (λ (_, _, _, _, q). subst (λ (d : Done). MemoryWf G (area_of p.numbers) d.after.words) (sym q) (writes_preserve_wf G (area_of p.numbers) (writes_of_unmap G p a) (memory p.words p.list) w))
    (unmap_does G p a)

-- ---- one table's words

module _ (G : Granule) (ws : List ℕ) where
  -- where a table's words begin, and its entry i
  place : (t i : ℕ) → slot G t 0 + i ≡ slot G t i
  place t i = omega arith

  -- lemma_write_facts: the table has the word at the index
  pub write_here : (t i x : ℕ) → i < entries G → table_words G (set ws (slot G t i) x) t ≡ set (table_words G ws t) i x
  write_here t i x l = ap (λ (j : ℕ). part (set ws j x) (slot G t 0) (entries G)) (sym (place t i)) ∙ part_set ws (slot G t 0) (entries G) i x l

  -- lemma_write_facts: every other table stays
  pub write_other : (t i x u : ℕ) → i < entries G → u ≢ t → table_words G (set ws (slot G t i) x) u ≡ table_words G ws u
  write_other t i x u l d = go (dec_lt t u)
    where
      go : Dec (t < u) → table_words G (set ws (slot G t i) x) u ≡ table_words G ws u
      go (yes k) = part_set_before ws (slot G u 0) (entries G) (slot G t i) x (omega (arith, table_ends (entries G) k))
      go (no k) = let m : u < t = omega arith in part_set_after ws (slot G u 0) (entries G) (slot G t i) x (omega (arith, table_ends (entries G) m))

  -- `Table::clear`, `alloc_table_spec`: a table that is wiped has only zeros
  pub wipe_here : (n t : ℕ) → length ws ≡ entries G * n → t < n → table_words G (zeroed ws (slot G t 0) (entries G)) t ≡ replicate (entries G) 0
  wipe_here n t e l = part_zeroed ws (slot G t 0) (entries G) (omega (arith, table_ends (entries G) l))

  -- and every other table stays
  pub wipe_other : (t u : ℕ) → u ≢ t → table_words G (zeroed ws (slot G t 0) (entries G)) u ≡ table_words G ws u
  wipe_other t u d = go (dec_lt t u)
    where
      go : Dec (t < u) → table_words G (zeroed ws (slot G t 0) (entries G)) u ≡ table_words G ws u
      go (yes k) = part_zeroed_after ws (slot G t 0) (entries G) (slot G u 0) (entries G) (omega (arith, table_ends (entries G) k))
      go (no k) = let m : u < t = omega arith in part_zeroed_before ws (slot G t 0) (entries G) (slot G u 0) (entries G) (omega (arith, table_ends (entries G) m))

  -- `spec_is_empty`, lemma_frame4k_to_u64_seq: the test for zeros says that each word is 0
  pub table_empty : (t : ℕ) → (all_zero (table_words G ws t) ≡ true) ↔ EmptyTable G ws t
  table_empty t = (
    λ e i l. ap (λ (j : ℕ). get_or ws j 0) (sym (place t i)) ∙ all_zero_part_at ws (slot G t 0) (entries G) e i l,
    λ f. all_zero_part_of ws (slot G t 0) (entries G) (λ i l. ap (λ (j : ℕ). get_or ws j 0) (place t i) ∙ f i l),
  )

  -- pt.rs `is_table_empty`: and so, that each entry is empty, whatever the table's height
  pub is_table_empty : Sane G → (area : Area) (h t : ℕ) → (all_zero (table_words G ws t) ≡ true) ↔ ((i : ℕ) → i < entries G → entry_at G area h (word_at G ws t i) ≡ Empty)
  is_table_empty Z area h t = (
    λ e i l. ap (entry_at G area h) ((table_empty t).0 e i l) ∙ entry_zero G area h,
    λ f. (table_empty t).1 (λ i l. empty_only Z area h (word_at G ws t i) (f i l)),
  )

-- `write`, `dealloc_table_spec`: the words that no write names stay
pub others_stay : (G : Granule) (ws : List Write) (m : Memory) (j : ℕ) → ((w : Write) → Memᴰ w ws → Names G w j → ⊥) → get_or (perform_all G ws m).words j 0 ≡ get_or m.words j 0
unfolding perform_all
others_stay G [] m j f = refl
others_stay G (w ∷ ws) m j f = others_stay G ws (perform G w m) j (λ v i. f v (there i)) ∙ one w (f w (here refl))
  where
    one : (w : Write) → (Names G w j → ⊥) → get_or (perform G w m).words j 0 ≡ get_or m.words j 0
    one (store i x) d = get_or-set_other m.words i j x 0 d
    one (give i t) d = refl
    one (wipe t) d = go (dec_lt j (slot G t 0))
      where
        go : Dec (j < slot G t 0) → get_or (zeroed m.words (slot G t 0) (entries G)) j 0 ≡ get_or m.words j 0
        go (yes l) = get_d_zeroed_before m.words (slot G t 0) (entries G) j l
        go (no l) = get_d_zeroed_after m.words (slot G t 0) (entries G) j (past (dec_lt j (slot G t 0 + entries G)))
          where
            past : Dec (j < slot G t 0 + entries G) → slot G t 0 + entries G ≤ j
            past (yes k) = absurd (d (omega arith, k))
            past (no k) = omega arith

-- map's writes leave the free list as it is
map_list_stays : (G : Granule) (area : Area) (path list : List ℕ) (g word t f need : ℕ) (m : Memory) → (perform_all G (map_writes G area path list g word t f need) m).list ≡ m.list
unfolding perform_all map_writes
map_list_stays G area path list g word t f zero m = refl
map_list_stays G area path list g word t f (suc need) m =
    let c = get_or list (f - 1) 0 in
    map_list_stays G area path list g word c (f - 1) need (memory (set (zeroed m.words (slot G c 0) (entries G)) (slot G t (at_height path (suc need + g))) (table_word G area c)) m.list)

-- pruning's writes leave the places below the free count
prune_list_stays : (G : Granule) (way path : List ℕ) (h f k : ℕ) (m : Memory) (i : ℕ) → i < f → get_or (perform_all G (prune_writes G way path h f k) m).list i 0 ≡ get_or m.list i 0
unfolding perform_all prune_writes
prune_list_stays G way path h f zero m i l = refl
prune_list_stays G way path h f (suc k) m i l =
    prune_list_stays G way path (suc h) (suc f) k (memory (set m.words (slot G (at_height way (suc h)) (at_height path (suc h))) 0) (set m.list f (at_height way h))) i (omega arith)
    ∙ get_or-set_other m.list f i (at_height way h) 0 (λ e. omega arith)

-- ---- taking and giving back

module _ (G : Granule) (Z : Sane G) where
  module _ {p : Pool} {A : Ledger} (H : Holds G p A) where
    rest : Rests G p A
    rest = rests G Z (holds_sim G Z H)

    -- the places of the free list that count, and what stands there
    free_in : p.numbers.free ≤ length p.list
    free_in = omega (arith, H.good.numbers.places_are, H.good.room)

    place_free : (i : ℕ) → i < p.numbers.free → Memᴰ (place_at p.list i) (free_of p)
    place_free i l = Memᴰ.cast (sym (get_or-take p.numbers.free p.list i 0 l)) (at_mem (free_of p) i (omega (arith, length-take-le p.numbers.free p.list free_in)))

    free_place : (c : ℕ) → Memᴰ c (free_of p) → (i : ℕ) × (i < p.numbers.free) × (place_at p.list i ≡ c)
    free_place c m =
        let (i, l, e) = mem_at (free_of p) m in
        let k : i < p.numbers.free = omega (arith, length-take-le p.numbers.free p.list free_in) in
        (i, k, sym (get_or-take p.numbers.free p.list i 0 k) ∙ e)

    -- the root is reached
    root_reached : Memᴰ 0 (reached_of G p)
    root_reached = subst (λ (l : List ℕ). Memᴰ 0 l) (sym (reached_is G Z p H.good)) (here refl)

    -- `alloc_table_spec`, `dealloc_table_spec`: a free table is one of the pool's, not the root, not reached, and has only zeros
    pub free_table : (i : ℕ) → i < p.numbers.free → let c = get_or p.list i 0 in (c ≢ 0) × (c < total (area_of p.numbers)) × (Memᴰ c (reached_of G p) → ⊥) × EmptyTable G p.words c
    free_table i l =
        let m = place_free i l in
        let s = H.sound in
        let apart = s.free_apart (place_at p.list i) m in
        (λ e. apart (Memᴰ.cast e root_reached), s.free_range (place_at p.list i) m, apart, s.free_zero (place_at p.list i) m)

    -- a table of the pool is reached or free, and not both
    either : (c : ℕ) → c < total (area_of p.numbers) → Memᴰ c (reached_of G p) ⊎ ((i : ℕ) × (i < p.numbers.free) × (place_at p.list i ≡ c))
    either c l = ⊎_elim (λ m. inl m) (λ m. inr (free_place c m)) (Memᴰ.append_cases (reached_of G p) ((rest.all c).1 (rw (← ap total H.area_is) l)))

    reached_low : (c : ℕ) → Memᴰ c (reached_of G p) → c < total (area_of p.numbers)
    reached_low c m = rw (ap total H.area_is) ((rest.all c).0 (Memᴰ.append_left (free_of p) m))

    both : (c i : ℕ) → Memᴰ c (reached_of G p) → i < p.numbers.free → place_at p.list i ≡ c → ⊥
    both c i m l e = H.sound.free_apart c (Memᴰ.cast (sym e) (place_free i l)) m

  -- of two pools of the same tables, whose free lists agree as far as the shorter counts, the one with fewer free tables reaches those that the other
  -- reaches and those that only the other has free
  reached_more : {p q : Pool} {A B : Ledger} → Holds G p A → Holds G q B → total (area_of p.numbers) ≡ total (area_of q.numbers) → q.numbers.free ≤ p.numbers.free
      → ((i : ℕ) → i < q.numbers.free → place_at q.list i ≡ place_at p.list i)
      → (c : ℕ) → Memᴰ c (reached_of G q) ↔ (Memᴰ c (reached_of G p) ⊎ ((i : ℕ) × (q.numbers.free ≤ i) × (i < p.numbers.free) × (get_or p.list i 0 ≡ c)))
  reached_more {p} {q} H K n l same c = (from, to)
    where
      from : Memᴰ c (reached_of G q) → Memᴰ c (reached_of G p) ⊎ ((i : ℕ) × (q.numbers.free ≤ i) × (i < p.numbers.free) × (place_at p.list i ≡ c))
      from m = ⊎_elim (λ r. inl r) (λ (i, k, e). inr (i, past i e (dec_lt i q.numbers.free), k, e)) (either H c (omega (arith, reached_low K c m)))
        where
          past : (i : ℕ) → place_at p.list i ≡ c → Dec (i < q.numbers.free) → q.numbers.free ≤ i
          past i e (yes k) = absurd (both K c i m k (same i k ∙ e))
          past i e (no k) = omega arith

      to : Memᴰ c (reached_of G p) ⊎ ((i : ℕ) × (q.numbers.free ≤ i) × (i < p.numbers.free) × (place_at p.list i ≡ c)) → Memᴰ c (reached_of G q)
      to (inl m) = ⊎_elim (λ r. r) (λ (i, k, e). absurd (both H c i m (omega arith) (sym (same i k) ∙ e))) (either K c (omega (arith, reached_low H c m)))
      to (inr (i, a, b, e)) = ⊎_elim (λ r. r) (λ (j, k, f). absurd (omega (arith, ((holds_sim G Z H).inv.spare tt).free.once i j b (omega arith) (e ∙ sym f ∙ same j k))))
          (either K c (subst (λ (x : ℕ). x < total (area_of q.numbers)) e (subst (λ (x : ℕ). place_at p.list i < x) n (free_table H i b).1)))

  module _ {p : Pool} {A : Ledger} (H : Holds G p A) where
    -- alloc_table: the tables that a map takes are the last t free ones; they are reached after it, and no other that was not before
    pub map_takes : (m : Mapping) (t : ℕ) → (map_w G p m.at m.frame m.size m.attributes).answer ≡ took t
        → (c : ℕ) → Memᴰ c (reached_of G (map_w G p m.at m.frame m.size m.attributes).after)
        ↔ (Memᴰ c (reached_of G p) ⊎ ((i : ℕ) × (p.numbers.free - t ≤ i) × (i < p.numbers.free) × (get_or p.list i 0 ≡ c)))
    map_takes m t e = subst (λ (q : Pool). Taken q) (sym after) (reached_more H (subst (λ (q : Pool). Holds G q next) after K) refl (omega arith)
        (λ i l. ap (λ (z : List ℕ). place_at z i) (map_list_stays G (area_of p.numbers) (path_of G m.at) p.list g (frame_word m.frame g m.attributes)
        (at_height o.tables o.left) p.numbers.free (lacking G p m.at m.size) (memory p.words p.list))))
      where
        g : ℕ
        g = height_of G m.size

        o : Walked
        o = walk_to G p g m.at

        next : Ledger
        next = (map_l G A m.at m.frame m.size m.attributes).after

        K : Holds G (map_w G p m.at m.frame m.size m.attributes).after next
        K = (step_holds G Z H (map_c m.at m.frame m.size m.attributes)).1

        after : (map_w G p m.at m.frame m.size m.attributes).after ≡ written G p (writes_of_map G p m.at m.frame m.size m.attributes) (p.numbers.free - t)
        after = (map_took G p m.at m.frame m.size m.attributes t e).3

        Taken : Pool → Type 0
        Taken q = (c : ℕ) → Memᴰ c (reached_of G q)
            ↔ (Memᴰ c (reached_of G p) ⊎ ((i : ℕ) × (p.numbers.free - t ≤ i) × (i < p.numbers.free) × (get_or p.list i 0 ≡ c)))

    -- dealloc_table: the tables that an unmap gives back stand at the places from f on; they were reached before it, and no other that is not after
    pub unmap_gives : (a b s x t : ℕ) → (unmap_w G p a).answer ≡ gave b s x t
        → (c : ℕ) → Memᴰ c (reached_of G p)
        ↔ (Memᴰ c (reached_of G (unmap_w G p a).after) ⊎ ((i : ℕ) × (p.numbers.free ≤ i) × (i < p.numbers.free + t) × (get_or (unmap_w G p a).after.list i 0 ≡ c)))
    unfolding perform_all
    unmap_gives a b s x t e = subst (λ (q : Pool). Given q) (sym after) (reached_more (subst (λ (q : Pool). Holds G q (unmap_l G A a).after) after K) H refl (omega arith)
        (λ i l. sym (prune_list_stays G o.tables (path_of G a) o.left p.numbers.free (giving G p a) (memory (removed G p 0 a).words p.list) i l)))
      where
        o : Walked
        o = walk_to G p 0 a

        K : Holds G (unmap_w G p a).after (unmap_l G A a).after
        K = (step_holds G Z H (unmap_c a)).1

        after : (unmap_w G p a).after ≡ written G p (writes_of_unmap G p a) (p.numbers.free + t)
        after = (unmap_gave G p a b s x t e).4

        Given : Pool → Type 0
        Given q = (c : ℕ) → Memᴰ c (reached_of G p)
            ↔ (Memᴰ c (reached_of G q) ⊎ ((i : ℕ) × (p.numbers.free ≤ i) × (i < p.numbers.free + t) × (get_or q.list i 0 ≡ c)))
