-- Laws of the audit: its test is exactly the rules of a sound pool, its counts are those of what it finds, and a fresh pool passes.
use Rattle.std.specs.Prelude.{ℕ, zero, suc, ◌+◌, ◌-◌, ◌<◌, ◌↔◌, ◌≢◌, Bool, ◌&&◌, ◌||◌, not, eqb, ltb, get_or, drop, replicate}
use Rattle.std.proofs.Math.Path.{◌≡◌, refl, ap}
use Rattle.std.proofs.Common.{sym, subst, ◌∙◌, ⊎_elim, true≢false, sub-one, arith, take-append-drop}
use Rattle.std.proofs.Math.Bool.{true, false, cond, and-eq-true_iff}
use Rattle.std.proofs.lemmas.Bool.{false≢true}
use mathlib.Core.List.Memᴰ
use mathlib.Core.List.Memᴰ.{head as here}
use mathlib.Core.List.Memᴰ.{tail as there}
use mathlib.Core.List.{List, [], ◌∷◌, ◌++◌}
use Rattle.std.proofs.Math.Decide.{dec_lt}
use Rattle.std.proofs.Math.ListN.{length, take, get_or-eq_default}
use Rattle.std.proofs.lemmas.List.{length-replicate}
use borrow.Author.Tests.{eq-eqb, eqb-true, eqb-false, lt-ltb, ltb-true, not-true}
use Rattle.laws.specs.Lists.{part, all_zero, distinct, down, Distinct}
use Rattle.laws.specs.ListLaws.{length_part_le, get_d_part, all_zero_at, all_zero_replicate, all_zero_part_at, all_zero_part_of, mem_at, at_mem, distinct_head, distinct_tail, distinct_cons, distinct_append, distinct_left, distinct_right, distinct_apart, length_down, distinct_down}
use Rattle.path.specs.Geometry.{Granule, Sane, entries, size_at}
use Rattle.path.specs.Areas.{Area, area_of, total, meets_area}
use Rattle.path.specs.Numbers.{no_setup, setup_of, good_numbers, GoodNumbers}
use Rattle.path.specs.Laws.{good_numbers_lem, good_setup_lem, setup_good, meets_apart, apart_meets}
use Rattle.entry.specs.Words.{entry_at}
use Rattle.entry.proofs.Laws.{entry_zero, table_only}
use Rattle.entry.specs.declared.Entry.{Entry}
use Rattle.entry.specs.declared.Entry.TheVariants.{Empty, Table, Frame, Damaged}
use Rattle.model.specs.Answers.{Mapping, formatted, audited, refused, Pool, pool, Done, done, refuse}
use Rattle.model.specs.Walk.{slot}
use Rattle.model.specs.Calls.{good_pool, format_w}
use Rattle.model.specs.Audit.{Found, nothing, table_words, of_entry, of_entries, of_visit, of_table, of_pool, free_of, free_sound, none_inside, sound_pool, audit_w}
use Rattle.model.specs.Sound.{Each, word_at, SoundEntry, SoundTable, EmptyTable, reached_of, mappings_of, OffTables, SoundPool}
use Rattle.model.specs.AuditLaws.{node}

-- ---- each member of a list

module _ {A : Type 0} (P : A → Type 0) where
  pub each_nil : Each P []
  each_nil a m = absurd (Memᴰ.not-nil m)

  pub each_append : (l k : List A) → Each P l → Each P k → Each P (l ++ k)
  each_append l k p q a m = ⊎_elim (p a) (q a) (Memᴰ.append_cases l m)

  pub each_one : (a : A) → P a → Each P (a ∷ [])
  each_one a p b m = ⊎_elim (λ e. subst P (sym e) p) (λ k. absurd (Memᴰ.not-nil k)) (Memᴰ.cases_cons m)

  pub each_cons : (a : A) (l : List A) → P a → Each P l → Each P (a ∷ l)
  each_cons a l p q = each_append (a ∷ []) l (each_one a p) q

  each_left : (l k : List A) → Each P (l ++ k) → Each P l
  each_left l k h a m = h a (Memᴰ.append_left k m)

  each_right : (l k : List A) → Each P (l ++ k) → Each P k
  each_right l k h a m = h a (Memᴰ.append_right l m)

-- ---- distinct lists, by their test

pub distinct_back : (l : List ℕ) → distinct l ≡ true → Distinct l
distinct_back [] e = tt
distinct_back (x ∷ l) e = (distinct_head x l e, distinct_back l (distinct_tail x l e))

pub distinct_some : (l : List ℕ) → Distinct l → distinct l ≡ true
unfolding distinct
distinct_some [] d = refl
distinct_some (x ∷ l) d = distinct_cons x l d.0 (distinct_some l d.1)

-- ---- a table's words

module _ (Q : ℕ → Type 0) (ws : List ℕ) (at k : ℕ) where
  -- what holds of each number of a part, and of 0, holds at each place of it, past the end of the list too
  part_each : Q 0 → Each Q (part ws at k) → (i : ℕ) → i < k → Q (get_or ws (at + i) 0)
  part_each z q i l = subst Q (get_d_part ws at k i l) (go (dec_lt i (length (part ws at k))))
    where
      go : Dec (i < length (part ws at k)) → Q (get_or (part ws at k) i 0)
      go (yes m) = q _ (at_mem (part ws at k) i m)
      go (no n) = subst Q (sym (get_or-eq_default (part ws at k) 0 (omega arith))) z

  each_part : ((i : ℕ) → i < k → Q (get_or ws (at + i) 0)) → Each Q (part ws at k)
  each_part q x m =
      let (i, l, e) = mem_at (part ws at k) m in
      let h : i < k = omega (arith, length_part_le ws at k) in
      subst Q (sym (get_d_part ws at k i h) ∙ e) (q i h)

-- entry i of a table is word i of its part
word_part : (G : Granule) (ws : List ℕ) (t i : ℕ) → get_or ws (slot G t 0 + i) 0 ≡ word_at G ws t i
word_part G ws t i = ap (λ (j : ℕ). get_or ws j 0) (omega arith)

module _ (G : Granule) (ws : List ℕ) (t : ℕ) where
  zero_back : all_zero (table_words G ws t) ≡ true → EmptyTable G ws t
  zero_back e i l = sym (word_part G ws t i) ∙ all_zero_part_at ws (slot G t 0) (entries G) e i l

  zero_some : EmptyTable G ws t → all_zero (table_words G ws t) ≡ true
  zero_some f = all_zero_part_of ws (slot G t 0) (entries G) (λ i l. word_part G ws t i ∙ f i l)

  -- the visit's test: not empty, unless it is the root
  visit_back : (of_visit (table_words G ws t) t).full ≡ true → t ≢ 0 → EmptyTable G ws t → ⊥
  visit_back e n z = go (eqb t 0) (all_zero (table_words G ws t)) refl refl e
    where
      go : (a b : Bool) → eqb t 0 ≡ a → all_zero (table_words G ws t) ≡ b → (a || not b) ≡ true → ⊥
      go true b p q e = n (eqb-true t 0 p)
      go false true p q e = false≢true e
      go false false p q e = true≢false (sym (zero_some z) ∙ q)

  visit_some : (t ≢ 0 → EmptyTable G ws t → ⊥) → (of_visit (table_words G ws t) t).full ≡ true
  visit_some f = go (eqb t 0) (all_zero (table_words G ws t)) refl refl
    where
      go : (a b : Bool) → eqb t 0 ≡ a → all_zero (table_words G ws t) ≡ b → (a || not b) ≡ true
      go true b p q = refl
      go false true p q = absurd (f (eqb-false t 0 p) (zero_back q))
      go false false p q = refl

-- the tables reached are in the pool
module _ {G : Granule} (S : Sane G) (ws : List ℕ) (area : Area) (h : ℕ) (below : ℕ → ℕ → Found)
    (f : (c v : ℕ) → c < total area → Each (λ t. t < total area) (below c v).reached) where
  low_entry : (v w : ℕ) (e : Entry) → entry_at G area h w ≡ e → Each (λ t. t < total area) (of_entry G h v below e).reached
  low_entry v w Empty q = each_nil (λ t. t < total area)
  low_entry v w (Table c) q = f c v (table_only S area h w q).2
  low_entry v w (Frame b k) q = each_nil (λ t. t < total area)
  low_entry v w Damaged q = each_nil (λ t. t < total area)

  low_entries : (v : ℕ) (l : List ℕ) → Each (λ t. t < total area) (of_entries G area h v below l).reached
  unfolding of_entries
  low_entries v [] = each_nil (λ t. t < total area)
  low_entries v (w ∷ l) = each_append (λ t. t < total area) _ _ (low_entry v w _ refl) (low_entries (v + size_at G h) l)

  low_node : (t v : ℕ) → t < total area → Each (λ u. u < total area) (node G ws area h below t v).reached
  low_node t v l = each_cons (λ u. u < total area) t _ l (low_entries v (table_words G ws t))

pub reached_low : {G : Granule} → Sane G → (ws : List ℕ) (area : Area) (h t v : ℕ) → t < total area → Each (λ u. u < total area) (of_table G ws area h t v).reached
unfolding of_table
reached_low S ws area zero = low_node S ws area zero (λ _ _. nothing false) (λ c u _. each_nil (λ x. x < total area))
reached_low {G} S ws area (suc h) = low_node S ws area (suc h) (λ c u. of_table G ws area h c u) (reached_low S ws area h)

-- the tables reached are in a pool with good numbers
pub pool_reached_low : {G : Granule} → Sane G → (p : Pool) → good_pool G p ≡ true → Each (λ t. t < total (area_of p.numbers)) (reached_of G p)
pool_reached_low S p g =
    reached_low S p.words (area_of p.numbers) (p.numbers.levels - 1) 0 0 (omega (arith, (good_setup_lem g).numbers.some_table))

-- a table of the tree is not empty, unless it is the root
abbrev Used : Granule → List ℕ → ℕ → Type 0
Used G ws t = t ≢ 0 → EmptyTable G ws t → ⊥

module _ (G : Granule) (ws : List ℕ) (area : Area) (h : ℕ) (below : ℕ → ℕ → Found) where
  module _ (S : ℕ → Type 0) where
    abbrev SoundWord : ℕ → Type 0
    SoundWord w = SoundEntry S (entry_at G area h w)

    -- where all is well, the entries are sound,
    module _ (f : (c v : ℕ) → (below c v).ok ≡ true → S c) where
      entry_back : (v : ℕ) (e : Entry) → (of_entry G h v below e).ok ≡ true → SoundEntry S e
      entry_back v Empty o = tt
      entry_back v (Table c) o = f c v o
      entry_back v (Frame b k) o = tt
      entry_back v Damaged o = absurd (false≢true o)

      entries_back : (v : ℕ) (l : List ℕ) → (of_entries G area h v below l).ok ≡ true → Each SoundWord l
      unfolding of_entries
      entries_back v [] o = each_nil SoundWord
      entries_back v (w ∷ l) o =
          let (a, b) = (and-eq-true_iff _ _).0 o in
          each_cons SoundWord w l (entry_back v (entry_at G area h w) a) (entries_back (v + size_at G h) l b)

      node_back : (t v : ℕ) → (node G ws area h below t v).ok ≡ true → (i : ℕ) → i < entries G → SoundWord (word_at G ws t i)
      node_back t v o i l =
          let s = entries_back v (table_words G ws t) o in
          let z : SoundWord 0 = subst (SoundEntry S) (sym (entry_zero G area h)) tt in
          subst SoundWord (word_part G ws t i) (part_each SoundWord ws (slot G t 0) (entries G) z s i l)

    -- and the other way round
    module _ (f : (c v : ℕ) → S c → (below c v).ok ≡ true) where
      entry_some : (v : ℕ) (e : Entry) → SoundEntry S e → (of_entry G h v below e).ok ≡ true
      entry_some v Empty s = refl
      entry_some v (Table c) s = f c v s
      entry_some v (Frame b k) s = refl
      entry_some v Damaged s = absurd s

      entries_some : (v : ℕ) (l : List ℕ) → Each SoundWord l → (of_entries G area h v below l).ok ≡ true
      unfolding of_entries
      entries_some v [] s = refl
      entries_some v (w ∷ l) s =
          (and-eq-true_iff _ _).1 (entry_some v (entry_at G area h w) (s w (here refl)), entries_some (v + size_at G h) l (λ x m. s x (there m)))

      node_some : (t v : ℕ) → ((i : ℕ) → i < entries G → SoundWord (word_at G ws t i)) → (node G ws area h below t v).ok ≡ true
      node_some t v s =
          entries_some v (table_words G ws t)
          (each_part SoundWord ws (slot G t 0) (entries G) (λ i l. subst SoundWord (sym (word_part G ws t i)) (s i l)))

  -- where no table is empty, those that are reached are in use,
  module _ (f : (c v : ℕ) → (below c v).full ≡ true → Each (Used G ws) (below c v).reached) where
    entry_used : (v : ℕ) (e : Entry) → (of_entry G h v below e).full ≡ true → Each (Used G ws) (of_entry G h v below e).reached
    entry_used v Empty o = each_nil (Used G ws)
    entry_used v (Table c) o = f c v o
    entry_used v (Frame b k) o = each_nil (Used G ws)
    entry_used v Damaged o = each_nil (Used G ws)

    entries_used : (v : ℕ) (l : List ℕ) → (of_entries G area h v below l).full ≡ true → Each (Used G ws) (of_entries G area h v below l).reached
    unfolding of_entries
    entries_used v [] o = each_nil (Used G ws)
    entries_used v (w ∷ l) o =
        let (a, b) = (and-eq-true_iff _ _).0 o in
        each_append (Used G ws) _ _ (entry_used v (entry_at G area h w) a) (entries_used (v + size_at G h) l b)

    node_used : (t v : ℕ) → (node G ws area h below t v).full ≡ true → Each (Used G ws) (node G ws area h below t v).reached
    node_used t v o =
        let (a, b) = (and-eq-true_iff _ _).0 o in
        each_cons (Used G ws) t _ (visit_back G ws t a) (entries_used v (table_words G ws t) b)

  -- and the other way round
  module _ (f : (c v : ℕ) → Each (Used G ws) (below c v).reached → (below c v).full ≡ true) where
    entry_full : (v : ℕ) (e : Entry) → Each (Used G ws) (of_entry G h v below e).reached → (of_entry G h v below e).full ≡ true
    entry_full v Empty u = refl
    entry_full v (Table c) u = f c v u
    entry_full v (Frame b k) u = refl
    entry_full v Damaged u = refl

    entries_full : (v : ℕ) (l : List ℕ) → Each (Used G ws) (of_entries G area h v below l).reached → (of_entries G area h v below l).full ≡ true
    unfolding of_entries
    entries_full v [] u = refl
    entries_full v (w ∷ l) u =
        let e = entry_at G area h w in
        (and-eq-true_iff _ _).1 (
          entry_full v e (each_left (Used G ws) _ _ u),
          entries_full (v + size_at G h) l (each_right (Used G ws) (of_entry G h v below e).reached _ u),
        )

    node_full : (t v : ℕ) → Each (Used G ws) (node G ws area h below t v).reached → (node G ws area h below t v).full ≡ true
    node_full t v u =
        (and-eq-true_iff _ _).1 (
          visit_some G ws t (u t (here refl)),
          entries_full v (table_words G ws t) (each_right (Used G ws) (t ∷ []) _ u),
        )

-- a tree is sound exactly when all is well in it
pub table_back : (G : Granule) (ws : List ℕ) (area : Area) (h t v : ℕ) → (of_table G ws area h t v).ok ≡ true → SoundTable G ws area h t
unfolding of_table SoundTable
table_back G ws area zero = node_back G ws area zero (λ _ _. nothing false) (λ _. ⊥) (λ c v e. absurd (false≢true e))
table_back G ws area (suc h) = node_back G ws area (suc h) (λ c u. of_table G ws area h c u) (λ c. SoundTable G ws area h c) (table_back G ws area h)

pub table_some : (G : Granule) (ws : List ℕ) (area : Area) (h t v : ℕ) → SoundTable G ws area h t → (of_table G ws area h t v).ok ≡ true
unfolding of_table SoundTable
table_some G ws area zero = node_some G ws area zero (λ _ _. nothing false) (λ _. ⊥) (λ c v b. absurd b)
table_some G ws area (suc h) = node_some G ws area (suc h) (λ c u. of_table G ws area h c u) (λ c. SoundTable G ws area h c) (table_some G ws area h)

-- and it is full exactly when its tables are in use
pub table_used : (G : Granule) (ws : List ℕ) (area : Area) (h t v : ℕ) → (of_table G ws area h t v).full ≡ true → Each (Used G ws) (of_table G ws area h t v).reached
unfolding of_table
table_used G ws area zero = node_used G ws area zero (λ _ _. nothing false) (λ c v e. each_nil (Used G ws))
table_used G ws area (suc h) = node_used G ws area (suc h) (λ c u. of_table G ws area h c u) (table_used G ws area h)

pub table_full : (G : Granule) (ws : List ℕ) (area : Area) (h t v : ℕ) → Each (Used G ws) (of_table G ws area h t v).reached → (of_table G ws area h t v).full ≡ true
unfolding of_table
table_full G ws area zero = node_full G ws area zero (λ _ _. nothing false) (λ c v u. refl)
table_full G ws area (suc h) = node_full G ws area (suc h) (λ c u. of_table G ws area h c u) (table_full G ws area h)

-- ---- the free numbers

module _ (G : Granule) (ws : List ℕ) (n : ℕ) where
  pub free_back : (l : List ℕ) → free_sound G ws n l ≡ true → Each (λ t. (t < n) × EmptyTable G ws t) l
  unfolding free_sound
  free_back [] e = each_nil (λ t. (t < n) × EmptyTable G ws t)
  free_back (t ∷ l) e =
      let (a, b) = (and-eq-true_iff (ltb t n) _).0 e in
      let (c, d) = (and-eq-true_iff (all_zero (table_words G ws t)) _).0 b in
      each_cons (λ t. (t < n) × EmptyTable G ws t) t l (ltb-true t n a, zero_back G ws t c) (free_back l d)

  free_some : (l : List ℕ) → Each (λ t. t < n) l → Each (EmptyTable G ws) l → free_sound G ws n l ≡ true
  unfolding free_sound
  free_some [] r z = refl
  free_some (t ∷ l) r z =
      rw (lt-ltb t n (r t (here refl)), zero_some G ws t (z t (here refl))) (free_some l (λ u m. r u (there m)) (λ u m. z u (there m)))

-- ---- frames and the tables

module _ (G : Granule) (area : Area) where
  pub inside_back : (l : List Mapping) → none_inside G area l ≡ true → Each (OffTables G area) l
  unfolding none_inside
  inside_back [] e = each_nil (OffTables G area)
  inside_back (m ∷ l) e =
      let (a, b) = (and-eq-true_iff (not (meets_area G area m.frame m.size)) _).0 e in
      each_cons (OffTables G area) m l (meets_apart (not-true (meets_area G area m.frame m.size) a)) (inside_back l b)

  pub inside_some : (l : List Mapping) → Each (OffTables G area) l → none_inside G area l ≡ true
  unfolding none_inside
  inside_some [] f = refl
  inside_some (m ∷ l) f = rw (apart_meets (f m (here refl))) (inside_some l (λ k i. f k (there i)))

-- ---- the rules

module _ (G : Granule) (p : Pool) where
  -- a pool that passes the test keeps the rules,
  pub sound_only : sound_pool G p ≡ true → SoundPool G p
  unfolding sound_pool
  sound_only e =
      let R = reached_of G p in
      let (q, e₁) = (and-eq-true_iff (none_inside G (area_of p.numbers) (mappings_of G p) && ((of_pool G p).ok && (of_pool G p).full)) _).0 e in
      let (i, w) = (and-eq-true_iff (none_inside G (area_of p.numbers) (mappings_of G p)) _).0 q in
      let (o, y) = (and-eq-true_iff (of_pool G p).ok (of_pool G p).full).0 w in
      let (d, e₂) = (and-eq-true_iff (distinct (R ++ free_of p)) _).0 e₁ in
      let (f, c) = (and-eq-true_iff (free_sound G p.words (total (area_of p.numbers)) (free_of p)) _).0 e₂ in
      let z = free_back G p.words (total (area_of p.numbers)) (free_of p) f in
      record {
        tree = table_back G p.words (area_of p.numbers) (p.numbers.levels - 1) 0 0 o;
        once = distinct_back R (distinct_left R (free_of p) d);
        used = table_used G p.words (area_of p.numbers) (p.numbers.levels - 1) 0 0 y;
        outside = inside_back G (area_of p.numbers) (mappings_of G p) i;
        free_once = distinct_back (free_of p) (distinct_right R (free_of p) d);
        free_range = λ t m. (z t m).0;
        free_apart = λ t m k. distinct_apart R (free_of p) d t k m;
        free_zero = λ t m. (z t m).1;
        total = omega (arith, eqb-true (length R + p.numbers.free) (total (area_of p.numbers)) c);
      }

  -- and the other way round
  pub sound_all : SoundPool G p → sound_pool G p ≡ true
  unfolding sound_pool
  sound_all s =
      let R = reached_of G p in
      let o = table_some G p.words (area_of p.numbers) (p.numbers.levels - 1) 0 0 s.tree in
      let y = table_full G p.words (area_of p.numbers) (p.numbers.levels - 1) 0 0 s.used in
      let i = inside_some G (area_of p.numbers) (mappings_of G p) s.outside in
      let d = distinct_append R (free_of p) (distinct_some R s.once) (distinct_some (free_of p) s.free_once) (λ t m k. s.free_apart t k m) in
      let f = free_some G p.words (total (area_of p.numbers)) (free_of p) s.free_range s.free_zero in
      let c : length R + p.numbers.free ≡ total (area_of p.numbers) = omega (arith, s.total) in
      (and-eq-true_iff _ _).1 ((and-eq-true_iff _ _).1 (i, (and-eq-true_iff _ _).1 (o, y)), (and-eq-true_iff _ _).1 (d, (and-eq-true_iff _ _).1 (f, eq-eqb _ _ c)))

  -- the audit's test is exactly the rules
  pub exact : (sound_pool G p ≡ true) ↔ SoundPool G p
  exact = (sound_only, sound_all)

-- ---- the audit's answers

module _ (G : Granule) (p : Pool) where
  pub audit_bad : good_pool G p ≡ false → audit_w G p ≡ refused 1
  unfolding audit_w
  audit_bad e = rw e

  -- a pool that keeps the rules is answered by its counts: of the tables reached, and of the mappings
  pub audit_sound : good_pool G p ≡ true → SoundPool G p → audit_w G p ≡ audited (length (reached_of G p)) (length (mappings_of G p))
  unfolding audit_w
  audit_sound g s = rw (g, sound_all G p s)

  pub audit_unsound : good_pool G p ≡ true → (SoundPool G p → ⊥) → audit_w G p ≡ refused 8
  unfolding audit_w
  audit_unsound g f = rw g (go (sound_pool G p) refl)
    where
      go : (b : Bool) → sound_pool G p ≡ b → cond b (audited (length (reached_of G p)) (length (mappings_of G p))) (refused 8) ≡ refused 8
      go true e = absurd (f (sound_only G p e))
      go false e = refl

  -- no other pool is answered by counts
  pub audit_counts : (a b : ℕ) → audit_w G p ≡ audited a b → (good_pool G p ≡ true) × SoundPool G p × (a ≡ length (reached_of G p)) × (b ≡ length (mappings_of G p))
  unfolding audit_w
  audit_counts a b = go (good_pool G p) (sound_pool G p) refl refl
    where
      go : (x y : Bool) → good_pool G p ≡ x → sound_pool G p ≡ y
          → cond x (cond y (audited (length (reached_of G p)) (length (mappings_of G p))) (refused 8)) (refused 1) ≡ audited a b
          → (good_pool G p ≡ true) × SoundPool G p × (a ≡ length (reached_of G p)) × (b ≡ length (mappings_of G p))
      go true true g s e = (g, sound_only G p s, cc, cc)
      go true false g s e = absurd (let z : ◌≡◌ {A = ℕ} 0 1 = cc in omega arith)
      go false y g s e = absurd (let z : ◌≡◌ {A = ℕ} 0 1 = cc in omega arith)

-- ---- a fresh pool

-- words that are all 0 are empty entries
module _ (G : Granule) (area : Area) (h : ℕ) (below : ℕ → ℕ → Found) where
  entries_empty : (v : ℕ) (l : List ℕ) → all_zero l ≡ true → of_entries G area h v below l ≡ nothing true
  unfolding of_entries all_zero
  entries_empty v [] z = refl
  entries_empty v (w ∷ l) z =
      let (a, b) = (and-eq-true_iff (eqb w 0) (all_zero l)).0 z in
      let e : entry_at G area h w ≡ Empty = ap (entry_at G area h) (eqb-true w 0 a) ∙ entry_zero G area h in
      rw (e, entries_empty (v + size_at G h) l b)

  root_empty : (ws : List ℕ) (v : ℕ) → EmptyTable G ws 0 → node G ws area h below 0 v ≡ of_visit (table_words G ws 0) 0
  root_empty ws v z = rw (entries_empty v (table_words G ws 0) (zero_some G ws 0 z))

-- an empty root is all that is reached
pub empty_root : (G : Granule) (ws : List ℕ) (area : Area) (h v : ℕ) → EmptyTable G ws 0 → of_table G ws area h 0 v ≡ of_visit (table_words G ws 0) 0
unfolding of_table
empty_root G ws area zero v z = root_empty G area zero (λ _ _. nothing false) ws v z
empty_root G ws area (suc h) v z = root_empty G area (suc h) (λ c u. of_table G ws area h c u) ws v z

-- n - 1 down to 1
down_front : (n : ℕ) → Each (λ t. (0 < t) × (t < suc n)) (take n (down (suc n)))
unfolding down
down_front zero = each_nil (λ t. (0 < t) × (t < 1))
down_front (suc n) =
    each_cons (λ t. (0 < t) × (t < suc (suc n))) (suc n) _ (omega arith) (λ t m. let (a, b) = down_front n t m in (a, omega arith))

module _ (G : Granule) (levels : ℕ) (area : Area) (n k c : ℕ) (is : total area ≡ suc n) where
  abbrev fresh : Pool
  fresh = pool (setup_of G levels area n) (replicate k 0) c (down (suc n))

  all_empty_lem : (t : ℕ) → EmptyTable G (replicate k 0) t
  all_empty_lem t i l = all_zero_at (replicate k 0) (all_zero_replicate k) (slot G t i)

  only_root : of_pool G fresh ≡ of_visit (table_words G (replicate k 0) 0) 0
  only_root = empty_root G (replicate k 0) area (levels - 1) 0 (all_empty_lem 0)

  pub fresh_sound : sound_pool G fresh ≡ true
  unfolding sound_pool none_inside
  fresh_sound =
      let F = take n (down (suc n)) in
      let d : distinct F ≡ true = distinct_left F (drop n (down (suc n))) (rw (take-append-drop n (down (suc n))) (distinct_down (suc n))) in
      let f = free_some G (replicate k 0) (total area) F (λ t m. omega (arith, is, (down_front n t m).1)) (λ t m. all_empty_lem t) in
      rw (only_root, distinct_cons 0 F (λ m. omega (arith, (down_front n 0 m).0)) d, f) (eq-eqb (1 + n) (total area) (omega (arith, is)))

  pub fresh_audit : good_pool G fresh ≡ true → audit_w G fresh ≡ audited 1 0
  unfolding audit_w
  fresh_audit g = rw (g, fresh_sound, only_root)

  fresh_good : {places : ℕ} → GoodNumbers G levels area c k places → good_pool G fresh ≡ true
  fresh_good {places} N =
      let w : length (blanks k) ≡ k = length-replicate k 0 in
      let l : length (down (suc n)) ≡ places = length_down (suc n) ∙ sym is ∙ sym N.places_are in
      setup_good (record { granule_is = refl; numbers = rw (w, l) N; room = omega (arith, is) })
    where
      blanks : ℕ → List ℕ
      blanks k = replicate k 0

-- the audit accepts what format leaves, and finds the root and no mapping
pub format_audit : (G : Granule) (levels : ℕ) (area : Area) (ws : List ℕ) (cut : ℕ) (list : List ℕ)
    → (format_w G levels area ws cut list).answer ≡ formatted
    → audit_w G (format_w G levels area ws cut list).after ≡ audited 1 0
unfolding format_w
format_audit G levels area ws cut list = go (good_numbers G levels area cut (length ws) (length list)) refl
  where
    left : (n : ℕ) → total area ≡ n → GoodNumbers G levels area cut (length ws) (length list)
        → audit_w G (pool (setup_of G levels area (n - 1)) (replicate (length ws) 0) cut (down n)) ≡ audited 1 0
    left zero e N = absurd (omega (arith, e, N.some_table))
    left (suc n) e N = rw (sub-one (suc n)) (fresh_audit G levels area n (length ws) cut e (fresh_good G levels area n (length ws) cut e N))

    answered : Bool → Done
    answered b =
        cond b
        (done formatted (pool (setup_of G levels area (total area - 1)) (replicate (length ws) 0) cut (down (total area))))
        (refuse 1 (pool no_setup ws cut list))

    go : (b : Bool) → good_numbers G levels area cut (length ws) (length list) ≡ b
        → (answered b).answer ≡ formatted → audit_w G (answered b).after ≡ audited 1 0
    go true g e = left (total area) refl (good_numbers_lem g)
    go false g e = absurd (let z : ◌≡◌ {A = ℕ} 0 1 = cc in omega arith)
