-- Map's single writes: each is of a word as it was or as it will be, and the frame's word is the last.
use Rattle.std.specs.Prelude.{◌≡◌, ◌≢◌, ◌⊎◌, length, set}
use Rattle.std.proofs.Math.Path.{refl, ap, sym}
use Rattle.std.proofs.Common.{◌∙◌, subst, inr, ⊎_elim, length-set}
use Rattle.std.proofs.Math.Logic.{inl}
use mathlib.Core.List.{List, [], ◌∷◌, ◌++◌, append_assoc}
use Prim.Native.Nat.{ℕ, zero, suc, ◌+◌, ◌-◌, ◌*◌, ◌≤◌, ◌<◌}
use native.Mathlib.Omega.{arith}
use Rattle.std.proofs.Math.ListN.{get_or}
use Rattle.std.proofs.Math.Seq.{get_or-set_same, get_or-set_other}
use Rattle.laws.specs.Lists.{zeroed}
use Rattle.laws.specs.ListLaws.{length_zeroed}
use Rattle.path.specs.Geometry.{Granule, Sane, entries}
use Rattle.entry.specs.Words.{table_word}
use Rattle.model.specs.Answers.{Pool}
use Rattle.model.specs.Walk.{slot, at_height}
use Rattle.model.specs.Writes.{Write, store, wipe, give, Memory, memory, perform_all, map_writes}
use Rattle.model.specs.Ledger.{Ledger}
use Rattle.demand.specs.Memories.{one_place, in_table, rd_kept}
use Rattle.demand.specs.Sims.{Sim}
use Rattle.demand.specs.Queries.{area, n, al}
use Rattle.hardware.specs.Machine.{zeros_from, singles}
use Rattle.hardware.proofs.Plans.{each_append, each_zeros}
use Rattle.hardware.specs.Plans.{Each, Sound, Leaves, FromZero}

-- a pool that holds a ledger; the path of an address, the frame's height and its word; the path's indices are those of entries
module _ (G : Granule) (Z : Sane G) {p : Pool} {A : Ledger} (I : Sim G Z p A) (path : List ℕ) (g word : ℕ)
    (below : (h : ℕ) → h < 4 → at_height path h < entries G) where
  abbrev K : ℕ
  K = entries G

  abbrev at : ℕ → ℕ
  at h = at_height path h

  abbrev free : ℕ → ℕ
  free i = get_or p.list i 0

  abbrev link : ℕ → ℕ
  link c = table_word G (area G Z I) c

  -- the planned writes from table t on, with f tables free and `need` to be taken, and the words that they leave
  abbrev planned : ℕ → ℕ → ℕ → List Write
  planned t f need = map_writes G (area G Z I) path p.list g word t f need

  abbrev left_by : ℕ → ℕ → ℕ → Memory → List ℕ
  left_by t f need m = (perform_all G (planned t f need) m).words

  -- table c wiped and linked in table t, at the path's entry of height h
  abbrev linked : ℕ → ℕ → ℕ → Memory → Memory
  linked t c h m = memory (set (zeroed m.words (slot G c 0) K) (slot G t (at h)) (link c)) m.list

  linked_length : (t c h : ℕ) (m : Memory) → length (linked t c h m).words ≡ length m.words
  linked_length t c h m =
      length-set (zeroed m.words (slot G c 0) K) (slot G t (at h)) (link c) ∙ length_zeroed m.words (slot G c 0) K

  -- table t is in the pool, and so are the first f of the free list; all are different; and those were zero
  pub record Taking (old : List ℕ) (t f : ℕ) : Type 0 where
    pub own : t < n G Z I
    pub each : (i : ℕ) → i < f → free i < n G Z I
    pub apart : (i : ℕ) → i < f → free i ≢ t
    pub once : (i j : ℕ) → i < f → j < f → free i ≡ free j → i ≡ j
    pub bare : (i j : ℕ) → i < f → j < K → get_or old (slot G (free i) j) 0 ≡ 0

  taking_next : {old : List ℕ} {t f : ℕ} → 0 < f → Taking old t f → Taking old (free (f - 1)) (f - 1)
  taking_next {f = f} l T = record {
    own = T.each (f - 1) (omega arith);
    each = λ i b. T.each i (omega arith);
    apart = λ i b e. omega (arith, T.once i (f - 1) (omega arith) (omega arith) e);
    once = λ i j b c. T.once i j (omega arith) (omega arith);
    bare = λ i j b c. T.bare i j (omega arith) c;
  }

  -- other tables keep their words
  elsewhere : (need t f : ℕ) → need ≤ f → need + g < 4 → (t' j : ℕ) → j < K → t' ≢ t → ((i : ℕ) → i < f → free i ≢ t') → (m : Memory)
      → get_or (left_by t f need m) (slot G t' j) 0 ≡ get_or m.words (slot G t' j) 0
  unfolding perform_all map_writes
  elsewhere zero t f l b t' j lt d a m =
      get_or-set_other m.words (slot G t (at g)) (slot G t' j) word 0 (λ e. d (one_place (below g (omega arith)) lt e).0)
  elsewhere (suc need) t f l b t' j lt d a m =
      let c = free (f - 1) in
      let h = suc need + g in
      let n₀ : t' ≢ c = λ e. a (f - 1) (omega arith) (sym e) in
      elsewhere need c (f - 1) (omega arith) (omega arith) t' j lt n₀ (λ i q. a i (omega arith)) (linked t c h m)
      ∙ get_or-set_other (zeroed m.words (slot G c 0) K) (slot G t (at h)) (slot G t' j) (link c) 0 (λ e. d (one_place (below h b) lt e).0)
      ∙ rd_kept G Z (area G Z I) p.numbers.levels (al G Z I) m.words c t' j lt n₀

  -- all single writes but that of the frame's word
  pub but_last : ℕ → ℕ → ℕ → List Write
  but_last zero t f = []
  but_last (suc need) t f =
      let c = free (f - 1) in zeros_from (slot G c 0) K ++ (store (slot G t (at (suc need + g))) (link c) ∷ but_last need c (f - 1))

  -- each is a zero where a zero was, or a table's word where it will be
  abbrev pub Linked : List ℕ → List ℕ → Write → Type 0
  Linked old new (store i x) = ((x ≡ 0) × (get_or old i 0 ≡ 0)) ⊎ ((c : ℕ) × (c < n G Z I) × (x ≡ link c) × (get_or new i 0 ≡ x))
  Linked old new (wipe t) = ⊥
  Linked old new (give i t) = Unit {0}

  pub links : (old : List ℕ) (need t f : ℕ) → need ≤ f → need + g < 4 → Taking old t f → (m : Memory) → length m.words ≡ K * n G Z I
      → Each (Linked old (left_by t f need m)) (but_last need t f)
  unfolding perform_all map_writes but_last
  links old zero t f l b T m k = tt
  links old (suc need) t f l b T m k =
      each_append (Linked old new) (zeros_from (slot G c 0) K) _
      (each_zeros (Linked old new) (slot G c 0) K (λ j p q. inl (refl, zero_before j p q)))
      (inr (c, T.each (f - 1) (omega arith), refl, there), links old need c (f - 1) (omega arith) (omega arith) (taking_next (omega arith) T) m₂ k₂)
    where
      c : ℕ
      c = free (f - 1)

      h : ℕ
      h = suc need + g

      m₂ : Memory
      m₂ = linked t c h m

      new : List ℕ
      new = left_by c (f - 1) need m₂

      k₂ : length m₂.words ≡ K * n G Z I
      k₂ = linked_length t c h m ∙ k

      zero_before : (j : ℕ) → slot G c 0 ≤ j → j < slot G c 0 + K → get_or old j 0 ≡ 0
      zero_before j p q =
          let e : j ≡ slot G c (j - slot G c 0) = omega arith in
          ap (λ (x : ℕ). get_or old x 0) e ∙ T.bare (f - 1) (j - slot G c 0) (omega arith) (omega arith)

      there : get_or new (slot G t (at h)) 0 ≡ link c
      there =
          let z = zeroed m.words (slot G c 0) K in
          elsewhere need c (f - 1) (omega arith) (omega arith) t (at h) (below h b) (λ e. T.apart (f - 1) (omega arith) (sym e)) (λ j q. T.apart j (omega arith)) m₂
          ∙ get_or-set_same z (slot G t (at h)) (link c) 0 (omega (arith, length_zeroed m.words (slot G c 0) K, k, in_table K T.own (below h b)))

  -- and the frame's word is the last, at place i
  pub record Last (need t f : ℕ) (new : List ℕ) : Type 0 where
    pub i : ℕ
    pub split : singles G (planned t f need) ≡ but_last need t f ++ (store i word ∷ [])
    pub final : get_or new i 0 ≡ word

  last_more : (need t f : ℕ) {new : List ℕ} → Last need (free (f - 1)) (f - 1) new → Last (suc need) t f new
  unfolding map_writes singles but_last
  last_more need t f N =
      let c = free (f - 1) in
      let s = store (slot G t (at (suc need + g))) (link c) in
      record {
        i = N.i;
        split = ap (λ (l : List Write). zeros_from (slot G c 0) K ++ (s ∷ l)) N.split ∙ sym (append_assoc (zeros_from (slot G c 0) K) _ _);
        final = N.final;
      }

  pub last : {old : List ℕ} (need t f : ℕ) → need ≤ f → need + g < 4 → Taking old t f → (m : Memory) → length m.words ≡ K * n G Z I
      → Last need t f (left_by t f need m)
  unfolding perform_all map_writes singles but_last
  last zero t f l b T m k = record {
    i = slot G t (at g);
    split = refl;
    final = get_or-set_same m.words (slot G t (at g)) word 0 (omega (arith, in_table K T.own (below g (omega arith))));
  }
  last (suc need) t f l b T m k =
      let c = free (f - 1) in
      let h = suc need + g in
      last_more need t f
      (last need c (f - 1) (omega arith) (omega arith) (taking_next (omega arith) T) (linked t c h m) (linked_length t c h m ∙ k))

  -- so each is of a word as it was or as it will be
  linked_sound : (old new : List ℕ) (xs : List Write) → Each (Linked old new) xs → Each (Sound old new) xs
  linked_sound old new [] e = tt
  linked_sound old new (store i x ∷ xs) e =
      (⊎_elim (λ q. inl (q.0 ∙ sym q.1)) (λ q. inr (sym q.3)) e.0, linked_sound old new xs e.1)
  linked_sound old new (wipe t ∷ xs) e = absurd e.0
  linked_sound old new (give i t ∷ xs) e = (tt, linked_sound old new xs e.1)

  pub map_sound : (old : List ℕ) (need t f : ℕ) → need ≤ f → need + g < 4 → Taking old t f → (m : Memory) → length m.words ≡ K * n G Z I
      → Each (Sound old (left_by t f need m)) (singles G (planned t f need))
  map_sound old need t f l b T m k =
      let N = last need t f l b T m k in
      let S = Sound old (left_by t f need m) in
      subst (Each S) (sym N.split)
      (each_append S (but_last need t f) _ (linked_sound old _ (but_last need t f) (links old need t f l b T m k)) (inr (sym N.final), tt))

  -- and a place that will have no table's word is left at 0 until the last
  pub but_last_leaves : (old new : List ℕ) (i : ℕ) → ((c : ℕ) → c < n G Z I → get_or new i 0 ≡ link c → ⊥) → (xs : List Write) → Each (Linked old new) xs
      → Each (Leaves i 0) xs
  but_last_leaves old new i d [] e = tt
  but_last_leaves old new i d (store j x ∷ xs) e = (at e.0, but_last_leaves old new i d xs e.1)
    where
      at : ((x ≡ 0) × (get_or old j 0 ≡ 0)) ⊎ ((c : ℕ) × (c < n G Z I) × (x ≡ link c) × (get_or new j 0 ≡ x)) → j ≡ i → x ≡ 0
      at (inl z) q = z.0
      at (inr (c, r, y, z)) q = absurd (d c r (ap (λ (k : ℕ). get_or new k 0) (sym q) ∙ z ∙ y))
  but_last_leaves old new i d (wipe t ∷ xs) e = absurd e.0
  but_last_leaves old new i d (give j t ∷ xs) e = (tt, but_last_leaves old new i d xs e.1)

  -- where the entry on which it all hangs was 0, each place that is written was
  pub from_zero : (old : List ℕ) (need t f : ℕ) → need ≤ f → need + g < 4 → Taking old t f → get_or old (slot G t (at (need + g))) 0 ≡ 0
      → Each (FromZero old) (singles G (planned t f need))
  unfolding map_writes singles
  from_zero old zero t f l b T z = (ap (λ (h : ℕ). get_or old (slot G t (at h)) 0) (omega arith) ∙ z, tt)
  from_zero old (suc need) t f l b T z =
      each_append (FromZero old) (zeros_from (slot G c 0) K) _
      (each_zeros (FromZero old) (slot G c 0) K (λ j p q.
      let e : j ≡ slot G c (j - slot G c 0) = omega arith in
      ap (λ (x : ℕ). get_or old x 0) e ∙ T.bare (f - 1) (j - slot G c 0) (omega arith) (omega arith)))
      (z, from_zero old need c (f - 1) (omega arith) (omega arith) (taking_next (omega arith) T) (T.bare (f - 1) (at (need + g)) (omega arith) (below (need + g) (omega arith))))
    where
      c : ℕ
      c = free (f - 1)
