-- The regions that need a table, listed from the ledger alone, and the count of the pool.
-- `needed K k L` lists the regions of heights up to k that a mapping of L lies in and is smaller than, each once. With
-- top = k + 1 these are all regions below the root's. In a pool at rest each has one table, every other table but the root is
-- free, and so `pool_count` holds: free + needed + 1 = n.
use Rattle.std.specs.Prelude.{◌≡◌, refl, ◌≢◌, ◌⊎◌, ℕ, zero, suc, ◌+◌, ◌≤◌, ◌<◌, length}
use Rattle.std.proofs.Common.{ap, sym, ◌∙◌, subst, inl, inr, ⊎_elim, arith, length-append}
use Rattle.std.proofs.Math.Logic.{ite}
use mathlib.Core.List.Memᴰ
use mathlib.Core.List.Memᴰ.{head as here}
use mathlib.Core.List.Memᴰ.{tail as there}
use mathlib.Core.List.{List, [], ◌∷◌, ◌++◌, map, Memᴰ}
use Rattle.std.proofs.Math.Decide.{ℕ_discrete, dec_lt}
use Rattle.std.proofs.lemmas.List.{length-map}
use Rattle.tree.specs.Region.{anc, page, Same, same?}
use Rattle.tree.specs.Tree.{Ent, table, table≢empty, Geo, Unused}
use Rattle.tree.specs.Walk.{nonzero}
use Rattle.tree.specs.Inv.{Mapping, Inv}
use Rattle.tree.specs.Ledger.{Needs, inside_table, table_inside}
use Rattle.tree.specs.Count.{Distinct, any?, length_within, distinct_append, distinct_map, below, below_length, below_lt, below_has, below_distinct, places, places_length, places_distinct, places_from_lem, root_low, free_not_root, free_low}

-- a region with its height
pub record Reg : Type 0 where
  pub h : ℕ
  pub r : ℕ

-- a region from its parts
abbrev pub reg : ℕ → ℕ → Reg
reg h r = record { h = h; r = r }

-- a region is in a list or not
unfoldable pub member? : (a : Reg) (l : List Reg) → Dec (Memᴰ a l)
member? a l = go (any? (λ (b : Reg). same? b.h b.r a.h a.r) l)
  where
    go : Dec ((b : Reg) × Memᴰ b l × Same b.h b.r a.h a.r) → Dec (Memᴰ a l)
    go (yes (b, m, s)) = let p = s.0 in let q = s.1 in yes (Memᴰ.cast (λ i. reg (p i) (q i)) m)
    go (no n) = no (λ m. n (a, m, (refl, refl)))

-- a region before a list, where it is new
abbrev pub add_if : {A : Type 0} → Dec A → Reg → List Reg → List Reg
add_if (yes p) a l = l
add_if (no p) a l = a ∷ l

-- the regions of k that are new before those of l
abbrev pub add_all : List Reg → List Reg → List Reg
add_all [] l = l
add_all (a ∷ k) l = add_if (member? a (add_all k l)) a (add_all k l)

add_all_distinct : (k l : List Reg) → Distinct l → Distinct (add_all k l)
add_all_distinct [] l d = d
add_all_distinct (a ∷ k) l d = go (member? a (add_all k l)) (add_all_distinct k l d)
  where
    go : (w : Dec (Memᴰ a (add_all k l))) → Distinct (add_all k l) → Distinct (add_if w a (add_all k l))
    go (yes p) ih = ih
    go (no p) ih = (p, ih)

pub add_all_has : (k l : List Reg) (b : Reg) → Memᴰ b k ⊎ Memᴰ b l → Memᴰ b (add_all k l)
add_all_has [] l b (inl m) = absurd (Memᴰ.not-nil m)
add_all_has [] l b (inr m) = m
add_all_has (a ∷ k) l b m = go (member? a (add_all k l)) (λ n. add_all_has k l b n) m
  where
    go : (w : Dec (Memᴰ a (add_all k l))) → (Memᴰ b k ⊎ Memᴰ b l → Memᴰ b (add_all k l))
        → Memᴰ b (a ∷ k) ⊎ Memᴰ b l → Memᴰ b (add_if w a (add_all k l))
    go (yes p) ih (inl m) = ⊎_elim (λ e. Memᴰ.cast e p) (λ n. ih (inl n)) (Memᴰ.cases_cons m)
    go (yes p) ih (inr m) = ih (inr m)
    go (no p) ih (inl m) = ⊎_elim (λ e. here e) (λ n. there (ih (inl n))) (Memᴰ.cases_cons m)
    go (no p) ih (inr m) = there (ih (inr m))

pub add_all_from : (k l : List Reg) (b : Reg) → Memᴰ b (add_all k l) → Memᴰ b k ⊎ Memᴰ b l
add_all_from [] l b m = inr m
add_all_from (a ∷ k) l b m = go (member? a (add_all k l)) (λ n. add_all_from k l b n) m
  where
    more : Memᴰ b k ⊎ Memᴰ b l → Memᴰ b (a ∷ k) ⊎ Memᴰ b l
    more (inl n) = inl (there n)
    more (inr n) = inr n

    go : (w : Dec (Memᴰ a (add_all k l))) → (Memᴰ b (add_all k l) → Memᴰ b k ⊎ Memᴰ b l)
        → Memᴰ b (add_if w a (add_all k l)) → Memᴰ b (a ∷ k) ⊎ Memᴰ b l
    go (yes p) ih m = more (ih m)
    go (no p) ih m = ⊎_elim (λ e. inl (here e)) (λ n. more (ih n)) (Memᴰ.cases_cons m)

-- the regions around page v of heights above g and up to k
abbrev pub spine : ℕ → ℕ → ℕ → ℕ → List Reg
spine K g v zero = []
spine K g v (suc k) = ite (dec_lt g (suc k)) (reg (suc k) (anc K (suc k) v) ∷ spine K g v k) []

spine_has : (K g v k j : ℕ) → g < j → j ≤ k → Memᴰ (reg j (anc K j v)) (spine K g v k)
spine_has K g v zero j a b = absurd (omega arith)
spine_has K g v (suc k) j a b = go (dec_lt g (suc k)) (ℕ_discrete j (suc k)) (λ c. spine_has K g v k j a c)
  where
    go : (d : Dec (g < suc k)) → Dec (j ≡ suc k) → (j ≤ k → Memᴰ (reg j (anc K j v)) (spine K g v k))
        → Memᴰ (reg j (anc K j v)) (ite d (reg (suc k) (anc K (suc k) v) ∷ spine K g v k) [])
    go (no n) w ih = absurd (omega arith)
    go (yes n) (yes e) ih = here (ap (λ (z : ℕ). reg z (anc K z v)) e)
    go (yes n) (no e) ih = there (ih (omega arith))

pub spine_from : (K g v k : ℕ) (a : Reg) → Memᴰ a (spine K g v k) → (g < a.h) × (a.h ≤ k) × (anc K a.h v ≡ a.r)
spine_from K g v zero a m = absurd (Memᴰ.not-nil m)
spine_from K g v (suc k) a m = go (dec_lt g (suc k)) (λ n. spine_from K g v k a n) m
  where
    go : (d : Dec (g < suc k)) → (Memᴰ a (spine K g v k) → (g < a.h) × (a.h ≤ k) × (anc K a.h v ≡ a.r))
        → Memᴰ a (ite d (reg (suc k) (anc K (suc k) v) ∷ spine K g v k) []) → (g < a.h) × (a.h ≤ suc k) × (anc K a.h v ≡ a.r)
    go (no n) ih m = absurd (Memᴰ.not-nil m)
    go (yes n) ih m = ⊎_elim
        (λ e. let p = ap (λ (z : Reg). z.h) e in let q = ap (λ (z : Reg). z.r) e in
        (omega arith, omega arith, ap (λ (z : ℕ). anc K z v) p ∙ sym q))
        (λ c. let (x, y, z) = ih c in (x, omega arith, z)) (Memᴰ.cases_cons m)

-- the regions of heights up to k that need a table, each once
abbrev pub needed : ℕ → ℕ → List Mapping → List Reg
needed K k [] = []
needed K k (m ∷ L) = add_all (spine K m.h (page K m.h m.r) k) (needed K k L)

-- no region stands twice
pub needed_distinct : (K k : ℕ) (L : List Mapping) → Distinct (needed K k L)
needed_distinct K k [] = tt
needed_distinct K k (m ∷ L) = add_all_distinct (spine K m.h (page K m.h m.r) k) (needed K k L) (needed_distinct K k L)

-- every region that needs a table is listed
pub needed_has : (K k : ℕ) (L : List Mapping) (a : Reg) → a.h ≤ k → Needs K L a.h a.r → Memᴰ a (needed K k L)
needed_has K k [] a l (m, c, d) = absurd (Memᴰ.not-nil c)
needed_has K k (b ∷ L) a l (m, c, (d, e)) = add_all_has (spine K b.h (page K b.h b.r) k) (needed K k L) a
    (⊎_elim (λ q. inl (head q)) (λ n. inr (needed_has K k L a l (m, n, (d, e)))) (Memᴰ.cases_cons c))
  where
    at : m ≡ b → a.r ≡ anc K a.h (page K b.h b.r)
    at q = sym e ∙ ap (λ (z : Mapping). anc K a.h (page K z.h z.r)) q

    head : m ≡ b → Memᴰ a (spine K b.h (page K b.h b.r) k)
    head q = Memᴰ.cast (λ i. reg a.h (at q i)) (spine_has K b.h (page K b.h b.r) k a.h (subst (λ (z : Mapping). z.h < a.h) q d) l)

-- every region listed needs a table
pub needed_from : (K k : ℕ) (L : List Mapping) (a : Reg) → Memᴰ a (needed K k L) → (a.h ≤ k) × Needs K L a.h a.r
needed_from K k [] a m = absurd (Memᴰ.not-nil m)
needed_from K k (b ∷ L) a m = ⊎_elim
    (λ n. let (x, y, z) = spine_from K b.h (page K b.h b.r) k a n in (y, (b, here refl, (x, z))))
    (λ n. let (y, (c, d, e)) = needed_from K k L a n in (y, (c, there d, e)))
    (add_all_from (spine K b.h (page K b.h b.r) k) (needed K k L) a m)

module _ {G : Geo} {W : ℕ → ℕ → ℕ} {P : ℕ → ℕ} {f : ℕ} {T : ℕ → ℕ → ℕ} {S : ℕ → ℕ → Ent} {L : List Mapping}
    (I : Inv G W P f T S L G.top 0) (k : ℕ) (top : suc k ≡ G.top) where
  -- the needed regions
  abbrev N : List Reg
  N = needed G.K k L

  -- the tables of the needed regions
  abbrev pub needed_tables : List ℕ
  needed_tables = map (λ (a : Reg). T a.h a.r) N

  -- a needed region has a table
  pub is_table_lem : (a : Reg) → Memᴰ a N → S a.h a.r ≡ table
  is_table_lem a m = let (l, n) = needed_from G.K k L a m in inside_table I.ren I.holds a.h a.r (omega arith) n

  -- each its own
  pub needed_tables_distinct : Distinct needed_tables
  needed_tables_distinct = distinct_map (λ (a : Reg). T a.h a.r) N (needed_distinct G.K k L) (λ a b m n e.
      let (p, q) = I.ren.inj a.h a.r b.h b.r (is_table_lem a m) (is_table_lem b n) e in λ i. reg (p i) (q i))

  -- the number of a needed region's table
  from : (t : ℕ) → Memᴰ t needed_tables → (a : Reg) × (a.h ≤ k) × (S a.h a.r ≡ table) × (T a.h a.r ≡ t)
  from t m = let (a, n, e) = Memᴰ.of_map (λ (a : Reg). T a.h a.r) N m in (a, (needed_from G.K k L a n).0, is_table_lem a n, e)

  -- the root, the free tables, the needed ones
  abbrev tables : List ℕ
  tables = 0 ∷ (places P f ++ needed_tables)

  tables_distinct : Distinct tables
  tables_distinct = (
    λ m. ⊎_elim (free_not_root I tt) not_root (Memᴰ.append_cases (places P f) m),
    distinct_append (places P f) needed_tables (places_distinct P f (I.spare tt).free.once) needed_tables_distinct apart,
  )
    where
      not_root : Memᴰ 0 needed_tables → ⊥
      not_root m = let (a, l, s, e) = from 0 m in omega (arith, e, nonzero I.ren a.h a.r (omega arith) s)

      apart : (t : ℕ) → Memᴰ t (places P f) → Memᴰ t needed_tables → ⊥
      apart t m n = let (i, l, e) = places_from_lem P f t m in let (a, _, s, d) = from t n in
          ((I.spare tt).free.each i l).1 a.h a.r s (d ∙ sym e)

  tables_low : (t : ℕ) → Memᴰ t tables → t < G.n
  tables_low t m = ⊎_elim (λ e. omega (arith, root_low I tt))
      (λ n. ⊎_elim (free_low I tt t) low (Memᴰ.append_cases (places P f) n)) (Memᴰ.cases_cons m)
    where
      low : Memᴰ t needed_tables → t < G.n
      low n = let (a, _, s, e) = from t n in omega (arith, e, I.ren.range a.h a.r s)

  tables_all : (t : ℕ) → t < G.n → Memᴰ t tables
  tables_all t l = go (ℕ_discrete t 0) (any? (λ (a : Reg). ℕ_discrete (T a.h a.r) t) N)
    where
      -- a table of the tree is the root or a needed region's
      unused : t ≢ 0 → ((a : Reg) × Memᴰ a N × (T a.h a.r ≡ t) → ⊥) → Unused T S t
      unused z n h r p q = more (dec_lt h G.top)
        where
          more : Dec (h < G.top) → ⊥
          more (yes b) = n (reg h r, needed_has G.K k L (reg h r) (omega arith) (table_inside I tt h r b p), q)
          more (no b) =
              let e : h ≡ G.top = omega (arith, I.ren.bound h r (table≢empty p)) in
              let y : r ≡ 0 = I.ren.only r (λ w. table≢empty p (cc)) in
              z (let ra = I.ren.root_at in cc)

      go : Dec (t ≡ 0) → Dec ((a : Reg) × Memᴰ a N × (T a.h a.r ≡ t)) → Memᴰ t tables
      go (yes z) d = here z
      go (no z) (yes (a, m, e)) = there (Memᴰ.append_right (places P f) (Memᴰ.cast (sym e) (Memᴰ.map (λ (a : Reg). T a.h a.r) m)))
      go (no z) (no n) = let (i, a, e) = (I.spare tt).free.all t l (unused z n) in
          there (Memᴰ.append_left needed_tables (Memᴰ.cast (sym e) (Memᴰ.map P (below_has f i a))))

  -- free + needed + the root = all
  pub pool_count : suc (f + length N) ≡ G.n
  pool_count = omega (
    arith,
    length_within tables (below G.n) tables_distinct (λ t m. below_has G.n t (tables_low t m)),
    length_within (below G.n) tables (below_distinct G.n) (λ t m. tables_all t (below_lt G.n t m)),
    below_length G.n,
    length-append (places P f) needed_tables,
    places_length P f,
    length-map N (λ (a : Reg). T a.h a.r),
  )
