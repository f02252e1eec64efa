-- Laws of the mappings that the audit finds: they rise and share no byte, lie within the space, and each may stand where it does.
use Prim.Native.Nat.{ℕ, zero, suc, ◌+◌, ◌-◌, ◌*◌, ◌%◌, ◌≤◌}
use Rattle.std.specs.Prelude.{◌≡◌, ◌⊎◌, true, false, ltb}
use Rattle.std.proofs.Math.Path.{refl}
use Rattle.std.proofs.Common.{sym, ap, subst, ◌∙◌, inl, inr, ⊎_elim, mul-le-mul_right, le-ltb}
use Rattle.std.proofs.Math.Bool.{and-false}
use mathlib.Core.List.Memᴰ.{head as here}
use mathlib.Core.List.Memᴰ.{tail as there}
use mathlib.Core.List.{List, [], ◌∷◌, ◌++◌}
use Rattle.std.proofs.Math.Nat.{suc-mul, zero-mod, add-mod_right, mod-mod_of_dvd, dvd_of_mod-eq-zero}
use native.Mathlib.Omega.{arith}
use Rattle.std.proofs.Math.ListN.{length}
use Rattle.laws.specs.ListLaws.{length_part_le}
use Rattle.path.specs.Geometry.{Granule, Sane, entries, size_at, space_of}
use Rattle.path.specs.Areas.{Area, area_of}
use Rattle.path.specs.Numbers.{GoodNumbers}
use Rattle.path.specs.Laws.{size_suc, size_divides, space_some, good_setup_lem}
use Rattle.entry.specs.Words.{entry_at}
use Rattle.entry.proofs.Laws.{frame_only}
use Rattle.entry.specs.declared.Entry.{Entry}
use Rattle.entry.specs.declared.Entry.TheVariants.{Empty, Table, Frame, Damaged}
use Rattle.model.specs.Answers.{Mapping, mapping, Pool}
use Rattle.model.specs.Walk.{slot}
use Rattle.model.specs.Calls.{good_pool}
use Rattle.model.specs.Audit.{Found, nothing, table_words, of_entry, of_entries, of_table}
use Rattle.model.specs.Ledger.{overlaps, any_overlap}
use Rattle.model.specs.Sound.{Each, mappings_of, Rising, WellFormed}
use Rattle.model.proofs.AuditLaws.{each_nil, each_append, each_one, each_cons}
use Rattle.model.specs.AuditLaws.{node}

-- ---- rising order

pub rising_append : (lo mid hi : ℕ) (a b : List Mapping) → Rising lo mid a → Rising mid hi b → Rising lo hi (a ++ b)
unfolding Rising
rising_append lo mid hi [] [] p q = omega arith
rising_append lo mid hi [] (m ∷ b) p q = (omega (arith, q.0), q.1)
rising_append lo mid hi (m ∷ a) b p q = (p.0, rising_append (m.at + m.size) mid hi a b p.1 q)

pub rising_up : (lo hi top : ℕ) (a : List Mapping) → hi ≤ top → Rising lo hi a → Rising lo top a
unfolding Rising
rising_up lo hi top [] l p = omega arith
rising_up lo hi top (m ∷ a) l p = (p.0, rising_up (m.at + m.size) hi top a l p.1)

-- they start at lo or above, and end at hi or below
pub rising_within : (lo hi : ℕ) (a : List Mapping) → Rising lo hi a → Each (λ m. (lo ≤ m.at) × (m.at + m.size ≤ hi)) a
unfolding Rising
rising_within lo hi [] p = each_nil (λ m. (lo ≤ m.at) × (m.at + m.size ≤ hi))
rising_within lo hi (m ∷ a) p =
    let rest = rising_within (m.at + m.size) hi a p.1 in
    each_cons (λ m. (lo ≤ m.at) × (m.at + m.size ≤ hi)) m a (p.0, rising_ends (m.at + m.size) hi a p.1) (λ k i. (omega (arith, p.0, (rest k i).0), (rest k i).1))
  where
    rising_ends : (x hi : ℕ) (a : List Mapping) → Rising x hi a → x ≤ hi
    rising_ends x hi [] p = p
    rising_ends x hi (m ∷ a) p = omega (arith, p.0, rising_ends (m.at + m.size) hi a p.1)

-- what stands before a mapping ends where it starts or below; what stands after it starts where it ends or above
pub rising_split : (lo hi : ℕ) (a : List Mapping) (m : Mapping) (b : List Mapping) → Rising lo hi (a ++ m ∷ b) → Rising lo m.at a × Rising (m.at + m.size) hi b
unfolding Rising
rising_split lo hi [] m b p = p
rising_split lo hi (k ∷ a) m b p = let (q, r) = rising_split (k.at + k.size) hi a m b p.1 in ((p.0, q), r)

no_overlap : (x size : ℕ) (l : List Mapping) → Each (λ k. (k.at + k.size ≤ x) ⊎ (x + size ≤ k.at)) l → any_overlap x size l ≡ false
unfolding any_overlap
no_overlap x size [] f = refl
no_overlap x size (k ∷ l) f = rw (⊎_elim before after (f k (here refl))) (no_overlap x size l (λ j i. f j (there i)))
  where
    before : k.at + k.size ≤ x → overlaps x size k ≡ false
    before h = rw (le-ltb x (k.at + k.size) h)

    after : x + size ≤ k.at → overlaps x size k ≡ false
    after h = rw (le-ltb k.at (x + size) h) (and-false (ltb x (k.at + k.size)))

-- so each mapping's range shares no byte with the others
pub rising_apart : (lo hi : ℕ) (a : List Mapping) (m : Mapping) (b : List Mapping) → Rising lo hi (a ++ m ∷ b) → any_overlap m.at m.size (a ++ b) ≡ false
rising_apart lo hi a m b p =
    let (q, r) = rising_split lo hi a m b p in
    no_overlap m.at m.size (a ++ b) (each_append (λ k. (k.at + k.size ≤ m.at) ⊎ (m.at + m.size ≤ k.at)) a b
    (λ k i. inl (rising_within lo m.at a q k i).1)
    (λ k i. inr (rising_within (m.at + m.size) hi b r k i).0))

module _ (G : Granule) (ws : List ℕ) (area : Area) (h : ℕ) (below : ℕ → ℕ → Found) (f : (c v : ℕ) → Rising v (v + size_at G h) (below c v).mappings) where
  pub rise_entry : (v : ℕ) (e : Entry) → Rising v (v + size_at G h) (of_entry G h v below e).mappings
  unfolding Rising
  rise_entry v Empty = omega arith
  rise_entry v (Table c) = f c v
  rise_entry v (Frame b k) = (omega arith, omega arith)
  rise_entry v Damaged = omega arith

  rise_entries : (v : ℕ) (l : List ℕ) → Rising v (v + length l * size_at G h) (of_entries G area h v below l).mappings
  unfolding Rising of_entries
  rise_entries v [] = omega arith
  rise_entries v (w ∷ l) =
      let e : v + size_at G h + length l * size_at G h ≡ v + suc (length l) * size_at G h = omega (arith, suc-mul (length l) (size_at G h)) in
      rising_append v (v + size_at G h) (v + suc (length l) * size_at G h) (of_entry G h v below (entry_at G area h w)).mappings _
      (rise_entry v (entry_at G area h w))
      (subst (λ (x : ℕ). Rising (v + size_at G h) x (of_entries G area h (v + size_at G h) below l).mappings) e (rise_entries (v + size_at G h) l))

  -- a table lies within one entry of the table above it
  rise_node : (t v : ℕ) → Rising v (v + size_at G (suc h)) (node G ws area h below t v).mappings
  rise_node t v =
      let l = table_words G ws t in
      let m : length l * size_at G h ≤ entries G * size_at G h = mul-le-mul_right (size_at G h) (length_part_le ws (slot G t 0) (entries G)) in
      rising_up v (v + length l * size_at G h) (v + size_at G (suc h)) (of_entries G area h v below l).mappings
      (omega (arith, m, size_suc G h)) (rise_entries v l)

pub table_rises : (G : Granule) (ws : List ℕ) (area : Area) (h t v : ℕ) → Rising v (v + size_at G (suc h)) (of_table G ws area h t v).mappings
unfolding of_table Rising
table_rises G ws area zero = rise_node G ws area zero (λ _ _. nothing false) (λ c v. omega arith)
table_rises G ws area (suc h) = rise_node G ws area (suc h) (λ c u. of_table G ws area h c u) (table_rises G ws area h)

-- ---- one by one

module _ {G : Granule} (S : Sane G) (ws : List ℕ) (area : Area) (h : ℕ) (below : ℕ → ℕ → Found)
    (f : (c v : ℕ) → v % size_at G h ≡ 0 → Each (WellFormed G) (below c v).mappings) where
  pub well_entry : (v w : ℕ) (e : Entry) → entry_at G area h w ≡ e → v % size_at G h ≡ 0 → Each (WellFormed G) (of_entry G h v below e).mappings
  well_entry v w Empty q a = each_nil (WellFormed G)
  well_entry v w (Table c) q a = f c v a
  well_entry v w (Frame b k) q a =
      each_one (WellFormed G) (mapping v b (size_at G h) k)
      (record { height = h; framed = (frame_only S area h w q).0; sized = refl; aligned = a })
  well_entry v w Damaged q a = each_nil (WellFormed G)

  well_entries : (v : ℕ) (l : List ℕ) → v % size_at G h ≡ 0 → Each (WellFormed G) (of_entries G area h v below l).mappings
  unfolding of_entries
  well_entries v [] a = each_nil (WellFormed G)
  well_entries v (w ∷ l) a =
      each_append (WellFormed G) _ _ (well_entry v w _ refl a) (well_entries (v + size_at G h) l (add-mod_right v (size_at G h) ∙ a))

  well_node : (t v : ℕ) → v % size_at G (suc h) ≡ 0 → Each (WellFormed G) (node G ws area h below t v).mappings
  well_node t v a = well_entries v (table_words G ws t) (divides a)
    where
      divides : v % size_at G (suc h) ≡ 0 → v % size_at G h ≡ 0
      divides a =
          sym (mod-mod_of_dvd (size_at G h) v (dvd_of_mod-eq-zero (size_at G h) (size_divides G {j = h} {h = suc h} (omega arith))))
          ∙ ap (λ (x : ℕ). x % size_at G h) a
          ∙ zero-mod (size_at G h)

pub table_well : {G : Granule} → Sane G → (ws : List ℕ) (area : Area) (h t v : ℕ) → v % size_at G (suc h) ≡ 0 → Each (WellFormed G) (of_table G ws area h t v).mappings
unfolding of_table
table_well {G} S ws area zero = well_node S ws area zero (λ _ _. nothing false) (λ c v a. each_nil (WellFormed G))
table_well {G} S ws area (suc h) = well_node S ws area (suc h) (λ c u. of_table G ws area h c u) (table_well S ws area h)

-- ---- the mappings of a pool with good numbers

module _ {G : Granule} (S : Sane G) (p : Pool) (g : good_pool G p ≡ true) where
  -- they rise, within the space
  pub pool_rises : Rising 0 (space_of G p.numbers.levels) (mappings_of G p)
  pool_rises = subst (λ (x : ℕ). Rising 0 x (mappings_of G p)) space (table_rises G p.words (area_of p.numbers) (p.numbers.levels - 1) 0 0)
    where
      N : GoodNumbers G p.numbers.levels (area_of p.numbers) p.cut (length p.words) (length p.list)
      N = (good_setup_lem g).numbers

      top : suc (p.numbers.levels - 1) ≡ p.numbers.levels
      top = omega (arith, N.enough, S.large_below)

      space : 0 + size_at G (suc (p.numbers.levels - 1)) ≡ space_of G p.numbers.levels
      space = omega (arith, ap (size_at G) top, space_some G N.enough N.not_more)

  pub pool_within : Each (λ m. m.at + m.size ≤ space_of G p.numbers.levels) (mappings_of G p)
  pool_within m i = (rising_within 0 (space_of G p.numbers.levels) (mappings_of G p) pool_rises m i).1

  -- no two share a byte
  pub pool_apart : (a : List Mapping) (m : Mapping) (b : List Mapping) → mappings_of G p ≡ a ++ m ∷ b → any_overlap m.at m.size (a ++ b) ≡ false
  pool_apart a m b e = rising_apart 0 (space_of G p.numbers.levels) a m b (subst (Rising 0 (space_of G p.numbers.levels)) e pool_rises)

  -- each is of a frame that may stand there, at a multiple of its size
  pub pool_well : Each (WellFormed G) (mappings_of G p)
  pool_well =
      table_well S p.words (area_of p.numbers) (p.numbers.levels - 1) 0 0
      (zero-mod (size_at G (suc (p.numbers.levels - 1))))
