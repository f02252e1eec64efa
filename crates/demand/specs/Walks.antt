-- On words that render a tree the walk ends where the tree's theory says, and never comes to a table again.
use Rattle.std.specs.Prelude.{◌≡◌, ◌≢◌, ◌⊎◌, Bool, true, false, cond, leb, length, get_or}
use Rattle.std.proofs.Math.Path.{refl, ap}
use Rattle.std.proofs.Common.{sym, ◌∙◌, subst, inl, inr, ⊎_elim, arith, length-set, get_or-set_same, get_or-set_other, leb-true, leb-false}
use mathlib.Core.List.Memᴰ
use mathlib.Core.List.{List, Memᴰ}
use Prim.Native.Nat.{ℕ, zero, suc, ◌-◌, ◌%◌, ◌≤◌, ◌<◌}
use Rattle.std.proofs.Math.Decide.{ℕ_discrete}
use Rattle.std.proofs.Math.ListN.{set}
use Rattle.laws.specs.Lists.{among}
use Rattle.laws.specs.ListLaws.{among_mem, mem_at}
use Rattle.path.specs.Geometry.{Granule, entries, Sane}
use Rattle.path.specs.Paths.{index_at, path_of}
use Rattle.path.specs.PathLaws.{path_of_at}
use Rattle.entry.specs.Words.{entry_at, Framed}
use Rattle.entry.proofs.Laws.{frame_only}
use Rattle.entry.specs.declared.Entry.{Entry}
use Rattle.entry.specs.declared.Entry.TheVariants.{Empty, Table, Frame, Damaged}
use Rattle.path.specs.Areas.{Area, GoodArea}
use Rattle.model.specs.declared.Walked.{Walked}
use Rattle.model.specs.Walk.{slot, at_height, no_way, onward, walk_from}
use Rattle.tree.specs.Region.{anc}
use Rattle.tree.specs.Tree.{Ent, empty, frame, table, r_table, r_bad, read_of, Geo, Rendered}
use Rattle.tree.specs.Walk.{Stop, stop, Along, Ends, extend, halt, deeper, read_is, nonzero, unmet}
use Rattle.demand.specs.Shown.{pg, anc_size}
use Rattle.demand.specs.Arm.{read_entry, geo}
use Rattle.demand.specs.Memories.{read_at}

-- the tables on the way, by the height of the region that each stands for
abbrev pub way_at : List ℕ → ℕ → ℕ
way_at way k = get_or way (4 - k) 0

-- where a walk ended, in the theory's terms
abbrev pub stop_of : Walked → Stop
stop_of o = stop o.left (way_at o.tables) (read_entry o.entry)

-- an entry that says no table
pub entry_not_table : (e : Entry) (s : Ent) (t : ℕ) → read_entry e ≡ read_of s t → ((c : ℕ) → e ≡ Table c → ⊥) → s ≢ table
entry_not_table Empty s t q n z = let y : ◌≡◌ {A = ℕ} 0 1 = cc in omega arith
entry_not_table (Frame b a) s t q n z = let y : ◌≡◌ {A = ℕ} 0 1 = cc in omega arith
entry_not_table Damaged s t q n z = let y : ◌≡◌ {A = ℕ} 0 1 = cc in omega arith
entry_not_table (Table c) s t q n z = n c refl

-- and one that says a table
pub entry_table : (s : Ent) (t c : ℕ) → r_table c ≡ read_of s t → (s ≡ table) × (c ≡ t)
entry_table empty t c q = (cc, cc)
entry_table (frame x) t c q = (cc, cc)
entry_table table t c q = (refl, cc)

pub never_bad : (s : Ent) (t : ℕ) → r_bad ≡ read_of s t → ⊥
never_bad empty t q = let y : ◌≡◌ {A = ℕ} 0 1 = cc in omega arith
never_bad (frame x) t q = let y : ◌≡◌ {A = ℕ} 0 1 = cc in omega arith
never_bad table t q = let y : ◌≡◌ {A = ℕ} 0 1 = cc in omega arith

module _ (G : Granule) (Z : Sane G) (area : Area) (top : ℕ) (al : GoodArea G area) (few : top ≤ 4) (ws : List ℕ) {T : ℕ → ℕ → ℕ} {S : ℕ → ℕ → Ent} (R : Rendered (geo G Z area top al) (read_at G ws) T S) (a : ℕ) where
  abbrev X : Geo
  X = geo G Z area top al

  abbrev v : ℕ
  v = pg G Z a

  abbrev at : ℕ → ℕ
  at h = anc (entries G) h v

  -- the tables on the way are those around the address above height h; the other places hold 0
  pub record Way (h : ℕ) (way : List ℕ) : Type 0 where
    pub four : length way ≡ 4
    pub along : Along X T v h (way_at way)
    pub known : (x : ℕ) → Memᴰ x way → (x ≡ 0) ⊎ ((k : ℕ) × (h < k) × (k ≤ top) × (T k (at k) ≡ x))

  pub no_way_lem : Way top no_way
  no_way_lem = record { four = refl; along = λ k l m. absurd (omega arith); known = λ x m. inl (zeros x m) }
    where
      zeros : (x : ℕ) → Memᴰ x no_way → x ≡ 0
      zeros x m = ⊎_elim (λ e. e) (λ m. ⊎_elim (λ e. e) (λ m. ⊎_elim (λ e. e) (λ m. ⊎_elim (λ e. e) (λ m. absurd (Memᴰ.not-nil m)) (Memᴰ.cases_cons m)) (Memᴰ.cases_cons m)) (Memᴰ.cases_cons m)) (Memᴰ.cases_cons m)

  -- one more table on the way
  pub on_way_lem : (h : ℕ) (way : List ℕ) (t : ℕ) → h < top → t ≡ T (suc h) (at (suc h)) → Way (suc h) way → Way h (set way (3 - h) t)
  on_way_lem h way t l e w = record {
    four = length-set way (3 - h) t ∙ w.four;
    along = extend X T v h w.along (place ∙ e) others;
    known = λ x m. let (i, b, c) = mem_at (set way (3 - h) t) m in know x i (omega (arith, length-set way (3 - h) t)) c (ℕ_discrete i (3 - h));
  }
    where
      place : way_at (set way (3 - h) t) (suc h) ≡ t
      place = ap (λ (j : ℕ). get_or (set way (3 - h) t) j 0) (omega arith) ∙ get_or-set_same way (3 - h) t 0 (omega (arith, w.four))

      others : (k : ℕ) → suc h < k → k ≤ top → way_at (set way (3 - h) t) k ≡ way_at way k
      others k p q = get_or-set_other way (3 - h) (4 - k) t 0 (λ z. omega arith)

      know : (x i : ℕ) → i < length way → get_or (set way (3 - h) t) i 0 ≡ x → Dec (i ≡ 3 - h) → (x ≡ 0) ⊎ ((k : ℕ) × (h < k) × (k ≤ top) × (T k (at k) ≡ x))
      know x i b c (yes z) = inr (suc h, omega arith, l, sym e ∙ sym (get_or-set_same way (3 - h) t 0 (omega (arith, w.four))) ∙ ap (λ (j : ℕ). get_or (set way (3 - h) t) j 0) (sym z) ∙ c)
      know x i b c (no z) = ⊎_elim (λ q. inl q) (λ (k, p, q, r). inr (k, omega arith, q, r))
          (w.known x (subst (λ (y : ℕ). Memᴰ y way) (sym (get_or-set_other way (3 - h) i t 0 z) ∙ c) (Rattle.laws.specs.ListLaws.at_mem way i b)))

  -- the word that the walk reads
  abbrev word : ℕ → ℕ → ℕ
  word h t = get_or ws (slot G t (at_height (path_of G a) h)) 0

  reads : (h t : ℕ) → h < top → t ≡ T (suc h) (at (suc h)) → S (suc h) (at (suc h)) ≡ table → read_entry (entry_at G area h (word h t)) ≡ read_of (S h (at h)) (T h (at h))
  unfolding index_at
  reads h t l e s =
      ap (λ (i : ℕ). read_entry (entry_at G area h (read_at G ws t i))) (path_of_at G a {h = h} (omega arith) ∙ ap (λ (x : ℕ). x % entries G) (sym (anc_size G Z a h)))
      ∙ ap (λ (x : ℕ). read_entry (entry_at G area h (read_at G ws x (at h % entries G)))) e ∙ read_is R h (at h) s

  -- a table that the walk goes on to was not come to before
  not_met : (h : ℕ) (way : List ℕ) (c : ℕ) → h < top → Way h way → S h (at h) ≡ table → c ≡ T h (at h) → among c way ≡ false
  not_met h way c l w s e = go (among c way) refl
    where
      go : (b : Bool) → among c way ≡ b → b ≡ false
      go false q = refl
      go true q = absurd (⊎_elim (λ z. omega (arith, nonzero R h (at h) l s)) (λ (k, p, q, r). unmet R v h s k p q (r ∙ e)) (w.known c (among_mem c way q)))

  -- where the walk ends, and the tables on its way
  pub record Ended (g h : ℕ) (o : Walked) : Type 0 where
    pub ends : Ends X T S g v h (stop_of o)
    pub way : Way o.left o.tables
    pub framed : (b k : ℕ) → o.entry ≡ Frame b k → Framed G o.left b k

  -- the walk stops at the entry of height h
  here : (g h x : ℕ) (way : List ℕ) (e : Entry) → entry_at G area h x ≡ e → S (suc h) (at (suc h)) ≡ table → (S h (at h) ≢ table) ⊎ (h ≡ g) → read_entry e ≡ read_of (S h (at h)) (T h (at h)) → Way h way → Ended g h (Rattle.model.specs.Walk.stop e h way)
  here g h x way e y s d q w = record { ends = halt s d q w.along; way = w; framed = λ b k z. (frame_only Z area h x (y ∙ z)).0 }

  pub walk_ends : (g h : ℕ) (way : List ℕ) (t : ℕ) → g ≤ h → h < top → t ≡ T (suc h) (at (suc h)) → S (suc h) (at (suc h)) ≡ table → Way (suc h) way
      → Ended g h (walk_from G ws area g (path_of G a) h way t)
  unfolding walk_from onward
  walk_ends g zero way t le l e s w = here g zero (word zero t) (set way (3 - zero) t) (entry_at G area zero (word zero t)) refl s (inl (R.leaf v)) (reads zero t l e s) (on_way_lem zero way t l e w)
  walk_ends g (suc h) way t le l e s w = go (entry_at G area (suc h) (word (suc h) t)) refl (reads (suc h) t l e s) (λ c x y z. walk_ends g h way' c x (omega arith) y z w')
    where
      way' : List ℕ
      way' = set way (3 - suc h) t

      w' : Way (suc h) way'
      w' = on_way_lem (suc h) way t l e w

      on : ℕ → Walked
      on c = walk_from G ws area g (path_of G a) h way' c

      s₁ : Ent
      s₁ = S (suc h) (at (suc h))

      t₁ : ℕ
      t₁ = T (suc h) (at (suc h))

      go : (o : Entry) → entry_at G area (suc h) (word (suc h) t) ≡ o → read_entry o ≡ read_of s₁ t₁ → ((c : ℕ) → g ≤ h → c ≡ t₁ → s₁ ≡ table → Ended g h (on c)) → Ended g (suc h) (onward o g h way' on)
      go Empty y q ih = here g (suc h) (word (suc h) t) way' Empty y s (inl (entry_not_table Empty s₁ t₁ q (λ c z. let y : ◌≡◌ {A = ℕ} 0 1 = cc in omega arith))) q w'
      go (Frame b k) y q ih = here g (suc h) (word (suc h) t) way' (Frame b k) y s (inl (entry_not_table (Frame b k) s₁ t₁ q (λ c z. let y : ◌≡◌ {A = ℕ} 0 1 = cc in omega arith))) q w'
      go Damaged y q ih = absurd (never_bad s₁ t₁ q)
      go (Table c) y q ih = at_table (leb (suc h) g) refl
        where
          is : (s₁ ≡ table) × (c ≡ t₁)
          is = entry_table s₁ t₁ c q

          at_table : (b : Bool) → leb (suc h) g ≡ b → Ended g (suc h) (cond b (Rattle.model.specs.Walk.stop (Table c) (suc h) way') (cond (among c way') (Rattle.model.specs.Walk.stop Damaged h way') (on c)))
          at_table true z = here g (suc h) (word (suc h) t) way' (Table c) y s (inr (omega (arith, leb-true (suc h) g z))) q w'
          at_table false z = rw (not_met (suc h) way' c l w' is.0 is.1)
              (let lt = leb-false (suc h) g z in let E = ih c (omega arith) is.1 is.0 in record { ends = deeper (λ y. omega arith) E.ends; way = E.way; framed = E.framed })

  -- the path's index is that of the theory
  pub spot : (h : ℕ) → h < 4 → at_height (path_of G a) h ≡ at h % entries G
  unfolding index_at
  spot h l = path_of_at G a {h = h} l ∙ ap (λ (x : ℕ). x % entries G) (sym (anc_size G Z a h))
