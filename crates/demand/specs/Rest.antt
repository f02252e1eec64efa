-- What holds of a pool at rest, in the words of demand 3.
use Rattle.std.specs.Prelude.{◌≡◌, ◌≢◌, ℕ, ◌*◌, ◌≤◌, ◌<◌, length}
use Rattle.std.proofs.Common.{ap, sym, ◌∙◌, subst, inl, inr, ⊎_elim, mul-div_cancel, arith, length-append, length-take-le}
use mathlib.Core.List.Memᴰ
use mathlib.Core.List.Memᴰ.{tail as there}
use mathlib.Core.List.{List, ◌∷◌, ◌++◌, Memᴰ}
use Rattle.std.proofs.Math.Decide.{ℕ_discrete}
use Rattle.path.specs.Areas.{area_of, total}
use Rattle.path.specs.Geometry.{Granule, entries, size_at, space_of, Sane}
use Rattle.path.specs.Laws.{size_pos, size_injective}
use Rattle.entry.specs.declared.Entry.{Entry}
use Rattle.entry.specs.declared.Entry.TheVariants.{Empty, Table, Frame, Damaged}
use Rattle.model.specs.Answers.{Pool}
use Rattle.model.specs.declared.Walked.{Walked}
use Rattle.model.specs.Calls.{walk_to, unmap_w}
use Rattle.model.specs.Audit.{free_of}
use Rattle.model.specs.Sound.{reached_of}
use Rattle.model.proofs.AuditLaws.{pool_reached_low}
use Rattle.model.specs.Ledger.{Ledger, Region, region, unmap_l}
use Rattle.model.proofs.HoleLaws.{query_hole, unmap_hole}
use Rattle.tree.specs.Region.{anc}
use Rattle.tree.specs.Tree.{Ent, table, table≢empty, read_of, r_table}
use Rattle.tree.specs.Walk.{chain, nonzero}
use Rattle.tree.specs.Needed.{Reg, needed, needed_from, needed_tables, is_table_lem}
use Rattle.tree.specs.Count.{Distinct, distinct_append, has_all}
use Rattle.tree.specs.Reach.{tabs, tabs_needed, needed_tabs}
use Rattle.demand.specs.Shown.{shown_region, needed_shown, pg, anc_size, within_from}
use Rattle.demand.specs.Arm.{read_entry}
use Rattle.demand.specs.Walks.{Ended}
use Rattle.demand.specs.Holds.{Holds}
use Rattle.demand.specs.Sims.{SimIf, Sim, sim_holds, reached_is}
use Rattle.demand.specs.Queries.{k₀, R, own, pool_good, root_at, space_is, walk_ended, tables_above, own_shaped, query_own}
use Rattle.demand.specs.Maps.{own_sim, free_is}
use Rattle.demand.specs.Others.{audit_own}
use Rattle.demand.specs.Listings.{paged}
use Rattle.demand.specs.Demand3.{StandsFor, NeededBy, Rests}

-- an entry that reads as a table is one
entry_is : (e : Entry) (c : ℕ) → read_entry e ≡ r_table c → e ≡ Table c
entry_is Empty c q = cc
entry_is (Frame b k) c q = cc
entry_is (Table d) c q = cc
entry_is Damaged c q = cc

module _ (G : Granule) (Z : Sane G) {C D : Type 0} {p : Pool} {A : Ledger} (I : SimIf G Z C D p A) where
  abbrev k : ℕ
  k = k₀ G Z I

  abbrev top : ℕ
  top = p.numbers.levels

  -- a table of the tree below the root stands for its region
  pub table_stands : (h r : ℕ) → h ≤ k → I.S h r ≡ table → StandsFor G p h (r * size_at G h) (I.T h r)
  table_stands h r l s = (entry_is o.entry (I.T h r) entry, left)
    where
      a : ℕ
      a = r * size_at G h

      v : ℕ
      v = pg G Z a

      at_h : anc (entries G) h v ≡ r
      at_h = anc_size G Z a h ∙ mul-div_cancel r (size_pos G h)

      stands : I.S h (anc (entries G) h v) ≡ table
      stands = ap (I.S h) at_h ∙ s

      above : (j : ℕ) → h < j → j ≤ top → I.S j (anc (entries G) j v) ≡ table
      above j b c = chain (R G Z I) v h (table≢empty stands) j b c

      in_space : a < space_of G top
      in_space = rw (space_is G Z I) (omega (arith, (within_from G Z top 0 a (sym (anc_size G Z a top) ∙ (R G Z I).only (anc (entries G) top v) (table≢empty (above top (omega (arith, root_at G Z I)) (omega arith))))).1))

      o : Walked
      o = walk_to G p h a

      E : Ended G Z (area_of p.numbers) top I.good.numbers.placed (Rattle.demand.specs.Queries.few G Z I) p.words (R G Z I) a h k o
      E = walk_ended G Z I h a l in_space

      left : o.left ≡ h
      left = ⊎_elim (λ n. go n (ℕ_discrete o.left h)) (λ e. e) E.ends.done
        where
          go : I.S o.left (anc (entries G) o.left v) ≢ table → Dec (o.left ≡ h) → o.left ≡ h
          go n (yes e) = e
          go n (no e) = absurd (n (above o.left (omega (arith, E.ends.target l)) (omega (arith, E.ends.low, root_at G Z I))))

      entry : read_entry o.entry ≡ r_table (I.T h r)
      entry = E.ends.says_is ∙ ap (λ (j : ℕ). read_of (I.S j (anc (entries G) j v)) (I.T j (anc (entries G) j v))) left ∙ ap (λ (e : Ent). read_of e (I.T h (anc (entries G) h v))) stands ∙ ap (λ (q : ℕ). r_table (I.T h q)) at_h

module _ (G : Granule) (Z : Sane G) {p : Pool} {A : Ledger} (I : Sim G Z p A) where
  -- a region that the ledger needs is one of the tree
  region_needed : (h a : ℕ) → NeededBy G (own G Z I) h a → (q : Reg) × Memᴰ q (needed (entries G) (k₀ G Z I) I.L) × (q.h ≡ h) × (q.r * size_at G h ≡ a)
  region_needed h a m = let (q, b, e) = Memᴰ.of_map (shown_region G Z) (needed (entries G) (k₀ G Z I) I.L) (subst (λ (l : List Region). Memᴰ (region (size_at G h) a) l) (needed_shown G Z (k₀ G Z I) I.L) m) in
      let u = size_injective G Z q.h h (ap (λ (z : Region). z.size) e) in
      (q, b, u, ap (λ (j : ℕ). q.r * size_at G j) (sym u) ∙ ap (λ (z : Region). z.first) e)

  needed_region : (q : Reg) → Memᴰ q (needed (entries G) (k₀ G Z I) I.L) → NeededBy G (own G Z I) q.h (q.r * size_at G q.h)
  needed_region q m = subst (λ (l : List Region). Memᴰ (shown_region G Z q) l) (sym (needed_shown G Z (k₀ G Z I) I.L)) (Memᴰ.map (shown_region G Z) m)

  -- its table
  region_table : (h a : ℕ) → NeededBy G (own G Z I) h a → (r : ℕ) × (h ≤ (k₀ G Z I)) × (r * size_at G h ≡ a) × (I.S h r ≡ table) × Memᴰ (I.T h r) (needed_tables I.inv (k₀ G Z I) (root_at G Z I))
  region_table h a m = let (q, b, e, f) = region_needed h a m in let (l, _) = needed_from (entries G) (k₀ G Z I) I.L q b in
      (q.r, omega arith, f, subst (λ (j : ℕ). I.S j q.r ≡ table) e (is_table_lem I.inv (k₀ G Z I) (root_at G Z I) q b), subst (λ (j : ℕ). Memᴰ (I.T j q.r) (needed_tables I.inv (k₀ G Z I) (root_at G Z I))) e (Memᴰ.map (λ (z : Reg). I.T z.h z.r) b))

  in_reached : (t : ℕ) → Memᴰ t (0 ∷ tabs (Rattle.tree.specs.Visit.seen (Rattle.demand.specs.Sims.X G Z p I.good) (Rattle.demand.specs.Memories.read_at G p.words) (k₀ G Z I))) → Memᴰ t (reached_of G p)
  in_reached t m = subst (λ (l : List ℕ). Memᴰ t l) (sym (reached_is G Z p I.good)) m

  H : Holds G p (own G Z I)
  H = sim_holds G Z (own_sim G Z I)

  all_distinct : Distinct (reached_of G p ++ free_of p)
  all_distinct = distinct_append (reached_of G p) (free_of p) H.sound.once H.sound.free_once (λ t m n. H.sound.free_apart t n m)

  all_low : (t : ℕ) → Memᴰ t (reached_of G p ++ free_of p) → t < total (area_of p.numbers)
  all_low t m = ⊎_elim (λ n. pool_reached_low Z p (pool_good G Z I) t n) (λ n. H.sound.free_range t n) (Memᴰ.append_cases (reached_of G p) m)

  free_long : length (free_of p) ≡ p.numbers.free
  free_long = length-take-le p.numbers.free p.list (omega (arith, I.good.numbers.places_are, I.good.room))

  some_level : 0 < p.numbers.levels
  some_level = omega (arith, root_at G Z I)

  pub rests_own : ((a : ℕ) → (unmap_w G p a).answer ≡ (unmap_l G (own G Z I) a).answer) → Rests G p (own G Z I)
  rests_own unmap_own = record {
    holds = H;
    free_count = sym (free_is G Z I tt tt);
    once = all_distinct;
    all = λ t. (all_low t, λ l. has_all (total (area_of p.numbers)) (reached_of G p ++ free_of p) all_distinct all_low (length-append (reached_of G p) (free_of p) ∙ omega (arith, H.sound.total, free_long)) t l);
    reached_needed = λ t m. ⊎_elim (λ e. inl e) (λ n. let (q, b, e) = Memᴰ.of_map (λ (z : Reg). I.T z.h z.r) (needed (entries G) (k₀ G Z I) I.L) (tabs_needed I.inv (k₀ G Z I) (root_at G Z I) t n) in
        let (l, _) = needed_from (entries G) (k₀ G Z I) I.L q b in
        inr (q.h, q.r * size_at G q.h, needed_region q b, subst (λ (u : ℕ). StandsFor G p q.h (q.r * size_at G q.h) u) e (table_stands G Z I q.h q.r l (is_table_lem I.inv (k₀ G Z I) (root_at G Z I) q b))))
        (Memᴰ.cases_cons (subst (λ (l : List ℕ). Memᴰ t l) (reached_is G Z p I.good) m));
    needed_reached = λ h a m. let (r, l, e, s, n) = region_table h a m in
        (I.T h r, in_reached (I.T h r) (there (needed_tabs I.inv (k₀ G Z I) (root_at G Z I) (I.T h r) n)), (λ z. omega (arith, nonzero (R G Z I) h r (omega (arith, root_at G Z I)) s)), subst (λ (u : ℕ). StandsFor G p h u (I.T h r)) e (table_stands G Z I h r l s));
    one_region_lem = λ h a h' a' t m m' x y.
        let (r, l, e, s, _) = region_table h a m in let (r', l', e', s', _) = region_table h' a' m' in
        let u : Table (I.T h r) ≡ Table t = sym (subst (λ (w : ℕ). StandsFor G p h w (I.T h r)) e (table_stands G Z I h r l s)).0 ∙ x.0 in
        let u' : Table (I.T h' r') ≡ Table t = sym (subst (λ (w : ℕ). StandsFor G p h' w (I.T h' r')) e' (table_stands G Z I h' r' l' s')).0 ∙ y.0 in
        let (c, d) = (R G Z I).inj h r h' r' s s' (cc) in
        (c, sym e ∙ (λ i. d i * size_at G (c i)) ∙ e');
    audit = audit_own G Z I;
    query_hole = λ a b s e. query_hole G (own G Z I) (own_shaped G Z I) a some_level b s (sym (query_own G Z I tt a) ∙ e);
    unmap_hole = λ a b s e. unmap_hole G (own G Z I) (own_shaped G Z I) a some_level b s (sym (unmap_own a) ∙ e);
    paged = paged G Z H;
  }
