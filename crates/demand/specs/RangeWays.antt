-- The walks of a range on a pool that holds a ledger: none finds damage, no table on their ways stands for two regions, and none of those tables is free.
use Prim.Native.Nat.{ℕ, zero, suc, ◌+◌, ◌-◌, ◌*◌, ◌≤◌, ◌<◌}
use Rattle.std.specs.Prelude.{◌≡◌, Bool, true, false, ◌&&◌, ◌||◌, not, eqb}
use Rattle.std.proofs.Math.Path.{refl, ap, subst}
use Rattle.std.proofs.Common.{sym, ◌∙◌, arith, eqb-true, eq-eqb}
use Rattle.std.proofs.Math.Logic.{⊎_elim}
use mathlib.Core.List.Memᴰ
use mathlib.Core.List.Memᴰ.{head as here}
use mathlib.Core.List.Memᴰ.{tail as there}
use mathlib.Core.List.{List, [], ◌∷◌, Memᴰ}
use Rattle.std.proofs.Math.ListN.{get_or}
use Rattle.path.specs.Geometry.{Granule, entries, size_at, space_of, Sane}
use Rattle.path.specs.Paths.{base_at}
use Rattle.entry.specs.declared.Entry.{Entry}
use Rattle.entry.specs.declared.Entry.TheVariants.{Empty, Table, Frame, Damaged}
use Rattle.model.specs.Answers.{Pool}
use Rattle.model.specs.declared.Walked.{Walked}
use Rattle.model.specs.Walk.{at_height}
use Rattle.model.specs.Writes.{may_take}
use Rattle.model.specs.Calls.{walk_to}
use Rattle.model.specs.Ledger.{Ledger, Region, region}
use Rattle.model.specs.Ranges.{Probe, is_damaged, any_ends, Standing, standing, on_way, on_ways, agree, agrees, one_region_each, spoiled, ways}
use Rattle.model.proofs.RangeLaws.{false_or}
use Rattle.tree.specs.Region.{anc}
use Rattle.tree.specs.Tree.{table}
use Rattle.tree.specs.Needed.{reg}
use Rattle.demand.specs.Shown.{pg, anc_size, base_is, shown_region}
use Rattle.demand.specs.Arm.{read_entry}
use Rattle.demand.specs.Memories.{place_at}
use Rattle.demand.specs.Walks.{Ended, never_bad}
use Rattle.demand.specs.Carried.{may_take_lem}
use Rattle.demand.specs.Sims.{Sim}
use Rattle.demand.specs.Queries.{area, n, k₀, al, R, few, root_at, walk_ended, tables_above}

module _ (G : Granule) (Z : Sane G) {p : Pool} {A : Ledger} (I : Sim G Z p A) where
  -- a table that stands in the tree, and its region
  abbrev Placed : Standing → Type 0
  Placed s = (j : ℕ) × (r : ℕ) × (I.S j r ≡ table) × (s.table ≡ I.T j r) × (s.stands_for ≡ shown_region G Z (reg j r))

  -- two of them that are one table are one region's
  placed_agree : (s q : Standing) → Placed s → Placed q → agree s q ≡ true
  placed_agree s q (j, r, a, b, c) (j', r', a', b', c') = go (eqb s.table q.table) refl
    where
      go : (y : Bool) → eqb s.table q.table ≡ y
          → (not y || (eqb s.stands_for.size q.stands_for.size && eqb s.stands_for.first q.stands_for.first)) ≡ true
      go false e = refl
      go true e =
          let (u, w) = (R G Z I).inj j r j' r' a a' (sym b ∙ eqb-true _ _ e ∙ b') in
          let x : s.stands_for ≡ q.stands_for = c ∙ (λ i. shown_region G Z (reg (u i) (w i))) ∙ sym c' in
          rw (eq-eqb _ _ (ap (λ (z : Region). z.size) x), eq-eqb _ _ (ap (λ (z : Region). z.first) x)) refl

  placed_agrees : (q : Standing) (l : List Standing) → Placed q → ((x : Standing) → Memᴰ x l → Placed x) → agrees q l ≡ true
  unfolding agrees
  placed_agrees q [] b f = refl
  placed_agrees q (x ∷ l) b f = rw (placed_agree q x b (f x (here refl)), placed_agrees q l b (λ y i. f y (there i))) refl

  one_each : (l : List Standing) → ((x : Standing) → Memᴰ x l → Placed x) → one_region_each l ≡ true
  unfolding one_region_each
  one_each [] f = refl
  one_each (x ∷ l) f = rw (placed_agrees x l (f x (here refl)) (λ y i. f y (there i)), one_each l (λ y i. f y (there i))) refl

  -- ---- one walk

  module _ (g a : ℕ) (low : g ≤ k₀ G Z I) (l : a < space_of G p.numbers.levels) where
    abbrev o : Walked
    o = walk_to G p g a

    abbrev v : ℕ
    v = pg G Z a

    abbrev E : Ended G Z (area G Z I) p.numbers.levels (al G Z I) (few G Z I) p.words (R G Z I) a g (k₀ G Z I) o
    E = walk_ended G Z I g a low l

    pub not_damaged : is_damaged o.entry ≡ false
    not_damaged = go o.entry refl
      where
        go : (e : Entry) → o.entry ≡ e → is_damaged e ≡ false
        go Empty q = refl
        go (Frame b k) q = refl
        go (Table c) q = refl
        go Damaged q =
            absurd (never_bad (I.S o.left (anc (entries G) o.left v)) (I.T o.left (anc (entries G) o.left v)) (ap read_entry (sym q) ∙ E.ends.says_is))

    -- a region around the address, as the theory has it
    pub around : (j : ℕ) → region (size_at G j) (base_at G a j) ≡ shown_region G Z (reg j (anc (entries G) j v))
    around j = ap (region (size_at G j)) (base_is G Z a j ∙ ap (λ (x : ℕ). x * size_at G j) (sym (anc_size G Z a j)))

    -- the tables on the way stand for the regions around the address
    way_placed : (d h : ℕ) → o.left ≤ h → h + d ≤ p.numbers.levels → (q : Standing) → Memᴰ q (on_way G a o.tables h d) → Placed q
    unfolding on_way
    way_placed zero h m b q i = absurd (Memᴰ.not-nil i)
    way_placed (suc d) h m b q i = ⊎_elim (λ e. subst Placed (sym e) first) (λ j. way_placed d (suc h) (omega arith) (omega arith) q j) (Memᴰ.cases_cons i)
      where
        first : Placed (standing (at_height o.tables h) (region (size_at G (suc h)) (base_at G a (suc h))))
        first = (
          suc h,
          anc (entries G) (suc h) v,
          tables_above G Z I g a o E (suc h) (omega arith) (omega arith),
          ap (λ (j : ℕ). get_or o.tables j 0) (omega arith) ∙ E.ends.path_is (suc h) (omega arith) (omega arith),
          around (suc h),
        )

    -- and are in use
    way_used : (x : ℕ) → Memᴰ x o.tables → (j : ℕ) × (r : ℕ) × (I.S j r ≡ table) × (I.T j r ≡ x)
    way_used x i =
        ⊎_elim (λ z. (p.numbers.levels, 0, (R G Z I).root, (R G Z I).root_at ∙ sym z))
        (λ (j, c, d, e). (j, anc (entries G) j v, tables_above G Z I g a o E j c d, e))
        (E.way.known x i)

  -- ---- all walks

  -- a walk of the pool to some height, for an address of the space
  pub record Made (w : Probe) : Type 0 where
    pub target : ℕ
    pub low : target ≤ k₀ G Z I
    pub inside : w.at < space_of G p.numbers.levels
    pub is : w.end ≡ walk_to G p target w.at

  abbrev AllMade : List Probe → Type 0
  AllMade ws = (w : Probe) → Memᴰ w ws → Made w

  none_damaged : (ws : List Probe) → AllMade ws → any_ends is_damaged ws ≡ false
  unfolding any_ends
  none_damaged [] f = refl
  none_damaged (w ∷ ws) f =
      let M = f w (here refl) in
      false_or (ap (λ (o : Walked). is_damaged o.entry) M.is ∙ not_damaged M.target w.at M.low M.inside) (none_damaged ws (λ q i. f q (there i)))

  all_placed : (ws : List Probe) → AllMade ws → (q : Standing) → Memᴰ q (on_ways G p.numbers.levels ws) → Placed q
  unfolding on_ways
  all_placed [] f q i = absurd (Memᴰ.not-nil i)
  all_placed (w ∷ ws) f q i =
      ⊎_elim (λ j. first (f w (here refl)) j) (λ j. all_placed ws (λ x y. f x (there y)) q j)
      (Memᴰ.append_cases (on_way G w.at w.end.tables w.end.left (p.numbers.levels - w.end.left)) i)
    where
      first : Made w → Memᴰ q (on_way G w.at w.end.tables w.end.left (p.numbers.levels - w.end.left)) → Placed q
      first M j =
          let o = walk_to G p M.target w.at in
          let b : o.left ≤ p.numbers.levels = omega (arith, (E M.target w.at M.low M.inside).ends.low, root_at G Z I) in
          way_placed M.target w.at M.low M.inside (p.numbers.levels - o.left) o.left (omega arith) (omega arith) q
          (subst (λ (x : Walked). Memᴰ q (on_way G w.at x.tables x.left (p.numbers.levels - x.left))) M.is j)

  -- refusal 8 is not theirs
  pub never_spoiled : (ws : List Probe) → AllMade ws → spoiled G p.numbers.levels ws ≡ false
  never_spoiled ws f = rw (none_damaged ws f, one_each (on_ways G p.numbers.levels ws) (all_placed ws f)) refl

  ways_used : (ws : List Probe) → AllMade ws → (x : ℕ) → Memᴰ x (ways ws) → (j : ℕ) × (r : ℕ) × (I.S j r ≡ table) × (I.T j r ≡ x)
  unfolding ways
  ways_used [] f x i = absurd (Memᴰ.not-nil i)
  ways_used (w ∷ ws) f x i =
      let M = f w (here refl) in
      ⊎_elim (λ j. way_used M.target w.at M.low M.inside x (subst (λ (o : Walked). Memᴰ x o.tables) M.is j)) (ways_used ws (λ y j. f y (there j)) x)
      (Memᴰ.append_cases w.end.tables i)

  -- free tables may be taken, as many as there are
  pub may_take_all : (ws : List Probe) → AllMade ws → (need : ℕ) → need ≤ p.numbers.free → may_take p.list (n G Z I) (ways ws) p.numbers.free need ≡ true
  may_take_all ws f need l =
      may_take_lem G Z (area G Z I) p.numbers.levels (al G Z I) (R G Z I) p.list need p.numbers.free (ways ws) (record {
        each = (I.inv.spare tt).free.each;
        once = (I.inv.spare tt).free.once;
        unseen = λ i b m. let (j, r, t, e) = ways_used ws f (place_at p.list i) m in ((I.inv.spare tt).free.each i b).1 j r t e;
      }) l
