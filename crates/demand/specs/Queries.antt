-- A pool whose words are a tree: the walk from its root, and query.
use Rattle.std.specs.Prelude.{◌≡◌, refl, Bool, true, false, cond, ℕ, suc, ◌+◌, ◌-◌, ◌*◌, ◌/◌, ◌≤◌, ◌<◌, leb}
use Rattle.std.proofs.Common.{ap, sym, ◌∙◌, subst, inr, arith, leb-false}
use mathlib.Core.List.Memᴰ
use mathlib.Core.List.{map, Memᴰ}
use Rattle.std.proofs.Math.Option
use Rattle.std.proofs.Math.Option.{none}
use Rattle.std.proofs.Math.Nat.{div-eq_of_lt, mul-mod_left}
use Rattle.std.proofs.Math.Decide.{ℕ_discrete}
use Rattle.path.specs.Geometry.{Granule, entries, size_at, space_of, Sane}
use Rattle.path.specs.Areas.{Area, area_of, total, GoodArea}
use Rattle.path.specs.Laws.{setup_good, space_some, entries_pos}
use Rattle.path.specs.RegionLaws.{region_base, aligned_base, base_within}
use Rattle.path.specs.Paths.{base_at}
use Rattle.entry.proofs.Laws.{framed_paged}
use Rattle.entry.specs.declared.Entry.{Entry}
use Rattle.entry.specs.declared.Entry.TheVariants.{Empty, Table, Frame, Damaged}
use Rattle.model.specs.Answers as answers
use Rattle.model.specs.Answers.{Answer, found, refused, Pool}
use Rattle.model.specs.declared.Walked.{Walked}
use Rattle.model.specs.Walk.{no_way}
use Rattle.model.specs.Calls.{good_pool, walk_to, found_at, query_w}
use Rattle.model.specs.Ledger.{Ledger, ledger, any_overlap, cover_of, hole_of, hole_at, query_of, query_l}
use Rattle.model.specs.Sound.{Each}
use Rattle.model.specs.Holes.{Touched, HoldsOne, IsHole, Shaped}
use Rattle.model.proofs.LedgerLaws.{any_overlap_lem}
use Rattle.model.proofs.HoleLaws.{here, around_here, around_one, hole_is, hole_only}
use Rattle.tree.specs.Region.{anc, page, anc_page}
use Rattle.tree.specs.Tree.{Ent, empty, frame, table, table≢empty, read_of, r_empty, r_frame, Geo, Rendered}
use Rattle.tree.specs.Walk.{Rooted, rooted, chain, stop, Ends, halt}
use Rattle.tree.specs.Inv.{Mapping}
use Rattle.tree.specs.Ledger.{ended, none_meets, query_none, query_some, table_inside}
use Rattle.demand.specs.Shown.{shown, pg, anc_size, cover_lookup, first_in, overlap_met, base_is}
use Rattle.demand.specs.Arm.{read_entry, geo, payload_base, payload_attrs}
use Rattle.demand.specs.Memories.{read_at}
use Rattle.demand.specs.Walks.{Ended, Way, no_way_lem, walk_ends, never_bad, entry_table}
use Rattle.demand.specs.Sims.{SimIf, root_height}

-- an entry that reads as empty, and one that reads as a frame
pub entry_empty : (s : Ent) (t : ℕ) → r_empty ≡ read_of s t → s ≡ empty
entry_empty empty t q = refl
entry_empty (frame x) t q = cc
entry_empty table t q = cc

pub entry_frame : (s : Ent) (t x : ℕ) → r_frame x ≡ read_of s t → s ≡ frame x
entry_frame empty t x q = cc
entry_frame (frame y) t x q = cc
entry_frame table t x q = cc

module _ (G : Granule) (Z : Sane G) {C D : Type 0} {p : Pool} {A : Ledger} (I : SimIf G Z C D p A) where
  abbrev pub area : Area
  area = area_of p.numbers

  abbrev pub n : ℕ
  n = total (area_of p.numbers)

  abbrev pub k₀ : ℕ
  k₀ = p.numbers.levels - 1

  abbrev pub al : GoodArea G area
  al = I.good.numbers.placed

  abbrev pub X : Geo
  X = geo G Z area p.numbers.levels al

  abbrev pub R : Rendered X (read_at G p.words) I.T I.S
  R = I.inv.ren

  -- the ledger, by the pool's numbers
  abbrev pub own : Ledger
  own = ledger p.numbers.levels area (map (shown G Z) I.L)

  pub ledger_is : A ≡ own
  ledger_is = let a = sym I.levels_are in let b = sym I.area_is in let d = I.live_is in λ i. ledger (a i) (b i) (d i)

  pub pool_good : good_pool G p ≡ true
  pool_good = setup_good I.good

  pub few : p.numbers.levels ≤ 4
  few = omega (arith, I.good.numbers.not_more, Z.most_four)

  pub root_at : suc k₀ ≡ p.numbers.levels
  root_at = root_height G Z p I.good

  pub space_is : space_of G p.numbers.levels ≡ size_at G p.numbers.levels
  space_is = space_some G I.good.numbers.enough I.good.numbers.not_more

  -- the region of the root around an address of the space
  pub top_zero : (a : ℕ) → a < space_of G p.numbers.levels → anc (entries G) (suc k₀) (pg G Z a) ≡ 0
  top_zero a l = anc_size G Z a (suc k₀) ∙ div-eq_of_lt (omega (arith, space_is, ap (size_at G) root_at))

  pub walk_ended : (g a : ℕ) → g ≤ k₀ → a < space_of G p.numbers.levels
      → Ended G Z area p.numbers.levels al few p.words R a g k₀ (walk_to G p g a)
  walk_ended g a le l = walk_ends G Z area p.numbers.levels al few p.words R a g k₀ no_way 0 le (omega (arith, root_at)) number stands (subst (λ (j : ℕ). Way G Z area p.numbers.levels al few p.words R a j no_way) (sym root_at) (no_way_lem G Z area p.numbers.levels al few p.words R a))
    where
      Q : Rooted X I.T I.S k₀
      Q = rooted R root_at

      number : 0 ≡ I.T (suc k₀) (anc (entries G) (suc k₀) (pg G Z a))
      number = sym Q.number ∙ ap (I.T (suc k₀)) (sym (top_zero a l))

      stands : I.S (suc k₀) (anc (entries G) (suc k₀) (pg G Z a)) ≡ table
      stands = ap (I.S (suc k₀)) (top_zero a l) ∙ Q.stands

  -- above the entry where a walk ended stand tables
  pub tables_above : (g a : ℕ) (o : Walked) → Ended G Z area p.numbers.levels al few p.words R a g k₀ o → (j : ℕ) → o.left < j → j ≤ p.numbers.levels
      → I.S j (anc (entries G) j (pg G Z a)) ≡ table
  tables_above g a o E j l m = go (ℕ_discrete (suc o.left) j)
    where
      go : Dec (suc o.left ≡ j) → I.S j (anc (entries G) j (pg G Z a)) ≡ table
      go (yes e) = subst (λ (i : ℕ). I.S i (anc (entries G) i (pg G Z a)) ≡ table) e E.ends.parent
      go (no d) = chain R (pg G Z a) (suc o.left) (table≢empty E.ends.parent) j (omega arith) m

  -- the ledger's mappings have the tree's sizes
  pub own_shaped : Each (Shaped G) own.live
  own_shaped m i = let (k, _, e) = Memᴰ.of_map (shown G Z) I.L i in subst (Shaped G) e (record { height = k.h; sized = refl; aligned = mul-mod_left k.r (size_at G k.h) })

  -- where a walk to the last level ends at an empty entry, the entry's region is the ledger's hole
  module _ (all : C) (a : ℕ) (o : Walked) (E : Ended G Z area p.numbers.levels al few p.words R a 0 k₀ o)
      (none_there : I.S o.left (anc (entries G) o.left (pg G Z a)) ≡ empty) where
    abbrev s : ℕ
    s = o.left

    abbrev r : ℕ
    r = anc (entries G) s (pg G Z a)

    base_at_lem : (h : ℕ) → base_at G a h ≡ anc (entries G) h (pg G Z a) * size_at G h
    base_at_lem h = base_is G Z a h ∙ ap (λ (x : ℕ). x * size_at G h) (sym (anc_size G Z a h))

    -- the walk for the first page of the region, to the region's height, ends there too
    first_page : Ends X I.T I.S s (page (entries G) s r) s (stop s (λ k. I.T k (anc (entries G) k (page (entries G) s r))) (read_of (I.S s (anc (entries G) s (page (entries G) s r))) (I.T s (anc (entries G) s (page (entries G) s r)))))
    first_page = halt (ap (λ (x : ℕ). I.S (suc s) (x / entries G)) same ∙ E.ends.parent) (inr refl) refl (λ k _ _. refl)
      where
        same : anc (entries G) s (page (entries G) s r) ≡ r
        same = anc_page (entries G) s r (entries_pos G)

    hole_untouched : Touched own.live (here G a s) → ⊥
    hole_untouched t =
        let e = (any_overlap_lem (base_at G a s) (size_at G s) own.live).1 t in
        let (m, i, c) = overlap_met G Z s r I.L (ap (λ (x : ℕ). any_overlap x (size_at G s) own.live) (sym (base_at_lem s)) ∙ e) in
        none_meets R I.inv.holds first_page (omega arith) (ap (I.S s) (anc_page (entries G) s r (entries_pos G)) ∙ none_there) m i c

    next_held : suc s < p.numbers.levels → HoldsOne own.live (here G a (suc s))
    next_held l =
        let (m, i, (b, c)) = table_inside I.inv all (suc s) (anc (entries G) (suc s) (pg G Z a)) l E.ends.parent in
        held m i b (sym (first_in G Z m.h (suc s) m.r) ∙ c ∙ anc_size G Z a (suc s))
      where
        held : (m : Mapping) → Memᴰ m I.L → m.h < suc s → m.r * size_at G m.h / size_at G (suc s) ≡ a / size_at G (suc s) → HoldsOne own.live (here G a (suc s))
        held m i b e =
            let q = region_base G (m.r * size_at G m.h) a (suc s) e in
            let f = aligned_base G (m.r * size_at G m.h) m.h (mul-mod_left m.r (size_at G m.h)) in
            let w = base_within G {j = m.h} {h = suc s} (omega arith) (m.r * size_at G m.h) in
            (shown G Z m, Memᴰ.map (shown G Z) i, omega (arith, w.0), omega (arith, w.1))

    pub walk_hole : IsHole G own a (here G a s)
    walk_hole = record {
      height = s;
      around = around_here G p.numbers.levels a s (omega (arith, E.ends.low, root_at));
      untouched = hole_untouched;
      next_holds = λ q Q. subst (HoldsOne own.live) (sym (around_one G Q)) (next_held Q.low);
    }

    pub hole_own : cover_of a own.live ≡ none → hole_of G own a ≡ here G a s
    hole_own e = hole_only G own own_shaped a (hole_is G own own_shaped a (omega (arith, root_at)) e) walk_hole

  -- query
  pub query_own : C → (a : ℕ) → query_w G p a ≡ query_l G own a
  unfolding query_w query_l found_at
  query_own all a = rw pool_good (go (leb (space_of G p.numbers.levels) a) refl)
    where
      o : Walked
      o = walk_to G p 0 a

      answer : (E : Ended G Z area p.numbers.levels al few p.words R a 0 k₀ o) (e : Entry) → o.entry ≡ e → found_at G a e o.left ≡ query_of G own a (cover_of a (map (shown G Z) I.L))
      answer E e q = at e q (ap read_entry (sym q) ∙ E.ends.says_is)
        where
          s : ℕ
          s = o.left

          r : ℕ
          r = anc (entries G) s (pg G Z a)

          at : (e : Entry) → o.entry ≡ e → read_entry e ≡ read_of (I.S s r) (I.T s r) → found_at G a e s ≡ query_of G own a (cover_of a (map (shown G Z) I.L))
          at Empty q z =
              let y = entry_empty (I.S s r) (I.T s r) z in
              let c = cover_lookup G Z a I.L ∙ ap (Option.map (shown G Z)) (query_none R I.inv.holds E.ends y) in
              sym (ap (query_of G own a) c ∙ ap hole_at (hole_own all a o E y c))
          at (Frame b k) q z =
              let F = E.framed b k q in
              let u = base_is G Z a s ∙ ap (λ (x : ℕ). x * size_at G s) (sym (anc_size G Z a s)) in
              let v = sym (payload_base G Z area p.numbers.levels al b k (framed_paged Z F) F.few) in
              let w = sym (payload_attrs G Z area p.numbers.levels al b k (framed_paged Z F) F.few) in
              (λ i. found (answers.mapping (u i) (v i) (size_at G s) (w i)))
              ∙ sym (ap (query_of G own a) (cover_lookup G Z a I.L ∙ ap (Option.map (shown G Z)) (query_some R I.inv.holds E.ends (b + k) (entry_frame (I.S s r) (I.T s r) (b + k) z))))
          at (Table c) q z = absurd (ended R E.ends (entry_table (I.S s r) (I.T s r) c z).0)
          at Damaged q z = absurd (never_bad (I.S s r) (I.T s r) z)

      go : (b : Bool) → leb (space_of G p.numbers.levels) a ≡ b → cond b (refused 4) (found_at G a o.entry o.left) ≡ cond b (refused 4) (query_of G own a (cover_of a (map (shown G Z) I.L)))
      go true e = refl
      go false e = answer (walk_ended 0 a (omega arith) (leb-false _ _ e)) o.entry refl
