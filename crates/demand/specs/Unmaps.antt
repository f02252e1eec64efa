-- Unmap on a pool whose words are a tree: the pool after it has the mappings without the one at the address. On a pool that holds a ledger the answer
-- is the ledger's, and the pool after it holds the ledger after it.
use Rattle.std.specs.Prelude.{◌≡◌, refl, ◌≢◌, Bool, true, false, cond, ℕ, suc, ◌+◌, ◌-◌, ◌*◌, ◌/◌, ◌%◌, ◌≤◌, ◌<◌, eqb, length, get_or, set}
use Rattle.std.proofs.Math.Path.{ap}
use Rattle.std.proofs.Common.{sym, ◌∙◌, subst, div-add-mod', mod-lt, mul-div_cancel, arith, length-set, eqb-true, le-ltb, eq-eqb, ne_eqb}
use Rattle.std.proofs.lemmas.Bool.{eqb-false}
use mathlib.Core.List.{List, [], ◌∷◌, map, Memᴰ}
use Rattle.std.proofs.Math.Option
use Rattle.std.proofs.Math.Option.{some}
use Rattle.path.specs.Numbers.{with_free}
use Rattle.path.specs.Geometry.{Granule, entries, size_at, space_of, Sane}
use Rattle.path.specs.Numbers.{with_free}
use Rattle.path.specs.Laws.{size_pos, entries_pos}
use Rattle.path.specs.Paths.{path_of}
use Rattle.entry.proofs.Laws.{framed_paged}
use Rattle.entry.specs.declared.Entry.{Entry}
use Rattle.entry.specs.declared.Entry.TheVariants.{Empty, Table, Frame, Damaged}
use Rattle.model.specs.Answers.{gave, Pool, pool, refuse}
use Rattle.model.specs.declared.Walked.{Walked}
use Rattle.model.specs.Walk.{slot, at_height}
use Rattle.model.specs.Writes.{Memory, memory, perform_all, freed, prune_writes, unmap_writes}
use Rattle.model.specs.Calls.{walk_to, written, unmap_here, unmap_at}
use Rattle.model.specs.Ledger.{Ledger, with_live, cover_of, drop_at, free_tables, hole_at, Entered, unmap_of}
use Rattle.tree.specs.Region.{anc, Same, same?, upd, upd_other}
use Rattle.tree.specs.Tree.{empty, frame, read_of}
use Rattle.tree.specs.Walk.{unmet}
use Rattle.tree.specs.Inv.{Mapping, mapping, drop_if, without, without_gives, clear, reword}
use Rattle.tree.specs.Prune as prunes
use Rattle.tree.specs.Prune.{LooseIf, PrunedIf, prune, prune_ok}
use Rattle.tree.specs.Ledger.{ended, covers_at, query_none, query_some}
use Rattle.tree.specs.Count.{Distinct, free_room}
use Rattle.demand.specs.Shown.{shown, pg, anc_size, cover_lookup, drop_without}
use Rattle.demand.specs.Arm.{read_entry, payload_base, payload_attrs}
use Rattle.demand.specs.Memories.{rd_wr}
use Rattle.demand.specs.Walks.{Ended, spot, way_at, never_bad, entry_table}
use Rattle.demand.specs.Carried.{A, clear_first, prune_carried}
use Rattle.demand.specs.Sims.{SimIf}
use Rattle.demand.specs.Queries.{area, n, k₀, al, X, R, own, few, root_at, walk_ended, tables_above, hole_own, entry_empty, entry_frame}
use Rattle.demand.specs.Maps.{AlikeIf, own_sim, free_is, regood}

-- without one mapping nothing stands twice that did not before
pub distinct_without : (h r : ℕ) (L : List Mapping) → Distinct L → Distinct (without h r L)
distinct_without h r [] d = tt
distinct_without h r (m ∷ L) d = go (same? h r m.h m.r) (distinct_without h r L d.1)
  where
    go : (w : Dec (Same h r m.h m.r)) → Distinct (without h r L) → Distinct (drop_if w m (without h r L))
    go (yes s) ih = ih
    go (no s) ih = (λ n. d.0 (without_gives h r m L n).0, ih)

module _ (G : Granule) (Z : Sane G) {C D : Type 0} {p : Pool} {B : Ledger} (I : SimIf G Z C D p B) (a : ℕ) (in_space : a < space_of G p.numbers.levels) where
  abbrev f : ℕ
  f = p.numbers.free

  abbrev top : ℕ
  top = p.numbers.levels

  abbrev v : ℕ
  v = pg G Z a

  abbrev o : Walked
  o = walk_to G p 0 a

  abbrev h : ℕ
  h = o.left

  abbrev r : ℕ
  r = anc (entries G) h v

  abbrev E : Ended G Z (area G Z I) top (al G Z I) (few G Z I) p.words (R G Z I) a 0 (k₀ G Z I) o
  E = walk_ended G Z I 0 a (omega arith) in_space

  abbrev way : ℕ → ℕ
  way = way_at o.tables

  pub low : h < top
  low = omega (arith, E.ends.low, root_at G Z I)

  -- the tables on the way
  pub way_is : (j : ℕ) → h < j → j ≤ top → way j ≡ I.T j (anc (entries G) j v)
  way_is j l m = E.ends.path_is j l m

  pub way_in : (j : ℕ) → h < j → j ≤ top → way j < n G Z I
  way_in j l m = subst (λ (t : ℕ). t < n G Z I) (sym (way_is j l m)) ((R G Z I).range j (anc (entries G) j v) (tables_above G Z I 0 a o E j l m))

  pub way_apart : (i j : ℕ) → h < i → i < j → j ≤ top → way i ≢ way j
  way_apart i j l m q e = unmet (R G Z I) v i (tables_above G Z I 0 a o E i l (omega arith)) j m q (sym (way_is j (omega arith) q) ∙ sym e ∙ way_is i l (omega arith))

  -- a mapping that starts where this one does is this one
  module _ (b k : ℕ) (z : I.S h r ≡ frame (b + k)) (starts : a % size_at G h ≡ 0) where
    abbrev x : ℕ
    x = b + k

    start_is : r * size_at G h ≡ a
    start_is = ap (λ (q : ℕ). q * size_at G h) (anc_size G Z a h) ∙ omega (arith, div-add-mod' a (size_at G h))

    only : (m : Mapping) → Memᴰ m I.L → m.r * size_at G m.h ≡ r * size_at G h → Same h r m.h m.r
    only m c e =
        let u : anc (entries G) m.h v ≡ m.r = anc_size G Z a m.h ∙ ap (λ (w : ℕ). w / size_at G m.h) (sym start_is ∙ sym e) ∙ mul-div_cancel m.r (size_pos G m.h) in
        let w : m.h ≡ h = covers_at (R G Z I) I.inv.holds E.ends m c u in
        (w, sym u ∙ ap (λ (j : ℕ). anc (entries G) j v) w)

    pub dropped : drop_at a (map (shown G Z) I.L) ≡ map (shown G Z) (without h r I.L)
    dropped = ap (λ (w : ℕ). drop_at w (map (shown G Z) I.L)) (sym start_is) ∙ drop_without G Z h r I.L only

    -- the frame's word cleared
    abbrev words₁ : List ℕ
    words₁ = set p.words (slot G (way (suc h)) (r % entries G)) 0

    pub at_up : I.T (suc h) (r / entries G) ≡ way (suc h)
    at_up = sym (way_is (suc h) (omega arith) low)

    unfoldable pub loose : LooseIf (X G Z I) (A G Z (area G Z I) top (al G Z I)) v way C D (without h r I.L) (k₀ G Z I - h) (suc h)
    loose = record {
      m = words₁;
      q = p.list;
      f = f;
      T = upd I.T h r 0;
      S = upd I.S h r empty;
      ok = length-set p.words (slot G (way (suc h)) (r % entries G)) 0 ∙ I.good.numbers.words_are;
      okᶠ = I.good.numbers.places_are;
      inv = reword (rw at_up at (clear h r x I.inv z))
          (rd_wr G Z (area G Z I) top (al G Z I) p.words (way (suc h)) (r % entries G) 0 I.good.numbers.words_are (way_in (suc h) (omega arith) low) (mod-lt r (entries_pos G))) (λ _ i l. refl);
      stands = upd_other I.S h r empty (suc h) (r / entries G) (λ q. omega (arith, q.0)) ∙ E.ends.parent;
      path = λ j l m. way_is j (omega arith) m ∙ sym (upd_other I.T h r 0 j (anc (entries G) j v) (λ q. omega (arith, q.0)));
      levels = omega (arith, E.ends.low, root_at G Z I);
    }

    -- what pruning comes to
    abbrev pruned : prunes.Pool (A G Z (area G Z I) top (al G Z I))
    pruned = prune (X G Z I) (A G Z (area G Z I) top (al G Z I)) v way (k₀ G Z I - h) (suc h) words₁ p.list f

    cut : PrunedIf (X G Z I) (A G Z (area G Z I) top (al G Z I)) v way C D (without h r I.L) pruned
    unfolding loose
    cut = prune_ok (X G Z I) (A G Z (area G Z I) top (al G Z I)) v way (k₀ G Z I - h) (suc h) loose

    abbrev pub given : ℕ
    given = freed G p.words o.tables (path_of G a) h (k₀ G Z I - h)

    abbrev memory₁ : Memory
    memory₁ = perform_all G (unmap_writes G o.tables (path_of G a) h f given) (memory p.words p.list)

    pub carried : prunes.pool {A = A G Z (area G Z I) top (al G Z I)} memory₁.words memory₁.list (f + given) ≡ pruned
    unfolding perform_all
    carried =
        ap (λ (m : List ℕ). prunes.pool {A = A G Z (area G Z I) top (al G Z I)} (perform_all G (prune_writes G o.tables (path_of G a) h f given) (memory m p.list)).words (perform_all G (prune_writes G o.tables (path_of G a) h f given) (memory m p.list)).list (f + given)) first
        ∙ prune_carried G Z (area G Z I) top (al G Z I) v (path_of G a) o.tables sp (few G Z I) h way_in way_apart p.words I.good.numbers.words_are (k₀ G Z I - h) h words₁ p.list f (omega arith) (omega (arith, E.ends.low, root_at G Z I))
        (clear_first G Z (area G Z I) top (al G Z I) v (path_of G a) o.tables sp (few G Z I) h way_in way_apart p.words I.good.numbers.words_are h (omega arith) low)
      where
        sp : (j : ℕ) → j < 4 → at_height (path_of G a) j ≡ anc (entries G) j v % entries G
        sp = spot G Z (area G Z I) top (al G Z I) (few G Z I) p.words (R G Z I) a

        first : set p.words (slot G (at_height o.tables h) (at_height (path_of G a) h)) 0 ≡ words₁
        first = ap (λ (t : ℕ). set p.words (slot G t (at_height (path_of G a) h)) 0) (ap (λ (j : ℕ). get_or o.tables j 0) (omega (arith, few G Z I, low))) ∙ ap (λ (i : ℕ). set p.words (slot G (way (suc h)) i) 0) (sp h (omega (arith, few G Z I, low)))

    -- a pool of the theory, with this pool's numbers
    abbrev back : prunes.Pool (A G Z (area G Z I) top (al G Z I)) → Pool
    back q = pool (with_free p.numbers q.f) q.m p.cut q.q

    abbrev ledger₁ : Ledger
    ledger₁ = with_live (own G Z I) (drop_at a (map (shown G Z) I.L))

    pub unmap_after : f + given < n G Z I → SimIf G Z C D (written G p (unmap_writes G o.tables (path_of G a) h f given) (f + given)) ledger₁
    unmap_after fits = subst (λ (q : prunes.Pool (A G Z (area G Z I) top (al G Z I))). SimIf G Z C D (back q) ledger₁) (sym carried) (record {
      good = regood I.good (length pruned.m) (length pruned.q) pruned.f cut.ok cut.okᶠ (subst (λ (q : prunes.Pool (A G Z (area G Z I) top (al G Z I))). q.f < n G Z I) carried fits);
      levels_are = refl;
      area_is = refl;
      L = without h r I.L;
      live_is = dropped;
      once = distinct_without h r I.L I.once;
      T = cut.T;
      S = cut.S;
      outside = λ d m i. I.outside d m (without_gives h r m I.L i).0;
      inv = cut.inv;
    })

    room : D → f + given < n G Z I
    room d = subst (λ (q : prunes.Pool (A G Z (area G Z I) top (al G Z I))). q.f < n G Z I) (sym carried) (free_room cut.inv d)

    -- as many tables come back as the ledger needs less
    given_is : C → D → free_tables G ledger₁ - free_tables G (own G Z I) ≡ given
    given_is c d = omega (arith, free_is G Z I c d, free_is G Z (unmap_after (room d)) c d, ap (free_tables G) (λ i. with_live (own G Z I) (same i)))
      where
        same : drop_at a (map (shown G Z) I.L) ≡ map (shown G Z) (unmap_after (room d)).L
        same = (unmap_after (room d)).live_is

  -- the ledger's answer once the tests are passed
  abbrev ledger_says : Entered
  ledger_says = unmap_of G (own G Z I) a (cover_of a (map (shown G Z) I.L))

  pub unmap_alike : C → D → (e : Entry) → o.entry ≡ e → AlikeIf C D G Z (unmap_at G p a o e) ledger_says
  unfolding unmap_at unmap_here unmap_of
  unmap_alike all spare e q = at e q (ap read_entry (sym q) ∙ E.ends.says_is)
    where
      covered : (b k : ℕ) → I.S h r ≡ frame (b + k) → cover_of a (map (shown G Z) I.L) ≡ some (shown G Z (mapping h r (b + k)))
      covered b k z = cover_lookup G Z a I.L ∙ ap (Option.map (shown G Z)) (query_some (R G Z I) I.inv.holds E.ends (b + k) z)

      frees : (b k : ℕ) (z : I.S h r ≡ frame (b + k)) → o.entry ≡ Frame b k → (y : Bool) → eqb (a % size_at G h) 0 ≡ y
          → AlikeIf C D G Z (cond y (unmap_here G p a b k o (freed G p.words o.tables (path_of G a) h (k₀ G Z I - h))) (refuse 10 p)) ledger_says
      frees b k z q true e =
          let starts = eqb-true (a % size_at G h) 0 e in
          let F = E.framed b k q in
          let u = sym (payload_base G Z (area G Z I) top (al G Z I) b k (framed_paged Z F) F.few) in
          let w = sym (payload_attrs G Z (area G Z I) top (al G Z I) b k (framed_paged Z F) F.few) in
          let c = sym (given_is b k z starts all spare) in
          let fits : f + given b k z starts ≤ n G Z I - 1 = omega (arith, room b k z starts spare) in
          rw (covered b k z, eq-eqb _ _ (start_is b k z starts), le-ltb (n G Z I - 1) (f + given b k z starts) fits)
          (record { answer = λ i. gave (u i) (size_at G h) (w i) (c i); sim = unmap_after b k z starts (room b k z starts spare) })
      frees b k z q false e =
          let no = eqb-false (a % size_at G h) 0 e in
          let away : r * size_at G h ≢ a = λ y. no (omega (arith, div-add-mod' a (size_at G h), ap (λ (t : ℕ). t * size_at G h) (anc_size G Z a h))) in
          rw (covered b k z, ne_eqb _ _ away) (record { answer = refl; sim = own_sim G Z I })

      at : (e : Entry) → o.entry ≡ e → read_entry e ≡ read_of (I.S h r) (I.T h r) → AlikeIf C D G Z (unmap_at G p a o e) ledger_says
      at Empty q z =
          let y = entry_empty (I.S h r) (I.T h r) z in
          let c = cover_lookup G Z a I.L ∙ ap (Option.map (shown G Z)) (query_none (R G Z I) I.inv.holds E.ends y) in
          rw c (record { answer = ap hole_at (sym (hole_own G Z I all a o E y c)); sim = own_sim G Z I })
      at (Frame b k) q z = frees b k (entry_frame (I.S h r) (I.T h r) (b + k) z) q (eqb (a % size_at G h) 0) refl
      at (Table c) q z = absurd (ended (R G Z I) E.ends (entry_table (I.S h r) (I.T h r) c z).0)
      at Damaged q z = absurd (never_bad (I.S h r) (I.T h r) z)
