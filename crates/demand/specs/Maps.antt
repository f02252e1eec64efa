-- Map on a pool whose words are a tree: where tables that may be taken are unused, the pool after it has the mappings and the new one. On a pool that
-- holds a ledger the answer is the ledger's, and the pool after it holds the ledger after it.
use Rattle.std.specs.Prelude.{◌≡◌, refl, Bool, cond, ℕ, suc, ◌+◌, ◌-◌, ◌*◌, ◌/◌, ◌%◌, ◌≤◌, ◌<◌, max, leb, eqb, length, get_or}
use Rattle.std.proofs.Math.Path.{ap}
use Rattle.std.proofs.Common.{sym, ◌∙◌, subst, subst₂, ⊎_elim, div-add-mod', arith}
use Rattle.std.proofs.Math.Bool.{true, false}
use mathlib.Core.List.Memᴰ
use mathlib.Core.List.{◌∷◌, map, Memᴰ}
use Rattle.std.proofs.Math.Dec.{ltb}
use borrow.Author.Tests.{ltb-false, leb-false, eqb-true}
use Rattle.path.specs.Geometry.{Granule, entries, size_at, space_of, physical, height_of, Sane}
use Rattle.path.specs.Areas.{Area, area_of, total, meets_area}
use Rattle.path.specs.Numbers.{with_free, GoodSetup}
use Rattle.path.specs.Laws.{height_size, meets_apart}
use Rattle.path.specs.declared.Setup.{Setup}
use Rattle.path.specs.Paths.{path_of}
use Rattle.entry.specs.Words.{Framed, frame_word}
use Rattle.entry.proofs.Laws.{framed_paged}
use Rattle.entry.specs.declared.Entry.{Entry}
use Rattle.entry.specs.declared.Entry.TheVariants.{Empty, Table, Frame, Damaged}
use Rattle.model.specs.Answers as answers
use Rattle.model.specs.Answers.{Answer, took, refused, Pool, pool, Done, done, refuse}
use Rattle.model.specs.declared.Walked.{Walked}
use Rattle.model.specs.Walk.{at_height}
use Rattle.model.specs.Writes.{memory, perform_all, map_writes, may_take}
use Rattle.model.specs.Calls.{walk_to, written, map_tests, map_here, map_at}
use Rattle.model.specs.Sound.{OffTables}
use Rattle.model.specs.Ledger.{Ledger, with_live, any_overlap, tables_lacking, tables_needed, free_tables, Entered, entered}
use Rattle.tree.specs.Region.{anc, page}
use Rattle.tree.specs.Tree.{empty, read_of}
use Rattle.tree.specs.Inv.{Mapping, mapping, InvIf, whole, excuse}
use Rattle.tree.specs.Ops.{grow, Mem, Taken, free_taken, MappedIf, ReadyIf, grow_ok}
use Rattle.tree.specs.Ledger.{lack, lack_is, none_meets, frame_meets, table_meets}
use Rattle.tree.specs.Needed.{pool_count}
use Rattle.demand.specs.Shown.{shown, pg, anc_size, page_of, overlap_met, met_overlap, lacking_is, needed_count, base_of, attrs_of}
use Rattle.demand.specs.Arm.{read_entry, payload_base, payload_attrs}
use Rattle.demand.specs.Memories.{read_at, place_at}
use Rattle.demand.specs.Walks.{Ended, spot, never_bad, entry_table}
use Rattle.demand.specs.Carried.{A, map_carried, may_take_lem}
use Rattle.demand.specs.Sims.{SimIf}
use Rattle.demand.specs.Queries.{area, n, k₀, al, X, R, own, few, root_at, walk_ended, tables_above, entry_empty, entry_frame}

-- what the tests of map's arguments say where none refuses
pub record Fine (G : Granule) (levels : ℕ) (area : Area) (a b size k : ℕ) : Type 0 where
  pub sized : height_of G size ≤ G.large
  pub some_attributes : k < 16
  pub in_space : a + size ≤ space_of G levels
  pub start_in : a < space_of G levels
  pub in_physical : b + size ≤ physical
  pub address_aligned : a % size ≡ 0
  pub frame_aligned : b % size ≡ 0
  pub outside : OffTables G area (answers.mapping a b size k)

pub tests_fine : (G : Granule) (levels : ℕ) (area : Area) (a b size k : ℕ) → map_tests G levels area a b size k ≡ 0 → Fine G levels area a b size k
unfolding map_tests
tests_fine G levels area a b size k e = go (ltb G.large (height_of G size)) (ltb 15 k) (leb (space_of G levels) a) (ltb (space_of G levels) (a + size)) (ltb physical (b + size)) (eqb (a % size) 0) (eqb (b % size) 0) (meets_area G area b size) refl refl refl refl refl refl refl refl e
  where
    go : (x₁ x₂ x₃ x₄ x₅ x₆ x₇ x₈ : Bool) → ltb G.large (height_of G size) ≡ x₁ → ltb 15 k ≡ x₂ → leb (space_of G levels) a ≡ x₃ → ltb (space_of G levels) (a + size) ≡ x₄ → ltb physical (b + size) ≡ x₅ → eqb (a % size) 0 ≡ x₆ → eqb (b % size) 0 ≡ x₇ → meets_area G area b size ≡ x₈
        → ◌≡◌ {A = ℕ} (cond x₁ 2 (cond x₂ 3 (cond x₃ 4 (cond x₄ 4 (cond x₅ 4 (cond x₆ (cond x₇ (cond x₈ 11 0) 5) 5)))))) 0 → Fine G levels area a b size k
    go true x₂ x₃ x₄ x₅ x₆ x₇ x₈ p₁ p₂ p₃ p₄ p₅ p₆ p₇ p₈ e = absurd (omega arith)
    go false true x₃ x₄ x₅ x₆ x₇ x₈ p₁ p₂ p₃ p₄ p₅ p₆ p₇ p₈ e = absurd (omega arith)
    go false false true x₄ x₅ x₆ x₇ x₈ p₁ p₂ p₃ p₄ p₅ p₆ p₇ p₈ e = absurd (omega arith)
    go false false false true x₅ x₆ x₇ x₈ p₁ p₂ p₃ p₄ p₅ p₆ p₇ p₈ e = absurd (omega arith)
    go false false false false true x₆ x₇ x₈ p₁ p₂ p₃ p₄ p₅ p₆ p₇ p₈ e = absurd (omega arith)
    go false false false false false false x₇ x₈ p₁ p₂ p₃ p₄ p₅ p₆ p₇ p₈ e = absurd (omega arith)
    go false false false false false true false x₈ p₁ p₂ p₃ p₄ p₅ p₆ p₇ p₈ e = absurd (omega arith)
    go false false false false false true true true p₁ p₂ p₃ p₄ p₅ p₆ p₇ p₈ e = absurd (omega arith)
    go false false false false false true true false p₁ p₂ p₃ p₄ p₅ p₆ p₇ p₈ e = record {
      sized = ltb-false _ _ p₁;
      some_attributes = let z = ltb-false 15 k p₂ in omega arith;
      in_space = ltb-false _ _ p₄;
      start_in = leb-false _ _ p₃;
      in_physical = ltb-false physical _ p₅;
      address_aligned = eqb-true _ _ p₆;
      frame_aligned = eqb-true _ _ p₇;
      outside = meets_apart p₈;
    }

-- good numbers stay good with memory of the same lengths and another free count
abbrev pub regood : {G : Granule} {s : Setup} {c w l : ℕ} → GoodSetup G s c w l → (w' l' f : ℕ) → w' ≡ entries G * total (area_of s) → l' ≡ total (area_of s) → f < total (area_of s) → GoodSetup G (with_free s f) c w' l'
regood g w' l' f p q r = record {
  granule_is = g.granule_is;
  numbers = record {
    enough = g.numbers.enough;
    not_more = g.numbers.not_more;
    some_table = g.numbers.some_table;
    few = g.numbers.few;
    placed = g.numbers.placed;
    cut_is = g.numbers.cut_is;
    words_are = p;
    places_are = q;
  };
  room = r;
}

-- the ledger's answer to a map that no test refuses
abbrev pub ledger_map : Granule → Ledger → ℕ → ℕ → ℕ → ℕ → Entered
ledger_map G B a b size k =
    cond (any_overlap a size B.live) (entered (refused 6) B)
    (let need = tables_lacking G B.levels B.live (answers.mapping a b size k) in
    cond (ltb (free_tables G B) need) (entered (refused 7) B)
    (entered (took need) (with_live B (answers.mapping a b size k ∷ B.live))))

-- a call of the words and one of the ledger come to the same
pub record AlikeIf (C D : Type 0) (G : Granule) (Z : Sane G) (d : Done) (e : Entered) : Type 0 where
  pub answer : d.answer ≡ e.answer
  pub sim : SimIf G Z C D d.after e.after

abbrev pub Alike : (G : Granule) → Sane G → Done → Entered → Type 0
Alike G Z d e = AlikeIf (Unit {0}) (Unit {0}) G Z d e

module _ (G : Granule) (Z : Sane G) {C D : Type 0} {p : Pool} {B : Ledger} (I : SimIf G Z C D p B) where
  abbrev f : ℕ
  f = p.numbers.free

  -- the pool with its own ledger
  pub own_sim : SimIf G Z C D p (own G Z I)
  own_sim = record { good = I.good; levels_are = refl; area_is = refl; L = I.L; live_is = refl; once = I.once; T = I.T; S = I.S; outside = I.outside; inv = I.inv }

  -- the free count is the ledger's
  pub free_is : C → D → free_tables G (own G Z I) ≡ f
  unfolding free_tables tables_needed
  free_is c d = omega (arith, needed_count G Z (k₀ G Z I) I.L, pool_count (whole I.inv c d) (k₀ G Z I) (root_at G Z I))

  -- and with the tables needed and the root it makes all
  pub count_is : C → D → suc (f + tables_needed G p.numbers.levels (own G Z I).live) ≡ total (area_of p.numbers)
  unfolding tables_needed
  count_is c d = omega (arith, needed_count G Z (k₀ G Z I) I.L, pool_count (whole I.inv c d) (k₀ G Z I) (root_at G Z I))

  module _ (a b size k : ℕ) (F : Fine G p.numbers.levels (area G Z I) a b size k) where
    abbrev g : ℕ
    g = height_of G size

    abbrev r : ℕ
    r = a / size_at G g

    abbrev x : ℕ
    x = b + k

    abbrev v : ℕ
    v = pg G Z a

    size_is : size_at G g ≡ size
    size_is = height_size G size F.sized

    start_is : r * size_at G g ≡ a
    start_is = omega (arith, div-add-mod' a (size_at G g), ap (λ (s : ℕ). a % s) size_is, F.address_aligned)

    page_is : page (entries G) g r ≡ v
    page_is = sym (page_of G Z g r) ∙ ap (pg G Z) start_is

    pub region_is : anc (entries G) g v ≡ r
    region_is = anc_size G Z a g

    framed : Framed G g b k
    framed = record { level = F.sized; few = F.some_attributes; aligned = rw size_is F.frame_aligned; fits = omega (arith, size_is, F.in_physical) }

    base_back : base_of x ≡ b
    base_back = payload_base G Z (area G Z I) p.numbers.levels (al G Z I) b k (framed_paged Z framed) F.some_attributes

    attrs_back : attrs_of x ≡ k
    attrs_back = payload_attrs G Z (area G Z I) p.numbers.levels (al G Z I) b k (framed_paged Z framed) F.some_attributes

    pub good_frame : Framed G g (base_of x) (attrs_of x)
    good_frame = rw (base_back, attrs_back) framed

    pub new_shown : shown G Z (mapping g r x) ≡ answers.mapping a b size k
    new_shown = let p₁ = start_is in let p₂ = base_back in let p₃ = size_is in let p₄ = attrs_back in λ i. answers.mapping (p₁ i) (p₂ i) (p₃ i) (p₄ i)

    pub low : g ≤ k₀ G Z I
    low = omega (arith, F.sized, Z.large_below, I.good.numbers.enough, root_at G Z I)

    overlap_is : any_overlap a size (map (shown G Z) I.L) ≡ any_overlap (r * size_at G g) (size_at G g) (map (shown G Z) I.L)
    overlap_is = ap (λ (s : ℕ). any_overlap s size (map (shown G Z) I.L)) (sym start_is) ∙ ap (λ (s : ℕ). any_overlap (r * size_at G g) s (map (shown G Z) I.L)) (sym size_is)

    lacking : tables_lacking G p.numbers.levels (map (shown G Z) I.L) (answers.mapping a b size k) ≡ lack (entries G) I.L g v (k₀ G Z I)
    unfolding tables_lacking
    lacking = rw (← new_shown) (lacking_is G Z (k₀ G Z I) I.L (mapping g r x) ∙ ap (λ (w : ℕ). lack (entries G) I.L g w (k₀ G Z I)) page_is)

    abbrev o : Walked
    o = walk_to G p g a

    abbrev s : ℕ
    s = o.left

    abbrev E : Ended G Z (area G Z I) p.numbers.levels (al G Z I) (few G Z I) p.words (R G Z I) a g (k₀ G Z I) o
    E = walk_ended G Z I g a low F.start_in

    abbrev ledger_says : Entered
    ledger_says = ledger_map G (own G Z I) a b size k

    -- something is met
    pub met_any : (m : Mapping) × Memᴰ m I.L × Rattle.tree.specs.Ledger.Meets (entries G) g v m → any_overlap a size (map (shown G Z) I.L) ≡ true
    met_any (m, c, d) = overlap_is ∙ met_overlap G Z g r I.L (m, c, subst (λ (w : ℕ). Rattle.tree.specs.Ledger.Meets (entries G) g w m) (sym page_is) d)

    six : (m : Mapping) × Memᴰ m I.L × Rattle.tree.specs.Ledger.Meets (entries G) g v m → AlikeIf C D G Z (refuse 6 p) ledger_says
    six m = rw (met_any m) (record { answer = refl; sim = own_sim })

    -- at an empty entry nothing is met, and so many tables are lacking as lie between it and the target
    module _ (vacant : I.S s (anc (entries G) s v) ≡ empty) where
      pub none_overlap : any_overlap a size (map (shown G Z) I.L) ≡ false
      none_overlap = go (any_overlap a size (map (shown G Z) I.L)) refl
        where
          go : (z : Bool) → any_overlap a size (map (shown G Z) I.L) ≡ z → z ≡ false
          go false e = refl
          go true e = let (m, c, d) = overlap_met G Z g r I.L (sym overlap_is ∙ e) in
              absurd (none_meets (R G Z I) I.inv.holds E.ends low vacant m c (subst (λ (w : ℕ). Rattle.tree.specs.Ledger.Meets (entries G) g w m) page_is d))

      need_is : C → tables_lacking G p.numbers.levels (map (shown G Z) I.L) (answers.mapping a b size k) ≡ s - g
      need_is c = lacking ∙ lack_is I.inv c g v s E.ends.parent vacant (E.ends.target low) (k₀ G Z I) (omega (arith, root_at G Z I)) ∙ omega (arith, E.ends.low)

      pub s_low : s < 4
      s_low = omega (arith, E.ends.low, root_at G Z I, few G Z I)

      module _ (room : s - g ≤ f) where
        abbrev t : ℕ
        t = at_height o.tables s

        pub t_is : t ≡ I.T (suc s) (anc (entries G) (suc s) v)
        t_is = ap (λ (j : ℕ). get_or o.tables j 0) (omega arith) ∙ E.ends.path_is (suc s) (omega arith) (omega (arith, E.ends.low, root_at G Z I))

        -- what growing comes to
        abbrev grown : Mem (A G Z (area G Z I) p.numbers.levels (al G Z I))
        grown = grow (X G Z I) (A G Z (area G Z I) p.numbers.levels (al G Z I)) (place_at p.list) g v x s p.words t f

        -- the tables that it takes are unused
        abbrev pub Takes : Type 0
        Takes = Taken (X G Z I) (place_at p.list) I.T I.S f (s - g)

        -- where growing starts
        unfoldable pub ready : Takes → ReadyIf (X G Z I) (A G Z (area G Z I) p.numbers.levels (al G Z I)) (place_at p.list) g v x C D I.L s
        ready tk = record {
          m = p.words;
          t = t;
          f = f;
          T = I.T;
          S = I.S;
          ok = I.good.numbers.words_are;
          inv = excuse I.inv;
          stands = E.ends.parent;
          t_is = t_is;
          vacant = vacant;
          above = E.ends.target low;
          room = room;
          good = good_frame;
          taken = tk;
        }

        M : Takes → MappedIf (X G Z I) (A G Z (area G Z I) p.numbers.levels (al G Z I)) (place_at p.list) g v x C D I.L f (s - g) grown
        unfolding ready
        M tk = grow_ok (X G Z I) (A G Z (area G Z I) p.numbers.levels (al G Z I)) (place_at p.list) g v x s (ready tk)

        pub carried : perform_all G (map_writes G (area G Z I) (path_of G a) p.list g (frame_word b g k) t f (s - g)) (memory p.words p.list) ≡ memory grown.m p.list
        carried = ap (λ (w : ℕ). perform_all G (map_writes G (area G Z I) (path_of G a) p.list g w t f (s - g)) (memory p.words p.list))
            (ap (λ (z : ℕ). frame_word z g k) (sym base_back) ∙ ap (frame_word (base_of x) g) (sym attrs_back))
            ∙ map_carried G Z (area G Z I) p.numbers.levels (al G Z I) v (path_of G a) (spot G Z (area G Z I) p.numbers.levels (al G Z I) (few G Z I) p.words (R G Z I) a) p.list g x (s - g) s (omega (arith, E.ends.target low)) s_low p.words p.list t f

        may : D → may_take p.list (n G Z I) o.tables f (s - g) ≡ true
        may spare = may_take_lem G Z (area G Z I) p.numbers.levels (al G Z I) (R G Z I) p.list (s - g) f o.tables (record {
          each = (I.inv.spare spare).free.each;
          once = (I.inv.spare spare).free.once;
          unseen = λ i l m. ⊎_elim (λ z. ((I.inv.spare spare).free.each i l).1 p.numbers.levels 0 (R G Z I).root ((R G Z I).root_at ∙ sym z))
              (λ (j, q, d, e). ((I.inv.spare spare).free.each i l).1 j (anc (entries G) j v) (tables_above G Z I g a o E j q d) e) (E.way.known (place_at p.list i) m);
        }) room

        pub map_after : Takes → SimIf G Z C D (written G p (map_writes G (area G Z I) (path_of G a) p.list g (frame_word b g k) t f (s - g)) (f - (s - g))) (with_live (own G Z I) (answers.mapping a b size k ∷ map (shown G Z) I.L))
        map_after tk = rw carried (record {
          good = regood I.good (length grown.m) (length p.list) (f - (s - g)) (M tk).ok I.good.numbers.places_are (omega (arith, I.good.room));
          levels_are = refl;
          area_is = refl;
          L = mapping g r x ∷ I.L;
          live_is = ap (λ (m : answers.Mapping). m ∷ map (shown G Z) I.L) (sym new_shown);
          once = (λ m. none_meets (R G Z I) I.inv.holds E.ends low vacant (mapping g r x) m (ap (anc (entries G) (max g g)) (sym page_is)), I.once);
          T = (M tk).T;
          S = (M tk).S;
          outside = λ d m i. ⊎_elim (λ e. subst (OffTables G (area G Z I)) (sym (ap (shown G Z) e ∙ new_shown)) F.outside) (I.outside d m) (Memᴰ.cases_cons i);
          inv = subst₂ (λ (c d : ℕ). InvIf C D (X G Z I) (read_at G grown.m) (place_at p.list) c (M tk).T (M tk).S (mapping g d x ∷ I.L) p.numbers.levels 0) (omega (arith, (M tk).count)) region_is (M tk).inv;
        })

    pub map_alike : C → D → (e : Entry) → o.entry ≡ e → AlikeIf C D G Z (map_at G p a b g k o e) ledger_says
    unfolding map_at map_here
    map_alike all spare e q = at e (ap read_entry (sym q) ∙ E.ends.says_is)
      where
        free : (vacant : I.S s (anc (entries G) s v) ≡ empty) (y : Bool) → ltb f (s - g) ≡ y
            → AlikeIf C D G Z
            (cond y (refuse 7 p)
            (cond (may_take p.list (n G Z I) o.tables f (s - g))
            (done (took (s - g)) (written G p (map_writes G (area G Z I) (path_of G a) p.list g (frame_word b g k) (at_height o.tables s) f (s - g)) (f - (s - g))))
            (refuse 8 p)))
            (cond y (entered (refused 7) (own G Z I)) (entered (took (s - g)) (with_live (own G Z I) (answers.mapping a b size k ∷ map (shown G Z) I.L))))
        free vacant true e = record { answer = refl; sim = own_sim }
        free vacant false e = let room = ltb-false f (s - g) e in rw (may vacant room spare) (record { answer = refl; sim = map_after vacant room (free_taken (I.inv.spare spare).free) })

        at : (e : Entry) → read_entry e ≡ read_of (I.S s (anc (entries G) s v)) (I.T s (anc (entries G) s v)) → AlikeIf C D G Z (map_at G p a b g k o e) ledger_says
        at (Frame c d) z = six (frame_meets (R G Z I) I.inv.holds E.ends low (c + d) (entry_frame (I.S s (anc (entries G) s v)) (I.T s (anc (entries G) s v)) (c + d) z))
        at (Table c) z = six (table_meets I.inv all E.ends (entry_table (I.S s (anc (entries G) s v)) (I.T s (anc (entries G) s v)) c z).0)
        at Damaged z = absurd (never_bad (I.S s (anc (entries G) s v)) (I.T s (anc (entries G) s v)) z)
        at Empty z =
            let vacant = entry_empty (I.S s (anc (entries G) s v)) (I.T s (anc (entries G) s v)) z in
            rw (none_overlap vacant, need_is vacant all, free_is all spare) (free vacant (ltb f (s - g)) refl)
