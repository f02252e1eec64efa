-- A pool that holds a ledger is one of the tree's theory, and the other way round; and the same of a pool whose words are a tree, with no more known.
use Rattle.std.specs.Prelude.{◌≡◌, refl, ◌≢◌, length, get_or, take}
use Rattle.std.proofs.Common.{ap, sym, ◌∙◌, subst, ⊎_elim, mul-div_cancel, arith, length-take-le, get_or-take}
use mathlib.Core.List.Memᴰ
use mathlib.Core.List.Memᴰ.{head as here}
use mathlib.Core.List.Memᴰ.{tail as there}
use mathlib.Core.List.{List, [], ◌∷◌, map, Memᴰ}
use Prim.Native.Nat.{ℕ, zero, suc, ◌+◌, ◌-◌, ◌*◌, ◌/◌, ◌≤◌, ◌<◌}
use Rattle.laws.specs.ListLaws.{mem_at, at_mem}
use Rattle.path.specs.Geometry.{Granule, entries, size_at, Sane}
use Rattle.path.specs.Areas.{Area, area_of, total}
use Rattle.path.specs.Numbers.{GoodSetup}
use Rattle.path.specs.Laws.{size_pos, size_injective}
use Rattle.entry.specs.Words.{entry_at}
use Rattle.entry.specs.declared.Entry.{Entry}
use Rattle.entry.specs.declared.Entry.TheVariants.{Empty, Table, Frame, Damaged}
use Rattle.model.specs.Answers as answers
use Rattle.model.specs.Answers.{Pool}
use Rattle.model.specs.Sound as sound
use Rattle.model.specs.Sound.{SoundPool, SoundEntry, SoundTable, word_at, reached_of, mappings_of, OffTables}
use Rattle.model.specs.Audit.{of_table, free_of}
use Rattle.model.specs.Ledger.{Ledger}
use Rattle.tree.specs.Tree.{Ent, Geo}
use Rattle.tree.specs.Inv.{Mapping, mapping, InvIf}
use Rattle.tree.specs.Count.{Distinct, distinct_map}
use Rattle.tree.specs.Visit.{seen}
use Rattle.tree.specs.Reach.{maps, reached, maps_distinct, maps_live, live_maps}
use Rattle.tree.specs.Audit.{SoundE, SoundT, Accepts, IsTree, treeᵃ, treeᵃ-holds, kid, is_tree, tree_alive, accepted, accepts}
use Rattle.demand.specs.Shown.{shown}
use Rattle.demand.specs.Arm.{read_entry, geo}
use Rattle.demand.specs.Memories.{read_at, place_at}
use Rattle.demand.specs.Visits.{table_reached, table_mappings}
use Rattle.demand.specs.Holds.{WfTree, ledger_of, Holds}

-- the first f places of a list, by place
place_mem : (f i : ℕ) (l : List ℕ) → f ≤ length l → i < f → Memᴰ (place_at l i) (take f l)
place_mem f i l b c = Memᴰ.cast (sym (get_or-take f l i 0 c)) (at_mem (take f l) i (omega (arith, length-take-le f l b)))

mem_place : (f t : ℕ) (l : List ℕ) → f ≤ length l → Memᴰ t (take f l) → (i : ℕ) × (i < f) × (place_at l i ≡ t)
mem_place f t l b m = let (i, c, e) = mem_at (take f l) m in let d : i < f = omega (arith, length-take-le f l b) in (i, d, sym (get_or-take f l i 0 d) ∙ e)

distinct_place : (l : List ℕ) → Distinct l → (i j : ℕ) → i < length l → j < length l → get_or l i 0 ≡ get_or l j 0 → i ≡ j
distinct_place [] d i j a b e = absurd (omega arith)
distinct_place (x ∷ l) d zero zero a b e = refl
distinct_place (x ∷ l) d zero (suc j) a b e = absurd (d.0 (Memᴰ.cast e (at_mem l j (omega arith))))
distinct_place (x ∷ l) d (suc i) zero a b e = absurd (d.0 (Memᴰ.cast (sym e) (at_mem l i (omega arith))))
distinct_place (x ∷ l) d (suc i) (suc j) a b e = ap suc (distinct_place l d.1 i j (omega arith) (omega arith) e)

place_distinct : (l : List ℕ) → ((i j : ℕ) → i < length l → j < length l → get_or l i 0 ≡ get_or l j 0 → i ≡ j) → Distinct l
place_distinct [] f = tt
place_distinct (x ∷ l) f = (λ m. let (i, a, e) = mem_at l m in omega (arith, f 0 (suc i) (omega arith) (omega arith) (sym e)), place_distinct l (λ i j a b e. omega (arith, f (suc i) (suc j) (omega arith) (omega arith) e)))

module _ (G : Granule) (Z : Sane G) where
  -- one mapping of the ledger is shown by one of the theory
  pub shown_injective : (a b : Mapping) → shown G Z a ≡ shown G Z b → a ≡ b
  shown_injective a b e = λ i. mapping (h i) (r i) (x i)
    where
      h : a.h ≡ b.h
      h = size_injective G Z a.h b.h (ap (λ (m : answers.Mapping). m.size) e)

      r : a.r ≡ b.r
      r = sym (mul-div_cancel a.r (size_pos G a.h)) ∙ ap (λ (k : ℕ). k / size_at G a.h) (ap (λ (m : answers.Mapping). m.at) e ∙ ap (λ (j : ℕ). b.r * size_at G j) (sym h)) ∙ mul-div_cancel b.r (size_pos G a.h)

      x : a.x ≡ b.x
      x = omega (arith, ap (λ (m : answers.Mapping). m.frame) e, ap (λ (m : answers.Mapping). m.attributes) e)

  -- a pool, the ledger of its mappings, and the tree between them; of entries no more than C asks, and of the free list and of frames beside the tables
  -- no more than D
  pub record SimIf (C D : Type 0) (p : Pool) (A : Ledger) : Type 0 where
    pub good : GoodSetup G p.numbers p.cut (length p.words) (length p.list)
    pub levels_are : p.numbers.levels ≡ A.levels
    pub area_is : area_of p.numbers ≡ A.area
    pub L : List Mapping
    pub live_is : A.live ≡ map (shown G Z) L
    pub once : Distinct L
    pub T : ℕ → ℕ → ℕ
    pub S : ℕ → ℕ → Ent
    pub outside : D → (m : Mapping) → Memᴰ m L → OffTables G (area_of p.numbers) (shown G Z m)
    pub inv : InvIf C D (geo G Z (area_of p.numbers) p.numbers.levels good.numbers.placed) (read_at G p.words) (place_at p.list) p.numbers.free T S L p.numbers.levels 0

  -- a pool and the ledger that it holds
  abbrev pub Sim : Pool → Ledger → Type 0
  Sim p A = SimIf (Unit {0}) (Unit {0}) p A

  module _ (p : Pool) (good : GoodSetup G p.numbers p.cut (length p.words) (length p.list)) where
    abbrev area : Area
    area = area_of p.numbers

    abbrev n : ℕ
    n = total (area_of p.numbers)

    abbrev k : ℕ
    k = p.numbers.levels - 1

    abbrev pub X : Geo
    X = geo G Z area p.numbers.levels good.numbers.placed

    abbrev W : ℕ → ℕ → ℕ
    W = read_at G p.words

    pub root_height : suc k ≡ p.numbers.levels
    root_height = omega (arith, good.numbers.enough, Z.large_below)

    f_in : p.numbers.free ≤ length p.list
    f_in = omega (arith, good.numbers.places_are, good.room)

    -- what the audit finds, in the theory's terms
    pub reached_is : reached_of G p ≡ reached X W k
    reached_is = ap (λ (v : ℕ). (of_table G p.words area k 0 v).reached) (omega arith) ∙ table_reached G Z area p.numbers.levels good.numbers.placed p.words good.numbers.words_are k 0 0 (omega (arith, good.numbers.some_table))

    pub mappings_are : mappings_of G p ≡ map (shown G Z) (maps (seen X W k))
    mappings_are = ap (λ (v : ℕ). (of_table G p.words area k 0 v).mappings) (omega arith) ∙ table_mappings G Z area p.numbers.levels good.numbers.placed p.words good.numbers.words_are k 0 0 (omega (arith, good.numbers.some_table))

    -- a sound table is sound in both
    entry_to : (e : Entry) (A B : ℕ → Type 0) → ((c : ℕ) → A c → B c) → SoundEntry A e → SoundE (read_entry e) B
    entry_to Empty A B f s = tt
    entry_to (Frame b a) A B f s = tt
    entry_to (Table c) A B f s = f c s
    entry_to Damaged A B f s = s

    entry_from : (e : Entry) (A B : ℕ → Type 0) → ((c : ℕ) → A c → B c) → SoundE (read_entry e) A → SoundEntry B e
    entry_from Empty A B f s = tt
    entry_from (Frame b a) A B f s = tt
    entry_from (Table c) A B f s = f c s
    entry_from Damaged A B f s = s

    table_to : (h t : ℕ) → SoundTable G p.words area h t → SoundT X W h t
    unfolding SoundTable
    table_to zero t s = λ i l. entry_to (entry_at G area zero (W t i)) (λ _. ⊥) (λ _. ⊥) (λ c z. z) (s i l)
    table_to (suc h) t s = λ i l. entry_to (entry_at G area (suc h) (W t i)) (SoundTable G p.words area h) (SoundT X W h) (λ c z. table_to h c z) (s i l)

    table_from : (h t : ℕ) → SoundT X W h t → SoundTable G p.words area h t
    unfolding SoundTable
    table_from zero t s = λ i l. entry_from (entry_at G area zero (W t i)) (λ _. ⊥) (λ _. ⊥) (λ c z. z) (s i l)
    table_from (suc h) t s = λ i l. entry_from (entry_at G area (suc h) (W t i)) (SoundT X W h) (SoundTable G p.words area h) (λ c z. table_from h c z) (s i l)

    pub sound_accepts : SoundPool G p → Accepts X W (place_at p.list) p.numbers.free k
    sound_accepts s = record {
      sound = table_to k 0 s.tree;
      distinct = d;
      alive = λ c m z. s.used c (in_reached c (there m)) (λ e. d.0 (Memᴰ.cast (sym e) m)) z;
      range = λ i l. s.free_range (place_at p.list i) (free_mem i l);
      once = λ i j a b e. distinct_place (free_of p) s.free_once i j (omega (arith, free_long)) (omega (arith, free_long)) (at i a ∙ e ∙ sym (at j b));
      apart = λ i l m. s.free_apart (place_at p.list i) (free_mem i l) (in_reached (place_at p.list i) m);
      zeros = λ i l. s.free_zero (place_at p.list i) (free_mem i l);
      total = ap (λ (z : List ℕ). p.numbers.free + length z) (sym reached_is) ∙ s.total;
    }
      where
        d : Distinct (reached X W k)
        d = subst Distinct reached_is s.once

        in_reached : (c : ℕ) → Memᴰ c (reached X W k) → Memᴰ c (reached_of G p)
        in_reached c m = subst (λ (l : List ℕ). Memᴰ c l) (sym reached_is) m

        free_mem : (i : ℕ) → i < p.numbers.free → Memᴰ (place_at p.list i) (free_of p)
        free_mem i l = place_mem p.numbers.free i p.list f_in l

        free_long : length (free_of p) ≡ p.numbers.free
        free_long = length-take-le p.numbers.free p.list f_in

        at : (i : ℕ) → i < p.numbers.free → get_or (free_of p) i 0 ≡ place_at p.list i
        at i l = get_or-take p.numbers.free p.list i 0 l

    pub accepts_sound : Accepts X W (place_at p.list) p.numbers.free k → sound.Each (OffTables G area) (mappings_of G p) → SoundPool G p
    accepts_sound a o = record {
      tree = table_from k 0 a.sound;
      once = subst Distinct (sym reached_is) a.distinct;
      used = λ t m ne z. ⊎_elim (λ e. ne e) (λ b. a.alive t b z) (Memᴰ.cases_cons (to_reached t m));
      outside = o;
      free_once = (place_distinct (free_of p) (λ i j b c e. a.once i j (omega (arith, free_long)) (omega (arith, free_long)) (sym (at i (omega (arith, free_long))) ∙ e ∙ at j (omega (arith, free_long)))));
      free_range = λ t m. let (i, l, e) = of_free t m in subst (λ (x : ℕ). x < n) e (a.range i l);
      free_apart = λ t m b. let (i, l, e) = of_free t m in a.apart i l (Memᴰ.cast e (to_reached t b));
      free_zero = λ t m. let (i, l, e) = of_free t m in subst (λ (x : ℕ). (j : ℕ) → j < entries G → W x j ≡ 0) e (a.zeros i l);
      total = ap (λ (z : List ℕ). p.numbers.free + length z) reached_is ∙ a.total;
    }
      where
        to_reached : (c : ℕ) → Memᴰ c (reached_of G p) → Memᴰ c (reached X W k)
        to_reached c m = subst (λ (l : List ℕ). Memᴰ c l) reached_is m

        of_free : (t : ℕ) → Memᴰ t (free_of p) → (i : ℕ) × (i < p.numbers.free) × (place_at p.list i ≡ t)
        of_free t m = mem_place p.numbers.free t p.list f_in m

        free_long : length (free_of p) ≡ p.numbers.free
        free_long = length-take-le p.numbers.free p.list f_in

        at : (i : ℕ) → i < p.numbers.free → get_or (free_of p) i 0 ≡ place_at p.list i
        at i l = get_or-take p.numbers.free p.list i 0 l

  -- a list whose members are shown by members of another is shown by a list of those
  pub drawn : (M : List answers.Mapping) (K : List Mapping) → ((m : answers.Mapping) → Memᴰ m M → Memᴰ m (map (shown G Z) K))
      → (L : List Mapping) × (M ≡ map (shown G Z) L) × ((a : Mapping) → Memᴰ a L → Memᴰ a K)
  drawn [] K f = ([], refl, λ a m. absurd (Memᴰ.not-nil m))
  drawn (m ∷ M) K f =
      let (L, e, g) = drawn M K (λ x b. f x (there b)) in
      let (a, b, q) = Memᴰ.of_map (shown G Z) K (f m (here refl)) in
      (a ∷ L, ap (λ (x : answers.Mapping). x ∷ M) (sym q) ∙ ap (λ (l : List answers.Mapping). shown G Z a ∷ l) e, λ x c. ⊎_elim (λ z. Memᴰ.cast z b) (g x) (Memᴰ.cases_cons c))

  -- a shown list without repetition is of one without
  pub unshown : (L : List Mapping) → Distinct (map (shown G Z) L) → Distinct L
  unshown [] d = tt
  unshown (a ∷ L) d = (λ m. d.0 (Memᴰ.map (shown G Z) m), unshown L d.1)

  -- the same invariant for a ledger with the same members
  pub relist : {C D : Type 0} {X : Geo} {W : ℕ → ℕ → ℕ} {P : ℕ → ℕ} {f : ℕ} {T : ℕ → ℕ → ℕ} {S : ℕ → ℕ → Ent} {L L' : List Mapping} {h r : ℕ} → InvIf C D X W P f T S L h r
      → ((m : Mapping) → Memᴰ m L → Memᴰ m L') → ((m : Mapping) → Memᴰ m L' → Memᴰ m L) → InvIf C D X W P f T S L' h r
  relist I f g = record {
    ren = I.ren;
    holds = record { listed = λ h r x q. f (mapping h r x) (I.holds.listed h r x q); live = λ m a. I.holds.live m (g m a) };
    dense = I.dense;
    spare = I.spare;
  }

  pub holds_sim : {p : Pool} {A : Ledger} → Holds G p A → Sim p A
  holds_sim {p} {A} H = record {
    good = H.good;
    levels_are = H.levels_are;
    area_is = H.area_is;
    L = D.0;
    live_is = D.1;
    once = unshown D.0 (subst Distinct D.1 H.once);
    T = Rattle.tree.specs.Audit.Tᵃ X₀ W₀ k₀;
    S = Rattle.tree.specs.Audit.Sᵃ X₀ W₀ k₀;
    outside = λ _ m i. H.sound.outside (shown G Z m) (subst (λ (l : List answers.Mapping). Memᴰ (shown G Z m) l) (sym (mappings_are p H.good)) (Memᴰ.map (shown G Z) (D.2 m i)));
    inv = relist (accepted (root_height p H.good) (sound_accepts p H.good H.sound)) to D.2;
  }
    where
      X₀ : Geo
      X₀ = X p H.good

      W₀ : ℕ → ℕ → ℕ
      W₀ = read_at G p.words

      k₀ : ℕ
      k₀ = p.numbers.levels - 1

      in_maps : (m : answers.Mapping) → Memᴰ m A.live → Memᴰ m (map (shown G Z) (maps (seen X₀ W₀ k₀)))
      in_maps m a = subst (λ (l : List answers.Mapping). Memᴰ m l) (mappings_are p H.good) (H.live m a)

      D : (L : List Mapping) × (A.live ≡ map (shown G Z) L) × ((a : Mapping) → Memᴰ a L → Memᴰ a (maps (seen X₀ W₀ k₀)))
      D = drawn A.live (maps (seen X₀ W₀ k₀)) in_maps

      to : (m : Mapping) → Memᴰ m (maps (seen X₀ W₀ k₀)) → Memᴰ m D.0
      to m a =
          let b = H.listed (shown G Z m) (subst (λ (l : List answers.Mapping). Memᴰ (shown G Z m) l) (sym (mappings_are p H.good)) (Memᴰ.map (shown G Z) a)) in
          let (c, d, e) = Memᴰ.of_map (shown G Z) D.0 (subst (λ (l : List answers.Mapping). Memᴰ (shown G Z m) l) D.1 b) in
          Memᴰ.cast (sym (shown_injective c m e)) d

  -- a well-formed tree, with the mappings in its words; with entries in its tables where C holds
  pub wf_sim : {C : Type 0} {p : Pool} → GoodSetup G p.numbers p.cut (length p.words) (length p.list) → WfTree G p
      → (C → sound.Each (λ t. t ≢ 0 → sound.EmptyTable G p.words t → ⊥) (reached_of G p)) → SimIf C ⊥ p (ledger_of G p)
  wf_sim {C} {p} good w alive = record {
    good = good;
    levels_are = refl;
    area_is = refl;
    L = maps (seen X₀ W₀ k₀);
    live_is = mappings_are p good;
    once = maps_distinct inv₀ k₀ top₀;
    T = Rattle.tree.specs.Audit.Tᵃ X₀ W₀ k₀;
    S = Rattle.tree.specs.Audit.Sᵃ X₀ W₀ k₀;
    outside = λ d. absurd d;
    inv = inv₀;
  }
    where
      X₀ : Geo
      X₀ = X p good

      W₀ : ℕ → ℕ → ℕ
      W₀ = read_at G p.words

      k₀ : ℕ
      k₀ = p.numbers.levels - 1

      top₀ : suc k₀ ≡ p.numbers.levels
      top₀ = root_height p good

      is : IsTree X₀ W₀ k₀
      is = record { some_table = omega (arith, good.numbers.some_table); sound = table_to p good k₀ 0 w.tree; distinct = subst Distinct (reached_is p good) w.once }

      inv₀ : InvIf C ⊥ X₀ W₀ (place_at p.list) p.numbers.free (Rattle.tree.specs.Audit.Tᵃ X₀ W₀ k₀) (Rattle.tree.specs.Audit.Sᵃ X₀ W₀ k₀) (maps (seen X₀ W₀ k₀)) p.numbers.levels 0
      inv₀ = record { ren = treeᵃ top₀ is; holds = treeᵃ-holds top₀ is; dense = λ c h r q l _. kid top₀ is (λ t m z. alive c t (subst (λ (l : List ℕ). Memᴰ t l) (sym (reached_is p good)) (there m)) (λ e. is.distinct.0 (Memᴰ.cast (sym e) m)) z) h r q (omega arith); spare = λ d. absurd d }

  module _ {C D : Type 0} {p : Pool} {A : Ledger} (I : SimIf C D p A) where
    abbrev X₁ : Geo
    X₁ = X p I.good

    abbrev W₁ : ℕ → ℕ → ℕ
    W₁ = read_at G p.words

    abbrev k₁ : ℕ
    k₁ = p.numbers.levels - 1

    -- its words are a tree
    pub sim_wf : WfTree G p
    sim_wf = record {
      tree = table_from p I.good k₁ 0 (is_tree I.inv k₁ (root_height p I.good)).sound;
      once = subst Distinct (sym (reached_is p I.good)) (is_tree I.inv k₁ (root_height p I.good)).distinct;
    }

    -- its tables but the root have entries
    pub sim_used : C → sound.Each (λ t. t ≢ 0 → sound.EmptyTable G p.words t → ⊥) (reached_of G p)
    sim_used c t m ne z = ⊎_elim (λ e. ne e) (λ b. tree_alive I.inv c k₁ (root_height p I.good) t b z)
        (Memᴰ.cases_cons (subst (λ (l : List ℕ). Memᴰ t l) (reached_is p I.good) m))

    -- the ledger's mappings are in them
    pub sim_live : (m : answers.Mapping) → Memᴰ m A.live → Memᴰ m (mappings_of G p)
    sim_live m a = let (b, c, e) = Memᴰ.of_map (shown G Z) I.L (subst (λ (l : List answers.Mapping). Memᴰ m l) I.live_is a) in
        subst (λ (l : List answers.Mapping). Memᴰ m l) (sym (mappings_are p I.good)) (Memᴰ.cast (sym e) (Memᴰ.map (shown G Z) (live_maps I.inv k₁ (root_height p I.good) b c)))

    -- and no others
    pub sim_listed : (m : answers.Mapping) → Memᴰ m (mappings_of G p) → Memᴰ m A.live
    sim_listed m a = let (b, c, e) = Memᴰ.of_map (shown G Z) (maps (seen X₁ W₁ k₁)) (subst (λ (l : List answers.Mapping). Memᴰ m l) (mappings_are p I.good) a) in
        subst (λ (l : List answers.Mapping). Memᴰ m l) (sym I.live_is) (Memᴰ.cast (sym e) (Memᴰ.map (shown G Z) (maps_live I.inv k₁ (root_height p I.good) b c)))

    -- and where D holds, none of their frames shares a byte with the tables
    pub sim_outside : D → sound.Each (OffTables G (area_of p.numbers)) (mappings_of G p)
    sim_outside d m a = let (b, c, e) = Memᴰ.of_map (shown G Z) (maps (seen X₁ W₁ k₁)) (subst (λ (l : List answers.Mapping). Memᴰ m l) (mappings_are p I.good) a) in
        subst (OffTables G (area_of p.numbers)) e (I.outside d b (maps_live I.inv k₁ (root_height p I.good) b c))

  pub sim_holds : {p : Pool} {A : Ledger} → Sim p A → Holds G p A
  sim_holds {p} {A} I = record {
    good = I.good;
    levels_are = I.levels_are;
    area_is = I.area_is;
    sound = accepts_sound p I.good (accepts I.inv (p.numbers.levels - 1) (root_height p I.good)) (sim_outside I tt);
    live = sim_live I;
    listed = sim_listed I;
    once = subst Distinct (sym I.live_is) (distinct_map (shown G Z) I.L I.once (λ a b _ _ e. shown_injective a b e));
  }
