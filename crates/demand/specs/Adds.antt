-- The adding call: over words and over the ledger it comes to the same.
use Rattle.std.specs.Prelude.{◌≡◌, refl, Bool, true, false, ◌&&◌, ℕ, ◌+◌, ◌-◌, ◌*◌, ◌≤◌, ◌<◌, ltb, length, take, replicate}
use Rattle.std.proofs.Math.Path.{ap}
use Rattle.std.proofs.Common.{sym, ◌∙◌, inl, ⊎_elim, mul-add, arith, length-append, length-take-le, take_all, lt-ltb, eq-eqb}
use Rattle.std.proofs.Math.Bool.{cond}
use mathlib.Core.List.Memᴰ
use mathlib.Core.List.{List, ◌++◌, Memᴰ}
use Rattle.std.proofs.Math.ListN.{get_or, drop}
use Rattle.std.proofs.Math.Seq.{get_or-take}
use Rattle.laws.specs.Lists.{down}
use Rattle.laws.specs.ListLaws.{get_d_down, get_d_first, get_d_later, part_first, all_zero_at, all_zero_replicate, take_first}
use Rattle.path.specs.Geometry.{Granule, page_size, entries, Sane}
use Rattle.path.specs.Areas.{Area, area_of, one_region, with_second, total}
use Rattle.path.specs.Numbers.{good_adding, GoodNumbers, GoodAdding, GoodSetup}
use Rattle.path.specs.Laws.{same_truth}
use Rattle.entry.proofs.Laws.{table_word_stays}
use Rattle.model.specs.Answers as answers
use Rattle.model.specs.Answers.{Answer, added, refused, Pool, pool, Done, done, refuse}
use Rattle.model.specs.Walk.{slot}
use Rattle.model.specs.Audit.{Found, table_words, of_pool, none_inside, free_of}
use Rattle.model.specs.Adds.{lent, good_add, sound_tree, appended, grown, add_w}
use Rattle.model.proofs.AddLaws as model
use Rattle.model.proofs.AddLaws.{wf_tree, may_add, found_same}
use Rattle.model.proofs.AuditLaws.{inside_back, inside_some}
use Rattle.model.specs.Sound.{mappings_of}
use Rattle.model.specs.Ledger.{Ledger, ledger, free_tables, Entered, entered, add_l}
use Rattle.tree.specs.Tree.{Ent, empty, frame, table}
use Rattle.tree.specs.Widen.{Wider, widen}
use Rattle.demand.specs.Shown.{shown}
use Rattle.demand.specs.Arm.{geo}
use Rattle.demand.specs.Memories.{read_at, place_at, in_table, table_ends, tables_before}
use Rattle.demand.specs.Sims.{Sim, sim_wf, sim_live, sim_listed}
use Rattle.demand.specs.Queries.{own}
use Rattle.demand.specs.Maps.{Alike, own_sim, free_is}
use Rattle.demand.specs.Demand3.{go_back}

-- lists with the same members: no frame of the one shares a byte with a region exactly when none of the other does
none_same : (G : Granule) (r : Area) (L M : List answers.Mapping)
    → ((k : answers.Mapping) → Memᴰ k L → Memᴰ k M)
    → ((k : answers.Mapping) → Memᴰ k M → Memᴰ k L)
    → none_inside G r L ≡ none_inside G r M
none_same G r L M f g =
    same_truth (none_inside G r L) (none_inside G r M)
    (λ e. inside_some G r M (λ k i. inside_back G r L e k (g k i)))
    (λ e. inside_some G r L (λ k i. inside_back G r M e k (f k i)))

module _ (G : Granule) (Z : Sane G) {p : Pool} {A : Ledger} (I : Sim G Z p A) (q m : ℕ) (second rest : List ℕ) where
  abbrev K : ℕ
  K = entries G

  abbrev n : ℕ
  n = p.numbers.tables

  abbrev f : ℕ
  f = p.numbers.free

  abbrev p₁ : Pool
  p₁ = lent p second rest

  abbrev N₀ : GoodNumbers G p.numbers.levels (area_of p.numbers) p.cut (length p.words) (length p.list)
  N₀ = I.good.numbers

  cut_in : p.cut ≤ length p.words
  cut_in = omega (arith, N₀.cut_is, N₀.words_are, mul-add K n (area_of p.numbers).tables₂)

  first_long : length (take p.cut p.words) ≡ K * n
  first_long = length-take-le p.cut p.words cut_in ∙ N₀.cut_is

  words_long : length p₁.words ≡ K * n + length second
  words_long = length-append (take p.cut p.words) second ∙ ap (λ (x : ℕ). x + length second) first_long

  free_long : length (free_of p) ≡ f
  free_long = length-take-le f p.list (omega (arith, N₀.places_are, I.good.room))

  places_long : length p₁.list ≡ f + length rest
  places_long = length-append (free_of p) rest ∙ ap (λ (x : ℕ). x + length rest) free_long

  -- the numbers and lengths are good by the ledger where they are by the words
  good_same : good_add G p₁ q m ≡ good_adding G (own G Z I).levels (own G Z I).area q m (K * n) (K * n + length second) (free_tables G (own G Z I) + length rest)
  good_same =
      ap (λ (b : Bool). b && good_at) (eq-eqb p.numbers.granule (page_size G) I.good.granule_is)
      ∙ ap (λ (b : Bool). good_adding G p.numbers.levels (area_of p.numbers) q m p.cut (length p₁.words) (length p₁.list) && b) (lt-ltb f (total (area_of p.numbers)) I.good.room)
      ∙ right_and (good_adding G p.numbers.levels (area_of p.numbers) q m p.cut (length p₁.words) (length p₁.list))
      ∙ (λ i. good_adding G p.numbers.levels (area_of p.numbers) q m (N₀.cut_is i) (words_long i) (places i))
    where
      good_at : Bool
      good_at = good_adding G p.numbers.levels (area_of p.numbers) q m p.cut (length p₁.words) (length p₁.list) && ltb f (total (area_of p.numbers))

      right_and : (b : Bool) → (b && true) ≡ b
      right_and true = refl
      right_and false = refl

      places : length p₁.list ≡ free_tables G (own G Z I) + length rest
      places = places_long ∙ ap (λ (x : ℕ). x + length rest) (sym (free_is G Z I tt tt))

  -- where it may be added
  module _ (g : GoodAdding G p.numbers.levels (area_of p.numbers) q m p.cut (length p₁.words) (length p₁.list)) where
    none_yet : (area_of p.numbers).tables₂ ≡ 0
    none_yet = g.one_yet.1

    second_long : length second ≡ K * m
    second_long = omega (arith, words_long, g.numbers.words_are, mul-add K n m)

    rest_long : f + length rest ≡ n + m
    rest_long = sym places_long ∙ g.numbers.places_are

    all_first : take p.cut p.words ≡ p.words
    all_first = take_all p.cut p.words (omega (arith, N₀.cut_is, N₀.words_are, mul-add K n (area_of p.numbers).tables₂, ap (λ (x : ℕ). K * x) none_yet))

    -- the tree is that of the pool before
    tree_same : of_pool G p₁ ≡ of_pool G p
    tree_same = found_same Z p₁.words p.words (area_of p.numbers) agree (p.numbers.levels - 1) 0 0 (omega (arith, N₀.some_table))
      where
        agree : (t : ℕ) → t < total (area_of p.numbers) → table_words G p₁.words t ≡ table_words G p.words t
        agree t l = ap (λ (ws : List ℕ). table_words G (ws ++ second) t) all_first ∙ part_first p.words second (slot G t 0) K (omega (arith, N₀.words_are, table_ends K l))

    sound_tree_lem : sound_tree (of_pool G p₁) ≡ true
    sound_tree_lem = ap sound_tree tree_same ∙ wf_tree G p (sim_wf G Z I)

    none_under : none_inside G (one_region q m) (of_pool G p₁).mappings ≡ none_inside G (one_region q m) (own G Z I).live
    none_under =
        ap (λ (o : Found). none_inside G (one_region q m) o.mappings) tree_same
        ∙ none_same G (one_region q m) (mappings_of G p) (own G Z I).live (sim_listed G Z (own_sim G Z I)) (sim_live G Z (own_sim G Z I))

    abbrev p₂ : Pool
    p₂ = grown G p₁ q m

    -- what the pool is then
    words_are : p₂.words ≡ p.words ++ replicate (K * m) 0
    words_are = ap (λ (ws : List ℕ). ws ++ replicate (K * m) 0) (take_first_run ∙ all_first)
      where
        take_first_run : take p.cut p₁.words ≡ take p.cut p.words
        take_first_run = take_first (take p.cut p.words) second p.cut (sym (length-take-le p.cut p.words cut_in))

    abbrev new : List ℕ
    new = take m (down (n + m))

    new_long : length new ≡ m
    new_long = model.new_long G p₁ q m g I.good.room

    front_long : length (take f p₁.list) ≡ f
    front_long = model.front_long G p₁ q m g I.good.room

    good₂ : GoodSetup G p₂.numbers p₂.cut (length p₂.words) (length p₂.list)
    good₂ = model.grown_good G p₁ q m g I.good.room

    wider : Wider (geo G Z (area_of p.numbers) p.numbers.levels N₀.placed) (geo G Z (with_second (area_of p.numbers) q m) p.numbers.levels good₂.numbers.placed) m
    wider = record {
      K-is = refl;
      top_is = refl;
      n_is = omega (arith, none_yet);
      good = λ h x d. d;
      enc_is = λ h c e low. words h c e low;
    }
      where
        words : (h c : ℕ) (e : Ent) → (e ≡ table → c < total (area_of p.numbers))
            → (geo G Z (with_second (area_of p.numbers) q m) p.numbers.levels good₂.numbers.placed).enc h e c ≡ (geo G Z (area_of p.numbers) p.numbers.levels N₀.placed).enc h e c
        words h c empty low = refl
        words h c (frame x) low = refl
        words h c table low = table_word_stays G (area_of p.numbers) q m c (omega (arith, low refl, none_yet))

    old_words : (t i : ℕ) → t < total (area_of p.numbers) → i < K → read_at G p₂.words t i ≡ read_at G p.words t i
    old_words t i l b = ap (λ (ws : List ℕ). get_or ws (slot G t i) 0) words_are ∙ get_d_first p.words (replicate (K * m) 0) (slot G t i) (omega (arith, N₀.words_are, in_table K l b))

    new_words : (t i : ℕ) → total (area_of p.numbers) ≤ t → read_at G p₂.words t i ≡ 0
    new_words t i l =
        ap (λ (ws : List ℕ). get_or ws (slot G t i) 0) words_are
        ∙ get_d_later p.words (replicate (K * m) 0) (slot G t i) (omega (arith, N₀.words_are, tables_before K l))
        ∙ all_zero_at (replicate (K * m) 0) (all_zero_replicate (K * m)) (slot G t i - length p.words)

    old_places : (i : ℕ) → i < f → place_at p₂.list i ≡ place_at p.list i
    unfolding appended
    old_places i l =
        get_d_first (take f p₁.list) (new ++ drop (f + m) p₁.list) i (omega (arith, front_long))
        ∙ get_or-take f p₁.list i 0 l
        ∙ get_d_first (free_of p) rest i (omega (arith, free_long))
        ∙ get_or-take f p.list i 0 l

    new_places : (i : ℕ) → i < m → place_at p₂.list (f + i) ≡ n + m - 1 - i
    unfolding appended
    new_places i l =
        get_d_later (take f p₁.list) (new ++ drop (f + m) p₁.list) (f + i) (omega (arith, front_long))
        ∙ ap (λ (x : ℕ). get_or (new ++ drop (f + m) p₁.list) x 0) (omega (arith, front_long))
        ∙ get_d_first new (drop (f + m) p₁.list) i (omega (arith, new_long))
        ∙ get_or-take m (down (n + m)) i 0 l
        ∙ get_d_down (n + m) i (omega arith)

    pub grown_sim : none_inside G (one_region q m) (own G Z I).live ≡ true → Sim G Z p₂ (ledger p.numbers.levels (with_second (area_of p.numbers) q m) (own G Z I).live)
    grown_sim clear = record {
      good = good₂;
      levels_are = refl;
      area_is = refl;
      L = I.L;
      live_is = refl;
      once = I.once;
      T = I.T;
      S = I.S;
      outside = λ d k i s. ⊎_elim
          (λ u. I.outside d k i (record { byte = s.byte; starts = s.starts; ends = s.ends; inside = inl u }))
          (λ u. inside_back G (one_region q m) (own G Z I).live clear (shown G Z k) (Memᴰ.map (shown G Z) i) (record { byte = s.byte; starts = s.starts; ends = s.ends; inside = inl u }))
          s.inside;
      inv = widen wider I.inv old_words (λ d. record {
        count = refl;
        kept = old_places;
        new = λ i l. new_places i l ∙ omega (arith, none_yet);
        zeros = λ t i l _ _. new_words t i l;
      });
    }

  pub add_step : Alike G Z (go_back p (add_w G p₁ q m) (add_w G p₁ q m).answer) (add_l G (own G Z I) q m (length second) (free_tables G (own G Z I) + length rest))
  unfolding add_w add_l
  add_step = rw (sym good_same) (go (good_add G p₁ q m) refl)
    where
      inner : Done
      inner = cond (sound_tree (of_pool G p₁)) (cond (none_inside G (one_region q m) (of_pool G p₁).mappings) (done added (grown G p₁ q m)) (refuse 11 p₁)) (refuse 8 p₁)

      left : Bool → Done
      left y = cond y inner (refuse 1 p₁)

      outer : Entered
      outer = cond (none_inside G (one_region q m) (own G Z I).live) (entered added (ledger p.numbers.levels (with_second (area_of p.numbers) q m) (own G Z I).live)) (entered (refused 11) (own G Z I))

      at : (g : GoodAdding G p.numbers.levels (area_of p.numbers) q m p.cut (length p₁.words) (length p₁.list)) → Alike G Z (go_back p inner inner.answer) outer
      at g = rw (sound_tree_lem g, none_under g) (by (none_inside G (one_region q m) (own G Z I).live) refl)
        where
          by : (y : Bool) → none_inside G (one_region q m) (own G Z I).live ≡ y
              → Alike G Z (go_back p (cond y (done added (grown G p₁ q m)) (refuse 11 p₁)) (cond y (done added (grown G p₁ q m)) (refuse 11 p₁)).answer)
              (cond y (entered added (ledger p.numbers.levels (with_second (area_of p.numbers) q m) (own G Z I).live)) (entered (refused 11) (own G Z I)))
          by true e = record { answer = refl; sim = grown_sim g e }
          by false e = record { answer = refl; sim = own_sim G Z I }

      go : (y : Bool) → good_add G p₁ q m ≡ y → Alike G Z (go_back p (left y) (left y).answer) (cond y outer (entered (refused 1) (own G Z I)))
      go true e = at (may_add G p₁ q m e).0
      go false e = record { answer = refl; sim = own_sim G Z I }
