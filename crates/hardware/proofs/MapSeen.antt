-- An accepted map on a pool that holds a ledger: what the hardware reads while its single writes are made.
use Rattle.std.specs.Prelude.{◌≡◌, refl, ◌≢◌, List, ◌∷◌, map, ℕ, suc, ◌+◌, ◌-◌, ◌*◌, ◌%◌, ◌≤◌, ◌<◌, length, get_or, take}
use Rattle.std.proofs.Common.{ap, sym, ◌∙◌, subst, inl, ⊎_elim, mod-lt, arith, length-append, take_all}
use mathlib.Core.List.Memᴰ.{head as here}
use Rattle.std.proofs.Math.Decide.{ℕ_discrete}
use Rattle.std.proofs.lemmas.List.{take-append-le}
use Rattle.path.specs.Geometry.{Granule, Sane, entries, height_of}
use Rattle.path.specs.Areas.{area_of}
use Rattle.path.specs.Laws.{entries_pos}
use Rattle.path.specs.Paths.{path_of}
use Rattle.entry.specs.Words.{frame_word, table_word}
use Rattle.entry.proofs.Laws.{frame_word_ge, not_both}
use Rattle.model.specs.declared.Walked.{Walked}
use Rattle.model.specs.Answers as answers
use Rattle.model.specs.Answers.{Pool}
use Rattle.model.specs.Walk.{slot, at_height}
use Rattle.model.specs.Writes.{Write, Memory, memory, perform_all, map_writes}
use Rattle.model.specs.Calls.{walk_to}
use Rattle.model.specs.Ledger.{Ledger}
use Rattle.tree.specs.Region.{anc}
use Rattle.tree.specs.Tree.{Ent, empty, frame, table, table≢empty, empty≢frame, table?, empty?, Rendered}
use Rattle.tree.specs.Walk.{chain}
use Rattle.tree.specs.Inv.{Mapping, mapping, Holds, Store}
use Rattle.tree.specs.Ops.{grow, free_taken}
use Rattle.demand.specs.Shown.{shown, pg, base_of, attrs_of}
use Rattle.demand.specs.Arm.{read_entry}
use Rattle.demand.specs.Memories.{read_at, place_at}
use Rattle.demand.specs.Walks.{Ended, spot}
use Rattle.model.proofs.LeftLaws.{performed_length}
use Rattle.demand.specs.Carried.{A}
use Rattle.demand.specs.Sims.{Sim}
use Rattle.demand.specs.Queries.{area, n, k₀, al, X, R, few, root_at, walk_ended, entry_empty}
use Rattle.demand.specs.Maps.{Fine, tests_fine, new_shown, region_is, good_frame, low, s_low, Takes, ready, t_is, carried}
use Rattle.hardware.specs.Machine.{told, Stands, Reads, singles, words_after}
use Rattle.hardware.proofs.Trees.{new_zero, Grown, grown}
use Rattle.hardware.specs.Trees.{Within}
use Rattle.hardware.proofs.Mixed.{place}
use Rattle.hardware.proofs.Plans.{each_take, left, zero_grew}
use Rattle.hardware.specs.Plans.{Each, Sound, Leaves, Grew}
use Rattle.hardware.proofs.Links.{Taking, but_last, links, Last, last, map_sound, but_last_leaves, from_zero}
use Rattle.hardware.proofs.Views.{Took, map_takes, map_carries}
use Rattle.hardware.proofs.Watch.{word_at, reads_rest, outside_map, overtaken_up, part_up, any_order_up}
use Rattle.hardware.specs.Watch.{Seen}

module _ (G : Granule) (Z : Sane G) {p : Pool} {B : Ledger} (I : Sim G Z p B) (a b size k : ℕ) (Y : Took G p a b size k) where
  abbrev K : ℕ
  K = entries G

  abbrev top : ℕ
  top = p.numbers.levels

  abbrev f : ℕ
  f = p.numbers.free

  abbrev g : ℕ
  g = height_of G size

  abbrev v : ℕ
  v = pg G Z a

  abbrev x : ℕ
  x = b + k

  abbrev o : Walked
  o = walk_to G p g a

  abbrev s : ℕ
  s = o.left

  abbrev t : ℕ
  t = at_height o.tables s

  abbrev m₀ : Memory
  m₀ = memory p.words p.list

  abbrev live : List answers.Mapping
  live = map (shown G Z) I.L

  -- ---- what the call has found

  pub F : Fine G top (area_of p.numbers) a b size k
  F = tests_fine G top (area_of p.numbers) a b size k Y.tests

  E : Ended G Z (area G Z I) top (al G Z I) (few G Z I) p.words (R G Z I) a g (k₀ G Z I) o
  E = walk_ended G Z I g a (low G Z I a b size k F) F.start_in

  pub vacant : I.S s (anc K s v) ≡ empty
  vacant = entry_empty (I.S s (anc K s v)) (I.T s (anc K s v)) (ap read_entry (sym Y.vacant) ∙ E.ends.says_is)

  above : g ≤ s
  above = E.ends.target (low G Z I a b size k F)

  high : s - g + g < 4
  high = omega (arith, above, s_low G Z I a b size k F vacant)

  -- ---- the writes, the words that they leave, and their tree

  abbrev pub planned : List Write
  planned = map_writes G (area G Z I) (path_of G a) p.list g (frame_word b g k) t f (s - g)

  abbrev pub ws : List Write
  ws = singles G planned

  abbrev pub new : List ℕ
  new = (perform_all G planned m₀).words

  abbrev Tables : Store (X G Z I)
  Tables = A G Z (area G Z I) top (al G Z I)

  -- the tables that it takes are free
  pub takes : Takes G Z I a b size k F vacant Y.room
  takes = free_taken (I.inv.spare tt).free

  pub N : Grown (X G Z I) Tables (place_at p.list) g v x (ready G Z I a b size k F vacant Y.room takes)
      (grow (X G Z I) Tables (place_at p.list) g v x s p.words t f)
  unfolding ready
  N = grown (X G Z I) Tables (place_at p.list) g v x s (ready G Z I a b size k F vacant Y.room takes)

  abbrev pub T' : ℕ → ℕ → ℕ
  T' = N.mapped.T

  abbrev pub S' : ℕ → ℕ → Ent
  S' = N.mapped.S

  abbrev L' : List Mapping
  L' = mapping g (anc K g v) x ∷ I.L

  pub R' : Rendered (X G Z I) (read_at G new) T' S'
  R' =
      subst (λ (m : Memory). Rendered (X G Z I) (read_at G m.words) T' S') (sym (carried G Z I a b size k F vacant Y.room))
      N.mapped.inv.ren

  H' : Holds S' L'
  H' = N.mapped.inv.holds

  pub Q : Within I.T I.S T' S'
  unfolding ready
  Q = N.within

  -- the frame that comes
  more : S' g (anc K g v) ≡ frame x
  more = H'.live (mapping g (anc K g v) x) (here refl)

  others : (c : ℕ) → anc K g (pg G Z c) ≢ anc K g v → told live c ≡ told (map (shown G Z) L') c
  others c d = outside_map G Z I.L g (anc K g v) x c d

  -- ---- each write is of a word as it was or as it will be

  below : (h : ℕ) → h < 4 → at_height (path_of G a) h < K
  below h l =
      let e = spot G Z (area G Z I) top (al G Z I) (few G Z I) p.words (R G Z I) a h l in
      subst (λ (i : ℕ). i < K) (sym e) (mod-lt (anc K h v) (entries_pos G))

  number : t ≡ I.T (suc s) (anc K (suc s) v)
  number = t_is G Z I a b size k F vacant Y.room

  W : Taking G Z I (path_of G a) g (frame_word b g k) below p.words t f
  W = record {
    own = subst (λ (j : ℕ). j < n G Z I) (sym number) ((R G Z I).range (suc s) (anc K (suc s) v) E.ends.parent);
    each = λ i l. ((I.inv.spare tt).free.each i l).0;
    apart = λ i l e. ((I.inv.spare tt).free.each i l).1 (suc s) (anc K (suc s) v) E.ends.parent (sym number ∙ sym e);
    once = (I.inv.spare tt).free.once;
    bare = λ i j l c. (I.inv.spare tt).zeros (place_at p.list i) j ((I.inv.spare tt).free.each i l).0 c ((I.inv.spare tt).free.each i l).1;
  }

  long : length p.words ≡ K * n G Z I
  long = I.good.numbers.words_are

  pub sound : Each (Sound p.words new) ws
  sound = map_sound G Z I (path_of G a) g (frame_word b g k) below p.words (s - g) t f Y.room high W m₀ long

  -- and of a place that was 0
  entry_was : get_or p.words (slot G t (at_height (path_of G a) (s - g + g))) 0 ≡ 0
  entry_was =
      let e = spot G Z (area G Z I) top (al G Z I) (few G Z I) p.words (R G Z I) a s (s_low G Z I a b size k F vacant) in
      ap (λ (h : ℕ). get_or p.words (slot G t (at_height (path_of G a) h)) 0) (omega (arith, above))
      ∙ (λ j. get_or p.words (slot G (number j) (e j)) 0)
      ∙ (R G Z I).words s (anc K s v) E.ends.parent
      ∙ ap (λ (e : Ent). (X G Z I).enc s e (I.T s (anc K s v))) vacant

  pub grew : Grew p.words new
  grew =
      subst (Grew p.words) (ap (λ (m : Memory). m.words) (map_carries G p a b size k _ (map_takes Y)))
      (zero_grew G p.words ws (from_zero G Z I (path_of G a) g (frame_word b g k) below p.words (s - g) t f Y.room high W entry_was) m₀ (λ i. inl refl))

  -- ---- the place of the frame's word: entry i of table u

  abbrev u : ℕ
  u = T' (suc g) (anc K (suc g) v)

  abbrev i : ℕ
  i = anc K g v % K

  i_lt : i < K
  i_lt = mod-lt (anc K g v) (entries_pos G)

  parent : S' (suc g) (anc K (suc g) v) ≡ table
  parent = R'.up g (anc K g v) (omega (arith, low G Z I a b size k F, root_at G Z I)) (λ z. empty≢frame z more)

  framed : read_at G new u i ≡ frame_word (base_of x) g (attrs_of x)
  framed = R'.words g (anc K g v) parent ∙ ap (λ (e : Ent). (X G Z I).enc g e (T' g (anc K g v))) more

  -- it was 0
  nothing : I.S g (anc K g v) ≡ empty
  nothing = go (empty? (I.S g (anc K g v))) (ℕ_discrete g s)
    where
      go : Dec (I.S g (anc K g v) ≡ empty) → Dec (g ≡ s) → I.S g (anc K g v) ≡ empty
      go (yes e) d = e
      go (no e) (yes d) = subst (λ (j : ℕ). I.S j (anc K j v) ≡ empty) (sym d) vacant
      go (no e) (no d) =
          let c = chain (R G Z I) v g e s (omega (arith, above)) (omega (arith, E.ends.low, root_at G Z I)) in
          absurd (table≢empty c vacant)

  unset : read_at G p.words u i ≡ 0
  unset = go (table? (I.S (suc g) (anc K (suc g) v)))
    where
      go : Dec (I.S (suc g) (anc K (suc g) v) ≡ table) → read_at G p.words u i ≡ 0
      go (yes e) =
          ap (λ (c : ℕ). read_at G p.words c i) (Q.number (suc g) (anc K (suc g) v) e)
          ∙ (R G Z I).words g (anc K g v) e
          ∙ ap (λ (e : Ent). (X G Z I).enc g e (I.T g (anc K g v))) nothing
      go (no d) = new_zero (I.inv.spare tt).zeros R' Q (suc g) (anc K (suc g) v) parent d i i_lt

  -- and all writes but the last leave it so
  abbrev front : List Write
  front = but_last G Z I (path_of G a) g (frame_word b g k) below (s - g) t f

  final : Last G Z I (path_of G a) g (frame_word b g k) below (s - g) t f new
  final = last G Z I (path_of G a) g (frame_word b g k) below (s - g) t f Y.room high W m₀ long

  no_link : (c : ℕ) → c < n G Z I → read_at G new u i ≡ table_word G (area G Z I) c → ⊥
  no_link c r e = not_both Z (area G Z I) c (al G Z I) r (good_frame G Z I a b size k F) (sym framed ∙ e)

  still : (j : ℕ) → read_at G (words_after G p (take j front)) u i ≡ 0
  still j =
      let l = links G Z I (path_of G a) g (frame_word b g k) below p.words (s - g) t f Y.room high W m₀ long in
      left G (slot G u i) 0 (take j front)
      (each_take (Leaves (slot G u i) 0) j front
      (but_last_leaves G Z I (path_of G a) g (frame_word b g k) below p.words new (slot G u i) no_link front l)) m₀ unset

  -- ---- what the hardware reads

  until : (j : ℕ) → j ≤ length front → (mem : ℕ → ℕ) → Stands G (area G Z I) (words_after G p (take j ws)) mem
      → Reads G p.numbers (λ _. mem) live
  until j l mem S =
      ⊎_elim (λ q. q) (λ q. absurd (clash q.1))
      (part_up G Z I new R' H' ws sound Q g v x more others (take j ws) (each_take (Sound p.words new) j ws sound) mem S)
    where
      same : take j ws ≡ take j front
      same = ap (take j) final.split ∙ take-append-le j front _ l

      there : mem (place G Z I u + 8 * i) ≡ 0
      there =
          word_at G Z I (words_after G p (take j ws)) (performed_length G (take j ws) m₀) mem S u i (R'.range (suc g) (anc K (suc g) v) parent) i_lt
          ∙ ap (λ (l : List Write). read_at G (words_after G p l) u i) same
          ∙ still j

      clash : mem (place G Z I u + 8 * i) ≡ read_at G new u i → ⊥
      clash q =
          let z : 0 ≡ frame_word (base_of x) g (attrs_of x) = sym there ∙ q ∙ framed in omega (arith, frame_word_ge (base_of x) g (attrs_of x))

  since : (j : ℕ) → length front < j → (mem : ℕ → ℕ) → Stands G (area G Z I) (words_after G p (take j ws)) mem
      → Reads G p.numbers (λ _. mem) (map (shown G Z) L')
  since j l mem S =
      reads_rest G Z I new (performed_length G planned m₀) R' H' mem (subst (λ (z : List ℕ). Stands G (area G Z I) z mem) same S)
    where
      one_more : length ws ≡ length front + 1
      one_more = ap length final.split ∙ length-append front _

      same : words_after G p (take j ws) ≡ new
      same =
          ap (words_after G p) (take_all j ws (omega (arith, one_more)))
          ∙ ap (λ (m : Memory). m.words) (map_carries G p a b size k _ (map_takes Y))

  after : map (shown G Z) L' ≡ answers.mapping a b size k ∷ live
  after =
      let e = ap (λ (r : ℕ). shown G Z (mapping g r x)) (region_is G Z I a b size k F) ∙ new_shown G Z I a b size k F in
      ap (λ (m : answers.Mapping). m ∷ live) e

  pub map_seen : (One : Type 0) → Seen G p live (answers.mapping a b size k ∷ live) ws One
  map_seen One =
      subst (λ (L : List answers.Mapping). Seen G p live L ws One) after
      (record {
        each_write = λ _. record { at = length front; old = λ j l. until j (omega arith); new = λ j l. since j (omega arith) };
        any_order = λ _. any_order_up G Z I new R' H' ws sound Q g v x more others;
        overtaken = overtaken_up G Z I new R' H' ws sound Q;
      })
