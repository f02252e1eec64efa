-- An accepted unmap on a pool that holds a ledger: what the hardware reads while its single writes are made. The first clears the frame's word.
use Rattle.std.specs.Prelude.{◌≡◌, refl, ◌≢◌, false, take}
use Rattle.std.proofs.Math.Path.{ap, subst}
use Rattle.std.proofs.Common.{sym, ◌∙◌, ⊎_elim, mod-lt, arith}
use Rattle.std.proofs.lemmas.Bool.{false≢true}
use mathlib.Core.List.{List, map}
use Rattle.std.proofs.Math.Option
use Rattle.std.proofs.Math.Option.{some}
use Prim.Native.Nat.{ℕ, zero, suc, ◌+◌, ◌-◌, ◌*◌, ◌%◌, ◌≤◌, ◌<◌}
use Rattle.std.proofs.Math.ListN.{get_or}
use Rattle.path.specs.Geometry.{Granule, Sane, entries, space_of}
use Rattle.path.specs.Laws.{entries_pos}
use Rattle.path.specs.Paths.{path_of}
use Rattle.entry.specs.Words.{frame_word}
use Rattle.entry.proofs.Laws.{frame_word_ge}
use Rattle.model.specs.declared.Walked.{Walked}
use Rattle.model.specs.Answers as answers
use Rattle.model.specs.Answers.{Pool}
use Rattle.model.specs.Walk.{slot, at_height}
use Rattle.model.specs.Writes.{Write, Memory, memory, perform_all, prune_writes, unmap_writes}
use Rattle.model.specs.Calls.{walk_to}
use Rattle.model.specs.Ledger.{Ledger, cover_of, drop_at}
use Rattle.tree.specs.Region.{anc}
use Rattle.tree.specs.Tree.{Ent, frame, Rendered, Zeros}
use Rattle.tree.specs.Inv.{Mapping, mapping, Holds, Store, without}
use Rattle.tree.specs.Prune as prunes
use Rattle.tree.specs.Ledger.{query_some}
use Rattle.demand.specs.Shown.{shown, pg, cover_lookup, covers_holds, base_of, attrs_of}
use Rattle.demand.specs.Arm.{read_entry}
use Rattle.demand.specs.Memories.{read_at}
use Rattle.demand.specs.Walks.{Ended, spot, way_at}
use Rattle.model.proofs.LeftLaws.{performed_length}
use Rattle.demand.specs.Carried.{A}
use Rattle.demand.specs.Sims.{Sim}
use Rattle.demand.specs.Queries.{area, n, k₀, al, X, R, few, walk_ended, entry_frame}
use Rattle.demand.specs.Unmaps.{low, way_is, loose, carried, dropped}
use Rattle.demand.specs.Steps.{in_space}
use Rattle.hardware.specs.Machine.{told, held_by, Stands, Reads, singles, words_after}
use Rattle.hardware.proofs.Trees.{within_both, within_less, Cut, cut}
use Rattle.hardware.specs.Trees.{Within}
use Rattle.hardware.proofs.Mixed.{place}
use Rattle.hardware.proofs.Plans.{each_take, cleared, clears_sound, prune_clears}
use Rattle.hardware.specs.Plans.{Each, Sound, Clears}
use Rattle.hardware.proofs.Views.{given, Gave, unmap_gives, unmap_carries}
use Rattle.hardware.proofs.Watch.{word_at, at_rest, outside_unmap, overtaken_down, part_down, any_order_down}
use Rattle.hardware.specs.Watch.{Seen}

module _ (G : Granule) (Z : Sane G) {p : Pool} {B : Ledger} (I : Sim G Z p B) (a b k : ℕ) (Y : Gave G p a b k) where
  abbrev K : ℕ
  K = entries G

  abbrev top : ℕ
  top = p.numbers.levels

  abbrev f : ℕ
  f = p.numbers.free

  abbrev v : ℕ
  v = pg G Z a

  abbrev x : ℕ
  x = b + k

  abbrev o : Walked
  o = walk_to G p 0 a

  abbrev h : ℕ
  h = o.left

  abbrev r : ℕ
  r = anc K h v

  abbrev m₀ : Memory
  m₀ = memory p.words p.list

  abbrev live : List answers.Mapping
  live = map (shown G Z) I.L

  -- ---- what the call has found

  pub here : a < space_of G top
  here = in_space G Z I a Y.tests

  E : Ended G Z (area G Z I) top (al G Z I) (few G Z I) p.words (R G Z I) a 0 (k₀ G Z I) o
  E = walk_ended G Z I 0 a (omega arith) here

  -- the frame that goes
  pub more : I.S h r ≡ frame x
  more = entry_frame (I.S h r) (I.T h r) x (ap read_entry (sym Y.framed) ∙ E.ends.says_is)

  -- ---- the writes, the words that they leave, and their tree

  abbrev freed : ℕ
  freed = given G p a

  abbrev pub planned : List Write
  planned = unmap_writes G o.tables (path_of G a) h f freed

  abbrev pub ws : List Write
  ws = singles G planned

  abbrev pub new : List ℕ
  new = (perform_all G planned m₀).words

  abbrev Tables : Store (X G Z I)
  Tables = A G Z (area G Z I) top (al G Z I)

  abbrev way : ℕ → ℕ
  way = way_at o.tables

  abbrev cleared₁ : prunes.Loose (X G Z I) Tables v way (without h r I.L) (k₀ G Z I - h) (suc h)
  cleared₁ = loose G Z I a here b k more Y.starts

  pub N : Cut (X G Z I) Tables v way cleared₁ (prunes.prune (X G Z I) Tables v way (k₀ G Z I - h) (suc h) cleared₁.m p.list f)
  unfolding loose
  N = cut (X G Z I) Tables v way (k₀ G Z I - h) (suc h) cleared₁

  abbrev pub T' : ℕ → ℕ → ℕ
  T' = N.pruned.T

  abbrev pub S' : ℕ → ℕ → Ent
  S' = N.pruned.S

  abbrev L' : List Mapping
  L' = without h r I.L

  pub R' : Rendered (X G Z I) (read_at G new) T' S'
  unfolding loose
  R' =
      subst (λ (q : prunes.Pool Tables). Rendered (X G Z I) (read_at G q.m) T' S') (sym (carried G Z I a here b k more Y.starts))
      N.pruned.inv.ren

  Zs : Zeros (X G Z I) (read_at G new) T' S'
  unfolding loose
  Zs =
      subst (λ (q : prunes.Pool Tables). Zeros (X G Z I) (read_at G q.m) T' S') (sym (carried G Z I a here b k more Y.starts))
      (N.pruned.inv.spare tt).zeros

  H' : Holds S' L'
  H' = N.pruned.inv.holds

  pub Q : Within T' S' I.T I.S
  unfolding loose
  Q = within_both N.within (within_less h r 0)

  others : (c : ℕ) → anc K h (pg G Z c) ≢ anc K h v → told (map (shown G Z) L') c ≡ told live c
  others c d = outside_unmap G Z I.L h r c d

  -- ---- each write is of a word as it will be: 0

  -- all but the first
  abbrev rest : List Write
  rest = singles G (prune_writes G o.tables (path_of G a) h f freed)

  clears : Each Clears rest
  clears = prune_clears G o.tables (path_of G a) freed h f

  pub all_clear : Each Clears ws
  unfolding singles
  all_clear = (refl, clears)

  sound : Each (Sound p.words new) ws
  unfolding singles
  sound =
      subst (λ (z : List ℕ). Each (Sound p.words z) ws) (ap (λ (m : Memory). m.words) (unmap_carries G p a _ (unmap_gives b k Y)))
      (clears_sound G p.words ws (refl, clears) m₀)

  -- ---- the place of the frame's word: entry i of table u

  abbrev u : ℕ
  u = I.T (suc h) (anc K (suc h) v)

  abbrev i : ℕ
  i = r % K

  i_lt : i < K
  i_lt = mod-lt r (entries_pos G)

  framed : read_at G p.words u i ≡ frame_word (base_of x) h (attrs_of x)
  framed = (R G Z I).words h r E.ends.parent ∙ ap (λ (e : Ent). (X G Z I).enc h e (I.T h r)) more

  abbrev place₁ : ℕ
  place₁ = slot G (at_height o.tables h) (at_height (path_of G a) h)

  place_is : place₁ ≡ slot G u i
  place_is =
      let l = low G Z I a here in
      let w = ap (λ (j : ℕ). get_or o.tables j 0) (let z : 3 - h ≡ 4 - suc h = omega (arith, few G Z I, l) in z) in
      let e : at_height o.tables h ≡ u = w ∙ way_is G Z I a here (suc h) (omega arith) l in
      let q = spot G Z (area G Z I) top (al G Z I) (few G Z I) p.words (R G Z I) a h (omega (arith, few G Z I, l)) in
      λ j. slot G (e j) (q j)

  -- after the first write it is 0
  gone : (j : ℕ) → read_at G (words_after G p (take (suc j) ws)) u i ≡ 0
  unfolding singles perform_all
  gone j =
      ap (λ (c : ℕ). get_or (words_after G p (take (suc j) ws)) c 0) (sym place_is)
      ∙ cleared G (take j rest) (each_take Clears j rest clears) place₁ m₀

  -- ---- what the hardware reads

  until : (j : ℕ) → j ≤ 0 → (mem : ℕ → ℕ) → Stands G (area G Z I) (words_after G p (take j ws)) mem → Reads G p.numbers (λ _. mem) live
  unfolding perform_all
  until zero l mem S = at_rest G Z I mem S
  until (suc j) l mem S = absurd (omega arith)

  since : (j : ℕ) → 0 < j → (mem : ℕ → ℕ) → Stands G (area G Z I) (words_after G p (take j ws)) mem
      → Reads G p.numbers (λ _. mem) (map (shown G Z) L')
  since zero l mem S = absurd (omega arith)
  since (suc j) l mem S =
      ⊎_elim (λ q. q) (λ q. absurd (clash q.1))
      (part_down G Z I new R' H' ws sound Q Zs h v x more others (take (suc j) ws) (each_take (Sound p.words new) (suc j) ws sound) mem S)
    where
      in_pool_lem : u < n G Z I
      in_pool_lem = (R G Z I).range (suc h) (anc K (suc h) v) E.ends.parent

      there : mem (place G Z I u + 8 * i) ≡ 0
      there = word_at G Z I (words_after G p (take (suc j) ws)) (performed_length G (take (suc j) ws) m₀) mem S u i in_pool_lem i_lt ∙ gone j

      clash : mem (place G Z I u + 8 * i) ≡ read_at G p.words u i → ⊥
      clash q =
          let z : 0 ≡ frame_word (base_of x) h (attrs_of x) = sym there ∙ q ∙ framed in omega (arith, frame_word_ge (base_of x) h (attrs_of x))

  after : map (shown G Z) L' ≡ drop_at a live
  after = sym (dropped G Z I a here b k more Y.starts)

  pub unmap_seen : (One : Type 0) → Seen G p live (drop_at a live) ws One
  unmap_seen One =
      subst (λ (L : List answers.Mapping). Seen G p live L ws One) after
      (record {
        each_write = λ _. record { at = 0; old = λ j l. until j (omega arith); new = λ j l. since j (omega arith) };
        any_order = λ _. any_order_down G Z I new R' H' ws sound Q Zs h v x more others;
        overtaken = overtaken_down G Z I new R' H' ws sound Q Zs;
      })

  -- ---- outside the mapping that goes

  covered : cover_of a live ≡ some (shown G Z (mapping h r x))
  covered = cover_lookup G Z a I.L ∙ ap (Option.map (shown G Z)) (query_some (R G Z I) I.inv.holds E.ends x more)

  pub unmap_outside : (c : ℕ) → held_by c (cover_of a live) ≡ false → told (drop_at a live) c ≡ told live c
  unmap_outside c e = ap (λ (L : List answers.Mapping). told L c) (sym after) ∙ others c away
    where
      away : anc K h (pg G Z c) ≢ r
      away q = false≢true (sym e ∙ ap (held_by c) covered ∙ covers_holds G Z c (mapping h r x) q)
