-- The promise of Machine is kept: for every call after any calls, from any pool that holds a ledger.
use Rattle.std.proofs.Math.Path.{◌≡◌, refl}
use Rattle.std.proofs.Common.{ap, sym, ◌∙◌, subst, arith, mul-add, length-take-le, get_or-take}
use Rattle.std.specs.Prelude.{◌≢◌, Bool, cond, ℕ, zero, suc, ◌+◌, ◌-◌, ◌*◌, ◌<◌, length, take, replicate}
use Rattle.std.proofs.Math.Logic.{inl}
use Rattle.std.proofs.Math.Bool.{true, false}
use Rattle.std.proofs.lemmas.Bool.{false≢true}
use mathlib.Core.List.{List, [], ◌∷◌, ◌++◌, map}
use Rattle.laws.specs.Lists.{down}
use Rattle.laws.specs.ListLaws.{all_zero_at, all_zero_replicate, get_d_down, get_d_first}
use Rattle.path.specs.Geometry.{Granule, Sane, granule_of, entries}
use Rattle.path.specs.Areas.{Area, area_of, total}
use Rattle.path.specs.Laws.{granule_sane}
use Rattle.path.specs.Numbers.{GoodNumbers}
use Rattle.model.specs.Answers.{Mapping, mapping, Answer, took, cleared, accepts, tables_in, Pool, Done}
use Rattle.model.specs.Walk.{slot}
use Rattle.model.specs.Writes.{Write, Memory, memory, perform_all}
use Rattle.model.specs.Ledger.{Ledger, cover_of, drop_at, free_tables}
use Rattle.model.specs.Adds.{lent, add_w}
use Rattle.model.specs.Calls.{unmap_w}
use Rattle.model.proofs.LeftLaws.{leaves_kept, map_leaves, unmap_leaves}
use Rattle.model.specs.LeftLaws.{Leaves}
use Rattle.model.specs.Ranges.{pieces, pages_of, map_piece, map_range_w, unmap_range_w, gain, drop_in}
use Rattle.model.proofs.RangeLaws.{range_fine, tiles, tiles_inside}
use Rattle.model.proofs.RangeMapped.{map_range_view}
use Rattle.model.specs.RangeMapped.{MapRangeView, range_takes, range_refuses}
use Rattle.model.proofs.RangeUnmapLaws.{unmap_range_view}
use Rattle.model.specs.RangeUnmapped.{UnmapRangeView, range_clears, range_stays}
use Rattle.model.proofs.AddLaws.{add_view, may_add}
use Rattle.model.specs.AddLaws.{AddView, add_grows, add_refuses}
use Rattle.tree.specs.Region.{Same, same?, upd, upd_at, upd_other}
use Rattle.tree.specs.Tree.{Ent, empty, table, table≢empty}
use Rattle.tree.specs.Inv.{Inv}
use Rattle.tree.specs.Fresh.{T₀, S₀, fresh}
use Rattle.demand.specs.Shown.{shown}
use Rattle.demand.specs.Memories.{read_at, place_at, in_table}
use Rattle.demand.specs.Sims.{Sim, holds_sim}
use Rattle.demand.specs.Queries.{n, k₀, X, R, own, ledger_is, root_at}
use Rattle.demand.specs.Maps.{own_sim}
use Rattle.demand.specs.RangeMaps.{pieces_left, map_range_step, map_range_parts}
use Rattle.demand.specs.RangeUnmaps.{pages_left, unmap_range_step, unmap_range_parts}
use Rattle.demand.specs.Theorem.{step_alike, after_sim}
use Rattle.demand.specs.Demand3.{Call, format_c, add_c, map_c, unmap_c, map_range_c, unmap_range_c, ask_c, ask_w, go_back, map_of, parts, step_w, step_l, ledger_after}
use Rattle.hardware.specs.Machine.{told, Stands, Reads, zeros_from, places_from, places_above, plan, writes_of, written_to, memory_of, words_after, visible}
use Rattle.hardware.specs.Machine.{map_plan, unmap_plan, plan_each, writes_through, Switch, InTurn, Overtaken, AtOnce, Ranged, concerns, OfParts, Machine, Promise}
use Rattle.hardware.proofs.Trees.{within_same}
use Rattle.hardware.specs.Trees.{Within}
use Rattle.hardware.proofs.Plans.{each_append, each_take, each_visible, each_zeros, beyond_leave, places_beyond, left, clears_sound, places_clear}
use Rattle.hardware.specs.Plans.{Each, Beyond, Sound, Clears}
use Rattle.hardware.proofs.Views.{no_write, MapView, map_takes, map_refuses, map_view, UnmapView, unmap_gives, unmap_refuses, unmap_view}
use Rattle.hardware.proofs.Views.{FormatView, format_clears, format_refuses, format_view, format_carries}
use Rattle.hardware.proofs.Views.{unmaps_carried, writes_carried, map_live, unmap_live, map_range_live, unmap_range_live, format_live, add_live}
use Rattle.hardware.proofs.Watch.{at_rest, overtaken_up, overtaken_down}
use Rattle.hardware.specs.Watch.{Seen}
use Rattle.hardware.proofs.MapSeen.{map_seen}
use Rattle.hardware.proofs.UnmapSeen.{unmap_seen, unmap_outside}
use Rattle.hardware.proofs.RangeSeen.{maps_overtaken, unmaps_overtaken, turn_none, turn_more, outside_not, gain_outside, drop_outside}

-- the live mappings after a call, by its answer
abbrev live_by : Granule → List Mapping → Call → Answer → List Mapping
live_by G L (format_c levels area) r = cond (accepts r) [] L
live_by G L (add_c q m second rest) r = L
live_by G L (map_c a b size k) r = cond (accepts r) (mapping a b size k ∷ L) L
live_by G L (unmap_c a) r = cond (accepts r) (drop_at a L) L
live_by G L (map_range_c a b len k) r = cond (accepts r) (gain (pieces G a b len k) L) L
live_by G L (unmap_range_c a len) r = cond (accepts r) (drop_in a len L) L
live_by G L (ask_c q) r = L

live_by_lem : (G : Granule) (A : Ledger) (c : Call) → (step_l G A c).after.live ≡ live_by G A.live c (step_l G A c).answer
live_by_lem G A (format_c levels area) = format_live G A levels area
live_by_lem G A (add_c q m second rest) = add_live G A q m (length second) (free_tables G A + length rest)
live_by_lem G A (map_c a b size k) = map_live G A a b size k
live_by_lem G A (unmap_c a) = unmap_live G A a
live_by_lem G A (map_range_c a b len k) = map_range_live G A a b len k
live_by_lem G A (unmap_range_c a len) = unmap_range_live G A a len
live_by_lem G A (ask_c q) = refl

module _ (G : Granule) (Z : Sane G) {p : Pool} {A : Ledger} (I : Sim G Z p A) where
  abbrev live : List Mapping
  live = map (shown G Z) I.L

  -- without a write nothing changes
  still : (mem : ℕ → ℕ) (ws : List Write) → ws ≡ [] → Stands G (area_of p.numbers) (words_after G p ws) mem → Reads G p.numbers (λ _. mem) live
  unfolding perform_all
  still mem ws e S = at_rest G Z I mem (subst (λ (l : List Write). Stands G (area_of p.numbers) (words_after G p l) mem) e S)

  idle : (One : Type 0) → Seen G p live live [] One
  idle One = record {
    each_write = λ _. record { at = 0; old = λ j l mem S. still mem (take j []) (none j) S; new = λ j l mem S. still mem (take j []) (none j) S };
    any_order = λ _ seen mem S. inl (still mem (visible seen []) (hidden seen) S);
    overtaken = overtaken_up G Z I p.words (R G Z I) I.inv.holds [] tt within_same;
  }
    where
      none : (j : ℕ) → take {A = Write} j [] ≡ []
      none zero = refl
      none (suc j) = refl

      hidden : (seen : List Bool) → visible seen [] ≡ []
      hidden [] = refl
      hidden (b ∷ bs) = refl

  idle_or : (b : Bool) (One : Type 0) → Seen G p live live (cond b [] []) One
  idle_or b One = subst (λ (ws : List Write). Seen G p live live ws One) (sym (no_write b)) (idle One)

  -- format: the words go to 0 one after the other, and with them the tree that only its root is left of
  module _ (levels : ℕ) (area : Area) (N : GoodNumbers G levels area p.cut (length p.words) (length p.list)) where
    abbrev zeros : List ℕ
    zeros = replicate (length p.words) 0

    abbrev ws : List Write
    ws = zeros_from 0 (length p.words) ++ places_from 0 (total area)

    some : 0 < n G Z I
    some = omega (arith, I.good.numbers.some_table)

    -- the root alone
    abbrev T₁ : ℕ → ℕ → ℕ
    T₁ = T₀ (X G Z I) (k₀ G Z I) (root_at G Z I) some

    abbrev S₁ : ℕ → ℕ → Ent
    S₁ = S₀ (X G Z I) (k₀ G Z I) (root_at G Z I) some

    zero_words : (t i : ℕ) → read_at G zeros t i ≡ 0
    zero_words t i = all_zero_at zeros (all_zero_replicate (length p.words)) (slot G t i)

    bare : Inv (X G Z I) (read_at G zeros) (place_at (down (n G Z I))) (n G Z I - 1) T₁ S₁ [] p.numbers.levels 0
    bare =
        fresh (X G Z I) (k₀ G Z I) (root_at G Z I) some (read_at G zeros) (place_at (down (n G Z I))) zero_words
        (λ i l. get_d_down (n G Z I) i (omega arith))

    within : Within T₁ S₁ I.T I.S
    within = record { stays = λ h r d. stays h r d (same? top 0 h r); number = λ h r e. number h r e (same? top 0 h r) }
      where
        top : ℕ
        top = p.numbers.levels

        E₀ : ℕ → ℕ → Ent
        E₀ = λ _ _. empty

        stays : (h r : ℕ) → upd E₀ top 0 table h r ≢ empty → Dec (Same top 0 h r) → I.S h r ≡ upd E₀ top 0 table h r
        stays h r d (yes s) =
            let e = (R G Z I).root in
            let q = s.0 in
            let z = s.1 in
            let u : I.S h r ≡ table = cc in
            u ∙ sym (upd_at E₀ top 0 table h r s)
        stays h r d (no s) = absurd (d (upd_other E₀ top 0 table h r s))

        number : (h r : ℕ) → upd E₀ top 0 table h r ≡ table → Dec (Same top 0 h r) → I.T h r ≡ 0
        number h r e (yes s) = let u = (R G Z I).root_at in let q = s.0 in let z = s.1 in cc
        number h r e (no s) = absurd (table≢empty e (upd_other E₀ top 0 table h r s))

    clears : Each Clears ws
    clears =
        each_append Clears (zeros_from 0 (length p.words)) (places_from 0 (total area))
        (each_zeros Clears 0 (length p.words) (λ j _ _. refl)) (places_clear (total area) 0)

    sound : Each (Sound p.words zeros) ws
    sound =
        subst (λ (z : List ℕ). Each (Sound p.words z) ws) (ap (λ (m : Memory). m.words) (format_carries G p levels area _ (format_clears N)))
        (clears_sound G p.words ws clears (memory p.words p.list))

    format_seen : Seen G p live [] ws ⊥
    format_seen = record {
      each_write = λ z. absurd z;
      any_order = λ z. absurd z;
      overtaken = overtaken_down G Z I zeros bare.ren bare.holds ws sound within (bare.spare tt).zeros;
    }

  -- add: no walk sees what is written, which lies past the tables of the pool as it is
  module _ (q m : ℕ) (second rest : List ℕ) where
    abbrev p₁ : Pool
    p₁ = lent p second rest

    abbrev new : List Write
    new = zeros_from p.cut (entries G * m) ++ places_above p.numbers.tables p.numbers.free m

    beyond : Each (Beyond p.cut) new
    beyond =
        each_append (Beyond p.cut) (zeros_from p.cut (entries G * m)) (places_above p.numbers.tables p.numbers.free m)
        (each_zeros (Beyond p.cut) p.cut (entries G * m) (λ j l _. l)) (places_beyond p.cut p.numbers.tables m p.numbers.free)

    module _ (none_yet : (area_of p.numbers).tables₂ ≡ 0) where
      -- whatever part of it is visible, the pool's words stand in memory
      unseen : (xs : List Write) → Each (Beyond p.cut) xs → (mem : ℕ → ℕ) → Stands G (area_of p.numbers) (words_after G p₁ xs) mem
          → Stands G (area_of p.numbers) p.words mem
      unseen xs e mem S t i l b = S t i l b ∙ left G (slot G t i) (read_at G p.words t i) xs (beyond_leave p.cut (slot G t i) _ low xs e) (memory p₁.words p₁.list) before
        where
          low : slot G t i < p.cut
          low = let k : t < p.numbers.tables = omega arith in omega (arith, I.good.numbers.cut_is, in_table (entries G) k b)

          long : length (take p.cut p.words) ≡ p.cut
          long = length-take-le p.cut p.words (omega (arith, I.good.numbers.cut_is, I.good.numbers.words_are, mul-add (entries G) p.numbers.tables (area_of p.numbers).tables₂))

          before : read_at G p₁.words t i ≡ read_at G p.words t i
          before = get_d_first (take p.cut p.words) second (slot G t i) (omega (arith, long, low)) ∙ get_or-take p.cut p.words (slot G t i) 0 low

      add_seen : Seen G p₁ live live new (Unit {0})
      unfolding perform_all
      add_seen = record {
        each_write = λ _. record {
          at = 0;
          old = λ j l mem S. at_rest G Z I mem (unseen (take j new) (each_take (Beyond p.cut) j new beyond) mem S);
          new = λ j l mem S. at_rest G Z I mem (unseen (take j new) (each_take (Beyond p.cut) j new beyond) mem S);
        };
        any_order = λ _ seen mem S. inl (at_rest G Z I mem (unseen (visible seen new) (each_visible (Beyond p.cut) seen new beyond) mem S));
        overtaken = λ seen mem S a. (idle (Unit {0})).overtaken (λ _. []) mem (λ h. unseen (visible (seen h) new) (each_visible (Beyond p.cut) (seen h) new beyond) (mem h) (S h)) a;
      }

  -- every call, by its answer
  abbrev By : Call → Done → Type 0
  By c d = Seen G (written_to p c d.answer) live (live_by G live c d.answer) (cond (accepts d.answer) (plan G p c (tables_in d.answer)) []) (AtOnce c)

  seen : (c : Call) → By c (step_w G p c)
  seen (format_c levels area) = go (step_w G p (format_c levels area)) (format_view G p levels area)
    where
      go : (d : Done) → FormatView G p levels area d → By (format_c levels area) d
      go d (format_clears N) = format_seen levels area N
      go d format_refuses = idle ⊥
  seen (add_c q m second rest) = go (add_w G (lent p second rest) q m) (add_view G (lent p second rest) q m)
    where
      go : (d : Done) → AddView G (lent p second rest) q m d → By (add_c q m second rest) (go_back p d d.answer)
      go d (add_grows a b c) = add_seen q m second rest (may_add G (lent p second rest) q m a).0.one_yet.1
      go d (add_refuses k) = idle (Unit {0})
  seen (map_c a b size k) = go (step_w G p (map_c a b size k)) (map_view G p a b size k)
    where
      go : (d : Done) → MapView G p a b size k d → By (map_c a b size k) d
      go d (map_takes Y) = map_seen G Z I a b size k Y (Unit {0})
      go d (map_refuses j) = idle (Unit {0})
  seen (unmap_c a) = go (step_w G p (unmap_c a)) (unmap_view G p a)
    where
      go : (d : Done) → UnmapView G p a d → By (unmap_c a) d
      go d (unmap_gives b k Y) = unmap_seen G Z I a b k Y (Unit {0})
      go d (unmap_refuses j v) = idle (Unit {0})
  seen (map_range_c a b len k) = go (map_range_w G p a b len k) refl (map_range_view G p a b len k)
    where
      ms : List Mapping
      ms = pieces G a b len k

      -- the ledger after the range is that after its pieces
      gained : (t : ℕ) → (map_range_w G p a b len k).answer ≡ took t → (ledger_after G A (map map_of ms)).live ≡ gain ms live
      gained t e =
          ap (λ (B : Ledger). B.live) (sym (map_range_parts G Z I a b len k t e)) ∙ map_range_live G A a b len k
          ∙ ap (λ (r : Answer). cond (accepts r) (gain ms A.live) A.live) (sym (map_range_step G Z I a b len k).answer ∙ e) ∙ ap (gain ms) I.live_is

      go : (d : Done) → map_range_w G p a b len k ≡ d → MapRangeView G p a b len k d → By (map_range_c a b len k) d
      go d q (range_takes B) = record {
        each_write = λ z. absurd z;
        any_order = λ z. absurd z;
        overtaken = subst (λ (L : List Mapping). Overtaken G p live L (plan_each (map_piece G) (map_plan G) p ms)) (gained _ (ap (λ (x : Done). x.answer) q)) (maps_overtaken G Z ms I);
      }
      go d q (range_refuses j) = idle ⊥
  seen (unmap_range_c a len) = go (unmap_range_w G p a len) refl (unmap_range_view G p a len)
    where
      xs : List ℕ
      xs = pages_of G a len

      dropped : (m t : ℕ) → (unmap_range_w G p a len).answer ≡ cleared m t → (ledger_after G A (map unmap_c xs)).live ≡ drop_in a len live
      dropped m t e =
          ap (λ (B : Ledger). B.live) (sym (unmap_range_parts G Z I a len m t e)) ∙ unmap_range_live G A a len
          ∙ ap (λ (r : Answer). cond (accepts r) (drop_in a len A.live) A.live) (sym (unmap_range_step G Z I a len).answer ∙ e) ∙ ap (drop_in a len) I.live_is

      go : (d : Done) → unmap_range_w G p a len ≡ d → UnmapRangeView G p a len d → By (unmap_range_c a len) d
      go d q (range_clears B) = record {
        each_write = λ z. absurd z;
        any_order = λ z. absurd z;
        overtaken = subst (λ (L : List Mapping). Overtaken G p live L (plan_each (unmap_w G) (unmap_plan G) p xs)) (dropped _ _ (ap (λ (x : Done). x.answer) q))
            (unmaps_overtaken G Z xs I (unmaps_carried G p xs));
      }
      go d q (range_stays j) = idle ⊥
  seen (ask_c q) = idle_or (accepts (ask_w G p q)) (Unit {0})

  -- and outside the mapping concerned
  elsewhere : (c : Call) (x : ℕ) → concerns (own G Z I) c x ≡ false → told (live_by G live c (step_w G p c).answer) x ≡ told live x
  unfolding cover_of
  elsewhere (format_c levels area) x e = let z : ◌≡◌ {A = ℕ} 0 1 = cc in absurd (omega arith)
  elsewhere (add_c q m second rest) x e = refl
  elsewhere (map_c a b size k) x e = go (accepts (step_w G p (map_c a b size k)).answer)
    where
      go : (y : Bool) → told (cond y (mapping a b size k ∷ live) live) x ≡ told live x
      go true = rw e
      go false = refl
  elsewhere (unmap_c a) x e = go (step_w G p (unmap_c a)) (unmap_view G p a)
    where
      go : (d : Done) → UnmapView G p a d → told (cond (accepts d.answer) (drop_at a live) live) x ≡ told live x
      go d (unmap_gives b k Y) = unmap_outside G Z I a b k Y x e
      go d (unmap_refuses j v) = refl
  elsewhere (map_range_c a b len k) x e = go (map_range_w G p a b len k) (map_range_view G p a b len k)
    where
      go : (d : Done) → MapRangeView G p a b len k d → told (cond (accepts d.answer) (gain (pieces G a b len k) live) live) x ≡ told live x
      go d (range_takes B) =
          let F = range_fine G p.numbers.levels (area_of p.numbers) a b len k B.tests in
          gain_outside x (pieces G a b len k) live (λ m i.
          let (l, r) = tiles_inside (tiles G p.numbers.levels (area_of p.numbers) a b len k F) m i in
          outside_not a len x m e l r)
      go d (range_refuses j) = refl
  elsewhere (unmap_range_c a len) x e = go (accepts (unmap_range_w G p a len).answer)
    where
      go : (y : Bool) → told (cond y (drop_in a len live) live) x ≡ told live x
      go true = drop_outside a len x live e
      go false = refl
  elsewhere (ask_c q) x e = refl

  -- the ledger's mappings after the call
  after_is : (c : Call) → live_by G live c (step_w G p c).answer ≡ (step_l G (own G Z I) c).after.live
  after_is c = ap (live_by G live c) (step_alike G Z (own_sim G Z I) c).answer ∙ sym (live_by_lem G (own G Z I) c)

  seen_own : (c : Call) → Seen G (memory_of G p c) live (step_l G (own G Z I) c).after.live (writes_of G p c) (AtOnce c)
  seen_own c = subst (λ (L : List Mapping). Seen G (memory_of G p c) live L (writes_of G p c) (AtOnce c)) (after_is c) (seen c)

  -- by the ledger that the pool holds
  seen_by : (c : Call) → Seen G (memory_of G p c) A.live (step_l G A c).after.live (writes_of G p c) (AtOnce c)
  seen_by c = subst (λ (B : Ledger). Seen G (memory_of G p c) B.live (step_l G B c).after.live (writes_of G p c) (AtOnce c)) (sym (ledger_is G Z I)) (seen_own c)

  rest_by : (mem : ℕ → ℕ) → Stands G (area_of p.numbers) p.words mem → Reads G p.numbers (λ _. mem) A.live
  rest_by mem S = subst (λ (B : Ledger). Reads G p.numbers (λ _. mem) B.live) (sym (ledger_is G Z I)) (at_rest G Z I mem S)

  outside_by : (c : Call) (x : ℕ) → concerns A c x ≡ false → told (step_l G A c).after.live x ≡ told A.live x
  outside_by c = subst (λ (B : Ledger). (x : ℕ) → concerns B c x ≡ false → told (step_l G B c).after.live x ≡ told B.live x) (sym (ledger_is G Z I))
      (λ x e. ap (λ (L : List Mapping). told L x) (sym (after_is c)) ∙ elsewhere c x e)

-- ---- ranges, part by part

-- a part of a range: a map, or an unmap
abbrev Small : Call → Type 0
Small (format_c levels area) = ⊥
Small (add_c q m second rest) = ⊥
Small (map_c a b size k) = Unit {0}
Small (unmap_c a) = Unit {0}
Small (map_range_c a b len k) = ⊥
Small (unmap_range_c a len) = ⊥
Small (ask_c q) = ⊥

small_leaves : (G : Granule) (p : Pool) (c : Call) → Small c → Leaves G p (step_w G p c).after
small_leaves G p (format_c levels area) s = absurd s
small_leaves G p (add_c q m second rest) s = absurd s
small_leaves G p (map_c a b size k) s = map_leaves G p a b size k
small_leaves G p (unmap_c a) s = unmap_leaves G p a
small_leaves G p (map_range_c a b len k) s = absurd s
small_leaves G p (unmap_range_c a len) s = absurd s
small_leaves G p (ask_c q) s = absurd s

-- it writes to the pool, and changes what is read at once
small_here : (G : Granule) (p : Pool) (c : Call) → Small c → (memory_of G p c ≡ p) × AtOnce c
small_here G p (format_c levels area) s = absurd s
small_here G p (add_c q m second rest) s = absurd s
small_here G p (map_c a b size k) s = (refl, tt)
small_here G p (unmap_c a) s = (refl, tt)
small_here G p (map_range_c a b len k) s = absurd s
small_here G p (unmap_range_c a len) s = absurd s
small_here G p (ask_c q) s = absurd s

abbrev AllSmall : List Call → Type 0
AllSmall [] = Unit {0}
AllSmall (c ∷ cs) = Small c × AllSmall cs

pieces_small : (ms : List Mapping) → AllSmall (map map_of ms)
pieces_small [] = tt
pieces_small (m ∷ ms) = (tt, pieces_small ms)

pages_small : (xs : List ℕ) → AllSmall (map unmap_c xs)
pages_small [] = tt
pages_small (x ∷ xs) = (tt, pages_small xs)

module _ (G : Granule) (Z : Sane G) where
  -- after each write the first so many parts are read
  turns : (cs : List Call) → AllSmall cs → {p : Pool} {A : Ledger} → Sim G Z p A → InTurn G p (λ i. (ledger_after G A (take i cs)).live) (writes_through G p cs)
  turns [] s {p} {A} I = turn_none G p (λ i. (ledger_after G A (take i [])).live) (rest_by G Z I)
  turns (c ∷ cs) s {p} {A} I =
      let (h, o) = small_here G p c s.0 in
      let K = leaves_kept (small_leaves G p c s.0) in
      turn_more G p (step_w G p c).after (λ i. (ledger_after G A (take i (c ∷ cs))).live) (writes_of G p c) (writes_through G (step_w G p c).after cs) K.levels K.area
      (subst (λ (q : Pool). perform_all G (writes_of G p c) (memory q.words q.list) ≡ memory (step_w G p c).after.words (step_w G p c).after.list) h (writes_carried G p c))
      (subst (λ (q : Pool). Switch G q A.live (step_l G A c).after.live (writes_of G p c)) h ((seen_by G Z I c).each_write o))
      (turns cs s.1 (step_alike G Z I c).sim)

-- the writes of the pieces, and of the pages, are those of their calls
pieces_writes : (G : Granule) (ms : List Mapping) (p : Pool) → plan_each (map_piece G) (map_plan G) p ms ≡ writes_through G p (map map_of ms)
unfolding plan_each
pieces_writes G [] p = refl
pieces_writes G (m ∷ ms) p = ap (λ (ws : List Write). writes_of G p (map_of m) ++ ws) (pieces_writes G ms (map_piece G p m).after)

pages_writes : (G : Granule) (xs : List ℕ) (p : Pool) → plan_each (unmap_w G) (unmap_plan G) p xs ≡ writes_through G p (map unmap_c xs)
unfolding plan_each
pages_writes G [] p = refl
pages_writes G (x ∷ xs) p = ap (λ (ws : List Write). writes_of G p (unmap_c x) ++ ws) (pages_writes G xs (unmap_w G p x).after)

-- a refused range writes nothing
none_turn : (G : Granule) (p : Pool) (A : Ledger) (cs : List Call) (ws : List Write) → ws ≡ []
    → ((mem : ℕ → ℕ) → Stands G (area_of p.numbers) p.words mem → Reads G p.numbers (λ _. mem) A.live) → InTurn G p (λ i. (ledger_after G A (take i cs)).live) ws
none_turn G p A cs _ e f = subst (InTurn G p (λ i. (ledger_after G A (take i cs)).live)) (sym e) (turn_none G p (λ i. (ledger_after G A (take i cs)).live) f)

module _ (G : Granule) (Z : Sane G) {p : Pool} {A : Ledger} (I : Sim G Z p A) where
  -- a range that came to d
  abbrev Turns : Call → Done → Type 0
  Turns c d = InTurn G p (λ i. (ledger_after G A (take i (parts G c))).live) (cond (accepts d.answer) (plan G p c (tables_in d.answer)) [])

  abbrev Made : Call → Done → Type 0
  Made c d = accepts d.answer ≡ true → OfParts G p A c

  range_turns : (c : Call) → Ranged c → InTurn G p (λ i. (ledger_after G A (take i (parts G c))).live) (writes_of G p c)
  range_turns (format_c levels area) r = absurd r
  range_turns (add_c q m second rest) r = absurd r
  range_turns (map_c a b size k) r = absurd r
  range_turns (unmap_c a) r = absurd r
  range_turns (map_range_c a b len k) r = go (map_range_w G p a b len k) (map_range_view G p a b len k)
    where
      go : (d : Done) → MapRangeView G p a b len k d → Turns (map_range_c a b len k) d
      go d (range_takes B) =
          subst (InTurn G p (λ i. (ledger_after G A (take i (parts G (map_range_c a b len k)))).live)) (sym (pieces_writes G (pieces G a b len k) p))
          (turns G Z (map map_of (pieces G a b len k)) (pieces_small (pieces G a b len k)) I)
      go d (range_refuses j) = none_turn G p A (parts G (map_range_c a b len k)) [] refl (rest_by G Z I)
  range_turns (unmap_range_c a len) r = go (unmap_range_w G p a len) (unmap_range_view G p a len)
    where
      go : (d : Done) → UnmapRangeView G p a len d → Turns (unmap_range_c a len) d
      go d (range_clears B) =
          subst (InTurn G p (λ i. (ledger_after G A (take i (parts G (unmap_range_c a len)))).live)) (sym (pages_writes G (pages_of G a len) p))
          (turns G Z (map unmap_c (pages_of G a len)) (pages_small (pages_of G a len)) I)
      go d (range_stays j) = none_turn G p A (parts G (unmap_range_c a len)) [] refl (rest_by G Z I)
  range_turns (ask_c q) r = absurd r

  range_parts : (c : Call) → Ranged c → accepts (step_w G p c).answer ≡ true → OfParts G p A c
  range_parts (format_c levels area) r e = absurd r
  range_parts (add_c q m second rest) r e = absurd r
  range_parts (map_c a b size k) r e = absurd r
  range_parts (unmap_c a) r e = absurd r
  range_parts (map_range_c a b len k) r e = go (map_range_w G p a b len k) refl (map_range_view G p a b len k)
    where
      c : Call
      c = map_range_c a b len k

      go : (d : Done) → map_range_w G p a b len k ≡ d → MapRangeView G p a b len k d → OfParts G p A c
      go d q (range_takes B) = record {
        writes = ap (λ (x : Done). cond (accepts x.answer) (plan G p c (tables_in x.answer)) []) q ∙ pieces_writes G (pieces G a b len k) p;
        leaves = ap (λ (x : Done). x.after) q ∙ pieces_left G p (pieces G a b len k);
        enters = map_range_parts G Z I a b len k _ (ap (λ (x : Done). x.answer) q);
      }
      go d q (range_refuses j) = absurd (false≢true (sym (ap (λ (x : Done). accepts x.answer) q) ∙ e))
  range_parts (unmap_range_c a len) r e = go (unmap_range_w G p a len) refl (unmap_range_view G p a len)
    where
      c : Call
      c = unmap_range_c a len

      go : (d : Done) → unmap_range_w G p a len ≡ d → UnmapRangeView G p a len d → OfParts G p A c
      go d q (range_clears B) = record {
        writes = ap (λ (x : Done). cond (accepts x.answer) (plan G p c (tables_in x.answer)) []) q ∙ pages_writes G (pages_of G a len) p;
        leaves = ap (λ (x : Done). x.after) q ∙ pages_left G p (pages_of G a len);
        enters = unmap_range_parts G Z I a len _ _ (ap (λ (x : Done). x.answer) q);
      }
      go d q (range_stays j) = absurd (false≢true (sym (ap (λ (x : Done). accepts x.answer) q) ∙ e))
  range_parts (ask_c q) r e = absurd r

  pub machine : (c : Call) → Machine G p A c
  machine c = record {
    rest = rest_by G Z I;
    whole = writes_carried G p c;
    each_write = (seen_by G Z I c).each_write;
    any_order = (seen_by G Z I c).any_order;
    overtaken = (seen_by G Z I c).overtaken;
    by_parts = range_parts c;
    in_turn = range_turns c;
    outside = outside_by G Z I c;
  }

-- for every sane granule
pub promise : (G : Granule) → Sane G → Promise G
promise G Z p A H cs c = machine G Z (after_sim G Z cs (holds_sim G Z H)) c

-- so for the one that a number names: 4 KiB with three and four levels, 16 KiB with three
pub promise_of : (number : ℕ) → Promise (granule_of number)
promise_of number = promise (granule_of number) (granule_sane number)
