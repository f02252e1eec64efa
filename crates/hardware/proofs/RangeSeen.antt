-- A range on a pool that holds a ledger: what the hardware reads while its single writes are made. The trees of a sequence of maps only grow and those of a
-- sequence of unmaps only shrink, so that each address reads as before or as after, whatever part of the writes is seen; and write after write the
-- parts of a range are read one after the other.
use Rattle.std.specs.Prelude.{◌≡◌, refl, Bool, true, false, cond, ◌&&◌, ℕ, zero, suc, ◌+◌, ◌-◌, ◌≤◌, ◌<◌, ltb, leb, length, take}
use Rattle.std.proofs.Common.{ap, sym, ◌∙◌, subst, inl, arith, leb-true, ltb-true, le-leb, lt-ltb}
use Rattle.std.proofs.lemmas.Bool.{false≢true, lt-leb}
use mathlib.Core.List.Memᴰ.{head as here}
use mathlib.Core.List.Memᴰ.{tail as there}
use mathlib.Core.List.{List, [], ◌∷◌, ◌++◌, map, Memᴰ}
use Rattle.std.proofs.Math.Option
use Rattle.std.proofs.Math.Option.{some}
use Rattle.std.proofs.Math.Decide.{dec_le}
use Rattle.std.proofs.lemmas.List.{take-append-le}
use Rattle.path.specs.Geometry.{Granule, Sane}
use Rattle.path.specs.Areas.{Area, area_of, GoodArea}
use Rattle.path.specs.Numbers.{with_free}
use Rattle.path.specs.declared.Setup.{Setup}
use Rattle.model.specs.Answers as answers
use Rattle.model.specs.Answers.{accepts, tables_in, Pool, pool, Done}
use Rattle.model.specs.Writes.{Write, Memory, memory, perform_all}
use Rattle.model.specs.Calls.{unmap_w}
use Rattle.model.specs.Ledger.{Ledger, holds_address, cover_of}
use Rattle.model.proofs.LeftLaws.{perform_append}
use Rattle.model.proofs.LedgerLaws.{and-true, true_and}
use Rattle.model.specs.Ranges.{map_piece, left_by, inside, gain, drop_in}
use Rattle.model.proofs.RangeLaws.{inside_is}
use Rattle.tree.specs.Tree.{Ent, Rendered, Zeros}
use Rattle.tree.specs.Inv.{Mapping, Holds}
use Rattle.demand.specs.Shown.{shown}
use Rattle.demand.specs.Arm.{geo}
use Rattle.demand.specs.Memories.{read_at}
use Rattle.demand.specs.Sims.{Sim}
use Rattle.demand.specs.Queries.{al, X, R}
use Rattle.demand.specs.Steps.{map_step, unmap_step}
use Rattle.demand.specs.Demand3.{map_of, unmap_c, step_l, ledger_after}
use Rattle.hardware.specs.Machine.{says_of, told, stage2, Stands, Reads, map_plan, unmap_plan, plan_each, words_after, Switch, InTurn, Overtaken}
use Rattle.hardware.proofs.Trees.{within_same, within_both, within_words}
use Rattle.hardware.specs.Trees.{Within}
use Rattle.hardware.proofs.Plans.{each_append, clears_sound, grew_on, sound_among}
use Rattle.hardware.specs.Plans.{Each, Sound, Clears, Grew}
use Rattle.hardware.proofs.Views.{MapView, map_takes, map_refuses, map_view, UnmapView, unmap_gives, unmap_refuses, unmap_view}
use Rattle.hardware.proofs.Watch.{overtaken_up, overtaken_down}
use Rattle.hardware.proofs.MapSeen as maps
use Rattle.hardware.proofs.UnmapSeen as unmaps

-- ---- trees of one area

-- what the geometry of an area renders does not depend on how the area is known to be good
module _ (G : Granule) (Z : Sane G) (area : Area) (top : ℕ) (good good' : GoodArea G area) {W T : ℕ → ℕ → ℕ} {S : ℕ → ℕ → Ent} where
  as_rendered : Rendered (geo G Z area top good) W T S → Rendered (geo G Z area top good') W T S
  as_rendered R = record {
    root = R.root;
    root_at = R.root_at;
    bound = R.bound;
    only = R.only;
    good = R.good;
    leaf = R.leaf;
    up = R.up;
    range = R.range;
    inj = R.inj;
    words = R.words;
  }

-- the pool p with another free count and other memory
abbrev become : Pool → ℕ → List ℕ → List ℕ → Pool
become p f ws list = pool (with_free p.numbers f) ws p.cut list

module _ (G : Granule) (Z : Sane G) where
  -- ---- maps one after the other

  -- single writes ws that take the pool p to q, and its tree to a larger one, whose mappings are those of the ledger B
  record Up {p : Pool} {A : Ledger} (I : Sim G Z p A) (q : Pool) (B : Ledger) (ws : List Write) : Type 0 where
    T' : ℕ → ℕ → ℕ
    S' : ℕ → ℕ → Ent
    L' : List Mapping
    ren : Rendered (X G Z I) (read_at G q.words) T' S'
    holds : Holds S' L'
    live_is : map (shown G Z) L' ≡ B.live
    within : Within I.T I.S T' S'
    grew : Grew p.words q.words
    sound : Each (Sound p.words q.words) ws

  up_none : {p : Pool} {A : Ledger} (I : Sim G Z p A) → Up I p A []
  up_none I = record {
    T' = I.T;
    S' = I.S;
    L' = I.L;
    ren = R G Z I;
    holds = I.inv.holds;
    live_is = sym I.live_is;
    within = within_same;
    grew = λ i. inl refl;
    sound = tt;
  }

  -- one map, and those after it
  up_more : {p : Pool} {A : Ledger} (I : Sim G Z p A) (f : ℕ) (new list : List ℕ) (xs : List Write) {B C : Ledger} {r : Pool} {ys : List Write} {T₁ : ℕ → ℕ → ℕ} {S₁ : ℕ → ℕ → Ent}
      (J : Sim G Z (become p f new list) B) → Rendered (X G Z I) (read_at G new) T₁ S₁ → Within I.T I.S T₁ S₁ → Grew p.words new → Each (Sound p.words new) xs
      → Up J r C ys → Up I r C (xs ++ ys)
  up_more {p} I f new list xs {r = r} {ys} J R₁ Q₁ g s U = record {
    T' = U.T';
    S' = U.S';
    L' = U.L';
    ren = as_rendered G Z (area_of p.numbers) p.numbers.levels (al G Z J) (al G Z I) U.ren;
    holds = U.holds;
    live_is = U.live_is;
    within = within_both (within_both Q₁ (within_words R₁ (as_rendered G Z (area_of p.numbers) p.numbers.levels (al G Z J) (al G Z I) (R G Z J)))) U.within;
    grew = grew_on p.words new r.words g U.grew;
    sound = each_append (Sound p.words r.words) xs ys
        (sound_among p.words p.words new r.words (λ i. inl refl) g U.grew xs s)
        (sound_among p.words new r.words r.words g U.grew (λ i. inl refl) ys U.sound);
  }

  maps_up : (ms : List answers.Mapping) {p : Pool} {A : Ledger} (I : Sim G Z p A)
      → Up I (left_by (map_piece G) p ms) (ledger_after G A (map map_of ms)) (plan_each (map_piece G) (map_plan G) p ms)
  unfolding left_by plan_each
  maps_up [] I = up_none I
  maps_up (m ∷ ms) {p} {A} I =
      go (map_piece G p m) (map_view G p m.at m.frame m.size m.attributes) (map_step G Z I m.at m.frame m.size m.attributes).sim (λ q J. maps_up ms J)
    where
      B : Ledger
      B = (step_l G A (map_of m)).after

      go : (d : Done) → MapView G p m.at m.frame m.size m.attributes d → Sim G Z d.after B
          → ((q : Pool) (J : Sim G Z q B) → Up J (left_by (map_piece G) q ms) (ledger_after G B (map map_of ms)) (plan_each (map_piece G) (map_plan G) q ms))
          → Up I (left_by (map_piece G) d.after ms) (ledger_after G B (map map_of ms))
          (cond (accepts d.answer) (map_plan G p m (tables_in d.answer)) [] ++ plan_each (map_piece G) (map_plan G) d.after ms)
      go d (map_takes Y) J ih =
          up_more I d.after.numbers.free d.after.words d.after.list (map_plan G p m (tables_in d.answer)) J
          (maps.R' G Z I m.at m.frame m.size m.attributes Y) (maps.Q G Z I m.at m.frame m.size m.attributes Y)
          (maps.grew G Z I m.at m.frame m.size m.attributes Y) (maps.sound G Z I m.at m.frame m.size m.attributes Y) (ih d.after J)
      go d (map_refuses j) J ih = up_more I p.numbers.free p.words p.list [] J (R G Z I) within_same (λ i. inl refl) tt (ih p J)

  -- an address reads as before all of them or as after all of them, whatever part of their writes is seen
  pub maps_overtaken : (ms : List answers.Mapping) {p : Pool} {A : Ledger} (I : Sim G Z p A)
      → Overtaken G p (map (shown G Z) I.L) (ledger_after G A (map map_of ms)).live (plan_each (map_piece G) (map_plan G) p ms)
  maps_overtaken ms {p} {A} I =
      let U = maps_up ms I in
      subst (λ (L : List answers.Mapping). Overtaken G p (map (shown G Z) I.L) L (plan_each (map_piece G) (map_plan G) p ms)) U.live_is
      (overtaken_up G Z I (left_by (map_piece G) p ms).words U.ren U.holds (plan_each (map_piece G) (map_plan G) p ms) U.sound U.within)

  -- ---- unmaps one after the other

  -- single writes ws that take the pool p to q, and its tree to a smaller one, whose mappings are those of the ledger B
  record Down {p : Pool} {A : Ledger} (I : Sim G Z p A) (q : Pool) (B : Ledger) (ws : List Write) : Type 0 where
    T' : ℕ → ℕ → ℕ
    S' : ℕ → ℕ → Ent
    L' : List Mapping
    ren : Rendered (X G Z I) (read_at G q.words) T' S'
    holds : Holds S' L'
    live_is : map (shown G Z) L' ≡ B.live
    within : Within T' S' I.T I.S
    blank : Zeros (X G Z I) (read_at G q.words) T' S'
    clears : Each Clears ws

  down_none : {p : Pool} {A : Ledger} (I : Sim G Z p A) → Down I p A []
  down_none I = record {
    T' = I.T;
    S' = I.S;
    L' = I.L;
    ren = R G Z I;
    holds = I.inv.holds;
    live_is = sym I.live_is;
    within = within_same;
    blank = (I.inv.spare tt).zeros;
    clears = tt;
  }

  down_more : {p : Pool} {A : Ledger} (I : Sim G Z p A) (f : ℕ) (new list : List ℕ) (xs : List Write) {B C : Ledger} {r : Pool} {ys : List Write} {T₁ : ℕ → ℕ → ℕ} {S₁ : ℕ → ℕ → Ent}
      (J : Sim G Z (become p f new list) B) → Rendered (X G Z I) (read_at G new) T₁ S₁ → Within T₁ S₁ I.T I.S → Each Clears xs → Down J r C ys → Down I r C (xs ++ ys)
  down_more {p} I f new list xs {ys = ys} J R₁ Q₁ c U = record {
    T' = U.T';
    S' = U.S';
    L' = U.L';
    ren = as_rendered G Z (area_of p.numbers) p.numbers.levels (al G Z J) (al G Z I) U.ren;
    holds = U.holds;
    live_is = U.live_is;
    within = within_both (within_both U.within (within_words (as_rendered G Z (area_of p.numbers) p.numbers.levels (al G Z J) (al G Z I) (R G Z J)) R₁)) Q₁;
    blank = U.blank;
    clears = each_append Clears xs ys c U.clears;
  }

  unmaps_down : (xs : List ℕ) {p : Pool} {A : Ledger} (I : Sim G Z p A)
      → Down I (left_by (unmap_w G) p xs) (ledger_after G A (map unmap_c xs)) (plan_each (unmap_w G) (unmap_plan G) p xs)
  unfolding left_by plan_each
  unmaps_down [] I = down_none I
  unmaps_down (x ∷ xs) {p} {A} I = go (unmap_w G p x) (unmap_view G p x) (unmap_step G Z I x).sim (λ q J. unmaps_down xs J)
    where
      B : Ledger
      B = (step_l G A (unmap_c x)).after

      go : (d : Done) → UnmapView G p x d → Sim G Z d.after B
          → ((q : Pool) (J : Sim G Z q B) → Down J (left_by (unmap_w G) q xs) (ledger_after G B (map unmap_c xs)) (plan_each (unmap_w G) (unmap_plan G) q xs))
          → Down I (left_by (unmap_w G) d.after xs) (ledger_after G B (map unmap_c xs))
          (cond (accepts d.answer) (unmap_plan G p x (tables_in d.answer)) [] ++ plan_each (unmap_w G) (unmap_plan G) d.after xs)
      go d (unmap_gives b k Y) J ih =
          down_more I d.after.numbers.free d.after.words d.after.list (unmap_plan G p x (tables_in d.answer)) J (unmaps.R' G Z I x b k Y) (unmaps.Q G Z I x b k Y) (unmaps.all_clear G Z I x b k Y) (ih d.after J)
      go d (unmap_refuses j v) J ih = down_more I p.numbers.free p.words p.list [] J (R G Z I) within_same tt (ih p J)

  pub unmaps_overtaken : (xs : List ℕ) {p : Pool} {A : Ledger} (I : Sim G Z p A)
      → perform_all G (plan_each (unmap_w G) (unmap_plan G) p xs) (memory p.words p.list) ≡ memory (left_by (unmap_w G) p xs).words (left_by (unmap_w G) p xs).list
      → Overtaken G p (map (shown G Z) I.L) (ledger_after G A (map unmap_c xs)).live (plan_each (unmap_w G) (unmap_plan G) p xs)
  unmaps_overtaken xs {p} {A} I e =
      let U = unmaps_down xs I in
      let ws = plan_each (unmap_w G) (unmap_plan G) p xs in
      subst (λ (L : List answers.Mapping). Overtaken G p (map (shown G Z) I.L) L ws) U.live_is
      (overtaken_down G Z I (left_by (unmap_w G) p xs).words U.ren U.holds ws
      (subst (λ (z : List ℕ). Each (Sound p.words z) ws) (ap (λ (m : Memory). m.words) e) (clears_sound G p.words ws U.clears (memory p.words p.list)))
      U.within U.blank)

-- ---- write after write

-- the hardware is set up by levels and base alone
reads_by : (G : Granule) (s t : Setup) → s.levels ≡ t.levels → area_of s ≡ area_of t → (mem : ℕ → ℕ → ℕ) (L : List answers.Mapping) → Reads G s mem L → Reads G t mem L
reads_by G s t l r mem L f a = subst (λ (x : ℕ). stage2 G x t.base mem a ≡ told L a) l
    (subst (λ (y : Area). stage2 G s.levels y.base mem a ≡ told L a) r (f a))

-- no part
pub turn_none : (G : Granule) (p : Pool) (live : ℕ → List answers.Mapping) → ((mem : ℕ → ℕ) → Stands G (area_of p.numbers) p.words mem → Reads G p.numbers (λ _. mem) (live 0))
    → InTurn G p live []
unfolding perform_all
turn_none G p live f = record {
  done = λ j. 0;
  rises = λ i j l. omega arith;
  reads = λ j mem S. f mem (subst (λ (ws : List Write). Stands G (area_of p.numbers) (words_after G p ws) mem) (none_taken j) S);
}
  where
    none_taken : (j : ℕ) → take {A = Write} j [] ≡ []
    none_taken zero = refl
    none_taken (suc j) = refl

-- one part, which switches, and those after it
pub turn_more : (G : Granule) (p q : Pool) (live : ℕ → List answers.Mapping) (xs ys : List Write) → q.numbers.levels ≡ p.numbers.levels → area_of q.numbers ≡ area_of p.numbers
    → perform_all G xs (memory p.words p.list) ≡ memory q.words q.list → Switch G p (live 0) (live 1) xs → InTurn G q (λ i. live (suc i)) ys
    → InTurn G p live (xs ++ ys)
turn_more G p q live xs ys levels area carried S T = record {
  done = parts_done;
  rises = λ i j l. rises i j l (dec_le i n) (dec_le j n) (dec_le i S.at) (dec_le j S.at);
  reads = λ j mem s. at j mem s (dec_le j n) (dec_le j S.at);
}
  where
    n : ℕ
    n = length xs

    parts_done : ℕ → ℕ
    parts_done j = cond (leb j n) (cond (leb j S.at) 0 1) (suc (T.done (j - n)))

    none_done : (j : ℕ) → j ≤ n → j ≤ S.at → parts_done j ≡ 0
    none_done j a b = rw (le-leb j n a, le-leb j S.at b) refl

    one_done : (j : ℕ) → j ≤ n → S.at < j → parts_done j ≡ 1
    one_done j a b = rw (le-leb j n a, lt-leb j S.at b) refl

    more_done : (j : ℕ) → n < j → parts_done j ≡ suc (T.done (j - n))
    more_done j a = rw (lt-leb j n a) refl

    rises : (i j : ℕ) → i ≤ j → Dec (i ≤ n) → Dec (j ≤ n) → Dec (i ≤ S.at) → Dec (j ≤ S.at) → parts_done i ≤ parts_done j
    rises i j l (yes a) b (yes c) d = omega (arith, none_done i a c)
    rises i j l (yes a) (yes b) (no c) (yes d) = absurd (omega arith)
    rises i j l (yes a) (yes b) (no c) (no d) = omega (arith, one_done i a (omega arith), one_done j b (omega arith))
    rises i j l (yes a) (no b) (no c) d = omega (arith, one_done i a (omega arith), more_done j (omega arith))
    rises i j l (no a) (yes b) c d = absurd (omega arith)
    rises i j l (no a) (no b) c d = omega (arith, more_done i (omega arith), more_done j (omega arith), T.rises (i - n) (j - n) (omega arith))

    Shows : List Write → (ℕ → ℕ) → Type 0
    Shows ws mem = Stands G (area_of p.numbers) (words_after G p ws) mem

    first : (j : ℕ) → j ≤ n → take j (xs ++ ys) ≡ take j xs
    first j l = take-append-le j xs ys l

    later : (j : ℕ) → n < j → take j (xs ++ ys) ≡ xs ++ take (j - n) ys
    later j l = go xs j (omega arith)
      where
        go : (zs : List Write) (j : ℕ) → length zs ≤ j → take j (zs ++ ys) ≡ zs ++ take (j - length zs) ys
        go [] j l =
            let e : j ≡ j - 0 = omega arith in
            ap (λ (i : ℕ). take i ys) e
        go (z ∷ zs) zero l = absurd (omega arith)
        go (z ∷ zs) (suc j) l =
            let e : j - length zs ≡ suc j - suc (length zs) = omega arith in
            ap (λ (w : List Write). z ∷ w) (go zs j (omega arith) ∙ ap (λ (i : ℕ). zs ++ take i ys) e)

    through : (zs : List Write) → words_after G p (xs ++ zs) ≡ words_after G q zs
    through zs = ap (λ (m : Memory). m.words) (perform_append G xs zs (memory p.words p.list) ∙ ap (perform_all G zs) carried)

    at : (j : ℕ) (mem : ℕ → ℕ) → Shows (take j (xs ++ ys)) mem → Dec (j ≤ n) → Dec (j ≤ S.at) → Reads G p.numbers (λ _. mem) (live (parts_done j))
    at j mem s (yes a) (yes b) =
        subst (λ (i : ℕ). Reads G p.numbers (λ _. mem) (live i)) (sym (none_done j a b)) (S.old j b mem (subst (λ (ws : List Write). Shows ws mem) (first j a) s))
    at j mem s (yes a) (no b) =
        subst (λ (i : ℕ). Reads G p.numbers (λ _. mem) (live i)) (sym (one_done j a (omega arith))) (S.new j (omega arith) mem (subst (λ (ws : List Write). Shows ws mem) (first j a) s))
    at j mem s (no a) b =
        subst (λ (i : ℕ). Reads G p.numbers (λ _. mem) (live i)) (sym (more_done j (omega arith)))
        (reads_by G q.numbers p.numbers levels area (λ _. mem) (live (suc (T.done (j - n))))
        (T.reads (j - n) mem
        (subst (λ (r : Area). Stands G r (words_after G q (take (j - n) ys)) mem) (sym area)
        (subst (λ (ws : List ℕ). Stands G (area_of p.numbers) ws mem) (through (take (j - n) ys)) (subst (λ (ws : List Write). Shows ws mem) (later j (omega arith)) s)))))

-- ---- outside a range

-- an address outside a range is in no mapping that lies inside it
pub outside_not : (a len x : ℕ) (m : answers.Mapping) → (leb a x && ltb x (a + len)) ≡ false → a ≤ m.at → m.at + m.size ≤ a + len → holds_address x m ≡ false
outside_not a len x m e l r = go (holds_address x m) refl
  where
    go : (y : Bool) → holds_address x m ≡ y → y ≡ false
    go false q = refl
    go true q =
        let (u, v) = and-true (leb m.at x) (ltb x (m.at + m.size)) q in
        absurd (false≢true (sym e ∙ true_and (le-leb a x (omega (arith, leb-true m.at x u))) (lt-ltb x (a + len) (omega (arith, ltb-true x (m.at + m.size) v)))))

pub gain_outside : (x : ℕ) (ms L : List answers.Mapping) → ((m : answers.Mapping) → Memᴰ m ms → holds_address x m ≡ false) → told (gain ms L) x ≡ told L x
unfolding gain cover_of
gain_outside x [] L f = refl
gain_outside x (m ∷ ms) L f = gain_outside x ms (m ∷ L) (λ q i. f q (there i)) ∙ rw (f m (here refl)) refl

-- one mapping more
told_more : (x : ℕ) (m : answers.Mapping) (K L : List answers.Mapping) → told K x ≡ told L x → told (m ∷ K) x ≡ told (m ∷ L) x
unfolding cover_of
told_more x m K L e = go (holds_address x m)
  where
    go : (y : Bool) → Option.map (says_of x) (cond y (some m) (cover_of x K)) ≡ Option.map (says_of x) (cond y (some m) (cover_of x L))
    go true = refl
    go false = e

pub drop_outside : (a len x : ℕ) (L : List answers.Mapping) → (leb a x && ltb x (a + len)) ≡ false → told (drop_in a len L) x ≡ told L x
unfolding drop_in cover_of
drop_outside a len x [] e = refl
drop_outside a len x (m ∷ L) e = go (inside a len m.at m.size) refl (drop_outside a len x L e)
  where
    go : (y : Bool) → inside a len m.at m.size ≡ y → told (drop_in a len L) x ≡ told L x → told (cond y (drop_in a len L) (m ∷ drop_in a len L)) x ≡ told (m ∷ L) x
    go true q ih =
        let (l, r) = inside_is a len m.at m.size q in
        ih ∙ rw (outside_not a len x m e l r) refl
    go false q ih = told_more x m (drop_in a len L) L ih
