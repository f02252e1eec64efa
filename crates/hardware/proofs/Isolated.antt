-- The promise of Isolation is kept: what a walk comes to, in the middle of a call too, is a byte of a frame of the ledger before the call or after it.
use Rattle.std.specs.Prelude.{◌≡◌, ◌⊎◌, Bool, ℕ, zero, suc, ◌+◌, ◌-◌, ◌*◌, ltb, leb, eqb, take}
use Rattle.std.proofs.Math.Path.{refl, subst}
use Rattle.std.proofs.Common.{ap, sym, ◌∙◌, inl, inr, ⊎_elim, arith, leb-true, ltb-true}
use Rattle.std.proofs.Math.Bool.{true, false, cond, and-eq-true_iff}
use mathlib.Core.List.Memᴰ
use mathlib.Core.List.Memᴰ.{head as here}
use mathlib.Core.List.Memᴰ.{tail as there}
use mathlib.Core.List.{List, [], ◌∷◌, Memᴰ}
use Rattle.std.proofs.Math.Option.{Option, some, none, map}
use Rattle.std.proofs.Math.ListN.{length, replicate}
use Rattle.path.specs.Geometry.{Granule, Sane, granule_of, entries}
use Rattle.path.specs.Areas.{Area, area_of, total, InArea}
use Rattle.path.specs.Laws.{granule_sane}
use Rattle.path.specs.Numbers.{good_numbers}
use Rattle.path.specs.declared.Setup.{Setup}
use Rattle.model.specs.Answers.{Mapping, mapping, formatted, took, gave, cleared, refused, accepts, Pool}
use Rattle.model.specs.Writes.{Write, perform_all}
use Rattle.model.specs.Calls.{map_tests, unmap_tests}
use Rattle.model.specs.Adds.{lent}
use Rattle.model.specs.Ranges.{map_range_tests, unmap_range_tests, pieces, gain, gain_of, map_range_l, any_cut, drop_in, clear_of, unmap_range_l}
use Rattle.model.specs.Sound.{OffTables}
use Rattle.model.specs.Ledger.{Ledger, ledger, with_live, any_overlap, holds_address, cover_of, drop_at, tables_needed, tables_lacking, free_tables, Entered, entered, format_l, map_l, unmap_of, unmap_l}
use Rattle.demand.specs.Holds.{Holds}
use Rattle.demand.specs.Sims.{holds_sim, sim_holds}
use Rattle.demand.specs.Theorem.{after_sim, step_holds}
use Rattle.demand.specs.Demand3.{Call, format_c, add_c, map_c, unmap_c, map_range_c, unmap_range_c, ask_c, audit_c, step_w, step_l, pool_after, ledger_after}
use Rattle.hardware.specs.Machine.{Translation, says_of, told, stage2, Stands, writes_of, memory_of, words_after, visible}
use Rattle.hardware.proofs.Theorem.{promise}
use Rattle.hardware.proofs.Views.{add_live}
use Rattle.hardware.specs.Isolation.{KeepsTables, Reaches, During, OffOwn, OffLater, Sealed, Held, InFrame, OffBoth, OffOther, Isolation}

-- ---- what a ledger says is a byte of a frame

-- a mapping of a list, whose frame has the byte
abbrev Has : List Mapping → ℕ → Type 0
Has L x = (m : Mapping) × Memᴰ m L × InFrame m x

told_frame : (L : List Mapping) (a : ℕ) (t : Translation) → told L a ≡ some t → Has L t.address
unfolding cover_of
told_frame [] a t e = absurd (let z : ◌≡◌ {A = ℕ} 0 1 = cc in omega arith)
told_frame (m ∷ L) a t e = go (holds_address a m) refl e (told_frame L a t)
  where
    address : some (says_of a m) ≡ some t → t.address ≡ m.frame + (a - m.at)
    address q = let z : says_of a m ≡ t = cc in sym (ap (λ (u : Translation). u.address) z)

    go : (y : Bool) → holds_address a m ≡ y → map (says_of a) (cond y (some m) (cover_of a L)) ≡ some t
        → (told L a ≡ some t → Has L t.address) → Has (m ∷ L) t.address
    go true h q ih =
        let (u, v) = (and-eq-true_iff (leb m.at a) (ltb a (m.at + m.size))).0 h in
        let l = leb-true m.at a u in
        let r = ltb-true a (m.at + m.size) v in
        (m, here refl, (omega (arith, address q), omega (arith, address q)))
    go false h q ih = let (k, i, f) = ih q in (k, there i, f)

-- the first j writes are a part of them
first_visible : (j : ℕ) (ws : List Write) → visible (replicate j true) ws ≡ take j ws
first_visible zero ws = refl
first_visible (suc j) [] = refl
first_visible (suc j) (w ∷ ws) = ap (λ (l : List Write). w ∷ l) (first_visible j ws)

-- ---- the memory that a call writes to has the pool's numbers

memory_numbers : (G : Granule) (p : Pool) (c : Call) → (memory_of G p c).numbers ≡ p.numbers
memory_numbers G p (format_c levels area) = refl
memory_numbers G p (add_c q n second rest) = go (accepts (step_w G p (add_c q n second rest)).answer)
  where
    go : (y : Bool) → (cond y (lent p second rest) p).numbers ≡ p.numbers
    go true = refl
    go false = refl
memory_numbers G p (map_c a b size k) = refl
memory_numbers G p (unmap_c a) = refl
memory_numbers G p (map_range_c a b len k) = refl
memory_numbers G p (unmap_range_c a len) = refl
memory_numbers G p (ask_c q) = refl

-- ---- the ledger after a call has the same area, but for format's and an add's

same_area : (r : Area) (b : Bool) (x y : Entered) → x.after.area ≡ r → y.after.area ≡ r → (cond b x y).after.area ≡ r
same_area r true x y p q = p
same_area r false x y p q = q

module _ (G : Granule) (A : Ledger) where
  map_area : (a b size k : ℕ) → (map_l G A a b size k).after.area ≡ A.area
  unfolding map_l
  map_area a b size k =
      let need = tables_lacking G A.levels A.live (mapping a b size k) in
      let no = map_tests G A.levels A.area a b size k in
      let taken = entered (took need) (with_live A (mapping a b size k ∷ A.live)) in
      let rest = cond (ltb (free_tables G A) need) (entered (refused 7) A) taken in
      same_area A.area (eqb no 0) (cond (any_overlap a size A.live) (entered (refused 6) A) rest) (entered (refused no) A)
      (same_area A.area (any_overlap a size A.live) (entered (refused 6) A) rest refl
      (same_area A.area (ltb (free_tables G A) need) (entered (refused 7) A) taken refl refl))
      refl

  unmap_area : (a : ℕ) → (unmap_l G A a).after.area ≡ A.area
  unfolding unmap_l unmap_of
  unmap_area a =
      let no = unmap_tests G A.levels a in
      same_area A.area (eqb no 0) (unmap_of G A a (cover_of a A.live)) (entered (refused no) A) (on (cover_of a A.live)) refl
    where
      on : (m : Option Mapping) → (unmap_of G A a m).after.area ≡ A.area
      on none = refl
      on (some m) =
          let B = with_live A (drop_at a A.live) in
          same_area A.area (eqb m.at a) (entered (gave m.frame m.size m.attributes (free_tables G B - free_tables G A)) B) (entered (refused 10) A) refl refl

  map_range_area : (a b len k : ℕ) → (map_range_l G A a b len k).after.area ≡ A.area
  unfolding map_range_l gain_of
  map_range_area a b len k =
      let no = map_range_tests G A.levels A.area a b len k in
      let L = gain (pieces G a b len k) A.live in
      let need = tables_needed G A.levels L - tables_needed G A.levels A.live in
      let taken = entered (took need) (with_live A L) in
      let rest = cond (ltb (free_tables G A) need) (entered (refused 7) A) taken in
      same_area A.area (eqb no 0) (cond (any_overlap a len A.live) (entered (refused 6) A) rest) (entered (refused no) A)
      (same_area A.area (any_overlap a len A.live) (entered (refused 6) A) rest refl
      (same_area A.area (ltb (free_tables G A) need) (entered (refused 7) A) taken refl refl))
      refl

  unmap_range_area : (a len : ℕ) → (unmap_range_l G A a len).after.area ≡ A.area
  unfolding unmap_range_l clear_of
  unmap_range_area a len =
      let no = unmap_range_tests G A.levels a len in
      let L = drop_in a len A.live in
      let gone = entered (cleared (length A.live - length L) (free_tables G (with_live A L) - free_tables G A)) (with_live A L) in
      same_area A.area (eqb no 0) (cond (any_cut a len A.live) (entered (refused 10) A) gone) (entered (refused no) A)
      (same_area A.area (any_cut a len A.live) (entered (refused 10) A) gone refl refl)
      refl

module _ (G : Granule) (Z : Sane G) {p : Pool} {A : Ledger} (H : Holds G p A) where
  -- no frame of the ledger shares a byte with the tables
  off_tables : (m : Mapping) → Memᴰ m A.live → OffTables G A.area m
  off_tables m i = subst (λ (r : Area). OffTables G r m) H.area_is (H.sound.outside m (H.live m i))

-- nor of the one after a call
module _ (G : Granule) (Z : Sane G) {p : Pool} {A : Ledger} (H : Holds G p A) where
  next_off : (c : Call) → (step_l G A c).after.area ≡ A.area → (m : Mapping) → Memᴰ m (step_l G A c).after.live → OffTables G A.area m
  next_off c e m i = subst (λ (r : Area). OffTables G r m) e (off_tables G Z (step_holds G Z H c).1 m i)

  after_off : (c : Call) (m : Mapping) → Memᴰ m (step_l G A c).after.live → OffTables G A.area m
  unfolding format_l
  after_off (format_c levels area) m i = go (good_numbers G levels area (entries G * A.area.tables) (entries G * total A.area) (total A.area)) i
    where
      go : (y : Bool) → Memᴰ m (cond y (entered formatted (ledger levels area [])) (entered (refused 1) A)).after.live → OffTables G A.area m
      go true i = absurd (Memᴰ.not-nil i)
      go false i = off_tables G Z H m i
  after_off (add_c q n second rest) m i =
      off_tables G Z H m (subst (λ (L : List Mapping). Memᴰ m L) (add_live G A q n (length second) (free_tables G A + length rest)) i)
  after_off (map_c a b size k) m i = next_off (map_c a b size k) (map_area G A a b size k) m i
  after_off (unmap_c a) m i = next_off (unmap_c a) (unmap_area G A a) m i
  after_off (map_range_c a b len k) m i = next_off (map_range_c a b len k) (map_range_area G A a b len k) m i
  after_off (unmap_range_c a len) m i = next_off (unmap_range_c a len) (unmap_range_area G A a len) m i
  after_off (ask_c q) m i = off_tables G Z H m i

  held_off : (c : Call) (m : Mapping) → Held G A c m → OffTables G A.area m
  held_off c m = ⊎_elim (off_tables G Z H m) (after_off c m)

  -- and of the tables after a call, but for format's
  later_off : (c : Call) → KeepsTables c → (m : Mapping) → Memᴰ m A.live → OffTables G (step_l G A c).after.area m
  later_off (format_c levels area) o m i = absurd o
  later_off (add_c q n second rest) o m i =
      off_tables G Z (step_holds G Z H (add_c q n second rest)).1 m
      (subst (λ (L : List Mapping). Memᴰ m L) (sym (add_live G A q n (length second) (free_tables G A + length rest))) i)
  later_off (map_c a b size k) o m i = subst (λ (r : Area). OffTables G r m) (sym (map_area G A a b size k)) (off_tables G Z H m i)
  later_off (unmap_c a) o m i = subst (λ (r : Area). OffTables G r m) (sym (unmap_area G A a)) (off_tables G Z H m i)
  later_off (map_range_c a b len k) o m i = subst (λ (r : Area). OffTables G r m) (sym (map_range_area G A a b len k)) (off_tables G Z H m i)
  later_off (unmap_range_c a len) o m i = subst (λ (r : Area). OffTables G r m) (sym (unmap_range_area G A a len)) (off_tables G Z H m i)
  later_off (ask_c q) o m i = off_tables G Z H m i

  held_later : (c : Call) → KeepsTables c → (m : Mapping) → Held G A c m → OffTables G (step_l G A c).after.area m
  held_later c o m = ⊎_elim (later_off c o m) (off_tables G Z (step_holds G Z H c).1 m)

  -- ---- what the guest reaches in the middle of a call

  -- a byte of a mapping that is held is no table's of an area, of any granule, that its frame is off
  not_inside : (c : Call) (T : Granule) {r s : Area} (x : ℕ) → s ≡ r → ((m : Mapping) → Held G A c m → OffTables T r m)
      → (m : Mapping) × Held G A c m × InFrame m x → ¬ InArea T s x
  not_inside c T x e off (m, h, f) i = off m h (record { byte = x; starts = f.0; ends = f.1; inside = subst (λ (r : Area). InArea T r x) e i })

  module _ (c : Call) {mem : ℕ → ℕ → ℕ} (D : During G p c mem) where
    -- a walk under way, by the numbers of the pool
    told_either : (a : ℕ) → let t = stage2 G p.numbers.levels p.numbers.base mem a in (t ≡ told A.live a) ⊎ (t ≡ told (step_l G A c).after.live a)
    told_either = subst
        (λ (s : Setup). ((h : ℕ) → Stands G (area_of s) (words_after G (memory_of G p c) (visible (D.seen h) (writes_of G p c))) (mem h))
        → (a : ℕ) → let t = stage2 G s.levels s.base mem a in (t ≡ told A.live a) ⊎ (t ≡ told (step_l G A c).after.live a))
        (memory_numbers G p c)
        ((promise G Z p A H [] c).overtaken D.seen mem)
        D.shows

    reached : (x : ℕ) → Reaches G p.numbers mem x → (m : Mapping) × Held G A c m × InFrame m x
    reached x R = subst (λ (y : ℕ). (m : Mapping) × Held G A c m × InFrame m y) R.to
        (⊎_elim
        (λ e. let (m, i, f) = told_frame A.live R.address R.translation (sym e ∙ R.translates) in (m, inl i, f))
        (λ e. let (m, i, f) = told_frame (step_l G A c).after.live R.address R.translation (sym e ∙ R.translates) in (m, inr i, f))
        (told_either R.address))

    off_own : OffOwn G p mem
    off_own x R = not_inside c G x H.area_is (held_off c) (reached x R)

    off_later : KeepsTables c → OffLater G p c mem
    off_later o x R = not_inside c G x (step_holds G Z H c).1.area_is (held_later c o) (reached x R)

  seals : (c : Call) → Sealed G p c
  unfolding perform_all
  seals c = record {
    rest = λ mem S. off_own audit_c (record { seen = λ _. []; shows = λ _. S });
    each_write = λ j mem S. off_own c (record {
      seen = λ _. replicate j true;
      shows = λ _. subst (λ (ws : List Write). Stands G (area_of p.numbers) (words_after G (memory_of G p c) ws) mem) (sym (first_visible j (writes_of G p c))) S;
    });
    during = λ mem D. off_own c D;
    later = λ o mem D. off_later c D o;
  }

-- ---- two guests

-- what one reaches is none of the other's
module _ {G K : Granule} (Y : Sane G) (Z : Sane K) {p q : Pool} {A B : Ledger} (H : Holds G p A) (J : Holds K q B) (c d : Call) where
  off_other : ((m : Mapping) → Held G A c m → OffBoth K B d m)
      → ((m k : Mapping) → Held G A c m → Held K B d k → (x : ℕ) → InFrame m x → ¬ InFrame k x)
      → (mem : ℕ → ℕ → ℕ) → During G p c mem → OffOther G p K q B d mem
  off_other tables frames mem D = record {
    tables = λ x R. not_inside G Y H c K x J.area_is (λ m h. (tables m h).0) (reached G Y H c D x R);
    later_tables = λ x R. not_inside G Y H c K x (step_holds K Z J d).1.area_is (λ m h. (tables m h).1) (reached G Y H c D x R);
    frames = λ x R k i. let (m, h, f) = reached G Y H c D x R in frames m k h i x f;
  }

-- ---- the promise

after : {G : Granule} → Sane G → (cs : List Call) {p : Pool} {A : Ledger} → Holds G p A → Holds G (pool_after G p cs) (ledger_after G A cs)
after {G} Z cs H = sim_holds G Z (after_sim G Z cs (holds_sim G Z H))

pub isolation : (G K : Granule) → Sane G → Sane K → Isolation G K
isolation G K Y Z = record {
  own_tables = λ p A H cs c. seals G Y (after Y cs H) c;
  two_guests = λ p q A B H J cs ds c d apart. record {
    first = off_other Y Z (after Y cs H) (after Z ds J) c d apart.first_tables apart.frames;
    second = off_other Z Y (after Z ds J) (after Y cs H) d c apart.second_tables (λ m k i j x f g. apart.frames k m j i x g f);
  };
}

-- for the granules that two numbers name: 4 KiB with three and four levels, 16 KiB with three, or one of each
pub isolation_of : (number other : ℕ) → Isolation (granule_of number) (granule_of other)
isolation_of number other = isolation (granule_of number) (granule_of other) (granule_sane number) (granule_sane other)
