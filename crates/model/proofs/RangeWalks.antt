-- Laws of walks that ranges need, of any words, damaged ones too. A walk comes down from table to table and then stops; what it reads on the way, and
-- nothing else, decides it. So walks share the tables down to where their addresses part, and a walk changes only where a word on its way does.
use Prim.Native.Nat.{ℕ, zero, suc, ◌+◌, ◌-◌, ◌*◌, ◌/◌, ◌≤◌, ◌<◌}
use Rattle.std.specs.Prelude.{◌≡◌, ◌≢◌, Bool, true, false, cond, leb, length, get_or}
use Rattle.std.proofs.Math.Path.{refl, ap}
use Rattle.std.proofs.Common.{sym, ◌∙◌, subst, length-set, get_or-set_same, get_or-set_other}
use mathlib.Core.List.{List, Memᴰ}
use native.Mathlib.Omega.{arith}
use Rattle.std.proofs.Math.Decide.{ℕ_discrete}
use Rattle.std.proofs.Math.ListN.{set}
use borrow.Author.Tests.{leb-true, leb-false, le-leb, lt-leb}
use Rattle.laws.specs.Lists.{among}
use Rattle.laws.specs.ListLaws.{not_among, at_mem}
use Rattle.path.specs.Geometry.{Granule, entries, size_at, Sane}
use Rattle.path.specs.Areas.{Area, area_of, total}
use Rattle.path.specs.Paths.{path_of}
use Rattle.path.specs.PathLaws.{path_of_at, region_index}
use Rattle.path.specs.PrefixLaws.{region_indices}
use Rattle.entry.specs.Words.{entry_at}
use Rattle.entry.proofs.Laws.{entry_zero, table_only}
use Rattle.entry.specs.declared.Entry.{Entry}
use Rattle.entry.specs.declared.Entry.TheVariants.{Empty, Table, Frame, Damaged}
use Rattle.model.specs.declared.Walked.{Walked}
use Rattle.model.specs.Answers.{Pool}
use Rattle.model.specs.Walk.{slot, at_height, no_way, stop, onward, walk_from}
use Rattle.model.specs.Calls.{walk_to}
use Rattle.model.specs.Sound.{word_at}
use Rattle.model.proofs.DescentLaws.{clash}
use Rattle.model.specs.RangeWalks.{Came, Stopped, Through, further, read_by, there}

module _ {G : Granule} {area : Area} {ws : List ℕ} {target : ℕ} {path : List ℕ} where
  pub came_low : {h : ℕ} {way : List ℕ} {t e : ℕ} {seen : List ℕ} {u : ℕ} → Came G area ws target path h way t e seen u → e ≤ h
  came_low there = omega arith
  came_low (further r l n C) = omega (arith, came_low C)

  -- it goes on above its target alone
  pub came_target : {h : ℕ} {way : List ℕ} {t e : ℕ} {seen : List ℕ} {u : ℕ} → Came G area ws target path h way t e seen u → target ≤ h → target ≤ e
  came_target there l = l
  came_target (further r l n C) m = came_target C l

  pub came_long : {h : ℕ} {way : List ℕ} {t e : ℕ} {seen : List ℕ} {u : ℕ} → Came G area ws target path h way t e seen u → length seen ≡ length way
  came_long there = refl
  came_long {way = way} {t} (further {h = h} r l n C) = came_long C ∙ length-set way (3 - suc h) t

  -- the places above stay
  pub came_kept : {h : ℕ} {way : List ℕ} {t e : ℕ} {seen : List ℕ} {u : ℕ} → Came G area ws target path h way t e seen u
      → (j : ℕ) → h < j → j < 4 → at_height seen j ≡ at_height way j
  came_kept there j l m = refl
  came_kept {way = way} {t} (further {h = h} r i n C) j l m = came_kept C j (omega arith) m ∙ get_or-set_other way (3 - suc h) (3 - j) t 0 (λ z. omega arith)

  -- the first table has its place
  pub came_own : {h : ℕ} {way : List ℕ} {t e : ℕ} {seen : List ℕ} {u : ℕ} → Came G area ws target path h way t e seen u
      → h < 4 → length way ≡ 4 → e < h → at_height seen h ≡ t
  came_own there l four m = absurd (omega arith)
  came_own {way = way} {t} (further {h = h} r i n C) l four m = came_kept C (suc h) (omega arith) l ∙ get_or-set_same way (3 - suc h) t 0 (omega (arith, four))

  -- two ways, one after the other
  pub came_on : {h : ℕ} {way : List ℕ} {t d : ℕ} {mid : List ℕ} {v e : ℕ} {seen : List ℕ} {u : ℕ}
      → Came G area ws target path h way t d mid v → Came G area ws target path d mid v e seen u → Came G area ws target path h way t e seen u
  came_on there D = D
  came_on (further r l n C) D = further r l n (came_on C D)

  -- the walk is the rest of it
  pub came_walk : {h : ℕ} {way : List ℕ} {t e : ℕ} {seen : List ℕ} {u : ℕ} → Came G area ws target path h way t e seen u
      → walk_from G ws area target path h way t ≡ walk_from G ws area target path e seen u
  unfolding walk_from onward
  came_walk there = refl
  came_walk (further {h = h} r l n C) = rw (r, lt-leb (suc h) target (omega arith), n) (came_walk C)

module _ {G : Granule} {area : Area} {ws : List ℕ} {target : ℕ} {path : List ℕ} where
  pub came_through : {h : ℕ} {way : List ℕ} {t e : ℕ} {seen : List ℕ} {u : ℕ} → Came G area ws target path h way t e seen u
      → (d : ℕ) → e ≤ d → d ≤ h → Through G area ws target path h way t d e seen u
  came_through {h} {way} {t} there d l m = record {
    mid = way;
    table = t;
    above = subst (λ (x : ℕ). Came G area ws target path h way t x way t) (omega arith) there;
    below = subst (λ (x : ℕ). Came G area ws target path x way t h way t) (omega arith) there;
  }
  came_through {way = way} {t} {e} {seen} {u} (further {h = h} {c = c} r i n C) d l m = go (ℕ_discrete d (suc h)) (λ a. came_through C d l a)
    where
      go : Dec (d ≡ suc h) → (d ≤ h → Through G area ws target path h (set way (3 - suc h) t) c d e seen u) → Through G area ws target path (suc h) way t d e seen u
      go (yes z) ih = record {
        mid = way;
        table = t;
        above = subst (λ (x : ℕ). Came G area ws target path (suc h) way t x way t) (sym z) there;
        below = subst (λ (x : ℕ). Came G area ws target path x way t e seen u) (sym z) (further r i n C);
      }
      go (no z) ih = let T = ih (omega arith) in record { mid = T.mid; table = T.table; above = further r i n T.above; below = T.below }

  -- other words, another path and another target, which say the same on the way: the same way
  pub came_moved : {h : ℕ} {way : List ℕ} {t e : ℕ} {seen : List ℕ} {u : ℕ} → Came G area ws target path h way t e seen u
      → (new : List ℕ) (other : ℕ) (path' : List ℕ) → h < 4 → length way ≡ 4 → other ≤ e
      → ((j : ℕ) → e < j → j ≤ h → read_by G area new path' j (at_height seen j) ≡ read_by G area ws path j (at_height seen j))
      → Came G area new other path' h way t e seen u
  came_moved there new other path' l four o f = there
  came_moved {way = way} {t} {e} {seen} (further {h = h} {c = c} r i n C) new other path' l four o f =
      let own : at_height seen (suc h) ≡ t = came_kept C (suc h) (omega arith) l ∙ get_or-set_same way (3 - suc h) t 0 (omega (arith, four)) in
      let low = came_low C in
      let same : read_by G area new path' (suc h) t ≡ Table c =
      ap (read_by G area new path' (suc h)) (sym own) ∙ f (suc h) (omega arith) (omega arith) ∙ ap (read_by G area ws path (suc h)) own ∙ r in
      further same (omega arith) n (came_moved C new other path' (omega arith) (length-set way (3 - suc h) t ∙ four) o (λ j a b. f j a (omega arith)))

  -- no table stands on a way twice
  came_fresh : {h : ℕ} {way : List ℕ} {t e : ℕ} {seen : List ℕ} {u : ℕ} → Came G area ws target path h way t e seen u
      → h < 4 → length way ≡ 4 → (top : ℕ) → top < 4 → ((j : ℕ) → h < j → j ≤ top → at_height way j ≢ t) → (j : ℕ) → e < j → j ≤ top → at_height seen j ≢ u
  came_fresh there l four top m f = f
  came_fresh {way = way} {t} (further {h = h} {c = c} r i n C) l four top m f =
      came_fresh C (omega arith) long top m (λ j a b z. not_among c (set way (3 - suc h) t) n (subst (λ (x : ℕ). Memᴰ x (set way (3 - suc h) t)) z (at_mem (set way (3 - suc h) t) (3 - j) (omega (arith, long)))))
    where
      long : length (set way (3 - suc h) t) ≡ 4
      long = length-set way (3 - suc h) t ∙ four

  pub came_apart : {h : ℕ} {way : List ℕ} {t e : ℕ} {seen : List ℕ} {u : ℕ} → Came G area ws target path h way t e seen u → h < 4 → length way ≡ 4
      → (j : ℕ) → e < j → j ≤ h → at_height seen j ≢ u
  came_apart {h} C l four j a b = came_fresh C l four h l (λ j a b. absurd (omega arith)) j a b

  -- its tables are the pool's
  pub came_in : Sane G → {h : ℕ} {way : List ℕ} {t e : ℕ} {seen : List ℕ} {u : ℕ} → Came G area ws target path h way t e seen u → t < total area → u < total area
  came_in Z there l = l
  came_in Z {t = t} (further {h = h} r i n C) l = let (_, _, b, _) = table_only Z area (suc h) (get_or ws (slot G t (at_height path (suc h))) 0) r in came_in Z C b

module _ (G : Granule) (area : Area) (ws : List ℕ) (target : ℕ) (path : List ℕ) where
  abbrev from : ℕ → List ℕ → ℕ → Walked
  from h way t = walk_from G ws area target path h way t

  -- a walk ends at or below where it starts
  pub left_low : (h : ℕ) (way : List ℕ) (t : ℕ) → (from h way t).left ≤ h
  unfolding walk_from onward
  left_low zero way t = omega arith
  left_low (suc h) way t = go (read_by G area ws path (suc h) t) (λ c. left_low h way' c)
    where
      way' : List ℕ
      way' = set way (3 - suc h) t

      go : (e : Entry) → ((c : ℕ) → (from h way' c).left ≤ h) → (onward e target h way' (λ c. from h way' c)).left ≤ suc h
      go Empty ih = omega arith
      go (Frame b k) ih = omega arith
      go Damaged ih = omega arith
      go (Table c) ih = on (leb (suc h) target) (among c way') (ih c)
        where
          on : (x y : Bool) → (from h way' c).left ≤ h → (cond x (stop (Table c) (suc h) way') (cond y (stop Damaged h way') (from h way' c))).left ≤ suc h
          on true y l = omega arith
          on false true l = omega arith
          on false false l = omega arith

  at_entry : (h : ℕ) (way : List ℕ) (t : ℕ) (e : Entry) → read_by G area ws path h t ≡ e → ((c : ℕ) → e ≡ Table c → h ≤ target)
      → Stopped G area ws target path h way t (stop e h (set way (3 - h) t))
  at_entry h way t e r l = record { seen = way; table = t; came = there; tables_are = refl; reads = r; last = l }

  pub stopped : (h : ℕ) (way : List ℕ) (t : ℕ) → (from h way t).entry ≢ Damaged → Stopped G area ws target path h way t (from h way t)
  unfolding walk_from onward
  stopped zero way t d = at_entry zero way t (read_by G area ws path zero t) refl (λ c z. omega arith)
  stopped (suc h) way t d = go (read_by G area ws path (suc h) t) refl d (λ c. stopped h way' c)
    where
      way' : List ℕ
      way' = set way (3 - suc h) t

      Goal : Walked → Type 0
      Goal o = Stopped G area ws target path (suc h) way t o

      go : (e : Entry) → read_by G area ws path (suc h) t ≡ e → (onward e target h way' (λ c. from h way' c)).entry ≢ Damaged
          → ((c : ℕ) → (from h way' c).entry ≢ Damaged → Stopped G area ws target path h way' c (from h way' c)) → Goal (onward e target h way' (λ c. from h way' c))
      go Empty r d ih = at_entry (suc h) way t Empty r (λ c z. clash (cc))
      go (Frame b k) r d ih = at_entry (suc h) way t (Frame b k) r (λ c z. clash (cc))
      go Damaged r d ih = absurd (d refl)
      go (Table c) r d ih = on (leb (suc h) target) refl (among c way') refl d (ih c)
        where
          end : Bool → Bool → Walked
          end x y = cond x (stop (Table c) (suc h) way') (cond y (stop Damaged h way') (from h way' c))

          on : (x : Bool) → leb (suc h) target ≡ x → (y : Bool) → among c way' ≡ y → (end x y).entry ≢ Damaged
              → ((from h way' c).entry ≢ Damaged → Stopped G area ws target path h way' c (from h way' c)) → Goal (end x y)
          on true p y q d ih = at_entry (suc h) way t (Table c) r (λ c z. leb-true (suc h) target p)
          on false p true q d ih = absurd (d refl)
          on false p false q d ih =
              let E = ih d in
              let l = leb-false (suc h) target p in
              record { seen = E.seen; table = E.table; came = further r (omega arith) q E.came; tables_are = E.tables_are; reads = E.reads; last = E.last }

  -- and what is so ended is the walk
  stops : (h : ℕ) (way : List ℕ) (t : ℕ) (e : Entry) → read_by G area ws path h t ≡ e → ((c : ℕ) → e ≡ Table c → h ≤ target)
      → from h way t ≡ stop e h (set way (3 - h) t)
  unfolding walk_from onward
  stops zero way t e r l = ap (λ (x : Entry). stop x zero (set way (3 - zero) t)) r
  stops (suc h) way t Empty r l = rw r
  stops (suc h) way t (Frame b k) r l = rw r
  stops (suc h) way t Damaged r l = rw r
  stops (suc h) way t (Table c) r l = rw (r, le-leb (suc h) target (l c refl))

  pub stopped_walk : {h : ℕ} {way : List ℕ} {t : ℕ} {o : Walked} → Stopped G area ws target path h way t o → from h way t ≡ o
  stopped_walk {o = o} E =
      came_walk E.came ∙ stops o.left E.seen E.table o.entry E.reads E.last
      ∙ ap (λ (w : List ℕ). stop o.entry o.left w) (sym E.tables_are)

-- ---- the tables of such a walk

module _ {G : Granule} {area : Area} {ws : List ℕ} {target : ℕ} {path : List ℕ} {h : ℕ} {way : List ℕ} {t : ℕ} {o : Walked}
    (E : Stopped G area ws target path h way t o) (l : h < 4) (four : length way ≡ 4) where
  seen_long : length E.seen ≡ 4
  seen_long = came_long E.came ∙ four

  pub stopped_long : length o.tables ≡ 4
  stopped_long = ap length E.tables_are ∙ length-set E.seen (3 - o.left) E.table ∙ seen_long

  -- the last one
  pub stopped_last : at_height o.tables o.left ≡ E.table
  stopped_last = ap (λ (w : List ℕ). at_height w o.left) E.tables_are ∙ get_or-set_same E.seen (3 - o.left) E.table 0 (omega (arith, seen_long))

  -- and those above it
  pub stopped_above : (j : ℕ) → o.left < j → j < 4 → at_height o.tables j ≡ at_height E.seen j
  stopped_above j a b = ap (λ (w : List ℕ). at_height w j) E.tables_are ∙ get_or-set_other E.seen (3 - o.left) (3 - j) E.table 0 (λ z. omega arith)

  -- the table at each height is the one that the walk comes to there
  pub stopped_through : (j : ℕ) → o.left ≤ j → j ≤ h → Through G area ws target path h way t j o.left E.seen E.table
  stopped_through j a b = came_through E.came j a b

  pub through_table : (j : ℕ) (a : o.left ≤ j) (b : j ≤ h) → at_height o.tables j ≡ (stopped_through j a b).table
  through_table j a b = go (stopped_through j a b) (ℕ_discrete o.left j)
    where
      go : (T : Through G area ws target path h way t j o.left E.seen E.table) → Dec (o.left ≡ j) → at_height o.tables j ≡ T.table
      go T (no z) = stopped_above j (omega arith) (omega arith) ∙ came_own T.below (omega arith) (came_long T.above ∙ four) (omega arith)
      go T (yes z) = ap (at_height o.tables) (sym z) ∙ stopped_last ∙ same T.below (sym z)
        where
          same : {d : ℕ} {mid : List ℕ} {v e : ℕ} {seen : List ℕ} {u : ℕ} → Came G area ws target path d mid v e seen u → d ≡ e → u ≡ v
          same there z = refl
          same (further r i n C) z = absurd (omega (arith, came_low C))

  pub stopped_in : Sane G → t < total area → (j : ℕ) → o.left ≤ j → j ≤ h → at_height o.tables j < total area
  stopped_in Z m j a b = subst (λ (x : ℕ). x < total area) (sym (through_table j a b)) (came_in Z (stopped_through j a b).above m)

  -- no two of them are one table
  pub stopped_apart : (i j : ℕ) → o.left ≤ i → i < j → j ≤ h → at_height o.tables i ≢ at_height o.tables j
  stopped_apart i j a b c z =
      let T = stopped_through i a (omega arith) in
      came_apart T.above l four j b c
      (sym (came_kept T.below j b (omega arith)) ∙ sym (stopped_above j (omega arith) (omega arith)) ∙ sym z ∙ through_table i a (omega arith))

  -- other words, another path and another target, which say the same down to where the walk ended: the same walk
  pub stopped_moved : (new : List ℕ) (other : ℕ) (path' : List ℕ) → other ≤ o.left → ((c : ℕ) → o.entry ≡ Table c → o.left ≤ other)
      → ((j : ℕ) → o.left ≤ j → j ≤ h → read_by G area new path' j (at_height o.tables j) ≡ read_by G area ws path j (at_height o.tables j))
      → Stopped G area new other path' h way t o
  stopped_moved new other path' a b f = record {
    seen = E.seen;
    table = E.table;
    came = came_moved E.came new other path' l four a (λ j u v. subst (λ (x : ℕ). read_by G area new path' j x ≡ read_by G area ws path j x) (stopped_above j u (omega arith)) (f j (omega arith) v));
    tables_are = E.tables_are;
    reads = subst (λ (x : ℕ). read_by G area new path' o.left x ≡ read_by G area ws path o.left x) stopped_last (f o.left (omega arith) (came_low E.came)) ∙ E.reads;
    last = b;
  }

  -- ---- other words, and where the walk then ends

  abbrev Says : List ℕ → List ℕ → ℕ → Type 0
  Says new path' j = read_by G area new path' j (at_height o.tables j) ≡ read_by G area ws path j (at_height o.tables j)

  -- the way to the last table, where all say the same above it
  came_beside : (new path' : List ℕ) → target ≤ o.left → ((j : ℕ) → o.left < j → j ≤ h → Says new path' j)
      → Came G area new target path' h way t o.left E.seen E.table
  came_beside new path' a f =
      came_moved E.came new target path' l four a
      (λ j u v. subst (λ (x : ℕ). read_by G area new path' j x ≡ read_by G area ws path j x) (stopped_above j u (omega arith)) (f j u v))

  -- at a walk's target: a path that parts from it there alone ends in the same table
  pub stopped_beside : (path' : List ℕ) → o.left ≡ target → ((j : ℕ) → o.left < j → j ≤ h → at_height path' j ≡ at_height path j)
      → Stopped G area ws target path' h way t (stop (read_by G area ws path' o.left (at_height o.tables o.left)) o.left o.tables)
  stopped_beside path' z f = record {
    seen = E.seen;
    table = E.table;
    came = came_beside ws path' (omega arith) (λ j a b. ap (λ (i : ℕ). entry_at G area j (get_or ws (slot G (at_height o.tables j) i) 0)) (f j a b));
    tables_are = E.tables_are;
    reads = ap (read_by G area ws path' o.left) (sym stopped_last);
    last = λ c q. omega arith;
  }

  -- where the last entry becomes a table c that is empty there, the walk goes on by one
  pub stopped_linked : (new : List ℕ) (s c : ℕ) → o.left ≡ suc s → target ≤ s
      → ((j : ℕ) → o.left < j → j ≤ h → Says new path j)
      → read_by G area new path (suc s) (at_height o.tables (suc s)) ≡ Table c
      → among c o.tables ≡ false
      → read_by G area new path s c ≡ Empty
      → Stopped G area new target path h way t (stop Empty s (set o.tables (3 - s) c))
  stopped_linked new s c z b f r n q = record {
    seen = set E.seen (3 - suc s) E.table;
    table = c;
    came = came_on (subst (λ (x : ℕ). Came G area new target path h way t x E.seen E.table) z (came_beside new path (omega arith) f)) (further named b (subst (λ (w : List ℕ). among c w ≡ false) tables n) there);
    tables_are = ap (λ (w : List ℕ). set w (3 - s) c) tables;
    reads = q;
    last = λ d w. clash (cc);
  }
    where
      tables : o.tables ≡ set E.seen (3 - suc s) E.table
      tables = E.tables_are ∙ ap (λ (x : ℕ). set E.seen (3 - x) E.table) z

      named : read_by G area new path (suc s) E.table ≡ Table c
      named = ap (read_by G area new path (suc s)) (sym stopped_last ∙ ap (at_height o.tables) z) ∙ r

  -- where an entry on the way becomes empty, and those above it stay, the walk ends there, with the same tables down to it
  pub record Shorter (new : List ℕ) (e : ℕ) : Type 0 where
    pub end : Walked
    pub stops_there : Stopped G area new target path h way t end
    pub empty : end.entry ≡ Empty
    pub left_is : end.left ≡ e
    pub same : (j : ℕ) → e ≤ j → j ≤ h → at_height end.tables j ≡ at_height o.tables j

  pub stopped_cut : (new : List ℕ) (e : ℕ) → target ≤ o.left → o.left ≤ e → e ≤ h → ((j : ℕ) → e < j → j ≤ h → Says new path j)
      → read_by G area new path e (at_height o.tables e) ≡ Empty → Shorter new e
  stopped_cut new e m a b f q = from (stopped_through e a b) (through_table e a b)
    where
      from : (T : Through G area ws target path h way t e o.left E.seen E.table) → at_height o.tables e ≡ T.table → Shorter new e
      from T z = record {
        end = stop Empty e (set T.mid (3 - e) T.table);
        stops_there = record {
          seen = T.mid;
          table = T.table;
          came = came_moved T.above new target path l four (omega arith) (λ j u v. subst (λ (x : ℕ). read_by G area new path j x ≡ read_by G area ws path j x) (above j u v) (f j u v));
          tables_are = refl;
          reads = ap (read_by G area new path e) (sym z) ∙ q;
          last = λ d w. clash (cc);
        };
        empty = refl;
        left_is = refl;
        same = λ j u v. on j u v (ℕ_discrete e j);
      }
        where
          above : (j : ℕ) → e < j → j ≤ h → at_height o.tables j ≡ at_height T.mid j
          above j u v = stopped_above j (omega arith) (omega arith) ∙ came_kept T.below j u (omega arith)

          on : (j : ℕ) → e ≤ j → j ≤ h → Dec (e ≡ j) → at_height (set T.mid (3 - e) T.table) j ≡ at_height o.tables j
          on j u v (yes y) =
              ap (at_height (set T.mid (3 - e) T.table)) (sym y) ∙ get_or-set_same T.mid (3 - e) T.table 0 (omega (arith, came_long T.above, four))
              ∙ sym z ∙ ap (at_height o.tables) y
          on j u v (no y) = get_or-set_other T.mid (3 - e) (3 - j) T.table 0 (λ w. omega arith) ∙ sym (above j (omega arith) v)

-- ---- the walks of a pool

-- the same region one height up, and the same index there: the same region
pub index_region : (G : Granule) (x y j : ℕ) → j < 4 → x / size_at G (suc j) ≡ y / size_at G (suc j) → at_height (path_of G x) j ≡ at_height (path_of G y) j
    → x / size_at G j ≡ y / size_at G j
index_region G x y j l z e =
    region_index G x j ∙ (λ w. z w * entries G + (sym (path_of_at G x {h = j} l) ∙ e ∙ path_of_at G y {h = j} l) w) ∙ sym (region_index G y j)

module _ (G : Granule) (p : Pool) (few : p.numbers.levels ≤ 4) where
  abbrev area : Area
  area = area_of p.numbers

  abbrev top : ℕ
  top = p.numbers.levels - 1

  top_low : top < 4
  top_low = omega arith

  pub walk_stopped : (target x : ℕ) → (walk_to G p target x).entry ≢ Damaged → Stopped G area p.words target (path_of G x) top no_way 0 (walk_to G p target x)
  walk_stopped target x d = stopped G area p.words target (path_of G x) top no_way 0 d

  -- two addresses of one region have the same indices from its height up
  pub same_index : {h : ℕ} (x y j : ℕ) → h ≤ j → j < 4 → x / size_at G h ≡ y / size_at G h → at_height (path_of G y) j ≡ at_height (path_of G x) j
  same_index x y j a l e = path_of_at G y {h = j} l ∙ region_indices G a y x (sym e) ∙ sym (path_of_at G x {h = j} l)

  -- a walk is the same for every address of the region where it ends
  pub walk_region : (target x y : ℕ) → target ≤ top → (walk_to G p target x).entry ≢ Damaged
      → x / size_at G (walk_to G p target x).left ≡ y / size_at G (walk_to G p target x).left → walk_to G p target y ≡ walk_to G p target x
  walk_region target x y le d e =
      let E = walk_stopped target x d in
      stopped_walk G area p.words target (path_of G y)
      (stopped_moved E top_low refl p.words target (path_of G y) (came_target E.came le) E.last
      (λ j a b. ap (λ (i : ℕ). entry_at G area j (get_or p.words (slot G (at_height (walk_to G p target x).tables j) i) 0)) (same_index x y j a (omega (arith, top_low)) e)))

  -- in the table where a walk reached its target the entries of the other addresses of that table's region stand beside it
  pub walk_table : (target x y : ℕ) → (walk_to G p target x).entry ≢ Damaged → (walk_to G p target x).left ≡ target
      → x / size_at G (suc target) ≡ y / size_at G (suc target)
      → walk_to G p target y
      ≡ stop (read_by G area p.words (path_of G y) target (at_height (walk_to G p target x).tables target)) target (walk_to G p target x).tables
  walk_table target x y d q e =
      stopped_walk G area p.words target (path_of G y)
      (stopped_beside (walk_stopped target x d) top_low refl (path_of G y) q (λ j a b. same_index x y j (omega arith) (omega (arith, top_low)) e))
      ∙ ap (λ (h : ℕ). stop (read_by G area p.words (path_of G y) h (at_height (walk_to G p target x).tables h)) h (walk_to G p target x).tables) q

  -- where an address parts from a walk's way at an entry of its own that is 0, its walk ends there, at a hole
  pub walk_parts : (x y h : ℕ) → (walk_to G p 0 x).entry ≢ Damaged → (walk_to G p 0 x).left ≤ h → h ≤ top → x / size_at G (suc h) ≡ y / size_at G (suc h)
      → word_at G p.words (at_height (walk_to G p 0 x).tables h) (at_height (path_of G y) h) ≡ 0 → (walk_to G p 0 y).entry ≡ Empty
  walk_parts x y h d a b e w = from (stopped_through E top_low refl h a b) (through_table E top_low refl h a b)
    where
      E : Stopped G area p.words 0 (path_of G x) top no_way 0 (walk_to G p 0 x)
      E = walk_stopped 0 x d

      from : (T : Through G area p.words 0 (path_of G x) top no_way 0 h (walk_to G p 0 x).left E.seen E.table) → at_height (walk_to G p 0 x).tables h ≡ T.table
          → (walk_to G p 0 y).entry ≡ Empty
      from T z =
          ap (λ (o : Walked). o.entry)
          (stopped_walk G area p.words 0 (path_of G y) {o = stop Empty h (set T.mid (3 - h) T.table)}
          (record {
            seen = T.mid;
            table = T.table;
            came = came_moved T.above p.words 0 (path_of G y) top_low refl (omega arith)
                (λ j u v. ap (λ (i : ℕ). entry_at G area j (get_or p.words (slot G (at_height T.mid j) i) 0)) (same_index x y j u (omega (arith, top_low)) e));
            tables_are = refl;
            reads = ap (read_by G area p.words (path_of G y) h) (sym z) ∙ ap (entry_at G area h) w ∙ entry_zero G area h;
            last = λ c q. clash (cc);
          }))
