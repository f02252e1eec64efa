-- One traversal of the words, top down: every entry that is not empty, with its region.
-- `visit G W h t r` lists the entries of table t and of all tables below it, where t stands for region r of height h + 1; the
-- whole tree is `seen G W k`, from the root. It reads only words. On words that can be read as a tree (`Shape`) it lists the
-- regions of the tree that are not empty, each exactly once: nothing else (`seen_from`), all of them (`seen_has`), no one
-- twice (`seen_distinct`).
use Rattle.std.specs.Prelude.{◌≡◌, refl, ◌≢◌, ◌⊎◌}
use Rattle.std.proofs.Math.Path.{ap}
use Rattle.std.proofs.Common.{sym, ◌∙◌, subst, inl, inr, mod-lt, div-add-mod', arith}
use Rattle.std.proofs.Math.Logic.{⊎_elim}
use mathlib.Core.List.Memᴰ
use mathlib.Core.List.Memᴰ.{head as here}
use mathlib.Core.List.Memᴰ.{tail as there}
use mathlib.Core.List.{List, [], ◌∷◌, ◌++◌, Memᴰ}
use Prim.Native.Nat.{ℕ, zero, suc, ◌+◌, ◌*◌, ◌/◌, ◌%◌, ◌≤◌, ◌<◌}
use Rattle.std.proofs.Math.Decide.{ℕ_discrete}
use Rattle.std.proofs.Math.Arith.{digits_div, digits_mod}
use Rattle.tree.specs.Region.{anc, page, anc_page}
use Rattle.tree.specs.Tree.{Ent, empty, frame, table, table≢empty, empty≢frame, Read, r_empty, r_frame, r_table, r_bad, read_of, Geo}
use Rattle.tree.specs.Walk.{Shape, chain_up, Rooted}
use Rattle.tree.specs.Count.{Distinct, distinct_append}

module _ {X : Type 0} where
  -- the lists f 0, f 1, .. below k, one after the other
  abbrev pub gather : (ℕ → List X) → ℕ → List X
  gather f zero = []
  gather f (suc k) = gather f k ++ f k

  gather_has : (f : ℕ → List X) (k i : ℕ) (x : X) → i < k → Memᴰ x (f i) → Memᴰ x (gather f k)
  gather_has f zero i x l m = absurd (omega arith)
  gather_has f (suc k) i x l m = go (ℕ_discrete i k) (λ c. gather_has f k i x c m)
    where
      go : Dec (i ≡ k) → (i < k → Memᴰ x (gather f k)) → Memᴰ x (gather f k ++ f k)
      go (yes e) ih = Memᴰ.append_right (gather f k) (subst (λ (j : ℕ). Memᴰ x (f j)) e m)
      go (no e) ih = Memᴰ.append_left (f k) (ih (omega arith))

  gather_from : (f : ℕ → List X) (k : ℕ) (x : X) → Memᴰ x (gather f k) → (i : ℕ) × (i < k) × Memᴰ x (f i)
  gather_from f zero x m = absurd (Memᴰ.not-nil m)
  gather_from f (suc k) x m = ⊎_elim (λ a. let (i, b, c) = gather_from f k x a in (i, omega arith, c)) (λ a. (k, omega arith, a))
      (Memᴰ.append_cases (gather f k) m)

  -- distinct lists whose members tell from which list they are
  gather_distinct : (f : ℕ → List X) (k : ℕ) → ((i : ℕ) → i < k → Distinct (f i))
      → ((i j : ℕ) (x : X) → i < k → j < k → Memᴰ x (f i) → Memᴰ x (f j) → i ≡ j) → Distinct (gather f k)
  gather_distinct f zero d u = tt
  gather_distinct f (suc k) d u = distinct_append (gather f k) (f k)
      (gather_distinct f k (λ i l. d i (omega arith)) (λ i j x a b. u i j x (omega arith) (omega arith)))
      (d k (omega arith)) apart
    where
      apart : (x : X) → Memᴰ x (gather f k) → Memᴰ x (f k) → ⊥
      apart x m n = let (i, a, b) = gather_from f k x m in omega (arith, u i k x (omega arith) (omega arith) b n)

-- an entry that is not empty: its height, its region, what its word says
pub record Item : Type 0 where
  pub h : ℕ
  pub r : ℕ
  pub e : Read

-- an item from its parts
abbrev pub item : ℕ → ℕ → Read → Item
item h r e = record { h = h; r = r; e = e }

-- one entry's items: none if it is empty, else itself, and below a table what `below` lists of that table
abbrev pub entry : ℕ → ℕ → Read → (ℕ → List Item) → List Item
entry h r r_empty below = []
entry h r (r_frame x) below = item h r (r_frame x) ∷ []
entry h r (r_table c) below = item h r (r_table c) ∷ below c
entry h r r_bad below = item h r r_bad ∷ []

module _ (G : Geo) (W : ℕ → ℕ → ℕ) where
  -- the entries of table t, of height h, for region r of height h + 1, each followed by those below it
  unfoldable pub visit : ℕ → ℕ → ℕ → List Item
  visit zero t r = gather (λ i. entry zero (r * G.K + i) (G.dec zero (W t i)) (λ _. [])) G.K
  visit (suc h) t r = gather (λ i. entry (suc h) (r * G.K + i) (G.dec (suc h) (W t i)) (λ c. visit h c (r * G.K + i))) G.K

-- a is an entry of the tree, of height up to h, in region r of height h + 1
pub record In (G : Geo) (T : ℕ → ℕ → ℕ) (S : ℕ → ℕ → Ent) (h r : ℕ) (a : Item) : Type 0 where
  pub low : a.h ≤ h
  pub full : S a.h a.r ≢ empty
  pub says : a.e ≡ read_of (S a.h a.r) (T a.h a.r)
  pub under : anc G.K h (page G.K a.h a.r) / G.K ≡ r

module _ {G : Geo} {W T : ℕ → ℕ → ℕ} {S : ℕ → ℕ → Ent} (C : Shape G W T S) where
  -- what the word of a region's entry says
  abbrev of : ℕ → ℕ → Read
  of h r = read_of (S h r) (T h r)

  -- the word at index i of the table of region r is that of region r * K + i
  pub read_at_lem : (h r i : ℕ) → S (suc h) r ≡ table → i < G.K → G.dec h (W (T (suc h) r) i) ≡ of h (r * G.K + i)
  read_at_lem h r i p l =
      let d = digits_div r l in let m = digits_mod r l in
      let q : S (suc h) ((r * G.K + i) / G.K) ≡ table = cc in
      cc (C.reads h (r * G.K + i) q)

  -- an item of one entry is the entry itself, or one of those below its table
  entry_from : (h w : ℕ) (below : ℕ → List Item) (a : Item) → Memᴰ a (entry h w (of h w) below)
      → ((S h w ≢ empty) × (a ≡ item h w (of h w))) ⊎ ((S h w ≡ table) × Memᴰ a (below (T h w)))
  entry_from h w below a m = go (S h w) refl m
    where
      self : (e : Ent) → S h w ≡ e → a ≡ item h w (read_of e (T h w)) → a ≡ item h w (of h w)
      self e q p = p ∙ ap (λ (z : Ent). item h w (read_of z (T h w))) (sym q)

      go : (e : Ent) → S h w ≡ e → Memᴰ a (entry h w (read_of e (T h w)) below)
          → ((S h w ≢ empty) × (a ≡ item h w (of h w))) ⊎ ((S h w ≡ table) × Memᴰ a (below (T h w)))
      go empty q m = absurd (Memᴰ.not-nil m)
      go (frame x) q m = let p = ⊎_elim (self (frame x) q) (λ n. absurd (Memᴰ.not-nil n)) (Memᴰ.cases_cons m) in
          inl (λ z. empty≢frame z q, p)
      go table q m = ⊎_elim (λ e. inl (table≢empty q, self table q e)) (λ n. inr (q, n)) (Memᴰ.cases_cons m)

  -- an entry that is not empty is among its items
  entry_self : (h w : ℕ) (below : ℕ → List Item) → S h w ≢ empty → Memᴰ (item h w (of h w)) (entry h w (of h w) below)
  entry_self h w below p = go (S h w) refl
    where
      go : (e : Ent) → S h w ≡ e → Memᴰ (item h w (read_of e (T h w))) (entry h w (read_of e (T h w)) below)
      go empty q = absurd (p q)
      go (frame x) q = here refl
      go table q = here refl

  -- and so are those below its table
  entry_deep : (h w : ℕ) (below : ℕ → List Item) (a : Item) → S h w ≡ table → Memᴰ a (below (T h w))
      → Memᴰ a (entry h w (of h w) below)
  entry_deep h w below a q m = rw (q, entry) (there m)

  -- an entry's own item is one of its parent's region
  own : (h w : ℕ) (a : Item) → S h w ≢ empty → a ≡ item h w (of h w) → In G T S h (w / G.K) a
  own h w a p e = subst (λ (z : Item). In G T S h (w / G.K) z) (sym e) (record {
    low = omega arith;
    full = p;
    says = refl;
    under = ap (λ (z : ℕ). z / G.K) (anc_page G.K h w G.K-pos);
  })

  -- what one table lists, `below` what is listed of a region and its table one height down
  abbrev row : (h r : ℕ) (below : ℕ → ℕ → List Item) → ℕ → List Item
  row h r below i = entry h (r * G.K + i) (G.dec h (W (T (suc h) r) i)) (below (r * G.K + i))

  -- an item of a table is an entry of its region, or listed below one
  row_from : (h r : ℕ) (below : ℕ → ℕ → List Item) (a : Item) → S (suc h) r ≡ table → Memᴰ a (gather (row h r below) G.K)
      → In G T S h r a ⊎ ((w : ℕ) × (w / G.K ≡ r) × (S h w ≡ table) × Memᴰ a (below w (T h w)))
  row_from h r below a p m =
      let (i, l, n) = gather_from (row h r below) G.K a m in
      let w = r * G.K + i in
      let d = digits_div r l in
      ⊎_elim (λ z. inl (subst (λ (y : ℕ). In G T S h y a) d (own h w a z.0 z.1))) (λ z. inr (w, d, z.0, z.1))
      (entry_from h w (below w) a (rw (read_at_lem h r i p l) at n))

  -- the traversal lists only entries of the tree
  visit_from : (h r : ℕ) (a : Item) → S (suc h) r ≡ table → Memᴰ a (visit G W h (T (suc h) r) r) → In G T S h r a
  unfolding visit
  visit_from zero r a p m = ⊎_elim (λ z. z) (λ z. absurd (Memᴰ.not-nil z.3)) (row_from zero r (λ _ _. []) a p m)
  visit_from (suc h) r a p m = ⊎_elim (λ z. z) (λ z. deeper z.0 z.1 (visit_from h z.0 a z.2 z.3))
      (row_from (suc h) r (λ w c. visit G W h c w) a p m)
    where
      deeper : (w : ℕ) → w / G.K ≡ r → In G T S h w a → In G T S (suc h) r a
      deeper w d b = record {
        low = omega (arith, b.low);
        full = b.full;
        says = b.says;
        under = ap (λ (y : ℕ). y / G.K) b.under ∙ d;
      }

  -- a region that is not empty is listed at the entry above it or below that entry's table
  row_has : (h r k w : ℕ) (below : ℕ → ℕ → List Item) → S (suc h) r ≡ table → S k w ≢ empty → k ≤ h
      → anc G.K h (page G.K k w) / G.K ≡ r
      → ((u : ℕ) → k < h → anc G.K h (page G.K k w) ≡ u → S h u ≡ table → Memᴰ (item k w (of k w)) (below u (T h u)))
      → Memᴰ (item k w (of k w)) (gather (row h r below) G.K)
  row_has h r k w below p q l e f = gather_has (row h r below) G.K i (item k w (of k w)) low (rw (read_at_lem h r i p low)
      (subst (λ (y : ℕ). Memᴰ (item k w (of k w)) (entry h y (of h y) (below y))) back (at (ℕ_discrete k h))))
    where
      u : ℕ
      u = anc G.K h (page G.K k w)

      i : ℕ
      i = u % G.K

      low : i < G.K
      low = mod-lt u G.K-pos

      back : u ≡ r * G.K + i
      back = sym (div-add-mod' u G.K) ∙ ap (λ (y : ℕ). y * G.K + i) e

      own_page : anc G.K k (page G.K k w) ≡ w
      own_page = anc_page G.K k w G.K-pos

      above : k < h → S h u ≡ table
      above a = chain_up C (page G.K k w) k (λ y. q (ap (S k) (sym own_page) ∙ y)) h a
          (omega (arith, C.bound (suc h) r (table≢empty p)))

      at : Dec (k ≡ h) → Memᴰ (item k w (of k w)) (entry h u (of h u) (below u))
      at (yes z) =
          let s : u ≡ w = ap (λ (y : ℕ). anc G.K y (page G.K k w)) (sym z) ∙ own_page in
          Memᴰ.cast (λ j. item (z j) (sym s j) (of (z j) (sym s j))) (entry_self h u (below u) (λ y. q (cc)))
      at (no z) = let t = above (omega arith) in entry_deep h u (below u) (item k w (of k w)) t (f u (omega arith) refl t)

  -- the traversal lists every region of the tree that is not empty
  visit_has : (h r k w : ℕ) → S (suc h) r ≡ table → S k w ≢ empty → k ≤ h → anc G.K h (page G.K k w) / G.K ≡ r
      → Memᴰ (item k w (of k w)) (visit G W h (T (suc h) r) r)
  unfolding visit
  visit_has zero r k w p q l u = row_has zero r k w (λ _ _. []) p q l u (λ y a _ _. absurd (omega arith))
  visit_has (suc h) r k w p q l u = row_has (suc h) r k w (λ y c. visit G W h c y) p q l u
      (λ y a b t. visit_has h y k w t q (omega arith) b)

  -- a table lists an item once, if what is below its entries is of their regions and lists none twice
  row_distinct : (h r : ℕ) (below : ℕ → ℕ → List Item) → S (suc h) r ≡ table
      → ((w : ℕ) (a : Item) → S h w ≡ table → Memᴰ a (below w (T h w)) → (a.h < h) × (anc G.K h (page G.K a.h a.r) ≡ w))
      → ((w : ℕ) → S h w ≡ table → Distinct (below w (T h w))) → Distinct (gather (row h r below) G.K)
  row_distinct h r below p f d = gather_distinct (row h r below) G.K
      (λ i l. rw (read_at_lem h r i p l) (alone (r * G.K + i) (S h (r * G.K + i)) refl))
      (λ i j a l m x y. omega (arith, from a i l x, from a j m y))
    where
      alone : (w : ℕ) (e : Ent) → S h w ≡ e → Distinct (entry h w (read_of e (T h w)) (below w))
      alone w empty q = tt
      alone w (frame x) q = (λ m. Memᴰ.not-nil m, tt)
      alone w table q = (λ m. omega (arith, (f w (item h w (r_table (T h w))) q m).0), d w q)

      from : (a : Item) (i : ℕ) → i < G.K → Memᴰ a (row h r below i) → anc G.K h (page G.K a.h a.r) ≡ r * G.K + i
      from a i l m = ⊎_elim
          (λ z. ap (λ (b : Item). anc G.K h (page G.K b.h b.r)) z.1 ∙ anc_page G.K h (r * G.K + i) G.K-pos)
          (λ z. (f (r * G.K + i) a z.0 z.1).1)
          (entry_from h (r * G.K + i) (below (r * G.K + i)) a (rw (read_at_lem h r i p l) at m))

  -- the traversal lists nothing twice
  visit_distinct : (h r : ℕ) → S (suc h) r ≡ table → Distinct (visit G W h (T (suc h) r) r)
  unfolding visit
  visit_distinct zero r p = row_distinct zero r (λ _ _. []) p (λ w a _ m. absurd (Memᴰ.not-nil m)) (λ w _. tt)
  visit_distinct (suc h) r p = row_distinct (suc h) r (λ w c. visit G W h c w) p
      (λ w a q m. let b = visit_from h w a q m in (omega (arith, b.low), b.under)) (λ w q. visit_distinct h w q)

-- the entries of all tables, from the root, whose own have height k
abbrev pub seen : Geo → (ℕ → ℕ → ℕ) → ℕ → List Item
seen G W k = visit G W k 0 0

module _ {G : Geo} {W T : ℕ → ℕ → ℕ} {S : ℕ → ℕ → Ent} (C : Shape G W T S) {k : ℕ} (Z : Rooted G T S k) where
  -- the whole traversal lists only entries of the tree
  pub seen_from : (a : Item) → Memᴰ a (seen G W k) → In G T S k 0 a
  seen_from a m = visit_from C k 0 a Z.stands (rw Z.number m)

  -- and every region that is not empty, but for the root's
  pub seen_has : (h r : ℕ) → h ≤ k → S h r ≢ empty → Memᴰ (item h r (read_of (S h r) (T h r))) (seen G W k)
  seen_has h r l p = rw Z.number at (visit_has C k 0 h r Z.stands p l (Z.only _ (table≢empty above)))
    where
      above : S (suc k) (anc G.K (suc k) (page G.K h r)) ≡ table
      above = chain_up C (page G.K h r) h (λ z. p (ap (S h) (sym (anc_page G.K h r G.K-pos)) ∙ z)) (suc k) (omega arith)
          (omega (arith, Z.top))

  -- and nothing twice
  pub seen_distinct : Distinct (seen G W k)
  seen_distinct = rw Z.number at (visit_distinct C k 0 Z.stands)
