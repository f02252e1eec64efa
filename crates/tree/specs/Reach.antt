-- What a traversal from the root reaches, in a pool at rest.
-- Of the entries `seen`, `tabs` are the tables that they name and `maps` the frames, as mappings. The tables are those of the
-- needed regions, each once: as many as the ledger needs (`tabs_count`), and with the free ones and the root all
-- (`all_tables`). The mappings are the ledger's (`maps_live`, `live_maps`). The last law, `needed_same`, is of ledgers alone:
-- what they need goes by their mappings, in whatever order they came.
use Rattle.std.specs.Prelude.{◌≡◌, refl, ◌⊎◌, ℕ, suc, ◌+◌, ◌≤◌, length}
use Rattle.std.proofs.Common.{ap, sym, ◌∙◌, subst, inl, inr, ⊎_elim, arith}
use mathlib.Core.List.Memᴰ
use mathlib.Core.List.Memᴰ.{head as here}
use mathlib.Core.List.Memᴰ.{tail as there}
use mathlib.Core.List.{List, [], ◌∷◌, Memᴰ}
use Rattle.std.proofs.Math.Option.{Option, some, none}
use Rattle.std.proofs.Math.Decide.{dec_le}
use Rattle.std.proofs.lemmas.List.{length-map}
use Rattle.tree.specs.Tree.{Ent, empty, frame, table, table≢empty, empty≢frame, Read, r_empty, r_frame, r_table, r_bad, read_of, Geo}
use Rattle.tree.specs.Walk.{shape, Rooted, rooted}
use Rattle.tree.specs.Inv.{Mapping, mapping, InvIf, Inv, frame_low}
use Rattle.tree.specs.Ledger.{table_inside}
use Rattle.tree.specs.Count.{Distinct, length_within}
use Rattle.tree.specs.Needed.{Reg, reg, needed, needed_distinct, needed_has, needed_from, needed_tables, is_table_lem, needed_tables_distinct, pool_count}
use Rattle.tree.specs.Visit.{Item, item, seen, seen_from, seen_has, seen_distinct}

module _ {X Y : Type 0} (f : X → Option Y) where
  -- a value before a list, where there is one
  abbrev pub keep : Option Y → List Y → List Y
  keep none l = l
  keep (some y) l = y ∷ l

  -- the values that f has on a list, in order
  abbrev pub pick : List X → List Y
  pick [] = []
  pick (x ∷ l) = keep (f x) (pick l)

  -- a member's value is picked
  pub pick_has : (l : List X) (x : X) (y : Y) → Memᴰ x l → f x ≡ some y → Memᴰ y (pick l)
  pick_has [] x y m e = absurd (Memᴰ.not-nil m)
  pick_has (z ∷ l) x y m e = ⊎_elim first (λ n. later (f z) (pick_has l x y n e)) (Memᴰ.cases_cons m)
    where
      first : x ≡ z → Memᴰ y (keep (f z) (pick l))
      first q = rw (ap f (sym q) ∙ e) (here refl)

      later : (o : Option Y) → Memᴰ y (pick l) → Memᴰ y (keep o (pick l))
      later none m = m
      later (some w) m = there m

  -- what is picked is a member's value
  pub pick_from : (l : List X) (y : Y) → Memᴰ y (pick l) → (x : X) × Memᴰ x l × (f x ≡ some y)
  pick_from [] y m = absurd (Memᴰ.not-nil m)
  pick_from (z ∷ l) y m = go (f z) refl m (λ n. pick_from l y n)
    where
      From : List X → Type 0
      From l = (x : X) × Memᴰ x l × (f x ≡ some y)

      go : (o : Option Y) → f z ≡ o → Memᴰ y (keep o (pick l)) → (Memᴰ y (pick l) → From l) → From (z ∷ l)
      go none q m ih = let (x, a, b) = ih m in (x, there a, b)
      go (some w) q m ih = ⊎_elim (λ e. (z, here refl, q ∙ ap some (sym e))) (λ n. let (x, a, b) = ih n in (x, there a, b))
          (Memᴰ.cases_cons m)

  -- of a distinct list, on which no two members have the same value, nothing is picked twice
  pick_distinct : (l : List X) → Distinct l
      → ((a b : X) (y : Y) → Memᴰ a l → Memᴰ b l → f a ≡ some y → f b ≡ some y → a ≡ b) → Distinct (pick l)
  pick_distinct [] d u = tt
  pick_distinct (z ∷ l) d u = go (f z) refl (pick_distinct l d.1 (λ a b y m n. u a b y (there m) (there n)))
    where
      go : (o : Option Y) → f z ≡ o → Distinct (pick l) → Distinct (keep o (pick l))
      go none q ih = ih
      go (some w) q ih = (again, ih)
        where
          again : Memᴰ w (pick l) → ⊥
          again m = let (x, a, b) = pick_from l w m in
              d.0 (subst (λ (k : X). Memᴰ k l) (u x z w (there a) (here refl) b q) a)

  -- and where nothing is picked twice, a value comes from one member
  pub pick_once : (l : List X) → Distinct (pick l)
      → (a b : X) (y : Y) → Memᴰ a l → Memᴰ b l → f a ≡ some y → f b ≡ some y → a ≡ b
  pick_once [] d a b y m n p q = absurd (Memᴰ.not-nil m)
  pick_once (z ∷ l) d a b y m n p q =
      go (f z) refl d (Memᴰ.cases_cons m) (Memᴰ.cases_cons n) (λ d m n. pick_once l d a b y m n p q)
    where
      go : (o : Option Y) → f z ≡ o → Distinct (keep o (pick l)) → (a ≡ z) ⊎ Memᴰ a l → (b ≡ z) ⊎ Memᴰ b l
          → (Distinct (pick l) → Memᴰ a l → Memᴰ b l → a ≡ b) → a ≡ b
      go o e d (inl u) (inl v) ih = u ∙ sym v
      go none e d (inl u) (inr v) ih = let w : ◌≡◌ {A = ℕ} 0 1 = cc (ap f u) in absurd (omega arith)
      go none e d (inr u) (inl v) ih = let w : ◌≡◌ {A = ℕ} 0 1 = cc (ap f v) in absurd (omega arith)
      go none e d (inr u) (inr v) ih = ih d u v
      go (some w) e d (inl u) (inr v) ih = absurd (d.0 (pick_has l b w v (let k : w ≡ y = cc (ap f u) in q ∙ ap some (sym k))))
      go (some w) e d (inr u) (inl v) ih = absurd (d.0 (pick_has l a w u (let k : w ≡ y = cc (ap f v) in p ∙ ap some (sym k))))
      go (some w) e d (inr u) (inr v) ih = ih d.1 u v

-- the table that a word names
abbrev pub tab_of : Read → Option ℕ
tab_of r_empty = none
tab_of (r_frame x) = none
tab_of (r_table c) = some c
tab_of r_bad = none

-- the mapping that a word is, at its region
abbrev pub map_of : ℕ → ℕ → Read → Option Mapping
map_of h r r_empty = none
map_of h r (r_frame x) = some (mapping h r x)
map_of h r (r_table c) = none
map_of h r r_bad = none

-- the table that an item names
abbrev pub item_tab : Item → Option ℕ
item_tab a = tab_of a.e

-- the mapping that an item is
abbrev pub item_map : Item → Option Mapping
item_map a = map_of a.h a.r a.e

-- the tables that items name
abbrev pub tabs : List Item → List ℕ
tabs = pick item_tab

-- the mappings among items
abbrev pub maps : List Item → List Mapping
maps = pick item_map

-- the root and the tables that the traversal names
abbrev pub reached : Geo → (ℕ → ℕ → ℕ) → ℕ → List ℕ
reached G W k = 0 ∷ tabs (seen G W k)

-- an entry whose word names a table is one, of that number
pub tab_is : (e : Ent) (t c : ℕ) → tab_of (read_of e t) ≡ some c → (e ≡ table) × (t ≡ c)
tab_is empty t c q = (cc, cc)
tab_is (frame x) t c q = (cc, cc)
tab_is table t c q = (refl, cc)

-- an entry whose word is a mapping is that frame
pub map_is : (h r t : ℕ) (e : Ent) (m : Mapping) → map_of h r (read_of e t) ≡ some m → (e ≡ frame m.x) × (m ≡ mapping h r m.x)
map_is h r t empty m q = (cc, cc)
map_is h r t (frame x) m q =
    let e : mapping h r x ≡ m = cc in
    (ap (λ (z : Mapping). frame z.x) e, sym e ∙ ap (λ (z : Mapping). mapping h r z.x) e)
map_is h r t table m q = (cc, cc)

-- an item that gives a mapping is the frame of that mapping
map_item : (h r : ℕ) (e : Read) (m : Mapping) → map_of h r e ≡ some m → item h r e ≡ item m.h m.r (r_frame m.x)
map_item h r r_empty m q = cc
map_item h r (r_frame x) m q = let e : mapping h r x ≡ m = cc in ap (λ (z : Mapping). item z.h z.r (r_frame z.x)) e
map_item h r (r_table c) m q = cc
map_item h r r_bad m q = cc

module _ {C D : Type 0} {G : Geo} {W : ℕ → ℕ → ℕ} {P : ℕ → ℕ} {f : ℕ} {T : ℕ → ℕ → ℕ} {S : ℕ → ℕ → Ent} {L : List Mapping} {h₀ r₀ : ℕ}
    (I : InvIf C D G W P f T S L h₀ r₀) (k : ℕ) (top : suc k ≡ G.top) where
  -- the tree's root
  abbrev Z : Rooted G T S k
  Z = rooted I.ren top

  -- an item that names a table is that of the table's region
  pub tab_at : (a : Item) (c : ℕ) → Memᴰ a (seen G W k) → item_tab a ≡ some c
      → (a.h ≤ k) × (S a.h a.r ≡ table) × (T a.h a.r ≡ c)
  tab_at a c m q =
      let b = seen_from (shape I.ren) Z a m in
      let z = tab_is (S a.h a.r) (T a.h a.r) c (ap tab_of (sym b.says) ∙ q) in
      (b.low, z.0, z.1)

  -- a table of the tree is reached
  pub table_reached : (h r : ℕ) → S h r ≡ table → Memᴰ (T h r) (reached G W k)
  table_reached h r p = go (dec_le h k)
    where
      go : Dec (h ≤ k) → Memᴰ (T h r) (reached G W k)
      go (yes l) = there (pick_has item_tab (seen G W k) (item h r (read_of (S h r) (T h r))) (T h r)
          (seen_has (shape I.ren) Z h r l (table≢empty p)) (ap (λ (z : Ent). tab_of (read_of z (T h r))) p))
      go (no l) =
          let e : h ≡ G.top = omega (arith, I.ren.bound h r (table≢empty p)) in
          let y : r ≡ 0 = I.ren.only r (λ w. table≢empty p (cc)) in
          let z : T h r ≡ 0 = (let ra = I.ren.root_at in cc) in
          here z

  -- no mapping is met twice
  pub maps_distinct : Distinct (maps (seen G W k))
  maps_distinct = pick_distinct item_map (seen G W k) (seen_distinct (shape I.ren) Z)
      (λ a b m _ _ p q. map_item a.h a.r a.e m p ∙ sym (map_item b.h b.r b.e m q))

  -- no table is reached twice
  pub tabs_distinct : Distinct (tabs (seen G W k))
  tabs_distinct = pick_distinct item_tab (seen G W k) (seen_distinct (shape I.ren) Z) (λ a b c m n p q.
      let (_, s, t) = tab_at a c m p in
      let (_, s', t') = tab_at b c n q in
      let (x, y) = I.ren.inj a.h a.r b.h b.r s s' (t ∙ sym t') in
      let u = (seen_from (shape I.ren) Z a m).says in
      let v = (seen_from (shape I.ren) Z b n).says in
      let z : a.e ≡ b.e = cc in
      λ i. item (x i) (y i) (z i))

  -- the mappings met are live
  pub maps_live : (m : Mapping) → Memᴰ m (maps (seen G W k)) → Memᴰ m L
  maps_live m n =
      let (a, b, q) = pick_from item_map (seen G W k) m n in
      let i = seen_from (shape I.ren) Z a b in
      let z = map_is a.h a.r (T a.h a.r) (S a.h a.r) m (ap (map_of a.h a.r) (sym i.says) ∙ q) in
      Memᴰ.cast z.1 (I.holds.listed a.h a.r m.x z.0)

  -- and all live ones are met
  pub live_maps : (m : Mapping) → Memᴰ m L → Memᴰ m (maps (seen G W k))
  live_maps m a =
      let s = I.holds.live m a in
      let l : m.h ≤ k = omega (arith, frame_low I.ren m.h m.r m.x s) in
      pick_has item_map (seen G W k) (item m.h m.r (read_of (S m.h m.r) (T m.h m.r))) m
      (seen_has (shape I.ren) Z m.h m.r l (λ z. empty≢frame z s)) (ap (λ (z : Ent). map_of m.h m.r (read_of z (T m.h m.r))) s)

module _ {G : Geo} {W : ℕ → ℕ → ℕ} {P : ℕ → ℕ} {f : ℕ} {T : ℕ → ℕ → ℕ} {S : ℕ → ℕ → Ent} {L : List Mapping}
    (I : Inv G W P f T S L G.top 0) (k : ℕ) (top : suc k ≡ G.top) where
  -- the tables reached are those of the needed regions
  pub tabs_needed : (c : ℕ) → Memᴰ c (tabs (seen G W k)) → Memᴰ c (needed_tables I k top)
  tabs_needed c m =
      let (a, n, q) = pick_from item_tab (seen G W k) c m in
      let (l, s, t) = tab_at I k top a c n q in
      let d = needed_has G.K k L (reg a.h a.r) l (table_inside I tt a.h a.r (omega arith) s) in
      Memᴰ.cast (sym t) (Memᴰ.map (λ (a : Reg). T a.h a.r) d)

  -- and all of them
  pub needed_tabs : (c : ℕ) → Memᴰ c (needed_tables I k top) → Memᴰ c (tabs (seen G W k))
  needed_tabs c m =
      let (a, n, q) = Memᴰ.of_map (λ (a : Reg). T a.h a.r) (needed G.K k L) m in
      let l = (needed_from G.K k L a n).0 in
      let s = is_table_lem I k top a n in
      pick_has item_tab (seen G W k) (item a.h a.r (read_of (S a.h a.r) (T a.h a.r))) c
      (seen_has (shape I.ren) (rooted I.ren top) a.h a.r l (table≢empty s)) (ap (λ (z : Ent). tab_of (read_of z (T a.h a.r))) s ∙ ap some q)

  -- as many tables are reached as the ledger needs
  pub tabs_count : length (tabs (seen G W k)) ≡ length (needed G.K k L)
  tabs_count = omega (
    arith,
    length_within (tabs (seen G W k)) (needed_tables I k top) (tabs_distinct I k top) tabs_needed,
    length_within (needed_tables I k top) (tabs (seen G W k)) (needed_tables_distinct I k top) needed_tabs,
    length-map (needed G.K k L) (λ (a : Reg). T a.h a.r),
  )

  -- with the free ones and the root they are all
  pub all_tables : suc (f + length (tabs (seen G W k))) ≡ G.n
  all_tables = omega (arith, tabs_count, pool_count I k top)

-- ledgers with the same mappings, in whatever order, need as many tables
pub needed_same : (K k : ℕ) (L L' : List Mapping) → ((m : Mapping) → Memᴰ m L → Memᴰ m L')
    → ((m : Mapping) → Memᴰ m L' → Memᴰ m L) → length (needed K k L) ≡ length (needed K k L')
needed_same K k L L' f g = omega (arith, half L L' f, half L' L g)
  where
    half : (L L' : List Mapping) → ((m : Mapping) → Memᴰ m L → Memᴰ m L')
        → length (needed K k L) ≤ length (needed K k L')
    half L L' f = length_within (needed K k L) (needed K k L') (needed_distinct K k L)
        (λ a m. let (l, (b, c, d)) = needed_from K k L a m in needed_has K k L' a l (b, f b c, d))
