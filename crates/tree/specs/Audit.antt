-- The audit's rules, and that they are the invariant, both ways.
-- `Accepts G W P f k` states the rules, over words and free list alone. `accepted`: words that keep them are those of a tree,
-- read off from the root down, and the ledger is the mappings met. `accepts`: a pool at rest keeps them. So a pool that the
-- audit accepts may start a sequence of calls, and after any sequence the audit accepts.
use Rattle.std.specs.Prelude.{◌≡◌, refl, ◌≢◌, ◌⊎◌, ℕ, zero, suc, ◌+◌, ◌-◌, ◌*◌, ◌/◌, ◌%◌, ◌≤◌, ◌<◌, length}
use Rattle.std.proofs.Common.{ap, sym, ◌∙◌, subst, subst₂, inl, inr, ⊎_elim, mod-lt, arith, length-append}
use Rattle.std.proofs.Math.Logic.{ite, if_pos, if_neg}
use mathlib.Core.List.Memᴰ
use mathlib.Core.List.Memᴰ.{head as here}
use mathlib.Core.List.Memᴰ.{tail as there}
use mathlib.Core.List.{List, ◌++◌, Memᴰ}
use Rattle.std.proofs.Math.Option.{some}
use Rattle.std.proofs.Math.Decide.{ℕ_discrete, dec_le}
use Rattle.std.proofs.Math.Arith.{digits_div}
use Rattle.tree.specs.Region.{Same}
use Rattle.tree.specs.Tree.{Ent, empty, frame, table, table≢empty, table≢frame, empty≢frame, read_empty, Read, r_empty, r_frame, r_table, r_bad, read_of, Geo, Unused, Rendered}
use Rattle.tree.specs.Walk.{Shape, Rooted, shape, rooted, nonzero}
use Rattle.tree.specs.Inv.{Mapping, mapping, Holds, InvIf, Inv}
use Rattle.tree.specs.Count.{Distinct, has_all, distinct_append, places, places_length, places_distinct, places_from_lem}
use Rattle.tree.specs.Prune.{Bare, some_word}
use Rattle.tree.specs.Visit.{Item, item, seen, seen_from, seen_has, read_at_lem}
use Rattle.tree.specs.Reach.{pick_has, pick_from, pick_once, tab_of, map_of, item_tab, item_map, tabs, maps, reached, tab_is, map_is, tab_at, tabs_distinct, all_tables}

-- an entry is sound: empty, a frame, or the name of a table that `below` takes
abbrev pub SoundE : Read → (ℕ → Type 0) → Type 0
SoundE r_empty below = Unit {0}
SoundE (r_frame x) below = Unit {0}
SoundE (r_table c) below = below c
SoundE r_bad below = ⊥

-- table t, with entries of height h, is sound: each of its entries is
abbrev pub SoundT : Geo → (ℕ → ℕ → ℕ) → ℕ → ℕ → Type 0
SoundT G W zero t = (i : ℕ) → i < G.K → SoundE (G.dec zero (W t i)) (λ _. ⊥)
SoundT G W (suc h) t = (i : ℕ) → i < G.K → SoundE (G.dec (suc h) (W t i)) (λ c. SoundT G W h c)

-- the audit's rules, with f free tables at the first places of P and entries of the root of height k
pub record Accepts (G : Geo) (W : ℕ → ℕ → ℕ) (P : ℕ → ℕ) (f k : ℕ) : Type 0 where
  -- the root's table is sound
  pub sound : SoundT G W k 0
  -- no table is reached twice
  pub distinct : Distinct (reached G W k)
  -- no table reached but the root is all zero
  pub alive : (c : ℕ) → Memᴰ c (tabs (seen G W k)) → Bare W c G.K → ⊥
  -- free numbers are in range, distinct and not reached
  pub range : (i : ℕ) → i < f → P i < G.n
  pub once : (i j : ℕ) → i < f → j < f → P i ≡ P j → i ≡ j
  pub apart : (i : ℕ) → i < f → Memᴰ (P i) (reached G W k) → ⊥
  -- free tables are all zero
  pub zeros : (i : ℕ) → i < f → Bare W (P i) G.K
  -- free + reached = n
  pub total : f + length (reached G W k) ≡ G.n

-- the entry that a word says
abbrev ent_of : Read → Ent
ent_of r_empty = empty
ent_of (r_frame x) = frame x
ent_of (r_table c) = table
ent_of r_bad = empty

-- and its table's number
abbrev num_of : Read → ℕ
num_of r_empty = 0
num_of (r_frame x) = 0
num_of (r_table c) = c
num_of r_bad = 0

read_back : (e : Read) → e ≢ r_bad → read_of (ent_of e) (num_of e) ≡ e
read_back r_empty p = refl
read_back (r_frame x) p = refl
read_back (r_table c) p = refl
read_back r_bad p = absurd (p refl)

table_back : (e : Read) → ent_of e ≡ table → e ≡ r_table (num_of e)
table_back r_empty p = cc
table_back (r_frame x) p = cc
table_back (r_table c) p = refl
table_back r_bad p = cc

frame_back : (e : Read) (x : ℕ) → ent_of e ≡ frame x → e ≡ r_frame x
frame_back r_empty x p = cc
frame_back (r_frame y) x p = cc
frame_back (r_table c) x p = cc
frame_back r_bad x p = cc

module _ (G : Geo) (W : ℕ → ℕ → ℕ) where
  -- what the entry at index i, of height h, says of a table that a word names; of no table, nothing
  abbrev under : ℕ → ℕ → Read → Read
  under h i r_empty = r_empty
  under h i (r_frame x) = r_empty
  under h i (r_table t) = G.dec h (W t i)
  under h i r_bad = r_empty

  -- what stands at region r, d heights below the root's
  abbrev found : ℕ → ℕ → ℕ → Read
  found k zero r = ite (ℕ_discrete r 0) (r_table 0) r_empty
  found k (suc d) r = under (k - d) (r % G.K) (found k d (r / G.K))

  -- what stands at region (h, r), read from the root down
  abbrev read_at : ℕ → ℕ → ℕ → Read
  read_at k h r = ite (dec_le h (suc k)) (found k (suc k - h) r) r_empty

  -- the tree that the words are read as
  abbrev pub Sᵃ : ℕ → ℕ → ℕ → Ent
  Sᵃ k h r = ent_of (read_at k h r)

  -- and its table numbers
  abbrev pub Tᵃ : ℕ → ℕ → ℕ → ℕ
  Tᵃ k h r = num_of (read_at k h r)

module _ (G : Geo) (W : ℕ → ℕ → ℕ) (k : ℕ) where
  at_in : (h r : ℕ) → h ≤ suc k → read_at G W k h r ≡ found G W k (suc k - h) r
  at_in h r l = if_pos (dec_le h (suc k)) l (found G W k (suc k - h) r) r_empty

  at_out : (h r : ℕ) → (h ≤ suc k → ⊥) → read_at G W k h r ≡ r_empty
  at_out h r l = if_neg (dec_le h (suc k)) l (found G W k (suc k - h) r) r_empty

  -- one height down
  at_step : (h r : ℕ) → h ≤ k → read_at G W k h r ≡ under G W h (r % G.K) (read_at G W k (suc h) (r / G.K))
  at_step h r l =
      let a : suc k - h ≡ suc (k - h) = omega arith in
      let b : k - (k - h) ≡ h = omega arith in
      let c : k - h ≡ suc k - suc h = omega arith in
      at_in h r (omega arith) ∙ ap (λ (d : ℕ). found G W k d r) a
      ∙ ap (λ (j : ℕ). under G W j (r % G.K) (found G W k (k - h) (r / G.K))) b
      ∙ ap (λ (d : ℕ). under G W h (r % G.K) (found G W k d (r / G.K))) c
      ∙ ap (under G W h (r % G.K)) (sym (at_in (suc h) (r / G.K) (omega arith)))

  at_top : (h r : ℕ) → h ≡ suc k → read_at G W k h r ≡ ite (ℕ_discrete r 0) (r_table 0) r_empty
  at_top h r e = let z : suc k - h ≡ 0 = omega arith in at_in h r (omega arith) ∙ ap (λ (d : ℕ). found G W k d r) z

  -- at the root's height only the root stands
  top_only : (h r : ℕ) → h ≡ suc k → read_at G W k h r ≢ r_empty → (r ≡ 0) × (read_at G W k h r ≡ r_table 0)
  top_only h r e p = go (ℕ_discrete r 0)
    where
      go : Dec (r ≡ 0) → (r ≡ 0) × (read_at G W k h r ≡ r_table 0)
      go (yes z) = (z, at_top h r e ∙ if_pos (ℕ_discrete r 0) z (r_table 0) r_empty)
      go (no z) = absurd (p (at_top h r e ∙ if_neg (ℕ_discrete r 0) z (r_table 0) r_empty))

  -- what is not empty stands in a table
  hangs : (h r : ℕ) → h ≤ k → read_at G W k h r ≢ r_empty
      → (t : ℕ) × (read_at G W k (suc h) (r / G.K) ≡ r_table t) × (read_at G W k h r ≡ G.dec h (W t (r % G.K)))
  hangs h r l p = go (read_at G W k (suc h) (r / G.K)) refl
    where
      step : {e : Read} → read_at G W k (suc h) (r / G.K) ≡ e → read_at G W k h r ≡ under G W h (r % G.K) e
      step q = at_step h r l ∙ ap (under G W h (r % G.K)) q

      go : (e : Read) → read_at G W k (suc h) (r / G.K) ≡ e
          → (t : ℕ) × (read_at G W k (suc h) (r / G.K) ≡ r_table t) × (read_at G W k h r ≡ G.dec h (W t (r % G.K)))
      go r_empty q = absurd (p (step q))
      go (r_frame x) q = absurd (p (step q))
      go (r_table t) q = (t, q, step q)
      go r_bad q = absurd (p (step q))

  full_at : (h r : ℕ) → Sᵃ G W k h r ≢ empty → read_at G W k h r ≢ r_empty
  full_at h r p q = p (ap ent_of q)

  in_top : (h r : ℕ) → Sᵃ G W k h r ≢ empty → h ≤ suc k
  in_top h r p = go (dec_le h (suc k))
    where
      go : Dec (h ≤ suc k) → h ≤ suc k
      go (yes l) = l
      go (no l) = absurd (full_at h r p (at_out h r l))

  -- the tree has its root
  rootedᵃ : suc k ≡ G.top → Rooted G (Tᵃ G W k) (Sᵃ G W k) k
  rootedᵃ top = record {
    top = top;
    stands = ap ent_of root;
    number = ap num_of root;
    only = λ r p. (top_only (suc k) r refl (full_at (suc k) r p)).0;
  }
    where
      root : read_at G W k (suc k) 0 ≡ r_table 0
      root = at_top (suc k) 0 refl ∙ if_pos (ℕ_discrete 0 0) refl (r_table 0) r_empty

  module _ (ok : SoundT G W k 0) where
    -- every table found is sound
    sound_at : (d h : ℕ) → h + d ≡ k → (r t : ℕ) → read_at G W k (suc h) r ≡ r_table t → SoundT G W h t
    sound_at zero h e r t p =
        let a : k ≡ h = omega arith in
        let z = (top_only (suc h) r (ap suc (sym a)) (λ q. let y : ◌≡◌ {A = ℕ} 0 1 = cc in omega arith)).1 in
        let b : 0 ≡ t = cc in
        subst₂ (λ (x y : ℕ). SoundT G W x y) a b ok
    sound_at (suc d) h e r t p =
        let (u, a, b) = hangs (suc h) r (omega arith) (λ q. let y : ◌≡◌ {A = ℕ} 0 1 = cc in omega arith) in
        let s = sound_at d (suc h) (omega arith) (r / G.K) u a (r % G.K) (mod-lt r G.K-pos) in
        subst (λ (x : Read). SoundE x (λ c. SoundT G W h c)) (sym b ∙ p) s

    entry_sound : (h t i : ℕ) → SoundT G W h t → i < G.K → G.dec h (W t i) ≢ r_bad
    entry_sound zero t i s l e = subst (λ (x : Read). SoundE x (λ _. ⊥)) e (s i l)
    entry_sound (suc h) t i s l e = subst (λ (x : Read). SoundE x (λ c. SoundT G W h c)) e (s i l)

    -- so no word of the tree is damaged
    no_bad : (h r : ℕ) → read_at G W k h r ≢ r_bad
    no_bad h r p = go (dec_le h k) (ℕ_discrete h (suc k))
      where
        full : read_at G W k h r ≢ r_empty
        full q = let y : ◌≡◌ {A = ℕ} 0 1 = cc in omega arith

        go : Dec (h ≤ k) → Dec (h ≡ suc k) → ⊥
        go (yes l) d =
            let (t, a, b) = hangs h r l full in
            let s = sound_at (k - h) h (omega arith) (r / G.K) t a in
            entry_sound h t (r % G.K) s (mod-lt r G.K-pos) (sym b ∙ p)
        go (no l) (yes e) = let z = (top_only h r e full).1 in let y : ◌≡◌ {A = ℕ} 0 1 = cc in omega arith
        go (no l) (no e) = full (at_out h r (λ a. omega arith))

    -- and the words can be read as the tree
    shapeᵃ : suc k ≡ G.top → Shape G W (Tᵃ G W k) (Sᵃ G W k)
    shapeᵃ top = record {
      bound = λ h r p. omega (arith, in_top h r p);
      up = λ h r l p. ap ent_of (hangs h r (omega arith) (full_at h r p)).1;
      reads = λ h r p. sym (read_back (read_at G W k h r) (no_bad h r)
          ∙ at_step h r (omega (arith, in_top (suc h) (r / G.K) (table≢empty p)))
          ∙ ap (under G W h (r % G.K)) (table_back (read_at G W k (suc h) (r / G.K)) p));
    }

-- words that are a tree, with entries of the root of height k: the root's table is sound, and no table is reached twice
pub record IsTree (G : Geo) (W : ℕ → ℕ → ℕ) (k : ℕ) : Type 0 where
  pub some_table : zero < G.n
  pub sound : SoundT G W k 0
  pub distinct : Distinct (reached G W k)

-- they can be read as one
module _ {G : Geo} {W : ℕ → ℕ → ℕ} {k : ℕ} (top : suc k ≡ G.top) (A : IsTree G W k) where
  -- the tree
  abbrev S : ℕ → ℕ → Ent
  S = Sᵃ G W k

  -- its table numbers
  abbrev T : ℕ → ℕ → ℕ
  T = Tᵃ G W k

  -- the words can be read as it
  abbrev C : Shape G W T S
  C = shapeᵃ G W k A.sound top

  -- it has its root
  abbrev Z : Rooted G T S k
  Z = rootedᵃ G W k top

  -- a table of the tree is the root, or one that the traversal names
  abbrev Found : ℕ → ℕ → Type 0
  Found h r = ((h ≡ suc k) × (r ≡ 0) × (T h r ≡ 0)) ⊎ ((h ≤ k) × Memᴰ (T h r) (tabs (seen G W k)))

  tab_found : (h r : ℕ) → S h r ≡ table → Found h r
  tab_found h r p = go (dec_le h k)
    where
      go : Dec (h ≤ k) → Found h r
      go (yes l) =
          let m = seen_has C Z h r l (table≢empty p) in
          inr (l, pick_has item_tab (seen G W k) _ (T h r) m (ap (λ (z : Ent). tab_of (read_of z (T h r))) p))
      go (no l) =
          let e : h ≡ suc k = omega (arith, in_top G W k h r (table≢empty p)) in
          let z = top_only G W k h r e (full_at G W k h r (table≢empty p)) in
          inl (e, z.0, ap num_of z.1)

  -- a number that the traversal names is the table of a region
  tab_from : (c : ℕ) → Memᴰ c (tabs (seen G W k)) → (a : Item) × (S a.h a.r ≡ table) × (T a.h a.r ≡ c)
  tab_from c m =
      let (a, n, q) = pick_from item_tab (seen G W k) c m in
      let z = tab_is (S a.h a.r) (T a.h a.r) c (ap tab_of (sym (seen_from C Z a n).says) ∙ q) in
      (a, z.0, z.1)

  inj : (h r h' r' : ℕ) → S h r ≡ table → S h' r' ≡ table → T h r ≡ T h' r' → Same h' r' h r
  inj h r h' r' p p' e = go (tab_found h r p) (tab_found h' r' p')
    where
      go : Found h r → Found h' r' → Same h' r' h r
      go (inl (a, b, _)) (inl (c, d, _)) = (a ∙ sym c, b ∙ sym d)
      go (inl (a, b, z)) (inr (c, m)) = absurd (A.distinct.0 (Memᴰ.cast (sym z ∙ e) m))
      go (inr (a, m)) (inl (c, d, z)) = absurd (A.distinct.0 (Memᴰ.cast (sym z ∙ sym e) m))
      go (inr (a, m)) (inr (c, n)) = (ap (λ (z : Item). z.h) same, ap (λ (z : Item). z.r) same)
        where
          same : item h r (read_of (S h r) (T h r)) ≡ item h' r' (read_of (S h' r') (T h' r'))
          same = pick_once item_tab (seen G W k) A.distinct.1 _ _ (T h r) (seen_has C Z h r a (table≢empty p))
              (seen_has C Z h' r' c (table≢empty p')) (ap (λ (z : Ent). tab_of (read_of z (T h r))) p)
              (ap (λ (z : Ent). tab_of (read_of z (T h' r'))) p' ∙ ap some (sym e))

  -- what stands below the root was read from a word
  read_of_lem : (h r : ℕ) → h ≤ k → S h r ≢ empty → (w : ℕ) × (G.dec h w ≡ read_at G W k h r)
  read_of_lem h r l p = let (t, _, b) = hangs G W k h r l (full_at G W k h r p) in (W t (r % G.K), sym b)

  -- a table below the root was named by a word
  child : (h r : ℕ) → h ≤ k → S h r ≡ table → (zero < h) × (zero < T h r) × (T h r < G.n)
  child h r l p = let (w, e) = read_of_lem h r l (table≢empty p) in G.dec_child h w (T h r) (e ∙ table_back (read_at G W k h r) p)

  range : (h r : ℕ) → S h r ≡ table → T h r < G.n
  range h r p = ⊎_elim (λ z. omega (arith, z.2, A.some_table)) (λ z. (child h r z.0 p).2) (tab_found h r p)

  frame_in : (h r x : ℕ) → S h r ≡ frame x → h ≤ k
  frame_in h r x p = go (dec_le h k)
    where
      go : Dec (h ≤ k) → h ≤ k
      go (yes l) = l
      go (no l) =
          let ne : S h r ≢ empty = (λ z. empty≢frame z p) in
          let e : h ≡ suc k = omega (arith, in_top G W k h r ne) in
          absurd (table≢frame (ap ent_of (top_only G W k h r e (full_at G W k h r ne)).1) p)

  good : (h r x : ℕ) → S h r ≡ frame x → G.Good h x
  good h r x p = let (w, e) = read_of_lem h r (frame_in h r x p) (λ z. empty≢frame z p) in
      G.dec_good h w x (e ∙ frame_back (read_at G W k h r) x p)

  pub treeᵃ-holds : Holds (Sᵃ G W k) (maps (seen G W k))
  treeᵃ-holds = record {
    listed = λ h r x p. pick_has item_map (seen G W k) (item h r (read_of (S h r) (T h r))) (mapping h r x)
        (seen_has C Z h r (frame_in h r x p) (λ z. empty≢frame z p)) (ap (λ (z : Ent). map_of h r (read_of z (T h r))) p);
    live = λ m n.
        let (a, b, q) = pick_from item_map (seen G W k) m n in
        let z = map_is a.h a.r (T a.h a.r) (S a.h a.r) m (ap (map_of a.h a.r) (sym (seen_from C Z a b).says) ∙ q) in
        ap (λ (y : Mapping). S y.h y.r) z.1 ∙ z.0;
  }

  -- where no table reached but the root is all zero, a table below the root has an entry
  pub kid : ((c : ℕ) → Memᴰ c (tabs (seen G W k)) → Bare W c G.K → ⊥)
      → (h r : ℕ) → S (suc h) r ≡ table → suc h ≤ k → (r' : ℕ) × (r' / G.K ≡ r) × (S h r' ≢ empty)
  kid alive h r p l = (r * G.K + i, digits_div r a, λ z. b (zero_word z))
    where
      named : Memᴰ (T (suc h) r) (tabs (seen G W k))
      named = ⊎_elim (λ z. absurd (omega (arith, z.0))) (λ z. z.1) (tab_found (suc h) r p)

      word : (i : ℕ) × (i < G.K) × (W (T (suc h) r) i ≢ 0)
      word = some_word W (T (suc h) r) G.K (alive (T (suc h) r) named)

      i : ℕ
      i = word.0

      a : i < G.K
      a = word.1

      b : W (T (suc h) r) i ≢ 0
      b = word.2

      zero_word : S h (r * G.K + i) ≡ empty → W (T (suc h) r) i ≡ 0
      zero_word z = G.enc_dec h (W (T (suc h) r) i) 0 empty
          (read_at_lem C h r i p a ∙ ap (λ (v : Ent). read_of v (T h (r * G.K + i))) z) ∙ G.enc_empty h 0

  pub treeᵃ : Rendered G W (Tᵃ G W k) (Sᵃ G W k)
  treeᵃ = record {
    root = subst (λ (h : ℕ). S h 0 ≡ table) top Z.stands;
    root_at = subst (λ (h : ℕ). T h 0 ≡ 0) top Z.number;
    bound = C.bound;
    only = λ r p. (top_only G W k G.top r (sym top) (full_at G W k G.top r p)).0;
    good = good;
    leaf = λ r p. omega (arith, (child 0 r (omega arith) p).0);
    up = C.up;
    range = range;
    inj = inj;
    words = λ h r p. G.enc_dec h _ (T h r) (S h r) (C.reads h r p);
  }

module _ {G : Geo} {W : ℕ → ℕ → ℕ} {P : ℕ → ℕ} {f k : ℕ} (top : suc k ≡ G.top) (A : Accepts G W P f k) where
  own_tree : IsTree G W k
  own_tree = record { some_table = omega (arith, A.total); sound = A.sound; distinct = A.distinct }

  -- the tree, and its table numbers
  abbrev Sᶜ : ℕ → ℕ → Ent
  Sᶜ = Sᵃ G W k

  abbrev Tᶜ : ℕ → ℕ → ℕ
  Tᶜ = Tᵃ G W k

  -- every number of the pool is reached or free
  every : (t : ℕ) → t < G.n → Memᴰ t (places P f) ⊎ Memᴰ t (reached G W k)
  every t l = Memᴰ.append_cases (places P f) (has_all G.n (places P f ++ reached G W k) once low count t l)
    where
      once : Distinct (places P f ++ reached G W k)
      once = distinct_append (places P f) (reached G W k) (places_distinct P f A.once) A.distinct
          (λ b m n. let (i, a, e) = places_from_lem P f b m in A.apart i a (Memᴰ.cast e n))

      reached_low : (b : ℕ) → (b ≡ 0) ⊎ Memᴰ b (tabs (seen G W k)) → b < G.n
      reached_low b (inl e) = omega (arith, A.total)
      reached_low b (inr m) = let (a, s, e) = tab_from top own_tree b m in omega (arith, e, (treeᵃ top own_tree).range a.h a.r s)

      low : (b : ℕ) → Memᴰ b (places P f ++ reached G W k) → b < G.n
      low b m = ⊎_elim (λ n. let (i, a, e) = places_from_lem P f b n in omega (arith, e, A.range i a))
          (λ n. reached_low b (Memᴰ.cases_cons n)) (Memᴰ.append_cases (places P f) m)

      count : length (places P f ++ reached G W k) ≡ G.n
      count = length-append (places P f) (reached G W k) ∙ omega (arith, A.total, places_length P f)

  unused_free : (t : ℕ) → t < G.n → Unused Tᶜ Sᶜ t → (i : ℕ) × (i < f) × (P i ≡ t)
  unused_free t l u = ⊎_elim (places_from_lem P f t) (λ m. absurd (used (Memᴰ.cases_cons m))) (every t l)
    where
      used : (t ≡ 0) ⊎ Memᴰ t (tabs (seen G W k)) → ⊥
      used (inl e) = u (suc k) 0 (rootedᵃ G W k top).stands ((rootedᵃ G W k top).number ∙ sym e)
      used (inr m) = let (a, s, e) = tab_from top own_tree t m in u a.h a.r s e

  free_unused : (i : ℕ) → i < f → Unused Tᶜ Sᶜ (P i)
  free_unused i l h r p e =
      A.apart i l (⊎_elim (λ z. here (sym e ∙ z.2)) (λ z. there (Memᴰ.cast (sym e) z.1)) (tab_found top own_tree h r p))

  -- what the audit accepts is a pool at rest, whose ledger is the mappings met
  pub accepted : Inv G W P f (Tᵃ G W k) (Sᵃ G W k) (maps (seen G W k)) G.top 0
  accepted = record {
    ren = treeᵃ top own_tree;
    holds = treeᵃ-holds top own_tree;
    dense = λ _ h r p l _. kid top own_tree A.alive h r p (omega arith);
    spare = λ _. record {
      free = record { each = λ i l. (A.range i l, free_unused i l); once = A.once; all = unused_free };
      zeros = λ t j l m u. let (i, a, e) = unused_free t l u in subst (λ (x : ℕ). W x j ≡ 0) e (A.zeros i a j m);
    };
  }

module _ {C D : Type 0} {G : Geo} {W : ℕ → ℕ → ℕ} {P : ℕ → ℕ} {f : ℕ} {T : ℕ → ℕ → ℕ} {S : ℕ → ℕ → Ent} {L : List Mapping} {h₀ r₀ : ℕ}
    (I : InvIf C D G W P f T S L h₀ r₀) (k : ℕ) (top : suc k ≡ G.top) where
  sound_entry : (h w : ℕ) (below : ℕ → Type 0) → (S h w ≡ table → below (T h w)) → SoundE (read_of (S h w) (T h w)) below
  sound_entry h w below f = go (S h w) refl
    where
      go : (e : Ent) → S h w ≡ e → SoundE (read_of e (T h w)) below
      go empty q = tt
      go (frame x) q = tt
      go table q = f q

  -- the tables of the tree are sound
  all_sound : (h r : ℕ) → S (suc h) r ≡ table → SoundT G W h (T (suc h) r)
  all_sound zero r p = λ i l. rw (read_at_lem (shape I.ren) zero r i p l)
      (sound_entry zero (r * G.K + i) (λ _. ⊥) (I.ren.leaf (r * G.K + i)))
  all_sound (suc h) r p = λ i l. rw (read_at_lem (shape I.ren) (suc h) r i p l)
      (sound_entry (suc h) (r * G.K + i) (λ c. SoundT G W h c) (λ q. all_sound h (r * G.K + i) q))

  -- a table that the traversal names is one of the tree, below the root
  pub named : (c : ℕ) → Memᴰ c (tabs (seen G W k)) → (a : Item) × (a.h ≤ k) × (S a.h a.r ≡ table) × (T a.h a.r ≡ c)
  named c m = let (a, n, q) = pick_from item_tab (seen G W k) c m in let (l, s, t) = tab_at I k top a c n q in (a, l, s, t)

  -- words that render a tree are one
  pub is_tree : IsTree G W k
  is_tree = record {
    some_table = omega (arith, I.ren.root_at, I.ren.range G.top 0 I.ren.root);
    sound = rw (rooted I.ren top).number at (all_sound k 0 (rooted I.ren top).stands);
    distinct = (
      λ m. let (a, l, s, t) = named 0 m in omega (arith, t, nonzero I.ren a.h a.r (omega arith) s),
      tabs_distinct I k top,
    );
  }

  -- a table that is not used is not reached
  pub unused_unreached : (c : ℕ) → Unused T S c → Memᴰ c (reached G W k) → ⊥
  unused_unreached c u m = ⊎_elim (λ e. u G.top 0 I.ren.root (I.ren.root_at ∙ sym e)) (λ n. let (a, _, s, t) = named c n in u a.h a.r s t) (Memᴰ.cases_cons m)

module _ {C D : Type 0} {G : Geo} {W : ℕ → ℕ → ℕ} {P : ℕ → ℕ} {f : ℕ} {T : ℕ → ℕ → ℕ} {S : ℕ → ℕ → Ent} {L : List Mapping}
    (I : InvIf C D G W P f T S L G.top 0) (all : C) (k : ℕ) (top : suc k ≡ G.top) where
  -- a table of the tree below the root is not all zero
  not_bare : (h r : ℕ) → h ≤ k → S h r ≡ table → Bare W (T h r) G.K → ⊥
  not_bare zero r l s z = I.ren.leaf r s
  not_bare (suc h) r l s z =
      let (r', d, n) = I.dense all h r s (omega arith) (λ z. omega (arith, z.0)) in
      let q : S (suc h) (r' / G.K) ≡ table = ap (S (suc h)) d ∙ s in
      let y : W (T (suc h) (r' / G.K)) (r' % G.K) ≡ 0 = rw d (z (r' % G.K) (mod-lt r' G.K-pos)) in
      n (read_empty _ (T h r') (sym ((shape I.ren).reads h r' q) ∙ ap (G.dec h) y ∙ G.dec_empty h))

  -- nor is one that the traversal names
  pub tree_alive : (c : ℕ) → Memᴰ c (tabs (seen G W k)) → Bare W c G.K → ⊥
  tree_alive c m z = let (a, l, s, t) = named I k top c m in not_bare a.h a.r l s (rw t z)

module _ {G : Geo} {W : ℕ → ℕ → ℕ} {P : ℕ → ℕ} {f : ℕ} {T : ℕ → ℕ → ℕ} {S : ℕ → ℕ → Ent} {L : List Mapping}
    (I : Inv G W P f T S L G.top 0) (k : ℕ) (top : suc k ≡ G.top) where
  -- a pool at rest is what the audit accepts
  pub accepts : Accepts G W P f k
  accepts = record {
    sound = (is_tree I k top).sound;
    distinct = (is_tree I k top).distinct;
    alive = tree_alive I tt k top;
    range = λ i l. ((I.spare tt).free.each i l).0;
    once = (I.spare tt).free.once;
    apart = λ i l. unused_unreached I k top (P i) ((I.spare tt).free.each i l).1;
    zeros = λ i l j b. (I.spare tt).zeros (P i) j ((I.spare tt).free.each i l).0 b ((I.spare tt).free.each i l).1;
    total = omega (arith, all_tables I k top);
  }
