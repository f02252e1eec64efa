-- What the audit finds, table by table, is what the theory's traversal of the words lists.
use Rattle.std.specs.Prelude.{◌≡◌, refl, Bool, false, get_or, take}
use Rattle.std.proofs.Math.Path.{ap, sym}
use Rattle.std.proofs.Common.{◌∙◌, add-mul, mul_assoc, arith, take-suc, take_all, length-take-le}
use Rattle.std.proofs.Math.Bool.{true}
use mathlib.Core.List.{List, [], ◌∷◌, ◌++◌, map, append_assoc, append-nil}
use Rattle.std.proofs.Math.Option.{Option, some, none}
use Prim.Native.Nat.{ℕ, zero, suc, ◌+◌, ◌*◌, ◌≤◌, ◌<◌}
use Rattle.std.proofs.Math.Nat.{suc-mul}
use Rattle.std.proofs.Math.ListN.{length}
use Rattle.laws.specs.ListLaws.{length_part, get_d_part}
use Rattle.path.specs.Geometry.{Granule, entries, size_at, Sane}
use Rattle.path.specs.Laws.{size_suc}
use Rattle.entry.specs.Words.{entry_at}
use Rattle.entry.proofs.Laws.{frame_only, table_only, framed_paged}
use Rattle.entry.specs.declared.Entry.{Entry}
use Rattle.entry.specs.declared.Entry.TheVariants.{Empty, Table, Frame, Damaged}
use Rattle.path.specs.Areas.{Area, total, GoodArea}
use Rattle.model.specs.Answers as answers
use Rattle.model.specs.Walk.{slot}
use Rattle.model.specs.Audit.{Found, nothing, ◌⊕◌, table_words, of_entry, of_entries, of_table}
use Rattle.tree.specs.Tree.{Geo}
use Rattle.tree.specs.Visit.{Item, entry, gather, visit}
use Rattle.tree.specs.Reach.{keep, pick, item_tab, item_map, tabs, maps}
use Rattle.demand.specs.Shown.{shown, base_of}
use Rattle.demand.specs.Arm.{read_entry, geo, payload_base, payload_attrs}
use Rattle.demand.specs.Memories.{read_at, table_ends}

-- picking from a joined list
pub pick_append : {A B : Type 0} (f : A → Option B) (l k : List A) → pick f (l ++ k) ≡ pick f l ++ pick f k
pick_append f [] k = refl
pick_append {B = B} f (a ∷ l) k = go (f a) (pick_append f l k)
  where
    go : (o : Option B) → pick f (l ++ k) ≡ pick f l ++ pick f k → keep f o (pick f (l ++ k)) ≡ keep f o (pick f l) ++ pick f k
    go none ih = ih
    go (some b) ih = ap (λ (z : List B). b ∷ z) ih

pub map_append : {A B : Type 0} (f : A → B) (l k : List A) → map f (l ++ k) ≡ map f l ++ map f k
map_append f [] k = refl
map_append {B = B} f (a ∷ l) k = ap (λ (z : List B). f a ∷ z) (map_append f l k)

-- a part of what is found, that joins as what is found joins
pub record Part {Y : Type 0} (π : Found → List Y) (q : List Item → List Y) : Type 0 where
  pub none_found : (b : Bool) → π (nothing b) ≡ []
  pub joined : (a b : Found) → π (a ⊕ b) ≡ π a ++ π b
  pub no_item : q [] ≡ []
  pub more_items : (a b : List Item) → q (a ++ b) ≡ q a ++ q b

module _ (G : Granule) (Z : Sane G) (area : Area) (top : ℕ) (al : GoodArea G area) (ws : List ℕ) (long : length ws ≡ entries G * total area) where
  abbrev X : Geo
  X = geo G Z area top al

  abbrev K : ℕ
  K = entries G

  abbrev W : ℕ → ℕ → ℕ
  W = read_at G ws

  module _ {Y : Type 0} {π : Found → List Y} {q : List Item → List Y} (Q : Part π q) (h : ℕ) (below : ℕ → ℕ → Found) where
    -- entries one after the other
    entries_append : (v : ℕ) (a b : List ℕ) → π (of_entries G area h v below (a ++ b)) ≡ π (of_entries G area h v below a) ++ π (of_entries G area h (v + length a * size_at G h) below b)
    unfolding of_entries
    entries_append v [] b = ap (λ (u : ℕ). π (of_entries G area h u below b)) (omega arith) ∙ ap (λ (l : List Y). l ++ π (of_entries G area h (v + 0 * size_at G h) below b)) (sym (Q.none_found true))
    entries_append v (w ∷ a) b =
        Q.joined (of_entry G h v below (entry_at G area h w)) (of_entries G area h (v + size_at G h) below (a ++ b))
        ∙ ap (λ (l : List Y). first ++ l) (entries_append (v + size_at G h) a b)
        ∙ sym (append_assoc first (π (of_entries G area h (v + size_at G h) below a)) (π (of_entries G area h (v + size_at G h + length a * size_at G h) below b)))
        ∙ ap (λ (l : List Y). l ++ π (of_entries G area h (v + size_at G h + length a * size_at G h) below b)) (sym (Q.joined (of_entry G h v below (entry_at G area h w)) (of_entries G area h (v + size_at G h) below a)))
        ∙ ap (λ (u : ℕ). π (of_entries G area h v below (w ∷ a)) ++ π (of_entries G area h u below b)) (omega (arith, suc-mul (length a) (size_at G h)))
      where
        first : List Y
        first = π (of_entry G h v below (entry_at G area h w))

    module _ (t r : ℕ) (l : t < total area) (f : ℕ → List Item) (same : (i : ℕ) → i < K → π (of_entry G h ((r * K + i) * size_at G h) below (entry_at G area h (W t i))) ≡ q (f i)) where
      abbrev xs : List ℕ
      xs = table_words G ws t

      size : length xs ≡ K
      size = length_part ws (slot G t 0) K (omega (arith, table_ends K l))

      at : (i : ℕ) → i < K → get_or xs i 0 ≡ W t i
      at i b = get_d_part ws (slot G t 0) K i b ∙ ap (λ (j : ℕ). get_or ws j 0) (omega arith)

      prefix : (i : ℕ) → i ≤ K → π (of_entries G area h (r * K * size_at G h) below (take i xs)) ≡ q (gather f i)
      unfolding of_entries
      prefix zero b = Q.none_found true ∙ sym Q.no_item
      prefix (suc i) b =
          ap (λ (z : List ℕ). π (of_entries G area h (r * K * size_at G h) below z)) (take-suc xs i 0 (omega (arith, size)))
          ∙ entries_append (r * K * size_at G h) (take i xs) (get_or xs i 0 ∷ [])
          ∙ ap (λ (z : List Y). z ++ π (of_entry G h u below (entry_at G area h (get_or xs i 0)) ⊕ nothing true)) (prefix i (omega arith))
          ∙ ap (λ (z : List Y). q (gather f i) ++ z) last
          ∙ sym (Q.more_items (gather f i) (f i))
        where
          u : ℕ
          u = r * K * size_at G h + length (take i xs) * size_at G h

          u_is : u ≡ (r * K + i) * size_at G h
          u_is = ap (λ (j : ℕ). r * K * size_at G h + j * size_at G h) (length-take-le i xs (omega (arith, size))) ∙ sym (add-mul (r * K) i (size_at G h))

          last : π (of_entry G h u below (entry_at G area h (get_or xs i 0)) ⊕ nothing true) ≡ q (f i)
          last = Q.joined (of_entry G h u below (entry_at G area h (get_or xs i 0))) (nothing true)
              ∙ ap (λ (z : List Y). π (of_entry G h u below (entry_at G area h (get_or xs i 0))) ++ z) (Q.none_found true)
              ∙ append-nil (π (of_entry G h u below (entry_at G area h (get_or xs i 0))))
              ∙ ap (λ (w : ℕ). π (of_entry G h u below (entry_at G area h w))) (at i b)
              ∙ ap (λ (w : ℕ). π (of_entry G h w below (entry_at G area h (W t i)))) u_is
              ∙ same i b

      pub table_entries : π (of_entries G area h (r * K * size_at G h) below xs) ≡ q (gather f K)
      table_entries = ap (λ (z : List ℕ). π (of_entries G area h (r * K * size_at G h) below z)) (sym (take_all K xs (omega (arith, size)))) ∙ prefix K (omega arith)

  -- the tables reached
  pub reached_part : Part (λ (o : Found). o.reached) tabs
  reached_part = record { none_found = λ b. refl; joined = λ a b. refl; no_item = refl; more_items = pick_append item_tab }

  -- the mappings
  pub mappings_part : Part (λ (o : Found). o.mappings) (λ (l : List Item). map (shown G Z) (maps l))
  mappings_part = record { none_found = λ b. refl; joined = λ a b. refl; no_item = refl; more_items = λ a b. ap (map (shown G Z)) (pick_append item_map a b) ∙ map_append (shown G Z) (maps a) (maps b) }

  -- one entry
  entry_reached : (h r v w : ℕ) (below : ℕ → ℕ → Found) (under : ℕ → List Item) → ((c : ℕ) → entry_at G area h w ≡ Table c → (below c v).reached ≡ c ∷ tabs (under c))
      → (e : Entry) → entry_at G area h w ≡ e → (of_entry G h v below e).reached ≡ tabs (entry h r (read_entry e) under)
  entry_reached h r v w below under f Empty q = refl
  entry_reached h r v w below under f (Frame b k) q = refl
  entry_reached h r v w below under f Damaged q = refl
  entry_reached h r v w below under f (Table c) q = f c q

  entry_mappings : (h r w : ℕ) (below : ℕ → ℕ → Found) (under : ℕ → List Item)
      → ((c : ℕ) → entry_at G area h w ≡ Table c → (below c (r * size_at G h)).mappings ≡ map (shown G Z) (maps (under c)))
      → (e : Entry) → entry_at G area h w ≡ e → (of_entry G h (r * size_at G h) below e).mappings ≡ map (shown G Z) (maps (entry h r (read_entry e) under))
  entry_mappings h r w below under f Empty q = refl
  entry_mappings h r w below under f (Frame b k) q =
      let (F, _) = frame_only Z area h w q in
      ap (λ (x : ℕ). answers.mapping (r * size_at G h) x (size_at G h) k ∷ []) (sym (payload_base G Z area top al b k (framed_paged Z F) F.few))
      ∙ ap (λ (x : ℕ). answers.mapping (r * size_at G h) (base_of (b + k)) (size_at G h) x ∷ []) (sym (payload_attrs G Z area top al b k (framed_paged Z F) F.few))
  entry_mappings h r w below under f Damaged q = refl
  entry_mappings h r w below under f (Table c) q = f c q

  -- the first address of the entries of a region's table
  start : (h r : ℕ) → r * size_at G (suc h) ≡ r * K * size_at G h
  start h r = ap (λ (x : ℕ). r * x) (size_suc G h) ∙ sym (mul_assoc r K (size_at G h))

  low : (h w c : ℕ) → entry_at G area h w ≡ Table c → c < total area
  low h w c q = (table_only Z area h w q).2

  -- a table: what it and the tables below it hold
  pub table_reached : (h t r : ℕ) → t < total area → (of_table G ws area h t (r * size_at G (suc h))).reached ≡ t ∷ tabs (visit X W h t r)
  unfolding of_table visit
  table_reached zero t r l = ap (λ (z : List ℕ). t ∷ z) (ap (λ (v : ℕ). (of_entries G area zero v (λ _ _. nothing false) (table_words G ws t)).reached) (start zero r)
      ∙ table_entries reached_part zero (λ _ _. nothing false) t r l (λ i. entry zero (r * K + i) (read_entry (entry_at G area zero (W t i))) (λ _. []))
      (λ i b. entry_reached zero (r * K + i) ((r * K + i) * size_at G zero) (W t i) (λ _ _. nothing false) (λ _. []) (λ c q. absurd (omega (arith, (table_only Z area zero (W t i) q).0))) (entry_at G area zero (W t i)) refl))
  table_reached (suc h) t r l = ap (λ (z : List ℕ). t ∷ z) (ap (λ (v : ℕ). (of_entries G area (suc h) v (λ c u. of_table G ws area h c u) (table_words G ws t)).reached) (start (suc h) r)
      ∙ table_entries reached_part (suc h) (λ c u. of_table G ws area h c u) t r l (λ i. entry (suc h) (r * K + i) (read_entry (entry_at G area (suc h) (W t i))) (λ c. visit X W h c (r * K + i)))
      (λ i b. entry_reached (suc h) (r * K + i) ((r * K + i) * size_at G (suc h)) (W t i) (λ c u. of_table G ws area h c u) (λ c. visit X W h c (r * K + i))
      (λ c q. table_reached h c (r * K + i) (low (suc h) (W t i) c q)) (entry_at G area (suc h) (W t i)) refl))

  pub table_mappings : (h t r : ℕ) → t < total area → (of_table G ws area h t (r * size_at G (suc h))).mappings ≡ map (shown G Z) (maps (visit X W h t r))
  unfolding of_table visit
  table_mappings zero t r l = ap (λ (v : ℕ). (of_entries G area zero v (λ _ _. nothing false) (table_words G ws t)).mappings) (start zero r)
      ∙ table_entries mappings_part zero (λ _ _. nothing false) t r l (λ i. entry zero (r * K + i) (read_entry (entry_at G area zero (W t i))) (λ _. []))
      (λ i b. entry_mappings zero (r * K + i) (W t i) (λ _ _. nothing false) (λ _. []) (λ c q. absurd (omega (arith, (table_only Z area zero (W t i) q).0))) (entry_at G area zero (W t i)) refl)
  table_mappings (suc h) t r l = ap (λ (v : ℕ). (of_entries G area (suc h) v (λ c u. of_table G ws area h c u) (table_words G ws t)).mappings) (start (suc h) r)
      ∙ table_entries mappings_part (suc h) (λ c u. of_table G ws area h c u) t r l (λ i. entry (suc h) (r * K + i) (read_entry (entry_at G area (suc h) (W t i))) (λ c. visit X W h c (r * K + i)))
      (λ i b. entry_mappings (suc h) (r * K + i) (W t i) (λ c u. of_table G ws area h c u) (λ c. visit X W h c (r * K + i))
      (λ c q. table_mappings h c (r * K + i) (low (suc h) (W t i) c q)) (entry_at G area (suc h) (W t i)) refl)
