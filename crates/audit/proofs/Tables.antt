-- What is seen at a table and at its entries, and how much of it there can be.
use Rattle.std.proofs.Common.{◌≡◌, ℕ, zero, suc, ◌+◌, ◌-◌, ◌*◌, ◌^◌, ◌<◌, ◌≤◌, Bool, true, false, cond, not, ◌&&◌, ◌||◌, eqb, List, [], ◌∷◌, ◌++◌, length, get_or, drop, set, Option, None, sym, refl, ap, ◌∙◌, subst, ap₂, true≢false, mul-le-mul_right, suc-mul, sub-one, add-one, arith, lit<, length-append, length-set, drop_of_length-le, take_all, drop-cons}
use mathlib.Core.Bool.{false≢true}
use native.Mathlib.Nat.{pow-succ', one-le-pow, pow-le-pow_right}
use native.Mathlib.Decide.{dec_lt}
use lib.ListN.{get_or-eq_default}
use Rattle.laws.specs.Lists.{part, all_zero}
use Rattle.laws.specs.ListLaws.{length_part, length_part_le, get_d_part}
use Rattle.path.specs.Geometry.{Granule, granule_of, entries, size_at, at_level}
use Rattle.path.specs.Areas.{Area, meets_area}
use Rattle.entry.specs.Words.{entry_at}
use Rattle.path.specs.Laws.{granule_sane, granule_either, level_some, table_ends}
use Rattle.entry.proofs.Laws.{entry_zero, table_only}
use Rattle.entry.specs.declared.Entry.{Entry}
use Rattle.entry.specs.declared.Entry.TheVariants.{Empty, Table, Frame, Damaged}
use Rattle.model.specs.Walk.{slot}
use Rattle.model.specs.Audit.{Found, nothing, ◌⊕◌, table_words, of_entry, of_entries, of_visit, of_table, none_inside}
use Rattle.model.specs.Sound.{word_at}
use Rattle.audit.specs.Checks.{granule_in, area_in, kept_in, Seen, seen, clash, marks, mark, counted, Ends, Answers, below_of, at_table, at_word, at_entry, is_fresh, RunsFit, TableFit, EntryFit}
use Rattle.audit.specs.declared.Look.{Look}
use Rattle.model.specs.declared.Counts.{Counts}
use Rattle.audit.proofs.Parts.{◌⊞◌, unseen, unseen-⊞, seen-⊕, Room, Goes, goes_bad, goes_good, goes_answers, Carried, carried_start, carried_bad, carried_few, carried_more, carried_end}

pub or-true : (x : Bool) → (x || true) ≡ true
or-true true = refl
or-true false = refl

pub or-false : (x : Bool) → (x || false) ≡ x
or-false true = refl
or-false false = refl

-- ---- what is seen is the same from any address

module _ (G : Granule) (look : Look) (h : ℕ) (below : ℕ → ℕ → Found) (same : (c u v : ℕ) → seen G look (below c u) ≡ seen G look (below c v)) where
  same_entry : (u v : ℕ) (e : Entry) → seen G look (of_entry G h u below e) ≡ seen G look (of_entry G h v below e)
  unfolding none_inside
  same_entry u v Empty = refl
  same_entry u v (Table c) = same c u v
  same_entry u v (Frame b k) = refl
  same_entry u v Damaged = refl

  same_entries : (u v : ℕ) (l : List ℕ) → seen G look (of_entries G (area_in look) h u below l) ≡ seen G look (of_entries G (area_in look) h v below l)
  unfolding of_entries
  same_entries u v [] = refl
  same_entries u v (w ∷ l) =
      seen-⊕ G look (of_entry G h u below (entry_at G (area_in look) h w)) (of_entries G (area_in look) h (u + size_at G h) below l)
      ∙ ap₂ ◌⊞◌ (same_entry u v (entry_at G (area_in look) h w)) (same_entries (u + size_at G h) (v + size_at G h) l)
      ∙ sym (seen-⊕ G look (of_entry G h v below (entry_at G (area_in look) h w)) (of_entries G (area_in look) h (v + size_at G h) below l))

  same_node : (ws l : List ℕ) (t u v : ℕ) → seen G look (of_visit ws t ⊕ of_entries G (area_in look) h u below l) ≡ seen G look (of_visit ws t ⊕ of_entries G (area_in look) h v below l)
  same_node ws l t u v =
      seen-⊕ G look (of_visit ws t) (of_entries G (area_in look) h u below l)
      ∙ ap (λ (s : Seen). seen G look (of_visit ws t) ⊞ s) (same_entries u v l)
      ∙ sym (seen-⊕ G look (of_visit ws t) (of_entries G (area_in look) h v below l))

same_table : (G : Granule) (ws : List ℕ) (look : Look) (h t u v : ℕ) → seen G look (of_table G ws (area_in look) h t u) ≡ seen G look (of_table G ws (area_in look) h t v)
unfolding of_table
same_table G ws look zero t u v = same_node G look zero (λ _ _. nothing false) (λ c u v. refl) (table_words G ws t) (table_words G ws t) t u v
same_table G ws look (suc h) t u v =
    same_node G look (suc h) (λ c u. of_table G ws (area_in look) h c u) (same_table G ws look h) (table_words G ws t) (table_words G ws t) t u v

same_below : (G : Granule) (ws : List ℕ) (look : Look) (h c u v : ℕ) → seen G look (below_of G ws (area_in look) h c u) ≡ seen G look (below_of G ws (area_in look) h c v)
unfolding below_of
same_below G ws look zero c u v = refl
same_below G ws look (suc h) c u v = same_table G ws look h c u v

below_table : (G : Granule) (ws : List ℕ) (look : Look) (h c : ℕ) → 1 ≤ h → seen G look (below_of G ws (area_in look) h c 0) ≡ at_table G ws look (h - 1) c
unfolding below_of
below_table G ws look zero c l = absurd (omega arith)
below_table G ws look (suc h) c l = rw (sub-one (suc h))

-- ---- a table, entry by entry

-- table t alone
abbrev pub at_visit : Granule → List ℕ → Look → ℕ → Seen
at_visit G ws look t = seen G look (of_visit (table_words G ws t) t)

-- its entries from entry i on
abbrev pub at_rest : Granule → List ℕ → Look → ℕ → ℕ → ℕ → Seen
at_rest G ws look h t i = seen G look (of_entries G (area_in look) h 0 (below_of G ws (area_in look) h) (drop i (table_words G ws t)))

module _ (G : Granule) (ws : List ℕ) (look : Look) (h t : ℕ) where
  entries_are : (h : ℕ) → of_table G ws (area_in look) h t 0 ≡ of_visit (table_words G ws t) t ⊕ of_entries G (area_in look) h 0 (below_of G ws (area_in look) h) (table_words G ws t)
  unfolding of_table below_of
  entries_are zero = refl
  entries_are (suc h) = refl

  pub table_parts : at_table G ws look h t ≡ at_visit G ws look t ⊞ at_rest G ws look h t 0
  table_parts =
      ap (seen G look) (entries_are h)
      ∙ seen-⊕ G look (of_visit (table_words G ws t) t) (of_entries G (area_in look) h 0 (below_of G ws (area_in look) h) (table_words G ws t))

  pub rest_none : (i : ℕ) → entries G ≤ i → at_rest G ws look h t i ≡ unseen
  unfolding of_entries none_inside
  rest_none i l = rw (drop_of_length-le (table_words G ws t) {i = i} (omega (arith, length_part_le ws (slot G t 0) (entries G))))

  -- word i of the table, past the end of the words too
  word_is : (i : ℕ) → i < entries G → get_or (table_words G ws t) i 0 ≡ word_at G ws t i
  word_is i l = get_d_part ws (slot G t 0) (entries G) i l ∙ ap (λ (j : ℕ). get_or ws j 0) (omega arith)

  pub rest_parts : (i : ℕ) → i < entries G → at_rest G ws look h t i ≡ at_entry G ws look h t i ⊞ at_rest G ws look h t (i + 1)
  unfolding of_entries none_inside
  rest_parts i l = rw (add-one i, ← word_is i l) (go (dec_lt i (length words)))
    where
      words : List ℕ
      words = table_words G ws t

      below : ℕ → ℕ → Found
      below = below_of G ws (area_in look) h

      of : ℕ → List ℕ → Seen
      of v k = seen G look (of_entries G (area_in look) h v below k)

      go : Dec (i < length words) → of 0 (drop i words) ≡ seen G look (of_entry G h 0 below (entry_at G (area_in look) h (get_or words i 0))) ⊞ of 0 (drop (suc i) words)
      go (yes j) =
          rw (drop-cons words i 0 j)
          (seen-⊕ G look (of_entry G h 0 below (entry_at G (area_in look) h (get_or words i 0))) (of_entries G (area_in look) h (0 + size_at G h) below (drop (suc i) words))
          ∙ ap (λ (s : Seen). seen G look (of_entry G h 0 below (entry_at G (area_in look) h (get_or words i 0))) ⊞ s)
          (same_entries G look h below (same_below G ws look h) (0 + size_at G h) 0 (drop (suc i) words)))
      go (no j) =
          rw (drop_of_length-le words {i = i} (omega arith), drop_of_length-le words {i = suc i} (omega arith), get_or-eq_default words 0 {n = i} (omega arith), entry_zero G (area_in look) h)

  -- an empty entry adds nothing
  pub rest_skip : (i : ℕ) → i < entries G → word_at G ws t i ≡ 0 → at_rest G ws look h t i ≡ at_rest G ws look h t (i + 1)
  unfolding none_inside
  rest_skip i l z =
      let empty : at_entry G ws look h t i ≡ unseen = rw (z, entry_zero G (area_in look) h) in
      rest_parts i l ∙ ap (λ (s : Seen). s ⊞ at_rest G ws look h t (i + 1)) empty ∙ unseen-⊞ (at_rest G ws look h t (i + 1))

-- ---- how much there can be

record Small (F : Seen) (k : ℕ) : Type 0 where
  pub few : length F.reached ≤ k
  pub some_more : F.count ≤ k

small-⊞ : {F H : Seen} {j k m : ℕ} → Small F j → Small H k → j + k ≤ m → Small (F ⊞ H) m
small-⊞ f g l = record { few = rw length-append (omega (arith, f.few, g.few)); some_more = omega (arith, f.some_more, g.some_more) }

module _ (G : Granule) (look : Look) (h : ℕ) (below : ℕ → ℕ → Found) (B : ℕ) (one : 1 ≤ B) (f : (c v : ℕ) → Small (seen G look (below c v)) B) where
  small_entry : (v : ℕ) (e : Entry) → Small (seen G look (of_entry G h v below e)) B
  small_entry v Empty = record { few = omega arith; some_more = omega arith }
  small_entry v (Table c) = f c v
  small_entry v (Frame b k) = record { few = omega arith; some_more = one }
  small_entry v Damaged = record { few = omega arith; some_more = omega arith }

  small_entries : (v : ℕ) (l : List ℕ) → Small (seen G look (of_entries G (area_in look) h v below l)) (length l * B)
  unfolding of_entries
  small_entries v [] = record { few = omega arith; some_more = omega arith }
  small_entries v (w ∷ l) =
      rw (seen-⊕ G look (of_entry G h v below (entry_at G (area_in look) h w)) (of_entries G (area_in look) h (v + size_at G h) below l))
      (small-⊞ (small_entry v (entry_at G (area_in look) h w)) (small_entries (v + size_at G h) l) (omega (arith, suc-mul (length l) B)))

  small_node : (ws : List ℕ) (t v : ℕ) → Small (seen G look (of_visit (table_words G ws t) t ⊕ of_entries G (area_in look) h v below (table_words G ws t))) (suc (entries G) * B)
  small_node ws t v =
      let l = table_words G ws t in
      let m : length l * B ≤ entries G * B = mul-le-mul_right B (length_part_le ws (slot G t 0) (entries G)) in
      rw (seen-⊕ G look (of_visit l t) (of_entries G (area_in look) h v below l))
      (small-⊞ {F = at_visit G ws look t} {j = 1} (record { few = omega arith; some_more = omega arith }) (small_entries v l) (omega (arith, suc-mul (entries G) B)))

-- at most a power of the entries and one more
small_table : (G : Granule) (ws : List ℕ) (look : Look) (h t v : ℕ) → Small (seen G look (of_table G ws (area_in look) h t v)) (suc (entries G) ^ suc h)
unfolding of_table
small_table G ws look zero t v =
    rw (pow-succ' (suc (entries G)) 0)
    (small_node G look zero (λ _ _. nothing false) (suc (entries G) ^ 0) (one-le-pow 0 (suc (entries G)) (omega arith)) (λ c u. record { few = omega arith; some_more = omega arith }) ws t v)
small_table G ws look (suc h) t v =
    rw (pow-succ' (suc (entries G)) (suc h))
    (small_node G look (suc h) (λ c u. of_table G ws (area_in look) h c u) (suc (entries G) ^ suc h) (one-le-pow (suc h) (suc (entries G)) (omega arith)) (small_table G ws look h) ws t v)

-- which is little for both granules
power_small : (number h : ℕ) → h < (granule_of number).most → suc (entries (granule_of number)) ^ suc h ≤ 513 ^ 4
power_small number h =
    granule_either (λ G. h < G.most → suc (entries G) ^ suc h ≤ 513 ^ 4)
    (λ l. pow-le-pow_right (lit< tt) l)
    (λ l. let p : 2049 ^ suc h ≤ 2049 ^ 3 = pow-le-pow_right (lit< tt) l in omega arith)
    number

pub room_table : (ws : List ℕ) (look : Look) (h t : ℕ) → h < (granule_in look).most → Room (at_table (granule_in look) ws look h t) 0 0
room_table ws look h t l =
    let s = small_table (granule_in look) ws look h t 0 in
    let p = power_small look.tree.granule h l in
    record { few = omega (arith, s.few); some_more = omega (arith, s.some_more) }

-- ---- a table

module _ (G : Granule) (ws : List ℕ) (M : List Bool) (look : Look) (t : ℕ) where
  pub visit_fresh : is_fresh G ws M look.bare t ≡ true → Answers (at_visit G ws look t) M (counted 1 0) (set M t true)
  unfolding Answers mark none_inside
  visit_fresh e = go (not (get_or M t false)) ((eqb t 0 || not (all_zero (table_words G ws t))) || look.bare) e
    where
      go : (p q : Bool) → (p && q) ≡ true → Ends (cond q (cond p (marks (set M t true)) clash) clash) 1 0 (counted 1 0) (set M t true)
      go true true e = (refl, refl)
      go true false e = absurd (false≢true e)
      go false q e = absurd (false≢true e)

  pub visit_stale : is_fresh G ws M look.bare t ≡ false → (N : List Bool) → Answers (at_visit G ws look t) M None N
  unfolding Answers mark none_inside
  visit_stale e N = go (not (get_or M t false)) ((eqb t 0 || not (all_zero (table_words G ws t))) || look.bare) e
    where
      go : (p q : Bool) → (p && q) ≡ false → Ends (cond q (cond p (marks (set M t true)) clash) clash) 1 0 None N
      go true true e = absurd (true≢false e)
      go true false e = refl
      go false true e = refl
      go false false e = refl

-- the loop over its entries, before entry i: what is left of them answers for all
pub record Loop (ws : List ℕ) (look : Look) (h t : ℕ) (M₀ : List Bool) (a₀ b₀ : ℕ) (M : List Bool) (a b i : ℕ) : Type 0 where
  pub carried : Carried (at_rest (granule_in look) ws look h t 0) M₀ a₀ b₀ (at_rest (granule_in look) ws look h t i) M a b

module _ {ws : List ℕ} {look : Look} {h t : ℕ} {M₀ : List Bool} {a₀ b₀ : ℕ} {M : List Bool} {a b i : ℕ} (k : Loop ws look h t M₀ a₀ b₀ M a b i) where
  pub loop_end : entries (granule_in look) ≤ i → Goes (at_rest (granule_in look) ws look h t 0) M₀ a₀ b₀ (counted a b) M
  loop_end l = carried_end k.carried (rest_none (granule_in look) ws look h t i l)

  module _ (l : i < entries (granule_in look)) where
    pub loop_skip : word_at (granule_in look) ws t i ≡ 0 → Loop ws look h t M₀ a₀ b₀ M a b (i + 1)
    loop_skip z =
        record {
          carried =
              subst (λ (r : Seen). Carried (at_rest (granule_in look) ws look h t 0) M₀ a₀ b₀ r M a b)
              (rest_skip (granule_in look) ws look h t i l z)
              k.carried;
        }

    abbrev F : Seen
    F = at_entry (granule_in look) ws look h t i

    abbrev G : Seen
    G = at_rest (granule_in look) ws look h t (i + 1)

    next : at_rest (granule_in look) ws look h t i ≡ F ⊞ G
    next = rest_parts (granule_in look) ws look h t i l

    pub loop_bad : (N K : List Bool) → Answers (at_entry (granule_in look) ws look h t i) M None N → Goes (at_rest (granule_in look) ws look h t 0) M₀ a₀ b₀ None K
    loop_bad N K g = carried_bad k.carried F G next N K g

    module _ (x y : ℕ) (N : List Bool) (g : Answers (at_entry (granule_in look) ws look h t i) M (counted x y) N) where
      pub loop_few : (a + x < 2 ^ 64) × (b + y < 2 ^ 64)
      loop_few = carried_few k.carried F G next x y N g

      pub loop_more : length N ≡ length M → Loop ws look h t M₀ a₀ b₀ N (a + x) (b + y) (i + 1)
      loop_more e = record { carried = carried_more k.carried F G next x y N g e }

module _ (ws : List ℕ) (look : Look) (h t : ℕ) (M : List Bool) where
  abbrev all : Seen
  all = at_rest (granule_in look) ws look h t 0

  -- a table that was come to before, or is empty
  pub table_stale : is_fresh (granule_in look) ws M look.bare t ≡ false → Answers (at_table (granule_in look) ws look h t) M None M
  table_stale e =
      goes_answers (at_table (granule_in look) ws look h t) M None M
      (rw (table_parts (granule_in look) ws look h t) (goes_bad (at_visit (granule_in look) ws look t) all M 0 0 M M (visit_stale (granule_in look) ws M look t e M)))

  -- else its entries decide
  pub table_fresh : is_fresh (granule_in look) ws M look.bare t ≡ true → (r : Option Counts) (N : List Bool) → Goes all (set M t true) 1 0 r N → Answers (at_table (granule_in look) ws look h t) M r N
  table_fresh e r N g =
      goes_answers (at_table (granule_in look) ws look h t) M r N
      (rw (table_parts (granule_in look) ws look h t) (goes_good (at_visit (granule_in look) ws look t) all M 0 0 1 0 (set M t true) (visit_fresh (granule_in look) ws M look t e) r N g))

  pub table_starts : h < (granule_in look).most → Loop ws look h t M 1 0 M 1 0 0
  table_starts l =
      record {
        carried = carried_start all M 1 0 (rest (rw (table_parts (granule_in look) ws look h t) at (room_table ws look h t l)));
      }
    where
      rest : Room (at_visit (granule_in look) ws look t ⊞ all) 0 0 → Room all 1 0
      rest m = record { few = omega (arith, m.few); some_more = omega (arith, m.some_more) }

pub table_entry : {ws : List ℕ} {look : Look} {M N : List Bool} {t h a b i : ℕ} → TableFit M look t h → Loop ws look h t (set M t true) 1 0 N a b i
    → EntryFit N look h
table_entry {M = M} {t = t} f k = record { placed = f.placed; marked = omega (arith, f.marked, k.carried.long, length-set M t true); low = f.low }

-- a table of the tree is among the words
pub part_long : (ws us : List ℕ) {M : List Bool} {look : Look} {t h : ℕ} → TableFit M look t h → RunsFit look (length ws) (length us) → length (table_words (granule_in look) (ws ++ us) t) ≡ entries (granule_in look)
part_long ws us {look = look} {t = t} f r =
    length_part (ws ++ us) (slot (granule_in look) t 0) (entries (granule_in look)) (simp length-append (omega (arith, r.long, table_ends (entries (granule_in look)) f.inside)))

-- what the words of a table say of its entries
module _ (G : Granule) (ws us : List ℕ) (t : ℕ) (e : us ≡ table_words G ws t) where
  pub part_word : (i : ℕ) → i < entries G → get_or us i 0 ≡ word_at G ws t i
  part_word i l = ap (λ (x : List ℕ). get_or x i 0) e ∙ get_d_part ws (slot G t 0) (entries G) i l ∙ ap (λ (j : ℕ). get_or ws j 0) (omega arith)

-- what the word says, the entry says
pub at_word_lem : (ws : List ℕ) (look : Look) (h t i : ℕ) {w : ℕ} (M : List Bool) (r : Option Counts) (N : List Bool) → w ≡ word_at (granule_in look) ws t i → Answers (at_word (granule_in look) ws look h w) M r N
    → Answers (at_entry (granule_in look) ws look h t i) M r N
at_word_lem ws look h t i M r N e g = subst (λ (x : ℕ). Answers (at_word (granule_in look) ws look h x) M r N) e g

-- words as many as a table's are the words of table 0
pub part_own : (G : Granule) (us : List ℕ) → length us ≡ entries G → us ≡ table_words G us 0
unfolding part
part_own G us e = let z : slot G 0 0 ≡ 0 = omega arith in sym (rw z (take_all (entries G) us (omega arith)))

-- ---- an entry

module _ (ws : List ℕ) (M : List Bool) (look : Look) (h w : ℕ) (r : Option Counts) (N : List Bool) where
  -- what the word says decides
  says : (e : Entry) → entry_at (granule_in look) (area_in look) h w ≡ e → Answers (seen (granule_in look) look (of_entry (granule_in look) h 0 (below_of (granule_in look) ws (area_in look) h) e)) M r N → Answers (at_word (granule_in look) ws look h w) M r N
  says e q g = subst (λ (e : Entry). Answers (seen (granule_in look) look (of_entry (granule_in look) h 0 (below_of (granule_in look) ws (area_in look) h) e)) M r N) (sym q) g

  pub entry_empty : entry_at (granule_in look) (area_in look) h w ≡ Empty → r ≡ counted 0 0 → N ≡ M → Answers (at_word (granule_in look) ws look h w) M r N
  unfolding Answers mark none_inside
  entry_empty q a b = says Empty q (a, b)

  module _ (b k : ℕ) (q : entry_at (granule_in look) (area_in look) h w ≡ Frame b k) where
    pub entry_frame : meets_area (granule_in look) (kept_in look) b (size_at (granule_in look) h) ≡ false → r ≡ counted 0 1 → N ≡ M → Answers (at_word (granule_in look) ws look h w) M r N
    unfolding Answers mark none_inside
    entry_frame e a d = says (Frame b k) q (rw e (a, d))

    -- a frame that shares a byte with the tables
    pub entry_inside : meets_area (granule_in look) (kept_in look) b (size_at (granule_in look) h) ≡ true → r ≡ None → Answers (at_word (granule_in look) ws look h w) M r N
    unfolding Answers none_inside
    entry_inside e a = says (Frame b k) q (rw e a)

  pub entry_damaged : entry_at (granule_in look) (area_in look) h w ≡ Damaged → r ≡ None → Answers (at_word (granule_in look) ws look h w) M r N
  unfolding Answers none_inside
  entry_damaged q a = says Damaged q a

  pub entry_child : (c : ℕ) → entry_at (granule_in look) (area_in look) h w ≡ Table c → Answers (at_table (granule_in look) ws look (h - 1) c) M r N → Answers (at_word (granule_in look) ws look h w) M r N
  entry_child c q g = says (Table c) q (subst (λ (s : Seen). Answers s M r N) (sym (below_table (granule_in look) ws look h c (table_only (granule_sane look.tree.granule) (area_in look) h w q).0)) g)

-- the size of a frame at a height, as the code has it
pub met_by_size : (G : Granule) (area : Area) (b : ℕ) {s h : ℕ} {m x : Bool} → h < G.most → s ≡ at_level G h (size_at G h) → m ≡ meets_area G area b s → m ≡ x
    → meets_area G area b (size_at G h) ≡ x
met_by_size G area b {s} {h} l e q t = ap (meets_area G area b) (sym (level_some G l (size_at G h)) ∙ sym e) ∙ sym q ∙ t

pub entry_fit : {M : List Bool} {look : Look} {h : ℕ} → EntryFit M look h → (w c : ℕ) → entry_at (granule_in look) (area_in look) h w ≡ Table c
    → (0 < h) × TableFit M look c (h - 1)
entry_fit {look = look} f w c q =
    let (a, b, d, _) = table_only (granule_sane look.tree.granule) (area_in look) _ w q in
    (a, record { placed = f.placed; marked = f.marked; inside = d; low = omega (arith, f.low) })
