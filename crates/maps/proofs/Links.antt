-- The writes of a map, one by one in their order.
use Prim.Native.Nat.{ℕ, zero, suc, ◌+◌, ◌-◌, ◌*◌, ◌≤◌, ◌<◌}
use mathlib.Core.Path.{◌≡◌, refl, sym, ap, ◌∙◌}
use mathlib.Core.Bool.{Bool, true, false, cond}
use mathlib.Core.List.{List, [], ◌∷◌}
use native.Mathlib.Nat.{sub-zero}
use native.Mathlib.Numerals.{sub-one}
use native.Mathlib.Omega.{arith}
use lib.Dec.{ltb, leb}
use lib.ListN.{length, get_or, take, drop}
use lib.Seq.{take_all}
use borrow.Author.Tests.{le-leb}
use Rattle.path.specs.Geometry.{Granule, Sane, physical, at_level}
use Rattle.path.specs.Areas.{Area}
use Rattle.path.specs.Paths.{index_at, path_of}
use Rattle.entry.specs.Words.{table_word}
use Rattle.model.specs.Walk.{slot, at_height}
use Rattle.model.specs.Writes.{store, wipe, Memory, perform_all, map_writes}
use Rattle.plans.specs.Plan.{IsWrite}
use Rattle.plans.specs.Steps.{starts_with, goes_on, index_known}
use Rattle.maps.specs.Parts.{last_taken}

module _ (G : Granule) (area : Area) (path list : List ℕ) (g word : ℕ) where
  -- the next table is wiped, then linked
  pub map_more : (t f n : ℕ) → 0 < n
      → map_writes G area path list g word t f n
      ≡ wipe (get_or list (f - 1) 0) ∷ store (slot G t (at_height path (n + g))) (table_word G area (get_or list (f - 1) 0)) ∷ map_writes G area path list g word (get_or list (f - 1) 0) (f - 1) (n - 1)
  unfolding map_writes
  map_more t f zero h = absurd (omega arith)
  map_more t f (suc n) h = rw (sub-one (suc n))

  -- the frame's word is last
  pub map_last : (t f n : ℕ) → n ≡ 0 → map_writes G area path list g word t f n ≡ store (slot G t (at_height path g)) word ∷ []
  unfolding map_writes
  map_last t f n e = rw e

  -- no write of a map is to the free list
  pub map_list : (t f n : ℕ) (m : Memory) → (perform_all G (map_writes G area path list g word t f n) m).list ≡ m.list
  unfolding map_writes perform_all
  map_list t f zero m = refl
  map_list t f (suc n) m = map_list (get_or list (f - 1) 0) (f - 1) n _

  map_length : (t f n : ℕ) → length (map_writes G area path list g word t f n) ≡ 2 * n + 1
  unfolding map_writes
  map_length t f zero = refl
  map_length t f (suc n) = omega (arith, map_length (get_or list (f - 1) 0) (f - 1) n)

  -- these are all
  pub map_all : (t f n : ℕ) → take (2 * n + 1) (map_writes G area path list g word t f n) ≡ map_writes G area path list g word t f n
  map_all t f n = take_all (2 * n + 1) (map_writes G area path list g word t f n) (omega (arith, map_length t f n))

  taken_next : (f k : ℕ) → last_taken list (get_or list (f - 1) 0) (f - 1) k ≡ get_or list (f - suc k) 0
  taken_next f zero = refl
  taken_next f (suc k) = ap (λ (j : ℕ). get_or list j 0) (omega arith)

  -- once k tables are taken, those of the tables that are left
  map_from_lem : (k t f n : ℕ) → k ≤ n → drop (2 * k) (map_writes G area path list g word t f n) ≡ map_writes G area path list g word (last_taken list t f k) (f - k) (n - k)
  unfolding map_writes
  map_from_lem zero t f n h = rw (sub-zero f, sub-zero n)
  map_from_lem (suc k) t f zero h = absurd (omega arith)
  map_from_lem (suc k) t f (suc n) h =
      let two : 2 * suc k ≡ suc (suc (2 * k)) = omega arith in
      let c : ℕ = get_or list (f - 1) 0 in
      let left : f - 1 - k ≡ f - suc k = omega arith in
      let more : n - k ≡ suc n - suc k = omega arith in
      rw two
      (map_from_lem k c (f - 1) n (omega arith)
      ∙ (λ j. map_writes G area path list g word (taken_next f k j) (left j) (more j)))

  module _ (t f n k i : ℕ) where
    -- the writes of the next table
    from_next : {c : ℕ} → k < n → c ≡ get_or list (f - 1 - k) 0
        → drop (2 * k) (map_writes G area path list g word t f n)
        ≡ wipe c ∷ store (slot G (last_taken list t f k) (at_height path (n - k + g))) (table_word G area c) ∷ map_writes G area path list g word c (f - k - 1) (n - k - 1)
    from_next {c} h e =
        let same : get_or list (f - k - 1) 0 ≡ c = ap (λ (j : ℕ). get_or list j 0) (omega arith) ∙ sym e in
        map_from_lem k t f n (omega arith)
        ∙ map_more (last_taken list t f k) (f - k) (n - k) (omega arith)
        ∙ ap (λ (x : ℕ). wipe x ∷ store (slot G (last_taken list t f k) (at_height path (n - k + g))) (table_word G area x) ∷ map_writes G area path list g word x (f - k - 1) (n - k - 1)) same

    pub is_fill : {c : ℕ} → i ≡ 2 * k → k < n → c ≡ get_or list (f - 1 - k) 0 → IsWrite (map_writes G area path list g word t f n) i (wipe c)
    is_fill d h e = starts_with (map_writes G area path list g word t f n) i (ap (λ (j : ℕ). drop j (map_writes G area path list g word t f n)) d ∙ from_next h e)

    pub is_link : {c place value : ℕ} → i ≡ 2 * k + 1 → k < n → c ≡ get_or list (f - 1 - k) 0
        → place ≡ slot G (last_taken list t f k) (at_height path (n - k + g)) → value ≡ table_word G area c
        → IsWrite (map_writes G area path list g word t f n) i (store place value)
    is_link {c} {place} {value} d h e p v =
        starts_with (map_writes G area path list g word t f n) i
        (ap (λ (j : ℕ). drop j (map_writes G area path list g word t f n)) d
        ∙ goes_on (map_writes G area path list g word t f n) (2 * k) (from_next h e)
        ∙ (λ j. store (sym p j) (sym v j) ∷ map_writes G area path list g word c (f - k - 1) (n - k - 1)))

    pub is_last : {place : ℕ} → i ≡ 2 * k → k ≡ n → place ≡ slot G (last_taken list t f k) (at_height path (n - k + g))
        → IsWrite (map_writes G area path list g word t f n) i (store place word)
    is_last {place} d e p =
        let none : n - k + g ≡ g = omega arith in
        starts_with (map_writes G area path list g word t f n) i
        (ap (λ (j : ℕ). drop j (map_writes G area path list g word t f n)) d
        ∙ map_from_lem k t f n (omega arith)
        ∙ map_last (last_taken list t f k) (f - k) (n - k) (omega arith)
        ∙ ap (λ (x : ℕ). store x word ∷ []) (sym (p ∙ ap (λ (h : ℕ). slot G (last_taken list t f k) (at_height path h)) none)))

-- both regions start below the end of the physical addresses, so that the word of a table is what the code has for it
pub link_word : (area : Area) (c : ℕ) {w x : ℕ} → area.base ≤ physical → area.base₂ ≤ physical
    → w ≡ cond (leb (cond (ltb c area.tables) area.base area.base₂) physical) x 0 → w ≡ x
link_word area c {w} {x} l m e = go (ltb c area.tables) e
  where
    go : (b : Bool) → w ≡ cond (leb (cond b area.base area.base₂) physical) x 0 → w ≡ x
    go true e = rw (le-leb area.base physical l) at e
    go false e = rw (le-leb area.base₂ physical m) at e

-- the place of the entry that is written once k tables are taken
module _ (G : Granule) (list : List ℕ) (a g t f n k : ℕ) where
  pub place_first : {first : ℕ} → k ≡ 0 → first ≡ slot G t (at_height (path_of G a) (g + n))
      → first ≡ slot G (last_taken list t f k) (at_height (path_of G a) (n - k + g))
  place_first z e =
      let all : n - 0 + g ≡ g + n = omega arith in
      rw (z, all) e

  pub place_later : Sane G → {u i place : ℕ} → 0 < k → n - k + g < G.most → u ≡ get_or list (f - k) 0
      → i ≡ at_level G (n - k + g) (index_at G a (n - k + g)) → place ≡ slot G u i
      → place ≡ slot G (last_taken list t f k) (at_height (path_of G a) (n - k + g))
  place_later S {u} {i} h l d e p =
      p ∙ (λ j. slot G ((d ∙ last k h) j) (index_known S a (n - k + g) l e j))
    where
      last : (k : ℕ) → 0 < k → get_or list (f - k) 0 ≡ last_taken list t f k
      last zero h = absurd (omega arith)
      last (suc k) h = refl
