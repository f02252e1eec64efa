-- The words of a table, and tests for zeros, step by step and word by word.
use Prim.Native.Nat.{ℕ, zero, suc, ◌+◌, ◌-◌, ◌*◌, ◌%◌, ◌≤◌, ◌<◌}
use mathlib.Core.Path.{◌≡◌, refl, sym, ap, ◌∙◌}
use mathlib.Core.Bool.{Bool, true, false, not, ◌&&◌}
use mathlib.Core.List.{List, [], ◌++◌}
use native.Mathlib.Decide.{ℕ_discrete, dec_lt}
use native.Mathlib.Omega.{arith}
use lib.Bits.{bit_or, or_add_and, and_le_l, and_le_r}
use lib.Dec.{eqb}
use lib.ListN.{length, get_or, set, take, drop, drop_of_length-le, length-drop}
use lib.Seq.{set_out, get_or-set_same, get_or-set_other, take_all}
use borrow.Author.Tests.{eqb-true, not-false}
use Rattle.std.specs.List.{list_all, range_with_len}
use Rattle.std.proofs.Common.{drop-cons}
use Rattle.laws.specs.Lists.{part, all_zero}
use Rattle.laws.specs.ListLaws.{get_d_part, part_first, part_later, length_part_le, all_zero_of, all_zero_not, all_zero_part_at, all_zero_part_some}
use Rattle.path.specs.Geometry.{granule_of, entries}
use Rattle.path.specs.Laws.{granule_either}
use Rattle.pool.proofs.Laws.{span, whole_table}

-- ---- words or'ed

both_zero : (a b : ℕ) → bit_or a b ≡ 0 → (a ≡ 0) × (b ≡ 0)
both_zero a b e = (omega (arith, or_add_and a b, and_le_r a b), omega (arith, or_add_and a b, and_le_l a b))

-- the bits of four words from a place on
abbrev four_bits : List ℕ → ℕ → ℕ → ℕ → ℕ → ℕ
four_bits ws a b c d = bit_or (bit_or (bit_or (get_or ws a 0) (get_or ws b 0)) (get_or ws c 0)) (get_or ws d 0)

four_zero : (ws : List ℕ) (a b c d : ℕ) → four_bits ws a b c d ≡ 0 → (get_or ws a 0 ≡ 0) × (get_or ws b 0 ≡ 0) × (get_or ws c 0 ≡ 0) × (get_or ws d 0 ≡ 0)
four_zero ws a b c d e =
    let (x, w) = both_zero _ _ e in
    let (y, v) = both_zero _ _ x in
    let (t, u) = both_zero _ _ y in
    (t, u, v, w)

-- eight words whose bits are all 0
pub step_zero : (ws : List ℕ) (i : ℕ)
    → not (eqb (bit_or (four_bits ws i (i + 1) (i + 2) (i + 3)) (four_bits ws (i + 4) (i + 5) (i + 6) (i + 7))) 0) ≡ false
    → (k : ℕ) → k < 8 → get_or ws (i + k) 0 ≡ 0
step_zero ws i e = each (four_zero ws i (i + 1) (i + 2) (i + 3) low.0) (four_zero ws (i + 4) (i + 5) (i + 6) (i + 7) low.1)
  where
    low : (four_bits ws i (i + 1) (i + 2) (i + 3) ≡ 0) × (four_bits ws (i + 4) (i + 5) (i + 6) (i + 7) ≡ 0)
    low = both_zero _ _ (eqb-true _ 0 (not-false _ e))

    each : (get_or ws i 0 ≡ 0) × (get_or ws (i + 1) 0 ≡ 0) × (get_or ws (i + 2) 0 ≡ 0) × (get_or ws (i + 3) 0 ≡ 0)
        → (get_or ws (i + 4) 0 ≡ 0) × (get_or ws (i + 5) 0 ≡ 0) × (get_or ws (i + 6) 0 ≡ 0) × (get_or ws (i + 7) 0 ≡ 0)
        → (k : ℕ) → k < 8 → get_or ws (i + k) 0 ≡ 0
    each (a, b, c, d) f zero l = let z : i + 0 ≡ i = omega arith in ap (λ (j : ℕ). get_or ws j 0) z ∙ a
    each (a, b, c, d) f (suc zero) l = b
    each (a, b, c, d) f (suc (suc zero)) l = c
    each (a, b, c, d) f (suc (suc (suc zero))) l = d
    each a (b, c, d, e) (suc (suc (suc (suc zero)))) l = b
    each a (b, c, d, e) (suc (suc (suc (suc (suc zero))))) l = c
    each a (b, c, d, e) (suc (suc (suc (suc (suc (suc zero)))))) l = d
    each a (b, c, d, e) (suc (suc (suc (suc (suc (suc (suc zero))))))) l = e
    each a b (suc (suc (suc (suc (suc (suc (suc (suc k)))))))) l = absurd (omega arith)

-- ---- a word that is left out

module _ (ws : List ℕ) (but : ℕ) where
  pub left_out : {i : ℕ} → i < length ws → i ≡ but → get_or (set ws but 0) i 0 ≡ 0
  left_out {i} l e = rw (← e) (get_or-set_same ws i 0 0 l)

  pub kept_in : {i : ℕ} → (i ≡ but → ⊥) → get_or (set ws but 0) i 0 ≡ get_or ws i 0
  kept_in {i} d = get_or-set_other ws but i 0 0 d

  -- a word that is 0 is so, left out or not
  zero_too : (i : ℕ) → i < length ws → get_or ws i 0 ≡ 0 → get_or (set ws but 0) i 0 ≡ 0
  zero_too i l z = go (ℕ_discrete i but)
    where
      go : Dec (i ≡ but) → get_or (set ws but 0) i 0 ≡ 0
      go (yes e) = left_out l e
      go (no d) = kept_in d ∙ z

-- ---- word by word, from one place to another

-- whether all are 0, as the library's search says it
pub range_zero : (xs : List ℕ) (from n : ℕ) → from + n ≤ length xs → list_all (λ i. eqb (get_or xs i 0) 0) (range_with_len from n) ≡ all_zero (part xs from n)
unfolding all_zero part
range_zero xs from zero l = refl
range_zero xs from (suc n) l =
    let e : from + 1 ≡ suc from = omega arith in
    rw (drop-cons xs from 0 (omega arith))
    (ap (λ (b : Bool). eqb (get_or xs from 0) 0 && b) (range_zero xs (from + 1) n (omega arith) ∙ ap (λ (k : ℕ). all_zero (take n (drop k xs))) e))

module _ (xs : List ℕ) where
  -- the words passed are 0
  abbrev pub Passed : ℕ → ℕ → Type 0
  Passed from i = (k : ℕ) → from ≤ k → k < i → get_or xs k 0 ≡ 0

  -- ---- step by step

  pub passed_step : {from i : ℕ} → Passed from i → ((k : ℕ) → k < 8 → get_or xs (i + k) 0 ≡ 0) → Passed from (i + 8)
  passed_step {from} {i} f e k l m = go (dec_lt k i)
    where
      go : Dec (k < i) → get_or xs k 0 ≡ 0
      go (yes h) = f k l h
      go (no h) = let z : i + (k - i) ≡ k = omega arith in ap (λ (j : ℕ). get_or xs j 0) (sym z) ∙ e (k - i) (omega arith)

  pub passed_both : {from i to : ℕ} → Passed from i → Passed i to → Passed from to
  passed_both {from} {i} f g k l m = go (dec_lt k i)
    where
      go : Dec (k < i) → get_or xs k 0 ≡ 0
      go (yes h) = f k l h
      go (no h) = g k (omega arith) m

  pub between_passed : {from to : ℕ} → all_zero (part xs from (to - from)) ≡ true → Passed from to
  between_passed {from} {to} e k l m =
      let z : from + (k - from) ≡ k = omega arith in
      ap (λ (j : ℕ). get_or xs j 0) (sym z) ∙ all_zero_part_at xs from (to - from) e (k - from) (omega arith)

  pub step_stops : (i n : ℕ) → all_zero (part xs i n) ≡ false → all_zero xs ≡ false
  step_stops i n e = let (k, _, d) = all_zero_part_some xs i n e in all_zero_not xs (i + k) d

  -- what is left decides
  pub rest_decides : (i n : ℕ) → n ≡ length xs → Passed 0 i → all_zero (part xs i (n - i)) ≡ all_zero xs
  rest_decides i n q f = go (all_zero (part xs i (n - i))) refl
    where
      go : (b : Bool) → all_zero (part xs i (n - i)) ≡ b → b ≡ all_zero xs
      go true e = sym (all_zero_of xs (λ k h. at k h (dec_lt k i)))
        where
          at : (k : ℕ) → k < length xs → Dec (k < i) → get_or xs k 0 ≡ 0
          at k h (yes l) = f k (omega arith) l
          at k h (no l) = let z : i + (k - i) ≡ k = omega arith in ap (λ (j : ℕ). get_or xs j 0) (sym z) ∙ all_zero_part_at xs i (n - i) e (k - i) (omega arith)
      go false e = sym (step_stops i (n - i) e)

-- words that are 0 are so with one left out
pub passed_too : (ws : List ℕ) (but : ℕ) {from to : ℕ} → to ≤ length ws → Passed ws from to → Passed (set ws but 0) from to
passed_too ws but l f k h m = zero_too ws but k (omega arith) (f k h m)

-- ---- the part of a table

pub part_whole : (ws : List ℕ) (at k : ℕ) {t : ℕ} → t ≡ at → take (at + k - at) (drop at ws) ≡ part ws t k
unfolding part
part_whole ws at k e = rw (e, span at k)

pub part_short : (ws : List ℕ) (at k : ℕ) {t : ℕ} → t ≡ at → at ≤ length ws → length ws ≤ at + k → take (length ws - at) (drop at ws) ≡ part ws t k
unfolding part
part_short ws at k e l m =
    rw e (take_all (length ws - at) (drop at ws) (omega (arith, length-drop at ws)) ∙ sym (take_all k (drop at ws) (omega (arith, length-drop at ws))))

pub part_none : (ws : List ℕ) (at k : ℕ) → length ws ≤ at → take (length ws - length ws) (drop (length ws) ws) ≡ part ws at k
unfolding part
part_none ws at k l =
    rw (drop_of_length-le ws {i = length ws} (omega arith), drop_of_length-le ws {i = at} l)
    (take_all (length ws - length ws) [] (omega arith) ∙ sym (take_all k [] (omega arith)))

-- ---- a table of the first run, which is of whole tables, and one of the second

-- table t by its start and the number of its entries, as the code has them
module _ (K : ℕ) (a b : List ℕ) (t : ℕ) {start count : ℕ} (p : start ≡ K * t + 0) (q : count ≡ K) where
  pub table_first : (k : ℕ) → length a ≡ K * k → start < length a → part a start count ≡ part (a ++ b) (K * t + 0) K
  table_first k e l = rw (p, q) (sym (part_first a b (K * t + 0) K (whole_table K t k (length a) e (omega arith))))

  pub table_later : length a ≤ start → part b (start - length a) count ≡ part (a ++ b) (K * t + 0) K
  table_later l = rw (p, q) (sym (part_later a b (K * t + 0) K (omega arith)))

-- no word is left out where the place is past the end
pub none_out : (ws xs : List ℕ) (at k : ℕ) {past : ℕ} → past ≡ k → xs ≡ part ws at k → all_zero (set xs past 0) ≡ all_zero (part ws at k)
none_out ws xs at k q e = ap all_zero (rw (q, e) (set_out (part ws at k) k 0 (length_part_le ws at k)))

-- a table with an entry in use, whose word stands at a place, has that one besides any other
pub entry_stays :
    (K : ℕ) (ws : List ℕ) (t i j : ℕ) {place : ℕ} → place ≡ K * t + j → j < K → (j ≡ i → ⊥) → (get_or ws place 0 ≡ 0 → ⊥)
    → all_zero (set (part ws (K * t + 0) K) i 0) ≡ false
entry_stays K ws t i j {place} p l n d =
    let z : place ≡ K * t + 0 + j = omega arith in
    all_zero_not _ j
    (λ e. d (ap (λ (k : ℕ). get_or ws k 0) z ∙ sym (get_d_part ws (K * t + 0) K j l) ∙ sym (kept_in (part ws (K * t + 0) K) i n) ∙ e))

-- ---- the granule

-- a table's entries are even in number, so that the one beside another is not that one
pub beside_even : (number i : ℕ) → i % 2 ≡ 0 → (i + 1) % entries (granule_of number) ≡ i → ⊥
beside_even number i h = granule_either (λ G. (i + 1) % entries G ≡ i → ⊥) (λ e. omega arith) (λ e. omega arith) number

pub beside_odd : (number i : ℕ) → 1 ≤ i → (i - 1) % entries (granule_of number) ≡ i → ⊥
beside_odd number i h = granule_either (λ G. (i - 1) % entries G ≡ i → ⊥) (λ e. omega arith) (λ e. omega arith) number
