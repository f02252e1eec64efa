-- What zeroing a part does.
use Prim.Native.Nat.{ℕ, ◌+◌, ◌-◌, ◌*◌, ◌≤◌, ◌<◌}
use mathlib.Core.Path.{◌≡◌, refl, sym, ap, ◌∙◌}
use mathlib.Core.Bool.{Bool, ◌||◌}
use mathlib.Core.List.{List, [], ◌∷◌, ◌++◌}
use Rattle.std.specs.List.{list_any}
use lib.Dec.{eqb}
use native.Mathlib.Decide.{dec_lt}
use native.Mathlib.Nat.{mul-le-mul_left}
use native.Mathlib.Omega.{arith}
use lib.ListN.{length, take, drop, replicate}
use Rattle.laws.specs.Lists.{part, zeroed, among}
use Rattle.laws.specs.ListLaws.{zeroed_first, zeroed_later, length_part, zeroed_is}
use Rattle.path.specs.Laws.{table_ends}

-- whether c is among the numbers, as the library's search says it
pub among_any : (c : ℕ) (xs : List ℕ) → list_any (λ y. eqb y c) xs ≡ among c xs
unfolding among
among_any c [] = refl
among_any c (x ∷ xs) = ap (λ (b : Bool). eqb x c || b) (among_any c xs)

pub span : (at k : ℕ) → at + k - at ≡ k
span at k = omega arith

-- a part that was lent and came back all zeros
pub wiped : (ws mid : List ℕ) (at k : ℕ) → at + k ≤ length ws → mid ≡ replicate (length (take (at + k - at) (drop at ws))) 0
    → take at ws ++ (mid ++ drop (at + k - at) (drop at ws)) ≡ zeroed ws at k
unfolding part
wiped ws mid at k h e =
    let filled : mid ≡ replicate k 0 =
    e ∙ ap (λ (n : ℕ). replicate (length (take n (drop at ws))) 0) (span at k) ∙ ap (λ (n : ℕ). replicate n 0) (length_part ws at k h) in
    ap (λ (l : List ℕ). take at ws ++ (l ++ drop (at + k - at) (drop at ws))) filled
    ∙ ap (λ (n : ℕ). take at ws ++ (replicate k 0 ++ drop n (drop at ws))) (span at k)
    ∙ sym (zeroed_is ws at k h)

-- ---- a table of the first run, which is of whole tables, and one of the second

-- the places of tables of K entries: one that starts within whole tables ends within them
pub whole_table : (K t k n : ℕ) → n ≡ K * k → K * t + 0 < n → K * t + 0 + K ≤ n
whole_table K t k n e l = go (dec_lt t k)
  where
    go : Dec (t < k) → K * t + 0 + K ≤ n
    go (yes h) = omega (arith, table_ends K h)
    go (no h) = let m : k ≤ t = omega arith in absurd (omega (arith, mul-le-mul_left K m))

-- table t by its start and the number of its entries, as the code has them
module _ (K : ℕ) (a b : List ℕ) (t : ℕ) {start count : ℕ} (p : start ≡ K * t + 0) (q : count ≡ K) where
  pub wipe_first : (k : ℕ) → length a ≡ K * k → start < length a → zeroed a start count ++ b ≡ zeroed (a ++ b) (K * t + 0) K
  wipe_first k e l = rw (p, q) (sym (zeroed_first a b (K * t + 0) K (whole_table K t k (length a) e (omega arith))))

  pub wipe_later : length a ≤ start → a ++ zeroed b (start - length a) count ≡ zeroed (a ++ b) (K * t + 0) K
  wipe_later l = rw (p, q) (sym (zeroed_later a b (K * t + 0) K (omega arith)))
