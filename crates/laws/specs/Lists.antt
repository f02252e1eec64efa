-- Lists of numbers: parts, zeros, members.
use Rattle.std.specs.Prelude.{ℕ, zero, suc, ◌+◌, Bool, true, false, cond, ◌&&◌, ◌||◌, not, length, take, drop, replicate, eqb, leb}
use mathlib.Core.List.{List, [], ◌∷◌, ◌++◌, Memᴰ}

-- the k numbers from `at` on
unfoldable pub part : List ℕ → ℕ → ℕ → List ℕ
part xs at k = take k (drop at xs)

-- the list with the k numbers from `at` on set to 0; unchanged where it has no such numbers
unfoldable pub zeroed : List ℕ → ℕ → ℕ → List ℕ
zeroed xs at k = cond (leb (at + k) (length xs)) (take at xs ++ (replicate k 0 ++ drop k (drop at xs))) xs

-- whether every number is 0
unfoldable pub all_zero : List ℕ → Bool
all_zero [] = true
all_zero (x ∷ xs) = eqb x 0 && all_zero xs

-- whether x is among the numbers
unfoldable pub among : ℕ → List ℕ → Bool
among x [] = false
among x (y ∷ ys) = eqb y x || among x ys

-- whether no number stands twice
unfoldable pub distinct : List ℕ → Bool
distinct [] = true
distinct (x ∷ xs) = not (among x xs) && distinct xs

-- n - 1 down to 0
unfoldable pub down : ℕ → List ℕ
down zero = []
down (suc n) = n ∷ down n

-- no member of a list stands twice
abbrev pub Distinct : {A : Type 0} → List A → Type 0
Distinct [] = Unit {0}
Distinct (x ∷ l) = (Memᴰ x l → ⊥) × Distinct l
