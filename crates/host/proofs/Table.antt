-- A table whose words are those of a rule, place by place, has at each place the word of the rule. That they are is computed, once for the whole table.
use Prim.Native.Nat.{ℕ, zero, suc, ◌+◌, ◌<◌}
use mathlib.Core.Path.{◌≡◌, sym, ap, ◌∙◌}
use mathlib.Core.List.{List, [], ◌∷◌}
use native.Mathlib.Nat.{add-zero, zero-add, add-suc, suc-add}
use native.Mathlib.Omega.{arith}
use lib.ListN.{get_or}

-- the words of the rule f at i, i + 1, .., n of them
abbrev pub listed : (ℕ → ℕ) → ℕ → ℕ → List ℕ
listed f i zero = []
listed f i (suc n) = f i ∷ listed f (suc i) n

from : (f : ℕ → ℕ) (n i k : ℕ) → k < n → get_or (listed f i n) k 0 ≡ f (i + k)
from f zero i k l = absurd (omega arith)
from f (suc n) i zero l = ap f (sym (add-zero i))
from f (suc n) i (suc k) l = from f n (suc i) k (omega arith) ∙ ap f (suc-add i k ∙ sym (add-suc i k))

pub at : (f : ℕ → ℕ) (n k : ℕ) → k < n → get_or (listed f 0 n) k 0 ≡ f k
at f n k l = from f n 0 k l ∙ ap f (zero-add k)
