-- What the laws of proofs/Plans.antt speak of.
use Rattle.std.specs.Prelude.{◌≡◌, ◌⊎◌}
use mathlib.Core.List.{List, [], ◌∷◌}
use Prim.Native.Nat.{ℕ, ◌≤◌}
use Rattle.std.proofs.Math.ListN.{get_or}
use Rattle.model.specs.Writes.{Write, store, wipe, give}

-- each write of a list has Q
abbrev pub Each : (Write → Type 0) → List Write → Type 0
Each Q [] = Unit {0}
Each Q (w ∷ ws) = Q w × Each Q ws

-- each word of a list is that of the one list or that of the other
abbrev pub Between : List ℕ → List ℕ → List ℕ → Type 0
Between old new ws = (i : ℕ) → (get_or ws i 0 ≡ get_or old i 0) ⊎ (get_or ws i 0 ≡ get_or new i 0)

-- of a word as it was or as it will be
abbrev pub Sound : List ℕ → List ℕ → Write → Type 0
Sound old new (store i x) = (x ≡ get_or old i 0) ⊎ (x ≡ get_or new i 0)
Sound old new (wipe t) = ⊥
Sound old new (give i t) = Unit {0}

-- of nothing but x at place i
abbrev pub Leaves : ℕ → ℕ → Write → Type 0
Leaves i x (store j y) = j ≡ i → y ≡ x
Leaves i x (wipe t) = ⊥
Leaves i x (give j t) = Unit {0}

-- of 0
abbrev pub Clears : Write → Type 0
Clears (store i x) = x ≡ 0
Clears (wipe t) = ⊥
Clears (give i t) = Unit {0}

-- of places that were 0
abbrev pub FromZero : List ℕ → Write → Type 0
FromZero old (store i x) = get_or old i 0 ≡ 0
FromZero old (wipe t) = ⊥
FromZero old (give i t) = Unit {0}

-- of words from place c on alone
abbrev pub Beyond : ℕ → Write → Type 0
Beyond c (store i x) = c ≤ i
Beyond c (wipe t) = ⊥
Beyond c (give i t) = Unit {0}

-- what is not 0 stays
abbrev pub Grew : List ℕ → List ℕ → Type 0
Grew old new = (i : ℕ) → (get_or new i 0 ≡ get_or old i 0) ⊎ (get_or old i 0 ≡ 0)
