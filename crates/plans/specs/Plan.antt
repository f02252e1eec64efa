-- The single writes of a call, one by one.
use Rattle.std.specs.Prelude.{ℕ, ◌≡◌, List, [], ◌∷◌, take, drop}
use Rattle.model.specs.Writes.{Write, store, wipe, give}
use Rattle.plans.specs.declared.Step.{Step}
use Rattle.plans.specs.declared.Step.TheVariants as S

-- the write that a step is
abbrev pub write_of : Step → Write
write_of (S.Store place value) = store place value
write_of (S.Wipe table) = wipe table
write_of (S.Give place table) = give place table

-- write i of a call's writes, counted from 0
abbrev pub IsWrite : List Write → ℕ → Write → Type 0
IsWrite ws i w = take 1 (drop i ws) ≡ w ∷ []
