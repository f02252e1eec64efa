-- Stretches: pieces of one size that stand one after the other in one table.
use Rattle.std.specs.Prelude.{ℕ, zero, suc, ◌+◌, ◌-◌, ◌/◌, ◌%◌, ◌^◌, Bool, cond, ◌&&◌, List, [], ◌∷◌, ltb, leb, eqb}
use Rattle.path.specs.Geometry.{Granule, entries, size_at}
use Rattle.path.specs.Paths.{index_at}
use Rattle.model.specs.Answers.{Mapping, mapping}

-- 2 ^ bits fits what is left and divides both addresses
unfoldable pub fits_bits : ℕ → ℕ → ℕ → ℕ → Bool
fits_bits a b left bits = leb (2 ^ bits) left && (eqb (a % 2 ^ bits) 0 && eqb (b % 2 ^ bits) 0)

-- how many pieces of height h stand in one table from address a on, where so many bytes are left
unfoldable pub stretch_at : Granule → ℕ → ℕ → ℕ → ℕ
stretch_at G a left h =
    let fit = left / size_at G h in
    let room = entries G - index_at G a h in
    cond (ltb fit room) fit room

-- so many mappings of one size, one after the other
unfoldable pub in_row : ℕ → ℕ → ℕ → ℕ → ℕ → List Mapping
in_row size k a b zero = []
in_row size k a b (suc n) = mapping a b size k ∷ in_row size k (a + size) (b + size) n
