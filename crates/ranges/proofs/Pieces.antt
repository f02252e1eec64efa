-- The piece of a range and the length of a stretch, by the numbers of a granule.
use Prim.Native.Nat.{ℕ, ◌-◌, ◌/◌, ◌≤◌, ◌<◌, min}
use mathlib.Core.Path.{◌≡◌, refl, sym, ap, ◌∙◌}
use mathlib.Core.Logic.{◌≢◌}
use mathlib.Core.Bool.{cond}
use native.Mathlib.Decide.{dec_lt, ℕ_discrete}
use native.Mathlib.Omega.{arith}
use borrow.Author.Tests.{lt-ltb, le-ltb, eq-eqb, ne_eqb}
use lib.Dec.{eqb}
use Rattle.std.proofs.Math.Nat.{min-eq_left, min-eq_right}
use Rattle.std.proofs.lemmas.Bool.Decides.{nat_tests}
use Rattle.path.specs.Geometry.{granule_of, four, sixteen, entries, size_at, at_level}
use Rattle.path.specs.Paths.{index_at}
use Rattle.path.specs.PathLaws.{index_below}
use Rattle.path.specs.Laws.{granule_sane, granule_sixteen, granule_four, entries_most, size_pos, level_some, level_none}
use Rattle.model.specs.Ranges.{fits_at, piece_at}
use Rattle.ranges.specs.Stretches.{fits_bits, stretch_at}

-- the sizes of a granule, from the largest down
piece_sixteen : (a b left : ℕ) → piece_at sixteen a b left 1 ≡ cond (fits_bits a b left 25) 1 0
unfolding piece_at fits_at fits_bits size_at
piece_sixteen a b left = refl

piece_four : (a b left : ℕ) → piece_at four a b left 2 ≡ cond (fits_bits a b left 30) 2 (cond (fits_bits a b left 21) 1 0)
unfolding piece_at fits_at fits_bits size_at
piece_four a b left = refl

pub piece_by : (granule a b left : ℕ) → piece_at (granule_of granule) a b left (granule_of granule).large
    ≡ cond (eqb granule 16384) (cond (fits_bits a b left 25) 1 0) (cond (fits_bits a b left 30) 2 (cond (fits_bits a b left 21) 1 0))
piece_by granule a b left = go (ℕ_discrete granule 16384)
  where
    go : Dec (granule ≡ 16384) → piece_at (granule_of granule) a b left (granule_of granule).large
        ≡ cond (eqb granule 16384) (cond (fits_bits a b left 25) 1 0) (cond (fits_bits a b left 30) 2 (cond (fits_bits a b left 21) 1 0))
    go (yes e) = rw (granule_sixteen e, eq-eqb _ _ e, piece_sixteen a b left)
    go (no e) = rw (granule_four e, ne_eqb _ _ e, piece_four a b left)

-- what `piece_at` needs
pub ruleset piece_sizes = (nat_tests, piece_by)

-- a stretch, by the size and the index that the code has of a height
module _ (granule h : ℕ) {size : ℕ} (e : size ≡ at_level (granule_of granule) h (size_at (granule_of granule) h)) where
  pub no_level : size ≡ 0 → (x : ℕ) → at_level (granule_of granule) h x ≡ 0
  no_level z x = go (dec_lt h (granule_of granule).most)
    where
      go : Dec (h < (granule_of granule).most) → at_level (granule_of granule) h x ≡ 0
      go (yes l) = absurd (omega (arith, size_pos (granule_of granule) h, e ∙ level_some (granule_of granule) l (size_at (granule_of granule) h)))
      go (no l) = level_none (granule_of granule) (omega arith) x

  module _ (z : size ≢ 0) where
    some_level : (x : ℕ) → at_level (granule_of granule) h x ≡ x
    some_level x = go (dec_lt h (granule_of granule).most)
      where
        go : Dec (h < (granule_of granule).most) → at_level (granule_of granule) h x ≡ x
        go (yes l) = level_some (granule_of granule) l x
        go (no l) = absurd (z (e ∙ level_none (granule_of granule) (omega arith) (size_at (granule_of granule) h)))

    module _ (a left : ℕ) {index : ℕ} (i : index ≡ at_level (granule_of granule) h (index_at (granule_of granule) a h)) where
      pub index_low : (index < entries (granule_of granule)) × (entries (granule_of granule) ≤ 4194304)
      index_low = (omega (arith, i, some_level (index_at (granule_of granule) a h), index_below (granule_of granule) a h), entries_most (granule_of granule) (granule_sane granule))

      pub stretch_least : min (left / size) (entries (granule_of granule) - index) ≡ at_level (granule_of granule) h (stretch_at (granule_of granule) a left h)
      unfolding stretch_at
      stretch_least = sym (some_level (stretch_at (granule_of granule) a left h) ∙ go (dec_lt (left / size) (entries (granule_of granule) - index)))
        where
          fit : left / size_at (granule_of granule) h ≡ left / size
          fit = ap (λ (x : ℕ). left / x) (sym (e ∙ some_level (size_at (granule_of granule) h)))

          room : entries (granule_of granule) - index_at (granule_of granule) a h ≡ entries (granule_of granule) - index
          room = ap (λ (x : ℕ). entries (granule_of granule) - x) (sym (i ∙ some_level (index_at (granule_of granule) a h)))

          go : Dec (left / size < entries (granule_of granule) - index) → stretch_at (granule_of granule) a left h ≡ min (left / size) (entries (granule_of granule) - index)
          go (yes l) = rw (fit, room, lt-ltb _ _ l, min-eq_left {n = left / size} {m = entries (granule_of granule) - index} (omega arith))
          go (no l) = rw (fit, room, le-ltb (left / size) (entries (granule_of granule) - index) (omega arith), min-eq_right {n = entries (granule_of granule) - index} {m = left / size} (omega arith))

-- what `stretch` needs
pub ruleset stretch_laws = (nat_tests, no_level, index_low, stretch_least)
