-- What the tests of the arguments of a range tell, and what the code reads of a granule.
use Rattle.std.specs.Prelude.{ℕ, ◌≡◌, true, ◌%◌, ◌≤◌, ◌<◌}
use Rattle.std.proofs.Common.{arith}
use Rattle.std.proofs.lemmas.Bool.Decides.{nat_tests}
use Rattle.path.specs.Geometry.{Granule, granule_of, page_size, physical, size_at, at_level}
use Rattle.path.specs.Laws.{granule_sane, level_page, in_space, past_space}
use Rattle.model.specs.Ranges.{good_length}
use Rattle.model.proofs.RangeLaws.{length_fine}

pub some_length : (G : Granule) (len : ℕ) → good_length G len ≡ true → 0 < len
some_length G len e = (length_fine G len e).some_bytes

pub short_length : (G : Granule) (len : ℕ) → good_length G len ≡ true → len ≤ physical
short_length G len e = omega (arith, (length_fine G len e).not_longer)

pub rest_is : (granule a : ℕ) → at_level (granule_of granule) 0 (a % size_at (granule_of granule) 0) ≡ a % page_size (granule_of granule)
rest_is granule a = level_page (granule_of granule) (granule_sane granule) a

-- what the tests need
pub ruleset range_tests = (nat_tests, some_length, short_length, rest_is, in_space, past_space)
