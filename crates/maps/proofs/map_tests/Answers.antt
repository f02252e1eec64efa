-- `maps::map_tests` makes the tests in their order.
use Prim.Native.Nat.{ℕ, ◌+◌, ◌%◌, ◌≤◌, ◌<◌}
use mathlib.Core.Path.{◌≡◌, refl, sym, ap, ◌∙◌}
use native.Mathlib.Omega.{arith}
use native.Mathlib.Nat.{mod-lt}
use Rattle.path.specs.Laws.{granule_sane, height_some, height_none}
use Rattle.path.specs.Geometry.{granule_of, size_at, physical, at_level, height_of}
use Rattle.model.specs.Answers.{tested}
use Rattle.maps.proofs.Tests.{size_some, size_least, rest_is, refuses_size, refuses_attributes, refuses_space, refuses_frame, refuses_unaligned, refuses_pool, refuses_nothing}
use Rattle.maps.proofs.map_tests.Goals as goal
use Rattle.maps.proofs.map_tests.Goals.{Else-frame-size, In-Some, then-not-in_space-via-then-not-in_space, then-not-in_space-via-else-not-in_space+then-frame-size}

-- past the first test the size is one that a frame can have
known : (c : In-Some) → let a = c.args in (c.in-Some.height ≡ height_of (granule_of a.s.granule) a.size) × (c.in-Some.height ≤ (granule_of a.s.granule).large)
known c = height_some _ _ _ (sym c.height_of.ensures ∙ c.in-Some.is)

rest :
    (c : In-Some) (x : ℕ) {r : ℕ}
    → let a = c.args in
    r ≡ at_level (granule_of a.s.granule) c.in-Some.height (x % size_at (granule_of a.s.granule) c.in-Some.height) → r ≡ x % a.size
rest c =
    let a = c.args in
    rest_is (granule_of a.s.granule) (granule_sane a.s.granule) a.size (known c).0 (known c).1

some : (c : In-Some) → 0 < c.args.size
some c =
    let a = c.args in
    size_some (granule_of a.s.granule) (granule_sane a.s.granule) a.size (known c).0 (known c).1

least : (c : In-Some) → c.args.size ≤ physical
least c =
    let a = c.args in
    size_least (granule_of a.s.granule) (granule_sane a.s.granule) a.size (known c).0 (known c).1

-- past the fourth the frame ends within the physical addresses
ends : (c : Else-frame-size) → c.args.size ≤ physical → c.args.frame + c.args.size ≤ physical
ends c fits = omega (arith, c.if-frame-size.false)

pub returns-in_default-clause-tests : goal.returns-in_default-clause-tests
returns-in_default-clause-tests c = ap tested (refuses_size _ _ _ _ _ _ _ refl (height_none _ _ (sym c.height_of.ensures ∙ c.in_default.is)))

pub returns-then-attributes-gt15-clause-tests : goal.returns-then-attributes-gt15-clause-tests
returns-then-attributes-gt15-clause-tests c =
    let l = (goal.at.returns-then-attributes-gt15-clause-tests c).In-Some in
    ap tested (refuses_attributes _ _ _ _ _ _ _ (known l).0 (known l).1 c.if-attributes-gt15.true)

pub overflow_sub-size : goal.overflow_sub-size
overflow_sub-size c = omega (arith, least (goal.at.overflow_sub-size c).In-Some)

pub returns-then-not-in_space-clause-tests : goal.returns-then-not-in_space-clause-tests
returns-then-not-in_space-clause-tests c =
    let l = (goal.at.returns-then-not-in_space-clause-tests c).In-Some in
    ap tested
    (elim c.then-not-in_space.branch [
      | then-not-in_space-via-then-not-in_space w ↦
          refuses_space _ _ _ _ _ _ _ (known l).0 (known l).1 c.if-attributes-gt15.false (some l) c.in_space.ensures w.if-not-in_space.true-raw
      | then-not-in_space-via-else-not-in_space+then-frame-size w ↦
          refuses_frame _ _ _ _ _ _ _ (known l).0 (known l).1 c.if-attributes-gt15.false (some l) c.in_space.ensures w.if-not-in_space.false-raw (omega (arith, w.if-frame-size.true, least l))
    ])

pub overflow_add-rest : goal.overflow_add-rest
overflow_add-rest c =
    let a = c.args in
    let l = (goal.at.overflow_add-rest c).In-Some in
    omega (arith, rest l a.address c.rest_at.ensures, rest l a.frame c.rest_at-2.ensures, mod-lt a.address (some l), mod-lt a.frame (some l), least l)

pub returns-then-rest-ne0-clause-tests : goal.returns-then-rest-ne0-clause-tests
returns-then-rest-ne0-clause-tests c =
    let a = c.args in
    let l = (goal.at.returns-then-rest-ne0-clause-tests c).In-Some in
    ap tested
    (refuses_unaligned _ _ _ _ _ _ _ (known l).0 (known l).1 c.if-attributes-gt15.false (some l) c.in_space.ensures c.if-not-in_space.false-raw (ends (goal.at.returns-then-rest-ne0-clause-tests c).Else-frame-size (least l))
    (rest l a.address c.rest_at.ensures) (rest l a.frame c.rest_at-2.ensures) c.if-rest-ne0.true)

pub returns-then-met-clause-tests : goal.returns-then-met-clause-tests
returns-then-met-clause-tests c =
    let a = c.args in
    let l = (goal.at.returns-then-met-clause-tests c).In-Some in
    ap tested
    (refuses_pool _ _ _ _ _ _ _ (known l).0 (known l).1 c.if-attributes-gt15.false (some l) c.in_space.ensures c.if-not-in_space.false-raw (ends (goal.at.returns-then-met-clause-tests c).Else-frame-size (least l))
    (rest l a.address c.rest_at.ensures) (rest l a.frame c.rest_at-2.ensures) c.if-rest-ne0.false c.meets_area-met.ensures c.if-met.true)

pub returns-clause-tests : goal.returns-clause-tests
returns-clause-tests c =
    let a = c.args in
    let l = (goal.at.returns-clause-tests c).In-Some in
    ap tested
    (refuses_nothing _ _ _ _ _ _ _ (known l).0 (known l).1 c.if-attributes-gt15.false (some l) c.in_space.ensures c.if-not-in_space.false-raw (ends (goal.at.returns-clause-tests c).Else-frame-size (least l))
    (rest l a.address c.rest_at.ensures) (rest l a.frame c.rest_at-2.ensures) c.if-rest-ne0.false c.meets_area-met.ensures c.if-met.false)

pub returns-clause-height : goal.returns-clause-height
returns-clause-height c = (known (goal.at.returns-clause-height c).In-Some).0
