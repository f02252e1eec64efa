-- `path::height_of` meets its contract: a size is one of the granule's, or no frame has it.
use Rattle.std.proofs.Common.{◌≡◌, ℕ, Option}
use native.Mathlib.Omega.{arith}
use borrow.Author.Tests.{ne_eqb}
use Rattle.path.specs.Geometry.{Granule, granule_of, size_at, seek, height_of, frame_height}
use Rattle.path.specs.Laws.{granule_sixteen, granule_four}
use Rattle.path.proofs.height_of.Goals as goal

-- the height by the granule that the number names
by : (number size : ℕ) (h : Option ℕ) (G : Granule) → granule_of number ≡ G → h ≡ frame_height G size → h ≡ frame_height (granule_of number) size
by number size h G e p = rw e p

pub returns-in-16384 : goal.returns-in-16384
unfolding frame_height height_of seek size_at
returns-in-16384 c = by _ _ _ _ (granule_sixteen c.if-granule-eq-KIB16.true) (rw c.in-16384.is)

pub returns-in-33554432 : goal.returns-in-33554432
unfolding frame_height height_of seek size_at
returns-in-33554432 c = by _ _ _ _ (granule_sixteen c.if-granule-eq-KIB16.true) (rw c.in-33554432.is)

pub returns-in_default : goal.returns-in_default
unfolding frame_height height_of seek size_at
returns-in_default c =
    by _ _ _ _ (granule_sixteen c.if-granule-eq-KIB16.true) (simp (ne_eqb c.args.size 16384 (λ e. omega arith), ne_eqb c.args.size 33554432 (λ e. omega arith)))

pub returns-in-4096 : goal.returns-in-4096
unfolding frame_height height_of seek size_at
returns-in-4096 c = by _ _ _ _ (granule_four c.if-granule-eq-KIB16.false) (rw c.in-4096.is)

pub returns-in-2097152 : goal.returns-in-2097152
unfolding frame_height height_of seek size_at
returns-in-2097152 c = by _ _ _ _ (granule_four c.if-granule-eq-KIB16.false) (rw c.in-2097152.is)

pub returns-in-1073741824 : goal.returns-in-1073741824
unfolding frame_height height_of seek size_at
returns-in-1073741824 c = by _ _ _ _ (granule_four c.if-granule-eq-KIB16.false) (rw c.in-1073741824.is)

pub returns-in_default-size : goal.returns-in_default-size
unfolding frame_height height_of seek size_at
returns-in_default-size c =
    by _ _ _ _ (granule_four c.if-granule-eq-KIB16.false)
    (simp (ne_eqb c.args.size 4096 (λ e. omega arith), ne_eqb c.args.size 2097152 (λ e. omega arith), ne_eqb c.args.size 1073741824 (λ e. omega arith)))
