use mathlib.Core.Path.{refl, sym}
use native.Mathlib.Omega.{arith}
use Prim.Native.Nat.{ℕ, ◌+◌}
use mathlib.Core.Path.{subst}
use mathlib.Core.List.{List, ◌++◌}
use lib.ListN.{length}
use Rattle.path.specs.declared.Setup.{Setup}
use Rattle.path.specs.Geometry.{granule_of}
use Rattle.path.specs.Laws.{granule_sane}
use Rattle.model.specs.Answers.{Pool, pool}
use Rattle.sweeps.specs.Parts.{Rest, Sure, Removes}
use Rattle.sweeps.specs.Rooms.{fine_rest}
use Rattle.sweeps.specs.Clearing.{sure_on}
use Rattle.sweeps.specs.Removing.{removes_none, Stepped, steps_on}
use Rattle.rangeunmaps.proofs.remove_all.Goals as goal
use Rattle.rangeunmaps.proofs.remove_all.Goals.{After-remove_next-g, Start}

-- the pool of these words and this free list
abbrev at : Setup → List ℕ → List ℕ → List ℕ → Pool
at s words second list = pool s (words ++ second) (length words) list

rest : (c : Start) → Rest (granule_of c.args.s.granule) (at c.args.s c.args.words.now c.args.second.now c.args.list.now) c.args.address (c.args.address + c.args.bytes)
rest c = let a = c.args in fine_rest (granule_of a.s.granule) (granule_sane a.s.granule) (at c.args.s c.args.words.now c.args.second.now c.args.list.now) a.address a.bytes c.requires.0.good c.requires.0.tests

stepped : (c : After-remove_next-g)
    → let a = c.args in
    let gone = c.loop-gone.gone in
    let S = c.remove_next-g in
    Stepped (granule_of a.s.granule) (pool a.s (a.words.now ++ a.second.now) (length a.words.now) a.list.now) a.address (a.address + a.bytes) S.result.next
    (gone.removed + S.result.removed) (gone.given + S.result.given) (pool S.result.setup (S.new.words ++ S.new.second) (length S.new.words) S.new.list)
stepped c =
    let a = c.args in
    let l = c.loop-gone in
    let S = c.remove_next-g in
    steps_on (granule_of a.s.granule) (fine_rest (granule_of a.s.granule) (granule_sane a.s.granule) (at a.s a.words.now a.second.now a.list.now) a.address a.bytes c.requires.0.good c.requires.0.tests) l.invariant.0
    (subst (λ (g : ℕ). Removes (granule_of g) (pool l.gone.setup (l.words ++ l.second) (length l.words) l.list) l.gone.next S.result.next S.result.removed S.result.given (pool S.result.setup (S.new.words ++ S.new.second) (length S.new.words) S.new.list)) l.invariant.2 S.ensures.0)
    S.ensures.2

pub overflow_add-end : goal.overflow_add-end
overflow_add-end c = omega (arith, (rest (goal.at.overflow_add-end c).Start).in_space)

pub loop-gone-init : goal.loop-gone-init
loop-gone-init c = (removes_none _ _ _, omega arith, refl)

pub remove_next-g-requires : goal.remove_next-g-requires
remove_next-g-requires c =
    let a = c.args in
    let l = c.loop-gone in (
      subst (λ (g : ℕ). Sure (granule_of g) (pool l.gone.setup (l.words ++ l.second) (length l.words) l.list) l.gone.next (a.address + a.bytes)) (sym l.invariant.2)
          (sure_on (granule_of a.s.granule) (granule_sane a.s.granule) (at a.s a.words.now a.second.now a.list.now) a.address a.bytes c.requires.0 c.requires.1 l.invariant.0 l.invariant.1),
      omega arith,
    )

pub overflow_add-gone : goal.overflow_add-gone
overflow_add-gone c = omega (arith, (stepped (goal.at.overflow_add-gone c).After-remove_next-g).few)

pub overflow_add-gone-in-loop-gone : goal.overflow_add-gone-in-loop-gone
overflow_add-gone-in-loop-gone c = omega (arith, (stepped (goal.at.overflow_add-gone-in-loop-gone c).After-remove_next-g).fewer)

pub loop-gone-preserved : goal.loop-gone-preserved
loop-gone-preserved c =
    let T = stepped (goal.at.loop-gone-preserved c).After-remove_next-g in
    (T.removes_so, T.rest.left, T.kept.granule)
