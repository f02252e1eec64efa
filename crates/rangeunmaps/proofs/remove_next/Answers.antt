-- `rangeunmaps::remove_next` clears a row as far as it can, else unmaps at the address.
use mathlib.Core.Path.{sym, ap, subst}
use native.Mathlib.Nat.{le-mul_of_pos_right}
use native.Mathlib.Omega.{arith}
use Prim.Native.Nat.{ℕ, ◌+◌, ◌*◌}
use mathlib.Core.List.{List, ◌++◌}
use lib.ListN.{length}
use Rattle.path.specs.Geometry.{granule_of, page_size}
use Rattle.path.specs.Laws.{page_pos}
use Rattle.model.specs.Answers.{pool}
use Rattle.sweeps.specs.Parts.{Removes}
use Rattle.rangeunmaps.proofs.remove_next.Goals as goal

pub overflow_mul-result : goal.overflow_mul-result
overflow_mul-result c = omega (arith, c.page_of.ensures, c.in-Some.ensures.within, c.requires.0.rest.in_space, ap (λ (w : ℕ). c.in-Some.a.count * w) c.page_of.ensures)

pub overflow_add-result : goal.overflow_add-result
overflow_add-result c = omega (arith, c.page_of.ensures, c.in-Some.ensures.within, c.requires.0.rest.in_space, ap (λ (w : ℕ). c.in-Some.a.count * w) c.page_of.ensures)

pub returns : goal.returns
returns c =
    let a = c.args in
    let G = granule_of a.s.granule in
    let r = c.in-Some.a in
    let E = c.in-Some.ensures in
    let p = pool a.s (a.words.now ++ a.second.now) (length a.words.now) a.list.now in
    let N = c.clear_words in
    let w = ap (λ (w : ℕ). a.address + r.count * w) c.page_of.ensures in
    let first = E.removes a.list.now c.requires.0.rest.good in
    let second = subst (λ (ws : List ℕ). Removes G p a.address (a.address + r.count * page_size G) r.used 0 (pool a.s ws (length a.words.now) a.list.now)) (sym N.ensures) first in
    let third = subst (λ (k : ℕ). Removes G p a.address (a.address + r.count * page_size G) r.used 0 (pool a.s (N.new.words ++ N.new.second) k a.list.now)) (sym N.auto.words) second in (
      subst (λ (y : ℕ). Removes G p a.address y r.used 0 (pool a.s (N.new.words ++ N.new.second) (length N.new.words) a.list.now)) (sym w) third,
      omega (arith, w, E.some, le-mul_of_pos_right r.count (page_pos G)),
      omega (arith, w, E.within),
    )
