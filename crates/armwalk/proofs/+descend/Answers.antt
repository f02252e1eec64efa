-- The walk from a table down meets its contract, by the height, which falls at each call.
use Rattle.std.specs.Prelude.{Some}
use mathlib.Core.Path.{sym, ap, ◌∙◌}
use native.Mathlib.Omega.{arith}
use Rattle.path.specs.Geometry.{granule_of}
use Rattle.armwalk.specs.Runs.{says_step, says_seen}
use Rattle.armwalk.specs.Laws.{shift_low, index_few, next_low, walk_step, walk_last, walk_down}
use Rattle.armwalk.proofs.+descend.Goals as goal

pub overflow_mul-index : goal.overflow_mul-index
overflow_mul-index t c = omega (arith, c.index_at-index.ensures, index_few c.args.granule c.args.address c.args.height)

pub overflow_add-table : goal.overflow_add-table
overflow_add-table t c = omega (arith, c.index_at-index.ensures, index_few c.args.granule c.args.address c.args.height)

pub returns-in_err-hit : goal.returns-in_err-hit
returns-in_err-hit t c =
    ap says_seen c.from_residual.ensures
    ∙ walk_step (granule_of c.args.granule) c.args.base c.args.words.now c.args.base2 c.args.second.now c.args.address
    _ _ _ _ c.index_at-index.ensures c.word_at-w.ensures _ c.in_err-hit.ensures

pub returns-in-Leaf : goal.returns-in-Leaf
returns-in-Leaf t c =
    let by = ap (λ s. says_step (Some s)) (sym c.in-Leaf.is) ∙ c.in_ok-hit.ensures in
    walk_step (granule_of c.args.granule) c.args.base c.args.words.now c.args.base2 c.args.second.now c.args.address
    _ _ _ _ c.index_at-index.ensures c.word_at-w.ensures _ by

pub returns-then-height-eq0 : goal.returns-then-height-eq0
returns-then-height-eq0 t c =
    let by = ap (λ s. says_step (Some s)) (sym c.in-Next.is) ∙ c.in_ok-hit.ensures in
    walk_last (granule_of c.args.granule) c.args.base c.args.words.now c.args.base2 c.args.second.now c.args.address
    _ _ _ _ c.index_at-index.ensures c.word_at-w.ensures _ c.if-height-eq0.true by

pub descend-requires : goal.descend-requires
descend-requires t c =
    let by = ap (λ s. says_step (Some s)) (sym c.in-Next.is) ∙ c.in_ok-hit.ensures in
    let low = next_low (granule_of c.args.granule) (shift_low c.args.granule 0 (omega arith)) c.args.address c.word_at-w.result c.in-Next.t c.args.height by in
    (omega arith, (omega arith, low))

pub returns-else-height-eq0 : goal.returns-else-height-eq0
returns-else-height-eq0 t c =
    let by = ap (λ s. says_step (Some s)) (sym c.in-Next.is) ∙ c.in_ok-hit.ensures in
    walk_down (granule_of c.args.granule) c.args.base c.args.words.now c.args.base2 c.args.second.now c.args.address
    _ _ _ _ c.index_at-index.ensures c.word_at-w.ensures _ _ c.if-height-eq0.false by c.descend.ensures
