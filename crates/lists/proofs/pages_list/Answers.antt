-- `pages_list` lists the words of a table of the last level one after the other.
use Rattle.std.proofs.Common.{sym, ◌∙◌, arith}
use Rattle.std.proofs.lemmas.Result.{err_from_is_err_and}
use Rattle.path.specs.Geometry.{granule_of}
use Rattle.path.specs.Laws.{granule_sane}
use Rattle.lists.proofs.Rests.{page_size_lem, page_bits, page_ends, page_one, loop_end, loop_stop, loop_next}
use Rattle.lists.proofs.pages_list.Goals as goal

pub overflow_mul-base : goal.overflow_mul-base
overflow_mul-base c =
    let S = granule_sane c.args.granule in
    omega (arith, page_ends S c.requires.0 (page_size_lem S c.size_at-page.ensures) c.loop-i-test.true)

pub overflow_add-base : goal.overflow_add-base
overflow_add-base c =
    let S = granule_sane c.args.granule in
    omega (arith, page_ends S c.requires.0 (page_size_lem S c.size_at-page.ensures) c.loop-i-test.true)

pub word_list-requires : goal.word_list-requires
word_list-requires c =
    let p = c.requires in
    let S = granule_sane c.args.granule in
    (c.loop-i.auto.places ∙ p.1 ∙ sym c.loop-i.auto.entries, ((page_bits S c.bits_at-power.ensures).0, omega (arith, page_ends S p.0 (page_size_lem S c.size_at-page.ensures) c.loop-i-test.true)))

pub returns-in_err-n : goal.returns-in_err-n
returns-in_err-n c =
    let a = c.args in
    let k = c.loop-i in
    let S = granule_sane a.granule in
    let q = err_from_is_err_and c.from_residual.result c.from_residual.ensures.1 in
    rw (q.1, q.2) (λ ws area s.
    loop_stop (granule_of a.granule) ws area a.start 0 a.first a.part.now a.from a.places.now a.entries.now a.written k.places k.entries k.n k.i (k.invariant ws area s)
    c.loop-i-test.true c.word_list.new.places c.word_list.new.entries _
    (c.in_err-n.ensures a.granule 0 (page_bits S c.bits_at-power.ensures).1 _ (page_one S c.requires.0 (page_size_lem S c.size_at-page.ensures) c.loop-i-test.true ws area s)))

pub loop-i-preserved : goal.loop-i-preserved
loop-i-preserved c =
    let a = c.args in
    let k = c.loop-i in
    let S = granule_sane a.granule in
    λ ws area s.
    loop_next (granule_of a.granule) ws area a.start 0 a.first a.part.now a.from a.places.now a.entries.now a.written k.places k.entries k.n k.i (k.invariant ws area s)
    c.loop-i-test.true c.word_list.new.places c.word_list.new.entries _
    (c.in_ok-n.ensures a.granule 0 (page_bits S c.bits_at-power.ensures).1 _ (page_one S c.requires.0 (page_size_lem S c.size_at-page.ensures) c.loop-i-test.true ws area s))

pub returns : goal.returns
returns c =
    let a = c.args in
    let k = c.loop-i in
    λ ws area s.
    loop_end (granule_of a.granule) ws area a.start 0 a.first a.part.now a.from a.places.now a.entries.now a.written k.places k.entries k.n k.i (k.invariant ws area s) c.loop-i-test.false
