-- `adds::add` makes its tests, then clears and appends.
use Rattle.std.proofs.Common.{refl, arith}
use Rattle.std.proofs.lemmas.Result.{err_from_is_err_and}
use Rattle.adds.proofs.Adds.{add_refuses, may, room, add_done}
use Rattle.adds.proofs.add.Goals as goal

pub returns-in_err-add_tests : goal.returns-in_err-add_tests
returns-in_err-add_tests c =
    let a = c.args in
    let p = err_from_is_err_and c.from_residual.result c.from_residual.ensures.1 in
    rw (p.1, p.2) (add_refuses a.s a.words.now a.second.now a.list.now a.base2 a.tables2 c.in_err-add_tests.field-0.0 (c.in_err-add_tests.ensures a.list.now refl))

pub append-requires : goal.append-requires
append-requires c =
    let a = c.args in
    let e = c.in_ok-add_tests.ensures a.list.now refl in
    let o = may a.s a.words.now a.second.now a.list.now a.base2 a.tables2 e in
    omega (arith, o.numbers.few, o.numbers.places_are, o.one_yet.1, room a.s a.words.now a.second.now a.list.now a.base2 a.tables2 e)

pub overflow_add-free : goal.overflow_add-free
overflow_add-free c =
    let a = c.args in
    let e = c.in_ok-add_tests.ensures a.list.now refl in
    let o = may a.s a.words.now a.second.now a.list.now a.base2 a.tables2 e in
    omega (arith, o.numbers.few, o.one_yet.1, room a.s a.words.now a.second.now a.list.now a.base2 a.tables2 e)

pub returns : goal.returns
returns c =
    let a = c.args in
    add_done a.s a.words.now a.second.now a.list.now a.base2 a.tables2 (c.in_ok-add_tests.ensures a.list.now refl) c.clear.ensures c.append.ensures
