-- `rangeunmaps::fits`: room for all tables that are noted is room for those that come back.
use mathlib.Core.Path.{sym, ap, ◌∙◌}
use native.Mathlib.Omega.{arith}
use mathlib.Core.Bool.{not}
use mathlib.Core.List.{◌++◌}
use Rattle.std.proofs.Common.{◌≡◌, length, drop, length-drop}
use Rattle.sweeps.specs.Parts.{in_use}
use Rattle.std.proofs.lemmas.Grind.{common_steps}
use Rattle.path.specs.Geometry.{granule_of}
use Rattle.path.specs.Laws.{granule_sane, good_setup_lem}
use Rattle.model.specs.Answers.{pool}
use Rattle.sweeps.specs.Checking.{says_like}
use Rattle.sweeps.specs.Rooms.{roomy}
use Rattle.rangeunmaps.proofs.Looks.{use_counted, use_most}
use Rattle.rangeunmaps.proofs.fits.Goals as goal
use Rattle.rangeunmaps.proofs.fits.Goals.{After-in_use-marked}

-- the tables that are noted, the root excepted
marked : (c : After-in_use-marked) → c.in_use-marked.result ≡ in_use (drop 1 c.args.stands.now)
marked c = grind (arith, common_steps, c.in_use-marked.ensures, use_counted (drop 1 c.args.stands.now))

pub overflow_add-s : goal.overflow_add-s
overflow_add-s c = omega (arith, marked (goal.at.overflow_add-s c).After-in_use-marked, use_most (drop 1 c.args.stands.now), c.requires.1.0, length-drop 1 c.args.stands.now, good_setup_lem c.requires.0.1.good)

pub overflow_add-s-2 : goal.overflow_add-s-2
overflow_add-s-2 c = omega (arith, good_setup_lem c.requires.0.1.good)

pub returns-then-s-marked : goal.returns-then-s-marked
returns-then-s-marked c =
    let a = c.args in
    let G = granule_of a.s.granule in
    let ws = a.words.now ++ a.second.now in
    let cut = length a.words.now in
    λ list g. ap not (sym (roomy G (granule_sane a.s.granule) (pool a.s ws cut list) a.address a.bytes
    (record { good = g; tests = c.requires.0.1.tests; walks = says_like G a.s ws cut list c.requires.0.0 a.address a.bytes ∙ c.requires.0.1.walks })
    a.stands.now c.requires.1.1 (omega (arith, marked (goal.at.returns-then-s-marked c).After-in_use-marked, c.if-s-marked.true))))
