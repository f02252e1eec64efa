-- `rangeunmaps::remove_one` unmaps at an address, or goes past the hole there.
use Rattle.std.proofs.Common.{◌≡◌, sym, ap, ◌∙◌, arith, ◌++◌, length, ◌≤◌}
use Rattle.path.specs.Geometry.{granule_of, physical}
use Rattle.path.specs.Laws.{granule_sane, good_setup_lem}
use Rattle.model.specs.declared.Refusal.{Refusal}
use Rattle.model.specs.Answers.{hole, says_refusal, pool, done}
use Rattle.model.specs.Calls.{unmap_w}
use Rattle.rangeunmaps.proofs.Steps.{given_step, hole_stepped, refused_stepped, given_low, hole_low, says_refused}
use Rattle.rangeunmaps.proofs.remove_one.Goals as goal
use Rattle.rangeunmaps.proofs.remove_one.Goals.{In-Hole}

-- what unmap says of a hole
holds : (c : In-Hole) → let a = c.args in
    done (hole c.in-Hole.base c.in-Hole.size) (pool a.s (c.unmap.new.words ++ c.unmap.new.second) (length c.unmap.new.words) c.unmap.new.list)
    ≡ unmap_w (granule_of a.s.granule) (pool a.s (a.words.now ++ a.second.now) (length a.words.now) a.list.now) a.address
holds c =
    let N = c.unmap.new in
    ap (λ (r : Refusal). done (says_refusal r) (pool c.args.s (N.words ++ N.second) (length N.words) N.list)) (sym c.in-Hole.is) ∙ c.in-Err.ensures

pub overflow_add-address : goal.overflow_add-address
overflow_add-address c =
    let a = c.args in
    let l : c.in-Ok.unmapped.size ≤ physical = given_low (granule_of a.s.granule) (granule_sane a.s.granule) (pool a.s (a.words.now ++ a.second.now) (length a.words.now) a.list.now) a.address a.end c.requires.0 c.requires.1 c.in-Ok.ensures in
    omega (arith, l, c.requires.0.in_space, c.requires.1)

pub overflow_add-base : goal.overflow_add-base
overflow_add-base c =
    let a = c.args in
    let l : (c.in-Hole.base ≤ a.address) × (c.in-Hole.size ≤ physical) = hole_low (granule_of a.s.granule) (granule_sane a.s.granule) (pool a.s (a.words.now ++ a.second.now) (length a.words.now) a.list.now) a.address a.end c.requires.0 c.requires.1 (holds (goal.at.overflow_add-base c).In-Hole) in
    omega (arith, l, c.requires.0.in_space, c.requires.1)

pub past-requires : goal.past-requires
past-requires c =
    let a = c.args in
    (omega (arith, granule_sane a.s.granule, good_setup_lem c.requires.0.good), omega (arith, c.requires.0.in_space, c.requires.1))

pub returns-in-Ok : goal.returns-in-Ok
returns-in-Ok c =
    let a = c.args in
    given_step (granule_of a.s.granule) (granule_sane a.s.granule) (pool a.s (a.words.now ++ a.second.now) (length a.words.now) a.list.now) a.address a.end c.requires.0 c.requires.1 c.in-Ok.ensures c.min.ensures

pub returns-in-Hole : goal.returns-in-Hole
returns-in-Hole c =
    let a = c.args in
    hole_stepped (granule_of a.s.granule) (granule_sane a.s.granule) (pool a.s (a.words.now ++ a.second.now) (length a.words.now) a.list.now) a.address a.end c.requires.0 c.requires.1 (holds (goal.at.returns-in-Hole c).In-Hole) c.min-in-Hole.ensures

pub returns-in_default : goal.returns-in_default
returns-in_default c =
    let a = c.args in
    let N = c.unmap.new in
    refused_stepped (granule_of a.s.granule) (granule_sane a.s.granule) (pool a.s (a.words.now ++ a.second.now) (length a.words.now) a.list.now) a.address a.end c.requires.0 c.requires.1
    (ap (λ r. done r (pool a.s (N.words ++ N.second) (length N.words) N.list)) (sym (says_refused c.in-Err.refusal c.in_default.not-Hole)) ∙ c.in-Err.ensures) c.past.ensures
