-- `maps::map_walk`: by where the walk ended.
use mathlib.Core.Path.{ap, ◌∙◌}
use mathlib.Core.List.{◌++◌}
use lib.ListN.{length}
use Rattle.std.specs.Prelude.{Ok}
use native.Mathlib.Omega.{arith}
use Rattle.path.specs.Geometry.{granule_of}
use Rattle.path.specs.Laws.{granule_sane, good_setup_lem}
use Rattle.model.specs.declared.Walked.{Walked}
use Rattle.model.specs.Answers.{Answer, pool, done}
use Rattle.lookup.specs.WalkLaws.{walk_good}
use Rattle.lookup.specs.Reaches.{Came, came_by, came_place}
use Rattle.maps.specs.Parts.{met_by}
use Rattle.maps.proofs.Maps.{came_lost, came_met, came_left, came_above, came_empty, came_here}
use Rattle.maps.proofs.map_walk.Goals as goal
use Rattle.maps.proofs.map_walk.Goals.{In-Ok}

-- the walk ended at an entry
came : (c : In-Ok)
    → let a = c.args in
    Came (granule_of a.s.granule) (pool a.s (a.words.now ++ a.second.now) (length a.words.now) a.list.now) a.height a.address (Ok c.in-Ok.end) c.reach.new.way
came c =
    let a = c.args in
    came_by (good_setup_lem c.requires.0) c.requires.1 (granule_sane a.s.granule) c.in-Ok.ensures.end c.in-Ok.ensures.place (length a.words.now) a.list.now

pub returns-in_default : goal.returns-in_default
returns-in_default c b k e =
    let a = c.args in
    came_lost b k (came_by (good_setup_lem c.requires.0) c.requires.1 (granule_sane a.s.granule) c.in_default.ensures.end c.in_default.ensures.place (length a.words.now) a.list.now)

pub returns-then-w-ne0 : goal.returns-then-w-ne0
returns-then-w-ne0 c b k e =
    let a = c.args in
    let C = came (goal.at.returns-then-w-ne0 c).In-Ok in
    ap (λ (x : Answer). done x (pool a.s (a.words.now ++ a.second.now) (length a.words.now) a.list.now)) c.met.ensures
    ∙ came_met C b k c.word-w.ensures (granule_sane a.s.granule) c.if-w-ne0.true
    (ap (λ (o : Walked). met_by o.entry) (walk_good (granule_of a.s.granule) a.s (a.words.now ++ a.second.now) a.height a.address (granule_sane a.s.granule) (good_setup_lem c.requires.0) (length a.words.now) a.list.now))

pub map_empty-requires : goal.map_empty-requires
map_empty-requires c =
    let pre = c.requires in
    let C = came (goal.at.map_empty-requires c).In-Ok in
    let word = c.word-w.ensures in
    (pre.0, (came_above C 0 0 word (omega (arith, granule_sane c.args.s.granule, good_setup_lem pre.0)), (came_left C 0 0 word, came_place C)))

pub returns-then-end-height : goal.returns-then-end-height
returns-then-end-height c b k e =
    let C = came (goal.at.returns-then-end-height c).In-Ok in
    c.map_empty.ensures b k e ∙ came_empty C b k c.word-w.ensures c.if-w-ne0.false

pub returns : goal.returns
returns c b k e =
    let C = came (goal.at.returns c).In-Ok in
    came_here C b k c.word-w.ensures c.if-w-ne0.false c.if-end-height.false e c.put.ensures c.put.auto.words
