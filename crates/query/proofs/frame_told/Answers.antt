-- What a word that names no table answers meets its contract: by cases of the entry.
use mathlib.Core.Path.{refl, sym, ◌∙◌}
use Rattle.path.specs.Geometry.{granule_of}
use Rattle.model.specs.Calls.{found_at}
use Rattle.model.proofs.Refusing.{hole_known}
use Rattle.query.proofs.Queries.{at_entry, at_frame, at_damage}
use Rattle.query.proofs.frame_told.Goals as goal

pub returns-in-Frame : goal.returns-in-Frame
returns-in-Frame c =
    at_frame (granule_of c.args.granule) c.args.address c.args.height c.requires (sym c.frame_at.ensures ∙ c.in-Frame.is) c.base_at.ensures c.size_at.ensures

pub returns-in-Empty : goal.returns-in-Empty
unfolding found_at
returns-in-Empty c =
    c.hole_at.ensures
    ∙ hole_known (granule_of c.args.granule) c.args.address c.args.height c.requires refl refl
    ∙ at_entry (granule_of c.args.granule) c.args.address c.args.height (sym c.in-Empty.is ∙ c.frame_at.ensures)

pub returns-in-Table : goal.returns-in-Table
returns-in-Table c = at_damage (granule_of c.args.granule) c.args.address c.args.height c.frame_at.ensures c.in-Table.is
