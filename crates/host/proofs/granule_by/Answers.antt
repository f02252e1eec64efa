-- `host::granule_by` meets its contract: the size is that of a frame with 16 KiB pages, or it is not.
use mathlib.Core.Path.{sym, ◌∙◌}
use native.Mathlib.Omega.{arith}
use Rattle.path.specs.Geometry.{sixteen, granule_of}
use Rattle.path.specs.Laws.{height_some, height_none}
use Rattle.host.specs.HostLaws.{sized_sixteen, sized_four}
use Rattle.host.proofs.granule_by.Goals as goal

pub returns-in-Some : goal.returns-in-Some
unfolding granule_of
returns-in-Some c =
    let (h, l) = height_some sixteen c.args.size _ (sym c.height_of.ensures ∙ c.in-Some.is) in sym (sized_sixteen c.args.size (omega arith))

pub returns-in-None : goal.returns-in-None
unfolding granule_of
returns-in-None c = sym (sized_four c.args.size (height_none sixteen c.args.size (sym c.height_of.ensures ∙ c.in-None.is)))
