-- The walk from a table down ends, since the height falls at each call.
use Rattle.armwalk.proofs.+descend.Given as goal

abbrev pub decreases-descend : goal.decreases-descend
decreases-descend l = l.height
