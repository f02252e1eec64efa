-- The walk from a table down ends, by the levels left, which fall at each call.
use Rattle.lookup.proofs.+descend.Given as goal

abbrev pub decreases-descend : goal.decreases-descend
decreases-descend l = l.height
