-- `host::meaning_of` meets its contract, case by case.
use mathlib.Core.Path.{sym, ap}
use Rattle.entry.specs.Host.{meaning_of}
use Rattle.host.proofs.meaning_of.Goals as goal

pub returns-in-Frame-clause-says : goal.returns-in-Frame-clause-says
returns-in-Frame-clause-says c = sym (ap meaning_of c.in-Frame.is)

pub returns-in-Frame-clause-frame : goal.returns-in-Frame-clause-frame
returns-in-Frame-clause-frame c = c.in-Frame.is
