-- `checks::lesser_of`: of two refusals the lesser one has the lesser number.
use Rattle.std.proofs.Common.{rules}
use Rattle.checks.specs.Verdicts.{lesser}
use Rattle.checks.proofs.lesser_of.Goals as goal

pub returns-in-Some-Some : goal.returns-in-Some-Some
unfolding lesser
returns-in-Some-Some c = search rules
