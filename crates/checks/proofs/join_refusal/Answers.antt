-- `checks::join_refusal` answers by the inputs' refusals and the join's own tests.
use Rattle.std.proofs.Common.{rules}
use Rattle.checks.specs.Verdicts.{verdict_of_same}
use Rattle.checks.proofs.join_refusal.Goals as goal

pub returns : goal.returns
returns c = search (rules, verdict_of_same)
