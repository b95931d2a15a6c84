-- `checks::group_refusal` answers by the input's refusal and the grouping's own tests.
use Rattle.std.proofs.Common.{rules}
use Rattle.checks.specs.Verdicts.{verdict_of_same}
use Rattle.checks.proofs.group_refusal.Goals as goal

pub returns : goal.returns
returns c = search (rules, verdict_of_same)
