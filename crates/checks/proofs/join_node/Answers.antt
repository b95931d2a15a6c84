-- `checks::join_node` makes the node that describes a join above what its inputs' nodes describe.
use Rattle.std.proofs.Common.{rules}
use Rattle.checks.specs.Joins.{join_described}
use Rattle.checks.proofs.join_node.Goals as goal

pub returns : goal.returns
returns c = join_described (search rules)
