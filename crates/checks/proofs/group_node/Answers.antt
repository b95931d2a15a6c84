-- `checks::group_node` makes the node that describes a grouping above what its input's node describes.
use Rattle.std.proofs.Common.{rules}
use Rattle.checks.specs.Groups.{group_described}
use Rattle.checks.proofs.group_node.Goals as goal

pub returns : goal.returns
returns c = group_described (search rules)
