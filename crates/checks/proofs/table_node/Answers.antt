-- `checks::table_node` makes the node that describes a table: its number is that of its width, its kinds are plain.
use Rattle.std.proofs.Common.{rules}
use Rattle.meaning.specs.Limits.{most_columns}
use Rattle.checks.specs.Groups.{table_described}
use Rattle.checks.proofs.table_node.Goals as goal

pub returns : goal.returns
unfolding most_columns
returns c = table_described (search rules)
