-- `grouping::key_columns` gives the bytes behind the counts.
use Rattle.std.proofs.Common.{◌+◌}
use Rattle.node_bytes.specs.Nodes.{byte}
use Rattle.sorting.specs.Columns.{slice-columns}
use Rattle.grouping.proofs.key_columns.Goals as goal

pub returns : goal.returns
returns c = slice-columns c.args.s.now (c.args.at + 3) (byte c.args.s.now (c.args.at + 1)) c.requires
