-- `shapes::Nodes::new` notes where each node starts: the loop's place is the start of the node before the k-th, and moves on by its size.
use Rattle.std.proofs.Common.{◌+◌}
use Rattle.node_bytes.specs.Nodes.{node_size}
use Rattle.shapes.specs.Scanning.{Started}
use Rattle.shapes.proofs.Nodes.new.Given as goal

abbrev pub invariant-loop-k : goal.invariant-loop-k
invariant-loop-k l = Started l.bytes l.starts (l.at + node_size l.bytes l.at) l.k
