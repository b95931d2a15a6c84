-- `shapes::cells_good` tests each default: things of nine bytes, one behind the other.
use Rattle.std.proofs.Common.{rules}
use Rattle.node_bytes.specs.Nodes.{cell_good, cells_good}
use Rattle.node_bytes.specs.Each.{each_tested}
use Rattle.shapes.proofs.cells_good.Goals as goal

pub returns : goal.returns
unfolding cells_good
returns c = each_tested (cell_good c.args.s.now) 9 c.args.from c.args.n c.all.ensures.ran (λ x b q h. search rules)
