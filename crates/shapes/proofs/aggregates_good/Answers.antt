-- `shapes::aggregates_good` tests each aggregate: things of three bytes, one behind the other.
use Rattle.std.proofs.Common.{rules}
use Rattle.node_bytes.specs.Nodes.{aggregate_good, aggregates_good}
use Rattle.node_bytes.specs.Each.{each_tested}
use Rattle.shapes.proofs.aggregates_good.Goals as goal

pub returns : goal.returns
unfolding aggregates_good
returns c = each_tested (aggregate_good c.args.s.now) 3 c.args.from c.args.n c.all.ensures.ran (λ x b q h. search rules)
