-- `node_checks::weights_right` tests the weight of each aggregate: things of three bytes.
use Rattle.std.proofs.Common.{rules}
use Rattle.node_bytes.specs.Each.{each_tested}
use Rattle.node_checks.specs.Weights.{weight_at, weights_at}
use Rattle.node_checks.proofs.weights_right.Goals as goal

pub returns : goal.returns
unfolding weights_at
returns c = each_tested (weight_at c.args.s.now c.args.l c.args.kinds.now) 3 c.args.from c.args.n c.all.ensures.ran (λ x b q h. search rules)
