-- `node_checks::pairs_there` tests both columns of each pair: things of two bytes.
use Rattle.std.proofs.Common.{rules}
use Rattle.node_bytes.specs.Each.{each_tested}
use Rattle.node_checks.specs.Columns.{pair_at, pairs_at}
use Rattle.node_checks.proofs.pairs_there.Goals as goal

pub returns : goal.returns
unfolding pairs_at pair_at
returns c = each_tested (pair_at c.args.s.now c.args.l c.args.r) 2 c.args.from c.args.n c.all.ensures.ran (λ x b q h. search rules)
