-- `node_checks::reads_there` tests what each aggregate reads: things of three bytes.
use Rattle.std.proofs.Common.{rules}
use Rattle.node_bytes.specs.Each.{each_tested}
use Rattle.node_checks.specs.Columns.{read_at, reads_at}
use Rattle.node_checks.proofs.reads_there.Goals as goal

pub returns : goal.returns
unfolding reads_at
returns c = each_tested (read_at c.args.s.now c.args.w) 3 c.args.from c.args.n c.all.ensures.ran (λ x b q h. search rules)
