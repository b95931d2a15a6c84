-- `node_checks::all_different` asks of each column whether none of those behind it is the same.
use Rattle.std.proofs.Common.{rules, refl, length, arith}
use Rattle.std.proofs.lemmas.Iterator.{YieldsList-from_range}
use Rattle.std.proofs.lemmas.Iterator.Search.{all_from_yields_List}
use Rattle.node_checks.proofs.all_different.Goals as goal

pub returns : goal.returns
returns c = let n = length c.args.columns.now in all_from_yields_List _ _ _ _ c.all.ensures.ran (YieldsList-from_range 0 n n refl (omega arith)) (λ x b q h. search rules)
