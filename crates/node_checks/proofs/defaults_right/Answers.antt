-- `node_checks::defaults_right` asks of each default whether it is right for its kind.
use Rattle.std.proofs.Common.{rules, refl, ◌∙◌, arith}
use Rattle.std.proofs.lemmas.Iterator.{YieldsList-from_range}
use Rattle.std.proofs.lemmas.Iterator.Search.{all_from_yields_List}
use Rattle.node_checks.specs.Steps.{defaults_of-range}
use Rattle.node_checks.proofs.defaults_right.Goals as goal

pub returns : goal.returns
returns c =
    let a = c.args in
    all_from_yields_List _ _ _ _ c.all.ensures.ran (YieldsList-from_range 0 a.n a.n refl (omega arith)) (λ x b q h. search rules)
    ∙ defaults_of-range a.s.now a.kinds.now a.from a.n
