-- `node_checks::join_kinds` writes the right kinds behind the left ones: after i turns i of them stand there.
use Rattle.std.proofs.Common.{ap, ◌∙◌, List, ◌++◌, ℕ, ◌+◌, arith, take}
use Rattle.node_checks.specs.Steps.{listed-none, listed_more, listed-ends, list_take}
use Rattle.node_checks.proofs.join_kinds.Goals as goal

pub loop-i-init : goal.loop-i-init
loop-i-init c = listed-none _ 1 _ c.args.l _ _ (omega arith) (omega arith)

pub loop-i-preserved : goal.loop-i-preserved
loop-i-preserved c = listed_more c.loop-i.invariant c.loop-i.i _ _ (omega arith) c.kind_of.ensures (omega arith) (omega arith)

pub returns-after-loop-i : goal.returns-after-loop-i
returns-after-loop-i c = λ few.
    let a = c.args in
    listed-ends c.loop-i.invariant a.r (a.l + a.r) (omega arith) (omega arith)
    ∙ ap (λ (xs : List ℕ). take a.l a.left ++ xs) (list_take a.right.now a.r (omega arith))
