-- `node_checks::group_kinds` writes the kinds from the front: after i or k turns of a loop, so many kinds of that loop are those of the definition.
use Rattle.std.proofs.Common.{refl, ap, ◌∙◌, List, ℕ, ◌+◌, ◌++◌, arith}
use Rattle.node_bytes.specs.Nodes.{byte}
use Rattle.node_checks.specs.Weights.{column_kind_at, column_kinds_at, aggregate_kinds_at}
use Rattle.node_checks.specs.Steps.{listed-none, listed_more, listed-ends}
use Rattle.node_checks.proofs.group_kinds.Goals as goal

pub loop-i-init : goal.loop-i-init
loop-i-init c = listed-none _ 1 _ 0 0 _ refl refl

pub loop-i-preserved : goal.loop-i-preserved
unfolding column_kind_at
loop-i-preserved c = listed_more c.loop-i.invariant (c.args.at + 3 + c.loop-i.i) _ _ (omega arith) c.kind_of.ensures (omega arith) refl

pub loop-k-init : goal.loop-k-init
loop-k-init c = listed-none _ 3 _ _ _ _ c.loop-i.invariant.long (omega arith)

pub loop-k-preserved : goal.loop-k-preserved
loop-k-preserved c = listed_more c.loop-k.invariant _ _ _ refl c.aggregate_kind.ensures (omega arith) (omega arith)

pub returns-after-loop-k : goal.returns-after-loop-k
unfolding column_kinds_at aggregate_kinds_at
returns-after-loop-k c = λ few.
    let columns = byte c.args.s.now (c.args.at + 1) in
    let aggregates = byte c.args.s.now (c.args.at + 2) in
    listed-ends c.loop-k.invariant aggregates (columns + aggregates) (omega arith) (omega arith)
    ∙ ap (λ (front : List ℕ). front ++ aggregate_kinds_at c.args.s.now (c.args.at + 3 + columns) aggregates c.args.below.now)
    (listed-ends c.loop-i.invariant columns columns (omega arith) (omega arith))
