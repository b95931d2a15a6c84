-- `node_checks::group_kinds` writes the kinds from the front: after i or k turns of a loop, so many kinds of that loop are those of the definition.
use Rattle.std.proofs.Common.{[], ◌+◌, take}
use Rattle.node_checks.specs.Weights.{column_kind_at, aggregate_kind_at}
use Rattle.node_checks.specs.Steps.{Listed}
use Rattle.node_checks.proofs.group_kinds.Given as goal

abbrev pub invariant-loop-i : goal.invariant-loop-i
invariant-loop-i l = Listed [] (column_kind_at l.s l.below) 1 (l.at + 3) l.i l.i l.out

abbrev pub invariant-loop-k : goal.invariant-loop-k
invariant-loop-k l = Listed (take l.columns l.initial.out) (aggregate_kind_at l.s l.below) 3 (l.at + 3 + l.columns) l.k (l.columns + l.k) l.out
