-- `node_checks::join_kinds` writes the right kinds behind the left ones: after i turns i of them stand there.
use Rattle.std.proofs.Common.{ℕ, ◌+◌, get_or, take}
use Rattle.node_checks.specs.Steps.{Listed}
use Rattle.node_checks.proofs.join_kinds.Given as goal

abbrev pub invariant-loop-i : goal.invariant-loop-i
invariant-loop-i l = Listed (take l.l l.initial.out) (λ (j : ℕ). get_or l.right j 0) 1 0 l.i (l.l + l.i) l.out
