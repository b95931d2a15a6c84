-- `grouping::feed_as` feeds row by row: after k turns the state has taken the first k rows.
use Rattle.grouping.specs.Feeding.{Fed}
use Rattle.grouping.proofs.feed_as.Given as goal

abbrev pub invariant-loop-k : goal.invariant-loop-k
invariant-loop-k l = Fed l.fn.name l.v l.c l.cells l.marks l.rows.at l.k l.rows.width (record { name = l.kind; taken = l.taken })
