-- `grouping::write_aggregates` writes cell by cell: after j turns the first j aggregates stand in the row.
use Rattle.std.proofs.Common.{arith}
use Rattle.grouping.specs.Writing.{cells-none, cells-next, cells-more}
use Rattle.grouping.proofs.write_aggregates.Goals as goal

pub loop-j-init : goal.loop-j-init
loop-j-init c = cells-none c.requires

pub overflow_add-at : goal.overflow_add-at
overflow_add-at c = omega (arith, (c.requires.each c.loop-j.j (omega arith)).inside)

pub write_aggregate-requires : goal.write_aggregate-requires
write_aggregate-requires c = cells-next c.requires c.loop-j.j c.loop-j.invariant (omega arith)

pub loop-j-preserved : goal.loop-j-preserved
loop-j-preserved c = cells-more c.requires c.loop-j.j c.loop-j.invariant (omega arith) c.write_aggregate.ensures
