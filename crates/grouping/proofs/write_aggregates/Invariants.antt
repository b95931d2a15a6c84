-- `grouping::write_aggregates` writes cell by cell: after j turns the first j aggregates stand in the row.
use Rattle.grouping.specs.Writing.{CellsDone}
use Rattle.grouping.proofs.write_aggregates.Given as goal

abbrev pub invariant-loop-j : goal.invariant-loop-j
invariant-loop-j l = CellsDone l.s l.at l.j l.initial.cells l.initial.marks l.cells l.marks l.rows.at l.rows.count l.rows.width l.to l.scratch
