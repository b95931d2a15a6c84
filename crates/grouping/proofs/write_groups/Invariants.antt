-- `grouping::write_groups` goes from run to run: what is written, with what the rows that are left come to, is all.
use Rattle.std.proofs.Common.{◌-◌}
use Rattle.grouping.specs.Grouping.{Grouped}
use Rattle.grouping.proofs.write_groups.Given as goal

abbrev pub invariant-loop-i : goal.invariant-loop-i
invariant-loop-i l = Grouped l.s l.at l.initial.cells l.initial.marks l.cells l.marks l.input.at l.input.count l.input.width l.out l.count l.i

abbrev pub decreases-loop-i : goal.decreases-loop-i
decreases-loop-i l = l.input.count - l.i
