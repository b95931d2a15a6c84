-- `shapes::shape_of` scans the string as the definition does: at each turn the scan of what is left gives the shape of the whole.
use Rattle.std.proofs.Common.{◌-◌, length}
use Rattle.shapes.specs.Scanning.{Scanned}
use Rattle.shapes.proofs.shape_of.Given as goal

abbrev pub invariant-loop-at : goal.invariant-loop-at
invariant-loop-at l = Scanned l.s l.at l.trees l.nodes l.leaves

abbrev pub decreases-loop-at : goal.decreases-loop-at
decreases-loop-at l = length l.s - l.at
