-- `grouping::pick` picks cell by cell: after j turns the first j cells stand at their new place.
use Rattle.std.proofs.Common.{pos}
use Rattle.grouping.specs.Picking.{Picked}
use Rattle.grouping.proofs.pick.Given as goal

abbrev pub invariant-loop-j : goal.invariant-loop-j
invariant-loop-j g l =
    Picked (pos 0) l.initial.cells l.cells (goal.F-post g l.place) l.to l.j × Picked 0 l.initial.marks l.marks (goal.F-post g l.place) l.to l.j
