-- `regions::copy_into` copies cell by cell: after i turns the first i cells and marks of the source stand at their new place.
use Rattle.std.proofs.Common.{pos}
use Rattle.regions.specs.Copying.{Copied}
use Rattle.regions.proofs.copy_into.Given as goal

abbrev pub invariant-loop-i : goal.invariant-loop-i
invariant-loop-i l = record {
  cells : Copied (pos 0) l.source l.initial.cells l.cells l.from l.to l.i;
  marks : Copied 0 l.source_marks l.initial.marks l.marks l.from l.to l.i;
}
