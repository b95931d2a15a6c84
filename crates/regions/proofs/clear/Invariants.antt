-- `regions::clear` clears from the front on, up to the n-th.
use Rattle.regions.specs.Clearing.{Cleared}
use Rattle.regions.proofs.clear.Given as goal

abbrev pub invariant-loop-at : goal.invariant-loop-at
invariant-loop-at g l = Cleared l.zero l.initial.area l.area l.at
