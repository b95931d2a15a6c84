-- `checks::root_of` answers by the shape of the string, and where that is a plan's within the counts, by the node of its root.
use Rattle.std.proofs.Common.{◌≡◌, ◌-◌, Some, Err, rules, arith}
use Rattle.refusals.specs.declared.Refusal.{Refusal}
use Rattle.shapes.specs.Shapes.{shape_of}
use Rattle.checks.specs.Describing.{Describes}
use Rattle.checks.specs.Answering.{RootOf, root_none, root_large, root-some, root-standing, root_refused, root_passes}
use Rattle.checks.proofs.root_of.Goals as goal

pub returns-in_err-shape : goal.returns-in_err-shape
returns-in_err-shape c = search (rules, root_none)

pub returns-then-shape-gt12 : goal.returns-then-shape-gt12
returns-then-shape-gt12 c = search (rules, root_large)

pub overflow_sub-shape : goal.overflow_sub-shape
overflow_sub-shape c = search (rules, root-some)

pub describe-root-requires : goal.describe-root-requires
describe-root-requires c = search (rules, root-standing)

pub returns-in-Some : goal.returns-in-Some
returns-in-Some c =
    let shape : Some c.in_ok-shape.shape ≡ shape_of c.args.s.now = search rules in
    let root : Describes c.args.s.now (c.in_ok-shape.shape.nodes - 1) c.describe-root.result = search rules in
    let refused : (refusal : Refusal) → c.describe-root.result.refusal ≡ Some refusal → RootOf c.args.s.now (Err refusal) =
    λ refusal e. root_refused c.args.s.now (λ i. (c.type_inv.s i).fits) c.in_ok-shape.shape shape c.describe-root.result root (omega arith) (omega arith) e in
    search (rules, refused)

pub returns-in-None : goal.returns-in-None
returns-in-None c = search (rules, root_passes)
