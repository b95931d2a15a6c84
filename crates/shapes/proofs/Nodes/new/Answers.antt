-- `shapes::Nodes::new` notes where each node starts: the loop's place is the start of the node before the k-th, and moves on by its size.
use Rattle.std.proofs.Common.{refl, ap, ◌∙◌, ℕ, ◌+◌, rules}
use Rattle.shapes.specs.Scanning.{moved, started_first, started_next}
use Rattle.shapes.specs.Steps.{stays}
use Rattle.shapes.proofs.Nodes.new.Goals as goal
use Rattle.shapes.proofs.Nodes.new.Goals.{then-at-bytes, else-at-bytes}

pub loop-k-init : goal.loop-k-init
loop-k-init c = started_first _ _ refl refl

pub loop-k-preserved : goal.loop-k-preserved
loop-k-preserved c =
    started_next c.loop-k.at c.loop-k.invariant
    (elim c.if-at-bytes.branch [
      | then-at-bytes w ↦ w.at-is ∙ ap (λ (n : ℕ). c.loop-k.at + n) (search (rules, moved))
      | else-at-bytes w ↦ w.at-is ∙ stays _ _ w.if-at-bytes.false
    ])
    c.loop-k-test.true
