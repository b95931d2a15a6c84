-- `shapes::shape_of` scans the string as the definition does: at each turn the scan of what is left gives the shape of the whole.
use Rattle.std.proofs.Common.{rules, sym, ◌∙◌, ◌≡◌, ◌+◌}
use Rattle.node_bytes.specs.Nodes.{byte}
use Rattle.node_bytes.specs.Tags.{says_table, not_table}
use Rattle.shapes.specs.Shapes.{leaf_count}
use Rattle.shapes.specs.Sizes.{there, inputs_said}
use Rattle.shapes.specs.Scanning.{scanned_step, table_counts, other-counts}
use Rattle.shapes.proofs.shape_of.Goals as goal
use Rattle.shapes.proofs.shape_of.Goals.{then-eq, else-eq}

pub loop-at-preserved : goal.loop-at-preserved
loop-at-preserved c =
    let n = there _ _ (sym c.in_ok-size.ensures) in
    let counted : c.if-eq.leaves ≡ c.loop-at.leaves + leaf_count (byte c.args.s.now c.loop-at.at) = elim c.if-eq.branch [
      | then-eq w ↦ table_counts _ _ _ (says_table _ (sym c.from-tag.ensures ∙ search rules)) w.leaves-is
      | else-eq w ↦ other-counts _ _ _ (not_table _ (search rules)) w.leaves-is
    ] in
    rw c.in_ok-trees.ensures.1 (
    scanned_step c.loop-at.invariant
    n.0
    (c.takes.ensures ∙ simp c.from-tag.ensures (inputs_said (byte c.args.s.now c.loop-at.at)))
    counted
    c.loop-at-test.true
    (λ z. n.1 (sym n.0 ∙ z))
    c.in_ok-trees.ensures.0
    )
