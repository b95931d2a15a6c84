-- `checks::describe` describes the n-th node from its inputs, whose numbers fall: the laws of `Describing` at each way out.
use Rattle.std.proofs.Common.{◌≡◌, ◌∙◌, sym, refl, rules, ℕ, arith, get_or}
use Rattle.node_bytes.specs.Words.{Bytes}
use Rattle.node_bytes.specs.Nodes.{byte}
use Rattle.node_bytes.specs.Tags.{says_table, says_grouping, not_table, not_grouping}
use Rattle.checks.specs.Describing.{Before, Left, root-inside, before-node, group-inside, group_describes, left-node, left-small, join_describes, table_describes}
use Rattle.checks.proofs.+describe.Goals as goal
use Rattle.checks.proofs.+describe.Goals.{Else-eq, Then-eq-2, Else-eq-2}

pub bounds-s-at : goal.bounds-s-at
bounds-s-at t c = omega (arith, root-inside c.requires (c.args.nodes.now.placed c.args.n c.requires.few))

pub overflow_add-at : goal.overflow_add-at
overflow_add-at t c = omega (arith, root-inside c.requires (c.args.nodes.now.placed c.args.n c.requires.few))

pub bounds-s-at-then-eq : goal.bounds-s-at-then-eq
bounds-s-at-then-eq t c = omega (arith, root-inside c.requires (c.args.nodes.now.placed c.args.n c.requires.few))

pub returns-then-eq : goal.returns-then-eq
returns-then-eq t c =
    table_describes c.requires (c.args.nodes.now.placed c.args.n c.requires.few)
    (says_table _ (sym c.from-tag.ensures ∙ search rules)) _ refl c.table_node.result c.table_node.ensures

-- the first byte is no table's, and so an input stands before the node
module _ (t : ℕ) (c : Else-eq t) where
  no_table : byte c.args.nodes.now.bytes.now (get_or c.args.nodes.now.starts c.args.n 0) ≡ 0 → ⊥
  no_table = not_table _ (search rules)

  right : Before c.args.nodes.now.bytes.now c.args.n
  right = before-node c.requires (c.args.nodes.now.placed c.args.n c.requires.few) no_table

pub overflow_sub-n : goal.overflow_sub-n
overflow_sub-n t c = (right t c).some

pub describe-right-requires : goal.describe-right-requires
describe-right-requires t c = (omega (arith, c.decreases, (right t c).some), (right t c).stands)

-- a grouping's first byte
four : (t : ℕ) (c : Then-eq-2 t) → byte c.args.nodes.now.bytes.now (get_or c.args.nodes.now.starts c.args.n 0) ≡ 4
four t c = says_grouping _ (sym c.from-tag.ensures ∙ search rules)

pub group_node-requires : goal.group_node-requires
group_node-requires t c = group-inside c.requires (c.args.nodes.now.placed c.args.n c.requires.few) (four t c)

pub returns-then-eq-2 : goal.returns-then-eq-2
returns-then-eq-2 t c =
    group_describes c.requires (c.args.nodes.now.placed c.args.n c.requires.few) (four t (goal.at.returns-then-eq-2 t c).Then-eq-2)
    c.describe-right.result c.group_node.result c.describe-right.ensures c.group_node.ensures

-- a join's first byte is neither's, and its left input
module _ (t : ℕ) (c : Else-eq-2 t) where
  no_leaf : byte c.args.nodes.now.bytes.now (get_or c.args.nodes.now.starts c.args.n 0) ≡ 0 → ⊥
  no_leaf = not_table _ (search rules)

  no_group : byte c.args.nodes.now.bytes.now (get_or c.args.nodes.now.starts c.args.n 0) ≡ 4 → ⊥
  no_group = not_grouping _ (search rules)

  bytes : Bytes c.args.nodes.now.bytes.now
  bytes i = (c.type_inv.s i).fits

  left : Left c.requires (c.args.nodes.now.placed c.args.n c.requires.few) bytes no_leaf no_group c.describe-right.result c.describe-right.ensures
  left = left-node _ _ _ _ _ _ _

pub overflow_sub-right : goal.overflow_sub-right
overflow_sub-right t c = (left t (goal.at.overflow_sub-right t c).Else-eq-2).some

pub describe-left-requires : goal.describe-left-requires
describe-left-requires t c =
    let l = left t (goal.at.describe-left-requires t c).Else-eq-2 in
    (omega (arith, c.decreases, l.below), l.stands)

pub join_node-requires : goal.join_node-requires
join_node-requires t c =
    let d = (goal.at.join_node-requires t c).Else-eq-2 in
    let l = left t d in (
      l.inside,
      (
        left-small c.requires (c.args.nodes.now.placed c.args.n c.requires.few) (bytes t d) (no_leaf t d) (no_group t d)
            c.describe-right.result c.describe-right.ensures c.describe-left.result c.describe-left.ensures,
        l.right-small,
      ),
    )

pub returns : goal.returns
returns t c =
    let d = (goal.at.returns t c).Else-eq-2 in
    join_describes c.requires (c.args.nodes.now.placed c.args.n c.requires.few) (bytes t d) (no_leaf t d) (no_group t d)
    c.describe-right.result c.describe-right.ensures c.describe-left.result c.describe-left.ensures
    c.join_node.result c.join_node.ensures
