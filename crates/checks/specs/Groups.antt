-- A grouping's node describes the grouping, and a table's node the table.
use Rattle.std.specs.Prelude.{Option, ◌≡◌, refl, Bool, true, false, cond, ◌&&◌, ℕ, zero, suc, ◌+◌, ◌<◌, ◌≤◌, leb, replicate}
use Rattle.std.proofs.Math.Path.{sym, ap}
use Rattle.std.proofs.Common.{subst, ◌∙◌, leb-true, List, ◌∷◌, ◌++◌, map, arith}
use Rattle.std.proofs.Math.Bool.{and-true}
use Rattle.std.proofs.Math.ListN.{length, take}
use Rattle.meaning.specs.Limits.{most_columns, up_to}
use Rattle.meaning.specs.Plans.{Aggregate, columns_read, Plan, leaf, join, group}
use Rattle.meaning.specs.Rules.{plain}
use Rattle.meaning.specs.Columns.{width, kinds, kind_at, aggregate_kind}
use Rattle.meaning.specs.Arrangement.{group_bytes}
use Rattle.meaning.specs.Check.{all, every_node, pairs_within, node_within, columns_there, distinct, node_columns, is_join, left_width, node_weights}
use Rattle.meaning.proofs.Widths.{kinds-long}
use Rattle.refusals.specs.declared.Refusal.{Refusal}
use Rattle.refusals.specs.Numbers.{number_if}
use Rattle.lists.specs.Each.{map-append}
use Rattle.lists.specs.Tests.{and_left, and_right}
use Rattle.node_bytes.specs.Holding.{Holds}
use Rattle.node_bytes.specs.Nodes.{byte}
use Rattle.arrangement.proofs.Roots.{group-columns, group_aggregates, columns-held, aggregates_held}
use Rattle.node_checks.specs.Weights.{kind_number, weights_at, column_kinds_at, aggregate_kinds_at}
use Rattle.node_checks.specs.Trees.{columns-tree, distinct-tree, reads-tree, column-kinds-tree, aggregate-kinds-tree, weights-tree}
use Rattle.node_checks.specs.Numbers.{group_within_at, group_columns_at, group_weights_at, GroupKinds}
use Rattle.checks.specs.Verdicts.{tree_number, verdict, tree-group, tree-leaf, not_two, not_three, verdict-same}
use Rattle.checks.specs.Describing.{Described, DescribesTable}
use Rattle.checks.specs.declared.Node.{Node}

-- a test of every node tests the root
pub root_of : (f : Plan → Bool) (p : Plan) → every_node f p ≡ true → f p ≡ true
unfolding every_node
root_of f (leaf t w) e = e
root_of f (join j ps l r) e = and_left (f (join j ps l r)) (every_node f l && every_node f r) e
root_of f (group cols aggs i) e = and_left (f (group cols aggs i)) (every_node f i) e

-- a node that passes 2 has at least one column, and 16 at the most
pub some-columns : (p : Plan) → node_within p ≡ true → (0 < width p) × (width p ≤ 16)
unfolding node_within up_to most_columns
some-columns p e =
    let u : (leb 1 (width p) && leb (width p) 16) ≡ true = and_left (leb 1 (width p) && leb (width p) 16) (pairs_within p) e in
    (leb-true 1 (width p) (and_left (leb 1 (width p)) (leb (width p) 16) u), leb-true (width p) 16 (and_right (leb 1 (width p)) (leb (width p) 16) u))

-- a join that passes 2 has a left input of some columns
left-some : (p : Plan) → every_node node_within p ≡ true → is_join p ≡ true → 0 < left_width p
unfolding every_node is_join left_width
left-some (leaf t w) e j = absurd (let z : ◌≡◌ {A = ℕ} 0 1 = cc in omega arith)
left-some (join j ps l r) e _ =
    (some-columns l
    (root_of node_within l
    (and_left (every_node node_within l) (every_node node_within r) (and_right (node_within (join j ps l r)) (every_node node_within l && every_node node_within r) e)))
    ).0
left-some (group cols aggs i) e j = absurd (let z : ◌≡◌ {A = ℕ} 0 1 = cc in omega arith)

-- the refusal of a grouping above its input: the input's and its own tests decide
abbrev pub RefusesGroup : List ℕ → ℕ → Node → Option Refusal → Type 0
RefusesGroup s at i out =
    number_if out ≡ verdict (number_if i.refusal) (group_within_at s at) (group_columns_at s at i.width) (group_weights_at s at i.split i.kinds)

-- the node that the code makes of a grouping
pub record GroupMade (s : List ℕ) (at : ℕ) (i out : Node) : Type 0 where
  pub number : RefusesGroup s at i out.refusal
  pub wide : out.width ≡ byte s (at + 1) + byte s (at + 2)
  pub starts : out.first ≡ i.first
  pub parted : out.split ≡ 0
  pub kinded : GroupKinds s at i.kinds out.kinds

module _ {s : List ℕ} {at : ℕ} {i out : Node} (m : GroupMade s at i out) (cols : List ℕ) (aggs : List Aggregate) (p : Plan) (f : ℕ)
    (h : Holds s at (group_bytes cols aggs)) (d : Described p f i) where
  abbrev Read : Type 0
  Read = all (λ (a : Aggregate). columns_there (width p) (columns_read a)) aggs ≡ true

  within-group : group_within_at s at ≡ node_within (group cols aggs p)
  unfolding group_within_at node_within pairs_within width
  within-group = rw (group-columns s at cols aggs h, group_aggregates s at cols aggs h) (sym (and-true _))

  columns-group : group_columns_at s at i.width ≡ node_columns (group cols aggs p)
  unfolding group_columns_at node_columns
  columns-group =
      rw (d.wide, ← reads-tree s (at + 3 + byte s (at + 1)) aggs (width p) (aggregates_held s at cols aggs h))
      (rw (group-columns s at cols aggs h, group_aggregates s at cols aggs h)
      (rw (columns-tree s (at + 3) cols (width p) (columns-held s at cols aggs h), distinct-tree s (at + 3) cols (columns-held s at cols aggs h))))

  -- the columns of a grouping that passes 3 are there
  named : node_columns (group cols aggs p) ≡ true → columns_there (width p) cols ≡ true
  unfolding node_columns
  named c =
      and_left (columns_there (width p) cols)
      (distinct cols && all (λ (a : Aggregate). columns_there (width p) (columns_read a)) aggs) c

  read : node_columns (group cols aggs p) ≡ true → Read
  unfolding node_columns
  read c =
      and_right (distinct cols) (all (λ (a : Aggregate). columns_there (width p) (columns_read a)) aggs)
      (and_right (columns_there (width p) cols)
      (distinct cols && all (λ (a : Aggregate). columns_there (width p) (columns_read a)) aggs) c)

  module _ (w : every_node node_within p ≡ true) (c : every_node node_columns p ≡ true) where
    begins : take (length (kinds p)) i.kinds ≡ map kind_number (kinds p)
    begins = ap (λ (n : ℕ). take n i.kinds) (kinds-long p) ∙ d.kinded w c

    weights-group : node_columns (group cols aggs p) ≡ true → group_weights_at s at i.split i.kinds ≡ node_weights (group cols aggs p)
    unfolding group_weights_at node_weights
    weights-group n =
        rw d.parted
        (ap (λ (k : ℕ). weights_at s (at + 3 + byte s (at + 1)) k (left_width p) i.kinds) (group_aggregates s at cols aggs h)
        ∙ weights-tree i.kinds p begins (left-some p w) s (at + 3 + byte s (at + 1)) aggs (aggregates_held s at cols aggs h)
        (subst (λ (k : ℕ). all (λ (a : Aggregate). columns_there k (columns_read a)) aggs ≡ true) (sym (kinds-long p)) (read n)))

    kinds-group : node_within (group cols aggs p) ≡ true → node_columns (group cols aggs p) ≡ true
        → take (width (group cols aggs p)) out.kinds ≡ map kind_number (kinds (group cols aggs p))
    unfolding width kinds
    kinds-group v n =
        let few : length cols + length aggs ≤ 16 = (some-columns (group cols aggs p) v).1 in
        let a : byte s (at + 1) ≡ length cols = group-columns s at cols aggs h in
        let b : byte s (at + 2) ≡ length aggs = group_aggregates s at cols aggs h in
        let front : column_kinds_at s (at + 3) (length cols) i.kinds ≡ map kind_number (map (kind_at (kinds p)) cols) =
        column-kinds-tree i.kinds (kinds p) begins s (at + 3) cols (columns-held s at cols aggs h)
        (subst (λ (k : ℕ). columns_there k cols ≡ true) (sym (kinds-long p)) (named n)) in
        let back : aggregate_kinds_at s (at + 3 + byte s (at + 1)) (length aggs) i.kinds ≡ map kind_number (map (aggregate_kind (kinds p)) aggs) =
        aggregate-kinds-tree i.kinds (kinds p) begins s (at + 3 + byte s (at + 1)) aggs (aggregates_held s at cols aggs h)
        (subst (λ (k : ℕ). all (λ (a : Aggregate). columns_there k (columns_read a)) aggs ≡ true) (sym (kinds-long p)) (read n)) in
        ap (λ (k : ℕ). take k out.kinds) (let q : length cols + length aggs ≡ byte s (at + 1) + byte s (at + 2) = omega arith in q)
        ∙ m.kinded (omega arith)
        ∙ ap (λ (k : ℕ). column_kinds_at s (at + 3) k i.kinds ++ aggregate_kinds_at s (at + 3 + byte s (at + 1)) (byte s (at + 2)) i.kinds) a
        ∙ ap (λ (x : List ℕ). x ++ aggregate_kinds_at s (at + 3 + byte s (at + 1)) (byte s (at + 2)) i.kinds) front
        ∙ ap (λ (k : ℕ). map kind_number (map (kind_at (kinds p)) cols) ++ aggregate_kinds_at s (at + 3 + byte s (at + 1)) k i.kinds) b
        ∙ ap (λ (x : List ℕ). map kind_number (map (kind_at (kinds p)) cols) ++ x) back
        ∙ sym (map-append kind_number (map (kind_at (kinds p)) cols) (map (aggregate_kind (kinds p)) aggs))

  input_fine : (tree_number p ≡ 2 → ⊥) → (tree_number p ≡ 3 → ⊥) → (every_node node_within p ≡ true) × (every_node node_columns p ≡ true)
  unfolding tree_number
  input_fine two three = (not_two _ _ _ two, not_three _ _ _ two three)

  number-group : number_if out.refusal ≡ tree_number (group cols aggs p)
  number-group =
      m.number
      ∙ ap (λ (n : ℕ). verdict n (group_within_at s at) (group_columns_at s at i.width) (group_weights_at s at i.split i.kinds)) d.number
      ∙ ap (λ (b : Bool). verdict (tree_number p) b (group_columns_at s at i.width) (group_weights_at s at i.split i.kinds)) within-group
      ∙ ap (λ (b : Bool). verdict (tree_number p) (node_within (group cols aggs p)) b (group_weights_at s at i.split i.kinds)) columns-group
      ∙ verdict-same (tree_number p) (node_within (group cols aggs p)) (node_columns (group cols aggs p)) (group_weights_at s at i.split i.kinds) (node_weights (group cols aggs p))
      (λ v two n three. let fine = input_fine two three in weights-group fine.0 fine.1 n)
      ∙ sym (tree-group cols aggs p)

  pub group_described : Described (group cols aggs p) f out
  unfolding width left_width every_node
  group_described = record {
    number = number-group;
    wide = m.wide ∙ (let a = group-columns s at cols aggs h in let b = group_aggregates s at cols aggs h in cc);
    starts = m.starts ∙ d.starts;
    parted = m.parted;
    kinded = λ v n.
        kinds-group
        (and_right (node_within (group cols aggs p)) (every_node node_within p) v)
        (and_right (node_columns (group cols aggs p)) (every_node node_columns p) n)
        (and_left (node_within (group cols aggs p)) (every_node node_within p) v)
        (and_left (node_columns (group cols aggs p)) (every_node node_columns p) n);
  }

-- a table's columns are plain
plain-kinds : (w n : ℕ) → w ≤ n → take w (replicate n 0) ≡ map kind_number (replicate w plain)
unfolding kind_number
plain-kinds zero n l = refl
plain-kinds (suc w) zero l = absurd (omega arith)
plain-kinds (suc w) (suc n) l = ap (λ (x : List ℕ). 0 ∷ x) (plain-kinds w n (omega arith))

pub record TableMade (n w : ℕ) (out : Node) : Type 0 where
  pub number : number_if out.refusal ≡ verdict 0 (up_to most_columns w) true true
  pub wide : out.width ≡ w
  pub starts : out.first ≡ n
  pub parted : out.split ≡ 0
  pub kinded : out.kinds ≡ replicate 16 0

number_table : (t w : ℕ) → verdict 0 (up_to most_columns w) true true ≡ cond (node_within (leaf t w)) 0 2
unfolding verdict node_within pairs_within width
number_table t w = pick (up_to most_columns w)
  where
    pick : (a : Bool) → ◌≡◌ {A = ℕ} (cond a 0 2) (cond (a && true) 0 2)
    pick true = refl
    pick false = refl

pub table_described : {n w : ℕ} {out : Node} → TableMade n w out → DescribesTable n w out
unfolding width left_width kinds every_node
table_described {n} {w} {out} m t = record {
  number = m.number ∙ number_table t w ∙ sym (tree-leaf t w);
  wide = m.wide;
  starts = m.starts;
  parted = m.parted;
  kinded = λ v c. ap (take w) m.kinded ∙ plain-kinds w 16 (some-columns (leaf t w) v).1;
}
