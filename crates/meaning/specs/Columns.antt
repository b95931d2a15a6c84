-- Width and kinds of a node, and how many nodes it has: "A node's columns and kinds follow from those of its inputs, down to the leaves."
use Rattle.std.specs.Prelude.{List, ◌++◌, map, ℕ, ◌+◌, length, get_or, replicate}
use Rattle.meaning.specs.Plans.{Aggregate, name_of, columns_read, Plan, leaf, join, group}
use Rattle.meaning.specs.Rules.{Kind, plain, weight, KindRule, always-weight, kind_of_v, rule}

-- how many columns a node has: a join its left's and its right's, a grouping its grouping columns and aggregates
unfoldable pub width : Plan → ℕ
width (leaf t w) = w
width (join j ps l r) = width l + width r
width (group cols aggs i) = length cols + length aggs

-- the kind of an aggregate whose v has the kind given: the column "Kind" of the rule table
unfoldable pub rule_kind : KindRule → Kind → Kind
rule_kind always-weight k = weight
rule_kind kind_of_v k = k

-- the kind of a column of a node, by its number
unfoldable pub kind_at : List Kind → ℕ → Kind
kind_at ks i = get_or ks i plain

-- the kind of an aggregate's column, over a node of these kinds
unfoldable pub aggregate_kind : List Kind → Aggregate → Kind
aggregate_kind ks a = rule_kind (rule (name_of a)).kind (kind_at ks (get_or (columns_read a) 0 0))

-- "Table columns are plain." "Joins and grouping columns keep their columns' kinds."
unfoldable pub kinds : Plan → List Kind
kinds (leaf t w) = replicate w plain
kinds (join j ps l r) = kinds l ++ kinds r
kinds (group cols aggs i) = map (kind_at (kinds i)) cols ++ map (aggregate_kind (kinds i)) aggs

-- how many nodes a plan has
unfoldable pub nodes : Plan → ℕ
nodes (leaf t w) = 1
nodes (join j ps l r) = nodes l + nodes r + 1
nodes (group cols aggs i) = nodes i + 1

-- how many of them are tables
unfoldable pub leaves : Plan → ℕ
leaves (leaf t w) = 1
leaves (join j ps l r) = leaves l + leaves r
leaves (group cols aggs i) = leaves i
