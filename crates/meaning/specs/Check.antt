-- Refusals 1 to 4: "tested in that order over the whole plan".
use Rattle.std.specs.Prelude.{Bool, true, false, not, cond, ◌&&◌, ◌||◌, List, [], ◌∷◌, ℕ, zero, suc, eqb, leb, ltb, length, pos, nat_abs}
use Rattle.meaning.specs.Limits.{most_nodes, most_leaves, most_columns, most_pairs, most_size, up_to}
use Rattle.meaning.specs.Cells.{Cell, null, num, eq_z}
use Rattle.meaning.specs.Plans.{Row, Aggregate, rows, count, sum, least, greatest, distinct_sum, distinct_count, weighted_sum, weighted_count, columns_read, Pair, Join, inner, left_outer, full_outer, left_defaults, right_defaults, Plan, leaf, join, group}
use Rattle.meaning.specs.Arrangement.{Answers}
use Rattle.meaning.specs.Rules.{Kind, plain, weight}
use Rattle.meaning.specs.Columns.{width, kinds, kind_at, nodes, leaves}

-- a refusal's number where its condition holds, else 0
unfoldable pub refuse : ℕ → Bool → ℕ
refuse n holds = cond holds n 0

-- the first number that is not 0, in the order of the list; 0 where there is none
unfoldable pub first_of : List ℕ → ℕ
first_of [] = 0
first_of (zero ∷ ns) = first_of ns
first_of (suc n ∷ ns) = suc n

-- a test of every element
unfoldable pub all : {A : Type 0} → (A → Bool) → List A → Bool
all f [] = true
all f (x ∷ xs) = f x && all f xs

-- a test of every node of a plan, each as the root of its subtree
unfoldable pub every_node : (Plan → Bool) → Plan → Bool
every_node f (leaf t w) = f (leaf t w)
every_node f (join j ps l r) = f (join j ps l r) && (every_node f l && every_node f r)
every_node f (group cols aggs i) = f (group cols aggs i) && every_node f i

-- the pairs of a join are as many as the table says
unfoldable pub pairs_within : Plan → Bool
pairs_within (leaf t w) = true
pairs_within (join j ps l r) = up_to most_pairs (length ps)
pairs_within (group cols aggs i) = true

-- 2, at one node: "widths or pairs are outside the table above"
unfoldable pub node_within : Plan → Bool
node_within p = up_to most_columns (width p) && pairs_within p

-- 2: "nodes, leaves, widths or pairs are outside the table above"
unfoldable pub within : Plan → Bool
within p = leb (nodes p) most_nodes && (leb (leaves p) most_leaves && every_node node_within p)

-- every pair names a column of each input
unfoldable pub pairs_there : List Pair → ℕ → ℕ → Bool
pairs_there ps l r = all (λ (p : Pair). ltb p.left l && ltb p.right r) ps

-- a side that is padded has a default for each column and for no other
unfoldable pub defaults_there : Join → ℕ → ℕ → Bool
defaults_there inner l r = true
defaults_there (left_outer dr) l r = eqb (length dr) r
defaults_there (full_outer dl dr) l r = eqb (length dl) l && eqb (length dr) r

-- the columns that are listed are all there
unfoldable pub columns_there : ℕ → List ℕ → Bool
columns_there w cols = all (λ (i : ℕ). ltb i w) cols

-- no column is listed twice
unfoldable pub distinct : List ℕ → Bool
distinct [] = true
distinct (i ∷ is) = all (λ (k : ℕ). not (eqb i k)) is && distinct is

-- 3, at one node: "a column isn't there, or a grouping column is repeated"
unfoldable pub node_columns : Plan → Bool
node_columns (leaf t w) = true
node_columns (join j ps l r) = pairs_there ps (width l) (width r) && defaults_there j (width l) (width r)
node_columns (group cols aggs i) =
    columns_there (width i) cols && (distinct cols && all (λ (a : Aggregate). columns_there (width i) (columns_read a)) aggs)

-- "A default for a weight column is 0, 1 or null; any default may be null."
unfoldable pub default_right : Kind → Cell → Bool
default_right k null = true
default_right plain (num z) = leb (nat_abs z) most_size
default_right weight (num z) = eq_z z (pos 0) || eq_z z (pos 1)

-- each of a side's defaults, by the kind of its column
unfoldable pub defaults_right : List Kind → Row → Bool
defaults_right ks [] = true
defaults_right [] (d ∷ ds) = true
defaults_right (k ∷ ks) (d ∷ ds) = default_right k d && defaults_right ks ds

-- whether a kind is weight
unfoldable pub is_weight : Kind → Bool
is_weight plain = false
is_weight weight = true

-- the width of a join's left input; 0 for a node that is no join
unfoldable pub left_width : Plan → ℕ
left_width (leaf t w) = 0
left_width (join j ps l r) = width l
left_width (group cols aggs i) = 0

-- whether a node is a join
unfoldable pub is_join : Plan → Bool
is_join (leaf t w) = false
is_join (join j ps l r) = true
is_join (group cols aggs i) = false

-- two columns of a join stand in different inputs
unfoldable pub apart : ℕ → ℕ → ℕ → Bool
apart l v c = cond (ltb v l) (not (ltb c l)) (ltb c l)

-- "Each weighted aggregate stands only in a grouping directly above a join; c is a weight column of one input and v a column of the other."
unfoldable pub weight_placed : Plan → ℕ → ℕ → Bool
weight_placed i v c = is_join i && (is_weight (kind_at (kinds i) c) && apart (left_width i) v c)

-- 4, at one aggregate over a node: "a weight's place or kind is wrong"
unfoldable pub aggregate_right : Plan → Aggregate → Bool
aggregate_right i rows = true
aggregate_right i (count v) = true
aggregate_right i (sum v) = true
aggregate_right i (least v) = true
aggregate_right i (greatest v) = true
aggregate_right i (distinct_sum v) = true
aggregate_right i (distinct_count v) = true
aggregate_right i (weighted_sum v c) = weight_placed i v c
aggregate_right i (weighted_count v c) = weight_placed i v c

-- 4, at one node: "a weight's place or kind is wrong, or a default is outside its range"
unfoldable pub node_weights : Plan → Bool
node_weights (leaf t w) = true
node_weights (join j ps l r) = defaults_right (kinds l) (left_defaults j) && defaults_right (kinds r) (right_defaults j)
node_weights (group cols aggs i) = all (aggregate_right i) aggs

-- the number of the check for a plan: "1 to 4 are tested in that order over the whole plan", and 1 is `Answers`' own
unfoldable pub check_number : Plan → ℕ
check_number p =
    first_of
    (refuse 2 (not (within p)) ∷ refuse 3 (not (every_node node_columns p)) ∷ refuse 4 (not (every_node node_weights p)) ∷ [])

-- what the check answers for a byte string
abbrev pub Checks : List ℕ → ℕ → Type 0
Checks = Answers 1 check_number
