-- The one byte string of a plan. docs/ARRANGEMENT.md says the same for someone who writes such bytes.
use Rattle.std.specs.Prelude.{◌≡◌, List, [], ◌∷◌, ◌++◌, ℕ, zero, suc, ◌+◌, ◌*◌, ◌/◌, ◌%◌, length, replicate, ℤ, pos, negsuc}
use Rattle.meaning.specs.Cells.{Cell, null, num}
use Rattle.meaning.specs.Plans.{Name, Rows, Count, Sum, Least, Greatest, DistinctSum, DistinctCount, WeightedSum, WeightedCount, Aggregate, name_of, columns_read, Pair, Join, inner, left_outer, full_outer, left_defaults, right_defaults, Plan, leaf, join, group}

-- a whole number as a natural one: 0, -1, 1, -2, 2 .. become 0, 1, 2, 3, 4 ..
unfoldable pub zigzag : ℤ → ℕ
zigzag (pos n) = 2 * n
zigzag (negsuc n) = 2 * n + 1

-- a number as k + 1 bytes, the lowest first; the last is no byte where the number does not fit
unfoldable pub low_first : ℕ → ℕ → List ℕ
low_first zero x = x ∷ []
low_first (suc k) x = x % 256 ∷ low_first k (x / 256)

-- a default: its mark as in a table, then eight bytes of its number; a null has number 0
unfoldable pub cell_bytes : Cell → List ℕ
cell_bytes null = 1 ∷ replicate 8 0
cell_bytes (num z) = 0 ∷ low_first 7 (zigzag z)

-- things one behind the other, each in its bytes
unfoldable pub in_row : {A : Type 0} → (A → List ℕ) → List A → List ℕ
in_row f [] = []
in_row f (x ∷ xs) = f x ++ in_row f xs

-- a pair: the left column, then the right one
unfoldable pub pair_bytes : Pair → List ℕ
pair_bytes p = p.left ∷ p.right ∷ []

-- the number of a join's kind
unfoldable pub join_number : Join → ℕ
join_number inner = 1
join_number (left_outer dr) = 2
join_number (full_outer dl dr) = 3

-- a join: its kind, how many pairs, left defaults and right defaults, then these in this order
unfoldable pub join_bytes : Join → List Pair → List ℕ
join_bytes j ps =
    join_number j
    ∷ length ps
    ∷ length (left_defaults j)
    ∷ length (right_defaults j)
    ∷ in_row pair_bytes ps ++ (in_row cell_bytes (left_defaults j) ++ in_row cell_bytes (right_defaults j))

-- the number of an aggregate's name, in the order of the rule table
unfoldable pub name_number : Name → ℕ
name_number Rows = 0
name_number Count = 1
name_number Sum = 2
name_number Least = 3
name_number Greatest = 4
name_number DistinctSum = 5
name_number DistinctCount = 6
name_number WeightedSum = 7
name_number WeightedCount = 8

-- the columns that an aggregate reads in two places, 0 where it reads none
unfoldable pub two_places : List ℕ → List ℕ
two_places [] = 0 ∷ 0 ∷ []
two_places (v ∷ []) = v ∷ 0 ∷ []
two_places (v ∷ c ∷ more) = v ∷ c ∷ []

-- an aggregate: the number of its name, then v and c
unfoldable pub aggregate_bytes : Aggregate → List ℕ
aggregate_bytes a = name_number (name_of a) ∷ two_places (columns_read a)

-- a grouping column: its number
unfoldable pub column_bytes : ℕ → List ℕ
column_bytes i = i ∷ []

-- a grouping: how many grouping columns and aggregates, then these
unfoldable pub group_bytes : List ℕ → List Aggregate → List ℕ
group_bytes cols aggs = 4 ∷ length cols ∷ length aggs ∷ in_row column_bytes cols ++ in_row aggregate_bytes aggs

-- "nodes listed inputs first, left input's whole subtree before the right's, root last"
unfoldable pub bytes : Plan → List ℕ
bytes (leaf t w) = 0 ∷ t ∷ w ∷ []
bytes (join j ps l r) = bytes l ++ (bytes r ++ join_bytes j ps)
bytes (group cols aggs i) = bytes i ++ group_bytes cols aggs

-- What a job answers for a byte string: "the bytes, or no bytes, aren't the arrangement of a tree of known nodes" is
-- that there is no plan whose byte string this is; else the answer is that of the plan.
pub data Answers {A : Type 0} (no_plan : A) (of_plan : Plan → A) (given : List ℕ) : A → Type 0 where
  for_no_plan : ((p : Plan) → bytes p ≡ given → ⊥) → Answers no_plan of_plan given no_plan
  for_plan : (p : Plan) → bytes p ≡ given → Answers no_plan of_plan given (of_plan p)
