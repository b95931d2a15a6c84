-- The plan tree.
use Rattle.std.specs.Prelude.{List, [], ◌∷◌, ℕ}
use Rattle.meaning.specs.Cells.{Cell}

-- a row is its cells in the order of the columns
abbrev pub Row : Type 0
Row = List Cell

-- a table is its rows in order
abbrev pub Table : Type 0
Table = List Row

-- the nine aggregates, by name
pub data Name : Type 0 where
  Rows Count Sum Least Greatest DistinctSum DistinctCount WeightedSum WeightedCount : Name

-- an aggregate with the columns that it reads: none, "v", or "v" and the weight "c"
pub data Aggregate : Type 0 where
  rows : Aggregate
  count sum least greatest distinct_sum distinct_count : ℕ → Aggregate
  weighted_sum weighted_count : ℕ → ℕ → Aggregate

-- the name of an aggregate
unfoldable pub name_of : Aggregate → Name
name_of rows = Rows
name_of (count v) = Count
name_of (sum v) = Sum
name_of (least v) = Least
name_of (greatest v) = Greatest
name_of (distinct_sum v) = DistinctSum
name_of (distinct_count v) = DistinctCount
name_of (weighted_sum v c) = WeightedSum
name_of (weighted_count v c) = WeightedCount

-- the columns that an aggregate reads
unfoldable pub columns_read : Aggregate → List ℕ
columns_read rows = []
columns_read (count v) = v ∷ []
columns_read (sum v) = v ∷ []
columns_read (least v) = v ∷ []
columns_read (greatest v) = v ∷ []
columns_read (distinct_sum v) = v ∷ []
columns_read (distinct_count v) = v ∷ []
columns_read (weighted_sum v c) = v ∷ c ∷ []
columns_read (weighted_count v c) = v ∷ c ∷ []

-- a column pair of a join: a column of the left input and one of the right, each in its input's own numbers
pub record Pair : Type 0 where
  pub left : ℕ
  pub right : ℕ

-- "inner joins, left outer joins with defaults, full outer joins with defaults": the defaults of each side that is padded
pub data Join : Type 0 where
  inner : Join
  left_outer : Row → Join
  full_outer : Row → Row → Join

-- the defaults of a join's left side, none where it is not padded
unfoldable pub left_defaults : Join → Row
left_defaults inner = []
left_defaults (left_outer dr) = []
left_defaults (full_outer dl dr) = dl

-- and of its right side
unfoldable pub right_defaults : Join → Row
right_defaults inner = []
right_defaults (left_outer dr) = dr
right_defaults (full_outer dl dr) = dr

-- "A plan is a tree of tables, inner joins, left outer joins with defaults, full outer joins with defaults, and groupings."
pub data Plan : Type 0 where
  leaf : (name width : ℕ) → Plan
  join : Join → List Pair → Plan → Plan → Plan
  group : List ℕ → List Aggregate → Plan → Plan
