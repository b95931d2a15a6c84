-- The table of limits: least and most of each thing that a plan, a table or a run may have.
use Rattle.std.specs.Prelude.{Bool, ◌&&◌, ℕ, leb}

-- "nodes | 1 | 12"
unfoldable pub most_nodes : ℕ
most_nodes = 12

-- "leaves | 1 | 3"
unfoldable pub most_leaves : ℕ
most_leaves = 3

-- "columns of a node | 1 | 16"
unfoldable pub most_columns : ℕ
most_columns = 16

-- "column pairs of a join | 1 | 4"
unfoldable pub most_pairs : ℕ
most_pairs = 4

-- "rows of a table | 0 | 1,024"
unfoldable pub most_rows : ℕ
most_rows = 1024

-- "table cell, plain default | -2,147,483,647 | 2,147,483,647": the greatest size without sign
unfoldable pub most_size : ℕ
most_size = 2147483647

-- "row limit L of a run | 1 | 4,096"
unfoldable pub most_limit : ℕ
most_limit = 4096

-- at least 1 and at most `most`: the form of the table's lines that have a least of 1
unfoldable pub up_to : ℕ → ℕ → Bool
up_to most n = leb 1 n && leb n most
