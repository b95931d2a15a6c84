-- What an aggregate gives over the rows of a group.
use Rattle.std.specs.Prelude.{cond, List, [], ◌∷◌, ◌++◌, suc, length, ℤ, pos, ◌+ℤ◌, ◌*ℤ◌}
use Rattle.std.specs.Int.Signed.{lt_z}
use Rattle.meaning.specs.Cells.{Cell, null, num, eq_z}
use Rattle.meaning.specs.Plans.{Row, Table, Name, Rows, Count, Sum, Least, Greatest, DistinctSum, DistinctCount, WeightedSum, WeightedCount, Aggregate, rows, count, sum, least, greatest, distinct_sum, distinct_count, weighted_sum, weighted_count, name_of}
use Rattle.meaning.specs.Rules.{rule}
use Rattle.meaning.specs.Joining.{cell}

-- "Nulls are skipped.": the value of a cell, if it has one
unfoldable pub value : Cell → List ℤ
value null = []
value (num z) = z ∷ []

-- "v times c over rows where both are present"
unfoldable pub product : Cell → Cell → List ℤ
product null c = []
product (num v) null = []
product (num v) (num c) = (v *ℤ c) ∷ []

-- "c over rows where both are present"
unfoldable pub weight_of : Cell → Cell → List ℤ
weight_of null c = []
weight_of (num v) null = []
weight_of (num v) (num c) = c ∷ []

-- what an aggregate takes of one row; a count of rows takes each row as 1
unfoldable pub taken : Aggregate → Row → List ℤ
taken rows r = pos 1 ∷ []
taken (count v) r = value (cell r v)
taken (sum v) r = value (cell r v)
taken (least v) r = value (cell r v)
taken (greatest v) r = value (cell r v)
taken (distinct_sum v) r = value (cell r v)
taken (distinct_count v) r = value (cell r v)
taken (weighted_sum v c) r = product (cell r v) (cell r c)
taken (weighted_count v c) r = weight_of (cell r v) (cell r c)

-- the values that an aggregate takes of a group's rows, in row order
unfoldable pub values_of : Aggregate → Table → List ℤ
values_of a [] = []
values_of a (r ∷ rs) = taken a r ++ values_of a rs

-- the values added up
unfoldable pub total : List ℤ → ℤ
total [] = pos 0
total (x ∷ xs) = x +ℤ total xs

-- the least of a value and more values
unfoldable pub smallest : ℤ → List ℤ → ℤ
smallest m [] = m
smallest m (x ∷ xs) = smallest (cond (lt_z x m) x m) xs

-- the greatest of a value and more values
unfoldable pub largest : ℤ → List ℤ → ℤ
largest m [] = m
largest m (x ∷ xs) = largest (cond (lt_z m x) x m) xs

-- a value into an ascending list, each value once
unfoldable pub into : ℤ → List ℤ → List ℤ
into x [] = x ∷ []
into x (y ∷ ys) = cond (lt_z x y) (x ∷ y ∷ ys) (cond (eq_z x y) (y ∷ ys) (y ∷ into x ys))

-- "a distinct one with its values ascending"
unfoldable pub ascending : List ℤ → List ℤ
ascending [] = []
ascending (x ∷ xs) = into x (ascending xs)

-- what an aggregate makes of its values, of which there is at least one
unfoldable pub made_of : Name → ℤ → List ℤ → ℤ
made_of Rows x xs = pos (suc (length xs))
made_of Count x xs = pos (suc (length xs))
made_of Sum x xs = total (x ∷ xs)
made_of Least x xs = smallest x xs
made_of Greatest x xs = largest x xs
made_of DistinctSum x xs = total (ascending (x ∷ xs))
made_of DistinctCount x xs = pos (length (ascending (x ∷ xs)))
made_of WeightedSum x xs = total (x ∷ xs)
made_of WeightedCount x xs = total (x ∷ xs)

-- the column "With no value" of the rule table, else what is made of the values
unfoldable pub answer : Name → List ℤ → Cell
answer n [] = (rule n).no_value
answer n (x ∷ xs) = num (made_of n x xs)

-- an aggregate over the rows of a group
unfoldable pub aggregate : Aggregate → Table → Cell
aggregate a t = answer (name_of a) (values_of a t)
