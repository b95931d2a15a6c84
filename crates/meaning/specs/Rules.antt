-- The rule table of the aggregates.
use Rattle.std.proofs.Math.Option.{Option, some, none}
use Rattle.std.specs.Prelude.{ℕ, pos}
use Rattle.meaning.specs.Cells.{Cell, null, num}
use Rattle.meaning.specs.Plans.{Name, Rows, Count, Sum, Least, Greatest, DistinctSum, DistinctCount, WeightedSum, WeightedCount, Aggregate, rows, count, sum, least, greatest, distinct_sum, distinct_count, weighted_sum, weighted_count}

-- "Column kinds: weight or plain."
pub data Kind : Type 0 where
  plain weight : Kind

-- the entries of the column "Kind": "weight", or "v's"
pub data KindRule : Type 0 where
  always-weight kind_of_v : KindRule

-- A line of the rule table. `columns` is how many columns the aggregate reads; `no_value` is what the aggregate gives where it has no value; `partial` is refused where none;
-- `final` reads the partial's column; `other_side` is weighted by c where it is a weighted aggregate.
pub record Rule : Type 0 where
  pub columns : ℕ
  pub no_value : Cell
  pub kind : KindRule
  pub partial : Option Name
  pub final : Option Name
  pub other_side : Option Name

-- The rule table. A count of rows has no "with no value" (a group has a row; 0 stands there) and no other side (it becomes
-- the sum of c on both).
unfoldable pub rule : Name → Rule
rule Rows = record { columns = 0; no_value = num (pos 0); kind = always-weight; partial = some Rows; final = some Sum; other_side = none }
rule Count = record { columns = 1; no_value = num (pos 0); kind = always-weight; partial = some Count; final = some Sum; other_side = some WeightedCount }
rule Sum = record { columns = 1; no_value = null; kind = kind_of_v; partial = some Sum; final = some Sum; other_side = some WeightedSum }
rule Least = record { columns = 1; no_value = null; kind = kind_of_v; partial = some Least; final = some Least; other_side = some Least }
rule Greatest = record { columns = 1; no_value = null; kind = kind_of_v; partial = some Greatest; final = some Greatest; other_side = some Greatest }
rule DistinctSum = record { columns = 1; no_value = null; kind = kind_of_v; partial = none; final = none; other_side = some DistinctSum }
rule DistinctCount = record { columns = 1; no_value = num (pos 0); kind = always-weight; partial = none; final = none; other_side = some DistinctCount }
rule WeightedSum = record { columns = 2; no_value = null; kind = kind_of_v; partial = none; final = none; other_side = none }
rule WeightedCount = record { columns = 2; no_value = num (pos 0); kind = always-weight; partial = none; final = none; other_side = none }

-- the aggregate of a name that reads v, and c where it is weighted
unfoldable pub reading : Name → ℕ → ℕ → Aggregate
reading Rows v c = rows
reading Count v c = count v
reading Sum v c = sum v
reading Least v c = least v
reading Greatest v c = greatest v
reading DistinctSum v c = distinct_sum v
reading DistinctCount v c = distinct_count v
reading WeightedSum v c = weighted_sum v c
reading WeightedCount v c = weighted_count v c
