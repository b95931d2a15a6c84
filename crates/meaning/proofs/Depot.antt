-- The worked depot of the scope: tables U and R, plan A and its two pushes, and the cases P1 to P12.
use Rattle.std.proofs.Common.{List, [], ◌∷◌, ℕ, pos}
use Rattle.meaning.specs.Cells.{Cell, null, num}
use Rattle.meaning.specs.Plans.{Row, Table, rows, count, sum, distinct_count, weighted_sum, weighted_count, Pair, left_outer, full_outer, Plan, leaf, join, group}
use Rattle.meaning.specs.Running.{Lent}
use Rattle.meaning.proofs.Claims.{Claim, counts, gives, runs, pushes, refuses, Example}

abbrev pub n : ℕ → Cell
n x = num (pos x)

abbrev pub three_nulls : Row
three_nulls = null ∷ null ∷ null ∷ []

-- U (depot, tile, age): (1,10,5) (1,10,7) (1,20,4) (2,30,null). R (tile, class, limit): (10,1,30) (10,1,40) (20,2,50) (40,2,20).
abbrev pub depot : Lent
depot = record {
  tables = record { width = 3; rows = 4; start = 0 } ∷ record { width = 3; rows = 4; start = 12 } ∷ [];
  cells = pos 1 ∷ pos 10 ∷ pos 5 ∷ pos 1 ∷ pos 10 ∷ pos 7 ∷ pos 1 ∷ pos 20 ∷ pos 4 ∷ pos 2 ∷ pos 30 ∷ pos 0
      ∷ pos 10 ∷ pos 1 ∷ pos 30 ∷ pos 10 ∷ pos 1 ∷ pos 40 ∷ pos 20 ∷ pos 2 ∷ pos 50 ∷ pos 40 ∷ pos 2 ∷ pos 20 ∷ [];
  marks = 0 ∷ 0 ∷ 0 ∷ 0 ∷ 0 ∷ 0 ∷ 0 ∷ 0 ∷ 0 ∷ 0 ∷ 0 ∷ 1 ∷ 0 ∷ 0 ∷ 0 ∷ 0 ∷ 0 ∷ 0 ∷ 0 ∷ 0 ∷ 0 ∷ 0 ∷ 0 ∷ 0 ∷ [];
}

-- "Both tables empty"
abbrev pub empty : Lent
empty = record { tables = record { width = 3; rows = 0; start = 0 } ∷ record { width = 3; rows = 0; start = 0 } ∷ []; cells = []; marks = [] }

-- "U of one row (3,null,9), R as above"
abbrev pub one_use : Lent
one_use = record {
  tables = record { width = 3; rows = 1; start = 12 } ∷ record { width = 3; rows = 4; start = 0 } ∷ [];
  cells = pos 10 ∷ pos 1 ∷ pos 30 ∷ pos 10 ∷ pos 1 ∷ pos 40 ∷ pos 20 ∷ pos 2 ∷ pos 50 ∷ pos 40 ∷ pos 2 ∷ pos 20 ∷ pos 3 ∷ pos 0 ∷ pos 9 ∷ [];
  marks = 0 ∷ 0 ∷ 0 ∷ 0 ∷ 0 ∷ 0 ∷ 0 ∷ 0 ∷ 0 ∷ 0 ∷ 0 ∷ 0 ∷ 0 ∷ 1 ∷ 0 ∷ [];
}

-- a use and a release that both have no tile
abbrev pub no_tiles : Lent
no_tiles = record {
  tables = record { width = 3; rows = 1; start = 0 } ∷ record { width = 3; rows = 1; start = 3 } ∷ [];
  cells = pos 3 ∷ pos 0 ∷ pos 9 ∷ pos 0 ∷ pos 1 ∷ pos 30 ∷ [];
  marks = 0 ∷ 1 ∷ 0 ∷ 1 ∷ 0 ∷ 0 ∷ [];
}

abbrev pub uses : Plan
uses = leaf 0 3

abbrev pub releases : Plan
releases = leaf 1 3

abbrev pub on_tile : List Pair
on_tile = record { left = 1; right = 0 } ∷ []

-- "full join on tile, all defaults null"
abbrev pub joined : Plan
joined = join (full_outer three_nulls three_nulls) on_tile uses releases

-- "grouped by depot and class: count of rows, sum of age, sum of limit, count of age"
abbrev pub plan_A : Plan
plan_A = group (0 ∷ 4 ∷ []) (rows ∷ sum 2 ∷ sum 5 ∷ count 2 ∷ []) joined

-- plan A pushed left: "left defaults null, null, null, 0, 1"
abbrev pub uses-grouped : Plan
uses-grouped = group (0 ∷ 1 ∷ []) (sum 2 ∷ count 2 ∷ rows ∷ []) uses

abbrev pub joined-left : Plan
joined-left = join (full_outer (null ∷ null ∷ null ∷ n 0 ∷ n 1 ∷ []) three_nulls) on_tile uses-grouped releases

abbrev pub pushed-left : Plan
pushed-left = group (0 ∷ 6 ∷ []) (sum 4 ∷ sum 2 ∷ weighted_sum 7 4 ∷ sum 3 ∷ []) joined-left

-- plan A pushed right: "right defaults null, null, null, 1"
abbrev pub releases-grouped : Plan
releases-grouped = group (0 ∷ 1 ∷ []) (sum 2 ∷ rows ∷ []) releases

abbrev pub joined-right : Plan
joined-right = join (full_outer three_nulls (null ∷ null ∷ null ∷ n 1 ∷ [])) on_tile uses releases-grouped

abbrev pub pushed-right : Plan
pushed-right =
    group (0 ∷ 4 ∷ [])
    (sum 6 ∷ weighted_sum 2 6 ∷ sum 5 ∷ weighted_count 2 6 ∷ [])
    joined-right

-- "(null,2,1,null,20,0) (1,1,4,24,140,4) (1,2,1,4,50,1) (2,null,1,null,null,0)"
abbrev pub lines : Table
lines =
    (null ∷ n 2 ∷ n 1 ∷ null ∷ n 20 ∷ n 0 ∷ [])
    ∷ (n 1 ∷ n 1 ∷ n 4 ∷ n 24 ∷ n 140 ∷ n 4 ∷ [])
    ∷ (n 1 ∷ n 2 ∷ n 1 ∷ n 4 ∷ n 50 ∷ n 1 ∷ [])
    ∷ (n 2 ∷ null ∷ n 1 ∷ null ∷ null ∷ n 0 ∷ [])
    ∷ []

-- distinct count of age, by depot and class
abbrev pub ages : Plan
ages = group (0 ∷ 4 ∷ []) (distinct_count 2 ∷ []) joined

abbrev pub ages-right : Plan
ages-right =
    group (0 ∷ 4 ∷ []) (distinct_count 2 ∷ [])
    (join (full_outer three_nulls (null ∷ null ∷ n 1 ∷ [])) on_tile uses (group (0 ∷ 1 ∷ []) (rows ∷ []) releases))

unfoldable pub depot-claims : List Claim
depot-claims =
    -- P1 "The join has 7 rows."  P2 "Result"
    counts joined 7
    ∷ gives plan_A lines
    -- P3 "Pushed left, the new grouping gives (1,10,12,2,2) (1,20,4,1,1) (2,30,null,0,1)"
    ∷ pushes plan_A 3 0 pushed-left
    ∷ gives uses-grouped
    ((n 1 ∷ n 10 ∷ n 12 ∷ n 2 ∷ n 2 ∷ []) ∷ (n 1 ∷ n 20 ∷ n 4 ∷ n 1 ∷ n 1 ∷ []) ∷ (n 2 ∷ n 30 ∷ null ∷ n 0 ∷ n 1 ∷ []) ∷ [])
    -- P4 "The join has 5 rows, the result is P2."
    ∷ counts joined-left 5
    ∷ gives pushed-left lines
    -- P5 "Pushed right: (10,1,70,2) (20,2,50,1) (40,2,20,1)"
    ∷ pushes plan_A 3 1 pushed-right
    ∷ gives releases-grouped
    ((n 10 ∷ n 1 ∷ n 70 ∷ n 2 ∷ []) ∷ (n 20 ∷ n 2 ∷ n 50 ∷ n 1 ∷ []) ∷ (n 40 ∷ n 2 ∷ n 20 ∷ n 1 ∷ []) ∷ [])
    -- P6 "Result P2."
    ∷ gives pushed-right lines
    -- P7 "Plan A with L 7: result; with 6: 7."
    ∷ runs plan_A 7 0 lines
    ∷ runs plan_A 6 7 []
    -- P8 "Pushed left with L 5: result; with 4: 7."
    ∷ runs pushed-left 5 0 lines
    ∷ runs pushed-left 4 7 []
    -- P11 "Distinct count of age pushed left: 11."  P12 "Pushed right: same aggregate, not weighted."
    ∷ refuses ages 3 0 11
    ∷ pushes ages 3 1 ages-right
    ∷ []

unfoldable pub depot_examples : List Example
depot_examples =
    record { lent = depot; claims = depot-claims }
    -- P9 "Both tables empty: 0 rows."
    ∷ record { lent = empty; claims = runs plan_A 1 0 [] ∷ counts plan_A 0 ∷ [] }
    -- P10 "left join on tile, all defaults null: one joined row, right side null."
    ∷ record {
      lent = one_use;
      claims = gives (join (left_outer three_nulls) on_tile uses releases) ((n 3 ∷ null ∷ n 9 ∷ null ∷ null ∷ null ∷ []) ∷ []) ∷ [];
    }
    -- "Treating null tiles as equal in a join because grouping does" would join these two
    ∷ record {
      lent = no_tiles;
      claims = gives (join (left_outer three_nulls) on_tile uses releases) ((n 3 ∷ null ∷ n 9 ∷ null ∷ null ∷ null ∷ []) ∷ []) ∷ [];
    }
    ∷ []
