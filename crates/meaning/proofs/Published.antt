-- Two examples of Eich and Moerkotte, Dynamic Programming: The Next Step: its Fig. 4 and its Fig. 2.
use Rattle.std.proofs.Common.{List, [], ◌∷◌, ℕ, ℤ, pos, replicate}
use Rattle.meaning.specs.Cells.{null}
use Rattle.meaning.specs.Plans.{Row, Table, rows, sum, weighted_sum, Pair, Join, inner, left_outer, full_outer, Plan, leaf, join, group}
use Rattle.meaning.specs.Running.{Lent}
use Rattle.meaning.proofs.Claims.{Claim, counts, gives, pushes, Example}
use Rattle.meaning.proofs.Depot.{n, three_nulls}

-- two tables of three columns and four rows, one behind the other
abbrev pub two_tables : List ℤ → Lent
two_tables cells = record {
  tables = record { width = 3; rows = 4; start = 0 } ∷ record { width = 3; rows = 4; start = 12 } ∷ [];
  cells = cells;
  marks = replicate 24 0;
}

abbrev pub pair : ℕ → ℕ → List Pair
pair l r = record { left = l; right = r } ∷ []

-- Fig. 4: e1(g1,j1,a1) = (1,1,2) (1,2,4) (1,2,8) (1,3,7); e2(g2,j2,a2) = (1,1,2) (1,1,4) (1,2,8) (1,4,9), joined on j1 = j2
abbrev pub fig_4 : Lent
fig_4 =
    two_tables
    (pos 1 ∷ pos 1 ∷ pos 2 ∷ pos 1 ∷ pos 2 ∷ pos 4 ∷ pos 1 ∷ pos 2 ∷ pos 8 ∷ pos 1 ∷ pos 3 ∷ pos 7
    ∷ pos 1 ∷ pos 1 ∷ pos 2 ∷ pos 1 ∷ pos 1 ∷ pos 4 ∷ pos 1 ∷ pos 2 ∷ pos 8 ∷ pos 1 ∷ pos 4 ∷ pos 9 ∷ [])

-- grouped by g1, g2: count of rows, sum of a1, sum of a2
abbrev pub grouped : Join → Plan
grouped j = group (0 ∷ 3 ∷ []) (rows ∷ sum 2 ∷ sum 5 ∷ []) (join j (pair 1 1) (leaf 0 3) (leaf 1 3))

abbrev pub e1_grouped : Plan
e1_grouped = group (0 ∷ 1 ∷ []) (sum 2 ∷ rows ∷ []) (leaf 0 3)

abbrev pub e2_grouped : Plan
e2_grouped = group (0 ∷ 1 ∷ []) (sum 2 ∷ rows ∷ []) (leaf 1 3)

abbrev pub left-joined : Join → Plan
left-joined j = join j (pair 1 1) e1_grouped (leaf 1 3)

abbrev pub left-pushed : Join → Plan
left-pushed j = group (0 ∷ 4 ∷ []) (sum 3 ∷ sum 2 ∷ weighted_sum 6 3 ∷ []) (left-joined j)

abbrev pub right-pushed : Join → Plan
right-pushed j = group (0 ∷ 3 ∷ []) (sum 6 ∷ weighted_sum 2 6 ∷ sum 5 ∷ []) (join j (pair 1 1) (leaf 0 3) e2_grouped)

abbrev pub all-null : Join
all-null = full_outer three_nulls three_nulls

abbrev pub inner-lines : Table
inner-lines = (n 1 ∷ n 1 ∷ n 4 ∷ n 16 ∷ n 22 ∷ []) ∷ []

abbrev pub full-lines : Table
full-lines = (null ∷ n 1 ∷ n 1 ∷ null ∷ n 9 ∷ []) ∷ (n 1 ∷ null ∷ n 1 ∷ n 7 ∷ null ∷ []) ∷ inner-lines

unfoldable pub fig_4_claims : List Claim
fig_4_claims =
    gives (grouped inner) inner-lines
    ∷ gives (grouped all-null) full-lines
    ∷ gives e1_grouped ((n 1 ∷ n 1 ∷ n 2 ∷ n 1 ∷ []) ∷ (n 1 ∷ n 2 ∷ n 12 ∷ n 2 ∷ []) ∷ (n 1 ∷ n 3 ∷ n 7 ∷ n 1 ∷ []) ∷ [])
    ∷ gives e2_grouped ((n 1 ∷ n 1 ∷ n 6 ∷ n 2 ∷ []) ∷ (n 1 ∷ n 2 ∷ n 8 ∷ n 1 ∷ []) ∷ (n 1 ∷ n 4 ∷ n 9 ∷ n 1 ∷ []) ∷ [])
    ∷ counts (join inner (pair 1 1) (leaf 0 3) (leaf 1 3)) 4
    ∷ counts (join all-null (pair 1 1) (leaf 0 3) (leaf 1 3)) 6
    ∷ counts (left-joined inner) 3
    ∷ counts (left-joined (full_outer (null ∷ null ∷ null ∷ n 1 ∷ []) three_nulls)) 5
    ∷ pushes (grouped inner) 3 0 (left-pushed inner)
    ∷ pushes (grouped inner) 3 1 (right-pushed inner)
    ∷ pushes (grouped all-null) 3 0 (left-pushed (full_outer (null ∷ null ∷ null ∷ n 1 ∷ []) three_nulls))
    ∷ pushes (grouped all-null) 3 1 (right-pushed (full_outer three_nulls (null ∷ null ∷ null ∷ n 1 ∷ [])))
    ∷ gives (left-pushed inner) inner-lines
    ∷ gives (right-pushed inner) inner-lines
    ∷ gives (left-pushed (full_outer (null ∷ null ∷ null ∷ n 1 ∷ []) three_nulls)) full-lines
    ∷ gives (right-pushed (full_outer three_nulls (null ∷ null ∷ null ∷ n 1 ∷ []))) full-lines
    ∷ []

-- Fig. 2: e1(a,b,c) = (0,0,1) (1,0,1) (2,1,3) (3,2,3); e2(d,e,f) = (0,0,1) (1,1,1) (2,2,1) (3,4,2)
abbrev pub fig_2 : Lent
fig_2 =
    two_tables
    (pos 0 ∷ pos 0 ∷ pos 1 ∷ pos 1 ∷ pos 0 ∷ pos 1 ∷ pos 2 ∷ pos 1 ∷ pos 3 ∷ pos 3 ∷ pos 2 ∷ pos 3
    ∷ pos 0 ∷ pos 0 ∷ pos 1 ∷ pos 1 ∷ pos 1 ∷ pos 1 ∷ pos 2 ∷ pos 2 ∷ pos 1 ∷ pos 3 ∷ pos 4 ∷ pos 2 ∷ [])

abbrev pub six : ℕ → ℕ → ℕ → ℕ → ℕ → ℕ → Row
six a b c d e f = n a ∷ n b ∷ n c ∷ n d ∷ n e ∷ n f ∷ []

unfoldable pub fig_2_claims : List Claim
fig_2_claims =
    -- inner on b = d
    gives (join inner (pair 1 0) (leaf 0 3) (leaf 1 3))
    (six 0 0 1 0 0 1 ∷ six 1 0 1 0 0 1 ∷ six 2 1 3 1 1 1 ∷ six 3 2 3 2 2 1 ∷ [])
    -- left outer on a = e with default 7 for e
    ∷ gives (join (left_outer (null ∷ n 7 ∷ null ∷ [])) (pair 0 1) (leaf 0 3) (leaf 1 3))
    (six 0 0 1 0 0 1 ∷ six 1 0 1 1 1 1 ∷ six 2 1 3 2 2 1 ∷ (n 3 ∷ n 2 ∷ n 3 ∷ null ∷ n 7 ∷ null ∷ []) ∷ [])
    ∷ []

unfoldable pub published_examples : List Example
published_examples = record { lent = fig_4; claims = fig_4_claims } ∷ record { lent = fig_2; claims = fig_2_claims } ∷ []
