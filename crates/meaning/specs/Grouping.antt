-- The rows of a grouping.
use Rattle.std.specs.Prelude.{Bool, true, false, cond, ◌&&◌, ◌||◌, List, [], ◌∷◌, ◌++◌, map, ℕ}
use Rattle.meaning.specs.Cells.{groups, below}
use Rattle.meaning.specs.Plans.{Row, Table, Aggregate}
use Rattle.meaning.specs.Joining.{cell, keep}
use Rattle.meaning.specs.Aggregating.{aggregate}

-- a row's grouping columns, as listed
unfoldable pub key : List ℕ → Row → Row
key cols r = map (cell r) cols

-- two keys are of one group: "nulls count as equal here"
unfoldable pub same_key : Row → Row → Bool
same_key [] [] = true
same_key [] (y ∷ ys) = false
same_key (x ∷ xs) [] = false
same_key (x ∷ xs) (y ∷ ys) = groups x y && same_key xs ys

-- "Rows ascend by the grouping columns in listed order, null before every number."
unfoldable pub below_key : Row → Row → Bool
below_key [] ys = false
below_key (x ∷ xs) [] = false
below_key (x ∷ xs) (y ∷ ys) = below x y || (groups x y && below_key xs ys)

-- a key into an ascending list of keys, each once
unfoldable pub into_keys : Row → Table → Table
into_keys k [] = k ∷ []
into_keys k (h ∷ hs) = cond (below_key k h) (k ∷ h ∷ hs) (cond (same_key k h) (h ∷ hs) (h ∷ into_keys k hs))

-- "One row for each group that has a row"
unfoldable pub keys_of : List ℕ → Table → Table
keys_of cols [] = []
keys_of cols (r ∷ rs) = into_keys (key cols r) (keys_of cols rs)

-- the rows of the group of a key
unfoldable pub group_of : List ℕ → Row → Table → Table
group_of cols k t = keep (λ (r : Row). same_key (key cols r) k) t

-- a group's row: "grouping columns, then aggregates, as listed"
unfoldable pub group_row : List Aggregate → Row → Table → Row
group_row aggs k t = k ++ map (λ (a : Aggregate). aggregate a t) aggs

-- "An empty input gives no row, with no grouping columns too."
unfoldable pub group_rows : List ℕ → List Aggregate → Table → Table
group_rows cols aggs t = map (λ (k : Row). group_row aggs k (group_of cols k t)) (keys_of cols t)
