-- Refusal 3 at one node, read off its bytes: the columns that its pairs, grouping columns and aggregates name.
use Rattle.std.specs.Prelude.{Bool, true, not, ◌&&◌, ◌||◌, List, ℕ, zero, suc, ◌+◌, eqb, ltb, length, get_or, drop}
use Rattle.std.specs.List.{list_all, list_any, range_with_len}
use Rattle.rules.specs.Lines.{entry_of}
use Rattle.node_bytes.specs.Nodes.{byte}
use Rattle.node_bytes.specs.Rows.{every}

-- a pair names a column of each input, l and r wide
unfoldable pub pair_at : List ℕ → ℕ → ℕ → ℕ → Bool
pair_at s l r at = ltb (byte s at) l && ltb (byte s (at + 1)) r

unfoldable pub pairs_at : List ℕ → ℕ → ℕ → ℕ → ℕ → Bool
pairs_at s at n l r = every (pair_at s l r) 2 at n

-- a column is below w
unfoldable pub column_at : List ℕ → ℕ → ℕ → Bool
column_at s w at = ltb (byte s at) w

unfoldable pub columns_at : List ℕ → ℕ → ℕ → ℕ → Bool
columns_at s at n w = every (column_at s w) 1 at n

-- a column is another than i
unfoldable pub other_at : List ℕ → ℕ → ℕ → Bool
other_at s i at = not (eqb i (byte s at))

unfoldable pub absent_at : List ℕ → ℕ → ℕ → ℕ → Bool
absent_at s at n i = every (other_at s i) 1 at n

-- the i-th of some columns is none of those behind it
abbrev pub alone : List ℕ → ℕ → Bool
alone columns i = not (list_any (λ (y : ℕ). eqb y (get_or columns i 0)) (drop (i + 1) columns))

abbrev pub all_alone : List ℕ → Bool
all_alone columns = list_all (alone columns) (range_with_len 0 (length columns))

-- n columns from a place on are all different
unfoldable pub distinct_at : List ℕ → ℕ → ℕ → Bool
distinct_at s at zero = true
distinct_at s at (suc n) = absent_at s (at + 1) n (byte s at) && distinct_at s (at + 1) n

-- the columns that an aggregate reads are below w
unfoldable pub read_at : List ℕ → ℕ → ℕ → Bool
read_at s w at =
    (eqb (entry_of (byte s at) 0) 0 || ltb (byte s (at + 1)) w) && (ltb (entry_of (byte s at) 0) 2 || ltb (byte s (at + 2)) w)

unfoldable pub reads_at : List ℕ → ℕ → ℕ → ℕ → Bool
reads_at s at n w = every (read_at s w) 3 at n
