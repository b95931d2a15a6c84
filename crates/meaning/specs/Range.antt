-- The bounds of a node's rows, sizes and weights.
use Rattle.std.specs.Prelude.{◌≡◌, Bool, true, ◌&&◌, List, [], ◌∷◌, ℕ, ◌+◌, ◌*◌, ◌^◌, ◌≤◌, length, nat_abs}
use Rattle.std.specs.Int.Signed.{non_neg}
use Rattle.meaning.specs.Limits.{most_rows, most_size}
use Rattle.meaning.specs.Cells.{Cell, null, num}
use Rattle.meaning.specs.Plans.{Table, Plan}
use Rattle.meaning.specs.Rules.{Kind, weight}
use Rattle.meaning.specs.Columns.{kinds, kind_at, leaves}
use Rattle.meaning.specs.Joining.{cell}
use Rattle.meaning.specs.Meaning.{meaning}

-- "With k leaves under a node: at most 1024^k rows"
unfoldable pub rows_most : ℕ → ℕ
rows_most k = most_rows ^ k

-- "at most 2^31 x 1024^k"
unfoldable pub sizes_most : ℕ → ℕ
sizes_most k = (most_size + 1) * rows_most k

-- a cell's size, "signs dropped"; a null has none
unfoldable pub size : Cell → ℕ
size null = 0
size (num z) = nat_abs z

-- "any column's sizes, signs dropped, add up"
unfoldable pub sizes : ℕ → Table → ℕ
sizes i [] = 0
sizes i (r ∷ rs) = size (cell r i) + sizes i rs

-- a cell that is null or not below 0
unfoldable pub not_negative : Cell → Bool
not_negative null = true
not_negative (num z) = non_neg z

-- no cell of a column is below 0
unfoldable pub none_negative : ℕ → Table → Bool
none_negative i [] = true
none_negative i (r ∷ rs) = not_negative (cell r i) && none_negative i rs

-- the bounds of a node with k leaves under it; "a weight column adds up to at most 1024^k", and is never negative
pub record Bounded (k : ℕ) (ks : List Kind) (t : Table) : Type 0 where
  pub few : length t ≤ rows_most k
  pub small : (i : ℕ) → sizes i t ≤ sizes_most k
  pub weights : (i : ℕ) → kind_at ks i ≡ weight → sizes i t ≤ rows_most k
  pub signs : (i : ℕ) → kind_at ks i ≡ weight → none_negative i t ≡ true

-- a plan's own node is in range over these tables
abbrev pub InRange : List Table → Plan → Type 0
InRange ts p = Bounded (leaves p) (kinds p) (meaning ts p)
