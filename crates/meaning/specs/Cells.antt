-- A cell is a whole number or null: its two equalities and its order.
use Rattle.std.specs.Prelude.{Bool, true, false, eqb, ℤ, pos, negsuc}
use Rattle.std.specs.Int.Signed.{lt_z}

-- "any cell that isn't a whole number or null" is not wanted
pub data Cell : Type 0 where
  null : Cell
  num : ℤ → Cell

-- two whole numbers are the same
unfoldable pub eq_z : ℤ → ℤ → Bool
eq_z (pos a) (pos b) = eqb a b
eq_z (pos a) (negsuc b) = false
eq_z (negsuc a) (pos b) = false
eq_z (negsuc a) (negsuc b) = eqb a b

-- the equality of a grouping: "nulls count as equal here"
unfoldable pub groups : Cell → Cell → Bool
groups null null = true
groups null (num b) = false
groups (num a) null = false
groups (num a) (num b) = eq_z a b

-- the equality of a join's pair: "null equals nothing, not even null"
unfoldable pub joins : Cell → Cell → Bool
joins null b = false
joins (num a) null = false
joins (num a) (num b) = eq_z a b

-- the order of a grouping: "null before every number"
unfoldable pub below : Cell → Cell → Bool
below null null = false
below null (num b) = true
below (num a) null = false
below (num a) (num b) = lt_z a b
