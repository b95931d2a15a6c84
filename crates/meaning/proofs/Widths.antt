-- How many there are: a plan has as many kinds as columns, and what is read from a place on has as many cells and rows as are asked for.
use Rattle.std.proofs.Common.{◌≡◌, refl, ap, List, ℕ, zero, suc, ◌+◌, length, length-append, ℤ}
use lib.ListN.{length-replicate, length-map}
use Rattle.meaning.specs.Plans.{Plan, leaf, join, group}
use Rattle.meaning.specs.Columns.{width, kinds}
use Rattle.meaning.specs.Running.{cells_from, rows_from}

pub kinds-long : (p : Plan) → length (kinds p) ≡ width p
unfolding kinds width
kinds-long (leaf t w) = simp length-replicate
kinds-long (join j ps l r) = simp (length-append, kinds-long l, kinds-long r)
kinds-long (group cols aggs i) = simp (length-append, length-map)

pub cells-long : (c : List ℤ) (m : List ℕ) (at n : ℕ) → length (cells_from c m at n) ≡ n
unfolding cells_from
cells-long c m at zero = refl
cells-long c m at (suc n) = ap suc (cells-long c m (at + 1) n)

pub rows_long : (c : List ℤ) (m : List ℕ) (w at n : ℕ) → length (rows_from c m w at n) ≡ n
unfolding rows_from
rows_long c m w at zero = refl
rows_long c m w at (suc n) = ap suc (rows_long c m w (at + w) n)
