-- How many bytes a pair, a grouping column, an aggregate and a default take: each thing of a kind the same.
use Rattle.std.specs.Prelude.{◌≡◌, refl, List, [], ◌∷◌, ℕ, suc, length}
use Rattle.std.proofs.Common.{ap}
use Rattle.meaning.specs.Cells.{Cell, null, num}
use Rattle.meaning.specs.Plans.{Aggregate, columns_read, Pair}
use Rattle.meaning.specs.Arrangement.{low_first, cell_bytes, pair_bytes, two_places, aggregate_bytes, column_bytes}

pub pair-wide : (p : Pair) → length (pair_bytes p) ≡ 2
unfolding pair_bytes
pair-wide p = refl

pub column-wide : (i : ℕ) → length (column_bytes i) ≡ 1
unfolding column_bytes
column-wide i = refl

pub places-wide : (cs : List ℕ) → length (two_places cs) ≡ 2
unfolding two_places
places-wide [] = refl
places-wide (v ∷ []) = refl
places-wide (v ∷ c ∷ more) = refl

pub aggregate-wide : (a : Aggregate) → length (aggregate_bytes a) ≡ 3
unfolding aggregate_bytes
aggregate-wide a = ap suc (places-wide (columns_read a))

pub cell-wide : (d : Cell) → length (cell_bytes d) ≡ 9
unfolding cell_bytes low_first
cell-wide null = refl
cell-wide (num z) = refl
