-- How large what an aggregate makes of values can be.
use Rattle.std.specs.Prelude.{◌≡◌, Bool, true, false, cond, List, [], ◌∷◌, ◌++◌, ℕ, suc, ◌+◌, ◌≤◌, length, ℤ, nat_abs}
use Rattle.std.proofs.Common.{arith, length-append}
use Rattle.std.specs.Int.Signed.{lt_z}
use Rattle.meaning.specs.Cells.{eq_z}
use Rattle.meaning.specs.Plans.{Name, Rows, Count, Sum, Least, Greatest, DistinctSum, DistinctCount, WeightedSum, WeightedCount}
use Rattle.meaning.specs.Aggregating.{total, smallest, largest, into, ascending, made_of, answer}
use Rattle.meaning.specs.Running.{cell_number}
use Rattle.numbers.specs.Integers.{abs_add}
use Rattle.running.specs.States.{size_if}
use Rattle.running.specs.Values.{made_if, none_number}

-- the sizes of values, signs dropped, added up
unfoldable pub sizes_of : List ℤ → ℕ
sizes_of [] = 0
sizes_of (x ∷ xs) = nat_abs x + sizes_of xs

sizes-append : (xs ys : List ℤ) → sizes_of (xs ++ ys) ≡ sizes_of xs + sizes_of ys
unfolding sizes_of
sizes-append [] ys = omega arith
sizes-append (x ∷ xs) ys = omega (arith, sizes-append xs ys)

-- the most that an aggregate makes of values, signs dropped: a count of them, or their sizes added up
unfoldable pub most_of : Name → List ℤ → ℕ
most_of Rows xs = length xs
most_of Count xs = length xs
most_of Sum xs = sizes_of xs
most_of Least xs = sizes_of xs
most_of Greatest xs = sizes_of xs
most_of DistinctSum xs = sizes_of xs
most_of DistinctCount xs = length xs
most_of WeightedSum xs = sizes_of xs
most_of WeightedCount xs = sizes_of xs

pub most-append : (n : Name) (xs ys : List ℤ) → most_of n (xs ++ ys) ≡ most_of n xs + most_of n ys
unfolding most_of
most-append Rows xs ys = length-append xs ys
most-append Count xs ys = length-append xs ys
most-append Sum xs ys = sizes-append xs ys
most-append Least xs ys = sizes-append xs ys
most-append Greatest xs ys = sizes-append xs ys
most-append DistinctSum xs ys = sizes-append xs ys
most-append DistinctCount xs ys = length-append xs ys
most-append WeightedSum xs ys = sizes-append xs ys
most-append WeightedCount xs ys = sizes-append xs ys

-- the size of a sum, of a value chosen, and of the different values
total_size : (xs : List ℤ) → nat_abs (total xs) ≤ sizes_of xs
unfolding total sizes_of
total_size [] = omega arith
total_size (x ∷ xs) = omega (arith, abs_add x (total xs), total_size xs)

either-size : (t : Bool) (x m : ℤ) → nat_abs (cond t x m) ≤ nat_abs m + nat_abs x
either-size true x m = omega arith
either-size false x m = omega arith

smallest-size : (m : ℤ) (xs : List ℤ) → nat_abs (smallest m xs) ≤ nat_abs m + sizes_of xs
unfolding smallest sizes_of
smallest-size m [] = omega arith
smallest-size m (x ∷ xs) = omega (arith, smallest-size (cond (lt_z x m) x m) xs, either-size (lt_z x m) x m)

largest_size : (m : ℤ) (xs : List ℤ) → nat_abs (largest m xs) ≤ nat_abs m + sizes_of xs
unfolding largest sizes_of
largest_size m [] = omega arith
largest_size m (x ∷ xs) = omega (arith, largest_size (cond (lt_z m x) x m) xs, either-size (lt_z m x) x m)

into-size : (x y : ℤ) (ys zs : List ℤ) (a b : Bool) → sizes_of zs ≤ nat_abs x + sizes_of ys
    → sizes_of (cond a (x ∷ y ∷ ys) (cond b (y ∷ ys) (y ∷ zs))) ≤ nat_abs x + (nat_abs y + sizes_of ys)
unfolding sizes_of
into-size x y ys zs true b h = omega arith
into-size x y ys zs false true h = omega arith
into-size x y ys zs false false h = omega arith

into-sizes : (x : ℤ) (ys : List ℤ) → sizes_of (into x ys) ≤ nat_abs x + sizes_of ys
unfolding into sizes_of
into-sizes x [] = omega arith
into-sizes x (y ∷ ys) = into-size x y ys (into x ys) (lt_z x y) (eq_z x y) (into-sizes x ys)

ascending-sizes : (xs : List ℤ) → sizes_of (ascending xs) ≤ sizes_of xs
unfolding ascending sizes_of
ascending-sizes [] = omega arith
ascending-sizes (x ∷ xs) = omega (arith, into-sizes x (ascending xs), ascending-sizes xs)

-- how many different values there are
into-count : (x y : ℤ) (ys zs : List ℤ) (a b : Bool) → length zs ≤ suc (length ys)
    → length (cond a (x ∷ y ∷ ys) (cond b (y ∷ ys) (y ∷ zs))) ≤ suc (suc (length ys))
into-count x y ys zs true b h = omega arith
into-count x y ys zs false true h = omega arith
into-count x y ys zs false false h = omega arith

into-counts : (x : ℤ) (ys : List ℤ) → length (into x ys) ≤ suc (length ys)
unfolding into
into-counts x [] = omega arith
into-counts x (y ∷ ys) = into-count x y ys (into x ys) (lt_z x y) (eq_z x y) (into-counts x ys)

ascending-counts : (xs : List ℤ) → length (ascending xs) ≤ length xs
unfolding ascending
ascending-counts [] = omega arith
ascending-counts (x ∷ xs) = omega (arith, into-counts x (ascending xs), ascending-counts xs)

-- what an aggregate makes of values is no larger than that
pub made-size : (n : Name) (x : ℤ) (xs : List ℤ) → nat_abs (made_of n x xs) ≤ most_of n (x ∷ xs)
unfolding made_of most_of sizes_of
made-size Rows x xs = omega arith
made-size Count x xs = omega arith
made-size Sum x xs = total_size (x ∷ xs)
made-size Least x xs = smallest-size x xs
made-size Greatest x xs = largest_size x xs
made-size DistinctSum x xs = omega (arith, total_size (ascending (x ∷ xs)), ascending-sizes (x ∷ xs))
made-size DistinctCount x xs = ascending-counts (x ∷ xs)
made-size WeightedSum x xs = total_size (x ∷ xs)
made-size WeightedCount x xs = total_size (x ∷ xs)

pub answer-size : (n : Name) (xs : List ℤ) → nat_abs (cell_number (answer n xs)) ≤ most_of n xs
unfolding answer cell_number
answer-size n [] = rw (none_number n) (omega arith)
answer-size n (x ∷ xs) = made-size n x xs

-- and so is what a state holds of them
pub held_size : (n : Name) (xs : List ℤ) → size_if (made_if n xs) ≤ most_of n xs
unfolding size_if made_if
held_size n [] = omega arith
held_size n (x ∷ xs) = made-size n x xs
