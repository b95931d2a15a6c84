-- The name that a number says, and the number of a name.
use Rattle.std.specs.Prelude.{◌≡◌, Bool, true, false, not, [], ◌∷◌, ℕ, ◌<◌, ◌≤◌, T, get_or}
use Rattle.std.proofs.Common.{ap, subst, arith, rules}
use Rattle.std.proofs.Math.Dec.{eqb, eqb→eq}
use Rattle.std.proofs.Math.Decide.{dec_lt}
use Rattle.rules.specs.Below.{below}
use Rattle.rules.specs.declared.Name.{Name}
use Rattle.rules.specs.declared.Name.TheVariants.{Rows, Count, Sum, Least, Greatest, DistinctSum, DistinctCount, WeightedSum, WeightedCount, Other}

-- the name that a number says
unfoldable pub named : ℕ → Name
named n = get_or (Rows ∷ Count ∷ Sum ∷ Least ∷ Greatest ∷ DistinctSum ∷ DistinctCount ∷ WeightedSum ∷ WeightedCount ∷ []) n (Other n)

-- a number from 9 on says none
pub named_other : (n : ℕ) → 9 ≤ n → named n ≡ Other n
unfolding named
named_other n h = search rules

-- the number of each name, and one that says none
abbrev pub number_in : Name → ℕ
number_in Rows = 0
number_in Count = 1
number_in Sum = 2
number_in Least = 3
number_in Greatest = 4
number_in DistinctSum = 5
number_in DistinctCount = 6
number_in WeightedSum = 7
number_in WeightedCount = 8
number_in (Other n) = n

-- a number is that of the name that it says
pub number_said : (n : ℕ) → number_in (named n) ≡ n
unfolding named
number_said n = by_number (dec_lt n 9)
  where
    by_number : Dec (n < 9) → number_in (named n) ≡ n
    by_number (yes l) = eqb→eq _ _ (below (λ (k : ℕ). eqb (number_in (named k)) k) 9 tt n l)
    by_number (no l) = ap number_in (named_other n (omega arith))

-- a `match` on the name settles whether a number is one of the nine
pub says_other : (n m : ℕ) → named n ≡ Other m → 9 ≤ n
unfolding named
says_other n m e = by_number (dec_lt n 9)
  where
    is_other : Name → Bool
    is_other Rows = false
    is_other Count = false
    is_other Sum = false
    is_other Least = false
    is_other Greatest = false
    is_other DistinctSum = false
    is_other DistinctCount = false
    is_other WeightedSum = false
    is_other WeightedCount = false
    is_other (Other k) = true

    by_number : Dec (n < 9) → 9 ≤ n
    by_number (yes l) = absurd (subst (λ (x : Name). T (not (is_other x))) e (below (λ (k : ℕ). not (is_other (named k))) 9 tt n l))
    by_number (no l) = omega arith

pub not_other : (n : ℕ) → ((m : ℕ) → named n ≡ Other m → ⊥) → n < 9
not_other n f = by_number (dec_lt n 9)
  where
    by_number : Dec (n < 9) → n < 9
    by_number (yes l) = l
    by_number (no l) = absurd (f n (named_other n (omega arith)))
