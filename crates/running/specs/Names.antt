-- The names of plans as the code has them.
use Rattle.std.specs.Prelude.{◌≡◌, refl, Bool}
use Rattle.meaning.specs.Plans.{Name, Rows, Count, Sum, Least, Greatest, DistinctSum, DistinctCount, WeightedSum, WeightedCount}
use Rattle.meaning.specs.Arrangement.{name_number}
use Rattle.rules.specs.Named.{named}
use Rattle.rules.specs.declared.Name as code
use Rattle.rules.specs.declared.Name.TheVariants as code_name
use Rattle.running.specs.States.{distinct_of}

-- what the code calls a name
unfoldable pub called : Name → code.Name
called Rows = code_name.Rows
called Count = code_name.Count
called Sum = code_name.Sum
called Least = code_name.Least
called Greatest = code_name.Greatest
called DistinctSum = code_name.DistinctSum
called DistinctCount = code_name.DistinctCount
called WeightedSum = code_name.WeightedSum
called WeightedCount = code_name.WeightedCount

-- it is what a name's number says
pub named_called : (n : Name) → named (name_number n) ≡ called n
unfolding named called name_number
named_called Rows = refl
named_called Count = refl
named_called Sum = refl
named_called Least = refl
named_called Greatest = refl
named_called DistinctSum = refl
named_called DistinctCount = refl
named_called WeightedSum = refl
named_called WeightedCount = refl

-- whether a name is that of a distinct aggregate
abbrev pub is_distinct : Name → Bool
is_distinct n = distinct_of (called n)
