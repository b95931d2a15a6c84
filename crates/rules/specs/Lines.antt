-- The rule table as numbers: the line of an aggregate, from the definition of its rule.
use Rattle.std.specs.Prelude.{◌≡◌, refl, cond, List, [], ◌∷◌, ℕ, leb, get_or, length}
use Rattle.std.proofs.Math.Option.{Option, some, none}
use Rattle.meaning.specs.Cells.{Cell, null, num}
use Rattle.meaning.specs.Plans.{Name, Rows, Count, Sum, Least, Greatest, DistinctSum, DistinctCount, WeightedSum, WeightedCount, Aggregate, rows, count, sum, least, greatest, distinct_sum, distinct_count, weighted_sum, weighted_count, name_of, columns_read}
use Rattle.meaning.specs.Arrangement.{name_number}
use Rattle.meaning.specs.Rules.{Rule, KindRule, always-weight, kind_of_v, rule}

-- the nine names in the order of their numbers
unfoldable pub names : List Name
names = Rows ∷ Count ∷ Sum ∷ Least ∷ Greatest ∷ DistinctSum ∷ DistinctCount ∷ WeightedSum ∷ WeightedCount ∷ []

-- the name of a number
unfoldable pub name_at : ℕ → Name
name_at n = get_or names n Rows

unfoldable pub is_null : Cell → ℕ
is_null null = 1
is_null (num z) = 0

unfoldable pub is_always : KindRule → ℕ
is_always always-weight = 1
is_always kind_of_v = 0

unfoldable pub number_or9 : Option Name → ℕ
number_or9 none = 9
number_or9 (some n) = name_number n

-- a rule as a line of numbers
unfoldable pub line_of : Rule → List ℕ
line_of r =
    r.columns
    ∷ is_null r.no_value
    ∷ is_always r.kind
    ∷ number_or9 r.partial
    ∷ number_or9 r.final
    ∷ number_or9 r.other_side
    ∷ []

-- an entry of the line of an aggregate's number; 9 where there is none
unfoldable pub entry_of : ℕ → ℕ → ℕ
entry_of name column = cond (leb 9 name) 9 (cond (leb 6 column) 9 (get_or (line_of (rule (name_at name))) column 0))

-- the number of a name leads back to it
pub name_at-number : (n : Name) → name_at (name_number n) ≡ n
unfolding name_at names name_number
name_at-number Rows = refl
name_at-number Count = refl
name_at-number Sum = refl
name_at-number Least = refl
name_at-number Greatest = refl
name_at-number DistinctSum = refl
name_at-number DistinctCount = refl
name_at-number WeightedSum = refl
name_at-number WeightedCount = refl

-- the entries that the check reads: how many columns, and whether the kind is always weight
pub entry_columns : (n : Name) → entry_of (name_number n) 0 ≡ (rule n).columns
unfolding entry_of line_of name_at names name_number rule
entry_columns Rows = refl
entry_columns Count = refl
entry_columns Sum = refl
entry_columns Least = refl
entry_columns Greatest = refl
entry_columns DistinctSum = refl
entry_columns DistinctCount = refl
entry_columns WeightedSum = refl
entry_columns WeightedCount = refl

pub entry_kind : (n : Name) → entry_of (name_number n) 2 ≡ is_always (rule n).kind
unfolding entry_of line_of name_at names name_number rule
entry_kind Rows = refl
entry_kind Count = refl
entry_kind Sum = refl
entry_kind Least = refl
entry_kind Greatest = refl
entry_kind DistinctSum = refl
entry_kind DistinctCount = refl
entry_kind WeightedSum = refl
entry_kind WeightedCount = refl

-- an aggregate lists as many columns as its rule says
pub columns-listed : (a : Aggregate) → length (columns_read a) ≡ (rule (name_of a)).columns
unfolding columns_read name_of rule
columns-listed rows = refl
columns-listed (count v) = refl
columns-listed (sum v) = refl
columns-listed (least v) = refl
columns-listed (greatest v) = refl
columns-listed (distinct_sum v) = refl
columns-listed (distinct_count v) = refl
columns-listed (weighted_sum v c) = refl
columns-listed (weighted_count v c) = refl
