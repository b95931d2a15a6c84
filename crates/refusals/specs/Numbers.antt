-- The numbers of the scope for what a job answers: "A pass or a result has number 0. A refusal comes back as its number, with row .. count 0."
use Rattle.std.specs.Prelude.{ℕ, Option, Some, None, Result, Ok, Err}
use Rattle.refusals.specs.declared.Refusal.{Refusal}
use Rattle.refusals.specs.declared.Refusal.TheVariants.{NoPlan, Limits, Columns, Weights, Tables, Room, Rows}

-- the number of a refusal
abbrev pub refusal_number : Refusal → ℕ
refusal_number NoPlan = 1
refusal_number Limits = 2
refusal_number Columns = 3
refusal_number Weights = 4
refusal_number Tables = 5
refusal_number Room = 6
refusal_number Rows = 7

-- the number of what may be a refusal
abbrev pub number_if : Option Refusal → ℕ
number_if None = 0
number_if (Some refusal) = refusal_number refusal

-- the number of an answer
abbrev pub number_of : {A : Type 0} → Result A Refusal → ℕ
number_of (Ok answer) = 0
number_of (Err refusal) = refusal_number refusal

-- the row count of an answer
abbrev pub count_of : Result ℕ Refusal → ℕ
count_of (Ok rows) = rows
count_of (Err refusal) = 0
