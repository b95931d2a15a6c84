-- What a running aggregate holds after each step, for every state. A name that no aggregate has sums v where v and c are present.
use Rattle.std.specs.Prelude.{Bool, true, false, cond, ◌&&◌, ℕ, ◌+◌, ◌<◌, ◌^◌, eqb, ℤ, pos, nat_abs, ◌+ℤ◌, ◌*ℤ◌, Option, Some, None, option_map}
use Rattle.std.specs.Option.{option_and, option_eq, option_or}
use Rattle.std.specs.Int.Signed.{lt_z}
use Rattle.std.specs.Ordering.{int_eq}
use Rattle.rules.specs.Lines.{entry_of}
use Rattle.rules.specs.Named.{number_in}
use Rattle.rules.specs.declared.Name.{Name}
use Rattle.rules.specs.declared.Name.TheVariants.{Rows, Count, Sum, Least, Greatest, DistinctSum, DistinctCount, WeightedSum, WeightedCount, Other}
use Rattle.running.specs.declared.Running.{Running}
use Rattle.running.specs.declared.Taken.{Taken}

-- whether the name is distinct sum or distinct count
unfoldable pub distinct_of : Name → Bool
distinct_of Rows = false
distinct_of Count = false
distinct_of Sum = false
distinct_of Least = false
distinct_of Greatest = false
distinct_of DistinctSum = true
distinct_of DistinctCount = true
distinct_of WeightedSum = false
distinct_of WeightedCount = false
distinct_of (Other n) = false

-- the product of two numbers that are both there
unfoldable pub product_if : Option ℤ → Option ℤ → Option ℤ
product_if None c = None
product_if (Some v) None = None
product_if (Some v) (Some c) = Some (v *ℤ c)

-- "Nulls are skipped.": by how much a row with these v and c counts, where it is taken; a count of rows takes each.
-- 1 for a count, v times c or c for a weighted one, else v
unfoldable pub amount_of : Name → Option ℤ → Option ℤ → Option ℤ
amount_of Rows v c = Some (pos 1)
amount_of Count v c = option_map (λ (z : ℤ). pos 1) v
amount_of Sum v c = v
amount_of Least v c = v
amount_of Greatest v c = v
amount_of DistinctSum v c = v
amount_of DistinctCount v c = option_map (λ (z : ℤ). pos 1) v
amount_of WeightedSum v c = product_if v c
amount_of WeightedCount v c = option_and v c
amount_of (Other n) v c = option_and c v

-- the value with one amount more: the less, the greater or the sum of the two
unfoldable pub combine_of : Name → ℤ → ℤ → ℤ
combine_of Rows value x = value +ℤ x
combine_of Count value x = value +ℤ x
combine_of Sum value x = value +ℤ x
combine_of Least value x = cond (lt_z x value) x value
combine_of Greatest value x = cond (lt_z value x) x value
combine_of DistinctSum value x = value +ℤ x
combine_of DistinctCount value x = value +ℤ x
combine_of WeightedSum value x = value +ℤ x
combine_of WeightedCount value x = value +ℤ x
combine_of (Other n) value x = value +ℤ x

-- the first amount is the value itself
unfoldable pub combine_if : Name → Option ℤ → ℤ → ℤ
combine_if name None x = x
combine_if name (Some value) x = combine_of name value x

-- the state of an aggregate that has taken nothing
unfoldable pub start_of : Name → Running
start_of name = record { name = name; taken = None }

-- the value so far
unfoldable pub value_of : Running → Option ℤ
value_of st = option_map (λ (t : Taken). t.value) st.taken

-- whether v was taken last
unfoldable pub ends_with : Option Taken → Option ℤ → Bool
ends_with None v = false
ends_with (Some t) v = option_eq int_eq t.last v

-- whether a distinct aggregate has taken v already: its values ascend, so v would be the last one
unfoldable pub repeats_of : Running → Option ℤ → Bool
repeats_of st v = distinct_of st.name && ends_with st.taken v

-- the state with one amount more, and the v that it is of
unfoldable pub take_of : Running → ℤ → Option ℤ → Running
take_of st x v = record { name = st.name; taken = Some (record { value = combine_if st.name (value_of st) x; last = v }) }

-- the state with what a row adds, unless it repeats the last
unfoldable pub add_amount : Running → Option ℤ → Option ℤ → Running
add_amount st None v = st
add_amount st (Some x) v = cond (repeats_of st v) st (take_of st x v)

-- "takes rows one at a time": the state after one row, by its cells v and c
unfoldable pub add_to : Running → Option ℤ → Option ℤ → Running
add_to st v c = add_amount st (amount_of st.name v c) v

-- the size of a number, signs dropped, 0 where there is none
unfoldable pub size_if : Option ℤ → ℕ
size_if None = 0
size_if (Some x) = nat_abs x

-- the sum with one row more stays within 64 bits, signs dropped
pub record Room (st : Running) (v c : Option ℤ) : Type 0 where
  pub small : size_if (value_of st) + size_if (amount_of st.name v c) < 2 ^ 63

-- the state with what another one holds
unfoldable pub take_both : Running → Option Taken → Running
take_both a None = a
take_both a (Some t) = take_of a t.value t.last

-- "two over separate rows, unless distinct, may be merged into the one over both"; a distinct one stays as it is
unfoldable pub merge_of : Running → Running → Running
merge_of a b = cond (distinct_of a.name) a (take_both a b.taken)

-- the sum of both stays within 64 bits, signs dropped
pub record RoomForBoth (a b : Running) : Type 0 where
  pub small : size_if (value_of a) + size_if (value_of b) < 2 ^ 63

-- the rule table's answer with no value: 0, or none for null
unfoldable pub empty_of : Name → Option ℤ
empty_of name = cond (eqb (entry_of (number_in name) 1) 0) (Some (pos 0)) None

-- the answer so far
unfoldable pub finish_of : Running → Option ℤ
finish_of st = option_or (value_of st) (empty_of st.name)
