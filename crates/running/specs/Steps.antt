-- One law for each way out of a method: the state that the code makes there is the definition's.
use Rattle.std.specs.Prelude.{◌≡◌, true, false, ◌+◌, ◌<◌, ◌^◌, ℤ, nat_abs, Option, Some, None}
use Rattle.std.specs.Option.{option_eq}
use Rattle.std.specs.Ordering.{int_eq}
use Rattle.std.specs.Cmp.{signed_Decides}
use Rattle.std.proofs.Common.{sym, ap, ◌∙◌}
use Rattle.lists.specs.Tests.{and_left, and_right}
use Rattle.numbers.specs.Integers.{false_true}
use Rattle.running.specs.declared.Running.{Running}
use Rattle.running.specs.declared.Taken.{Taken}
use Rattle.running.specs.States.{distinct_of, ends_with, repeats_of, amount_of, value_of, take_of, add_amount, add_to, size_if, Room, take_both, merge_of, empty_of, finish_of}

-- the v taken last
unfoldable pub last_in : Option Taken → Option ℤ
last_in None = None
last_in (Some t) = t.last

-- what the test of a repeated value says where it is met, and where not
same_yes : (l : Option ℤ) (z : ℤ) → option_eq int_eq l (Some z) ≡ true → l ≡ Some z
same_yes None z h = false_true h
same_yes (Some x) z h = ap Some ((signed_Decides x z).0 h)

same_no : (l : Option ℤ) (z : ℤ) → option_eq int_eq l (Some z) ≡ false → l ≡ Some z → ⊥
same_no None z h e = cc
same_no (Some x) z h e = false_true (sym h ∙ (signed_Decides x z).1 cc)

ends_yes : (o : Option Taken) (z : ℤ) → ends_with o (Some z) ≡ true → last_in o ≡ Some z
unfolding ends_with last_in
ends_yes None z h = false_true h
ends_yes (Some t) z h = same_yes t.last z h

ends_no : (o : Option Taken) (z : ℤ) → ends_with o (Some z) ≡ false → last_in o ≡ Some z → ⊥
unfolding ends_with last_in
ends_no None z h e = cc
ends_no (Some t) z h e = same_no t.last z h e

module _ (st : Running) where
  pub repeats_yes : (z : ℤ) → repeats_of st (Some z) ≡ true → (distinct_of st.name ≡ true) × (last_in st.taken ≡ Some z)
  unfolding repeats_of
  repeats_yes z h = (and_left _ _ h, ends_yes st.taken z (and_right _ _ h))

  pub repeats_distinct : (v : Option ℤ) → repeats_of st v ≡ true → distinct_of st.name ≡ true
  unfolding repeats_of
  repeats_distinct v h = and_left _ _ h

  pub repeats_no : (z : ℤ) → repeats_of st (Some z) ≡ false → distinct_of st.name ≡ true → last_in st.taken ≡ Some z → ⊥
  unfolding repeats_of
  repeats_no z h d e = ends_no st.taken z (rw d at h) e

  -- `add`: the row is not taken; it repeats the last one; it is taken
  module _ (v c : Option ℤ) where
    pub add_not-taken : amount_of st.name v c ≡ None → st ≡ add_to st v c
    unfolding add_to add_amount
    add_not-taken t = rw t

    pub add_repeated : {x : ℤ} → amount_of st.name v c ≡ Some x → repeats_of st v ≡ true → st ≡ add_to st v c
    unfolding add_to add_amount
    add_repeated t r = rw (t, r)

    pub add_taken : {x : ℤ} → amount_of st.name v c ≡ Some x → repeats_of st v ≡ false → take_of st x v ≡ add_to st v c
    unfolding add_to add_amount
    add_taken t r = rw (t, r)

    -- what a row that is taken has room for
    pub room-taken : {x : ℤ} → amount_of st.name v c ≡ Some x → Room st v c → size_if (value_of st) + nat_abs x < 2 ^ 63
    unfolding size_if
    room-taken t r = rw t at r.small

-- `merge`: a distinct one; the other has taken nothing; both values are combined
module _ (a b : Running) where
  pub merge_distinct : distinct_of a.name ≡ true → a ≡ merge_of a b
  unfolding merge_of
  merge_distinct d = rw d

  pub merge_none : distinct_of a.name ≡ false → b.taken ≡ None → a ≡ merge_of a b
  unfolding merge_of take_both
  merge_none d t = rw (d, t)

  pub merge_some : {t : Taken} → distinct_of a.name ≡ false → b.taken ≡ Some t → take_of a t.value t.last ≡ merge_of a b
  unfolding merge_of take_both
  merge_some d t = rw (d, t)

-- `finish`: the value, or what the rule table says
pub finish_some : (st : Running) {x : ℤ} → value_of st ≡ Some x → Some x ≡ finish_of st
unfolding finish_of
finish_some st e = rw e

pub finish_none : (st : Running) → value_of st ≡ None → empty_of st.name ≡ finish_of st
unfolding finish_of
finish_none st e = rw e
