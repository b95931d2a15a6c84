-- What an aggregate takes of a row, by its cells v and c, and of rows after others.
use Rattle.std.specs.Prelude.{◌≡◌, refl, true, List, [], ◌∷◌, ◌++◌, ◌≤◌, get_or, ℤ, pos, ◌*ℤ◌, Option, Some, None}
use Rattle.std.proofs.Common.{sym, ap, ◌∙◌, append_assoc, arith}
use Rattle.std.proofs.Math.IntN.{+ℤ_idr}
use Rattle.meaning.specs.Cells.{Cell, null, num}
use Rattle.meaning.specs.Plans.{Row, Table, Name, Rows, Count, Sum, Least, Greatest, DistinctSum, DistinctCount, WeightedSum, WeightedCount, Aggregate, rows, count, sum, least, greatest, distinct_sum, distinct_count, weighted_sum, weighted_count, name_of, columns_read}
use Rattle.meaning.specs.Joining.{cell}
use Rattle.meaning.specs.Aggregating.{value, product, weight_of, taken, values_of, total, smallest, largest, into, ascending, made_of}
use Rattle.numbers.specs.Integers.{false_true}
use Rattle.rules.specs.declared.Name as code
use Rattle.regions.specs.Reading.{number_or_none}
use Rattle.running.specs.States.{distinct_of, product_if, amount_of, size_if}
use Rattle.running.specs.Names.{called, is_distinct}
use Rattle.running.specs.Sizes.{most_of, made-size}

-- the values that an aggregate of this name takes of a row with these cells v and c
unfoldable pub taken_by : Name → Cell → Cell → List ℤ
taken_by Rows p q = pos 1 ∷ []
taken_by Count p q = value p
taken_by Sum p q = value p
taken_by Least p q = value p
taken_by Greatest p q = value p
taken_by DistinctSum p q = value p
taken_by DistinctCount p q = value p
taken_by WeightedSum p q = product p q
taken_by WeightedCount p q = weight_of p q

-- the cells v and c that an aggregate reads of a row; where it reads none, any will do, and this is that of column 0
abbrev pub v_cell : Aggregate → Row → Cell
v_cell a r = cell r (get_or (columns_read a) 0 0)

abbrev pub c_cell : Aggregate → Row → Cell
c_cell a r = cell r (get_or (columns_read a) 1 0)

pub taken-by : (a : Aggregate) (r : Row) → taken_by (name_of a) (v_cell a r) (c_cell a r) ≡ taken a r
unfolding taken_by taken name_of columns_read
taken-by rows r = refl
taken-by (count v) r = refl
taken-by (sum v) r = refl
taken-by (least v) r = refl
taken-by (greatest v) r = refl
taken-by (distinct_sum v) r = refl
taken-by (distinct_count v) r = refl
taken-by (weighted_sum v c) r = refl
taken-by (weighted_count v c) r = refl

-- a row of these cells gives no value, or the one value z
pub data Gives (n : Name) (v c : Option ℤ) : List ℤ → Type 0 where
  nothing : amount_of (called n) v c ≡ None → Gives n v c []
  one : (z : ℤ) → amount_of (called n) v c ≡ Some (made_of n z []) → (is_distinct n ≡ true → v ≡ Some z) → Gives n v c (z ∷ [])

pub gives : (n : Name) (p q : Cell) → Gives n (number_or_none p) (number_or_none q) (taken_by n p q)
unfolding taken_by value product weight_of number_or_none amount_of product_if made_of total smallest largest ascending into called distinct_of
gives Rows p q = one (pos 1) refl false_true
gives Count null q = nothing refl
gives Count (num v) q = one v refl (λ d. refl)
gives Sum null q = nothing refl
gives Sum (num v) q = one v (ap Some (sym (+ℤ_idr v))) (λ d. refl)
gives Least null q = nothing refl
gives Least (num v) q = one v refl (λ d. refl)
gives Greatest null q = nothing refl
gives Greatest (num v) q = one v refl (λ d. refl)
gives DistinctSum null q = nothing refl
gives DistinctSum (num v) q = one v (ap Some (sym (+ℤ_idr v))) (λ d. refl)
gives DistinctCount null q = nothing refl
gives DistinctCount (num v) q = one v refl (λ d. refl)
gives WeightedSum null q = nothing refl
gives WeightedSum (num v) null = nothing refl
gives WeightedSum (num v) (num c) = one (v *ℤ c) (ap Some (sym (+ℤ_idr (v *ℤ c)))) false_true
gives WeightedCount null q = nothing refl
gives WeightedCount (num v) null = nothing refl
gives WeightedCount (num v) (num c) = one c (ap Some (sym (+ℤ_idr c))) false_true

-- these v' and c' may stand for v and c: they count for as much, and a distinct one reads v itself
pub record Reads (name : code.Name) (v c v' c' : Option ℤ) : Type 0 where
  pub counts : amount_of name v' c' ≡ amount_of name v c
  pub same : distinct_of name ≡ true → v' ≡ v

pub gives_read : {n : Name} {v c v' c' : Option ℤ} {ys : List ℤ} → Reads (called n) v c v' c' → Gives n v c ys → Gives n v' c' ys
gives_read r (nothing s) = nothing (r.counts ∙ s)
gives_read r (one z a same) = one z (r.counts ∙ a) (λ d. r.same d ∙ same d)

-- the size of what a row adds is the most that is made of its values
pub given_size : {n : Name} {v c : Option ℤ} {ys : List ℤ} → Gives n v c ys → size_if (amount_of (called n) v c) ≤ most_of n ys
unfolding size_if
given_size (nothing s) = rw s (omega arith)
given_size {n} (one z s same) = rw s (made-size n z [])

-- the values of rows after others, and of one row more
pub values_append : (a : Aggregate) (s t : Table) → values_of a (s ++ t) ≡ values_of a s ++ values_of a t
unfolding values_of
values_append a [] t = refl
values_append a (r ∷ s) t =
    ap (λ (l : List ℤ). taken a r ++ l) (values_append a s t)
    ∙ sym (append_assoc (taken a r) (values_of a s) (values_of a t))
