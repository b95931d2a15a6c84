-- Rows that are stably sorted: what an aggregate takes of them is as much, and of a column sorted by itself a distinct one's values ascend.
use Rattle.std.specs.Prelude.{◌≡◌, Bool, cond, get_or, ℤ}
use Rattle.std.proofs.Math.Path.{refl, ap}
use Rattle.std.proofs.Common.{sym, ◌∙◌, List, [], ◌∷◌, ◌++◌, ℕ, zero, suc, ◌+◌, ◌≤◌, arith}
use Rattle.std.proofs.Math.Bool.{true, false, not}
use Rattle.std.proofs.Math.ListN.{length}
use Rattle.std.specs.Int.Signed.{lt_z}
use Rattle.meaning.specs.Plans.{Row, Table, Name, Aggregate, rows, count, sum, least, greatest, distinct_sum, distinct_count, weighted_sum, weighted_count, name_of, columns_read}
use Rattle.meaning.specs.Joining.{cell, keep}
use Rattle.meaning.specs.Aggregating.{value, taken, values_of, answer, aggregate}
use Rattle.meaning.specs.Grouping.{key, same_key, group_of}
use Rattle.numbers.specs.Integers.{false_true}
use Rattle.ranges.proofs.Sums.{sum_of}
use Rattle.running.specs.States.{distinct_of}
use Rattle.running.specs.Ascent.{upwards_from, upwards}
use Rattle.running.specs.Names.{called, is_distinct}
use Rattle.running.specs.Sizes.{most_of, most-append}
use Rattle.sorting.specs.Order.{lower}
use Rattle.groups.proofs.Keys.{key_equality}
use Rattle.sorting.specs.Sorting.{SortOf}
use Rattle.sorting.specs.Sole.{ascends_at}
use Rattle.groups.proofs.Orders.{Rises}
use Rattle.groups.proofs.Grouped.{Ascends, Stable}
use Rattle.groups.proofs.Distinct.{distinct-sum-same, distinct-count-same, distinct-sum-takes, distinct-count-takes, values_rise}
use Rattle.grouping.specs.Picking.{column_row, column_of}

-- ---- what is kept by a test and by its opposite

module _ {A : Type 0} where
  keep-both : (p q : A → Bool) (t : List A) → keep p (keep q t) ≡ keep q (keep p t)
  unfolding keep
  keep-both p q [] = refl
  keep-both p q (x ∷ t) = step (p x) refl (q x) refl (keep-both p q t)
    where
      step : (a : Bool) → p x ≡ a → (b : Bool) → q x ≡ b → keep p (keep q t) ≡ keep q (keep p t)
          → keep p (cond b (x ∷ keep q t) (keep q t)) ≡ keep q (cond a (x ∷ keep p t) (keep p t))
      step true e true g i = rw (e, g) (ap (λ (l : List A). x ∷ l) i)
      step true e false g i = rw g i
      step false e true g i = rw e i
      step false e false g i = i

  sum_split : (f : A → ℕ) (p : A → Bool) (t : List A) → sum_of f (keep p t) + sum_of f (keep (λ (x : A). not (p x)) t) ≡ sum_of f t
  unfolding keep sum_of
  sum_split f p [] = omega arith
  sum_split f p (x ∷ t) = step (p x) (sum_split f p t)
    where
      step : (a : Bool) → sum_of f (keep p t) + sum_of f (keep (λ (x : A). not (p x)) t) ≡ sum_of f t
          → sum_of f (cond a (x ∷ keep p t) (keep p t)) + sum_of f (cond (not a) (x ∷ keep (λ (x : A). not (p x)) t) (keep (λ (x : A). not (p x)) t)) ≡ f x + sum_of f t
      step true i = omega arith
      step false i = omega arith

  keep-few : (p : A → Bool) (t : List A) → length (keep p t) ≤ length t
  unfolding keep
  keep-few p [] = omega arith
  keep-few p (x ∷ t) = step (p x) (keep-few p t)
    where
      step : (a : Bool) → length (keep p t) ≤ length t → length (cond a (x ∷ keep p t) (keep p t)) ≤ suc (length t)
      step true i = omega arith
      step false i = omega arith

-- ---- rows with the same groups add up to the same

module _ (cols : List ℕ) (f : Row → ℕ) where
  some-row : (x : Row) (xs : Table) → group_of cols (key cols x) (x ∷ xs) ≡ group_of cols (key cols x) [] → ⊥
  unfolding group_of keep
  some-row x xs e =
      let z : suc (length (keep (λ (r : Row). same_key (key cols r) (key cols x)) xs)) ≡ 0 = ap length (rw (key_equality.self (key cols x)) at e) in
      omega arith

  without : (k : Row) (t u : Table) → Stable cols u t → Stable cols (keep (λ (r : Row). not (same_key (key cols r) k)) u) (keep (λ (r : Row). not (same_key (key cols r) k)) t)
  without k t u h l =
      keep-both (λ (r : Row). same_key (key cols r) l) (λ (r : Row). not (same_key (key cols r) k)) u
      ∙ ap (keep (λ (r : Row). not (same_key (key cols r) k))) (h l)
      ∙ sym (keep-both (λ (r : Row). same_key (key cols r) l) (λ (r : Row). not (same_key (key cols r) k)) t)

  fewer : (x : Row) (xs : Table) → length (keep (λ (r : Row). not (same_key (key cols r) (key cols x))) (x ∷ xs)) ≤ length xs
  unfolding keep
  fewer x xs = rw (key_equality.self (key cols x)) (keep-few (λ (r : Row). not (same_key (key cols r) (key cols x))) xs)

  no_rows : (u : Table) → Stable cols u [] → sum_of f u ≡ sum_of f []
  unfolding group_of
  no_rows [] h = refl
  no_rows (x ∷ u) h = absurd (some-row x u (h (key cols x)))

  fewer-rows : (n : ℕ) → ((t u : Table) → length t ≤ n → Stable cols u t → sum_of f u ≡ sum_of f t)
      → (t u : Table) → length t ≤ suc n → Stable cols u t → sum_of f u ≡ sum_of f t
  fewer-rows n less [] u l h = no_rows u h
  fewer-rows n less (x ∷ t) u l h =
      let a = sum_split f (λ (r : Row). same_key (key cols r) (key cols x)) u in
      let b = sum_split f (λ (r : Row). same_key (key cols r) (key cols x)) (x ∷ t) in
      let same = ap (sum_of f) (h (key cols x)) in
      let i =
      less (keep (λ (r : Row). not (same_key (key cols r) (key cols x))) (x ∷ t)) (keep (λ (r : Row). not (same_key (key cols r) (key cols x))) u)
      (omega (arith, fewer x t)) (without (key cols x) (x ∷ t) u h) in
      omega (arith, a, b, same, i)

  stable-sum : (n : ℕ) (t u : Table) → length t ≤ n → Stable cols u t → sum_of f u ≡ sum_of f t
  stable-sum zero [] u l h = no_rows u h
  stable-sum zero (x ∷ t) u l h = absurd (omega arith)
  stable-sum (suc n) t u l h = fewer-rows n (stable-sum n) t u l h

-- ---- a stable sort, in the words of groups

module _ {cols : List ℕ} {t u : Table} (h : SortOf cols t u) where
  pub sort-stable : Stable cols u t
  unfolding group_of
  sort-stable k = h.stable k

  pub sort_ascends : Ascends cols u
  unfolding lower
  sort_ascends i j o l = ascends_at cols u h.sorted i j o l

-- ---- how much an aggregate takes

most-none : (n : Name) → most_of n [] ≡ 0
most-none n = omega (arith, most-append n [] [])

most-sum : (n : Name) (a : Aggregate) (t : Table) → most_of n (values_of a t) ≡ sum_of (λ (r : Row). most_of n (taken a r)) t
unfolding values_of sum_of
most-sum n a [] = most-none n
most-sum n a (r ∷ rs) = omega (arith, most-append n (taken a r) (values_of a rs), most-sum n a rs)

pub sort-most : {cols : List ℕ} {t u : Table} → SortOf cols t u → (n : Name) (a : Aggregate) → most_of n (values_of a u) ≡ most_of n (values_of a t)
sort-most {cols} {t} {u} h n a =
    most-sum n a u ∙ stable-sum cols (λ (r : Row). most_of n (taken a r)) (length t) t u (omega arith) (sort-stable h) ∙ sym (most-sum n a t)

-- ---- a column sorted by itself

rise_from : (x : ℤ) (xs : List ℤ) → Rises lt_z (x ∷ xs) → upwards_from x xs ≡ true
unfolding upwards_from
rise_from x [] h = refl
rise_from x (y ∷ ys) h = rw h.0.0 (rise_from y ys h.1)

rise_up : (xs : List ℤ) → Rises lt_z xs → upwards xs ≡ true
unfolding upwards
rise_up [] h = refl
rise_up (x ∷ xs) h = rise_from x xs h

sum-column : (v : ℕ) (t : Table) → values_of (distinct_sum 0) (column_of v t) ≡ values_of (distinct_sum v) t
unfolding values_of taken column_of column_row cell
sum-column v [] = refl
sum-column v (r ∷ rs) = ap (λ (l : List ℤ). value (cell r v) ++ l) (sum-column v rs)

count-column : (v : ℕ) (t : Table) → values_of (distinct_count 0) (column_of v t) ≡ values_of (distinct_count v) t
unfolding values_of taken column_of column_row cell
count-column v [] = refl
count-column v (r ∷ rs) = ap (λ (l : List ℤ). value (cell r v) ++ l) (count-column v rs)

-- a is the aggregate over the rows t, b the same one over its own column, sorted as u
pub record ByColumn (a b : Aggregate) (t u : Table) : Type 0 where
  pub name : name_of b ≡ name_of a
  pub first : get_or (columns_read b) 0 0 ≡ 0
  pub second : get_or (columns_read b) 1 0 ≡ 0
  pub same : aggregate b u ≡ aggregate a t
  pub rises : upwards (values_of b u) ≡ true
  pub most : most_of (name_of b) (values_of b u) ≡ most_of (name_of a) (values_of a t)

-- the same aggregate over column 0
unfoldable pub over_column : Aggregate → Aggregate
over_column rows = rows
over_column (count v) = count 0
over_column (sum v) = sum 0
over_column (least v) = least 0
over_column (greatest v) = greatest 0
over_column (distinct_sum v) = distinct_sum 0
over_column (distinct_count v) = distinct_count 0
over_column (weighted_sum v c) = weighted_sum 0 0
over_column (weighted_count v c) = weighted_count 0 0

pub by-column : (a : Aggregate) → is_distinct (name_of a) ≡ true → {t u : Table} → SortOf (0 ∷ []) (column_of (get_or (columns_read a) 0 0) t) u
    → ByColumn a (over_column a) t u
unfolding name_of called distinct_of columns_read aggregate over_column
by-column rows d h = false_true d
by-column (count v) d h = false_true d
by-column (sum v) d h = false_true d
by-column (least v) d h = false_true d
by-column (greatest v) d h = false_true d
by-column (distinct_sum v) d {t} {u} h = record {
  name = refl;
  first = refl;
  second = refl;
  same = distinct-sum-same (0 ∷ []) 0 u (column_of v t) (sort-stable h) ∙ ap (answer (name_of (distinct_sum v))) (sum-column v t);
  rises = rise_up (values_of (distinct_sum 0) u) (values_rise 0 (distinct_sum 0) (distinct-sum-takes 0) u (sort_ascends h));
  most = sort-most h (name_of (distinct_sum v)) (distinct_sum 0) ∙ ap (most_of (name_of (distinct_sum v))) (sum-column v t);
}
by-column (distinct_count v) d {t} {u} h = record {
  name = refl;
  first = refl;
  second = refl;
  same = distinct-count-same (0 ∷ []) 0 u (column_of v t) (sort-stable h) ∙ ap (answer (name_of (distinct_count v))) (count-column v t);
  rises = rise_up (values_of (distinct_count 0) u) (values_rise 0 (distinct_count 0) (distinct-count-takes 0) u (sort_ascends h));
  most = sort-most h (name_of (distinct_count v)) (distinct_count 0) ∙ ap (most_of (name_of (distinct_count v))) (count-column v t);
}
by-column (weighted_sum v c) d h = false_true d
by-column (weighted_count v c) d h = false_true d
