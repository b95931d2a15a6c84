-- A distinct aggregate needs its rows in no order: only which values occur matters. Of rows sorted by the column that it reads, the values ascend.
use Rattle.std.proofs.Common.{◌≡◌, refl, sym, ap, ◌∙◌, Bool, false, ◌&&◌, ◌||◌, List, [], ◌∷◌, ◌++◌, ℕ, length, ℤ, pos}
use lib.Signed.{lt_z}
use Rattle.meaning.specs.Cells.{Cell, null, num, eq_z, groups, below}
use Rattle.meaning.specs.Plans.{Row, Table, Name, DistinctSum, DistinctCount, Aggregate, distinct_sum, distinct_count, name_of}
use Rattle.meaning.specs.Joining.{cell, any}
use Rattle.meaning.specs.Aggregating.{value, taken, values_of, total, into, ascending, made_of, answer, aggregate}
use Rattle.meaning.specs.Grouping.{key, below_key}
use Rattle.lists.specs.Equality.{any_same}
use Rattle.lists.specs.Each.{Each, each_to, any_append, each}
use Rattle.lists.specs.Tests.{clash, or_left, neither}
use Rattle.groups.proofs.Orders.{Rises, at_rises, insert, in_order, in_order-same, has_in_order, whole-order}
use Rattle.groups.proofs.Keys.{key_equality}
use Rattle.groups.proofs.Grouped.{Ascends, Stable, same_rows}

-- ---- values ascending, each once

into_inserts : (x : ℤ) (ys : List ℤ) → into x ys ≡ insert lt_z eq_z x ys
unfolding into insert
into_inserts x [] = refl
into_inserts x (y ∷ ys) = rw (into_inserts x ys)

pub ascending_in_order : (xs : List ℤ) → ascending xs ≡ in_order lt_z eq_z xs
unfolding ascending in_order
ascending_in_order [] = refl
ascending_in_order (x ∷ xs) = into_inserts x (ascending xs) ∙ ap (insert lt_z eq_z x) (ascending_in_order xs)

pub ascending-same : (xs ys : List ℤ) → ((z : ℤ) → any (eq_z z) xs ≡ any (eq_z z) ys) → ascending xs ≡ ascending ys
ascending-same xs ys h =
    ascending_in_order xs
    ∙ in_order-same whole-order xs ys (each (λ (z : ℤ). Unit {0}) (λ z. tt) xs) (each (λ (z : ℤ). Unit {0}) (λ z. tt) ys) h
    ∙ sym (ascending_in_order ys)

-- ---- the values of rows in another order

any_values : (a : Aggregate) (z : ℤ) (t : Table) → any (eq_z z) (values_of a t) ≡ any (λ (r : Row). any (eq_z z) (taken a r)) t
unfolding any values_of
any_values a z [] = refl
any_values a z (r ∷ rs) = any_append (eq_z z) (taken a r) (values_of a rs) ∙ ap (λ (b : Bool). any (eq_z z) (taken a r) || b) (any_values a z rs)

pub ascending_values : (cols : List ℕ) (a : Aggregate) (u t : Table) → Stable cols u t → ascending (values_of a u) ≡ ascending (values_of a t)
ascending_values cols a u t h =
    ascending-same (values_of a u) (values_of a t)
    (λ z. any_values a z u ∙ any_same key_equality (λ (r : Row). any (eq_z z) (taken a r)) u t (same_rows cols u t h) ∙ sym (any_values a z t))

-- ---- what is made of them

some-ascending : (x : ℤ) (xs : List ℤ) → ascending (x ∷ xs) ≡ ascending [] → ⊥
unfolding any ascending
some-ascending x xs e =
    clash refl (sym (or_left (eq_z x x) (any (eq_z x) xs) (whole-order.equal.self x)) ∙ sym (has_in_order whole-order x (x ∷ xs)) ∙ ap (any (eq_z x)) (sym (ascending_in_order (x ∷ xs)) ∙ e))

answer-ascending : (n : Name) (g : List ℤ → ℤ) → ((x : ℤ) (xs : List ℤ) → made_of n x xs ≡ g (ascending (x ∷ xs)))
    → (xs ys : List ℤ) → ascending xs ≡ ascending ys → answer n xs ≡ answer n ys
unfolding answer
answer-ascending n g made [] [] e = refl
answer-ascending n g made [] (y ∷ ys) e = absurd (some-ascending y ys (sym e))
answer-ascending n g made (x ∷ xs) [] e = absurd (some-ascending x xs e)
answer-ascending n g made (x ∷ xs) (y ∷ ys) e = ap num (made x xs ∙ ap g e ∙ sym (made y ys))

module _ (cols : List ℕ) (v : ℕ) (u t : Table) (h : Stable cols u t) where
  pub distinct-sum-same : aggregate (distinct_sum v) u ≡ aggregate (distinct_sum v) t
  unfolding aggregate name_of made_of
  distinct-sum-same =
      answer-ascending DistinctSum total (λ x xs. refl) (values_of (distinct_sum v) u) (values_of (distinct_sum v) t) (ascending_values cols (distinct_sum v) u t h)

  pub distinct-count-same : aggregate (distinct_count v) u ≡ aggregate (distinct_count v) t
  unfolding aggregate name_of made_of
  distinct-count-same =
      answer-ascending DistinctCount (λ (l : List ℤ). pos (length l)) (λ x xs. refl) (values_of (distinct_count v) u) (values_of (distinct_count v) t)
      (ascending_values cols (distinct_count v) u t h)

-- ---- the values of rows sorted by the one column that is read

pub distinct-sum-takes : (v : ℕ) (r : Row) → taken (distinct_sum v) r ≡ value (cell r v)
unfolding taken
distinct-sum-takes v r = refl

pub distinct-count-takes : (v : ℕ) (r : Row) → taken (distinct_count v) r ≡ value (cell r v)
unfolding taken
distinct-count-takes v r = refl

not-below : (v : ℕ) (r s : Row) → below_key (key (v ∷ []) r) (key (v ∷ []) s) ≡ false → below (cell r v) (cell s v) ≡ false
unfolding below_key key
not-below v r s h = (neither (below (cell r v) (cell s v)) (groups (cell r v) (cell s v) && false) h).0

module _ (v : ℕ) (a : Aggregate) (reads : (r : Row) → taken a r ≡ value (cell r v)) where
  none_below : (z : ℤ) (rs : Table) → Each (λ (r : Row). below (cell r v) (num z) ≡ false) rs → Each (λ (y : ℤ). lt_z y z ≡ false) (values_of a rs)
  unfolding values_of value below
  none_below z [] h = tt
  none_below z (r ∷ rs) h = rw (reads r) (step (cell r v) h.0 (none_below z rs h.1))
    where
      step : (c : Cell) → below c (num z) ≡ false → Each (λ (y : ℤ). lt_z y z ≡ false) (values_of a rs) → Each (λ (y : ℤ). lt_z y z ≡ false) (value c ++ values_of a rs)
      step null n i = i
      step (num y) n i = (n, i)

  rising_values : (u : Table) → Rises (λ (r s : Row). below_key (key (v ∷ []) r) (key (v ∷ []) s)) u → Rises lt_z (values_of a u)
  unfolding values_of value
  rising_values [] h = tt
  rising_values (r ∷ rs) h =
      rw (reads r)
      (step (cell r v)
      (each_to (λ (s : Row). below_key (key (v ∷ []) s) (key (v ∷ []) r) ≡ false) (λ (s : Row). below (cell s v) (cell r v) ≡ false) (λ s n. not-below v s r n) rs h.0)
      (rising_values rs h.1))
    where
      step : (c : Cell) → Each (λ (s : Row). below (cell s v) c ≡ false) rs → Rises lt_z (values_of a rs) → Rises lt_z (value c ++ values_of a rs)
      step null n i = i
      step (num z) n i = (none_below z rs n, i)

  pub values_rise : (u : Table) → Ascends (v ∷ []) u → Rises lt_z (values_of a u)
  values_rise u h = rising_values u (at_rises (λ (r s : Row). below_key (key (v ∷ []) r) (key (v ∷ []) s)) [] u h)
