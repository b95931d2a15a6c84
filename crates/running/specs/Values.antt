-- What an aggregate makes and answers of values that come after others.
use Rattle.std.specs.Prelude.{◌≡◌, refl, Bool, true, false, cond, List, [], ◌∷◌, ◌++◌, length, ℤ, pos, ◌+ℤ◌, Option, Some, None}
use Rattle.std.specs.Option.{is_some}
use Rattle.std.proofs.Common.{sym, ap, ◌∙◌, length-append}
use Rattle.std.proofs.Math.IntN.{+ℤ_idl, +ℤ_assoc}
use Rattle.std.specs.Int.Signed.{lt_z}
use Rattle.meaning.specs.Cells.{num}
use Rattle.meaning.specs.Plans.{Name, Rows, Count, Sum, Least, Greatest, DistinctSum, DistinctCount, WeightedSum, WeightedCount}
use Rattle.meaning.specs.Rules.{rule}
use Rattle.meaning.specs.Aggregating.{total, smallest, largest, into, ascending, made_of, answer}
use Rattle.numbers.specs.Integers.{lt_trans, nlt_trans, nlt_antisym}
use Rattle.meaning.specs.Running.{cell_number}
use Rattle.running.specs.States.{distinct_of, combine_of, combine_if}
use Rattle.running.specs.Names.{called, is_distinct}
use Rattle.running.specs.Ascent.{upwards_from, upwards, last_from, last_if, upwards-front, upwards-last, ascending_new, ascending-same}

-- whether there is a value
unfoldable pub is_any : List ℤ → Bool
is_any [] = false
is_any (x ∷ xs) = true

pub any-more : (xs : List ℤ) (y : ℤ) (ys : List ℤ) → is_any (xs ++ y ∷ ys) ≡ true
unfolding is_any
any-more [] y ys = refl
any-more (x ∷ xs) y ys = refl

-- "a distinct one with its values ascending"; neighbours may be equal
abbrev pub Rises : Name → List ℤ → Type 0
Rises n xs = is_distinct n ≡ true → upwards xs ≡ true

pub rises-front : (n : Name) (xs ys : List ℤ) → Rises n (xs ++ ys) → Rises n xs
unfolding upwards
rises-front n [] ys h d = refl
rises-front n (x ∷ xs) ys h d = upwards-front x xs ys (h d)

-- the sum of values after others
total-append : (xs ys : List ℤ) → total (xs ++ ys) ≡ total xs +ℤ total ys
unfolding total
total-append [] ys = sym (+ℤ_idl (total ys))
total-append (x ∷ xs) ys = ap (λ (t : ℤ). x +ℤ t) (total-append xs ys) ∙ sym (+ℤ_assoc x (total xs) (total ys))

-- how many values there are after others
count-append : (xs ys : List ℤ) → pos (length (xs ++ ys)) ≡ pos (length xs) +ℤ pos (length ys)
count-append xs ys = ap pos (length-append xs ys)

-- of two values the one that a strict order puts first, the earlier of two that are the same
abbrev choose : (ℤ → ℤ → Bool) → ℤ → ℤ → ℤ
choose lt m z = cond (lt z m) z m

module _
    (lt : ℤ → ℤ → Bool)
    (goes : (x y z : ℤ) → lt x y ≡ true → lt y z ≡ true → lt x z ≡ true)
    (stays : (x y z : ℤ) → lt x y ≡ false → lt y z ≡ false → lt x z ≡ false)
    (m y z : ℤ) where
  choose_cases : (a b : Bool) → lt y m ≡ a → lt z y ≡ b → choose lt (choose lt m y) z ≡ choose lt m (choose lt y z)
  choose_cases true true e f = simp (e, f, goes z y m f e)
  choose_cases true false e f = simp (e, f)
  choose_cases false true e f = simp (e, f)
  choose_cases false false e f = simp (e, f, stays z y m f e)

  choose_assoc : choose lt (choose lt m y) z ≡ choose lt m (choose lt y z)
  choose_assoc = choose_cases (lt y m) (lt z y) refl refl

-- the least of values after others
smallest_from : (m y : ℤ) (ys : List ℤ) → smallest (choose lt_z m y) ys ≡ choose lt_z m (smallest y ys)
unfolding smallest
smallest_from m y [] = refl
smallest_from m y (z ∷ zs) =
    ap (λ (t : ℤ). smallest t zs) (choose_assoc lt_z lt_trans nlt_trans m y z) ∙ smallest_from m (choose lt_z y z) zs

smallest-append : (x : ℤ) (xs : List ℤ) (y : ℤ) (ys : List ℤ) → smallest x (xs ++ y ∷ ys) ≡ choose lt_z (smallest x xs) (smallest y ys)
unfolding smallest
smallest-append x [] y ys = smallest_from x y ys
smallest-append x (u ∷ us) y ys = smallest-append (choose lt_z x u) us y ys

-- the greatest of values after others
abbrev above : ℤ → ℤ → Bool
above x y = lt_z y x

largest_from : (m y : ℤ) (ys : List ℤ) → largest (choose above m y) ys ≡ choose above m (largest y ys)
unfolding largest
largest_from m y [] = refl
largest_from m y (z ∷ zs) =
    ap (λ (t : ℤ). largest t zs)
    (choose_assoc above (λ a b d h k. lt_trans d b a k h) (λ a b d h k. nlt_trans d b a k h) m y z)
    ∙ largest_from m (choose above y z) zs

largest-append : (x : ℤ) (xs : List ℤ) (y : ℤ) (ys : List ℤ) → largest x (xs ++ y ∷ ys) ≡ choose above (largest x xs) (largest y ys)
unfolding largest
largest-append x [] y ys = largest_from x y ys
largest-append x (u ∷ us) y ys = largest-append (choose above x u) us y ys

-- unless distinct, what is made of values after others is both made apart, combined
made-append : (n : Name) (x : ℤ) (xs : List ℤ) (y : ℤ) (ys : List ℤ) → is_distinct n ≡ false
    → made_of n x (xs ++ y ∷ ys) ≡ combine_of (called n) (made_of n x xs) (made_of n y ys)
unfolding made_of combine_of called distinct_of
made-append Rows x xs y ys d = count-append (x ∷ xs) (y ∷ ys)
made-append Count x xs y ys d = count-append (x ∷ xs) (y ∷ ys)
made-append Sum x xs y ys d = total-append (x ∷ xs) (y ∷ ys)
made-append Least x xs y ys d = smallest-append x xs y ys
made-append Greatest x xs y ys d = largest-append x xs y ys
made-append DistinctSum x xs y ys d = cc
made-append DistinctCount x xs y ys d = cc
made-append WeightedSum x xs y ys d = total-append (x ∷ xs) (y ∷ ys)
made-append WeightedCount x xs y ys d = total-append (x ∷ xs) (y ∷ ys)

-- a distinct one: a value above the last is combined; the last once more changes nothing
made_new : (n : Name) (x : ℤ) (xs : List ℤ) (z : ℤ) → is_distinct n ≡ true → upwards_from x xs ≡ true → lt_z (last_from x xs) z ≡ true
    → made_of n x (xs ++ z ∷ []) ≡ combine_of (called n) (made_of n x xs) (made_of n z [])
unfolding made_of combine_of called distinct_of ascending into
made_new Rows x xs z d h k = cc
made_new Count x xs z d h k = cc
made_new Sum x xs z d h k = cc
made_new Least x xs z d h k = cc
made_new Greatest x xs z d h k = cc
made_new DistinctSum x xs z d h k = ap total (ascending_new x xs z h k) ∙ total-append (ascending (x ∷ xs)) (z ∷ [])
made_new DistinctCount x xs z d h k =
    ap (λ (l : List ℤ). pos (length l)) (ascending_new x xs z h k) ∙ count-append (ascending (x ∷ xs)) (z ∷ [])
made_new WeightedSum x xs z d h k = cc
made_new WeightedCount x xs z d h k = cc

made-same : (n : Name) (x : ℤ) (xs : List ℤ) (z : ℤ) → is_distinct n ≡ true → last_from x xs ≡ z → made_of n x (xs ++ z ∷ []) ≡ made_of n x xs
unfolding made_of called distinct_of
made-same Rows x xs z d e = cc
made-same Count x xs z d e = cc
made-same Sum x xs z d e = cc
made-same Least x xs z d e = cc
made-same Greatest x xs z d e = cc
made-same DistinctSum x xs z d e = ap total (ascending-same x xs z e)
made-same DistinctCount x xs z d e = ap (λ (l : List ℤ). pos (length l)) (ascending-same x xs z e)
made-same WeightedSum x xs z d e = cc
made-same WeightedCount x xs z d e = cc

-- what is made of values, where there are any
unfoldable pub made_if : Name → List ℤ → Option ℤ
made_if n [] = None
made_if n (x ∷ xs) = Some (made_of n x xs)

pub made_any : (n : Name) (xs : List ℤ) → is_some (made_if n xs) ≡ is_any xs
unfolding made_if is_any
made_any n [] = refl
made_any n (x ∷ xs) = refl

-- and that is the answer over them
pub answer_made : (n : Name) (xs : List ℤ) {z : ℤ} → made_if n xs ≡ Some z → answer n xs ≡ num z
unfolding made_if answer
answer_made n [] e = cc
answer_made n (x ∷ xs) {z} e = let m : made_of n x xs ≡ z = cc e in ap num m

-- what is made of values after others: unless distinct, that of the values before combined with what is made of these
pub answer-both : (n : Name) (xs : List ℤ) (y : ℤ) (ys : List ℤ) → is_distinct n ≡ false
    → Some (combine_if (called n) (made_if n xs) (made_of n y ys)) ≡ made_if n (xs ++ y ∷ ys)
unfolding combine_if made_if
answer-both n [] y ys d = refl
answer-both n (x ∷ xs) y ys d = ap Some (sym (made-append n x xs y ys d))

-- what is not below and not the same is above
above-last : (z l : ℤ) → lt_z z l ≡ false → (l ≡ z → ⊥) → lt_z l z ≡ true
above-last z l h n = pick (lt_z l z) refl
  where
    pick : (b : Bool) → lt_z l z ≡ b → lt_z l z ≡ true
    pick true e = e
    pick false e = absurd (n (nlt_antisym l z e h))

-- over one value more, which is not the last again where the aggregate is distinct
pub answer_new : (n : Name) (xs : List ℤ) (z : ℤ) → Rises n (xs ++ z ∷ []) → (is_distinct n ≡ true → last_if xs ≡ Some z → ⊥)
    → Some (combine_if (called n) (made_if n xs) (made_of n z [])) ≡ made_if n (xs ++ z ∷ [])
unfolding combine_if made_if upwards last_if
answer_new n [] z h k = refl
answer_new n (x ∷ xs) z h k = ap Some (pick (is_distinct n) refl)
  where
    pick : (b : Bool) → is_distinct n ≡ b → combine_of (called n) (made_of n x xs) (made_of n z []) ≡ made_of n x (xs ++ z ∷ [])
    pick true d =
        sym
        (made_new n x xs z d (upwards-front x xs (z ∷ []) (h d))
        (above-last z (last_from x xs) (upwards-last x xs z (h d)) (λ e. k d (ap Some e))))
    pick false d = sym (made-append n x xs z [] d)

-- the last value once more changes nothing that a distinct one makes
pub answer-same : (n : Name) (xs : List ℤ) (z : ℤ) → is_distinct n ≡ true → last_if xs ≡ Some z → made_if n xs ≡ made_if n (xs ++ z ∷ [])
unfolding made_if last_if
answer-same n [] z d e = cc
answer-same n (x ∷ xs) z d e = ap Some (sym (made-same n x xs z d cc))

-- the answer with no value is 0 or null
pub none_number : (n : Name) → cell_number (rule n).no_value ≡ pos 0
unfolding rule cell_number
none_number Rows = refl
none_number Count = refl
none_number Sum = refl
none_number Least = refl
none_number Greatest = refl
none_number DistinctSum = refl
none_number DistinctCount = refl
none_number WeightedSum = refl
none_number WeightedCount = refl
