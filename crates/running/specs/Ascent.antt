-- Values that ascend, equal neighbours allowed: what one more of them changes in the list of the different ones.
use Rattle.std.specs.Prelude.{◌≡◌, refl, Bool, true, false, not, cond, ◌&&◌, List, [], ◌∷◌, ◌++◌, ℤ, Option, Some, None}
use Rattle.std.proofs.Common.{ap, ◌∙◌}
use Rattle.std.specs.Int.Signed.{lt_z}
use Rattle.std.proofs.lemmas.Bool.{not-true}
use Rattle.meaning.specs.Cells.{eq_z}
use Rattle.meaning.specs.Aggregating.{into, ascending}
use Rattle.lists.specs.Tests.{and_left, and_right}
use Rattle.numbers.specs.Integers.{lt_irrefl, nlt_trans, nlt_lt_trans}
use Rattle.numbers.specs.Same.{eq_z_refl}

-- no value is below the one before it, where x stands before the first
unfoldable pub upwards_from : ℤ → List ℤ → Bool
upwards_from x [] = true
upwards_from x (y ∷ ys) = not (lt_z y x) && upwards_from y ys

unfoldable pub upwards : List ℤ → Bool
upwards [] = true
upwards (x ∷ xs) = upwards_from x xs

-- the last value, where x stands before the first
unfoldable pub last_from : ℤ → List ℤ → ℤ
last_from x [] = x
last_from x (y ∷ ys) = last_from y ys

unfoldable pub last_if : List ℤ → Option ℤ
last_if [] = None
last_if (x ∷ xs) = Some (last_from x xs)

-- one value more is the last
last_from_more : (x : ℤ) (xs : List ℤ) (z : ℤ) → last_from x (xs ++ z ∷ []) ≡ z
unfolding last_from
last_from_more x [] z = refl
last_from_more x (y ∷ ys) z = last_from_more y ys z

pub last_more : (xs : List ℤ) (z : ℤ) → last_if (xs ++ z ∷ []) ≡ Some z
unfolding last_if last_from
last_more [] z = refl
last_more (x ∷ xs) z = ap Some (last_from_more x xs z)

-- what ascends with more values ascends without them
pub upwards-front : (x : ℤ) (xs ys : List ℤ) → upwards_from x (xs ++ ys) ≡ true → upwards_from x xs ≡ true
unfolding upwards_from
upwards-front x [] ys h = refl
upwards-front x (y ∷ xs) ys h =
    rw (and_left (not (lt_z y x)) (upwards_from y (xs ++ ys)) h)
    (upwards-front y xs ys (and_right (not (lt_z y x)) (upwards_from y (xs ++ ys)) h))

-- one value more is not below the last; and what is not may come next
pub upwards-last : (x : ℤ) (xs : List ℤ) (z : ℤ) → upwards_from x (xs ++ z ∷ []) ≡ true → lt_z z (last_from x xs) ≡ false
unfolding upwards_from last_from
upwards-last x [] z h = not-true (lt_z z x) (and_left (not (lt_z z x)) true h)
upwards-last x (y ∷ ys) z h = upwards-last y ys z (and_right (not (lt_z y x)) (upwards_from y (ys ++ z ∷ [])) h)

-- the last is not below the first
first-last : (x : ℤ) (xs : List ℤ) → upwards_from x xs ≡ true → lt_z (last_from x xs) x ≡ false
unfolding upwards_from last_from
first-last x [] h = lt_irrefl x
first-last x (y ∷ ys) h =
    nlt_trans (last_from y ys) y x (first-last y ys (and_right (not (lt_z y x)) (upwards_from y ys) h))
    (not-true (lt_z y x) (and_left (not (lt_z y x)) (upwards_from y ys) h))

-- a value goes in before a greater last one
into-pick : (x w z : ℤ) (ws vs us : List ℤ) (a b : Bool) → us ≡ vs ++ z ∷ []
    → cond a (x ∷ w ∷ (ws ++ z ∷ [])) (cond b (w ∷ (ws ++ z ∷ [])) (w ∷ us)) ≡ cond a (x ∷ w ∷ ws) (cond b (w ∷ ws) (w ∷ vs)) ++ z ∷ []
into-pick x w z ws vs us true b e = refl
into-pick x w z ws vs us false true e = refl
into-pick x w z ws vs us false false e = ap (λ (l : List ℤ). w ∷ l) e

into_more : (x : ℤ) (ws : List ℤ) (z : ℤ) → lt_z x z ≡ true → into x (ws ++ z ∷ []) ≡ into x ws ++ z ∷ []
unfolding into
into_more x [] z h = rw h
into_more x (w ∷ ws) z h = into-pick x w z ws (into x ws) (into x (ws ++ z ∷ [])) (lt_z x w) (eq_z x w) (into_more x ws z h)

-- a value above the last is one more of the different ones; the last once more changes nothing
pub ascending_new : (x : ℤ) (xs : List ℤ) (z : ℤ) → upwards_from x xs ≡ true → lt_z (last_from x xs) z ≡ true
    → ascending ((x ∷ xs) ++ z ∷ []) ≡ ascending (x ∷ xs) ++ z ∷ []
unfolding ascending upwards_from last_from into
ascending_new x [] z h k = into_more x [] z k
ascending_new x (y ∷ ys) z h k =
    ap (into x) (ascending_new y ys z (and_right (not (lt_z y x)) (upwards_from y ys) h) k)
    ∙ into_more x (ascending (y ∷ ys)) z (nlt_lt_trans x (last_from y ys) z (first-last x (y ∷ ys) h) k)

pub ascending-same : (x : ℤ) (xs : List ℤ) (z : ℤ) → last_from x xs ≡ z → ascending ((x ∷ xs) ++ z ∷ []) ≡ ascending (x ∷ xs)
unfolding ascending last_from into
ascending-same x [] z e = rw (e, lt_irrefl z, eq_z_refl z)
ascending-same x (y ∷ ys) z e = ap (into x) (ascending-same y ys z e)
