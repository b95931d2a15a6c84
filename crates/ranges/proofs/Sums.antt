-- Sums of a function over a list: appended, mapped, kept by a test, bounded element by element.
use Rattle.std.proofs.Common.{◌≡◌, refl, ap, Bool, true, false, not, cond, List, [], ◌∷◌, ◌++◌, map, ℕ, ◌+◌, ◌*◌, ◌≤◌, mul-add, arith, length}
use Rattle.meaning.specs.Joining.{keep}
use Rattle.lists.specs.Each.{Each}

-- the sum of a function over a list
unfoldable pub sum_of : {A : Type 0} → (A → ℕ) → List A → ℕ
sum_of f [] = 0
sum_of f (x ∷ xs) = f x + sum_of f xs

pub sum-append : {A : Type 0} (f : A → ℕ) (xs ys : List A) → sum_of f (xs ++ ys) ≡ sum_of f xs + sum_of f ys
unfolding sum_of
sum-append f [] ys = omega arith
sum-append f (x ∷ xs) ys = let e : sum_of f (xs ++ ys) ≡ sum_of f xs + sum_of f ys = sum-append f xs ys in omega arith

pub sum-map : {A B : Type 0} (f : B → ℕ) (g : A → B) (xs : List A) → sum_of f (map g xs) ≡ sum_of (λ (x : A). f (g x)) xs
unfolding sum_of
sum-map f g [] = refl
sum-map f g (x ∷ xs) = ap (λ (n : ℕ). f (g x) + n) (sum-map f g xs)

pub sum_mono : {A : Type 0} (f g : A → ℕ) (xs : List A) → Each (λ (x : A). f x ≤ g x) xs → sum_of f xs ≤ sum_of g xs
unfolding sum_of
sum_mono f g [] h = omega arith
sum_mono f g (x ∷ xs) h = omega (arith, h.0, sum_mono f g xs h.1)

pub sum_both : {A : Type 0} (f g : A → ℕ) (xs : List A) → sum_of (λ (x : A). f x + g x) xs ≡ sum_of f xs + sum_of g xs
unfolding sum_of
sum_both f g [] = refl
sum_both f g (x ∷ xs) = omega (arith, sum_both f g xs)

-- a bound of each element bounds the sum
pub sum-most : {A : Type 0} (f : A → ℕ) (c : ℕ) (xs : List A) → Each (λ (x : A). f x ≤ c) xs → sum_of f xs ≤ c * length xs
unfolding sum_of
sum-most f c [] h = omega arith
sum-most f c (x ∷ xs) h = omega (arith, h.0, sum-most f c xs h.1, mul-add c 1 (length xs))

-- a unit for each element
pub sum_units : {A : Type 0} (unit : ℕ) (xs : List A) → sum_of (λ (x : A). unit) xs ≡ unit * length xs
unfolding sum_of
sum_units unit [] = omega arith
sum_units unit (x ∷ xs) = omega (arith, sum_units unit xs)

pub sum_ones : {A : Type 0} (xs : List A) → sum_of (λ (x : A). 1) xs ≡ length xs
sum_ones xs = omega (arith, sum_units 1 xs)

-- sums over what a test keeps
pub sum-keep_cons : {A : Type 0} (f : A → ℕ) (t : A → Bool) (x : A) (xs : List A)
    → sum_of f (keep t (x ∷ xs)) ≡ cond (t x) (f x) 0 + sum_of f (keep t xs)
unfolding sum_of keep
sum-keep_cons f t x xs = pick (t x)
  where
    pick : (b : Bool) → sum_of f (cond b (x ∷ keep t xs) (keep t xs)) ≡ cond b (f x) 0 + sum_of f (keep t xs)
    pick true = refl
    pick false = omega arith

pub sum-keep_split : {A : Type 0} (f : A → ℕ) (t : A → Bool) (xs : List A)
    → sum_of f (keep t xs) + sum_of f (keep (λ (x : A). not (t x)) xs) ≡ sum_of f xs
unfolding sum_of keep
sum-keep_split f t [] = refl
sum-keep_split f t (x ∷ xs) =
    omega (arith, sum-keep_cons f t x xs, sum-keep_cons f (λ y. not (t y)) x xs, pick (t x), sum-keep_split f t xs)
  where
    pick : (b : Bool) → cond b (f x) 0 + cond (not b) (f x) 0 ≡ f x
    pick true = omega arith
    pick false = omega arith

pub sum-keep_mono : {A : Type 0} (f : A → ℕ) (t u : A → Bool) (xs : List A) → ((x : A) → t x ≡ true → u x ≡ true)
    → sum_of f (keep t xs) ≤ sum_of f (keep u xs)
unfolding sum_of keep
sum-keep_mono f t u [] h = omega arith
sum-keep_mono f t u (x ∷ xs) h =
    omega (arith, sum-keep_cons f t x xs, sum-keep_cons f u x xs, pick (t x) (u x) (h x), sum-keep_mono f t u xs h)
  where
    pick : (b c : Bool) → (b ≡ true → c ≡ true) → cond b (f x) 0 ≤ cond c (f x) 0
    pick true true e = omega arith
    pick true false e = let q : false ≡ true = e refl in let z : ◌≡◌ {A = ℕ} 0 1 = cc in absurd (omega arith)
    pick false c e = omega arith
