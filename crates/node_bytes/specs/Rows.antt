-- Things that stand one behind the other in a byte string, each k bytes wide: a test of each, and the list of what each is.
-- What is proved here once serves pairs, defaults, grouping columns and aggregates.
use Rattle.std.specs.Prelude.{◌≡◌, Bool, true, false, ◌&&◌}
use Rattle.std.proofs.Math.Path.{refl}
use Rattle.std.specs.List.{list_all, range_with_len}
use Rattle.std.proofs.Common.{sym, ap, ◌∙◌, add-one, List, [], ◌∷◌, ◌++◌, map, ℕ, zero, suc, ◌+◌, ◌*◌, ◌≤◌, arith}
use Rattle.std.proofs.Math.ListN.{length, length-append}
use Rattle.meaning.specs.Arrangement.{in_row}
use Rattle.meaning.specs.Check.{all}
use Rattle.lists.specs.Tests.{and_left, and_right}
use Rattle.node_bytes.specs.Holding.{Holds, holds-front, holds_back, holds-both, holds_to}

-- a test of n things, each k behind the one before
unfoldable pub every : (ℕ → Bool) → ℕ → ℕ → ℕ → Bool
every f k at zero = true
every f k at (suc n) = f at && every f k (at + k) n

-- what n things are, each k behind the one before
unfoldable pub list_at : {A : Type 0} → (ℕ → A) → ℕ → ℕ → ℕ → List A
list_at g k at zero = []
list_at g k at (suc n) = g at ∷ list_at g k (at + k) n

-- two rows of one kind of thing, one behind the other
pub every_append : (t : ℕ → Bool) (k at n m : ℕ) → every t k at (n + m) ≡ (every t k at n && every t k (at + k * n) m)
unfolding every
every_append t k at zero m = let q : 0 + m ≡ m = omega arith in let r : at + k * 0 ≡ at = omega arith in simp (q, r)
every_append t k at (suc n) m =
    let q : suc n + m ≡ suc (n + m) = omega arith in
    let r : at + k + k * n ≡ at + k * suc n = omega arith in
    rw q (step (t at) (every t k (at + k) (n + m)) (every t k (at + k) n) (every t k (at + k * suc n) m)
    (every_append t k (at + k) n m ∙ ap (λ (a : ℕ). every t k (at + k) n && every t k a m) r))
  where
    step : (a b c d : Bool) → b ≡ (c && d) → (a && b) ≡ ((a && c) && d)
    step true b c d e = e
    step false b c d e = refl

-- the same test, as `all` makes it over the numbers of the things
every_numbered : (f : ℕ → Bool) (k at a n : ℕ) → list_all (λ (i : ℕ). f (at + k * i)) (range_with_len a n) ≡ every f k (at + k * a) n
unfolding every
every_numbered f k at a zero = refl
every_numbered f k at a (suc n) =
    let q : at + k * (a + 1) ≡ at + k * a + k = omega arith in
    ap (λ (b : Bool). f (at + k * a) && b) (every_numbered f k at (a + 1) n ∙ ap (λ (m : ℕ). every f k m n) q)

pub every_of-range : (f : ℕ → Bool) (k at n : ℕ) → list_all (λ (i : ℕ). f (at + k * i)) (range_with_len 0 n) ≡ every f k at n
every_of-range f k at n = let q : at + k * 0 ≡ at = omega arith in every_numbered f k at 0 n ∙ ap (λ (m : ℕ). every f k m n) q

-- the law of a loop that builds: one thing more at the end
pub list_more : {A : Type 0} (g : ℕ → A) (k at n : ℕ) → list_at g k at (n + 1) ≡ list_at g k at n ++ (g (at + k * n) ∷ [])
unfolding list_at
list_more g k at n = rw (add-one n) (more at n)
  where
    more : (at n : ℕ) → list_at g k at (suc n) ≡ list_at g k at n ++ (g (at + k * n) ∷ [])
    more at zero = let q : at + k * 0 ≡ at = omega arith in simp q
    more at (suc n) =
        let q : at + k + k * n ≡ at + k * suc n = omega arith in
        ap (λ (l : List _). g at ∷ l) (more (at + k) n ∙ ap (λ (a : ℕ). list_at g k (at + k) n ++ (g a ∷ [])) q)

pub length_list : {A : Type 0} (g : ℕ → A) (k at n : ℕ) → length (list_at g k at n) ≡ n
unfolding list_at
length_list g k at zero = refl
length_list g k at (suc n) = ap suc (length_list g k (at + k) n)

pub all_true : {A : Type 0} (xs : List A) → all (λ (x : A). true) xs ≡ true
unfolding all
all_true [] = refl
all_true (x ∷ xs) = all_true xs

-- things of the arrangement, each k bytes wide
module _ {A : Type 0} (f : A → List ℕ) (k : ℕ) (wide : (x : A) → length (f x) ≡ k) where
  pub length-row : (xs : List A) → length (in_row f xs) ≡ k * length xs
  unfolding in_row
  length-row [] = omega arith
  length-row (x ∷ xs) =
      let e : length (f x ++ in_row f xs) ≡ length (f x) + length (in_row f xs) = length-append (f x) (in_row f xs) in
      let i : length (in_row f xs) ≡ k * length xs = length-row xs in
      let w : length (f x) ≡ k = wide x in
      omega arith

  module _ (s : List ℕ) where
    -- things of each of which something is known: it passes a test
    module _ (known : A → Bool) where
      -- a test of the bytes that is one of the things tests them all
      pub every-known : (t : ℕ → Bool) (u : A → Bool) → ((at : ℕ) (x : A) → Holds s at (f x) → known x ≡ true → t at ≡ u x)
          → (at : ℕ) (xs : List A) → Holds s at (in_row f xs) → all known xs ≡ true
          → every t k at (length xs) ≡ all u xs
      unfolding in_row every all
      every-known t u same at [] h e = refl
      every-known t u same at (x ∷ xs) h e =
          let rest : every t k (at + k) (length xs) ≡ all u xs =
          every-known t u same (at + k) xs (holds_to (ap (λ (n : ℕ). at + n) (wide x)) (holds_back (f x) (in_row f xs) h)) (and_right (known x) (all known xs) e) in
          cc (same at x (holds-front (f x) (in_row f xs) h) (and_left (known x) (all known xs) e))

      -- what is read back at each is read back of all
      pub list_known : {B : Type 0} (g : ℕ → B) (u : A → B) → ((at : ℕ) (x : A) → Holds s at (f x) → known x ≡ true → g at ≡ u x)
          → (at : ℕ) (xs : List A) → Holds s at (in_row f xs) → all known xs ≡ true
          → list_at g k at (length xs) ≡ map u xs
      unfolding in_row list_at all
      list_known g u same at [] h e = refl
      list_known g u same at (x ∷ xs) h e =
          let rest : list_at g k (at + k) (length xs) ≡ map u xs =
          list_known g u same (at + k) xs (holds_to (ap (λ (n : ℕ). at + n) (wide x)) (holds_back (f x) (in_row f xs) h)) (and_right (known x) (all known xs) e) in
          cc (same at x (holds-front (f x) (in_row f xs) h) (and_left (known x) (all known xs) e))

    -- the same of any things
    pub every-all : (t : ℕ → Bool) (u : A → Bool) → ((at : ℕ) (x : A) → Holds s at (f x) → t at ≡ u x)
        → (at : ℕ) (xs : List A) → Holds s at (in_row f xs) → every t k at (length xs) ≡ all u xs
    every-all t u same at xs h = every-known (λ (x : A). true) t u (λ at x h e. same at x h) at xs h (all_true xs)

    pub list_back : {B : Type 0} (g : ℕ → B) (u : A → B) → ((at : ℕ) (x : A) → Holds s at (f x) → g at ≡ u x)
        → (at : ℕ) (xs : List A) → Holds s at (in_row f xs) → list_at g k at (length xs) ≡ map u xs
    list_back g u same at xs h = list_known (λ (x : A). true) g u (λ at x h e. same at x h) at xs h (all_true xs)

    -- bytes that pass a test at each thing hold what is read back
    pub list_holds : (t : ℕ → Bool) (g : ℕ → A) → ((at : ℕ) → at + k ≤ length s → t at ≡ true → Holds s at (f (g at)))
        → (at n : ℕ) → at + k * n ≤ length s → every t k at n ≡ true → Holds s at (in_row f (list_at g k at n))
    unfolding in_row list_at every
    list_holds t g good at zero b e = record { fits = omega arith; same = λ i l. absurd (omega arith) }
    list_holds t g good at (suc n) b e =
        holds-both (f (g at)) (in_row f (list_at g k (at + k) n))
        (good at (omega arith) (and_left (t at) (every t k (at + k) n) e))
        (holds_to (ap (λ (n : ℕ). at + n) (sym (wide (g at)))) (list_holds t g good (at + k) n (omega arith) (and_right (t at) (every t k (at + k) n) e)))
