-- A test of equality, and membership by it.
use Rattle.std.specs.Prelude.{◌≡◌, Bool, cond, ◌||◌, ◌↔◌}
use Rattle.std.proofs.Math.Path.{refl, ap, subst}
use Rattle.std.proofs.Common.{sym, ◌∙◌, List, [], ◌∷◌}
use Rattle.std.proofs.Math.Bool.{true, false}
use Rattle.meaning.specs.Joining.{keep, any}
use Rattle.lists.specs.Tests.{clash, same_tests, or_cases, or_left, or_right}
use Rattle.lists.specs.Each.{Each}

pub record Equality {A : Type 0} (eq : A → A → Bool) : Type 0 where
  pub same : (x y : A) → eq x y ≡ true → x ≡ y
  pub self : (x : A) → eq x x ≡ true

module _ {A : Type 0} {eq : A → A → Bool} (q : Equality eq) where
  pub each-has : (P : A → Type 0) (x : A) (xs : List A) → Each P xs → any (eq x) xs ≡ true → P x
  unfolding any
  each-has P x [] h e = clash refl (sym e)
  each-has P x (y ∷ ys) h e =
      or_cases (eq x y) (any (eq x) ys) e (λ s. subst P (sym (q.same x y s)) h.0) (λ m. each-has P x ys h.1 m)

  pub has-each : (P : A → Type 0) (xs : List A) → ((x : A) → any (eq x) xs ≡ true → P x) → Each P xs
  unfolding any
  has-each P [] h = tt
  has-each P (x ∷ xs) h =
      (h x (or_left (eq x x) (any (eq x) xs) (q.self x)), has-each P xs (λ y e. h y (or_right (eq y x) (any (eq y) xs) e)))

  pub has-any : (p : A → Bool) (x : A) (xs : List A) → any (eq x) xs ≡ true → p x ≡ true → any p xs ≡ true
  unfolding any
  has-any p x [] e g = clash refl (sym e)
  has-any p x (y ∷ ys) e g =
      or_cases (eq x y) (any (eq x) ys) e
      (λ s. or_left (p y) (any p ys) (ap p (sym (q.same x y s)) ∙ g))
      (λ m. or_right (p y) (any p ys) (has-any p x ys m g))

  any_subset : (p : A → Bool) (xs ys : List A) → Each (λ (x : A). any (eq x) ys ≡ true) xs → any p xs ≡ true → any p ys ≡ true
  unfolding any
  any_subset p [] ys h e = clash refl (sym e)
  any_subset p (x ∷ xs) ys h e = or_cases (p x) (any p xs) e (λ g. has-any p x ys h.0 g) (λ m. any_subset p xs ys h.1 m)

  pub any_same : (p : A → Bool) (xs ys : List A) → ((x : A) → any (eq x) xs ≡ any (eq x) ys) → any p xs ≡ any p ys
  any_same p xs ys h =
      same_tests (any p xs) (any p ys)
      (any_subset p xs ys (has-each (λ (x : A). any (eq x) ys ≡ true) xs (λ x e. sym (h x) ∙ e)))
      (any_subset p ys xs (has-each (λ (x : A). any (eq x) xs ≡ true) ys (λ x e. h x ∙ e)))

  -- what passes a test is a member of what is kept exactly if it was one before
  pub has-keep : (f : A → Bool) (x : A) → f x ≡ true → (xs : List A) → any (eq x) (keep f xs) ≡ any (eq x) xs
  unfolding any keep
  has-keep f x g [] = refl
  has-keep f x g (y ∷ ys) = step (f y) refl (has-keep f x g ys)
    where
      differs : (b : Bool) → eq x y ≡ b → f y ≡ false → eq x y ≡ false
      differs true s e = clash refl (sym g ∙ ap f (q.same x y s) ∙ e)
      differs false s e = s

      step : (b : Bool) → f y ≡ b → any (eq x) (keep f ys) ≡ any (eq x) ys
          → any (eq x) (cond b (y ∷ keep f ys) (keep f ys)) ≡ (eq x y || any (eq x) ys)
      step true e i = ap (λ (b : Bool). eq x y || b) i
      step false e i = rw (differs (eq x y) refl e) i

  pub equal_iff : (x y : A) → (eq x y ≡ true) ↔ (x ≡ y)
  equal_iff x y = (q.same x y, λ e. subst (λ (z : A). eq x z ≡ true) e (q.self x))

  pub equal-swap : (x y : A) → eq x y ≡ eq y x
  equal-swap x y =
      same_tests (eq x y) (eq y x)
      (λ e. (equal_iff y x).1 (sym (q.same x y e)))
      (λ e. (equal_iff x y).1 (sym (q.same y x e)))
