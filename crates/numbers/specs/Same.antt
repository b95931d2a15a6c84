-- The test that two whole numbers are the same, from the fact and from its denial.
use Rattle.std.specs.Prelude.{◌≡◌, refl, Bool, true, false, ℕ, ℤ, pos, negsuc}
use Rattle.std.proofs.Common.{ap, subst, arith, eqb-true, eq-eqb}
use Rattle.meaning.specs.Cells.{eq_z}

pub eq_z_true : (x y : ℤ) → eq_z x y ≡ true → x ≡ y
unfolding eq_z
eq_z_true (pos a) (pos b) e = ap pos (eqb-true a b e)
eq_z_true (pos a) (negsuc b) e = let z : ◌≡◌ {A = ℕ} 0 1 = cc in absurd (omega arith)
eq_z_true (negsuc a) (pos b) e = let z : ◌≡◌ {A = ℕ} 0 1 = cc in absurd (omega arith)
eq_z_true (negsuc a) (negsuc b) e = ap negsuc (eqb-true a b e)

pub eq_z_refl : (x : ℤ) → eq_z x x ≡ true
unfolding eq_z
eq_z_refl (pos a) = eq-eqb a a refl
eq_z_refl (negsuc a) = eq-eqb a a refl

pub eq_eq_z : (x y : ℤ) → x ≡ y → eq_z x y ≡ true
eq_eq_z x y e = subst (λ (z : ℤ). eq_z x z ≡ true) e (eq_z_refl x)

pub ne_eq_z : (x y : ℤ) → (x ≡ y → ⊥) → eq_z x y ≡ false
ne_eq_z x y n = pick (eq_z x y) refl
  where
    pick : (b : Bool) → eq_z x y ≡ b → eq_z x y ≡ false
    pick true e = absurd (n (eq_z_true x y e))
    pick false e = e
