-- Laws of ℤ that the kit lacks: its two parts, by which a linear goal becomes one of ℕ; the test of order; sizes; the bits of a cell.
use Rattle.std.specs.Prelude.{◌≡◌, refl, Bool, true, false, cond, ℕ, zero, suc, ◌+◌, ◌*◌, ◌-◌, ◌≤◌, ◌<◌, ◌^◌, ltb, ℤ, pos, negsuc, nat_abs, neg_ℤ, ◌+ℤ◌, ◌*ℤ◌}
use Rattle.std.proofs.Common.{sym, ap, ◌∙◌, arith, ltb-true, ltb-false, lt-ltb, le-ltb, SFits, of_z, to_z, to_z-of_z}
use Rattle.std.specs.Int.Signed.{mag, lt_z}
use Rattle.std.specs.Int.{w64}

-- the two parts: z is up z − dn z, and one of them is 0
abbrev pub up : ℤ → ℕ
up (pos n) = n
up (negsuc n) = 0

abbrev pub dn : ℤ → ℕ
dn (pos n) = 0
dn (negsuc n) = suc n

-- numbers with the same parts are the same
pub parts_eq : (x y : ℤ) → up x + dn y ≡ up y + dn x → x ≡ y
parts_eq (pos a) (pos b) h = ap pos (omega arith)
parts_eq (pos a) (negsuc b) h = absurd (omega arith)
parts_eq (negsuc a) (pos b) h = absurd (omega arith)
parts_eq (negsuc a) (negsuc b) h = ap negsuc (omega arith)

-- no test is both met and not met
pub false_true : {A : Type 0} → false ≡ true → A
false_true e = let z : ◌≡◌ {A = ℕ} 0 1 = cc in absurd (omega arith)

-- the test of order by the parts, both ways

pub lt_parts : (x y : ℤ) → lt_z x y ≡ true → up x + dn y < up y + dn x
lt_parts (pos a) (pos b) e = omega (arith, ltb-true a b e)
lt_parts (pos a) (negsuc b) e = false_true e
lt_parts (negsuc a) (pos b) e = omega arith
lt_parts (negsuc a) (negsuc b) e = omega (arith, ltb-true b a e)

pub nlt_parts : (x y : ℤ) → lt_z x y ≡ false → up y + dn x ≤ up x + dn y
nlt_parts (pos a) (pos b) e = omega (arith, ltb-false a b e)
nlt_parts (pos a) (negsuc b) e = omega arith
nlt_parts (negsuc a) (pos b) e = false_true (sym e)
nlt_parts (negsuc a) (negsuc b) e = omega (arith, ltb-false b a e)

pub parts_lt : (x y : ℤ) → up x + dn y < up y + dn x → lt_z x y ≡ true
parts_lt (pos a) (pos b) h = lt-ltb a b (omega arith)
parts_lt (pos a) (negsuc b) h = absurd (omega arith)
parts_lt (negsuc a) (pos b) h = refl
parts_lt (negsuc a) (negsuc b) h = lt-ltb b a (omega arith)

pub parts_nlt : (x y : ℤ) → up y + dn x ≤ up x + dn y → lt_z x y ≡ false
parts_nlt (pos a) (pos b) h = le-ltb a b (omega arith)
parts_nlt (pos a) (negsuc b) h = refl
parts_nlt (negsuc a) (pos b) h = absurd (omega arith)
parts_nlt (negsuc a) (negsuc b) h = le-ltb b a (omega arith)

-- less, and not less, go on; so does one after the other
pub lt_trans : (x y z : ℤ) → lt_z x y ≡ true → lt_z y z ≡ true → lt_z x z ≡ true
lt_trans x y z h k = parts_lt x z (omega (arith, lt_parts x y h, lt_parts y z k))

pub nlt_trans : (x y z : ℤ) → lt_z x y ≡ false → lt_z y z ≡ false → lt_z x z ≡ false
nlt_trans x y z h k = parts_nlt x z (omega (arith, nlt_parts x y h, nlt_parts y z k))

pub nlt_lt_trans : (x y z : ℤ) → lt_z y x ≡ false → lt_z y z ≡ true → lt_z x z ≡ true
nlt_lt_trans x y z h k = parts_lt x z (omega (arith, nlt_parts y x h, lt_parts y z k))

pub lt_irrefl : (x : ℤ) → lt_z x x ≡ false
lt_irrefl x = parts_nlt x x (omega arith)

-- what is not less either way is the same
pub nlt_antisym : (x y : ℤ) → lt_z x y ≡ false → lt_z y x ≡ false → x ≡ y
nlt_antisym x y h k = parts_eq x y (omega (arith, nlt_parts x y h, nlt_parts y x k))

-- the size of a sum and of a product
sub_abs : (a b : ℕ) (t : Bool) → ltb a b ≡ t → nat_abs (cond t (negsuc (b - suc a)) (pos (a - b))) ≤ a + b
sub_abs a b true e = omega (arith, ltb-true a b e)
sub_abs a b false e = omega arith

pub abs_add : (x y : ℤ) → nat_abs (x +ℤ y) ≤ nat_abs x + nat_abs y
abs_add (pos a) (pos b) = omega arith
abs_add (pos a) (negsuc b) = sub_abs a (suc b) (ltb a (suc b)) refl
abs_add (negsuc a) (pos b) = omega (arith, sub_abs b (suc a) (ltb b (suc a)) refl)
abs_add (negsuc a) (negsuc b) = omega arith

pub abs_neg : (x : ℤ) → nat_abs (neg_ℤ x) ≡ nat_abs x
abs_neg (pos zero) = refl
abs_neg (pos (suc n)) = refl
abs_neg (negsuc n) = refl

pub abs_mul : (x y : ℤ) → nat_abs (x *ℤ y) ≡ nat_abs x * nat_abs y
abs_mul (pos a) (pos b) = refl
abs_mul (pos a) (negsuc b) = abs_neg (pos (a * suc b))
abs_mul (negsuc a) (pos b) = abs_neg (pos (suc a * b))
abs_mul (negsuc a) (negsuc b) = refl

-- a size below 2^63 fits a cell
mag_abs : (z : ℤ) → mag z ≤ nat_abs z
mag_abs (pos n) = omega arith
mag_abs (negsuc n) = omega arith

pub fits-size : (z : ℤ) → nat_abs z < 2 ^ 63 → SFits w64 z
fits-size z h = record { sfits = omega (arith, mag_abs z) }

-- cells with the same bits are the same
pub of_z_inj : (x y : ℤ) → SFits w64 x → SFits w64 y → of_z w64 x ≡ of_z w64 y → x ≡ y
of_z_inj x y hx hy e = sym (to_z-of_z hx) ∙ ap (to_z w64) e ∙ to_z-of_z hy

-- a local cell holds bits: what an operation asks and gives goes there and back
pub add_asked : {x y : ℤ} → SFits w64 x → SFits w64 y → SFits w64 (x +ℤ y) → SFits w64 (to_z w64 (of_z w64 x) +ℤ to_z w64 (of_z w64 y))
add_asked hx hy h = simp (to_z-of_z hx, to_z-of_z hy) h

pub add_back : {x y : ℤ} → SFits w64 x → SFits w64 y → SFits w64 (x +ℤ y)
    → to_z w64 (of_z w64 (to_z w64 (of_z w64 x) +ℤ to_z w64 (of_z w64 y))) ≡ x +ℤ y
add_back hx hy h = simp (to_z-of_z hx, to_z-of_z hy, to_z-of_z h)

pub mul_asked : {x y : ℤ} → SFits w64 x → SFits w64 y → SFits w64 (x *ℤ y) → SFits w64 (to_z w64 (of_z w64 x) *ℤ to_z w64 (of_z w64 y))
mul_asked hx hy h = simp (to_z-of_z hx, to_z-of_z hy) h

pub mul_back : {x y : ℤ} → SFits w64 x → SFits w64 y → SFits w64 (x *ℤ y)
    → to_z w64 (of_z w64 (to_z w64 (of_z w64 x) *ℤ to_z w64 (of_z w64 y))) ≡ x *ℤ y
mul_back hx hy h = simp (to_z-of_z hx, to_z-of_z hy, to_z-of_z h)
