-- Tests of numbers that agree, by what they test.
use Rattle.std.specs.Prelude.{◌≡◌, not, ℕ, ◌<◌, ◌≤◌, eqb, leb, ltb}
use Rattle.std.proofs.Math.Decide.{ℕ_discrete, dec_le}
use Rattle.std.proofs.Common.{arith, lt-ltb, le-ltb, le-leb, eq-eqb, ne_eqb}
use Rattle.std.proofs.lemmas.Bool.{lt-leb}

-- at most is not less, the other way round
pub leb-not-ltb : (a b : ℕ) → leb a b ≡ not (ltb b a)
leb-not-ltb a b = by_case (dec_le a b)
  where
    by_case : Dec (a ≤ b) → leb a b ≡ not (ltb b a)
    by_case (yes h) = simp (le-leb a b h, le-ltb b a h)
    by_case (no n) = let h : b < a = omega arith in simp (lt-leb a b h, lt-ltb b a h)

pub leb-same : (a b c d : ℕ) → (a ≤ b → c ≤ d) → (c ≤ d → a ≤ b) → leb a b ≡ leb c d
leb-same a b c d to back = by_case (dec_le a b)
  where
    by_case : Dec (a ≤ b) → leb a b ≡ leb c d
    by_case (yes h) = simp (le-leb a b h, le-leb c d (to h))
    by_case (no n) = simp (lt-leb a b (above a b n), lt-leb c d (above c d (λ h. n (back h))))
      where
        above : (x y : ℕ) → (x ≤ y → ⊥) → y < x
        above x y n = omega arith

pub eqb_same : (a b c d : ℕ) → (a ≡ b → c ≡ d) → (c ≡ d → a ≡ b) → eqb a b ≡ eqb c d
eqb_same a b c d to back = by_case (ℕ_discrete a b)
  where
    by_case : Dec (a ≡ b) → eqb a b ≡ eqb c d
    by_case (yes e) = simp (eq-eqb a b e, eq-eqb c d (to e))
    by_case (no n) = simp (ne_eqb a b n, ne_eqb c d (λ e. n (back e)))
