-- A test of things in a row as a loop goes through it, thing by thing.
use Rattle.std.specs.Prelude.{◌≡◌, Bool, true, false}
use Rattle.std.proofs.Common.{sym, ap, ◌∙◌, refl, ℕ, zero, suc, ◌+◌, ◌*◌, ◌-◌, ◌<◌, ◌≤◌, arith}
use Rattle.node_bytes.specs.Rows.{every}

-- the laws of a loop that tests: nothing left, a thing that fails, a thing that passes
pub every-none : (f : ℕ → Bool) (k at n : ℕ) → n ≤ 0 → every f k at n ≡ true
unfolding every
every-none f k at zero h = refl
every-none f k at (suc n) h = absurd (omega arith)

pub every_fails : (f : ℕ → Bool) (k at n : ℕ) → 0 < n → f at ≡ false → every f k at n ≡ false
unfolding every
every_fails f k at zero h e = absurd (omega arith)
every_fails f k at (suc n) h e = simp e

pub every-passes : (f : ℕ → Bool) (k at n : ℕ) → 0 < n → f at ≡ true → every f k at n ≡ every f k (at + k) (n - 1)
unfolding every
every-passes f k at zero h e = absurd (omega arith)
every-passes f k at (suc n) h e = let q : suc n - 1 ≡ n = omega arith in simp (e, q)

-- a loop that tests n things from a place on has come to `at`, with `left` of them left
pub record Walk (f : ℕ → Bool) (k from n at left : ℕ) : Type 0 where
  pub rest : every f k at left ≡ every f k from n
  pub ends : at + k * left ≡ from + k * n

pub walk_starts : (f : ℕ → Bool) (k from n : ℕ) → Walk f k from n from n
walk_starts f k from n = record { rest = refl; ends = refl }

module _ {f : ℕ → Bool} {k from n at left : ℕ} (w : Walk f k from n at left) where
  pub walk_passes : 0 < left → f at ≡ true → Walk f k from n (at + k) (left - 1)
  walk_passes h e = record {
    rest = sym (every-passes f k at left h e) ∙ w.rest;
    ends = let q : left ≡ suc (left - 1) = omega arith in let m : k * left ≡ k * suc (left - 1) = ap (λ (x : ℕ). k * x) q in omega (arith, w.ends);
  }

  pub walk_fails : 0 < left → f at ≡ false → false ≡ every f k from n
  walk_fails h e = sym (every_fails f k at left h e) ∙ w.rest

  pub walk_ends : left ≤ 0 → true ≡ every f k from n
  walk_ends h = sym (every-none f k at left h) ∙ w.rest
