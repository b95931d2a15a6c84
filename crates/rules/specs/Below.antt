-- A rule of a table of any shape: one test at each index below n, computed, gives the rule at each index.
use Rattle.std.proofs.Common.{sym, subst, ⊎_elim, eq-or-lt_of_le, le_of_suc-le-suc, arith}
use Rattle.std.specs.Prelude.{Bool, true, false, cond, ℕ, zero, suc, ◌<◌, T}

abbrev pub all_below : ℕ → (ℕ → Bool) → Bool
all_below zero p = true
all_below (suc n) p = cond (p n) (all_below n p) false

first : (a b : Bool) → T (cond a b false) → T a
first true b t = tt
first false b t = t

rest : (a b : Bool) → T (cond a b false) → T b
rest true b t = t
rest false b t = absurd t

pub below : (p : ℕ → Bool) (n : ℕ) → T (all_below n p) → (k : ℕ) → k < n → T (p k)
below p zero t k h = absurd (omega arith)
below p (suc n) t k h =
    ⊎_elim (λ e. subst (λ (m : ℕ). T (p m)) (sym e) (first (p n) (all_below n p) t))
    (λ l. below p n (rest (p n) (all_below n p) t) k l)
    (eq-or-lt_of_le (le_of_suc-le-suc h))
