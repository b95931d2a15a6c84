-- An area that is cleared from the front on.
use Rattle.std.specs.Prelude.{◌≡◌, refl, List, ℕ, ◌+◌, ◌<◌, ◌≤◌, length, get_or, set, replicate}
use Rattle.std.proofs.Common.{sym, ap, ◌∙◌, arith, length-set, get_or-set_same, get_or-set_other, ext_get_or}
use Rattle.std.proofs.Math.Decide.{dec_lt}
use Rattle.std.proofs.lemmas.List.{length-replicate, get_or-replicate}

-- s became s', whose first i elements are d; those behind them are as they were
pub record Cleared {A : Type 0} (d : A) (s s' : List A) (i : ℕ) : Type 0 where
  pub long : length s' ≡ length s
  pub front : (j : ℕ) → j < i → get_or s' j d ≡ d
  pub behind : (j : ℕ) → i ≤ j → get_or s' j d ≡ get_or s j d

module _ {A : Type 0} {d : A} where
  -- the laws of a loop that clears: nothing yet, one element more, and all of them
  pub cleared-none : (s : List A) → Cleared d s s 0
  cleared-none s = record { long = refl; front = λ j l. absurd (omega arith); behind = λ j l. refl }

  pub cleared_more : (s s' : List A) (i : ℕ) → Cleared d s s' i → i < length s' → Cleared d s (set s' i d) (i + 1)
  cleared_more s s' i c h = record {
    long = length-set s' i d ∙ c.long;
    front = λ j l. each j l (dec_lt j i);
    behind = λ j l. get_or-set_other s' i j d d (λ e. omega arith) ∙ c.behind j (omega arith);
  }
    where
      each : (j : ℕ) → j < i + 1 → Dec (j < i) → get_or (set s' i d) j d ≡ d
      each j l (yes b) = get_or-set_other s' i j d d (λ e. omega arith) ∙ c.front j b
      each j l (no b) = let q : j ≡ i = omega arith in ap (λ (k : ℕ). get_or (set s' i d) k d) q ∙ get_or-set_same s' i d d h

  pub cleared-all : (s s' : List A) (i : ℕ) → Cleared d s s' i → length s' ≤ i → s' ≡ replicate (length s) d
  cleared-all s s' i c h =
      ext_get_or d s' (replicate (length s) d) (c.long ∙ sym (length-replicate (length s) d))
      (λ j l. c.front j (omega arith) ∙ sym (get_or-replicate (length s) j d d (omega (arith, c.long))))
