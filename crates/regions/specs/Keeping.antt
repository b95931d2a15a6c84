-- What a write leaves of a run of memory: its length, and all that lies outside the part that is written.
use Rattle.std.specs.Prelude.{◌≡◌, refl, List, ℕ, ◌+◌, ◌<◌, ◌≤◌, length, get_or, set}
use Rattle.std.proofs.Common.{◌∙◌, arith, length-set, get_or-set_other}
use Rattle.node_bytes.specs.Holding.{Span}

-- s became s', and nothing changed outside the part from `from` to `to`
pub record Kept {A : Type 0} (d : A) (s s' : List A) (from to : ℕ) : Type 0 where
  pub long : length s' ≡ length s
  pub below : (i : ℕ) → i < from → get_or s' i d ≡ get_or s i d
  pub above : (i : ℕ) → to ≤ i → get_or s' i d ≡ get_or s i d

module _ {A : Type 0} {d : A} where
  pub kept-all : {s : List A} {from to : ℕ} → Kept d s s from to
  kept-all = record { long = refl; below = λ i l. refl; above = λ i l. refl }

  pub kept_then : {s s' s'' : List A} {from to : ℕ} → Kept d s s' from to → Kept d s' s'' from to → Kept d s s'' from to
  kept_then a b = record {
    long = b.long ∙ a.long;
    below = λ i l. b.below i l ∙ a.below i l;
    above = λ i l. b.above i l ∙ a.above i l;
  }

  -- a wider part
  pub kept_wider : {s s' : List A} {from to from' to' : ℕ} → Kept d s s' from to → from' ≤ from → to ≤ to' → Kept d s s' from' to'
  kept_wider k f t = record { long = k.long; below = λ i l. k.below i (omega arith); above = λ i l. k.above i (omega arith) }

  -- one place
  pub kept_set : (s : List A) (i : ℕ) (v : A) (from to : ℕ) → from ≤ i → i < to → Kept d s (set s i v) from to
  kept_set s i v from to f t = record {
    long = length-set s i v;
    below = λ j l. get_or-set_other s i j v d (λ e. omega arith);
    above = λ j l. get_or-set_other s i j v d (λ e. omega arith);
  }

  -- what lies below or above the part is still held
  pub span_below : {s s' : List A} {from to at : ℕ} {xs : List A} → Kept d s s' from to → at + length xs ≤ from → Span d s at xs → Span d s' at xs
  span_below k l h = record { fits = omega (arith, h.fits, k.long); same = λ i b. k.below _ (omega arith) ∙ h.same i b }

  pub span_above : {s s' : List A} {from to at : ℕ} {xs : List A} → Kept d s s' from to → to ≤ at → Span d s at xs → Span d s' at xs
  span_above k l h = record { fits = omega (arith, h.fits, k.long); same = λ i b. k.above _ (omega arith) ∙ h.same i b }
