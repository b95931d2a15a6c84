-- A run of memory holds a list from a place on: what a reader of the run may use of the list. `d` is what is read past the end.
use Rattle.std.specs.Prelude.{◌≡◌, List, [], ◌∷◌, ◌++◌, ℕ, zero, suc, ◌+◌, ◌-◌, ◌<◌, ◌≤◌, length, get_or}
use Rattle.std.proofs.Common.{sym, ap, subst, ◌∙◌, add-zero, add_assoc, arith, length-append, get_or-append-add, ext_get_or}
use Rattle.std.proofs.Math.Decide.{dec_lt}
use Rattle.std.proofs.Math.ListN.{get_or-append}

pub record Span {A : Type 0} (d : A) (s : List A) (at : ℕ) (xs : List A) : Type 0 where
  pub fits : at + length xs ≤ length s
  pub same : (i : ℕ) → i < length xs → get_or s (at + i) d ≡ get_or xs i d

-- a byte string holds a list of numbers
abbrev pub Holds : List ℕ → ℕ → List ℕ → Type 0
Holds = Span 0

module _ {A : Type 0} {d : A} {s : List A} {at : ℕ} where
  -- the first element
  pub holds_head : {x : A} {xs : List A} → Span d s at (x ∷ xs) → get_or s at d ≡ x
  holds_head {x} {xs} h = ap (λ (k : ℕ). get_or s k d) (sym (add-zero at)) ∙ h.same 0 (omega arith)

  -- the front part
  pub holds-front : (xs ys : List A) → Span d s at (xs ++ ys) → Span d s at xs
  holds-front xs ys h =
      let e : length (xs ++ ys) ≡ length xs + length ys = length-append xs ys in
      record { fits = omega (arith, h.fits); same = λ i l. h.same i (omega arith) ∙ get_or-append xs ys d i l }

  -- the part behind the front, at its own place
  pub holds_back : (xs ys : List A) → Span d s at (xs ++ ys) → Span d s (at + length xs) ys
  holds_back xs ys h =
      let e : length (xs ++ ys) ≡ length xs + length ys = length-append xs ys in
      record {
        fits = omega (arith, h.fits);
        same = λ i l.
            ap (λ (k : ℕ). get_or s k d) (add_assoc at (length xs) i)
            ∙ h.same (length xs + i) (omega arith)
            ∙ get_or-append-add xs ys i d;
      }

  -- two parts, one behind the other
  pub holds-both : (xs ys : List A) → Span d s at xs → Span d s (at + length xs) ys → Span d s at (xs ++ ys)
  holds-both xs ys f b =
      let e : length (xs ++ ys) ≡ length xs + length ys = length-append xs ys in
      record { fits = omega (arith, b.fits); same = λ i l. at_place i (dec_lt i (length xs)) (omega arith) }
    where
      at_place : (i : ℕ) → Dec (i < length xs) → i < length xs + length ys → get_or s (at + i) d ≡ get_or (xs ++ ys) i d
      at_place i (yes l) h = f.same i l ∙ sym (get_or-append xs ys d i l)
      at_place i (no n) h =
          let q : i ≡ length xs + (i - length xs) = omega arith in
          ap (λ (k : ℕ). get_or s (at + k) d) q
          ∙ ap (λ (k : ℕ). get_or s k d) (sym (add_assoc at (length xs) (i - length xs)))
          ∙ b.same (i - length xs) (omega arith)
          ∙ sym (get_or-append-add xs ys (i - length xs) d)
          ∙ ap (λ (k : ℕ). get_or (xs ++ ys) k d) (sym q)

  -- a place that is named otherwise
  pub holds_to : {at' : ℕ} {xs : List A} → at ≡ at' → Span d s at xs → Span d s at' xs
  holds_to {at'} {xs} e h = subst (λ (a : ℕ). Span d s a xs) e h

module _ {A : Type 0} {d : A} (s : List A) (at : ℕ) where
  -- element by element, at literal distances k from a place
  pub holds_nil : (k : ℕ) → at + k ≤ length s → Span d s (at + k) []
  holds_nil k h = record { fits = omega arith; same = λ i l. absurd (omega arith) }

  pub holds-step : (k : ℕ) {x : A} {xs : List A} → at + k < length s → get_or s (at + k) d ≡ x → Span d s (at + (k + 1)) xs
      → Span d s (at + k) (x ∷ xs)
  holds-step k {x} {xs} l e h = record { fits = omega (arith, h.fits); same = each }
    where
      each : (i : ℕ) → i < length (x ∷ xs) → get_or s (at + k + i) d ≡ get_or (x ∷ xs) i d
      each zero b = ap (λ (n : ℕ). get_or s n d) (add-zero (at + k)) ∙ e
      each (suc i) b =
          let q : at + k + suc i ≡ at + (k + 1) + i = omega arith in
          ap (λ (n : ℕ). get_or s n d) q ∙ h.same i (omega arith)

-- the whole string holds itself
pub holds-self : {A : Type 0} {d : A} (s : List A) → Span d s 0 s
holds-self {d = d} s = record { fits = omega arith; same = λ i l. ap (λ (k : ℕ). get_or s k d) (let e : 0 + i ≡ i = omega arith in e) }

-- a string of the same length as what it holds is that
pub holds-all : {A : Type 0} {d : A} {s xs : List A} → Span d s 0 xs → length xs ≡ length s → xs ≡ s
holds-all {d = d} {s} {xs} h e = ext_get_or d xs s e (λ i l. sym (h.same i l) ∙ ap (λ (k : ℕ). get_or s k d) (let q : 0 + i ≡ i = omega arith in q))
