-- The number that eight bytes make, and that it is the one that the arrangement wrote.
use Rattle.std.specs.Prelude.{◌≡◌, List, [], ◌∷◌, ℕ, ◌+◌, ◌-◌, ◌*◌, ◌/◌, ◌%◌, ◌<◌, ◌≤◌, length, get_or, take, drop, replicate}
use Rattle.std.proofs.Common.{ap, ◌∙◌, add-zero, arith, lit<}
use Rattle.std.specs.Int.{w64, from_le_bytes}
use Rattle.std.proofs.lemmas.List.{get_or-take, get_or-drop}
use Rattle.meaning.specs.Arrangement.{low_first}
use Rattle.node_bytes.specs.Holding.{Holds, holds_head, holds_nil, holds-step, holds_to}

abbrev pub four : ℕ → ℕ → ℕ → ℕ → ℕ
four a b c d = a + 256 * b + 65536 * c + 16777216 * d

-- the number of the eight bytes from a place on
unfoldable pub word_at : List ℕ → ℕ → ℕ
word_at s at =
    four (get_or s at 0) (get_or s (at + 1) 0) (get_or s (at + 2) 0) (get_or s (at + 3) 0)
    + 4294967296 * four (get_or s (at + 4) 0) (get_or s (at + 5) 0) (get_or s (at + 6) 0) (get_or s (at + 7) 0)

-- the library's number of eight bytes that were copied is that
module _ (s bs : List ℕ) (at : ℕ) (copied : bs ≡ take (at + 8 - at) (drop at s)) where
  byte_copied : (i : ℕ) → i < 8 → get_or bs i 0 ≡ get_or s (at + i) 0
  byte_copied i h = let q : i < at + 8 - at = omega arith in rw copied (get_or-take _ _ _ _ q ∙ get_or-drop at s i 0)

  pub word_copied : from_le_bytes w64 bs ≡ word_at s at
  unfolding word_at
  word_copied =
      omega (
        arith,
        byte_copied 0 (lit< tt) ∙ ap (λ (k : ℕ). get_or s k 0) (add-zero at),
        byte_copied 1 (lit< tt),
        byte_copied 2 (lit< tt),
        byte_copied 3 (lit< tt),
        byte_copied 4 (lit< tt),
        byte_copied 5 (lit< tt),
        byte_copied 6 (lit< tt),
        byte_copied 7 (lit< tt),
      )

-- and so is that of eight bytes that were listed
pub word_listed : (s : List ℕ) (at : ℕ)
    → from_le_bytes w64
    (get_or s at 0 ∷ get_or s (at + 1) 0 ∷ get_or s (at + 2) 0 ∷ get_or s (at + 3) 0 ∷ get_or s (at + 4) 0 ∷ get_or s (at + 5) 0 ∷ get_or s (at + 6) 0 ∷ get_or s (at + 7) 0 ∷ [])
    ≡ word_at s at
unfolding word_at
word_listed s at = omega arith

digits : (x b0 b1 b2 b3 b4 b5 b6 b7 : ℕ) → b0 ≡ x % 256 → b1 ≡ x / 256 % 256 → b2 ≡ x / 256 / 256 % 256 → b3 ≡ x / 256 / 256 / 256 % 256
    → b4 ≡ x / 256 / 256 / 256 / 256 % 256 → b5 ≡ x / 256 / 256 / 256 / 256 / 256 % 256 → b6 ≡ x / 256 / 256 / 256 / 256 / 256 / 256 % 256
    → b7 ≡ x / 256 / 256 / 256 / 256 / 256 / 256 / 256
    → four b0 b1 b2 b3 + 4294967296 * four b4 b5 b6 b7 ≡ x
digits x b0 b1 b2 b3 b4 b5 b6 b7 e0 e1 e2 e3 e4 e5 e6 e7 = omega arith

-- what the arrangement wrote is read back
pub word_written : (s : List ℕ) (at x : ℕ) → Holds s at (low_first 7 x) → word_at s at ≡ x
unfolding word_at low_first
word_written s at x h =
    digits x (get_or s at 0) (get_or s (at + 1) 0) (get_or s (at + 2) 0) (get_or s (at + 3) 0)
    (get_or s (at + 4) 0) (get_or s (at + 5) 0) (get_or s (at + 6) 0) (get_or s (at + 7) 0)
    (holds_head h)
    (h.same 1 (lit< tt))
    (h.same 2 (lit< tt))
    (h.same 3 (lit< tt))
    (h.same 4 (lit< tt))
    (h.same 5 (lit< tt))
    (h.same 6 (lit< tt))
    (h.same 7 (lit< tt))

-- every element is a byte
abbrev pub Bytes : List ℕ → Type 0
Bytes s = (i : ℕ) → get_or s i 0 < 256

module _ (s : List ℕ) (at : ℕ) (fits : at + 8 ≤ length s) where
  eight : (b0 b1 b2 b3 b4 b5 b6 b7 : ℕ) → get_or s at 0 ≡ b0 → get_or s (at + 1) 0 ≡ b1 → get_or s (at + 2) 0 ≡ b2
      → get_or s (at + 3) 0 ≡ b3 → get_or s (at + 4) 0 ≡ b4 → get_or s (at + 5) 0 ≡ b5 → get_or s (at + 6) 0 ≡ b6 → get_or s (at + 7) 0 ≡ b7
      → Holds s at (b0 ∷ b1 ∷ b2 ∷ b3 ∷ b4 ∷ b5 ∷ b6 ∷ b7 ∷ [])
  eight b0 b1 b2 b3 b4 b5 b6 b7 e0 e1 e2 e3 e4 e5 e6 e7 =
      holds_to (add-zero at)
      (holds-step s at 0 (omega arith) (ap (λ (n : ℕ). get_or s n 0) (add-zero at) ∙ e0)
      (holds-step s at 1 (omega arith) e1
      (holds-step s at 2 (omega arith) e2
      (holds-step s at 3 (omega arith) e3
      (holds-step s at 4 (omega arith) e4
      (holds-step s at 5 (omega arith) e5
      (holds-step s at 6 (omega arith) e6 (holds-step s at 7 (omega arith) e7 (holds_nil s at 8 (omega arith))))))))))

  -- bytes are those that the arrangement writes for their number
  pub word_holds : Bytes s → Holds s at (low_first 7 (word_at s at))
  unfolding word_at low_first
  word_holds b =
      eight _ _ _ _ _ _ _ _
      (omega (arith, b at, b (at + 1), b (at + 2), b (at + 3), b (at + 4), b (at + 5), b (at + 6)))
      (omega (arith, b at, b (at + 1), b (at + 2), b (at + 3), b (at + 4), b (at + 5), b (at + 6)))
      (omega (arith, b at, b (at + 1), b (at + 2), b (at + 3), b (at + 4), b (at + 5), b (at + 6)))
      (omega (arith, b at, b (at + 1), b (at + 2), b (at + 3), b (at + 4), b (at + 5), b (at + 6)))
      (omega (arith, b at, b (at + 1), b (at + 2), b (at + 3), b (at + 4), b (at + 5), b (at + 6)))
      (omega (arith, b at, b (at + 1), b (at + 2), b (at + 3), b (at + 4), b (at + 5), b (at + 6)))
      (omega (arith, b at, b (at + 1), b (at + 2), b (at + 3), b (at + 4), b (at + 5), b (at + 6)))
      (omega (arith, b at, b (at + 1), b (at + 2), b (at + 3), b (at + 4), b (at + 5), b (at + 6)))

  -- the number 0 is eight bytes 0
  pub word_zero : word_at s at ≡ 0 → Holds s at (replicate 8 0)
  unfolding word_at
  word_zero e =
      eight _ _ _ _ _ _ _ _ (omega arith) (omega arith) (omega arith) (omega arith) (omega arith) (omega arith) (omega arith) (omega arith)

-- eight bytes 0 are the number 0
pub zero_word : (s : List ℕ) (at : ℕ) → Holds s at (replicate 8 0) → word_at s at ≡ 0
unfolding word_at
zero_word s at h =
    omega (
      arith,
      holds_head h,
      h.same 1 (lit< tt),
      h.same 2 (lit< tt),
      h.same 3 (lit< tt),
      h.same 4 (lit< tt),
      h.same 5 (lit< tt),
      h.same 6 (lit< tt),
      h.same 7 (lit< tt),
    )
