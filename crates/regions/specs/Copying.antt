-- A part of a run of memory copied to another place of the same run or of another one.
use Rattle.std.specs.Prelude.{◌≡◌, ◌⊎◌, List, ℕ, ◌+◌, ◌<◌, ◌≤◌, length, get_or, set, ℤ, pos}
use Rattle.std.proofs.Common.{sym, ap, ◌∙◌, ⊎_elim, arith, length-set, get_or-set_same, get_or-set_other}
use Rattle.std.proofs.Math.Decide.{dec_lt}
use Rattle.node_bytes.specs.Holding.{Span}
use Rattle.regions.specs.Keeping.{Kept, kept-all}

-- n elements of `source` from a place on now stand in s', which was s, from another place on; nothing else of s changed
pub record Copied {A : Type 0} (d : A) (source s s' : List A) (from to n : ℕ) : Type 0 where
  pub kept : Kept d s s' to (to + n)
  pub moved : (i : ℕ) → i < n → get_or s' (to + i) d ≡ get_or source (from + i) d

-- two parts of n elements lie apart
abbrev pub Apart : ℕ → ℕ → ℕ → Type 0
Apart from to n = (from + n ≤ to) ⊎ (to + n ≤ from)

-- cells and marks have room for a copy within one area
pub record Room (cells : List ℤ) (marks : List ℕ) (from to n : ℕ) : Type 0 where
  pub cells_from : from + n ≤ length cells
  pub marks_from : from + n ≤ length marks
  pub cells_to : to + n ≤ length cells
  pub marks_to : to + n ≤ length marks
  pub apart : Apart from to n

pub record CopiedWithin (cells : List ℤ) (marks : List ℕ) (cells' : List ℤ) (marks' : List ℕ) (from to n : ℕ) : Type 0 where
  pub cells-copied : Copied (pos 0) cells cells cells' from to n
  pub marks-copied : Copied 0 marks marks marks' from to n

-- cells and marks have room for a copy from one area into another
pub record RoomIn (source : List ℤ) (source_marks : List ℕ) (cells : List ℤ) (marks : List ℕ) (from to n : ℕ) : Type 0 where
  pub cells_from : from + n ≤ length source
  pub marks_from : from + n ≤ length source_marks
  pub cells_to : to + n ≤ length cells
  pub marks_to : to + n ≤ length marks

pub record CopiedIn (source : List ℤ) (source_marks : List ℕ) (cells : List ℤ) (marks : List ℕ) (cells' : List ℤ) (marks' : List ℕ) (from to n : ℕ) : Type 0 where
  pub cells-copied : Copied (pos 0) source cells cells' from to n
  pub marks-copied : Copied 0 source_marks marks marks' from to n

module _ {A : Type 0} {d : A} where
  -- the laws of a loop that copies: nothing yet, and one element more
  pub copied_none : (source s : List A) (from to : ℕ) → Copied d source s s from to 0
  copied_none source s from to = record { kept = kept-all; moved = λ i l. absurd (omega arith) }

  pub copied_more : (source s s' : List A) (from to n : ℕ) (v : A) → Copied d source s s' from to n → to + n < length s → v ≡ get_or source (from + n) d
      → Copied d source s (set s' (to + n) v) from to (n + 1)
  copied_more source s s' from to n v c l e = record {
    kept = record {
      long = length-set s' (to + n) v ∙ c.kept.long;
      below = λ i b. get_or-set_other s' (to + n) i v d (λ q. omega arith) ∙ c.kept.below i b;
      above = λ i b. get_or-set_other s' (to + n) i v d (λ q. omega arith) ∙ c.kept.above i (omega arith);
    };
    moved = λ i b. each i b (dec_lt i n);
  }
    where
      each : (i : ℕ) → i < n + 1 → Dec (i < n) → get_or (set s' (to + n) v) (to + i) d ≡ get_or source (from + i) d
      each i b (yes h) = get_or-set_other s' (to + n) (to + i) v d (λ q. omega arith) ∙ c.moved i h
      each i b (no h) =
          let q : i ≡ n = omega arith in
          ap (λ (k : ℕ). get_or (set s' (to + n) v) (to + k) d) q
          ∙ get_or-set_same s' (to + n) v d (omega (arith, c.kept.long))
          ∙ e
          ∙ ap (λ (k : ℕ). get_or source (from + k) d) (sym q)

  -- a copy within one list reads what stood there at first
  pub source-kept : {s s' : List A} {from to i n : ℕ} → Copied d s s s' from to i → Apart from to n → i < n → get_or s' (from + i) d ≡ get_or s (from + i) d
  source-kept c a l = ⊎_elim (λ b. c.kept.below _ (omega arith)) (λ b. c.kept.above _ (omega arith)) a

  -- what lay at the source lies at the copy
  pub copied_span : {source s s' : List A} {from to : ℕ} (xs : List A) → Copied d source s s' from to (length xs) → to + length xs ≤ length s
      → Span d source from xs → Span d s' to xs
  copied_span xs c l h = record { fits = omega (arith, c.kept.long); same = λ i b. c.moved i b ∙ h.same i b }
