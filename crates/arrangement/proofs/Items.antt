-- Defaults, pairs, grouping columns and aggregates, read back out of their bytes: what is written is read, and bytes that pass
-- their test are those of what is read.
use Rattle.std.proofs.Common.{◌≡◌, refl, sym, ap, subst, ◌∙◌, Bool, true, false, cond, ◌&&◌, ◌||◌, List, [], ◌∷◌, ℕ, ◌+◌, ◌*◌, ◌/◌, ◌%◌, ◌<◌, ◌≤◌, add-zero, arith, eqb, ltb, lit<, eqb→eq, length, get_or, replicate, ℤ, pos, negsuc, eq-eqb, eqb-true, ltb-true}
use borrow.Author.Tests.{eqb-false}
use Rattle.meaning.specs.Cells.{Cell, null, num}
use Rattle.meaning.specs.Plans.{Name, Rows, Count, Sum, Least, Greatest, DistinctSum, DistinctCount, WeightedSum, WeightedCount, Aggregate, rows, count, sum, least, greatest, distinct_sum, distinct_count, weighted_sum, weighted_count, name_of, columns_read, Pair}
use Rattle.meaning.specs.Arrangement.{zigzag, low_first, cell_bytes, pair_bytes, column_bytes, name_number, two_places, aggregate_bytes}
use Rattle.meaning.specs.Rules.{reading, rule}
use Rattle.lists.specs.Tests.{and_left, and_right}
use Rattle.rules.specs.Below.{below}
use Rattle.rules.specs.Lines.{names, name_at, name_at-number, line_of, entry_of}
use Rattle.node_bytes.specs.Holding.{Holds, holds_head, holds_back, holds-both, holds_nil, holds-step, holds_to}
use Rattle.node_bytes.specs.Widths.{aggregate-wide}
use Rattle.node_bytes.specs.Words.{word_at, Bytes, word_written, word_holds, word_zero, zero_word}
use Rattle.node_bytes.specs.Nodes.{byte, cell_good, aggregate_good}

-- ---- whole numbers

-- the whole number of a natural one: zigzag's way back
unfoldable pub whole_of : ℕ → ℤ
whole_of x = cond (eqb (x % 2) 0) (pos (x / 2)) (negsuc (x / 2))

pub whole-zigzag : (z : ℤ) → whole_of (zigzag z) ≡ z
unfolding whole_of zigzag
whole-zigzag (pos n) =
    let e : 2 * n % 2 ≡ 0 = omega arith in
    let q : 2 * n / 2 ≡ n = omega arith in
    simp (eq-eqb (2 * n % 2) 0 e, q)
whole-zigzag (negsuc n) =
    let e : (2 * n + 1) % 2 ≡ 1 = omega arith in
    let q : (2 * n + 1) / 2 ≡ n = omega arith in
    simp (e, q)

pub zigzag-whole : (x : ℕ) → zigzag (whole_of x) ≡ x
unfolding whole_of zigzag
zigzag-whole x = pick (eqb (x % 2) 0) refl
  where
    pick : (b : Bool) → eqb (x % 2) 0 ≡ b → zigzag (cond b (pos (x / 2)) (negsuc (x / 2))) ≡ x
    pick true e = let q : x % 2 ≡ 0 = eqb-true _ _ e in omega arith
    pick false e = let q : x % 2 ≡ 0 → ⊥ = eqb-false _ _ e in omega arith

-- ---- defaults

unfoldable pub cell_at : List ℕ → ℕ → Cell
cell_at s at = cond (eqb (byte s at) 0) (num (whole_of (word_at s (at + 1)))) null

module _ (s : List ℕ) where
  pub cell_back : (at : ℕ) (c : Cell) → Holds s at (cell_bytes c) → cell_at s at ≡ c
  unfolding cell_at cell_bytes
  cell_back at null h = simp (holds_head h)
  cell_back at (num z) h =
      simp (holds_head h, word_written s (at + 1) (zigzag z) (holds_back (0 ∷ []) (low_first 7 (zigzag z)) h), whole-zigzag z)

  pub cell-good : (at : ℕ) (c : Cell) → Holds s at (cell_bytes c) → cell_good s at ≡ true
  unfolding cell_good cell_bytes
  cell-good at null h = simp (holds_head h, zero_word s (at + 1) (holds_back (1 ∷ []) (replicate 8 0) h))
  cell-good at (num z) h = simp (holds_head h)

  pub cell_holds : Bytes s → (at : ℕ) → at + 9 ≤ length s → cell_good s at ≡ true → Holds s at (cell_bytes (cell_at s at))
  unfolding cell_at cell_good cell_bytes
  cell_holds b at l e = pick (eqb (byte s at) 0) refl (eqb (byte s at) 1) refl (eqb (word_at s (at + 1)) 0) refl e
    where
      one : (x : ℕ) → byte s at ≡ x → Holds s at (x ∷ [])
      one x q =
          holds_to (add-zero at)
          (holds-step s at 0 (omega arith) (ap (λ (n : ℕ). get_or s n 0) (add-zero at) ∙ q) (holds_nil s at 1 (omega arith)))

      pick : (m : Bool) → eqb (byte s at) 0 ≡ m → (n : Bool) → eqb (byte s at) 1 ≡ n → (z : Bool) → eqb (word_at s (at + 1)) 0 ≡ z
          → (m || (n && z)) ≡ true → Holds s at (cell_bytes (cond m (num (whole_of (word_at s (at + 1)))) null))
      pick true p n q z r e =
          holds-both (0 ∷ []) (low_first 7 (zigzag (whole_of (word_at s (at + 1)))))
          (one 0 (eqb-true _ _ p))
          (subst (λ (x : ℕ). Holds s (at + 1) (low_first 7 x)) (sym (zigzag-whole (word_at s (at + 1)))) (word_holds s (at + 1) (omega arith) b))
      pick false p true q true r e =
          holds-both (1 ∷ []) (replicate 8 0) (one 1 (eqb-true _ _ q)) (word_zero s (at + 1) (omega arith) (eqb-true _ _ r))
      pick false p true q false r e = let z : ◌≡◌ {A = ℕ} 0 1 = cc in absurd (omega arith)
      pick false p false q z r e = let z : ◌≡◌ {A = ℕ} 0 1 = cc in absurd (omega arith)

-- ---- pairs and grouping columns

unfoldable pub pair_at : List ℕ → ℕ → Pair
pair_at s at = record { left = byte s at; right = byte s (at + 1) }

same-pair : {a b c d : ℕ} → a ≡ c → b ≡ d → ◌≡◌ {A = Pair} (record { left = a; right = b }) (record { left = c; right = d })
same-pair p q = cc

module _ (s : List ℕ) where
  pub pair_back : (at : ℕ) (p : Pair) → Holds s at (pair_bytes p) → pair_at s at ≡ p
  unfolding pair_at pair_bytes
  pair_back at p h = same-pair (holds_head h) (h.same 1 (lit< tt))

  pub pair-holds : (at : ℕ) → at + 2 ≤ length s → true ≡ true → Holds s at (pair_bytes (pair_at s at))
  unfolding pair_at pair_bytes
  pair-holds at l e =
      holds_to (add-zero at)
      (holds-step s at 0 (omega arith) (ap (λ (n : ℕ). get_or s n 0) (add-zero at))
      (holds-step s at 1 (omega arith) refl (holds_nil s at 2 (omega arith))))

  pub column_back : (at i : ℕ) → Holds s at (column_bytes i) → byte s at ≡ i
  unfolding column_bytes
  column_back at i h = holds_head h

  pub column-holds : (at : ℕ) → at + 1 ≤ length s → true ≡ true → Holds s at (column_bytes (byte s at))
  unfolding column_bytes
  column-holds at l e =
      holds_to (add-zero at)
      (holds-step s at 0 (omega arith) (ap (λ (n : ℕ). get_or s n 0) (add-zero at)) (holds_nil s at 1 (omega arith)))

-- ---- aggregates

-- the first and second column that an aggregate reads, 0 where it reads none
abbrev first_read : Aggregate → ℕ
first_read a = get_or (two_places (columns_read a)) 0 0

abbrev second_read : Aggregate → ℕ
second_read a = get_or (two_places (columns_read a)) 1 0

unfoldable pub aggregate_at : List ℕ → ℕ → Aggregate
aggregate_at s at = reading (name_at (byte s at)) (byte s (at + 1)) (byte s (at + 2))

reading_own : (a : Aggregate) → reading (name_of a) (first_read a) (second_read a) ≡ a
unfolding reading name_of columns_read two_places
reading_own rows = refl
reading_own (count v) = refl
reading_own (sum v) = refl
reading_own (least v) = refl
reading_own (greatest v) = refl
reading_own (distinct_sum v) = refl
reading_own (distinct_count v) = refl
reading_own (weighted_sum v c) = refl
reading_own (weighted_count v c) = refl

-- the test of three numbers that `aggregate_good` makes of three bytes
abbrev three_good : ℕ → ℕ → ℕ → Bool
three_good n v c = ltb n 9 && ((ltb 0 (entry_of n 0) || eqb v 0) && (ltb 1 (entry_of n 0) || eqb c 0))

own_good : (a : Aggregate) → three_good (name_number (name_of a)) (first_read a) (second_read a) ≡ true
unfolding name_number name_of columns_read two_places entry_of line_of name_at names rule
own_good rows = refl
own_good (count v) = refl
own_good (sum v) = refl
own_good (least v) = refl
own_good (greatest v) = refl
own_good (distinct_sum v) = refl
own_good (distinct_count v) = refl
own_good (weighted_sum v c) = refl
own_good (weighted_count v c) = refl

-- a name with columns that pass the test reads just those
record Reads (m : Name) (v c : ℕ) : Type 0 where
  name : name_of (reading m v c) ≡ m
  first : first_read (reading m v c) ≡ v
  second : second_read (reading m v c) ≡ c

reads_own : (m : Name) (v c : ℕ) → ((ltb 0 (entry_of (name_number m) 0) || eqb v 0) && (ltb 1 (entry_of (name_number m) 0) || eqb c 0)) ≡ true
    → Reads m v c
unfolding reading name_number name_of columns_read two_places entry_of line_of name_at names rule
reads_own Rows v c e = record {
  name = refl;
  first = sym (eqb-true v 0 (and_left (eqb v 0) (eqb c 0) e));
  second = sym (eqb-true c 0 (and_right (eqb v 0) (eqb c 0) e));
}
reads_own Count v c e = record { name = refl; first = refl; second = sym (eqb-true c 0 e) }
reads_own Sum v c e = record { name = refl; first = refl; second = sym (eqb-true c 0 e) }
reads_own Least v c e = record { name = refl; first = refl; second = sym (eqb-true c 0 e) }
reads_own Greatest v c e = record { name = refl; first = refl; second = sym (eqb-true c 0 e) }
reads_own DistinctSum v c e = record { name = refl; first = refl; second = sym (eqb-true c 0 e) }
reads_own DistinctCount v c e = record { name = refl; first = refl; second = sym (eqb-true c 0 e) }
reads_own WeightedSum v c e = record { name = refl; first = refl; second = refl }
reads_own WeightedCount v c e = record { name = refl; first = refl; second = refl }

pub number-name : (n : ℕ) → n < 9 → name_number (name_at n) ≡ n
unfolding name_number name_at names
number-name n h = eqb→eq _ _ (below (λ (k : ℕ). eqb (name_number (name_at k)) k) 9 tt n h)

reads-good : (n v c : ℕ) → three_good n v c ≡ true → Reads (name_at n) v c
reads-good n v c e =
    let l : n < 9 = ltb-true n 9 (and_left _ _ e) in
    reads_own (name_at n) v c
    (subst (λ (k : ℕ). ((ltb 0 (entry_of k 0) || eqb v 0) && (ltb 1 (entry_of k 0) || eqb c 0)) ≡ true) (sym (number-name n l))
    (and_right (ltb n 9) _ e))

-- three bytes that name, first and second column of an aggregate are
three_places : (a : Aggregate) → aggregate_bytes a ≡ name_number (name_of a) ∷ first_read a ∷ second_read a ∷ []
unfolding aggregate_bytes columns_read two_places
three_places rows = refl
three_places (count v) = refl
three_places (sum v) = refl
three_places (least v) = refl
three_places (greatest v) = refl
three_places (distinct_sum v) = refl
three_places (distinct_count v) = refl
three_places (weighted_sum v c) = refl
three_places (weighted_count v c) = refl

module _ (s : List ℕ) where
  module _ (at : ℕ) (a : Aggregate) (h : Holds s at (aggregate_bytes a)) where
    its_name : byte s at ≡ name_number (name_of a)
    unfolding aggregate_bytes
    its_name = holds_head h

    its_first : byte s (at + 1) ≡ first_read a
    unfolding aggregate_bytes
    its_first = h.same 1 (rw (aggregate-wide a) (lit< tt))

    its_second : byte s (at + 2) ≡ second_read a
    unfolding aggregate_bytes
    its_second = h.same 2 (rw (aggregate-wide a) (lit< tt))

  pub aggregate_back : (at : ℕ) (a : Aggregate) → Holds s at (aggregate_bytes a) → aggregate_at s at ≡ a
  unfolding aggregate_at
  aggregate_back at a h =
      simp (its_name at a h, its_first at a h, its_second at a h, name_at-number (name_of a)) (reading_own a)

  pub aggregate-good : (at : ℕ) (a : Aggregate) → Holds s at (aggregate_bytes a) → aggregate_good s at ≡ true
  unfolding aggregate_good
  aggregate-good at a h = simp (its_name at a h, its_first at a h, its_second at a h) (own_good a)

  pub aggregate-holds : (at : ℕ) → at + 3 ≤ length s → aggregate_good s at ≡ true → Holds s at (aggregate_bytes (aggregate_at s at))
  unfolding aggregate_good aggregate_at
  aggregate-holds at l e =
      let r : Reads (name_at (byte s at)) (byte s (at + 1)) (byte s (at + 2)) = reads-good (byte s at) (byte s (at + 1)) (byte s (at + 2)) e in
      let n : name_number (name_at (byte s at)) ≡ byte s at = number-name (byte s at) (ltb-true (byte s at) 9 (and_left _ _ e)) in
      rw (three_places (aggregate_at s at))
      (holds_to (add-zero at)
      (holds-step s at 0 (omega arith) (ap (λ (n : ℕ). get_or s n 0) (add-zero at) ∙ sym n ∙ ap name_number (sym r.name))
      (holds-step s at 1 (omega arith) (sym r.first)
      (holds-step s at 2 (omega arith) (sym r.second) (holds_nil s at 3 (omega arith))))))
