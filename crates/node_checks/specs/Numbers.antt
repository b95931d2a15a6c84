-- The tests of a node, read off its bytes, and the kinds of its columns.
use Rattle.std.specs.Prelude.{◌≡◌, Bool, not, ◌&&◌, ◌||◌, List, ◌++◌, ℕ, ◌+◌, ◌*◌, ◌<◌, ◌≤◌, min, eqb, ltb, take}
use Rattle.std.proofs.Common.{arith, ne_eqb, le-ltb}
use Rattle.std.proofs.Math.Decide.{dec_lt}
use Rattle.meaning.specs.Limits.{most_columns, most_pairs, up_to}
use Rattle.node_bytes.specs.Nodes.{byte}
use Rattle.node_bytes.specs.Tags.{tag_of, byte_in, byte_said}
use Rattle.node_checks.specs.Columns.{pairs_at, columns_at, distinct_at, reads_at}
use Rattle.node_checks.specs.Weights.{defaults_at, weights_at, column_kinds_at, aggregate_kinds_at}

-- 2 at a join whose inputs are l and r wide
unfoldable pub join_within_at : List ℕ → ℕ → ℕ → ℕ → Bool
join_within_at s at l r = up_to most_columns (l + r) && up_to most_pairs (byte s (at + 1))

-- a padded side has as many defaults as columns
unfoldable pub counts_right : ℕ → ℕ → ℕ → ℕ → ℕ → Bool
counts_right kind lefts l rights r = (not (eqb kind 3) || eqb lefts l) && (ltb kind 2 || eqb rights r)

-- the counts that a byte asks are those of the kind that it says
pub counts_said : (b lefts l rights r : ℕ) → counts_right (byte_in (tag_of b)) lefts l rights r ≡ counts_right b lefts l rights r
unfolding counts_right
counts_said b lefts l rights r = rw (byte_said b) (by_number (dec_lt b 5))
  where
    by_number : Dec (b < 5) → counts_right (min b 5) lefts l rights r ≡ counts_right b lefts l rights r
    by_number (yes h) = let m : min b 5 ≡ b = omega arith in rw m
    by_number (no h) = let m : min b 5 ≡ 5 = omega arith in simp (m, ne_eqb b 3 (λ e. omega arith), le-ltb b 2 (omega arith))

-- 3 at a join: its pairs, and its counts of defaults
unfoldable pub join_columns_at : List ℕ → ℕ → ℕ → ℕ → Bool
join_columns_at s at l r =
    pairs_at s (at + 4) (byte s (at + 1)) l r && counts_right (byte s at) (byte s (at + 2)) l (byte s (at + 3)) r

-- 4 at a join: its defaults
unfoldable pub join_weights_at : List ℕ → ℕ → List ℕ → List ℕ → Bool
join_weights_at s at left right =
    defaults_at s (at + 4 + 2 * byte s (at + 1)) (byte s (at + 2)) left 0
    && defaults_at s (at + 4 + 2 * byte s (at + 1) + 9 * byte s (at + 2)) (byte s (at + 3)) right 0

-- 2, 3 and 4 at a grouping over w columns of these kinds; l is the left width of the join below, else 0
unfoldable pub group_within_at : List ℕ → ℕ → Bool
group_within_at s at = up_to most_columns (byte s (at + 1) + byte s (at + 2))

unfoldable pub group_columns_at : List ℕ → ℕ → ℕ → Bool
group_columns_at s at w =
    columns_at s (at + 3) (byte s (at + 1)) w
    && (distinct_at s (at + 3) (byte s (at + 1)) && reads_at s (at + 3 + byte s (at + 1)) (byte s (at + 2)) w)

unfoldable pub group_weights_at : List ℕ → ℕ → ℕ → List ℕ → Bool
group_weights_at s at l kinds = weights_at s (at + 3 + byte s (at + 1)) (byte s (at + 2)) l kinds

-- the kinds of a join's columns, and of a grouping's, where they are at most 16
abbrev pub JoinKinds : List ℕ → ℕ → List ℕ → ℕ → List ℕ → Type 0
JoinKinds left l right r out = l + r ≤ 16 → take (l + r) out ≡ take l left ++ take r right

abbrev pub GroupKinds : List ℕ → ℕ → List ℕ → List ℕ → Type 0
GroupKinds s at below out =
    byte s (at + 1) + byte s (at + 2) ≤ 16
    → take (byte s (at + 1) + byte s (at + 2)) out
    ≡ column_kinds_at s (at + 3) (byte s (at + 1)) below ++ aggregate_kinds_at s (at + 3 + byte s (at + 1)) (byte s (at + 2)) below
