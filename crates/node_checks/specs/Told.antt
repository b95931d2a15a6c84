-- What the bytes of one pair, column, aggregate or default say: how wide it is, and that each test of its bytes is the plan tree's.
use Rattle.std.specs.Prelude.{◌≡◌, Bool, ◌&&◌, ◌||◌, List, [], ◌∷◌, ℕ, suc, ◌+◌, ◌*◌, ◌≤◌, eqb, leb, ltb, ℤ, pos, negsuc, nat_abs, length, get_or}
use Rattle.std.proofs.Common.{sym, ap, ◌∙◌, arith, ne_eqb, lit<, lit≤}
use Rattle.std.proofs.Math.Bool.{and-true}
use Rattle.meaning.specs.Limits.{most_size}
use Rattle.meaning.specs.Cells.{Cell, null, num, eq_z}
use Rattle.meaning.specs.Plans.{Aggregate, rows, count, sum, least, greatest, distinct_sum, distinct_count, weighted_sum, weighted_count, name_of, columns_read, Pair}
use Rattle.meaning.specs.Arrangement.{zigzag, low_first, cell_bytes, pair_bytes, two_places, aggregate_bytes, column_bytes}
use Rattle.meaning.specs.Rules.{Kind, plain, weight, rule}
use Rattle.meaning.specs.Check.{all, columns_there, default_right}
use Rattle.rules.specs.Lines.{is_always, entry_of, entry_columns, entry_kind, columns-listed}
use Rattle.node_bytes.specs.Holding.{Holds, holds_head, holds_back}
use Rattle.node_bytes.specs.Widths.{places-wide}
use Rattle.node_bytes.specs.Words.{word_at, word_written}
use Rattle.node_bytes.specs.Nodes.{byte}
use Rattle.node_checks.specs.Tests.{leb-same, eqb_same}
use Rattle.node_checks.specs.Columns.{pair_at, read_at}
use Rattle.node_checks.specs.Weights.{kind_number, default_at}

-- what the bytes of each thing say
pub pair_held : (s : List ℕ) (l r at : ℕ) (p : Pair) → Holds s at (pair_bytes p) → pair_at s l r at ≡ (ltb p.left l && ltb p.right r)
unfolding pair_at pair_bytes
pair_held s l r at p h = simp (holds_head h, h.same 1 (lit< tt))

pub column-held : (s : List ℕ) (at i : ℕ) → Holds s at (column_bytes i) → byte s at ≡ i
unfolding column_bytes
column-held s at i h = holds_head h

-- what the three bytes of an aggregate say: how many columns it reads, whether its kind is always weight, and the columns
pub record Told (s : List ℕ) (at : ℕ) (a : Aggregate) : Type 0 where
  pub columns : entry_of (byte s at) 0 ≡ length (columns_read a)
  pub always : entry_of (byte s at) 2 ≡ is_always (rule (name_of a)).kind
  pub v : byte s (at + 1) ≡ get_or (two_places (columns_read a)) 0 0
  pub c : byte s (at + 2) ≡ get_or (two_places (columns_read a)) 1 0

pub told : (s : List ℕ) (at : ℕ) (a : Aggregate) → Holds s at (aggregate_bytes a) → Told s at a
unfolding aggregate_bytes
told s at a h =
    let w : length (two_places (columns_read a)) ≡ 2 = places-wide (columns_read a) in
    record {
      columns = ap (λ (n : ℕ). entry_of n 0) (holds_head h) ∙ entry_columns (name_of a) ∙ sym (columns-listed a);
      always = ap (λ (n : ℕ). entry_of n 2) (holds_head h) ∙ entry_kind (name_of a);
      v = h.same 1 (omega arith);
      c = h.same 2 (omega arith);
    }

-- no aggregate reads more than two columns
few-read : (a : Aggregate) → length (columns_read a) ≤ 2
unfolding columns_read
few-read rows = lit≤ tt
few-read (count v) = lit≤ tt
few-read (sum v) = lit≤ tt
few-read (least v) = lit≤ tt
few-read (greatest v) = lit≤ tt
few-read (distinct_sum v) = lit≤ tt
few-read (distinct_count v) = lit≤ tt
few-read (weighted_sum v c) = lit≤ tt
few-read (weighted_count v c) = lit≤ tt

pub read_held : (s : List ℕ) (w at : ℕ) (a : Aggregate) → Holds s at (aggregate_bytes a) → read_at s w at ≡ columns_there w (columns_read a)
unfolding read_at columns_there all two_places
read_held s w at a h = let t = told s at a h in by-columns (columns_read a) t.columns t.v t.c (few-read a)
  where
    by-columns : (cs : List ℕ) → entry_of (byte s at) 0 ≡ length cs → byte s (at + 1) ≡ get_or (two_places cs) 0 0 → byte s (at + 2) ≡ get_or (two_places cs) 1 0
        → length cs ≤ 2
        → read_at s w at ≡ columns_there w cs
    by-columns [] n v c f = simp n
    by-columns (x ∷ []) n v c f = simp (n, v)
    by-columns (x ∷ y ∷ []) n v c f = simp (n, v, c) (ap (λ (b : Bool). ltb x w && b) (sym (and-true (ltb y w))))
    by-columns (x ∷ y ∷ z ∷ more) n v c f = absurd (omega arith)

-- a default's number is in the range of its kind
plain_range : (z : ℤ) → leb (zigzag z) 4294967294 ≡ leb (nat_abs z) most_size
unfolding zigzag most_size
plain_range (pos n) = leb-same (2 * n) 4294967294 n 2147483647 (λ h. omega arith) (λ h. omega arith)
plain_range (negsuc n) = leb-same (2 * n + 1) 4294967294 (suc n) 2147483647 (λ h. omega arith) (λ h. omega arith)

weight_range : (z : ℤ) → (eqb (zigzag z) 0 || eqb (zigzag z) 2) ≡ (eq_z z (pos 0) || eq_z z (pos 1))
unfolding zigzag eq_z
weight_range (pos n) =
    simp (eqb_same (2 * n) 0 n 0 (λ e. omega arith) (λ e. omega arith), eqb_same (2 * n) 2 n 1 (λ e. omega arith) (λ e. omega arith))
weight_range (negsuc n) = simp (ne_eqb (2 * n + 1) 0 (λ e. omega arith), ne_eqb (2 * n + 1) 2 (λ e. omega arith))

pub default_held : (s : List ℕ) (at : ℕ) (k : Kind) (d : Cell) → Holds s at (cell_bytes d) → default_at s at (kind_number k) ≡ default_right k d
unfolding default_at default_right kind_number cell_bytes
default_held s at k null h = simp (holds_head h)
default_held s at plain (num z) h =
    let e : word_at s (at + 1) ≡ zigzag z = word_written s (at + 1) (zigzag z) (holds_back (0 ∷ []) (low_first 7 (zigzag z)) h) in
    simp (holds_head h, e) (plain_range z)
default_held s at weight (num z) h =
    let e : word_at s (at + 1) ≡ zigzag z = word_written s (at + 1) (zigzag z) (holds_back (0 ∷ []) (low_first 7 (zigzag z)) h) in
    simp (holds_head h, e) (weight_range z)
