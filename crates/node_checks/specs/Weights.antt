-- Refusal 4 at one node, read off its bytes: the range of its defaults and the place of its weights; and the node's kinds.
-- A list of kinds has 0 for plain and 1 for weight.
use Rattle.std.specs.Prelude.{Bool, true, cond, ◌&&◌, ◌||◌, List, ℕ, zero, suc, ◌+◌, eqb, leb, ltb, get_or}
use Rattle.meaning.specs.Check.{apart}
use Rattle.meaning.specs.Rules.{Kind, plain, weight}
use Rattle.rules.specs.Lines.{entry_of}
use Rattle.node_bytes.specs.Words.{word_at}
use Rattle.node_bytes.specs.Nodes.{byte}
use Rattle.node_bytes.specs.Rows.{every, list_at}

-- a kind as its number
unfoldable pub kind_number : Kind → ℕ
kind_number plain = 0
kind_number weight = 1

-- a default is null, or in the range of its kind: 0 or 1 for a weight
unfoldable pub default_at : List ℕ → ℕ → ℕ → Bool
default_at s at kind =
    eqb (byte s at) 1
    || cond (eqb kind 0) (leb (word_at s (at + 1)) 4294967294) (eqb (word_at s (at + 1)) 0 || eqb (word_at s (at + 1)) 2)

-- n defaults from a place on are right for the kinds from the i-th on
unfoldable pub defaults_at : List ℕ → ℕ → ℕ → List ℕ → ℕ → Bool
defaults_at s at zero ks i = true
defaults_at s at (suc n) ks i = default_at s at (get_or ks i 0) && defaults_at s (at + 9) n ks (i + 1)

-- an aggregate is not weighted, or stands above a join (l is its left width, else 0), and c is a weight of the other input than v's
unfoldable pub weight_at : List ℕ → ℕ → List ℕ → ℕ → Bool
weight_at s l ks at =
    ltb (entry_of (byte s at) 0) 2
    || (ltb 0 l && (eqb (get_or ks (byte s (at + 2)) 0) 1 && apart l (byte s (at + 1)) (byte s (at + 2))))

unfoldable pub weights_at : List ℕ → ℕ → ℕ → ℕ → List ℕ → Bool
weights_at s at n l ks = every (weight_at s l ks) 3 at n

-- the kind of a grouping column
unfoldable pub column_kind_at : List ℕ → List ℕ → ℕ → ℕ
column_kind_at s ks at = get_or ks (byte s at) 0

unfoldable pub column_kinds_at : List ℕ → ℕ → ℕ → List ℕ → List ℕ
column_kinds_at s at n ks = list_at (column_kind_at s ks) 1 at n

-- the kind of an aggregate: always weight, or its v's
unfoldable pub aggregate_kind_at : List ℕ → List ℕ → ℕ → ℕ
aggregate_kind_at s ks at = cond (eqb (entry_of (byte s at) 2) 1) 1 (get_or ks (byte s (at + 1)) 0)

unfoldable pub aggregate_kinds_at : List ℕ → ℕ → ℕ → List ℕ → List ℕ
aggregate_kinds_at s at n ks = list_at (aggregate_kind_at s ks) 3 at n
