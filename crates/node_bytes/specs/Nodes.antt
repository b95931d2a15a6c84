-- One node of a byte string, from a place on: whether its bytes are a node's, and how many they are.
use Rattle.std.specs.Prelude.{Bool, true, cond, ◌&&◌, ◌||◌, List, ℕ, ◌+◌, ◌*◌, eqb, leb, ltb, length, get_or}
use Rattle.rules.specs.Lines.{entry_of}
use Rattle.node_bytes.specs.Words.{word_at}
use Rattle.node_bytes.specs.Rows.{every}

-- the byte at a place
abbrev pub byte : List ℕ → ℕ → ℕ
byte s at = get_or s at 0

-- a default is present, or null with number 0
unfoldable pub cell_good : List ℕ → ℕ → Bool
cell_good s at = eqb (byte s at) 0 || (eqb (byte s at) 1 && eqb (word_at s (at + 1)) 0)

unfoldable pub cells_good : List ℕ → ℕ → ℕ → Bool
cells_good s at n = every (cell_good s) 9 at n

-- an aggregate has a known name, and 0 where it reads no column
unfoldable pub aggregate_good : List ℕ → ℕ → Bool
aggregate_good s at =
    ltb (byte s at) 9
    && ((ltb 0 (entry_of (byte s at) 0) || eqb (byte s (at + 1)) 0) && (ltb 1 (entry_of (byte s at) 0) || eqb (byte s (at + 2)) 0))

unfoldable pub aggregates_good : List ℕ → ℕ → ℕ → Bool
aggregates_good s at n = every (aggregate_good s) 3 at n

-- how many bytes a join and a grouping have, by the counts in front
unfoldable pub join_size : List ℕ → ℕ → ℕ
join_size s at = 4 + 2 * byte s (at + 1) + 9 * (byte s (at + 2) + byte s (at + 3))

unfoldable pub group_size : List ℕ → ℕ → ℕ
group_size s at = 3 + byte s (at + 1) + 3 * byte s (at + 2)

-- a join has left defaults only where it is full, right ones only where it is outer, and each is right
unfoldable pub join_good : List ℕ → ℕ → Bool
join_good s at =
    (eqb (byte s at) 3 || eqb (byte s (at + 2)) 0)
    && ((leb 2 (byte s at) || eqb (byte s (at + 3)) 0)
    && cells_good s (at + 4 + 2 * byte s (at + 1)) (byte s (at + 2) + byte s (at + 3)))

unfoldable pub group_good : List ℕ → ℕ → Bool
group_good s at = aggregates_good s (at + 3 + byte s (at + 1)) (byte s (at + 2))

-- a size, where the node ends inside the string and is right; else 0
unfoldable pub size_if : List ℕ → ℕ → ℕ → Bool → ℕ
size_if s at n good = cond (leb (at + n) (length s) && good) n 0

-- the bytes of the node from a place on, 0 where there is no node
unfoldable pub node_size : List ℕ → ℕ → ℕ
node_size s at =
    cond (eqb (byte s at) 0) (size_if s at 3 true)
    (cond (leb (byte s at) 3) (size_if s at (join_size s at) (join_good s at))
    (cond (eqb (byte s at) 4) (size_if s at (group_size s at) (group_good s at)) 0))

-- how many inputs a node takes, by its first byte
unfoldable pub inputs : ℕ → ℕ
inputs tag = cond (eqb tag 0) 0 (cond (eqb tag 4) 1 2)
