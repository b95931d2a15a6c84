-- The shape of a byte string: whether its nodes make one tree, and how many nodes and tables it has.
use Rattle.std.specs.Prelude.{Option, Some, None, Bool, true, ◌&&◌, cond, List, ℕ, zero, suc, ◌+◌, ◌-◌, eqb, leb, ltb, length}
use Rattle.node_bytes.specs.Nodes.{byte, node_size, inputs}
use Rattle.node_bytes.specs.declared.Tag.{Tag}
use Rattle.node_bytes.specs.declared.Tag.TheVariants.{Table, Inner, LeftOuter, FullOuter, Grouping, Other}
use Rattle.shapes.specs.declared.Shape.{Shape}

-- the size of a node, if one is there: none has size 0
unfoldable pub size_of : ℕ → Option ℕ
size_of n = cond (eqb n 0) None (Some n)

-- whether a join of a kind may have so many defaults on either side: left ones only where it is full, right ones only where it is outer
unfoldable pub pads : Tag → ℕ → ℕ → Bool
pads FullOuter l r = true
pads LeftOuter l r = eqb l 0
pads Table l r = eqb l 0 && eqb r 0
pads Inner l r = eqb l 0 && eqb r 0
pads Grouping l r = eqb l 0 && eqb r 0
pads Other l r = eqb l 0 && eqb r 0

abbrev pub no_shape : Option Shape
no_shape = None

abbrev pub shaped : ℕ → ℕ → Option Shape
shaped n l = Some (record { nodes = n; leaves = l })

-- one tree is left at the end
unfoldable pub ended : ℕ → ℕ → ℕ → Option Shape
ended trees n l = cond (eqb trees 1) (shaped n l) no_shape

-- 1 for a table, 0 for any other node
unfoldable pub leaf_count : ℕ → ℕ
leaf_count tag = cond (eqb tag 0) 1 0

-- the rest of the string from a place on, with so many trees, nodes and tables so far; the first number bounds the nodes left
unfoldable pub scan : ℕ → List ℕ → ℕ → ℕ → ℕ → ℕ → Option Shape
scan zero s at trees n l = no_shape
scan (suc f) s at trees n l =
    cond (leb (length s) at) (ended trees n l)
    (cond (eqb (node_size s at) 0) no_shape
    (cond (ltb trees (inputs (byte s at))) no_shape
    (scan f s (at + node_size s at) (trees - inputs (byte s at) + 1) (n + 1) (l + leaf_count (byte s at)))))

unfoldable pub shape_of : List ℕ → Option Shape
shape_of s = scan (suc (length s)) s 0 0 0 0

-- where the k-th node starts
unfoldable pub start_of : List ℕ → ℕ → ℕ
start_of s zero = 0
start_of s (suc k) = start_of s k + node_size s (start_of s k)
