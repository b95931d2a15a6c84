-- The rewriting: a grouping directly above a join is pushed below it (Eich and Moerkotte, Dynamic Programming: The Next Step, equivalences 10 to 15).
--
--   group G; F                         group G'; F' with c
--       |                                  |
--     join pairs, defaults    becomes    join pairs, defaults
--      /       \                          /          \
--     e1        e2              group G1+; F1, c      e2        (pushed left; right is its mirror image)
--                                        |
--                                        e1
use Rattle.std.specs.Prelude.{Bool, true, false, not, cond, ◌&&◌, ◌||◌, List, [], ◌∷◌, ◌++◌, map, ℕ, zero, suc, ◌+◌, ◌-◌, eqb, leb, ltb, length, get_or}
use Rattle.std.proofs.Math.Option.{Option, some, none}
use Rattle.meaning.specs.Limits.{most_nodes, most_columns}
use Rattle.meaning.specs.Plans.{Row, Name, Aggregate, rows, name_of, columns_read, Pair, Join, inner, left_outer, full_outer, Plan, leaf, join, group}
use Rattle.meaning.specs.Arrangement.{bytes, Answers}
use Rattle.meaning.specs.Rules.{rule, reading}
use Rattle.meaning.specs.Columns.{width, nodes}
use Rattle.meaning.specs.Joining.{keep, any}
use Rattle.meaning.specs.Grouping.{key, group_row}
use Rattle.meaning.specs.Check.{refuse, first_of, check_number}
use Rattle.meaning.specs.Running.{onto}

-- "both sides" of a join
pub data Side : Type 0 where
  on_left on_right : Side

-- a side by its number: 0 left, 1 right, "no such side" else
unfoldable pub side_of : ℕ → Option Side
side_of zero = some on_left
side_of (suc zero) = some on_right
side_of (suc (suc n)) = none

-- whether a column of a join, whose left input has l columns, is the side's
unfoldable pub is_on : Side → ℕ → ℕ → Bool
is_on on_left l i = ltb i l
is_on on_right l i = not (ltb i l)

-- a column of the join in the side's own numbers
unfoldable pub own_number : Side → ℕ → ℕ → ℕ
own_number on_left l i = i
own_number on_right l i = i - l

-- the side's column of a pair
unfoldable pub pair_column : Side → Pair → ℕ
pair_column on_left p = p.left
pair_column on_right p = p.right

-- an aggregate "that reads the side"
unfoldable pub reads : Side → ℕ → Aggregate → Bool
reads s l a = any (is_on s l) (columns_read a)

-- "in ascending order of column number, each once"
unfoldable pub into_columns : ℕ → List ℕ → List ℕ
into_columns i [] = i ∷ []
into_columns i (k ∷ ks) = cond (ltb i k) (i ∷ k ∷ ks) (cond (eqb i k) (k ∷ ks) (k ∷ into_columns i ks))

-- the columns of a list in that order
unfoldable pub ascending_columns : List ℕ → List ℕ
ascending_columns [] = []
ascending_columns (i ∷ is) = into_columns i (ascending_columns is)

-- "Its grouping columns: the side's columns among the old grouping columns, with the side's join columns"
unfoldable pub new_columns : Side → ℕ → List ℕ → List Pair → List ℕ
new_columns s l cols ps = ascending_columns (map (own_number s l) (keep (is_on s l) cols) ++ map (pair_column s) ps)

-- the name that the rule table gives, where it gives one; a refused entry is never asked
unfoldable pub or_own : Name → Option Name → Name
or_own n none = n
or_own n (some m) = m

-- the column v of an aggregate
unfoldable pub column_v : Aggregate → ℕ
column_v a = get_or (columns_read a) 0 0

-- "Its aggregates: the partial of each old aggregate that reads the side, in order, except counts of rows"
unfoldable pub partials : Side → ℕ → List Aggregate → List Aggregate
partials s l [] = []
partials s l (a ∷ rest) =
    cond (reads s l a)
    (reading (or_own (name_of a) (rule (name_of a)).partial) (own_number s l (column_v a)) 0 ∷ partials s l rest)
    (partials s l rest)

-- "last, one count of rows, c"
unfoldable pub new_aggregates : Side → ℕ → List Aggregate → List Aggregate
new_aggregates s l aggs = partials s l aggs ++ (rows ∷ [])

-- the place of a column in a list of columns
unfoldable pub place_in : ℕ → List ℕ → ℕ
place_in i [] = 0
place_in i (k ∷ ks) = cond (eqb i k) 0 (place_in i ks + 1)

-- "each new aggregate's default is what it gives over a single row made of the old defaults"; "grouping columns keep their defaults"
unfoldable pub new_defaults : List ℕ → List Aggregate → Row → Row
new_defaults cols aggs old = group_row aggs (key cols old) (old ∷ [])

-- "The join keeps its kind, its pairs and the other side's defaults"
unfoldable pub new_join : Side → (Row → Row) → Join → Join
new_join s f inner = inner
new_join on_left f (left_outer dr) = left_outer dr
new_join on_right f (left_outer dr) = left_outer (f dr)
new_join on_left f (full_outer dl dr) = full_outer (f dl) dr
new_join on_right f (full_outer dl dr) = full_outer dl (f dr)

-- "the pairs naming the same columns at their new numbers"
unfoldable pub new_pair : Side → List ℕ → Pair → Pair
new_pair on_left cols p = record { left = place_in p.left cols; right = p.right }
new_pair on_right cols p = record { left = p.left; right = place_in p.right cols }

-- where the new grouping's columns begin in the new join, whose left input had l columns
unfoldable pub base : Side → ℕ → ℕ
base on_left l = 0
base on_right l = l

-- the number in the new join of a column of the old one: l columns on the left, the new grouping `cols` and w columns wide
unfoldable pub new_number : Side → ℕ → List ℕ → ℕ → ℕ → ℕ
new_number on_left l cols w i = cond (ltb i l) (place_in i cols) (w + (i - l))
new_number on_right l cols w i = cond (ltb i l) i (l + place_in (i - l) cols)

-- "Counts of rows become the sum of c; aggregates that read the side take their final form; those on the other side take
-- the last column of the rule table with c": c is c's number, k that of the next partial, `to` gives new numbers
unfoldable pub upper_aggregates : Side → ℕ → (ℕ → ℕ) → ℕ → ℕ → List Aggregate → List Aggregate
upper_aggregates s l to c k [] = []
upper_aggregates s l to c k (a ∷ rest) =
    cond (eqb (length (columns_read a)) 0)
    (reading (or_own (name_of a) (rule (name_of a)).final) c c ∷ upper_aggregates s l to c k rest)
    (cond (reads s l a)
    (reading (or_own (name_of a) (rule (name_of a)).final) k c ∷ upper_aggregates s l to c (k + 1) rest)
    (reading (or_own (name_of a) (rule (name_of a)).other_side) (to (column_v a)) c ∷ upper_aggregates s l to c k rest))

-- the new grouping, over the pushed side
unfoldable pub lower : Side → List ℕ → List Aggregate → List Pair → Plan → Plan → Plan
lower on_left cols aggs ps l r = group (new_columns on_left (width l) cols ps) (new_aggregates on_left (width l) aggs) l
lower on_right cols aggs ps l r = group (new_columns on_right (width l) cols ps) (new_aggregates on_right (width l) aggs) r

-- the join with the new grouping in place of the side
unfoldable pub new_inputs : Side → Join → List Pair → Plan → Plan → Plan → Plan
new_inputs on_left j ps l r g = join j ps g r
new_inputs on_right j ps l r g = join j ps l g

-- the new join: `cols` and `new` are the new grouping's columns and aggregates
unfoldable pub middle : Side → List ℕ → List Aggregate → Join → List Pair → Plan → Plan → Plan → Plan
middle s cols new j ps l r g =
    new_inputs s (new_join s (new_defaults cols new) j) (map (new_pair s cols) ps) l r g

-- "The upper grouping keeps its order, its grouping columns at their new numbers."
unfoldable pub upper : Side → List ℕ → List Aggregate → List ℕ → List Aggregate → ℕ → Plan → Plan
upper s cols aggs new-cols new-aggs l m =
    group
    (map (new_number s l new-cols (length new-cols + length new-aggs)) cols)
    (upper_aggregates s l
    (new_number s l new-cols (length new-cols + length new-aggs))
    (base s l + length new-cols + length new-aggs - 1)
    (base s l + length new-cols)
    aggs)
    m

-- the three new nodes, the upper grouping above the join above the lower grouping
unfoldable pub pushed_group : Side → List ℕ → List Aggregate → Join → List Pair → Plan → Plan → Plan
pushed_group s cols aggs j ps l r =
    upper s cols aggs (new_columns s (width l) cols ps) (new_aggregates s (width l) aggs) (width l)
    (middle s (new_columns s (width l) cols ps) (new_aggregates s (width l) aggs) j ps l r (lower s cols aggs ps l r))

-- "Given a grouping directly above a join, and a side. The pushed side gets a new grouping between it and the join"
unfoldable pub pushed : Side → Plan → Plan
pushed s (leaf t w) = leaf t w
pushed s (join j ps l r) = join j ps l r
pushed s (group cols aggs (leaf t w)) = group cols aggs (leaf t w)
pushed s (group cols aggs (join j ps l r)) = pushed_group s cols aggs j ps l r
pushed s (group cols aggs (group cols' aggs' i)) = group cols aggs (group cols' aggs' i)

-- the node at a place, a number in the plan's list of nodes
unfoldable pub node_at : ℕ → Plan → Option Plan
node_at k (leaf t w) = cond (eqb k 0) (some (leaf t w)) none
node_at k (join j ps l r) =
    cond (ltb k (nodes l)) (node_at k l)
    (cond (ltb k (nodes l + nodes r)) (node_at (k - nodes l) r) (cond (eqb k (nodes l + nodes r)) (some (join j ps l r)) none))
node_at k (group cols aggs i) =
    cond (ltb k (nodes i)) (node_at k i) (cond (eqb k (nodes i)) (some (group cols aggs i)) none)

-- a plan with the node at a place changed
unfoldable pub change_at : ℕ → (Plan → Plan) → Plan → Plan
change_at k f (leaf t w) = cond (eqb k 0) (f (leaf t w)) (leaf t w)
change_at k f (join j ps l r) =
    cond (ltb k (nodes l)) (join j ps (change_at k f l) r)
    (cond (ltb k (nodes l + nodes r)) (join j ps l (change_at (k - nodes l) f r))
    (cond (eqb k (nodes l + nodes r)) (f (join j ps l r)) (join j ps l r)))
change_at k f (group cols aggs i) =
    cond (ltb k (nodes i)) (group cols aggs (change_at k f i))
    (cond (eqb k (nodes i)) (f (group cols aggs i)) (group cols aggs i))

-- the new plan
unfoldable pub new_plan : ℕ → Side → Plan → Plan
new_plan place s p = change_at place (pushed s) p

-- 9: "the grouping holds a weighted aggregate"
unfoldable pub is_weighted : Aggregate → Bool
is_weighted a = eqb (length (columns_read a)) 2

-- 10: "an aggregate reads columns of both sides (not splittable)"
unfoldable pub reads_both : ℕ → Aggregate → Bool
reads_both l a = reads on_left l a && reads on_right l a

-- whether the rule table has no form
unfoldable pub is_none : Option Name → Bool
is_none none = true
is_none (some n) = false

-- 11: "a distinct aggregate reads the pushed side (not decomposable)"
unfoldable pub not_decomposable : Side → ℕ → Aggregate → Bool
not_decomposable s l a = reads s l a && is_none (rule (name_of a)).partial

-- 12: "the new grouping or the new join has more than 16 columns"
unfoldable pub too_wide : Plan → Bool
too_wide p = ltb most_columns (width p)

-- 9 to 12 at the grouping above a join, in this order; the plan has n nodes
unfoldable pub group_number : ℕ → Side → List ℕ → List Aggregate → Join → List Pair → Plan → Plan → ℕ
group_number n s cols aggs j ps l r =
    first_of
    (refuse 9 (any is_weighted aggs)
    ∷ refuse 10 (any (reads_both (width l)) aggs)
    ∷ refuse 11 (any (not_decomposable s (width l)) aggs)
    ∷ refuse 12
    (eqb n most_nodes
    || (too_wide (lower s cols aggs ps l r)
    || too_wide
    (middle s (new_columns s (width l) cols ps) (new_aggregates s (width l) aggs) j ps l r (lower s cols aggs ps l r))))
    ∷ [])

-- 8: "no grouping directly above a join at that place", else what the grouping gives
unfoldable pub push_number : ℕ → Side → Plan → ℕ
push_number n s (leaf t w) = 8
push_number n s (join j ps l r) = 8
push_number n s (group cols aggs (leaf t w)) = 8
push_number n s (group cols aggs (join j ps l r)) = group_number n s cols aggs j ps l r
push_number n s (group cols aggs (group cols' aggs' i)) = 8

-- what a rewriting answers: a number, a byte count, and the later content of the plan area
pub record Rewritten : Type 0 where
  pub number : ℕ
  pub count : ℕ
  pub area : List ℕ

-- "A refusal comes back as its number, with row or byte count 0. The result area and plan area stay untouched."
unfoldable pub refused_rewriting : ℕ → List ℕ → Rewritten
refused_rewriting n area = record { number = n; count = 0; area = area }

-- "A rewriting fills the new plan's bytes from the front and gives their count."
unfoldable pub new_rewriting : List ℕ → List ℕ → Rewritten
new_rewriting new area = record { number = 0; count = length new; area = onto new area }

-- the last test, 6: "the lent plan area is too short for the new plan"
unfoldable pub room_for : List ℕ → List ℕ → Rewritten
room_for new area = cond (leb (length new) (length area)) (new_rewriting new area) (refused_rewriting 6 area)

-- the answer for a side and a node, where there are such
unfoldable pub rewrite_at : ℕ → Option Side → Option Plan → List ℕ → Plan → Rewritten
rewrite_at place none _ area p = refused_rewriting (first_of (check_number p ∷ 8 ∷ [])) area
rewrite_at place (some s) none area p = refused_rewriting (first_of (check_number p ∷ 8 ∷ [])) area
rewrite_at place (some s) (some node) area p =
    cond (eqb (first_of (check_number p ∷ push_number (nodes p) s node ∷ [])) 0)
    (room_for (bytes (new_plan place s p)) area)
    (refused_rewriting (first_of (check_number p ∷ push_number (nodes p) s node ∷ [])) area)

-- "a rewriting 8, 9, 10, 11, 12, 6", after the check's own
unfoldable pub rewrite_of : ℕ → ℕ → List ℕ → Plan → Rewritten
rewrite_of place side area p = rewrite_at place (side_of side) (node_at place p) area p

-- what a rewriting answers for a byte string
abbrev pub Rewrites : ℕ → ℕ → List ℕ → List ℕ → Rewritten → Type 0
Rewrites place side area = Answers (refused_rewriting 1 area) (rewrite_of place side area)
