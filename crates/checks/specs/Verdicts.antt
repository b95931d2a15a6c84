-- The number of a plan from the numbers of its inputs and the tests of its root.
use Rattle.std.specs.Prelude.{◌≡◌, refl, Bool, true, false, not, cond, ◌&&◌, List, [], ◌∷◌, ℕ, T, eqb, ltb, leb}
use Rattle.std.proofs.Common.{ap, ◌∙◌, eqb→eq}
use Rattle.meaning.specs.Limits.{most_nodes, most_leaves}
use Rattle.meaning.specs.Plans.{Plan, leaf, join, group, Join, Pair, Aggregate}
use Rattle.meaning.specs.Columns.{nodes, leaves}
use Rattle.meaning.specs.Check.{refuse, first_of, every_node, node_within, node_columns, node_weights, within, check_number}
use Rattle.std.proofs.lemmas.Bool.{eqb-false}

-- the number of three tests: 2, 3 or 4 for the first that fails, else 0
unfoldable pub number_by : Bool → Bool → Bool → ℕ
number_by a b c = first_of (refuse 2 (not a) ∷ refuse 3 (not b) ∷ refuse 4 (not c) ∷ [])

-- the number of a plan's nodes, its count of nodes and leaves left out
unfoldable pub tree_number : Plan → ℕ
tree_number p = number_by (every_node node_within p) (every_node node_columns p) (every_node node_weights p)

-- of two numbers the one that comes first, 0 being none
unfoldable pub lesser : ℕ → ℕ → ℕ
lesser a b = cond (eqb a 0) b (cond (eqb b 0) a (cond (ltb a b) a b))

-- the number of a node whose inputs have the number so far, by the tests of the node itself
unfoldable pub verdict : ℕ → Bool → Bool → Bool → ℕ
verdict sofar a b c = cond a (cond (eqb sofar 2) 2 (cond b (cond (eqb sofar 3) 3 (cond c sofar 4)) 3)) 2

-- a verdict on what equals its parts
pub verdict_of_same : {n sofar sofar' : ℕ} {a a' b b' c c' : Bool} → n ≡ verdict sofar a b c → sofar ≡ sofar' → a ≡ a' → b ≡ b' → c ≡ c'
    → n ≡ verdict sofar' a' b' c'
verdict_of_same e p q r s = cc

-- ---- a law of booleans is a test that computes

both : (Bool → Bool) → Bool
both f = f true && f false

at_both : (f : Bool → Bool) → T (both f) → (b : Bool) → T (f b)
unfolding both
at_both f t true = pick (f true) (f false) t
  where
    pick : (x y : Bool) → T (x && y) → T x
    pick true y t = tt
    pick false y t = t
at_both f t false = pick (f true) (f false) t
  where
    pick : (x y : Bool) → T (x && y) → T y
    pick true y t = t
    pick false y t = absurd t

-- two inputs
inputs_test : Bool → Bool → Bool → Bool → Bool → Bool → Bool
inputs_test a a' b b' c c' = eqb (number_by (a && a') (b && b') (c && c')) (lesser (number_by a b c) (number_by a' b' c'))

pub inputs-law : (a a' b b' c c' : Bool) → number_by (a && a') (b && b') (c && c') ≡ lesser (number_by a b c) (number_by a' b' c')
unfolding both inputs_test number_by first_of refuse lesser
inputs-law a a' b b' c c' =
    eqb→eq _ _
    (at_both (inputs_test a a' b b' c)
    (at_both (λ (c : Bool). both (inputs_test a a' b b' c))
    (at_both (λ (b' : Bool). both (λ (c : Bool). both (inputs_test a a' b b' c)))
    (at_both (λ (b : Bool). both (λ (b' : Bool). both (λ (c : Bool). both (inputs_test a a' b b' c))))
    (at_both (λ (a' : Bool). both (λ (b : Bool). both (λ (b' : Bool). both (λ (c : Bool). both (inputs_test a a' b b' c)))))
    (at_both (λ (a : Bool). both (λ (a' : Bool). both (λ (b : Bool). both (λ (b' : Bool). both (λ (c : Bool). both (inputs_test a a' b b' c))))))
    tt a) a') b) b') c) c')

-- a node above its inputs
node_test : Bool → Bool → Bool → Bool → Bool → Bool → Bool
node_test a x b y c z = eqb (number_by (a && x) (b && y) (c && z)) (verdict (number_by x y z) a b c)

node_law : (a x b y c z : Bool) → number_by (a && x) (b && y) (c && z) ≡ verdict (number_by x y z) a b c
unfolding both node_test number_by first_of refuse verdict
node_law a x b y c z =
    eqb→eq _ _
    (at_both (node_test a x b y c)
    (at_both (λ (c : Bool). both (node_test a x b y c))
    (at_both (λ (y : Bool). both (λ (c : Bool). both (node_test a x b y c)))
    (at_both (λ (b : Bool). both (λ (y : Bool). both (λ (c : Bool). both (node_test a x b y c))))
    (at_both (λ (x : Bool). both (λ (b : Bool). both (λ (y : Bool). both (λ (c : Bool). both (node_test a x b y c)))))
    (at_both (λ (a : Bool). both (λ (x : Bool). both (λ (b : Bool). both (λ (y : Bool). both (λ (c : Bool). both (node_test a x b y c))))))
    tt a) x) b) y) c) z)

-- ---- the number of each kind of node

pub tree-join : (j : Join) (ps : List Pair) (l r : Plan)
    → tree_number (join j ps l r)
    ≡ verdict (lesser (tree_number l) (tree_number r)) (node_within (join j ps l r)) (node_columns (join j ps l r)) (node_weights (join j ps l r))
unfolding tree_number every_node
tree-join j ps l r =
    node_law (node_within (join j ps l r)) (every_node node_within l && every_node node_within r)
    (node_columns (join j ps l r)) (every_node node_columns l && every_node node_columns r)
    (node_weights (join j ps l r)) (every_node node_weights l && every_node node_weights r)
    ∙ ap (λ (n : ℕ). verdict n (node_within (join j ps l r)) (node_columns (join j ps l r)) (node_weights (join j ps l r)))
    (inputs-law (every_node node_within l) (every_node node_within r) (every_node node_columns l) (every_node node_columns r) (every_node node_weights l) (every_node node_weights r))

pub tree-group : (cols : List ℕ) (aggs : List Aggregate) (i : Plan)
    → tree_number (group cols aggs i)
    ≡ verdict (tree_number i) (node_within (group cols aggs i)) (node_columns (group cols aggs i)) (node_weights (group cols aggs i))
unfolding tree_number every_node
tree-group cols aggs i =
    node_law (node_within (group cols aggs i)) (every_node node_within i)
    (node_columns (group cols aggs i)) (every_node node_columns i)
    (node_weights (group cols aggs i)) (every_node node_weights i)

pub tree-leaf : (t w : ℕ) → tree_number (leaf t w) ≡ cond (node_within (leaf t w)) 0 2
unfolding tree_number every_node node_columns node_weights number_by first_of refuse
tree-leaf t w = pick (node_within (leaf t w))
  where
    pick : (a : Bool) → first_of (refuse 2 (not a) ∷ refuse 3 (not true) ∷ refuse 4 (not true) ∷ []) ≡ cond a 0 2
    pick true = refl
    pick false = refl

-- the number of a plan: too many nodes or leaves is 2
pub check_tree : (p : Plan) → check_number p ≡ cond (leb (nodes p) most_nodes && leb (leaves p) most_leaves) (tree_number p) 2
unfolding check_number within tree_number number_by first_of refuse
check_tree p = pick (leb (nodes p) most_nodes) (leb (leaves p) most_leaves) (every_node node_within p)
  where
    pick : (a b c : Bool)
        → first_of (refuse 2 (not (a && (b && c))) ∷ refuse 3 (not (every_node node_columns p)) ∷ refuse 4 (not (every_node node_weights p)) ∷ [])
        ≡ cond (a && b) (first_of (refuse 2 (not c) ∷ refuse 3 (not (every_node node_columns p)) ∷ refuse 4 (not (every_node node_weights p)) ∷ [])) 2
    pick true true c = refl
    pick true false c = refl
    pick false b c = refl

-- what a number of 0 or 4, or any but 2, says of the tests
pub not_two : (a b c : Bool) → (number_by a b c ≡ 2 → ⊥) → a ≡ true
unfolding number_by first_of refuse
not_two true b c n = refl
not_two false b c n = absurd (n refl)

pub not_three : (a b c : Bool) → (number_by a b c ≡ 2 → ⊥) → (number_by a b c ≡ 3 → ⊥) → b ≡ true
unfolding number_by first_of refuse
not_three true true c n m = refl
not_three true false c n m = absurd (m refl)
not_three false b c n m = absurd (n refl)

-- the third test counts only where nothing before it fails
pub verdict-same : (sofar : ℕ) (a b c d : Bool) → (a ≡ true → (sofar ≡ 2 → ⊥) → b ≡ true → (sofar ≡ 3 → ⊥) → c ≡ d)
    → verdict sofar a b c ≡ verdict sofar a b d
unfolding verdict
verdict-same sofar false b c d f = refl
verdict-same sofar true b c d f = pick (eqb sofar 2) refl b (eqb sofar 3) refl (f refl)
  where
    pick : (x : Bool) → eqb sofar 2 ≡ x → (b : Bool) → (y : Bool) → eqb sofar 3 ≡ y
        → ((sofar ≡ 2 → ⊥) → b ≡ true → (sofar ≡ 3 → ⊥) → c ≡ d)
        → cond x 2 (cond b (cond y 3 (cond c sofar 4)) 3) ≡ cond x 2 (cond b (cond y 3 (cond d sofar 4)) 3)
    pick true p b y q f = refl
    pick false p false y q f = refl
    pick false p true true q f = refl
    pick false p true false q f = ap (λ (z : Bool). cond z sofar 4) (f (eqb-false _ _ p) refl (eqb-false _ _ q))
