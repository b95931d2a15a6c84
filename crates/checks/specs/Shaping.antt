-- The shape of a byte string is that of the plan that is read from it.
use Rattle.std.specs.Prelude.{◌≡◌, Bool, cond, leb, Option as Answer}
use Rattle.std.proofs.Math.Path.{refl}
use Rattle.std.proofs.Common.{◌∙◌, List, [], ◌∷◌, ℕ, zero, suc, ◌+◌, ◌-◌, arith, le-ltb, ne_eqb, eqb-true}
use Rattle.std.proofs.Math.Bool.{true, false}
use Rattle.std.proofs.Math.Option.{Option, some, none}
use Rattle.std.proofs.Math.Dec.{eqb, ltb, eqb-suc-suc, eqb-suc-zero}
use Rattle.std.proofs.Math.ListN.{length}
use borrow.Author.Tests.{eqb-false}
use Rattle.meaning.specs.Plans.{Aggregate, Pair, Join, Plan, leaf, join, group}
use Rattle.meaning.specs.Columns.{nodes, leaves}
use Rattle.node_bytes.specs.Nodes.{byte, node_size, inputs}
use Rattle.arrangement.proofs.Building.{joined, grouped, grown, only, after, build, plan_of}
use Rattle.arrangement.proofs.Roots.{pairs_from, join_at, columns_from, aggregates_from}
use Rattle.shapes.specs.declared.Shape.{Shape}
use Rattle.shapes.specs.Shapes.{no_shape, shaped, ended, leaf_count, scan, shape_of}

-- how many nodes and tables the trees on a stack have
unfoldable pub nodes_in : List Plan → ℕ
nodes_in [] = 0
nodes_in (p ∷ st) = nodes_in st + nodes p

unfoldable pub leaves_in : List Plan → ℕ
leaves_in [] = 0
leaves_in (p ∷ st) = leaves_in st + leaves p

-- the shape of a plan, if there is one
unfoldable pub plan_shape : Option Plan → Answer Shape
plan_shape none = no_shape
plan_shape (some p) = shaped (nodes p) (leaves p)

end_shape : (st : List Plan) → ended (length st) (nodes_in st) (leaves_in st) ≡ plan_shape (only st)
unfolding ended only plan_shape nodes_in leaves_in
end_shape [] = refl
end_shape (p ∷ []) =
    let n : 0 + nodes p ≡ nodes p = omega arith in
    let l : 0 + leaves p ≡ leaves p = omega arith in
    simp (n, l)
end_shape (p ∷ q ∷ st) = simp (eqb-suc-suc (suc (length st)) 0, eqb-suc-zero (length st))

same-scan : (f : ℕ) (s : List ℕ) (at : ℕ) {t t' n n' l l' : ℕ} → t ≡ t' → n ≡ n' → l ≡ l' → scan f s at t n l ≡ scan f s at t' n' l'
same-scan f s at p q r = cc

-- one node: the counts follow the stack
module _ (f : ℕ) (s : List ℕ) (at : ℕ)
    (ih : (st : List Plan) → scan f s (at + node_size s at) (length st) (nodes_in st) (leaves_in st) ≡ plan_shape (build f s (at + node_size s at) st))
  where
    abbrev Follows : List Plan → ℕ → Option (List Plan) → Type 0
    Follows st taken next =
        cond (ltb (length st) taken) no_shape
        (scan f s (at + node_size s at) (length st - taken + 1) (nodes_in st + 1) (leaves_in st + leaf_count (byte s at)))
        ≡ plan_shape (after next (λ (n : List Plan). build f s (at + node_size s at) n))

    follows-leaf : (st : List Plan) (t w : ℕ) → byte s at ≡ 0 → Follows st 0 (some (leaf t w ∷ st))
    unfolding leaf_count after nodes_in leaves_in nodes leaves
    follows-leaf st t w e =
        let few : ltb (length st) 0 ≡ false = le-ltb (length st) 0 (omega arith) in
        let q : length st - 0 + 1 ≡ suc (length st) = omega arith in
        rw (few, e) (same-scan f s (at + node_size s at) q refl refl ∙ ih (leaf t w ∷ st))

    -- any node but a table
    module _ (other : byte s at ≡ 0 → ⊥) where
      follows-group : (cols : List ℕ) (aggs : List Aggregate) (st : List Plan) → Follows st 1 (grouped cols aggs st)
      unfolding leaf_count after nodes_in leaves_in nodes leaves grouped plan_shape
      follows-group cols aggs [] = refl
      follows-group cols aggs (i ∷ st) =
          let few : ltb (suc (length st)) 1 ≡ false = le-ltb (suc (length st)) 1 (omega arith) in
          let q : suc (length st) - 1 + 1 ≡ suc (length st) = omega arith in
          let n : nodes_in st + nodes i + 1 ≡ nodes_in st + (nodes i + 1) = omega arith in
          let l : leaves_in st + leaves i + 0 ≡ leaves_in st + leaves i = omega arith in
          rw (few, ne_eqb (byte s at) 0 other) (same-scan f s (at + node_size s at) q n l ∙ ih (group cols aggs i ∷ st))

      follows-join : (j : Join) (ps : List Pair) (st : List Plan) → Follows st 2 (joined j ps st)
      unfolding leaf_count after nodes_in leaves_in nodes leaves joined plan_shape
      follows-join j ps [] = refl
      follows-join j ps (r ∷ []) = refl
      follows-join j ps (r ∷ l ∷ st) =
          let few : ltb (suc (suc (length st))) 2 ≡ false = le-ltb (suc (suc (length st))) 2 (omega arith) in
          let q : suc (suc (length st)) - 2 + 1 ≡ suc (length st) = omega arith in
          let n : nodes_in st + nodes l + nodes r + 1 ≡ nodes_in st + (nodes l + nodes r + 1) = omega arith in
          let v : leaves_in st + leaves l + leaves r + 0 ≡ leaves_in st + (leaves l + leaves r) = omega arith in
          rw (few, ne_eqb (byte s at) 0 other) (same-scan f s (at + node_size s at) q n v ∙ ih (join j ps l r ∷ st))

    follows : (st : List Plan) → Follows st (inputs (byte s at)) (grown s at st)
    unfolding inputs grown
    follows st = pick (eqb (byte s at) 0) refl (eqb (byte s at) 4) refl
      where
        pick : (a : Bool) → eqb (byte s at) 0 ≡ a → (d : Bool) → eqb (byte s at) 4 ≡ d
            → Follows st (cond a 0 (cond d 1 2))
            (cond a (some (leaf (byte s (at + 1)) (byte s (at + 2)) ∷ st))
            (cond d (grouped (columns_from s at) (aggregates_from s at) st) (joined (join_at s at) (pairs_from s at) st)))
        pick true p d q = follows-leaf st (byte s (at + 1)) (byte s (at + 2)) (eqb-true _ _ p)
        pick false p true q = follows-group (eqb-false _ _ p) (columns_from s at) (aggregates_from s at) st
        pick false p false q = follows-join (eqb-false _ _ p) (join_at s at) (pairs_from s at) st

-- the scan counts what is built
scan-build : (f : ℕ) (s : List ℕ) (at : ℕ) (st : List Plan) → scan f s at (length st) (nodes_in st) (leaves_in st) ≡ plan_shape (build f s at st)
unfolding scan build plan_shape
scan-build zero s at st = refl
scan-build (suc f) s at st =
    pick (leb (length s) at) (eqb (node_size s at) 0) (end_shape st) (follows f s at (λ next. scan-build f s (at + node_size s at) next) st)
  where
    pick : (c d : Bool) → ended (length st) (nodes_in st) (leaves_in st) ≡ plan_shape (only st)
        → cond (ltb (length st) (inputs (byte s at))) no_shape
        (scan f s (at + node_size s at) (length st - inputs (byte s at) + 1) (nodes_in st + 1) (leaves_in st + leaf_count (byte s at)))
        ≡ plan_shape (after (grown s at st) (λ (n : List Plan). build f s (at + node_size s at) n))
        → cond c (ended (length st) (nodes_in st) (leaves_in st))
        (cond d no_shape
        (cond (ltb (length st) (inputs (byte s at))) no_shape
        (scan f s (at + node_size s at) (length st - inputs (byte s at) + 1) (nodes_in st + 1) (leaves_in st + leaf_count (byte s at)))))
        ≡ plan_shape (cond c (only st) (cond d none (after (grown s at st) (λ (n : List Plan). build f s (at + node_size s at) n))))
    pick true d e g = e
    pick false true e g = refl
    pick false false e g = g

pub shape_plan : (s : List ℕ) → shape_of s ≡ plan_shape (plan_of s)
unfolding shape_of plan_of nodes_in leaves_in
shape_plan s = scan-build (suc (length s)) s 0 []
