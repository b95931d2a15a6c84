-- The check's answer for a byte string, from its shape and from the node of its root.
use Rattle.std.proofs.Math.Path.{◌≡◌, refl, sym, ap}
use Rattle.std.proofs.Common.{subst, inl, inr, ◌∙◌, arith, le-leb}
use Rattle.std.proofs.Math.Bool.{true, false}
use Rattle.std.specs.Prelude.{List, ℕ, ◌-◌, ◌<◌, ◌≤◌, Some, None, Result, Ok, Err, IfOk, ◌⊎◌}
use Rattle.std.proofs.Math.Option.{Option, some, none}
use Rattle.std.proofs.Math.Dec.{leb}
use borrow.Author.Tests.{lt-leb}
use Rattle.meaning.specs.Limits.{most_nodes, most_leaves}
use Rattle.meaning.specs.Plans.{Plan}
use Rattle.meaning.specs.Columns.{width, nodes, leaves}
use Rattle.meaning.specs.Arrangement.{bytes, for_no_plan, for_plan}
use Rattle.meaning.specs.Check.{Checks, check_number}
use Rattle.refusals.specs.declared.Refusal.{Refusal}
use Rattle.refusals.specs.declared.Refusal.TheVariants.{NoPlan, Limits}
use Rattle.refusals.specs.Numbers.{number_if, number_of}
use Rattle.node_bytes.specs.Words.{Bytes}
use Rattle.arrangement.proofs.Building.{plan_of, plan_sound, no_plan_lem}
use Rattle.shapes.specs.declared.Shape.{Shape}
use Rattle.shapes.specs.Shapes.{shape_of}
use Rattle.checks.specs.Verdicts.{check_tree}
use Rattle.checks.specs.Standing.{stands-whole}
use Rattle.checks.specs.Shaping.{plan_shape, shape_plan}
use Rattle.checks.specs.Describing.{Described, Describes, Standing, nodes-some}
use Rattle.checks.specs.declared.Node.{Node}
use Rattle.checks.specs.declared.Root.{Root}

-- what a byte string's plan is to a job: a refusal, or its count of nodes and its root's width
pub data RootOf (s : List ℕ) : Result Root Refusal → Type 0 where
  for_none : ((p : Plan) → bytes p ≡ s → ⊥) → RootOf s (Err NoPlan)
  for_root : {r : Result Root Refusal} (p : Plan) → bytes p ≡ s → number_of r ≡ check_number p
      → IfOk r (λ (root : Root). (root.nodes ≡ nodes p) × (root.width ≡ width p))
      → RootOf s r

-- its number is the check's
pub root_checks : {s : List ℕ} {r : Result Root Refusal} → RootOf s r → Checks s (number_of r)
root_checks (for_none n) = for_no_plan n
root_checks {s} (for_root p e q f) = subst (Checks s) (sym q) (for_plan p e)

-- a string with a shape is a plan's, and the shape is the plan's
record Planned (s : List ℕ) (h : Shape) : Type 0 where
  plan : Plan
  string : bytes plan ≡ s
  many : h.nodes ≡ nodes plan
  tables : h.leaves ≡ leaves plan

-- no shape: no plan's bytes
pub root_none : {s : List ℕ} → None ≡ shape_of s → RootOf s (Err NoPlan)
unfolding plan_shape
root_none {s} e = pick (plan_of s) refl (e ∙ shape_plan s)
  where
    pick : (o : Option Plan) → plan_of s ≡ o → None ≡ plan_shape o → RootOf s (Err NoPlan)
    pick none q k = for_none (no_plan_lem s q)
    pick (some p) q k = cc

module _ (s : List ℕ) (b : Bytes s) (h : Shape) (e : Some h ≡ shape_of s) where
  planned : Planned s h
  unfolding plan_shape
  planned = pick (plan_of s) refl (e ∙ shape_plan s)
    where
      pick : (o : Option Plan) → plan_of s ≡ o → Some h ≡ plan_shape o → Planned s h
      pick none q k = cc
      pick (some p) q k =
          let same : h ≡ record { nodes = nodes p; leaves = leaves p } = cc in
          record {
            plan = p;
            string = plan_sound s b p q;
            many = ap (λ (z : Shape). z.nodes) same;
            tables = ap (λ (z : Shape). z.leaves) same;
          }

  -- too many nodes, or too many tables
  pub root_large : (12 < h.nodes) ⊎ (h.nodes ≤ 12 × 3 < h.leaves) → RootOf s (Err Limits)
  unfolding most_nodes most_leaves
  root_large (inl l) =
      let p : Planned s h = planned in
      let a : leb (nodes p.plan) 12 ≡ false = lt-leb (nodes p.plan) 12 (omega (arith, p.many)) in
      for_root p.plan p.string (sym (check_tree p.plan ∙ rw a)) tt
  root_large (inr (n, l)) =
      let p : Planned s h = planned in
      let a : leb (nodes p.plan) 12 ≡ true = le-leb (nodes p.plan) 12 (omega (arith, p.many)) in
      let c : leb (leaves p.plan) 3 ≡ false = lt-leb (leaves p.plan) 3 (omega (arith, p.tables)) in
      for_root p.plan p.string (sym (check_tree p.plan ∙ rw (a, c))) tt

  pub root-nodes : 12 < h.nodes → RootOf s (Err Limits)
  root-nodes l = root_large (inl l)

  pub root-leaves : h.nodes ≤ 12 → 3 < h.leaves → RootOf s (Err Limits)
  root-leaves n l = root_large (inr (n, l))

  -- a string with a shape has a root, and the plan stands in it
  pub root-some : 0 < h.nodes
  root-some = let p : Planned s h = planned in omega (arith, p.many, nodes-some p.plan)

  pub root-standing : h.nodes ≤ 12 → Standing s (h.nodes - 1)
  root-standing n =
      let p : Planned s h = planned in
      record {
        tree = p.plan;
        first = 0;
        last = omega (arith, p.many, nodes-some p.plan);
        stands = stands-whole p.plan s p.string;
        few = omega (arith, root-some);
      }

  -- the node of the root: its number is the check's, and its width the plan's
  module _ (r : Node) (d : Describes s (h.nodes - 1) r) (n : h.nodes ≤ 12) (l : h.leaves ≤ 3) where
    root : Described planned.plan 0 r
    root = let p : Planned s h = planned in d p.plan 0 (omega (arith, p.many, nodes-some p.plan)) (stands-whole p.plan s p.string)

    root_number : number_if r.refusal ≡ check_number planned.plan
    unfolding most_nodes most_leaves
    root_number =
        let p : Planned s h = planned in
        let a : leb (nodes p.plan) 12 ≡ true = le-leb (nodes p.plan) 12 (omega (arith, p.many)) in
        let c : leb (leaves p.plan) 3 ≡ true = le-leb (leaves p.plan) 3 (omega (arith, p.tables)) in
        root.number ∙ sym (check_tree p.plan ∙ rw (a, c))

    pub root_described : (a : Result Root Refusal) → number_of a ≡ number_if r.refusal
        → IfOk a (λ (q : Root). (q.nodes ≡ h.nodes) × (q.width ≡ r.width)) → RootOf s a
    root_described (Ok q) e k = let p : Planned s h = planned in for_root p.plan p.string (e ∙ root_number) (k.0 ∙ p.many, k.1 ∙ root.wide)
    root_described (Err refusal) e k = let p : Planned s h = planned in for_root p.plan p.string (e ∙ root_number) tt

    pub root_refused : {refusal : Refusal} → r.refusal ≡ Some refusal → RootOf s (Err refusal)
    root_refused {refusal} e = root_described (Err refusal) (sym (ap number_if e)) tt

    pub root_passes : r.refusal ≡ None → RootOf s (Ok (record { nodes = h.nodes; width = r.width }))
    root_passes e = root_described (Ok (record { nodes = h.nodes; width = r.width })) (sym (ap number_if e)) (refl, refl)
