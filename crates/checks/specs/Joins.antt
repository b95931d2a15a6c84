-- A join's node describes the join: its tests of bytes are those of the tree, and so are its kinds.
use Rattle.std.specs.Prelude.{Option, ◌≡◌, refl, ◌⊎◌, Bool, ◌&&◌, ℕ, ◌+◌, ◌*◌, ◌≤◌, eqb, length}
use Rattle.std.proofs.Math.Path.{sym, ap}
use Rattle.std.proofs.Common.{◌∙◌, ⊎_elim, List, [], ◌++◌, map, leb-true, eqb-true}
use Rattle.std.proofs.Math.Logic.{inl, inr}
use Rattle.std.proofs.Math.Bool.{true}
use Rattle.std.proofs.Math.Dec.{leb}
use Rattle.std.proofs.Math.ListN.{take}
use Rattle.meaning.specs.Limits.{most_columns, up_to}
use Rattle.meaning.specs.Cells.{Cell}
use Rattle.meaning.specs.Plans.{Pair, Join, inner, left_outer, full_outer, left_defaults, right_defaults, Plan, join}
use Rattle.meaning.specs.Rules.{Kind}
use Rattle.meaning.specs.Columns.{width, kinds, nodes}
use Rattle.meaning.specs.Arrangement.{in_row, cell_bytes, join_number, join_bytes}
use Rattle.meaning.specs.Check.{every_node, pairs_within, node_within, pairs_there, defaults_there, node_columns, defaults_right, node_weights, left_width}
use Rattle.meaning.proofs.Widths.{kinds-long}
use Rattle.refusals.specs.declared.Refusal.{Refusal}
use Rattle.refusals.specs.Numbers.{number_if}
use Rattle.lists.specs.Each.{map-append}
use Rattle.lists.specs.Tests.{and_left, and_right}
use Rattle.node_bytes.specs.Holding.{Holds}
use Rattle.node_bytes.specs.Nodes.{byte}
use Rattle.arrangement.proofs.Roots.{join-number, join-pairs, join-lefts, join-rights, pairs-held, lefts-held, rights-held}
use Rattle.node_checks.specs.Weights.{kind_number, defaults_at}
use Rattle.node_checks.specs.Trees.{pairs-tree, defaults-tree}
use Rattle.node_checks.specs.Numbers.{join_within_at, counts_right, join_columns_at, join_weights_at, JoinKinds}
use Rattle.checks.specs.Verdicts.{number_by, tree_number, lesser, verdict, inputs-law, tree-join, not_two, not_three, verdict-same}
use Rattle.checks.specs.Describing.{Described}
use Rattle.checks.specs.declared.Node.{Node}

-- the counts of defaults are those that the kind of join asks
counts-tree : (j : Join) (l r : ℕ) → counts_right (join_number j) (length (left_defaults j)) l (length (right_defaults j)) r ≡ defaults_there j l r
unfolding counts_right join_number left_defaults right_defaults defaults_there
counts-tree inner l r = refl
counts-tree (left_outer dr) l r = refl
counts-tree (full_outer dl dr) l r = refl

-- lists of defaults are as long as their side, or empty
lefts-long : (j : Join) (l r : ℕ) → defaults_there j l r ≡ true → (left_defaults j ≡ []) ⊎ (length (left_defaults j) ≡ l)
unfolding left_defaults defaults_there
lefts-long inner l r e = inl refl
lefts-long (left_outer dr) l r e = inl refl
lefts-long (full_outer dl dr) l r e = inr (eqb-true _ _ (and_left _ _ e))

rights-long : (j : Join) (l r : ℕ) → defaults_there j l r ≡ true → (right_defaults j ≡ []) ⊎ (length (right_defaults j) ≡ r)
unfolding right_defaults defaults_there
rights-long inner l r e = inl refl
rights-long (left_outer dr) l r e = inr (eqb-true _ _ e)
rights-long (full_outer dl dr) l r e = inr (eqb-true _ _ (and_right (eqb (length dl) l) _ e))

-- the defaults of a side are right for its kinds
side_tree : (s : List ℕ) (at : ℕ) (n : ℕ) (ds : List Cell) (ns : List ℕ) (ks : List Kind) → n ≡ length ds → Holds s at (in_row cell_bytes ds)
    → take (length ks) ns ≡ map kind_number ks → (ds ≡ []) ⊎ (length ds ≡ length ks) → defaults_at s at n ns 0 ≡ defaults_right ks ds
unfolding defaults_at defaults_right
side_tree s at n ds ns ks e h b c = rw e (⊎_elim none (λ q. defaults-tree ns ks b s at ds h q) c)
  where
    none : ds ≡ [] → defaults_at s at (length ds) ns 0 ≡ defaults_right ks ds
    none q = rw q

-- a number that is neither 2 nor 3 says that no input fails 2 or 3
inputs_fine : (p q : Plan) → (lesser (tree_number p) (tree_number q) ≡ 2 → ⊥) → (lesser (tree_number p) (tree_number q) ≡ 3 → ⊥)
    → ((every_node node_within p && every_node node_within q) ≡ true) × ((every_node node_columns p && every_node node_columns q) ≡ true)
unfolding tree_number
inputs_fine p q two three =
    (not_two _ _ _ (λ e. two (sym law ∙ e)), not_three _ _ _ (λ e. two (sym law ∙ e)) (λ e. three (sym law ∙ e)))
  where
    law : number_by (every_node node_within p && every_node node_within q) (every_node node_columns p && every_node node_columns q) (every_node node_weights p && every_node node_weights q) ≡ lesser (number_by (every_node node_within p) (every_node node_columns p) (every_node node_weights p)) (number_by (every_node node_within q) (every_node node_columns q) (every_node node_weights q))
    law = inputs-law (every_node node_within p) (every_node node_within q) (every_node node_columns p) (every_node node_columns q) (every_node node_weights p) (every_node node_weights q)

-- the refusal of a join above its inputs: theirs and its own tests decide
abbrev pub RefusesJoin : List ℕ → ℕ → Node → Node → Option Refusal → Type 0
RefusesJoin s at l r out =
    number_if out
    ≡ verdict (lesser (number_if l.refusal) (number_if r.refusal)) (join_within_at s at l.width r.width) (join_columns_at s at l.width r.width) (join_weights_at s at l.kinds r.kinds)

-- the node that the code makes of a join
pub record JoinMade (s : List ℕ) (at : ℕ) (l r out : Node) : Type 0 where
  pub number : RefusesJoin s at l r out.refusal
  pub wide : out.width ≡ l.width + r.width
  pub starts : out.first ≡ l.first
  pub parted : out.split ≡ l.width
  pub kinded : JoinKinds l.kinds l.width r.kinds r.width out.kinds

module _ {s : List ℕ} {at : ℕ} {l r out : Node} (m : JoinMade s at l r out) (j : Join) (ps : List Pair) (p q : Plan) (f : ℕ)
    (h : Holds s at (join_bytes j ps)) (dl : Described p f l) (dr : Described q (f + nodes p) r) where
  within-tree : join_within_at s at l.width r.width ≡ node_within (join j ps p q)
  unfolding join_within_at node_within pairs_within width
  within-tree = rw (dl.wide, dr.wide, join-pairs s at j ps h)

  columns-tree : join_columns_at s at l.width r.width ≡ node_columns (join j ps p q)
  unfolding join_columns_at node_columns
  columns-tree =
      rw (dl.wide, dr.wide, join-pairs s at j ps h, join-number s at j ps h, join-lefts s at j ps h, join-rights s at j ps h)
      (rw (pairs-tree s (at + 4) ps (width p) (width q) (pairs-held s at j ps h), counts-tree j (width p) (width q)))

  weights-tree : every_node node_within p ≡ true → every_node node_columns p ≡ true → every_node node_within q ≡ true → every_node node_columns q ≡ true
      → defaults_there j (width p) (width q) ≡ true → join_weights_at s at l.kinds r.kinds ≡ node_weights (join j ps p q)
  unfolding join_weights_at node_weights
  weights-tree pw pc qw qc there =
      let left = side_tree s (at + 4 + 2 * byte s (at + 1)) (byte s (at + 2)) (left_defaults j) l.kinds (kinds p) (join-lefts s at j ps h) (lefts-held s at j ps h)
      (ap (λ (n : ℕ). take n l.kinds) (kinds-long p) ∙ dl.kinded pw pc) (⊎_elim inl (λ e. inr (e ∙ sym (kinds-long p))) (lefts-long j (width p) (width q) there)) in
      let right = side_tree s (at + 4 + 2 * byte s (at + 1) + 9 * byte s (at + 2)) (byte s (at + 3)) (right_defaults j) r.kinds (kinds q) (join-rights s at j ps h) (rights-held s at j ps h)
      (ap (λ (n : ℕ). take n r.kinds) (kinds-long q) ∙ dr.kinded qw qc) (⊎_elim inl (λ e. inr (e ∙ sym (kinds-long q))) (rights-long j (width p) (width q) there)) in
      cc

  there : node_columns (join j ps p q) ≡ true → defaults_there j (width p) (width q) ≡ true
  unfolding node_columns
  there c = and_right (pairs_there ps (width p) (width q)) (defaults_there j (width p) (width q)) c

  number-tree : number_if out.refusal ≡ tree_number (join j ps p q)
  number-tree =
      m.number
      ∙ ap (λ (n : ℕ). verdict n (join_within_at s at l.width r.width) (join_columns_at s at l.width r.width) (join_weights_at s at l.kinds r.kinds)) sofar
      ∙ ap (λ (b : Bool). verdict (lesser (tree_number p) (tree_number q)) b (join_columns_at s at l.width r.width) (join_weights_at s at l.kinds r.kinds)) within-tree
      ∙ ap (λ (b : Bool). verdict (lesser (tree_number p) (tree_number q)) (node_within (join j ps p q)) b (join_weights_at s at l.kinds r.kinds)) columns-tree
      ∙ verdict-same (lesser (tree_number p) (tree_number q)) (node_within (join j ps p q)) (node_columns (join j ps p q)) (join_weights_at s at l.kinds r.kinds) (node_weights (join j ps p q)) same
      ∙ sym (tree-join j ps p q)
    where
      sofar : lesser (number_if l.refusal) (number_if r.refusal) ≡ lesser (tree_number p) (tree_number q)
      sofar = let a = dl.number in let b = dr.number in cc

      same : node_within (join j ps p q) ≡ true → (lesser (tree_number p) (tree_number q) ≡ 2 → ⊥) → node_columns (join j ps p q) ≡ true
          → (lesser (tree_number p) (tree_number q) ≡ 3 → ⊥) → join_weights_at s at l.kinds r.kinds ≡ node_weights (join j ps p q)
      same w two c three =
          let fine = inputs_fine p q two three in
          weights-tree
          (and_left (every_node node_within p) (every_node node_within q) fine.0)
          (and_left (every_node node_columns p) (every_node node_columns q) fine.1)
          (and_right (every_node node_within p) (every_node node_within q) fine.0)
          (and_right (every_node node_columns p) (every_node node_columns q) fine.1)
          (there c)

  -- a join that passes 2 and 3 has 16 columns at the most, and inputs that pass
  few-columns : node_within (join j ps p q) ≡ true → width p + width q ≤ 16
  unfolding node_within up_to most_columns width
  few-columns w =
      leb-true (width p + width q) 16
      (and_right (leb 1 (width p + width q)) (leb (width p + width q) 16)
      (and_left (leb 1 (width p + width q) && leb (width p + width q) 16) (pairs_within (join j ps p q)) w))

  kinds-tree : every_node node_within (join j ps p q) ≡ true → every_node node_columns (join j ps p q) ≡ true
      → take (width (join j ps p q)) out.kinds ≡ map kind_number (kinds (join j ps p q))
  unfolding every_node width kinds
  kinds-tree w c =
      let w' : (every_node node_within p && every_node node_within q) ≡ true = and_right (node_within (join j ps p q)) (every_node node_within p && every_node node_within q) w in
      let c' : (every_node node_columns p && every_node node_columns q) ≡ true = and_right (node_columns (join j ps p q)) (every_node node_columns p && every_node node_columns q) c in
      let few : width p + width q ≤ 16 = few-columns (and_left (node_within (join j ps p q)) (every_node node_within p && every_node node_within q) w) in
      let left : take (width p) l.kinds ≡ map kind_number (kinds p) =
      dl.kinded (and_left (every_node node_within p) (every_node node_within q) w') (and_left (every_node node_columns p) (every_node node_columns q) c') in
      let right : take (width q) r.kinds ≡ map kind_number (kinds q) =
      dr.kinded (and_right (every_node node_within p) (every_node node_within q) w') (and_right (every_node node_columns p) (every_node node_columns q) c') in
      (rw (dl.wide, dr.wide) at m.kinded) few
      ∙ ap (λ (x : List ℕ). x ++ take (width q) r.kinds) left
      ∙ ap (λ (x : List ℕ). map kind_number (kinds p) ++ x) right
      ∙ sym (map-append kind_number (kinds p) (kinds q))

  pub join_described : Described (join j ps p q) f out
  unfolding width left_width
  join_described = record {
    number = number-tree;
    wide = m.wide ∙ (let a = dl.wide in let b = dr.wide in cc);
    starts = m.starts ∙ dl.starts;
    parted = m.parted ∙ dl.wide;
    kinded = kinds-tree;
  }
