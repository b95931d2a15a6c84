-- What the check knows of a node: the number, width, place and kinds of the subtree whose root it is.
use Rattle.std.specs.Prelude.{◌≡◌, true, List, [], ◌∷◌, map, ℕ, ◌+◌, ◌*◌, ◌-◌, ◌<◌, ◌≤◌, get_or, take}
use Rattle.std.proofs.Common.{sym, ap, ◌∙◌, lit<, arith}
use Rattle.std.proofs.Math.Path.{subst}
use Rattle.std.proofs.Math.ListN.{length}
use Rattle.std.proofs.lemmas.Bool.{eqb-false}
use Rattle.meaning.specs.Plans.{Aggregate, Pair, Join, Plan, leaf, join, group}
use Rattle.meaning.specs.Columns.{width, kinds, nodes}
use Rattle.meaning.specs.Arrangement.{join_number, join_bytes, group_bytes}
use Rattle.meaning.specs.Check.{every_node, node_within, node_columns, left_width}
use Rattle.refusals.specs.Numbers.{number_if}
use Rattle.node_bytes.specs.Holding.{Holds, holds_head, holds_to}
use Rattle.node_bytes.specs.Words.{Bytes}
use Rattle.node_bytes.specs.Nodes.{byte, join_size, group_size}
use Rattle.arrangement.proofs.Roots.{kind-some, kind_no_group, join-number, join-long, group-number, group-columns, group_aggregates, group-long}
use Rattle.arrangement.proofs.Building.{join-some, group-some}
use Rattle.shapes.specs.declared.Nodes.{Nodes}
use Rattle.shapes.specs.Shapes.{start_of}
use Rattle.node_checks.specs.Weights.{kind_number}
use Rattle.checks.specs.Verdicts.{tree_number}
use Rattle.checks.specs.Standing.{Stands}
use Rattle.checks.specs.declared.Node.{Node}

-- a node describes a plan whose first node is the f-th of the string
pub record Described (t : Plan) (f : ℕ) (r : Node) : Type 0 where
  pub number : number_if r.refusal ≡ tree_number t
  pub wide : r.width ≡ width t
  pub starts : r.first ≡ f
  pub parted : r.split ≡ left_width t
  pub kinded : every_node node_within t ≡ true → every_node node_columns t ≡ true → take (width t) r.kinds ≡ map kind_number (kinds t)

-- a node describes every plan whose root stands as the n-th node of the string
abbrev pub Describes : List ℕ → ℕ → Node → Type 0
Describes s n r = (t : Plan) (f : ℕ) → f + nodes t ≡ n + 1 → Stands s f t → Described t f r

-- what a table, a join above its inputs and a grouping above its input describe
abbrev pub DescribesTable : ℕ → ℕ → Node → Type 0
DescribesTable n w r = (t : ℕ) → Described (leaf t w) n r

abbrev pub DescribesJoin : List ℕ → ℕ → Node → Node → Node → Type 0
DescribesJoin s at l r out =
    (j : Join) (ps : List Pair) (p q : Plan) (f : ℕ) → Holds s at (join_bytes j ps) → Described p f l → Described q (f + nodes p) r
    → Described (join j ps p q) f out

abbrev pub DescribesGroup : List ℕ → ℕ → Node → Node → Type 0
DescribesGroup s at i out =
    (cols : List ℕ) (aggs : List Aggregate) (p : Plan) (f : ℕ) → Holds s at (group_bytes cols aggs) → Described p f i
    → Described (group cols aggs p) f out

-- a plan whose root is the n-th node stands in the string
pub record Standing (s : List ℕ) (n : ℕ) : Type 0 where
  pub tree : Plan
  pub first : ℕ
  pub last : first + nodes tree ≡ n + 1
  pub stands : Stands s first tree
  pub few : n < 12

pub nodes-some : (t : Plan) → 0 < nodes t
unfolding nodes
nodes-some (leaf t w) = omega arith
nodes-some (join j ps l r) = omega arith
nodes-some (group cols aggs i) = omega arith

-- ---- the root of a plan, at the start of the n-th node

module _ (s : List ℕ) (f n : ℕ) where
  pub held-leaf : (t w : ℕ) → f + nodes (leaf t w) ≡ n + 1 → Stands s f (leaf t w) → Holds s (start_of s n) (0 ∷ t ∷ w ∷ [])
  unfolding Stands nodes
  held-leaf t w e h = holds_to (ap (start_of s) (let q : f ≡ n = omega arith in q)) h

  pub held-join : (j : Join) (ps : List Pair) (l r : Plan) → f + nodes (join j ps l r) ≡ n + 1 → Stands s f (join j ps l r)
      → Holds s (start_of s n) (join_bytes j ps)
  unfolding Stands nodes
  held-join j ps l r e h = holds_to (ap (start_of s) (let q : f + nodes l + nodes r ≡ n = omega arith in q)) h.1.1

  pub held-group : (cols : List ℕ) (aggs : List Aggregate) (i : Plan) → f + nodes (group cols aggs i) ≡ n + 1
      → Stands s f (group cols aggs i) → Holds s (start_of s n) (group_bytes cols aggs)
  unfolding Stands nodes
  held-group cols aggs i e h = holds_to (ap (start_of s) (let q : f + nodes i ≡ n = omega arith in q)) h.1

-- ---- the first byte of the root tells which node it is

pub tag-leaf : (s : List ℕ) (at t w : ℕ) → Holds s at (0 ∷ t ∷ w ∷ []) → byte s at ≡ 0
tag-leaf s at t w h = holds_head h

pub join_no_table : (s : List ℕ) (at : ℕ) (j : Join) (ps : List Pair) → Holds s at (join_bytes j ps) → byte s at ≡ 0 → ⊥
join_no_table s at j ps h e = eqb-false (join_number j) 0 (kind-some j) (sym (join-number s at j ps h) ∙ e)

pub join_no_group : (s : List ℕ) (at : ℕ) (j : Join) (ps : List Pair) → Holds s at (join_bytes j ps) → byte s at ≡ 4 → ⊥
join_no_group s at j ps h e = eqb-false (join_number j) 4 (kind_no_group j) (sym (join-number s at j ps h) ∙ e)

pub group_no_table : (s : List ℕ) (at : ℕ) (cols : List ℕ) (aggs : List Aggregate) → Holds s at (group_bytes cols aggs) → byte s at ≡ 0 → ⊥
group_no_table s at cols aggs h e = let q : byte s at ≡ 4 = group-number s at cols aggs h in omega arith

-- ---- what the code may use at the n-th node, which starts at a place

-- it is the place that stands beside the string
pub here_is : (ns : Nodes) {n : ℕ} → Standing ns.bytes.now n → get_or ns.starts n 0 ≡ start_of ns.bytes.now n
here_is ns {n} c = ns.placed n c.few

module _ {s : List ℕ} {n at : ℕ} (c : Standing s n) (here : at ≡ start_of s n) where
  -- the root has at least three bytes
  pub root-inside : at + 3 ≤ length s
  root-inside = subst (λ (a : ℕ). a + 3 ≤ length s) (sym here) (pick c.tree c.last c.stands)
    where
      pick : (t : Plan) → c.first + nodes t ≡ n + 1 → Stands s c.first t → start_of s n + 3 ≤ length s
      pick (leaf t w) e h = (held-leaf s c.first n t w e h).fits
      pick (join j ps l r) e h =
          omega (arith, (held-join s c.first n j ps l r e h).fits, join-some j ps)
      pick (group cols aggs i) e h =
          omega (arith, (held-group s c.first n cols aggs i e h).fits, group-some cols aggs)

-- a node that is no table has its right or only input just before it
pub record Before (s : List ℕ) (n : ℕ) : Type 0 where
  pub some : 0 < n
  pub stands : Standing s (n - 1)

pub before-node : {s : List ℕ} {n at : ℕ} → Standing s n → at ≡ start_of s n → (byte s at ≡ 0 → ⊥) → Before s n
unfolding Stands nodes
before-node {s} {n} c here other = pick c.tree c.last c.stands
  where
    tag : byte s (start_of s n) ≡ 0 → ⊥
    tag q = other (ap (byte s) here ∙ q)

    pick : (t : Plan) → c.first + nodes t ≡ n + 1 → Stands s c.first t → Before s n
    pick (leaf t w) e h = absurd (tag (tag-leaf s (start_of s n) t w (held-leaf s c.first n t w e h)))
    pick (join j ps l r) e h = record {
      some = omega (arith, nodes-some l, e);
      stands = record {
        tree = r;
        first = c.first + nodes l;
        last = omega (arith, nodes-some r, e);
        stands = h.1.0;
        few = omega (arith, c.few);
      };
    }
    pick (group cols aggs i) e h = record {
      some = omega (arith, nodes-some i, e);
      stands = record { tree = i; first = c.first; last = omega (arith, nodes-some i, e); stands = h.0; few = omega (arith, c.few) };
    }

-- ---- widths are small: a node of 255 and 255 columns at the most for each node below

pub width_small : (s : List ℕ) → Bytes s → (t : Plan) (f : ℕ) → Stands s f t → width t ≤ 510 * nodes t
unfolding width nodes Stands
width_small s b (leaf t w) f h = let q : byte s (start_of s f + 2) ≡ w = h.same 2 (lit< tt) in omega (arith, b (start_of s f + 2))
width_small s b (join j ps l r) f h = omega (arith, width_small s b l f h.0, width_small s b r (f + nodes l) h.1.0)
width_small s b (group cols aggs i) f h =
    omega (
      arith,
      group-columns s (start_of s (f + nodes i)) cols aggs h.1,
      group_aggregates s (start_of s (f + nodes i)) cols aggs h.1,
      b (start_of s (f + nodes i) + 1),
      b (start_of s (f + nodes i) + 2),
    )

-- ---- a grouping, at the n-th node

module _ {s : List ℕ} {n at : ℕ} (c : Standing s n) (here : at ≡ start_of s n) (four : byte s at ≡ 4) where
  group-here : byte s (start_of s n) ≡ 4
  group-here = sym (ap (byte s) here) ∙ four

  -- the node ends inside the string
  pub group-inside : at + group_size s at ≤ length s
  group-inside = subst (λ (a : ℕ). a + group_size s a ≤ length s) (sym here) (pick c.tree c.last c.stands)
    where
      pick : (t : Plan) → c.first + nodes t ≡ n + 1 → Stands s c.first t → start_of s n + group_size s (start_of s n) ≤ length s
      pick (leaf t w) e h = absurd (let q : byte s (start_of s n) ≡ 0 = tag-leaf s (start_of s n) t w (held-leaf s c.first n t w e h) in omega (arith, group-here))
      pick (join j ps l r) e h = absurd (join_no_group s (start_of s n) j ps (held-join s c.first n j ps l r e h) group-here)
      pick (group cols aggs i) e h =
          let g : Holds s (start_of s n) (group_bytes cols aggs) = held-group s c.first n cols aggs i e h in
          omega (arith, g.fits, group-long s (start_of s n) cols aggs g)

  -- what the input's node and the grouping above it describe
  pub group_describes : (i out : Node) → Describes s (n - 1) i → DescribesGroup s at i out → Describes s n out
  unfolding Stands nodes
  group_describes i out below above (leaf t w) f e h =
      absurd (let q : byte s (start_of s n) ≡ 0 = tag-leaf s (start_of s n) t w (held-leaf s f n t w e h) in omega (arith, group-here))
  group_describes i out below above (join j ps l r) f e h = absurd (join_no_group s (start_of s n) j ps (held-join s f n j ps l r e h) group-here)
  group_describes i out below above (group cols aggs p) f e h =
      above cols aggs p f
      (holds_to (sym here) (held-group s f n cols aggs p e h))
      (below p f (omega (arith, nodes-some p, e)) h.0)

-- ---- a join, at the n-th node

module _ {s : List ℕ} {n at : ℕ} (c : Standing s n) (here : at ≡ start_of s n) (b : Bytes s) (table : byte s at ≡ 0 → ⊥) (four : byte s at ≡ 4 → ⊥)
    (r : Node) (right : Describes s (n - 1) r) where
  no_table : byte s (start_of s n) ≡ 0 → ⊥
  no_table q = table (ap (byte s) here ∙ q)

  no_group : byte s (start_of s n) ≡ 4 → ⊥
  no_group q = four (ap (byte s) here ∙ q)

  -- the left input stands before the right one's first node
  pub record Left : Type 0 where
    pub some : 0 < r.first
    pub below : r.first - 1 < n
    pub stands : Standing s (r.first - 1)
    pub inside : at + join_size s at ≤ length s
    pub right-small : r.width < 65536

  pub left-node : Left
  unfolding Stands nodes
  left-node = pick c.tree c.last c.stands
    where
      pick : (t : Plan) → c.first + nodes t ≡ n + 1 → Stands s c.first t → Left
      pick (leaf t w) e h = absurd (no_table (tag-leaf s (start_of s n) t w (held-leaf s c.first n t w e h)))
      pick (group cols aggs i) e h = absurd (no_group (group-number s (start_of s n) cols aggs (held-group s c.first n cols aggs i e h)))
      pick (join j ps p q) e h =
          let d : Described q (c.first + nodes p) r = right q (c.first + nodes p) (omega (arith, nodes-some q, e)) h.1.0 in
          let g : Holds s (start_of s n) (join_bytes j ps) = held-join s c.first n j ps p q e h in
          record {
            some = omega (arith, d.starts, nodes-some p);
            below = omega (arith, d.starts, nodes-some p, nodes-some q, e);
            stands = record {
              tree = p;
              first = c.first;
              last = omega (arith, d.starts, nodes-some p);
              stands = h.0;
              few = omega (arith, d.starts, c.few, e);
            };
            inside = subst (λ (a : ℕ). a + join_size s a ≤ length s) (sym here) (omega (arith, g.fits, join-long s (start_of s n) j ps g));
            right-small = omega (arith, d.wide, width_small s b q (c.first + nodes p) h.1.0, c.few, e);
          }

  module _ (l : Node) (left : Describes s (r.first - 1) l) where
    pub left-small : l.width < 65536
    unfolding Stands nodes
    left-small = pick c.tree c.last c.stands
      where
        pick : (t : Plan) → c.first + nodes t ≡ n + 1 → Stands s c.first t → l.width < 65536
        pick (leaf t w) e h = absurd (no_table (tag-leaf s (start_of s n) t w (held-leaf s c.first n t w e h)))
        pick (group cols aggs i) e h = absurd (no_group (group-number s (start_of s n) cols aggs (held-group s c.first n cols aggs i e h)))
        pick (join j ps p q) e h =
            let d : Described q (c.first + nodes p) r = right q (c.first + nodes p) (omega (arith, nodes-some q, e)) h.1.0 in
            let k : Described p c.first l = left p c.first (omega (arith, d.starts, nodes-some p)) h.0 in
            omega (arith, k.wide, width_small s b p c.first h.0, c.few, e)

    -- what the inputs' nodes and the join above them describe
    pub join_describes : (out : Node) → DescribesJoin s at l r out → Describes s n out
    unfolding Stands nodes
    join_describes out above (leaf t w) f e h = absurd (no_table (tag-leaf s (start_of s n) t w (held-leaf s f n t w e h)))
    join_describes out above (group cols aggs i) f e h = absurd (no_group (group-number s (start_of s n) cols aggs (held-group s f n cols aggs i e h)))
    join_describes out above (join j ps p q) f e h =
        let d : Described q (f + nodes p) r = right q (f + nodes p) (omega (arith, nodes-some q, e)) h.1.0 in
        above j ps p q f (holds_to (sym here) (held-join s f n j ps p q e h)) (left p f (omega (arith, d.starts, nodes-some p)) h.0) d

-- ---- a table, at the n-th node

pub table_describes : {s : List ℕ} {n at : ℕ} → Standing s n → at ≡ start_of s n → byte s at ≡ 0 → (w : ℕ) → w ≡ byte s (at + 2)
    → (out : Node) → DescribesTable n w out → Describes s n out
unfolding Stands nodes
table_describes {s} {n} c here z w q out d (leaf t v) f e h =
    let x : byte s (start_of s n + 2) ≡ v = (held-leaf s f n t v e h).same 2 (lit< tt) in
    let wide : w ≡ v = q ∙ ap (λ (a : ℕ). byte s (a + 2)) here ∙ x in
    let at_f : n ≡ f = omega arith in
    subst (λ (k : ℕ). Described (leaf t v) k out) at_f (subst (λ (k : ℕ). Described (leaf t k) n out) wide (d t))
table_describes {s} {n} c here z w q out d (join j ps l r) f e h =
    absurd (join_no_table s (start_of s n) j ps (held-join s f n j ps l r e h) (sym (ap (byte s) here) ∙ z))
table_describes {s} {n} c here z w q out d (group cols aggs i) f e h =
    absurd (group_no_table s (start_of s n) cols aggs (held-group s f n cols aggs i e h) (sym (ap (byte s) here) ∙ z))
