-- Where the nodes of a plan stand in its byte string.
use Rattle.std.specs.Prelude.{◌≡◌, refl, List, [], ◌∷◌, ◌++◌, ℕ, suc, ◌+◌, length}
use Rattle.std.proofs.Common.{sym, ap, subst, ◌∙◌, arith, length-append}
use Rattle.meaning.specs.Plans.{Plan, leaf, join, group}
use Rattle.meaning.specs.Columns.{nodes}
use Rattle.meaning.specs.Arrangement.{join_bytes, group_bytes, bytes}
use Rattle.node_bytes.specs.Holding.{Holds, holds-front, holds_back, holds_to, holds-self}
use Rattle.node_bytes.specs.Nodes.{node_size}
use Rattle.arrangement.proofs.Roots.{leaf-size, join-size, group-size}
use Rattle.shapes.specs.Shapes.{start_of}

-- a plan's nodes stand in a string one behind the other, the first as the f-th node of the string
unfoldable pub Stands : List ℕ → ℕ → Plan → Type 0
Stands s f (leaf t w) = Holds s (start_of s f) (0 ∷ t ∷ w ∷ [])
Stands s f (join j ps l r) = Stands s f l × (Stands s (f + nodes l) r × Holds s (start_of s (f + nodes l + nodes r)) (join_bytes j ps))
Stands s f (group cols aggs i) = Stands s f i × Holds s (start_of s (f + nodes i)) (group_bytes cols aggs)

-- a plan whose bytes stand at the start of the f-th node stands from there on, and the next node starts behind it
pub record Placed (s : List ℕ) (at f : ℕ) (t : Plan) : Type 0 where
  pub stands : Stands s f t
  pub next : start_of s (f + nodes t) ≡ at + length (bytes t)

start-next : (s : List ℕ) (k at n : ℕ) → start_of s k ≡ at → node_size s at ≡ n → start_of s (k + 1) ≡ at + n
unfolding start_of
start-next s k at n e m = let q : k + 1 ≡ suc k = omega arith in simp (q, e, m)

pub placed : (t : Plan) (s : List ℕ) (at f : ℕ) → Holds s at (bytes t) → start_of s f ≡ at → Placed s at f t
unfolding Stands nodes bytes
placed (leaf t w) s at f h e =
    record { stands = holds_to (sym e) h; next = start-next s f at 3 e (leaf-size s at t w h) }
placed (join j ps l r) s at f h e =
    let hl : Holds s at (bytes l) = holds-front (bytes l) (bytes r ++ join_bytes j ps) h in
    let rest : Holds s (at + length (bytes l)) (bytes r ++ join_bytes j ps) = holds_back (bytes l) (bytes r ++ join_bytes j ps) h in
    let hr : Holds s (at + length (bytes l)) (bytes r) = holds-front (bytes r) (join_bytes j ps) rest in
    let root : Holds s (at + length (bytes l) + length (bytes r)) (join_bytes j ps) = holds_back (bytes r) (join_bytes j ps) rest in
    let pl : Placed s at f l = placed l s at f hl e in
    let pr : Placed s (at + length (bytes l)) (f + nodes l) r = placed r s (at + length (bytes l)) (f + nodes l) hr pl.next in
    let q : f + (nodes l + nodes r + 1) ≡ f + nodes l + nodes r + 1 = omega arith in
    let m : at + length (bytes l) + length (bytes r) + length (join_bytes j ps) ≡ at + length (bytes l ++ (bytes r ++ join_bytes j ps)) =
    omega (arith, length-append (bytes l) (bytes r ++ join_bytes j ps), length-append (bytes r) (join_bytes j ps)) in
    record {
      stands = (pl.stands, (pr.stands, holds_to (sym pr.next) root));
      next =
          ap (start_of s) q
          ∙ start-next s (f + nodes l + nodes r) (at + length (bytes l) + length (bytes r)) (length (join_bytes j ps)) pr.next
          (join-size s (at + length (bytes l) + length (bytes r)) j ps root)
          ∙ m;
    }
placed (group cols aggs i) s at f h e =
    let hi : Holds s at (bytes i) = holds-front (bytes i) (group_bytes cols aggs) h in
    let root : Holds s (at + length (bytes i)) (group_bytes cols aggs) = holds_back (bytes i) (group_bytes cols aggs) h in
    let pi : Placed s at f i = placed i s at f hi e in
    let q : f + (nodes i + 1) ≡ f + nodes i + 1 = omega arith in
    let m : at + length (bytes i) + length (group_bytes cols aggs) ≡ at + length (bytes i ++ group_bytes cols aggs) =
    omega (arith, length-append (bytes i) (group_bytes cols aggs)) in
    record {
      stands = (pi.stands, holds_to (sym pi.next) root);
      next =
          ap (start_of s) q
          ∙ start-next s (f + nodes i) (at + length (bytes i)) (length (group_bytes cols aggs)) pi.next
          (group-size s (at + length (bytes i)) cols aggs root)
          ∙ m;
    }

-- a plan stands in its own string from the first node on
pub stands-whole : (p : Plan) (s : List ℕ) → bytes p ≡ s → Stands s 0 p
unfolding start_of
stands-whole p s e = (placed p s 0 0 (subst (λ (l : List ℕ). Holds s 0 l) (sym e) (holds-self s)) refl).stands
