-- The plan of a byte string: its nodes are read from the front, and the trees that no node has taken yet stand on a stack.
-- Every plan is read back from its string, and a string that a plan is read from is that plan's.
use Rattle.std.proofs.Common.{◌≡◌, refl, sym, ap, subst, ◌∙◌, Bool, true, false, cond, ◌&&◌, List, [], ◌∷◌, ◌++◌, append_assoc, ℕ, zero, suc, ◌+◌, ◌-◌, ◌<◌, ◌≤◌, arith, eqb, leb, lit<, length, length-append, ne_eqb, leb-true, le-leb}
use mathlib.Core.Option.{Option, some, none}
use native.Mathlib.Decide.{dec_lt}
use lib.Dec.{eqb-suc-zero}
use borrow.Author.Tests.{lt-leb}
use Rattle.meaning.specs.Plans.{Aggregate, Pair, Join, Plan, leaf, join, group}
use Rattle.meaning.specs.Columns.{nodes}
use Rattle.meaning.specs.Arrangement.{join_bytes, group_bytes, bytes, Answers, for_no_plan, for_plan}
use Rattle.node_bytes.specs.Holding.{Holds, holds_head, holds-front, holds_back, holds-both, holds_to, holds-self, holds-all}
use Rattle.node_bytes.specs.Words.{Bytes}
use Rattle.node_bytes.specs.Nodes.{byte, join_size, group_size, join_good, group_good, size_if, node_size}
use Rattle.arrangement.proofs.Roots.{leaf-size, leaf-holds, pairs_from, kind-some, kind_no_group, join_at, join-number, join_back, pairs_back, join-size, join-holds, columns_from, aggregates_from, group-number, columns_back, aggregates_back, group-size, group-holds}

-- the stack after a join and after a grouping; none where too few trees stand there
unfoldable pub joined : Join → List Pair → List Plan → Option (List Plan)
joined j ps [] = none
joined j ps (r ∷ []) = none
joined j ps (r ∷ l ∷ rest) = some (join j ps l r ∷ rest)

unfoldable pub grouped : List ℕ → List Aggregate → List Plan → Option (List Plan)
grouped cols aggs [] = none
grouped cols aggs (i ∷ rest) = some (group cols aggs i ∷ rest)

-- the stack after the node at a place
unfoldable pub grown : List ℕ → ℕ → List Plan → Option (List Plan)
grown s at st =
    cond (eqb (byte s at) 0) (some (leaf (byte s (at + 1)) (byte s (at + 2)) ∷ st))
    (cond (eqb (byte s at) 4) (grouped (columns_from s at) (aggregates_from s at) st) (joined (join_at s at) (pairs_from s at) st))

-- the plan, where one tree is left
unfoldable pub only : List Plan → Option Plan
only [] = none
only (p ∷ []) = some p
only (p ∷ q ∷ rest) = none

-- what is built of a stack, where there is one
unfoldable pub after : Option (List Plan) → (List Plan → Option Plan) → Option Plan
after none f = none
after (some st) f = f st

-- the rest of the string from a place on; the first number bounds the nodes that are left
unfoldable pub build : ℕ → List ℕ → ℕ → List Plan → Option Plan
build zero s at st = none
build (suc f) s at st =
    cond (leb (length s) at) (only st)
    (cond (eqb (node_size s at) 0) none (after (grown s at st) (λ (next : List Plan). build f s (at + node_size s at) next)))

unfoldable pub plan_of : List ℕ → Option Plan
plan_of s = build (suc (length s)) s 0 []

-- ---- what is written is read

-- one node more
build-node : (f : ℕ) (s : List ℕ) (at k : ℕ) (st next : List Plan) → at < length s → node_size s at ≡ suc k → grown s at st ≡ some next
    → build (suc f) s at st ≡ build f s (at + suc k) next
unfolding build after
build-node f s at k st next l e g = simp (lt-leb (length s) at l, e, g, eqb-suc-zero k)

pub join-some : (j : Join) (ps : List Pair) → 3 < length (join_bytes j ps)
unfolding join_bytes
join-some j ps = omega arith

pub group-some : (cols : List ℕ) (aggs : List Aggregate) → 2 < length (group_bytes cols aggs)
unfolding group_bytes
group-some cols aggs = omega arith

module _ (s : List ℕ) where
  grown-leaf : (at t w : ℕ) (st : List Plan) → Holds s at (0 ∷ t ∷ w ∷ []) → grown s at st ≡ some (leaf t w ∷ st)
  unfolding grown
  grown-leaf at t w st h = simp (holds_head h, h.same 1 (lit< tt), h.same 2 (lit< tt))

  grown-group : (at : ℕ) (cols : List ℕ) (aggs : List Aggregate) (i : Plan) (st : List Plan) → Holds s at (group_bytes cols aggs)
      → grown s at (i ∷ st) ≡ some (group cols aggs i ∷ st)
  unfolding grown grouped
  grown-group at cols aggs i st h =
      rw (group-number s at cols aggs h) (rw (columns_back s at cols aggs h, aggregates_back s at cols aggs h))

  grown-join : (at : ℕ) (j : Join) (ps : List Pair) (l r : Plan) (st : List Plan) → Holds s at (join_bytes j ps)
      → grown s at (r ∷ l ∷ st) ≡ some (join j ps l r ∷ st)
  unfolding grown joined
  grown-join at j ps l r st h =
      let no : eqb (byte s at) 0 ≡ false = ap (λ (n : ℕ). eqb n 0) (join-number s at j ps h) ∙ kind-some j in
      let four : eqb (byte s at) 4 ≡ false = ap (λ (n : ℕ). eqb n 4) (join-number s at j ps h) ∙ kind_no_group j in
      rw (no, four) (rw (join_back s at j ps h, pairs_back s at j ps h))

  -- the root of a plan, behind its inputs
  build-root : (f at : ℕ) (root : List ℕ) (st next : List Plan) → 0 < length root → Holds s at root → node_size s at ≡ length root
      → grown s at st ≡ some next → build (suc f) s at st ≡ build f s (at + length root) next
  build-root f at [] st next l h e g = absurd (omega arith)
  build-root f at (x ∷ xs) st next l h e g = build-node f s at (length xs) st next (omega (arith, h.fits)) e g

  -- a plan's bytes put the plan on the stack
  pub build-plan : (t : Plan) (f at : ℕ) (st : List Plan) → Holds s at (bytes t)
      → build (nodes t + f) s at st ≡ build f s (at + length (bytes t)) (t ∷ st)
  unfolding bytes nodes
  build-plan (leaf t w) f at st h =
      let q : 1 + f ≡ suc f = omega arith in
      ap (λ (n : ℕ). build n s at st) q
      ∙ build-node f s at 2 st (leaf t w ∷ st) (omega (arith, h.fits)) (leaf-size s at t w h) (grown-leaf at t w st h)
  build-plan (join j ps l r) f at st h =
      let hl : Holds s at (bytes l) = holds-front (bytes l) (bytes r ++ join_bytes j ps) h in
      let rest : Holds s (at + length (bytes l)) (bytes r ++ join_bytes j ps) = holds_back (bytes l) (bytes r ++ join_bytes j ps) h in
      let hr : Holds s (at + length (bytes l)) (bytes r) = holds-front (bytes r) (join_bytes j ps) rest in
      let root : Holds s (at + length (bytes l) + length (bytes r)) (join_bytes j ps) = holds_back (bytes r) (join_bytes j ps) rest in
      let q : nodes l + nodes r + 1 + f ≡ nodes l + (nodes r + suc f) = omega arith in
      let e : at + length (bytes l) + length (bytes r) + length (join_bytes j ps) ≡ at + length (bytes l ++ (bytes r ++ join_bytes j ps)) =
      omega (arith, length-append (bytes l) (bytes r ++ join_bytes j ps), length-append (bytes r) (join_bytes j ps)) in
      ap (λ (n : ℕ). build n s at st) q
      ∙ build-plan l (nodes r + suc f) at st hl
      ∙ build-plan r (suc f) (at + length (bytes l)) (l ∷ st) hr
      ∙ build-root f (at + length (bytes l) + length (bytes r)) (join_bytes j ps) (r ∷ l ∷ st) (join j ps l r ∷ st) (omega (arith, join-some j ps)) root
      (join-size s (at + length (bytes l) + length (bytes r)) j ps root) (grown-join (at + length (bytes l) + length (bytes r)) j ps l r st root)
      ∙ ap (λ (n : ℕ). build f s n (join j ps l r ∷ st)) e
  build-plan (group cols aggs i) f at st h =
      let hi : Holds s at (bytes i) = holds-front (bytes i) (group_bytes cols aggs) h in
      let root : Holds s (at + length (bytes i)) (group_bytes cols aggs) = holds_back (bytes i) (group_bytes cols aggs) h in
      let q : nodes i + 1 + f ≡ nodes i + suc f = omega arith in
      let e : at + length (bytes i) + length (group_bytes cols aggs) ≡ at + length (bytes i ++ group_bytes cols aggs) =
      omega (arith, length-append (bytes i) (group_bytes cols aggs)) in
      ap (λ (n : ℕ). build n s at st) q
      ∙ build-plan i (suc f) at st hi
      ∙ build-root f (at + length (bytes i)) (group_bytes cols aggs) (i ∷ st) (group cols aggs i ∷ st) (omega (arith, group-some cols aggs)) root
      (group-size s (at + length (bytes i)) cols aggs root) (grown-group (at + length (bytes i)) cols aggs i st root)
      ∙ ap (λ (n : ℕ). build f s n (group cols aggs i ∷ st)) e

-- a node has at least one byte
pub nodes-few : (p : Plan) → nodes p ≤ length (bytes p)
unfolding nodes bytes
nodes-few (leaf t w) = omega arith
nodes-few (join j ps l r) =
    omega (arith, nodes-few l, nodes-few r, join-some j ps, length-append (bytes l) (bytes r ++ join_bytes j ps), length-append (bytes r) (join_bytes j ps))
nodes-few (group cols aggs i) = omega (arith, nodes-few i, group-some cols aggs, length-append (bytes i) (group_bytes cols aggs))

build_end : (f : ℕ) (s : List ℕ) (at : ℕ) (p : Plan) → length s ≤ at → build (suc f) s at (p ∷ []) ≡ some p
unfolding build only
build_end f s at p h = simp (le-leb (length s) at h)

-- every plan is read back from its string
pub plan_back : (p : Plan) → plan_of (bytes p) ≡ some p
unfolding plan_of
plan_back p =
    let few : nodes p ≤ length (bytes p) = nodes-few p in
    let q : suc (length (bytes p)) ≡ nodes p + suc (length (bytes p) - nodes p) = omega arith in
    ap (λ (n : ℕ). build n (bytes p) 0 []) q
    ∙ build-plan (bytes p) p (suc (length (bytes p) - nodes p)) 0 [] (holds-self (bytes p))
    ∙ build_end (length (bytes p) - nodes p) (bytes p) (0 + length (bytes p)) p (omega arith)

-- ---- what is read was written

-- the bytes of the trees on a stack, the last one on top
unfoldable pub stack_bytes : List Plan → List ℕ
stack_bytes [] = []
stack_bytes (t ∷ st) = stack_bytes st ++ bytes t

-- the string up to a place is the bytes of the stack
record Stacked (s : List ℕ) (at : ℕ) (st : List Plan) : Type 0 where
  held : Holds s 0 (stack_bytes st)
  long : length (stack_bytes st) ≡ at

-- a root behind what it takes
stacked_more : (s : List ℕ) (at : ℕ) (st next : List Plan) (root : List ℕ) → Stacked s at st → Holds s at root
    → stack_bytes st ++ root ≡ stack_bytes next → Stacked s (at + length root) next
stacked_more s at st next root k h e =
    record {
      held =
          subst (λ (l : List ℕ). Holds s 0 l) e
          (holds-both (stack_bytes st) root k.held (holds_to (let q : at ≡ 0 + length (stack_bytes st) = omega (arith, k.long) in q) h));
      long = ap length (sym e) ∙ length-append (stack_bytes st) root ∙ ap (λ (n : ℕ). n + length root) k.long;
    }

-- a size that is not 0 is a node's
record Sized (s : List ℕ) (at n : ℕ) (good : Bool) : Type 0 where
  inside : at + n ≤ length s
  right : good ≡ true
  size : size_if s at n good ≡ n

sized : (s : List ℕ) (at n : ℕ) (good : Bool) → eqb (size_if s at n good) 0 ≡ false → Sized s at n good
unfolding size_if
sized s at n good e = pick (leb (at + n) (length s)) refl good e
  where
    pick : (b : Bool) → leb (at + n) (length s) ≡ b → (g : Bool) → eqb (cond (b && g) n 0) 0 ≡ false → Sized s at n g
    pick true p true e = record { inside = leb-true _ _ p; right = refl; size = simp p }
    pick true p false e = let z : ◌≡◌ {A = ℕ} 0 1 = cc in absurd (omega arith)
    pick false p g e = let z : ◌≡◌ {A = ℕ} 0 1 = cc in absurd (omega arith)

some_same : {x y : List Plan} → ◌≡◌ {A = Option (List Plan)} (some x) (some y) → x ≡ y
some_same q = cc

none-some : {X A : Type 0} {y : A} → ◌≡◌ {A = Option A} none (some y) → X
none-some q = let z : ◌≡◌ {A = ℕ} 0 1 = cc in absurd (omega arith)

-- the bytes of a node behind those that it takes
after-join : (j : Join) (ps : List Pair) (st next : List Plan) → joined j ps st ≡ some next → stack_bytes st ++ join_bytes j ps ≡ stack_bytes next
unfolding joined stack_bytes bytes
after-join j ps [] next g = none-some g
after-join j ps (r ∷ []) next g = none-some g
after-join j ps (r ∷ l ∷ rest) next g =
    rw (← some_same g)
    (append_assoc (stack_bytes rest ++ bytes l) (bytes r) (join_bytes j ps) ∙ append_assoc (stack_bytes rest) (bytes l) (bytes r ++ join_bytes j ps))

after-group : (cols : List ℕ) (aggs : List Aggregate) (st next : List Plan) → grouped cols aggs st ≡ some next
    → stack_bytes st ++ group_bytes cols aggs ≡ stack_bytes next
unfolding grouped stack_bytes bytes
after-group cols aggs [] next g = none-some g
after-group cols aggs (i ∷ rest) next g = rw (← some_same g) (append_assoc (stack_bytes rest) (bytes i) (group_bytes cols aggs))

after-leaf : (t w : ℕ) (st next : List Plan) → ◌≡◌ {A = Option (List Plan)} (some (leaf t w ∷ st)) (some next)
    → stack_bytes st ++ (0 ∷ t ∷ w ∷ []) ≡ stack_bytes next
unfolding stack_bytes bytes
after-leaf t w st next g = rw (← some_same g)

module _ (s : List ℕ) (b : Bytes s) (at : ℕ) (st next : List Plan) (k : Stacked s at st) (g : grown s at st ≡ some next) where
  -- a node that is read stands behind the stack, whichever it is
  sound_by : (root : List ℕ) → Holds s at root → node_size s at ≡ length root → stack_bytes st ++ root ≡ stack_bytes next
      → Stacked s (at + node_size s at) next
  sound_by root h n e = rw n (stacked_more s at st next root k h e)

  sound_leaf : byte s at ≡ 0 → eqb (node_size s at) 0 ≡ false → Stacked s (at + node_size s at) next
  unfolding node_size grown
  sound_leaf p e =
      let z : Sized s at 3 true = sized s at 3 true (rw p at e) in
      let h : Holds s at (0 ∷ byte s (at + 1) ∷ byte s (at + 2) ∷ []) = leaf-holds s at z.inside p in
      sound_by (0 ∷ byte s (at + 1) ∷ byte s (at + 2) ∷ []) h (leaf-size s at (byte s (at + 1)) (byte s (at + 2)) h)
      (after-leaf (byte s (at + 1)) (byte s (at + 2)) st next (rw p at g))

  sound_join : 0 < byte s at → byte s at ≤ 3 → eqb (node_size s at) 0 ≡ false → Stacked s (at + node_size s at) next
  unfolding node_size grown
  sound_join l m e =
      let no : eqb (byte s at) 0 ≡ false = ne_eqb (byte s at) 0 (λ q. omega arith) in
      let four : eqb (byte s at) 4 ≡ false = ne_eqb (byte s at) 4 (λ q. omega arith) in
      let z : Sized s at (join_size s at) (join_good s at) = sized s at (join_size s at) (join_good s at) (rw (no, le-leb (byte s at) 3 m) at e) in
      let h : Holds s at (join_bytes (join_at s at) (pairs_from s at)) = join-holds s b at z.inside z.right (l, m) in
      sound_by (join_bytes (join_at s at) (pairs_from s at)) h (join-size s at (join_at s at) (pairs_from s at) h)
      (after-join (join_at s at) (pairs_from s at) st next (rw (no, four) at g))

  sound_group : byte s at ≡ 4 → eqb (node_size s at) 0 ≡ false → Stacked s (at + node_size s at) next
  unfolding node_size grown
  sound_group p e =
      let z : Sized s at (group_size s at) (group_good s at) = sized s at (group_size s at) (group_good s at) (rw p at e) in
      let h : Holds s at (group_bytes (columns_from s at) (aggregates_from s at)) = group-holds s at z.inside z.right p in
      sound_by (group_bytes (columns_from s at) (aggregates_from s at)) h (group-size s at (columns_from s at) (aggregates_from s at) h)
      (after-group (columns_from s at) (aggregates_from s at) st next (rw p at g))

  sound_none : 4 < byte s at → eqb (node_size s at) 0 ≡ false → Stacked s (at + node_size s at) next
  unfolding node_size
  sound_none l e =
      let no : eqb (byte s at) 0 ≡ false = ne_eqb (byte s at) 0 (λ q. omega arith) in
      let three : leb (byte s at) 3 ≡ false = lt-leb (byte s at) 3 (omega arith) in
      let four : eqb (byte s at) 4 ≡ false = ne_eqb (byte s at) 4 (λ q. omega arith) in
      let f : true ≡ false = rw (no, three, four) at e in
      let z : ◌≡◌ {A = ℕ} 0 1 = cc in absurd (omega arith)

  grown_sound : eqb (node_size s at) 0 ≡ false → Stacked s (at + node_size s at) next
  grown_sound e = pick (dec_lt 0 (byte s at)) (dec_lt (byte s at) 4) (dec_lt 4 (byte s at))
    where
      pick : Dec (0 < byte s at) → Dec (byte s at < 4) → Dec (4 < byte s at) → Stacked s (at + node_size s at) next
      pick (no p) q r = sound_leaf (omega arith) e
      pick (yes p) (yes q) r = sound_join p (omega arith) e
      pick (yes p) (no q) (yes r) = sound_none r e
      pick (yes p) (no q) (no r) = sound_group (omega arith) e

-- the last tree is the plan of the whole string
only_sound : (s : List ℕ) (at : ℕ) (st : List Plan) (p : Plan) → Stacked s at st → length s ≤ at → only st ≡ some p → bytes p ≡ s
unfolding only stack_bytes
only_sound s at [] p k l e = none-some e
only_sound s at (q ∷ []) p k l e =
    let same : q ≡ p = cc in
    let long : length (bytes q) ≡ at = k.long in
    ap bytes (sym same) ∙ holds-all k.held (omega (arith, k.held.fits))
only_sound s at (q ∷ r ∷ rest) p k l e = none-some e

build_sound : (s : List ℕ) → Bytes s → (f at : ℕ) (st : List Plan) (p : Plan) → Stacked s at st → build f s at st ≡ some p → bytes p ≡ s
unfolding build after
build_sound s b zero at st p k e = none-some e
build_sound s b (suc f) at st p k e =
    pick (leb (length s) at) refl (eqb (node_size s at) 0) refl (grown s at st) refl
    (λ next l q. build_sound s b f (at + node_size s at) next p l q) e
  where
    pick : (c : Bool) → leb (length s) at ≡ c → (d : Bool) → eqb (node_size s at) 0 ≡ d → (o : Option (List Plan)) → grown s at st ≡ o
        → ((next : List Plan) → Stacked s (at + node_size s at) next → build f s (at + node_size s at) next ≡ some p → bytes p ≡ s)
        → cond c (only st) (cond d none (after o (λ (next : List Plan). build f s (at + node_size s at) next))) ≡ some p → bytes p ≡ s
    pick true x d y o z ih e = only_sound s at st p k (leb-true _ _ x) e
    pick false x true y o z ih e = none-some e
    pick false x false y none z ih e = none-some e
    pick false x false y (some next) z ih e = ih next (grown_sound s b at st next k z y) e

-- a string that a plan is read from is that plan's
pub plan_sound : (s : List ℕ) → Bytes s → (p : Plan) → plan_of s ≡ some p → bytes p ≡ s
unfolding plan_of stack_bytes
plan_sound s b p e =
    build_sound s b (suc (length s)) 0 [] p
    (record { held = record { fits = omega arith; same = λ i l. absurd (omega arith) }; long = refl })
    e

-- ---- one plan, one string

-- two plans with one string are one plan
pub bytes_injective : (p q : Plan) → bytes p ≡ bytes q → p ≡ q
bytes_injective p q e =
    let o : ◌≡◌ {A = Option Plan} (some p) (some q) = sym (plan_back p) ∙ ap plan_of e ∙ plan_back q in
    cc

-- a string is no plan's exactly where no plan is read from it
pub no_plan_lem : (s : List ℕ) → plan_of s ≡ none → (p : Plan) → bytes p ≡ s → ⊥
no_plan_lem s e p q = none-some (sym e ∙ ap plan_of (sym q) ∙ plan_back p)

-- a job has one answer for a byte string
pub one_answer : {A : Type 0} {no_plan : A} {of_plan : Plan → A} {given : List ℕ} {a b : A}
    → Answers no_plan of_plan given a → Answers no_plan of_plan given b → a ≡ b
one_answer (for_no_plan x) (for_no_plan y) = refl
one_answer (for_no_plan x) (for_plan q y) = absurd (x q y)
one_answer (for_plan p x) (for_no_plan y) = absurd (y p x)
one_answer {of_plan = f} (for_plan p x) (for_plan q y) = ap f (bytes_injective p q (x ∙ sym y))
