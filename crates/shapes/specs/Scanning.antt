-- How far the loops over the nodes of a string have come: the one that counts trees, and the one that notes where nodes start.
use Rattle.std.specs.Prelude.{◌≡◌, refl, Bool, true, false, cond, List, ℕ, zero, suc, ◌+◌, ◌-◌, ◌<◌, ◌≤◌, eqb, length, get_or, set}
use Rattle.std.specs.Option.{unwrap_or}
use Rattle.std.proofs.Common.{sym, ap, ◌∙◌, arith, add-one, length-set, get_or-set_same, get_or-set_other, le-leb, lt-ltb, le-ltb, eq-eqb, ne_eqb}
use Rattle.std.proofs.Math.Decide.{dec_lt}
use borrow.Author.Tests.{lt-leb}
use Rattle.node_bytes.specs.Nodes.{byte, node_size, inputs}
use Rattle.shapes.specs.Shapes.{size_of, no_shape, ended, leaf_count, scan, shape_of, start_of}
use Rattle.shapes.specs.Sizes.{node-fits}

-- one turn of the scan
module _ (f : ℕ) (s : List ℕ) (at trees n l : ℕ) where
  pub scan-ends : length s ≤ at → scan (suc f) s at trees n l ≡ ended trees n l
  unfolding scan
  scan-ends h = simp (le-leb _ _ h)

  pub scan_bad : at < length s → node_size s at ≡ 0 → scan (suc f) s at trees n l ≡ no_shape
  unfolding scan
  scan_bad h z = simp (lt-leb _ _ h, eq-eqb _ _ z)

  pub scan-few : at < length s → (node_size s at ≡ 0 → ⊥) → trees < inputs (byte s at) → scan (suc f) s at trees n l ≡ no_shape
  unfolding scan
  scan-few h z t = simp (lt-leb _ _ h, ne_eqb _ _ z, lt-ltb _ _ t)

  pub scan_step : at < length s → (node_size s at ≡ 0 → ⊥) → inputs (byte s at) ≤ trees
      → scan (suc f) s at trees n l
      ≡ scan f s (at + node_size s at) (trees - inputs (byte s at) + 1) (n + 1) (l + leaf_count (byte s at))
  unfolding scan
  scan_step h z t = simp (lt-leb _ _ h, ne_eqb _ _ z, le-ltb _ _ t)

-- a node is one table at most
leaf-one : (tag : ℕ) → leaf_count tag ≤ 1
unfolding leaf_count
leaf-one tag = one (eqb tag 0)
  where
    one : (b : Bool) → cond b 1 0 ≤ 1
    one true = omega arith
    one false = omega arith

-- the count of tables after a table, and after any other node
pub table_counts : (tag l l' : ℕ) → tag ≡ 0 → l' ≡ l + 1 → l' ≡ l + leaf_count tag
unfolding leaf_count
table_counts tag l l' z e = simp (eq-eqb _ _ z) e

pub other-counts : (tag l l' : ℕ) → (tag ≡ 0 → ⊥) → l' ≡ l → l' ≡ l + leaf_count tag
unfolding leaf_count
other-counts tag l l' n e = simp (ne_eqb _ _ n) (omega arith)

-- the loop that counts trees has come to `at`, with so many trees, nodes and tables behind it
pub record Scanned (s : List ℕ) (at trees n l : ℕ) : Type 0 where
  pub rest : scan (suc (length s - n)) s at trees n l ≡ shape_of s
  pub within : at ≤ length s
  pub behind : n ≤ at
  pub few_trees : trees ≤ n
  pub few-tables : l ≤ n

pub scanned_starts : (s : List ℕ) → Scanned s 0 0 0 0
unfolding shape_of
scanned_starts s = record {
  rest = let q : length s - 0 ≡ length s = omega arith in simp q;
  within = omega arith;
  behind = omega arith;
  few_trees = omega arith;
  few-tables = omega arith;
}

module _ {s : List ℕ} {at trees n l : ℕ} (c : Scanned s at trees n l) where
  pub scanned_ends : length s ≤ at → ended trees n l ≡ shape_of s
  scanned_ends h = sym (scan-ends (length s - n) s at trees n l h) ∙ c.rest

  pub scanned_bad : at < length s → node_size s at ≡ 0 → no_shape ≡ shape_of s
  scanned_bad h z = sym (scan_bad (length s - n) s at trees n l h z) ∙ c.rest

  pub scanned_few : at < length s → (node_size s at ≡ 0 → ⊥) → trees < inputs (byte s at) → no_shape ≡ shape_of s
  scanned_few h z t = sym (scan-few (length s - n) s at trees n l h z t) ∙ c.rest

  -- a turn: the node's size and inputs and the count of tables are as the code has them
  pub scanned_step : {size taken l' : ℕ} → size ≡ node_size s at → taken ≡ inputs (byte s at) → l' ≡ l + leaf_count (byte s at)
      → at < length s → (size ≡ 0 → ⊥) → taken ≤ trees → Scanned s (at + size) (trees - taken + 1) (n + 1) l'
  scanned_step {size} {taken} {l'} es et el h z t = record {
    rest = rw (one_less, es, et, el, ← scan_step (length s - n) s at trees n l h sized enough) c.rest;
    within = omega (arith, node-fits s at, c.within);
    behind = omega (arith, c.behind);
    few_trees = omega (arith, c.few_trees);
    few-tables = omega (arith, c.few-tables, leaf-one (byte s at));
  }
    where
      one_less : suc (length s - (n + 1)) ≡ length s - n
      one_less = omega (arith, c.behind)

      sized : node_size s at ≡ 0 → ⊥
      sized e = z (es ∙ e)

      enough : inputs (byte s at) ≤ trees
      enough = omega arith

-- a node starts where the one before it ends
pub start-next : (s : List ℕ) (k : ℕ) → start_of s (k + 1) ≡ start_of s k + node_size s (start_of s k)
unfolding start_of
start-next s k = rw add-one refl

-- the loop that notes where nodes start has noted the first k, and the next one starts at `at`
pub record Started (s out : List ℕ) (at k : ℕ) : Type 0 where
  pub each : (j : ℕ) → j < k → get_or out j 0 ≡ start_of s j
  pub here : at ≡ start_of s k
  pub within : at ≤ length s
  pub wide : length out ≡ 12

pub started_starts : (s out : List ℕ) → length out ≡ 12 → Started s out 0 0
unfolding start_of
started_starts s out w = record { each = λ j h. absurd (omega arith); here = refl; within = omega arith; wide = w }

-- what a node's size moves a place by: none by nothing
pub moved : (n : ℕ) → unwrap_or (size_of n) 0 ≡ n
unfolding size_of
moved zero = refl
moved (suc n) = simp (ne_eqb (suc n) 0 (λ z. omega arith))

pub started_step : {s out : List ℕ} {at k size : ℕ} → Started s out at k → size ≡ unwrap_or (size_of (node_size s at)) 0 → k < 12
    → Started s (set out k at) (at + size) (k + 1)
started_step {s} {out} {at} {k} {size} c e h = record {
  each = λ j l. at_index j l (dec_lt j k);
  here = ap (λ (n : ℕ). at + n) (e ∙ moved (node_size s at)) ∙ ap (λ (a : ℕ). a + node_size s a) c.here ∙ sym (start-next s k);
  within = omega (arith, node-fits s at, c.within, moved (node_size s at));
  wide = simp length-set c.wide;
}
  where
    at_index : (j : ℕ) → j < k + 1 → Dec (j < k) → get_or (set out k at) j 0 ≡ start_of s j
    at_index j l (yes b) = get_or-set_other out k j at 0 (λ q. omega arith) ∙ c.each j b
    at_index j l (no b) = let q : j ≡ k = omega arith in rw q (get_or-set_same out k at 0 (omega (arith, c.wide)) ∙ c.here)

-- ---- a loop may note a start only where it has moved on to it: then `at` starts the node before the k-th

pub started_first : (s out : List ℕ) → length out ≡ 12 → get_or out 0 0 ≡ 0 → Started s out (0 + node_size s 0) 1
unfolding start_of
started_first s out w z = record {
  each = λ j h. let q : j ≡ 0 = omega arith in rw q z;
  here = refl;
  within = omega (arith, node-fits s 0);
  wide = w;
}

pub started_next : {s out : List ℕ} {next k : ℕ} (at : ℕ) → Started s out (at + node_size s at) k → next ≡ at + node_size s at → k < 12
    → Started s (set out k next) (next + node_size s next) (k + 1)
started_next {s} {out} {next} {k} at c e h = started_step (rw e c) (sym (moved (node_size s next))) h
