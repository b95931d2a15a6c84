-- What a worked example claims of a plan, and the test that it holds.
use Rattle.std.proofs.Common.{Bool, true, false, ◌&&◌, List, [], ◌∷◌, map, ℕ, ◌*◌, eqb, length, take, replicate, pos}
use Rattle.meaning.specs.Limits.{most_columns}
use Rattle.meaning.specs.Cells.{Cell, num}
use Rattle.meaning.specs.Plans.{Table, Plan}
use Rattle.meaning.specs.Columns.{width, nodes}
use Rattle.meaning.specs.Arrangement.{bytes}
use Rattle.meaning.specs.Grouping.{same_key}
use Rattle.meaning.specs.Meaning.{meaning}
use Rattle.meaning.specs.Check.{all}
use Rattle.meaning.specs.Running.{Lent, Areas, Ran, cell_number, cell_mark, flat, run_of, tables_of}
use Rattle.meaning.specs.Rewriting.{Rewritten, rewrite_of}

-- a claim about lent tables and a plan
pub data Claim : Type 0 where
  -- the plan's root has this many rows
  counts : Plan → ℕ → Claim
  -- the plan's root has these rows
  gives : Plan → Table → Claim
  -- a run under this row limit, in room that is just enough, answers with this number and these rows
  runs : Plan → ℕ → ℕ → Table → Claim
  -- the rewriting at this place and side answers with this plan
  pushes : Plan → ℕ → ℕ → Plan → Claim
  -- the rewriting at this place and side answers with this number
  refuses : Plan → ℕ → ℕ → ℕ → Claim

unfoldable pub same_numbers : List ℕ → List ℕ → Bool
same_numbers [] [] = true
same_numbers [] (y ∷ ys) = false
same_numbers (x ∷ xs) [] = false
same_numbers (x ∷ xs) (y ∷ ys) = eqb x y && same_numbers xs ys

unfoldable pub same_table : Table → Table → Bool
same_table [] [] = true
same_table [] (y ∷ ys) = false
same_table (x ∷ xs) [] = false
same_table (x ∷ xs) (y ∷ ys) = same_key x y && same_table xs ys

-- areas of just the length that a run under the limit needs, filled with something else than 0
unfoldable pub areas_for : ℕ → Plan → Areas
areas_for limit p = record {
  work = replicate (nodes p * most_columns * limit) (pos 7);
  work_marks = replicate (nodes p * most_columns * limit) 7;
  result = replicate (width p * limit) (pos 7);
  result_marks = replicate (width p * limit) 7;
}

-- the rows that a run left in the result area, as the cells and marks of a table
unfoldable pub same_run : ℕ → Table → Ran → Bool
same_run n t r =
    eqb r.number n
    && (eqb r.count (length t)
    && (same_key (map num (take (length (flat t)) r.areas.result)) (map (λ (c : Cell). num (cell_number c)) (flat t))
    && same_numbers (take (length (flat t)) r.areas.result_marks) (map cell_mark (flat t))))

unfoldable pub same_rewriting : List ℕ → Rewritten → Bool
same_rewriting new r = eqb r.number 0 && (eqb r.count (length new) && same_numbers (take (length new) r.area) new)

unfoldable pub holds : Lent → Claim → Bool
holds m (counts p n) = eqb (length (meaning (tables_of m) p)) n
holds m (gives p t) = same_table (meaning (tables_of m) p) t
holds m (runs p limit n t) = same_run n t (run_of m limit (areas_for limit p) p)
holds m (pushes p place side new) = same_rewriting (bytes new) (rewrite_of place side (replicate 512 7) p)
holds m (refuses p place side n) = eqb (rewrite_of place side (replicate 512 7) p).number n

-- a worked example: lent tables, and the claims over them
pub record Example : Type 0 where
  pub lent : Lent
  pub claims : List Claim

unfoldable pub right : Example → Bool
right e = all (holds e.lent) e.claims
