-- The runs of a list of rows, the neighbours of one key: what is made of each, and the law of a loop that goes from run to run by index.
use Rattle.std.proofs.Common.{◌≡◌, refl, ap, ◌∙◌, Bool, true, false, cond, List, [], ◌∷◌, ◌++◌, ℕ, zero, suc, ◌+◌, ◌-◌, ◌<◌, ◌≤◌, arith, length, get_or, take, drop, length-append, length-drop, drop-cons, drop-drop, get_or-drop}
use lib.Seq.{drop-length}
use Rattle.meaning.specs.Plans.{Row, Table, Aggregate}
use Rattle.meaning.specs.Grouping.{key, same_key, group_row}
use Rattle.groups.proofs.Keys.{key_equality}

-- how many rows at the front have a key
unfoldable pub run_length : List ℕ → Row → Table → ℕ
run_length cols k [] = 0
run_length cols k (r ∷ rs) = cond (same_key (key cols r) k) (suc (run_length cols k rs)) 0

-- what f makes of the key and the rows of each run behind the first n rows
unfoldable pub runs : {B : Type 0} → List ℕ → (Row → Table → B) → ℕ → Table → List B
runs cols f n [] = []
runs cols f zero (r ∷ rs) = f (key cols r) (r ∷ take (run_length cols (key cols r) rs) rs) ∷ runs cols f (run_length cols (key cols r) rs) rs
runs cols f (suc n) (r ∷ rs) = runs cols f n rs

unfoldable pub runs_of : List ℕ → List Aggregate → Table → Table
runs_of cols aggs u = runs cols (group_row aggs) 0 u

-- ---- the length of a run

module _ (cols : List ℕ) (k : Row) where
  -- and no other length is such
  pub run_only : (w : Table) (d : ℕ) → d ≤ length w → ((j : ℕ) → j < d → same_key (key cols (get_or w j [])) k ≡ true)
      → (d < length w → same_key (key cols (get_or w d [])) k ≡ false) → run_length cols k w ≡ d
  unfolding run_length
  run_only [] d l a s = omega arith
  run_only (r ∷ rs) zero l a s = rw (s (omega arith))
  run_only (r ∷ rs) (suc d) l a s =
      rw (a 0 (omega arith))
      (ap suc (run_only rs d (omega arith) (λ j m. a (suc j) (omega arith)) (λ m. s (omega arith))))

-- ---- the end of the run of the row at an index

pub record RunEnd (cols : List ℕ) (u : Table) (i e : ℕ) : Type 0 where
  pub after : i < e
  pub within : e ≤ length u
  pub alike : (j : ℕ) → i ≤ j → j < e → same_key (key cols (get_or u j [])) (key cols (get_or u i [])) ≡ true
  pub stops : e < length u → same_key (key cols (get_or u e [])) (key cols (get_or u i [])) ≡ false

module _ (cols : List ℕ) (u : Table) (i : ℕ) where
  module _ (e : ℕ) (h : RunEnd cols u i e) where
    behind-long : run_length cols (key cols (get_or u i [])) (drop (suc i) u) ≡ e - suc i
    behind-long =
        run_only cols (key cols (get_or u i [])) (drop (suc i) u) (e - suc i) (simp length-drop (omega (arith, h.within)))
        (λ j m. rw get_or-drop (h.alike (suc i + j) (omega arith) (omega arith)))
        (λ m. let l : e - suc i < length u - suc i = rw length-drop at m in
        let s : suc i + (e - suc i) ≡ e = omega (arith, h.after) in
        rw (get_or-drop, s) (h.stops (omega arith)))

-- ---- what is made of the runs from an index on

module _ {B : Type 0} (cols : List ℕ) (f : Row → Table → B) where
  pub runs-drop : (n : ℕ) (u : Table) → runs cols f n u ≡ runs cols f 0 (drop n u)
  unfolding runs
  runs-drop zero [] = refl
  runs-drop (suc n) [] = refl
  runs-drop zero (r ∷ rs) = refl
  runs-drop (suc n) (r ∷ rs) = runs-drop n rs

  pub runs-step : (u : Table) (i e : ℕ) → RunEnd cols u i e
      → runs cols f 0 (drop i u) ≡ f (key cols (get_or u i [])) (take (e - i) (drop i u)) ∷ runs cols f 0 (drop e u)
  unfolding runs
  runs-step u i e h =
      let l : i < length u = omega arith in
      let s : e - i ≡ suc (e - suc i) = omega arith in
      let t : suc i + (e - suc i) ≡ e = omega arith in
      rw (drop-cons u i [] l, behind-long cols u i e h, s)
      (ap (λ (x : List B). f (key cols (get_or u i [])) (get_or u i [] ∷ take (e - suc i) (drop (suc i) u)) ∷ x)
      (runs-drop (e - suc i) (drop (suc i) u) ∙ rw (drop-drop, t)))

  -- a row more makes at most a run more
  run_or_same : (k : Row) (u : Table) → length (runs cols f (run_length cols k u) u) ≤ length (runs cols f 0 u)
  unfolding runs run_length
  run_or_same k [] = omega arith
  run_or_same k (r ∷ rs) = step (same_key (key cols r) k) refl
    where
      step : (b : Bool) → same_key (key cols r) k ≡ b
          → length (runs cols f (cond b (suc (run_length cols k rs)) 0) (r ∷ rs)) ≤ length (runs cols f 0 (r ∷ rs))
      step true e = rw (key_equality.same (key cols r) k e) (omega arith)
      step false e = omega arith

  pub runs-few : (u : Table) (i : ℕ) → length (runs cols f 0 u) ≤ i + length (runs cols f 0 (drop i u))
  unfolding runs
  runs-few u zero = omega arith
  runs-few [] (suc i) = omega arith
  runs-few (r ∷ rs) (suc i) = omega (arith, run_or_same (key cols r) rs, runs-few rs i)

-- ---- the rows of the runs from an index on

abbrev pub rest : List ℕ → List Aggregate → Table → ℕ → Table
rest cols aggs u i = runs_of cols aggs (drop i u)

module _ (cols : List ℕ) (aggs : List Aggregate) (u : Table) where
  pub rest-none : rest cols aggs u (length u) ≡ []
  unfolding runs_of runs
  rest-none = rw drop-length

  pub rest-step : (i e : ℕ) → RunEnd cols u i e
      → rest cols aggs u i ≡ group_row aggs (key cols (get_or u i [])) (take (e - i) (drop i u)) ∷ rest cols aggs u e
  unfolding runs_of
  rest-step i e h = runs-step cols (group_row aggs) u i e h

  pub few-before : (i : ℕ) → length (runs_of cols aggs u) ≤ i + length (rest cols aggs u i)
  unfolding runs_of
  few-before i = runs-few cols (group_row aggs) u i

  -- the rows written before an index
  pub written-few : (out : Table) (i : ℕ) → out ++ rest cols aggs u i ≡ runs_of cols aggs u → length out ≤ i
  written-few out i h =
      let n : length (out ++ rest cols aggs u i) ≡ length (runs_of cols aggs u) = ap length h in
      omega (arith, length-append out (rest cols aggs u i), few-before i)
