-- Rows sorted by a grouping's columns, equal keys in their old order, have the grouping's groups as their runs; and there is one way to sort so.
use Rattle.std.proofs.Common.{◌≡◌, refl, sym, ap, ◌∙◌, Bool, true, false, cond, List, [], ◌∷◌, map, ℕ, zero, suc, ◌<◌, length, get_or, take, drop}
use Rattle.meaning.specs.Plans.{Row, Table, Aggregate}
use Rattle.meaning.specs.Joining.{keep, any}
use Rattle.meaning.specs.Grouping.{key, same_key, below_key, into_keys, keys_of, group_of, group_row, group_rows}
use Rattle.lists.specs.Equality.{any_same, has-keep, equal-swap}
use Rattle.lists.specs.Each.{Each, each_to, each_map, map_each, any-map, keep-none, each}
use Rattle.groups.proofs.Orders.{Rises, at_rises, rises-drop, below_both, below-differs, insert-least, insert_again, every_in_order, in_order-same}
use Rattle.groups.proofs.Keys.{key_equality, key-order, key-long, into_keys_inserts, keys_of_in_order}
use Rattle.groups.proofs.Runs.{run_length, runs, runs_of}

-- no row's key is below that of a row before it
abbrev pub Ascends : List ℕ → Table → Type 0
Ascends cols u = (i j : ℕ) → i < j → j < length u → below_key (key cols (get_or u j [])) (key cols (get_or u i [])) ≡ false

-- the rows of each key are the same, in the same order
abbrev pub Stable : List ℕ → Table → Table → Type 0
Stable cols u t = (k : Row) → keep (λ (r : Row). same_key (key cols r) k) u ≡ keep (λ (r : Row). same_key (key cols r) k) t

module _ (cols : List ℕ) where
  -- ---- tables with the same rows of each key

  pub same_rows : (u t : Table) → Stable cols u t → (r : Row) → any (same_key r) u ≡ any (same_key r) t
  same_rows u t h r =
      sym (has-keep key_equality (λ (s : Row). same_key (key cols s) (key cols r)) r (key_equality.self (key cols r)) u)
      ∙ ap (any (same_key r)) (h (key cols r))
      ∙ has-keep key_equality (λ (s : Row). same_key (key cols s) (key cols r)) r (key_equality.self (key cols r)) t

  all-long : (t : Table) → Each (λ (k : Row). length k ≡ length cols) (map (key cols) t)
  all-long t = each_map (λ (k : Row). length k ≡ length cols) (key cols) t (each (λ (r : Row). length (key cols r) ≡ length cols) (key-long cols) t)

  pub same_keys : (u t : Table) → Stable cols u t → keys_of cols u ≡ keys_of cols t
  same_keys u t h =
      keys_of_in_order cols u
      ∙ in_order-same (key-order (length cols)) (map (key cols) u) (map (key cols) t) (all-long u) (all-long t)
      (λ k. any-map (same_key k) (key cols) u
      ∙ any_same key_equality (λ (r : Row). same_key k (key cols r)) u t (same_rows u t h)
      ∙ sym (any-map (same_key k) (key cols) t))
      ∙ sym (keys_of_in_order cols t)

  every-key : (P : Row → Type 0) (t : Table) → Each (λ (r : Row). P (key cols r)) t → Each P (keys_of cols t)
  every-key P t h =
      rw (keys_of_in_order cols t)
      (every_in_order (key-order (length cols)) P (map (key cols) t) (each_map P (key cols) t h))

  -- ---- the first run of rows that ascend

  -- behind it, all keys are above its own
  behind-above : (k : Row) → length k ≡ length cols → (u : Table) → Each (λ (r : Row). below_key (key cols r) k ≡ false) u
      → Rises (λ (r s : Row). below_key (key cols r) (key cols s)) u
      → Each (λ (r : Row). below_key k (key cols r) ≡ true) (drop (run_length cols k u) u)
  unfolding run_length
  behind-above k long [] n h = tt
  behind-above k long (r ∷ rs) n h = step (same_key (key cols r) k) refl (behind-above k long rs n.1 h.1)
    where
      step : (b : Bool) → same_key (key cols r) k ≡ b
          → Each (λ (r : Row). below_key k (key cols r) ≡ true) (drop (run_length cols k rs) rs)
          → Each (λ (r : Row). below_key k (key cols r) ≡ true) (drop (cond b (suc (run_length cols k rs)) 0) (r ∷ rs))
      step true e i = i
      step false e i =
          let a : below_key k (key cols r) ≡ true = (key-order (length cols)).total (key cols r) k (key-long cols r) long n.0 e in (
            a,
            each_to (λ (s : Row). below_key (key cols s) (key cols r) ≡ false) (λ (s : Row). below_key k (key cols s) ≡ true)
                (λ s m. below_both (key-order (length cols)) k (key cols r) (key cols s) (key-long cols r) (key-long cols s) a m)
                rs h.0,
          )

  -- it is the group of its key
  run-group : (k : Row) (u : Table) → Each (λ (r : Row). same_key (key cols r) k ≡ false) (drop (run_length cols k u) u)
      → group_of cols k u ≡ take (run_length cols k u) u
  unfolding group_of keep run_length
  run-group k [] h = refl
  run-group k (r ∷ rs) h = step (same_key (key cols r) k) refl h (run-group k rs)
    where
      step : (b : Bool) → same_key (key cols r) k ≡ b
          → Each (λ (r : Row). same_key (key cols r) k ≡ false) (drop (cond b (suc (run_length cols k rs)) 0) (r ∷ rs))
          → (Each (λ (r : Row). same_key (key cols r) k ≡ false) (drop (run_length cols k rs) rs) → group_of cols k rs ≡ take (run_length cols k rs) rs)
          → cond b (r ∷ group_of cols k rs) (group_of cols k rs) ≡ take (cond b (suc (run_length cols k rs)) 0) (r ∷ rs)
      step true e h i = ap (λ (l : Table). r ∷ l) (i h)
      step false e h i = keep-none (λ (r : Row). same_key (key cols r) k) rs h.1

  -- no other group has a row in it
  other-group : (k l : Row) → same_key k l ≡ false → (u : Table) → group_of cols l u ≡ group_of cols l (drop (run_length cols k u) u)
  unfolding group_of keep run_length
  other-group k l n [] = refl
  other-group k l n (r ∷ rs) = step (same_key (key cols r) k) refl (other-group k l n rs)
    where
      step : (b : Bool) → same_key (key cols r) k ≡ b → group_of cols l rs ≡ group_of cols l (drop (run_length cols k rs) rs)
          → group_of cols l (r ∷ rs) ≡ group_of cols l (drop (cond b (suc (run_length cols k rs)) 0) (r ∷ rs))
      step true e i =
          let m : same_key (key cols r) l ≡ false = ap (λ (x : Row). same_key x l) (key_equality.same (key cols r) k e) ∙ n in
          rw m i
      step false e i = refl

  -- and its key comes before those behind it
  first_key : (k : Row) (u : Table) → Each (λ (r : Row). below_key k (key cols r) ≡ true) (drop (run_length cols k u) u)
      → into_keys k (keys_of cols u) ≡ k ∷ keys_of cols (drop (run_length cols k u) u)
  unfolding keys_of into_keys run_length
  first_key k [] h = refl
  first_key k (r ∷ rs) h = step (same_key (key cols r) k) refl h (first_key k rs)
    where
      step : (b : Bool) → same_key (key cols r) k ≡ b
          → Each (λ (r : Row). below_key k (key cols r) ≡ true) (drop (cond b (suc (run_length cols k rs)) 0) (r ∷ rs))
          → (Each (λ (r : Row). below_key k (key cols r) ≡ true) (drop (run_length cols k rs) rs) → into_keys k (keys_of cols rs) ≡ k ∷ keys_of cols (drop (run_length cols k rs) rs))
          → into_keys k (keys_of cols (r ∷ rs)) ≡ k ∷ keys_of cols (drop (cond b (suc (run_length cols k rs)) 0) (r ∷ rs))
      step true e h i =
          ap (into_keys k) (ap (λ (x : Row). into_keys x (keys_of cols rs)) (key_equality.same (key cols r) k e) ∙ i h)
          ∙ into_keys_inserts k (k ∷ keys_of cols (drop (run_length cols k rs) rs))
          ∙ insert_again (key-order (length cols)) k (keys_of cols (drop (run_length cols k rs) rs))
      step false e h i =
          into_keys_inserts k (keys_of cols (r ∷ rs))
          ∙ insert-least (key-order (length cols)) k (keys_of cols (r ∷ rs)) (every-key (λ (x : Row). below_key k x ≡ true) (r ∷ rs) h)

  first_group : (r : Row) (rs : Table) → Each (λ (s : Row). same_key (key cols s) (key cols r) ≡ false) (drop (run_length cols (key cols r) rs) rs)
      → group_of cols (key cols r) (r ∷ rs) ≡ r ∷ take (run_length cols (key cols r) rs) rs
  unfolding group_of keep
  first_group r rs h = rw (key_equality.self (key cols r)) (ap (λ (l : Table). r ∷ l) (run-group (key cols r) rs h))

  behind-group : (l r : Row) (rs : Table) → same_key (key cols r) l ≡ false
      → group_of cols l (r ∷ rs) ≡ group_of cols l (drop (run_length cols (key cols r) rs) rs)
  unfolding group_of keep
  behind-group l r rs n = rw n (other-group (key cols r) l n rs)

  -- ---- runs and groups

  module _ {B : Type 0} (f : Row → Table → B) where
    rising_runs : (u : Table) (n : ℕ) → Rises (λ (r s : Row). below_key (key cols r) (key cols s)) (drop n u)
        → runs cols f n u ≡ map (λ (k : Row). f k (group_of cols k (drop n u))) (keys_of cols (drop n u))
    unfolding runs keys_of
    rising_runs [] zero h = refl
    rising_runs [] (suc n) h = refl
    rising_runs (r ∷ rs) (suc n) h = rising_runs rs n h
    rising_runs (r ∷ rs) zero h =
        rw (first_key k rs above) (cc (first, others, rising_runs rs m (rises-drop (λ (r s : Row). below_key (key cols r) (key cols s)) m rs h.1)))
      where
        k : Row
        k = key cols r

        m : ℕ
        m = run_length cols k rs

        above : Each (λ (s : Row). below_key k (key cols s) ≡ true) (drop m rs)
        above = behind-above k (key-long cols r) rs h.0 h.1

        first : group_of cols k (r ∷ rs) ≡ r ∷ take m rs
        first =
            first_group r rs
            (each_to (λ (s : Row). below_key k (key cols s) ≡ true) (λ (s : Row). same_key (key cols s) k ≡ false)
            (λ s l. equal-swap key_equality (key cols s) k ∙ below-differs (key-order (length cols)) k (key cols s) l) (drop m rs) above)

        others : map (λ (l : Row). f l (group_of cols l (r ∷ rs))) (keys_of cols (drop m rs))
            ≡ map (λ (l : Row). f l (group_of cols l (drop m rs))) (keys_of cols (drop m rs))
        others =
            map_each (λ (l : Row). f l (group_of cols l (r ∷ rs))) (λ (l : Row). f l (group_of cols l (drop m rs))) (keys_of cols (drop m rs))
            (each_to (λ (l : Row). below_key k l ≡ true) (λ (l : Row). f l (group_of cols l (r ∷ rs)) ≡ f l (group_of cols l (drop m rs)))
            (λ l b. ap (f l) (behind-group l r rs (below-differs (key-order (length cols)) k l b)))
            (keys_of cols (drop m rs)) (every-key (λ (l : Row). below_key k l ≡ true) (drop m rs) above))

    pub runs_are_groups : (u t : Table) → Ascends cols u → Stable cols u t
        → runs cols f 0 u ≡ map (λ (k : Row). f k (group_of cols k t)) (keys_of cols t)
    unfolding group_of
    runs_are_groups u t a h =
        rising_runs u 0 (at_rises (λ (r s : Row). below_key (key cols r) (key cols s)) [] u a)
        ∙ ap (map (λ (k : Row). f k (group_of cols k u))) (same_keys u t h)
        ∙ map_each (λ (k : Row). f k (group_of cols k u)) (λ (k : Row). f k (group_of cols k t)) (keys_of cols t)
        (each (λ (k : Row). f k (group_of cols k u) ≡ f k (group_of cols k t)) (λ k. ap (f k) (h k)) (keys_of cols t))

  -- the rows of a grouping are its runs' rows
  pub runs_of-group_rows : (aggs : List Aggregate) (u t : Table) → Ascends cols u → Stable cols u t → runs_of cols aggs u ≡ group_rows cols aggs t
  unfolding runs_of group_rows
  runs_of-group_rows aggs u t a h = runs_are_groups (group_row aggs) u t a h
  -- ---- one way to sort
