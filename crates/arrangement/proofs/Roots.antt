-- One node, read back out of its bytes: what is written is read and has its size, and bytes of a size are those of what is read.
use Rattle.std.proofs.Common.{◌≡◌, refl, sym, ap, subst, ◌∙◌, Bool, true, false, cond, ◌&&◌, ◌||◌, List, [], ◌∷◌, ◌++◌, map, ℕ, zero, suc, ◌+◌, ◌*◌, ◌<◌, ◌≤◌, add-zero, arith, eqb, leb, length, get_or, length-append, ne_eqb, eqb-true, le-leb}
use borrow.Author.Tests.{eqb-false, lt-leb}
use Rattle.meaning.specs.Cells.{Cell}
use Rattle.meaning.specs.Plans.{Row, Aggregate, Pair, Join, inner, left_outer, full_outer, left_defaults, right_defaults}
use Rattle.meaning.specs.Arrangement.{in_row, cell_bytes, pair_bytes, join_number, join_bytes, column_bytes, aggregate_bytes, group_bytes}
use Rattle.lists.specs.Tests.{and_left, and_right, or_rest}
use Rattle.node_bytes.specs.Holding.{Holds, holds_head, holds-front, holds_back, holds-both, holds_nil, holds-step, holds_to}
use Rattle.node_bytes.specs.Widths.{pair-wide, column-wide, aggregate-wide, cell-wide}
use Rattle.node_bytes.specs.Words.{Bytes}
use Rattle.node_bytes.specs.Rows.{every, every_append, list_at, length_list, length-row, all_true, every-all, list_back, list_holds}
use Rattle.node_bytes.specs.Nodes.{byte, cell_good, cells_good, aggregate_good, aggregates_good, join_size, group_size, join_good, group_good, size_if, node_size}
use Rattle.arrangement.proofs.Items.{cell_at, cell_back, cell-good, cell_holds, pair_at, pair_back, pair-holds, column_back, column-holds, aggregate_at, aggregate_back, aggregate-good, aggregate-holds}

-- ---- laws of rows that every kind of thing shares

map_own : {A : Type 0} (xs : List A) → map (λ (x : A). x) xs ≡ xs
map_own [] = refl
map_own (x ∷ xs) = ap (λ (l : List _). x ∷ l) (map_own xs)

every_true : (k at n : ℕ) → every (λ (a : ℕ). true) k at n ≡ true
unfolding every
every_true k at zero = refl
every_true k at (suc n) = every_true k (at + k) n

module _ {A : Type 0} (f : A → List ℕ) (k : ℕ) (wide : (x : A) → length (f x) ≡ k) (s : List ℕ) where
  -- things are read back
  read_back : (g : ℕ → A) → ((at : ℕ) (x : A) → Holds s at (f x) → g at ≡ x) → (at n : ℕ) (xs : List A)
      → n ≡ length xs → Holds s at (in_row f xs) → list_at g k at n ≡ xs
  read_back g back at n xs e h = rw e (list_back f k wide s g (λ (x : A). x) back at xs h ∙ map_own xs)

  -- things pass their test
  pass_all : (t : ℕ → Bool) → ((at : ℕ) (x : A) → Holds s at (f x) → t at ≡ true) → (at n : ℕ) (xs : List A)
      → n ≡ length xs → Holds s at (in_row f xs) → every t k at n ≡ true
  pass_all t good at n xs e h = rw e (every-all f k wide s t (λ (x : A). true) good at xs h ∙ all_true xs)

-- ---- tables

pub leaf-size : (s : List ℕ) (at t w : ℕ) → Holds s at (0 ∷ t ∷ w ∷ []) → node_size s at ≡ 3
unfolding node_size size_if
leaf-size s at t w h = simp (holds_head h, le-leb (at + 3) (length s) h.fits)

pub leaf-holds : (s : List ℕ) (at : ℕ) → at + 3 ≤ length s → byte s at ≡ 0 → Holds s at (0 ∷ byte s (at + 1) ∷ byte s (at + 2) ∷ [])
leaf-holds s at l e =
    holds_to (add-zero at)
    (holds-step s at 0 (omega arith) (ap (λ (n : ℕ). get_or s n 0) (add-zero at) ∙ e)
    (holds-step s at 1 (omega arith) refl (holds-step s at 2 (omega arith) refl (holds_nil s at 3 (omega arith)))))

-- ---- joins

abbrev pub pairs_from : List ℕ → ℕ → List Pair
pairs_from s at = list_at (pair_at s) 2 (at + 4) (byte s (at + 1))

abbrev pub lefts_from : List ℕ → ℕ → Row
lefts_from s at = list_at (cell_at s) 9 (at + 4 + 2 * byte s (at + 1)) (byte s (at + 2))

abbrev pub rights_from : List ℕ → ℕ → Row
rights_from s at = list_at (cell_at s) 9 (at + 4 + 2 * byte s (at + 1) + 9 * byte s (at + 2)) (byte s (at + 3))

-- the join at a place, by the number of its kind
unfoldable pub join_of : ℕ → Row → Row → Join
join_of kind dl dr = cond (eqb kind 1) inner (cond (eqb kind 2) (left_outer dr) (full_outer dl dr))

unfoldable pub join_at : List ℕ → ℕ → Join
join_at s at = join_of (byte s at) (lefts_from s at) (rights_from s at)

join_of_own : (j : Join) → join_of (join_number j) (left_defaults j) (right_defaults j) ≡ j
unfolding join_of join_number left_defaults right_defaults
join_of_own inner = refl
join_of_own (left_outer dr) = refl
join_of_own (full_outer dl dr) = refl

-- the kind allows the defaults that there are
kind-left : (j : Join) → (eqb (join_number j) 3 || eqb (length (left_defaults j)) 0) ≡ true
unfolding join_number left_defaults
kind-left inner = refl
kind-left (left_outer dr) = refl
kind-left (full_outer dl dr) = refl

kind-right : (j : Join) → (leb 2 (join_number j) || eqb (length (right_defaults j)) 0) ≡ true
unfolding join_number right_defaults
kind-right inner = refl
kind-right (left_outer dr) = refl
kind-right (full_outer dl dr) = refl

pub kind-some : (j : Join) → eqb (join_number j) 0 ≡ false
unfolding join_number
kind-some inner = refl
kind-some (left_outer dr) = refl
kind-some (full_outer dl dr) = refl

pub kind_no_group : (j : Join) → eqb (join_number j) 4 ≡ false
unfolding join_number
kind_no_group inner = refl
kind_no_group (left_outer dr) = refl
kind_no_group (full_outer dl dr) = refl

pub kind-most : (j : Join) → leb (join_number j) 3 ≡ true
unfolding join_number
kind-most inner = refl
kind-most (left_outer dr) = refl
kind-most (full_outer dl dr) = refl

module _ (s : List ℕ) (at : ℕ) (j : Join) (ps : List Pair) (h : Holds s at (join_bytes j ps)) where
  pub join-number : byte s at ≡ join_number j
  unfolding join_bytes
  join-number = holds_head h

  pub join-pairs : byte s (at + 1) ≡ length ps
  unfolding join_bytes
  join-pairs = h.same 1 (omega arith)

  pub join-lefts : byte s (at + 2) ≡ length (left_defaults j)
  unfolding join_bytes
  join-lefts = h.same 2 (omega arith)

  pub join-rights : byte s (at + 3) ≡ length (right_defaults j)
  unfolding join_bytes
  join-rights = h.same 3 (omega arith)

  body : Holds s (at + 4) (in_row pair_bytes ps ++ (in_row cell_bytes (left_defaults j) ++ in_row cell_bytes (right_defaults j)))
  unfolding join_bytes
  body =
      holds_back (join_number j ∷ length ps ∷ length (left_defaults j) ∷ length (right_defaults j) ∷ [])
      (in_row pair_bytes ps ++ (in_row cell_bytes (left_defaults j) ++ in_row cell_bytes (right_defaults j)))
      h

  pairs-long : length (in_row pair_bytes ps) ≡ 2 * length ps
  pairs-long = length-row pair_bytes 2 pair-wide ps

  lefts-long : length (in_row cell_bytes (left_defaults j)) ≡ 9 * length (left_defaults j)
  lefts-long = length-row cell_bytes 9 cell-wide (left_defaults j)

  rights-long : length (in_row cell_bytes (right_defaults j)) ≡ 9 * length (right_defaults j)
  rights-long = length-row cell_bytes 9 cell-wide (right_defaults j)

  -- the pairs and the defaults stand where the counts say
  pub pairs-held : Holds s (at + 4) (in_row pair_bytes ps)
  pairs-held = holds-front (in_row pair_bytes ps) (in_row cell_bytes (left_defaults j) ++ in_row cell_bytes (right_defaults j)) body

  defaults-held : Holds s (at + 4 + 2 * byte s (at + 1)) (in_row cell_bytes (left_defaults j) ++ in_row cell_bytes (right_defaults j))
  defaults-held =
      holds_to (ap (λ (n : ℕ). at + 4 + n) (pairs-long ∙ ap (λ (n : ℕ). 2 * n) (sym join-pairs)))
      (holds_back (in_row pair_bytes ps) (in_row cell_bytes (left_defaults j) ++ in_row cell_bytes (right_defaults j)) body)

  pub lefts-held : Holds s (at + 4 + 2 * byte s (at + 1)) (in_row cell_bytes (left_defaults j))
  lefts-held = holds-front (in_row cell_bytes (left_defaults j)) (in_row cell_bytes (right_defaults j)) defaults-held

  pub rights-held : Holds s (at + 4 + 2 * byte s (at + 1) + 9 * byte s (at + 2)) (in_row cell_bytes (right_defaults j))
  rights-held =
      holds_to (ap (λ (n : ℕ). at + 4 + 2 * byte s (at + 1) + n) (lefts-long ∙ ap (λ (n : ℕ). 9 * n) (sym join-lefts)))
      (holds_back (in_row cell_bytes (left_defaults j)) (in_row cell_bytes (right_defaults j)) defaults-held)

  pub join_back : join_at s at ≡ j
  unfolding join_at
  join_back =
      simp (
        join-number,
        read_back cell_bytes 9 cell-wide s (cell_at s) (cell_back s) (at + 4 + 2 * byte s (at + 1)) (byte s (at + 2)) (left_defaults j) join-lefts lefts-held,
        read_back cell_bytes 9 cell-wide s (cell_at s) (cell_back s) (at + 4 + 2 * byte s (at + 1) + 9 * byte s (at + 2)) (byte s (at + 3)) (right_defaults j) join-rights rights-held,
      )
      (join_of_own j)

  pub pairs_back : pairs_from s at ≡ ps
  pairs_back = read_back pair_bytes 2 pair-wide s (pair_at s) (pair_back s) (at + 4) (byte s (at + 1)) ps join-pairs pairs-held

  pub join-long : join_size s at ≡ length (join_bytes j ps)
  unfolding join_size join_bytes
  join-long =
      let a : length (in_row pair_bytes ps ++ (in_row cell_bytes (left_defaults j) ++ in_row cell_bytes (right_defaults j)))
      ≡ length (in_row pair_bytes ps) + length (in_row cell_bytes (left_defaults j) ++ in_row cell_bytes (right_defaults j))
      = length-append (in_row pair_bytes ps) (in_row cell_bytes (left_defaults j) ++ in_row cell_bytes (right_defaults j)) in
      let b : length (in_row cell_bytes (left_defaults j) ++ in_row cell_bytes (right_defaults j))
      ≡ length (in_row cell_bytes (left_defaults j)) + length (in_row cell_bytes (right_defaults j))
      = length-append (in_row cell_bytes (left_defaults j)) (in_row cell_bytes (right_defaults j)) in
      omega (arith, pairs-long, lefts-long, rights-long, join-pairs, join-lefts, join-rights)

  all-good : cells_good s (at + 4 + 2 * byte s (at + 1)) (byte s (at + 2) + byte s (at + 3)) ≡ true
  unfolding cells_good
  all-good =
      every_append (cell_good s) 9 (at + 4 + 2 * byte s (at + 1)) (byte s (at + 2)) (byte s (at + 3))
      ∙ simp (
        pass_all cell_bytes 9 cell-wide s (cell_good s) (cell-good s) (at + 4 + 2 * byte s (at + 1)) (byte s (at + 2)) (left_defaults j) join-lefts lefts-held,
        pass_all cell_bytes 9 cell-wide s (cell_good s) (cell-good s) (at + 4 + 2 * byte s (at + 1) + 9 * byte s (at + 2)) (byte s (at + 3)) (right_defaults j) join-rights rights-held,
      )

  pub join-good : join_good s at ≡ true
  unfolding join_good
  join-good = rw (all-good, join-lefts, join-rights, join-number, kind-left j, kind-right j)

  pub join-size : node_size s at ≡ length (join_bytes j ps)
  unfolding node_size size_if
  join-size =
      let f : at + join_size s at ≤ length s = subst (λ (n : ℕ). at + n ≤ length s) (sym join-long) h.fits in
      rw (join-good, le-leb (at + join_size s at) (length s) f, join-number, kind-some j, kind-most j) join-long

-- bytes of a join
module _ (s : List ℕ) (b : Bytes s) (at : ℕ) (f : at + join_size s at ≤ length s) (g : join_good s at ≡ true)
    (k : (0 < byte s at) × (byte s at ≤ 3)) where
  no_lefts_but_3 : (eqb (byte s at) 3 || eqb (byte s (at + 2)) 0) ≡ true
  unfolding join_good
  no_lefts_but_3 =
      and_left (eqb (byte s at) 3 || eqb (byte s (at + 2)) 0)
      ((leb 2 (byte s at) || eqb (byte s (at + 3)) 0) && cells_good s (at + 4 + 2 * byte s (at + 1)) (byte s (at + 2) + byte s (at + 3)))
      g

  others-good : ((leb 2 (byte s at) || eqb (byte s (at + 3)) 0) && cells_good s (at + 4 + 2 * byte s (at + 1)) (byte s (at + 2) + byte s (at + 3))) ≡ true
  unfolding join_good
  others-good =
      and_right (eqb (byte s at) 3 || eqb (byte s (at + 2)) 0)
      ((leb 2 (byte s at) || eqb (byte s (at + 3)) 0) && cells_good s (at + 4 + 2 * byte s (at + 1)) (byte s (at + 2) + byte s (at + 3)))
      g

  cells-good : (every (cell_good s) 9 (at + 4 + 2 * byte s (at + 1)) (byte s (at + 2)) && every (cell_good s) 9 (at + 4 + 2 * byte s (at + 1) + 9 * byte s (at + 2)) (byte s (at + 3))) ≡ true
  unfolding cells_good
  cells-good =
      sym (every_append (cell_good s) 9 (at + 4 + 2 * byte s (at + 1)) (byte s (at + 2)) (byte s (at + 3)))
      ∙ and_right (leb 2 (byte s at) || eqb (byte s (at + 3)) 0)
      (every (cell_good s) 9 (at + 4 + 2 * byte s (at + 1)) (byte s (at + 2) + byte s (at + 3)))
      others-good

  size_is : join_size s at ≡ 4 + 2 * byte s (at + 1) + 9 * (byte s (at + 2) + byte s (at + 3))
  unfolding join_size
  size_is = refl

  pairs-there : Holds s (at + 4) (in_row pair_bytes (pairs_from s at))
  pairs-there =
      list_holds pair_bytes 2 pair-wide s (λ (a : ℕ). true) (pair_at s) (pair-holds s) (at + 4) (byte s (at + 1))
      (omega (arith, size_is)) (every_true 2 (at + 4) (byte s (at + 1)))

  lefts-there : Holds s (at + 4 + 2 * byte s (at + 1)) (in_row cell_bytes (lefts_from s at))
  lefts-there =
      list_holds cell_bytes 9 cell-wide s (cell_good s) (cell_at s) (cell_holds s b) (at + 4 + 2 * byte s (at + 1)) (byte s (at + 2))
      (omega (arith, size_is))
      (and_left (every (cell_good s) 9 (at + 4 + 2 * byte s (at + 1)) (byte s (at + 2)))
      (every (cell_good s) 9 (at + 4 + 2 * byte s (at + 1) + 9 * byte s (at + 2)) (byte s (at + 3)))
      cells-good)

  rights-there : Holds s (at + 4 + 2 * byte s (at + 1) + 9 * byte s (at + 2)) (in_row cell_bytes (rights_from s at))
  rights-there =
      list_holds cell_bytes 9 cell-wide s (cell_good s) (cell_at s) (cell_holds s b)
      (at + 4 + 2 * byte s (at + 1) + 9 * byte s (at + 2)) (byte s (at + 3))
      (omega (arith, size_is))
      (and_right (every (cell_good s) 9 (at + 4 + 2 * byte s (at + 1)) (byte s (at + 2)))
      (every (cell_good s) 9 (at + 4 + 2 * byte s (at + 1) + 9 * byte s (at + 2)) (byte s (at + 3)))
      cells-good)

  -- a join that is read has the number, and the lists of defaults, that its bytes say
  record Read (j : Join) : Type 0 where
    number : join_number j ≡ byte s at
    lefts : left_defaults j ≡ lefts_from s at
    rights : right_defaults j ≡ rights_from s at

  -- a count of 0 gives an empty list
  none_from : (g : ℕ → Cell) (from n : ℕ) → n ≡ 0 → list_at g 9 from n ≡ []
  unfolding list_at
  none_from g from n e = rw e

  lefts-none : (byte s at ≡ 3 → ⊥) → lefts_from s at ≡ []
  lefts-none n =
      none_from (cell_at s) (at + 4 + 2 * byte s (at + 1)) (byte s (at + 2))
      (eqb-true _ _ (or_rest (eqb (byte s at) 3) (eqb (byte s (at + 2)) 0) (ne_eqb _ _ n) no_lefts_but_3))

  rights-none : byte s at ≡ 1 → rights_from s at ≡ []
  rights-none e =
      none_from (cell_at s) (at + 4 + 2 * byte s (at + 1) + 9 * byte s (at + 2)) (byte s (at + 3))
      (eqb-true _ _
      (or_rest (leb 2 (byte s at)) (eqb (byte s (at + 3)) 0) (lt-leb 2 (byte s at) (omega arith))
      (and_left (leb 2 (byte s at) || eqb (byte s (at + 3)) 0)
      (cells_good s (at + 4 + 2 * byte s (at + 1)) (byte s (at + 2) + byte s (at + 3)))
      others-good)))

  read_is : Read (join_at s at)
  unfolding join_at join_of join_number left_defaults right_defaults
  read_is = pick (eqb (byte s at) 1) refl (eqb (byte s at) 2) refl
    where
      pick : (one : Bool) → eqb (byte s at) 1 ≡ one → (two : Bool) → eqb (byte s at) 2 ≡ two
          → Read (cond one inner (cond two (left_outer (rights_from s at)) (full_outer (lefts_from s at) (rights_from s at))))
      pick true p two q =
          let e : byte s at ≡ 1 = eqb-true _ _ p in
          record { number = sym e; lefts = sym (lefts-none (λ x. omega arith)); rights = sym (rights-none e) }
      pick false p true q =
          let e : byte s at ≡ 2 = eqb-true _ _ q in
          record { number = sym e; lefts = sym (lefts-none (λ x. omega arith)); rights = refl }
      pick false p false q =
          let n : byte s at ≡ 1 → ⊥ = eqb-false _ _ p in
          let m : byte s at ≡ 2 → ⊥ = eqb-false _ _ q in
          record { number = let e : byte s at ≡ 3 = omega (arith, k.0, k.1) in sym e; lefts = refl; rights = refl }

  body-holds : (j : Join) → Read j
      → Holds s (at + 4) (in_row pair_bytes (pairs_from s at) ++ (in_row cell_bytes (left_defaults j) ++ in_row cell_bytes (right_defaults j)))
  body-holds j r =
      rw (r.lefts, r.rights)
      (holds-both (in_row pair_bytes (pairs_from s at)) (in_row cell_bytes (lefts_from s at) ++ in_row cell_bytes (rights_from s at)) pairs-there
      (holds_to
      (ap (λ (n : ℕ). at + 4 + n) (sym (length-row pair_bytes 2 pair-wide (pairs_from s at) ∙ ap (λ (n : ℕ). 2 * n) (length_list (pair_at s) 2 (at + 4) (byte s (at + 1))))))
      (holds-both (in_row cell_bytes (lefts_from s at)) (in_row cell_bytes (rights_from s at)) lefts-there
      (holds_to
      (ap (λ (n : ℕ). at + 4 + 2 * byte s (at + 1) + n) (sym (length-row cell_bytes 9 cell-wide (lefts_from s at) ∙ ap (λ (n : ℕ). 9 * n) (length_list (cell_at s) 9 (at + 4 + 2 * byte s (at + 1)) (byte s (at + 2))))))
      rights-there))))

  pub join-holds : Holds s at (join_bytes (join_at s at) (pairs_from s at))
  unfolding join_bytes
  join-holds =
      let r : Read (join_at s at) = read_is in
      let z : join_size s at ≡ 4 + 2 * byte s (at + 1) + 9 * (byte s (at + 2) + byte s (at + 3)) = size_is in
      holds_to (add-zero at)
      (holds-step s at 0 (omega arith) (ap (λ (n : ℕ). get_or s n 0) (add-zero at) ∙ sym r.number)
      (holds-step s at 1 (omega arith) (sym (length_list (pair_at s) 2 (at + 4) (byte s (at + 1))))
      (holds-step s at 2 (omega arith) (sym (ap length r.lefts ∙ length_list (cell_at s) 9 (at + 4 + 2 * byte s (at + 1)) (byte s (at + 2))))
      (holds-step s at 3 (omega arith) (sym (ap length r.rights ∙ length_list (cell_at s) 9 (at + 4 + 2 * byte s (at + 1) + 9 * byte s (at + 2)) (byte s (at + 3))))
      (body-holds (join_at s at) r)))))

-- ---- groupings

abbrev pub columns_from : List ℕ → ℕ → List ℕ
columns_from s at = list_at (byte s) 1 (at + 3) (byte s (at + 1))

abbrev pub aggregates_from : List ℕ → ℕ → List Aggregate
aggregates_from s at = list_at (aggregate_at s) 3 (at + 3 + byte s (at + 1)) (byte s (at + 2))

module _ (s : List ℕ) (at : ℕ) (cols : List ℕ) (aggs : List Aggregate) (h : Holds s at (group_bytes cols aggs)) where
  pub group-number : byte s at ≡ 4
  unfolding group_bytes
  group-number = holds_head h

  pub group-columns : byte s (at + 1) ≡ length cols
  unfolding group_bytes
  group-columns = h.same 1 (omega arith)

  pub group_aggregates : byte s (at + 2) ≡ length aggs
  unfolding group_bytes
  group_aggregates = h.same 2 (omega arith)

  columns-long : length (in_row column_bytes cols) ≡ 1 * length cols
  columns-long = length-row column_bytes 1 column-wide cols

  aggregates_long : length (in_row aggregate_bytes aggs) ≡ 3 * length aggs
  aggregates_long = length-row aggregate_bytes 3 aggregate-wide aggs

  group-body : Holds s (at + 3) (in_row column_bytes cols ++ in_row aggregate_bytes aggs)
  unfolding group_bytes
  group-body = holds_back (4 ∷ length cols ∷ length aggs ∷ []) (in_row column_bytes cols ++ in_row aggregate_bytes aggs) h

  -- the columns and the aggregates stand where the counts say
  pub columns-held : Holds s (at + 3) (in_row column_bytes cols)
  columns-held = holds-front (in_row column_bytes cols) (in_row aggregate_bytes aggs) group-body

  pub aggregates_held : Holds s (at + 3 + byte s (at + 1)) (in_row aggregate_bytes aggs)
  aggregates_held =
      holds_to (let q : at + 3 + length (in_row column_bytes cols) ≡ at + 3 + byte s (at + 1) = omega (arith, columns-long, group-columns) in q)
      (holds_back (in_row column_bytes cols) (in_row aggregate_bytes aggs) group-body)

  pub columns_back : columns_from s at ≡ cols
  columns_back = read_back column_bytes 1 column-wide s (byte s) (column_back s) (at + 3) (byte s (at + 1)) cols group-columns columns-held

  pub aggregates_back : aggregates_from s at ≡ aggs
  aggregates_back =
      read_back aggregate_bytes 3 aggregate-wide s (aggregate_at s) (aggregate_back s) (at + 3 + byte s (at + 1)) (byte s (at + 2)) aggs
      group_aggregates aggregates_held

  pub group-long : group_size s at ≡ length (group_bytes cols aggs)
  unfolding group_size group_bytes
  group-long =
      let a : length (in_row column_bytes cols ++ in_row aggregate_bytes aggs) ≡ length (in_row column_bytes cols) + length (in_row aggregate_bytes aggs)
      = length-append (in_row column_bytes cols) (in_row aggregate_bytes aggs) in
      omega (arith, columns-long, aggregates_long, group-columns, group_aggregates)

  pub group-good : group_good s at ≡ true
  unfolding group_good aggregates_good
  group-good =
      pass_all aggregate_bytes 3 aggregate-wide s (aggregate_good s) (aggregate-good s) (at + 3 + byte s (at + 1)) (byte s (at + 2)) aggs
      group_aggregates aggregates_held

  pub group-size : node_size s at ≡ length (group_bytes cols aggs)
  unfolding node_size size_if
  group-size =
      let f : at + group_size s at ≤ length s = subst (λ (n : ℕ). at + n ≤ length s) (sym group-long) h.fits in
      rw (group-good, le-leb (at + group_size s at) (length s) f, group-number) group-long

-- bytes of a grouping
module _ (s : List ℕ) (at : ℕ) (f : at + group_size s at ≤ length s) (g : group_good s at ≡ true) (k : byte s at ≡ 4) where
  group-size_is : group_size s at ≡ 3 + byte s (at + 1) + 3 * byte s (at + 2)
  unfolding group_size
  group-size_is = refl

  columns-there : Holds s (at + 3) (in_row column_bytes (columns_from s at))
  columns-there =
      list_holds column_bytes 1 column-wide s (λ (a : ℕ). true) (byte s) (column-holds s) (at + 3) (byte s (at + 1))
      (omega (arith, group-size_is)) (every_true 1 (at + 3) (byte s (at + 1)))

  aggregates_there : Holds s (at + 3 + byte s (at + 1)) (in_row aggregate_bytes (aggregates_from s at))
  unfolding group_good aggregates_good
  aggregates_there =
      list_holds aggregate_bytes 3 aggregate-wide s (aggregate_good s) (aggregate_at s) (aggregate-holds s) (at + 3 + byte s (at + 1)) (byte s (at + 2))
      (omega (arith, group-size_is)) g

  pub group-holds : Holds s at (group_bytes (columns_from s at) (aggregates_from s at))
  unfolding group_bytes
  group-holds =
      let z : group_size s at ≡ 3 + byte s (at + 1) + 3 * byte s (at + 2) = group-size_is in
      let c : length (in_row column_bytes (columns_from s at)) ≡ 1 * length (columns_from s at) = length-row column_bytes 1 column-wide (columns_from s at) in
      let d : length (columns_from s at) ≡ byte s (at + 1) = length_list (byte s) 1 (at + 3) (byte s (at + 1)) in
      holds_to (add-zero at)
      (holds-step s at 0 (omega arith) (ap (λ (n : ℕ). get_or s n 0) (add-zero at) ∙ k)
      (holds-step s at 1 (omega arith) (sym d)
      (holds-step s at 2 (omega arith) (sym (length_list (aggregate_at s) 3 (at + 3 + byte s (at + 1)) (byte s (at + 2))))
      (holds-both (in_row column_bytes (columns_from s at)) (in_row aggregate_bytes (aggregates_from s at)) columns-there
      (holds_to (let q : at + 3 + byte s (at + 1) ≡ at + 3 + length (in_row column_bytes (columns_from s at)) = omega arith in q) aggregates_there)))))
