-- The tests of refusals 3 and 4 and the kinds, read off the bytes of a node, are those of the plan tree whose node the bytes hold.
use Rattle.std.specs.Prelude.{◌≡◌, refl, not, ◌&&◌, ℕ, suc, ◌+◌, ◌<◌, eqb, length, take}
use Rattle.std.proofs.Math.Path.{sym, ap}
use Rattle.std.proofs.Common.{◌∙◌, add-zero, arith, ltb-true, lt-ltb, get_or-take, List, [], ◌∷◌, map}
use Rattle.std.proofs.Math.Bool.{true}
use mathlib.Core.List.{map-map}
use Rattle.std.proofs.Math.Dec.{ltb}
use Rattle.std.proofs.Math.ListN.{get_or, get_or-map}
use Rattle.meaning.specs.Plans.{Row, Aggregate, rows, count, sum, least, greatest, distinct_sum, distinct_count, weighted_sum, weighted_count, name_of, columns_read, Pair, Plan, leaf, join, group}
use Rattle.meaning.specs.Arrangement.{cell_bytes, in_row, pair_bytes, two_places, aggregate_bytes, column_bytes}
use Rattle.meaning.specs.Rules.{Kind, plain, weight, rule}
use Rattle.meaning.specs.Columns.{width, rule_kind, kind_at, aggregate_kind, kinds}
use Rattle.meaning.specs.Check.{all, pairs_there, columns_there, distinct, defaults_right, is_weight, left_width, is_join, weight_placed, aggregate_right}
use Rattle.lists.specs.Tests.{and_left, and_right}
use Rattle.rules.specs.Lines.{is_always, entry_of}
use Rattle.node_bytes.specs.Holding.{Holds, holds_head, holds-front, holds_back, holds_to}
use Rattle.node_bytes.specs.Nodes.{byte}
use Rattle.node_bytes.specs.Rows.{every-all, every-known, list_known}
use Rattle.node_checks.specs.Columns.{pair_at, pairs_at, column_at, columns_at, other_at, absent_at, distinct_at, read_at, reads_at}
use Rattle.node_checks.specs.Weights.{kind_number, default_at, defaults_at, weight_at, weights_at, column_kind_at, column_kinds_at, aggregate_kind_at, aggregate_kinds_at}
use Rattle.node_bytes.specs.Widths.{pair-wide, column-wide, aggregate-wide, cell-wide}
use Rattle.node_checks.specs.Told.{pair_held, column-held, Told, told, read_held, default_held}

-- the columns of a node's pairs, grouping columns and aggregates are there, and its grouping columns are all different
pub pairs-tree : (s : List ℕ) (at : ℕ) (ps : List Pair) (l r : ℕ) → Holds s at (in_row pair_bytes ps)
    → pairs_at s at (length ps) l r ≡ pairs_there ps l r
unfolding pairs_at pairs_there
pairs-tree s at ps l r h = every-all pair_bytes 2 pair-wide s (pair_at s l r) (λ (p : Pair). ltb p.left l && ltb p.right r) (pair_held s l r) at ps h

pub columns-tree : (s : List ℕ) (at : ℕ) (cols : List ℕ) (w : ℕ) → Holds s at (in_row column_bytes cols)
    → columns_at s at (length cols) w ≡ columns_there w cols
unfolding columns_at columns_there column_at
columns-tree s at cols w h =
    every-all column_bytes 1 column-wide s (column_at s w) (λ (i : ℕ). ltb i w) (λ at i held. ap (λ (x : ℕ). ltb x w) (column-held s at i held)) at cols h

absent_tree : (s : List ℕ) (at : ℕ) (cols : List ℕ) (i : ℕ) → Holds s at (in_row column_bytes cols)
    → absent_at s at (length cols) i ≡ all (λ (k : ℕ). not (eqb i k)) cols
unfolding absent_at other_at
absent_tree s at cols i h =
    every-all column_bytes 1 column-wide s (other_at s i) (λ (k : ℕ). not (eqb i k)) (λ at k held. ap (λ (x : ℕ). not (eqb i x)) (column-held s at k held)) at cols h

pub distinct-tree : (s : List ℕ) (at : ℕ) (cols : List ℕ) → Holds s at (in_row column_bytes cols)
    → distinct_at s at (length cols) ≡ distinct cols
unfolding distinct_at distinct in_row column_bytes
distinct-tree s at [] h = refl
distinct-tree s at (i ∷ is) h =
    let behind : Holds s (at + 1) (in_row column_bytes is) = holds_back (i ∷ []) (in_row column_bytes is) h in
    cc (holds_head h, absent_tree s (at + 1) is i behind, distinct-tree s (at + 1) is behind)

pub reads-tree : (s : List ℕ) (at : ℕ) (aggs : List Aggregate) (w : ℕ) → Holds s at (in_row aggregate_bytes aggs)
    → reads_at s at (length aggs) w ≡ all (λ (a : Aggregate). columns_there w (columns_read a)) aggs
unfolding reads_at
reads-tree s at aggs w h =
    every-all aggregate_bytes 3 aggregate-wide s (read_at s w) (λ (a : Aggregate). columns_there w (columns_read a)) (read_held s w) at aggs h

-- defaults from the i-th kind on
defaults_from : (s ns : List ℕ) (i at : ℕ) (ks : List Kind) (ds : Row) → Holds s at (in_row cell_bytes ds) → length ds ≡ length ks
    → ((j : ℕ) → j < length ks → get_or ns (i + j) 0 ≡ kind_number (kind_at ks j))
    → defaults_at s at (length ds) ns i ≡ defaults_right ks ds
unfolding defaults_at defaults_right in_row kind_at
defaults_from s ns i at ks [] h e same = refl
defaults_from s ns i at [] (d ∷ ds) h e same = absurd (omega arith)
defaults_from s ns i at (k ∷ ks) (d ∷ ds) h e same =
    let first : get_or ns i 0 ≡ kind_number k = ap (λ (j : ℕ). get_or ns j 0) (sym (add-zero i)) ∙ same 0 (omega arith) in
    let behind : Holds s (at + 9) (in_row cell_bytes ds) = holds_to (ap (λ (n : ℕ). at + n) (cell-wide d)) (holds_back (cell_bytes d) (in_row cell_bytes ds) h) in
    let others : (j : ℕ) → j < length ks → get_or ns (i + 1 + j) 0 ≡ kind_number (kind_at ks j) =
    λ j l. let q : i + 1 + j ≡ i + suc j = omega arith in ap (λ (x : ℕ). get_or ns x 0) q ∙ same (suc j) (omega arith) in
    cc (ap (λ (x : ℕ). default_at s at x) first, default_held s at k d (holds-front (cell_bytes d) (in_row cell_bytes ds) h), defaults_from s ns (i + 1) (at + 9) ks ds behind (omega arith) others)

-- a list of numbers begins with those of a node's kinds
module _ (ns : List ℕ) (ks : List Kind) (begins : take (length ks) ns ≡ map kind_number ks) where
  kind-read : (i : ℕ) → i < length ks → get_or ns i 0 ≡ kind_number (kind_at ks i)
  unfolding kind_number kind_at
  kind-read i h = sym (get_or-take (length ks) ns i 0 h) ∙ ap (λ (l : List ℕ). get_or l i 0) begins ∙ get_or-map kind_number ks i plain

  -- the node's defaults are right
  pub defaults-tree : (s : List ℕ) (at : ℕ) (ds : Row) → Holds s at (in_row cell_bytes ds) → length ds ≡ length ks
      → defaults_at s at (length ds) ns 0 ≡ defaults_right ks ds
  defaults-tree s at ds h e =
      defaults_from s ns 0 at ks ds h e (λ j l. let q : 0 + j ≡ j = omega arith in ap (λ (x : ℕ). get_or ns x 0) q ∙ kind-read j l)

  -- the kinds of grouping columns that are all there
  pub column-kinds-tree : (s : List ℕ) (at : ℕ) (cols : List ℕ) → Holds s at (in_row column_bytes cols) → columns_there (length ks) cols ≡ true
      → column_kinds_at s at (length cols) ns ≡ map kind_number (map (kind_at ks) cols)
  unfolding column_kinds_at column_kind_at columns_there
  column-kinds-tree s at cols h there =
      list_known column_bytes 1 column-wide s (λ (i : ℕ). ltb i (length ks)) (column_kind_at s ns) (λ (i : ℕ). kind_number (kind_at ks i)) one at cols h there
      ∙ sym (map-map kind_number (kind_at ks) cols)
    where
      one : (at i : ℕ) → Holds s at (column_bytes i) → ltb i (length ks) ≡ true → column_kind_at s ns at ≡ kind_number (kind_at ks i)
      one at i h l = ap (λ (x : ℕ). get_or ns x 0) (column-held s at i h) ∙ kind-read i (ltb-true _ _ l)

  -- the kinds of aggregates that read columns that are there
  kind-held : (s : List ℕ) (at : ℕ) (a : Aggregate) → Holds s at (aggregate_bytes a) → columns_there (length ks) (columns_read a) ≡ true
      → aggregate_kind_at s ns at ≡ kind_number (aggregate_kind ks a)
  unfolding aggregate_kind_at aggregate_kind rule_kind rule is_always name_of columns_read columns_there all two_places kind_number
  kind-held s at a h there = by_name a (told s at a h) there
    where
      weights : entry_of (byte s at) 2 ≡ 1 → aggregate_kind_at s ns at ≡ 1
      weights e = simp e

      of_v : (v : ℕ) → entry_of (byte s at) 2 ≡ 0 → byte s (at + 1) ≡ v → ltb v (length ks) ≡ true → aggregate_kind_at s ns at ≡ kind_number (kind_at ks v)
      of_v v e q l = simp (e, q) (kind-read v (ltb-true _ _ l))

      by_name : (a : Aggregate) → Told s at a → columns_there (length ks) (columns_read a) ≡ true → aggregate_kind_at s ns at ≡ kind_number (aggregate_kind ks a)
      by_name rows t there = weights t.always
      by_name (count v) t there = weights t.always
      by_name (sum v) t there = of_v v t.always t.v (and_left _ _ there)
      by_name (least v) t there = of_v v t.always t.v (and_left _ _ there)
      by_name (greatest v) t there = of_v v t.always t.v (and_left _ _ there)
      by_name (distinct_sum v) t there = of_v v t.always t.v (and_left _ _ there)
      by_name (distinct_count v) t there = weights t.always
      by_name (weighted_sum v c) t there = of_v v t.always t.v (and_left _ _ there)
      by_name (weighted_count v c) t there = weights t.always

  pub aggregate-kinds-tree : (s : List ℕ) (at : ℕ) (aggs : List Aggregate) → Holds s at (in_row aggregate_bytes aggs)
      → all (λ (a : Aggregate). columns_there (length ks) (columns_read a)) aggs ≡ true
      → aggregate_kinds_at s at (length aggs) ns ≡ map kind_number (map (aggregate_kind ks) aggs)
  unfolding aggregate_kinds_at
  aggregate-kinds-tree s at aggs h there =
      list_known aggregate_bytes 3 aggregate-wide s (λ (a : Aggregate). columns_there (length ks) (columns_read a)) (aggregate_kind_at s ns)
      (λ (a : Aggregate). kind_number (aggregate_kind ks a))
      (kind-held s)
      at
      aggs
      h
      there
      ∙ sym (map-map kind_number (aggregate_kind ks) aggs)

-- a left width tells a join, where a join has one, and a number tells a kind
join-told : (i : Plan) → (is_join i ≡ true → 0 < left_width i) → ltb 0 (left_width i) ≡ is_join i
unfolding left_width is_join
join-told (leaf t w) h = refl
join-told (join j ps l r) h = lt-ltb 0 (width l) (h refl)
join-told (group cols aggs i) h = refl

weight-told : (k : Kind) → eqb (kind_number k) 1 ≡ is_weight k
unfolding kind_number is_weight
weight-told plain = refl
weight-told weight = refl

-- the weights of a grouping above i, whose aggregates read columns that are there
module _ (ns : List ℕ) (i : Plan) (begins : take (length (kinds i)) ns ≡ map kind_number (kinds i)) (wide : is_join i ≡ true → 0 < left_width i) where
  weight-held : (s : List ℕ) (at : ℕ) (a : Aggregate) → Holds s at (aggregate_bytes a) → columns_there (length (kinds i)) (columns_read a) ≡ true
      → weight_at s (left_width i) ns at ≡ aggregate_right i a
  unfolding weight_at aggregate_right weight_placed columns_read columns_there all two_places
  weight-held s at a h there = by_name a (told s at a h) there
    where
      unweighted : entry_of (byte s at) 0 < 2 → weight_at s (left_width i) ns at ≡ true
      unweighted l = simp (lt-ltb _ _ l)

      weighted : (v c : ℕ) → entry_of (byte s at) 0 ≡ 2 → byte s (at + 1) ≡ v → byte s (at + 2) ≡ c
          → (ltb v (length (kinds i)) && (ltb c (length (kinds i)) && true)) ≡ true
          → weight_at s (left_width i) ns at ≡ weight_placed i v c
      weighted v c e p q there =
          let l : c < length (kinds i) = ltb-true _ _ (and_left _ true (and_right (ltb v (length (kinds i))) _ there)) in
          simp (e, p, q, join-told i wide, kind-read ns (kinds i) begins c l, weight-told (kind_at (kinds i) c))

      by_name : (a : Aggregate) → Told s at a → columns_there (length (kinds i)) (columns_read a) ≡ true
          → weight_at s (left_width i) ns at ≡ aggregate_right i a
      by_name rows t there = unweighted (omega (arith, t.columns))
      by_name (count v) t there = unweighted (omega (arith, t.columns))
      by_name (sum v) t there = unweighted (omega (arith, t.columns))
      by_name (least v) t there = unweighted (omega (arith, t.columns))
      by_name (greatest v) t there = unweighted (omega (arith, t.columns))
      by_name (distinct_sum v) t there = unweighted (omega (arith, t.columns))
      by_name (distinct_count v) t there = unweighted (omega (arith, t.columns))
      by_name (weighted_sum v c) t there = weighted v c t.columns t.v t.c there
      by_name (weighted_count v c) t there = weighted v c t.columns t.v t.c there

  pub weights-tree : (s : List ℕ) (at : ℕ) (aggs : List Aggregate) → Holds s at (in_row aggregate_bytes aggs)
      → all (λ (a : Aggregate). columns_there (length (kinds i)) (columns_read a)) aggs ≡ true
      → weights_at s at (length aggs) (left_width i) ns ≡ all (aggregate_right i) aggs
  unfolding weights_at
  weights-tree s at aggs h there =
      every-known aggregate_bytes 3 aggregate-wide s (λ (a : Aggregate). columns_there (length (kinds i)) (columns_read a)) (weight_at s (left_width i) ns)
      (aggregate_right i)
      (weight-held s)
      at
      aggs
      h
      there
