-- One aggregate over the rows of a run: a distinct one over more than one row is fed with a sorted copy of its column.
use Rattle.std.specs.Prelude.{◌≡◌, Bool, not, cond, ◌&&◌, List, [], ◌∷◌, ◌++◌, ℕ, zero, suc, ◌+◌, ◌*◌, ◌<◌, ◌≤◌, ◌^◌, length, get_or, ℤ, Option}
use Rattle.std.proofs.Math.Path.{refl, sym, ap}
use Rattle.std.proofs.Common.{◌∙◌, inl, inr, mul-le-mul_right, arith, lit<, ltb-true, ltb-false}
use Rattle.std.proofs.Math.Bool.{true, false}
use Rattle.std.proofs.Math.Dec.{ltb}
use borrow.Author.Tests.{not-true}
use Rattle.meaning.specs.Cells.{Cell}
use Rattle.meaning.specs.Plans.{Table, Name, Aggregate, rows, count, sum, least, greatest, distinct_sum, distinct_count, weighted_sum, weighted_count, name_of, columns_read}
use Rattle.meaning.specs.Joining.{cell}
use Rattle.meaning.specs.Aggregating.{values_of, aggregate}
use Rattle.meaning.specs.Arrangement.{name_number, two_places, aggregate_bytes}
use Rattle.meaning.specs.Running.{rows_from}
use Rattle.meaning.proofs.Widths.{rows_long}
use Rattle.lists.specs.Tests.{and_left, and_right}
use Rattle.numbers.specs.Integers.{false_true}
use Rattle.rules.specs.Lines.{name_at, name_at-number}
use Rattle.rules.specs.Named.{named}
use Rattle.node_bytes.specs.Holding.{holds_head}
use Rattle.node_bytes.specs.Widths.{aggregate-wide}
use Rattle.node_bytes.specs.Nodes.{byte, aggregate_good}
use Rattle.arrangement.proofs.Items.{aggregate_at, aggregate-holds}
use Rattle.regions.specs.Holding.{HeldRows, Untouched}
use Rattle.regions.specs.Reading.{number_or_none, rows-read}
use Rattle.running.specs.declared.Running.{Running}
use Rattle.running.specs.States.{distinct_of, finish_of}
use Rattle.running.specs.Ascent.{upwards_from, upwards}
use Rattle.running.specs.Names.{called, named_called, is_distinct}
use Rattle.running.specs.Values.{Rises}
use Rattle.running.specs.Rows.{Gives, nothing, one, gives}
use Rattle.running.specs.Sizes.{most_of}
use Rattle.running.specs.Laws.{Took, took_finish}
use Rattle.sorting.specs.Sorting.{SortOf, SortRoom, SortDone}
use Rattle.regions.specs.Rows.{untouched_then, untouched_wider, untouched-none}
use Rattle.grouping.specs.Picking.{PickRoom, PickDone, At, column_place, column_of, column-long, column-held, picked_untouched}
use Rattle.grouping.specs.Feeding.{values_by, values_by_lem, FeedRoom, Fed, known-called}
use Rattle.grouping.specs.Sorted.{ByColumn, over_column, by-column}

-- ---- when a copy is sorted, and how much room that takes

unfoldable pub needs_order : ℕ → ℕ → Bool
needs_order name n = not (ltb n 2) && distinct_of (named name)

-- the cells of the copy and of the sort
unfoldable pub scratch_for : ℕ → ℕ
scratch_for n = cond (ltb n 2) 0 (2 * n)

pub scratch_two : (n : ℕ) → ltb n 2 ≡ false → scratch_for n ≡ 2 * n
unfolding scratch_for
scratch_two n e = rw e

-- with a row of 16 cells it takes no more than as many rows of 16 cells
pub scratch_fits : (n : ℕ) → 0 < n → 16 + scratch_for n ≤ 16 * n
unfolding scratch_for
scratch_fits n l = pick (ltb n 2) refl
  where
    pick : (b : Bool) → ltb n 2 ≡ b → 16 + cond b 0 (2 * n) ≤ 16 * n
    pick true e = omega arith
    pick false e = omega (arith, ltb-false n 2 e)

-- ---- what is asked for

-- an aggregate stands in three bytes, reads columns of rows w wide, and makes no number too large of these rows
pub record AggregateFits (s : List ℕ) (at w : ℕ) (t : Table) : Type 0 where
  pub inside : at + 3 ≤ length s
  pub good : aggregate_good s at ≡ true
  pub v_in : byte s (at + 1) < w
  pub c_in : byte s (at + 2) < w
  pub small : most_of (name_of (aggregate_at s at)) (values_of (aggregate_at s at) t) < 2 ^ 63

-- rows stand in an area, with room for a sorted copy of a column behind them
pub record RunRoom (cells : List ℤ) (marks : List ℕ) (base n w scratch : ℕ) : Type 0 where
  pub held : HeldRows cells marks base w (rows_from cells marks w base n)
  pub below : base + n * w ≤ scratch
  pub cells-room : scratch + scratch_for n ≤ length cells
  pub marks-room : scratch + scratch_for n ≤ length marks
  pub few : n ≤ 4096

pub record StateRoom (s : List ℕ) (at : ℕ) (cells : List ℤ) (marks : List ℕ) (base n w scratch : ℕ) : Type 0 where
  pub fits : AggregateFits s at w (rows_from cells marks w base n)
  pub run : RunRoom cells marks base n w scratch

-- ---- what is done

-- the state answers this cell
abbrev pub AnswersCell : Running → Cell → Type 0
AnswersCell st x = finish_of st ≡ number_or_none x

pub record StateDone (s : List ℕ) (at : ℕ) (cells : List ℤ) (marks : List ℕ) (cells' : List ℤ) (marks' : List ℕ) (base n w scratch : ℕ) (st : Running) : Type 0 where
  pub kept : Untouched cells marks cells' marks' scratch (scratch + scratch_for n)
  pub answers : AnswersCell st (aggregate (aggregate_at s at) (rows_from cells marks w base n))

pub took_answers : (a : Aggregate) (t : Table) {st : Running} → Took (name_of a) (values_of a t) st → AnswersCell st (aggregate a t)
unfolding aggregate
took_answers a t k = took_finish k

-- ---- the three bytes of an aggregate

places-first : (cs : List ℕ) → get_or (two_places cs) 0 0 ≡ get_or cs 0 0
unfolding two_places
places-first [] = refl
places-first (v ∷ []) = refl
places-first (v ∷ c ∷ cs) = refl

places-second : (cs : List ℕ) → get_or (two_places cs) 1 0 ≡ get_or cs 1 0
unfolding two_places
places-second [] = refl
places-second (v ∷ []) = refl
places-second (v ∷ c ∷ cs) = refl

module _ (s : List ℕ) (at : ℕ) (inside : at + 3 ≤ length s) (good : aggregate_good s at ≡ true) where
  pub aggregate-known : byte s at < 9
  unfolding aggregate_good
  aggregate-known = ltb-true (byte s at) 9 (and_left _ _ good)

  name-byte : byte s at ≡ name_number (name_of (aggregate_at s at))
  unfolding aggregate_bytes
  name-byte = holds_head (aggregate-holds s at inside good)

  pub name-here : name_at (byte s at) ≡ name_of (aggregate_at s at)
  name-here = ap name_at name-byte ∙ name_at-number (name_of (aggregate_at s at))

  pub first-here : byte s (at + 1) ≡ get_or (columns_read (aggregate_at s at)) 0 0
  unfolding aggregate_bytes
  first-here =
      (aggregate-holds s at inside good).same 1 (rw (aggregate-wide (aggregate_at s at)) (lit< tt)) ∙ places-first (columns_read (aggregate_at s at))

  pub second-here : byte s (at + 2) ≡ get_or (columns_read (aggregate_at s at)) 1 0
  unfolding aggregate_bytes
  second-here =
      (aggregate-holds s at inside good).same 2 (rw (aggregate-wide (aggregate_at s at)) (lit< tt)) ∙ places-second (columns_read (aggregate_at s at))

  pub values_here : (t : Table) → values_by (name_at (byte s at)) (byte s (at + 1)) (byte s (at + 2)) t ≡ values_of (aggregate_at s at) t
  values_here t = rw (name-here, first-here, second-here) (values_by_lem (aggregate_at s at) t)

  pub called-here : named (byte s at) ≡ called (name_of (aggregate_at s at))
  called-here = ap named name-byte ∙ named_called (name_of (aggregate_at s at))

  distinct-here : distinct_of (named (byte s at)) ≡ is_distinct (name_of (aggregate_at s at))
  distinct-here = ap distinct_of called-here

-- a distinct aggregate reads no second column
pub no_second : (a : Aggregate) → is_distinct (name_of a) ≡ true → get_or (columns_read a) 1 0 ≡ 0
unfolding name_of called distinct_of columns_read
no_second rows d = false_true d
no_second (count v) d = false_true d
no_second (sum v) d = false_true d
no_second (least v) d = false_true d
no_second (greatest v) d = false_true d
no_second (distinct_sum v) d = refl
no_second (distinct_count v) d = refl
no_second (weighted_sum v c) d = false_true d
no_second (weighted_count v c) d = false_true d

-- the values of one row ascend
given_up : {n : Name} {v c : Option ℤ} {ys : List ℤ} → Gives n v c ys → upwards (ys ++ []) ≡ true
unfolding upwards upwards_from
given_up (nothing s) = refl
given_up (one z a same) = refl

short_up : (n : Name) (v c : ℕ) (t : Table) → length t < 2 → upwards (values_by n v c t) ≡ true
unfolding values_by upwards
short_up n v c [] l = refl
short_up n v c (r ∷ []) l = given_up (gives n (cell r v) (cell r c))
short_up n v c (r ∷ q ∷ t) l = absurd (omega arith)

-- the one column of a copy
only : (i : ℕ) → i < 1 → get_or (0 ∷ []) i 0 < 1
only zero l = lit< tt
only (suc i) l = absurd (omega arith)

module _ {s : List ℕ} {at : ℕ} {cells : List ℤ} {marks : List ℕ} {base n w scratch : ℕ} (room : StateRoom s at cells marks base n w scratch) where
  abbrev t : Table
  t = rows_from cells marks w base n

  abbrev a : Aggregate
  a = aggregate_at s at

  long : length t ≡ n
  long = rows_long cells marks w base n

  known : byte s at < 9
  known = aggregate-known s at room.fits.inside room.fits.good

  same-name : name_at (byte s at) ≡ name_of a
  same-name = name-here s at room.fits.inside room.fits.good

  -- ---- fed as the rows are

  plain-rises : needs_order (byte s at) n ≡ false → Rises (name_at (byte s at)) (values_by (name_at (byte s at)) (byte s (at + 1)) (byte s (at + 2)) t)
  unfolding needs_order
  plain-rises e d = pick (ltb n 2) refl e
    where
      pick : (b : Bool) → ltb n 2 ≡ b → (not b && distinct_of (named (byte s at))) ≡ false → upwards (values_by (name_at (byte s at)) (byte s (at + 1)) (byte s (at + 2)) t) ≡ true
      pick true l f = short_up (name_at (byte s at)) (byte s (at + 1)) (byte s (at + 2)) t (omega (arith, ltb-true n 2 l, long))
      pick false l f = false_true (sym f ∙ ap distinct_of (known-called (byte s at) known) ∙ d)

  pub plain-room : {b : Bool} → b ≡ needs_order (byte s at) n → b ≡ false → FeedRoom (byte s at) (byte s (at + 1)) (byte s (at + 2)) cells marks base n w
  plain-room e f = record {
    known = known;
    v_in = room.fits.v_in;
    c_in = room.fits.c_in;
    held = room.run.held;
    small = rw (values_here s at room.fits.inside room.fits.good t, same-name) room.fits.small;
    rises = plain-rises (sym e ∙ f);
  }

  pub plain_done : {st : Running} → Fed (byte s at) (byte s (at + 1)) (byte s (at + 2)) cells marks base n w st → StateDone s at cells marks cells marks base n w scratch st
  plain_done k = record {
    kept = untouched-none;
    answers = took_answers a t (rw (values_here s at room.fits.inside room.fits.good t, same-name) at k);
  }

  -- ---- fed with the sorted column

  module _ {b : Bool} (e : b ≡ needs_order (byte s at) n) (f : b ≡ true) where
    more : ltb n 2 ≡ false
    unfolding needs_order
    more = not-true (ltb n 2) (and_left (not (ltb n 2)) (distinct_of (named (byte s at))) (sym e ∙ f))

    distinct : is_distinct (name_of a) ≡ true
    unfolding needs_order
    distinct = sym (distinct-here s at room.fits.inside room.fits.good) ∙ and_right (not (ltb n 2)) (distinct_of (named (byte s at))) (sym e ∙ f)

    pub two_cells : scratch + 2 * n ≤ length cells
    two_cells = omega (arith, room.run.cells-room, scratch_two n more)

    pub two_marks : scratch + 2 * n ≤ length marks
    two_marks = omega (arith, room.run.marks-room, scratch_two n more)

    pub column-room : PickRoom cells marks (At (column_place (base + byte s (at + 1)) w)) scratch n
    column-room = record {
      below = λ i k l g. let m : (i + 1) * w ≤ n * w = mul-le-mul_right w (omega arith) in omega (arith, g, room.fits.v_in, room.run.below);
      cells_to = omega (arith, two_cells);
      marks_to = omega (arith, two_marks);
    }

    pub column-starts : base + byte s (at + 1) < scratch
    column-starts = omega (arith, column-room.below 0 (base + byte s (at + 1)) (omega (arith, ltb-false n 2 more)) (omega arith))

    module _ {cells₁ : List ℤ} {marks₁ : List ℕ} (p : PickDone cells marks cells₁ marks₁ (At (column_place (base + byte s (at + 1)) w)) scratch n) where
      copied : HeldRows cells₁ marks₁ scratch 1 (column_of (byte s (at + 1)) t)
      copied =
          column-held (byte s (at + 1)) t (rw long p) room.run.held room.fits.v_in
          (omega (arith, two_cells, long)) (omega (arith, two_marks, long))

      column-read : rows_from cells₁ marks₁ 1 scratch n ≡ column_of (byte s (at + 1)) t
      column-read = ap (rows_from cells₁ marks₁ 1 scratch) (sym (column-long (byte s (at + 1)) t ∙ long)) ∙ rows-read scratch (column_of (byte s (at + 1)) t) copied

      pub order-room : SortRoom (0 ∷ []) cells₁ marks₁ scratch n 1 (scratch + n)
      order-room = record {
        listed = record { narrow = only };
        held = rw column-read copied;
        room = record {
          cells_from = omega (arith, two_cells, p.cells_picked.kept.long);
          marks_from = omega (arith, two_marks, p.marks_picked.kept.long);
          cells_to = omega (arith, two_cells, p.cells_picked.kept.long);
          marks_to = omega (arith, two_marks, p.marks_picked.kept.long);
          apart = inl (omega arith);
        };
        few = room.run.few;
      }

      module _ {cells₂ : List ℤ} {marks₂ : List ℕ} (o : SortDone (0 ∷ []) cells₁ marks₁ cells₂ marks₂ scratch n 1 (scratch + n)) where
        abbrev u : Table
        u = rows_from cells₂ marks₂ 1 scratch n

        sorted : SortOf (0 ∷ []) (column_of (get_or (columns_read a) 0 0) t) u
        sorted = rw (column-read, first-here s at room.fits.inside room.fits.good) at o.sort

        made : ByColumn a (over_column a) t u
        made = by-column a distinct sorted

        values_same : values_by (name_at (byte s at)) 0 0 u ≡ values_of (over_column a) u
        values_same =
            rw (same-name ∙ sym made.name) (rw (made.first, made.second) at (values_by_lem (over_column a) u))

        pub ordered_room : FeedRoom (byte s at) 0 0 cells₂ marks₂ scratch n 1
        ordered_room = record {
          known = known;
          v_in = lit< tt;
          c_in = lit< tt;
          held = o.held;
          small = rw (values_same, same-name) (omega (arith, rw made.name at made.most, room.fits.small));
          rises = λ d. rw values_same made.rises;
        }

        sort-kept : Untouched cells₁ marks₁ cells₂ marks₂ scratch (scratch + 2 * n)
        sort-kept = record {
          cells-kept = record {
            long = o.spared.cells-long;
            below = λ i l. o.spared.cells_same i (inl l) (inl (omega arith));
            above = λ i l. o.spared.cells_same i (inr (omega arith)) (inr (omega arith));
          };
          marks-kept = record {
            long = o.spared.marks-long;
            below = λ i l. o.spared.marks-same i (inl l) (inl (omega arith));
            above = λ i l. o.spared.marks-same i (inr (omega arith)) (inr (omega arith));
          };
        }

        pub ordered_done : {st : Running} → Fed (byte s at) 0 0 cells₂ marks₂ scratch n 1 st → StateDone s at cells marks cells₂ marks₂ base n w scratch st
        ordered_done k = record {
          kept = rw (scratch_two n more) (untouched_then (untouched_wider (picked_untouched p) (omega arith) (omega arith)) sort-kept);
          answers = rw (sym made.same) (took_answers (over_column a) u (rw (values_same, same-name ∙ sym made.name) at k));
        }
