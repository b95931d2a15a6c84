-- What it is that a grouping's rows are written: what is asked for, what is done, and the law of a loop that goes from run to run.
use Rattle.std.specs.Prelude.{◌≡◌, refl, Bool, true, List, [], ◌∷◌, ◌++◌, map, ℕ, zero, suc, ◌+◌, ◌-◌, ◌*◌, ◌<◌, ◌≤◌, ◌^◌, ltb, length, get_or, take, drop, ℤ}
use Rattle.std.proofs.Common.{sym, ap, subst, ◌∙◌, inl, inr, append_assoc, append-nil, mul-le-mul, mul-le-mul_right, mul-le-mul_left, arith, length-append, take_at, drop_at, ltb-true}
use Rattle.std.proofs.lemmas.List.{length-map}
use Rattle.meaning.specs.Plans.{Row, Table, Aggregate, rows, name_of, columns_read}
use Rattle.meaning.specs.Aggregating.{values_of, aggregate}
use Rattle.meaning.specs.Grouping.{key, group_row, group_rows}
use Rattle.meaning.specs.Check.{all, columns_there}
use Rattle.meaning.specs.Running.{cells_from, rows_from}
use Rattle.meaning.proofs.Widths.{rows_long}
use Rattle.lists.specs.Each.{Each, each_to, each_at, all-each}
use Rattle.lists.specs.Tests.{and_left, and_right}
use Rattle.node_bytes.specs.Rows.{every, length_list}
use Rattle.node_bytes.specs.Nodes.{byte, aggregate_good, aggregates_good, group_size, group_good}
use Rattle.arrangement.proofs.Items.{aggregate_at}
use Rattle.arrangement.proofs.Roots.{columns_from, aggregates_from}
use Rattle.regions.specs.Keeping.{kept-all}
use Rattle.regions.specs.Holding.{Held, HeldRows, Untouched, rows_none, rows_more}
use Rattle.regions.specs.Reading.{row_at}
use Rattle.running.specs.Rows.{values_append}
use Rattle.running.specs.Sizes.{most_of, most-append}
use Rattle.sorting.specs.Sorting.{Listed, SortRoom, SortDone}
use Rattle.sorting.specs.Columns.{columns-long, columns_at, columns_listed}
use Rattle.regions.specs.Rows.{untouched_then, untouched_wider, rows-front, rows_back, rows_apart, rows_to, rows_stay, rows_same}
use Rattle.groups.proofs.Runs.{RunEnd, runs_of, rest, rest-none, rest-step, written-few}
use Rattle.groups.proofs.Grouped.{runs_of-group_rows}
use Rattle.grouping.specs.Picking.{get_d_list, key-long}
use Rattle.grouping.specs.Feeding.{rows_append}
use Rattle.grouping.specs.Sorted.{sort-stable, sort_ascends, sort-most}
use Rattle.grouping.specs.Single.{scratch_for, scratch_fits, AggregateFits, first-here, second-here}
use Rattle.grouping.specs.Writing.{RowRoom, RowDone}
use Rattle.grouping.specs.Ending.{EndRoom}

-- how wide a grouping's rows are, by the counts in its node
abbrev pub group_width : List ℕ → ℕ → ℕ
group_width s at = byte s (at + 1) + byte s (at + 2)

-- A grouping's node stands in the bytes, its input's rows stand in the area, and behind them is room for as many rows of 16 cells.
pub record GroupRoom (s : List ℕ) (at : ℕ) (cells : List ℤ) (marks : List ℕ) (input n w out : ℕ) : Type 0 where
  pub tag : byte s at ≡ 4
  pub node : at + group_size s at ≤ length s
  pub good : group_good s at ≡ true
  pub key-columns : columns_there w (columns_from s at) ≡ true
  pub read-columns : all (λ (a : Aggregate). columns_there w (columns_read a)) (aggregates_from s at) ≡ true
  pub some-width : 1 ≤ group_width s at
  pub most-width : group_width s at ≤ 16
  pub some-columns : 1 ≤ w
  pub most-columns : w ≤ 16
  pub few : n ≤ 4096
  pub held : HeldRows cells marks input w (rows_from cells marks w input n)
  pub order : input + 16 * n ≤ out
  pub cells-room : out + 16 * n ≤ length cells
  pub marks-room : out + 16 * n ≤ length marks
  pub takes : Each (λ (a : Aggregate). most_of (name_of a) (values_of a (rows_from cells marks w input n)) < 2 ^ 63) (aggregates_from s at)

-- the rows of the runs are written
pub record RunsDone (s : List ℕ) (at : ℕ) (cells : List ℤ) (marks : List ℕ) (cells' : List ℤ) (marks' : List ℕ) (input n w out count : ℕ) : Type 0 where
  pub counted : count ≡ length (runs_of (columns_from s at) (aggregates_from s at) (rows_from cells marks w input n))
  pub held : HeldRows cells' marks' out (group_width s at) (runs_of (columns_from s at) (aggregates_from s at) (rows_from cells marks w input n))
  pub kept : Untouched cells marks cells' marks' out (out + 16 * n)

-- the grouping's rows are written
pub record GroupDone (s : List ℕ) (at : ℕ) (cells : List ℤ) (marks : List ℕ) (cells' : List ℤ) (marks' : List ℕ) (input n w out count : ℕ) : Type 0 where
  pub counted : count ≡ length (group_rows (columns_from s at) (aggregates_from s at) (rows_from cells marks w input n))
  pub held : HeldRows cells' marks' out (group_width s at) (group_rows (columns_from s at) (aggregates_from s at) (rows_from cells marks w input n))
  pub kept : Untouched cells marks cells' marks' input (out + 16 * n)

-- The first i rows are grouped: what is written, with what the rows that are left come to, is all.
pub record Grouped (s : List ℕ) (at : ℕ) (cells : List ℤ) (marks : List ℕ) (cells' : List ℤ) (marks' : List ℕ) (input n w out count i : ℕ) : Type 0 where
  pub done : Table
  pub long : length done ≡ count
  pub written : HeldRows cells' marks' out (group_width s at) done
  pub left : done ++ rest (columns_from s at) (aggregates_from s at) (rows_from cells marks w input n) i
      ≡ runs_of (columns_from s at) (aggregates_from s at) (rows_from cells marks w input n)
  pub kept : Untouched cells marks cells' marks' out (out + 16 * n)
  pub within : i ≤ n

-- ---- a thing of a row of things

every_at : (f : ℕ → Bool) (k at n j : ℕ) → every f k at n ≡ true → j < n → f (at + k * j) ≡ true
unfolding every
every_at f k at zero j e l = absurd (omega arith)
every_at f k at (suc n) zero e l = let q : at + k * 0 ≡ at = omega arith in rw q (and_left (f at) (every f k (at + k) n) e)
every_at f k at (suc n) (suc j) e l =
    let q : at + k + k * j ≡ at + k * suc j = omega arith in
    rw q at (every_at f k (at + k) n j (and_right (f at) (every f k (at + k) n) e) (omega arith))

-- a column that is read is there; where none is, 0 is
there_at : (w : ℕ) (cs : List ℕ) → 1 ≤ w → columns_there w cs ≡ true → (i : ℕ) → get_or cs i 0 < w
unfolding columns_there all
there_at w [] o e i = omega arith
there_at w (x ∷ cs) o e zero = ltb-true x w (and_left (ltb x w) (all (λ (i : ℕ). ltb i w) cs) e)
there_at w (x ∷ cs) o e (suc i) = there_at w cs o (and_right (ltb x w) (all (λ (i : ℕ). ltb i w) cs) e) i

-- a grouping's width, by its columns as the code has them
pub width_here : (s : List ℕ) (at : ℕ) {cols : List ℕ} → cols ≡ columns_from s at → length cols + byte s (at + 2) ≡ group_width s at
width_here s at o = ap (λ (k : ℕ). k + byte s (at + 2)) (ap length o ∙ columns-long s (at + 3) (byte s (at + 1)))

-- ---- rows in the middle of others

module _ (cells : List ℤ) (marks : List ℕ) (w base n i e : ℕ) (a : i ≤ e) (b : e ≤ n) where
  three_parts : rows_from cells marks w base n
      ≡ rows_from cells marks w base i ++ (rows_from cells marks w (base + i * w) (e - i) ++ rows_from cells marks w (base + i * w + (e - i) * w) (n - e))
  three_parts =
      ap (rows_from cells marks w base) (let q : n ≡ i + (e - i + (n - e)) = omega arith in q)
      ∙ rows_append cells marks w base i (e - i + (n - e))
      ∙ ap (λ (t : Table). rows_from cells marks w base i ++ t) (rows_append cells marks w (base + i * w) (e - i) (n - e))

  part-rows : rows_from cells marks w (base + i * w) (e - i) ≡ take (e - i) (drop i (rows_from cells marks w base n))
  part-rows =
      let d = drop_at (rows_from cells marks w base i) (rows_from cells marks w (base + i * w) (e - i) ++ rows_from cells marks w (base + i * w + (e - i) * w) (n - e)) i
      (rows_long cells marks w base i) in
      let k = take_at (rows_from cells marks w (base + i * w) (e - i)) (rows_from cells marks w (base + i * w + (e - i) * w) (n - e)) (e - i)
      (rows_long cells marks w (base + i * w) (e - i)) in
      rw three_parts (sym (ap (take (e - i)) d ∙ k))

  part_held : HeldRows cells marks base w (rows_from cells marks w base n) → HeldRows cells marks (base + i * w) w (rows_from cells marks w (base + i * w) (e - i))
  part_held h =
      rows-front (rows_from cells marks w (base + i * w) (e - i)) (rows_from cells marks w (base + i * w + (e - i) * w) (n - e))
      (rows_to (ap (λ (k : ℕ). base + k * w) (rows_long cells marks w base i))
      (rows_back (rows_from cells marks w base i) (rows_from cells marks w (base + i * w) (e - i) ++ rows_from cells marks w (base + i * w + (e - i) * w) (n - e))
      (rw three_parts at h)))

  part_small : (g : Aggregate) → most_of (name_of g) (values_of g (rows_from cells marks w base n)) < 2 ^ 63
      → most_of (name_of g) (values_of g (rows_from cells marks w (base + i * w) (e - i))) < 2 ^ 63
  part_small g h =
      less (name_of g) g (rows_from cells marks w base i) (rows_from cells marks w (base + i * w) (e - i)) (rows_from cells marks w (base + i * w + (e - i) * w) (n - e))
      (rw three_parts at h)
    where
      less : (m : _) (g : Aggregate) (p q z : Table) → most_of m (values_of g (p ++ (q ++ z))) < 2 ^ 63 → most_of m (values_of g q) < 2 ^ 63
      less m g p q z h =
          let v : values_of g (p ++ (q ++ z)) ≡ values_of g p ++ (values_of g q ++ values_of g z) =
          values_append g p (q ++ z) ∙ ap (λ (l : List ℤ). values_of g p ++ l) (values_append g q z) in
          let k : most_of m (values_of g p ++ (values_of g q ++ values_of g z)) < 2 ^ 63 = rw v at h in
          omega (arith, most-append m (values_of g p) (values_of g q ++ values_of g z), most-append m (values_of g q) (values_of g z))

  part-first : i < e → get_or (rows_from cells marks w (base + i * w) (e - i)) 0 [] ≡ get_or (rows_from cells marks w base n) i []
  part-first l =
      row_at cells marks w (base + i * w) (e - i) 0 (omega arith)
      ∙ ap (λ (k : ℕ). cells_from cells marks k w) (let q : base + i * w + 0 * w ≡ base + i * w = omega arith in q)
      ∙ sym (row_at cells marks w base n i (omega arith))

part-fits : (i e n w : ℕ) → i ≤ e → e ≤ n → i * w + (e - i) * w ≤ n * w
part-fits i e n w a b = fits (e - i) (omega arith)
  where
    fits : (k : ℕ) → i + k ≤ n → i * w + k * w ≤ n * w
    fits k l = let m : (i + k) * w ≤ n * w = mul-le-mul_right w l in omega arith

group-row-long : (s : List ℕ) (at : ℕ) (x : Row) (t : Table) → length (group_row (aggregates_from s at) (key (columns_from s at) x) t) ≡ group_width s at
unfolding group_row
group-row-long s at x t =
    length-append (key (columns_from s at) x) (map (λ (a : Aggregate). aggregate a t) (aggregates_from s at))
    ∙ (let p = key-long (columns_from s at) x ∙ columns-long s (at + 3) (byte s (at + 1)) in
    let q = length-map (aggregates_from s at) (λ (a : Aggregate). aggregate a t) in
    let k = length_list (aggregate_at s) 3 (at + 3 + byte s (at + 1)) (byte s (at + 2)) in
    omega (arith, p, q, k))

-- ---- what the room gives

module _ {s : List ℕ} {at : ℕ} {cells : List ℤ} {marks : List ℕ} {input n w out : ℕ} (r : GroupRoom s at cells marks input n w out) where
  abbrev cols : List ℕ
  cols = columns_from s at

  abbrev aggs : List Aggregate
  aggs = aggregates_from s at

  abbrev t : Table
  t = rows_from cells marks w input n

  pub node-inside : at + 3 + byte s (at + 1) + 3 * byte s (at + 2) ≤ length s
  unfolding group_size
  node-inside = omega (arith, r.node)

  narrow : (i : ℕ) → i < byte s (at + 1) → byte s (at + 3 + i) < w
  narrow i l = subst (λ (k : ℕ). k < w) (columns_at s (at + 3) (byte s (at + 1)) i l) (there_at w cols r.some-columns r.key-columns i)

  pub listed : Listed cols w
  listed = columns_listed s (at + 3) (byte s (at + 1)) w narrow

  pub columns-inside : at + 3 + byte s (at + 1) ≤ length s
  columns-inside = omega (arith, node-inside)

  rows-room : n * w ≤ 16 * n
  rows-room = let m : n * w ≤ n * 16 = mul-le-mul_left n r.most-columns in omega arith

  module _ (j : ℕ) (l : j < byte s (at + 2)) where
    abbrev place : ℕ
    place = at + 3 + byte s (at + 1) + 3 * j

    here : get_or aggs j rows ≡ aggregate_at s place
    here = get_d_list (aggregate_at s) 3 (at + 3 + byte s (at + 1)) (byte s (at + 2)) j rows l

    count-aggs : length aggs ≡ byte s (at + 2)
    count-aggs = length_list (aggregate_at s) 3 (at + 3 + byte s (at + 1)) (byte s (at + 2))

    three_inside : place + 3 ≤ length s
    three_inside = omega (arith, node-inside)

    good-here : aggregate_good s place ≡ true
    unfolding group_good aggregates_good
    good-here = every_at (aggregate_good s) 3 (at + 3 + byte s (at + 1)) (byte s (at + 2)) j r.good l

    reads_here : columns_there w (columns_read (aggregate_at s place)) ≡ true
    reads_here =
        subst (λ (a : Aggregate). columns_there w (columns_read a) ≡ true) here
        (each_at (λ (a : Aggregate). columns_there w (columns_read a) ≡ true) rows aggs j (all-each (λ (a : Aggregate). columns_there w (columns_read a)) aggs r.read-columns) (omega (arith, count-aggs)))

    small-here : most_of (name_of (aggregate_at s place)) (values_of (aggregate_at s place) t) < 2 ^ 63
    small-here =
        subst (λ (a : Aggregate). most_of (name_of a) (values_of a t) < 2 ^ 63) here
        (each_at (λ (a : Aggregate). most_of (name_of a) (values_of a t) < 2 ^ 63) rows aggs j r.takes (omega (arith, count-aggs)))

    fits-part : (i e : ℕ) → i ≤ e → e ≤ n → AggregateFits s place w (rows_from cells marks w (input + i * w) (e - i))
    fits-part i e a b = record {
      inside = three_inside;
      good = good-here;
      v_in = rw (first-here s place three_inside good-here) (there_at w (columns_read (aggregate_at s place)) r.some-columns reads_here 0);
      c_in = rw (second-here s place three_inside good-here) (there_at w (columns_read (aggregate_at s place)) r.some-columns reads_here 1);
      small = part_small cells marks w input n i e a b (aggregate_at s place) small-here;
    }

  -- ---- the sort

  pub sort-room : SortRoom (columns_from s at) cells marks input n w out
  sort-room = record {
    listed = listed;
    held = r.held;
    room = record {
      cells_from = omega (arith, rows-room, r.order, r.cells-room);
      marks_from = omega (arith, rows-room, r.order, r.marks-room);
      cells_to = omega (arith, rows-room, r.cells-room);
      marks_to = omega (arith, rows-room, r.marks-room);
      apart = inl (omega (arith, rows-room, r.order));
    };
    few = r.few;
  }

  module _ {cells₁ : List ℤ} {marks₁ : List ℕ} (o : SortDone (columns_from s at) cells marks cells₁ marks₁ input n w out) where
    pub sorted-room : GroupRoom s at cells₁ marks₁ input n w out
    sorted-room = record {
      tag = r.tag;
      node = r.node;
      good = r.good;
      key-columns = r.key-columns;
      read-columns = r.read-columns;
      some-width = r.some-width;
      most-width = r.most-width;
      some-columns = r.some-columns;
      most-columns = r.most-columns;
      few = r.few;
      held = o.held;
      order = r.order;
      cells-room = omega (arith, r.cells-room, o.spared.cells-long);
      marks-room = omega (arith, r.marks-room, o.spared.marks-long);
      takes = each_to (λ (a : Aggregate). most_of (name_of a) (values_of a t) < 2 ^ 63) (λ (a : Aggregate). most_of (name_of a) (values_of a (rows_from cells₁ marks₁ w input n)) < 2 ^ 63)
          (λ a h. rw (sort-most o.sort (name_of a) a) h) aggs r.takes;
    }

    sort-kept : Untouched cells marks cells₁ marks₁ input (out + 16 * n)
    sort-kept = record {
      cells-kept = record {
        long = o.spared.cells-long;
        below = λ i l. o.spared.cells_same i (inl l) (inl (omega (arith, r.order)));
        above = λ i l. o.spared.cells_same i (inr (omega (arith, rows-room, r.order))) (inr (omega (arith, rows-room)));
      };
      marks-kept = record {
        long = o.spared.marks-long;
        below = λ i l. o.spared.marks-same i (inl l) (inl (omega (arith, r.order)));
        above = λ i l. o.spared.marks-same i (inr (omega (arith, rows-room, r.order))) (inr (omega (arith, rows-room)));
      };
    }

    runs-groups : runs_of cols aggs (rows_from cells₁ marks₁ w input n) ≡ group_rows cols aggs t
    runs-groups = runs_of-group_rows cols aggs (rows_from cells₁ marks₁ w input n) t (sort_ascends o.sort) (sort-stable o.sort)

    pub group-done : {cells₂ : List ℤ} {marks₂ : List ℕ} {count : ℕ} → RunsDone s at cells₁ marks₁ cells₂ marks₂ input n w out count
        → GroupDone s at cells marks cells₂ marks₂ input n w out count
    group-done d = record {
      counted = d.counted ∙ ap length runs-groups;
      held = rw runs-groups at d.held;
      kept = untouched_then sort-kept (untouched_wider d.kept (omega (arith, r.order)) (omega arith));
    }

  -- ---- from run to run

  pub grouped-none : Grouped s at cells marks cells marks input n w out 0 0
  grouped-none = record {
    done = [];
    long = refl;
    written = rows_none out (group_width s at) (omega (arith, r.cells-room)) (omega (arith, r.marks-room));
    left = refl;
    kept = record { cells-kept = kept-all; marks-kept = kept-all };
    within = omega arith;
  }

  module _ {cells₁ : List ℤ} {marks₁ : List ℕ} {count i : ℕ} (g : Grouped s at cells marks cells₁ marks₁ input n w out count i) where
    below : input + n * w ≤ out
    below = omega (arith, rows-room, r.order)

    same : rows_from cells₁ marks₁ w input n ≡ t
    same = rows_same n r.held g.kept below

    pub count-few : count ≤ i
    count-few = omega (arith, written-few cols aggs t g.done i g.left, g.long)

    pub grouped_end : n ≤ i → RunsDone s at cells marks cells₁ marks₁ input n w out count
    grouped_end l =
        let k : i ≡ length t = (let q : i ≡ n = omega (arith, g.within) in q) ∙ sym (rows_long cells marks w input n) in
        let z : rest cols aggs t i ≡ [] = ap (rest cols aggs t) k ∙ rest-none cols aggs t in
        let e : g.done ≡ runs_of cols aggs t = sym (append-nil g.done) ∙ ap (λ (l : Table). g.done ++ l) (sym z) ∙ g.left in
        record { counted = sym g.long ∙ ap length e; held = rw e at g.written; kept = g.kept }

    module _ (l : i < n) where
      pub end_room : EndRoom (columns_from s at) cells₁ marks₁ input n w i
      end_room = record { listed = listed; held = rw same (rows_stay n r.held g.kept below); before = l }

      module _ {e : ℕ} (d : RunEnd cols (rows_from cells₁ marks₁ w input n) i e) where
        ends : RunEnd cols t i e
        ends = rw same at d

        pub end_after : i < e
        end_after = d.after

        pub end_within : e ≤ n
        end_within = omega (arith, d.within, rows_long cells₁ marks₁ w input n)

        -- the row and the scratch behind it
        pub place-room : count * group_width s at + group_width s at + scratch_for (e - i) ≤ 16 * n
        place-room =
            let m : (count + 1) * group_width s at ≤ (i + 1) * 16 = mul-le-mul (omega (arith, count-few)) r.most-width in
            omega (arith, scratch_fits (e - i) (omega (arith, end_after)), end_within, end_after)

        pub run-below : input + i * w + (e - i) * w ≤ out
        run-below = omega (arith, part-fits i e n w (omega (arith, end_after)) end_within, below)

        run-held : HeldRows cells marks (input + i * w) w (rows_from cells marks w (input + i * w) (e - i))
        run-held = part_held cells marks w input n i e (omega (arith, end_after)) end_within r.held

        run-same : rows_from cells₁ marks₁ w (input + i * w) (e - i) ≡ rows_from cells marks w (input + i * w) (e - i)
        run-same = rows_same (e - i) run-held g.kept run-below

        pub row_room : RowRoom s at cells₁ marks₁ (input + i * w) (e - i) w (out + count * group_width s at)
        row_room = record {
          some = omega (arith, end_after);
          inside = r.node;
          narrow = narrow;
          each = λ j m. rw run-same (fits-part j m i e (omega (arith, end_after)) end_within);
          run = record {
            held = rw run-same (rows_stay (e - i) run-held g.kept run-below);
            below = omega (arith, run-below);
            cells-room = omega (arith, place-room, r.cells-room, g.kept.cells-kept.long);
            marks-room = omega (arith, place-room, r.marks-room, g.kept.marks-kept.long);
            few = omega (arith, end_within, r.few);
          };
          above = omega (arith, run-below);
        }

        abbrev row : Row
        row = group_row aggs (key cols (get_or t i [])) (take (e - i) (drop i t))

        module _ {cells₂ : List ℤ} {marks₂ : List ℕ} (f : RowDone s at cells₁ marks₁ cells₂ marks₂ (input + i * w) (e - i) w (out + count * group_width s at)) where
          row_written : Held cells₂ marks₂ (out + length g.done * group_width s at) row
          row_written =
              let a : rows_from cells₁ marks₁ w (input + i * w) (e - i) ≡ take (e - i) (drop i t) =
              run-same ∙ part-rows cells marks w input n i e (omega (arith, end_after)) end_within in
              let b : get_or (rows_from cells₁ marks₁ w (input + i * w) (e - i)) 0 [] ≡ get_or t i [] =
              ap (λ (x : Table). get_or x 0 []) run-same ∙ part-first cells marks w input n i e (omega (arith, end_after)) end_within end_after in
              rw g.long (rw (b, a) at f.written)

          pub grouped-more : Grouped s at cells marks cells₂ marks₂ input n w out (count + 1) e
          grouped-more = record {
            done = g.done ++ row ∷ [];
            long = length-append g.done (row ∷ []) ∙ ap (λ (k : ℕ). k + 1) g.long;
            written = rows_more g.done row
                (rows_apart f.kept (inl (rw g.long (omega arith))) g.written)
                (group-row-long s at (get_or t i []) (take (e - i) (drop i t))) row_written;
            left = append_assoc g.done (row ∷ []) (rest cols aggs t e) ∙ ap (λ (l : Table). g.done ++ l) (sym (rest-step cols aggs t i e ends)) ∙ g.left;
            kept = untouched_then g.kept (untouched_wider f.kept (omega arith) (omega (arith, place-room)));
            within = end_within;
          }
