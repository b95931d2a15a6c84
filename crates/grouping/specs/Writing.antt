-- A group's row written into an area: the key, then each aggregate behind the ones before.
use Rattle.std.specs.Prelude.{◌≡◌, Bool, true, false, not, List, [], ◌∷◌, ◌++◌, map, ℕ, zero, suc, ◌+◌, ◌*◌, ◌<◌, ◌≤◌, length, get_or, set, ℤ, pos, Option, Some, None}
use Rattle.std.specs.Option.{is_some, unwrap_or}
use Rattle.std.proofs.Math.Path.{refl}
use Rattle.std.proofs.Common.{sym, ap, ◌∙◌, mul-le-mul_right, arith, get_or-set_same}
use Rattle.std.proofs.lemmas.List.{length-map, map-append}
use Rattle.meaning.specs.Cells.{Cell, null, num}
use Rattle.meaning.specs.Plans.{Row, Table, Aggregate}
use Rattle.meaning.specs.Aggregating.{aggregate}
use Rattle.meaning.specs.Grouping.{key, group_row}
use Rattle.meaning.specs.Running.{rows_from, cell_number, cell_mark}
use Rattle.meaning.proofs.Widths.{rows_long}
use Rattle.node_bytes.specs.Rows.{list_at, length_list, list_more}
use Rattle.node_bytes.specs.Nodes.{byte, group_size}
use Rattle.arrangement.proofs.Items.{aggregate_at}
use Rattle.arrangement.proofs.Roots.{columns_from, aggregates_from}
use Rattle.regions.specs.Keeping.{kept_then, kept_wider, kept_set}
use Rattle.regions.specs.Holding.{Held, Untouched, held_both, held_to, held_below, row-held}
use Rattle.sorting.specs.Columns.{columns-long, columns_at}
use Rattle.running.specs.declared.Running.{Running}
use Rattle.running.specs.States.{finish_of}
use Rattle.regions.specs.Reading.{number_or_none}
use Rattle.regions.specs.Rows.{untouched_then, untouched_wider, rows_stay, rows_same}
use Rattle.grouping.specs.Picking.{PickRoom, PickDone, At, key_place, key-held, key-long, picked_untouched}
use Rattle.grouping.specs.Single.{scratch_for, AggregateFits, RunRoom, StateRoom, StateDone}

-- ---- rows below what is written

pub run-stays : {cells cells' : List ℤ} {marks marks' : List ℕ} {base n w scratch from to : ℕ} → RunRoom cells marks base n w scratch
    → Untouched cells marks cells' marks' from to → base + n * w ≤ from → RunRoom cells' marks' base n w scratch
run-stays {cells} {cells'} {marks} {marks'} {base} {n} {w} r u b = record {
  held = rw (rows_same n r.held u b) (rows_stay n r.held u b);
  below = r.below;
  cells-room = omega (arith, r.cells-room, u.cells-kept.long);
  marks-room = omega (arith, r.marks-room, u.marks-kept.long);
  few = r.few;
}

-- ---- one aggregate

-- the mark of what an aggregate answers
abbrev pub null_mark : Option ℤ → ℕ
null_mark None = 1
null_mark (Some z) = 0

pub mark-null : (o : Option ℤ) (b : Bool) {m : ℕ} → (b ≡ true → m ≡ 1) → (b ≡ false → m ≡ 0) → is_some o ≡ not b → m ≡ null_mark o
mark-null None true f g e = f refl
mark-null None false f g e = cc
mark-null (Some z) true f g e = cc
mark-null (Some z) false f g e = g refl

value_number : (x : Cell) → unwrap_or (number_or_none x) (pos 0) ≡ cell_number x
unfolding number_or_none cell_number
value_number null = refl
value_number (num z) = refl

value_mark : (x : Cell) → null_mark (number_or_none x) ≡ cell_mark x
unfolding number_or_none cell_mark
value_mark null = refl
value_mark (num z) = refl

pub record CellRoom (s : List ℕ) (at : ℕ) (cells : List ℤ) (marks : List ℕ) (base n w to scratch : ℕ) : Type 0 where
  pub state : StateRoom s at cells marks base n w scratch
  pub above : base + n * w ≤ to
  pub before : to < scratch

pub record CellDone (s : List ℕ) (at : ℕ) (cells : List ℤ) (marks : List ℕ) (cells' : List ℤ) (marks' : List ℕ) (base n w to scratch : ℕ) : Type 0 where
  pub kept : Untouched cells marks cells' marks' to (scratch + scratch_for n)
  pub number : get_or cells' to (pos 0) ≡ cell_number (aggregate (aggregate_at s at) (rows_from cells marks w base n))
  pub mark : get_or marks' to 0 ≡ cell_mark (aggregate (aggregate_at s at) (rows_from cells marks w base n))

-- the answer is written, a null as 0 with mark 1
pub cell-done : {s : List ℕ} {at : ℕ} {cells cells₁ : List ℤ} {marks marks₁ : List ℕ} {base n w to scratch : ℕ} {st : Running} {x : ℤ} {m : ℕ}
    → CellRoom s at cells marks base n w to scratch → StateDone s at cells marks cells₁ marks₁ base n w scratch st → x ≡ unwrap_or (finish_of st) (pos 0)
    → m ≡ null_mark (finish_of st) → CellDone s at cells marks (set cells₁ to x) (set marks₁ to m) base n w to scratch
cell-done {s} {at} {cells} {cells₁} {marks} {marks₁} {base} {n} {w} {to} {scratch} {st} {x} {m} r d e f = record {
  kept = record {
    cells-kept = kept_then (kept_wider d.kept.cells-kept (omega (arith, r.before)) (omega arith)) (kept_set cells₁ to x to (scratch + scratch_for n) (omega arith) (omega (arith, r.before)));
    marks-kept = kept_then (kept_wider d.kept.marks-kept (omega (arith, r.before)) (omega arith)) (kept_set marks₁ to m to (scratch + scratch_for n) (omega arith) (omega (arith, r.before)));
  };
  number = get_or-set_same cells₁ to x (pos 0) (omega (arith, r.before, r.state.run.cells-room, d.kept.cells-kept.long)) ∙ e ∙ ap (λ (o : Option ℤ). unwrap_or o (pos 0)) d.answers ∙ value_number (aggregate (aggregate_at s at) (rows_from cells marks w base n));
  mark = get_or-set_same marks₁ to m 0 (omega (arith, r.before, r.state.run.marks-room, d.kept.marks-kept.long)) ∙ f ∙ ap null_mark d.answers ∙ value_mark (aggregate (aggregate_at s at) (rows_from cells marks w base n));
}

-- ---- every aggregate

pub record CellsRoom (s : List ℕ) (at count : ℕ) (cells : List ℤ) (marks : List ℕ) (base n w to scratch : ℕ) : Type 0 where
  pub each : (j : ℕ) → j < count → AggregateFits s (at + 3 * j) w (rows_from cells marks w base n)
  pub run : RunRoom cells marks base n w scratch
  pub above : base + n * w ≤ to
  pub before : to + count ≤ scratch

abbrev pub answers_of : List ℕ → ℕ → ℕ → Table → Row
answers_of s at count t = map (λ (a : Aggregate). aggregate a t) (list_at (aggregate_at s) 3 at count)

pub record CellsDone (s : List ℕ) (at count : ℕ) (cells : List ℤ) (marks : List ℕ) (cells' : List ℤ) (marks' : List ℕ) (base n w to scratch : ℕ) : Type 0 where
  pub kept : Untouched cells marks cells' marks' to (scratch + scratch_for n)
  pub written : Held cells' marks' to (answers_of s at count (rows_from cells marks w base n))

answers-long : (s : List ℕ) (at count : ℕ) (t : Table) → length (answers_of s at count t) ≡ count
answers-long s at count t = length-map (list_at (aggregate_at s) 3 at count) (λ (a : Aggregate). aggregate a t) ∙ length_list (aggregate_at s) 3 at count

answers-more : (s : List ℕ) (at count : ℕ) (t : Table) → answers_of s at (count + 1) t ≡ answers_of s at count t ++ aggregate (aggregate_at s (at + 3 * count)) t ∷ []
answers-more s at count t =
    ap (map (λ (a : Aggregate). aggregate a t)) (list_more (aggregate_at s) 3 at count)
    ∙ map-append (λ (a : Aggregate). aggregate a t) (list_at (aggregate_at s) 3 at count) (aggregate_at s (at + 3 * count) ∷ [])

-- no cell, and one cell
pub held_none : {cells : List ℤ} {marks : List ℕ} {at : ℕ} → at ≤ length cells → at ≤ length marks → Held cells marks at []
held_none a b = record {
  numbers = record { fits = omega arith; same = λ i l. absurd (omega arith) };
  marked = record { fits = omega arith; same = λ i l. absurd (omega arith) };
}

held_one : {cells : List ℤ} {marks : List ℕ} (at : ℕ) (x : Cell) → at < length cells → at < length marks → get_or cells at (pos 0) ≡ cell_number x → get_or marks at 0 ≡ cell_mark x
    → Held cells marks at (x ∷ [])
held_one {cells} {marks} at x a b e f = record {
  numbers = record { fits = omega arith; same = first };
  marked = record { fits = omega arith; same = second };
}
  where
    first : (i : ℕ) → i < 1 → get_or cells (at + i) (pos 0) ≡ get_or (cell_number x ∷ []) i (pos 0)
    first zero l = let q : at + 0 ≡ at = omega arith in rw q e
    first (suc i) l = absurd (omega arith)

    second : (i : ℕ) → i < 1 → get_or marks (at + i) 0 ≡ get_or (cell_mark x ∷ []) i 0
    second zero l = let q : at + 0 ≡ at = omega arith in rw q f
    second (suc i) l = absurd (omega arith)

module _ {s : List ℕ} {at count : ℕ} {cells : List ℤ} {marks : List ℕ} {base n w to scratch : ℕ} (r : CellsRoom s at count cells marks base n w to scratch) where
  -- nothing written yet
  pub cells-none : CellsDone s at 0 cells marks cells marks base n w to scratch
  unfolding list_at
  cells-none = record {
    kept = record { cells-kept = record { long = refl; below = λ i l. refl; above = λ i l. refl }; marks-kept = record { long = refl; below = λ i l. refl; above = λ i l. refl } };
    written = held_none (omega (arith, r.before, r.run.cells-room)) (omega (arith, r.before, r.run.marks-room));
  }

  module _ {cells₁ : List ℤ} {marks₁ : List ℕ} (j : ℕ) (d : CellsDone s at j cells marks cells₁ marks₁ base n w to scratch) (l : j < count) where
    same : rows_from cells₁ marks₁ w base n ≡ rows_from cells marks w base n
    same = rows_same n r.run.held d.kept r.above

    -- what the next aggregate asks for, and the cells with it
    pub cells-next : CellRoom s (at + 3 * j) cells₁ marks₁ base n w (to + j) scratch
    cells-next = record {
      state = record { fits = rw same (r.each j l); run = run-stays r.run d.kept r.above };
      above = omega (arith, r.above);
      before = omega (arith, r.before);
    }

    pub cells-more : {cells₂ : List ℤ} {marks₂ : List ℕ} → CellDone s (at + 3 * j) cells₁ marks₁ cells₂ marks₂ base n w (to + j) scratch
        → CellsDone s at (j + 1) cells marks cells₂ marks₂ base n w to scratch
    cells-more {cells₂} {marks₂} c = record {
      kept = untouched_then d.kept (untouched_wider c.kept (omega arith) (omega arith));
      written = rw (answers-more s at j (rows_from cells marks w base n))
          (held_both (answers_of s at j (rows_from cells marks w base n)) (aggregate (aggregate_at s (at + 3 * j)) (rows_from cells marks w base n) ∷ [])
          (held_below c.kept (rw (answers-long s at j (rows_from cells marks w base n)) (omega arith)) d.written)
          (held_to (ap (λ (k : ℕ). to + k) (sym (answers-long s at j (rows_from cells marks w base n))))
          (held_one (to + j) (aggregate (aggregate_at s (at + 3 * j)) (rows_from cells marks w base n))
          (omega (arith, r.before, r.run.cells-room, d.kept.cells-kept.long, c.kept.cells-kept.long))
          (omega (arith, r.before, r.run.marks-room, d.kept.marks-kept.long, c.kept.marks-kept.long))
          (rw same at c.number) (rw same at c.mark))));
    }

-- ---- a group's row

pub record RowRoom (s : List ℕ) (at : ℕ) (cells : List ℤ) (marks : List ℕ) (base n w to : ℕ) : Type 0 where
  pub some : 0 < n
  pub inside : at + group_size s at ≤ length s
  pub narrow : (i : ℕ) → i < byte s (at + 1) → byte s (at + 3 + i) < w
  pub each : (j : ℕ) → j < byte s (at + 2) → AggregateFits s (at + 3 + byte s (at + 1) + 3 * j) w (rows_from cells marks w base n)
  pub run : RunRoom cells marks base n w (to + byte s (at + 1) + byte s (at + 2))
  pub above : base + n * w ≤ to

pub record RowDone (s : List ℕ) (at : ℕ) (cells : List ℤ) (marks : List ℕ) (cells' : List ℤ) (marks' : List ℕ) (base n w to : ℕ) : Type 0 where
  pub kept : Untouched cells marks cells' marks' to (to + byte s (at + 1) + byte s (at + 2) + scratch_for n)
  pub written : Held cells' marks' to (group_row (aggregates_from s at) (key (columns_from s at) (get_or (rows_from cells marks w base n) 0 [])) (rows_from cells marks w base n))

module _ {s : List ℕ} {at : ℕ} {cells : List ℤ} {marks : List ℕ} {base n w to : ℕ} (r : RowRoom s at cells marks base n w to) where
  abbrev first : Row
  first = get_or (rows_from cells marks w base n) 0 []

  one-row : w ≤ n * w
  one-row = let m : 1 * w ≤ n * w = mul-le-mul_right w (omega (arith, r.some)) in omega arith

  pub head_inside : at + 3 + byte s (at + 1) + 3 * byte s (at + 2) ≤ length s
  unfolding group_size
  head_inside = omega (arith, r.inside)

  first-held : Held cells marks base first
  first-held =
      held_to (let q : base + 0 * w ≡ base = omega arith in q)
      (row-held (rows_from cells marks w base n) base r.run.held 0 (omega (arith, rows_long cells marks w base n, r.some)))

  first-long : length first ≡ w
  first-long = r.run.held.wide 0 (omega (arith, rows_long cells marks w base n, r.some))

  columns-many : length (columns_from s at) ≡ byte s (at + 1)
  columns-many = columns-long s (at + 3) (byte s (at + 1))

  columns-narrow : (i : ℕ) → i < length (columns_from s at) → get_or (columns_from s at) i 0 < w
  columns-narrow i l =
      let k : i < byte s (at + 1) = omega (arith, columns-many) in
      rw (columns_at s (at + 3) (byte s (at + 1)) i k) (r.narrow i k)

  pub key-room : PickRoom cells marks (At (key_place (columns_from s at) base)) to (length (columns_from s at))
  key-room = record {
    below = λ i k l g. omega (arith, g, columns-narrow i l, one-row, r.above);
    cells_to = omega (arith, columns-many, r.run.cells-room);
    marks_to = omega (arith, columns-many, r.run.marks-room);
  }

  module _ {cells₁ : List ℤ} {marks₁ : List ℕ} (p : PickDone cells marks cells₁ marks₁ (At (key_place (columns_from s at) base)) to (length (columns_from s at))) where
    key-written : Held cells₁ marks₁ to (key (columns_from s at) first)
    key-written =
        key-held (columns_from s at) first p first-held (λ i l. rw first-long (columns-narrow i l))
        (omega (arith, columns-many, r.run.cells-room)) (omega (arith, columns-many, r.run.marks-room))

    key-wide : length (key (columns_from s at) first) ≡ byte s (at + 1)
    key-wide = key-long (columns_from s at) first ∙ columns-many

    same_rows : rows_from cells₁ marks₁ w base n ≡ rows_from cells marks w base n
    same_rows = rows_same n r.run.held (picked_untouched p) r.above

    pub answers-room : CellsRoom s (at + 3 + byte s (at + 1)) (byte s (at + 2)) cells₁ marks₁ base n w (to + byte s (at + 1)) (to + byte s (at + 1) + byte s (at + 2))
    answers-room = record {
      each = λ j l. rw same_rows (r.each j l);
      run = run-stays r.run (picked_untouched p) r.above;
      above = omega (arith, r.above);
      before = omega arith;
    }

    pub row_done : {cells₂ : List ℤ} {marks₂ : List ℕ}
        → CellsDone s (at + 3 + byte s (at + 1)) (byte s (at + 2)) cells₁ marks₁ cells₂ marks₂ base n w (to + byte s (at + 1)) (to + byte s (at + 1) + byte s (at + 2))
        → RowDone s at cells marks cells₂ marks₂ base n w to
    unfolding group_row
    row_done d = record {
      kept = untouched_then (untouched_wider (picked_untouched p) (omega arith) (omega (arith, columns-many))) (untouched_wider d.kept (omega arith) (omega arith));
      written = held_both (key (columns_from s at) first) (answers_of s (at + 3 + byte s (at + 1)) (byte s (at + 2)) (rows_from cells marks w base n))
          (held_below d.kept (rw key-wide (omega arith)) key-written)
          (held_to (ap (λ (k : ℕ). to + k) (sym key-wide)) (rw same_rows at d.written));
    }

  -- the same by the columns as the code has them
  module _ {cols : List ℕ} (o : cols ≡ columns_from s at) where
    pub columns-size : length cols ≡ byte s (at + 1)
    columns-size = ap length o ∙ columns-many

    pub columns-room : PickRoom cells marks (At (key_place cols base)) to (length cols)
    columns-room = rw o key-room

    module _ {cells₁ : List ℤ} {marks₁ : List ℕ} (p : PickDone cells marks cells₁ marks₁ (At (key_place cols base)) to (length cols)) where
      pub cells-room : CellsRoom s (at + 3 + length cols) (byte s (at + 2)) cells₁ marks₁ base n w (to + length cols) (to + length cols + byte s (at + 2))
      cells-room = rw columns-size (answers-room (rw o at p))

      pub group_done : {cells₂ : List ℤ} {marks₂ : List ℕ}
          → CellsDone s (at + 3 + length cols) (byte s (at + 2)) cells₁ marks₁ cells₂ marks₂ base n w (to + length cols) (to + length cols + byte s (at + 2))
          → RowDone s at cells marks cells₂ marks₂ base n w to
      group_done d = row_done (rw o at p) (rw columns-size at d)
