-- A running aggregate that is fed with the rows of an area, in order.
use Rattle.std.specs.Prelude.{◌≡◌, ℕ, zero, suc, ◌+◌, ◌-◌, ◌*◌, ◌<◌, ◌≤◌, ◌^◌, length, get_or, ℤ, pos, Option}
use Rattle.std.proofs.Math.Path.{refl, sym, ap}
use Rattle.std.proofs.Common.{subst, ◌∙◌, arith, List, [], ◌∷◌, ◌++◌, append_assoc, append-nil}
use Rattle.meaning.specs.Plans.{Row, Table, Name, Aggregate, name_of, columns_read}
use Rattle.meaning.specs.Joining.{cell}
use Rattle.meaning.specs.Aggregating.{values_of}
use Rattle.meaning.specs.Running.{cells_from, rows_from, cell_number, cell_mark}
use Rattle.meaning.proofs.Widths.{cells-long, rows_long}
use Rattle.arrangement.proofs.Items.{number-name}
use Rattle.rules.specs.Lines.{name_at}
use Rattle.rules.specs.Named.{named}
use Rattle.regions.specs.Holding.{Held, HeldRows, held_number, held-mark, held-cells_fit, held-marks_fit, row-held}
use Rattle.regions.specs.Reading.{number_or_none, cell_of, cells_at, row_at}
use Rattle.running.specs.declared.Running.{Running}
use Rattle.running.specs.States.{add_to, start_of, Room}
use Rattle.running.specs.Names.{called, named_called}
use Rattle.running.specs.Values.{Rises, rises-front}
use Rattle.running.specs.Rows.{taken_by, taken-by, Gives, gives, Reads, gives_read}
use Rattle.running.specs.Sizes.{most_of, most-append}
use Rattle.running.specs.Laws.{Took, took_none, took_given, took_room-given}

-- the values that an aggregate of this name with these columns v and c takes of rows
unfoldable pub values_by : Name → ℕ → ℕ → Table → List ℤ
values_by n v c [] = []
values_by n v c (r ∷ rs) = taken_by n (cell r v) (cell r c) ++ values_by n v c rs

pub values_by_lem : (a : Aggregate) (t : Table) → values_by (name_of a) (get_or (columns_read a) 0 0) (get_or (columns_read a) 1 0) t ≡ values_of a t
unfolding values_by values_of
values_by_lem a [] = refl
values_by_lem a (r ∷ rs) = cc (taken-by a r, values_by_lem a rs)

module _ (n : Name) (v c : ℕ) where
  pub by_append : (s t : Table) → values_by n v c (s ++ t) ≡ values_by n v c s ++ values_by n v c t
  unfolding values_by
  by_append [] t = refl
  by_append (r ∷ s) t =
      ap (λ (l : List ℤ). taken_by n (cell r v) (cell r c) ++ l) (by_append s t)
      ∙ sym (append_assoc (taken_by n (cell r v) (cell r c)) (values_by n v c s) (values_by n v c t))

  by_one : (r : Row) → values_by n v c (r ∷ []) ≡ taken_by n (cell r v) (cell r c)
  unfolding values_by
  by_one r = append-nil (taken_by n (cell r v) (cell r c))

-- what is small with more values is small without them
most-front : (n : Name) (xs ys : List ℤ) → most_of n (xs ++ ys) < 2 ^ 63 → most_of n xs < 2 ^ 63
most-front n xs ys h = omega (arith, most-append n xs ys)

-- rows behind others
pub rows_append : (cs : List ℤ) (ms : List ℕ) (w at n k : ℕ) → rows_from cs ms w at (n + k) ≡ rows_from cs ms w at n ++ rows_from cs ms w (at + n * w) k
unfolding rows_from
rows_append cs ms w at zero k = let q : 0 + k ≡ k = omega arith in let r : at + 0 * w ≡ at = omega arith in simp (q, r)
rows_append cs ms w at (suc n) k =
    let q : suc n + k ≡ suc (n + k) = omega arith in
    let r : at + w + n * w ≡ at + suc n * w = omega arith in
    rw q
    (ap (λ (t : Table). cells_from cs ms at w ∷ t)
    (rows_append cs ms w (at + w) n k ∙ ap (λ (a : ℕ). rows_from cs ms w (at + w) n ++ rows_from cs ms w a k) r))

rows-one : (cs : List ℤ) (ms : List ℕ) (w at : ℕ) → rows_from cs ms w at 1 ≡ cells_from cs ms at w ∷ []
unfolding rows_from
rows-one cs ms w at = refl

-- what the code calls a known name
pub known-called : (name : ℕ) → name < 9 → named name ≡ called (name_at name)
known-called name known = ap named (sym (number-name name known)) ∙ named_called (name_at name)

-- the aggregate of a number, with columns v and c, may be fed with rows w wide: its sums stay small, a distinct one's values ascend
pub record FeedRoom (name v c : ℕ) (cells : List ℤ) (marks : List ℕ) (base rows w : ℕ) : Type 0 where
  pub known : name < 9
  pub v_in : v < w
  pub c_in : c < w
  pub held : HeldRows cells marks base w (rows_from cells marks w base rows)
  pub small : most_of (name_at name) (values_by (name_at name) v c (rows_from cells marks w base rows)) < 2 ^ 63
  pub rises : Rises (name_at name) (values_by (name_at name) v c (rows_from cells marks w base rows))

-- the state after the first k rows
abbrev pub Fed : ℕ → ℕ → ℕ → List ℤ → List ℕ → ℕ → ℕ → ℕ → Running → Type 0
Fed name v c cells marks base k w st = Took (name_at name) (values_by (name_at name) v c (rows_from cells marks w base k)) st

module _ {name v c : ℕ} {cells : List ℤ} {marks : List ℕ} {base rows w : ℕ} (room : FeedRoom name v c cells marks base rows w) where
  -- nothing fed yet
  pub fed_none : {st : Running} → st ≡ start_of (named name) → Fed name v c cells marks base 0 w st
  unfolding rows_from values_by
  fed_none e = rw (e, known-called name room.known) (took_none (name_at name))

  module _ (k : ℕ) (l : k < rows) where
    abbrev row : Row
    row = cells_from cells marks (base + k * w) w

    more : rows_from cells marks w base (k + 1) ≡ rows_from cells marks w base k ++ row ∷ []
    more = rows_append cells marks w base k 1 ∙ ap (λ (t : Table). rows_from cells marks w base k ++ t) (rows-one cells marks w (base + k * w))

    all : rows_from cells marks w base rows ≡ (rows_from cells marks w base k ++ row ∷ []) ++ rows_from cells marks w (base + (k + 1) * w) (rows - (k + 1))
    all =
        ap (rows_from cells marks w base) (let q : rows ≡ k + 1 + (rows - (k + 1)) = omega arith in q)
        ∙ rows_append cells marks w base (k + 1) (rows - (k + 1))
        ∙ ap (λ (t : Table). t ++ rows_from cells marks w (base + (k + 1) * w) (rows - (k + 1))) more

    next : values_by (name_at name) v c (rows_from cells marks w base k ++ row ∷ [])
        ≡ values_by (name_at name) v c (rows_from cells marks w base k) ++ taken_by (name_at name) (cell row v) (cell row c)
    next = by_append (name_at name) v c (rows_from cells marks w base k) (row ∷ []) ∙ ap (λ (l : List ℤ). values_by (name_at name) v c (rows_from cells marks w base k) ++ l) (by_one (name_at name) v c row)

    values_split : values_by (name_at name) v c (rows_from cells marks w base rows)
        ≡ (values_by (name_at name) v c (rows_from cells marks w base k) ++ taken_by (name_at name) (cell row v) (cell row c))
        ++ values_by (name_at name) v c (rows_from cells marks w (base + (k + 1) * w) (rows - (k + 1)))
    values_split =
        ap (values_by (name_at name) v c) all
        ∙ by_append (name_at name) v c (rows_from cells marks w base k ++ row ∷ []) (rows_from cells marks w (base + (k + 1) * w) (rows - (k + 1)))
        ∙ ap (λ (l : List ℤ). l ++ values_by (name_at name) v c (rows_from cells marks w (base + (k + 1) * w) (rows - (k + 1)))) next

    row_here : Held cells marks (base + k * w) row
    row_here =
        let n : length (rows_from cells marks w base rows) ≡ rows = rows_long cells marks w base rows in
        subst (Held cells marks (base + k * w)) (row_at cells marks w base rows k l)
        (row-held (rows_from cells marks w base rows) base room.held k (omega arith))

    row-long : length row ≡ w
    row-long = cells-long cells marks (base + k * w) w

    -- the row lies inside
    pub row-cells : base + k * w + w ≤ length cells
    row-cells = omega (arith, held-cells_fit row_here, row-long)

    pub row-marks : base + k * w + w ≤ length marks
    row-marks = omega (arith, held-marks_fit row_here, row-long)

    -- what is read of the row: its number, its mark, and both as a number or none
    pub read_number : (i : ℕ) → i < w → get_or cells (base + k * w + i) (pos 0) ≡ cell_number (cell row i)
    unfolding cell
    read_number i b = held_number row_here i (omega (arith, row-long))

    pub read-mark : (i : ℕ) → i < w → get_or marks (base + k * w + i) 0 ≡ cell_mark (cell row i)
    unfolding cell
    read-mark i b = held-mark row_here i (omega (arith, row-long))

    read : (i : ℕ) → i < w → number_or_none (cell_of cells marks (base + k * w + i)) ≡ number_or_none (cell row i)
    unfolding cell_of cell
    read i b = ap number_or_none (sym (cells_at cells marks (base + k * w) w i b))

    -- one row more, of which at least what counts is read
    module _ {st : Running} (t : Fed name v c cells marks base k w st) {x y : Option ℤ}
        (r : Reads (named name) (number_or_none (cell_of cells marks (base + k * w + v))) (number_or_none (cell_of cells marks (base + k * w + c))) x y) where
      given : Gives (name_at name) x y (taken_by (name_at name) (cell row v) (cell row c))
      given = gives_read (rw (known-called name room.known, read v room.v_in, read c room.c_in) at r) (gives (name_at name) (cell row v) (cell row c))

      pub read_room : Room st x y
      read_room = took_room-given t given (most-front (name_at name) _ _ (rw values_split at room.small))

      pub read_more : {st' : Running} → st' ≡ add_to st x y → Fed name v c cells marks base (k + 1) w st'
      read_more e = rw (e, more, next) (took_given t x y given (rises-front (name_at name) _ _ (rw values_split at room.rises)))

    -- the same where both cells are read
    module _ {st : Running} (t : Fed name v c cells marks base k w st) {x y : Option ℤ}
        (ex : x ≡ number_or_none (cell_of cells marks (base + k * w + v))) (ey : y ≡ number_or_none (cell_of cells marks (base + k * w + c))) where
      pub fed_room : Room st x y
      fed_room = read_room t (record { counts = rw (ex, ey); same = λ d. ex })

      pub fed_more : {st' : Running} → st' ≡ add_to st x y → Fed name v c cells marks base (k + 1) w st'
      fed_more e = read_more t (record { counts = rw (ex, ey); same = λ d. ex }) e
