-- Cells that are picked one by one from an area, by a rule for the place of each, and written behind one another further up in it.
use Rattle.std.specs.Prelude.{◌≡◌, refl, List, [], ◌∷◌, map, ℕ, zero, suc, ◌+◌, ◌*◌, ◌<◌, ◌≤◌, length, get_or, set, ℤ, pos}
use Rattle.std.proofs.Common.{sym, subst, ◌∙◌, length-set, get_or-set_same, get_or-set_other, arith}
use Rattle.std.proofs.Math.Path.{ap}
use Rattle.std.proofs.Math.Decide.{dec_lt}
use Rattle.std.proofs.Math.ListN.{length-map}
use Rattle.meaning.specs.Cells.{null}
use Rattle.meaning.specs.Plans.{Row, Table}
use Rattle.meaning.specs.Joining.{cell}
use Rattle.meaning.specs.Grouping.{key}
use Rattle.meaning.specs.Running.{cell_number, cell_mark, flat}
use Rattle.node_bytes.specs.Rows.{list_at}
use Rattle.regions.specs.Keeping.{Kept, kept-all}
use Rattle.regions.specs.Holding.{Held, HeldRows, Untouched, get_d_map, held_number, held-mark, row-held}

-- n elements of s, each from a place that a rule gives, now stand in s' from `to` on; nothing else of s changed
pub record Picked {A : Type 0} (d : A) (s s' : List A) (gives : ℕ → ℕ → Type 0) (to n : ℕ) : Type 0 where
  pub kept : Kept d s s' to (to + n)
  pub moved : (i : ℕ) → i < n → (r : ℕ) × gives i r × (get_or s' (to + i) d ≡ get_or s r d)

-- an area has room for what is picked, which lies below
pub record PickRoom (cells : List ℤ) (marks : List ℕ) (gives : ℕ → ℕ → Type 0) (to n : ℕ) : Type 0 where
  pub below : (i r : ℕ) → i < n → gives i r → r < to
  pub cells_to : to + n ≤ length cells
  pub marks_to : to + n ≤ length marks

pub record PickDone (cells : List ℤ) (marks : List ℕ) (cells' : List ℤ) (marks' : List ℕ) (gives : ℕ → ℕ → Type 0) (to n : ℕ) : Type 0 where
  pub cells_picked : Picked (pos 0) cells cells' gives to n
  pub marks_picked : Picked 0 marks marks' gives to n

-- the rule that gives one place for each
abbrev pub At : (ℕ → ℕ) → ℕ → ℕ → Type 0
At place i r = r ≡ place i

-- the listed columns of a row
abbrev pub key_place : List ℕ → ℕ → ℕ → ℕ
key_place cols row i = row + get_or cols i 0

-- one column of rows w wide
abbrev pub column_place : ℕ → ℕ → ℕ → ℕ
column_place from w i = from + i * w

module _ {A : Type 0} {d : A} where
  -- the laws of a loop that picks: nothing yet, and one element more
  pub picked_none : (s : List A) (gives : ℕ → ℕ → Type 0) (to : ℕ) → Picked d s s gives to 0
  picked_none s gives to = record { kept = kept-all; moved = λ i l. absurd (omega arith) }

  pub picked_more : (s s' : List A) (gives : ℕ → ℕ → Type 0) (to n r : ℕ) (v : A) → Picked d s s' gives to n → to + n < length s
      → gives n r → v ≡ get_or s' r d → r < to → Picked d s (set s' (to + n) v) gives to (n + 1)
  picked_more s s' gives to n r v p l g e b = record {
    kept = record {
      long = length-set s' (to + n) v ∙ p.kept.long;
      below = λ i b. get_or-set_other s' (to + n) i v d (λ q. omega arith) ∙ p.kept.below i b;
      above = λ i b. get_or-set_other s' (to + n) i v d (λ q. omega arith) ∙ p.kept.above i (omega arith);
    };
    moved = λ i b. each i b (dec_lt i n);
  }
    where
      each : (i : ℕ) → i < n + 1 → Dec (i < n) → (r : ℕ) × gives i r × (get_or (set s' (to + n) v) (to + i) d ≡ get_or s r d)
      each i m (yes h) =
          let k = p.moved i h in
          (k.0, k.1, get_or-set_other s' (to + n) (to + i) v d (λ q. omega arith) ∙ k.2)
      each i m (no h) =
          let q : n ≡ i = omega arith in (
            r,
            subst (λ (k : ℕ). gives k r) q g,
            subst (λ (k : ℕ). get_or (set s' (to + n) v) (to + k) d ≡ get_or s r d) q
                (get_or-set_same s' (to + n) v d (omega (arith, p.kept.long)) ∙ e ∙ p.kept.below r b),
          )

  -- the same by another rule that gives these places
  picked_as : {s s' : List A} {gives gives' : ℕ → ℕ → Type 0} {to n : ℕ} → ((i r : ℕ) → i < n → gives i r → gives' i r)
      → Picked d s s' gives to n → Picked d s s' gives' to n
  picked_as f p = record { kept = p.kept; moved = λ i l. let k = p.moved i l in (k.0, f i k.0 l k.1, k.2) }

pub room_as : {cells : List ℤ} {marks : List ℕ} {gives gives' : ℕ → ℕ → Type 0} {to n : ℕ} → ((i r : ℕ) → i < n → gives i r → gives' i r)
    → PickRoom cells marks gives' to n → PickRoom cells marks gives to n
room_as f r = record { below = λ i k l g. r.below i k l (f i k l g); cells_to = r.cells_to; marks_to = r.marks_to }

pub picks_as : {cells cells' : List ℤ} {marks marks' : List ℕ} {gives gives' : ℕ → ℕ → Type 0} {to n : ℕ} → ((i r : ℕ) → i < n → gives i r → gives' i r)
    → PickDone cells marks cells' marks' gives to n → PickDone cells marks cells' marks' gives' to n
picks_as f p = record { cells_picked = picked_as f p.cells_picked; marks_picked = picked_as f p.marks_picked }

module _ {cells cells' : List ℤ} {marks marks' : List ℕ} {gives : ℕ → ℕ → Type 0} {to n : ℕ} (p : PickDone cells marks cells' marks' gives to n) where
  pub picked_untouched : Untouched cells marks cells' marks' to (to + n)
  picked_untouched = record { cells-kept = p.cells_picked.kept; marks-kept = p.marks_picked.kept }

  -- the cells that stood at the places stand at their new place
  pub picked_held : (xs : Row) → length xs ≡ n → to + n ≤ length cells → to + n ≤ length marks
      → ((i r : ℕ) → i < n → gives i r → get_or cells r (pos 0) ≡ cell_number (get_or xs i null))
      → ((i r : ℕ) → i < n → gives i r → get_or marks r 0 ≡ cell_mark (get_or xs i null))
      → Held cells' marks' to xs
  picked_held xs e lc lm num mark =
      let nc : length (map cell_number xs) ≡ length xs = length-map xs cell_number in
      let nm : length (map cell_mark xs) ≡ length xs = length-map xs cell_mark in
      record {
        numbers = record {
          fits = omega (arith, p.cells_picked.kept.long);
          same = λ i l.
              let b : i < n = omega arith in
              let k = p.cells_picked.moved i b in
              k.2 ∙ num i k.0 b k.1 ∙ sym (get_d_map cell_number (pos 0) null xs i (omega arith));
        };
        marked = record {
          fits = omega (arith, p.marks_picked.kept.long);
          same = λ i l.
              let b : i < n = omega arith in
              let k = p.marks_picked.moved i b in
              k.2 ∙ mark i k.0 b k.1 ∙ sym (get_d_map cell_mark 0 null xs i (omega arith));
        };
      }

-- ---- a key

pub get_d_list : {A : Type 0} (g : ℕ → A) (k at n i : ℕ) (d : A) → i < n → get_or (list_at g k at n) i d ≡ g (at + k * i)
unfolding list_at
get_d_list g k at zero i d l = absurd (omega arith)
get_d_list g k at (suc n) zero d l = ap g (let q : at ≡ at + k * 0 = omega arith in q)
get_d_list g k at (suc n) (suc i) d l =
    get_d_list g k (at + k) n i d (omega arith) ∙ ap g (let q : at + k + k * i ≡ at + k * suc i = omega arith in q)

module _ (cols : List ℕ) (x : Row) where
  key-cell : (i : ℕ) → i < length cols → get_or (key cols x) i null ≡ get_or x (get_or cols i 0) null
  unfolding key cell
  key-cell i l = get_d_map (cell x) null 0 cols i l

  pub key-long : length (key cols x) ≡ length cols
  unfolding key
  key-long = length-map cols (cell x)

  pub key-held : {cells cells' : List ℤ} {marks marks' : List ℕ} {row to : ℕ}
      → PickDone cells marks cells' marks' (At (key_place cols row)) to (length cols) → Held cells marks row x
      → ((i : ℕ) → i < length cols → get_or cols i 0 < length x)
      → to + length cols ≤ length cells → to + length cols ≤ length marks → Held cells' marks' to (key cols x)
  key-held p h narrow lc lm =
      picked_held p (key cols x) key-long lc lm
      (λ i r l g. rw g (held_number h (get_or cols i 0) (narrow i l) ∙ ap cell_number (sym (key-cell i l))))
      (λ i r l g. rw g (held-mark h (get_or cols i 0) (narrow i l) ∙ ap cell_mark (sym (key-cell i l))))

-- ---- a column

-- a column of a table, as a table of its own
unfoldable pub column_row : ℕ → Row → Row
column_row v r = cell r v ∷ []

unfoldable pub column_of : ℕ → Table → Table
column_of v t = map (column_row v) t

pub column-long : (v : ℕ) (t : Table) → length (column_of v t) ≡ length t
unfolding column_of
column-long v t = length-map t (column_row v)

column-wide : (v : ℕ) (t : Table) (r : ℕ) → r < length (column_of v t) → length (get_or (column_of v t) r []) ≡ 1
unfolding column_of column_row
column-wide v [] r l = absurd (omega arith)
column-wide v (x ∷ t) zero l = refl
column-wide v (x ∷ t) (suc r) l = column-wide v t r (omega arith)

column-cell : (v : ℕ) (t : Table) (i : ℕ) → i < length t → get_or (flat (column_of v t)) i null ≡ cell (get_or t i []) v
unfolding column_of column_row flat
column-cell v [] i l = absurd (omega arith)
column-cell v (x ∷ t) zero l = refl
column-cell v (x ∷ t) (suc i) l = column-cell v t i (omega arith)

column-flat : (v : ℕ) (t : Table) → length (flat (column_of v t)) ≡ length t
unfolding column_of column_row flat
column-flat v [] = refl
column-flat v (x ∷ t) = ap suc (column-flat v t)

pub column-held : {cells cells' : List ℤ} {marks marks' : List ℕ} {base w to : ℕ} (v : ℕ) (t : Table)
    → PickDone cells marks cells' marks' (At (column_place (base + v) w)) to (length t) → HeldRows cells marks base w t → v < w
    → to + length t ≤ length cells → to + length t ≤ length marks → HeldRows cells' marks' to 1 (column_of v t)
unfolding cell
column-held {cells} {cells'} {marks} {marks'} {base} {w} {to} v t p h b lc lm = record {
  wide = column-wide v t;
  held = picked_held p (flat (column_of v t)) (column-flat v t) lc lm
      (λ i r l g.
      let q : r ≡ base + i * w + v = omega (arith, g) in
      rw q (held_number (row-held t base h i l) v (rw (h.wide i l) b) ∙ ap cell_number (sym (column-cell v t i l))))
      (λ i r l g.
      let q : r ≡ base + i * w + v = omega (arith, g) in
      rw q (held-mark (row-held t base h i l) v (rw (h.wide i l) b) ∙ ap cell_mark (sym (column-cell v t i l))));
}
