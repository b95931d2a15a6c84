-- Cells and rows of a table that stand in an area of cells and marks.
use Rattle.std.specs.Prelude.{◌≡◌, refl, get_or, ℤ, pos}
use Rattle.std.proofs.Common.{sym, ap, subst, ◌∙◌, length-append, List, [], ◌∷◌, ◌++◌, map, append_assoc, append-nil, ℕ, zero, suc, ◌+◌, ◌*◌, ◌<◌, ◌≤◌, arith}
use Rattle.std.proofs.Math.Decide.{dec_lt}
use Rattle.std.proofs.Math.ListN.{length, get_or-append}
use Rattle.std.proofs.lemmas.List.{length-map, get_or-map}
use Rattle.std.proofs.Math.Seq.{get_or-append_seam}
use Rattle.meaning.specs.Cells.{null}
use Rattle.meaning.specs.Plans.{Row, Table}
use Rattle.meaning.specs.Running.{cell_number, cell_mark, flat}
use Rattle.lists.specs.Each.{map-append}
use Rattle.node_bytes.specs.Holding.{Span, holds-front, holds_back, holds-both, holds_to}
use Rattle.regions.specs.Keeping.{Kept, span_below, span_above}
use Rattle.regions.specs.Copying.{Copied, CopiedWithin, copied_span}

-- an area holds a list of cells from a place on: "a null as cell 0 with mark 1"
pub record Held (cells : List ℤ) (marks : List ℕ) (at : ℕ) (xs : Row) : Type 0 where
  pub numbers : Span (pos 0) cells at (map cell_number xs)
  pub marked : Span 0 marks at (map cell_mark xs)

-- nothing of an area changed outside a part
pub record Untouched (cells : List ℤ) (marks : List ℕ) (cells' : List ℤ) (marks' : List ℕ) (from to : ℕ) : Type 0 where
  pub cells-kept : Kept (pos 0) cells cells' from to
  pub marks-kept : Kept 0 marks marks' from to

-- an element of a mapped list, whatever is read past its end
pub get_d_map : {A B : Type 0} (f : A → B) (d : B) (e : A) (xs : List A) (i : ℕ) → i < length xs → get_or (map f xs) i d ≡ f (get_or xs i e)
get_d_map f d e xs i l = get_or-map f xs i e d l

module _ {cells : List ℤ} {marks : List ℕ} where
  -- one cell
  pub held_number : {at : ℕ} {xs : Row} → Held cells marks at xs → (i : ℕ) → i < length xs → get_or cells (at + i) (pos 0) ≡ cell_number (get_or xs i null)
  held_number {at} {xs} h i l = h.numbers.same i (rw (length-map xs cell_number) l) ∙ get_d_map cell_number (pos 0) null xs i l

  pub held-mark : {at : ℕ} {xs : Row} → Held cells marks at xs → (i : ℕ) → i < length xs → get_or marks (at + i) 0 ≡ cell_mark (get_or xs i null)
  held-mark {at} {xs} h i l = h.marked.same i (rw (length-map xs cell_mark) l) ∙ get_d_map cell_mark 0 null xs i l

  -- the room that cells take
  pub held-cells_fit : {at : ℕ} {xs : Row} → Held cells marks at xs → at + length xs ≤ length cells
  held-cells_fit {at} {xs} h = rw (length-map xs cell_number) at h.numbers.fits

  pub held-marks_fit : {at : ℕ} {xs : Row} → Held cells marks at xs → at + length xs ≤ length marks
  held-marks_fit {at} {xs} h = rw (length-map xs cell_mark) at h.marked.fits

  -- the front, the back, and both
  pub held-front : {at : ℕ} (xs ys : Row) → Held cells marks at (xs ++ ys) → Held cells marks at xs
  held-front xs ys h = record {
    numbers = holds-front (map cell_number xs) (map cell_number ys) (rw (map-append cell_number xs ys) at h.numbers);
    marked = holds-front (map cell_mark xs) (map cell_mark ys) (rw (map-append cell_mark xs ys) at h.marked);
  }

  pub held_back : {at : ℕ} (xs ys : Row) → Held cells marks at (xs ++ ys) → Held cells marks (at + length xs) ys
  held_back {at} xs ys h = record {
    numbers = holds_to (ap (λ (n : ℕ). at + n) (length-map xs cell_number)) (holds_back (map cell_number xs) (map cell_number ys) (rw (map-append cell_number xs ys) at h.numbers));
    marked = holds_to (ap (λ (n : ℕ). at + n) (length-map xs cell_mark)) (holds_back (map cell_mark xs) (map cell_mark ys) (rw (map-append cell_mark xs ys) at h.marked));
  }

  pub held_both : {at : ℕ} (xs ys : Row) → Held cells marks at xs → Held cells marks (at + length xs) ys → Held cells marks at (xs ++ ys)
  held_both {at} xs ys f b = record {
    numbers = rw (map-append cell_number xs ys)
        (holds-both (map cell_number xs) (map cell_number ys) f.numbers (holds_to (ap (λ (n : ℕ). at + n) (sym (length-map xs cell_number))) b.numbers));
    marked = rw (map-append cell_mark xs ys)
        (holds-both (map cell_mark xs) (map cell_mark ys) f.marked (holds_to (ap (λ (n : ℕ). at + n) (sym (length-map xs cell_mark))) b.marked));
  }

  pub held_to : {at at' : ℕ} {xs : Row} → at ≡ at' → Held cells marks at xs → Held cells marks at' xs
  held_to {xs = xs} e h = subst (λ (a : ℕ). Held cells marks a xs) e h

  -- after a write elsewhere
  module _ {cells' : List ℤ} {marks' : List ℕ} where
    pub held_below : {from to at : ℕ} {xs : Row} → Untouched cells marks cells' marks' from to → at + length xs ≤ from → Held cells marks at xs → Held cells' marks' at xs
    held_below {from} {to} {at} {xs} u l h = record {
      numbers = span_below u.cells-kept (rw (length-map xs cell_number) l) h.numbers;
      marked = span_below u.marks-kept (rw (length-map xs cell_mark) l) h.marked;
    }

    pub held-above : {from to at : ℕ} {xs : Row} → Untouched cells marks cells' marks' from to → to ≤ at → Held cells marks at xs → Held cells' marks' at xs
    held-above {from} {to} {at} {xs} u l h = record { numbers = span_above u.cells-kept l h.numbers; marked = span_above u.marks-kept l h.marked }

    -- after a copy within the area: nothing else changed, and the cells are there
    pub copied-untouched : {from to n : ℕ} → CopiedWithin cells marks cells' marks' from to n → Untouched cells marks cells' marks' to (to + n)
    copied-untouched c = record { cells-kept = c.cells-copied.kept; marks-kept = c.marks-copied.kept }

    pub copied-held : {from to n : ℕ} (xs : Row) → CopiedWithin cells marks cells' marks' from to n → n ≡ length xs → to + n ≤ length cells → to + n ≤ length marks
        → Held cells marks from xs → Held cells' marks' to xs
    copied-held {from} {to} {n} xs c e lc lm h =
        let nc : n ≡ length (map cell_number xs) = e ∙ sym (length-map xs cell_number) in
        let nm : n ≡ length (map cell_mark xs) = e ∙ sym (length-map xs cell_mark) in
        record {
          numbers = copied_span {s = cells} (map cell_number xs) (subst (λ (k : ℕ). Copied (pos 0) cells cells cells' from to k) nc c.cells-copied) (omega arith) h.numbers;
          marked = copied_span {s = marks} (map cell_mark xs) (subst (λ (k : ℕ). Copied 0 marks marks marks' from to k) nm c.marks-copied) (omega arith) h.marked;
        }

-- ---- rows

-- an area holds the rows of a table, each w wide, one behind the other
pub record HeldRows (cells : List ℤ) (marks : List ℕ) (at w : ℕ) (t : Table) : Type 0 where
  pub wide : (r : ℕ) → r < length t → length (get_or t r []) ≡ w
  pub held : Held cells marks at (flat t)

pub flat-long : (t : Table) (w : ℕ) → ((r : ℕ) → r < length t → length (get_or t r []) ≡ w) → length (flat t) ≡ length t * w
unfolding flat
flat-long [] w e = omega arith
flat-long (x ∷ t) w e =
    let a : length (x ++ flat t) ≡ length x + length (flat t) = length-append x (flat t) in
    let b : length x ≡ w = e 0 (omega arith) in
    let c : length (flat t) ≡ length t * w = flat-long t w (λ r l. e (suc r) (omega arith)) in
    omega arith

pub flat_append : (t u : Table) → flat (t ++ u) ≡ flat t ++ flat u
unfolding flat
flat_append [] u = refl
flat_append (x ∷ t) u = ap (λ (l : Row). x ++ l) (flat_append t u) ∙ sym (append_assoc x (flat t) (flat u))

module _ {cells : List ℤ} {marks : List ℕ} where
  -- one row, at its own place
  pub row-held : {w : ℕ} (t : Table) (at : ℕ) → HeldRows cells marks at w t → (r : ℕ) → r < length t → Held cells marks (at + r * w) (get_or t r [])
  unfolding flat
  row-held [] at h r l = absurd (omega arith)
  row-held {w} (x ∷ t) at h zero l = held_to (let q : at ≡ at + 0 * w = omega arith in q) (held-front x (flat t) h.held)
  row-held {w} (x ∷ t) at h (suc r) l =
      let b : length x ≡ w = h.wide 0 (omega arith) in
      held_to (let q : at + length x + r * w ≡ at + suc r * w = omega arith in q)
      (row-held t (at + length x) (record { wide = λ k m. h.wide (suc k) (omega arith); held = held_back x (flat t) h.held }) r (omega arith))

  -- no row yet, and one row more
  pub rows_none : (at w : ℕ) → at ≤ length cells → at ≤ length marks → HeldRows cells marks at w []
  unfolding flat
  rows_none at w a b = record {
    wide = λ r l. absurd (omega arith);
    held = record {
      numbers = record { fits = omega arith; same = λ i l. absurd (omega arith) };
      marked = record { fits = omega arith; same = λ i l. absurd (omega arith) };
    };
  }

  pub rows_more : {at w : ℕ} (t : Table) (x : Row) → HeldRows cells marks at w t → length x ≡ w → Held cells marks (at + length t * w) x → HeldRows cells marks at w (t ++ (x ∷ []))
  unfolding flat
  rows_more {at} {w} t x h e k = record {
    wide = λ r l. each r l (dec_lt r (length t));
    held = rw (flat_append t (x ∷ []))
        (held_both (flat t) (flat (x ∷ [])) h.held (held_to (ap (λ (n : ℕ). at + n) (sym (flat-long t w h.wide))) (one k)));
  }
    where
      one : {a : ℕ} → Held cells marks a x → Held cells marks a (x ++ [])
      one y = rw (append-nil x) y

      each : (r : ℕ) → r < length (t ++ (x ∷ [])) → Dec (r < length t) → length (get_or (t ++ (x ∷ [])) r []) ≡ w
      each r l (yes b) = ap length (get_or-append t (x ∷ []) [] r b) ∙ h.wide r b
      each r l (no b) =
          let q : r ≡ length t = omega (arith, length-append t (x ∷ [])) in
          ap (λ (k : ℕ). length (get_or (t ++ (x ∷ [])) k [])) q ∙ ap length (get_or-append_seam t x [] []) ∙ e
