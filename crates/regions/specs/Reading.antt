-- Cells and rows read out of an area, and what an area holds.
use Rattle.std.specs.Prelude.{◌≡◌, refl, Bool, true, false, cond, ◌&&◌, ◌||◌, List, [], ◌∷◌, ◌++◌, map, ℕ, zero, suc, ◌+◌, ◌-◌, ◌*◌, ◌<◌, ◌≤◌, eqb, leb, length, get_or, drop, ℤ, pos, negsuc, nat_abs, Option, None, Some}
use Rattle.std.proofs.Common.{sym, ap, subst, ◌∙◌, add-zero, arith, length-append, length-drop, ext_get_or, get_or-append-add, get_or-drop, eqb-true}
use Rattle.std.proofs.Math.Decide.{dec_lt}
use Rattle.std.proofs.lemmas.List.{length-map}
use Rattle.std.proofs.Math.ListN.{get_or-append}
use Rattle.meaning.specs.Limits.{most_size}
use Rattle.meaning.specs.Cells.{Cell, null, num, eq_z}
use Rattle.meaning.specs.Plans.{Row, Table}
use Rattle.meaning.specs.Running.{cell_from, cells_from, rows_from, cell_right, cells_right, cell_number, cell_mark, flat, onto}
use Rattle.meaning.proofs.Widths.{cells-long, rows_long}
use Rattle.lists.specs.Tests.{and_left, and_right}
use Rattle.node_bytes.specs.Holding.{Span}
use Rattle.regions.specs.Copying.{Copied, CopiedIn, copied_span}
use Rattle.regions.specs.Holding.{Held, HeldRows, held_number, held-mark, held-front, held_back, held_to, get_d_map}

-- ---- cells read from a place on

-- the cell at a place
unfoldable pub cell_of : List ℤ → List ℕ → ℕ → Cell
cell_of cells marks at = cell_from (get_or cells at (pos 0)) (get_or marks at 0)

-- a place is inside an area
pub record CellIn (cells : List ℤ) (marks : List ℕ) (at : ℕ) : Type 0 where
  pub number_in : at < length cells
  pub mark_in : at < length marks

-- a cell's number, and none of null
unfoldable pub number_or_none : Cell → Option ℤ
number_or_none null = None
number_or_none (num z) = Some z

pub cells_at : (c : List ℤ) (m : List ℕ) (at n i : ℕ) → i < n → get_or (cells_from c m at n) i null ≡ cell_from (get_or c (at + i) (pos 0)) (get_or m (at + i) 0)
unfolding cells_from
cells_at c m at zero i l = absurd (omega arith)
cells_at c m at (suc n) zero l = ap (λ (k : ℕ). cell_from (get_or c k (pos 0)) (get_or m k 0)) (sym (add-zero at))
cells_at c m at (suc n) (suc i) l =
    cells_at c m (at + 1) n i (omega arith)
    ∙ ap (λ (k : ℕ). cell_from (get_or c k (pos 0)) (get_or m k 0)) (let q : at + 1 + i ≡ at + suc i = omega arith in q)

pub cells-append : (c : List ℤ) (m : List ℕ) (at n k : ℕ) → cells_from c m at (n + k) ≡ cells_from c m at n ++ cells_from c m (at + n) k
unfolding cells_from
cells-append c m at zero k = let q : 0 + k ≡ k = omega arith in let r : at + 0 ≡ at = omega arith in simp (q, r)
cells-append c m at (suc n) k =
    let q : suc n + k ≡ suc (n + k) = omega arith in
    let r : at + 1 + n ≡ at + suc n = omega arith in
    rw q
    (ap (λ (l : Row). cell_from (get_or c at (pos 0)) (get_or m at 0) ∷ l)
    (cells-append c m (at + 1) n k ∙ ap (λ (a : ℕ). cells_from c m (at + 1) n ++ cells_from c m a k) r))

-- ---- rows read from a place on

pub row_at : (c : List ℤ) (m : List ℕ) (w at n r : ℕ) → r < n → get_or (rows_from c m w at n) r [] ≡ cells_from c m (at + r * w) w
unfolding rows_from
row_at c m w at zero r l = absurd (omega arith)
row_at c m w at (suc n) zero l = ap (λ (a : ℕ). cells_from c m a w) (let q : at ≡ at + 0 * w = omega arith in q)
row_at c m w at (suc n) (suc r) l =
    row_at c m w (at + w) n r (omega arith) ∙ ap (λ (a : ℕ). cells_from c m a w) (let q : at + w + r * w ≡ at + suc r * w = omega arith in q)

pub rows-wide : (c : List ℤ) (m : List ℕ) (w at n r : ℕ) → r < length (rows_from c m w at n) → length (get_or (rows_from c m w at n) r []) ≡ w
rows-wide c m w at n r l =
    let k : length (rows_from c m w at n) ≡ n = rows_long c m w at n in
    ap length (row_at c m w at n r (omega arith)) ∙ cells-long c m (at + r * w) w

pub flat_rows : (c : List ℤ) (m : List ℕ) (w at n : ℕ) → flat (rows_from c m w at n) ≡ cells_from c m at (n * w)
unfolding flat rows_from cells_from
flat_rows c m w at zero = let q : 0 * w ≡ 0 = omega arith in simp q
flat_rows c m w at (suc n) =
    let q : suc n * w ≡ w + n * w = omega arith in
    ap (λ (l : Row). cells_from c m at w ++ l) (flat_rows c m w (at + w) n) ∙ sym (ap (cells_from c m at) q ∙ cells-append c m at w (n * w))

-- ---- what is held is what is read

pub number-mark : (x : Cell) → cell_from (cell_number x) (cell_mark x) ≡ x
unfolding cell_from cell_number cell_mark
number-mark null = refl
number-mark (num z) = refl

pub held-read : {c : List ℤ} {m : List ℕ} {at : ℕ} (xs : Row) → Held c m at xs → cells_from c m at (length xs) ≡ xs
held-read {c} {m} {at} xs h =
    ext_get_or null (cells_from c m at (length xs)) xs (cells-long c m at (length xs))
    (λ i l.
    let k : length (cells_from c m at (length xs)) ≡ length xs = cells-long c m at (length xs) in
    let b : i < length xs = omega arith in
    cells_at c m at (length xs) i b
    ∙ (let p = held_number h i b in let q = held-mark h i b in let r = number-mark (get_or xs i null) in cc))

pub rows-read : {c : List ℤ} {m : List ℕ} {w : ℕ} (at : ℕ) (t : Table) → HeldRows c m at w t → rows_from c m w at (length t) ≡ t
unfolding rows_from flat
rows-read at [] h = refl
rows-read {c} {m} {w} at (x ∷ t) h =
    let e : length x ≡ w = h.wide 0 (omega arith) in
    let first : cells_from c m at w ≡ x = subst (λ (n : ℕ). cells_from c m at n ≡ x) e (held-read x (held-front x (flat t) h.held)) in
    let rest : rows_from c m w (at + w) (length t) ≡ t =
    rows-read (at + w) t (record { wide = λ r l. h.wide (suc r) (omega arith); held = held_to (ap (λ (n : ℕ). at + n) e) (held_back x (flat t) h.held) }) in
    cc

-- ---- a run of right cells is held as it is read

-- a cell and its mark are as a cell stands in an area
abbrev pub Clean : ℤ → ℕ → Type 0
Clean z mark = (cell_number (cell_from z mark) ≡ z) × (cell_mark (cell_from z mark) ≡ mark)

zero_is : (z : ℤ) → eq_z z (pos 0) ≡ true → z ≡ pos 0
unfolding eq_z
zero_is (pos n) e = ap pos (eqb-true n 0 e)
zero_is (negsuc n) e = absurd (let q : ◌≡◌ {A = ℕ} 0 1 = cc in omega arith)

pub right_clean : (z : ℤ) (mark : ℕ) → cell_right z mark ≡ true → Clean z mark
unfolding cell_right cell_from cell_number cell_mark
right_clean z mark e = pick (eqb mark 0) refl (eqb mark 1) refl e
  where
    pick : (p : Bool) → eqb mark 0 ≡ p → (n : Bool) → eqb mark 1 ≡ n → ((p && leb (nat_abs z) most_size) || (n && eq_z z (pos 0))) ≡ true
        → (cell_number (cond p (num z) null) ≡ z) × (cell_mark (cond p (num z) null) ≡ mark)
    pick true a n b e = (refl, sym (eqb-true mark 0 a))
    pick false a true b e = (sym (zero_is z e), sym (eqb-true mark 1 b))
    pick false a false b e = absurd (let q : ◌≡◌ {A = ℕ} 0 1 = cc in omega arith)

-- every cell of a run from a place on is right
pub cells_clean : (c : List ℤ) (m : List ℕ) (at n : ℕ) → cells_right c m at n ≡ true → (i : ℕ) → i < n → Clean (get_or c (at + i) (pos 0)) (get_or m (at + i) 0)
unfolding cells_right
cells_clean c m at zero e i l = absurd (omega arith)
cells_clean c m at (suc n) e zero l =
    subst (λ (k : ℕ). Clean (get_or c k (pos 0)) (get_or m k 0)) (sym (add-zero at))
    (right_clean (get_or c at (pos 0)) (get_or m at 0) (and_left (cell_right (get_or c at (pos 0)) (get_or m at 0)) (cells_right c m (at + 1) n) e))
cells_clean c m at (suc n) e (suc i) l =
    subst (λ (k : ℕ). Clean (get_or c k (pos 0)) (get_or m k 0)) (let q : at + 1 + i ≡ at + suc i = omega arith in q)
    (cells_clean c m (at + 1) n (and_right (cell_right (get_or c at (pos 0)) (get_or m at 0)) (cells_right c m (at + 1) n) e) i (omega arith))

pub clean_held : (c : List ℤ) (m : List ℕ) (at n : ℕ) → at + n ≤ length c → at + n ≤ length m
    → ((i : ℕ) → i < n → Clean (get_or c (at + i) (pos 0)) (get_or m (at + i) 0)) → Held c m at (cells_from c m at n)
clean_held c m at n lc lm clean =
    let k : length (cells_from c m at n) ≡ n = cells-long c m at n in
    let kn : length (map cell_number (cells_from c m at n)) ≡ length (cells_from c m at n) = length-map (cells_from c m at n) cell_number in
    let km : length (map cell_mark (cells_from c m at n)) ≡ length (cells_from c m at n) = length-map (cells_from c m at n) cell_mark in
    record {
      numbers = record {
        fits = omega arith;
        same = λ i l.
            let b : i < n = omega arith in
            sym (get_d_map cell_number (pos 0) null (cells_from c m at n) i (omega arith) ∙ ap cell_number (cells_at c m at n i b) ∙ (clean i b).0);
      };
      marked = record {
        fits = omega arith;
        same = λ i l.
            let b : i < n = omega arith in
            sym (get_d_map cell_mark 0 null (cells_from c m at n) i (omega arith) ∙ ap cell_mark (cells_at c m at n i b) ∙ (clean i b).1);
      };
    }

-- the rows of a table whose cells are right
pub right-rows : (c : List ℤ) (m : List ℕ) (w at n : ℕ) → at + n * w ≤ length c → at + n * w ≤ length m → cells_right c m at (n * w) ≡ true
    → HeldRows c m at w (rows_from c m w at n)
right-rows c m w at n lc lm e = record {
  wide = rows-wide c m w at n;
  held = rw (flat_rows c m w at n) (clean_held c m at (n * w) lc lm (cells_clean c m at (n * w) e));
}

-- ---- copies into another area

pub copied_in_held : {source : List ℤ} {source_marks : List ℕ} {c c' : List ℤ} {m m' : List ℕ} {from to n : ℕ} (xs : Row)
    → CopiedIn source source_marks c m c' m' from to n → n ≡ length xs → to + n ≤ length c → to + n ≤ length m
    → Held source source_marks from xs → Held c' m' to xs
copied_in_held {source} {source_marks} {c} {c'} {m} {m'} {from} {to} {n} xs k e lc lm h =
    let nc : n ≡ length (map cell_number xs) = e ∙ sym (length-map xs cell_number) in
    let nm : n ≡ length (map cell_mark xs) = e ∙ sym (length-map xs cell_mark) in
    record {
      numbers = copied_span {s = c} (map cell_number xs) (subst (λ (k : ℕ). Copied (pos 0) source c c' from to k) nc k.cells-copied) (omega arith) h.numbers;
      marked = copied_span {s = m} (map cell_mark xs) (subst (λ (k : ℕ). Copied 0 source_marks m m' from to k) nm k.marks-copied) (omega arith) h.marked;
    }

-- a copy to the front of an area: the copied elements, then the rest as it was
pub copied-onto : {A : Type 0} {d : A} {source s s' : List A} {from : ℕ} (xs : List A) → Copied d source s s' from 0 (length xs) → length xs ≤ length s
    → Span d source from xs → s' ≡ onto xs s
unfolding onto
copied-onto {A} {d} {source} {s} {s'} {from} xs c l h =
    let a : length (xs ++ drop (length xs) s) ≡ length xs + length (drop (length xs) s) = length-append xs (drop (length xs) s) in
    let b : length (drop (length xs) s) ≡ length s - length xs = length-drop (length xs) s in
    ext_get_or d s' (xs ++ drop (length xs) s) (c.kept.long ∙ (let q : length s ≡ length (xs ++ drop (length xs) s) = omega arith in q))
    (λ i k. each i (dec_lt i (length xs)))
  where
    each : (i : ℕ) → Dec (i < length xs) → get_or s' i d ≡ get_or (xs ++ drop (length xs) s) i d
    each i (yes b) =
        ap (λ (k : ℕ). get_or s' k d) (let q : i ≡ 0 + i = omega arith in q)
        ∙ c.moved i b ∙ h.same i b ∙ sym (get_or-append xs (drop (length xs) s) d i b)
    each i (no b) =
        let q : i ≡ length xs + (i - length xs) = omega arith in
        c.kept.above i (omega arith)
        ∙ ap (λ (k : ℕ). get_or s k d) q
        ∙ sym (get_or-drop (length xs) s (i - length xs) d)
        ∙ sym (get_or-append-add xs (drop (length xs) s) (i - length xs) d)
        ∙ ap (λ (k : ℕ). get_or (xs ++ drop (length xs) s) k d) (sym q)
