-- Where a run of rows with one key ends.
use Rattle.std.specs.Prelude.{◌≡◌, refl, Bool, true, false, not, cond, List, [], ℕ, zero, suc, ◌+◌, ◌-◌, ◌*◌, ◌<◌, ◌≤◌, length, get_or, ℤ, Option, Some, None, option_map}
use Rattle.std.specs.List.{find, range_with_len}
use Rattle.std.specs.Option.{unwrap_or}
use Rattle.std.proofs.Common.{sym, ◌∙◌, arith}
use Rattle.std.proofs.Math.Decide.{dec_lt}
use Rattle.meaning.specs.Plans.{Table}
use Rattle.meaning.specs.Grouping.{key, same_key}
use Rattle.meaning.specs.Running.{rows_from}
use Rattle.meaning.proofs.Widths.{rows_long}
use Rattle.regions.specs.Holding.{Held, HeldRows, held-cells_fit, held-marks_fit, row-held}
use Rattle.groups.proofs.Keys.{key_equality}
use Rattle.sorting.specs.Sorting.{Listed, keys_same, KeysIn}
use Rattle.sorting.specs.Standing.{key-read}
use Rattle.groups.proofs.Runs.{RunEnd}

pub record EndRoom (cols : List ℕ) (cells : List ℤ) (marks : List ℕ) (base rows w i : ℕ) : Type 0 where
  pub listed : Listed cols w
  pub held : HeldRows cells marks base w (rows_from cells marks w base rows)
  pub before : i < rows

-- the rows from i up to e have one key
pub record Alike (cols : List ℕ) (u : Table) (i e : ℕ) : Type 0 where
  pub after : i < e
  pub within : e ≤ length u
  pub alike : (j : ℕ) → i ≤ j → j < e → same_key (key cols (get_or u j [])) (key cols (get_or u i [])) ≡ true

map-same : (o : Option ℕ) → option_map (λ (e : ℕ). e) o ≡ o
map-same None = refl
map-same (Some e) = refl

module _ {cols : List ℕ} {cells : List ℤ} {marks : List ℕ} {base rows w i : ℕ} (r : EndRoom cols cells marks base rows w i) where
  abbrev u : Table
  u = rows_from cells marks w base rows

  long : length u ≡ rows
  long = rows_long cells marks w base rows

  row_here : (j : ℕ) → j < rows → Held cells marks (base + j * w) (get_or u j [])
  row_here j l = row-held u base r.held j (omega (arith, long))

  row-wide : (j : ℕ) → j < rows → length (get_or u j []) ≡ w
  row-wide j l = r.held.wide j (omega (arith, long))

  pub row-cells : (j : ℕ) → j < rows → base + j * w + w ≤ length cells
  row-cells j l = omega (arith, held-cells_fit (row_here j l), row-wide j l)

  row-marks : (j : ℕ) → j < rows → base + j * w + w ≤ length marks
  row-marks j l = omega (arith, held-marks_fit (row_here j l), row-wide j l)

  -- the first row of the run
  pub alike-one : Alike cols u i (i + 1)
  alike-one = record {
    after = omega arith;
    within = omega (arith, long, r.before);
    alike = λ j a b. let q : j ≡ i = omega arith in rw q (key_equality.self (key cols (get_or u i [])));
  }

  module _ (e : ℕ) (l : e < rows) where
    -- the listed cells of a row and of the first one lie inside
    pub keys_in : KeysIn cols cells marks (base + e * w) (base + i * w)
    keys_in = record {
      cells-a = λ k b. omega (arith, r.listed.narrow k b, row-cells e l);
      marks-a = λ k b. omega (arith, r.listed.narrow k b, row-marks e l);
      cells-b = λ k b. omega (arith, r.listed.narrow k b, row-cells i r.before);
      marks-b = λ k b. omega (arith, r.listed.narrow k b, row-marks i r.before);
    }

    keys_read : keys_same cols cells marks (base + e * w) (base + i * w) ≡ same_key (key cols (get_or u e [])) (key cols (get_or u i []))
    keys_read =
        let p = key-read (row_here e l) cols (λ k b. rw (row-wide e l) (r.listed.narrow k b)) in
        let q = key-read (row_here i r.before) cols (λ k b. rw (row-wide i r.before) (r.listed.narrow k b)) in
        cc

    -- one row more, or the end
    module _ (a : Alike cols u i e) where
      pub alike-more : keys_same cols cells marks (base + e * w) (base + i * w) ≡ true → Alike cols u i (e + 1)
      alike-more g = record { after = omega (arith, a.after); within = omega (arith, long); alike = λ j x y. each j x y (dec_lt j e) }
        where
          each : (j : ℕ) → i ≤ j → j < e + 1 → Dec (j < e) → same_key (key cols (get_or u j [])) (key cols (get_or u i [])) ≡ true
          each j x y (yes m) = a.alike j x m
          each j x y (no m) = let q : j ≡ e = omega arith in rw q (sym keys_read ∙ g)

      pub ends-here : keys_same cols cells marks (base + e * w) (base + i * w) ≡ false → RunEnd cols u i e
      ends-here g = record { after = a.after; within = a.within; alike = a.alike; stops = λ m. sym keys_read ∙ g }

  pub ends_last : (e : ℕ) → Alike cols u i e → rows ≤ e → RunEnd cols u i e
  ends_last e a m = record { after = a.after; within = a.within; alike = a.alike; stops = λ b. absurd (omega (arith, long)) }

  -- the first of the rows behind whose key is another one, or the number of rows
  abbrev pub differs : ℕ → Bool
  differs e = not (keys_same cols cells marks (base + e * w) (base + i * w))

  end_from : (e k : ℕ) → e + k ≡ rows → Alike cols u i e → RunEnd cols u i (unwrap_or (find differs (range_with_len e k)) rows)
  end_from e zero q a = let z : e ≡ rows = omega arith in ends_last rows (rw z at a) (omega arith)
  end_from e (suc k) q a = pick (λ m. end_from (e + 1) k (omega arith) m) (keys_same cols cells marks (base + e * w) (base + i * w)) refl
    where
      pick : (Alike cols u i (e + 1) → RunEnd cols u i (unwrap_or (find differs (range_with_len (e + 1) k)) rows))
          → (b : Bool) → keys_same cols cells marks (base + e * w) (base + i * w) ≡ b
          → RunEnd cols u i (unwrap_or (cond (not b) (Some e) (find differs (range_with_len (e + 1) k))) rows)
      pick more true g = more (alike-more e (omega arith) a g)
      pick more false g = ends-here e (omega arith) a g

  pub end_found : (found : Option ℕ) → option_map (λ (e : ℕ). e) found ≡ find differs (range_with_len (i + 1) (rows - (i + 1))) → RunEnd cols u i (unwrap_or found rows)
  end_found found f = rw (sym (map-same found) ∙ f) (end_from (i + 1) (rows - (i + 1)) (omega (arith, r.before)) alike-one)
