-- Tables as three numbers each in one lent list: width, rows and start.
use Rattle.std.specs.Prelude.{◌≡◌, refl, Bool, true, false, ◌&&◌, ◌||◌, List, [], ◌∷◌, ℕ, zero, suc, ◌+◌, ◌-◌, ◌*◌, ◌/◌, ◌^◌, ◌<◌, ◌≤◌, eqb, leb, ltb, ℤ, pos, negsuc, nat_abs}
use Rattle.std.proofs.Common.{sym, ◌∙◌, SFits, of_z, arith, ltb-true, ltb-false, lt-ltb, le-ltb, leb-true, le-leb, eq-eqb, ne_eqb}
use Rattle.std.proofs.Math.Path.{ap}
use Rattle.std.proofs.Math.Bool.{or-false}
use Rattle.std.proofs.Math.ListN.{length, get_or, take, drop}
use Rattle.std.proofs.Math.Nat.{one-mul}
use Rattle.std.specs.List.{list_all, range_with_len}
use Rattle.std.proofs.lemmas.List.{drop-drop, get_or-take, get_or-drop}
use Rattle.std.specs.Simd.{first_chunks}
use Rattle.std.specs.Int.Signed.{lt_z, le_z}
use Rattle.std.specs.Int.{w64}
use borrow.Author.Tests.{lt-leb}
use Rattle.meaning.specs.Limits.{most_rows, most_size}
use Rattle.meaning.specs.Cells.{eq_z}
use Rattle.meaning.specs.Running.{Place, places_in, lent_of, nowhere, cell_right, cells_right, place_right, inside_run}
use Rattle.lists.specs.Tests.{and_left, and_right}
use Rattle.node_bytes.specs.Rows.{every, every_of-range}

-- the table whose three numbers stand at a place
unfoldable pub place_at : List ℕ → ℕ → Place
place_at ns at = record { width = get_or ns at 0; rows = get_or ns (at + 1) 0; start = get_or ns (at + 2) 0 }

-- the place that three numbers are
abbrev pub place_of : List ℕ → Place
place_of ns = record { width = get_or ns 0 0; rows = get_or ns 1 0; start = get_or ns 2 0 }

-- n cells from a place on lie inside runs of these lengths
unfoldable pub inside_at : ℕ → ℕ → ℕ → ℕ → Bool
inside_at start n cells marks = leb (start + n) cells && leb (start + n) marks

-- 5 at a leaf that names a table with a width
unfoldable pub table_right : List ℕ → List ℤ → List ℕ → ℕ → ℕ → Bool
table_right ns cells marks name w =
    ltb name (length (places_in ns)) && place_right (lent_of ns cells marks) w (get_or (places_in ns) name nowhere)

-- what lies there ends inside both runs
pub ends_inside : (start n cells marks : ℕ) → start + n ≤ cells → leb (start + n) marks ≡ inside_at start n cells marks
unfolding inside_at
ends_inside start n cells marks h = simp (le-leb (start + n) cells h)

pub ends_outside : (start n cells marks : ℕ) → cells < start + n → false ≡ inside_at start n cells marks
unfolding inside_at
ends_outside start n cells marks h = simp (lt-leb (start + n) cells h)

-- ---- a cell's range, as its signed comparisons tell it

pub too_low : (z : ℤ) → lt_z z (negsuc 2147483646) ≡ true → leb (nat_abs z) 2147483647 ≡ false
too_low (pos n) e = absurd (let q : ◌≡◌ {A = ℕ} 0 1 = cc in omega arith)
too_low (negsuc n) e = lt-leb (suc n) 2147483647 (omega (arith, ltb-true 2147483646 n e))

pub not_too_low : (z : ℤ) → lt_z z (negsuc 2147483646) ≡ false → le_z z (pos 2147483647) ≡ leb (nat_abs z) 2147483647
not_too_low (pos n) e = refl
not_too_low (negsuc n) e = sym (le-leb (suc n) 2147483647 (omega (arith, ltb-false 2147483646 n e)))

-- neither of two holds, each with something false
neither : (a b : Bool) → false ≡ ((a && false) || (b && false))
neither true true = refl
neither true false = refl
neither false true = refl
neither false false = refl

-- a cell outside the range is wrong, whatever its mark: 0 lies inside
right_outside : (z : ℤ) (m : ℕ) → leb (nat_abs z) 2147483647 ≡ false → false ≡ cell_right z m
unfolding cell_right most_size eq_z
right_outside (pos zero) m e = absurd (let q : true ≡ false = e in cc)
right_outside (pos (suc n)) m e = rw (e, ne_eqb (suc n) 0 (λ q. omega arith)) (neither (eqb m 0) (eqb m 1))
right_outside (negsuc n) m e = rw e (neither (eqb m 0) (eqb m 1))

pub right_low : (z : ℤ) (m : ℕ) → lt_z z (negsuc 2147483646) ≡ true → false ≡ cell_right z m
right_low z m e = right_outside z m (too_low z e)

pub right_high : (z : ℤ) (m : ℕ) → lt_z z (negsuc 2147483646) ≡ false → le_z z (pos 2147483647) ≡ false → false ≡ cell_right z m
right_high z m e f = right_outside z m (sym (not_too_low z e) ∙ f)

-- what decides a cell, by its mark
pub right_present : (z : ℤ) (m : ℕ) → m ≡ 0 → leb (nat_abs z) 2147483647 ≡ cell_right z m
unfolding cell_right most_size
right_present z m e = rw e (sym (or-false (leb (nat_abs z) 2147483647)))

pub right-null : (z : ℤ) (m : ℕ) → m ≡ 1 → eq_z z (pos 0) ≡ cell_right z m
unfolding cell_right
right-null z m e = rw e

pub right-other : (z : ℤ) (m : ℕ) → (m ≡ 0 → ⊥) → (m ≡ 1 → ⊥) → false ≡ cell_right z m
unfolding cell_right
right-other z m a b = simp (ne_eqb m 0 a, ne_eqb m 1 b)

-- a number is 0 where its bits are
pub zero_bits : (z : ℤ) → SFits w64 z → eqb (of_z w64 z) 0 ≡ eq_z z (pos 0)
unfolding eq_z
zero_bits (pos n) h = refl
zero_bits (negsuc n) h = ne_eqb (2 ^ 64 - suc n) 0 (λ e. omega (arith, h.sfits))

-- a cell of a run is a table's
unfoldable pub cell_right_at : List ℤ → List ℕ → ℕ → Bool
cell_right_at cells marks at = cell_right (get_or cells at (pos 0)) (get_or marks at 0)

-- cells are tested one by one
pub cells-every : (cells : List ℤ) (marks : List ℕ) (at n : ℕ) → every (cell_right_at cells marks) 1 at n ≡ cells_right cells marks at n
unfolding every cell_right_at cells_right
cells-every cells marks at zero = refl
cells-every cells marks at (suc n) = ap (λ (b : Bool). cell_right (get_or cells at (pos 0)) (get_or marks at 0) && b) (cells-every cells marks (at + 1) n)

pub cells-range : (cells : List ℤ) (marks : List ℕ) (at n : ℕ) → list_all (λ (i : ℕ). cell_right (get_or cells (at + i) (pos 0)) (get_or marks (at + i) 0)) (range_with_len 0 n) ≡ cells_right cells marks at n
unfolding cell_right_at
cells-range cells marks at n = simp one-mul at (every_of-range (cell_right_at cells marks) 1 at n) ∙ cells-every cells marks at n

-- ---- the table of a number

behind : (w r s : ℕ) (ns : List ℕ) (i j : ℕ) → j ≡ i + 3 → get_or (w ∷ r ∷ s ∷ ns) j 0 ≡ get_or ns i 0
behind w r s ns i j e = ap (λ (k : ℕ). get_or (w ∷ r ∷ s ∷ ns) k 0) (let q : j ≡ suc (suc (suc i)) = omega arith in q)

pub places_at : (ns : List ℕ) (k : ℕ) → k < length ns / 3 → get_or (places_in ns) k nowhere ≡ place_at ns (3 * k)
unfolding places_in place_at
places_at [] k h = absurd (omega arith)
places_at (w ∷ []) k h = absurd (omega arith)
places_at (w ∷ r ∷ []) k h = absurd (omega arith)
places_at (w ∷ r ∷ s ∷ ns) zero h = refl
places_at (w ∷ r ∷ s ∷ ns) (suc k) h =
    let a : get_or (w ∷ r ∷ s ∷ ns) (3 * suc k) 0 ≡ get_or ns (3 * k) 0 = behind w r s ns (3 * k) (3 * suc k) (omega arith) in
    let b : get_or (w ∷ r ∷ s ∷ ns) (3 * suc k + 1) 0 ≡ get_or ns (3 * k + 1) 0 = behind w r s ns (3 * k + 1) (3 * suc k + 1) (omega arith) in
    let c : get_or (w ∷ r ∷ s ∷ ns) (3 * suc k + 2) 0 ≡ get_or ns (3 * k + 2) 0 = behind w r s ns (3 * k + 2) (3 * suc k + 2) (omega arith) in
    places_at ns k (omega arith) ∙ cc

pub places-long : (ns : List ℕ) → length (places_in ns) ≡ length ns / 3
unfolding places_in
places-long [] = refl
places-long (w ∷ []) = refl
places-long (w ∷ r ∷ []) = refl
places-long (w ∷ r ∷ s ∷ ns) = omega (arith, places-long ns)

-- how a table comes out, at each test
module _ (ns : List ℕ) (cells : List ℤ) (marks : List ℕ) (w : ℕ) (t : Place) where
  pub width-other : (t.width ≡ w → ⊥) → false ≡ place_right (lent_of ns cells marks) w t
  unfolding place_right
  width-other n = simp (ne_eqb t.width w n)

  module _ (same : t.width ≡ w) where
    pub too_many : 1024 < t.rows → false ≡ place_right (lent_of ns cells marks) w t
    unfolding place_right most_rows
    too_many h = simp (eq-eqb t.width w same, lt-leb t.rows 1024 h)

    module _ (few : t.rows ≤ 1024) where
      rest : (inside_run (lent_of ns cells marks) t && cells_right cells marks t.start (t.width * t.rows)) ≡ place_right (lent_of ns cells marks) w t
      unfolding place_right most_rows
      rest = simp (eq-eqb t.width w same, le-leb t.rows 1024 few)

      pub no_rows : t.rows ≡ 0 → true ≡ place_right (lent_of ns cells marks) w t
      unfolding inside_run cells_right
      no_rows z =
          let none : t.width * t.rows ≡ 0 = ap (λ (n : ℕ). t.width * n) z ∙ (let q : t.width * 0 ≡ 0 = omega arith in q) in
          simp (eq-eqb t.rows 0 z, none) at rest

      module _ (some : t.rows ≡ 0 → ⊥) where
        decides : (inside_at t.start (w * t.rows) (length cells) (length marks) && cells_right cells marks t.start (w * t.rows)) ≡ place_right (lent_of ns cells marks) w t
        unfolding inside_run inside_at
        decides = simp (ne_eqb t.rows 0 some, same) at rest

        pub outside : inside_at t.start (w * t.rows) (length cells) (length marks) ≡ false → false ≡ place_right (lent_of ns cells marks) w t
        outside e = simp e at decides

        pub cells_decide : inside_at t.start (w * t.rows) (length cells) (length marks) ≡ true
            → cells_right cells marks t.start (w * t.rows) ≡ place_right (lent_of ns cells marks) w t
        cells_decide e = simp e at decides

-- n cells that lie inside two runs
pub cells-there : (start n : ℕ) (cells : List ℤ) (marks : List ℕ) → inside_at start n (length cells) (length marks) ≡ true → (start + n ≤ length cells) × (start + n ≤ length marks)
unfolding inside_at
cells-there start n cells marks e = (leb-true _ _ (and_left _ _ e), leb-true _ _ (and_right (leb (start + n) (length cells)) _ e))

-- ---- the three numbers of a table

drop_more : (k : ℕ) (ns : List ℕ) → take 3 (drop (3 * k) (drop 3 ns)) ≡ take 3 (drop (3 * suc k) ns)
drop_more k ns = let q : 3 + 3 * k ≡ 3 * suc k = omega arith in ap (take 3) (drop-drop (3 * k) 3 ns ∙ ap (λ (n : ℕ). drop n ns) q)

at_place : (ns : List ℕ) (at i : ℕ) → i < 3 → get_or (take 3 (drop at ns)) i 0 ≡ get_or ns (at + i) 0
at_place ns at i h = get_or-take 3 (drop at ns) i 0 h ∙ get_or-drop at ns i 0

three_at : (m k : ℕ) (ns : List ℕ) → k < m → get_or (first_chunks 3 m ns) k [] ≡ take 3 (drop (3 * k) ns)
three_at zero k ns h = absurd (omega arith)
three_at (suc m) zero ns h = refl
three_at (suc m) (suc k) ns h = three_at m k (drop 3 ns) (omega arith) ∙ drop_more k ns

pub three-place : (ns : List ℕ) (k : ℕ) → k < length ns / 3 → place_of (get_or (first_chunks 3 (length ns / 3) ns) k []) ≡ get_or (places_in ns) k nowhere
unfolding place_at
three-place ns k h =
    let z : 3 * k + 0 ≡ 3 * k = omega arith in
    let p : get_or (take 3 (drop (3 * k) ns)) 0 0 ≡ get_or ns (3 * k) 0 = at_place ns (3 * k) 0 (omega arith) ∙ ap (λ (n : ℕ). get_or ns n 0) z in
    let q = at_place ns (3 * k) 1 (omega arith) in
    let r = at_place ns (3 * k) 2 (omega arith) in
    rw (three_at (length ns / 3) k ns h, p, q, r) (sym (places_at ns k h))

-- how the table of a number comes out: there is none, or it is the one of its three numbers
module _ (ns : List ℕ) (cells : List ℤ) (marks : List ℕ) (name w : ℕ) where
  pub table_missing : length ns / 3 ≤ name → false ≡ table_right ns cells marks name w
  unfolding table_right
  table_missing h = simp (places-long ns, le-ltb name (length ns / 3) h)

  pub table_there : name < length ns / 3 → place_right (lent_of ns cells marks) w (place_of (get_or (first_chunks 3 (length ns / 3) ns) name [])) ≡ table_right ns cells marks name w
  unfolding table_right
  table_there h = simp (places-long ns, lt-ltb name (length ns / 3) h, three-place ns name h)
