-- The tests of a table by its number, one by one, over the list of numbers in which its three stand.
use Rattle.std.specs.Prelude.{◌≡◌, true, false, ◌&&◌, List, ℕ, ◌+◌, ◌-◌, ◌*◌, ◌/◌, ◌<◌, ◌≤◌, leb, ℤ}
use Rattle.std.proofs.Common.{sym, ◌∙◌, mul-le-mul, arith, lt-ltb, leb-true, le-leb, eq-eqb, ne_eqb}
use Rattle.std.proofs.Math.Path.{ap}
use Rattle.std.proofs.Math.ListN.{length, get_or}
use Rattle.std.proofs.Math.Decide.{dec_le}
use borrow.Author.Tests.{lt-leb}
use Rattle.meaning.specs.Limits.{most_rows}
use Rattle.meaning.specs.Running.{places_in, lent_of, cells_right, place_right, inside_run}
use Rattle.lists.specs.Tests.{and_left, and_right}
use Rattle.tables.specs.Places.{place_at, inside_at, table_right, places_at, places-long}

-- a comparison on the other side of a sum
pub leb-room : (a n m : ℕ) → n ≤ m → leb a (m - n) ≡ leb (a + n) m
leb-room a n m h = pick (dec_le a (m - n))
  where
    pick : Dec (a ≤ m - n) → leb a (m - n) ≡ leb (a + n) m
    pick (yes l) = let k : a + n ≤ m = omega arith in le-leb a (m - n) l ∙ sym (le-leb (a + n) m k)
    pick (no l) = let j : m - n < a = omega arith in let k : m < a + n = omega arith in lt-leb a (m - n) j ∙ sym (lt-leb (a + n) m k)

-- the cells of a table are few
pub small_product : (a b : ℕ) → a < 256 → b ≤ 1024 → a * b ≤ 262144
small_product a b h k = let l : a ≤ 256 = omega arith in let q : a * b ≤ 256 * 1024 = mul-le-mul l k in omega arith

-- how a table of a number comes out, at each test of its three numbers
module _ (ns : List ℕ) (cells : List ℤ) (marks : List ℕ) (name w : ℕ) where
  module _ (there : name < length ns / 3) where
    by_place : place_right (lent_of ns cells marks) w (place_at ns (3 * name)) ≡ table_right ns cells marks name w
    unfolding table_right
    by_place =
        let long : length (places_in ns) ≡ length ns / 3 = places-long ns in
        let l : name < length (places_in ns) = omega arith in
        simp (lt-ltb name (length (places_in ns)) l, places_at ns name there)

    pub width-other : (get_or ns (3 * name) 0 ≡ w → ⊥) → false ≡ table_right ns cells marks name w
    unfolding place_right place_at
    width-other n = simp (ne_eqb (get_or ns (3 * name) 0) w n) at by_place

    module _ (same : get_or ns (3 * name) 0 ≡ w) where
      pub too_many : 1024 < get_or ns (3 * name + 1) 0 → false ≡ table_right ns cells marks name w
      unfolding place_right place_at most_rows
      too_many h = simp (eq-eqb (get_or ns (3 * name) 0) w same, lt-leb (get_or ns (3 * name + 1) 0) 1024 h) at by_place

      module _ (few : get_or ns (3 * name + 1) 0 ≤ 1024) where
        rest : (inside_run (lent_of ns cells marks) (place_at ns (3 * name)) && cells_right cells marks (get_or ns (3 * name + 2) 0) (get_or ns (3 * name) 0 * get_or ns (3 * name + 1) 0))
            ≡ table_right ns cells marks name w
        unfolding place_right place_at most_rows
        rest = simp (eq-eqb (get_or ns (3 * name) 0) w same, le-leb (get_or ns (3 * name + 1) 0) 1024 few) at by_place

        pub no_rows : get_or ns (3 * name + 1) 0 ≡ 0 → true ≡ table_right ns cells marks name w
        unfolding inside_run place_at cells_right
        no_rows z =
            let none : get_or ns (3 * name) 0 * get_or ns (3 * name + 1) 0 ≡ 0 = ap (λ (n : ℕ). get_or ns (3 * name) 0 * n) z ∙ (let q : get_or ns (3 * name) 0 * 0 ≡ 0 = omega arith in q) in
            simp (eq-eqb (get_or ns (3 * name + 1) 0) 0 z, none) at rest

        module _ (some : get_or ns (3 * name + 1) 0 ≡ 0 → ⊥) where
          decides : (inside_at (get_or ns (3 * name + 2) 0) (w * get_or ns (3 * name + 1) 0) (length cells) (length marks) && cells_right cells marks (get_or ns (3 * name + 2) 0) (w * get_or ns (3 * name + 1) 0))
              ≡ table_right ns cells marks name w
          unfolding inside_run inside_at place_at
          decides = simp (ne_eqb (get_or ns (3 * name + 1) 0) 0 some, same) at rest

          pub outside : inside_at (get_or ns (3 * name + 2) 0) (w * get_or ns (3 * name + 1) 0) (length cells) (length marks) ≡ false
              → false ≡ table_right ns cells marks name w
          outside e = simp e at decides

          module _ (e : inside_at (get_or ns (3 * name + 2) 0) (w * get_or ns (3 * name + 1) 0) (length cells) (length marks) ≡ true) where
            pub cells_decide : cells_right cells marks (get_or ns (3 * name + 2) 0) (w * get_or ns (3 * name + 1) 0) ≡ table_right ns cells marks name w
            cells_decide = simp e at decides

            pub cells-there : (get_or ns (3 * name + 2) 0 + w * get_or ns (3 * name + 1) 0 ≤ length cells) × (get_or ns (3 * name + 2) 0 + w * get_or ns (3 * name + 1) 0 ≤ length marks)
            unfolding inside_at
            cells-there = (leb-true _ _ (and_left _ _ e), leb-true _ _ (and_right (leb (get_or ns (3 * name + 2) 0 + w * get_or ns (3 * name + 1) 0) (length cells)) _ e))
