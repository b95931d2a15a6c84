-- The tests that go over n things, as `all` makes them and thing by thing: bytes of a part, columns that are all different, defaults
-- with their kinds; and one turn of a loop that writes a list from the front.
use Rattle.std.specs.Prelude.{◌≡◌, refl, Bool, true, false, not, ◌&&◌, ◌||◌, List, [], ◌∷◌, ◌++◌, ℕ, zero, suc, ◌+◌, ◌*◌, ◌-◌, ◌<◌, ◌≤◌, eqb, ltb, length, get_or, take, drop, set, slice_range}
use Rattle.std.specs.List.{list_all, list_any, range_with_len}
use Rattle.std.proofs.Common.{sym, ap, ◌∙◌, append-nil, append_assoc, add-one, arith, length-take, length-drop, drop-cons, get_or-take, get_or-drop, length-set, take-suc, take-suc-set}
use Rattle.std.proofs.lemmas.List.{drop-take, drop-drop}
use Rattle.node_bytes.specs.Nodes.{byte, group_size}
use Rattle.node_bytes.specs.Rows.{every, list_at, list_more}
use Rattle.node_checks.specs.Tests.{eqb_same}
use Rattle.node_checks.specs.Columns.{column_at, columns_at, other_at, absent_at, alone, all_alone, distinct_at, reads_at}
use Rattle.node_checks.specs.Weights.{default_at, defaults_at}
use Rattle.node_checks.specs.Numbers.{group_columns_at}

-- a test of each byte of a part of a string is the test at each place
every_in : (f : ℕ → Bool) (s : List ℕ) (at n : ℕ) → at + n ≤ length s
    → list_all f (take n (drop at s)) ≡ every (λ (x : ℕ). f (byte s x)) 1 at n
unfolding every
every_in f s at zero h = refl
every_in f s at (suc n) h =
    rw (drop-cons s at 0 (omega arith), add-one at)
    (ap (λ (b : Bool). f (get_or s at 0) && b) (every_in f s (suc at) n (omega arith)))

pub every_of-part : (f : ℕ → Bool) (s : List ℕ) (at n : ℕ) → at + n ≤ length s
    → list_all f (slice_range s at (at + n)) ≡ every (λ (x : ℕ). f (byte s x)) 1 at n
every_of-part f s at n h = let q : at + n - at ≡ n = omega arith in rw q (every_in f s at n h)

-- none of some numbers is i
none_is : (i : ℕ) (xs : List ℕ) → not (list_any (λ (y : ℕ). eqb y i) xs) ≡ list_all (λ (y : ℕ). not (eqb i y)) xs
none_is i [] = refl
none_is i (x ∷ xs) = rw (eqb_same x i i x sym sym) (first (eqb i x) (none_is i xs))
  where
    first : (b : Bool) → not (list_any (λ (y : ℕ). eqb y i) xs) ≡ list_all (λ (y : ℕ). not (eqb i y)) xs
        → not (b || list_any (λ (y : ℕ). eqb y i) xs) ≡ (not b && list_all (λ (y : ℕ). not (eqb i y)) xs)
    first true e = refl
    first false e = e

-- n columns are all different where each is none of those behind it
module _ (s : List ℕ) (at n : ℕ) (h : at + n ≤ length s) where
  alone_absent : (a m : ℕ) → a + 1 + m ≡ n → alone (take n (drop at s)) a ≡ absent_at s (at + a + 1) m (byte s (at + a))
  unfolding absent_at other_at
  alone_absent a m e =
      let first : get_or (take n (drop at s)) a 0 ≡ byte s (at + a) = get_or-take n (drop at s) a 0 (omega arith) ∙ get_or-drop at s a 0 in
      let behind : drop (a + 1) (take n (drop at s)) ≡ take m (drop (at + a + 1) s) =
      ap (λ (k : ℕ). drop (a + 1) (take k (drop at s))) (sym e) ∙ drop-take (a + 1) m (drop at s) ∙ ap (take m) (drop-drop (a + 1) at s ∙ ap (λ (k : ℕ). drop k s) (let q : at + (a + 1) ≡ at + a + 1 = omega arith in q)) in
      rw (first, behind) (none_is (byte s (at + a)) (take m (drop (at + a + 1) s)) ∙ every_in (λ (y : ℕ). not (eqb (byte s (at + a)) y)) s (at + a + 1) m (omega arith))

  distinct_from : (a m : ℕ) → a + m ≡ n → list_all (alone (take n (drop at s))) (range_with_len a m) ≡ distinct_at s (at + a) m
  unfolding distinct_at
  distinct_from a zero e = refl
  distinct_from a (suc m) e =
      let q : at + (a + 1) ≡ at + a + 1 = omega arith in
      rw (alone_absent a m (omega arith))
      (ap (λ (b : Bool). absent_at s (at + a + 1) m (byte s (at + a)) && b)
      (distinct_from (a + 1) m (omega arith) ∙ ap (λ (x : ℕ). distinct_at s x m) q))

  pub distinct_of-part : all_alone (slice_range s at (at + n)) ≡ distinct_at s at n
  distinct_of-part =
      let e : at + n - at ≡ n = omega arith in
      let l : length (take n (drop at s)) ≡ n = simp (length-take, length-drop) (omega arith) in
      let q : at + 0 ≡ at = omega arith in
      rw (e, l) (distinct_from 0 n (omega arith) ∙ ap (λ (x : ℕ). distinct_at s x n) q)

-- columns that are all different: none are left, or the first is absent from the others and these are all different
pub distinct_none : (s : List ℕ) (at n : ℕ) → n ≤ 0 → distinct_at s at n ≡ true
unfolding distinct_at
distinct_none s at zero h = refl
distinct_none s at (suc n) h = absurd (omega arith)

pub distinct_fails : (s : List ℕ) (at n : ℕ) → 0 < n → absent_at s (at + 1) (n - 1) (byte s at) ≡ false → distinct_at s at n ≡ false
unfolding distinct_at
distinct_fails s at zero h e = absurd (omega arith)
distinct_fails s at (suc n) h e = let q : suc n - 1 ≡ n = omega arith in simp (rw q at e)

pub distinct-passes : (s : List ℕ) (at n : ℕ) → 0 < n → absent_at s (at + 1) (n - 1) (byte s at) ≡ true
    → distinct_at s at n ≡ distinct_at s (at + 1) (n - 1)
unfolding distinct_at
distinct-passes s at zero h e = absurd (omega arith)
distinct-passes s at (suc n) h e = let q : suc n - 1 ≡ n = omega arith in simp (rw q at e, q)

-- 3 at a grouping that ends inside the string, whose columns are a part of it
pub group_columns_parted : (s : List ℕ) (at w : ℕ) → at + group_size s at ≤ length s
    → group_columns_at s at w
    ≡ (list_all (λ (column : ℕ). ltb column w) (slice_range s (at + 3) (at + 3 + byte s (at + 1)))
    && (all_alone (slice_range s (at + 3) (at + 3 + byte s (at + 1))) && reads_at s (at + 3 + byte s (at + 1)) (byte s (at + 2)) w))
unfolding group_size group_columns_at columns_at column_at
group_columns_parted s at w h =
    rw (every_of-part (λ (column : ℕ). ltb column w) s (at + 3) (byte s (at + 1)) (omega arith), distinct_of-part s (at + 3) (byte s (at + 1)) (omega arith))

-- n defaults are right where each is for the kind of its number
defaults_from : (s ks : List ℕ) (at a n : ℕ)
    → list_all (λ (i : ℕ). default_at s (at + 9 * i) (get_or ks i 0)) (range_with_len a n) ≡ defaults_at s (at + 9 * a) n ks a
unfolding defaults_at
defaults_from s ks at a zero = refl
defaults_from s ks at a (suc n) =
    let q : at + 9 * (a + 1) ≡ at + 9 * a + 9 = omega arith in
    ap (λ (b : Bool). default_at s (at + 9 * a) (get_or ks a 0) && b)
    (defaults_from s ks at (a + 1) n ∙ ap (λ (x : ℕ). defaults_at s x n ks (a + 1)) q)

pub defaults_of-range : (s ks : List ℕ) (at n : ℕ)
    → list_all (λ (i : ℕ). default_at s (at + 9 * i) (get_or ks i 0)) (range_with_len 0 n) ≡ defaults_at s at n ks 0
defaults_of-range s ks at n = let q : at + 9 * 0 ≡ at = omega arith in defaults_from s ks at 0 n ∙ ap (λ (x : ℕ). defaults_at s x n ks 0) q

-- defaults that are right: none are left, or the first is right for its kind and the others are right for theirs
pub defaults-none : (s : List ℕ) (at n : ℕ) (ks : List ℕ) (i : ℕ) → n ≤ 0 → defaults_at s at n ks i ≡ true
unfolding defaults_at
defaults-none s at zero ks i h = refl
defaults-none s at (suc n) ks i h = absurd (omega arith)

pub defaults_fails : (s : List ℕ) (at n : ℕ) (ks : List ℕ) (i : ℕ) → 0 < n → default_at s at (get_or ks i 0) ≡ false → defaults_at s at n ks i ≡ false
unfolding defaults_at
defaults_fails s at zero ks i h e = absurd (omega arith)
defaults_fails s at (suc n) ks i h e = simp e

pub defaults-passes : (s : List ℕ) (at n : ℕ) (ks : List ℕ) (i : ℕ) → 0 < n → default_at s at (get_or ks i 0) ≡ true
    → defaults_at s at n ks i ≡ defaults_at s (at + 9) (n - 1) ks (i + 1)
unfolding defaults_at
defaults-passes s at zero ks i h e = absurd (omega arith)
defaults-passes s at (suc n) ks i h e = let q : suc n - 1 ≡ n = omega arith in simp (e, q)

-- a list of 16 into which a front and the first i of some things are written, up to a place
pub record Listed (front : List ℕ) (g : ℕ → ℕ) (k from i place : ℕ) (out : List ℕ) : Type 0 where
  pub first : take place out ≡ front ++ list_at g k from i
  pub long : length out ≡ 16

pub listed-none : (g : ℕ → ℕ) (k from at place : ℕ) (out : List ℕ) → length out ≡ 16 → place ≡ at → Listed (take at out) g k from 0 place out
unfolding list_at
listed-none g k from at place out h e = record { first = rw (e, append-nil); long = h }

module _ {front : List ℕ} {g : ℕ → ℕ} {k from i place : ℕ} {out : List ℕ} (l : Listed front g k from i place out) where
  -- the next thing, at x, is written at the place
  pub listed_more : (x v next : ℕ) → x ≡ from + k * i → v ≡ g x → place < 16 → next ≡ place + 1
      → Listed front g k from (i + 1) next (set out place v)
  listed_more x v next q e h n =
      let inside : place < length out = omega (arith, l.long) in
      record {
        first = ap (λ (m : ℕ). take m (set out place v)) (n ∙ add-one place)
            ∙ take-suc-set out place v inside
            ∙ ap (λ (xs : List ℕ). xs ++ (v ∷ [])) l.first
            ∙ append_assoc front (list_at g k from i) (v ∷ [])
            ∙ ap (λ (y : ℕ). front ++ (list_at g k from i ++ (y ∷ []))) (e ∙ ap g q)
            ∙ ap (λ (xs : List ℕ). front ++ xs) (sym (list_more g k from i));
        long = length-set out place v ∙ l.long;
      }

  pub listed-ends : (n end : ℕ) → i ≡ n → place ≡ end → take end out ≡ front ++ list_at g k from n
  listed-ends n end q e = rw (← q, ← e) l.first

-- the elements of a list, one behind the other, are its front
pub list_take : (xs : List ℕ) (n : ℕ) → n ≤ length xs → list_at (λ (j : ℕ). get_or xs j 0) 1 0 n ≡ take n xs
unfolding list_at
list_take xs zero h = refl
list_take xs (suc n) h =
    let q : 0 + 1 * n ≡ n = omega arith in
    ap (λ (m : ℕ). list_at (λ (j : ℕ). get_or xs j 0) 1 0 m) (sym (add-one n))
    ∙ list_more (λ (j : ℕ). get_or xs j 0) 1 0 n
    ∙ ap (λ (m : ℕ). list_at (λ (j : ℕ). get_or xs j 0) 1 0 n ++ (get_or xs m 0 ∷ [])) q
    ∙ ap (λ (l : List ℕ). l ++ (get_or xs n 0 ∷ [])) (list_take xs n (omega arith))
    ∙ sym (take-suc xs n 0 (omega arith))
