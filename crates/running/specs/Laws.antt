-- What a caller knows of a running aggregate: which values a state has taken, what it then answers, and that its numbers stay small.
use Rattle.std.specs.Prelude.{◌≡◌, refl, Bool, true, false, List, [], ◌∷◌, ◌++◌, ◌≤◌, ◌<◌, ◌^◌, ℤ, Option, Some, None}
use Rattle.std.specs.Option.{is_some}
use Rattle.std.proofs.Common.{sym, ◌∙◌, subst, subst₂, append-nil, arith}
use Rattle.meaning.specs.Cells.{Cell}
use Rattle.meaning.specs.Plans.{Row, Name, Rows, Count, Sum, Least, Greatest, DistinctSum, DistinctCount, WeightedSum, WeightedCount, Aggregate, name_of}
use Rattle.meaning.specs.Rules.{rule}
use Rattle.meaning.specs.Aggregating.{taken, made_of, answer}
use Rattle.rules.specs.declared.Name as code
use Rattle.rules.specs.Lines.{entry_of, line_of, name_at, names, is_null}
use Rattle.numbers.specs.Integers.{false_true}
use Rattle.regions.specs.Reading.{number_or_none}
use Rattle.running.specs.declared.Running.{Running}
use Rattle.running.specs.declared.Taken.{Taken}
use Rattle.running.specs.States.{repeats_of, amount_of, start_of, value_of, take_of, add_to, size_if, Room, merge_of, RoomForBoth, empty_of, finish_of}
use Rattle.running.specs.Names.{called, is_distinct}
use Rattle.running.specs.Steps.{last_in, repeats_distinct, repeats_yes, repeats_no, add_not-taken, add_repeated, add_taken, merge_none, merge_some}
use Rattle.running.specs.Ascent.{upwards, last_if, last_more}
use Rattle.running.specs.Values.{is_any, Rises, made_if, made_any, answer-both, answer_new, answer-same}
use Rattle.running.specs.Rows.{taken_by, v_cell, c_cell, taken-by, Gives, nothing, one, gives, given_size}
use Rattle.running.specs.Sizes.{most_of, most-append, held_size}

-- This state has taken these values, in this order. It holds what is made of them, nothing where there is none; a distinct one's
-- values ascend, and it knows the last.
pub record Took (n : Name) (xs : List ℤ) (st : Running) : Type 0 where
  pub named : st.name ≡ called n
  pub holds : value_of st ≡ made_if n xs
  pub ends : is_distinct n ≡ true → last_in st.taken ≡ last_if xs
  pub rises : Rises n xs

-- it has taken something where there is a value
pub took_any : {n : Name} {xs : List ℤ} {st : Running} → Took n xs st → is_some (value_of st) ≡ is_any xs
took_any {n} {xs} t = rw t.holds (made_any n xs)

-- the state after a row with these cells v and c
abbrev pub add_cells : Running → Cell → Cell → Running
add_cells st p q = add_to st (number_or_none p) (number_or_none q)

-- there is room for a row with these cells
abbrev pub RoomForCells : Running → Cell → Cell → Type 0
RoomForCells st p q = Room st (number_or_none p) (number_or_none q)

-- one row: the state as it was, as it was though the last value came again, or with one value more
module _ {n : Name} {xs : List ℤ} {st : Running} (t : Took n xs st) (v c : Option ℤ) where
  took_again : (z : ℤ) → amount_of (called n) v c ≡ Some (made_of n z []) → v ≡ Some z → Rises n (xs ++ z ∷ [])
      → repeats_of st v ≡ true → Took n (xs ++ z ∷ []) (add_to st v c)
  took_again z a same h r =
      let y = repeats_yes st z (rw same at r) in
      let d : is_distinct n ≡ true = rw t.named at y.0 in
      subst (Took n (xs ++ z ∷ [])) (add_repeated st v c {x = made_of n z []} (rw t.named a) r)
      (record {
        named = t.named;
        holds = t.holds ∙ answer-same n xs z d (sym (t.ends d) ∙ y.1);
        ends = λ e. y.1 ∙ sym (last_more xs z);
        rises = h;
      })

  took_new : (z : ℤ) → amount_of (called n) v c ≡ Some (made_of n z []) → (is_distinct n ≡ true → v ≡ Some z) → Rises n (xs ++ z ∷ [])
      → repeats_of st v ≡ false → Took n (xs ++ z ∷ []) (add_to st v c)
  unfolding take_of value_of last_in
  took_new z a same h r =
      subst (Took n (xs ++ z ∷ [])) (add_taken st v c {x = made_of n z []} (rw t.named a) r)
      (record {
        named = t.named;
        holds = rw (t.named, t.holds)
            (answer_new n xs z h
            (λ d e. repeats_no st z (rw (same d) at r) (rw t.named d) (t.ends d ∙ e)));
        ends = λ d. same d ∙ sym (last_more xs z);
        rises = h;
      })

  -- after a row that gives these values the state has taken them too
  pub took_given : {ys : List ℤ} → Gives n v c ys → Rises n (xs ++ ys) → Took n (xs ++ ys) (add_to st v c)
  took_given (nothing s) h = subst₂ (Took n) (sym (append-nil xs)) (add_not-taken st v c (rw t.named s)) t
  took_given (one z a same) h = pick (repeats_of st v) refl
    where
      pick : (b : Bool) → repeats_of st v ≡ b → Took n (xs ++ z ∷ []) (add_to st v c)
      pick true r = took_again z a (same (rw t.named at (repeats_distinct st v r))) h r
      pick false r = took_new z a same h r

-- the same beside the name alone
pub took_beside : {n : Name} {xs : List ℤ} {st : Running} {name : code.Name} → name ≡ called n → Took n xs st
    → Took n xs (record { name = name; taken = st.taken })
unfolding value_of
took_beside e t = record { named = e; holds = t.holds; ends = t.ends; rises = t.rises }

-- the new state has taken nothing
pub took_none : (n : Name) → Took n [] (start_of (called n))
unfolding start_of value_of made_if last_in last_if upwards
took_none n = record { named = refl; holds = refl; ends = λ d. refl; rises = λ d. refl }

-- after one row, given by its cells v and c, the state has taken that row's values too
pub took_cells : {n : Name} {xs : List ℤ} {st : Running} → Took n xs st → (p q : Cell) → Rises n (xs ++ taken_by n p q)
    → Took n (xs ++ taken_by n p q) (add_cells st p q)
took_cells {n} t p q h = took_given t (number_or_none p) (number_or_none q) (gives n p q) h

-- the same for a row of an aggregate
pub took_add : (a : Aggregate) (r : Row) {xs : List ℤ} {st : Running} → Took (name_of a) xs st → Rises (name_of a) (xs ++ taken a r)
    → Took (name_of a) (xs ++ taken a r) (add_cells st (v_cell a r) (c_cell a r))
took_add a r {xs} {st} t =
    subst (λ (ys : List ℤ). Rises (name_of a) (xs ++ ys) → Took (name_of a) (xs ++ ys) (add_cells st (v_cell a r) (c_cell a r)))
    (taken-by a r)
    (took_cells t (v_cell a r) (c_cell a r))

-- "two over separate rows, unless distinct, may be merged into the one over both"
merge_any : {n : Name} {xs : List ℤ} {a b : Running} (y : ℤ) (ys : List ℤ) → is_distinct n ≡ false → Took n xs a → Took n (y ∷ ys) b
    → Took n (xs ++ y ∷ ys) (merge_of a b)
unfolding value_of made_if take_of
merge_any {n} {xs} {a} {b} y ys d t u = pick b.taken refl
  where
    pick : (o : Option Taken) → b.taken ≡ o → Took n (xs ++ y ∷ ys) (merge_of a b)
    pick None e = let k : ◌≡◌ {A = Option ℤ} None (Some (made_of n y ys)) = rw e at u.holds in cc
    pick (Some s) e =
        let k : ◌≡◌ {A = Option ℤ} (Some s.value) (Some (made_of n y ys)) = rw e at u.holds in
        let v : s.value ≡ made_of n y ys = cc k in
        subst (Took n (xs ++ y ∷ ys)) (merge_some a b (rw t.named d) e)
        (record {
          named = t.named;
          holds = rw (t.named, t.holds, v) (answer-both n xs y ys d);
          ends = λ x. false_true (sym d ∙ x);
          rises = λ x. false_true (sym d ∙ x);
        })

merge_nothing : {n : Name} {xs : List ℤ} {a b : Running} → is_distinct n ≡ false → Took n xs a → Took n [] b
    → Took n (xs ++ []) (merge_of a b)
unfolding value_of made_if
merge_nothing {n} {xs} {a} {b} d t u = pick b.taken refl
  where
    pick : (o : Option Taken) → b.taken ≡ o → Took n (xs ++ []) (merge_of a b)
    pick None e = subst₂ (Took n) (sym (append-nil xs)) (merge_none a b (rw t.named d) e) t
    pick (Some s) e = let k : ◌≡◌ {A = Option ℤ} (Some s.value) None = rw e at u.holds in cc

pub took_merge : {n : Name} {xs ys : List ℤ} {a b : Running} → is_distinct n ≡ false → Took n xs a → Took n ys b
    → Took n (xs ++ ys) (merge_of a b)
took_merge {ys = []} d t u = merge_nothing d t u
took_merge {ys = y ∷ ys} d t u = merge_any y ys d t u

-- the rule table's answer with no value is that cell
empty-cell : (n : Name) → empty_of (called n) ≡ number_or_none (rule n).no_value
unfolding empty_of entry_of line_of name_at names is_null called rule number_or_none
empty-cell Rows = refl
empty-cell Count = refl
empty-cell Sum = refl
empty-cell Least = refl
empty-cell Greatest = refl
empty-cell DistinctSum = refl
empty-cell DistinctCount = refl
empty-cell WeightedSum = refl
empty-cell WeightedCount = refl

-- the finished cell is that of the answer over the values taken
pub took_finish : {n : Name} {xs : List ℤ} {st : Running} → Took n xs st → finish_of st ≡ number_or_none (answer n xs)
unfolding finish_of made_if answer number_or_none
took_finish {n} {xs = []} t = rw (t.holds, t.named) (empty-cell n)
took_finish {xs = x ∷ xs} t = rw t.holds

-- the size of the value is at most the count of the values, or their sizes added up
pub took_size : {n : Name} {xs : List ℤ} {st : Running} → Took n xs st → size_if (value_of st) ≤ most_of n xs
took_size {n} {xs} t = rw t.holds (held_size n xs)

-- what `add` requires, from a bound on the values with the next row's
pub took_room-given : {n : Name} {xs ys : List ℤ} {st : Running} {v c : Option ℤ} → Took n xs st → Gives n v c ys → most_of n (xs ++ ys) < 2 ^ 63
    → Room st v c
took_room-given {n} {xs} {ys} {st} {v} {c} t g h =
    let k : size_if (amount_of st.name v c) ≤ most_of n ys = rw t.named (given_size g) in
    record { small = omega (arith, took_size t, k, most-append n xs ys) }

pub took_room-cells : {n : Name} {xs : List ℤ} {st : Running} → Took n xs st → (p q : Cell) → most_of n (xs ++ taken_by n p q) < 2 ^ 63
    → RoomForCells st p q
took_room-cells {n} t p q h = took_room-given t (gives n p q) h

-- what `merge` requires, from a bound on the values of both
pub took_room-both : {n : Name} {xs ys : List ℤ} {a b : Running} → Took n xs a → Took n ys b → most_of n (xs ++ ys) < 2 ^ 63
    → RoomForBoth a b
took_room-both {n} {xs} {ys} t u h = record { small = omega (arith, took_size t, took_size u, most-append n xs ys) }
