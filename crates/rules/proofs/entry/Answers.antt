-- `rules::entry` gives the entry that the definition of the rule gives: one test, computed over the whole table.
use Rattle.std.proofs.Common.{ap, ◌≡◌, ◌∙◌, Bool, [], ℕ, ◌<◌, get_or, arith, length, le-leb}
use borrow.Author.Tests.{lt-leb}
use Rattle.std.proofs.Math.Dec.{eqb, eqb→eq}
use Rattle.std.proofs.Math.Decide.{dec_lt}
use Rattle.std.proofs.lemmas.List.{get_or_past}
use Rattle.meaning.specs.Arrangement.{name_number}
use Rattle.meaning.specs.Rules.{rule}
use Rattle.rules.specs.Below.{all_below, below}
use Rattle.rules.specs.Lines.{names, name_at, is_null, is_always, number_or9, line_of, entry_of}
use Rattle.rules.specs.declared.TheConstants.{RULES}
use Rattle.rules.proofs.entry.Goals as goal

-- an entry of the table is that of the rule, and each line has six
right : ℕ → ℕ → Bool
right name column = eqb (get_or (get_or RULES name []) column 9) (entry_of name column)

found : (name column : ℕ) → name < 9 → get_or (get_or RULES name []) column 9 ≡ entry_of name column
unfolding right entry_of line_of name_at names is_null is_always number_or9 rule name_number
found name column h = by_column (dec_lt column 6)
  where
    six : length (get_or RULES name []) ≡ 6
    six = eqb→eq _ _ (below (λ (k : ℕ). eqb (length (get_or RULES k [])) 6) 9 tt name h)

    by_column : Dec (column < 6) → get_or (get_or RULES name []) column 9 ≡ entry_of name column
    by_column (yes l) = eqb→eq _ _ (below (right name) 6 (below (λ (k : ℕ). all_below 6 (right k)) 9 tt name h) column l)
    by_column (no l) = get_or_past (get_or RULES name []) column 9 (omega (arith, six)) ∙ simp (lt-leb 9 name h, le-leb 6 column (omega arith))

pub returns : goal.returns
returns c =
    c.unwrap_or.ensures
    ∙ simp c.copied.ensures (c.get-2.ensures.lookup.4 (omega arith) 9)
    ∙ ap (λ l. get_or l c.args.column 9) (c.in-Some.ensures.lookup.3.1 [])
    ∙ found c.args.name c.args.column c.in-Some.ensures.lookup.3.0
