-- `tables::table_right` looks the table's three numbers up.
use Rattle.std.proofs.Common.{ap, ◌∙◌, List, [], ℕ, get_or, arith}
use Rattle.meaning.specs.Running.{lent_of, place_right}
use Rattle.tables.specs.Places.{place_of, table_missing, table_there}
use Rattle.tables.proofs.table_right.Goals as goal

pub returns-in-Some : goal.returns-in-Some
returns-in-Some c =
    let x = c.args in
    let found = c.in-Some.ensures.lookup.3 in
    let three = found.1 [] ∙ ap (λ (ps : List (List ℕ)). get_or ps x.name []) c.as_chunks.ensures.front in
    c.place_right.ensures
    ∙ ap (λ (p : List ℕ). place_right (lent_of x.lent.tables.now x.lent.cells.now x.lent.marks.now) x.width (place_of p)) three
    ∙ table_there _ _ _ _ _ (omega (arith, found.0, c.as_chunks.ensures.front_len))

pub returns-in-None : goal.returns-in-None
returns-in-None c = table_missing _ _ _ _ _ (omega (arith, c.in-None.ensures.lookup, c.as_chunks.ensures.front_len))
