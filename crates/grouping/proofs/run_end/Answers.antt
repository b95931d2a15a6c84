-- `grouping::run_end` finds the first row behind whose key is another one.
use Rattle.std.proofs.Common.{rules, refl, arith, ◌+◌}
use Rattle.std.proofs.lemmas.Iterator.{YieldsList-from_range, serves_from_Range}
use Rattle.std.proofs.lemmas.Iterator.Search.{find_from_yields_List}
use Rattle.grouping.specs.Ending.{row-cells, keys_in, differs, end_found}
use Rattle.grouping.proofs.run_end.Goals as goal

pub overflow_mul-first : goal.overflow_mul-first
overflow_mul-first c = omega (arith, row-cells c.requires c.args.i c.requires.before)

pub overflow_add-first : goal.overflow_add-first
overflow_add-first c = omega (arith, row-cells c.requires c.args.i c.requires.before)

pub returns : goal.returns
returns c =
    let ends = YieldsList-from_range (c.args.i + 1) c.args.rows.count _ refl refl in
    rw c.unwrap_or.ensures
    (end_found c.requires c.find.result (find_from_yields_List (differs c.requires) _ _ _ c.find.ensures.ran ends (λ x b q h. search rules)))

pub find-requires-clause-callable : goal.find-requires-clause-callable
find-requires-clause-callable c =
    serves_from_Range (λ x q h. search rules) (λ x a b. let l = row-cells c.requires x b in let k = keys_in c.requires x b in search rules)
