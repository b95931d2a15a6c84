-- `grouping::write_aggregate` writes the finished state's cell and mark.
use Rattle.std.proofs.Common.{rules, ap, ◌∙◌, ℤ, pos, Option, w64, to_z-of_z}
use Rattle.std.specs.Option.{unwrap_or}
use Rattle.running.specs.declared.Running.{Running}
use Rattle.grouping.specs.Writing.{cell-done, null_mark, mark-null}
use Rattle.grouping.proofs.write_aggregate.Goals as goal

pub returns : goal.returns
returns c =
    let e = ap (λ (y : Running × Option ℤ). y.1) c.finish-answer.ensures in
    cell-done c.requires c.run_state.ensures
    (to_z-of_z {w = w64} {z = c.unwrap_or.result} (search rules) ∙ c.unwrap_or.ensures ∙ ap (λ (o : Option ℤ). unwrap_or o (pos 0)) e)
    (mark-null _ c.is_none.result (λ f. rw f at c.from.ensures) (λ f. rw f at c.from.ensures) c.is_none.ensures ∙ ap null_mark e)
