-- `shapes::aggregate_good` tests a known name's two columns; with two to read any will do.
use Rattle.std.proofs.Common.{◌∙◌, sym, arith}
use Rattle.rules.specs.Named.{not_other}
use Rattle.shapes.specs.Sizes.{two_read}
use Rattle.shapes.proofs.aggregate_good.Goals as goal

pub returns-in_default-entry : goal.returns-in_default-entry
returns-in_default-entry c =
    let known = not_other _ (λ m e. c.in_default.not-Other m (c.from.ensures ∙ e)) in
    sym (two_read _ _ known (omega arith))
