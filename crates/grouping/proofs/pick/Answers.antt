-- `grouping::pick` picks cell by cell: after j turns the first j cells stand at their new place.
use Rattle.std.proofs.Common.{rules, arith, ◌<◌}
use Rattle.grouping.specs.Picking.{picked_more}
use Rattle.grouping.proofs.pick.Goals as goal

pub loop-j-preserved : goal.loop-j-preserved
loop-j-preserved g c =
    let l : c.loop-j.j < c.args.n = omega arith in
    let b = c.requires.room.below c.loop-j.j c.place-from.result l c.place-from.ensures in (
      picked_more _ _ _ _ _ _ _ c.loop-j.invariant.0 (omega (arith, c.requires.room.cells_to)) c.place-from.ensures (search rules) b,
      picked_more _ _ _ _ _ _ _ c.loop-j.invariant.1 (omega (arith, c.requires.room.marks_to)) c.place-from.ensures (search rules) b,
    )
