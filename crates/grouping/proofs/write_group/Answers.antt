-- `grouping::write_group` writes the key and then the aggregates behind it.
use Rattle.std.proofs.Common.{rules, arith}
use Rattle.grouping.specs.Writing.{head_inside, columns-size, columns-room, cells-room, group_done}
use Rattle.grouping.specs.Picking.{room_as, picks_as}
use Rattle.grouping.proofs.write_group.Goals as goal

pub key_columns-columns-requires : goal.key_columns-columns-requires
key_columns-columns-requires c = omega (arith, head_inside c.requires)

pub bounds-s-at : goal.bounds-s-at
bounds-s-at c = omega (arith, head_inside c.requires)

pub pick-requires-clause-room : goal.pick-requires-clause-room
pick-requires-clause-room c = room_as (λ i r l g. search rules) (columns-room c.requires c.key_columns-columns.ensures)

pub overflow_add-at-2 : goal.overflow_add-at-2
overflow_add-at-2 c = omega (arith, head_inside c.requires, columns-size c.requires c.key_columns-columns.ensures)

pub write_aggregates-requires : goal.write_aggregates-requires
write_aggregates-requires c = cells-room c.requires c.key_columns-columns.ensures (picks_as (λ i r l g. search rules) c.pick.ensures)

pub returns : goal.returns
returns c = group_done c.requires c.key_columns-columns.ensures (picks_as (λ i r l g. search rules) c.pick.ensures) c.write_aggregates.ensures
