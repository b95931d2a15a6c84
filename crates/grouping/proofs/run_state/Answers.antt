-- `grouping::run_state` feeds the rows as they are, or a sorted copy of the column.
use Rattle.std.proofs.Common.{rules}
use Rattle.grouping.specs.Picking.{room_as, picks_as}
use Rattle.grouping.specs.Single.{plain-room, plain_done, column-room, order-room, ordered_room, ordered_done}
use Rattle.grouping.proofs.run_state.Goals as goal

pub feed-requires : goal.feed-requires
feed-requires c = plain-room c.requires c.needs_order.ensures c.if-not-needs_order.true

pub returns-then-not-needs_order : goal.returns-then-not-needs_order
returns-then-not-needs_order c = plain_done c.requires c.feed.ensures

pub pick-requires-clause-room : goal.pick-requires-clause-room
pick-requires-clause-room c = room_as (λ i r l g. search rules) (column-room c.requires c.needs_order.ensures c.if-not-needs_order.false)

pub sort_rows-requires : goal.sort_rows-requires
sort_rows-requires c = order-room c.requires c.needs_order.ensures c.if-not-needs_order.false (picks_as (λ i r l g. search rules) c.pick.ensures)

pub feed-requires-2 : goal.feed-requires-2
feed-requires-2 c =
    ordered_room c.requires c.needs_order.ensures c.if-not-needs_order.false (picks_as (λ i r l g. search rules) c.pick.ensures) c.sort_rows.ensures

pub returns : goal.returns
returns c =
    ordered_done c.requires c.needs_order.ensures c.if-not-needs_order.false (picks_as (λ i r l g. search rules) c.pick.ensures) c.sort_rows.ensures c.feed-2.ensures
