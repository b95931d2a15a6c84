-- `grouping::write_groups` goes from run to run: what is written, with what the rows that are left come to, is all.
use Rattle.std.proofs.Common.{arith}
use Rattle.grouping.specs.Grouping.{node-inside, columns-inside, grouped-none, grouped-more, grouped_end, end_room, place-room, count-few, row_room, width_here}
use Rattle.grouping.proofs.write_groups.Goals as goal

pub key_columns-columns-requires : goal.key_columns-columns-requires
key_columns-columns-requires c = columns-inside c.requires

pub bounds-s-at : goal.bounds-s-at
bounds-s-at c = omega (arith, node-inside c.requires)

pub loop-i-init : goal.loop-i-init
loop-i-init c = grouped-none c.requires

pub run_end-end-requires : goal.run_end-end-requires
run_end-end-requires c =
    rw c.key_columns-columns.ensures (end_room c.requires c.loop-i.invariant c.loop-i-test.true)

pub overflow_mul-count : goal.overflow_mul-count
overflow_mul-count c =
    rw (width_here c.args.s.now c.args.at c.key_columns-columns.ensures)
    (omega (arith, place-room c.requires c.loop-i.invariant c.loop-i-test.true (rw c.key_columns-columns.ensures at c.run_end-end.ensures), c.requires.cells-room))

pub overflow_add-out : goal.overflow_add-out
overflow_add-out c =
    rw (width_here c.args.s.now c.args.at c.key_columns-columns.ensures)
    (omega (arith, place-room c.requires c.loop-i.invariant c.loop-i-test.true (rw c.key_columns-columns.ensures at c.run_end-end.ensures), c.requires.cells-room))

pub write_group-requires : goal.write_group-requires
write_group-requires c =
    rw (width_here c.args.s.now c.args.at c.key_columns-columns.ensures)
    (row_room c.requires c.loop-i.invariant c.loop-i-test.true (rw c.key_columns-columns.ensures at c.run_end-end.ensures))

pub overflow_add-count : goal.overflow_add-count
overflow_add-count c =
    omega (arith, count-few c.requires c.loop-i.invariant, c.loop-i.invariant.within, c.requires.few)

pub loop-i-preserved : goal.loop-i-preserved
loop-i-preserved c =
    grouped-more c.requires c.loop-i.invariant c.loop-i-test.true (rw c.key_columns-columns.ensures at c.run_end-end.ensures)
    (rw (width_here c.args.s.now c.args.at c.key_columns-columns.ensures) at c.write_group.ensures)

pub returns : goal.returns
returns c = grouped_end c.requires c.loop-i.invariant (omega arith)
