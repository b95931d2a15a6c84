-- `grouping::feed_as` feeds row by row: after k turns the state has taken the first k rows.
use Rattle.std.proofs.Common.{arith}
use Rattle.running.specs.States.{start_of}
use Rattle.running.specs.Laws.{took_beside}
use Rattle.grouping.specs.Feeding.{fed_none, read_room, read_more, row-cells, row-marks}
use Rattle.grouping.proofs.feed_as.Goals as goal

pub loop-k-init : goal.loop-k-init
unfolding start_of
loop-k-init c = fed_none c.requires.room (rw (c.requires.said, c.new-taken.ensures))

pub overflow_mul-row : goal.overflow_mul-row
overflow_mul-row c = omega (arith, row-cells c.requires.room c.loop-k.k (omega arith))

pub overflow_add-row : goal.overflow_add-row
overflow_add-row c = omega (arith, row-cells c.requires.room c.loop-k.k (omega arith))

pub read-v-requires : goal.read-v-requires
read-v-requires c = record {
  v_in = record {
    number_in = omega (arith, row-cells c.requires.room c.loop-k.k (omega arith));
    mark_in = omega (arith, row-marks c.requires.room c.loop-k.k (omega arith));
  };
  c_in = record {
    number_in = omega (arith, row-cells c.requires.room c.loop-k.k (omega arith));
    mark_in = omega (arith, row-marks c.requires.room c.loop-k.k (omega arith));
  };
}

pub add-taken-requires : goal.add-taken-requires
add-taken-requires c = read_room c.requires.room c.loop-k.k (omega arith) c.loop-k.invariant (rw c.requires.said at c.read-v.ensures)

pub loop-k-preserved : goal.loop-k-preserved
loop-k-preserved c =
    took_beside c.loop-k.invariant.named
    (read_more c.requires.room c.loop-k.k (omega arith) c.loop-k.invariant (rw c.requires.said at c.read-v.ensures) c.add-taken.ensures)
