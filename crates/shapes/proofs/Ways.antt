-- The laws by which the code that measures and scans answers, each at its way out.
use Rattle.rules.specs.Named.{says_other, not_other}
use Rattle.node_bytes.specs.Tags.{says_inner, says_left_outer, says_full_outer}
use Rattle.shapes.specs.Sizes.{two_read, there, not_there, none_of, none_outside, there_if, byte_in_rest, join_pads, inputs_said, size_table_within, size_join, size_grouping, size_other, node_past, node-fits}
use Rattle.shapes.specs.Scanning.{scanned_starts, scanned_bad, scanned_few, scanned_ends, moved}

pub ruleset aggregate_ways = (says_other, not_other, two_read)

pub ruleset size_ways = (none_outside, there_if, byte_in_rest, join_pads)

pub ruleset kind_ways = (size_table_within, size_join, size_grouping, size_other, node_past, none_of, says_inner, says_left_outer, says_full_outer)

pub ruleset scan_ways = (scanned_starts, scanned_bad, scanned_few, scanned_ends, there, not_there, inputs_said, node-fits)

pub ruleset start_ways = (moved, node-fits)
