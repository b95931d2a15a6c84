-- P1 to P12 and the published examples hold of the definitions: one table, one statement, proved by computing.
use Rattle.std.proofs.Common.{◌++◌, T}
use Rattle.meaning.specs.Limits.{most_nodes, most_leaves, most_columns, most_pairs, most_rows, most_size, most_limit, up_to}
use Rattle.meaning.specs.Cells.{eq_z, joins, groups, below}
use Rattle.meaning.specs.Plans.{name_of, columns_read, left_defaults, right_defaults}
use Rattle.meaning.specs.Arrangement.{zigzag, low_first, cell_bytes, in_row, pair_bytes, join_number, join_bytes, name_number, two_places, aggregate_bytes, column_bytes, group_bytes, bytes}
use Rattle.meaning.specs.Rules.{rule, reading}
use Rattle.meaning.specs.Columns.{width, rule_kind, kind_at, aggregate_kind, kinds, nodes, leaves}
use Rattle.meaning.specs.Joining.{cell, matches, keep, any, matched, or_padded, inner_rows, outer_rows, last_rows, join_rows}
use Rattle.meaning.specs.Aggregating.{value, product, weight_of, taken, values_of, total, smallest, largest, into, ascending, made_of, answer, aggregate}
use Rattle.meaning.specs.Grouping.{key, same_key, below_key, into_keys, keys_of, group_of, group_row, group_rows}
use Rattle.meaning.specs.Meaning.{meaning, passes}
use Rattle.meaning.specs.Check.{refuse, first_of, all, every_node, pairs_within, node_within, within, pairs_there, defaults_there, columns_there, distinct, node_columns, default_right, defaults_right, is_weight, left_width, is_join, apart, weight_placed, aggregate_right, node_weights, check_number}
use Rattle.meaning.specs.Running.{cell_from, cells_from, rows_from, table_at, tables_of, cell_right, cells_right, inside_run, place_right, leaf_right, room_right, run_number, cell_number, cell_mark, flat, onto, cleared, filled, refused_run, result_run, run_of}
use Rattle.meaning.specs.Rewriting.{side_of, is_on, own_number, pair_column, reads, into_columns, ascending_columns, new_columns, or_own, column_v, partials, new_aggregates, place_in, new_defaults, new_join, new_pair, base, new_number, upper_aggregates, lower, new_inputs, middle, upper, pushed_group, pushed, node_at, change_at, new_plan, is_weighted, reads_both, is_none, not_decomposable, too_wide, group_number, push_number, refused_rewriting, new_rewriting, room_for, rewrite_at, rewrite_of}
use Rattle.meaning.proofs.Claims.{same_numbers, same_table, areas_for, same_run, same_rewriting, holds, right}
use Rattle.meaning.proofs.Depot.{depot-claims, depot_examples}
use Rattle.meaning.proofs.Published.{fig_4_claims, fig_2_claims, published_examples}

pub worked : T (all right (depot_examples ++ published_examples))
unfolding most_nodes most_leaves most_columns most_pairs most_rows most_size most_limit up_to eq_z joins groups below name_of columns_read left_defaults right_defaults join_number zigzag low_first cell_bytes in_row pair_bytes join_bytes name_number two_places aggregate_bytes column_bytes group_bytes bytes rule reading width rule_kind kind_at aggregate_kind kinds nodes leaves cell matches keep any matched or_padded inner_rows outer_rows last_rows join_rows value product weight_of taken values_of total smallest largest into ascending made_of answer aggregate key same_key below_key into_keys keys_of group_of group_row group_rows meaning passes refuse first_of all every_node pairs_within node_within within pairs_there defaults_there columns_there distinct node_columns default_right defaults_right is_weight left_width is_join apart weight_placed aggregate_right node_weights check_number cell_from cells_from rows_from table_at tables_of cell_right cells_right inside_run place_right leaf_right room_right run_number cell_number cell_mark flat onto cleared filled refused_run result_run run_of side_of is_on own_number pair_column reads into_columns ascending_columns new_columns or_own column_v partials new_aggregates place_in new_defaults new_join new_pair base new_number upper_aggregates lower new_inputs middle upper pushed_group pushed node_at change_at new_plan is_weighted reads_both is_none not_decomposable too_wide group_number push_number refused_rewriting new_rewriting room_for rewrite_at rewrite_of same_numbers same_table areas_for same_run same_rewriting holds right depot-claims depot_examples fig_4_claims fig_2_claims published_examples
worked = tt
