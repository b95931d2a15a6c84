-- `grouping::group_rows` sorts the rows and writes a row for each run: the grouping's rows.
use Rattle.grouping.specs.Grouping.{columns-inside, sort-room, sorted-room, group-done}
use Rattle.grouping.proofs.group_rows.Goals as goal

pub key_columns-requires : goal.key_columns-requires
key_columns-requires c = columns-inside c.requires

pub sort_rows-requires : goal.sort_rows-requires
sort_rows-requires c = rw c.key_columns.ensures (sort-room c.requires)

pub write_groups-requires : goal.write_groups-requires
write_groups-requires c = sorted-room c.requires (rw c.key_columns.ensures at c.sort_rows.ensures)

pub returns : goal.returns
returns c = group-done c.requires (rw c.key_columns.ensures at c.sort_rows.ensures) c.write_groups.ensures
