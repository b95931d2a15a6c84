-- The laws by which a table's tests answer, each at its way out.
use Rattle.tables.specs.Places.{width-other, too_many, no_rows, outside, cells_decide, cells-there, too_low, not_too_low, right_low, right_high, right_present, right-null, right-other, zero_bits}

pub ruleset table_tests = (width-other, too_many, no_rows, outside, cells_decide, cells-there)

pub ruleset cell_tests = (too_low, not_too_low, right_low, right_high, right_present, right-null, right-other, zero_bits)
