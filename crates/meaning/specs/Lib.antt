-- What a reader has to believe, in the order of reading.
pub mod Limits
pub mod Cells
pub mod Plans
pub mod Arrangement
pub mod Rules
pub mod Columns
pub mod Joining
pub mod Aggregating
pub mod Grouping
pub mod Meaning
pub mod Check
pub mod Running
pub mod Rewriting
pub mod Range
