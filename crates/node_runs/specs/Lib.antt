pub mod Copies
pub mod Nodes
pub mod Inputs
pub mod Descending
pub mod Amounts
pub mod Joins
pub mod Groupings
pub mod Ways
