-- The bounds of every node of a plan, over the caps of its leaves.
-- `Nodes` has the theorem over any caps, `Ranges` the one of the limits, and `Fits` what it means for a cell.
pub mod Integers
pub mod Sums
pub mod Widths
pub mod Joins
pub mod Keys
pub mod Amounts
pub mod Groups
pub mod Kept
pub mod JoinNodes
pub mod Bounds
pub mod Orders
pub mod Nodes
pub mod Tables
pub mod Ranges
pub mod Fits
