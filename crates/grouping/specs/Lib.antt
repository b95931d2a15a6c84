pub mod Picking
pub mod Feeding
pub mod Sorted
pub mod Single
pub mod Writing
pub mod Ending
pub mod Grouping
pub mod Taking
