-- A grouping is the runs of its sorted rows, and a distinct aggregate needs its rows in no order.
pub mod Orders
pub mod Keys
pub mod Runs
pub mod Grouped
pub mod Distinct
