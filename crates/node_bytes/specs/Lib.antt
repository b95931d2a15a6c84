pub mod Holding
pub mod Words
pub mod Rows
pub mod Widths
pub mod Nodes
pub mod Tags
pub mod Each
pub mod Steps
