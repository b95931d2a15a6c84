-- One plan has one byte string, and a string that no plan is read from is no plan's.
pub mod Items
pub mod Roots
pub mod Building
