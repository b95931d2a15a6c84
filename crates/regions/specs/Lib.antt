pub mod Keeping
pub mod Copying
pub mod Holding
pub mod Reading
pub mod Clearing
pub mod Rows
