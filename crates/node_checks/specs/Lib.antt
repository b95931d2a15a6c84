pub mod Columns
pub mod Weights
pub mod Steps
pub mod Tests
pub mod Told
pub mod Trees
pub mod Numbers
