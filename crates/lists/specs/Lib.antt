pub mod Tests
pub mod Each
pub mod Equality
