pub mod Integers
pub mod Same
