pub mod Verdicts
pub mod Standing
pub mod Shaping
pub mod Describing
pub mod Joins
pub mod Groups
pub mod Answering
