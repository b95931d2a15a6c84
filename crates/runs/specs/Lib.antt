pub mod Leaves
pub mod Room
pub mod Answering
pub mod Finishing
pub mod Results
pub mod Roots
pub mod Outcomes
