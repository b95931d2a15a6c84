-- The worked depot and the published examples, computed from the definitions; `Widths` has what later crates ask of the definitions.
pub mod Claims
pub mod Depot
pub mod Published
pub mod Worked
pub mod Widths
