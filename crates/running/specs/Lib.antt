-- States is what the contracts say, Laws what a caller uses; the others lead from one to the other.
pub mod States
pub mod Names
pub mod Ascent
pub mod Values
pub mod Sizes
pub mod Rows
pub mod Steps
pub mod Laws
