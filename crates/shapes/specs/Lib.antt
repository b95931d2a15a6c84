pub mod Shapes
pub mod Sizes
pub mod Scanning
pub mod Steps
