pub mod Below
pub mod Lines
pub mod Named
