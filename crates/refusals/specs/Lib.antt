pub mod Numbers
pub mod Sole
