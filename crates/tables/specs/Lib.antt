pub mod Lending
pub mod Places
pub mod Steps
