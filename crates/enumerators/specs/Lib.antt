pub mod Enumeration
pub mod Places
pub mod Runs
