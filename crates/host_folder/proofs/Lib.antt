pub mod Digits
pub mod Synced
