pub mod Layout
pub mod Hashes
pub mod Parts
pub mod References
pub mod Tables
pub mod Selection
